-- The namespace that `rescue` reads, some of whose labels may be missing: this project's rules.
use Rattle.std.specs.Prelude.{ℕ, List, map, Result}
use Rattle.image_set.specs.Load.{ImageSet}
use Rattle.label_rescue.specs.declared.rescued.RescueFound.{RescueFound}
use Rattle.label_rescue.specs.Rescue.{rescued_of}
use Rattle.namespace_map.specs.declared.listed.Namespace.{Namespace}
use Rattle.namespace_map.specs.declared.refused.OpRefused.{OpRefused}
use Rattle.namespace_map.specs.Namespaces.{entries_of, namespace_of}
use Rattle.namespace_ops.specs.Opening.{sets_of}
use Rattle.shell_reports.specs.List.{labels_in_set}

-- the namespaces that the labels of all modules name
abbrev pub namespaces_in_set : ImageSet → List Namespace
namespaces_in_set loaded = map (λ e. namespace_of e 0) (entries_of (sets_of loaded.nfit) (labels_in_set loaded))

-- the namespace of a UUID, by the labels that are there
abbrev pub rescued_in : ImageSet → List ℕ → Result RescueFound OpRefused
rescued_in loaded uuid = rescued_of (sets_of loaded.nfit) (namespaces_in_set loaded) uuid
