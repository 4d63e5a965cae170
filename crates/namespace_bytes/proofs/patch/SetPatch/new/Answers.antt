use Rattle.std.proofs.Common.{List, subst}
use Rattle.std.specs.List.{All}
use Rattle.nfit_reader.specs.declared.table.Mapping.{Mapping}
use Rattle.namespace_bytes.specs.declared.patch.NamespacePatch.{NamespacePatch}
use Rattle.namespace_bytes.specs.Patching.{IsLaidPart}
use Rattle.namespace_bytes.proofs.Parts.{patched_each}
use Rattle.namespace_bytes.proofs.patch.SetPatch.new.Goals as goal

pub returns-clause-patched : goal.returns-clause-patched
returns-clause-patched c =
    patched_each c.args.sets c.args.parts
    (subst (λ (sets : List (List Mapping)). All (IsLaidPart sets) c.args.parts) c.as_slice.ensures
    (subst (λ (parts : List NamespacePatch). All (IsLaidPart c.as_slice.result.now) parts) c.as_slice-2.ensures c.lie_in.ensures))
