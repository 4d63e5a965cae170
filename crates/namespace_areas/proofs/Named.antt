-- What a caller sees of the labels of one UUID.
use Rattle.std.proofs.Common.{◌≡◌, ℕ, List, [], ◌∷◌, Option, map, refl, ap}
use Rattle.std.specs.Option.{option_map}
use Rattle.nfit_reader.specs.declared.table.Mapping.{Mapping}
use Rattle.label_codec.specs.declared.mode.Mode.{Mode}
use Rattle.label_codec.specs.Mode.{mode_of}
use Rattle.label_set.specs.declared.placed.Placed.{Placed}
use Rattle.label_set.specs.declared.placed.SetStatus.{SetStatus}
use Rattle.region_space.specs.declared.extent.Extent.{Extent}
use Rattle.namespace_map.specs.Namespaces.{extent_of, part_of, region_of, shown_name, status_in}
use Rattle.namespace_areas.specs.GroupSeen.{namespace_with, number_in}

parts : (labels : List Placed) → map extent_of labels ≡ map (λ p. p.extent) (map part_of labels)
parts [] = refl
parts (p ∷ labels) = ap (λ (es : List Extent). extent_of p ∷ es) (parts labels)

pub made : (sets : List (List Mapping)) (labels : List Placed) (first : Placed) (name : List ℕ) (region : Option ℕ) (mode : Mode) (extents : List Extent) (status : SetStatus)
    → name ≡ shown_name status first → region ≡ option_map number_in (region_of sets first) → mode ≡ mode_of first.label.kind first.label.abstraction → extents ≡ map extent_of labels
    → status ≡ status_in (region_of sets first) labels first
    → record { uuid = first.label.uuid; name = name; region = region; mode = mode; lba = first.label.lba; extents = extents; status = status; claims = 0 } ≡ namespace_with sets labels first
unfolding namespace_with
made sets labels first name region mode extents status n r m e s = let p = parts labels in rw (n, r, m, e, p, s) refl
