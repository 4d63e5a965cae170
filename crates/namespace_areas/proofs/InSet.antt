-- The refusal of a create, by the set of its region.
use Rattle.std.proofs.Common.{◌≡◌, ℕ, Bool, List, [], ◌∷◌, map, Option, Some, None, Result, Err, refl, sym, ap, ◌∙◌}
use Rattle.std.specs.Prelude.{slice_get, unwrap_or, is_some, is_none}
use Rattle.std.specs.Option.{option_map}
use Rattle.std.proofs.lemmas.Option.{none-some}
use Rattle.nvd_words.proofs.Checks.{fault_first, fault_next}
use Rattle.nvd_words.specs.Checks.{first_fault, fault_if, value_unless}
use Rattle.nfit_reader.specs.declared.table.Mapping.{Mapping}
use Rattle.label_set.specs.declared.placed.Placed.{Placed}
use Rattle.region_space.specs.declared.extent.Extent.{Extent}
use Rattle.namespace_map.specs.Namespaces.{entry_with, extent_of, extents_of, labels_with, lookup}
use Rattle.namespace_map.specs.declared.commands.Make.{Make}
use Rattle.namespace_map.specs.declared.commands.CreateSpec.{CreateSpec}
use Rattle.namespace_map.specs.declared.refused.OpRefused.{OpRefused}
use Rattle.namespace_map.specs.declared.refused.OpRefused.TheVariants.{BadSize, Exists, NoRegion, NoSpace}
use Rattle.namespace_map.specs.Changes.{placed_in_all}
use Rattle.namespace_map.specs.Commands.{bad_name, create_refusal, first_fit_of, is_bad_size, share_of}
use Rattle.namespace_areas.specs.declared.area.Area.{Area}
use Rattle.namespace_areas.specs.Seen.{areas_seen}
use Rattle.namespace_areas.proofs.Seen.{seen_labels}
use Rattle.namespace_areas.specs.Groups.{AreGrouped, Grouping, HasGroupsOf}
use Rattle.namespace_areas.proofs.Grouped.{entries_same}
use Rattle.namespace_areas.proofs.Extents.{all_extents}
use Rattle.namespace_areas.specs.Refusals.{AreOpen, creating, crowded_in, offset_for, offset_or, shown, unready_in}
use Rattle.namespace_areas.proofs.Changing.{entry_of_group}

module _ (sets : List (List Mapping)) (areas : List Area) (grouping : Grouping) (is_open : AreOpen areas grouping) (order : AreGrouped grouping.sorted) where
  all : HasGroupsOf grouping.sorted (placed_in_all (areas_seen areas))
  all u = is_open.groups u ∙ ap (labels_with u) (sym (seen_labels areas is_open.held))

  pub extents_are : extents_of (shown sets areas).entries ≡ map extent_of grouping.sorted
  extents_are = ap extents_of (sym (entries_same sets grouping.sorted (placed_in_all (areas_seen areas)) all)) ∙ all_extents sets grouping.sorted order

  there : (uuid : List ℕ) → is_some (lookup uuid (shown sets areas).entries) ≡ is_some (slice_get (labels_with uuid grouping.sorted) 0)
  there uuid = ap is_some (entry_of_group sets areas grouping is_open uuid) ∙ by (slice_get (labels_with uuid grouping.sorted) 0)
    where
      by : (o : Option Placed) → is_some (option_map (entry_with sets (labels_with uuid grouping.sorted)) o) ≡ is_some o
      by None = refl
      by (Some p) = refl

  -- what the definition says of a region that is there
  create_by : (name : Option OpRefused) (set : List Mapping) (size : ℕ) (made : Make) (exists taken : Bool) (extents : List Extent) → exists ≡ taken → extents ≡ map extent_of grouping.sorted
      → first_fault (name ∷ None ∷ unready_in areas set ∷ fault_if exists Exists ∷ fault_if (is_bad_size set size made) (BadSize size) ∷ crowded_in areas set
      ∷ fault_if (is_none (first_fit_of set extents (share_of set size))) (NoSpace (share_of set size)) ∷ []) ≡ first_fault (name ∷ creating set areas grouping.sorted taken size made)
  unfolding first_fault
  create_by None set size made exists taken extents e f = rw (e, f) refl
  create_by (Some f) set size made exists taken extents e g = refl

  refused_by : (name : Option OpRefused) (uuid : List ℕ) (region size : ℕ) (made : Make) (o : Option (List Mapping)) (set : List Mapping) (taken : Bool) → o ≡ Some set → is_some (slice_get (labels_with uuid grouping.sorted) 0) ≡ taken
      → first_fault (name ∷ fault_if (is_none o) (NoRegion region) ∷ unready_in areas (unwrap_or o []) ∷ fault_if (is_some (lookup uuid (shown sets areas).entries)) Exists
      ∷ fault_if (is_bad_size (unwrap_or o []) size made) (BadSize size) ∷ crowded_in areas (unwrap_or o [])
      ∷ fault_if (is_none (first_fit_of (unwrap_or o []) (extents_of (shown sets areas).entries) (share_of (unwrap_or o []) size))) (NoSpace (share_of (unwrap_or o []) size)) ∷ [])
      ≡ first_fault (name ∷ creating set areas grouping.sorted taken size made)
  refused_by name uuid region size made None set taken is known = absurd (none-some set is)
  refused_by name uuid region size made (Some s) set taken is known =
      create_by name s size made (is_some (lookup uuid (shown sets areas).entries)) taken (extents_of (shown sets areas).entries) (there uuid ∙ known) extents_are
      ∙ ap (λ (t : List Mapping). first_fault (name ∷ creating t areas grouping.sorted taken size made)) (let e = is in cc)

  -- where the region is there
  pub create_in : (spec : CreateSpec) (set : List Mapping) (taken : Bool) (r : Result ℕ OpRefused) → slice_get sets spec.region ≡ Some set
      → is_some (slice_get (labels_with spec.uuid grouping.sorted) 0) ≡ taken → bad_name spec.name ≡ None
      → r ≡ offset_or set grouping.sorted spec.size (first_fault (creating set areas grouping.sorted taken spec.size spec.make))
      → r ≡ value_unless (offset_for (shown sets areas) spec) (create_refusal (shown sets areas) spec)
  unfolding first_fault
  create_in spec set taken r here known good is =
      let size = spec.size in
      let made = spec.make in
      is
      ∙ ap (λ (es : List Extent). value_unless (unwrap_or (first_fit_of set es (share_of set size)) 0) (first_fault (creating set areas grouping.sorted taken size made))) (sym extents_are)
      ∙ ap (λ (s : List Mapping). value_unless (unwrap_or (first_fit_of s (extents_of (shown sets areas).entries) (share_of s size)) 0) (first_fault (creating set areas grouping.sorted taken size made))) (sym (ap (λ (o : Option (List Mapping)). unwrap_or o []) here))
      ∙ ap (λ (o : Option OpRefused). value_unless (offset_for (shown sets areas) spec) o)
      (sym (refused_by (bad_name spec.name) spec.uuid spec.region size made (slice_get sets spec.region) set taken here known ∙ ap (λ (o : Option OpRefused). first_fault (o ∷ creating set areas grouping.sorted taken size made)) good))

-- the name is bad
pub create_unnamed : (sets : List (List Mapping)) (areas : List Area) (spec : CreateSpec) (f : OpRefused) → bad_name spec.name ≡ Some f
    → Err f ≡ value_unless (offset_for (shown sets areas) spec) (create_refusal (shown sets areas) spec)
create_unnamed sets areas spec f is = fault_first (offset_for (shown sets areas) spec) (bad_name spec.name) f _ is

-- there is no such region
pub create_nowhere : (sets : List (List Mapping)) (areas : List Area) (spec : CreateSpec) → bad_name spec.name ≡ None → slice_get sets spec.region ≡ None
    → Err (NoRegion spec.region) ≡ value_unless (offset_for (shown sets areas) spec) (create_refusal (shown sets areas) spec)
create_nowhere sets areas spec good none =
    fault_next (offset_for (shown sets areas) spec) (bad_name spec.name) _ _ good
    (fault_first (offset_for (shown sets areas) spec) (fault_if (is_none (slice_get sets spec.region)) (NoRegion spec.region)) (NoRegion spec.region) _
    (ap (λ (o : Option (List Mapping)). fault_if (is_none o) (NoRegion spec.region)) none))
