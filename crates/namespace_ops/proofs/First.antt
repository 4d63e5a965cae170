-- A delete or rename of a pending namespace of several labels: it is settled first.
use Rattle.std.proofs.Common.{◌≡◌, ℕ, Bool, true, false, List, Option, None, refl, sym, ap, ◌∙◌, subst}
use Rattle.nfit_reader.specs.declared.table.Mapping.{Mapping}
use Rattle.namespace_areas.specs.declared.area.Area.{Area}
use Rattle.namespace_map.specs.declared.commands.Command.TheVariants as command
use Rattle.namespace_map.specs.declared.commands.Named.{Named}
use Rattle.namespace_map.specs.Areas.{Area as SeenArea, Change, all_changed}
use Rattle.namespace_map.specs.Changes.{namespaces_of, then_on}
use Rattle.namespace_map.specs.Commands.{delete_refusal, refusal_of, rename_refusal}
use Rattle.namespace_map.specs.Left.{AreRegions}
use Rattle.namespace_laws.proofs.First.{delete_still_allowed, rename_still_allowed}
use Rattle.namespace_areas.specs.Refusals.{shown}
use Rattle.namespace_areas.specs.Seen.{areas_seen}
use Rattle.namespace_areas.specs.Went.{Went}
use Rattle.namespace_areas.proofs.Seen.{seen_read}
use Rattle.namespace_areas.proofs.Went.{went_both, went_cut}
use Rattle.namespace_ops.specs.Carried.{first_round}

module _ (sets : List (List Mapping)) (old : List Area) (uuid : List ℕ) where
  abbrev first : List Change
  first = first_round sets (areas_seen old) uuid

  -- power was cut while it was settled
  pub first_cut : (new : List Area) (fuse left : Option ℕ) (next : List (Option SeenArea) → List Change) → Went old new fuse left first false → Went old new fuse left (then_on (areas_seen old) first next) false
  first_cut new fuse left next went = went_cut old new fuse left first (next (all_changed (areas_seen old) first)) went

  -- or the command's own changes came after
  pub first_then : (mid new : List Area) (fuse left last : Option ℕ) (next : List (Option SeenArea) → List Change) (whole : Bool) → Went old mid fuse left first true → Went mid new left last (next (areas_seen mid)) whole
      → Went old new fuse last (then_on (areas_seen old) first next) whole
  first_then mid new fuse left last next whole before after =
      went_both old mid new fuse left last first (next (all_changed (areas_seen old) first)) whole before
      (subst (λ (areas : List (Option SeenArea)). Went mid new left last (next areas) whole) (before.done refl) after)

  -- the command isn't refused then either
  pub delete_allowed : (mid : List Area) (fuse left : Option ℕ) → AreRegions sets → Went old mid fuse left first true → None ≡ delete_refusal (shown sets old) uuid → None ≡ delete_refusal (shown sets mid) uuid
  delete_allowed mid fuse left regions before good =
      sym (ap (λ (areas : List (Option SeenArea)). refusal_of (namespaces_of sets areas) (command.Delete uuid)) (before.done refl) ∙ delete_still_allowed sets (areas_seen old) uuid regions (seen_read old) (sym good))

  pub rename_allowed : (mid : List Area) (fuse left : Option ℕ) (name : Named) → AreRegions sets → Went old mid fuse left first true → None ≡ rename_refusal (shown sets old) uuid name → None ≡ rename_refusal (shown sets mid) uuid name
  rename_allowed mid fuse left name regions before good =
      sym (ap (λ (areas : List (Option SeenArea)). refusal_of (namespaces_of sets areas) (command.Rename uuid name)) (before.done refl)
      ∙ rename_still_allowed sets (areas_seen old) uuid name regions (seen_read old) (sym good))
