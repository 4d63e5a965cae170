-- The layout that is planned for a namespace of sectors.
use Rattle.std.proofs.Common.{◌≡◌, ℕ, ◌*◌, ◌≤◌, Bool, true, false, List, [], ◌∷◌, length, Result, Ok, refl, sym, ◌∙◌, arith}
use Rattle.std.specs.Prelude.{is_err}
use Rattle.std.proofs.lemmas.Bool.{false≢true}
use Rattle.nvd_words.specs.Checks.{checked}
use Rattle.nfit_reader.specs.declared.table.Mapping.{Mapping}
use Rattle.arena_layout.specs.declared.layout.Layout.{Layout}
use Rattle.arena_layout.specs.declared.layout.LayoutFault.{LayoutFault}
use Rattle.arena_layout.specs.Layout.{IsLayout}
use Rattle.arena_layout.specs.Plan.{available_of, log_size, plan_of, planned, plan_checks, whole_size}
use Rattle.arena_layout.proofs.Planned.{planned_is}
use Rattle.namespace_map.specs.declared.commands.CreateSpec.{CreateSpec}
use Rattle.namespace_map.specs.declared.commands.Make.{Make}
use Rattle.namespace_map.specs.declared.commands.Make.TheVariants as make
use Rattle.namespace_map.specs.Commands.{has_no_plan, share_of}
use Rattle.sector_namespaces.specs.Creation.{CanLie, has_sectors, layout_for, layout_of}

pub checked_ok : {A F : Type 0} (v : A) (checks : List (F × Bool)) → is_err (checked v checks) ≡ false → checked v checks ≡ Ok v
unfolding checked
checked_ok v [] e = refl
checked_ok v ((f, true) ∷ checks) e = absurd (false≢true (sym e))
checked_ok v ((f, false) ∷ checks) e = checked_ok v checks e

pub planned_as : (size sector lanes : ℕ) (l : Layout) → ◌≡◌ {A = Result Layout LayoutFault} (Ok l) (planned size sector lanes) → planned size sector lanes ≡ Ok (plan_of size sector lanes) → l ≡ plan_of size sector lanes
planned_as size sector lanes l is good = same (is ∙ good)
  where
    same : ◌≡◌ {A = Result Layout LayoutFault} (Ok l) (Ok (plan_of size sector lanes)) → l ≡ plan_of size sector lanes
    same e = cc

plan_inside : (size sector lanes : ℕ) → IsLayout (plan_of size sector lanes) → (plan_of size sector lanes).size ≤ size
unfolding plan_of available_of whole_size log_size
plan_inside size sector lanes is = omega (arith, is.after_data, is.after_info, is.size_low, is.lanes_few)

layout_has : (size : ℕ) (m : Make) → has_sectors m ≡ true → has_no_plan m size ≡ false → IsLayout (layout_of size m) × ((layout_of size m).size ≤ size)
layout_has size make.Raw sectors good = absurd (false≢true sectors)
layout_has size (make.Sector sector lanes) sectors good =
    let plan : planned size sector lanes ≡ Ok (plan_of size sector lanes) = checked_ok (plan_of size sector lanes) (plan_checks size sector lanes) good in
    let layout : IsLayout (plan_of size sector lanes) = planned_is size sector lanes (Ok (plan_of size sector lanes)) (sym plan) in
    (layout, plan_inside size sector lanes layout)

pub layout_can : (set : List Mapping) (offset : ℕ) (spec : CreateSpec) → CanLie set offset spec → IsLayout (layout_for spec)
layout_can set offset spec can = (layout_has spec.size spec.make can.sectors can.planned).0

pub room_can : (set : List Mapping) (offset : ℕ) (spec : CreateSpec) → CanLie set offset spec → (layout_for spec).size ≤ length set * share_of set spec.size
room_can set offset spec can = let layout = layout_has spec.size spec.make can.sectors can.planned in rw can.shares layout.1
