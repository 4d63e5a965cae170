use Rattle.std.proofs.Common.{◌∙◌, sym, ap, arith}
use Rattle.namespace_map.specs.Namespaces.{AreaSummary}
use Rattle.namespace_areas.specs.declared.area.Area.{Area}
use Rattle.namespace_map.specs.Changes.{area_summary}
use Rattle.namespace_areas.specs.Seen.{area_seen}
use Rattle.namespace_areas.proofs.Room.{state_inside, state_outside}
use Rattle.namespace_areas.proofs.modules.free_slots.Goals as goal

pub returns-then-place-areas : goal.returns-then-place-areas
returns-then-place-areas c = c.free_in.ensures ∙ ap (λ (a : Area). (area_summary (area_seen a)).free) c.index-areas-place.is ∙ sym (ap (λ (s : AreaSummary). s.free) (state_inside c.args.areas.now c.args.«module» _ c.if-place-areas.true))

pub returns-else-place-areas : goal.returns-else-place-areas
returns-else-place-areas c = sym (ap (λ (s : AreaSummary). s.free) (state_outside c.args.areas.now c.args.«module» (omega (arith, c.if-place-areas.false))))
