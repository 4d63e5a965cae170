use Rattle.std.proofs.Common.{◌≡◌, sym, ap, ◌∙◌, subst}
use Rattle.std.specs.Prelude.{nat_le}
use Rattle.namespace_areas.specs.declared.area.Area.{Area}
use Rattle.namespace_map.specs.Areas.{free_in, slots_of}
use Rattle.namespace_areas.specs.Seen.{area_seen}
use Rattle.namespace_areas.proofs.Seen.{seen_free}
use Rattle.namespace_ops.proofs.settling.has_free_slot.Goals as goal

pub returns-in-Ready : goal.returns-in-Ready
returns-in-Ready c =
    subst (λ (a : Area). nat_le 1 c.free_slots.result ≡ nat_le 1 (free_in (slots_of (area_seen a)))) (sym c.in-Ready.is)
    (ap (nat_le 1) (c.free_slots.ensures ∙ sym (seen_free c.in-Ready.area)))
