use Rattle.std.proofs.Common.{◌∙◌, sym, ap}
use Rattle.namespace_map.specs.Changes.{area_summary}
use Rattle.namespace_areas.specs.Seen.{area_seen}
use Rattle.namespace_areas.proofs.Seen.{seen_free}
use Rattle.namespace_areas.proofs.modules.free_in.Goals as goal

pub returns-in-Ready : goal.returns-in-Ready
returns-in-Ready c = c.free_slots.ensures ∙ sym (seen_free c.in-Ready.area) ∙ sym (ap (λ a. (area_summary (area_seen a)).free) c.in-Ready.is)
