use Rattle.std.proofs.Common.{◌∙◌, sym, ap}
use Rattle.interleave.specs.Sets.{set_reading}
use Rattle.shell_set_check.proofs.Said.{region_said}
use Rattle.shell_set_check.proofs.objects.push_region.Goals as goal

pub returns : goal.returns
returns c =
    region_said c.push_reading.result c.args.number c.args.text.now.items c.push_reading.new.text.items c.interleave_set-reading.result (set_reading c.args._region.now)
    c.push_reading.ensures.text c.push_reading.ensures.finding (λ found. c.interleave_set-reading.ensures c.args._region.now found ∙ ap set_reading (sym (c.requires.region c.args._region.now)))
