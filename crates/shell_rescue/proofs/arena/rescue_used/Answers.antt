use Rattle.shell_check.proofs.Lanes.{ok_is}
use Rattle.shell_rescue.specs.Reading.{AreRead}
use Rattle.shell_rescue.proofs.arena.rescue_used.Goals as goal

pub returns-in-Ok-clause-told : goal.returns-in-Ok-clause-told
returns-in-Ok-clause-told g c = λ contents reveals words is.
    let bad = g.B.BadWords.bad c.args.bad.now in
    c.found_of.ensures.told bad words
    (ok_is (AreRead c.args.at bad words c.args.info.now.layout) c.in_ok-read.field-0 c.in-Ok.read c.in-Ok.is (c.in_ok-read.ensures.told contents reveals words is))
