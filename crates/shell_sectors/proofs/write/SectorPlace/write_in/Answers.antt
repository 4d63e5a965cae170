use Rattle.std.proofs.Common.{◌∙◌, arith}
use Rattle.shell_reports.proofs.More.{if_more}
use Rattle.shell_sectors.proofs.Written.{writes_past}
use Rattle.shell_sectors.proofs.write.SectorPlace.write_in.Goals as goal

pub returns-in-Some : goal.returns-in-Some
returns-in-Some c = if_more _ _ c.write_at.result (λ answer writes outline uuid it. writes outline uuid c.args.sector it c.in-Some.ensures) c.write_at.ensures

pub returns-in_ok-range_answer-in-None : goal.returns-in_ok-range_answer-in-None
returns-in_ok-range_answer-in-None c = λ outline uuid it.
    writes_past uuid outline c.args.self it c.args.sector c.args.value c.without_set.result c.args.arenas.now c.sectors_of_all.result c.sectors_of_all.ensures.states
    (omega (arith, c.sectors_of_all.ensures.count, c.in-None.ensures)) c.without_set.ensures.saved (λ contents. c.without_set.ensures.same contents ∙ c.in_ok-range_answer-in-None.ensures)
