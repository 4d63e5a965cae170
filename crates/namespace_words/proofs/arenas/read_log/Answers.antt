use Rattle.std.proofs.Common.{◌≡◌, ◌%◌, drop, arith}
use Rattle.namespace_words.specs.Source.{words_by}
use Rattle.namespace_words.proofs.HeldArenas.{area_words, groups_in_range, groups_of_log}
use Rattle.namespace_words.proofs.arenas.read_log.Goals as goal

pub returns-clause-told : goal.returns-clause-told
returns-clause-told g c = λ contents reveals.
    let whole : c.args.layout.now.flog_off % 8 ≡ 0 = omega (arith, c.requires.layout.flog_whole) in
    c.groups_of.ensures.told (drop c.args.at (words_by c.args.extent.now contents))
    (area_words (words_by c.args.extent.now contents) c.args.at c.args.layout.now.flog_off c.read_extent.new.into whole (c.in_ok-read_extent.ensures.words contents reveals (omega (arith, whole))))

pub returns-clause-in_range : goal.returns-clause-in_range
returns-clause-in_range g c = groups_in_range c.args.layout.now c.read_extent.new.into c.groups_of.result c.requires.layout c.groups_of.ensures.told

pub returns-clause-lanes : goal.returns-clause-lanes
returns-clause-lanes g c = groups_of_log c.args.layout.now c.read_extent.new.into c.groups_of.result c.groups_of.ensures.told
