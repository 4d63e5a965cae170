use Rattle.std.proofs.Common.{◌≡◌, ◌%◌, drop, arith}
use Rattle.namespace_words.specs.Source.{words_by}
use Rattle.namespace_words.proofs.HeldArenas.{area_words}
use Rattle.shell_rescue.proofs.log.read_log.Goals as goal

pub returns-clause-told : goal.returns-clause-told
returns-clause-told g c = λ contents reveals.
    let whole : c.args.layout.now.flog_off % 8 ≡ 0 = omega (arith, c.requires.layout.flog_whole) in
    c.decode_log.ensures.told (drop c.args.at (words_by c.args.extent.now contents))
    (area_words (words_by c.args.extent.now contents) c.args.at c.args.layout.now.flog_off c.read_extent.new.into whole (c.in_ok-read_extent.ensures.words contents reveals (omega (arith, whole))))
