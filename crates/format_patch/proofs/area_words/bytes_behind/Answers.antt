use Rattle.std.proofs.Common.{◌∙◌, ◌++◌, ◌/◌, ℕ, List, ap, arith}
use Rattle.cut_words.specs.WordBytes.{words_in}
use Rattle.arena_open.proofs.Bytes.{length_words}
use Rattle.format_patch.specs.Format.{words_behind}
use Rattle.format_patch.proofs.Behind.{more_bytes}
use Rattle.format_patch.proofs.Order.{behind_long}
use Rattle.format_patch.proofs.area_words.bytes_behind.Goals as goal

pub loop-i-preserved : goal.loop-i-preserved
loop-i-preserved c =
    let long = behind_long c.args.layout.now c.requires.layout (words_in c.args.block.now) (length_words c.args.block.now ∙ ap (λ (n : ℕ). n / 8) c.requires.block) in
    more_bytes (words_behind c.args.layout.now (words_in c.args.block.now)) c.loop-i.i c.word_behind-word.result c.loop-i.bytes.items c.extend_from_slice.new.self.items c.loop-i.invariant
    (omega (arith, long, c.requires.few, c.loop-i-test.true)) c.word_behind-word.ensures
    (c.in_ok-extend_from_slice.ensures.items ∙ ap (λ (bs : List ℕ). c.loop-i.bytes.items ++ bs) c.to_le_bytes.ensures)
