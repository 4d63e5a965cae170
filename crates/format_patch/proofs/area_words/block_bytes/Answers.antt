use Rattle.std.proofs.Common.{◌∙◌, ◌++◌, ℕ, List, ap, arith}
use Rattle.cut_words.specs.WordBytes.{words_in}
use Rattle.arena_open.proofs.Bytes.{length_words}
use Rattle.format_patch.proofs.Behind.{more_bytes, read_block}
use Rattle.format_patch.proofs.area_words.block_bytes.Goals as goal

pub loop-i-preserved : goal.loop-i-preserved
loop-i-preserved c =
    let long = length_words c.args.block.now in
    more_bytes (words_in c.args.block.now) c.loop-i.i c.word_at-word.result c.loop-i.bytes.items c.extend_from_slice.new.self.items c.loop-i.invariant
    (omega (arith, long, c.requires.block, c.requires.few, c.loop-i-test.true))
    (read_block c.args.block.now c.word_at-word.result c.loop-i.i (omega (arith, long, c.requires.block, c.requires.few, c.loop-i-test.true)) c.word_at-word.ensures)
    (c.in_ok-extend_from_slice.ensures.items ∙ ap (λ (bs : List ℕ). c.loop-i.bytes.items ++ bs) c.to_le_bytes.ensures)
