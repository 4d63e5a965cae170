use Rattle.std.proofs.Common.{◌-◌, ◌∙◌, ℕ, sym, arith}
use Rattle.cut_words.specs.WordBytes.{words_in}
use Rattle.arena_open.specs.Format.{log_count, map_count}
use Rattle.arena_open.proofs.Bytes.{length_words}
use Rattle.format_patch.proofs.Behind.{in_block, in_log, in_map, read_block}
use Rattle.format_patch.proofs.area_words.word_behind.Goals as goal

pub returns-then-i-map : goal.returns-then-i-map
returns-then-i-map c = c.map_word.ensures ∙ sym (in_map c.args.layout.now (words_in c.args.block.now) c.args.i (omega arith))

pub returns-then-i-map-2 : goal.returns-then-i-map-2
returns-then-i-map-2 c = c.log_word.ensures ∙ sym (in_log c.args.layout.now (words_in c.args.block.now) c.args.i (omega arith) (omega arith))

pub returns-else-i-map-2 : goal.returns-else-i-map-2
returns-else-i-map-2 c =
    let l = c.args.layout.now in
    let k : ℕ = c.args.i - map_count c.args.layout.now - log_count c.args.layout.now in
    read_block c.args.block.now c.word_at.result (c.args.i - map_count l - log_count l) (omega (arith, length_words c.args.block.now, c.requires.block, c.requires.inside)) c.word_at.ensures
    ∙ sym (in_block c.args.layout.now (words_in c.args.block.now) c.args.i (omega arith))
