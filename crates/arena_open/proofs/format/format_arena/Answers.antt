use Rattle.std.proofs.Common.{◌/◌, ◌∙◌, ℕ, ap}
use Rattle.std.specs.Prelude.{is_ok}
use Rattle.cut_words.specs.WordBytes.{words_in}
use Rattle.cut_words.proofs.Making.{makes_length}
use Rattle.arena_open.specs.Areas.{new_info}
use Rattle.arena_open.specs.Writes.{write_steps}
use Rattle.arena_open.specs.Format.{area_writes}
use Rattle.arena_open.proofs.Bytes.{length_words}
use Rattle.arena_open.proofs.Runs.{keeps_outside}
use Rattle.arena_open.proofs.Formatted.{spells_new, settles, opens}
use Rattle.arena_open.proofs.format.format_arena.Goals as goal

pub write_areas-requires-clause-block : goal.write_areas-requires-clause-block
write_areas-requires-clause-block g c = length_words c.info_block-block.result.bytes ∙ ap (λ (n : ℕ). n / 8) c.info_block-block.ensures.count

pub returns-clause-count : goal.returns-clause-count
returns-clause-count g c =
    makes_length (g.W.WordSpace.words c.args.space.now) (g.W.WordSpace.words c.write_areas.new.space) c.args.fuse.now c.write_areas.new.fuse
    (write_steps (area_writes c.args.at c.args.layout.now (words_in c.info_block-block.result.bytes))) (is_ok c.write_areas.result) c.write_areas.ensures.made

pub returns-clause-outside : goal.returns-clause-outside
returns-clause-outside g c =
    keeps_outside (g.W.WordSpace.words c.args.space.now) (g.W.WordSpace.words c.write_areas.new.space) c.args.fuse.now c.write_areas.new.fuse
    c.args.at c.args.layout.now (words_in c.info_block-block.result.bytes) (is_ok c.write_areas.result) c.requires.format.layout
    (length_words c.info_block-block.result.bytes ∙ ap (λ (n : ℕ). n / 8) c.info_block-block.ensures.count) c.requires.format.settled c.write_areas.ensures.made

pub returns-clause-settles : goal.returns-clause-settles
returns-clause-settles g c =
    settles c.write_areas.result (g.W.WordSpace.words c.args.space.now) (g.W.WordSpace.words c.write_areas.new.space) c.args.fuse.now c.write_areas.new.fuse
    c.args.at c.args.layout.now c.info_block-block.result.bytes c.args.uuid.now c.args.parent.now
    (spells_new c.info_block-block.result.bytes c.new_info.result (new_info c.args.layout.now c.args.uuid.now c.args.parent.now) c.info_block-block.ensures.spelling
    c.info_block-block.ensures.reads c.info_block-block.ensures.count c.info_block-block.ensures.fit c.new_info.ensures.info) c.requires.format.settled c.write_areas.ensures.made

pub returns-clause-opens : goal.returns-clause-opens
returns-clause-opens g c =
    opens c.write_areas.result (g.W.WordSpace.words c.args.space.now) (g.W.WordSpace.words c.write_areas.new.space) c.args.fuse.now c.write_areas.new.fuse
    c.args.at c.args.layout.now c.info_block-block.result.bytes c.args.uuid.now c.args.parent.now
    (spells_new c.info_block-block.result.bytes c.new_info.result (new_info c.args.layout.now c.args.uuid.now c.args.parent.now) c.info_block-block.ensures.spelling
    c.info_block-block.ensures.reads c.info_block-block.ensures.count c.info_block-block.ensures.fit c.new_info.ensures.info) c.requires.format.settled c.requires.format.layout c.requires.format.inside
    c.write_areas.ensures.made
