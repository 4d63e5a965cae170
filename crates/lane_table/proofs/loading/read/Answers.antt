use Rattle.std.proofs.Common.{◌≡◌, true, sym, ap, ◌∙◌}
use Rattle.map_table.specs.Entry.{entry_in}
use Rattle.lane_core.specs.Areas.{has_bytes, kind_in}
use Rattle.lane_table.specs.Told.{called, looked_at}
use Rattle.lane_table.proofs.Loads.{block_found, block_answered, block_ended}
use Rattle.lane_table.proofs.loading.read.Goals as goal

pub returns-in-Block-clause-answers : goal.returns-in-Block-clause-answers
returns-in-Block-clause-answers g c =
    let me = c.args.seat.now.me in
    let t = c.args.call in
    let w = c.in-Some.word in
    let bytes : has_bytes (kind_in (entry_in w t.sector)) ≡ true = block_found _ _ c.in-Block.block (sym c.found_in.ensures ∙ c.in-Block.is) in
    let found : c.map_look.new.seat.me ≡ looked_at (kind_in (entry_in w t.sector)) w (called t me) = c.in-Some.ensures.looked ∙ ap (λ m. looked_at (kind_in (entry_in w m.0.lane.sector)) w m) c.read_begin.ensures.called in
    block_answered me c.read_block.new.seat.me c.map_look.new.fuse c.read_block.new.supplies.fuse c.args.into.now c.read_block.new.into t w c.map_look.new.seat.me c.read_block.result bytes found c.read_block.ensures.ends

pub returns-in-Block-clause-ends : goal.returns-in-Block-clause-ends
returns-in-Block-clause-ends g c =
    let me = c.args.seat.now.me in
    let t = c.args.call in
    let w = c.in-Some.word in
    let bytes : has_bytes (kind_in (entry_in w t.sector)) ≡ true = block_found _ _ c.in-Block.block (sym c.found_in.ensures ∙ c.in-Block.is) in
    let found : c.map_look.new.seat.me ≡ looked_at (kind_in (entry_in w t.sector)) w (called t me) = c.in-Some.ensures.looked ∙ ap (λ m. looked_at (kind_in (entry_in w m.0.lane.sector)) w m) c.read_begin.ensures.called in
    block_ended me c.read_block.new.seat.me c.args.supplies.now.fuse c.map_look.new.fuse c.read_block.new.supplies.fuse c.args.into.now c.read_block.new.into t w c.in-Some.ensures.made c.map_look.new.seat.me c.read_block.result bytes found c.read_block.ensures.ends
