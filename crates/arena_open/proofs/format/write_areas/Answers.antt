use Rattle.std.proofs.Common.{◌++◌, false, length, arith}
use Rattle.std.specs.Prelude.{is_ok}
use Rattle.std.proofs.lemmas.Result.{err_from_is_err_and}
use Rattle.cut_words.specs.WordBytes.{words_in}
use Rattle.arena_open.specs.Writes.{run_at}
use Rattle.arena_open.proofs.Written.{made_then, made_part}
use Rattle.arena_open.proofs.Runs.{map_run, log_run, backup_run, map_fits, log_fits, backup_fits, info_fits}
use Rattle.arena_open.proofs.format.write_areas.Goals as goal

pub write_area-requires-clause-inside : goal.write_area-requires-clause-inside
write_area-requires-clause-inside g c = map_fits c.args.at c.args.layout.now (length (g.W.WordSpace.words c.args.space.now).kept) c.requires.layout c.requires.inside

pub write_area-requires-2-clause-inside : goal.write_area-requires-2-clause-inside
write_area-requires-2-clause-inside g c =
    log_fits c.args.at c.args.layout.now (length (g.W.WordSpace.words c.write_area.new.space).kept) c.requires.layout (omega (arith, c.requires.inside, c.in_ok-write_area.ensures.count))

pub write_area-requires-2-clause-small : goal.write_area-requires-2-clause-small
write_area-requires-2-clause-small g c = omega (arith, c.requires.small, c.in_ok-write_area.ensures.count)

pub write_area-requires-2-clause-settled : goal.write_area-requires-2-clause-settled
write_area-requires-2-clause-settled g c = c.in_ok-write_area.ensures.settles

pub write_area-requires-3-clause-inside : goal.write_area-requires-3-clause-inside
write_area-requires-3-clause-inside g c =
    backup_fits c.args.at c.args.layout.now (words_in c.args.block.now.bytes) (length (g.W.WordSpace.words c.write_area-2.new.space).kept) c.requires.layout c.requires.block
    (omega (arith, c.requires.inside, c.in_ok-write_area.ensures.count, c.in_ok-write_area-2.ensures.count))

pub write_area-requires-3-clause-small : goal.write_area-requires-3-clause-small
write_area-requires-3-clause-small g c = omega (arith, c.requires.small, c.in_ok-write_area.ensures.count, c.in_ok-write_area-2.ensures.count)

pub write_area-requires-3-clause-settled : goal.write_area-requires-3-clause-settled
write_area-requires-3-clause-settled g c = c.in_ok-write_area-2.ensures.settles

pub write_area-requires-4-clause-inside : goal.write_area-requires-4-clause-inside
write_area-requires-4-clause-inside g c =
    info_fits c.args.at c.args.layout.now (words_in c.args.block.now.bytes) (length (g.W.WordSpace.words c.write_area-3.new.space).kept) c.requires.layout c.requires.block
    (omega (arith, c.requires.inside, c.in_ok-write_area.ensures.count, c.in_ok-write_area-2.ensures.count, c.in_ok-write_area-3.ensures.count))

pub write_area-requires-4-clause-small : goal.write_area-requires-4-clause-small
write_area-requires-4-clause-small g c =
    omega (arith, c.requires.small, c.in_ok-write_area.ensures.count, c.in_ok-write_area-2.ensures.count, c.in_ok-write_area-3.ensures.count)

pub write_area-requires-4-clause-settled : goal.write_area-requires-4-clause-settled
write_area-requires-4-clause-settled g c = c.in_ok-write_area-3.ensures.settles

pub returns-in_err-write_area-clause-made : goal.returns-in_err-write_area-clause-made
returns-in_err-write_area-clause-made g c =
    let p = err_from_is_err_and c.from_residual.result c.from_residual.ensures.1 in
    rw p.1 (made_part (g.W.WordSpace.words c.args.space.now) (g.W.WordSpace.words c.write_area.new.space) c.args.fuse.now c.write_area.new.fuse (map_run c.args.at c.args.layout.now) ((log_run c.args.at c.args.layout.now) ++ ((backup_run c.args.at c.args.layout.now (words_in c.args.block.now.bytes)) ++ (run_at c.args.at (words_in c.args.block.now.bytes)))) c.in_err-write_area.ensures.made)

pub returns-in_err-write_area-2-clause-made : goal.returns-in_err-write_area-2-clause-made
returns-in_err-write_area-2-clause-made g c =
    let r = c.from_residual-in_err-write_area-2 in
    let p = err_from_is_err_and c.from_residual-in_err-write_area-2.result c.from_residual-in_err-write_area-2.ensures.1 in
    rw p.1 (made_then (g.W.WordSpace.words c.args.space.now) (g.W.WordSpace.words c.write_area.new.space) (g.W.WordSpace.words c.write_area-2.new.space) c.args.fuse.now c.write_area.new.fuse c.write_area-2.new.fuse (map_run c.args.at c.args.layout.now) ((log_run c.args.at c.args.layout.now) ++ ((backup_run c.args.at c.args.layout.now (words_in c.args.block.now.bytes)) ++ (run_at c.args.at (words_in c.args.block.now.bytes)))) false c.in_ok-write_area.ensures.made
    (made_part (g.W.WordSpace.words c.write_area.new.space) (g.W.WordSpace.words c.write_area-2.new.space) c.write_area.new.fuse c.write_area-2.new.fuse (log_run c.args.at c.args.layout.now) ((backup_run c.args.at c.args.layout.now (words_in c.args.block.now.bytes)) ++ (run_at c.args.at (words_in c.args.block.now.bytes))) c.in_err-write_area-2.ensures.made))

pub returns-in_err-write_area-3-clause-made : goal.returns-in_err-write_area-3-clause-made
returns-in_err-write_area-3-clause-made g c =
    let p = err_from_is_err_and c.from_residual-in_err-write_area-3.result c.from_residual-in_err-write_area-3.ensures.1 in
    rw p.1 (made_then (g.W.WordSpace.words c.args.space.now) (g.W.WordSpace.words c.write_area.new.space) (g.W.WordSpace.words c.write_area-3.new.space) c.args.fuse.now c.write_area.new.fuse c.write_area-3.new.fuse (map_run c.args.at c.args.layout.now) ((log_run c.args.at c.args.layout.now) ++ ((backup_run c.args.at c.args.layout.now (words_in c.args.block.now.bytes)) ++ (run_at c.args.at (words_in c.args.block.now.bytes)))) false c.in_ok-write_area.ensures.made
    (made_then (g.W.WordSpace.words c.write_area.new.space) (g.W.WordSpace.words c.write_area-2.new.space) (g.W.WordSpace.words c.write_area-3.new.space) c.write_area.new.fuse c.write_area-2.new.fuse c.write_area-3.new.fuse (log_run c.args.at c.args.layout.now) ((backup_run c.args.at c.args.layout.now (words_in c.args.block.now.bytes)) ++ (run_at c.args.at (words_in c.args.block.now.bytes))) false c.in_ok-write_area-2.ensures.made
    (made_part (g.W.WordSpace.words c.write_area-2.new.space) (g.W.WordSpace.words c.write_area-3.new.space) c.write_area-2.new.fuse c.write_area-3.new.fuse (backup_run c.args.at c.args.layout.now (words_in c.args.block.now.bytes)) (run_at c.args.at (words_in c.args.block.now.bytes)) c.in_err-write_area-3.ensures.made)))

pub returns-clause-made : goal.returns-clause-made
returns-clause-made g c =
    made_then (g.W.WordSpace.words c.args.space.now) (g.W.WordSpace.words c.write_area.new.space) (g.W.WordSpace.words c.write_area-4.new.space) c.args.fuse.now c.write_area.new.fuse c.write_area-4.new.fuse (map_run c.args.at c.args.layout.now) ((log_run c.args.at c.args.layout.now) ++ ((backup_run c.args.at c.args.layout.now (words_in c.args.block.now.bytes)) ++ (run_at c.args.at (words_in c.args.block.now.bytes)))) (is_ok c.write_area-4.result) c.in_ok-write_area.ensures.made
    (made_then (g.W.WordSpace.words c.write_area.new.space) (g.W.WordSpace.words c.write_area-2.new.space) (g.W.WordSpace.words c.write_area-4.new.space) c.write_area.new.fuse c.write_area-2.new.fuse c.write_area-4.new.fuse (log_run c.args.at c.args.layout.now) ((backup_run c.args.at c.args.layout.now (words_in c.args.block.now.bytes)) ++ (run_at c.args.at (words_in c.args.block.now.bytes))) (is_ok c.write_area-4.result) c.in_ok-write_area-2.ensures.made
    (made_then (g.W.WordSpace.words c.write_area-2.new.space) (g.W.WordSpace.words c.write_area-3.new.space) (g.W.WordSpace.words c.write_area-4.new.space) c.write_area-2.new.fuse c.write_area-3.new.fuse c.write_area-4.new.fuse (backup_run c.args.at c.args.layout.now (words_in c.args.block.now.bytes)) (run_at c.args.at (words_in c.args.block.now.bytes)) (is_ok c.write_area-4.result) c.in_ok-write_area-3.ensures.made c.write_area-4.ensures.made))
