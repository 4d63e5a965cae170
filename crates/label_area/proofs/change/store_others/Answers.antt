use Rattle.std.proofs.Common.{◌+◌, ◌-◌, ℕ, List, length, take, drop, subst, arith}
use Rattle.std.specs.Prelude.{is_ok}
use Rattle.std.proofs.lemmas.List.{take_rest, length-take}
use Rattle.cut_words.specs.Fuses.{Makes}
use Rattle.cut_words.specs.Runs.{stores_from}
use Rattle.cut_words.proofs.Making.{makes_both}
use Rattle.label_area.proofs.Pending.{fewer, two_leave}
use Rattle.label_area.proofs.change.store_others.Goals as goal

pub returns-clause-made : goal.returns-clause-made
returns-clause-made g c =
    makes_both (g.W.WordSpace.words c.args.words.now) (g.W.WordSpace.words c.store_from.new.words) (g.W.WordSpace.words c.store_from-2.new.words) c.args.fuse.now c.store_from.new.fuse c.store_from-2.new.fuse
    (stores_from c.args.base (take 2 c.args.block.now)) (stores_from (c.args.base + 3) (drop 3 c.args.block.now)) (is_ok c.store_from-2.result) c.in_ok-store_from.ensures.made
    (subst (λ (vs : List ℕ). Makes (g.W.WordSpace.words c.store_from.new.words) (g.W.WordSpace.words c.store_from-2.new.words) c.store_from.new.fuse c.store_from-2.new.fuse (stores_from (c.args.base + 3) vs) (is_ok c.store_from-2.result))
    (take_rest c.args.block.now 3) c.store_from-2.ensures.made)

pub store_from-requires-2-clause-settled : goal.store_from-requires-2-clause-settled
store_from-requires-2-clause-settled g c =
    let rest = length-take (length c.args.block.now - 3) (drop 3 c.args.block.now) in
    two_leave (g.W.WordSpace.words c.args.words.now) (g.W.WordSpace.words c.store_from.new.words) c.args.fuse.now c.store_from.new.fuse c.args.base c.args.block.now
    (length (take (length c.args.block.now - 3) (drop 3 c.args.block.now))) c.in_ok-store_from.ensures.made
    (fewer (g.W.WordSpace.words c.args.words.now) c.args.base (length c.args.block.now) (c.args.base + 3) (length (take (length c.args.block.now - 3) (drop 3 c.args.block.now)))
    c.requires.settled (omega arith) (omega (arith, rest, c.requires.enough)))
