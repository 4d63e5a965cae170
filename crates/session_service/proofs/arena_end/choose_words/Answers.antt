use Rattle.std.proofs.Common.{◌<◌, ◌≤◌, arith, length, refl}
use Rattle.cut_words.proofs.ByWord.{is_left}
use Rattle.cut_words.proofs.Left.{asked_all, asked_more, asked_none}
use Rattle.session_service.specs.Ends.{two_valued}
use Rattle.session_service.proofs.Ends.{chosen_at, differing_length}
use Rattle.session_service.proofs.arena_end.choose_words.Goals as goal

pub loop-i-init : goal.loop-i-init
loop-i-init g c = asked_none g.C.Chooser.picks (two_valued c.args.kept.items c.args.seen.now) c.args.kept.items c.args.choose.now refl

pub loop-i-preserved : goal.loop-i-preserved
loop-i-preserved g c =
    let kept = c.args.kept.items in
    let seen = c.args.seen.now in
    let inside : c.loop-i.i < length c.args.kept.items = omega (arith, c.loop-i-test.true, c.len-i-end.ensures, c.args.kept.ok.0) in
    asked_more g.C.Chooser.picks (two_valued kept seen) c.loop-i.left.items c.loop-i.i c.choose_one.result c.args.choose.now c.loop-i.choose c.choose_one.new.choose (differing_length kept seen c.requires.same_length) inside
    (chosen_at g.C.Chooser.picks kept seen c.loop-i.left.items c.loop-i.i c.index.result.now _ c.choose_one.result c.loop-i.choose c.choose_one.new.choose c.requires.same_length inside
    c.loop-i.invariant.sized c.loop-i.invariant.untouched c.index.ensures refl c.choose_one.ensures) c.loop-i.invariant

pub returns-clause-asked : goal.returns-clause-asked
returns-clause-asked g c =
    let all : length c.loop-i.left.items ≤ c.loop-i.i = omega (arith, c.loop-i-test.false, c.len-i-end.ensures, c.args.kept.ok.0, c.loop-i.invariant.sized) in
    asked_all g.C.Chooser.picks (two_valued c.args.kept.items c.args.seen.now) c.loop-i.left.items c.loop-i.i c.args.choose.now c.loop-i.choose all c.loop-i.invariant

pub returns-clause-left : goal.returns-clause-left
returns-clause-left g c =
    let view = two_valued c.args.kept.items c.args.seen.now in
    let all : length c.loop-i.left.items ≤ c.loop-i.i = omega (arith, c.loop-i-test.false, c.len-i-end.ensures, c.args.kept.ok.0, c.loop-i.invariant.sized) in
    is_left g.C.Chooser.picks view c.loop-i.left.items c.args.choose.now c.loop-i.choose (differing_length c.args.kept.items c.args.seen.now c.requires.same_length)
    (asked_all g.C.Chooser.picks view c.loop-i.left.items c.loop-i.i c.args.choose.now c.loop-i.choose all c.loop-i.invariant)
