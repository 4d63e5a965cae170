use Rattle.std.proofs.Common.{◌<◌, ◌≤◌, arith, ap, length}
use Rattle.cut_words.specs.Words.{Words}
use Rattle.cut_words.proofs.Left.{asked_none, left_one, asked_more, asked_all, stored_sized}
use Rattle.cut_words.proofs.ByWord.{is_left}
use Rattle.cut_words.proofs.words.CutWords.leave.Goals as goal

pub loop-i-init : goal.loop-i-init
loop-i-init g c = asked_none g.C.Chooser.picks c.args.self c.self.inside.kept.items c.args.choose.now (ap (λ (w : Words). w.kept) c.self.view_is)

pub loop-i-preserved : goal.loop-i-preserved
loop-i-preserved g c =
    let inside : c.loop-i.i < length c.args.self.kept =
    omega (arith, c.loop-i-test.true, c.len-i-end.ensures, c.self.inside.kept.ok.0, ap (λ (w : Words). length w.kept) c.self.view_is) in
    asked_more g.C.Chooser.picks c.args.self c.loop-i.kept.items c.loop-i.i c.leave_one.result c.args.choose.now c.loop-i.choose c.leave_one.new.choose
    (stored_sized c.self.inside.kept.items c.self.inside.pending c.self.inside.stored c.args.self c.self.view_is c.self.invariant.0 c.self.invariant.1) inside
    (left_one g.C.Chooser.picks c.self.inside.kept.items c.loop-i.kept.items c.self.inside.pending c.self.inside.stored c.args.self c.loop-i.i c.index.result.now c.get.result
    c.get-in-loop-i.result c.leave_one.result c.loop-i.choose c.leave_one.new.choose c.self.view_is c.self.invariant.0 c.self.invariant.1 inside c.loop-i.invariant.sized c.loop-i.invariant.untouched
    c.index.ensures c.get.ensures c.get-in-loop-i.ensures c.leave_one.ensures)
    c.loop-i.invariant

pub returns-clause-asked : goal.returns-clause-asked
returns-clause-asked g c =
    let all : length c.loop-i.kept.items ≤ c.loop-i.i =
    omega (arith, c.loop-i-test.false, c.len-i-end.ensures, c.self.inside.kept.ok.0, ap (λ (w : Words). length w.kept) c.self.view_is, c.loop-i.invariant.sized) in
    asked_all g.C.Chooser.picks c.args.self c.loop-i.kept.items c.loop-i.i c.args.choose.now c.loop-i.choose all c.loop-i.invariant

pub returns-clause-left : goal.returns-clause-left
returns-clause-left g c =
    let all : length c.loop-i.kept.items ≤ c.loop-i.i =
    omega (arith, c.loop-i-test.false, c.len-i-end.ensures, c.self.inside.kept.ok.0, ap (λ (w : Words). length w.kept) c.self.view_is, c.loop-i.invariant.sized) in
    is_left g.C.Chooser.picks c.args.self c.loop-i.kept.items c.args.choose.now c.loop-i.choose
    (stored_sized c.self.inside.kept.items c.self.inside.pending c.self.inside.stored c.args.self c.self.view_is c.self.invariant.0 c.self.invariant.1)
    (asked_all g.C.Chooser.picks c.args.self c.loop-i.kept.items c.loop-i.i c.args.choose.now c.loop-i.choose all c.loop-i.invariant)
