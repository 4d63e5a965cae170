use Rattle.std.proofs.Common.{◌≡◌, ℕ, ◌+◌, ◌<◌, List, length, take, get_or, sym, ap, ◌∙◌, subst, arith, false}
use Rattle.std.proofs.lemmas.List.{get_or_read}
use Rattle.cut_words.specs.Leaving.{LeavesFrom}
use Rattle.lane_core.specs.Rows.{RowWords, words_in}
use Rattle.lane_core.proofs.Leaves.{leaving_more, leaving_all}
use Rattle.lane_core.proofs.row.Row.leave.Goals as goal

pub loop-i-preserved : goal.loop-i-preserved
loop-i-preserved g c =
    let row = c.args.self in
    let flags : c.self.inside.pending ≡ row.pending = ap (λ (r : RowWords). r.pending) c.self.view_is in
    let count : c.len-count.result ≡ length row.pending = c.len-count.ensures ∙ ap length flags in
    let inside : c.loop-i.i < length row.pending = omega (arith, c.loop-i-test.true, count) in
    let kept : c.index-kept.result.now ≡ get_or c.loop-i.words.items (length row.pending + c.loop-i.i) 0 =
    get_or_read c.loop-i.words.items (c.len-count.result + c.loop-i.i) c.index-kept.result.now (omega (arith, c.loop-i.invariant.enough, count, inside)) c.index-kept.ensures 0
    ∙ ap (λ n. get_or c.loop-i.words.items (n + c.loop-i.i) 0) count in
    let seen : c.index.result.now ≡ get_or c.loop-i.words.items c.loop-i.i 0 =
    get_or_read c.loop-i.words.items c.loop-i.i c.index.result.now (omega (arith, c.loop-i.invariant.enough, inside)) c.index.ensures 0 in
    let flag = c.get.ensures ∙ ap (λ fs. get_or fs c.loop-i.i false) flags in
    leaving_more g.C.Chooser.picks row c.loop-i.words.items c.loop-i.i c.leave_one.result c.index-kept.result.now c.index.result.now c.get.result c.args.choose.now c.loop-i.choose c.leave_one.new.choose
    c.requires.size inside kept seen flag c.leave_one.ensures c.loop-i.invariant

pub returns : goal.returns
returns g c =
    let row = c.args.self in
    let count : c.len-count.result ≡ length row.pending = c.len-count.ensures ∙ ap (λ (r : RowWords). length r.pending) c.self.view_is in
    let all : c.loop-i.i ≡ length row.pending = omega (arith, c.loop-i-test.false, c.loop-i.auto.i-end, count) in
    record {
      asked = subst (λ (left : List ℕ). LeavesFrom g.C.Chooser.picks 0 (words_in row).kept (words_in row).stored left c.args.choose.now c.loop-i.choose)
          (ap (λ n. take n c.loop-i.words.items) (sym count) ∙ sym c.truncate.ensures.items)
          (leaving_all g.C.Chooser.picks row c.loop-i.words.items c.loop-i.i c.args.choose.now c.loop-i.choose c.requires.size all c.loop-i.invariant);
    }
