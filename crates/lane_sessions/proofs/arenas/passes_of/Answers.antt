use Rattle.std.proofs.Common.{◌≡◌, ◌<◌, ◌+◌, ℕ, [], ◌∷◌, ◌++◌, Option, Some, List, length, length-append, get_or, ap, ◌∙◌, sym, subst, arith}
use Rattle.lane_table.specs.declared.session_pass.Pass.{Pass}
use Rattle.lane_table.specs.declared.table.View.{View}
use Rattle.lane_pool.specs.Sets.{WhichLane}
use Rattle.lane_sessions.specs.Making.{IsPassOf}
use Rattle.lane_sessions.proofs.Laying.{new_pass, passes_push}
use Rattle.lane_sessions.proofs.arenas.passes_of.Goals as goal

pub loop-preserved : goal.loop-preserved
loop-preserved c =
    let i = c.loop.invariant in
    let a = c.args.arena.now in
    let k = c.loop.first.kit in
    let p = c.pass.ensures in
    let old = c.loop.passes.items in
    let t : Pass = c.pass.result in
    let items : c.push.new.self.items ≡ old ++ Some t ∷ [] = c.in_ok-push.ensures.items in
    let zero_is : k.number ≡ 0 = ap (λ (w : WhichLane). w.number) i.lane ∙ c.requires.first in
    let made : k.made ≡ c.loop.counter = ap (λ (w : WhichLane). w.made) i.lane in
    let new : IsPassOf (length old) a (Some t) = new_pass a k (length old) t zero_is (made ∙ sym i.count) p.of p.session p.new in
    let left = ap (λ (v : View). v.shape) p.left in
    let more : c.pass.new.self.kit.made ≡ c.loop.counter + 1 = p.made ∙ ap (λ (n : ℕ). n + 1) made in
    let table = p.lane.0 ∙ ap (λ (w : WhichLane). w.table) i.lane in
    let shape = left ∙ ap (λ (w : WhichLane). w.shape) i.lane in
    let number = p.lane.1 ∙ ap (λ (w : WhichLane). w.number) i.lane in
    record {
      count = let n = ap (λ (l : List (Option Pass)). length l) items in let m = length-append old (Some t ∷ []) in let o = i.count in omega (arith, n, m, o);
      passes = subst (λ l. (q : ℕ) (o : Option Pass) → q < length l → IsPassOf q a (get_or l q o)) (sym items) (passes_push a old (Some t) i.passes new);
      lane = λ j. record { table = table j; shape = shape j; number = number j; made = more j };
      free = ap (λ (v : View). v.held) p.left ∙ i.free;
    }
