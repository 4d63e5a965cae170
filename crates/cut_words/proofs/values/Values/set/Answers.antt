use Rattle.std.proofs.Common.{◌≡◌, ◌<◌, vec_len, length, arith, sym, ap, ◌∙◌}
use Rattle.std.proofs.Math.ListN.{set}
use Rattle.cut_words.proofs.Reached.{set_reached, length_reached}
use Rattle.cut_words.proofs.values.Values.set.Goals as goal

pub returns : goal.returns
returns c =
    let len = c.reach.ensures.len in
    let within = c.self.invariant.0 in
    let all : length c.args.self.now ≡ c.self.inside.count =
    sym (ap length c.self.view_is) ∙ length_reached c.self.inside.front.items (vec_len c.self.inside.front) c.self.inside.count c.self.inside.front.ok.0 within in
    let inside : c.args.i < c.self.inside.count = omega (arith, c.requires, all) in
    set_reached c.self.inside.front.items c.reach.new.front.items c.args.i c.args.value c.self.inside.count (vec_len c.self.inside.front) (vec_len c.reach.new.front)
    c.reach.new.front.ok.0 c.reach.ensures.items (omega arith) (omega arith) (omega arith)
    ∙ ap (λ numbers. set numbers c.args.i c.args.value) c.self.view_is
