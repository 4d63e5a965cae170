use Rattle.std.proofs.Common.{◌≡◌, ◌≤◌, [], map, ap, ◌∙◌, sym, subst, arith}
use Rattle.std.specs.Prelude.{All}
use Rattle.lane_core.specs.declared.shape.Shape.{Shape}
use Rattle.lane_table.specs.declared.lanes.Lane.{Lane}
use Rattle.lane_table.specs.declared.lanes.LaneEnd.TheVariants.{Idle}
use Rattle.lane_table.specs.Kits.{held_in}
use Rattle.lane_sessions.specs.Making.{IsEndOf}
use Rattle.lane_sessions.specs.Rows.{Along}
use Rattle.lane_sessions.proofs.Laying.{are_aside, count_lanes, first_lane, made_lanes, new_lanes, set_ends, set_free, some_lanes}
use Rattle.lane_sessions.proofs.arenas.make_column.Goals as goal

pub passes_by-requires-clause-some : goal.passes_by-requires-clause-some
passes_by-requires-clause-some c = let o = c.in_ok-arena.ensures in some_lanes c.in_ok-arena.arena c.in_ok-arena.lanes.items o.lanes o.own o.free

pub passes_by-requires-clause-first : goal.passes_by-requires-clause-first
passes_by-requires-clause-first c = let o = c.in_ok-arena.ensures in first_lane c.in_ok-arena.arena c.in_ok-arena.lanes.items o.lanes o.own o.free

pub split_off-requires : goal.split_off-requires
split_off-requires c =
    let o = c.in_ok-arena.ensures in
    let a = c.in_ok-arena.arena in
    let n = count_lanes a c.in_ok-arena.lanes.items o.lanes o.own o.free in
    let x = ap (λ (s : Shape). s.lanes) o.arena.shape in
    let same = c.passes_by.ensures.same in
    let many = c.passes_by.new.lanes.ok.0 in
    let few = c.requires.sets in
    omega (arith, n, x, same, many, few)

pub ready_ends-requires : goal.ready_ends-requires
ready_ends-requires c =
    let o = c.in_ok-arena.ensures in
    let a = c.in_ok-arena.arena in
    let old = c.in_ok-arena.lanes.items in
    let lanes = c.passes_by.new.lanes.items in
    let p = c.in_ok-passes.ensures in
    let n = count_lanes a old o.lanes o.own o.free in
    let x = ap (λ (s : Shape). s.lanes) o.arena.shape in
    let few : c.args.plan.sets ≤ a.shape.lanes = let f = c.requires.sets in omega (arith, x, f) in
    let are = made_lanes c.args.plan.sessions a old lanes (some_lanes a old o.lanes o.own o.free) p.same (new_lanes a old o.lanes o.own o.free) p.first p.others in
    record { free = subst (λ l. All (λ (x : Lane). held_in x.kit ≡ []) l) (sym c.in_ok-others.ensures.items) (set_free c.args.plan a lanes (p.same ∙ n) few are) }

pub returns : goal.returns
returns c =
    let o = c.in_ok-arena.ensures in
    let a = c.in_ok-arena.arena in
    let old = c.in_ok-arena.lanes.items in
    let lanes = c.passes_by.new.lanes.items in
    let p = c.in_ok-passes.ensures in
    let s = c.in_ok-others.ensures in
    let n = count_lanes a old o.lanes o.own o.free in
    let x = ap (λ (s : Shape). s.lanes) o.arena.shape in
    let few : c.args.plan.sets ≤ a.shape.lanes = let f = c.requires.sets in omega (arith, x, f) in
    let are = made_lanes c.args.plan.sessions a old lanes (some_lanes a old o.lanes o.own o.free) p.same (new_lanes a old o.lanes o.own o.free) p.first p.others in
    let along = subst (λ l. Along (IsEndOf c.args.plan.calls) l c.in_ok-ends.ends.items) s.items c.in_ok-ends.ensures in
    record {
      made = o.arena;
      sets = let m = c.in_ok-ends.ensures.count in let k = s.len in let q = c.split_off.new.self.ok.0 in omega (arith, m, k, q);
      ends = set_ends c.args.plan a lanes (p.same ∙ n) few are c.in_ok-ends.ends.items along;
      aside = are_aside c.args.plan a lanes (p.same ∙ n) few are c.in_ok-aside.aside (c.in_ok-aside.ensures ∙ ap (map (λ x. Idle x)) s.tail);
      sessions = p.count;
      passes = p.passes;
    }
