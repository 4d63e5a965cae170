use Rattle.std.proofs.Common.{[], ◌∷◌, ◌++◌, append_assoc, ap, ◌∙◌, sym}
use Rattle.lane_table.specs.Kits.{arena_id}
use Rattle.lane_sessions.proofs.Carrying.{carries_push, pass_at_seam}
use Rattle.lane_sessions.proofs.closing.carry_all.Goals as goal

pub carry-requires : goal.carry-requires
carry-requires c =
    let i = c.loop-pass.invariant in
    let steps = c.in-Some.ensures.steps.0 in
    record {
      arena = i.carries.same.table ∙ c.requires.arena;
      pass = pass_at_seam (arena_id c.args.arena.now) c.args.passes.items c.loop-pass.yielded _ c.in-Some.pass (ap (λ r. c.loop-pass.yielded ++ r) (sym steps) ∙ i.rest) c.requires.passes;
    }

pub loop-pass-preserved : goal.loop-pass-preserved
loop-pass-preserved c =
    let i = c.loop-pass.invariant in
    let steps = c.in-Some.ensures.steps.0 in
    record {
      rest = append_assoc c.loop-pass.yielded (c.in-Some.pass ∷ []) c.next.new.self.rest.items ∙ ap (λ r. c.loop-pass.yielded ++ r) (sym steps) ∙ i.rest;
      carries = carries_push c.loop-pass.yielded c.in-Some.pass _ _ _ i.carries c.carry.ensures;
    }
