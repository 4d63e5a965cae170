use Rattle.std.proofs.Common.{◌++◌, ◌∷◌, [], length, append_assoc, sym, ap, ◌∙◌}
use Rattle.lane_calls.specs.Sessions.{Know, Parts}
use Rattle.bio_queue.proofs.Dealing.{next_at}
use Rattle.block_service.proofs.Sessions.{all_at, rested_push}
use Rattle.block_service.proofs.ending.rest_all.Goals as goal

pub rested-requires : goal.rested-requires
rested-requires g c =
    let i = c.loop-session.invariant in
    let done = c.loop-session.yielded in
    let x = c.in-Some.session in
    let whole = ap (λ r. done ++ r) (sym c.in-Some.ensures.steps.0) ∙ i.rest in
    all_at (λ s. (parts : Parts) × Know c.args.sectors.now s.number parts s) c.args.sessions.items (length done) x c.requires (next_at done x c.next.new.self.rest.items c.args.sessions.items whole)

pub loop-session-preserved : goal.loop-session-preserved
loop-session-preserved g c =
    let i = c.loop-session.invariant in
    let done = c.loop-session.yielded in
    let x = c.in-Some.session in
    let rest = c.next.new.self.rest.items in
    let whole = ap (λ r. done ++ r) (sym c.in-Some.ensures.steps.0) ∙ i.rest in
    record {
      rested = rested_push c.args.sectors.now done rest c.args.sessions.items c.loop-session.resting.items c.push.new.self.items x c.rested.result whole c.in_ok-push.ensures.items i.rested c.rested.ensures;
      rest = append_assoc done (x ∷ []) rest ∙ whole;
    }
