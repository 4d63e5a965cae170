use Rattle.std.proofs.Common.{ℕ, length, map, sym, ap, ◌∙◌, subst}
use Rattle.std.proofs.lemmas.List.{length-map}
use Rattle.std.specs.Prelude.{All}
use Rattle.turn_lock.specs.Passes.{HasEach, IsOutside, callers_of, first_of, lock_id}
use Rattle.lane_pool.specs.Parts.{IsClosed, NoneOut}
use Rattle.lane_sessions.specs.Ending.{AreAllIn, AreArenasLeft}
use Rattle.lane_sessions.proofs.Handing.{all_in, all_outside, each_once, none_out, off_by}
use Rattle.lane_sessions.proofs.LastArena.{opened_of}
use Rattle.lane_sessions.proofs.ending.close_sectors.Goals as goal

pub close-requires : goal.close-requires
close-requires c =
    let k = c.requires.known in
    let is = sym c.in_ok-handed.ensures.turns in
    record {
      passes = subst (λ ps. All (λ p. IsOutside (lock_id c.args.sectors.pool.turn) p) ps) is (all_outside c.args.sectors c.args.sessions.items k.0 k.1);
      every = subst (λ ps. HasEach (callers_of c.args.sectors.pool.turn) ps) is (each_once c.args.sectors c.args.sessions.items k.0 k.1 c.requires.every);
      none = subst (λ ps. NoneOut ps) is (none_out c.args.sectors c.args.sessions.items k.0 k.1 c.requires.rest);
    }

pub close_row-requires : goal.close_row-requires
close_row-requires c =
    let k = c.requires.known in
    let arenas = c.args.sectors.arenas.items in
    let sessions = c.args.sessions.items in
    let sets = c.in_ok-closed.closed.0.items in
    let off = c.in_ok-closed.closed.1 in
    let closed = subst (λ ps. IsClosed (first_of c.args.sectors.pool.turn).first ps sets off) c.in_ok-handed.ensures.turns c.in_ok-closed.ensures.closed in (
      k.0,
      subst (λ rows. AreAllIn arenas rows c.args.aside.items c.as_mut_slice-own.result.now k.0) (sym (c.as_mut_slice-rows.ensures.value ∙ c.in_ok-lanes.ensures))
          (subst (λ own. AreAllIn arenas (map (λ s. s.ends) sets) c.args.aside.items own k.0) (sym (c.as_mut_slice-own.ensures.value ∙ c.in_ok-handed.ensures.passes))
          (all_in c.args.sectors sessions k.0 k.1 sets off closed c.args.aside.items c.requires.sets)),
    )

pub returns-clause-left : goal.returns-clause-left
returns-clause-left c = λ states parts made open_states know.
    let arenas = c.args.sectors.arenas.items in
    let sessions = c.args.sessions.items in
    let sets = c.in_ok-closed.closed.0.items in
    let off = c.in_ok-closed.closed.1 in
    let closed = subst (λ ps. IsClosed (first_of c.args.sectors.pool.turn).first ps sets off) c.in_ok-handed.ensures.turns c.in_ok-closed.ensures.closed in
    let own = c.as_mut_slice-own.ensures.value ∙ c.in_ok-handed.ensures.passes in
    let all =
    subst (λ rows. AreAllIn arenas rows c.args.aside.items c.as_mut_slice-own.result.now parts) (sym (c.as_mut_slice-rows.ensures.value ∙ c.in_ok-lanes.ensures))
    (subst (λ own. AreAllIn arenas (map (λ s. s.ends) sets) c.args.aside.items own parts) (sym own) (all_in c.args.sectors sessions parts know sets off closed c.args.aside.items c.requires.sets)) in
    subst (λ (n : ℕ). AreArenasLeft n states parts (length arenas) c.in_ok-words.words.items) (ap length own ∙ length-map sessions (λ s. s.passes)) (c.in_ok-words.ensures states parts (opened_of states arenas made open_states) all)

pub returns-clause-off : goal.returns-clause-off
returns-clause-off c =
    let k = c.requires.known in
    let sets = c.in_ok-closed.closed.0.items in
    let off = c.in_ok-closed.closed.1 in
    off_by c.args.sectors c.args.sessions.items k.0 k.1 sets off (subst (λ ps. IsClosed (first_of c.args.sectors.pool.turn).first ps sets off) c.in_ok-handed.ensures.turns c.in_ok-closed.ensures.closed)
