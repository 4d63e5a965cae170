use Rattle.std.proofs.Common.{◌≡◌, ◌<◌, ◌≤◌, ℕ, List, length, map, get_or, refl, ap, ◌∙◌, sym, subst, arith}
use Rattle.std.specs.Prelude.{All, sum}
use Rattle.std.proofs.lemmas.List.{length-map}
use Rattle.lane_core.specs.Arenas.{shape_in}
use Rattle.lane_pool.specs.declared.sets.LaneSet.{LaneSet}
use Rattle.lane_pool.specs.Pools.{Now}
use Rattle.lane_pool.specs.Sets.{IsReady}
use Rattle.lane_calls.specs.declared.session.Sectors.{Sectors}
use Rattle.lane_sessions.specs.declared.making.SessionLimits.{SessionLimits}
use Rattle.lane_sessions.specs.Making.{AreNumbered, calls_in, set_count}
use Rattle.lane_sessions.specs.Sets.{AreSets}
use Rattle.lane_sessions.proofs.Sessions.{are_made, are_ready, are_sets, many, new_sessions, sets_within, some_sets}
use Rattle.lane_sessions.proofs.making.make_sectors.Goals as goal

pub lay-requires-clause-sets : goal.lay-requires-clause-sets
lay-requires-clause-sets c =
    let counted = c.count_sets-count.ensures.count ∙ ap (set_count c.args.workers) c.as_slice.ensures.value in
    λ k d h. subst (λ (n : ℕ). n ≤ (shape_in (get_or c.args.states.items k d)).lanes) (sym counted) (sets_within c.args.workers c.args.states.items k d h)

pub of-requires-clause-ready : goal.of-requires-clause-ready
of-requires-clause-ready c =
    subst (λ (n : ℕ). All (IsReady n) c.in_ok-sets.sets.items) c.in_ok-room.ensures (are_ready _ _ _ c.in_ok-laid.ensures c.in_ok-sets.sets.items c.in_ok-sets.ensures.ends)

pub returns-clause-arenas : goal.returns-clause-arenas
returns-clause-arenas c = are_made _ _ _ c.in_ok-laid.ensures

pub returns-clause-sets : goal.returns-clause-sets
returns-clause-sets c =
    let sets = c.in_ok-sets.sets.items in
    let first = ap (λ (v : Now). v.first) c.in_ok-pool.ensures.lock.1 in
    subst (λ (l : List LaneSet). AreSets (length c.args.limits.now) c.in_ok-laid.laid.arenas.items l (map (λ v. v.items) c.in_ok-laid.laid.aside.items)) (sym first) (are_sets _ _ _ c.in_ok-laid.ensures sets c.in_ok-sets.ensures.ends)

pub returns-clause-numbers : goal.returns-clause-numbers
returns-clause-numbers c = subst AreNumbered (sym (ap (λ (v : Now). v.first) c.in_ok-pool.ensures.lock.1)) c.in_ok-sets.ensures.numbers

pub returns-clause-count : goal.returns-clause-count
returns-clause-count c =
    ap (λ (v : Now). length v.first) c.in_ok-pool.ensures.lock.1 ∙ many _ _ _ c.in_ok-laid.ensures c.in_ok-sets.sets.items c.in_ok-sets.ensures.ends
    ∙ c.count_sets-count.ensures.count ∙ ap (set_count c.args.workers) c.as_slice.ensures.value

pub returns-clause-some : goal.returns-clause-some
returns-clause-some c =
    let is = ap (λ (v : Now). length v.first) c.in_ok-pool.ensures.lock.1 ∙ many _ _ _ c.in_ok-laid.ensures c.in_ok-sets.sets.items c.in_ok-sets.ensures.ends
    ∙ c.count_sets-count.ensures.count ∙ ap (set_count c.args.workers) c.as_slice.ensures.value in
    subst (λ (n : ℕ). 0 < n) (sym is) (some_sets c.args.workers c.args.states.items c.requires.workers c.requires.opened)

pub returns-clause-room : goal.returns-clause-room
returns-clause-room c =
    let sets = c.in_ok-sets.sets.items in
    let first = ap (λ (v : Now). v.first) c.in_ok-pool.ensures.lock.1 in
    let calls = c.as_slice-entries.ensures.value ∙ c.in_ok-calls.ensures in
    subst (λ (l : List LaneSet). All (IsReady (sum (calls_in c.args.limits.now))) l) (sym first)
    (subst (λ (n : ℕ). All (IsReady n) sets) (c.in_ok-room.ensures ∙ ap (λ (l : List ℕ). sum l) calls) (are_ready _ _ _ c.in_ok-laid.ensures sets c.in_ok-sets.ensures.ends))

pub returns-clause-sessions : goal.returns-clause-sessions
returns-clause-sessions c =
    let sectors : Sectors = record { arenas = c.in_ok-laid.laid.arenas; pool = c.in_ok-pool.pool } in
    let limits = c.args.limits.now in
    let callers = c.in_ok-pool.callers in
    let pool = c.in_ok-pool.ensures in
    let calls = c.as_slice-entries.ensures.value ∙ c.in_ok-calls.ensures in
    let n = ap (λ (l : List ℕ). length l) calls ∙ length-map limits (λ (l : SessionLimits). l.calls) in
    let count : length callers.items ≡ length limits = let m = pool.count in let k = callers.ok.0 in omega (arith, m, k, n) in
    new_sessions _ _ _ c.in_ok-laid.ensures c.in_ok-sets.sets.items c.in_ok-sets.ensures.ends sectors c.as_slice-entries.result.now refl pool.lock.1 limits callers.items c.in_ok-sessions.sessions.items refl calls count pool.passes
    c.in_ok-sessions.ensures.count c.in_ok-sessions.ensures.each
