use Rattle.std.proofs.Common.{◌≡◌, ◌+◌, ◌^◌, ◌<◌, ℕ, List, length, refl, sym, ap, ◌∙◌, subst, arith}
use Rattle.std.specs.Prelude.{All}
use Rattle.turn_lock.specs.Passes.{AreFresh, lock_id}
use Rattle.arena_open.specs.Moves.{IsOpenState}
use Rattle.session_script.specs.declared.script.SessionLines.{SessionLines}
use Rattle.lane_sessions.specs.Ending.{lists_of}
use Rattle.lane_sessions.specs.Making.{AreNewSessions, first_sets}
use Rattle.lane_sessions.specs.Sets.{AreMadeOf, AreSets}
use Rattle.registry_service.specs.Served.{fresh}
use Rattle.session_service.specs.Made.{limits_of, rooms_of}
use Rattle.session_service.proofs.Making as making
use Rattle.session_service.proofs.Seating.{all_ready}
use Rattle.session_service.proofs.service.of_namespaces.Goals as goal

pub returns-clause-made : goal.returns-clause-made
returns-clause-made c =
    let lines = c.as_slice-lines.ensures in
    let n = ap (λ (ss : List SessionLines). length ss) lines in
    let limits = c.as_slice.ensures.value ∙ c.in_ok-limits.ensures in
    let few = making.limits_length c.as_slice.result.now c.as_slice-lines.result.now limits ∙ n in
    let lay = c.in_ok-places.ensures in
    let made = c.in_ok-made.ensures in
    let same = ap (λ v. v.items) c.of-opened.ensures in
    let states = c.in_ok-places.states.items in
    let sectors = c.in_ok-made.made.sectors in
    let rooms = c.as_slice-calls.ensures.value ∙ c.in_ok-rooms.ensures.rooms ∙ ap rooms_of lines in
    let arenas = subst (λ ss. AreMadeOf ss sectors.arenas.items) (sym same) made.arenas in
    record {
      few = subst (λ (ss : List SessionLines). length ss < 2 ^ 32) lines c.in_ok-rooms.ensures.few;
      all = lay.all;
      arenas = same ∙ lay.states;
      laid = making.is_laid _ c.in_ok-places.places.items c.args.served.items refl lay.all lay.laid (same ∙ lay.states) c.requires.opened arenas.count;
      opened = subst (λ ss. All IsOpenState ss) (sym same) lay.opened;
      made = arenas;
      sets = subst (λ (k : ℕ). AreSets k sectors.arenas.items (first_sets sectors) (lists_of c.in_ok-made.made.aside.items)) few made.sets;
      callers = made.pool.callers ∙ few;
      orders = c.in_ok-orders.ensures.lock.0 ∙ ap (λ (ns : List ℕ). length ns) rooms ∙ making.rooms_length (rooms_of c.args.script.now.sessions) c.args.script.now.sessions refl;
      orders_first = c.in_ok-orders.ensures.lock.1 ∙ (λ i. fresh c.args.registry (c.fuse_for.ensures i) (rooms i));
      journal = c.requires.unused.first;
      areas = c.requires.unused.opening;
    }

pub returns-clause-ready : goal.returns-clause-ready
returns-clause-ready c =
    let lines = c.as_slice-lines.ensures in
    let sessions = c.args.script.now.sessions in
    let n = ap (λ (ss : List SessionLines). length ss) lines in
    let limits = c.as_slice.ensures.value ∙ c.in_ok-limits.ensures ∙ ap limits_of lines in
    let lay = c.in_ok-places.ensures in
    let made = c.in_ok-made.ensures in
    let same = ap (λ v. v.items) c.of-opened.ensures in
    let sectors = c.in_ok-made.made.sectors in
    let rooms = c.as_slice-calls.ensures.value ∙ c.in_ok-rooms.ensures.rooms ∙ ap rooms_of lines in
    let arenas = subst (λ ss. AreMadeOf ss sectors.arenas.items) (sym same) made.arenas in
    let passes = c.in_ok-orders.passes in
    let orders : length passes.items ≡ length sessions = let k = passes.ok.0 in let m = c.in_ok-orders.ensures.count in let r = ap (λ (ns : List ℕ). length ns) rooms in let l = making.rooms_length (rooms_of sessions) sessions refl in omega (arith, k, m, r, l) in
    all_ready _ c.args.registry c.args.script.now c.requires.unused.first c.requires.unused.roomless
    (making.is_laid _ c.in_ok-places.places.items c.args.served.items refl lay.all lay.laid (same ∙ lay.states) c.requires.opened arenas.count)
    c.in_ok-made.made.sessions.items passes.items c.in_ok-runners.runners.items
    (subst (λ ss. AreNewSessions sectors ss (limits_of sessions) c.in_ok-made.made.sessions.items) (sym same) (subst (λ ls. AreNewSessions sectors c.in_ok-places.states.items ls c.in_ok-made.made.sessions.items) limits made.sessions))
    orders
    (subst (λ s. AreFresh (lock_id c.in_ok-orders.orders) s passes.items) (λ i. fresh c.args.registry (c.fuse_for.ensures i) (rooms i)) c.in_ok-orders.ensures.passes)
    (c.in_ok-runners.ensures.count ∙ made.sessions.count ∙ making.limits_length _ _ (c.as_slice.ensures.value ∙ c.in_ok-limits.ensures) ∙ n)
    c.in_ok-runners.ensures.seated
    (subst (λ ss. All (λ (s : SessionLines). length s.calls + 1 < 2 ^ 32) ss) lines c.in_ok-rooms.ensures.short) c.requires.text
