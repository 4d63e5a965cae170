-- Sessions get their passes, and are ready.
use Rattle.std.proofs.Common.{◌≡◌, ℕ, zero, suc, ◌+◌, ◌^◌, ◌<◌, List, [], ◌∷◌, ◌++◌, length, get_or, Option, Some, None, refl, sym, ap, ◌∙◌, subst, arith}
use Rattle.std.specs.Prelude.{All, slice_get}
use Rattle.std.proofs.lemmas.List.{length-map, get_or-map}
use Rattle.std.proofs.lemmas.Option.{slice_get-get_or}
use Rattle.turn_lock.specs.declared.pass.TurnPass.{TurnPass}
use Rattle.turn_lock.specs.Passes.{number_of, part_of, AreFresh, IsFresh, IsOutside}
use Rattle.turn_lock.proofs.Places.{each_push, there}
use Rattle.arena_open.specs.declared.state.ArenaState.{ArenaState}
use Rattle.lane_pool.specs.declared.holders.Hand.TheVariants as hand
use Rattle.lane_pool.specs.declared.pool.PoolPart.{PoolPart}
use Rattle.lane_calls.specs.declared.session.Session.{Session}
use Rattle.lane_calls.specs.Sessions.{Know, Parts, made_with}
use Rattle.lane_sessions.specs.Making.{AreNewSessions, IsNewSession, first_sets, new_caller, new_parts}
use Rattle.namespace_ops.specs.Registered.{Registered}
use Rattle.session_script.specs.declared.script.Script.{Script}
use Rattle.session_script.specs.declared.script.SessionLines.{SessionLines}
use Rattle.session_script.specs.Names.{ScriptHasText}
use Rattle.session_account.specs.Account.{no_lines, session_at}
use Rattle.session_account.proofs.Going.{begins_so}
use Rattle.session_texts.proofs.Adding.{replies_none}
use Rattle.registry_service.specs.contracts.served.ServedRegistryParted.TheImpl.{ghosts}
use Rattle.registry_service.specs.declared.served.OrdersPart.{OrdersPart}
use Rattle.registry_service.specs.Served.{Served, began_of, fresh, part_of_session}
use Rattle.registry_service.proofs.Laws.{begins_empty}
use Rattle.session_service.specs.declared.runner.Runner.{Runner}
use Rattle.session_service.specs.declared.service.Service.{Service}
use Rattle.session_service.specs.Made.{limits_of, rooms_of}
use Rattle.session_service.specs.Runners.{AreRunnersReady, IsAt, Standing, steps_by, steps_to}
use Rattle.session_service.specs.Seated.{AreSeated, IsSeatedAt}
use Rattle.session_service.specs.Services.{IsLaid, all_of, arenas_of, no_arena, orders_of}
use Rattle.session_service.proofs.Making.{limits_by}

-- an element that is there is the same for any default
pub default_same : {A : Type 0} (xs : List A) (i : ℕ) (d e : A) → i < length xs → get_or xs i d ≡ get_or xs i e
default_same [] i d e h = absurd (omega (arith, h))
default_same (x ∷ xs) zero d e h = refl
default_same (x ∷ xs) (suc i) d e h = default_same xs i d e (omega (arith, h))

some_same : {A : Type 0} {x y : A} → Some x ≡ Some y → x ≡ y
some_same e = cc

empty_runs : (at : ℕ) → hand.Empty ≡ hand.Stopped at → ⊥
empty_runs at e = cc

-- ---- one runner more

pub seated_push : (sessions : List Session) (orders : List (TurnPass Served OrdersPart ghosts)) (rs : List Runner) (r : Runner) → AreSeated sessions orders rs
    → ((s : Session) (p : TurnPass Served OrdersPart ghosts) → IsSeatedAt (get_or sessions (length rs) s) (get_or orders (length rs) p) r) → AreSeated sessions orders (rs ++ r ∷ [])
seated_push sessions orders rs r are here q s p d h =
    each_push (λ k x. (s : Session) (p : TurnPass Served OrdersPart ghosts) → IsSeatedAt (get_or sessions k s) (get_or orders k p) x) rs r (λ k d h s p. are k s p d h) here q d h s p

-- ---- before the first call

-- no lane made a step
no_steps : (past : ArenaState) (states : List ArenaState) (n : ℕ) → steps_to n (new_parts past states) ≡ 0
no_steps past states zero = refl
no_steps past states (suc n) = ap (λ (k : ℕ). k + 0) (no_steps past states n)

module _ (service : Service) (registry : Registered) (script : Script) (empty : registry.journal ≡ []) (roomless : registry.room ≡ []) where
  -- session q, with its pass of the registry
  start_at : (q : ℕ) (session : Session) (o : TurnPass Served OrdersPart ghosts) (r : Runner) → q < length script.sessions → IsNewSession service.sectors (arenas_of service) (limits_by (session_at script q)) q session
      → IsFresh (orders_of service) (fresh registry script.labelcut (rooms_of script.sessions)) q o → IsSeatedAt session o r → IsAt service script q [] r
  start_at q session o r lt new fresh_pass at =
      let lines = session_at script q in
      let rooms = rooms_of script.sessions in
      let mine : IsNewSession service.sectors (arenas_of service) (limits_by lines) q r.session = subst (λ (s : Session). IsNewSession service.sectors (arenas_of service) (limits_by lines) q s) (sym at.session_is) new in
      let known : Parts = new_parts no_arena (arenas_of service) in
      let orders : OrdersPart = part_of_session (began_of (fresh registry script.labelcut rooms)) [] (get_or rooms q 0) None in
      let know : Know service.sectors q known r.session = mine.know no_arena in
      let pool : know.pool ≡ new_caller (first_sets service.sectors) (length lines.calls) = some_same (sym know.seated.pool_is ∙ mine.pool) in
      let left : know.pool.left ≡ length lines.calls = ap (λ (m : PoolPart). m.left) pool in
      let room : get_or rooms q 0 ≡ length lines.calls + 1 = get_or-map (λ (s : SessionLines). length s.calls + 1) script.sessions q no_lines 0 lt in
      let none : steps_by (all_of service) known ≡ 0 = no_steps no_arena (arenas_of service) _ in
      record {
        orders = orders;
        known = known;
        knows = record {
          know = know;
          first = λ j. refl;
          outside = subst (λ x. IsOutside (orders_of service) x) (sym at.orders_is) (fresh_pass.0, fresh_pass.3);
          orders_number = ap (λ x. number_of x) at.orders_is ∙ fresh_pass.1;
          orders_is = ap (λ x. part_of x) at.orders_is ∙ fresh_pass.2 ∙ ap Some (begins_empty registry script.labelcut rooms q empty roomless);
        };
        call = mine.call;
        steps = mine.steps;
        held = at.held;
        stands = subst (λ (left : Option ℕ). Standing (all_of service) script q [] orders known know.pool (made_with r.session.kept) left) (sym mine.left) (record {
          free = λ j. refl;
          going = λ at e. empty_runs at (sym (ap (λ (m : PoolPart). m.hand) pool) ∙ e);
          calls = let none = ap made_with mine.kept in omega (arith, left, none);
          held = refl;
          labelcut = refl;
          room = omega (arith, room);
          unstopped = ap (λ (m : PoolPart). m.stop) pool;
          uncut = refl;
          whole = λ e. e;
          counted = λ n m cut its. let same : n ≡ m = some_same (sym cut ∙ its) in omega (arith, same, none);
          at = begins_so (all_of service) q lines;
        });
      }

  module _ (laid : IsLaid service) (sessions : List Session) (orders : List (TurnPass Served OrdersPart ghosts)) (rs : List Runner) (new : AreNewSessions service.sectors (arenas_of service) (limits_of script.sessions) sessions) (count_orders : length orders ≡ length script.sessions)
      (fresh_orders : AreFresh (orders_of service) (fresh registry script.labelcut (rooms_of script.sessions)) orders) (count : length rs ≡ length script.sessions) (seated : AreSeated sessions orders rs) (short : All (λ s. length s.calls + 1 < 2 ^ 32) script.sessions) (text : ScriptHasText script) where
    pub all_ready : AreRunnersReady service script rs
    all_ready q d h =
        let near : q < length script.sessions = omega (arith, h, count) in
        let limits = limits_by (session_at script q) in
        let many : length (limits_of script.sessions) ≡ length script.sessions = length-map script.sessions limits_by in
        let s = there sessions q (omega (arith, near, many, new.count)) in
        let o = there orders q (omega (arith, near, count_orders)) in
        let limits_are : slice_get (limits_of script.sessions) q ≡ Some limits = slice_get-get_or (limits_of script.sessions) q limits (omega (arith, near, many)) ∙ ap Some (get_or-map limits_by script.sessions q no_lines limits near) in
        let session_is : slice_get sessions q ≡ Some (get_or sessions q s.0) = slice_get-get_or sessions q s.0 (omega (arith, near, many, new.count)) in
        let at = seated q s.0 o.0 d h in
        let start = start_at q (get_or sessions q s.0) (get_or orders q o.0) (get_or rs q d) near (new.each q limits (get_or sessions q s.0) limits_are session_is) (fresh_orders q o.0 (omega (arith, near, count_orders))) at in (
          near,
          record {
            laid = laid;
            at = start;
            short = short q no_lines near;
            text = text q no_lines near;
            said = at.text ∙ sym replies_none;
            memory = at.memory;
          },
        )
