-- What the two sessions of a new arena may make.
use Rattle.std.proofs.Common.{◌≡◌, ℕ, ◌/◌, ◌<◌, List, [], ◌∷◌, length, refl, sym, ap, ◌∙◌, subst, arith}
use Rattle.arena_open.specs.declared.state.ArenaState.{ArenaState}
use Rattle.lane_core.specs.Arenas.{shape_in}
use Rattle.lane_calls.specs.declared.session.Sectors.{Sectors}
use Rattle.lane_calls.specs.declared.session.Session.{Session}
use Rattle.lane_sessions.specs.declared.making.SessionLimits.{SessionLimits}
use Rattle.lane_sessions.specs.Sets.{AreMadeOf}
use Rattle.lane_sessions.specs.Making.{AreNewSessions, IsNewSession}
use Rattle.bio_queue.specs.Serving.{MayMake}

module _ (s : Sectors) (state : ArenaState) (l : SessionLimits) where
  pub two_there : (xs : List Session) → length xs ≡ 2 → AreNewSessions s (state ∷ []) (l ∷ l ∷ []) xs → (a : Session) × (b : Session) × (xs ≡ a ∷ b ∷ []) × IsNewSession s (state ∷ []) l 0 a × IsNewSession s (state ∷ []) l 1 b
  two_there [] count new = absurd (omega (arith, count))
  two_there (a ∷ []) count new = absurd (omega (arith, count))
  two_there (a ∷ b ∷ []) count new = (a, b, refl, new.each 0 l a refl refl, new.each 1 l b refl refl)
  two_there (a ∷ b ∷ c ∷ xs) count new = absurd (omega (arith, count))

module _ (s : Sectors) (states : List ArenaState) (state : ArenaState) (one : states ≡ state ∷ []) (made : AreMadeOf states s.arenas.items) (wide : state.info.layout.sector ≡ 512) (high : state.info.layout.external ≡ 32478)
    (l : SessionLimits) (xs : List Session) (new : AreNewSessions s states (l ∷ l ∷ []) xs) where
  one_arena : 0 < length s.arenas.items
  one_arena = subst (λ (n : ℕ). 0 < n) (sym (made.count ∙ ap (λ (r : List ArenaState). length r) one)) (omega arith)

  words_wide : (shape_in state).width ≡ 64
  words_wide = ap (λ (n : ℕ). n / 8) wide

  sectors_are : (shape_in state).sectors ≡ 32478
  sectors_are = high

  may_all : (n : ℕ) (x : Session) → MayMake s (shape_in state).sectors (shape_in state).width n [] x → MayMake s 32478 64 n [] x
  may_all n x may = subst (λ (w : ℕ). MayMake s 32478 w n [] x) words_wide (subst (λ (m : ℕ). MayMake s m (shape_in state).width n [] x) sectors_are may)

  pub two_new : ((q : ℕ) (x : Session) → 0 < length s.arenas.items → IsNewSession s (state ∷ []) l q x → MayMake s (shape_in state).sectors (shape_in state).width l.calls [] x)
      → (a : Session) × (b : Session) × (xs ≡ a ∷ b ∷ []) × (a.number ≡ 0) × (b.number ≡ 1) × MayMake s 32478 64 l.calls [] a × MayMake s 32478 64 l.calls [] b
  two_new law =
      let t = two_there s state l xs new.count (subst (λ (r : List ArenaState). AreNewSessions s r (l ∷ l ∷ []) xs) one new) in
      (t.0, t.1, t.2, t.3.number, t.4.number, may_all l.calls t.0 (law 0 t.0 one_arena t.3), may_all l.calls t.1 (law 1 t.1 one_arena t.4))
