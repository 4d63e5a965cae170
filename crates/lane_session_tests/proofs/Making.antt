-- What sessions may do once they are made, and when they are closed.
use Rattle.std.proofs.Common.{◌≡◌, ℕ, zero, suc, ◌/◌, ◌^◌, ◌<◌, List, [], ◌∷◌, length, Option, Some, None, refl, sym, ap, ◌∙◌, subst, arith}
use Rattle.std.specs.Prelude.{All, slice_get}
use Rattle.arena_open.specs.declared.state.ArenaState.{ArenaState}
use Rattle.lane_core.specs.Arenas.{shape_in}
use Rattle.lane_pool.specs.declared.holders.Hand.TheVariants as hand
use Rattle.lane_pool.specs.declared.pool.PoolPart.{PoolPart}
use Rattle.lane_calls.specs.declared.session.Kept.{Kept}
use Rattle.lane_calls.specs.declared.session.Sectors.{Sectors}
use Rattle.lane_calls.specs.declared.session.Session.{Session}
use Rattle.lane_calls.specs.Sessions.{Know, Parts, made_with}
use Rattle.lane_sessions.specs.declared.making.SessionLimits.{SessionLimits}
use Rattle.lane_sessions.specs.Ending.{KnowAll}
use Rattle.lane_sessions.specs.Sets.{AreMadeOf}
use Rattle.lane_sessions.specs.Making.{AreNewSessions, IsNewSession, first_sets, new_caller, new_parts}
use Rattle.lane_session_tests.specs.More.{IsBetween, MayCallMore}
use Rattle.lane_session_tests.proofs.Going.{in_some}

-- ---- a new session

empty_stopped : {at : ℕ} → hand.Empty ≡ hand.Stopped at → ⊥
empty_stopped e = cc

module _ (s : Sectors) (state : ArenaState) (some : 0 < length s.arenas.items) (wide : (shape_in state).width ≡ 64) (high : 60 < (shape_in state).sectors)
    (limits : SessionLimits) (q : ℕ) (session : Session) (new : IsNewSession s (state ∷ []) limits q session) (few : limits.calls < 2 ^ 32) where
  know : Know s session.number (new_parts state (state ∷ [])) session
  know = subst (λ (n : ℕ). Know s n (new_parts state (state ∷ [])) session) (sym new.number) (new.know state)

  pool_is : know.pool ≡ new_caller (first_sets s) limits.calls
  pool_is = in_some (sym know.seated.pool_is ∙ new.pool)

  pub may_new : MayCallMore s limits.calls session
  may_new = record {
    place_in = some;
    parts = new_parts state (state ∷ []);
    know = know;
    going = λ at e. empty_stopped (sym (ap (λ (m : PoolPart). m.hand) pool_is) ∙ e);
    left = (let a = ap (λ (m : PoolPart). m.left) pool_is in let b = ap (λ (o : Option Kept). made_with o) new.kept in omega (arith, a, b));
    may = record { free = refl; later = tt };
    calls = (let a = new.call in omega (arith, a, few));
    width = wide;
    sectors = high;
  }

-- ---- three new sessions over one arena

module _ (s : Sectors) (states : List ArenaState) (state : ArenaState) (one : states ≡ state ∷ []) (made : AreMadeOf states s.arenas.items) (wide : state.info.layout.sector ≡ 512) (high : 60 < state.info.layout.external)
    (a b c : SessionLimits) (sessions : List Session) (x y z : Session) (are : sessions ≡ x ∷ y ∷ z ∷ []) (new : AreNewSessions s states (a ∷ b ∷ c ∷ []) sessions) where
  one_arena : 0 < length s.arenas.items
  one_arena = subst (λ (n : ℕ). 0 < n) (sym (made.count ∙ ap (λ (r : List ArenaState). length r) one)) (omega arith)

  words_wide : (shape_in state).width ≡ 64
  words_wide = ap (λ (n : ℕ). n / 8) wide

  of_one : AreNewSessions s (state ∷ []) (a ∷ b ∷ c ∷ []) sessions
  of_one = subst (λ (r : List ArenaState). AreNewSessions s r (a ∷ b ∷ c ∷ []) sessions) one new

  of_three : AreNewSessions s (state ∷ []) (a ∷ b ∷ c ∷ []) (x ∷ y ∷ z ∷ [])
  of_three = subst (λ (r : List Session). AreNewSessions s (state ∷ []) (a ∷ b ∷ c ∷ []) r) are of_one

  pub first_new : a.calls < 2 ^ 32 → (x.number ≡ 0) × MayCallMore s a.calls x
  first_new few = let n = of_three.each 0 a x refl refl in (n.number, may_new s state one_arena words_wide high a 0 x n few)

  pub second_new : b.calls < 2 ^ 32 → (y.number ≡ 1) × MayCallMore s b.calls y
  second_new few = let n = of_three.each 1 b y refl refl in (n.number, may_new s state one_arena words_wide high b 1 y n few)

  pub third_new : c.calls < 2 ^ 32 → (z.number ≡ 2) × MayCallMore s c.calls z
  third_new few = let n = of_three.each 2 c z refl refl in (n.number, may_new s state one_arena words_wide high c 2 z n few)

-- ---- three sessions

by_three : Parts → Parts → Parts → ℕ → Parts
by_three a b c zero = a
by_three a b c (suc zero) = b
by_three a b c (suc (suc q)) = c

at_number : (s : Sectors) (q : ℕ) (x y : Session) (parts : Parts) → x.number ≡ q → Know s x.number parts x → Some x ≡ Some y → Know s q parts y
at_number s q x y parts is know e = subst (λ (z : Session). Know s q parts z) (in_some e) (subst (λ (n : ℕ). Know s n parts x) is know)

none_there : {A : Type 0} (q : ℕ) (x : A) → slice_get [] q ≡ Some x → ⊥
none_there q x e = cc

know_three : (s : Sectors) (a b c : Session) (pa pb pc : Parts) → a.number ≡ 0 → b.number ≡ 1 → c.number ≡ 2 → Know s a.number pa a → Know s b.number pb b → Know s c.number pc c
    → KnowAll s (by_three pa pb pc) (a ∷ b ∷ c ∷ [])
unfolding by_three
know_three s a b c pa pb pc na nb nc ka kb kc zero x e = at_number s 0 a x pa na ka e
know_three s a b c pa pb pc na nb nc ka kb kc (suc zero) x e = at_number s 1 b x pb nb kb e
know_three s a b c pa pb pc na nb nc ka kb kc (suc (suc zero)) x e = at_number s 2 c x pc nc kc e
know_three s a b c pa pb pc na nb nc ka kb kc (suc (suc (suc q))) x e = absurd (none_there q x e)

pub all_between : (s : Sectors) (a b c : Session) → (a.number ≡ 0) × IsBetween s a → (b.number ≡ 1) × IsBetween s b → (c.number ≡ 2) × IsBetween s c → (parts : ℕ → Parts) × KnowAll s parts (a ∷ b ∷ c ∷ [])
all_between s a b c ha hb hc = (by_three ha.1.0 hb.1.0 hc.1.0, know_three s a b c ha.1.0 hb.1.0 hc.1.0 ha.0 hb.0 hc.0 ha.1.1 hb.1.1 hc.1.1)

pub all_rest : (a b c : Session) → a.kept ≡ None → b.kept ≡ None → c.kept ≡ None → All (λ (s : Session). s.kept ≡ None) (a ∷ b ∷ c ∷ [])
all_rest a b c ra rb rc zero d lt = ra
all_rest a b c ra rb rc (suc zero) d lt = rb
all_rest a b c ra rb rc (suc (suc zero)) d lt = rc
all_rest a b c ra rb rc (suc (suc (suc q))) d lt = absurd (omega (arith, lt))
