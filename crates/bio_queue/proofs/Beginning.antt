-- What a session that did nothing may make.
use Rattle.std.proofs.Common.{◌≡◌, ℕ, ◌^◌, ◌<◌, List, [], ◌∷◌, length, Option, Some, None, refl, sym, ap, ◌∙◌, subst, arith}
use Rattle.arena_open.specs.declared.state.ArenaState.{ArenaState}
use Rattle.lane_core.specs.Arenas.{shape_in}
use Rattle.lane_pool.specs.declared.holders.Hand.TheVariants as hand
use Rattle.lane_pool.specs.declared.pool.PoolPart.{PoolPart}
use Rattle.lane_calls.specs.declared.session.Kept.{Kept}
use Rattle.lane_calls.specs.declared.session.Sectors.{Sectors}
use Rattle.lane_calls.specs.declared.session.Session.{Session}
use Rattle.lane_calls.specs.Sessions.{Know, made_with}
use Rattle.lane_sessions.specs.declared.making.SessionLimits.{SessionLimits}
use Rattle.lane_sessions.specs.Making.{IsNewSession, first_sets, new_caller, new_parts}
use Rattle.bio_queue.specs.Serving.{MayMake}

in_some : {A : Type 0} {x y : A} → Some x ≡ Some y → x ≡ y
in_some e = cc

empty_stopped : {at : ℕ} → hand.Empty ≡ hand.Stopped at → ⊥
empty_stopped e = cc

module _ (s : Sectors) (state : ArenaState) (states : List ArenaState) (limits : SessionLimits) (q : ℕ) (session : Session) (some : 0 < length s.arenas.items) (no_cut : limits.cut ≡ None) (few : limits.calls < 2 ^ 32)
    (new : IsNewSession s (state ∷ states) limits q session) where
  know : Know s session.number (new_parts state (state ∷ states)) session
  know = subst (λ (n : ℕ). Know s n (new_parts state (state ∷ states)) session) (sym new.number) (new.know state)

  pool_is : know.pool ≡ new_caller (first_sets s) limits.calls
  pool_is = in_some (sym know.seated.pool_is ∙ new.pool)

  pub may_begin : MayMake s (shape_in state).sectors (shape_in state).width limits.calls [] session
  may_begin = record {
    place_in = some;
    made = record { parts = new_parts state (state ∷ states); know = know; mine = refl };
    going = λ at e. empty_stopped (sym (ap (λ (m : PoolPart). m.hand) pool_is) ∙ e);
    left = (let a = ap (λ (m : PoolPart). m.left) pool_is in let b = ap (λ (o : Option Kept). made_with o) new.kept in omega (arith, a, b));
    later = tt;
    calls = (let a = new.call in omega (arith, a, few));
    no_fuse = new.left ∙ no_cut;
    sectors_are = refl;
    width_is = refl;
  }
