-- What a session may do yet before and after a call.
use Rattle.std.proofs.Common.{◌≡◌, ℕ, ◌+◌, ◌<◌, ◌≤◌, List, [], ◌∷◌, ◌++◌, length, Option, Some, refl, sym, ap, ◌∙◌, subst, arith}
use Rattle.std.specs.List.{AllByRecursion}
use Rattle.turn_lock.specs.Passes.{part_of}
use Rattle.lane_core.specs.declared.shape.Shape.{Shape}
use Rattle.session_parts.specs.declared.parts.CorePart.{CorePart}
use Rattle.session_parts.specs.declared.parts.Stand.{Stand}
use Rattle.session_parts.specs.Parts.{MayBegin}
use Rattle.lane_pool.specs.declared.pool.PoolPart.{PoolPart}
use Rattle.lane_pool.specs.Parts.{PartGoes}
use Rattle.lane_calls.specs.declared.session.Kept.{Kept}
use Rattle.lane_calls.specs.declared.session.Sectors.{Sectors}
use Rattle.lane_calls.specs.declared.session.Session.{Session}
use Rattle.lane_calls.specs.Calls.{CallGoes, Called, IsGoing, IsNextCall, KeepsPower, MayCallAt, MayRead, MayWrite, Rests, Spends, SpendsOne, after, answered, whichever}
use Rattle.lane_calls.specs.Sessions.{Know, Parts, made_with, with_part}
use Rattle.lane_session_tests.specs.More.{IsBetween, IsResting, MayCallMore}

pub in_some : {A : Type 0} {x y : A} → Some x ≡ Some y → x ≡ y
in_some e = cc

-- ---- before a call

module _ (s : Sectors) (session : Session) (may : MayCallMore s 1 session) (sector : ℕ) (low : sector ≤ 60) where
  sector_in : sector < (may.parts 0).first.info.layout.external
  sector_in = let a = may.sectors in omega (arith, a, low)

  pub may_read : (room : ℕ) → room ≡ 64 → MayCallAt s 0 (MayRead session.caller.call sector room) session
  may_read room wide = record {
    place_in = may.place_in;
    parts = may.parts;
    know = may.know;
    pool = ((let a = may.left in omega (arith, a)), may.going);
    may = record { may = may.may; sector_in = sector_in; whole = wide ∙ sym may.width };
    calls = may.calls;
  }

  pub may_write : (words : List ℕ) → length words ≡ 64 → MayCallAt s 0 (MayWrite session.caller.call sector words) session
  may_write words wide = record {
    place_in = may.place_in;
    parts = may.parts;
    know = may.know;
    pool = ((let a = may.left in omega (arith, a)), may.going);
    may = record { may = may.may; sector_in = sector_in; whole = wide ∙ sym may.width };
    calls = may.calls;
  }

pub fewer : (s : Sectors) (session : Session) (m n : ℕ) → m ≤ n → MayCallMore s n session → MayCallMore s m session
fewer s session m n le may = record {
  place_in = may.place_in;
  parts = may.parts;
  know = may.know;
  going = may.going;
  left = (let a = may.left in omega (arith, a, le));
  may = may.may;
  calls = (let a = may.calls in omega (arith, a, le));
  width = may.width;
  sectors = may.sectors;
}

-- ---- after it

-- what it knows of the power stays
still_going : (m m' : PoolPart) → IsGoing m → KeepsPower m m' → IsGoing m'
still_going m m' going keeps at is = going at (keeps.going at is)

-- it may make as many calls more as before, but for those that it made
still_left : (calls made made' n : ℕ) (m m' : PoolPart) → made + (n + calls) ≤ m.left → Spends calls made made' m m' → made' + n ≤ m'.left
still_left calls made made' n m m' enough spends = let a = spends.counted in omega (arith, a, enough)

-- what a call or a rest did to its part of the pool
spent_of : (calls made made' : ℕ) (session session' : Session) (m m' : PoolPart) → part_of session.caller.pool ≡ Some m → part_of session'.caller.pool ≡ Some m'
    → PartGoes (Spends calls made made') session.caller.pool session'.caller.pool → Spends calls made made' m m'
spent_of calls made made' session session' m m' is is' goes = let o = goes m is in subst (λ (x : PoolPart). Spends calls made made' m x) (in_some (sym o.1 ∙ is')) o.2

later_more : (call : ℕ) (ss : List Stand) (e : Stand) → e.call ≡ call → AllByRecursion (λ x. x.call < call) ss → AllByRecursion (λ x. x.call < call + 1) (ss ++ e ∷ [])
later_more call [] e is all = (omega (arith, is), tt)
later_more call (s ∷ ss) e is all = ((let a = all.0 in omega (arith, a)), later_more call ss e is all.1)

pub between : (s : Sectors) (least : Shape → ℕ) (P : Shape → ℕ → CorePart → CorePart → Type 0) (session session' : Session) → IsNextCall session session' → CallGoes s 0 least P session session'
    → (n : ℕ) → MayCallMore s n session → IsBetween s session'
between s least P session session' next goes n may =
    let c = goes may.parts may.know in
    (with_part may.parts 0 (after (may.parts 0) c.mine c.made), subst (λ (q : ℕ). Know s q (with_part may.parts 0 (after (may.parts 0) c.mine c.made)) session') (sym next.number) c.know)

module _ (s : Sectors) (least : Shape → ℕ) (e : Stand) (session session' : Session) (next : IsNextCall session session') (goes : CallGoes s 0 least (whichever (λ m m'. m' ≡ answered e m)) session session')
    (spent : SpendsOne session session') (call : e.call ≡ session.caller.call) (n : ℕ) (may : MayCallMore s (n + 1) session) where
  c : Called s 0 least (whichever (λ m m'. m' ≡ answered e m)) may.parts session session'
  c = goes may.parts may.know

  parts' : Parts
  parts' = with_part may.parts 0 (after (may.parts 0) c.mine c.made)

  know' : Know s session'.number parts' session'
  unfolding parts'
  know' = subst (λ (q : ℕ). Know s q parts' session') (sym next.number) c.know

  spends : Spends 1 (made_with session.kept) (made_with session'.kept) may.know.pool know'.pool
  spends = spent_of 1 (made_with session.kept) (made_with session'.kept) session session' may.know.pool know'.pool may.know.seated.pool_is know'.seated.pool_is spent

  may' : MayBegin session'.caller.call (answered e (may.parts 0).mine)
  may' = record { free = refl; later = subst (λ (k : ℕ). AllByRecursion (λ x. x.call < k) ((may.parts 0).mine.stands ++ e ∷ [])) (sym next.call) (later_more session.caller.call (may.parts 0).mine.stands e call may.may.later) }

  pub goes_on : MayCallMore s n session'
  unfolding parts' c
  goes_on = record {
    place_in = may.place_in;
    parts = parts';
    know = know';
    going = still_going may.know.pool know'.pool may.going spends.power;
    left = still_left 1 (made_with session.kept) (made_with session'.kept) n may.know.pool know'.pool may.left spends;
    may = subst (λ (m : CorePart). MayBegin session'.caller.call m) (sym c.goes) may';
    calls = (let a = may.calls in let b = next.call in omega (arith, a, b));
    width = may.width;
    sectors = may.sectors;
  }

-- ---- after a rest

module _ (s : Sectors) (session session' : Session) (rests : Rests session session') (knows : (parts : Parts) → Know s session.number parts session → Know s session.number parts session') where
  know_resting : (parts : Parts) → Know s session.number parts session → Know s session'.number parts session'
  know_resting parts know = subst (λ (q : ℕ). Know s q parts session') (sym rests.same.number) (knows parts know)

  pub resting : IsBetween s session → IsResting s session'
  resting (parts, know) = ((parts, know_resting parts know), rests.same.kept)

  module _ (n : ℕ) (may : MayCallMore s n session) where
    after_rest : Know s session'.number may.parts session'
    after_rest = know_resting may.parts may.know

    rest_spends : Spends 0 (made_with session.kept) 0 may.know.pool after_rest.pool
    rest_spends = spent_of 0 (made_with session.kept) 0 session session' may.know.pool after_rest.pool may.know.seated.pool_is after_rest.seated.pool_is rests.pool

    none_made : made_with session'.kept ≡ 0
    none_made = ap (λ (o : Option Kept). made_with o) rests.same.kept

    pub more_after_rest : MayCallMore s n session'
    more_after_rest = record {
      place_in = may.place_in;
      parts = may.parts;
      know = after_rest;
      going = still_going may.know.pool after_rest.pool may.going rest_spends.power;
      left = (let a = still_left 0 (made_with session.kept) 0 n may.know.pool after_rest.pool (let b = may.left in omega (arith, b)) rest_spends in omega (arith, a, none_made));
      may = subst (λ (k : ℕ). MayBegin k (may.parts 0).mine) (sym rests.same.call) may.may;
      calls = (let a = may.calls in let b = rests.same.call in omega (arith, a, b));
      width = may.width;
      sectors = may.sectors;
    }
