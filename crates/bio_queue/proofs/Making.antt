-- What a worker's session may make before and after a call.
use Rattle.std.proofs.Common.{◌≡◌, ℕ, ◌+◌, ◌<◌, ◌≤◌, true, List, [], ◌∷◌, ◌++◌, length, Some, None, refl, sym, ap, ◌∙◌, subst, ⊎_elim, arith}
use Rattle.std.specs.Prelude.{nat_lt, ◌==◌}
use Rattle.std.specs.List.{AllByRecursion}
use Rattle.std.proofs.lemmas.Bool.{and_parts, eqb-true}
use Rattle.std.proofs.lemmas.Bool.Decides.{nat_tests}
use Rattle.turn_lock.specs.Passes.{part_of}
use Rattle.lane_core.specs.declared.shape.Shape.{Shape}
use Rattle.session_parts.specs.declared.parts.CorePart.{CorePart}
use Rattle.session_parts.specs.declared.parts.Stand.{Stand}
use Rattle.session_parts.specs.Parts.{MayBegin, part}
use Rattle.lane_pool.specs.declared.pool.PoolPart.{PoolPart}
use Rattle.lane_pool.specs.Parts.{PartGoes}
use Rattle.lane_calls.specs.declared.session.Sectors.{Sectors}
use Rattle.lane_calls.specs.declared.session.Session.{Session}
use Rattle.lane_calls.specs.Calls.{CallGoes, Called, IsGoing, IsNextCall, KeepsPower, MayCallAt, MayRead, MayWrite, Spends, SpendsOne, StopsWhenSpent, SwitchesNot, after, answered, none_at_least, whichever}
use Rattle.lane_calls.specs.Sessions.{Know, Parts, made_with, with_part}
use Rattle.bio_queue.specs.declared.op.Op.TheVariants as op
use Rattle.bio_queue.specs.declared.op.OpReply.{OpReply}
use Rattle.bio_queue.specs.declared.performing.Performed.TheVariants as performed
use Rattle.bio_queue.specs.Serving.{HasMade, MayMake, MayPerform}

in_some : {A : Type 0} {x y : A} → Some x ≡ Some y → x ≡ y
in_some e = cc

-- ---- before a call

may_begin : (call : ℕ) (done : List Stand) (core : CorePart) → core ≡ part done [] → AllByRecursion (λ x. x.call < call) done → MayBegin call core
may_begin call done core is later = subst (λ (m : CorePart). MayBegin call m) (sym is) (record { free = refl; later = later })

below : (k n m : ℕ) → m ≡ n → nat_lt k n ≡ true → k < m
below k n m is lt = grind (arith, nat_tests, is, lt)

pub may_read : (s : Sectors) (sector room room' : ℕ) (session : Session) → room' ≡ room → MayPerform s (op.Read sector) room session → MayCallAt s 0 (MayRead session.caller.call sector room') session
may_read s sector room room' session same p =
    let m = p.may in
    record {
      place_in = m.place_in;
      parts = m.made.parts;
      know = m.made.know;
      pool = ((let a = m.left in omega (arith, a)), m.going);
      may = record {
        may = may_begin session.caller.call p.done (m.made.parts 0).mine m.made.mine m.later;
        sector_in = below sector p.sectors _ m.sectors_are p.fitting;
        whole = same ∙ p.room_is ∙ sym m.width_is;
      };
      calls = m.calls;
    }

pub may_write : (s : Sectors) (sector : ℕ) (words words' : List ℕ) (room : ℕ) (session : Session) → words' ≡ words → MayPerform s (op.Write sector words) room session
    → MayCallAt s 0 (MayWrite session.caller.call sector words') session
may_write s sector words words' room session same p =
    let m = p.may in
    let both = and_parts (nat_lt sector p.sectors) (length words == p.width) p.fitting in
    record {
      place_in = m.place_in;
      parts = m.made.parts;
      know = m.made.know;
      pool = ((let a = m.left in omega (arith, a)), m.going);
      may = record {
        may = may_begin session.caller.call p.done (m.made.parts 0).mine m.made.mine m.later;
        sector_in = below sector p.sectors _ m.sectors_are both.0;
        whole = ap length same ∙ eqb-true (length words) p.width both.1 ∙ sym m.width_is;
      };
      calls = m.calls;
    }

-- ---- after it

-- it handed no set in
pub still_going : (m m' : PoolPart) → IsGoing m → KeepsPower m m' → IsGoing m'
still_going m m' going keeps at is = going at (keeps.going at is)

pub still_left : (calls made made' n : ℕ) (m m' : PoolPart) → made + (n + calls) ≤ m.left → Spends calls made made' m m' → made' + n ≤ m'.left
still_left calls made made' n m m' enough spends = let a = spends.counted in omega (arith, a, enough)

pub spent_of : (calls made made' : ℕ) (session session' : Session) (m m' : PoolPart) → part_of session.caller.pool ≡ Some m → part_of session'.caller.pool ≡ Some m'
    → PartGoes (Spends calls made made') session.caller.pool session'.caller.pool → Spends calls made made' m m'
spent_of calls made made' session session' m m' is is' goes = let o = goes m is in subst (λ (x : PoolPart). Spends calls made made' m x) (in_some (sym o.1 ∙ is')) o.2

later_more : (call : ℕ) (ss : List Stand) (e : Stand) → e.call ≡ call → AllByRecursion (λ x. x.call < call) ss → AllByRecursion (λ x. x.call < call + 1) (ss ++ e ∷ [])
later_more call [] e is all = (omega (arith, is), tt)
later_more call (s ∷ ss) e is all = ((let a = all.0 in omega (arith, a)), later_more call ss e is all.1)

-- a call was answered
module _ (s : Sectors) (least : Shape → ℕ) (e : Stand) (session session' : Session) (next : IsNextCall session session') (goes : CallGoes s 0 least (whichever (λ m m'. m' ≡ answered e m)) session session')
    (spent : SpendsOne session session') (call : e.call ≡ session.caller.call) (x w n : ℕ) (done : List Stand) (may : MayMake s x w (n + 1) done session) where
  c : Called s 0 least (whichever (λ m m'. m' ≡ answered e m)) may.made.parts session session'
  c = goes may.made.parts may.made.know

  parts' : Parts
  parts' = with_part may.made.parts 0 (after (may.made.parts 0) c.mine c.made)

  know' : Know s session'.number parts' session'
  unfolding parts'
  know' = subst (λ (q : ℕ). Know s q parts' session') (sym next.number) c.know

  spends : Spends 1 (made_with session.kept) (made_with session'.kept) may.made.know.pool know'.pool
  spends = spent_of 1 (made_with session.kept) (made_with session'.kept) session session' may.made.know.pool know'.pool may.made.know.seated.pool_is know'.seated.pool_is spent

  mine' : c.mine ≡ part (done ++ e ∷ []) []
  mine' = c.goes ∙ ap (answered e) may.made.mine

  pub goes_on : MayMake s x w n (done ++ e ∷ []) session'
  unfolding parts' c
  goes_on = record {
    place_in = may.place_in;
    made = record { parts = parts'; know = know'; mine = mine' };
    going = still_going may.made.know.pool know'.pool may.going spends.power;
    left = still_left 1 (made_with session.kept) (made_with session'.kept) n may.made.know.pool know'.pool may.left spends;
    later = subst (λ (k : ℕ). AllByRecursion (λ y. y.call < k) (done ++ e ∷ [])) (sym next.call) (later_more session.caller.call done e call may.later);
    calls = (let a = may.calls in let b = next.call in omega (arith, a, b));
    no_fuse = c.paid.whole may.no_fuse;
    sectors_are = may.sectors_are;
    width_is = may.width_is;
  }

-- power is off, and nothing was made
pub cut_made : (s : Sectors) (session session' : Session) → IsNextCall session session' → CallGoes s 0 none_at_least (whichever (λ m m'. m' ≡ m)) session session' → (done : List Stand) → HasMade s done session → HasMade s done session'
cut_made s session session' next goes done made =
    let c = goes made.parts made.know in
    record {
      parts = with_part made.parts 0 (after (made.parts 0) c.mine c.made);
      know = subst (λ (q : ℕ). Know s q (with_part made.parts 0 (after (made.parts 0) c.mine c.made)) session') (sym next.number) c.know;
      mine = c.goes ∙ made.mine;
    }

-- a session that never cuts power didn't switch it off
pub switches_not : (session session' : Session) → session.caller.left ≡ None → StopsWhenSpent session session' → SwitchesNot session session'
switches_not session session' none stops = ⊎_elim (λ (x : SwitchesNot session session'). x) (λ y. absurd (y.1 none)) stops

pub in_done : {a b r t : OpReply} → performed.Done a b ≡ performed.Done r t → (a ≡ r) × (b ≡ t)
in_done e = (cc, cc)
