-- What a worker's session may make when it rests, and when it makes no call.
use Rattle.std.proofs.Common.{◌≡◌, ℕ, ◌+◌, ◌<◌, List, Option, sym, ap, ◌∙◌, subst, arith}
use Rattle.std.specs.List.{AllByRecursion}
use Rattle.session_parts.specs.declared.parts.Stand.{Stand}
use Rattle.lane_calls.specs.declared.session.Kept.{Kept}
use Rattle.lane_calls.specs.declared.session.Sectors.{Sectors}
use Rattle.lane_calls.specs.declared.session.Session.{Session}
use Rattle.lane_calls.specs.Calls.{Rests, Spends}
use Rattle.lane_calls.specs.Sessions.{Know, Parts, made_with}
use Rattle.bio_queue.specs.Serving.{MayMake}
use Rattle.bio_queue.proofs.Making.{still_going, still_left, spent_of}

pub fewer : (s : Sectors) (x w n : ℕ) (done : List Stand) (session : Session) → MayMake s x w (n + 1) done session → MayMake s x w n done session
fewer s x w n done session may = record {
  place_in = may.place_in;
  made = may.made;
  going = may.going;
  left = (let a = may.left in omega (arith, a));
  later = may.later;
  calls = (let a = may.calls in omega (arith, a));
  no_fuse = may.no_fuse;
  sectors_are = may.sectors_are;
  width_is = may.width_is;
}

module _ (s : Sectors) (session session' : Session) (rests : Rests session session') (knows : (parts : Parts) → Know s session.number parts session → Know s session.number parts session')
    (x w n : ℕ) (done : List Stand) (may : MayMake s x w n done session) where
  know' : Know s session'.number may.made.parts session'
  know' = subst (λ (q : ℕ). Know s q may.made.parts session') (sym rests.same.number) (knows may.made.parts may.made.know)

  spends : Spends 0 (made_with session.kept) 0 may.made.know.pool know'.pool
  spends = spent_of 0 (made_with session.kept) 0 session session' may.made.know.pool know'.pool may.made.know.seated.pool_is know'.seated.pool_is rests.pool

  none_made : made_with session'.kept ≡ 0
  none_made = ap (λ (o : Option Kept). made_with o) rests.same.kept

  pub after_rest : MayMake s x w n done session'
  after_rest = record {
    place_in = may.place_in;
    made = record { parts = may.made.parts; know = know'; mine = may.made.mine };
    going = still_going may.made.know.pool know'.pool may.going spends.power;
    left = (let a = still_left 0 (made_with session.kept) 0 n may.made.know.pool know'.pool (let b = may.left in omega (arith, b)) spends in omega (arith, a, none_made));
    later = subst (λ (k : ℕ). AllByRecursion (λ y. y.call < k) done) (sym rests.same.call) may.later;
    calls = (let a = may.calls in let b = rests.same.call in omega (arith, a, b));
    no_fuse = rests.same.left ∙ may.no_fuse;
    sectors_are = may.sectors_are;
    width_is = may.width_is;
  }
