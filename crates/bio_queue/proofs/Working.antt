-- A worker between two turns.
use Rattle.std.proofs.Common.{◌≡◌, ℕ, ◌+◌, ◌≤◌, List, [], ◌∷◌, ◌++◌, length, length-append, Option, Some, None, refl, sym, ap, ◌∙◌, subst, arith}
use mathlib.Core.Option.{some}
use lib.ListN.{get_elem?, length-map}
use Rattle.ticket_queue.specs.declared.ticket.Ticket.{Ticket}
use Rattle.session_parts.specs.declared.parts.Stand.{Stand}
use Rattle.lane_calls.specs.declared.session.Sectors.{Sectors}
use Rattle.lane_calls.specs.declared.session.Session.{Session}
use Rattle.lane_pool.specs.Parts.{IsTold, PartGoes, switched_by}
use Rattle.lane_calls.specs.Calls.{Spends, SwitchesNot}
use Rattle.bio_queue.specs.declared.bio.Completed.{Completed}
use Rattle.bio_queue.specs.Serving.{HasMade, IsAtWork, MayMake, NeverSwitched, stand_of}
use Rattle.bio_queue.specs.Served.{IsDone}
use Rattle.bio_queue.specs.Standing.{stands_of}

no_some : {A : Type 0} {x : A} → None ≡ Some x → ⊥
no_some e = cc

-- one more is completed
pub one_more : (cs cs' : List Completed) (c : Completed) → cs' ≡ cs ++ c ∷ [] → length (stands_of cs') ≡ length (stands_of cs) + 1
one_more cs cs' c is =
    let f = λ (d : Completed). stand_of d.call d.op d.reply in
    omega (arith, length-map cs' f, length-map cs f, ap length is, length-append cs (c ∷ []))

pub stands_long : (cs : List Completed) → length (stands_of cs) ≡ length cs
stands_long cs = length-map cs (λ (c : Completed). stand_of c.call c.op c.reply)

-- a worker that isn't cut may make as many calls more as there are to its limit
pub may_make : {T : Type 0} → (s : Sectors) (sectors width limit n : ℕ) (cut : Option T) (cs : List Completed) (session : Session)
    → IsAtWork s sectors width limit cut (stands_of cs) session → cut ≡ None → length cs + n ≤ limit → MayMake s sectors width n (stands_of cs) session
may_make s sectors width limit n cut cs session works none le = works.may none n (let e = stands_long cs in omega (arith, e, le))

-- a call that didn't touch the power, or a rest
pub spends_only : (calls made made' : ℕ) (session session' : Session) → PartGoes (Spends calls made made') session.caller.pool session'.caller.pool → SwitchesNot session session'
spends_only calls made made' session session' goes = λ m is. let o = goes m is in (o.0, o.1, ap switched_by o.2.power.stop)

still_on : (session session' : Session) → SwitchesNot session session' → NeverSwitched session → NeverSwitched session'
still_on session session' goes on = let o = goes on.0 on.1 in (o.0, o.1, o.2 ∙ on.2)

module _ {T : Type 0} (s : Sectors) (x w limit : ℕ) where
  pub works_rested : (cut : Option T) (done : List Stand) (session session' : Session) (m : ℕ) → cut ≡ None → MayMake s x w m done session
      → ((n : ℕ) → MayMake s x w n done session → MayMake s x w n done session') → SwitchesNot session session' → IsAtWork s x w limit cut done session → IsAtWork s x w limit cut done session'
  works_rested cut done session session' m none one rests power works = record {
    made = (rests m one).made;
    may = λ e n le. rests n (works.may e n le);
    told = λ some. absurd (some none);
    on = still_on session session' power works.on;
  }

  pub works_served : (cut cut' : Option T) (done done' : List Stand) (session session' : Session) → cut ≡ None → cut' ≡ None → length done' ≡ length done + 1 → MayMake s x w 1 done session
      → ((n : ℕ) → MayMake s x w (n + 1) done session → MayMake s x w n done' session') → SwitchesNot session session' → IsAtWork s x w limit cut done session → IsAtWork s x w limit cut' done' session'
  works_served cut cut' done done' session session' none none' more one makes power works = record {
    made = (makes 0 one).made;
    may = λ e n le. makes n (works.may none (n + 1) (omega (arith, le, more)));
    told = λ some. absurd (some none');
    on = still_on session session' power works.on;
  }

  pub works_off : (cut cut' : Option T) (done done' : List Stand) (session session' : Session) (b : T) → cut' ≡ Some b → HasMade s done' session' → IsTold session'.caller.pool → SwitchesNot session session'
      → IsAtWork s x w limit cut done session → IsAtWork s x w limit cut' done' session'
  works_off cut cut' done done' session session' b is made told power works = record {
    made = made;
    may = λ e n le. absurd (no_some (sym e ∙ is));
    told = λ some. told;
    on = still_on session session' power works.on;
  }

none_there : {A : Type 0} (k : ℕ) (x : A) → get_elem? [] k ≡ some x → ⊥
none_there k x e = cc

-- nothing was taken, and nothing is completed
module _ {T C : Type 0} {R : T → C → Type 0} where
  from_none : IsDone [] [] None R
  from_none = record { count = refl; each = λ n t c e f. absurd (none_there n t e); last = λ b e. absurd (no_some e) }

  pub none_done : (ts : List (Ticket T)) (cs : List C) (cut : Option T) → ts ≡ [] → cs ≡ [] → cut ≡ None → IsDone ts cs cut R
  none_done ts cs cut no_ts no_cs no_cut =
      let first : IsDone [] [] cut R = subst (λ (o : Option T). IsDone [] [] o R) (sym no_cut) from_none in
      let second : IsDone [] cs cut R = subst (λ (l : List C). IsDone [] l cut R) (sym no_cs) first in
      subst (λ (l : List (Ticket T)). IsDone l cs cut R) (sym no_ts) second
