-- Lists of two.
use Rattle.std.proofs.Common.{◌≡◌, ℕ, zero, suc, ◌+◌, List, [], ◌∷◌, Option, Some, None, refl, sym, ap, ◌∙◌, subst}
use Rattle.std.specs.Prelude.{slice_get}
use mathlib.Core.Option.{some}
use lib.ListN.{get_elem?}
use Rattle.crossbeam_queue.specs.Passes.{Pass, IsPassOf, view}
use Rattle.crossbeam_queue.specs.declared.array_queue.Doing.{Doing}
use Rattle.crossbeam_queue.specs.declared.array_queue.Slotted.{Slotted}
use Rattle.ticket_queue.specs.declared.ticket.Ticket.{Ticket}
use Rattle.ticket_queue.specs.declared.ticket.View.{View}
use Rattle.ticket_queue.specs.Law.{none_yet}
use Rattle.bio_queue.specs.Seats.{AreDealt}
use Rattle.bio_queue.specs.Served.{IsDone}
use Rattle.lane_calls.specs.declared.session.Sectors.{Sectors}
use Rattle.lane_calls.specs.declared.session.Session.{Session}
use Rattle.lane_calls.specs.Sessions.{Know, Parts}
use Rattle.lane_sessions.specs.Ending.{KnowAll}

module _ {A : Type 0} where
  two_some : {x y : A} → some x ≡ some y → x ≡ y
  two_some e = cc

  none_there : (k : ℕ) (x : A) → get_elem? [] k ≡ some x → ⊥
  none_there k x e = cc

  -- what holds at both places holds at each
  pub at_each : (Q : ℕ → A → Type 0) (xs : List A) (a b : A) → xs ≡ a ∷ b ∷ [] → Q 0 a → Q 1 b → (k : ℕ) (x : A) → get_elem? xs k ≡ some x → Q k x
  at_each Q xs a b is pa pb zero x e = subst (Q 0) (two_some (ap (λ l. get_elem? l 0) (sym is) ∙ e)) pa
  at_each Q xs a b is pa pb (suc zero) x e = subst (Q 1) (two_some (ap (λ l. get_elem? l 1) (sym is) ∙ e)) pb
  at_each Q xs a b is pa pb (suc (suc k)) x e = absurd (none_there k x (ap (λ l. get_elem? l (suc (suc k))) (sym is) ∙ e))

  pub first_same : {a b x y : A} → a ∷ b ∷ [] ≡ x ∷ y ∷ [] → a ≡ x
  first_same e = cc

  pub first_at : (xs : List A) (a b : A) → xs ≡ a ∷ b ∷ [] → get_elem? xs 0 ≡ some a
  first_at xs a b is = ap (λ l. get_elem? l 0) is

  pub second_at : (xs : List A) (a b : A) → xs ≡ a ∷ b ∷ [] → get_elem? xs 1 ≡ some b
  second_at xs a b is = ap (λ l. get_elem? l 1) is

none_some : {A : Type 0} {x : A} → None ≡ Some x → ⊥
none_some e = cc

-- of two passes that were dealt
pub both_dealt : {T Q A : Type 0} (q : Slotted (Option (Ticket T)) (Doing (Ticket T) (View T)) Q A) (from : ℕ) (ps : List (Pass (Ticket T) (View T))) (a b : Pass (Ticket T) (View T)) → AreDealt q from ps → ps ≡ a ∷ b ∷ []
    → (IsPassOf q a × (view a ≡ none_yet (from + 0))) × (IsPassOf q b × (view b ≡ none_yet (from + 1)))
both_dealt q from ps a b dealt is = (dealt 0 a (first_at ps a b is), dealt 1 b (second_at ps a b is))

-- nothing was taken and nothing is completed
module _ {T C : Type 0} {R : T → C → Type 0} where
  from_none : IsDone [] [] None R
  from_none = record { count = refl; each = λ n t c e f. absurd (none_there n t e); last = λ b e. absurd (none_some e) }

  pub none_done : (ts : List (Ticket T)) (cs : List C) (cut : Option T) → ts ≡ [] → cs ≡ [] → cut ≡ None → IsDone ts cs cut R
  none_done ts cs cut no_ts no_cs no_cut =
      let first : IsDone [] [] cut R = subst (λ o. IsDone [] [] o R) (sym no_cut) from_none in
      let second : IsDone [] cs cut R = subst (λ l. IsDone [] l cut R) (sym no_cs) first in
      subst (λ l. IsDone l cs cut R) (sym no_ts) second

-- ---- two sessions

by_two : Parts → Parts → ℕ → Parts
by_two a b zero = a
by_two a b (suc q) = b

in_some : {A : Type 0} {x y : A} → Some x ≡ Some y → x ≡ y
in_some e = cc

no_slice : {A : Type 0} (q : ℕ) (x : A) → slice_get [] q ≡ Some x → ⊥
no_slice q x e = cc

at_number : (s : Sectors) (q : ℕ) (x y : Session) (parts : Parts) → x.number ≡ q → Know s x.number parts x → Some x ≡ Some y → Know s q parts y
at_number s q x y parts is know e = subst (λ (z : Session). Know s q parts z) (in_some e) (subst (λ (n : ℕ). Know s n parts x) is know)

know_two : (s : Sectors) (a b : Session) (pa pb : Parts) → a.number ≡ 0 → b.number ≡ 1 → Know s a.number pa a → Know s b.number pb b → KnowAll s (by_two pa pb) (a ∷ b ∷ [])
unfolding by_two
know_two s a b pa pb na nb ka kb zero x e = at_number s 0 a x pa na ka e
know_two s a b pa pb na nb ka kb (suc zero) x e = at_number s 1 b x pb nb kb e
know_two s a b pa pb na nb ka kb (suc (suc q)) x e = absurd (no_slice q x e)

pub both_known : (s : Sectors) (a b : Session) → a.number ≡ 0 → b.number ≡ 1 → (parts : Parts) × Know s a.number parts a → (parts : Parts) × Know s b.number parts b → (parts : ℕ → Parts) × KnowAll s parts (a ∷ b ∷ [])
both_known s a b na nb ka kb = (by_two ka.0 kb.0, know_two s a b ka.0 kb.0 na nb ka.1 kb.1)
