-- The hands of all parties, once they are handed in.
use Rattle.std.proofs.Common.{◌≡◌, ℕ, zero, suc, ◌<◌, ◌≤◌, Bool, false, true, List, [], ◌∷◌, ◌++◌, length, sym, refl, ap, ◌∙◌, ⊎_elim, append_assoc, append-nil, lt_of_not-le, eq-eqb, arith}
use Rattle.std.proofs.lemmas.Bool.{eqb-true}
use Rattle.std.specs.Prelude.{◌==◌, ◌&&◌, not}
use mathlib.Core.Option.{some, some-injective, some-ne-none}
use native.Mathlib.Decide.{dec_le}
use lib.ListN.{get_elem?}
use Rattle.ticket_queue.specs.declared.ticket.Ticket.{Ticket}
use Rattle.ticket_queue.specs.declared.ticket.Hand.{Hand}
use Rattle.ticket_queue.specs.declared.ticket.View.{View}
use Rattle.ticket_queue.specs.Law.{hand, one, all_from, none_yet, IsHandOf, is_one, is_nil, is_hand_of, Covers, Learned, IsComplete}
use Rattle.ticket_queue.specs.Parties.{put_in, taken_in, AreHands, AreNew, hands_of, IsOrder}
use Rattle.ticket_queue.proofs.Places.{at_end}

there : {A : Type 0} (xs : List A) (k : ℕ) → k < length xs → (x : A) × (get_elem? xs k ≡ some x)
there [] k h = absurd (omega arith)
there (x ∷ xs) zero h = (x, refl)
there (x ∷ xs) (suc k) h = there xs k (omega arith)

module _ {T : Type 0} where
  pub hands_of-push : (vs : List (View T)) (v : View T) → hands_of (vs ++ v ∷ []) ≡ hands_of vs ++ v.hands
  hands_of-push [] v = append-nil v.hands
  hands_of-push (u ∷ us) v = ap (λ hs. u.hands ++ hs) (hands_of-push us v) ∙ sym (append_assoc u.hands (hands_of us) v.hands)

  pub new_push : (vs : List (View T)) (v : View T) → AreNew vs → v ≡ none_yet (length vs) → AreNew (vs ++ v ∷ [])
  new_push vs v old new k u e = ⊎_elim
      (λ (s : get_elem? vs k ≡ some u). old k u s)
      (λ (s : (k ≡ length vs) × (v ≡ u)). sym s.1 ∙ new ∙ ap none_yet (sym s.0))
      (at_end vs v u k e)

  -- each pass has one hand
  at_hand : (vs : List (View T)) → ((k : ℕ) (v : View T) → get_elem? vs k ≡ some v → (h : Hand T) × (v ≡ one h)) → (k : ℕ) (v : View T) (h : Hand T) → get_elem? vs k ≡ some v → v ≡ one h → get_elem? (hands_of vs) k ≡ some h
  at_hand [] each k v h e is = absurd (some-ne-none v (sym e))
  at_hand (u ∷ us) each zero v h e is = ap (λ (x : View T). get_elem? (x.hands ++ hands_of us) 0) (some-injective u v e ∙ is)
  at_hand (u ∷ us) each (suc k) v h e is =
      let first = each 0 u refl in
      ap (λ (x : View T). get_elem? (x.hands ++ hands_of us) (suc k)) first.1 ∙ at_hand us (λ j w at. each (suc j) w at) k v h e is

  -- the hand of party k, where each pass has its party's
  hand_at : (vs : List (View T)) → AreHands vs → (k : ℕ) (v : View T) → get_elem? vs k ≡ some v → (put : List (Ticket T)) × (taken : List (Ticket T)) × (v ≡ one (hand k false put taken)) × (get_elem? (hands_of vs) k ≡ some (hand k false put taken))
  hand_at vs each k v e =
      let m = each k v e in
      (m.0, m.1, m.2, at_hand vs (λ j w at. let n = each j w at in (hand j false n.0 n.1, n.2)) k v (hand k false m.0 m.1) e m.2)

  pub complete : (v : View T) (vs : List (View T)) → v.hands ≡ hand (length vs) true [] [] ∷ hands_of vs → AreHands vs → IsComplete v
  complete v vs is each k = by (dec_le (length vs) k)
    where
      by : Dec (length vs ≤ k) → (j : ℕ) × (h : Hand T) × (get_elem? v.hands j ≡ some h) × Covers h k
      by (yes le) = (0, hand (length vs) true [] [], ap (λ hs. get_elem? hs 0) is, le)
      by (no gt) =
          let t = there vs k (lt_of_not-le gt) in
          let m = hand_at vs each k t.0 t.1 in
          (suc k, hand k false m.0 m.1, ap (λ hs. get_elem? hs (suc k)) is ∙ m.3, refl)

  pub orders : (v : View T) (vs : List (View T)) (left : List (Ticket T)) → v.hands ≡ hand (length vs) true [] [] ∷ hands_of vs → AreHands vs → Learned v left → IsOrder vs left
  orders v vs left is each learned = record {
    order = learned.0;
    puts = λ k u e. let m = hand_at vs each k u e in (learned.1 (suc k) (hand k false m.0 m.1) (ap (λ hs. get_elem? hs (suc k)) is ∙ m.3) k refl).0 ∙ ap put_in (sym m.2);
    takes = λ k u e. let m = hand_at vs each k u e in (learned.1 (suc k) (hand k false m.0 m.1) (ap (λ hs. get_elem? hs (suc k)) is ∙ m.3) k refl).1 ∙ ap taken_in (sym m.2);
    no_other = λ k le. learned.1 0 (hand (length vs) true [] []) (ap (λ hs. get_elem? hs 0) is) k le;
  }

  -- all passes were handed in to the one that had made them
  pub all_hands : (v m : View T) (vs : List (View T)) (n : ℕ) → v.hands ≡ m.hands ++ hands_of vs → m ≡ all_from n → length vs ≡ n → v.hands ≡ hand (length vs) true [] [] ∷ hands_of vs
  all_hands v m vs n knows is count = knows ∙ (ap (λ (u : View T). u.hands ++ hands_of vs) is ∙ ap (λ (k : ℕ). hand k true [] [] ∷ hands_of vs) (sym count))

-- ---- the hand of a party, as a test

both_true : (a b : Bool) → (a && b) ≡ true → (a ≡ true) × (b ≡ true)
both_true true b e = (refl, e)
both_true false b e = cc

not_true : (a : Bool) → not a ≡ true → a ≡ false
not_true true e = cc
not_true false e = refl

module _ {T : Type 0} where
  nil_is : (ts : List (Ticket T)) → is_nil ts ≡ true → ts ≡ []
  nil_is [] e = refl
  nil_is (t ∷ ts) e = cc

  one_is : (k : ℕ) (hs : List (Hand T)) → is_one k hs ≡ true → (put : List (Ticket T)) × (taken : List (Ticket T)) × (hs ≡ hand k false put taken ∷ [])
  one_is k [] e = cc
  one_is k (h ∷ []) e =
      let b = both_true (not h.rest) (h.party == k) e in
      (h.put, h.taken, λ i. record { party = eqb-true h.party k b.1 i; rest = not_true h.rest b.0 i; put = h.put; taken = h.taken } ∷ [])
  one_is k (h ∷ (g ∷ hs)) e = cc

  pub hand_is : (k : ℕ) (v : View T) → is_hand_of k v ≡ true → IsHandOf k v
  hand_is k v e =
      let a = both_true (is_one k v.hands) (not v.sure && is_nil v.known) e in
      let b = both_true (not v.sure) (is_nil v.known) a.1 in
      let o = one_is k v.hands a.0 in
      (o.0, o.1, λ i. record { hands = o.2 i; sure = not_true v.sure b.0 i; known = nil_is v.known b.1 i })

  pub hand_test : (k : ℕ) (v : View T) → IsHandOf k v → is_hand_of k v ≡ true
  hand_test k v m = ap (is_hand_of k) m.2 ∙ ap (λ (b : Bool). (true && b) && true) (eq-eqb k k refl)
