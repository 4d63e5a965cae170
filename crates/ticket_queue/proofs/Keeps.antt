-- Each move keeps the rule.
use Rattle.std.proofs.Common.{◌≡◌, ◌≢◌, ℕ, ◌+◌, ◌≤◌, Bool, true, false, true≢false, cond, List, [], ◌∷◌, ◌++◌, length, set, sym, refl, ap, ◌∙◌, subst, ⊎_elim, append_assoc, eq-eqb, ne_eqb, le_refl, arith}
use Rattle.std.specs.Prelude.{◌==◌, MatchBool}
use mathlib.Core.Option.{some, some-ne-none}
use mathlib.Core.List.{map-append}
use lib.ListN.{get_elem?}
use Rattle.crossbeam_queue.specs.Fifo.{Pushes, Pops, Forks, Merges, Learns}
use Rattle.crossbeam_queue.proofs.Lists.{at_set}
use Rattle.ticket_queue.specs.declared.ticket.Ticket.{Ticket}
use Rattle.ticket_queue.specs.declared.ticket.Hand.{Hand}
use Rattle.ticket_queue.specs.declared.ticket.View.{View}
use Rattle.ticket_queue.specs.Law.{put_by, tickets, taken_by, hand, one, all_from, none_yet, IsHandOf, dealt, fresh, both, spent, with_put, with_taken, sure_of, IsSo, Learned, AreAtHome, IsComplete, HasNoHand, LeftFirst, LeftNext, Kept}
use Rattle.ticket_queue.proofs.Places.{at_end, at_append, changed, added, own_put, other_put, own_taken, other_taken}

covers_own : (b : Bool) (k : ℕ) → MatchBool b (k ≤ k) (k ≡ k)
covers_own true k = le_refl k
covers_own false k = refl

module _ {T : Type 0} where
  abbrev Told : List (ℕ × Ticket T) → List (Ticket T) → ℕ → Hand T → Type 0
  Told order pushed q h = IsSo order pushed h

  abbrev Shut : (ℕ → ℕ) → List (Ticket T) → List (View T) → Type 0
  Shut homes items views = (p : ℕ) (v : View T) → get_elem? views p ≡ some v → v.sure ≡ true → (items ≡ v.known) × HasNoHand views × (homes 0 ≡ p)

  -- where a pass has a hand, none is sure
  not_sure : (homes : ℕ → ℕ) (items : List (Ticket T)) (views : List (View T)) (p : ℕ) (h : Hand T) → Shut homes items views → get_elem? views p ≡ some (one h) → (q : ℕ) (v : View T) → get_elem? views q ≡ some v → v.sure ≢ true
  not_sure homes items views p h shut at q v e sure = (shut q v e sure).1 p 0 (one h) h at refl

  -- then none is sure either after that pass has another hand
  still_shut : (homes : ℕ → ℕ) (items items' : List (Ticket T)) (views : List (View T)) (p : ℕ) (h g : Hand T) → Shut homes items views → get_elem? views p ≡ some (one h) → Shut homes items' (set views p (one g))
  still_shut homes items items' views p h g shut at q v e sure = ⊎_elim
      (λ (s : (q ≡ p) × (one g ≡ v)). absurd (true≢false (sym sure ∙ ap (λ (u : View T). u.sure) (sym s.1))))
      (λ (s : (q ≢ p) × (get_elem? views q ≡ some v)). absurd (not_sure homes items views p h shut at q v s.1 sure))
      (at_set views p q (one g) v e)

  pub begins : Kept [] (all_from {T = T} 0 ∷ [])
  begins = record {
    order = [];
    homes = λ z. 0;
    at_home = added (AreAtHome (λ z. 0)) [] (hand 0 true [] []) (λ z c. refl) (λ q j v h e here. absurd (some-ne-none v (sym e)));
    so = added (Told [] []) [] (hand 0 true [] []) (λ z c. (refl, refl)) (λ q j v h e here. absurd (some-ne-none v (sym e)));
    shut = λ q v e sure. ⊎_elim
        (λ (s : get_elem? [] q ≡ some v). absurd (some-ne-none v (sym s)))
        (λ (s : (q ≡ 0) × (all_from 0 ≡ v)). absurd (true≢false (sym sure ∙ ap (λ (u : View T). u.sure) (sym s.1))))
        (at_end [] (all_from 0) v q e);
  }

  puts_one : (n p : ℕ) (x : Ticket T) (put taken : List (Ticket T)) → Pushes Kept n p (one (hand x.party false put taken)) x (λ w. w ≡ one (hand x.party false (put ++ x ∷ []) taken))
  puts_one n p x put taken items views room kept at =
      let k : ℕ = x.party in
      let h : Hand T = hand k false put taken in
      let h' : Hand T = hand k false (put ++ x ∷ []) taken in
      let home : kept.homes k ≡ p = kept.at_home p 0 (one h) h at refl k refl in
      let mine : (put_by k (tickets kept.order ++ items) ≡ put) × (taken_by k kept.order ≡ taken) = kept.so p 0 (one h) h at refl k refl in
      let pushed : List (Ticket T) = tickets kept.order ++ items in
      let longer : tickets kept.order ++ (items ++ x ∷ []) ≡ pushed ++ x ∷ [] = sym (append_assoc (tickets kept.order) items (x ∷ [])) in (
        one h',
        record {
          order = kept.order;
          homes = kept.homes;
          at_home = changed (AreAtHome kept.homes) views p h' (λ z c. ap kept.homes (sym c) ∙ home) (λ q j v g other e here. kept.at_home q j v g e here);
          so = changed (Told kept.order (tickets kept.order ++ (items ++ x ∷ []))) views p h'
              (λ z c. subst (λ (y : ℕ). (put_by y (tickets kept.order ++ (items ++ x ∷ [])) ≡ put ++ x ∷ []) × (taken_by y kept.order ≡ taken)) c
              (ap (put_by k) longer ∙ (own_put pushed x ∙ ap (λ l. l ++ x ∷ []) mine.0), mine.1))
              (λ q j v g other e here z c.
              let old = kept.so q j v g e here z c in
              let ne : k ≢ z = λ (s : k ≡ z). other (sym (kept.at_home q j v g e here z c) ∙ (ap kept.homes (sym s) ∙ home)) in
              (ap (put_by z) longer ∙ (other_put pushed x z ne ∙ old.0), old.1));
          shut = still_shut kept.homes items (items ++ x ∷ []) views p h h' kept.shut at;
        },
        refl,
      )

  pub puts : (n p : ℕ) (v : View T) (x : Ticket T) → IsHandOf x.party v → Pushes Kept n p v x (λ w. w ≡ with_put v x)
  puts n p v x m = subst (λ (u : View T). Pushes Kept n p u x (λ w. w ≡ with_put u x)) (sym m.2) (puts_one n p x m.0 m.1)

  takes_one : (p k : ℕ) (put taken : List (Ticket T)) → Pops Kept p (one (hand k false put taken)) (λ x w. w ≡ one (hand k false put (taken ++ x ∷ [])))
  takes_one p k put taken x items views kept at =
      let h : Hand T = hand k false put taken in
      let h' : Hand T = hand k false put (taken ++ x ∷ []) in
      let home : kept.homes k ≡ p = kept.at_home p 0 (one h) h at refl k refl in
      let mine : (put_by k (tickets kept.order ++ x ∷ items) ≡ put) × (taken_by k kept.order ≡ taken) = kept.so p 0 (one h) h at refl k refl in
      let order : List (ℕ × Ticket T) = kept.order ++ (k, x) ∷ [] in
      let flat : tickets order ++ items ≡ tickets kept.order ++ x ∷ items =
      ap (λ l. l ++ items) (map-append (λ (e : ℕ × Ticket T). e.1) kept.order ((k, x) ∷ [])) ∙ append_assoc (tickets kept.order) (x ∷ []) items in (
        one h',
        record {
          order = order;
          homes = kept.homes;
          at_home = changed (AreAtHome kept.homes) views p h' (λ z c. ap kept.homes (sym c) ∙ home) (λ q j v g other e here. kept.at_home q j v g e here);
          so = changed (Told order (tickets order ++ items)) views p h'
              (λ z c. subst (λ (y : ℕ). (put_by y (tickets order ++ items) ≡ put) × (taken_by y order ≡ taken ++ x ∷ [])) c
              (ap (put_by k) flat ∙ mine.0, own_taken kept.order k x ∙ ap (λ l. l ++ x ∷ []) mine.1))
              (λ q j v g other e here z c.
              let old = kept.so q j v g e here z c in
              let ne : k ≢ z = λ (s : k ≡ z). other (sym (kept.at_home q j v g e here z c) ∙ (ap kept.homes (sym s) ∙ home)) in
              (ap (put_by z) flat ∙ old.0, other_taken kept.order k z x ne ∙ old.1));
          shut = still_shut kept.homes (x ∷ items) items views p h h' kept.shut at;
        },
        refl,
      )

  pub takes : (p k : ℕ) (v : View T) → IsHandOf k v → Pops Kept p v (λ x w. w ≡ with_taken v x)
  takes p k v m = subst (λ (u : View T). Pops Kept p u (λ x w. w ≡ with_taken u x)) (sym m.2) (takes_one p k m.0 m.1)

  forks_one : (p k : ℕ) → Forks Kept p (all_from {T = T} k) (all_from (k + 1)) (none_yet k)
  forks_one p k items views kept at =
      let l : List (View T) = set views p (all_from (k + 1)) in
      let n : ℕ = length l in
      let homes : ℕ → ℕ = λ z. cond (z == k) n (kept.homes z) in
      let home : (z : ℕ) → k ≤ z → kept.homes z ≡ p = λ z le. kept.at_home p 0 (all_from k) (hand k true [] []) at refl z le in
      let stays : (z : ℕ) → z ≢ k → homes z ≡ kept.homes z = λ z ne. ap (λ (b : Bool). cond b n (kept.homes z)) (ne_eqb z k ne) in
      let none : (z : ℕ) → k ≤ z → (put_by z (tickets kept.order ++ items) ≡ []) × (taken_by z kept.order ≡ []) = λ z le. kept.so p 0 (all_from k) (hand k true [] []) at refl z le in
      record {
        order = kept.order;
        homes = homes;
        at_home = added (AreAtHome homes) l (hand k false [] []) (λ z c. ap (λ (b : Bool). cond b n (kept.homes z)) (eq-eqb z k (sym c)))
            (changed (AreAtHome homes) views p (hand (k + 1) true [] [])
            (λ z (c : k + 1 ≤ z). stays z (λ (s : z ≡ k). omega (arith, s, c)) ∙ home z (omega (arith, c)))
            (λ q j v g other e here z c. stays z (λ (s : z ≡ k). other (sym (kept.at_home q j v g e here z c) ∙ (ap kept.homes s ∙ home k (le_refl k)))) ∙ kept.at_home q j v g e here z c));
        so = added (Told kept.order (tickets kept.order ++ items)) l (hand k false [] [])
            (λ z c. subst (λ (y : ℕ). (put_by y (tickets kept.order ++ items) ≡ []) × (taken_by y kept.order ≡ [])) c (none k (le_refl k)))
            (changed (Told kept.order (tickets kept.order ++ items)) views p (hand (k + 1) true [] []) (λ z (c : k + 1 ≤ z). none z (omega (arith, c))) (λ q j v g other e here. kept.so q j v g e here));
        shut = λ q v e sure. ⊎_elim
            (λ (s : get_elem? l q ≡ some v). absurd (⊎_elim
            (λ (t : (q ≡ p) × (all_from (k + 1) ≡ v)). true≢false (sym sure ∙ ap (λ (u : View T). u.sure) (sym t.1)))
            (λ (t : (q ≢ p) × (get_elem? views q ≡ some v)). not_sure kept.homes items views p (hand k true [] []) kept.shut at q v t.1 sure)
            (at_set views p q (all_from (k + 1)) v s)))
            (λ (s : (q ≡ n) × (none_yet k ≡ v)). absurd (true≢false (sym sure ∙ ap (λ (u : View T). u.sure) (sym s.1))))
            (at_end l (none_yet k) v q e);
      }

  pub forks : (p k : ℕ) (v : View T) → v ≡ all_from k → Forks Kept p v (dealt v) (fresh v)
  forks p k v is = subst (λ (u : View T). Forks Kept p u (dealt u) (fresh u)) (sym is) (forks_one p k)

  -- a fact of each hand, where the pass p takes in what o knows
  joined : (F : ℕ → Hand T → Type 0) (views : List (View T)) (p : ℕ) (v : View T) (o : ℕ) (u : View T)
      → ((j : ℕ) (g : Hand T) → get_elem? v.hands j ≡ some g → F p g)
      → ((j : ℕ) (g : Hand T) → get_elem? u.hands j ≡ some g → F p g)
      → ((q j : ℕ) (w : View T) (g : Hand T) → q ≢ o → get_elem? views q ≡ some w → get_elem? w.hands j ≡ some g → F q g)
      → (q j : ℕ) (w : View T) (g : Hand T) → get_elem? (set (set views p (both v u)) o spent) q ≡ some w → get_elem? w.hands j ≡ some g → F q g
  joined F views p v o u mine theirs others q j w g e here = ⊎_elim
      (λ (s : (q ≡ o) × (spent ≡ w)). absurd (some-ne-none g (sym (subst (λ (x : View T). get_elem? x.hands j ≡ some g) (sym s.1) here))))
      (λ (s : (q ≢ o) × (get_elem? (set views p (both v u)) q ≡ some w)). ⊎_elim
      (λ (t : (q ≡ p) × (both v u ≡ w)).
      let there : get_elem? (v.hands ++ u.hands) j ≡ some g = subst (λ (x : View T). get_elem? x.hands j ≡ some g) (sym t.1) here in
      subst (λ (y : ℕ). F y g) (sym t.0) (⊎_elim (λ (a : get_elem? v.hands j ≡ some g). mine j g a) (λ (a : (i : ℕ) × (get_elem? u.hands i ≡ some g)). theirs a.0 g a.1) (at_append v.hands u.hands j g there)))
      (λ (t : (q ≢ p) × (get_elem? views q ≡ some w)). others q j w g s.0 t.1 here)
      (at_set views p q (both v u) w s.1))
      (at_set (set views p (both v u)) o q spent w e)

  pub merges : (p : ℕ) (v : View T) (o : ℕ) (u : View T) → Merges Kept p v o u (both v u) spent
  merges p v o u items views kept at two at' =
      let was : get_elem? views o ≡ some u = ⊎_elim (λ (x : (o ≡ p) × (both v u ≡ u)). absurd (two x.0)) (λ (x : (o ≢ p) × (get_elem? views o ≡ some u)). x.1) (at_set views p o (both v u) u at') in
      let homes : ℕ → ℕ = λ z. cond (kept.homes z == o) p (kept.homes z) in
      let comes : (z : ℕ) → kept.homes z ≡ o → homes z ≡ p = λ z is. ap (λ (b : Bool). cond b p (kept.homes z)) (eq-eqb (kept.homes z) o is) in
      let stays : (z q : ℕ) → q ≢ o → kept.homes z ≡ q → homes z ≡ q =
      λ z q ne is. ap (λ (b : Bool). cond b p (kept.homes z)) (ne_eqb (kept.homes z) o (λ s. ne (sym is ∙ s))) ∙ is in
      record {
        order = kept.order;
        homes = homes;
        at_home = joined (AreAtHome homes) views p v o u
            (λ j g here z c. stays z p (λ s. two (sym s)) (kept.at_home p j v g at here z c))
            (λ j g here z c. comes z (kept.at_home o j u g was here z c))
            (λ q j w g ne e here z c. stays z q ne (kept.at_home q j w g e here z c));
        so = joined (Told kept.order (tickets kept.order ++ items)) views p v o u (λ j g here. kept.so p j v g at here) (λ j g here. kept.so o j u g was here) (λ q j w g ne e here. kept.so q j w g e here);
        shut = λ q w e sure. ⊎_elim
            (λ (s : (q ≡ o) × (spent ≡ w)). absurd (true≢false (sym sure ∙ ap (λ (x : View T). x.sure) (sym s.1))))
            (λ (s : (q ≢ o) × (get_elem? (set views p (both v u)) q ≡ some w)). ⊎_elim
            (λ (t : (q ≡ p) × (both v u ≡ w)). absurd (true≢false (sym sure ∙ ap (λ (x : View T). x.sure) (sym t.1))))
            (λ (t : (q ≢ p) × (get_elem? views q ≡ some w)).
            let old = kept.shut q w t.1 sure in
            (old.0, joined (λ y g. ⊥) views p v o u (λ j g here. old.1 p j v g at here) (λ j g here. old.1 o j u g was here) (λ y j x g ne e' here. old.1 y j x g e' here), stays 0 q s.0 old.2))
            (at_set views p q (both v u) w s.1))
            (at_set (set views p (both v u)) o q spent w e);
      }

  pub learns : (p : ℕ) (v : View T) → Learns Kept p v (Learned v)
  learns p v items views kept at = (kept.order, λ j h here. kept.so p j v h at here)

  -- ---- once all passes are handed in

  pub leaves_first : (p : ℕ) (v : View T) → IsComplete v → Pops Kept p v (LeftFirst v)
  leaves_first p v all x items views kept at =
      let w : View T = sure_of items in
      let none : HasNoHand (set views p w) = λ q j u h e here. ⊎_elim
      (λ (s : (q ≡ p) × (w ≡ u)). some-ne-none h (sym (subst (λ (y : View T). get_elem? y.hands j ≡ some h) (sym s.1) here)))
      (λ (s : (q ≢ p) × (get_elem? views q ≡ some u)).
      let mine = all h.party in
      s.0 (sym (kept.at_home q j u h s.1 here h.party (covers_own h.rest h.party)) ∙ kept.at_home p mine.0 v mine.1 at mine.2 h.party mine.3))
      (at_set views p q w u e) in (
        w,
        record {
          order = [];
          homes = kept.homes;
          at_home = λ q j u h e here. absurd (none q j u h e here);
          so = λ q j u h e here. absurd (none q j u h e here);
          shut = λ q u e sure. ⊎_elim
              (λ (s : (q ≡ p) × (w ≡ u)). let mine = all 0 in (ap (λ (y : View T). y.known) s.1, none, kept.at_home p mine.0 v mine.1 at mine.2 0 mine.3 ∙ sym s.0))
              (λ (s : (q ≢ p) × (get_elem? views q ≡ some u)).
              let mine = all 0 in
              absurd ((kept.shut q u s.1 sure).1 p mine.0 v mine.1 at mine.2))
              (at_set views p q w u e);
        },
        (items, refl, (kept.order, λ j h here. kept.so p j v h at here)),
      )

  pub leaves_next : (p : ℕ) (v : View T) → v.sure ≡ true → Pops Kept p v (LeftNext v)
  leaves_next p v sure x items views kept at =
      let w : View T = sure_of items in
      let old = kept.shut p v at sure in
      let none : HasNoHand (set views p w) = λ q j u h e here. ⊎_elim
      (λ (s : (q ≡ p) × (w ≡ u)). some-ne-none h (sym (subst (λ (y : View T). get_elem? y.hands j ≡ some h) (sym s.1) here)))
      (λ (s : (q ≢ p) × (get_elem? views q ≡ some u)). old.1 q j u h s.1 here)
      (at_set views p q w u e) in (
        w,
        record {
          order = [];
          homes = kept.homes;
          at_home = λ q j u h e here. absurd (none q j u h e here);
          so = λ q j u h e here. absurd (none q j u h e here);
          shut = λ q u e is. ⊎_elim
              (λ (s : (q ≡ p) × (w ≡ u)). (ap (λ (y : View T). y.known) s.1, none, old.2 ∙ sym s.0))
              (λ (s : (q ≢ p) × (get_elem? views q ≡ some u)). absurd (s.0 (sym (kept.shut q u s.1 is).2 ∙ old.2)))
              (at_set views p q w u e);
        },
        (items, sym old.0, refl),
      )

  pub learns_known : (p : ℕ) (v : View T) → v.sure ≡ true → Learns Kept p v (λ items. items ≡ v.known)
  learns_known p v sure items views kept at = (kept.shut p v at sure).0
