-- Each step of the lock preserves its rule.
use Rattle.std.proofs.Common.{◌≡◌, ◌≢◌, ◌⊎◌, ℕ, zero, suc, ◌+◌, ◌<◌, ◌≤◌, eqb, List, [], ◌∷◌, ◌++◌, length, get_or, set, Bool, true, false, cond, Option, Some, None, refl, sym, ap, ◌∙◌, subst, ⊎_elim, inl, inr, arith, eq-eqb, ne_eqb}
use mathlib.Core.Logic.{dite}
use mathlib.Core.Option.{some, none, some-ne-none, some-injective}
use mathlib.Core.Option as maybe
use native.Mathlib.Decide.{ℕ_discrete}
use lib.ListN.{get_elem?}
use prog.Atomic.{either}
use Rattle.atomic_table.specs.Table.{State, Me, Step, step, keeps, takes, gives, opening, rest, Allows, Enters, Splits, Joins, Final, Seen}
use Rattle.atomic_table.proofs.Lists.{at_set, at_snoc, set_again}
use Rattle.turn_lock.specs.declared.table.Role.{Role}
use Rattle.turn_lock.specs.declared.table.Role.TheVariants.{Spent, Dealer, Caller, Keeper}
use Rattle.turn_lock.specs.Turns.{words_with, slots_with, homes_with, Place, free, taken, word_of, home_at, out_at, IsHeld, Fits, Turning, dealt, next_pass, gathered, TookIf, Takes, Frees, Comes}

module _ {T D : Type 0} (part : T → ℕ → D) (callers : ℕ) (first : T) where
  abbrev R : Type 0
  R = Role T D

  abbrev St : Type 0
  St = State (Option T) R

  abbrev Rule : St → Type 0
  Rule = Turning part callers first

  -- the rule for each view after one of them changed
  fits_set : (K : ℕ → R → Type 0) (views : List R) (me : ℕ) (w : R) → ((j : ℕ) (u : R) → j ≢ me → get_elem? views j ≡ some u → K j u) → K me w → (j : ℕ) (u : R) → get_elem? (set views me w) j ≡ some u → K j u
  fits_set K views me w others mine j u e =
      ⊎_elim
      (λ (t : (j ≡ me) × (w ≡ u)). subst (λ (x : ℕ × R). K x.0 x.1) (λ i. (sym t.0 i, t.1 i)) mine)
      (λ (t : (j ≢ me) × (get_elem? views j ≡ some u)). others j u t.0 t.1)
      (at_set views me j w u e)

  pub begins : Rule (opening (words_with 0) (slots_with (Some first)) (Dealer 0 first))
  begins = record {
    at = free;
    value = first;
    seat = λ _. none;
    made = 0;
    word_is = refl;
    home_is = refl;
    held = tt;
    seated = λ q id e. absurd (some-ne-none id (sym e));
    few = omega arith;
    unmade = λ q h. refl;
    each = alone;
  }
    where
      alone : (id : ℕ) (w : R) → get_elem? (Dealer 0 first ∷ []) id ≡ some w → Fits part free first first (λ _. none) 0 id w
      alone zero w e = subst (Fits part free first first (λ _. none) 0 0) (some-injective _ _ e) (refl, refl, refl)
      alone (suc id) w e = absurd (some-ne-none w (sym e))

  -- the other views still hold
  others_fit : (at at' : Place) (x x' : T) (seat seat' : ℕ → maybe.Option ℕ) (made made' j : ℕ)
      → (j ≡ 0 → made ≡ made')
      → ((q : ℕ) → seat q ≡ some j → (seat' q ≡ some j) × (part x q ≡ part x' q) × (out_at at q x ≡ out_at at' q x'))
      → ((q : ℕ) → seat q ≡ none → q < made → (seat' q ≡ none) × (q < made') × (part x q ≡ part x' q))
      → (u : R) → Fits part at first x seat made j u → Fits part at' first x' seat' made' j u
  others_fit at at' x x' seat seat' made made' j deal call keep Spent f = tt
  others_fit at at' x x' seat seat' made made' j deal call keep (Dealer m y) f = (f.0 ∙ deal f.2, f.1, f.2)
  others_fit at at' x x' seat seat' made made' j deal call keep (Caller q d o) f = let c = call q f.0 in (c.0, f.1 ∙ c.1, f.2 ∙ c.2)
  others_fit at at' x x' seat seat' made made' j deal call keep (Keeper known) f = λ k e is. let g = f k e is in let h = keep e.0 g.0 g.1 in (h.0, h.1, g.2 ∙ h.2)

  -- the seats of the callers, with the next one at n
  abbrev with_next : (ℕ → maybe.Option ℕ) → ℕ → ℕ → ℕ → maybe.Option ℕ
  with_next seat made n q = cond (eqb q made) (some n) (seat q)

  -- the seats of the callers, without the caller p
  abbrev without : (ℕ → maybe.Option ℕ) → ℕ → ℕ → maybe.Option ℕ
  without seat p q = cond (eqb q p) none (seat q)

  at_end : {A : Type 0} (l : List A) (a b : A) (j : ℕ) → get_elem? (l ++ a ∷ []) j ≡ some b → (get_elem? l j ≡ some b) ⊎ ((j ≡ length l) × (a ≡ b))
  at_end [] a b zero e = inr (refl, some-injective a b e)
  at_end [] a b (suc j) e = absurd (some-ne-none b (sym e))
  at_end (x ∷ xs) a b zero e = inl e
  at_end (x ∷ xs) a b (suc j) e = ⊎_elim inl (λ t. inr (ap suc t.0, t.1)) (at_end xs a b j e)

  apart : {A : Type 0} (p q : ℕ) (a b : A) → p ≢ q → cond (eqb p q) a b ≡ b
  apart p q a b ne = rw (ne_eqb p q ne) refl

  same : {A : Type 0} (p : ℕ) (a b : A) → cond (eqb p p) a b ≡ a
  same p a b = rw (eq-eqb p p refl) refl

  -- whoever has no pass doesn't have the value
  no_turn : (at : Place) (seat : ℕ → maybe.Option ℕ) (made : ℕ) (x : T) → IsHeld seat at → ((q j : ℕ) → seat q ≡ some j → q < made) → None ≡ out_at at made x
  no_turn free seat made x h below = refl
  no_turn (taken p) seat made x h below = let b = below p h.0 h.1 in sym (apart p made (Some x) None (λ e. omega arith))

  held_next : (at : Place) (seat : ℕ → maybe.Option ℕ) (made n : ℕ) → IsHeld seat at → ((q j : ℕ) → seat q ≡ some j → q < made) → IsHeld (with_next seat made n) at
  held_next free seat made n h below = tt
  held_next (taken p) seat made n h below = let b = below p h.0 h.1 in (h.0, apart p made (some n) (seat p) (λ e. omega arith) ∙ h.1)

  pub deals : (id m : ℕ) (y : T) → m < callers → Splits Rule id (Dealer m y) (Dealer (m + 1) y) (Caller m (part y m) None)
  deals id m y more s r there =
      let d = r.each id (Dealer m y) there in
      let views = set s.views id (Dealer (m + 1) y) in
      let n : ℕ = length views in
      let m_is = d.0 in
      let seat' = with_next r.seat m n in
      let K : ℕ → R → Type 0 = Fits part r.at first r.value seat' (m + 1) in
      let seated : (q j : ℕ) → r.seat q ≡ some j → q < m = λ q j e. let b = r.seated q j e in omega arith in
      record {
        at = r.at;
        value = r.value;
        seat = seat';
        made = m + 1;
        word_is = r.word_is;
        home_is = r.home_is;
        held = held_next r.at r.seat m n r.held seated;
        seated = λ q j e. dite (ℕ_discrete q m) (λ is. omega arith) (λ ne. let b = seated q j (sym (apart q m (some n) (r.seat q) ne) ∙ e) in omega arith);
        few = omega arith;
        unmade = λ q h. r.unmade q (omega arith);
        each = λ j u e. ⊎_elim
            (λ (was : get_elem? views j ≡ some u). fits_set K s.views id (Dealer (m + 1) y)
            (λ i v other is. others_fit r.at r.at r.value r.value r.seat seat' r.made (m + 1) i
            (λ z. absurd (other (z ∙ sym d.2)))
            (λ q e'. (apart q m (some n) (r.seat q) (λ is'. let b = seated q i e' in omega arith) ∙ e', refl, refl))
            (λ q e' lt. (apart q m (some n) (r.seat q) (λ is'. omega arith) ∙ e', omega arith, refl))
            v (r.each i v is))
            (refl, d.1, d.2) j u was)
            (λ (t : (j ≡ n) × (Caller m (part y m) None ≡ u)). subst (K j) t.1 (same m (some n) (r.seat m) ∙ ap some (sym t.0), ap (λ (z : T). part z m) d.1 ∙ sym (r.unmade m (omega arith)), no_turn r.at r.seat m r.value r.held seated))
            (at_end views (Caller m (part y m) None) u j e);
      }

  free_word : (at : Place) → word_of at ≡ 0 → at ≡ free
  free_word free e = refl
  free_word (taken q) e = absurd (omega arith)

  some_none : (x : T) → None ≡ Some x → ⊥
  some_none x e = cc

  -- a caller with the value in hand has the turn
  has_turn : (at : Place) (q : ℕ) (x y : T) → Some x ≡ out_at at q y → (at ≡ taken q) × (x ≡ y)
  has_turn free q x y e = absurd (some_none x (sym e))
  has_turn (taken p) q x y e = dite (ℕ_discrete p q)
      (λ is. let f : Some x ≡ Some y = e ∙ (ap (λ (z : ℕ). cond (eqb z q) (Some y) None) is ∙ same q (Some y) None) in (ap taken is, cc))
      (λ ne. absurd (some_none x (sym (e ∙ apart p q (Some y) None ne))))

  pub takes_turn : (slots : ℕ) (id q : ℕ) (d : D) (then : ℕ → Me (Option T) R → Type 0)
      → ((n : ℕ) (m' : Me (Option T) R) → TookIf part q d (eqb n 0) m' → then n m')
      → Allows Rule slots id (Caller q d None, []) 8 (λ n. either (eqb n 0) (suc q) n) then
  takes_turn slots id q d then tells s r _ there _ = dite (ℕ_discrete (word_of r.at) 0)
      (λ zero_word.
      let is_free = free_word r.at zero_word in
      let n : get_or s.words 8 0 ≡ 0 = ap (λ ws. get_or ws 8 0) r.word_is ∙ zero_word in
      let mine = r.each id (Caller q d None) there in
      let here : s.homes ≡ homes_with (some (Some r.value)) = r.home_is ∙ ap (λ (a : Place). homes_with (home_at a r.value)) is_free in
      let w : R = Caller q d (Some r.value) in
      let K : ℕ → R → Type 0 = Fits part (taken q) first r.value r.seat r.made in (
        w,
        takes 4 (Some r.value),
        ap (λ hs. get_elem? hs 4) here,
        record {
          at = taken q;
          value = r.value;
          seat = r.seat;
          made = r.made;
          word_is = ap (λ (k : ℕ). set s.words 8 (either (eqb k 0) (suc q) k)) n ∙ ap (λ ws. set ws 8 (suc q)) r.word_is;
          home_is = ap (λ hs. set hs 4 none) here;
          held = (id, mine.0);
          seated = r.seated;
          few = r.few;
          unmade = r.unmade;
          each = fits_set K s.views id w
              (λ i v other is. others_fit r.at (taken q) r.value r.value r.seat r.seat r.made r.made i
              (λ _. refl)
              (λ p e. (e, refl, ap (λ (a : Place). out_at a p r.value) is_free ∙ sym (apart q p (Some r.value) None (λ qp. other (some-injective _ _ (sym e ∙ (ap r.seat (sym qp) ∙ mine.0)))))))
              (λ p e lt. (e, lt, refl))
              v (r.each i v is))
              (mine.0, mine.1, sym (same q (Some r.value) None));
        },
        tells _ _ (subst (λ (b : Bool). TookIf part q d b (w, (4, Some r.value) ∷ [])) (sym (eq-eqb (get_or s.words 8 0) 0 n)) (r.value, refl, mine.1)),
      ))
      (λ other_word.
      let n : get_or s.words 8 0 ≢ 0 = λ z. other_word (ap (λ ws. get_or ws 8 0) (sym r.word_is) ∙ z) in
      let no : eqb (get_or s.words 8 0) 0 ≡ false = ne_eqb _ _ n in (
        Caller q d None,
        keeps,
        tt,
        record {
          at = r.at;
          value = r.value;
          seat = r.seat;
          made = r.made;
          word_is = ap (λ (b : Bool). set s.words 8 (either b (suc q) (get_or s.words 8 0))) no ∙ ap (λ ws. set ws 8 (get_or ws 8 0)) r.word_is;
          home_is = r.home_is;
          held = r.held;
          seated = r.seated;
          few = r.few;
          unmade = r.unmade;
          each = subst (λ vs. (i : ℕ) (v : R) → get_elem? vs i ≡ some v → Fits part r.at first r.value r.seat r.made i v) (sym (set_again s.views id (Caller q d None) there)) r.each;
        },
        tells _ _ (subst (λ (b : Bool). TookIf part q d b (Caller q d None, [])) (sym no) refl),
      ))

  abbrev caller_number : ℕ → R → ℕ
  caller_number z (Caller q d o) = q
  caller_number z r = z

  abbrev caller_part : D → R → D
  caller_part z (Caller q d o) = d
  caller_part z r = z

  -- the effects of the steps don't depend on a step's operands
  abbrev any_step : Step (Option T)
  any_step = step 0 0 0 0 none

  pub takes_as : (slots id q mine : ℕ) (d : D) (me : Me (Option T) R) → mine ≡ suc q → me ≡ (Caller q d None, []) → Allows Rule slots id me 8 (λ n. either (eqb n 0) mine n) (Takes part any_step me)
  takes_as slots id q mine d me one_more is =
      subst (λ (m : ℕ × Me (Option T) R). Allows Rule slots id m.1 8 (λ n. either (eqb n 0) m.0 n) (Takes part any_step m.1)) (λ i. (sym one_more i, sym is i))
      (takes_turn slots id q d (Takes part any_step (Caller q d None, [])) (λ n m' took p c e.
      subst (λ (x : ℕ × D). TookIf part x.0 x.1 (eqb n 0) m') (λ i. (caller_number q (e i).0, caller_part d (e i).0)) took))

  frees_turn : (slots : ℕ) (id q : ℕ) (d : D) (x y : T) → ((p : ℕ) → p ≢ q → part y p ≡ part x p)
      → (then : ℕ → Me (Option T) R → Type 0) → ((n : ℕ) → then n (Caller q (part y q) None, []))
      → Allows Rule slots id (Caller q d (Some x), (4, Some y) ∷ []) 8 (λ _. 0) then
  frees_turn slots id q d x y others then tells s r _ there _ =
      let mine = r.each id (Caller q d (Some x)) there in
      let turn = has_turn r.at q x r.value mine.2 in
      let w : R = Caller q (part y q) None in
      let K : ℕ → R → Type 0 = Fits part free first y r.seat r.made in (
        w,
        gives,
        tt,
        record {
          at = free;
          value = y;
          seat = r.seat;
          made = r.made;
          word_is = ap (λ ws. set ws 8 0) r.word_is;
          home_is = ap (λ hs. set hs 4 (some (Some y))) r.home_is;
          held = tt;
          seated = r.seated;
          few = r.few;
          unmade = λ p h. let ne : p ≢ q = λ pq. let b = r.seated q id mine.0 in omega arith in others p ne ∙ ap (λ (z : T). part z p) turn.1 ∙ r.unmade p h;
          each = fits_set K s.views id w
              (λ i v other is. others_fit r.at free r.value y r.seat r.seat r.made r.made i
              (λ _. refl)
              (λ p e. let ne : p ≢ q = λ pq. other (some-injective _ _ (sym e ∙ (ap r.seat pq ∙ mine.0))) in
              (e, ap (λ (z : T). part z p) (sym turn.1) ∙ sym (others p ne), ap (λ (a : Place). out_at a p r.value) turn.0 ∙ apart q p (Some r.value) None (λ qp. ne (sym qp))))
              (λ p e lt. let ne : p ≢ q = λ pq. some-ne-none id (sym mine.0 ∙ (ap r.seat (sym pq) ∙ e)) in
              (e, lt, ap (λ (z : T). part z p) (sym turn.1) ∙ sym (others p ne)))
              v (r.each i v is))
              (mine.0, refl, refl);
        },
        tells _,
      )

  abbrev value_in : T → Option T → T
  value_in z (Some v) = v
  value_in z None = z

  abbrev first_of : T → List (ℕ × Option T) → T
  first_of z [] = z
  first_of z (c ∷ cs) = value_in z c.1

  pub frees_as : (slots : ℕ) (id q : ℕ) (d : D) (x y : T) (me : Me (Option T) R) → me ≡ (Caller q d (Some x), (4, Some y) ∷ []) → ((p : ℕ) → p ≢ q → part y p ≡ part x p)
      → Allows Rule slots id me 8 (λ _. 0) (λ _. Frees part any_step me 0)
  frees_as slots id q d x y me is others =
      subst (λ (m : Me (Option T) R). Allows Rule slots id m 8 (λ _. 0) (λ _. Frees part any_step m 0)) (sym is)
      (frees_turn slots id q d x y others (λ _. Frees part any_step (Caller q d (Some x), (4, Some y) ∷ []) 0) (λ n p c v u e.
      λ i. (Caller (caller_number q (e i).0) (part (first_of y (e i).1) (caller_number q (e i).0)) None, [])))

  -- a keeper with no pass may come at any time
  pub comes : (slots i : ℕ) (then : ℕ → R → Type 0) → ((n : ℕ) → then n (Keeper [])) → Enters Rule slots i then
  comes slots i then tells s r _ _ = (
    Keeper [],
    record {
      at = r.at;
      value = r.value;
      seat = r.seat;
      made = r.made;
      word_is = r.word_is;
      home_is = r.home_is;
      held = r.held;
      seated = r.seated;
      few = r.few;
      unmade = r.unmade;
      each = λ j u e. ⊎_elim (r.each j u) (λ (t : Keeper [] ≡ u). subst (Fits part r.at first r.value r.seat r.made j) t none_known) (at_snoc s.views (Keeper []) u j e);
    },
    tells _,
  )
    where
      none_known : (k : ℕ) (e : ℕ × D) → get_elem? [] k ≡ some e → (r.seat e.0 ≡ none) × (e.0 < r.made) × (e.1 ≡ part r.value e.0)
      none_known k e is = absurd (some-ne-none e (sym is))

  pub joins : (id : ℕ) (known : List (ℕ × D)) (other q : ℕ) (d : D) → Joins Rule id (Keeper known) other (Caller q d None) (Keeper (known ++ (q, d) ∷ [])) Spent
  joins id known other q d s r there ne that =
      let w : R = Keeper (known ++ (q, d) ∷ []) in
      let was = ⊎_elim (λ (t : (other ≡ id) × (w ≡ Caller q d None)). absurd (ne t.0)) (λ (t : (other ≢ id) × (get_elem? s.views other ≡ some (Caller q d None))). t.1) (at_set s.views id other w (Caller q d None) that) in
      let theirs = r.each other (Caller q d None) was in
      let mine = r.each id (Keeper known) there in
      let seat' = without r.seat q in
      let K : ℕ → R → Type 0 = Fits part r.at first r.value seat' r.made in
      let elsewhere : (p j : ℕ) → r.seat p ≡ some j → j ≢ other → p ≢ q = λ p j e no pq. no (some-injective _ _ (sym e ∙ (ap r.seat pq ∙ theirs.0))) in
      let gone : (p : ℕ) → r.seat p ≡ none → seat' p ≡ none = λ p e. dite (ℕ_discrete p q) (λ is. ap (λ (z : ℕ). without r.seat q z) is ∙ same q none (r.seat q)) (λ no. apart p q none (r.seat p) no ∙ e) in
      let step_fit : (j : ℕ) (u : R) → j ≢ other → Fits part r.at first r.value r.seat r.made j u → K j u = λ j u no. others_fit r.at r.at r.value r.value r.seat seat' r.made r.made j
      (λ _. refl)
      (λ p e. (apart p q none (r.seat p) (elsewhere p j e no) ∙ e, refl, refl))
      (λ p e lt. (gone p e, lt, refl)) u in
      record {
        at = r.at;
        value = r.value;
        seat = seat';
        made = r.made;
        word_is = r.word_is;
        home_is = r.home_is;
        held = still_held r.at r.seat r.value theirs.2 r.held;
        seated = λ p j e. dite (ℕ_discrete p q) (λ is. absurd (some-ne-none j (sym e ∙ (ap (λ (z : ℕ). without r.seat q z) is ∙ same q none (r.seat q))))) (λ no. r.seated p j (sym (apart p q none (r.seat p) no) ∙ e));
        few = r.few;
        unmade = r.unmade;
        each = fits_set K (set s.views id w) other Spent
            (λ j u no e. fits_set (λ i v. i ≢ other → K i v) s.views id w (λ i v _ is no'. step_fit i v no' (r.each i v is))
            (λ _ k e' at. ⊎_elim
            (λ (old : get_elem? known k ≡ some e'). let m = mine k e' old in (gone e'.0 m.0, m.1, m.2))
            (λ (new : (q, d) ≡ e'). subst (λ (z : ℕ × D). (seat' z.0 ≡ none) × (z.0 < r.made) × (z.1 ≡ part r.value z.0)) new (same q none (r.seat q), r.seated q other theirs.0, theirs.1))
            (at_snoc known (q, d) e' k at))
            j u e no)
            tt;
      }
    where
      still_held : (at : Place) (seat : ℕ → maybe.Option ℕ) (x : T) → None ≡ out_at at q x → IsHeld seat at → IsHeld (without seat q) at
      still_held free seat x out h = tt
      still_held (taken p) seat x out h = dite (ℕ_discrete p q)
          (λ is. absurd (some_none x (out ∙ (ap (λ (z : ℕ). cond (eqb z q) (Some x) None) is ∙ same q (Some x) None))))
          (λ no. (h.0, apart p q none (seat p) no ∙ h.1))

  pub deals_as : (id m : ℕ) (y : T) (v : R) → v ≡ Dealer m y → m < callers → Splits Rule id v (dealt part v) (next_pass part v)
  deals_as id m y v is more = subst (λ (u : R). Splits Rule id u (dealt part u) (next_pass part u)) (sym is) (deals id m y more)

  pub joins_as : (id : ℕ) (known : List (ℕ × D)) (v : R) (other q : ℕ) (d : D) (u : R) → v ≡ Keeper known → u ≡ Caller q d None → Joins Rule id v other u (gathered v u) Spent
  joins_as id known v other q d u is_v is_u = subst (λ (z : R × R). Joins Rule id z.0 other z.1 (gathered z.0 z.1) Spent) (λ i. (sym is_v i, sym is_u i)) (joins id known other q d)

  -- the entry of each caller is among these
  abbrev pub AllKnown : List (ℕ × D) → Type 0
  AllKnown known = (q : ℕ) → q < callers → (k : ℕ) × (e : ℕ × D) × (get_elem? known k ≡ some e) × (e.0 ≡ q)

  -- if every pass was handed in, the value is in the slot, and each caller's pass knew its part of it
  pub ends : (id : ℕ) (known : List (ℕ × D)) (v : R) (ws : List ℕ) (xs : List (Option T)) → v ≡ Keeper known → Final (Seen Rule id v) ws xs → AllKnown known
      → (x : T) × (get_elem? xs 4 ≡ some (Some x)) × ((k : ℕ) (e : ℕ × D) → get_elem? known k ≡ some e → e.1 ≡ part x e.0) × ((q : ℕ) → callers ≤ q → part x q ≡ part first q)
  ends id known v ws xs is f all =
      let s = f.0 in
      let r = f.1.0 in
      let mine = r.each id (Keeper known) (f.1.1 ∙ ap some is) in (
        r.value,
        f.4 4 (Some r.value) (ap (λ hs. get_elem? hs 4) r.home_is ∙ ap some (at_home r.at r.held (λ q j e. let k = all q (let b = r.seated q j e in let c = r.few in omega arith) in
            some-ne-none j (sym e ∙ (ap r.seat (sym k.3) ∙ (mine k.0 k.1 k.2).0))))),
        λ k e there. (mine k e there).2,
        λ q h. let c = r.few in r.unmade q (omega arith),
      )
    where
      at_home : {x : T} {seat : ℕ → maybe.Option ℕ} (at : Place) → IsHeld seat at → ((q j : ℕ) → seat q ≡ some j → ⊥) → home_at at x ≡ some (Some x)
      at_home free h never = refl
      at_home (taken q) h never = absurd (never q h.0 h.1)

  -- no slot but the one that is used has a value
  pub spares : (id : ℕ) (v : R) (ws : List ℕ) (xs : List (Option T)) → Final (Seen Rule id v) ws xs → (k : ℕ) → k ≢ 4 → k < 8 → get_elem? xs k ≡ some None
  spares id v ws xs f k other below = f.4 k None (ap (λ hs. get_elem? hs k) f.1.0.home_is ∙ at_spare (home_at f.1.0.at f.1.0.value) k other below)
    where
      at_spare : (home : maybe.Option (Option T)) (k : ℕ) → k ≢ 4 → k < 8 → get_elem? (homes_with home) k ≡ some (some None)
      at_spare home zero other below = refl
      at_spare home (suc zero) other below = refl
      at_spare home (suc (suc zero)) other below = refl
      at_spare home (suc (suc (suc zero))) other below = refl
      at_spare home (suc (suc (suc (suc zero)))) other below = absurd (other refl)
      at_spare home (suc (suc (suc (suc (suc zero))))) other below = refl
      at_spare home (suc (suc (suc (suc (suc (suc zero)))))) other below = refl
      at_spare home (suc (suc (suc (suc (suc (suc (suc zero))))))) other below = refl
      at_spare home (suc (suc (suc (suc (suc (suc (suc (suc k)))))))) other below = absurd (omega arith)

  -- if the word was free, the caller has the value; otherwise nothing changed
  pub took : (q : ℕ) (d : D) (me m' : Me (Option T) R) (n : ℕ) → Takes part any_step me n m' → me ≡ (Caller q d None, []) → n ≡ 0 → TookIf part q d true m'
  took q d me m' n told is zero_word = subst (λ (b : Bool). TookIf part q d b m') (eq-eqb n 0 zero_word) (told q d is)

  pub waits : (q : ℕ) (d : D) (me m' : Me (Option T) R) (n : ℕ) → Takes part any_step me n m' → me ≡ (Caller q d None, []) → n ≢ 0 → m' ≡ me
  waits q d me m' n told is other = let same_as : TookIf part q d false m' = subst (λ (b : Bool). TookIf part q d b m') (ne_eqb n 0 other) (told q d is) in same_as ∙ sym is

  -- a caller that takes the turn finds the value in the slot
  pub finds : (q : ℕ) (d : D) (me m : Me (Option T) R) (n : ℕ) (r : Option T) → Takes part any_step me n m → me ≡ (Caller q d None, []) → n ≡ 0 → m.1 ≡ (4, r) ∷ rest m.1
      → (x : T) × (r ≡ Some x) × (m ≡ (Caller q d (Some x), (4, Some x) ∷ [])) × (d ≡ part x q)
  finds q d me m n r told is zero_word slot =
      let t = took q d me m n told is zero_word in
      let same_slot : (4, r) ∷ rest m.1 ≡ (4, Some t.0) ∷ [] = sym slot ∙ ap (λ (z : Me (Option T) R). z.1) t.1 in
      (t.0, ap (λ (l : List (ℕ × Option T)). value_at r l) same_slot, t.1, t.2)
    where
      value_at : Option T → List (ℕ × Option T) → Option T
      value_at z [] = z
      value_at z (c ∷ cs) = c.1

  pub has : (q : ℕ) (d : D) (me m m' : Me (Option T) R) (n : ℕ) (r : Option T) (x : T) → Takes part any_step me n m → me ≡ (Caller q d None, []) → n ≡ 0 → m.1 ≡ (4, r) ∷ rest m.1 → r ≡ Some x → m' ≡ (m.0, (4, None) ∷ rest m.1)
      → (m' ≡ (Caller q d (Some x), (4, None) ∷ [])) × (d ≡ part x q)
  has q d me m m' n r x told is zero_word slot value after =
      let f = finds q d me m n r told is zero_word slot in
      let one : Some f.0 ≡ Some x = sym f.1 ∙ value in
      let x_is : f.0 ≡ x = cc in
      (after ∙ ap (λ (z : Me (Option T) R). (z.0, (4, None) ∷ rest z.1)) f.2 ∙ ap (λ (z : T). (Caller q d (Some z), (4, None) ∷ [])) x_is, f.3 ∙ ap (λ (z : T). part z q) x_is)

  pub comes_alone : (slots i : ℕ) → Enters Rule slots i (λ n w. Comes any_step (Spent, []) n (w, []))
  comes_alone slots i = comes slots i (λ n w. Comes any_step (Spent, []) n (w, [])) (λ n. refl)
