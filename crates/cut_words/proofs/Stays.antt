-- What stays true of a word through steps.
use Rattle.std.proofs.Common.{◌≡◌, ◌≢◌, ℕ, zero, suc, ◌<◌, List, [], ◌∷◌, ◌++◌, length, get_or, Option, Some, None, unwrap_or, refl, sym, ap, ◌∙◌, subst, arith, inl, inr}
use Rattle.std.specs.List.{All}
use Rattle.std.proofs.Math.ListN.{set}
use Rattle.std.proofs.lemmas.Bool.{cases_eq, cases_lt}
use Rattle.std.proofs.lemmas.List.{get_or-set_same, get_or-set_other, get_or_past, set_past, length-set}
use Rattle.std.proofs.lemmas.List.Elements.{All-nil, All-cons, All-head, All-tail, All-append, All-map}
use Rattle.cut_words.specs.Words.{Words, Step, store, keep, seen_at, stepped, after}
use Rattle.cut_words.specs.Groups.{stores, keeps, group, written, NotIn}

-- a property of an element and of its replacement holds after the replacement
pub put_elim : {A : Type 0} (P : A → Type 0) (d : A) (xs : List A) (j i : ℕ) (v : A) → P (get_or xs i d) → (j ≡ i → P v) → P (get_or (set xs j v) i d)
put_elim {A} P d xs j i v was new =
    elim (cases_eq i j) [
      | inl same ↦ elim (cases_lt i (length xs)) [
        | inl inside ↦ subst P (sym (get_or-set_same xs i v d inside) ∙ ap (λ (k : ℕ). get_or (set xs k v) i d) same) (new (sym same))
        | inr past ↦ subst P (ap (λ (ys : List A). get_or ys i d) (sym (set_past xs j v (omega (arith, same))))) was
      ]
      | inr other ↦ subst P (sym (get_or-set_other xs j i v d other)) was
    ]

-- a step stores only values with the property into the word
abbrev pub Fits : (ℕ → Type 0) → ℕ → Step → Type 0
Fits P i (store j v) = j ≡ i → P v
Fits P i (keep j) = Unit {0}

-- a property of both the visible and the kept value of a word
pub record Holds (P : ℕ → Type 0) (i : ℕ) (words : Words) : Type 0 where
  pub seen : P (seen_at words i)
  pub kept : P (get_or words.kept i 0)

-- a load returns the stored value, or the kept one
abbrev shown : ℕ → Option ℕ → ℕ
shown kept stored = unwrap_or stored kept

seen_stored : (P : ℕ → Type 0) (words : Words) (i j v : ℕ) → P (seen_at words i) → (j ≡ i → P v) → P (seen_at (stepped words (store j v)) i)
seen_stored P words i j v was new = put_elim (λ o. P (shown (get_or words.kept i 0) o)) None words.stored j i (Some v) was new

-- a property of the new kept value holds if nothing was stored
shown_elim : (P : ℕ → Type 0) (kept kept' : ℕ) (stored : Option ℕ) → P kept' → P (shown kept stored) → P (shown kept' stored)
shown_elim P kept kept' None new was = new
shown_elim P kept kept' (Some v) new was = was

seen_kept : (P : ℕ → Type 0) (words : Words) (i j : ℕ) → P (get_or (stepped words (keep j)).kept i 0) → P (seen_at words i) → P (seen_at (stepped words (keep j)) i)
seen_kept P words i j new was =
    put_elim (λ o. P (shown (get_or (set words.kept j (seen_at words j)) i 0) o)) None words.stored j i None
    (shown_elim P (get_or words.kept i 0) (get_or (set words.kept j (seen_at words j)) i 0) (get_or words.stored i None) new was) (λ e. new)

step_holds : (P : ℕ → Type 0) (i : ℕ) (step : Step) (words : Words) → Fits P i step → Holds P i words → Holds P i (stepped words step)
step_holds P i (store j v) words fits h = record { seen = seen_stored P words i j v h.seen fits; kept = h.kept }
step_holds P i (keep j) words fits h =
    let kept : P (get_or (set words.kept j (seen_at words j)) i 0) =
    put_elim P 0 words.kept j i (seen_at words j) h.kept (λ same. subst (λ (k : ℕ). P (seen_at words k)) (sym same) h.seen) in
    record { seen = seen_kept P words i j kept h.seen; kept = kept }

pub stays : (P : ℕ → Type 0) (i : ℕ) (steps : List Step) (words : Words) → All (Fits P i) steps → Holds P i words → Holds P i (after words steps)
unfolding after
stays P i [] words fits h = h
stays P i (step ∷ steps) words fits h = stays P i steps (stepped words step) (All-tail (Fits P i) step steps fits) (step_holds P i step words (All-head (Fits P i) step steps fits) h)

pub after-append : (xs ys : List Step) (words : Words) → after words (xs ++ ys) ≡ after (after words xs) ys
unfolding after
after-append [] ys words = refl
after-append (x ∷ xs) ys words = after-append xs ys (stepped words x)

pub length_kept : (steps : List Step) (words : Words) → length (after words steps).kept ≡ length words.kept
unfolding after
length_kept [] words = refl
length_kept (store i v ∷ steps) words = length_kept steps (stepped words (store i v))
length_kept (keep i ∷ steps) words = length_kept steps (stepped words (keep i)) ∙ length-set words.kept i (seen_at words i)

pub length_stored : (steps : List Step) (words : Words) → length (after words steps).stored ≡ length words.stored
unfolding after
length_stored [] words = refl
length_stored (store i v ∷ steps) words = length_stored steps (stepped words (store i v)) ∙ length-set words.stored i (Some v)
length_stored (keep i ∷ steps) words = length_stored steps (stepped words (keep i)) ∙ length-set words.stored i None

-- ---- what a group's steps fit

pub stores_fit : (P : ℕ → Type 0) (i : ℕ) (final places : List ℕ) → All (λ p. p ≡ i → P (get_or final p 0)) places → All (Fits P i) (stores final places)
stores_fit P i final places h = All-map (Fits P i) (λ p. store p (get_or final p 0)) places h

pub keeps_fit : (P : ℕ → Type 0) (i : ℕ) (places : List ℕ) → All (Fits P i) (keeps places)
keeps_fit P i places = All-map (Fits P i) (λ p. keep p) places (λ k d lt. tt)

pub group_fits : (P : ℕ → Type 0) (i : ℕ) (final places : List ℕ) → All (λ p. p ≡ i → P (get_or final p 0)) places → All (Fits P i) (group final places)
group_fits P i final places h = All-append (Fits P i) (stores final places) (keeps places) (stores_fit P i final places h) (keeps_fit P i places)

-- if the word isn't among the places
pub group_misses : (P : ℕ → Type 0) (i : ℕ) (final places : List ℕ) → NotIn places i → All (Fits P i) (group final places)
group_misses P i final places out = group_fits P i final places (λ k d lt e. absurd (out k d lt e))

-- if the property is having the final value
pub group_finishes : (i : ℕ) (final places : List ℕ) → All (Fits (λ v. v ≡ get_or final i 0) i) (group final places)
group_finishes i final places = group_fits (λ v. v ≡ get_or final i 0) i final places (λ k d lt e. ap (λ (p : ℕ). get_or final p 0) e)

pub written_fits : (P : ℕ → Type 0) (i j v : ℕ) → (j ≡ i → P v) → All (Fits P i) (written j v)
written_fits P i j v h = All-cons (Fits P i) (store j v) (keep j ∷ []) h (All-cons (Fits P i) (keep j) [] tt (All-nil (Fits P i)))

-- ---- the effect of a group

-- as many kept values as slots for stored ones
pub record IsSized (words : Words) : Type 0 where
  pub same : length words.stored ≡ length words.kept

pub sized_after : (steps : List Step) (words : Words) → IsSized words → IsSized (after words steps)
sized_after steps words sized = record { same = length_stored steps words ∙ sized.same ∙ sym (length_kept steps words) }

-- a load returns the stored value
stored_shows : (words : Words) (i v : ℕ) → i < length words.stored → seen_at (stepped words (store i v)) i ≡ v
stored_shows words i v inside = ap (shown (get_or words.kept i 0)) (get_or-set_same words.stored i (Some v) None inside)

-- flushing a word makes the value that a load returns the kept one
keep_makes : (P : ℕ → Type 0) (words : Words) (i : ℕ) → i < length words.kept → P (seen_at words i) → Holds P i (stepped words (keep i))
keep_makes P words i inside was =
    let kept : P (get_or (set words.kept i (seen_at words i)) i 0) = subst P (sym (get_or-set_same words.kept i (seen_at words i) 0 inside)) was in
    record { seen = seen_kept P words i i kept was; kept = kept }

-- a flush of any word doesn't change what a load returns
keep_shows : (P : ℕ → Type 0) (words : Words) (i j : ℕ) → i < length words.kept → P (seen_at words i) → P (seen_at (stepped words (keep j)) i)
keep_shows P words i j inside was =
    elim (cases_eq i j) [
      | inl same ↦ subst (λ (k : ℕ). P (seen_at (stepped words (keep k)) i)) same (keep_makes P words i inside was).seen
      | inr other ↦ put_elim (λ o. P (shown (get_or (set words.kept j (seen_at words j)) i 0) o)) None words.stored j i None
          (subst (λ (k : ℕ). P (shown k (get_or words.stored i None))) (sym (get_or-set_other words.kept j i (seen_at words j) 0 other)) was) (λ e. absurd (other (sym e)))
    ]

step_seen : (P : ℕ → Type 0) (i : ℕ) (step : Step) (words : Words) → i < length words.kept → Fits P i step → P (seen_at words i) → P (seen_at (stepped words step) i)
step_seen P i (store j v) words inside fits h = seen_stored P words i j v h fits
step_seen P i (keep j) words inside fits h = keep_shows P words i j inside h

length_step : (step : Step) (words : Words) → length (stepped words step).kept ≡ length words.kept
length_step (store i v) words = refl
length_step (keep i) words = length-set words.kept i (seen_at words i)

pub seen_stays : (P : ℕ → Type 0) (i : ℕ) (steps : List Step) (words : Words) → i < length words.kept → All (Fits P i) steps → P (seen_at words i) → P (seen_at (after words steps) i)
unfolding after
seen_stays P i [] words inside fits h = h
seen_stays P i (step ∷ steps) words inside fits h =
    seen_stays P i steps (stepped words step) (omega (arith, length_step step words)) (All-tail (Fits P i) step steps fits)
    (step_seen P i step words inside (All-head (Fits P i) step steps fits) h)

stores_reach : (final places : List ℕ) (k : ℕ) (words : Words) → IsSized words → k < length places → get_or places k 0 < length words.kept
    → seen_at (after words (stores final places)) (get_or places k 0) ≡ get_or final (get_or places k 0) 0
unfolding after
stores_reach final [] k words sized lt inside = absurd (omega arith)
stores_reach final (p ∷ places) zero words sized lt inside =
    seen_stays (λ v. v ≡ get_or final p 0) p (stores final places) (stepped words (store p (get_or final p 0))) inside
    (stores_fit (λ v. v ≡ get_or final p 0) p final places (λ k d l e. ap (λ (q : ℕ). get_or final q 0) e))
    (stored_shows words p (get_or final p 0) (omega (arith, sized.same)))
stores_reach final (p ∷ places) (suc k) words sized lt inside =
    stores_reach final places k (stepped words (store p (get_or final p 0))) (record { same = length-set words.stored p (Some (get_or final p 0)) ∙ sized.same })
    (omega arith) inside

keeps_reach : (P : ℕ → Type 0) (places : List ℕ) (k : ℕ) (words : Words) → k < length places → get_or places k 0 < length words.kept
    → P (seen_at words (get_or places k 0)) → Holds P (get_or places k 0) (after words (keeps places))
unfolding after
keeps_reach P [] k words lt inside h = absurd (omega arith)
keeps_reach P (p ∷ places) zero words lt inside h = stays P p (keeps places) (stepped words (keep p)) (keeps_fit P p places) (keep_makes P words p inside h)
keeps_reach P (p ∷ places) (suc k) words lt inside h =
    keeps_reach P places k (stepped words (keep p)) (omega arith) (omega (arith, length-set words.kept p (seen_at words p)))
    (keep_shows P words (get_or places k 0) p inside h)

-- each word of a group has its final value, visible and kept
pub group_reaches : (final places : List ℕ) (k : ℕ) (words : Words) → IsSized words → k < length places → get_or places k 0 < length words.kept
    → Holds (λ v. v ≡ get_or final (get_or places k 0) 0) (get_or places k 0) (after words (group final places))
group_reaches final places k words sized lt inside =
    let mid : Words = after words (stores final places) in
    subst (Holds (λ v. v ≡ get_or final (get_or places k 0) 0) (get_or places k 0)) (sym (after-append (stores final places) (keeps places) words))
    (keeps_reach (λ v. v ≡ get_or final (get_or places k 0) 0) places k (after words (stores final places)) lt
    (omega (arith, length_kept (stores final places) words)) (stores_reach final places k words sized lt inside))

-- a written word has its value, visible and kept
pub written_reaches : (i v : ℕ) (words : Words) → IsSized words → i < length words.kept → Holds (λ x. x ≡ v) i (after words (written i v))
unfolding after
written_reaches i v words sized inside =
    keep_makes (λ x. x ≡ v) (stepped words (store i v)) i inside (stored_shows words i v (omega (arith, sized.same)))

-- ---- that a word isn't pending

abbrev pub Clear : ℕ → Words → Type 0
Clear i words = get_or words.stored i None ≡ None

-- a step doesn't store into a word
abbrev pub Passes : ℕ → Step → Type 0
Passes i (store j v) = j ≢ i
Passes i (keep j) = Unit {0}

step_clear : (i : ℕ) (step : Step) (words : Words) → Passes i step → Clear i words → Clear i (stepped words step)
step_clear i (store j v) words passes was = put_elim (λ o. o ≡ None) None words.stored j i (Some v) was (λ e. absurd (passes e))
step_clear i (keep j) words passes was = put_elim (λ o. o ≡ None) None words.stored j i None was (λ e. refl)

pub clear_stays : (i : ℕ) (steps : List Step) (words : Words) → All (Passes i) steps → Clear i words → Clear i (after words steps)
unfolding after
clear_stays i [] words passes was = was
clear_stays i (step ∷ steps) words passes was =
    clear_stays i steps (stepped words step) (All-tail (Passes i) step steps passes) (step_clear i step words (All-head (Passes i) step steps passes) was)

pub keeps_pass : (i : ℕ) (places : List ℕ) → All (Passes i) (keeps places)
keeps_pass i places = All-map (Passes i) (λ p. keep p) places (λ k d lt. tt)

-- flushing a word, whether it exists or not
keep_clears : (i : ℕ) (words : Words) → Clear i (stepped words (keep i))
keep_clears i words =
    elim (cases_lt i (length words.stored)) [
      | inl inside ↦ get_or-set_same words.stored i None None inside
      | inr past ↦ get_or_past (set words.stored i None) i None (omega (arith, length-set words.stored i None))
    ]

pub keeps_clear : (places : List ℕ) (k : ℕ) (words : Words) → k < length places → Clear (get_or places k 0) (after words (keeps places))
unfolding after
keeps_clear [] k words lt = absurd (omega arith)
keeps_clear (p ∷ places) zero words lt = clear_stays p (keeps places) (stepped words (keep p)) (keeps_pass p places) (keep_clears p words)
keeps_clear (p ∷ places) (suc k) words lt = keeps_clear places k (stepped words (keep p)) (omega arith)

stores_pass : (i : ℕ) (final places : List ℕ) → NotIn places i → All (Passes i) (stores final places)
stores_pass i final places out = All-map (Passes i) (λ p. store p (get_or final p 0)) places out

-- a place is among places, or isn't
pub data Among (places : List ℕ) (i : ℕ) : Type 0 where
  here : (k : ℕ) → k < length places → get_or places k 0 ≡ i → Among places i
  away : NotIn places i → Among places i

pub among : (places : List ℕ) (i : ℕ) → Among places i
among [] i = away (λ k d lt. absurd (omega arith))
among (p ∷ places) i =
    elim (cases_eq p i) [
      | inl same ↦ here zero (omega arith) same
      | inr other ↦ elim (among places i) [
        | here k lt e ↦ here (suc k) (omega arith) e
        | away out ↦ away (All-cons (λ q. q ≢ i) p places other out)
      ]
    ]

-- a group leaves no word pending that wasn't before
pub group_clear : (final places : List ℕ) (words : Words) (i : ℕ) → Clear i words → Clear i (after words (group final places))
group_clear final places words i was =
    subst (Clear i) (sym (after-append (stores final places) (keeps places) words)) (elim (among places i) [
      | here k lt e ↦ subst (λ (q : ℕ). Clear q (after (after words (stores final places)) (keeps places))) e (keeps_clear places k (after words (stores final places)) lt)
      | away out ↦ clear_stays i (keeps places) (after words (stores final places)) (keeps_pass i places)
          (clear_stays i (stores final places) words (stores_pass i final places out) was)
    ])

pub written_clear : (j v : ℕ) (words : Words) (i : ℕ) → Clear i words → Clear i (after words (written j v))
unfolding after
written_clear j v words i was =
    elim (cases_eq i j) [
      | inl same ↦ subst (λ (k : ℕ). Clear i (stepped (stepped words (store k v)) (keep k))) same (keep_clears i (stepped words (store i v)))
      | inr other ↦ step_clear i (keep j) (stepped words (store j v)) tt (step_clear i (store j v) words (λ e. other (sym e)) was)
    ]
