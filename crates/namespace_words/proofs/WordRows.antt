-- Words as bytes, and bytes as words.
use Rattle.std.proofs.Common.{◌≡◌, ℕ, suc, ◌+◌, ◌^◌, ◌<◌, ◌++◌, List, [], ◌∷◌, length, take, drop, get_or, Result, Ok, Err, refl, sym, ap, ◌∙◌, subst, inl, inr, arith}
use Rattle.std.specs.Prelude.{IfOk, OnOk}
use Rattle.std.proofs.Math.Seq.{take-add}
use Rattle.std.proofs.lemmas.Bool.{cases_lt}
use Rattle.std.proofs.lemmas.List.{get_or_past, length-append}
use Rattle.std.proofs.lemmas.Nat.{from_le_bytes-to_le_bytes_8}
use Rattle.cut_words.specs.WordBytes.{bytes_of, words_in}

pub words_back : (words : List ℕ) → ((i : ℕ) → get_or words i 0 < 2 ^ 64) → words_in (bytes_of words) ≡ words
words_back [] fit = refl
words_back (w ∷ words) fit = λ i. from_le_bytes-to_le_bytes_8 w (fit 0) i ∷ words_back words (λ k. fit (suc k)) i

-- past its end a list has no number
pub words_fit : (words : List ℕ) → ((i : ℕ) → i < length words → get_or words i 0 < 2 ^ 64) → (i : ℕ) → get_or words i 0 < 2 ^ 64
words_fit words fit i = elim (cases_lt i (length words)) [
  | inl inside ↦ fit i inside
  | inr past ↦ omega (arith, get_or_past words i 0 past)
]

-- words behind those that are read already
pub front_more : (words all part : List ℕ) (n m : ℕ) → words ≡ take n all → part ≡ take m (drop n all) → words ++ part ≡ take (n + m) all
front_more words all part n m front more = (λ i. front i ++ more i) ∙ sym (take-add n m all)

pub ok_then : {A E P Q : Type 0} (r : Result A E) → (P → Q) → OnOk r P → OnOk r Q
ok_then (Ok x) more holds = more holds
ok_then (Err e) more holds = holds

-- the first words of all, with those behind them that were read
pub front_put : (old new part all : List ℕ) (m at : ℕ) → new ≡ old ++ part → old ≡ take (length old) all → part ≡ take m (drop at all) → at ≡ length old → length part ≡ m → new ≡ take (length new) all
front_put old new part all m at put front is at_is long =
    put ∙ front_more old all part (length old) m front (is ∙ ap (λ (k : ℕ). take m (drop k all)) at_is)
    ∙ ap (λ (n : ℕ). take n all) (let e : length old + m ≡ length new = omega (arith, ap length put, length-append old part, long) in e)

-- words that were read, if memory lasted
pub words_made : {T E : Type 0} (P : T → Type 0) (words : T) (made : Result T E) (done : Result (Unit {0}) E) → IfOk made (λ it. (it ≡ words) × (done ≡ Ok tt)) → OnOk done (P words) → IfOk made P
words_made {T} {E} P words (Ok it) done both holds = subst P (sym both.0) (subst (λ (d : Result (Unit {0}) E). OnOk d (P words)) both.1 holds)
words_made P words (Err e) done both holds = tt
