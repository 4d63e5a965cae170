-- The words after a crash during writes in sequence.
use Rattle.std.proofs.Common.{◌≡◌, ◌≢◌, ◌⊎◌, ℕ, zero, suc, ◌+◌, ◌/◌, ◌<◌, List, [], ◌∷◌, length, take, get_or, replicate, Option, Some, None, unwrap_or, refl, sym, ap, ◌∙◌, subst, inl, inr, arith}
use Rattle.std.proofs.Math.ListN.{set}
use Rattle.std.proofs.lemmas.Bool.{cases_lt, cases_eq}
use Rattle.std.proofs.lemmas.List.{ext_get_or, length-set, length-replicate, get_or-set_same, get_or-set_other}
use Rattle.cut_words.specs.Words.{Words, store, seen_at, stepped, after, settled, IsLeft}
use Rattle.cut_words.proofs.Guarded.{seen_is}
use Rattle.arena_open.specs.Writes.{write_steps, written_over, WritesAreCut}
use Rattle.arena_open.proofs.Written.{one_write}

left_settled : (old left : List ℕ) → IsLeft (settled old) left → left ≡ old
left_settled old left cut =
    ext_get_or 0 left old cut.same_length (λ i lt. elim (cut.each i) [ inl e ↦ e | inr e ↦ e ∙ seen_is old i ])

-- a load of a word that wasn't stored returns its old value
seen_other : (old : List ℕ) (i v j : ℕ) → j ≢ i → seen_at (stepped (settled old) (store i v)) j ≡ get_or old j 0
seen_other old i v j other =
    ap (λ (o : Option ℕ). unwrap_or o (get_or old j 0)) (get_or-set_other (replicate {A = Option ℕ} (length old) None) i j (Some v) None other) ∙ seen_is old j

seen_same : (old : List ℕ) (i v : ℕ) → i < length old → seen_at (stepped (settled old) (store i v)) i ≡ v
seen_same old i v lt =
    ap (λ (o : Option ℕ). unwrap_or o (get_or old i 0))
    (get_or-set_same (replicate {A = Option ℕ} (length old) None) i (Some v) None (omega (arith, length-replicate {A = Option ℕ} (length old) None)))

left_other : (old : List ℕ) (i v : ℕ) (left : List ℕ) → IsLeft (stepped (settled old) (store i v)) left → (j : ℕ) → j ≢ i → get_or left j 0 ≡ get_or old j 0
left_other old i v left cut j other = elim (cut.each j) [ inl e ↦ e | inr e ↦ e ∙ seen_other old i v j other ]

-- a store that wasn't flushed
left_stored : (old : List ℕ) (i v : ℕ) (left : List ℕ) → IsLeft (stepped (settled old) (store i v)) left → (left ≡ old) ⊎ (left ≡ set old i v)
left_stored old i v left cut =
    let as_old : get_or left i 0 ≡ get_or old i 0 → left ≡ old =
    λ e. ext_get_or 0 left old cut.same_length (λ j lt. elim (cases_eq j i) [
      | inl same ↦ ap (λ (k : ℕ). get_or left k 0) same ∙ e ∙ ap (λ (k : ℕ). get_or old k 0) (sym same)
      | inr other ↦ left_other old i v left cut j other
    ]) in
    elim (cut.each i) [
      | inl e ↦ inl (as_old e)
      | inr e ↦ elim (cases_lt i (length old)) [
        | inl lt ↦ inr (ext_get_or 0 left (set old i v) (cut.same_length ∙ sym (length-set old i v)) (λ j lt'. elim (cases_eq j i) [
          | inl same ↦ ap (λ (k : ℕ). get_or left k 0) same ∙ e ∙ seen_same old i v lt ∙ sym (ap (λ (k : ℕ). get_or (set old i v) k 0) same ∙ get_or-set_same old i v 0 lt)
          | inr other ↦ left_other old i v left cut j other ∙ sym (get_or-set_other old i j v 0 other)
        ]))
        | inr past ↦ inl (ext_get_or 0 left old cut.same_length (λ j lt'. left_other old i v left cut j (λ same. omega (arith, same, cut.same_length))))
      ]
    ]

half_more : (n : ℕ) → suc (suc n) / 2 ≡ suc (n / 2)
half_more n = omega arith

pub writes_cut : WritesAreCut
unfolding after
writes_cut old [] zero left cut = inl (left_settled old left cut)
writes_cut old [] (suc n) left cut =
    inl (left_settled old left cut ∙ sym (none_over old (suc n / 2)))
  where
    none_over : (words : List ℕ) (k : ℕ) → written_over words (take k []) ≡ words
    none_over words zero = refl
    none_over words (suc k) = refl
writes_cut old (w ∷ writes) zero left cut = inl (left_settled old left cut)
writes_cut old (w ∷ writes) (suc zero) left cut = left_stored old w.place w.value left cut
writes_cut old (w ∷ writes) (suc (suc n)) left cut =
    let next = set old w.place w.value in
    let cut' : IsLeft (after (settled (set old w.place w.value)) (take n (write_steps writes))) left =
    subst (λ (ws : Words). IsLeft (after ws (take n (write_steps writes))) left) (one_write old w.place w.value) cut in
    elim (writes_cut (set old w.place w.value) writes n left cut') [
      | inl e ↦ inl (e ∙ sym (ap (λ (k : ℕ). written_over old (take k (w ∷ writes))) (half_more n)))
      | inr e ↦ inr (e ∙ sym (ap (λ (k : ℕ). written_over old (take (k + 1) (w ∷ writes))) (half_more n) ∙ ap (λ (k : ℕ). written_over old (take k (w ∷ writes))) (let p : suc (n / 2) + 1 ≡ suc (n / 2 + 1) = omega arith in p)))
    ]
