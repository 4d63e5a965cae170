-- The modules' contents after a crash, in a namespace's place and beside it.
use Rattle.std.proofs.Common.{◌≡◌, ◌⊎◌, ℕ, zero, suc, ◌*◌, ◌/◌, ◌<◌, ◌≤◌, false, cond, List, [], ◌∷◌, length, map, get_or, Option, Some, None, refl, sym, ap, ◌∙◌, subst, inl, inr, arith}
use Rattle.std.specs.Prelude.{unwrap_or}
use Rattle.std.specs.List.{range_with_len}
use Rattle.std.proofs.lemmas.Bool.{cases_Bool, cases_lt}
use Rattle.std.proofs.lemmas.List.{get_or_past, length-map, length-replicate}
use Rattle.std.proofs.lemmas.List.Elements.{All-get_or}
use Rattle.cut_words.specs.Words.{Words, IsLeft, seen_at, settled}
use Rattle.cut_words.proofs.Guarded.{settled_none}
use Rattle.nfit_reader.specs.declared.table.Mapping.{Mapping}
use Rattle.power_cut.specs.Left.{Each}
use Rattle.power_cut.specs.Namespace.{Namespace, beside_of, byte_at, count_of, is_inside, kept_by, over, place_of, row_beside, row_of, stored_by, words_of}
use Rattle.power_cut.proofs.Spread.{at_range, blank, count_is, range_same}
use Rattle.power_cut.proofs.Beside.{AreBeside, row_at, rows_beside, same_count}
use Rattle.sector_namespaces.specs.Creation.{AreSettled}

-- ---- module by module

pub each_count : (rows : List Words) (left : List (List ℕ)) → Each IsLeft rows left → length left ≡ length rows
each_count [] left each = ap length each
each_count (row ∷ rows) left each = ap length each.2 ∙ ap suc (each_count rows each.1 each.4)

abbrev value_of : List (List ℕ) → ℕ → List ℕ
value_of left k = get_or left k []

none_left : IsLeft blank []
none_left = record { same_length = refl; each = λ i. inl refl }

each_row : (rows : List Words) (left : List (List ℕ)) → Each IsLeft rows left → (k : ℕ) → IsLeft (row_of rows k) (value_of left k)
each_row [] left each k = subst (λ (l : List (List ℕ)). IsLeft blank (value_of l k)) (sym each) none_left
each_row (row ∷ rows) left each zero = subst (λ (l : List (List ℕ)). IsLeft row (value_of l zero)) (sym each.2) each.3
each_row (row ∷ rows) left each (suc k) = subst (λ (l : List (List ℕ)). IsLeft (row_of rows k) (value_of l (suc k))) (sym each.2) (each_row rows each.1 each.4 k)

settled_row : (left : List (List ℕ)) (k : ℕ) → row_of (map settled left) k ≡ settled (value_of left k)
settled_row [] k = refl
settled_row (v ∷ left) zero = refl
settled_row (v ∷ left) (suc k) = settled_row left k

-- ---- in the place

abbrev LeftAt : Words → List ℕ → ℕ → Type 0
LeftAt words values i = (get_or values i 0 ≡ get_or words.kept i 0) ⊎ (get_or values i 0 ≡ seen_at words i)

module _ (set : List Mapping) (offset raw : ℕ) (rows : List Words) (left : List (List ℕ)) (each : Each IsLeft rows left) where
  abbrev place : List Words → Namespace
  place modules = over set offset raw modules

  abbrev now : Namespace
  now = over set offset raw (map settled left)

  word_left : (p : Option (ℕ × ℕ)) → (kept_by (map settled left) p ≡ kept_by rows p) ⊎ (kept_by (map settled left) p ≡ unwrap_or (stored_by rows p) (kept_by rows p))
  word_left None = inl refl
  word_left (Some pl) =
      let is : get_or (row_of (map settled left) pl.0).kept (pl.1 / 8) 0 ≡ get_or (value_of left pl.0) (pl.1 / 8) 0 = ap (λ (w : Words). get_or w.kept (pl.1 / 8) 0) (settled_row left pl.0) in
      elim ((each_row rows left each pl.0).each (pl.1 / 8)) [ inl kept ↦ inl (is ∙ kept) | inr seen ↦ inr (is ∙ seen) ]

  kept_here : (i : ℕ) → i < count_of now → get_or (words_of now).kept i 0 ≡ kept_by (map settled left) (place_of set (byte_at now i))
  unfolding words_of
  kept_here i lt = at_range (λ j. kept_by (map settled left) (place_of set (byte_at now j))) (count_of now) i 0 lt

  kept_there : (i : ℕ) → i < count_of now → get_or (words_of (place rows)).kept i 0 ≡ kept_by rows (place_of set (byte_at now i))
  unfolding words_of
  kept_there i lt = at_range (λ j. kept_by rows (place_of set (byte_at now j))) (count_of now) i 0 lt

  stored_there : (i : ℕ) → i < count_of now → get_or (words_of (place rows)).stored i None ≡ stored_by rows (place_of set (byte_at now i))
  unfolding words_of
  stored_there i lt = at_range (λ j. stored_by rows (place_of set (byte_at now j))) (count_of now) i None lt

  pub left_words : IsLeft (words_of (place rows)) (words_of now).kept
  left_words = record { same_length = count_is now ∙ sym (count_is (place rows)); each = λ i. by i (cases_lt i (count_of now)) }
    where
      by : (i : ℕ) → (i < count_of now) ⊎ (count_of now ≤ i) → LeftAt (words_of (place rows)) (words_of now).kept i
      by i (inl lt) = elim (word_left (place_of set (byte_at now i))) [
        | inl kept ↦ inl (kept_here i lt ∙ kept ∙ sym (kept_there i lt))
        | inr seen ↦ inr (kept_here i lt ∙ seen ∙ sym (ap (λ o. unwrap_or o (get_or (words_of (place rows)).kept i 0)) (stored_there i lt) ∙ ap (λ v. unwrap_or (stored_by rows (place_of set (byte_at now i))) v) (kept_there i lt)))
      ]
      by i (inr past) = inl (get_or_past (words_of now).kept i 0 (omega (arith, past, count_is now)) ∙ sym (get_or_past (words_of (place rows)).kept i 0 (omega (arith, past, count_is (place rows)))))

  -- ---- beside it

  module _ (old : List Words) (all : AreSettled old) (same : beside_of (place rows) ≡ beside_of (place old)) where
    old_none : (which k : ℕ) → get_or (row_of old which).stored k None ≡ None
    old_none which k = elim (cases_lt which (length old)) [
      | inl lt ↦ ap (λ (w : Words). get_or w.stored k None) (All-get_or (λ w. w ≡ settled w.kept) old which blank lt all) ∙ settled_none (length (row_of old which).kept) k
      | inr past ↦ ap (λ (w : Words). get_or w.stored k None) (get_or_past old which blank past)
    ]

    old_long : (which : ℕ) → length (row_of old which).stored ≡ length (row_of old which).kept
    old_long which = elim (cases_lt which (length old)) [
      | inl lt ↦ ap (λ (w : Words). length w.stored) (All-get_or (λ w. w ≡ settled w.kept) old which blank lt all) ∙ length-replicate (length (row_of old which).kept) None
      | inr past ↦ ap (λ (w : Words). length w.stored) (get_or_past old which blank past) ∙ sym (ap (λ (w : Words). length w.kept) (get_or_past old which blank past))
    ]

    row_left : (which : ℕ) → which < length rows → row_beside now which ≡ row_beside (place old) which
    row_left which lt =
        let beside : AreBeside set offset raw rows old which = rows_beside set offset raw rows old which (row_at set offset raw rows old which same lt) in
        let is : row_of (map settled left) which ≡ settled (value_of left which) = settled_row left which in
        let left_of : IsLeft (row_of rows which) (value_of left which) = each_row rows left each which in
        let long : length (value_of left which) ≡ length (row_of old which).kept = left_of.same_length ∙ beside.long_kept in
        let long_kept : length (row_of (map settled left) which).kept ≡ length (row_of old which).kept = ap (λ (w : Words). length w.kept) is ∙ long in
        let long_stored : length (row_of (map settled left) which).stored ≡ length (row_of old which).stored =
        ap (λ (w : Words). length w.stored) is ∙ length-replicate (length (value_of left which)) None ∙ long ∙ sym (old_long which) in
        let stays : (k : ℕ) → is_inside now which (8 * k) ≡ false → get_or (row_of (map settled left) which).kept k 0 ≡ get_or (row_of old which).kept k 0 =
        λ k outside.
        let none : get_or (row_of rows which).stored k None ≡ None = beside.stored k outside ∙ old_none which k in
        let value : get_or (value_of left which) k 0 ≡ get_or (row_of rows which).kept k 0 = elim (left_of.each k) [
          | inl kept ↦ kept
          | inr seen ↦ seen ∙ ap (λ o. unwrap_or o (get_or (row_of rows which).kept k 0)) none
        ] in
        ap (λ (w : Words). get_or w.kept k 0) is ∙ value ∙ beside.kept k outside in
        let none_stays : (k : ℕ) → get_or (row_of (map settled left) which).stored k None ≡ get_or (row_of old which).stored k None =
        λ k. ap (λ (w : Words). get_or w.stored k None) is ∙ settled_none (length (value_of left which)) k ∙ sym (old_none which k) in
        let kept : map (λ k. cond (is_inside now which (8 * k)) 0 (get_or (row_of (map settled left) which).kept k 0)) (range_with_len 0 (length (row_of (map settled left) which).kept))
        ≡ map (λ k. cond (is_inside now which (8 * k)) 0 (get_or (row_of old which).kept k 0)) (range_with_len 0 (length (row_of old which).kept)) =
        ap (λ c. map (λ k. cond (is_inside now which (8 * k)) 0 (get_or (row_of (map settled left) which).kept k 0)) (range_with_len 0 c)) long_kept
        ∙ range_same (λ k. cond (is_inside now which (8 * k)) 0 (get_or (row_of (map settled left) which).kept k 0)) (λ k. cond (is_inside now which (8 * k)) 0 (get_or (row_of old which).kept k 0))
        (length (row_of old which).kept) 0
        (λ k below. elim (cases_Bool (is_inside now which (8 * k))) [ inl inside ↦ rw inside refl | inr outside ↦ rw outside (stays k outside) ]) in
        let stored : map (λ k. cond (is_inside now which (8 * k)) None (get_or (row_of (map settled left) which).stored k None)) (range_with_len 0 (length (row_of (map settled left) which).stored))
        ≡ map (λ k. cond (is_inside now which (8 * k)) None (get_or (row_of old which).stored k None)) (range_with_len 0 (length (row_of old which).stored)) =
        ap (λ c. map (λ k. cond (is_inside now which (8 * k)) None (get_or (row_of (map settled left) which).stored k None)) (range_with_len 0 c)) long_stored
        ∙ range_same (λ k. cond (is_inside now which (8 * k)) None (get_or (row_of (map settled left) which).stored k None)) (λ k. cond (is_inside now which (8 * k)) None (get_or (row_of old which).stored k None))
        (length (row_of old which).stored) None
        (λ k below. elim (cases_Bool (is_inside now which (8 * k))) [ inl inside ↦ rw inside refl | inr outside ↦ rw outside (none_stays k) ]) in
        rw (kept, stored) refl

    pub left_beside : beside_of now ≡ beside_of (place old)
    unfolding beside_of
    left_beside =
        let count : length (map settled left) ≡ length rows = length-map left settled ∙ each_count rows left each in
        let count_old : length rows ≡ length old = same_count set offset raw rows old same in
        ap (λ c. map (row_beside now) (range_with_len 0 c)) count
        ∙ range_same (row_beside now) (row_beside (place old)) (length rows) blank (λ which lt. row_left which lt)
        ∙ ap (λ c. map (row_beside (place old)) (range_with_len 0 c)) count_old

    -- and each module has as many words as it had
    pub left_sizes : map (λ (w : Words). length w.kept) rows ≡ map (λ (w : Words). length w.kept) old → map (λ (row : List ℕ). length row) left ≡ map (λ (w : Words). length w.kept) old
    left_sizes counts = by rows left each ∙ counts
      where
        by : (rs : List Words) (ls : List (List ℕ)) → Each IsLeft rs ls → map (λ (row : List ℕ). length row) ls ≡ map (λ (w : Words). length w.kept) rs
        by [] ls e = ap (λ (xs : List (List ℕ)). map (λ (row : List ℕ). length row) xs) e
        by (r ∷ rs) ls e = ap (λ (xs : List (List ℕ)). map (λ (row : List ℕ). length row) xs) e.2 ∙ rw (e.3.same_length, by rs e.1 e.4) refl
