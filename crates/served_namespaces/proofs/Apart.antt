-- The words of one namespace change, and those of others don't.
use Rattle.std.proofs.Common.{◌≡◌, ℕ, zero, suc, ◌+◌, ◌-◌, ◌*◌, ◌/◌, ◌<◌, ◌≤◌, true, false, List, [], ◌∷◌, length, map, drop, get_or, None, refl, sym, ap, ◌∙◌, subst, inl, inr, arith}
use Rattle.std.proofs.lemmas.Bool.{cases_Bool, cases_lt}
use Rattle.std.proofs.lemmas.List.{ext_get_or, get_or-drop}
use Rattle.cut_words.specs.Words.{Words}
use Rattle.nfit_reader.specs.declared.table.Mapping.{Mapping}
use Rattle.interleave.specs.Places.{LiesAt}
use Rattle.interleave.specs.Sound.{HasPlace}
use Rattle.power_cut.specs.Namespace.{IsLaid, Namespace, beside_of, byte_at, count_of, kept_at, place_of, stored_at, stored_by, words_of}
use Rattle.power_cut.proofs.Beside.{are_same_outside}
use Rattle.power_cut.proofs.Spread.{count_is, kept_is, length_range, stored_is}
use Rattle.namespace_areas.specs.declared.found.Found.{Found}
use Rattle.namespace_areas.specs.Finding.{LiesInSet, set_at}
use Rattle.sector_namespaces.proofs.Formats.{same_counts}
use Rattle.served_namespaces.proofs.Extents.{HasWord, has_place, place_inside, place_whole, word_inside}
use Rattle.served_namespaces.specs.Places.{ShareNoAddress, PlaceBytes, PlacesBytes, has_address, place_in, words_at}

-- ---- lists

pub any_default : {X : Type 0} (xs : List X) (k : ℕ) (a b : X) → k < length xs → get_or xs k a ≡ get_or xs k b
any_default [] k a b lt = absurd (omega (arith, lt))
any_default (x ∷ xs) zero a b lt = refl
any_default (x ∷ xs) (suc k) a b lt = any_default xs k a b (omega (arith, lt))

-- lists with the same tail
pub far_same : (t i : ℕ) (xs ys : List ℕ) → drop t xs ≡ drop t ys → t ≤ i → get_or xs i 0 ≡ get_or ys i 0
far_same t i xs ys same far =
    let e : i ≡ t + (i - t) = omega (arith, far) in
    ap (λ (j : ℕ). get_or xs j 0) e ∙ sym (get_or-drop t xs (i - t) 0) ∙ ap (λ (zs : List ℕ). get_or zs (i - t) 0) same
    ∙ get_or-drop t ys (i - t) 0 ∙ ap (λ (j : ℕ). get_or ys j 0) (sym e)

pub stored_count : (n : Namespace) → length (words_of n).stored ≡ count_of n
unfolding words_of
stored_count n = length_range (λ i. stored_by n.modules (place_of n.set (byte_at n i))) (count_of n)

-- ---- a namespace in its set

pub laid_in : (sets : List (List Mapping)) → PlaceBytes sets → (found : Found) → LiesInSet sets found → (rows : List Words) → IsLaid (place_in sets found rows)
laid_in sets sound found lies rows =
    let s : PlacesBytes (set_at sets found.region) = sound found.region lies.region in
    record {
      places = s.places;
      words = s.words;
      parts = s.parts;
      apart = s.apart;
      each = s.each;
      fits = s.fits;
      from = lies.from;
      to = lies.to;
      eights = s.eights;
      inside = lies.inside;
    }

module _ (sets : List (List Mapping)) (sound : PlaceBytes sets) (found : Found) (lies : LiesInSet sets found) where
  -- where one of its words lies
  pub record IsPlaced (i : ℕ) : Type 0 where
    pub which : ℕ
    pub k : ℕ
    pub at : LiesAt (set_at sets found.region) (byte_at (place_in sets found []) i) which (8 * k)
    pub inside : has_address sets found which (8 * k) ≡ true

  pub placed : (i : ℕ) → i < count_of (place_in sets found []) → IsPlaced i
  placed i lt =
      let laid : IsLaid (place_in sets found []) = laid_in sets sound found lies [] in
      let p : HasPlace (set_at sets found.region) (byte_at (place_in sets found []) i) = has_place (place_in sets found []) laid i lt in
      let e : p.address ≡ 8 * (p.address / 8) = omega (arith, place_whole (place_in sets found []) laid i p.which p.address p.lies) in
      let at : LiesAt (set_at sets found.region) (byte_at (place_in sets found []) i) p.which (8 * (p.address / 8)) =
      subst (λ (a : ℕ). LiesAt (set_at sets found.region) (byte_at (place_in sets found []) i) p.which a) e p.lies in
      record { which = p.which; k = p.address / 8; at = at; inside = place_inside (place_in sets found []) laid i p.which (8 * (p.address / 8)) lt at }

  -- its words depend on the words inside its extents alone
  pub same_words : (rows now : List Words)
      → ((which k : ℕ) → has_address sets found which (8 * k) ≡ true → (kept_at now which (8 * k) ≡ kept_at rows which (8 * k)) × (stored_at now which (8 * k) ≡ stored_at rows which (8 * k)))
      → words_of (place_in sets found now) ≡ words_of (place_in sets found rows)
  same_words rows now same =
      let laid : (ws : List Words) → IsLaid (place_in sets found ws) = λ ws. laid_in sets sound found lies ws in
      let kept : (words_of (place_in sets found now)).kept ≡ (words_of (place_in sets found rows)).kept =
      ext_get_or 0 (words_of (place_in sets found now)).kept (words_of (place_in sets found rows)).kept (count_is (place_in sets found now) ∙ sym (count_is (place_in sets found rows)))
      (λ i lt.
      let below : i < count_of (place_in sets found []) = omega (arith, lt, count_is (place_in sets found now)) in
      let p : IsPlaced i = placed i below in
      kept_is (place_in sets found now) i p.which (8 * p.k) (laid now) below p.at ∙ (same p.which p.k p.inside).0 ∙ sym (kept_is (place_in sets found rows) i p.which (8 * p.k) (laid rows) below p.at)) in
      let stored : (words_of (place_in sets found now)).stored ≡ (words_of (place_in sets found rows)).stored =
      ext_get_or None (words_of (place_in sets found now)).stored (words_of (place_in sets found rows)).stored (stored_count (place_in sets found now) ∙ sym (stored_count (place_in sets found rows)))
      (λ i lt.
      let below : i < count_of (place_in sets found []) = omega (arith, lt, stored_count (place_in sets found now)) in
      let p : IsPlaced i = placed i below in
      stored_is (place_in sets found now) i p.which (8 * p.k) (laid now) below p.at ∙ (same p.which p.k p.inside).1 ∙ sym (stored_is (place_in sets found rows) i p.which (8 * p.k) (laid rows) below p.at)) in
      λ j. record { kept = kept j; stored = stored j }

  -- ---- its words change, and no word beside it does

  module _ (rows now : List Words) (beside : beside_of (place_in sets found now) ≡ beside_of (place_in sets found rows)) where
    pub outside : (which k : ℕ) → has_address sets found which (8 * k) ≡ false → (kept_at now which (8 * k) ≡ kept_at rows which (8 * k)) × (stored_at now which (8 * k) ≡ stored_at rows which (8 * k))
    outside which k none = are_same_outside (set_at sets found.region) found.offset found.raw now rows beside which (8 * k) (omega arith) none

    pub counts : map (λ (w : Words). length w.kept) now ≡ map (λ (w : Words). length w.kept) rows
    counts = same_counts (set_at sets found.region) found.offset found.raw rows now beside

    laid_now : IsLaid (place_in sets found now)
    laid_now = laid_in sets sound found lies now

    laid_rows : IsLaid (place_in sets found rows)
    laid_rows = laid_in sets sound found lies rows

    -- if of its own words only some at the front change, no other word of a module does
    pub else_same : (total : ℕ) → drop total (words_at sets found now) ≡ drop total (words_at sets found rows) → (which k : ℕ)
        → ((i : ℕ) → i < total → LiesAt (set_at sets found.region) (byte_at (place_in sets found []) i) which (8 * k) → ⊥) → kept_at now which (8 * k) ≡ kept_at rows which (8 * k)
    else_same total behind which k none = elim (cases_Bool (has_address sets found which (8 * k))) [
      | inl inside ↦
          let w : HasWord (place_in sets found now) laid_now which (8 * k) = word_inside (place_in sets found now) laid_now which (8 * k) (omega arith) inside in
          let far : total ≤ w.word = elim (cases_lt w.word total) [ inl lt ↦ absurd (none w.word lt w.lies) | inr le ↦ le ] in
          sym (kept_is (place_in sets found now) w.word which (8 * k) laid_now w.below w.lies)
          ∙ far_same total w.word (words_at sets found now) (words_at sets found rows) behind far
          ∙ kept_is (place_in sets found rows) w.word which (8 * k) laid_rows w.below w.lies
      | inr other ↦ (outside which k other).0
    ]

-- a namespace that shares no address with another keeps its words if only the other's change
pub others_stay : (sets : List (List Mapping)) → PlaceBytes sets → (found other : Found) → LiesInSet sets found → LiesInSet sets other → ShareNoAddress sets other found → (rows now : List Words)
    → beside_of (place_in sets found now) ≡ beside_of (place_in sets found rows) → words_of (place_in sets other now) ≡ words_of (place_in sets other rows)
others_stay sets sound found other lies in_set apart rows now beside =
    same_words sets sound other in_set rows now (λ which k inside. outside sets sound found lies rows now beside which k (apart which (8 * k) inside))
