-- The words that lie beside a namespace.
use Rattle.std.proofs.Common.{◌≡◌, ◌≢◌, ◌⊎◌, ℕ, zero, suc, ◌*◌, ◌/◌, ◌<◌, Bool, true, false, cond, List, [], ◌∷◌, length, map, get_or, Option, Some, None, refl, sym, ap, ◌∙◌, arith, inl, inr}
use Rattle.std.specs.Prelude.{◌==◌}
use Rattle.std.specs.List.{range_with_len}
use Rattle.std.proofs.Math.ListN.{set}
use Rattle.std.proofs.lemmas.Bool.{cases_Bool, cases_lt, eqb-true}
use Rattle.std.proofs.lemmas.List.{ext_get_or, get_or_past, length-set, set-get_or}
use Rattle.std.proofs.lemmas.List.Elements.{All-set}
use Rattle.nfit_reader.specs.declared.table.Mapping.{Mapping}
use Rattle.cut_words.specs.Words.{Words, Step, stepped, after, seen_at}
use Rattle.cut_words.specs.Fuses.{Makes, allowed}
use Rattle.power_cut.specs.Namespace.{Namespace, AreAll, AreSameOutside, HasRows, IsLaid, IsRow, beside_of, is_inside, over, row_beside, row_of, words_of}
use Rattle.power_cut.proofs.Places.{inside_word, lies_inside}
use Rattle.power_cut.proofs.Spread.{IsStep, IsWordOf, at_range, blank, changed, differ, eighth, kept_is, length_range, range_same, row_here, row_other, same_kept, same_stored, store_is, stored_is, stores, keeps, with_row}

-- ---- a step doesn't change them

cases_same : (a b : ℕ) → (a ≡ b) ⊎ (a ≢ b)
cases_same a b = elim (cases_Bool (a == b)) [ inl same ↦ inl (eqb-true a b same) | inr apart ↦ inr (differ a b apart) ]

-- a row keeps its lengths
length_kept : (modules : List Words) (which other : ℕ) (row : Words) → which < length modules → length row.kept ≡ length (row_of modules which).kept
    → length (row_of (set modules which row) other).kept ≡ length (row_of modules other).kept
length_kept modules which other row lt same = elim (cases_same other which) [
  | inl e ↦ ap (λ w. length (row_of (set modules which row) w).kept) e ∙ ap (λ (r : Words). length r.kept) (row_here modules which row lt) ∙ same ∙ sym (ap (λ w. length (row_of modules w).kept) e)
  | inr apart ↦ ap (λ (r : Words). length r.kept) (row_other modules which other row apart)
]

length_stored : (modules : List Words) (which other : ℕ) (row : Words) → which < length modules → length row.stored ≡ length (row_of modules which).stored
    → length (row_of (set modules which row) other).stored ≡ length (row_of modules other).stored
length_stored modules which other row lt same = elim (cases_same other which) [
  | inl e ↦ ap (λ w. length (row_of (set modules which row) w).stored) e ∙ ap (λ (r : Words). length r.stored) (row_here modules which row lt) ∙ same ∙ sym (ap (λ w. length (row_of modules w).stored) e)
  | inr apart ↦ ap (λ (r : Words). length r.stored) (row_other modules which other row apart)
]

inside_here : (n : Namespace) (i which k other j : ℕ) → IsLaid n → IsWordOf n i which k → is_inside n other (8 * j) ≡ false → other ≡ which → j ≢ k
inside_here n i which k other j laid is outside same eq =
    let here = lies_inside n i which (8 * k) laid is.at in
    let there : is_inside n other (8 * j) ≡ true = ap (λ w. is_inside n w (8 * j)) same ∙ ap (λ (l : ℕ). is_inside n which (8 * l)) eq ∙ here in
    absurd (let e = sym outside ∙ there in cc)

row_same : (n : Namespace) (i which k x : ℕ) (o : Option ℕ) (other : ℕ) → IsLaid n → IsWordOf n i which k
    → row_beside (with_row n which (changed (row_of n.modules which) k x o)) other ≡ row_beside n other
row_same n i which k x o other laid is =
    let row : Words = changed (row_of n.modules which) k x o in
    let new = set n.modules which row in
    let long_kept : length (row_of new other).kept ≡ length (row_of n.modules other).kept = length_kept n.modules which other row is.there (length-set (row_of n.modules which).kept k x) in
    let long_stored : length (row_of new other).stored ≡ length (row_of n.modules other).stored = length_stored n.modules which other row is.there (length-set (row_of n.modules which).stored k o) in
    let kept : map (λ j. cond (is_inside n other (8 * j)) 0 (get_or (row_of new other).kept j 0)) (range_with_len 0 (length (row_of new other).kept))
    ≡ map (λ j. cond (is_inside n other (8 * j)) 0 (get_or (row_of n.modules other).kept j 0)) (range_with_len 0 (length (row_of n.modules other).kept)) =
    ap (λ c. map (λ j. cond (is_inside n other (8 * j)) 0 (get_or (row_of new other).kept j 0)) (range_with_len 0 c)) long_kept
    ∙ range_same (λ j. cond (is_inside n other (8 * j)) 0 (get_or (row_of new other).kept j 0)) (λ j. cond (is_inside n other (8 * j)) 0 (get_or (row_of n.modules other).kept j 0))
    (length (row_of n.modules other).kept) 0
    (λ j lt. elim (cases_Bool (is_inside n other (8 * j))) [
      | inl inside ↦ rw inside refl
      | inr outside ↦ rw outside (same_kept n.modules which k x other j o is.there (inside_here n i which k other j laid is outside))
    ]) in
    let stored : map (λ j. cond (is_inside n other (8 * j)) None (get_or (row_of new other).stored j None)) (range_with_len 0 (length (row_of new other).stored))
    ≡ map (λ j. cond (is_inside n other (8 * j)) None (get_or (row_of n.modules other).stored j None)) (range_with_len 0 (length (row_of n.modules other).stored)) =
    ap (λ c. map (λ j. cond (is_inside n other (8 * j)) None (get_or (row_of new other).stored j None)) (range_with_len 0 c)) long_stored
    ∙ range_same (λ j. cond (is_inside n other (8 * j)) None (get_or (row_of new other).stored j None)) (λ j. cond (is_inside n other (8 * j)) None (get_or (row_of n.modules other).stored j None))
    (length (row_of n.modules other).stored) None
    (λ j lt. elim (cases_Bool (is_inside n other (8 * j))) [
      | inl inside ↦ rw inside refl
      | inr outside ↦ rw outside (same_stored n.modules which k x other j o is.there (inside_here n i which k other j laid is outside))
    ]) in
    rw (kept, stored) refl

beside_changed : (n : Namespace) (i which k x : ℕ) (o : Option ℕ) → IsLaid n → IsWordOf n i which k
    → beside_of (with_row n which (changed (row_of n.modules which) k x o)) ≡ beside_of n
unfolding beside_of
beside_changed n i which k x o laid is =
    let new = with_row n which (changed (row_of n.modules which) k x o) in
    ap (λ c. map (row_beside new) (range_with_len 0 c)) (length-set n.modules which (changed (row_of n.modules which) k x o))
    ∙ range_same (row_beside new) (row_beside n) (length n.modules) blank (λ other lt. row_same n i which k x o other laid is)

beside_stepped : (n : Namespace) (i which k : ℕ) (whole part : Step) → IsLaid n → IsWordOf n i which k → IsStep n i which k whole part
    → beside_of (with_row n which (stepped (row_of n.modules which) part)) ≡ beside_of n
beside_stepped n i which k whole part laid is (stores v) =
    ap (λ r. beside_of (with_row n which r)) (sym (store_is (row_of n.modules which) k v)) ∙ beside_changed n i which k (get_or (row_of n.modules which).kept k 0) (Some v) laid is
beside_stepped n i which k whole part laid is keeps = beside_changed n i which k (seen_at (row_of n.modules which) k) None laid is

beside_none : (n : Namespace) (which : ℕ) → beside_of (with_row n which (row_of n.modules which)) ≡ beside_of n
beside_none n which = ap (λ ms. beside_of (record { set = n.set; offset = n.offset; raw = n.raw; modules = ms })) (set-get_or n.modules which blank)

beside_after : (n : Namespace) (i which k : ℕ) (whole part : Step) (fuse : Option ℕ) → IsLaid n → IsWordOf n i which k → IsStep n i which k whole part
    → beside_of (with_row n which (after (row_of n.modules which) (allowed fuse (part ∷ [])))) ≡ beside_of n
unfolding after
beside_after n i which k whole part None laid is step = beside_stepped n i which k whole part laid is step
beside_after n i which k whole part (Some zero) laid is step = beside_none n which
beside_after n i which k whole part (Some (suc zero)) laid is step = beside_stepped n i which k whole part laid is step
beside_after n i which k whole part (Some (suc (suc m))) laid is step = beside_stepped n i which k whole part laid is step

pub beside_same : (n : Namespace) (i which k : ℕ) (whole part : Step) (row : Words) (fuse left : Option ℕ) (made : Bool) → IsLaid n → IsWordOf n i which k → IsStep n i which k whole part
    → Makes (row_of n.modules which) row fuse left (part ∷ []) made → beside_of (with_row n which row) ≡ beside_of n
beside_same n i which k whole part row fuse left made laid is step makes =
    ap (λ r. beside_of (with_row n which r)) makes.words ∙ beside_after n i which k whole part fuse laid is step

-- ---- the rows stay well-formed

stepped_lengths : (n : Namespace) (i which k : ℕ) (whole part : Step) (row : Words) → IsStep n i which k whole part
    → (length (stepped row part).kept ≡ length row.kept) × (length (stepped row part).stored ≡ length row.stored)
stepped_lengths n i which k whole part row (stores v) = (refl, length-set row.stored k (Some v))
stepped_lengths n i which k whole part row keeps = (length-set row.kept k (seen_at row k), length-set row.stored k None)

after_lengths : (n : Namespace) (i which k : ℕ) (whole part : Step) (row : Words) (fuse : Option ℕ) → IsStep n i which k whole part
    → (length (after row (allowed fuse (part ∷ []))).kept ≡ length row.kept) × (length (after row (allowed fuse (part ∷ []))).stored ≡ length row.stored)
unfolding after
after_lengths n i which k whole part row None step = stepped_lengths n i which k whole part row step
after_lengths n i which k whole part row (Some zero) step = (refl, refl)
after_lengths n i which k whole part row (Some (suc zero)) step = stepped_lengths n i which k whole part row step
after_lengths n i which k whole part row (Some (suc (suc m))) step = stepped_lengths n i which k whole part row step

pub rows_after : (n : Namespace) (i which k : ℕ) (whole part : Step) (row : Words) (fuse left : Option ℕ) (made : Bool) → IsWordOf n i which k → IsStep n i which k whole part
    → Makes (row_of n.modules which) row fuse left (part ∷ []) made → HasRows n.set n.modules → HasRows n.set (set n.modules which row)
rows_after n i which k whole part row fuse left made is step makes rows =
    let longs = after_lengths n i which k whole part (row_of n.modules which) fuse step in
    let kept : length row.kept ≡ length (row_of n.modules which).kept = ap (λ (r : Words). length r.kept) makes.words ∙ longs.0 in
    let stored : length row.stored ≡ length (row_of n.modules which).stored = ap (λ (r : Words). length r.stored) makes.words ∙ longs.1 in
    record {
      rows = All-set IsRow n.modules which row (stored ∙ is.row ∙ sym kept) rows.rows;
      reach = λ m among.
          let reach = rows.reach m among in
          record {
            there = omega (arith, reach.there, length-set n.modules which row);
            reaches = omega (arith, reach.reaches, length_kept n.modules which m.«module» row is.there kept);
          };
    }

-- ---- the laws

pub row_at : (set : List Mapping) (offset raw : ℕ) (modules modules' : List Words) (which : ℕ) → beside_of (over set offset raw modules) ≡ beside_of (over set offset raw modules') → which < length modules
    → row_beside (over set offset raw modules) which ≡ row_beside (over set offset raw modules') which
unfolding beside_of
row_at set offset raw modules modules' which same lt =
    let long : length modules ≡ length modules' = sym (length_range (row_beside (over set offset raw modules)) (length modules)) ∙ ap length same ∙ length_range (row_beside (over set offset raw modules')) (length modules') in
    sym (at_range (row_beside (over set offset raw modules)) (length modules) which blank lt) ∙ ap (λ xs. get_or xs which blank) same
    ∙ at_range (row_beside (over set offset raw modules')) (length modules') which blank (omega (arith, lt, long))

pub same_count : (set : List Mapping) (offset raw : ℕ) (modules modules' : List Words) → beside_of (over set offset raw modules) ≡ beside_of (over set offset raw modules') → length modules ≡ length modules'
unfolding beside_of
same_count set offset raw modules modules' same =
    sym (length_range (row_beside (over set offset raw modules)) (length modules)) ∙ ap length same ∙ length_range (row_beside (over set offset raw modules')) (length modules')

-- two equal rows beside
pub record AreBeside (set : List Mapping) (offset raw : ℕ) (modules modules' : List Words) (which : ℕ) : Type 0 where
  pub long_kept : length (row_of modules which).kept ≡ length (row_of modules' which).kept
  pub long_stored : length (row_of modules which).stored ≡ length (row_of modules' which).stored
  pub kept : (k : ℕ) → is_inside (over set offset raw modules) which (8 * k) ≡ false → get_or (row_of modules which).kept k 0 ≡ get_or (row_of modules' which).kept k 0
  pub stored : (k : ℕ) → is_inside (over set offset raw modules) which (8 * k) ≡ false → get_or (row_of modules which).stored k None ≡ get_or (row_of modules' which).stored k None

listed : {X : Type 0} (inside : ℕ → Bool) (xs ys : List X) (none d : X)
    → map (λ k. cond (inside (8 * k)) none (get_or xs k d)) (range_with_len 0 (length xs)) ≡ map (λ k. cond (inside (8 * k)) none (get_or ys k d)) (range_with_len 0 (length ys))
    → (length xs ≡ length ys) × ((k : ℕ) → inside (8 * k) ≡ false → get_or xs k d ≡ get_or ys k d)
listed inside xs ys none d same =
    let long : length xs ≡ length ys = sym (length_range (λ k. cond (inside (8 * k)) none (get_or xs k d)) (length xs)) ∙ ap length same ∙ length_range (λ k. cond (inside (8 * k)) none (get_or ys k d)) (length ys) in (
      long,
      λ k outside. elim (cases_lt k (length xs)) [
        | inl lt ↦
            let e = sym (at_range (λ k. cond (inside (8 * k)) none (get_or xs k d)) (length xs) k d lt) ∙ ap (λ zs. get_or zs k d) same
            ∙ at_range (λ k. cond (inside (8 * k)) none (get_or ys k d)) (length ys) k d (omega (arith, lt, long)) in
            rw outside at e
        | inr past ↦ get_or_past xs k d past ∙ sym (get_or_past ys k d (omega (arith, past, long)))
      ],
    )

pub rows_beside : (set : List Mapping) (offset raw : ℕ) (modules modules' : List Words) (which : ℕ) → row_beside (over set offset raw modules) which ≡ row_beside (over set offset raw modules') which
    → AreBeside set offset raw modules modules' which
rows_beside set offset raw modules modules' which same =
    let kept = listed (is_inside (over set offset raw modules) which) (row_of modules which).kept (row_of modules' which).kept 0 0 (ap (λ (r : Words). r.kept) same) in
    let stored = listed (is_inside (over set offset raw modules) which) (row_of modules which).stored (row_of modules' which).stored None None (ap (λ (r : Words). r.stored) same) in
    record { long_kept = kept.0; long_stored = stored.0; kept = kept.1; stored = stored.1 }

-- one law: the words of a namespace and those beside it are all words
same_rows : (set : List Mapping) (offset raw : ℕ) (modules modules' : List Words) (which : ℕ) → IsLaid (over set offset raw modules) → IsLaid (over set offset raw modules')
    → words_of (over set offset raw modules) ≡ words_of (over set offset raw modules') → AreBeside set offset raw modules modules' which → row_of modules which ≡ row_of modules' which
same_rows set offset raw modules modules' which laid laid' words beside =
    let kept : (row_of modules which).kept ≡ (row_of modules' which).kept =
    ext_get_or 0 (row_of modules which).kept (row_of modules' which).kept beside.long_kept
    (λ k lt. elim (cases_Bool (is_inside (over set offset raw modules) which (8 * k))) [
      | inl inside ↦
          let at = inside_word (over set offset raw modules) which (8 * k) laid (omega arith) inside in
          sym (kept_is (over set offset raw modules) at.0 which (8 * k) laid at.1.below at.1.lies ∙ ap (λ j. get_or (row_of modules which).kept j 0) (eighth k))
          ∙ ap (λ (w : Words). get_or w.kept at.0 0) words
          ∙ kept_is (over set offset raw modules') at.0 which (8 * k) laid' at.1.below at.1.lies ∙ ap (λ j. get_or (row_of modules' which).kept j 0) (eighth k)
      | inr outside ↦ beside.kept k outside
    ]) in
    let stored : (row_of modules which).stored ≡ (row_of modules' which).stored =
    ext_get_or None (row_of modules which).stored (row_of modules' which).stored beside.long_stored
    (λ k lt. elim (cases_Bool (is_inside (over set offset raw modules) which (8 * k))) [
      | inl inside ↦
          let at = inside_word (over set offset raw modules) which (8 * k) laid (omega arith) inside in
          sym (stored_is (over set offset raw modules) at.0 which (8 * k) laid at.1.below at.1.lies ∙ ap (λ j. get_or (row_of modules which).stored j None) (eighth k))
          ∙ ap (λ (w : Words). get_or w.stored at.0 None) words
          ∙ stored_is (over set offset raw modules') at.0 which (8 * k) laid' at.1.below at.1.lies ∙ ap (λ j. get_or (row_of modules' which).stored j None) (eighth k)
      | inr outside ↦ beside.stored k outside
    ]) in
    row_is (row_of modules which) (row_of modules' which) kept stored
  where
    row_is : (a b : Words) → a.kept ≡ b.kept → a.stored ≡ b.stored → a ≡ b
    row_is a b e f = ap (λ ks. record { kept = ks; stored = a.stored }) e ∙ ap (λ os. record { kept = b.kept; stored = os }) f

pub are_all : (set : List Mapping) (offset raw : ℕ) → ((modules : List Words) → IsLaid (over set offset raw modules)) → AreAll set offset raw
are_all set offset raw laid modules modules' words beside =
    ext_get_or blank modules modules' (same_count set offset raw modules modules' beside)
    (λ which lt. same_rows set offset raw modules modules' which (laid modules) (laid modules') words
    (rows_beside set offset raw modules modules' which (row_at set offset raw modules modules' which beside lt)))

-- the other law: outside the extents of a namespace the words are those beside it
pub are_same_outside : (set : List Mapping) (offset raw : ℕ) → AreSameOutside set offset raw
are_same_outside set offset raw modules modules' beside which address eights outside =
    let e : 8 * (address / 8) ≡ address = omega (arith, eights) in
    let there : is_inside (over set offset raw modules) which (8 * (address / 8)) ≡ false = ap (λ a. is_inside (over set offset raw modules) which a) e ∙ outside in
    elim (cases_lt which (length modules)) [
      | inl lt ↦
          let rows = rows_beside set offset raw modules modules' which (row_at set offset raw modules modules' which beside lt) in
          (rows.kept (address / 8) there, rows.stored (address / 8) there)
      | inr past ↦
          let none : row_of modules which ≡ blank = get_or_past modules which blank past in
          let none' : row_of modules' which ≡ blank = get_or_past modules' which blank (omega (arith, past, same_count set offset raw modules modules' beside)) in
          let same : row_of modules which ≡ row_of modules' which = none ∙ sym none' in
          (ap (λ (r : Words). get_or r.kept (address / 8) 0) same, ap (λ (r : Words). get_or r.stored (address / 8) None) same)
    ]
