-- The words of a namespace as words of the modules, and a step on one of them.
use Rattle.std.proofs.Common.{◌≡◌, ◌≢◌, ℕ, zero, suc, ◌+◌, ◌*◌, ◌/◌, ◌%◌, ◌^◌, ◌<◌, ◌≤◌, Bool, false, List, [], ◌∷◌, length, map, get_or, Option, Some, None, refl, sym, ap, ◌∙◌, subst, arith, inl, inr}
use Rattle.std.specs.Prelude.{Contains, ◌==◌, unwrap_or}
use Rattle.std.specs.List.{range_with_len}
use Rattle.std.proofs.Math.ListN.{set}
use Rattle.std.proofs.lemmas.Bool.{cases_Bool, eqb-true}
use Rattle.std.proofs.lemmas.Bool.Decides.{nat_tests}
use Rattle.std.proofs.lemmas.List.{ext_get_or, get_or_read, get_or-set_other, get_or-set_same, set-get_or, length-set, length-map}
use Rattle.std.proofs.lemmas.List.Elements.{All-get_or}
use Rattle.std.proofs.lemmas.List.FromFn.{get_or-map-range_with_len, length-range_with_len}
use Rattle.nfit_reader.specs.declared.table.Mapping.{Mapping}
use Rattle.interleave.specs.Places.{LiesAt, unit_of}
use Rattle.interleave.specs.Sound.{AreWords, IsPlacing, PartsAlike, span_of}
use Rattle.interleave.specs.Sound as sound
use Rattle.cut_words.specs.Words.{Words, Step, store, keep, stepped, after, seen_at}
use Rattle.cut_words.specs.Fuses.{Makes, allowed}
use Rattle.power_cut.specs.Namespace.{Namespace, HasRows, IsLaid, IsOver, IsRow, byte_at, count_of, kept_at, kept_by, place_of, row_of, stored_at, stored_by, words_of}
use Rattle.power_cut.proofs.Places.{IsWordAt, aligned, has_address, one_index, place_is}

pub differ : (a b : ℕ) → (a == b) ≡ false → a ≢ b
differ a b e = grind (arith, nat_tests)

-- ---- lists by their places

pub length_range : {X : Type 0} (f : ℕ → X) (count : ℕ) → length (map f (range_with_len 0 count)) ≡ count
length_range f count = length-map (range_with_len 0 count) f ∙ length-range_with_len 0 count

pub at_range : {X : Type 0} (f : ℕ → X) (count i : ℕ) (d : X) → i < count → get_or (map f (range_with_len 0 count)) i d ≡ f i
at_range f count i d lt = get_or-map-range_with_len f 0 count i i d lt (omega arith)

-- a list whose items are f's except at one place
range_set : {X : Type 0} (f g : ℕ → X) (count i : ℕ) (x d : X) → i < count → g i ≡ x → ((j : ℕ) → j < count → j ≢ i → g j ≡ f j)
    → map g (range_with_len 0 count) ≡ set (map f (range_with_len 0 count)) i x
range_set f g count i x d lt here there =
    ext_get_or d (map g (range_with_len 0 count)) (set (map f (range_with_len 0 count)) i x) long each
  where
    long : length (map g (range_with_len 0 count)) ≡ length (set (map f (range_with_len 0 count)) i x)
    long = length_range g count ∙ sym (length-set (map f (range_with_len 0 count)) i x ∙ length_range f count)

    each : (j : ℕ) → j < length (map g (range_with_len 0 count)) → get_or (map g (range_with_len 0 count)) j d ≡ get_or (set (map f (range_with_len 0 count)) i x) j d
    each j below =
        let inside : j < count = omega (arith, below, length_range g count) in
        at_range g count j d inside
        ∙ elim (cases_Bool (j == i)) [
          | inl same ↦
              let e : j ≡ i = eqb-true j i same in
              rw e (here ∙ sym (get_or-set_same (map f (range_with_len 0 count)) i x d (omega (arith, lt, length_range f count))))
          | inr other ↦
              let apart : j ≢ i = differ j i other in
              there j inside apart ∙ sym (get_or-set_other (map f (range_with_len 0 count)) i j x d apart ∙ at_range f count j d inside)
        ]

pub range_same : {X : Type 0} (f g : ℕ → X) (count : ℕ) (d : X) → ((j : ℕ) → j < count → f j ≡ g j) → map f (range_with_len 0 count) ≡ map g (range_with_len 0 count)
range_same f g count d same =
    ext_get_or d (map f (range_with_len 0 count)) (map g (range_with_len 0 count)) (length_range f count ∙ sym (length_range g count)) each
  where
    each : (j : ℕ) → j < length (map f (range_with_len 0 count)) → get_or (map f (range_with_len 0 count)) j d ≡ get_or (map g (range_with_len 0 count)) j d
    each j below =
        let inside : j < count = omega (arith, below, length_range f count) in
        at_range f count j d inside ∙ same j inside ∙ sym (at_range g count j d inside)

-- ---- the words of a namespace

pub kept_word : (n : Namespace) (i which address : ℕ) → IsLaid n → i < count_of n → LiesAt n.set (byte_at n i) which address → kept_by n.modules (place_of n.set (byte_at n i)) ≡ kept_at n.modules which address
kept_word n i which address laid lt lies = ap (λ o. kept_by n.modules o) (place_is n (byte_at n i) which address laid lies)

pub stored_word : (n : Namespace) (i which address : ℕ) → IsLaid n → i < count_of n → LiesAt n.set (byte_at n i) which address
    → stored_by n.modules (place_of n.set (byte_at n i)) ≡ stored_at n.modules which address
stored_word n i which address laid lt lies = ap (λ o. stored_by n.modules o) (place_is n (byte_at n i) which address laid lies)

pub count_is : (n : Namespace) → length (words_of n).kept ≡ count_of n
unfolding words_of
count_is n = length_range (λ i. kept_by n.modules (place_of n.set (byte_at n i))) (count_of n)

pub kept_is : (n : Namespace) (i which address : ℕ) → IsLaid n → i < count_of n → LiesAt n.set (byte_at n i) which address → get_or (words_of n).kept i 0 ≡ kept_at n.modules which address
unfolding words_of
kept_is n i which address laid lt lies = at_range (λ i. kept_by n.modules (place_of n.set (byte_at n i))) (count_of n) i 0 lt ∙ kept_word n i which address laid lt lies

pub stored_is : (n : Namespace) (i which address : ℕ) → IsLaid n → i < count_of n → LiesAt n.set (byte_at n i) which address → get_or (words_of n).stored i None ≡ stored_at n.modules which address
unfolding words_of
stored_is n i which address laid lt lies = at_range (λ i. stored_by n.modules (place_of n.set (byte_at n i))) (count_of n) i None lt ∙ stored_word n i which address laid lt lies

pub is_over : (n : Namespace) → IsLaid n → IsOver n n.modules (words_of n)
is_over n laid = record {
  count = count_is n;
  kept = λ i which address lt lies. kept_is n i which address laid lt lies;
  stored = λ i which address lt lies. stored_is n i which address laid lt lies;
}

-- ---- one word is changed

abbrev pub changed : Words → ℕ → ℕ → Option ℕ → Words
changed row k x o = record { kept = set row.kept k x; stored = set row.stored k o }

-- the namespace with other words in a module
abbrev pub with_row : Namespace → ℕ → Words → Namespace
with_row n which row = record { set = n.set; offset = n.offset; raw = n.raw; modules = set n.modules which row }

abbrev pub blank : Words
blank = record { kept = []; stored = [] }

pub row_other : (modules : List Words) (which other : ℕ) (row : Words) → other ≢ which → row_of (set modules which row) other ≡ row_of modules other
row_other modules which other row apart = get_or-set_other modules which other row blank apart

pub row_here : (modules : List Words) (which : ℕ) (row : Words) → which < length modules → row_of (set modules which row) which ≡ row
row_here modules which row lt = get_or-set_same modules which row blank lt

-- a word other than the changed one
pub same_kept : (modules : List Words) (which k x other j : ℕ) (o : Option ℕ) → which < length modules → (other ≡ which → j ≢ k)
    → get_or (row_of (set modules which (changed (row_of modules which) k x o)) other).kept j 0 ≡ get_or (row_of modules other).kept j 0
same_kept modules which k x other j o lt apart = elim (cases_Bool (other == which)) [
  | inl same ↦
      let e : other ≡ which = eqb-true other which same in
      ap (λ w. get_or (row_of (set modules which (changed (row_of modules which) k x o)) w).kept j 0) e
      ∙ ap (λ (r : Words). get_or r.kept j 0) (row_here modules which (changed (row_of modules which) k x o) lt)
      ∙ get_or-set_other (row_of modules which).kept k j x 0 (apart e) ∙ sym (ap (λ w. get_or (row_of modules w).kept j 0) e)
  | inr different ↦ ap (λ (r : Words). get_or r.kept j 0) (row_other modules which other (changed (row_of modules which) k x o) (differ other which different))
]

pub same_stored : (modules : List Words) (which k x other j : ℕ) (o : Option ℕ) → which < length modules → (other ≡ which → j ≢ k)
    → get_or (row_of (set modules which (changed (row_of modules which) k x o)) other).stored j None ≡ get_or (row_of modules other).stored j None
same_stored modules which k x other j o lt apart = elim (cases_Bool (other == which)) [
  | inl same ↦
      let e : other ≡ which = eqb-true other which same in
      ap (λ w. get_or (row_of (set modules which (changed (row_of modules which) k x o)) w).stored j None) e
      ∙ ap (λ (r : Words). get_or r.stored j None) (row_here modules which (changed (row_of modules which) k x o) lt)
      ∙ get_or-set_other (row_of modules which).stored k j o None (apart e) ∙ sym (ap (λ w. get_or (row_of modules w).stored j None) e)
  | inr different ↦ ap (λ (r : Words). get_or r.stored j None) (row_other modules which other (changed (row_of modules which) k x o) (differ other which different))
]

-- the place of a step
pub record IsWordOf (n : Namespace) (i which k : ℕ) : Type 0 where
  pub at : IsWordAt n i which (8 * k)
  pub there : which < length n.modules
  pub inside : k < length (row_of n.modules which).kept
  pub row : IsRow (row_of n.modules which)

pub eighth : (k : ℕ) → 8 * k / 8 ≡ k
eighth k = omega arith

-- the other words of the namespace lie elsewhere
elsewhere : (n : Namespace) (i j which k other address : ℕ) → IsLaid n → IsWordOf n i which k → j < count_of n → LiesAt n.set (byte_at n j) other address → j ≢ i → other ≡ which → address / 8 ≢ k
elsewhere n i j which k other address laid is lt lies apart same eq =
    let whole = aligned n j other address laid (record { below = lt; lies = lies }) in
    let e : address ≡ 8 * k = omega (arith, whole, eq) in
    apart (one_index n j i which (8 * k) laid (subst (λ a. LiesAt n.set (byte_at n j) which a) e (subst (λ w. LiesAt n.set (byte_at n j) w address) same lies)) is.at.lies)

changed_words : (n : Namespace) (i which k x : ℕ) (o : Option ℕ) → IsLaid n → IsWordOf n i which k
    → words_of (with_row n which (changed (row_of n.modules which) k x o)) ≡ changed (words_of n) i x o
unfolding words_of
changed_words n i which k x o laid is =
    let new = set n.modules which (changed (row_of n.modules which) k x o) in
    let kept : map (λ j. kept_by new (place_of n.set (byte_at n j))) (range_with_len 0 (count_of n)) ≡ set (map (λ j. kept_by n.modules (place_of n.set (byte_at n j))) (range_with_len 0 (count_of n))) i x =
    range_set (λ j. kept_by n.modules (place_of n.set (byte_at n j))) (λ j. kept_by new (place_of n.set (byte_at n j))) (count_of n) i x 0 is.at.below
    (ap (λ p. kept_by new p) (place_is n (byte_at n i) which (8 * k) laid is.at.lies)
    ∙ ap (λ (r : Words). get_or r.kept (8 * k / 8) 0) (row_here n.modules which (changed (row_of n.modules which) k x o) is.there)
    ∙ ap (λ j. get_or (set (row_of n.modules which).kept k x) j 0) (eighth k) ∙ get_or-set_same (row_of n.modules which).kept k x 0 is.inside)
    (λ j lt apart.
    let place = has_address n j laid lt in
    ap (λ p. kept_by new p) (place_is n (byte_at n j) place.which place.address laid place.lies)
    ∙ same_kept n.modules which k x place.which (place.address / 8) o is.there (elsewhere n i j which k place.which place.address laid is lt place.lies apart)
    ∙ sym (ap (λ p. kept_by n.modules p) (place_is n (byte_at n j) place.which place.address laid place.lies))) in
    let stored : map (λ j. stored_by new (place_of n.set (byte_at n j))) (range_with_len 0 (count_of n)) ≡ set (map (λ j. stored_by n.modules (place_of n.set (byte_at n j))) (range_with_len 0 (count_of n))) i o =
    range_set (λ j. stored_by n.modules (place_of n.set (byte_at n j))) (λ j. stored_by new (place_of n.set (byte_at n j))) (count_of n) i o None is.at.below
    (ap (λ p. stored_by new p) (place_is n (byte_at n i) which (8 * k) laid is.at.lies)
    ∙ ap (λ (r : Words). get_or r.stored (8 * k / 8) None) (row_here n.modules which (changed (row_of n.modules which) k x o) is.there)
    ∙ ap (λ j. get_or (set (row_of n.modules which).stored k o) j None) (eighth k) ∙ get_or-set_same (row_of n.modules which).stored k o None (omega (arith, is.row, is.inside)))
    (λ j lt apart.
    let place = has_address n j laid lt in
    ap (λ p. stored_by new p) (place_is n (byte_at n j) place.which place.address laid place.lies)
    ∙ same_stored n.modules which k x place.which (place.address / 8) o is.there (elsewhere n i j which k place.which place.address laid is lt place.lies apart)
    ∙ sym (ap (λ p. stored_by n.modules p) (place_is n (byte_at n j) place.which place.address laid place.lies))) in
    rw (kept, stored) refl

-- ---- steps

pub store_is : (w : Words) (i v : ℕ) → changed w i (get_or w.kept i 0) (Some v) ≡ stepped w (store i v)
store_is w i v = ap (λ kept. record { kept = kept; stored = set w.stored i (Some v) }) (set-get_or w.kept i 0)

pub seen_is : (n : Namespace) (i which k : ℕ) → IsLaid n → IsWordOf n i which k → seen_at (words_of n) i ≡ seen_at (row_of n.modules which) k
seen_is n i which k laid is =
    ap (λ o. unwrap_or o (get_or (words_of n).kept i 0)) (stored_is n i which (8 * k) laid is.at.below is.at.lies ∙ ap (λ j. get_or (row_of n.modules which).stored j None) (eighth k))
    ∙ ap (λ v. unwrap_or (get_or (row_of n.modules which).stored k None) v) (kept_is n i which (8 * k) laid is.at.below is.at.lies ∙ ap (λ j. get_or (row_of n.modules which).kept j 0) (eighth k))

-- the step on the namespace's word, and the one on the module's
pub data IsStep (n : Namespace) (i which k : ℕ) : Step → Step → Type 0 where
  stores : (v : ℕ) → IsStep n i which k (store i v) (store k v)
  keeps : IsStep n i which k (keep i) (keep k)

stepped_words : (n : Namespace) (i which k : ℕ) (whole part : Step) → IsLaid n → IsWordOf n i which k → IsStep n i which k whole part
    → words_of (with_row n which (stepped (row_of n.modules which) part)) ≡ stepped (words_of n) whole
stepped_words n i which k whole part laid is (stores v) =
    ap (λ r. words_of (with_row n which r)) (sym (store_is (row_of n.modules which) k v))
    ∙ changed_words n i which k (get_or (row_of n.modules which).kept k 0) (Some v) laid is
    ∙ ap (λ x. changed (words_of n) i x (Some v)) (sym (kept_is n i which (8 * k) laid is.at.below is.at.lies ∙ ap (λ j. get_or (row_of n.modules which).kept j 0) (eighth k)))
    ∙ store_is (words_of n) i v
stepped_words n i which k whole part laid is keeps =
    changed_words n i which k (seen_at (row_of n.modules which) k) None laid is
    ∙ ap (λ x. changed (words_of n) i x None) (sym (seen_is n i which k laid is))

pub same_row : (n : Namespace) (which : ℕ) → words_of (with_row n which (row_of n.modules which)) ≡ words_of n
same_row n which = ap (λ ms. words_of (record { set = n.set; offset = n.offset; raw = n.raw; modules = ms })) (set-get_or n.modules which blank)

after_words : (n : Namespace) (i which k : ℕ) (whole part : Step) (fuse : Option ℕ) → IsLaid n → IsWordOf n i which k → IsStep n i which k whole part
    → words_of (with_row n which (after (row_of n.modules which) (allowed fuse (part ∷ [])))) ≡ after (words_of n) (allowed fuse (whole ∷ []))
unfolding after
after_words n i which k whole part None laid is step = stepped_words n i which k whole part laid is step
after_words n i which k whole part (Some zero) laid is step = same_row n which
after_words n i which k whole part (Some (suc zero)) laid is step = stepped_words n i which k whole part laid is step
after_words n i which k whole part (Some (suc (suc m))) laid is step = stepped_words n i which k whole part laid is step

-- the effect of a step on a module's word on the namespace's words
pub makes_words : (n : Namespace) (i which k : ℕ) (whole part : Step) (row : Words) (fuse left : Option ℕ) (made : Bool) → IsLaid n → IsWordOf n i which k → IsStep n i which k whole part
    → Makes (row_of n.modules which) row fuse left (part ∷ []) made → Makes (words_of n) (words_of (with_row n which row)) fuse left (whole ∷ []) made
makes_words n i which k whole part row fuse left made laid is step makes = record {
  words = ap (λ r. words_of (with_row n which r)) makes.words ∙ after_words n i which k whole part fuse laid is step;
  fuse_left = makes.fuse_left;
  all_made = makes.all_made;
}

-- ---- in terms of the methods

pub word_of_rows : (n : Namespace) (i which k : ℕ) → HasRows n.set n.modules → i < count_of n → LiesAt n.set (byte_at n i) which (8 * k) → which < length n.modules
    → k < length (row_of n.modules which).kept → IsWordOf n i which k
word_of_rows n i which k rows lt lies there inside = record {
  at = record { below = lt; lies = lies };
  there = there;
  inside = inside;
  row = All-get_or IsRow n.modules which blank there rows.rows;
}

pub row_read : (modules : List Words) (which : ℕ) (row : Words) → which < length modules → row ≡ get_or modules which row → row ≡ row_of modules which
row_read modules which row lt is = get_or_read modules which row lt is blank

-- a byte of the set lies in a module that has words
pub in_rows : (n : Namespace) (y which address : ℕ) → HasRows n.set n.modules → LiesAt n.set y which address → which < length n.modules
in_rows n y which address rows lies =
    let reach = rows.reach lies.0 lies.1 in
    omega (arith, reach.there, lies.2.of)

-- the place of a namespace doesn't depend on the words
pub laid_any : (n : Namespace) (modules : List Words) → IsLaid n → IsLaid (record { set = n.set; offset = n.offset; raw = n.raw; modules = modules })
laid_any n modules laid = record {
  places = laid.places;
  words = laid.words;
  parts = laid.parts;
  apart = laid.apart;
  each = laid.each;
  fits = laid.fits;
  from = laid.from;
  to = laid.to;
  eights = laid.eights;
  inside = laid.inside;
}

-- in terms of the set's methods
pub laid_of : (ms : List Mapping) (offset raw span unit : ℕ) (modules : List Words) → offset % unit_of ms ≡ 0 → raw % unit_of ms ≡ 0 → offset + raw ≤ span_of ms
    → unit ≡ unit_of ms → unit % 8 ≡ 0 → PartsAlike ms → span ≡ span_of ms → length ms * span < 2 ^ 64 → ((m : Mapping) → Contains ms m → m.size ≡ span) → sound.AreApart ms
    → IsPlacing ms (length ms * span) → AreWords ms → IsLaid (record { set = ms; offset = offset; raw = raw; modules = modules })
laid_of ms offset raw span unit modules from to inside is_unit eights parts is_span fits each apart places words = record {
  places = subst (λ s. IsPlacing ms (length ms * s)) is_span places;
  words = words;
  parts = parts;
  apart = apart;
  each = λ m among. each m among ∙ is_span;
  fits = subst (λ s. length ms * s < 2 ^ 64) is_span fits;
  from = from;
  to = to;
  eights = sym (ap (λ (u : ℕ). u % 8) is_unit) ∙ eights;
  inside = inside;
}
