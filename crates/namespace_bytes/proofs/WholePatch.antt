-- All contents with the new bytes of a namespace put into them: the namespace has them, and nothing beside it has changed.
use Rattle.std.proofs.Common.{◌≡◌, ◌⊎◌, ℕ, ◌+◌, ◌-◌, ◌*◌, ◌/◌, ◌%◌, ◌<◌, ◌≤◌, Bool, true, false, List, [], ◌∷◌, length, map, take, drop, get_or, replicate, Option, Some, None, refl, sym, ap, ◌∙◌, subst, arith, inl, inr}
use Rattle.std.specs.Prelude.{Contains, ◌==◌, ◌&&◌, if◌then◌else◌, nat_le, nat_lt, slice_index_or}
use Rattle.std.specs.List.{range_with_len}
use Rattle.std.specs.Int.{w64, from_le_bytes}
use Rattle.std.proofs.lemmas.Bool.{cases_Bool, cases_lt}
use Rattle.std.proofs.lemmas.Bool.Decides.{nat_tests}
use Rattle.std.proofs.lemmas.List.{ext_get_or, get_or-drop, get_or-map, get_or-take, length-drop, length-map, length-take-le}
use Rattle.std.proofs.lemmas.List.Elements.{All-cons, All-nil}
use Rattle.std.proofs.lemmas.List.Folds.{list_any_at}
use Rattle.std.proofs.lemmas.Nat.{div-add-mod'}
use Rattle.nfit_reader.specs.declared.table.Mapping.{Mapping}
use Rattle.nvd_words.specs.Bytes.{number_at}
use Rattle.interleave.specs.Places.{LiesAt, unit_of}
use Rattle.interleave.specs.Sound.{span_of}
use Rattle.cut_words.specs.Words.{Words, settled}
use Rattle.cut_words.specs.WordBytes.{words_in}
use Rattle.arena_open.proofs.Bytes.{length_words, word_index}
use Rattle.power_cut.specs.Namespace.{Namespace, ReachEnds, beside_of, byte_at, count_of, is_inside, over, place_of, row_beside, row_of, words_of}
use Rattle.power_cut.proofs.Spread.{at_range, blank, count_is, kept_is, length_range, range_same}
use Rattle.sector_namespaces.specs.View.{rows_of}
use Rattle.sector_namespaces.specs.Creation.{AreSettled}
use Rattle.sector_namespaces.proofs.Views.{view_settled}
use Rattle.image_set.specs.Patches.{patched_contents, patched_row}
use Rattle.namespace_bytes.specs.Changed.{changed_from}
use Rattle.namespace_bytes.specs.Patching.{ArePatched, AreWhole, BytePatch, IsBytePatch, byte_in, byte_patched, bytes_by_place, new_of, start_in}
use Rattle.power_cut.proofs.Places.{byte_is as word_byte, place_is}
use Rattle.namespace_bytes.proofs.Patched.{at_row, byte_kept, byte_none, byte_put, byte_range, found_is, length_row, start_is}

-- a multiple of a multiple of a multiple of eight
times_eights : (m a u : ℕ) → a % u ≡ 0 → u % 8 ≡ 0 → m * a % 8 ≡ 0
times_eights m a u whole eights =
    let parts : a ≡ a / u * u = omega (arith, div-add-mod' a u, whole) in
    let u_is : u ≡ u / 8 * 8 = omega (arith, eights) in
    let product : m * a ≡ m * (a / u) * (u / 8) * 8 = ap (λ (b : ℕ). m * b) parts ∙ ap (λ (v : ℕ). m * (a / u * v)) u_is ∙ omega arith in
    omega (arith, product)

-- ---- rows of words

pub row_is : (contents : List (List ℕ)) (which : ℕ) → which < length contents → row_of (rows_of contents) which ≡ settled (words_in (get_or contents which []))
row_is contents which lt = get_or-map (λ (bytes : List ℕ). settled (words_in bytes)) contents which [] blank lt

all_settled : (contents : List (List ℕ)) → AreSettled (rows_of contents)
all_settled [] = All-nil (λ (w : Words). w ≡ settled w.kept)
all_settled (row ∷ rows) = All-cons (λ (w : Words). w ≡ settled w.kept) (settled (words_in row)) (rows_of rows) (refl {A = Words} {a = settled (words_in row)}) (all_settled rows)

at_first : (f : ℕ → ℕ → ℕ → ℕ) (m : ℕ) (row : List ℕ) (k : ℕ) → k < length row → get_or (patched_row f m 0 row) k 0 ≡ f m k (get_or row k 0)
at_first f m row k lt = at_row f m 0 row k lt ∙ ap (λ (a : ℕ). f m a (get_or row k 0)) (omega arith)

-- eight bytes that are the same make the same word
pub same_number : (bytes bytes' : List ℕ) (at at' : ℕ) → at + 8 ≤ length bytes → at' + 8 ≤ length bytes' → ((j : ℕ) → j < 8 → get_or bytes (at + j) 0 ≡ get_or bytes' (at' + j) 0)
    → number_at w64 bytes at ≡ number_at w64 bytes' at'
unfolding number_at
same_number bytes bytes' at at' fits fits' same =
    let long : length (take 8 (drop at bytes)) ≡ 8 = length-take-le 8 (drop at bytes) (omega (arith, length-drop at bytes, fits)) in
    let long' : length (take 8 (drop at' bytes')) ≡ 8 = length-take-le 8 (drop at' bytes') (omega (arith, length-drop at' bytes', fits')) in
    ap (from_le_bytes w64) (ext_get_or 0 (take 8 (drop at bytes)) (take 8 (drop at' bytes')) (long ∙ sym long') (λ j lt.
    let less : j < 8 = omega (arith, lt, long) in
    get_or-take 8 (drop at bytes) j 0 less ∙ get_or-drop at bytes j 0 ∙ same j less ∙ sym (get_or-take 8 (drop at' bytes') j 0 less ∙ get_or-drop at' bytes' j 0)))

module _ (p : BytePatch) (is : IsBytePatch p) (contents : List (List ℕ)) (whole : AreWhole contents) (reach : ReachEnds p.set (rows_of contents)) where
  abbrev news : List (List ℕ)
  news = patched_contents (byte_patched p) contents

  abbrev was : Namespace
  was = over p.set p.offset p.raw (rows_of contents)

  abbrev now : Namespace
  now = over p.set p.offset p.raw (rows_of (patched_contents (byte_patched p) contents))

  count : length news ≡ length contents
  count = length_range (λ m. patched_row (byte_patched p) m 0 (get_or contents m [])) (length contents)

  -- a module's new bytes
  abbrev old : ℕ → List ℕ
  old which = get_or contents which []

  abbrev new : ℕ → List ℕ
  new which = patched_row (byte_patched p) which 0 (get_or contents which [])

  new_is : (which : ℕ) → which < length contents → get_or news which [] ≡ new which
  new_is which lt = at_range (λ m. patched_row (byte_patched p) m 0 (get_or contents m [])) (length contents) which [] lt

  row_now : (which : ℕ) → which < length contents → row_of (rows_of news) which ≡ settled (words_in (new which))
  row_now which lt = row_is news which (omega (arith, lt, count)) ∙ ap (λ (row : List ℕ). settled (words_in row)) (new_is which lt)

  -- a module of the set has all bytes of its mapping
  there : (which address : ℕ) → (m : Mapping) → Contains p.set m → m.«module» ≡ which → address < m.start + m.size → (which < length contents) × (address < 8 * (length (old which) / 8))
  there which address m among named inside =
      let has = reach m among in
      let known : m.«module» < length contents = omega (arith, has.there, length-map contents (λ (bytes : List ℕ). settled (words_in bytes))) in
      let long : length (row_of (rows_of contents) m.«module»).kept ≡ length (old m.«module») / 8 =
      ap (λ (w : Words). length w.kept) (row_is contents m.«module» known) ∙ length_words (old m.«module») in
      let reaches : address < 8 * (length (old m.«module») / 8) = omega (arith, has.reaches, long, inside) in
      subst (λ (w : ℕ). (w < length contents) × (address < 8 * (length (old w) / 8))) named (known, reaches)

  -- ---- the namespace

  abbrev bytes : List ℕ
  bytes = bytes_by_place p.set p.offset p.raw contents

  bytes_long : length bytes ≡ length p.set * p.raw
  bytes_long = length_range (λ i. byte_in contents (place_of p.set (length p.set * p.offset + i))) (length p.set * p.raw)

  abbrev put : List ℕ
  put = changed_from (new_of p.bytes) 0 (bytes_by_place p.set p.offset p.raw contents)

  put_long : length put ≡ length p.set * p.raw
  put_long = length_row (λ m. new_of p.bytes) 0 0 bytes ∙ bytes_long

  -- byte k of the namespace, at its place
  byte_is : (k which address : ℕ) → k < length p.set * p.raw → LiesAt p.set (length p.set * p.offset + k) which address → get_or bytes k 0 ≡ get_or (old which) address 0
  byte_is k which address lt lies =
      at_range (λ i. byte_in contents (place_of p.set (length p.set * p.offset + i))) (length p.set * p.raw) k 0 lt
      ∙ ap (byte_in contents) (place_is was (length p.set * p.offset + k) which address (is.laid (rows_of contents)) lies)

  -- its new value
  byte_now : (k which address : ℕ) → k < length p.set * p.raw → LiesAt p.set (length p.set * p.offset + k) which address
      → byte_patched p which address (get_or (old which) address 0) ≡ get_or put k 0
  byte_now k which address lt lies =
      let sum : length p.set * (p.offset + p.raw) ≡ length p.set * p.offset + length p.set * p.raw = omega arith in
      byte_put p is (length p.set * p.offset + k) which address (get_or (old which) address 0) lies (omega arith) (omega (arith, sum, lt))
      ∙ ap (λ (i : ℕ). new_of p.bytes i (get_or (old which) address 0)) (omega arith)
      ∙ ap (new_of p.bytes (0 + k)) (sym (byte_is k which address lt lies))
      ∙ sym (at_row (λ m. new_of p.bytes) 0 0 bytes k (omega (arith, lt, bytes_long)))

  -- ---- its words

  -- the place of a word
  record Place (i : ℕ) : Type 0 where
    which : ℕ
    address : ℕ
    lies : LiesAt p.set (byte_at was i) which address
    known : which < length contents
    aligned : address % 8 ≡ 0
    room : address + 8 ≤ length (old which)
    each : (j : ℕ) → j < 8 → LiesAt p.set (length p.set * p.offset + (8 * i + j)) which (address + j)

  place_at : (i : ℕ) → i < count_of was → Place i
  place_at i lt =
      let laid = is.laid (rows_of contents) in
      let place = laid.places.has (byte_at was i) (word_byte was i laid lt).in_region in
      let word = laid.words (byte_at was i) place.which place.address (word_byte was i laid lt).whole place.lies in
      let has = there place.which place.address place.lies.0 place.lies.1 place.lies.2.of place.lies.2.inside in
      record {
        which = place.which;
        address = place.address;
        lies = place.lies;
        known = has.0;
        aligned = word.aligned;
        room = omega (arith, has.1, word.aligned);
        each = λ j less. subst (λ (y : ℕ). LiesAt p.set y place.which (place.address + j)) (omega arith) (word.bytes j less);
      }

  word_was : (i : ℕ) → i < count_of was → get_or (words_of was).kept i 0 ≡ get_or (words_in bytes) i 0
  word_was i lt =
      let at = place_at i lt in
      let ends : 8 * i + 8 ≤ length bytes = omega (arith, lt, bytes_long) in
      kept_is was i at.which at.address (is.laid (rows_of contents)) lt at.lies
      ∙ ap (λ (w : Words). get_or w.kept (at.address / 8) 0) (row_is contents at.which at.known)
      ∙ word_index (old at.which) (at.address / 8) (omega (arith, length_words (old at.which), at.room))
      ∙ ap (number_at w64 (old at.which)) (let eighth : 8 * (at.address / 8) ≡ at.address = omega (arith, at.aligned) in eighth)
      ∙ same_number (old at.which) bytes at.address (8 * i) at.room ends (λ j less.
      sym (byte_is (8 * i + j) at.which (at.address + j) (omega (arith, ends, less, bytes_long)) (at.each j less)))
      ∙ sym (word_index bytes i (omega (arith, ends, length_words bytes)))

  word_now : (i : ℕ) → i < count_of now → get_or (words_of now).kept i 0 ≡ get_or (words_in put) i 0
  word_now i lt =
      let at = place_at i lt in
      let ends : 8 * i + 8 ≤ length put = omega (arith, lt, put_long) in
      let room : at.address + 8 ≤ length (new at.which) = omega (arith, at.room, length_row (byte_patched p) at.which 0 (old at.which)) in
      kept_is now i at.which at.address (is.laid (rows_of news)) lt at.lies
      ∙ ap (λ (w : Words). get_or w.kept (at.address / 8) 0) (row_now at.which at.known)
      ∙ word_index (new at.which) (at.address / 8) (omega (arith, length_words (new at.which), room))
      ∙ ap (number_at w64 (new at.which)) (let eighth : 8 * (at.address / 8) ≡ at.address = omega (arith, at.aligned) in eighth)
      ∙ same_number (new at.which) put at.address (8 * i) room ends (λ j less.
      at_first (byte_patched p) at.which (old at.which) (at.address + j) (omega (arith, less, at.room))
      ∙ byte_now (8 * i + j) at.which (at.address + j) (omega (arith, ends, less, put_long)) (at.each j less))
      ∙ sym (word_index put i (omega (arith, ends, length_words put)))

  pub words_was : words_of was ≡ settled (words_in bytes)
  words_was =
      let long : length (words_of was).kept ≡ length (words_in bytes) = count_is was ∙ omega (arith, bytes_long, length_words bytes) in
      view_settled was (all_settled contents)
      ∙ ap settled (ext_get_or 0 (words_of was).kept (words_in bytes) long (λ i lt. word_was i (omega (arith, lt, count_is was))))

  pub words_put : words_of now ≡ settled (words_in put)
  words_put =
      let long : length (words_of now).kept ≡ length (words_in put) = count_is now ∙ omega (arith, put_long, length_words put) in
      view_settled now (all_settled news)
      ∙ ap settled (ext_get_or 0 (words_of now).kept (words_in put) long (λ i lt. word_now i (omega (arith, lt, count_is now))))

  -- ---- beside it

  -- a byte of a word, and the word's place
  word_of_byte : (y which address other begins : ℕ) → LiesAt p.set y which address → LiesAt p.set (y - y % 8 + y % 8) other (begins + y % 8) → (other ≡ which) × (begins + y % 8 ≡ address)
  word_of_byte y which address other begins lies there =
      let back : y - y % 8 + y % 8 ≡ y = omega arith in
      (is.laid []).places.one y other (begins + y % 8) which address (subst (λ (v : ℕ). LiesAt p.set v other (begins + y % 8)) back there) lies

  -- a word at a byte of the namespace lies in the extent
  low_in : (m : Mapping) (which first begins : ℕ) → Contains p.set m → m.«module» ≡ which → LiesAt p.set first which begins → length p.set * p.offset ≤ first → m.start + p.offset ≤ begins
  low_in m which first begins among named lies from =
      let laid = is.laid [] in
      let same : lies.0 ≡ m = laid.apart lies.0 m lies.1 among (lies.2.of ∙ sym named) in
      let start : lies.0.start ≡ m.start = ap (λ (n : Mapping). n.start) same in
      let parts = laid.parts lies.0 first which begins p.offset lies.1 lies.2 laid.from in
      elim (cases_lt begins (m.start + p.offset)) [
        | inl before ↦ absurd (let h = parts.0 (omega (arith, before, start)) in omega (arith, h, from))
        | inr after ↦ after
      ]

  has_mapping : (m : Mapping) (which address : ℕ) → Contains p.set m → m.«module» ≡ which → m.start + p.offset ≤ address → address < m.start + p.offset + p.raw → is_inside was which address ≡ true
  has_mapping m which address among named low high =
      list_any_at (λ (n : Mapping). (n.«module» == which) && nat_le (n.start + p.offset) address && nat_lt address (n.start + p.offset + p.raw)) p.set among.0 m among.1
      (subst (λ (n : Mapping). ((n.«module» == which) && nat_le (n.start + p.offset) address && nat_lt address (n.start + p.offset + p.raw)) ≡ true) (sym among.2)
      (tests m.«module» which (m.start + p.offset) address (m.start + p.offset + p.raw) named low high))
    where
      tests : (a b c d e : ℕ) → a ≡ b → c ≤ d → d < e → ((a == b) && nat_le c d && nat_lt d e) ≡ true
      tests a b c d e same le lt = grind (arith, nat_tests)

  -- a word with a byte in the extent is one of the namespace's
  with_byte : (m : Mapping) (which k j start y other begins : ℕ) → Contains p.set m → m.«module» ≡ which → start ≡ m.start + p.offset → j < 8 → start_in p which ≡ Some start
      → start ≤ 8 * k + j → 8 * k + j < start + p.raw → LiesAt p.set y which (8 * k + j) → begins % 8 ≡ 0
      → LiesAt p.set (y - y % 8) other begins → LiesAt p.set (y - y % 8 + y % 8) other (begins + y % 8) → is_inside was which (8 * k) ≡ true
  with_byte m which k j start y other begins among named start_of less at from to lies eights first there =
      let range = byte_range p is which start (8 * k + j) y at from to lies in
      let one = word_of_byte y which (8 * k + j) other begins lies there in
      let is_word : begins ≡ 8 * k = omega (arith, eights, one.1, less) in
      let word : LiesAt p.set (y - y % 8) which (8 * k) =
      subst (λ (v : ℕ). LiesAt p.set (y - y % 8) which v) is_word (subst (λ (w : ℕ). LiesAt p.set (y - y % 8) w begins) one.0 first) in
      let whole_first : length p.set * p.offset % 8 ≡ 0 = times_eights (length p.set) p.offset (unit_of p.set) (is.laid []).from (is.laid []).eights in
      let low = low_in m which (y - y % 8) (8 * k) among named word (omega (arith, range.0, whole_first)) in
      has_mapping m which (8 * k) among named low (omega (arith, to, start_of))

  -- an address in the extent lies in a word of the namespace
  inside_extent : (which k j : ℕ) → j < 8 → (start : ℕ) → start_in p which ≡ Some start → start ≤ 8 * k + j → 8 * k + j < start + p.raw → is_inside was which (8 * k) ≡ true
  inside_extent which k j less start at from to =
      let laid = is.laid [] in
      let own = start_is p which start at in
      let good = found_is p is own.0 which own.1 in
      let size : own.0.size ≡ span_of p.set = laid.each own.0 good.1 in
      let byte = laid.places.all own.0 (8 * k + j) good.1 (omega (arith, from, own.2)) (omega (arith, to, own.2, size, laid.inside)) in
      let lies : LiesAt p.set byte.0 which (8 * k + j) = subst (λ (w : ℕ). LiesAt p.set byte.0 w (8 * k + j)) good.0 byte.1 in
      let place = laid.places.has (byte.0 - byte.0 % 8) (omega (arith, laid.places.inside byte.0 which (8 * k + j) lies)) in
      let word = laid.words (byte.0 - byte.0 % 8) place.which place.address (omega arith) place.lies in
      with_byte own.0 which k j start byte.0 place.which place.address good.1 good.0 own.2 less at from to lies word.aligned place.lies (word.bytes (byte.0 % 8) (omega arith))

  same_byte : (which k j before : ℕ) → j < 8 → is_inside was which (8 * k) ≡ false → byte_patched p which (8 * k + j) before ≡ before
  same_byte which k j before less outside = by (start_in p which) refl
    where
      by : (o : Option ℕ) → start_in p which ≡ o → byte_patched p which (8 * k + j) before ≡ before
      by None at = byte_none p which (8 * k + j) before at
      by (Some start) at = elim (cases_Bool (nat_le start (8 * k + j) && nat_lt (8 * k + j) (start + p.raw))) [
        | inl within ↦
            let b = bounds start (8 * k + j) (start + p.raw) within in
            absurd (differ (sym (inside_extent which k j less start at b.0 b.1) ∙ outside))
        | inr without ↦ byte_kept p which start (8 * k + j) before at (outer start (8 * k + j) (start + p.raw) without)
      ]
        where
          bounds : (a b c : ℕ) → (nat_le a b && nat_lt b c) ≡ true → (a ≤ b) × (b < c)
          bounds a b c e = (grind (arith, nat_tests), grind (arith, nat_tests))

          outer : (a b c : ℕ) → (nat_le a b && nat_lt b c) ≡ false → (b < a) ⊎ (c ≤ b)
          outer a b c e = elim (cases_Bool (nat_lt b a)) [
            | inl before ↦ inl (grind (arith, nat_tests))
            | inr after ↦ inr (grind (arith, nat_tests))
          ]

          differ : true ≡ false → ⊥
          differ e = cc

  same_word : (which k : ℕ) → which < length contents → k < length (words_in (old which)) → is_inside was which (8 * k) ≡ false
      → get_or (words_in (new which)) k 0 ≡ get_or (words_in (old which)) k 0
  same_word which k known lt outside =
      let long : length (new which) ≡ length (old which) = length_row (byte_patched p) which 0 (old which) in
      let room : 8 * k + 8 ≤ length (old which) = omega (arith, lt, length_words (old which)) in
      word_index (new which) k (omega (arith, lt, length_words (old which), length_words (new which), long))
      ∙ same_number (new which) (old which) (8 * k) (8 * k) (omega (arith, room, long)) room (λ j less.
      at_first (byte_patched p) which (old which) (8 * k + j) (omega (arith, less, room)) ∙ same_byte which k j (get_or (old which) (8 * k + j) 0) less outside)
      ∙ sym (word_index (old which) k lt)

  -- a row of words, but for the namespace's
  abbrev beside_in : Words → ℕ → Words
  beside_in w which = record {
    kept = map (λ k. if is_inside was which (8 * k) then 0 else get_or w.kept k 0) (range_with_len 0 (length w.kept));
    stored = map (λ k. if is_inside was which (8 * k) then None else slice_index_or w.stored k None) (range_with_len 0 (length w.stored));
  }

  same_row : (which : ℕ) → which < length contents → row_beside now which ≡ row_beside was which
  same_row which known =
      let long : length (words_in (new which)) ≡ length (words_in (old which)) =
      length_words (new which) ∙ ap (λ (n : ℕ). n / 8) (length_row (byte_patched p) which 0 (old which)) ∙ sym (length_words (old which)) in
      let kept = kept_same which known long in
      ap (λ (w : Words). beside_in w which) (row_now which known)
      ∙ ap (λ (ks : List ℕ). record {
        kept = ks;
        stored = map (λ k. if is_inside was which (8 * k) then None else slice_index_or (replicate (length (words_in (new which))) None) k None) (range_with_len 0 (length (replicate {A = Option ℕ} (length (words_in (new which))) None)));
      }) kept
      ∙ ap (λ (n : ℕ). record {
        kept = map (λ k. if is_inside was which (8 * k) then 0 else get_or (words_in (old which)) k 0) (range_with_len 0 (length (words_in (old which))));
        stored = map (λ k. if is_inside was which (8 * k) then None else slice_index_or (replicate n None) k None) (range_with_len 0 (length (replicate {A = Option ℕ} n None)));
      }) long
      ∙ sym (ap (λ (w : Words). beside_in w which) (row_is contents which known))
    where
      kept_same : (which : ℕ) → which < length contents → length (words_in (new which)) ≡ length (words_in (old which))
          → map (λ k. if is_inside was which (8 * k) then 0 else get_or (words_in (new which)) k 0) (range_with_len 0 (length (words_in (new which))))
          ≡ map (λ k. if is_inside was which (8 * k) then 0 else get_or (words_in (old which)) k 0) (range_with_len 0 (length (words_in (old which))))
      kept_same which known long =
          ap (λ (n : ℕ). map (λ k. if is_inside was which (8 * k) then 0 else get_or (words_in (new which)) k 0) (range_with_len 0 n)) long
          ∙ range_same (λ k. if is_inside was which (8 * k) then 0 else get_or (words_in (new which)) k 0) (λ k. if is_inside was which (8 * k) then 0 else get_or (words_in (old which)) k 0)
          (length (words_in (old which))) 0 (λ k lt. by k lt (is_inside was which (8 * k)) refl)
        where
          by : (k : ℕ) → k < length (words_in (old which)) → (b : Bool) → is_inside was which (8 * k) ≡ b
              → (if b then 0 else get_or (words_in (new which)) k 0) ≡ (if b then 0 else get_or (words_in (old which)) k 0)
          by k lt true e = refl
          by k lt false e = same_word which k known lt e

  pub beside_same : beside_of now ≡ beside_of was
  unfolding beside_of
  beside_same =
      let long : length (rows_of news) ≡ length (rows_of contents) =
      length-map news (λ (bytes : List ℕ). settled (words_in bytes)) ∙ count ∙ sym (length-map contents (λ (bytes : List ℕ). settled (words_in bytes))) in
      ap (λ (n : ℕ). map (row_beside now) (range_with_len 0 n)) long
      ∙ range_same (row_beside now) (row_beside was) (length (rows_of contents)) blank (λ which lt.
      same_row which (omega (arith, lt, length-map contents (λ (bytes : List ℕ). settled (words_in bytes)))))

  pub are_patched : ArePatched p contents
  are_patched = record { was = words_was; words = words_put; beside = beside_same }

-- a raw namespace has the bytes that it gets
pub raw_words : (set : List Mapping) (offset raw : ℕ) (bytes : List ℕ) (contents : List (List ℕ)) → length bytes ≡ length set * raw
    → changed_from (λ i old. get_or bytes i 0) 0 (bytes_by_place set offset raw contents) ≡ bytes
raw_words set offset raw bytes contents long =
    let row = bytes_by_place set offset raw contents in
    let row_long : length (bytes_by_place set offset raw contents) ≡ length set * raw = length_range (λ i. byte_in contents (place_of set (length set * offset + i))) (length set * raw) in
    let new_long : length (changed_from (λ i old. get_or bytes i 0) 0 (bytes_by_place set offset raw contents)) ≡ length set * raw = length_row (λ m i old. get_or bytes i 0) 0 0 row ∙ row_long in
    ext_get_or 0 (changed_from (λ i old. get_or bytes i 0) 0 (bytes_by_place set offset raw contents)) bytes (new_long ∙ sym long) (λ j lt.
    at_row (λ m i old. get_or bytes i 0) 0 0 row j (omega (arith, lt, new_long, row_long)) ∙ ap (λ (i : ℕ). get_or bytes i 0) (let e : 0 + j ≡ j = omega arith in e))
