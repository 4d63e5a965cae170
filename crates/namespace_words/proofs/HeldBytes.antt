-- The bytes and the words of a namespace whose contents stay in a source.
use Rattle.std.proofs.Common.{◌≡◌, ℕ, ◌+◌, ◌-◌, ◌*◌, ◌/◌, ◌%◌, ◌^◌, ◌<◌, ◌≤◌, min, List, [], length, take, drop, get_or, Option, Some, sym, ap, ◌∙◌, subst, arith}
use Rattle.std.specs.Option.{ForSome}
use Rattle.std.proofs.lemmas.List.{drop-drop, ext_get_or, get_or-drop, get_or-take, length-drop, length-map, length-take-le}
use Rattle.std.proofs.lemmas.Nat.{mul-le}
use Rattle.nvd_words.specs.Bytes.{number_at}
use Rattle.std.specs.Int.{w64}
use Rattle.nvd_media.specs.Images.{Images, bytes_of as bytes_in}
use Rattle.nvd_media.specs.declared.object.Object.TheVariants as object
use Rattle.nfit_reader.specs.declared.table.Mapping.{Mapping}
use Rattle.interleave.specs.Places.{LiesAt}
use Rattle.interleave.specs.Sound.{IsRun, span_of}
use Rattle.cut_words.specs.Words.{Words, settled}
use Rattle.cut_words.specs.WordBytes.{words_in}
use Rattle.arena_open.proofs.Bytes.{length_words, word_index}
use Rattle.image_set.specs.Outline.{contents_in}
use Rattle.power_cut.specs.Namespace.{Namespace, IsLaid, ReachEnds, byte_at, count_of, over, place_of, raw_byte, raw_bytes, row_of, words_of}
use Rattle.power_cut.proofs.Places.{byte_is as word_byte, place_is}
use Rattle.power_cut.proofs.Spread.{at_range, count_is, kept_is, laid_any, length_range}
use Rattle.sector_namespaces.specs.View.{rows_of}
use Rattle.namespace_bytes.specs.Patching.{byte_in}
use Rattle.namespace_words.specs.Source.{AreBytesOf, HasEnds, Reveals, bytes_by, words_by}
use Rattle.namespace_words.proofs.HeldArenas.{part_words}
use Rattle.namespace_bytes.proofs.WholePatch.{row_is, same_number}

-- ---- the contents of a source

-- a module's contents
pub row_held : (source : Images) (contents : List (List ℕ)) (which : ℕ) → contents ≡ contents_in source (length contents) → which < length contents
    → get_or contents which [] ≡ bytes_in source (object.Contents which)
row_held source contents which are lt =
    ap (λ (rows : List (List ℕ)). get_or rows which []) are ∙ at_range (λ m. bytes_in source (object.Contents m)) (length contents) which [] lt

-- how many modules they are of
pub contents_long : (source : Images) (count : ℕ) → length (contents_in source count) ≡ count
contents_long source count = length_range (λ m. bytes_in source (object.Contents m)) count

module _ (set : List Mapping) (contents : List (List ℕ)) (reach : ReachEnds set (rows_of contents)) where
  -- a byte of the set lies in the contents of its module
  pub in_contents : (y which address : ℕ) → LiesAt set y which address → (which < length contents) × (address < 8 * (length (get_or contents which []) / 8))
  in_contents y which address lies =
      let m : Mapping = lies.0 in
      let has = reach lies.0 lies.1 in
      let known : m.«module» < length contents = omega (arith, has.there, length-map contents (λ (bytes : List ℕ). settled (words_in bytes))) in
      let long : length (row_of (rows_of contents) m.«module»).kept ≡ length (get_or contents m.«module» []) / 8 =
      ap (λ (w : Words). length w.kept) (row_is contents m.«module» known) ∙ length_words (get_or contents m.«module» []) in
      let reaches : address < 8 * (length (get_or contents m.«module» []) / 8) = omega (arith, has.reaches, long, lies.2.inside) in
      subst (λ (w : ℕ). (w < length contents) × (address < 8 * (length (get_or contents w []) / 8))) lies.2.of (known, reaches)

  -- so do bytes that are contiguous in it
  pub row_room : (y which address size : ℕ) → 0 < size → ((j : ℕ) → j < size → LiesAt set (y + j) which (address + j)) → address + size ≤ length (get_or contents which [])
  row_room y which address size some lies =
      let last = in_contents (y + (size - 1)) which (address + (size - 1)) (lies (size - 1) (omega (arith, some))) in
      omega (arith, some, last.1)

-- in the source
pub held_room : (held : Option Images) (set : List Mapping) (y which address size : ℕ) → HasEnds held set → 0 < size → ((j : ℕ) → j < size → LiesAt set (y + j) which (address + j))
    → ForSome held (λ source. address + size ≤ length (bytes_in source (object.Contents which)))
held_room held set y which address size ends some lies source told =
    let has = ends source told in
    let contents : List (List ℕ) = contents_in source has.0 in
    let are : contents_in source has.0 ≡ contents_in source (length (contents_in source has.0)) = ap (contents_in source) (sym (contents_long source has.0)) in
    let first = in_contents set contents has.1 (y + 0) which (address + 0) (lies 0 some) in
    let room : address + size ≤ length (get_or contents which []) = row_room set contents has.1 y which address size some lies in
    subst (λ (row : List ℕ). address + size ≤ length row) (row_held source contents which are first.0) room

-- ---- the bytes of a namespace

pub raw_fits : (n : Namespace) → IsLaid n → raw_bytes n < 2 ^ 64
raw_fits n laid =
    let m : ℕ = length n.set in
    let sum : m * (n.offset + n.raw) ≡ m * n.offset + m * n.raw = omega arith in
    let within : m * (n.offset + n.raw) ≤ m * span_of n.set = mul-le m (n.offset + n.raw) m (span_of n.set) (omega arith) laid.inside in
    omega (arith, sum, within, laid.fits)

pub bytes_long : (e : Namespace) (contents : List (List ℕ)) → length (bytes_by e contents) ≡ raw_bytes e
bytes_long e contents = length_range (λ i. byte_in contents (place_of e.set (length e.set * e.offset + i))) (length e.set * e.raw)

module _ (e : Namespace) (contents : List (List ℕ)) (laid : IsLaid e) (reach : ReachEnds e.set (rows_of contents)) where
  abbrev n : Namespace
  n = over e.set e.offset e.raw (rows_of contents)

  -- a byte is the one at its place
  pub byte_is : (i which address : ℕ) → i < raw_bytes e → LiesAt e.set (length e.set * e.offset + i) which address → get_or (bytes_by e contents) i 0 ≡ get_or (get_or contents which []) address 0
  byte_is i which address lt lies =
      at_range (λ i. byte_in contents (place_of e.set (length e.set * e.offset + i))) (length e.set * e.raw) i 0 lt
      ∙ ap (byte_in contents) (place_is e (length e.set * e.offset + i) which address laid lies)

  -- bytes that are contiguous in a module
  pub line_is : (first which address size : ℕ) → first + size ≤ raw_bytes e → 0 < size → ((j : ℕ) → j < size → LiesAt e.set (length e.set * e.offset + first + j) which (address + j))
      → take size (drop address (get_or contents which [])) ≡ take size (drop first (bytes_by e contents))
  line_is first which address size fits some lies =
      let row : List ℕ = get_or contents which [] in
      let all : List ℕ = bytes_by e contents in
      let room : address + size ≤ length (get_or contents which []) = row_room e.set contents reach (length e.set * e.offset + first) which address size some lies in
      let long : length (take size (drop address row)) ≡ size = length-take-le size (drop address row) (omega (arith, length-drop address row, room)) in
      let long' : length (take size (drop first all)) ≡ size = length-take-le size (drop first all) (omega (arith, length-drop first all, fits, bytes_long e contents)) in
      ext_get_or 0 (take size (drop address row)) (take size (drop first all)) (long ∙ sym long') (λ j lt.
      let less : j < size = omega (arith, lt, long) in
      let sum : length e.set * e.offset + first + j ≡ length e.set * e.offset + (first + j) = omega arith in
      get_or-take size (drop address row) j 0 less ∙ get_or-drop address row j 0
      ∙ sym (get_or-take size (drop first all) j 0 less ∙ get_or-drop first all j 0
      ∙ byte_is (first + j) which (address + j) (omega (arith, less, fits)) (subst (λ (y : ℕ). LiesAt e.set y which (address + j)) sum (lies j less))))

  -- ---- its words

  kept_word : (i : ℕ) → i < count_of n → get_or (words_of n).kept i 0 ≡ get_or (words_in (bytes_by e contents)) i 0
  kept_word i lt =
      let own : IsLaid n = laid_any e (rows_of contents) laid in
      let bytes : List ℕ = bytes_by e contents in
      let place = own.places.has (byte_at n i) (word_byte n i own lt).in_region in
      let word = own.words (byte_at n i) place.which place.address (word_byte n i own lt).whole place.lies in
      let has = in_contents e.set contents reach (byte_at n i) place.which place.address place.lies in
      let row : List ℕ = get_or contents place.which [] in
      let room : place.address + 8 ≤ length row = omega (arith, has.1, word.aligned) in
      let eighth : 8 * (place.address / 8) ≡ place.address = omega (arith, word.aligned) in
      let inside : place.address / 8 < length (words_in row) = omega (arith, length_words row, room) in
      let ends : 8 * i + 8 ≤ length (bytes_by e contents) = omega (arith, lt, bytes_long e contents) in
      kept_is n i place.which place.address own lt place.lies
      ∙ ap (λ (w : Words). get_or w.kept (place.address / 8) 0) (row_is contents place.which has.0)
      ∙ word_index row (place.address / 8) inside
      ∙ ap (number_at w64 row) eighth
      ∙ same_number row bytes place.address (8 * i) room ends (λ j less.
      let sum : byte_at n i + j ≡ length e.set * e.offset + (8 * i + j) = omega arith in
      sym (byte_is (8 * i + j) place.which (place.address + j) (omega (arith, less, ends, bytes_long e contents))
      (subst (λ (y : ℕ). LiesAt e.set y place.which (place.address + j)) sum (word.bytes j less))))
      ∙ sym (word_index bytes i (omega (arith, ends, length_words bytes)))

  pub words_are : words_by e contents ≡ words_in (bytes_by e contents)
  words_are =
      let long : length (words_of n).kept ≡ length (words_in (bytes_by e contents)) = count_is n ∙ omega (arith, bytes_long e contents, length_words (bytes_by e contents)) in
      ext_get_or 0 (words_of n).kept (words_in (bytes_by e contents)) long (λ i lt. kept_word i (omega (arith, lt, count_is n)))

pub words_long : (e : Namespace) (contents : List (List ℕ)) → length (words_by e contents) ≡ raw_bytes e / 8
words_long e contents = count_is (over e.set e.offset e.raw (rows_of contents))

-- bytes of the namespace as words
pub words_from : (e : Namespace) → IsLaid e → (contents : List (List ℕ)) → ReachEnds e.set (rows_of contents) → (first : ℕ) (bytes : List ℕ) → first % 8 ≡ 0
    → bytes ≡ take (length bytes) (drop first (bytes_by e contents)) → first + length bytes ≤ raw_bytes e → AreBytesOf (words_by e contents) (first / 8) bytes
words_from e laid contents reach first bytes whole are inside =
    let from : first ≡ 8 * (first / 8) = omega (arith, whole) in
    let part : AreBytesOf (words_in (bytes_by e contents)) (first / 8) bytes =
    part_words (bytes_by e contents) bytes (first / 8) (are ∙ ap (λ (n : ℕ). take (length bytes) (drop n (bytes_by e contents))) from) (omega (arith, inside, from, bytes_long e contents)) in
    subst (λ (words : List ℕ). AreBytesOf words (first / 8) bytes) (sym (words_are e contents laid reach)) part

-- ---- one turn of a loop that reads `long` bytes of the namespace from byte `first` on, of which `done` are read: the next `size` ones are contiguous in a
-- module

module _ (e : Namespace) (laid : IsLaid e) (first done long : ℕ) (inside : first + long ≤ raw_bytes e) (which address size most : ℕ) (less : done < long) (size_is : size ≡ min most (long - done))
    (some : 0 < most) (lies : LiesAt e.set (raw_byte e (first + done)) which address) (run : (w a : ℕ) → LiesAt e.set (raw_byte e (first + done)) w a → IsRun e.set (raw_byte e (first + done)) w a most) where
  pub turn_some : 0 < size
  turn_some = omega (arith, less, size_is, some)

  pub turn_size : done + size ≤ long
  turn_size = omega (arith, less, size_is)

  each : (j : ℕ) → j < size → LiesAt e.set (raw_byte e (first + done) + j) which (address + j)
  each j lt = (run which address lies).each j (omega (arith, lt, size_is))

  -- the module has them
  pub turn_room : (held : Option Images) → HasEnds held e.set → ForSome held (λ source. address + size ≤ length (bytes_in source (object.Contents which)))
  turn_room held ends = held_room held e.set (raw_byte e (first + done)) which address size ends turn_some each

  -- they are those of the namespace
  pub turn_is : (held : Option Images) (contents : List (List ℕ)) (part : List ℕ) → Reveals held e.set contents
      → ((source : Images) → held ≡ Some source → part ≡ take size (drop address (bytes_in source (object.Contents which)))) → part ≡ take size (drop done (drop first (bytes_by e contents)))
  turn_is held contents part reveals read =
      let known : which < length contents = (in_contents e.set contents reveals.reach (raw_byte e (first + done)) which address lies).0 in
      read reveals.source reveals.told
      ∙ ap (λ (row : List ℕ). take size (drop address row)) (sym (row_held reveals.source contents which reveals.are known))
      ∙ line_is e contents laid reveals.reach (first + done) which address size (omega (arith, turn_size, inside)) turn_some each
      ∙ ap (take size) (ap (λ (k : ℕ). drop k (bytes_by e contents)) (omega arith) ∙ sym (drop-drop done first (bytes_by e contents)))
