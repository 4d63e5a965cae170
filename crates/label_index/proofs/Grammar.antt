-- A block is read as a record exactly if it encodes it by the grammar.
use Rattle.std.proofs.Common.{◌≡◌, ◌≢◌, ℕ, ◌+◌, ◌*◌, ◌/◌, ◌%◌, ◌<◌, ◌≤◌, Bool, true, false, eqb, leb, not, List, length, take, drop, get_or, Ok, refl, sym, ap, ◌∙◌, arith}
use Rattle.std.specs.Prelude.{◌&&◌, Some, slice_get}
use Rattle.std.specs.Int.{w16, w32, w64}
use Rattle.std.proofs.lemmas.Bool.{and_parts, eq-eqb, eqb-true, eqb-false, ne_eqb, le-leb, leb-true, not-false}
use Rattle.std.proofs.lemmas.Slice.Eq.{bytes_eq-Decides}
use Rattle.std.proofs.lemmas.List.FromFn.{length-map-range_with_len, get_or-map-range_with_len, fill_by_all}
use Rattle.std.proofs.lemmas.Option.{slice_get-get_or, get_or_from_slice_get}
use Rattle.nvd_words.specs.Bytes.{number_at}
use Rattle.nvd_words.specs.Checks.{checked}
use Rattle.nvd_words.specs.Fletcher.{fletcher64_of, without_eight}
use Rattle.label_index.specs.declared.index.IndexBlock.{IndexBlock}
use Rattle.label_index.specs.declared.index.IndexFault.TheVariants.{Signature, Sequence, Offsets, Slots, Checksum}
use Rattle.label_index.specs.declared.index.Side.{Side}
use Rattle.label_index.specs.Area.{block_size_of}
use Rattle.label_index.specs.Index.{block_reading, index_of, place_of, other_place_of, signature, is_free, free_of, has_signature, sequence_of, has_version, has_offsets, has_slots, has_checksum}
use Rattle.label_index.specs.Grammar.{IsBlockOf, GrammarIsReading}
use Rattle.label_index.proofs.Passed.{passed, nothing_left}

-- ---- what each test means

signed_by : (block : List ℕ) → has_signature block ≡ true → take 16 block ≡ signature
unfolding has_signature
signed_by block e = (bytes_eq-Decides (take 16 block) signature).0 e

numbered_by : (block : List ℕ) → eqb (sequence_of block) 0 ≡ false → number_at w32 block 20 % 4 ≢ 0
unfolding sequence_of
numbered_by block e = eqb-false (number_at w32 block 20 % 4) 0 e

versioned_by : (block : List ℕ) → has_version block ≡ true → (number_at w16 block 60 ≡ 1) × (number_at w16 block 62 ≡ 2)
unfolding has_version
versioned_by block e =
    let p = and_parts (eqb (number_at w16 block 60) 1) (eqb (number_at w16 block 62) 2) e in
    (eqb-true (number_at w16 block 60) 1 p.0, eqb-true (number_at w16 block 62) 2 p.1)

placed_by : (size : ℕ) (s : Side) (block : List ℕ) → has_offsets size s block ≡ true
    → (number_at w64 block 24 ≡ place_of size s) × (number_at w64 block 32 ≡ size) × (number_at w64 block 40 ≡ other_place_of size s) × (number_at w64 block 48 ≡ 2 * size)
unfolding has_offsets
placed_by size s block e =
    let a : Bool = eqb (number_at w64 block 24) (place_of size s) in
    let b : Bool = eqb (number_at w64 block 32) size in
    let c : Bool = eqb (number_at w64 block 40) (other_place_of size s) in
    let d : Bool = eqb (number_at w64 block 48) (2 * size) in
    let one = and_parts (a && b && c) d e in
    let two = and_parts (a && b) c one.0 in
    let three = and_parts a b two.0 in (
      eqb-true (number_at w64 block 24) (place_of size s) three.0,
      eqb-true (number_at w64 block 32) size three.1,
      eqb-true (number_at w64 block 40) (other_place_of size s) two.1,
      eqb-true (number_at w64 block 48) (2 * size) one.1,
    )

slotted_by : (area size : ℕ) (block : List ℕ) → has_slots area size block ≡ true
    → (get_or block 19 0 ≡ 1) × (1 ≤ number_at w32 block 56) × (72 + (number_at w32 block 56 + 7) / 8 ≤ size) × (2 * size + 256 * number_at w32 block 56 ≤ area)
unfolding has_slots
slotted_by area size block e =
    let n : ℕ = number_at w32 block 56 in
    let one = and_parts (eqb (get_or block 19 0) 1 && leb 1 n && leb (72 + (n + 7) / 8) size) (leb (2 * size + 256 * n) area) e in
    let two = and_parts (eqb (get_or block 19 0) 1 && leb 1 n) (leb (72 + (n + 7) / 8) size) one.0 in
    let three = and_parts (eqb (get_or block 19 0) 1) (leb 1 n) two.0 in
    (eqb-true (get_or block 19 0) 1 three.0, leb-true 1 n three.1, leb-true (72 + (n + 7) / 8) size two.1, leb-true (2 * size + 256 * n) area one.1)

summed_by : (block : List ℕ) → has_checksum block ≡ true → number_at w64 block 64 ≡ fletcher64_of (without_eight block 64)
unfolding has_checksum
summed_by block e = eqb-true (number_at w64 block 64) (fletcher64_of (without_eight block 64)) e

-- ---- the fields of a record

listed_by : (block : List ℕ) (n : ℕ) → length (free_of block n) ≡ n
unfolding free_of
listed_by block n = length-map-range_with_len (is_free block) 0 n

freed_by : (block : List ℕ) (n k : ℕ) → k < n → slice_get (free_of block n) k ≡ Some (is_free block k)
unfolding free_of
freed_by block n k lt =
    slice_get-get_or (free_of block n) k false (omega (arith, lt, listed_by block n))
    ∙ ap (λ b. Some b) (get_or-map-range_with_len (is_free block) 0 n k k false lt (omega arith))

free_is : (block : List ℕ) (free : List Bool) (n : ℕ) → length free ≡ n → ((k : ℕ) → k < n → slice_get free k ≡ Some (is_free block k)) → free ≡ free_of block n
unfolding free_of
free_is block free n len each = fill_by_all (is_free block) free n false len (λ k lt. get_or_from_slice_get free k (is_free block k) false (each k lt))

-- ---- both directions

pub reads_grammar : (area size : ℕ) (s : Side) (block : List ℕ) (b : IndexBlock) → block_reading area size s block ≡ Ok b → IsBlockOf area size s block b
unfolding index_of sequence_of
reads_grammar area size s block b e =
    let value : IndexBlock = index_of s block in
    let one = passed value b Signature (not (has_signature block)) _ e in
    let two = passed value b Sequence (eqb (sequence_of block) 0) _ one.1 in
    let three = passed value b _ (not (has_version block)) _ two.1 in
    let four = passed value b Offsets (not (has_offsets size s block)) _ three.1 in
    let five = passed value b Slots (not (has_slots area size block)) _ four.1 in
    let six = passed value b Checksum (not (has_checksum block)) _ five.1 in
    let same : b ≡ value = nothing_left value b six.1 in
    let version = versioned_by block (not-false (has_version block) three.0) in
    let offsets = placed_by size s block (not-false (has_offsets size s block) four.0) in
    let slots = slotted_by area size block (not-false (has_slots area size block) five.0) in
    let n : ℕ = number_at w32 block 56 in
    record {
      signed = signed_by block (not-false (has_signature block) one.0);
      numbered = numbered_by block two.0;
      major = version.0;
      minor = version.1;
      my_offset = offsets.0;
      my_size = offsets.1;
      other_offset = offsets.2;
      label_offset = offsets.3;
      label_size = slots.0;
      some = slots.1;
      bits = slots.2;
      fits = slots.3;
      sum = summed_by block (not-false (has_checksum block) six.0);
      same_side = ap (λ (x : IndexBlock). x.side) same;
      same_seq = ap (λ (x : IndexBlock). x.seq) same;
      same_size = ap (λ (x : IndexBlock). x.size) same;
      same_slots = ap (λ (x : IndexBlock). x.slots) same;
      listed = ap (λ (x : IndexBlock). length x.free) same ∙ listed_by block n;
      free = λ k lt. ap (λ (x : IndexBlock). slice_get x.free k) same ∙ freed_by block n k lt;
    }

signed_test : (block : List ℕ) → take 16 block ≡ signature → has_signature block ≡ true
unfolding has_signature
signed_test block e = (bytes_eq-Decides (take 16 block) signature).1 e

numbered_test : (block : List ℕ) → number_at w32 block 20 % 4 ≢ 0 → eqb (sequence_of block) 0 ≡ false
unfolding sequence_of
numbered_test block some = ne_eqb (number_at w32 block 20 % 4) 0 some

versioned_test : (block : List ℕ) → number_at w16 block 60 ≡ 1 → number_at w16 block 62 ≡ 2 → has_version block ≡ true
unfolding has_version
versioned_test block major minor = rw (major, minor) refl

placed_test : (size : ℕ) (s : Side) (block : List ℕ) → number_at w64 block 24 ≡ place_of size s → number_at w64 block 32 ≡ size
    → number_at w64 block 40 ≡ other_place_of size s → number_at w64 block 48 ≡ 2 * size → has_offsets size s block ≡ true
unfolding has_offsets
placed_test size s block my len other labels =
    rw (
      eq-eqb (number_at w64 block 24) (place_of size s) my,
      eq-eqb (number_at w64 block 32) size len,
      eq-eqb (number_at w64 block 40) (other_place_of size s) other,
      eq-eqb (number_at w64 block 48) (2 * size) labels,
    ) refl

slotted_test : (area size : ℕ) (block : List ℕ) → get_or block 19 0 ≡ 1 → 1 ≤ number_at w32 block 56
    → 72 + (number_at w32 block 56 + 7) / 8 ≤ size → 2 * size + 256 * number_at w32 block 56 ≤ area → has_slots area size block ≡ true
unfolding has_slots
slotted_test area size block label some bits fits =
    rw (
      eq-eqb (get_or block 19 0) 1 label,
      le-leb 1 (number_at w32 block 56) some,
      le-leb (72 + (number_at w32 block 56 + 7) / 8) size bits,
      le-leb (2 * size + 256 * number_at w32 block 56) area fits,
    ) refl

summed_test : (block : List ℕ) → number_at w64 block 64 ≡ fletcher64_of (without_eight block 64) → has_checksum block ≡ true
unfolding has_checksum
summed_test block e = eq-eqb (number_at w64 block 64) (fletcher64_of (without_eight block 64)) e

pub record_is : (area size : ℕ) (s : Side) (block : List ℕ) (b : IndexBlock) → IsBlockOf area size s block b → index_of s block ≡ b
unfolding index_of sequence_of
record_is area size s block b ok =
    let free : free_of block (number_at w32 block 56) ≡ b.free = sym (free_is block b.free (number_at w32 block 56) ok.listed ok.free) in
    let side = sym ok.same_side in
    let seq = sym ok.same_seq in
    let size' = sym ok.same_size in
    let slots = sym ok.same_slots in
    λ i. record { side = side i; seq = seq i; size = size' i; slots = slots i; free = free i }

pub grammar_reads : (area size : ℕ) (s : Side) (block : List ℕ) (b : IndexBlock) → IsBlockOf area size s block b → block_reading area size s block ≡ Ok b
unfolding checked
grammar_reads area size s block b ok =
    rw (
      signed_test block ok.signed,
      numbered_test block ok.numbered,
      versioned_test block ok.major ok.minor,
      placed_test size s block ok.my_offset ok.my_size ok.other_offset ok.label_offset,
      slotted_test area size block ok.label_size ok.some ok.bits ok.fits,
      summed_test block ok.sum,
    )
    (ap Ok (record_is area size s block b ok))

pub grammar_is_reading : GrammarIsReading
grammar_is_reading area s b =
    let size : ℕ = block_size_of (length area) in (
      reads_grammar (length area) size s (take size (drop (place_of size s) area)) b,
      grammar_reads (length area) size s (take size (drop (place_of size s) area)) b,
    )
