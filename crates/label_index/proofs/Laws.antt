-- The laws of the canonical encoding of index blocks.
use Rattle.std.proofs.Common.{◌≡◌, ℕ, ◌+◌, ◌/◌, ◌≤◌, false, List, [], ◌∷◌, length, take, drop, refl, sym, ap, ◌∙◌, subst, arith}
use Rattle.std.specs.Int.{w32}
use Rattle.std.proofs.lemmas.Nat.{from_le_bytes-to_le_bytes_4}
use Rattle.std.proofs.lemmas.List.{get_or_past}
use Rattle.nvd_words.specs.Bytes.{number_at}
use Rattle.label_index.specs.declared.index.IndexBlock.{IndexBlock}
use Rattle.label_index.specs.declared.index.Side.{Side}
use Rattle.label_index.specs.declared.index.Side.TheVariants as side
use Rattle.label_index.specs.Area.{block_size_of}
use Rattle.label_index.specs.Index.{block_reading, index_of, place_of}
use Rattle.label_index.specs.Grammar.{IsBlockOf}
use Rattle.label_index.specs.Spelling.{spelling_of}
use Rattle.label_index.specs.Laws.{SpellingStands, SpellingReadsBack, SpellingIsClean, NoSharedSpelling, NoDoubleReading, ReadIsValid}
use Rattle.label_index.proofs.Grammar.{reads_grammar, record_is}
use Rattle.label_index.proofs.Spelled.{spelled, freed, small, few_slots, size_at, my_at, slots_at, places, index_is, enough}

pub spelling_stands : SpellingStands
spelling_stands area b ok = reads_grammar area b.size b.side (spelling_of b) b (spelled area b ok)

pub spelling_reads_back : SpellingReadsBack
spelling_reads_back area b ok e =
    let size : ℕ = block_size_of (length area) in
    ap (λ (bytes : List ℕ). block_reading (length area) size b.side bytes) e
    ∙ ap (λ (k : ℕ). block_reading (length area) k b.side (spelling_of b)) (sym ok.whole) ∙ spelled (length area) b ok

flags_clean : (b : IndexBlock) → take 3 (drop 16 (spelling_of b)) ≡ 0 ∷ 0 ∷ 0 ∷ []
unfolding spelling_of
flags_clean b = refl

-- Seq has only the sequence number
pub seq_clean : (b : IndexBlock) → b.seq ≤ 3 → number_at w32 (spelling_of b) 20 ≡ b.seq
unfolding number_at spelling_of
seq_clean b le = from_le_bytes-to_le_bytes_4 b.seq (omega (arith, le))

pub spelling_is_clean : SpellingIsClean
spelling_is_clean b writable =
    let area = writable.0 in
    let ok = writable.1 in
    record {
      flags = flags_clean b;
      seq = omega (arith, seq_clean b ok.seq_high, ok.seq_high);
      free = λ n past lt. freed b n lt ∙ get_or_past b.free n false (omega (arith, past, slots_at b (few_slots area b ok), ok.listed));
    }

same_side : (size : ℕ) (s t : Side) → 1 ≤ size → place_of size s ≡ place_of size t → s ≡ t
same_side size side.Zero side.Zero some e = refl
same_side size side.Zero side.One some e = absurd (omega (arith, e, some))
same_side size side.One side.Zero some e = absurd (omega (arith, e, some))
same_side size side.One side.One some e = refl

pub no_double_reading : NoDoubleReading
no_double_reading b writable area size s c g =
    let ok = writable.1 in
    let sized : size ≡ b.size = sym g.my_size ∙ size_at b (small writable.0 b ok) in
    let placed : place_of b.size s ≡ place_of b.size b.side =
    ap (λ (k : ℕ). place_of k s) (sym sized) ∙ sym g.my_offset ∙ my_at b (places b.size b.side (small writable.0 b ok)).0 in
    sym (record_is area size s (spelling_of b) c g)
    ∙ ap (λ (t : Side). index_of t (spelling_of b)) (same_side b.size s b.side (omega (arith, enough writable.0 b ok)) placed) ∙ index_is writable.0 b ok

pub no_shared_spelling : NoSharedSpelling
no_shared_spelling a b wa wb e =
    no_double_reading b wb wa.0 a.size a.side a (subst (λ (bytes : List ℕ). IsBlockOf wa.0 a.size a.side bytes a) e (spelling_stands wa.0 a wa.1))

pub read_is_valid : ReadIsValid
read_is_valid area s b sized e =
    let size : ℕ = block_size_of (length area) in
    let g = reads_grammar (length area) size s (take size (drop (place_of size s) area)) b e in
    let slots = g.same_slots in
    let whole : b.size ≡ size = g.same_size ∙ g.my_size in
    record {
      sized = sized;
      seq_low = omega (arith, g.same_seq, g.numbered);
      seq_high = omega (arith, g.same_seq);
      whole = whole;
      some = omega (arith, slots, g.some);
      bits = subst (λ (k : ℕ). 72 + (k + 7) / 8 ≤ b.size) (sym slots) (subst (λ (k : ℕ). 72 + (number_at w32 (take size (drop (place_of size s) area)) 56 + 7) / 8 ≤ k) (sym whole) g.bits);
      fits = omega (arith, slots, whole, g.fits);
      listed = g.listed ∙ sym slots;
    }
