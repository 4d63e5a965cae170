-- The laws of the canonical encoding of labels.
use Rattle.std.proofs.Common.{◌≡◌, ◌≢◌, ℕ, ◌-◌, ◌<◌, ◌≤◌, Bool, true, false, not, eqb, List, ◌++◌, length, take, drop, get_or, replicate, refl, sym, ap, ◌∙◌, subst, arith, append_assoc, Ok}
use Rattle.std.specs.List.{prefix_len}
use Rattle.std.proofs.lemmas.Bool.{eq-eqb}
use Rattle.std.proofs.lemmas.List.Sums.{prefix_len_passes}
use Rattle.std.proofs.lemmas.List.{get_or-take, take_at, drop_at, length-take}
use Rattle.nvd_words.specs.Bytes.{AreBytes}
use Rattle.nvd_words.proofs.ByteLists.{take_bytes, drop_bytes, two_below, four_below, eight_below}
use Rattle.label_codec.specs.declared.label.Label.{Label}
use Rattle.label_codec.specs.Name.{text_in}
use Rattle.label_codec.specs.Label.{label_of, label_reading, bytes_at, padded, spelling_of}
use Rattle.label_codec.specs.Grammar.{StandsFor}
use Rattle.label_codec.specs.Writable.{IsSound, NumbersFit, BytesFit, IsWritable}
use Rattle.label_codec.specs.Laws.{SpellingStands, SpellingReadsBack, SpellingIsClean, NoSharedSpelling, NoDoubleReading, ReadIsWritable}
use Rattle.label_codec.proofs.Grammar.{reads_grammar, label_is, sizes_test}
use Rattle.label_codec.proofs.Spelled.{swap_bytes}
use Rattle.label_codec.proofs.Spelled as spelled

pub spelling_reads_back : SpellingReadsBack
spelling_reads_back l ok = spelled.spelled l ok

pub spelling_stands : SpellingStands
spelling_stands l ok = reads_grammar (spelling_of l) l.slot l (spelled.spelled l ok)

pub no_double_reading : NoDoubleReading
no_double_reading l ok number other g = sym (label_is (spelling_of l) number other g) ∙ spelled.label_is l ok

pub no_shared_spelling : NoSharedSpelling
no_shared_spelling a b wa wb e = sym (spelled.label_is a wa) ∙ ap label_of e ∙ spelled.label_is b wb

-- ---- the canonical encoding is clean

field_at : (l : Label) → IsWritable l → bytes_at (spelling_of l) 16 64 ≡ padded 64 l.name
field_at l ok =
    ap (λ (b : List ℕ). take 64 (drop 16 b)) (spelled.spelling_is l ∙ append_assoc l.uuid (padded 64 l.name) (spelled.rest_of l))
    ∙ ap (take 64) (drop_at l.uuid (padded 64 l.name ++ spelled.rest_of l) 16 ok.bytes.uuid_len)
    ∙ take_at (padded 64 l.name) (spelled.rest_of l) 64 (spelled.length_padded l.name ok.bytes.name_len)

pub spelling_is_clean : SpellingIsClean
spelling_is_clean l ok =
    let name = spelled.name_at l ok in
    record {
      name = ap (λ (n : List ℕ). drop (length n) (bytes_at (spelling_of l) 16 64)) name ∙ ap (drop (length l.name)) (field_at l ok)
          ∙ drop_at l.name (replicate (64 - length l.name) 0) (length l.name) refl ∙ ap (λ (n : List ℕ). replicate (64 - length n) 0) (sym name);
      after_align = ap (take 3) (spelled.drop_past l 45 ok);
      after_cookie = ap (take 80) (spelled.drop_past l 88 ok);
    }

-- ---- a label that was read can be written

clash : (b : Bool) → not b ≡ true → b ≡ true → ⊥
clash true e f = cc
clash false e f = cc

text_no_zero : (bytes : List ℕ) (i : ℕ) → i < length (text_in bytes) → get_or (text_in bytes) i 0 ≢ 0
text_no_zero bytes i lt zero_there =
    let test : ℕ → Bool = λ b. not (eqb b 0) in
    let within : i < prefix_len test bytes = omega (arith, lt, length-take (prefix_len test bytes) bytes) in
    clash (eqb (get_or bytes i 0) 0) (prefix_len_passes test bytes i 0 within)
    (eq-eqb (get_or bytes i 0) 0 (sym (get_or-take (prefix_len test bytes) bytes i 0 within) ∙ zero_there))

text_short : (bytes : List ℕ) → length (text_in bytes) ≤ length bytes
text_short bytes = omega (arith, length-take (prefix_len (λ (b : ℕ). not (eqb b 0)) bytes) bytes)

text_bytes : (bytes : List ℕ) → AreBytes bytes → AreBytes (text_in bytes)
text_bytes bytes all = take_bytes (prefix_len (λ (b : ℕ). not (eqb b 0)) bytes) bytes all

read_is_sound : (bytes : List ℕ) (number : ℕ) (l : Label) → StandsFor bytes number l → IsSound l
read_is_sound bytes number l g = record {
  no_zero = subst (λ (name : List ℕ). (i : ℕ) → i < length name → get_or name i 0 ≢ 0) (sym g.name) (text_no_zero (bytes_at bytes 16 64));
  sizes = sizes_test l.dpa l.raw (record { dpa_whole = g.dpa_whole; raw_whole = g.raw_whole; raw_some = g.raw_some; raw_ends = g.raw_ends });
}

-- the label that was read has a name without a zero byte, and sizes that aren't odd
pub sound_if_read : (bytes : List ℕ) (number : ℕ) (l : Label) → label_reading bytes number ≡ Ok l → IsSound l
sound_if_read bytes number l e = read_is_sound bytes number l (reads_grammar bytes number l e)

numbers_fit : (bytes : List ℕ) (number : ℕ) (l : Label) → AreBytes bytes → StandsFor bytes number l → NumbersFit l
numbers_fit bytes number l all g = record {
  flags = omega (arith, g.flags, four_below bytes 80 all);
  count = omega (arith, g.count, two_below bytes 84 all);
  position = omega (arith, g.position, two_below bytes 86 all);
  cookie = omega (arith, g.cookie, eight_below bytes 88 all);
  lba = omega (arith, g.lba, eight_below bytes 96 all);
  dpa = omega (arith, g.dpa, eight_below bytes 104 all);
  raw = omega (arith, g.raw, eight_below bytes 112 all);
  slot = omega (arith, g.slot, four_below bytes 120 all);
  align = omega (arith, g.align, all.each 124);
  spa_cookie = omega (arith, g.spa_cookie, eight_below bytes 160 all);
}

bytes_fit : (bytes : List ℕ) (number : ℕ) (l : Label) → AreBytes bytes → length bytes ≡ 256 → StandsFor bytes number l → BytesFit l
bytes_fit bytes number l all len g =
    let part : (at n : ℕ) → AreBytes (take n (drop at bytes)) = λ at n. take_bytes n (drop at bytes) (drop_bytes at bytes all) in
    record {
      uuid_len = ap length g.uuid ∙ length-take 16 bytes ∙ omega (arith, len);
      uuid = subst AreBytes (sym g.uuid) (part 0 16);
      name_len = omega (arith, ap length g.name, text_short (bytes_at bytes 16 64), length-take 64 (drop 16 bytes));
      name = subst AreBytes (sym g.name) (text_bytes (bytes_at bytes 16 64) (part 16 64));
      kind_len = ap length g.kind;
      kind = subst AreBytes (sym g.kind) (swap_bytes (bytes_at bytes 128 16) (part 128 16));
      abstraction_len = ap length g.abstraction;
      abstraction = subst AreBytes (sym g.abstraction) (swap_bytes (bytes_at bytes 144 16) (part 144 16));
    }

pub read_is_writable : ReadIsWritable
read_is_writable bytes number l all len e =
    let g = reads_grammar bytes number l e in
    record { sound = read_is_sound bytes number l g; numbers = numbers_fit bytes number l all g; bytes = bytes_fit bytes number l all len g }
