-- Contents with the new bytes of several namespaces put into them, one namespace after another.
use Rattle.std.proofs.Common.{◌≡◌, ℕ, zero, suc, ◌+◌, ◌/◌, ◌%◌, ◌<◌, List, [], ◌∷◌, length, map, get_or, refl, sym, ap, ◌∙◌, subst, arith}
use Rattle.std.proofs.lemmas.List.{ext_get_or, get_or-map, length-map}
use Rattle.nfit_reader.specs.declared.table.Mapping.{Mapping}
use Rattle.cut_words.specs.Words.{Words, settled}
use Rattle.cut_words.specs.WordBytes.{words_in}
use Rattle.arena_open.proofs.Bytes.{length_words}
use Rattle.image_set.specs.Patches.{IsCovered, patched_contents, patched_row}
use Rattle.power_cut.specs.Namespace.{ReachEnds, row_of}
use Rattle.power_cut.proofs.Spread.{at_range, length_range}
use Rattle.sector_namespaces.specs.View.{rows_of}
use Rattle.namespace_bytes.specs.Patching.{AreWhole, BytePatch, all_patched, byte_patched}
use Rattle.namespace_bytes.proofs.Patched.{at_row, length_row}
use Rattle.namespace_bytes.proofs.WholePatch.{row_is}

-- ---- lengths

-- contents keep their number of modules
pub length_contents : (f : ℕ → ℕ → ℕ → ℕ) (contents : List (List ℕ)) → length (patched_contents f contents) ≡ length contents
length_contents f contents = length_range (λ m. patched_row f m 0 (get_or contents m [])) (length contents)

-- the contents of a module
pub contents_at : (f : ℕ → ℕ → ℕ → ℕ) (contents : List (List ℕ)) (which : ℕ) (d : List ℕ) → which < length contents → get_or (patched_contents f contents) which d ≡ patched_row f which 0 (get_or contents which [])
contents_at f contents which d lt = at_range (λ m. patched_row f m 0 (get_or contents m [])) (length contents) which d lt

-- each module keeps its number of bytes
pub length_at : (f : ℕ → ℕ → ℕ → ℕ) (contents : List (List ℕ)) (which : ℕ) (d : List ℕ) → which < length contents → length (get_or (patched_contents f contents) which d) ≡ length (get_or contents which [])
length_at f contents which d lt = ap length (contents_at f contents which d lt) ∙ length_row f which 0 (get_or contents which [])

pub whole_kept : (f : ℕ → ℕ → ℕ → ℕ) (contents : List (List ℕ)) → AreWhole contents → AreWhole (patched_contents f contents)
whole_kept f contents whole = λ which d lt.
    let known : which < length contents = omega (arith, lt, length_contents f contents) in
    subst (λ (n : ℕ). n % 8 ≡ 0) (sym (length_at f contents which d known)) (whole which [] known)

pub reach_kept : (f : ℕ → ℕ → ℕ → ℕ) (set : List Mapping) (contents : List (List ℕ)) → ReachEnds set (rows_of contents) → ReachEnds set (rows_of (patched_contents f contents))
reach_kept f set contents reach = λ m among.
    let has = reach m among in
    let count : length (patched_contents f contents) ≡ length contents = length_contents f contents in
    let known : m.«module» < length contents = omega (arith, has.there, length-map contents (λ (bytes : List ℕ). settled (words_in bytes))) in
    let was : length (row_of (rows_of contents) m.«module»).kept ≡ length (get_or contents m.«module» []) / 8 =
    ap (λ (w : Words). length w.kept) (row_is contents m.«module» known) ∙ length_words (get_or contents m.«module» []) in
    let now : length (row_of (rows_of (patched_contents f contents)) m.«module»).kept ≡ length (get_or (patched_contents f contents) m.«module» []) / 8 =
    ap (λ (w : Words). length w.kept) (row_is (patched_contents f contents) m.«module» (omega (arith, known, count))) ∙ length_words (get_or (patched_contents f contents) m.«module» []) in
    let same : length (get_or (patched_contents f contents) m.«module» []) / 8 ≡ length (get_or contents m.«module» []) / 8 = ap (λ (n : ℕ). n / 8) (length_at f contents m.«module» [] known) in
    record {
      there = omega (arith, known, count, length-map (patched_contents f contents) (λ (bytes : List ℕ). settled (words_in bytes)));
      reaches = omega (arith, has.reaches, was, now, same);
    }

-- ---- none, one, and one more

pub row_none : (m at : ℕ) (row : List ℕ) → patched_row (all_patched []) m at row ≡ row
row_none m at row =
    ext_get_or 0 (patched_row (all_patched []) m at row) row (length_row (all_patched []) m at row)
    (λ j lt. at_row (all_patched []) m at row j (omega (arith, lt, length_row (all_patched []) m at row)))

pub contents_none : (contents : List (List ℕ)) → patched_contents (all_patched []) contents ≡ contents
contents_none contents =
    ext_get_or [] (patched_contents (all_patched []) contents) contents (length_contents (all_patched []) contents) (λ which lt.
    contents_at (all_patched []) contents which [] (omega (arith, lt, length_contents (all_patched []) contents)) ∙ row_none which 0 (get_or contents which []))

pub one_patched : (p : BytePatch) → all_patched (p ∷ []) ≡ byte_patched p
one_patched p = refl

module _ (p : BytePatch) (ps : List BytePatch) where
  pub row_after : (m at : ℕ) (row : List ℕ) → patched_row (all_patched (p ∷ ps)) m at row ≡ patched_row (all_patched ps) m at (patched_row (byte_patched p) m at row)
  row_after m at row =
      let first : List ℕ = patched_row (byte_patched p) m at row in
      let long : length (patched_row (byte_patched p) m at row) ≡ length row = length_row (byte_patched p) m at row in
      let left : length (patched_row (all_patched (p ∷ ps)) m at row) ≡ length row = length_row (all_patched (p ∷ ps)) m at row in
      let right : length (patched_row (all_patched ps) m at (patched_row (byte_patched p) m at row)) ≡ length row = length_row (all_patched ps) m at (patched_row (byte_patched p) m at row) ∙ long in
      ext_get_or 0 (patched_row (all_patched (p ∷ ps)) m at row) (patched_row (all_patched ps) m at (patched_row (byte_patched p) m at row)) (left ∙ sym right) (λ j lt.
      let less : j < length row = omega (arith, lt, left) in
      at_row (all_patched (p ∷ ps)) m at row j less
      ∙ ap (all_patched ps m (at + j)) (sym (at_row (byte_patched p) m at row j less))
      ∙ sym (at_row (all_patched ps) m at (patched_row (byte_patched p) m at row) j (omega (arith, less, long))))

  -- the first namespace's bytes are put there first
  pub contents_after : (contents : List (List ℕ)) → patched_contents (all_patched (p ∷ ps)) contents ≡ patched_contents (all_patched ps) (patched_contents (byte_patched p) contents)
  contents_after contents =
      let count : length (patched_contents (byte_patched p) contents) ≡ length contents = length_contents (byte_patched p) contents in
      let left : length (patched_contents (all_patched (p ∷ ps)) contents) ≡ length contents = length_contents (all_patched (p ∷ ps)) contents in
      let right : length (patched_contents (all_patched ps) (patched_contents (byte_patched p) contents)) ≡ length contents = length_contents (all_patched ps) (patched_contents (byte_patched p) contents) ∙ count in
      ext_get_or [] (patched_contents (all_patched (p ∷ ps)) contents) (patched_contents (all_patched ps) (patched_contents (byte_patched p) contents)) (left ∙ sym right) (λ which lt.
      let known : which < length contents = omega (arith, lt, left) in
      contents_at (all_patched (p ∷ ps)) contents which [] known
      ∙ row_after which 0 (get_or contents which [])
      ∙ ap (patched_row (all_patched ps) which 0) (sym (contents_at (byte_patched p) contents which [] known))
      ∙ sym (contents_at (all_patched ps) (patched_contents (byte_patched p) contents) which [] (omega (arith, known, count))))

-- ---- bytes that don't depend on the old ones

-- if one namespace covers them, all together do
covered_first : (p : BytePatch) (ps : List BytePatch) (m at count : ℕ) → IsCovered (byte_patched p) m at count → IsCovered (all_patched (p ∷ ps)) m at count
covered_first p ps m at count covered = λ k old old' lt. ap (all_patched ps m (at + k)) (covered k old old' lt)

pub covered_any : (ps : List BytePatch) (i : ℕ) (d : BytePatch) (m at count : ℕ) → i < length ps → IsCovered (byte_patched (get_or ps i d)) m at count → IsCovered (all_patched ps) m at count
covered_any [] i d m at count lt covered = absurd (omega (arith, lt))
covered_any (p ∷ ps) zero d m at count lt covered = covered_first p ps m at count covered
covered_any (p ∷ ps) (suc i) d m at count lt covered = λ k old old' less.
    covered_any ps i d m at count (omega (arith, lt)) covered k (byte_patched p m (at + k) old) (byte_patched p m (at + k) old') less
