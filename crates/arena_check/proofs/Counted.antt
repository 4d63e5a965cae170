-- The blocks of a map, counted one by one.
use Rattle.std.proofs.Common.{◌≡◌, ℕ, suc, ◌+◌, ◌<◌, min, eqb, leb, ltb, List, [], ◌∷◌, ◌++◌, length, take, get_or, replicate, map, refl, sym, ap, ◌∙◌, inl, inr, arith, append_assoc}
use Rattle.std.specs.Prelude.{filter}
use Rattle.std.proofs.Math.Seq.{take-suc}
use Rattle.std.proofs.lemmas.List.{map-append, length-take-le, get_or-replicate}
use Rattle.std.proofs.lemmas.List.Elements.{filter-append}
use Rattle.std.proofs.lemmas.Bool.{eq-eqb, ne_eqb, lt-ltb, le-ltb, cases_lt}
use Rattle.map_table.specs.declared.kinds.MapEntry.{MapEntry}
use Rattle.map_table.specs.Entry.{entry_of}
use Rattle.map_table.specs.Blocks.{blocks_from, blocks_of, count_of, IsCounted}
use Rattle.map_table.proofs.Checked.{counted_both, len_zeros}
use Rattle.arena_check.specs.declared.finding.Finding.{Finding}
use Rattle.arena_check.specs.declared.finding.Finding.TheVariants as found
use Rattle.arena_check.specs.Check.{range_findings, twice_findings, missing_findings, block_findings}
use Rattle.arena_check.specs.Counting.{often_in, never_in}
use Rattle.arena_check.proofs.Picked.{picked_same}

-- ---- one block after another

blocks-append : (k : ℕ) (xs ys : List ℕ) (j : ℕ) → k + length xs ≡ j → blocks_from k (xs ++ ys) ≡ blocks_from k xs ++ blocks_from j ys
blocks-append k [] ys j e = ap (λ (n : ℕ). blocks_from n ys) (let same : k ≡ j = omega (arith, e) in same)
blocks-append k (x ∷ xs) ys j e = ap (λ (l : List ℕ). (entry_of x k).block ∷ l) (blocks-append (k + 1) xs ys j (omega (arith, e)))

pub blocks_more : (xs : List ℕ) (i : ℕ) (e : MapEntry) → i < length xs → e ≡ entry_of (get_or xs i 0) i
    → blocks_from 0 (take (i + 1) xs) ≡ blocks_from 0 (take i xs) ++ e.block ∷ []
blocks_more xs i e lt is =
    ap (blocks_from 0) (ap (λ (n : ℕ). take n xs) (let one : i + 1 ≡ suc i = omega arith in one) ∙ take-suc xs i 0 lt)
    ∙ blocks-append 0 (take i xs) (get_or xs i 0 ∷ []) i (omega (arith, length-take-le i xs (omega (arith, lt))))
    ∙ ap (λ (x : MapEntry). blocks_from 0 (take i xs) ++ x.block ∷ []) (sym is)

pub range_findings-append : (n : ℕ) (xs ys : List ℕ) → range_findings n (xs ++ ys) ≡ range_findings n xs ++ range_findings n ys
range_findings-append n xs ys = ap (map found.Range) (filter-append (leb n) xs ys) ∙ map-append found.Range (filter (leb n) xs) (filter (leb n) ys)

-- these blocks are counted, and listed where they don't exist
pub record Counted (first now : List ℕ) (before findings : List Finding) (blocks : List ℕ) : Type 0 where
  pub sized : length now ≡ length first
  pub counted : IsCounted (length first) first now blocks
  pub found : findings ≡ before ++ range_findings (length first) blocks

pub counted_on : (first now next : List ℕ) (before findings more : List Finding) (blocks others all : List ℕ) → all ≡ blocks ++ others
    → Counted first now before findings blocks → length next ≡ length now → IsCounted (length now) now next others → more ≡ findings ++ range_findings (length now) others
    → Counted first next before more all
counted_on first now next before findings more blocks others all e was same counted listed =
    let both : IsCounted (length first) first next (blocks ++ others) =
    counted_both (length first) first now next blocks others was.counted (λ block lt. counted block (omega (arith, lt, was.sized))) in
    record {
      sized = same ∙ was.sized;
      counted = λ block lt. both block lt ∙ ap (λ (l : List ℕ). min 2 (get_or first block 0 + count_of block l)) (sym e);
      found = listed
          ∙ (λ i. was.found i ++ range_findings (was.sized i) others)
          ∙ append_assoc before (range_findings (length first) blocks) (range_findings (length first) others)
          ∙ ap (λ (l : List Finding). before ++ l) (sym (range_findings-append (length first) blocks others))
          ∙ ap (λ (l : List ℕ). before ++ range_findings (length first) l) (sym e);
    }

-- ---- the findings by the counts: a count of 2 stands for each above 1

above_by : (n c : ℕ) → min 2 n ≡ min 2 c → ltb 1 n ≡ ltb 1 c
above_by n c e = elim (cases_lt 1 n) [
  | inl lt ↦ lt-ltb 1 n lt ∙ sym (lt-ltb 1 c (omega (arith, lt, e)))
  | inr ge ↦ le-ltb 1 n ge ∙ sym (le-ltb 1 c (omega (arith, ge, e)))
]

none_by : (n c : ℕ) → min 2 n ≡ min 2 c → eqb n 0 ≡ eqb c 0
none_by n c e = elim (cases_lt 0 n) [
  | inl lt ↦ ne_eqb n 0 (λ z. omega (arith, lt, z)) ∙ sym (ne_eqb c 0 (λ z. omega (arith, lt, z, e)))
  | inr ge ↦ eq-eqb n 0 (omega (arith, ge)) ∙ sym (eq-eqb c 0 (omega (arith, ge, e)))
]

module _ (n : ℕ) (first last : List ℕ) (blocks : List ℕ) where
  count_is : first ≡ replicate n 0 → IsCounted (length first) first last blocks → (b : ℕ) → b < n → min 2 (get_or last b 0) ≡ min 2 (count_of b blocks)
  count_is e counted b lt =
      counted b (omega (arith, lt, len_zeros n first e))
      ∙ ap (λ (l : List ℕ). min 2 (get_or l b 0 + count_of b blocks)) e
      ∙ ap (λ (k : ℕ). min 2 (k + count_of b blocks)) (get_or-replicate n b 0 0 lt)
      ∙ ap (λ (k : ℕ). min 2 k) (omega arith)

  twice_are : first ≡ replicate n 0 → IsCounted (length first) first last blocks → often_in last n ≡ twice_findings n blocks
  twice_are e counted =
      picked_same found.Twice (λ b. ltb 1 (get_or last b 0)) (λ b. ltb 1 (count_of b blocks)) 0 n
      (λ b low high. above_by (get_or last b 0) (count_of b blocks) (count_is e counted b (omega (arith, high))))

  missing_are : first ≡ replicate n 0 → IsCounted (length first) first last blocks → never_in last n ≡ missing_findings n blocks
  missing_are e counted =
      picked_same found.Missing (λ b. eqb (get_or last b 0) 0) (λ b. eqb (count_of b blocks) 0) 0 n
      (λ b low high. none_by (get_or last b 0) (count_of b blocks) (count_is e counted b (omega (arith, high))))

-- of the map's blocks, the free ones, and then the two passes over the counts
pub all_found : (n : ℕ) (first mid last : List ℕ) (entries free : List ℕ) (f0 f1 f2 f3 f4 : List Finding) → f0 ≡ [] → first ≡ replicate n 0
    → length mid ≡ length first → IsCounted (length first) first mid (blocks_from 0 entries) → f1 ≡ f0 ++ range_findings (length first) (blocks_from 0 entries)
    → length last ≡ length mid → IsCounted (length mid) mid last free → f2 ≡ f1 ++ range_findings (length mid) free
    → f3 ≡ f2 ++ often_in last (length last) → f4 ≡ f3 ++ never_in last (length last)
    → f4 ≡ block_findings n (blocks_of entries free)
all_found n first mid last entries free f0 f1 f2 f3 f4 none zero' len1 counted1 found1 len2 counted2 found2 often never =
    let map' : Counted first mid f0 f1 (blocks_from 0 entries) = record { sized = len1; counted = counted1; found = found1 } in
    let both : Counted first last f0 f2 (blocks_of entries free) =
    counted_on first mid last f0 f1 f2 (blocks_from 0 entries) free (blocks_of entries free) refl map' len2 counted2 found2 in
    let size : length first ≡ n = len_zeros n first zero' in
    let sizes : length last ≡ n = both.sized ∙ size in
    never
    ∙ (λ i. often i ++ never_in last (sizes i))
    ∙ (λ i. (both.found i ++ often_in last (sizes i)) ++ missing_are n first last (blocks_of entries free) zero' both.counted i)
    ∙ (λ i. ((none i ++ range_findings (size i) (blocks_of entries free)) ++ twice_are n first last (blocks_of entries free) zero' both.counted i) ++ missing_findings n (blocks_of entries free))
    ∙ append_assoc (range_findings n (blocks_of entries free)) (twice_findings n (blocks_of entries free)) (missing_findings n (blocks_of entries free))
