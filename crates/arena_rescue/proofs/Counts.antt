-- How often blocks are named.
use Rattle.std.proofs.Common.{◌≡◌, ◌≢◌, ℕ, zero, suc, ◌+◌, ◌<◌, ◌≤◌, min, Bool, true, false, cond, eqb, ltb, List, [], ◌∷◌, ◌++◌, length, map, get_or, replicate, refl, sym, ap, ◌∙◌, inl, inr, arith}
use Rattle.std.specs.Prelude.{filter}
use Rattle.std.specs.List.{range_with_len}
use Rattle.std.proofs.lemmas.Bool.{cases_eq, cases_lt, eq-eqb, ne_eqb, lt-ltb, le-ltb}
use Rattle.std.proofs.lemmas.List.{ext_get_or, get_or-replicate}
use Rattle.std.proofs.lemmas.List.FromFn.{get_or-map-range_with_len, length-map-range_with_len}
use Rattle.arena_layout.specs.declared.layout.Layout.{Layout}
use Rattle.flog.specs.declared.group.Group.{Group}
use Rattle.map_table.specs.declared.kinds.MapEntry.{MapEntry}
use Rattle.map_table.specs.Entry.{entry_of}
use Rattle.map_table.specs.Blocks.{blocks_from, blocks_of, count_of, IsCounted}
use Rattle.map_table.proofs.Checked.{counted_both, len_zeros}
use Rattle.map_table.proofs.Counting.{count_of-cons, count_of-append}
use Rattle.arena_open.specs.Reading.{free_of}
use Rattle.arena_open.proofs.OnceMore.{block_index, length_blocks}
use Rattle.arena_rescue.specs.Rescue.{block_in, is_known, is_twice, known_blocks, named_blocks}
use Rattle.arena_rescue.specs.Counting.{IsCountOf, counted_twice}
use Rattle.arena_rescue.specs.Laws.{kept_of}
use Rattle.arena_rescue.proofs.Ranges.{taken_more}

-- ---- counted by a loop

-- a sector more, which is counted if it is known
known_more : (l : Layout) (bad : ℕ → Bool) (entries : List ℕ) (n k : ℕ) (first now next : List ℕ) (b : Bool) → n + 1 ≡ k → is_known l bad n ≡ b
    → length now ≡ length first → IsCounted (length first) first now (known_blocks l bad entries n)
    → IsCounted (length now) now next (cond b (block_in entries n ∷ []) []) → IsCounted (length first) first next (known_blocks l bad entries k)
known_more l bad entries n k first now next b e is len was more block lt =
    counted_both (length first) first now next (known_blocks l bad entries n) (cond b (block_in entries n ∷ []) []) was (λ c below. more c (omega (arith, below, len))) block lt
    ∙ ap (λ (bs : List ℕ). min 2 (get_or first block 0 + count_of block bs)) (sym (taken_more (block_in entries) (is_known l bad) n k b e is))

-- it is known, and counted
pub known_on : (l : Layout) (bad : ℕ → Bool) (entries : List ℕ) (n : ℕ) (first now mid next : List ℕ) (entry : MapEntry) → is_known l bad n ≡ true
    → entry ≡ entry_of (get_or entries n 0) n → length now ≡ length first → IsCounted (length first) first now (known_blocks l bad entries n)
    → IsCounted (length now) now mid (entry.block ∷ []) → next ≡ mid → IsCounted (length first) first next (known_blocks l bad entries (n + 1))
known_on l bad entries n first now mid next entry is entry_is len was counted same =
    known_more l bad entries n (n + 1) first now next true refl is len was
    (λ block lt. ap (λ (l : List ℕ). min 2 (get_or l block 0)) same ∙ counted block lt ∙ ap (λ (e : MapEntry). min 2 (get_or now block 0 + count_of block (e.block ∷ []))) entry_is)

-- it isn't known, and not counted
pub known_past : (l : Layout) (bad : ℕ → Bool) (entries : List ℕ) (n : ℕ) (first now next : List ℕ) → is_known l bad n ≡ false
    → length now ≡ length first → IsCounted (length first) first now (known_blocks l bad entries n) → next ≡ now
    → IsCounted (length first) first next (known_blocks l bad entries (n + 1))
known_past l bad entries n first now next is len was same =
    known_more l bad entries n (n + 1) first now next false refl is len was
    (λ block lt. ap (λ (l : List ℕ). min 2 (get_or l block 0)) same ∙ ap (λ (c : ℕ). min 2 c) (omega arith))

-- the blocks of entries and then of lanes, from counts that are all 0
pub counts_are : (n : ℕ) (first mid last xs ys : List ℕ) → first ≡ replicate n 0 → length mid ≡ length first → IsCounted (length first) first mid xs
    → IsCounted (length mid) mid last ys → IsCountOf n last (xs ++ ys)
counts_are n first mid last xs ys zeros len one two block lt =
    let size : length first ≡ n = len_zeros n first zeros in
    counted_both n first mid last xs ys (λ b below. one b (omega (arith, below, size))) (λ b below. two b (omega (arith, below, size, len))) block lt
    ∙ ap (λ (l : List ℕ). min 2 (get_or l block 0 + count_of block (xs ++ ys))) zeros
    ∙ ap (λ (c : ℕ). min 2 (c + count_of block (xs ++ ys))) (get_or-replicate n block 0 0 lt)
    ∙ ap (λ (c : ℕ). min 2 c) (omega arith)

-- a count of 2 stands for each above 1
above_by : (n c : ℕ) → min 2 n ≡ min 2 c → ltb 1 n ≡ ltb 1 c
above_by n c e = elim (cases_lt 1 n) [
  | inl lt ↦ lt-ltb 1 n lt ∙ sym (lt-ltb 1 c (omega (arith, lt, e)))
  | inr ge ↦ le-ltb 1 n ge ∙ sym (le-ltb 1 c (omega (arith, ge, e)))
]

pub twice_agrees : (n : ℕ) (counts named : List ℕ) → IsCountOf n counts named → (block : ℕ) → block < n → counted_twice counts block ≡ is_twice named block
twice_agrees n counts named is block lt = above_by (get_or counts block 0) (count_of block named) (is block lt)

pub few_not_twice : (named : List ℕ) (block : ℕ) → count_of block named ≤ 1 → is_twice named block ≡ false
few_not_twice named block few = le-ltb 1 (count_of block named) few

-- ---- the blocks of all sectors

pub block_at : (entries : List ℕ) (k : ℕ) → k < length entries → get_or (blocks_from 0 entries) k 0 ≡ block_in entries k
block_at entries k lt = block_index 0 entries k lt ∙ ap (λ (s : ℕ). (entry_of (get_or entries k 0) s).block) (let p : 0 + k ≡ k = omega arith in p)

pub all_blocks : (entries : List ℕ) → map (block_in entries) (range_with_len 0 (length entries)) ≡ blocks_from 0 entries
all_blocks entries =
    let long : length (map (block_in entries) (range_with_len 0 (length entries))) ≡ length entries = length-map-range_with_len (block_in entries) 0 (length entries) in
    ext_get_or 0 (map (block_in entries) (range_with_len 0 (length entries))) (blocks_from 0 entries) (long ∙ sym (length_blocks 0 entries))
    (λ k lt. let here : k < length entries = omega (arith, lt, long) in
    get_or-map-range_with_len (block_in entries) 0 (length entries) k k 0 here (omega arith) ∙ sym (block_at entries k here))

-- ---- counts of parts

count_head : (b : ℕ) (f : ℕ → ℕ) (x : ℕ) (ys : List ℕ) (t : Bool) → count_of b (map f (cond t (x ∷ ys) ys)) ≡ cond t (cond (eqb (f x) b) 1 0) 0 + count_of b (map f ys)
count_head b f x ys true = count_of-cons b (f x) (map f ys)
count_head b f x ys false = omega arith

part_by : (t c : Bool) → cond t (cond c 1 0) 0 ≤ cond c 1 0
part_by true true = omega arith
part_by true false = omega arith
part_by false true = omega arith
part_by false false = omega arith

-- those that pass are no more than all
pub count_part : (b : ℕ) (f : ℕ → ℕ) (p : ℕ → Bool) (xs : List ℕ) → count_of b (map f (filter p xs)) ≤ count_of b (map f xs)
count_part b f p [] = omega arith
count_part b f p (x ∷ xs) =
    omega (arith, count_head b f x (filter p xs) (p x), count_of-cons b (f x) (map f xs), part_by (p x) (eqb (f x) b), count_part b f p xs)

pub known_part : (l : Layout) (bad : ℕ → Bool) (entries : List ℕ) (b : ℕ) → count_of b (known_blocks l bad entries (length entries)) ≤ count_of b (blocks_from 0 entries)
known_part l bad entries b =
    let le : count_of b (known_blocks l bad entries (length entries)) ≤ count_of b (map (block_in entries) (range_with_len 0 (length entries))) =
    count_part b (block_in entries) (is_known l bad) (range_with_len 0 (length entries)) in
    omega (arith, le, ap (count_of b) (all_blocks entries))

-- the lanes that are kept
pub kept_part : (keeps : List Bool) (groups : List Group) (b : ℕ) → count_of b (free_of (kept_of keeps groups)) ≤ count_of b (free_of groups)
kept_part [] groups b = omega arith
kept_part (keep ∷ keeps) [] b = omega arith
kept_part (true ∷ keeps) (group ∷ groups) b =
    omega (arith, count_of-cons b group.half.old (free_of (kept_of keeps groups)), count_of-cons b group.half.old (free_of groups), kept_part keeps groups b)
kept_part (false ∷ keeps) (group ∷ groups) b = omega (arith, count_of-cons b group.half.old (free_of groups), kept_part keeps groups b)

-- of some lanes no block is named more often than of all
pub named_part : (l : Layout) (bad : ℕ → Bool) (entries : List ℕ) (keeps : List Bool) (groups : List Group) (b : ℕ)
    → count_of b (named_blocks l bad entries (kept_of keeps groups)) ≤ count_of b (blocks_of entries (free_of groups))
named_part l bad entries keeps groups b =
    omega (
      arith,
      known_part l bad entries b,
      kept_part keeps groups b,
      count_of-append b (known_blocks l bad entries (length entries)) (free_of (kept_of keeps groups)),
      count_of-append b (blocks_from 0 entries) (free_of groups),
    )

pub named_all : (l : Layout) (bad : ℕ → Bool) (entries : List ℕ) (groups : List Group) (b : ℕ)
    → count_of b (named_blocks l bad entries groups) ≤ count_of b (blocks_of entries (free_of groups))
named_all l bad entries groups b =
    omega (arith, known_part l bad entries b, count_of-append b (known_blocks l bad entries (length entries)) (free_of groups), count_of-append b (blocks_from 0 entries) (free_of groups))

-- ---- a sector that names a block

module _ (b : ℕ) (f : ℕ → ℕ) (p : ℕ → Bool) where
  -- the first number of a range names the block
  first_names : (a n j : ℕ) → a ≡ j → p j ≡ true → f j ≡ b
      → count_of b (map f (filter p (range_with_len a (suc n)))) ≡ 1 + count_of b (map f (filter p (range_with_len (a + 1) n)))
  first_names a n j e passes names =
      let pass : p a ≡ true = ap p e ∙ passes in
      let name : f a ≡ b = ap f e ∙ names in
      count_head b f a (filter p (range_with_len (a + 1) n)) (p a)
      ∙ (λ i. cond (pass i) (cond (eq-eqb (f a) b name i) 1 0) 0 + count_of b (map f (filter p (range_with_len (a + 1) n))))

  -- the first number only adds
  rest_names : (a n : ℕ) → count_of b (map f (filter p (range_with_len (a + 1) n))) ≤ count_of b (map f (filter p (range_with_len a (suc n))))
  rest_names a n = omega (arith, count_head b f a (filter p (range_with_len (a + 1) n)) (p a))

  pub named_once : (a n j : ℕ) → a ≤ j → j < a + n → p j ≡ true → f j ≡ b → 1 ≤ count_of b (map f (filter p (range_with_len a n)))
  named_once a zero j low high passes names = absurd (omega (arith, low, high))
  named_once a (suc n) j low high passes names = elim (cases_eq a j) [
    | inl e ↦ omega (arith, first_names a n j e passes names)
    | inr other ↦ omega (arith, rest_names a n, named_once (a + 1) n j (omega (arith, low, other)) (omega (arith, high)) passes names)
  ]

  pub named_again : (a n j k : ℕ) → j ≢ k → a ≤ j → j < a + n → a ≤ k → k < a + n → p j ≡ true → p k ≡ true → f j ≡ b → f k ≡ b
      → 2 ≤ count_of b (map f (filter p (range_with_len a n)))
  named_again a zero j k apart low high low' high' pj pk fj fk = absurd (omega (arith, low, high))
  named_again a (suc n) j k apart low high low' high' pj pk fj fk = elim (cases_eq a j) [
    | inl e ↦ let behind : a + 1 ≤ k = omega (arith, low', apart, e) in
        omega (arith, first_names a n j e pj fj, named_once (a + 1) n k behind (omega (arith, high')) pk fk)
    | inr other ↦ elim (cases_eq a k) [
      | inl e ↦ let behind : a + 1 ≤ j = omega (arith, low, other) in
          omega (arith, first_names a n k e pk fk, named_once (a + 1) n j behind (omega (arith, high)) pj fj)
      | inr other' ↦ let on : 2 ≤ count_of b (map f (filter p (range_with_len (a + 1) n))) =
          named_again (a + 1) n j k apart (omega (arith, low, other)) (omega (arith, high)) (omega (arith, low', other')) (omega (arith, high')) pj pk fj fk in
          omega (arith, rest_names a n, on)
    ]
  ]

-- a number that is counted stands somewhere
pub record StandsIn (xs : List ℕ) (b : ℕ) : Type 0 where
  pub place : ℕ
  pub inside : place < length xs
  pub is : get_or xs place 0 ≡ b

pub stands_in : (b : ℕ) (xs : List ℕ) → 1 ≤ count_of b xs → StandsIn xs b
stands_in b [] some = absurd (omega (arith, some))
stands_in b (x ∷ xs) some = elim (cases_eq x b) [
  | inl e ↦ record { place = 0; inside = omega arith; is = e }
  | inr other ↦ behind (stands_in b xs (omega (arith, some, count_of-cons b x xs, ap {B = ℕ} (λ (t : Bool). cond t 1 0) (unlike other))))
]
  where
    unlike : (x ≡ b → ⊥) → eqb x b ≡ false
    unlike other = ne_eqb x b other

    behind : StandsIn xs b → StandsIn (x ∷ xs) b
    behind s = record { place = suc s.place; inside = omega (arith, s.inside); is = s.is }
