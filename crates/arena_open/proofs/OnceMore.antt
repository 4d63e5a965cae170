-- A pending move that is completed is no longer pending, and no other becomes pending: each block is named once.
use Rattle.std.proofs.Common.{◌≡◌, ◌≢◌, ℕ, zero, suc, ◌+◌, ◌^◌, ◌<◌, ◌≤◌, Bool, true, false, not, cond, eqb, List, [], ◌∷◌, ◌++◌, length, map, get_or, refl, sym, ap, ◌∙◌, subst, inl, inr, arith}
use Rattle.std.specs.Prelude.{◌&&◌, filter}
use Rattle.std.specs.List.{All}
use Rattle.std.proofs.Math.ListN.{set}
use Rattle.std.proofs.lemmas.Bool.{and_parts, eqb-true, eq-eqb, ne_eqb, cases_eq}
use Rattle.std.proofs.lemmas.List.{get_or-set_same, get_or-set_other, get_or-append_right, length-set, length-append}
use Rattle.std.proofs.lemmas.List.Elements.{All-nil, All-cons, All-head, All-tail, All-filter, filter_passes}
use Rattle.flog.specs.declared.half.Half.{Half}
use Rattle.map_table.specs.declared.kinds.MapEntry.{MapEntry}
use Rattle.map_table.specs.Entry.{entry_of, normal_of}
use Rattle.map_table.specs.Blocks.{blocks_from, blocks_of, count_of, NamesEachOnce}
use Rattle.map_table.proofs.Entries.{normal_back}
use Rattle.map_table.proofs.Counting.{count_of-cons, count_of-append}
use Rattle.arena_open.specs.Reading.{is_pending, moved}

-- ---- lists of distinct numbers

abbrev pub Apart : List ℕ → Type 0
Apart [] = Unit {0}
Apart (x ∷ xs) = All (λ y. y ≢ x) xs × Apart xs

count_one : (x : ℕ) (xs : List ℕ) → count_of x (x ∷ xs) ≡ 1 + count_of x xs
count_one x xs = count_of-cons x x xs ∙ ap (λ (b : Bool). cond b 1 0 + count_of x xs) (eq-eqb x x refl)

count_some : (xs : List ℕ) (k d : ℕ) → k < length xs → 1 ≤ count_of (get_or xs k d) xs
count_some [] k d lt = absurd (omega arith)
count_some (x ∷ xs) zero d lt = omega (arith, count_one x xs)
count_some (x ∷ xs) (suc k) d lt = omega (arith, count_of-cons (get_or xs k d) x xs, count_some xs k d (omega arith))

count_two : (x : ℕ) (xs : List ℕ) (k d : ℕ) → k < length xs → get_or xs k d ≡ x → 2 ≤ count_of x (x ∷ xs)
count_two x xs k d lt e =
    let more : 1 ≤ count_of x xs = subst (λ (y : ℕ). 1 ≤ count_of y xs) e (count_some xs k d lt) in
    omega (arith, count_one x xs, more)

below_cons : (n x : ℕ) (xs : List ℕ) → All (λ b. b < n) (x ∷ xs) → (x < n) × All (λ b. b < n) xs
below_cons n x xs all = (All-head (λ b. b < n) x xs all, All-tail (λ b. b < n) x xs all)

pub apart_once : (n : ℕ) (xs : List ℕ) → All (λ b. b < n) xs → ((b : ℕ) → b < n → count_of b xs ≤ 1) → Apart xs
apart_once n [] below low = tt
apart_once n (x ∷ xs) below low =
    let p = below_cons n x xs below in (
      λ k d lt e. omega (arith, count_two x xs k d lt e, low x p.0),
      apart_once n xs p.1 (λ b lt. omega (arith, low b lt, count_of-cons b x xs)),
    )

-- ---- the map's blocks and the free ones

behind : (xs ys : List ℕ) (i d : ℕ) → get_or (xs ++ ys) (length xs + i) d ≡ get_or ys i d
behind xs ys i d = get_or-append_right xs ys (length xs) (length xs + i) d refl (omega arith) ∙ ap (λ (j : ℕ). get_or ys j d) (omega arith)

pub block_index : (sector : ℕ) (entries : List ℕ) (k : ℕ) → k < length entries → get_or (blocks_from sector entries) k 0 ≡ (entry_of (get_or entries k 0) (sector + k)).block
block_index sector [] k lt = absurd (omega arith)
block_index sector (e ∷ entries) zero lt = ap (λ (s : ℕ). (entry_of e s).block) (omega arith)
block_index sector (e ∷ entries) (suc k) lt =
    block_index (sector + 1) entries k (omega arith) ∙ ap (λ (s : ℕ). (entry_of (get_or entries k 0) s).block) (let p : sector + 1 + k ≡ sector + suc k = omega arith in p)

pub length_blocks : (sector : ℕ) (entries : List ℕ) → length (blocks_from sector entries) ≡ length entries
length_blocks sector [] = refl
length_blocks sector (e ∷ entries) = ap suc (length_blocks (sector + 1) entries)

-- a sector's block isn't a free one
pub not_free : (n : ℕ) (entries free : List ℕ) (sector k d : ℕ) → NamesEachOnce n (blocks_of entries free) → sector < length entries → k < length free
    → (entry_of (get_or entries sector 0) sector).block ≢ get_or free k d
not_free n entries free sector k d once lt lt' same =
    let b : ℕ = (entry_of (get_or entries sector 0) sector).block in
    let at : get_or (blocks_from 0 entries) sector 0 ≡ (entry_of (get_or entries sector 0) sector).block =
    block_index 0 entries sector lt ∙ ap (λ (s : ℕ). (entry_of (get_or entries sector 0) s).block) (let p : 0 + sector ≡ sector = omega arith in p) in
    let one : 1 ≤ count_of (get_or (blocks_from 0 entries) sector 0) (blocks_from 0 entries) = count_some (blocks_from 0 entries) sector 0 (omega (arith, length_blocks 0 entries)) in
    let one' : 1 ≤ count_of (get_or free k d) (blocks_from 0 entries) = subst (λ (x : ℕ). 1 ≤ count_of x (blocks_from 0 entries)) (at ∙ same) one in
    let two : 1 ≤ count_of (get_or free k d) free = count_some free k d lt' in
    let at' : length (blocks_from 0 entries) + k < length (blocks_of entries free) = omega (arith, length-append (blocks_from 0 entries) free) in
    let below : get_or free k d < n = subst (λ (x : ℕ). x < n) (behind (blocks_from 0 entries) free k d) (once.below (length (blocks_from 0 entries) + k) d at') in
    omega (arith, once.once (get_or free k d) below, count_of-append (get_or free k d) (blocks_from 0 entries) free, one', two)

-- the free blocks are distinct
pub free_apart : (n : ℕ) (entries free : List ℕ) → NamesEachOnce n (blocks_of entries free) → Apart free
free_apart n entries free once =
    apart_once n free (λ k d lt. subst (λ (x : ℕ). x < n) (behind (blocks_from 0 entries) free k d)
    (once.below (length (blocks_from 0 entries) + k) d (omega (arith, length-append (blocks_from 0 entries) free))))
    (λ b lt. omega (arith, once.once b lt, count_of-append b (blocks_from 0 entries) free))

-- ---- one move is completed

and_false : (b : Bool) → (b && false) ≡ false
and_false true = refl
and_false false = refl

filter_by : {X : Type 0} (p q : X → Bool) (xs : List X) → All (λ x. p x ≡ q x) xs → filter p xs ≡ filter q xs
filter_by p q [] same = refl
filter_by {X} p q (x ∷ xs) same =
    let here : p x ≡ q x = All-head (λ y. p y ≡ q y) x xs same in
    let rest : filter p xs ≡ filter q xs = filter_by p q xs (All-tail (λ y. p y ≡ q y) x xs same) in
    λ i. cond (here i) (x ∷ rest i) (rest i)

module _ (entries : List ℕ) (half : Half) (inside : half.lba < length entries) (small : half.new < 2 ^ 30) where
  abbrev pub made : List ℕ
  made = set entries half.lba (normal_of half.new)

  made_block : (entry_of (get_or made half.lba 0) half.lba).block ≡ half.new
  made_block =
      ap (λ (e : ℕ). (entry_of e half.lba).block) (get_or-set_same entries half.lba (normal_of half.new) 0 inside)
      ∙ ap (λ (e : MapEntry). e.block) (normal_back half.new half.lba small)

  -- a half for the move's sector isn't pending
  not_here : (other : Half) → other.lba ≡ half.lba → half.new ≢ other.old → is_pending made other ≡ false
  not_here other same apart =
      let b : (entry_of (get_or made other.lba 0) other.lba).block ≡ half.new = ap (λ (s : ℕ). (entry_of (get_or made s 0) s).block) same ∙ made_block in
      let e : eqb (entry_of (get_or made other.lba 0) other.lba).block other.old ≡ false =
      ap (λ (x : ℕ). eqb x other.old) b ∙ ne_eqb half.new other.old apart in
      ap (λ (x : Bool). not (eqb other.old other.new) && x) e ∙ and_false (not (eqb other.old other.new))

  -- a half for another sector is pending as before
  as_before : (other : Half) → other.lba ≢ half.lba → is_pending made other ≡ is_pending entries other
  as_before other apart =
      ap (λ (e : ℕ). not (eqb other.old other.new) && eqb (entry_of e other.lba).block other.old) (get_or-set_other entries half.lba other.lba (normal_of half.new) 0 apart)

  stays_out : (other : Half) → is_pending entries other ≡ false → half.new ≢ other.old → is_pending made other ≡ false
  stays_out other was apart = elim (cases_eq other.lba half.lba) [
    | inl same ↦ not_here other same apart
    | inr other' ↦ as_before other other' ∙ was
  ]

  module _ (pending : is_pending entries half ≡ true) where
    old_there : (entry_of (get_or entries half.lba 0) half.lba).block ≡ half.old
    old_there =
        let p = and_parts (not (eqb half.old half.new)) (eqb (entry_of (get_or entries half.lba 0) half.lba).block half.old) pending in
        eqb-true (entry_of (get_or entries half.lba 0) half.lba).block half.old p.1

    -- no other lane's half is pending for the move's sector
    other_sector : (other : Half) → other.old ≢ half.old → is_pending entries other ≡ true → other.lba ≢ half.lba
    other_sector other apart was same =
        let p = and_parts (not (eqb other.old other.new)) (eqb (entry_of (get_or entries other.lba 0) other.lba).block other.old) was in
        let e : (entry_of (get_or entries other.lba 0) other.lba).block ≡ other.old = eqb-true (entry_of (get_or entries other.lba 0) other.lba).block other.old p.1 in
        apart (sym e ∙ ap (λ (s : ℕ). (entry_of (get_or entries s 0) s).block) same ∙ old_there)

    not_before : (other : Half) → other.old ≢ half.old → other.lba ≡ half.lba → is_pending entries other ≡ false
    not_before other apart same = by_test (is_pending entries other) refl
      where
        by_test : (b : Bool) → is_pending entries other ≡ b → is_pending entries other ≡ false
        by_test true e = absurd (other_sector other apart e same)
        by_test false e = e

    stays : (other : Half) → other.old ≢ half.old → half.new ≢ other.old → is_pending made other ≡ is_pending entries other
    stays other apart apart' = elim (cases_eq other.lba half.lba) [
      | inl same ↦ not_here other same apart' ∙ sym (not_before other apart same)
      | inr other' ↦ as_before other other'
    ]

-- ---- the first of the pending moves is completed

abbrev pub olds : List Half → List ℕ
olds halves = map (λ half. half.old) halves

olds_apart : (half : Half) (halves : List Half) → All (λ y. y ≢ half.old) (olds halves) → All (λ other. other.old ≢ half.old) halves
olds_apart half [] all = All-nil (λ other. other.old ≢ half.old)
olds_apart half (h ∷ halves) all =
    All-cons (λ other. other.old ≢ half.old) h halves (All-head (λ y. y ≢ half.old) h.old (olds halves) all) (olds_apart half halves (All-tail (λ y. y ≢ half.old) h.old (olds halves) all))

abbrev after_move : List ℕ → Half → List Half → List Half
after_move entries half halves = filter (is_pending (set entries half.lba (normal_of half.new))) halves

first_by : (b : Bool) (entries : List ℕ) (h : Half) (halves : List Half) (half : Half) (rest : List Half) → half.lba < length entries → half.new < 2 ^ 30
    → is_pending entries h ≡ b → filter (is_pending entries) (h ∷ halves) ≡ half ∷ rest → Apart (olds (h ∷ halves)) → All (λ other. half.new ≢ other.old) (h ∷ halves)
    → (filter (is_pending entries) halves ≡ half ∷ rest → after_move entries half halves ≡ rest) → after_move entries half (h ∷ halves) ≡ rest
first_by false entries h halves half rest inside small e is apart new' others =
    let is' : filter (is_pending entries) halves ≡ half ∷ rest = rw e at is in
    rw (stays_out entries half inside small h e (All-head (λ other. half.new ≢ other.old) h halves new')) (others is')
first_by true entries h halves half rest inside small e is apart new' others =
    let is' : h ∷ filter (is_pending entries) halves ≡ half ∷ rest = rw e at is in
    let same : h ≡ half = cc in
    let left : filter (is_pending entries) halves ≡ rest = cc in
    let pending : is_pending entries half ≡ true = ap (is_pending entries) (sym same) ∙ e in
    let apart' : All (λ other. other.old ≢ half.old) halves = subst (λ (x : Half). All (λ other. other.old ≢ x.old) halves) same (olds_apart h halves apart.0) in
    rw (not_here entries half inside small h (ap (λ (x : Half). x.lba) same) (All-head (λ other. half.new ≢ other.old) h halves new'))
    (filter_by (is_pending (set entries half.lba (normal_of half.new))) (is_pending entries) halves
    (λ k d lt. stays entries half inside small pending (get_or halves k d) (apart' k d lt) (All-tail (λ other. half.new ≢ other.old) h halves new' k d lt)) ∙ left)

pub first_made : (entries : List ℕ) (halves : List Half) (half : Half) (rest : List Half) → half.lba < length entries → half.new < 2 ^ 30
    → filter (is_pending entries) halves ≡ half ∷ rest → Apart (olds halves) → All (λ other. half.new ≢ other.old) halves
    → filter (is_pending (set entries half.lba (normal_of half.new))) halves ≡ rest
first_made entries [] half rest inside small is apart new' = absurd (let e = is in cc)
first_made entries (h ∷ halves) half rest inside small is apart new' =
    first_by (is_pending entries h) entries h halves half rest inside small refl is apart new'
    (λ is'. first_made entries halves half rest inside small is' apart.1 (All-tail (λ other. half.new ≢ other.old) h halves new'))

-- ---- and the others are for other sectors

rest_by : (b : Bool) (entries : List ℕ) (h : Half) (halves : List Half) (half : Half) (rest : List Half) → half.lba < length entries → half.new < 2 ^ 30
    → is_pending entries h ≡ b → filter (is_pending entries) (h ∷ halves) ≡ half ∷ rest → Apart (olds (h ∷ halves))
    → (filter (is_pending entries) halves ≡ half ∷ rest → All (λ other. other.lba ≢ half.lba) rest) → All (λ other. other.lba ≢ half.lba) rest
rest_by false entries h halves half rest inside small e is apart others = others (rw e at is)
rest_by true entries h halves half rest inside small e is apart others =
    let is' : h ∷ filter (is_pending entries) halves ≡ half ∷ rest = rw e at is in
    let same : h ≡ half = cc in
    let left : filter (is_pending entries) halves ≡ rest = cc in
    let pending : is_pending entries half ≡ true = ap (is_pending entries) (sym same) ∙ e in
    let apart' : All (λ other. other.old ≢ half.old) halves = subst (λ (x : Half). All (λ other. other.old ≢ x.old) halves) same (olds_apart h halves apart.0) in
    subst (λ (hs : List Half). All (λ other. other.lba ≢ half.lba) hs) left
    (λ k d lt. other_sector entries half inside small pending (get_or (filter (is_pending entries) halves) k d)
    (All-filter (is_pending entries) (λ other. other.old ≢ half.old) halves apart' k d lt) (filter_passes (is_pending entries) halves k d lt))

pub rest_elsewhere : (entries : List ℕ) (halves : List Half) (half : Half) (rest : List Half) → half.lba < length entries → half.new < 2 ^ 30
    → filter (is_pending entries) halves ≡ half ∷ rest → Apart (olds halves) → All (λ other. other.lba ≢ half.lba) rest
rest_elsewhere entries [] half rest inside small is apart = absurd (let e = is in cc)
rest_elsewhere entries (h ∷ halves) half rest inside small is apart =
    rest_by (is_pending entries h) entries h halves half rest inside small refl is apart (λ is'. rest_elsewhere entries halves half rest inside small is' apart.1)

pub moved_keeps : (entries : List ℕ) (moves : List Half) (sector : ℕ) → All (λ other. other.lba ≢ sector) moves → get_or (moved entries moves) sector 0 ≡ get_or entries sector 0
moved_keeps entries [] sector apart = refl
moved_keeps entries (h ∷ moves) sector apart =
    moved_keeps (set entries h.lba (normal_of h.new)) moves sector (All-tail (λ other. other.lba ≢ sector) h moves apart)
    ∙ get_or-set_other entries h.lba sector (normal_of h.new) 0 (λ e. All-head (λ other. other.lba ≢ sector) h moves apart (sym e))

pub length_moved : (entries : List ℕ) (moves : List Half) → length (moved entries moves) ≡ length entries
length_moved entries [] = refl
length_moved entries (h ∷ moves) = length_moved (set entries h.lba (normal_of h.new)) moves ∙ length-set entries h.lba (normal_of h.new)
