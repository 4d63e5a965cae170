-- The first bad sector by the map entries is the first one by the cells.
use Rattle.std.proofs.Common.{◌≡◌, ℕ, zero, suc, ◌+◌, ◌-◌, ◌*◌, ◌/◌, ◌<◌, ◌≤◌, Bool, false, cond, List, [], ◌∷◌, ◌++◌, length, map, get_or, take, drop, Option, Some, None, Ok, refl, sym, ap, ◌∙◌, subst, inl, inr, arith}
use Rattle.std.specs.Prelude.{find, sum_by}
use Rattle.std.specs.List.{flat_map, range_with_len}
use Rattle.std.proofs.lemmas.Bool.{cases_Bool}
use Rattle.std.proofs.lemmas.List.Sums.{sum_by-cons}
use Rattle.std.proofs.lemmas.List.FromFn.{get_or-map-range_with_len, length-map-range_with_len}
use Rattle.arena_layout.specs.declared.layout.Layout.{Layout}
use Rattle.map_table.specs.declared.kinds.Kind.{Kind}
use Rattle.map_table.specs.declared.kinds.Kind.TheVariants as kind
use Rattle.map_table.specs.Entry.{entry_of}
use Rattle.arena_open.specs.declared.cell.Cell.{Cell}
use Rattle.arena_open.specs.declared.cell.Cell.TheVariants as cell
use Rattle.arena_open.specs.declared.opened.Opened.{Opened}
use Rattle.arena_open.specs.Chain.{Link, state_at}
use Rattle.arena_open.specs.ChainCells.{cells_of, contents_of, sectors_of}
use Rattle.arena_open.specs.Moves.{recovered, state_of, with_all_made}
use Rattle.arena_open.specs.Reading.{cell_at, cell_by, entry_at, map_in, opening}
use Rattle.arena_open.proofs.Again.{opens_all}
use Rattle.arena_open.proofs.ChainSectors.{length_parts}
use Rattle.arena_open.proofs.Apart.{ordered}
use Rattle.arena_open.proofs.OnceMore.{length_moved}
use Rattle.arena_open.proofs.Opening.{Parts, Sound, length_map, parts, sound, sound_parts}
use Rattle.arena_open.proofs.Own.{Lies, lies}
use Rattle.arena_open.proofs.States.{own_map}
use Rattle.namespace_bytes.specs.Bad.{bad_from, bad_in, first_bad, is_bad, or_behind, says_bad}
use Rattle.namespace_bytes.specs.Putting.{AreAll, Linked}

-- ---- the first of a list, counted from a number on

abbrev first_from : {X : Type 0} → (X → Bool) → ℕ → List X → Option ℕ
first_from p a [] = None
first_from p a (x ∷ xs) = cond (p x) (Some a) (first_from p (a + 1) xs)

-- a search in numbers finds it, too
find_is : {X : Type 0} (p : X → Bool) (d : X) (xs : List X) (a : ℕ) (g : ℕ → Bool) → ((i : ℕ) → i < length xs → g (a + i) ≡ p (get_or xs i d)) → find g (range_with_len a (length xs)) ≡ first_from p a xs
find_is p d [] a g same = refl
find_is p d (x ∷ xs) a g same =
    let here : g a ≡ p x = ap g (let e : a ≡ a + 0 = omega arith in e) ∙ same 0 (omega arith) in
    let rest : find g (range_with_len (a + 1) (length xs)) ≡ first_from p (a + 1) xs =
    find_is p d xs (a + 1) g (λ i lt. ap g (let e : a + 1 + i ≡ a + suc i = omega arith in e) ∙ same (suc i) (omega (arith, lt))) in
    λ i. cond (here i) (Some a) (rest i)

abbrev or_first : Option ℕ → Option ℕ → Option ℕ
or_first None other = other
or_first (Some k) other = Some k

-- in one list behind another
first_behind : {X : Type 0} (p : X → Bool) (xs ys : List X) (a : ℕ) → first_from p a (xs ++ ys) ≡ or_first (first_from p a xs) (first_from p (a + length xs) ys)
first_behind p [] ys a = ap (λ (k : ℕ). first_from p k ys) (let e : a ≡ a + 0 = omega arith in e)
first_behind p (x ∷ xs) ys a = elim (cases_Bool (p x)) [
  | inl hit ↦ rw hit refl
  | inr miss ↦ rw miss (first_behind p xs ys (a + 1) ∙ ap (λ (k : ℕ). or_first (first_from p (a + 1) xs) (first_from p k ys)) (let e : a + 1 + length xs ≡ a + suc (length xs) = omega arith in e))
]

-- in a list by numbers
first_mapped : {X : Type 0} (p : X → Bool) (f : ℕ → X) (q : ℕ → Bool) (before k n : ℕ) → ((own : ℕ) → own < k + n → q own ≡ p (f own))
    → first_from p (before + k) (map f (range_with_len k n)) ≡ or_behind before (find q (range_with_len k n)) None
first_mapped p f q before k zero same = refl
first_mapped p f q before k (suc n) same =
    let rest : first_from p (before + (k + 1)) (map f (range_with_len (k + 1) n)) ≡ or_behind before (find q (range_with_len (k + 1) n)) None =
    first_mapped p f q before (k + 1) n (λ own lt. same own (omega (arith, lt))) in
    let here : q k ≡ p (f k) = same k (omega arith) in
    elim (cases_Bool (p (f k))) [
      | inl hit ↦ rw (hit, here ∙ hit) refl
      | inr miss ↦ rw (miss, here ∙ miss) (ap (λ (m : ℕ). first_from p m (map f (range_with_len (k + 1) n))) (let e : before + k + 1 ≡ before + (k + 1) = omega arith in e) ∙ rest)
    ]

split : (before : ℕ) (x other : Option ℕ) → or_first (or_behind before x None) other ≡ or_behind before x other
split before None other = refl
split before (Some k) other = refl

-- the search goes on behind a number that fails
pub found_later : (test : ℕ → Bool) (k n : ℕ) → k < n → test k ≡ false → find test (range_with_len k (n - k)) ≡ find test (range_with_len (k + 1) (n - (k + 1)))
found_later test k n lt fails =
    ap (λ (m : ℕ). find test (range_with_len k m)) (let e : n - k ≡ suc (n - (k + 1)) = omega (arith, lt) in e) ∙ rw fails refl

-- ---- one arena

bad_cell : (l : Layout) (words : List ℕ) (k : Kind) (block : ℕ) → is_bad (cell_by l words k block) ≡ says_bad k
bad_cell l words kind.Zero block = refl
bad_cell l words kind.Bad block = refl
bad_cell l words kind.Initial block = refl
bad_cell l words kind.Normal block = refl

same_at : (words parent : List ℕ) (o : Opened) → opening words parent ≡ Ok o → (own : ℕ) → own < o.info.layout.external
    → says_bad (entry_of (get_or o.entries own 0) own).kind ≡ is_bad (cell_at o.info.layout (state_of words o).words own)
same_at words parent o opens own lt =
    let s : Sound words parent o = sound_parts words parent o (parts words parent o opens) in
    let p : Parts (recovered words o) parent (with_all_made o) = parts (recovered words o) parent (with_all_made o) (opens_all words parent o opens) in
    let map_is : map_in o.info.layout (take (o.info.layout.size / 8) (recovered words o)) ≡ o.entries =
    own_map o.info.layout (recovered words o) s.arena.sound.layout ∙ sym p.entries_is in
    let entry_is : entry_at o.info.layout (take (o.info.layout.size / 8) (recovered words o)) own ≡ get_or o.entries own 0 =
    sym (get_or-map-range_with_len (entry_at o.info.layout (take (o.info.layout.size / 8) (recovered words o))) 0 o.info.layout.external own own 0 lt (omega arith))
    ∙ ap (λ (es : List ℕ). get_or es own 0) map_is in
    sym (ap (λ (e : ℕ). is_bad (cell_by o.info.layout (take (o.info.layout.size / 8) (recovered words o)) (entry_of e own).kind (entry_of e own).block)) entry_is
    ∙ bad_cell o.info.layout (take (o.info.layout.size / 8) (recovered words o)) (entry_of (get_or o.entries own 0) own).kind (entry_of (get_or o.entries own 0) own).block)

link_bad : (words parent : List ℕ) (link : Link) (before : ℕ) → opening (drop link.at words) parent ≡ Ok link.opened
    → first_from is_bad before (cells_of (state_at words link)) ≡ or_behind before (bad_in link.opened) None
link_bad words parent link before opens =
    ap (λ (k : ℕ). first_from is_bad k (cells_of (state_at words link))) (let e : before ≡ before + 0 = omega arith in e)
    ∙ first_mapped is_bad (cell_at link.opened.info.layout (state_at words link).words) (λ own. says_bad (entry_of (get_or link.opened.entries own 0) own).kind) before 0 link.opened.info.layout.external
    (λ own lt. same_at (drop link.at words) parent link.opened opens own (omega (arith, lt)))

-- ---- all arenas

all_bad : (links : List Link) (words parent : List ℕ) (at before : ℕ) → Linked words parent at links → first_from is_bad before (flat_map cells_of (map (state_at words) links)) ≡ bad_from before links
all_bad [] words parent at before l = refl
all_bad (link ∷ links) words parent at before l =
    let opens : opening (drop link.at words) parent ≡ Ok link.opened = subst (λ (p : ℕ). opening (drop p words) parent ≡ Ok link.opened) (sym l.0) l.2 in
    let here : first_from is_bad before (cells_of (state_at words link)) ≡ or_behind before (bad_in link.opened) None = link_bad words parent link before opens in
    let long : length (cells_of (state_at words link)) ≡ link.opened.info.layout.external = length-map-range_with_len (cell_at link.opened.info.layout (state_at words link).words) 0 link.opened.info.layout.external in
    let rest : first_from is_bad (before + link.opened.info.layout.external) (flat_map cells_of (map (state_at words) links)) ≡ bad_from (before + link.opened.info.layout.external) links =
    elim l.3 [
      | inl last ↦ subst (λ (ls : List Link). first_from is_bad (before + link.opened.info.layout.external) (flat_map cells_of (map (state_at words) ls)) ≡ bad_from (before + link.opened.info.layout.external) ls) (sym last.1) refl
      | inr more ↦ all_bad links words parent (at + link.opened.info.next / 8) (before + link.opened.info.layout.external) more.1
    ] in
    first_behind is_bad (cells_of (state_at words link)) (flat_map cells_of (map (state_at words) links)) before
    ∙ (λ i. or_first (here i) (first_from is_bad (before + long i) (flat_map cells_of (map (state_at words) links))))
    ∙ ap (or_first (or_behind before (bad_in link.opened) None)) rest
    ∙ split before (bad_in link.opened) (bad_from (before + link.opened.info.layout.external) links)

pub first_bad_is : (links : List Link) (words uuid : List ℕ) → AreAll words uuid links → bad_from 0 links ≡ first_bad (map (state_at words) links)
unfolding contents_of
first_bad_is links words uuid all =
    let cells : List Cell = flat_map cells_of (map (state_at words) links) in
    let long : length (flat_map cells_of (map (state_at words) links)) ≡ sectors_of (map (state_at words) links) =
    length_parts cells_of (λ state. length-map-range_with_len (cell_at state.info.layout state.words) 0 state.info.layout.external) (map (state_at words) links) in
    sym (all_bad links words uuid 0 0 all.linked)
    ∙ sym (find_is is_bad cell.Bad (flat_map cells_of (map (state_at words) links)) 0 (λ s. is_bad (get_or (flat_map cells_of (map (state_at words) links)) s cell.Bad))
    (λ i lt. ap (λ (k : ℕ). is_bad (get_or (flat_map cells_of (map (state_at words) links)) k cell.Bad)) (let e : 0 + i ≡ i = omega arith in e)))
    ∙ ap (λ (n : ℕ). find (λ s. is_bad (get_or (flat_map cells_of (map (state_at words) links)) s cell.Bad)) (range_with_len 0 n)) long

-- ---- how many sectors there are

pub entries_are : (words parent : List ℕ) (o : Opened) → opening words parent ≡ Ok o → length o.entries ≡ o.info.layout.external
entries_are words parent o opens =
    let p : Parts words parent o = parts words parent o opens in
    ap length p.entries_is ∙ length_moved (map_in o.info.layout words) o.moves ∙ length_map o.info.layout words

abbrev pub link_sectors : Link → ℕ
link_sectors link = link.opened.info.layout.external

pub sectors_inside : (links : List Link) (words parent : List ℕ) (at : ℕ) → at ≤ length words → Linked words parent at links → 8 * at + sum_by link_sectors links ≤ 8 * length words
sectors_inside [] words parent at le l = omega (arith, le)
sectors_inside (link ∷ links) words parent at le l =
    let s : Sound (drop at words) parent link.opened = sound (drop at words) parent link.opened l.2 in
    let p : Lies (length words) at link.opened = lies words parent at link.opened l.1 l.2 in
    let own : link_sectors link ≤ 8 * (link.opened.info.layout.size / 8) = omega (arith, ordered link.opened.info.layout s.arena.sound.layout) in
    elim l.3 [
      | inl last ↦ omega (arith, own, p.inside, sum_by-cons link_sectors link links, ap (sum_by link_sectors) last.1)
      | inr more ↦
          let rest : 8 * (at + link.opened.info.next / 8) + sum_by link_sectors links ≤ 8 * length words =
          sectors_inside links words parent (at + link.opened.info.next / 8) (omega (arith, p.next_is more.0, p.next_inside more.0)) more.1 in
          omega (arith, own, rest, p.next_is more.0, sum_by-cons link_sectors link links)
    ]

-- the arena at a place of the list
pub opens_at : (links : List Link) (words parent : List ℕ) (at k : ℕ) (link : Link) → Linked words parent at links → k < length links → link ≡ get_or links k link → (from : List ℕ) × (opening from parent ≡ Ok link.opened)
opens_at [] words parent at k link l lt is = absurd (omega (arith, lt))
opens_at (first ∷ links) words parent at zero link l lt is = (drop at words, l.2 ∙ ap (λ (it : Link). Ok it.opened) (sym is))
opens_at (first ∷ links) words parent at (suc k) link l lt is = elim l.3 [
  | inl last ↦ absurd (omega (arith, lt, ap length last.1))
  | inr more ↦ opens_at links words parent (at + first.opened.info.next / 8) k link more.1 (omega (arith, lt)) is
]
