-- An arena whose report has no harmful finding opens.
use Rattle.std.proofs.Common.{◌≡◌, ℕ, zero, suc, ◌+◌, ◌-◌, ◌*◌, ◌<◌, ◌≤◌, Bool, true, false, cond, eqb, leb, ltb, List, [], ◌∷◌, ◌++◌, length, get_or, slice_set, map, Some, None, Result, Ok, Err, refl, sym, ap, ◌∙◌, inl, inr, arith, ◌&&◌}
use Rattle.std.specs.Prelude.{filter, find}
use Rattle.std.specs.List.{range_with_len, list_all, cons_option}
use Rattle.std.proofs.lemmas.Bool.{leb-true, leb-false, ltb-false, eqb-true, eqb-false, eq-eqb, cases_lt}
use Rattle.std.proofs.lemmas.List.Folds.{list_all-append}
use Rattle.arena_layout.specs.declared.layout.Layout.{Layout}
use Rattle.arena_layout.specs.declared.info.Info.{Info}
use Rattle.arena_layout.specs.declared.info.InfoFault.{InfoFault}
use Rattle.arena_layout.specs.Info.{info_reading}
use Rattle.flog.specs.declared.half.Half.{Half}
use Rattle.flog.specs.declared.group.Group.{Group}
use Rattle.flog.specs.declared.group.FlogFault.{FlogFault}
use Rattle.flog.specs.Group.{group_reading}
use Rattle.map_table.specs.Blocks.{blocks_of, count_of, block_check, first_outside, least_twice, NamesEachOnce}
use Rattle.map_table.proofs.Counting.{count_of-cons}
use Rattle.map_table.proofs.Checked.{fine_answer}
use Rattle.map_table.proofs.Once.{once_named, names_once}
use Rattle.arena_open.specs.declared.opened.Opened.{Opened}
use Rattle.arena_open.specs.declared.refused.OpenRefused.{OpenRefused}
use Rattle.arena_open.specs.Places.{group_words}
use Rattle.arena_open.specs.Reading.{info_bytes, map_in, groups_in, groups_of, with_group, moves_of, free_of, opening, on_blocks, opened_with}
use Rattle.arena_open.proofs.Opening.{opening_map}
use Rattle.arena_check.specs.declared.finding.Finding.{Finding}
use Rattle.arena_check.specs.declared.finding.Finding.TheVariants as found
use Rattle.arena_check.specs.declared.info.InfoSource.TheVariants as source
use Rattle.arena_check.specs.Check.{source_by, page_reading, bad_sectors, info_findings, group_finding, flog_findings_of, flog_findings, range_findings, twice_findings, missing_findings, block_findings, in_arena, recovered_map, or_data, group_findings, meta_findings, findings_with, report_by, report_of}
use Rattle.arena_check.specs.Laws.{is_harmless, NoFindingsNameEachOnce, CleanArenasOpen, NeverAlone, OneEntry}

-- ---- lists without items

front_nil : {X : Type 0} (xs ys : List X) → xs ++ ys ≡ [] → xs ≡ []
front_nil [] ys e = refl
front_nil (x ∷ xs) ys e = absurd (let f = e in cc)

back_nil : {X : Type 0} (xs ys : List X) → xs ++ ys ≡ [] → ys ≡ []
back_nil [] ys e = e
back_nil (x ∷ xs) ys e = absurd (let f = e in cc)

map_nil : {X Y : Type 0} (f : X → Y) (xs : List X) → map f xs ≡ [] → xs ≡ []
map_nil f [] e = refl
map_nil f (x ∷ xs) e = absurd (let g = e in cc)

-- a filter that lets nothing through
head_fails : (p : ℕ → Bool) (x : ℕ) (xs : List ℕ) (b : Bool) → p x ≡ b → cond b (x ∷ filter p xs) (filter p xs) ≡ [] → (p x ≡ false) × (filter p xs ≡ [])
head_fails p x xs true is e = absurd (let f = e in cc)
head_fails p x xs false is e = (is, e)

each_fails : (p : ℕ → Bool) (xs : List ℕ) → filter p xs ≡ [] → (k d : ℕ) → k < length xs → p (get_or xs k d) ≡ false
each_fails p [] e k d lt = absurd (omega (arith, lt))
each_fails p (x ∷ xs) e zero d lt = (head_fails p x xs (p x) refl e).0
each_fails p (x ∷ xs) e (suc k) d lt = each_fails p xs (head_fails p x xs (p x) refl e).1 k d (omega (arith, lt))

numbers_fail : (p : ℕ → Bool) (a n : ℕ) → filter p (range_with_len a n) ≡ [] → (b : ℕ) → a ≤ b → b < a + n → p b ≡ false
numbers_fail p a zero e b low high = absurd (omega (arith, low, high))
numbers_fail p a (suc n) e b low high =
    let both = head_fails p a (range_with_len (a + 1) n) (p a) refl e in
    elim (leb (a + 1) b) as (λ t. leb (a + 1) b ≡ t → p b ≡ false) [
      | true ↦ λ is. numbers_fail p (a + 1) n both.1 b (leb-true (a + 1) b is) (omega (arith, high))
      | false ↦ λ is. ap p (let same : b ≡ a = omega (arith, low, leb-false (a + 1) b is) in same) ∙ both.0
    ] refl

one_of : (n : ℕ) → n ≤ 1 → (n ≡ 0 → ⊥) → n ≡ 1
one_of n few some = elim (cases_lt 0 n) [
  | inl lt ↦ omega (arith, few, lt)
  | inr ge ↦ absurd (some (omega (arith, ge)))
]

-- ---- blocks without a finding

pub none_found : NoFindingsNameEachOnce
none_found internal blocks e =
    let far : filter (leb internal) blocks ≡ [] = map_nil found.Range (filter (leb internal) blocks) (front_nil (range_findings internal blocks) (twice_findings internal blocks ++ missing_findings internal blocks) e) in
    let rest : twice_findings internal blocks ++ missing_findings internal blocks ≡ [] = back_nil (range_findings internal blocks) (twice_findings internal blocks ++ missing_findings internal blocks) e in
    let twice : filter (λ b. ltb 1 (count_of b blocks)) (range_with_len 0 internal) ≡ [] =
    map_nil found.Twice (filter (λ b. ltb 1 (count_of b blocks)) (range_with_len 0 internal)) (front_nil (twice_findings internal blocks) (missing_findings internal blocks) rest) in
    let none : filter (λ b. eqb (count_of b blocks) 0) (range_with_len 0 internal) ≡ [] =
    map_nil found.Missing (filter (λ b. eqb (count_of b blocks) 0) (range_with_len 0 internal)) (back_nil (twice_findings internal blocks) (missing_findings internal blocks) rest) in
    record {
      below = λ k d lt. leb-false internal (get_or blocks k d) (each_fails (leb internal) blocks far k d lt);
      once = λ b lt.
          let few : count_of b blocks ≤ 1 = ltb-false 1 (count_of b blocks) (numbers_fail (λ k. ltb 1 (count_of k blocks)) 0 internal twice b (omega arith) (omega (arith, lt))) in
          let some = eqb-false (count_of b blocks) 0 (numbers_fail (λ k. eqb (count_of k blocks) 0) 0 internal none b (omega arith) (omega (arith, lt))) in
          one_of (count_of b blocks) few some;
    }

-- ---- the pigeonhole

find_nothing : (p : ℕ → Bool) (xs : List ℕ) → filter p xs ≡ [] → find p xs ≡ None
find_nothing p [] e = refl
find_nothing p (x ∷ xs) e =
    let both = head_fails p x xs (p x) refl e in
    (λ i. cond (both.0 i) (Some x) (find p xs)) ∙ find_nothing p xs both.1

pub nothing_from : (p : ℕ → Bool) (a n : ℕ) → ((b : ℕ) → a ≤ b → b < a + n → p b ≡ false) → filter p (range_with_len a n) ≡ []
nothing_from p a zero none = refl
nothing_from p a (suc n) none =
    let here : p a ≡ false = none a (omega arith) (omega arith) in
    (λ i. cond (here i) (a ∷ filter p (range_with_len (a + 1) n)) (filter p (range_with_len (a + 1) n)))
    ∙ nothing_from p (a + 1) n (λ b low high. none b (omega (arith, low)) (omega (arith, high)))

pub never_alone : NeverAlone
unfolding first_outside least_twice
never_alone n blocks len far twice =
    let f : first_outside n blocks ≡ None = find_nothing (leb n) blocks (map_nil found.Range (filter (leb n) blocks) far) in
    let t : least_twice n blocks ≡ None =
    find_nothing (λ b. ltb 1 (count_of b blocks)) (range_with_len 0 n) (map_nil found.Twice (filter (λ b. ltb 1 (count_of b blocks)) (range_with_len 0 n)) twice) in
    let named : NamesEachOnce n blocks = names_once n blocks (sym (fine_answer n blocks f t (omega (arith, len)))) in
    let none : filter (λ b. eqb (count_of b blocks) 0) (range_with_len 0 n) ≡ [] =
    nothing_from (λ b. eqb (count_of b blocks) 0) 0 n (λ b low high. ap (λ (c : ℕ). eqb c 0) (named.once b (omega (arith, high)))) in
    ap (λ (bs : List ℕ). map found.Missing bs) none

-- a name is changed
count_set : (x : ℕ) (xs : List ℕ) (k v : ℕ) → k < length xs
    → count_of x (slice_set xs k v) + cond (eqb (get_or xs k 0) x) 1 0 ≡ count_of x xs + cond (eqb v x) 1 0
count_set x [] k v lt = absurd (omega (arith, lt))
count_set x (y ∷ ys) zero v lt = omega (arith, count_of-cons x v ys, count_of-cons x y ys)
count_set x (y ∷ ys) (suc k) v lt =
    omega (arith, count_of-cons x y (slice_set ys k v), count_of-cons x y ys, count_set x ys k v (omega (arith, lt)))

two_names : (a b : Bool) (c d : ℕ) → c + cond a 1 0 ≡ d + cond b 1 0 → a ≡ false → b ≡ true → d ≡ 1 → c ≡ 2
two_names true b c d e ea eb ed = absurd (let f = ea in cc)
two_names false true c d e ea eb ed = omega (arith, e, ed)
two_names false false c d e ea eb ed = absurd (let f = eb in cc)

pub one_entry : OneEntry
one_entry n blocks k block names lt low once =
    elim (eqb (get_or blocks k 0) block) as (λ t. eqb (get_or blocks k 0) block ≡ t → block ≡ get_or blocks k 0) [
      | true ↦ λ is. sym (eqb-true (get_or blocks k 0) block is)
      | false ↦ λ is.
          let two : count_of block (slice_set blocks k block) ≡ 2 =
          two_names (eqb (get_or blocks k 0) block) (eqb block block) (count_of block (slice_set blocks k block)) (count_of block blocks)
          (count_set block blocks k block lt) is (eq-eqb block block refl) (names.once block low) in
          absurd (omega (arith, once, two))
    ] refl

-- ---- findings that are all harmless

both_true : (a b : Bool) → (a && b) ≡ true → (a ≡ true) × (b ≡ true)
both_true true b e = (refl, e)
both_true false b e = absurd (let f = e in cc)

parted : (xs ys : List Finding) → list_all is_harmless (xs ++ ys) ≡ true → (list_all is_harmless xs ≡ true) × (list_all is_harmless ys ≡ true)
parted xs ys e = both_true (list_all is_harmless xs) (list_all is_harmless ys) (sym (list_all-append is_harmless xs ys) ∙ e)

no_blocks : (xs ys zs : List ℕ) (tail : List Finding) → list_all is_harmless (or_data (map found.Range xs ++ (map found.Twice ys ++ map found.Missing zs)) tail) ≡ true
    → map found.Range xs ++ (map found.Twice ys ++ map found.Missing zs) ≡ []
no_blocks [] [] [] tail e = refl
no_blocks [] [] (z ∷ zs) tail e = absurd (let f = e in cc)
no_blocks [] (y ∷ ys) zs tail e = absurd (let f = e in cc)
no_blocks (x ∷ xs) ys zs tail e = absurd (let f = e in cc)

-- a refused group is a finding
lane_refused : (l : Layout) (words : List ℕ) (lane : ℕ) (lanes : List ℕ) (fault : FlogFault) → group_reading (group_words l words lane) l.external l.internal ≡ Err fault
    → list_all is_harmless (flog_findings_of l words (lane ∷ lanes)) ≡ false
lane_refused l words lane lanes fault is =
    ap (λ (r : Result Group FlogFault). list_all is_harmless (cons_option (group_finding lane r) (flog_findings_of l words lanes))) is

lane_taken : (l : Layout) (words : List ℕ) (lane : ℕ) (lanes : List ℕ) (group : Group) → group_reading (group_words l words lane) l.external l.internal ≡ Ok group
    → flog_findings_of l words (lane ∷ lanes) ≡ flog_findings_of l words lanes
lane_taken l words lane lanes group is =
    ap (λ (r : Result Group FlogFault). cons_option (group_finding lane r) (flog_findings_of l words lanes)) is

rest_refused : (lane : ℕ) (r : Result Group FlogFault) (group : Group) (rest : Result (List Group) OpenRefused) (fault : OpenRefused) → r ≡ Ok group
    → with_group lane r rest ≡ Err fault → rest ≡ Err fault
rest_refused lane (Err f) group rest fault is e = absurd (let g = is in cc)
rest_refused lane (Ok g) group (Err f) fault is e = e
rest_refused lane (Ok g) group (Ok groups) fault is e = absurd (let f = e in cc)

refused_found : (l : Layout) (words : List ℕ) (lanes : List ℕ) (fault : OpenRefused) → groups_of l words lanes ≡ Err fault
    → list_all is_harmless (flog_findings_of l words lanes) ≡ false
refused_found l words [] fault e = absurd (let f = e in cc)
refused_found l words (lane ∷ lanes) fault e =
    elim (group_reading (group_words l words lane) l.external l.internal) as (λ r. group_reading (group_words l words lane) l.external l.internal ≡ r → list_all is_harmless (flog_findings_of l words (lane ∷ lanes)) ≡ false) [
      | Err f ↦ λ is. lane_refused l words lane lanes f is
      | Ok group ↦ λ is. ap (list_all is_harmless) (lane_taken l words lane lanes group is)
          ∙ refused_found l words lanes fault
          (rest_refused lane (group_reading (group_words l words lane) l.external l.internal) group (groups_of l words lanes) fault is e)
    ] refl

not_both : (b : Bool) → b ≡ true → b ≡ false → ⊥
not_both b t f = let e : true ≡ false = sym t ∙ f in cc

-- ---- the arena opens

module _ (at : ℕ) (bad : ℕ → Bool) (words parent : List ℕ) where
  abbrev Opens : Type 0
  Opens = (opened : Opened) × (opening words parent ≡ Ok opened)

  -- by the lanes
  lanes_open : (info : Info) (r : Result (List Group) OpenRefused) → info_reading (info_bytes words) parent (8 * length words) ≡ Ok info → groups_in info.layout words ≡ r
      → list_all is_harmless (group_findings info.layout (in_arena at bad) words r) ≡ true → Opens
  lanes_open info (Err fault) first is e =
      absurd (not_both (list_all is_harmless (flog_findings info.layout words)) e (refused_found info.layout words (range_with_len 0 info.layout.lanes) fault is))
  lanes_open info (Ok groups) first is e =
      let entries : List ℕ = recovered_map (map_in info.layout words) groups in
      let blocks : List ℕ = blocks_of entries (free_of groups) in
      let n : ℕ = info.layout.internal in
      let none : block_findings n blocks ≡ [] =
      no_blocks (filter (leb n) blocks) (filter (λ b. ltb 1 (count_of b blocks)) (range_with_len 0 n)) (filter (λ b. eqb (count_of b blocks) 0) (range_with_len 0 n))
      (map found.BadData (bad_sectors info.layout (in_arena at bad) entries)) e in
      let named : block_check n blocks ≡ Ok tt = once_named n blocks (none_found n blocks none) in
      let moves : List Half = moves_of (map_in info.layout words) groups in
      (opened_with info groups entries moves, opening_map words parent info groups first is ∙ ap (on_blocks (opened_with info groups entries moves)) named)

  -- by the info block
  info_opens : (first last : Result Info InfoFault) (size : ℕ) → info_reading (info_bytes words) parent (8 * length words) ≡ first
      → (report_by at bad words parent (source_by (8 * length words) first last)).size ≡ Some size
      → list_all is_harmless (report_by at bad words parent (source_by (8 * length words) first last)).findings ≡ true → Opens
  info_opens (Ok info) last size is some e =
      let behind = (parted (info_findings words parent (source.First info)) (findings_with at bad words info.layout) e).1 in
      let lanes = (parted (group_findings info.layout (in_arena at bad) words (groups_in info.layout words)) (meta_findings at bad info.layout) behind).0 in
      lanes_open info (groups_in info.layout words) is refl lanes
  info_opens (Err fault) (Err other) size is some e = absurd (let f = some in cc)
  info_opens (Err fault) (Ok info) size is some e = by_size (eqb info.layout.size (8 * length words)) some e
    where
      by_size : (b : Bool) → (report_by at bad words parent (cond b (source.Last fault info) (source.Neither fault))).size ≡ Some size
          → list_all is_harmless (report_by at bad words parent (cond b (source.Last fault info) (source.Neither fault))).findings ≡ true → Opens
      by_size true some e = absurd (let f = e in cc)
      by_size false some e = absurd (let f = some in cc)

  opens : (size : ℕ) → (report_of at bad words parent).size ≡ Some size → list_all is_harmless (report_of at bad words parent).findings ≡ true → Opens
  unfolding report_of
  opens size some e = info_opens (info_reading (info_bytes words) parent (8 * length words)) (page_reading (length words - 512) words parent) size refl some e

pub clean_opens : CleanArenasOpen
clean_opens at bad words parent size some e = opens at bad words parent size some e
