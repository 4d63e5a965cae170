-- A formatted arena opens: each sector has the block of its number and reads as zeros.
use Rattle.std.proofs.Common.{◌≡◌, ◌≢◌, ℕ, zero, suc, ◌+◌, ◌-◌, ◌*◌, ◌/◌, ◌%◌, ◌^◌, ◌<◌, ◌≤◌, Bool, true, false, ltb, List, [], ◌∷◌, ◌++◌, length, take, drop, map, get_or, Ok, refl, sym, ap, ◌∙◌, inl, inr, arith}
use Rattle.std.specs.List.{range_with_len}
use Rattle.std.proofs.lemmas.Bool.{cases_eq, eq-eqb, ne_eqb, lt-leb, lt-ltb, ltb-true}
use Rattle.std.proofs.lemmas.List.{ext_get_or, length-take-le, length-drop, get_or-take, get_or-drop}
use Rattle.nvd_words.specs.Bytes.{AreBytes}
use Rattle.nvd_words.specs.Checks.{first_fault}
use Rattle.cut_words.specs.WordBytes.{bytes_of, words_in}
use Rattle.cut_words.proofs.Put.{bytes_of-words_in}
use Rattle.arena_layout.specs.declared.layout.Layout.{Layout}
use Rattle.arena_layout.specs.Layout.{IsLayout}
use Rattle.arena_layout.specs.Info.{info_reading, ReadsBack}
use Rattle.flog.specs.Group.{place_of, is_padded, are_ordered, out_of_range, current_side, group_reading}
use Rattle.map_table.specs.declared.kinds.MapEntry.{MapEntry}
use Rattle.map_table.specs.Entry.{entry_of, zero_of, entry_in}
use Rattle.map_table.specs.Blocks.{blocks_from, blocks_of, block_check}
use Rattle.map_table.proofs.Entries.{zero_back}
use Rattle.map_table.proofs.Once.{once_named}
use Rattle.arena_open.specs.Places.{log_word, value_at, group_words}
use Rattle.arena_open.specs.Areas.{new_entry, new_map_word, new_map, new_group_word, new_log, new_group, new_info}
use Rattle.arena_open.specs.Writes.{written_over, run_at}
use Rattle.arena_open.specs.Reading.{info_bytes, entry_at, map_in, groups_of, groups_in, moves_of, free_of, cell_with, opening}
use Rattle.arena_open.specs.Format.{map_count, log_count, area_writes, IsNewArena}
use Rattle.arena_open.proofs.Apart.{ordered}
use Rattle.arena_open.proofs.Written.{over-append, length_over}
use Rattle.arena_open.proofs.Bytes.{length_words}
use Rattle.arena_open.proofs.Counts.{length_map, length_log, map_index, log_index_in}
use Rattle.arena_open.proofs.Runs.{map_run, log_run, backup_run, counted, run_misses, over_misses, over_run}
use Rattle.arena_open.proofs.Ranges.{map_range, map_map, range-append, map_plus, range_once}

-- ---- the words of the areas

module _ (at : ℕ) (l : Layout) (block old : List ℕ) (ok : IsLayout l) (len : length block ≡ 512) (inside : at + l.size / 8 ≤ length old) where
  abbrev new : List ℕ
  new = written_over old (area_writes at l block)

  abbrev with_map : List ℕ
  with_map = written_over old (map_run at l)

  abbrev with_log : List ℕ
  with_log = written_over with_map (log_run at l)

  abbrev with_backup : List ℕ
  with_backup = written_over with_log (backup_run at l block)

  all_is : new ≡ written_over with_backup (run_at at block)
  all_is =
      over-append old (map_run at l) (log_run at l ++ (backup_run at l block ++ run_at at block))
      ∙ over-append with_map (log_run at l) (backup_run at l block ++ run_at at block)
      ∙ over-append with_log (backup_run at l block) (run_at at block)

  same_map : length with_map ≡ length old
  same_map = length_over old (map_run at l)

  same_log : length with_log ≡ length old
  same_log = length_over with_map (log_run at l) ∙ same_map

  same_backup : length with_backup ≡ length old
  same_backup = length_over with_log (backup_run at l block) ∙ same_log

  pub same_new : length new ≡ length old
  same_new = length_over old (area_writes at l block)

  abbrev words : List ℕ
  words = drop at new

  past_info : (i : ℕ) → at + 512 ≤ i → get_or new i 0 ≡ get_or with_backup i 0
  past_info i far = ap (λ (ws : List ℕ). get_or ws i 0) all_is ∙ over_misses with_backup (run_at at block) i (run_misses at block i (inr (omega arith)))

  before_backup : (i : ℕ) → at + 512 ≤ i → i < at + l.info_off / 8 → get_or new i 0 ≡ get_or with_log i 0
  before_backup i far low = past_info i far ∙ over_misses with_log (backup_run at l block) i (run_misses (at + l.info_off / 8) block i (inl low))

  pub map_holds : (w : ℕ) → w < map_count l → get_or words (l.map_off / 8 + w) 0 ≡ new_map_word l.external w
  map_holds w lt =
      get_or-drop at new (l.map_off / 8 + w) 0
      ∙ ap (λ (i : ℕ). get_or new i 0) (let e : at + (l.map_off / 8 + w) ≡ at + l.map_off / 8 + w = omega arith in e)
      ∙ before_backup (at + l.map_off / 8 + w) (omega (arith, ordered l ok)) (omega (arith, counted l ok))
      ∙ over_misses with_map (log_run at l) (at + l.map_off / 8 + w)
      (run_misses (at + l.flog_off / 8) (new_log l.external l.lanes (log_count l)) (at + l.map_off / 8 + w) (inl (omega (arith, counted l ok))))
      ∙ over_run old (at + l.map_off / 8) (new_map l.external (map_count l)) w (omega (arith, length_map l.external (map_count l), counted l ok, ordered l ok))
      (omega (arith, length_map l.external (map_count l)))
      ∙ map_index l.external (map_count l) w lt

  log_holds : (j : ℕ) → j < 8 * l.lanes → get_or words (l.flog_off / 8 + j) 0 ≡ new_group_word l.external (j / 8) (j % 8)
  log_holds j lt =
      get_or-drop at new (l.flog_off / 8 + j) 0
      ∙ ap (λ (i : ℕ). get_or new i 0) (let e : at + (l.flog_off / 8 + j) ≡ at + l.flog_off / 8 + j = omega arith in e)
      ∙ before_backup (at + l.flog_off / 8 + j) (omega (arith, ordered l ok)) (omega (arith, counted l ok))
      ∙ over_run with_map (at + l.flog_off / 8) (new_log l.external l.lanes (log_count l)) j
      (omega (arith, same_map, length_log l.external l.lanes (log_count l), counted l ok, ordered l ok))
      (omega (arith, length_log l.external l.lanes (log_count l), counted l ok))
      ∙ log_index_in l.external l.lanes (log_count l) j (omega (arith, counted l ok)) (omega arith)

  pub info_holds : take 512 words ≡ block
  info_holds =
      let n : length (drop at new) ≡ length old - at = length-drop at new ∙ ap (λ (k : ℕ). k - at) same_new in
      let m : length (take 512 (drop at new)) ≡ 512 = length-take-le 512 (drop at new) (omega (arith, n, ordered l ok)) in
      ext_get_or 0 (take 512 (drop at new)) block (m ∙ sym len) (λ i lt.
      get_or-take 512 (drop at new) i 0 (omega (arith, m)) ∙ get_or-drop at new i 0 ∙ ap (λ (ws : List ℕ). get_or ws (at + i) 0) all_is
      ∙ over_run with_backup at block i (omega (arith, same_backup, ordered l ok)) (omega (arith, m)))

  -- ---- the groups

  pub group_is : (lane : ℕ) → lane < l.lanes → group_words l words lane ≡ map (new_group_word l.external lane) (range_with_len 0 8)
  group_is lane lt = map_range (λ k. value_at l words (log_word lane k)) (new_group_word l.external lane) 0 8 (λ k low high.
      log_holds (8 * lane + k) (omega arith)
      ∙ ap (λ (j : ℕ). new_group_word l.external j ((8 * lane + k) % 8)) (let e : (8 * lane + k) / 8 ≡ lane = omega arith in e)
      ∙ ap (new_group_word l.external lane) (let e : (8 * lane + k) % 8 ≡ k = omega arith in e))

-- the words of a half that makes no move, and zeros, are read as it
group_by : (a b lane block external internal : ℕ) → b / 2 ^ 32 ≡ 1 → a % 2 ^ 32 ≡ lane → a / 2 ^ 32 % 2 ^ 30 ≡ block → b % 2 ^ 30 ≡ block → block < internal
    → group_reading (a ∷ b ∷ 0 ∷ 0 ∷ 0 ∷ 0 ∷ 0 ∷ 0 ∷ []) external internal ≡ Ok (record { side = 0; half = record { lba = lane; old = block; new = block; seq = 1 } })
unfolding place_of is_padded are_ordered out_of_range current_side first_fault
group_by a b lane block external internal seq lba old new' inside = rw (seq, lba, old, new', lt-leb internal block inside, eq-eqb block block refl) refl

-- the words of a new lane's group are read as its half
pub group_reads : (external internal lane : ℕ) → lane < 256 → external + lane < internal → internal ≤ 2 ^ 30
    → group_reading (map (new_group_word external lane) (range_with_len 0 8)) external internal ≡ Ok (new_group external lane)
group_reads external internal lane low inside few =
    group_by (lane + 2 ^ 32 * (external + lane)) (external + lane + 2 ^ 32 * 1) lane (external + lane) external internal
    (omega arith) (omega arith) (omega arith) (omega arith) inside

groups_new : (l : Layout) (words : List ℕ) (a n : ℕ) → IsLayout l
    → ((lane : ℕ) → lane < l.lanes → group_words l words lane ≡ map (new_group_word l.external lane) (range_with_len 0 8)) → a + n ≤ l.lanes
    → groups_of l words (range_with_len a n) ≡ Ok (map (new_group l.external) (range_with_len a n))
groups_new l words a zero ok is fits = refl
groups_new l words a (suc n) ok is fits =
    let here : group_reading (group_words l words a) l.external l.internal ≡ Ok (new_group l.external a) =
    ap (λ (ws : List ℕ). group_reading ws l.external l.internal) (is a (omega arith))
    ∙ group_reads l.external l.internal a (omega (arith, ok.lanes_few)) (omega (arith, ok.internal_is)) ok.internal_few in
    rw (here, groups_new l words (a + 1) n ok is (omega arith)) refl

-- ---- the map

entry_small : (external sector : ℕ) → external ≤ 2 ^ 30 → new_entry external sector < 2 ^ 32
entry_small external sector few = by_test (ltb sector external) refl
  where
    by_test : (b : Bool) → ltb sector external ≡ b → new_entry external sector < 2 ^ 32
    by_test true e = rw e (omega (arith, ltb-true sector external e))
    by_test false e = rw e (omega arith)

entry_is : (external sector : ℕ) → sector < external → new_entry external sector ≡ zero_of sector
entry_is external sector lt = rw (lt-ltb sector external lt) refl

entry_even : (external sector : ℕ) → external ≤ 2 ^ 30 → sector < external → sector % 2 ≡ 0 → entry_in (new_map_word external (sector / 2)) sector ≡ zero_of sector
unfolding entry_in
entry_even external sector few lt even =
    let here : new_entry external (2 * (sector / 2)) ≡ zero_of sector =
    ap (new_entry external) (let e : 2 * (sector / 2) ≡ sector = omega arith in e) ∙ entry_is external sector lt in
    rw (eq-eqb (sector % 2) 0 even) (omega (arith, here, entry_small external (2 * (sector / 2)) few))

entry_odd : (external sector : ℕ) → external ≤ 2 ^ 30 → sector < external → sector % 2 ≢ 0 → entry_in (new_map_word external (sector / 2)) sector ≡ zero_of sector
unfolding entry_in
entry_odd external sector few lt odd =
    let here : new_entry external (2 * (sector / 2) + 1) ≡ zero_of sector =
    ap (new_entry external) (let e : 2 * (sector / 2) + 1 ≡ sector = omega (arith, odd) in e) ∙ entry_is external sector lt in
    rw (ne_eqb (sector % 2) 0 odd) (omega (arith, here, entry_small external (2 * (sector / 2)) few))

pub entry_new : (external sector : ℕ) → external ≤ 2 ^ 30 → sector < external → entry_in (new_map_word external (sector / 2)) sector ≡ zero_of sector
entry_new external sector few lt = elim (cases_eq (sector % 2) 0) [ inl even ↦ entry_even external sector few lt even | inr odd ↦ entry_odd external sector few lt odd ]

blocks_new : (a n : ℕ) → a + n ≤ 2 ^ 30 → blocks_from a (map zero_of (range_with_len a n)) ≡ range_with_len a n
blocks_new a zero few = refl
blocks_new a (suc n) few =
    let here : (entry_of (zero_of a) a).block ≡ a = ap (λ (e : MapEntry). e.block) (zero_back a a (omega arith)) in
    let rest : blocks_from (a + 1) (map zero_of (range_with_len (a + 1) n)) ≡ range_with_len (a + 1) n = blocks_new (a + 1) n (omega arith) in
    λ i. here i ∷ rest i

-- ---- no move is pending

none_pending : (entries : List ℕ) (external : ℕ) (lanes : List ℕ) → moves_of entries (map (new_group external) lanes) ≡ []
none_pending entries external [] = refl
none_pending entries external (lane ∷ lanes) = rw (eq-eqb (external + lane) (external + lane) refl) (none_pending entries external lanes)

free_new : (external lanes : ℕ) → free_of (map (new_group external) (range_with_len 0 lanes)) ≡ range_with_len external lanes
free_new external lanes =
    map_map (λ g. g.half.old) (new_group external) (range_with_len 0 lanes) ∙ map_plus external 0 lanes
    ∙ ap (λ (k : ℕ). range_with_len k lanes) (let e : external + 0 ≡ external = omega arith in e)

all_once : (l : Layout) → IsLayout l
    → block_check l.internal (blocks_of (map zero_of (range_with_len 0 l.external)) (free_of (map (new_group l.external) (range_with_len 0 l.lanes)))) ≡ Ok tt
all_once l ok =
    let is : blocks_of (map zero_of (range_with_len 0 l.external)) (free_of (map (new_group l.external) (range_with_len 0 l.lanes))) ≡ range_with_len 0 l.internal =
    (λ i. blocks_new 0 l.external (omega (arith, ok.internal_is, ok.internal_few)) i ++ free_new l.external l.lanes i)
    ∙ ap (λ (k : ℕ). range_with_len 0 l.external ++ range_with_len k l.lanes) (let e : l.external ≡ 0 + l.external = omega arith in e)
    ∙ range-append 0 l.external l.lanes ∙ ap (range_with_len 0) (sym ok.internal_is) in
    ap (block_check l.internal) is ∙ once_named l.internal (range_with_len 0 l.internal) (range_once l.internal)

-- ---- the whole

-- the written info block reads back
pub new_arena : (at : ℕ) (l : Layout) (uuid parent bytes old : List ℕ) → IsLayout l → at + l.size / 8 ≤ length old → length bytes ≡ 4096 → AreBytes bytes
    → ReadsBack bytes (new_info l uuid parent) → IsNewArena l uuid parent (drop at (written_over old (area_writes at l (words_in bytes))))
unfolding opening
new_arena at l uuid parent bytes old ok inside count fit reads =
    let block : List ℕ = words_in bytes in
    let len : length (words_in bytes) ≡ 512 = length_words bytes ∙ ap (λ (n : ℕ). n / 8) count in
    let all : List ℕ = drop at (written_over old (area_writes at l (words_in bytes))) in
    let whole : length (drop at (written_over old (area_writes at l (words_in bytes)))) ≡ length old - at =
    length-drop at (written_over old (area_writes at l (words_in bytes))) ∙ ap (λ (k : ℕ). k - at) (same_new at l (words_in bytes) old ok len inside) in
    let said : info_bytes (drop at (written_over old (area_writes at l (words_in bytes)))) ≡ bytes =
    ap bytes_of (info_holds at l (words_in bytes) old ok len inside) ∙ bytes_of-words_in bytes (omega (arith, count)) fit in
    let info : info_reading (info_bytes (drop at (written_over old (area_writes at l (words_in bytes))))) parent (8 * length (drop at (written_over old (area_writes at l (words_in bytes)))))
    ≡ Ok (new_info l uuid parent) =
    ap (λ (b : List ℕ). info_reading b parent (8 * length (drop at (written_over old (area_writes at l (words_in bytes)))))) said
    ∙ reads (8 * length (drop at (written_over old (area_writes at l (words_in bytes))))) (omega (arith, whole, ordered l ok, ok.size_is, ok.info_whole)) (omega (arith, whole, ordered l ok)) in
    let groups : groups_in l (drop at (written_over old (area_writes at l (words_in bytes)))) ≡ Ok (map (new_group l.external) (range_with_len 0 l.lanes)) =
    groups_new l (drop at (written_over old (area_writes at l (words_in bytes)))) 0 l.lanes ok (group_is at l (words_in bytes) old ok len inside) (omega arith) in
    let entry : (sector : ℕ) → sector < l.external → entry_at l (drop at (written_over old (area_writes at l (words_in bytes)))) sector ≡ zero_of sector =
    λ sector lt. ap (λ (word : ℕ). entry_in word sector) (map_holds at l (words_in bytes) old ok len inside (sector / 2) (omega (arith, counted l ok)))
    ∙ entry_new l.external sector (omega (arith, ok.internal_is, ok.internal_few)) lt in
    let entries : map_in l (drop at (written_over old (area_writes at l (words_in bytes)))) ≡ map zero_of (range_with_len 0 l.external) =
    map_range (entry_at l (drop at (written_over old (area_writes at l (words_in bytes))))) zero_of 0 l.external (λ k low high. entry k (omega arith)) in
    record {
      opens = rw (info, groups, entries, none_pending (map zero_of (range_with_len 0 l.external)) l.external (range_with_len 0 l.lanes), all_once l ok) refl;
      zeros = λ sector lt.
          ap (λ (word : ℕ). cell_with l (drop at (written_over old (area_writes at l (words_in bytes)))) (entry_of word sector)) (entry sector lt)
          ∙ ap (cell_with l (drop at (written_over old (area_writes at l (words_in bytes))))) (zero_back sector sector (omega (arith, ok.internal_is, ok.internal_few)));
    }
