-- What is read of an arena that opens, and none of whose words is bad.
use Rattle.std.proofs.Common.{◌≡◌, ℕ, zero, suc, ◌+◌, ◌*◌, ◌-◌, ◌/◌, ◌<◌, ◌≤◌, Bool, true, false, cond, List, [], ◌∷◌, ◌++◌, length, map, replicate, get_or, Option, Some, None, Result, Ok, Err, refl, sym, ap, ◌∙◌, arith}
use Rattle.std.specs.Prelude.{filter}
use Rattle.std.specs.List.{range_with_len, filter_map, flat_map, cons_option, list_any}
use Rattle.std.proofs.lemmas.List.FromFn.{get_or-map-range_with_len, length-map-range_with_len}
use Rattle.cut_words.specs.WordBytes.{bytes_of}
use Rattle.arena_layout.specs.declared.info.Info.{Info}
use Rattle.arena_layout.specs.declared.info.InfoFault.{InfoFault}
use Rattle.arena_layout.specs.declared.layout.Layout.{Layout}
use Rattle.arena_layout.specs.Layout.{IsLayout}
use Rattle.flog.specs.declared.group.FlogFault.{FlogFault}
use Rattle.flog.specs.declared.group.Group.{Group}
use Rattle.flog.specs.Group.{group_reading}
use Rattle.map_table.specs.declared.kinds.Kind.{Kind}
use Rattle.map_table.specs.declared.kinds.Kind.TheVariants as kind
use Rattle.map_table.specs.declared.kinds.MapEntry.{MapEntry}
use Rattle.map_table.specs.Entry.{entry_of, zero_of}
use Rattle.map_table.proofs.Entries.{zero_back}
use Rattle.arena_open.specs.declared.cell.Cell.{Cell}
use Rattle.arena_open.specs.declared.opened.Opened.{Opened}
use Rattle.arena_open.specs.declared.refused.OpenRefused.{OpenRefused}
use Rattle.arena_open.specs.declared.state.ArenaState.{ArenaState}
use Rattle.arena_open.specs.Moves.{state_of}
use Rattle.arena_open.specs.Places.{group_words}
use Rattle.arena_open.specs.Reading.{cell_at, cell_by, cell_with, groups_in, groups_of, map_in, moved, moves_of, opening, with_group}
use Rattle.arena_open.proofs.Apart.{AreOrdered, ordered}
use Rattle.arena_open.proofs.InPlace.{cell_same, count_entries}
use Rattle.arena_open.proofs.Opening.{Parts, Sound, parts, sound}
use Rattle.arena_check.specs.Check.{bad_meta, flog_findings_of, group_finding, in_arena, meta_findings, page_reading, recovered_map, source_by, source_of}
use Rattle.arena_check.specs.declared.finding.Finding.TheVariants as found
use Rattle.arena_check.specs.declared.info.InfoSource.TheVariants as source
use Rattle.arena_check.proofs.Clean.{nothing_from}
use Rattle.arena_check.proofs.Picked.{none_any}
use Rattle.arena_rescue.specs.declared.loss.Loss.{Loss}
use Rattle.arena_rescue.specs.declared.loss.Loss.TheVariants as loss
use Rattle.arena_rescue.specs.Rescue.{is_marked, loss_at, losses_of, rescued_entry, rescued_map}
use Rattle.arena_rescue.specs.Laws.{LosesMarkedAlone, marks}
use Rattle.arena_rescue.proofs.Laws.{sound_maps_lose_nothing}
use Rattle.shell_export.specs.Export.{cell_words}
use Rattle.shell_rescue.specs.Rescue.{accepted, counted_group, counted_groups, entries_bytes, entries_in, entry_bytes, losses_in, map_moved, moves_in}
use Rattle.shell_rescue.specs.Laws.{NoneBad}
use Rattle.shell_rescue.specs.Lost.{notes_with}

-- ---- the lanes

-- a list of groups, taken apart
record Taken (r : Result Group FlogFault) (rest : Result (List Group) OpenRefused) (groups : List Group) : Type 0 where
  group : Group
  others : List Group
  read : r ≡ Ok group
  behind : rest ≡ Ok others
  are : group ∷ others ≡ groups

taken : (lane : ℕ) (r : Result Group FlogFault) (rest : Result (List Group) OpenRefused) (groups : List Group) → with_group lane r rest ≡ Ok groups → Taken r rest groups
taken lane (Err fault) rest groups is = absurd (let e = is in cc)
taken lane (Ok group) (Err fault) groups is = absurd (let e = is in cc)
taken lane (Ok group) (Ok others) groups is = record { group = group; others = others; read = refl; behind = refl; are = let e = is in cc }

-- lanes without a bad word count, with the groups that they have
all_counted : (l : Layout) (bad : ℕ → Bool) (words : List ℕ) (a n : ℕ) (groups : List Group)
    → ((lane : ℕ) → lane < a + n → list_any bad (range_with_len (l.flog_off / 8 + 8 * lane) 8) ≡ false)
    → groups_of l words (range_with_len a n) ≡ Ok groups → filter_map (counted_group l bad words) (range_with_len a n) ≡ groups
all_counted l bad words a zero groups none is = let e : [] ≡ groups = let f = is in cc in e
all_counted l bad words a (suc n) groups none is =
    let t : Taken (group_reading (group_words l words a) l.external l.internal) (groups_of l words (range_with_len (a + 1) n)) groups =
    taken a (group_reading (group_words l words a) l.external l.internal) (groups_of l words (range_with_len (a + 1) n)) groups is in
    let here : list_any bad (range_with_len (l.flog_off / 8 + 8 * a) 8) ≡ false = none a (omega arith) in
    let behind : filter_map (counted_group l bad words) (range_with_len (a + 1) n) ≡ t.others =
    all_counted l bad words (a + 1) n t.others (λ lane lt. none lane (omega (arith, lt))) t.behind in
    (λ i. cons_option (cond (here i) None (accepted (t.read i))) (behind i)) ∙ t.are

-- they have no finding
none_refused : (l : Layout) (words : List ℕ) (a n : ℕ) (groups : List Group) → groups_of l words (range_with_len a n) ≡ Ok groups → flog_findings_of l words (range_with_len a n) ≡ []
none_refused l words a zero groups is = refl
none_refused l words a (suc n) groups is =
    let t : Taken (group_reading (group_words l words a) l.external l.internal) (groups_of l words (range_with_len (a + 1) n)) groups =
    taken a (group_reading (group_words l words a) l.external l.internal) (groups_of l words (range_with_len (a + 1) n)) groups is in
    λ i. cons_option (group_finding a (t.read i)) (none_refused l words (a + 1) n t.others t.behind i)

-- nor have words none of which is bad
none_bad : (bad : ℕ → Bool) (first count : ℕ) → ((i : ℕ) → first ≤ i → i < first + count → bad i ≡ false) → bad_meta bad first count ≡ []
unfolding bad_meta
none_bad bad first count none = ap (map found.BadMeta) (nothing_from bad first count none)

-- so an arena that opens has no note
pub no_notes : (at : ℕ) (bad : ℕ → Bool) (words : List ℕ) (l : Layout) (groups : List Group) → IsLayout l → groups_in l words ≡ Ok groups
    → ((i : ℕ) → i < l.size / 8 → in_arena at bad i ≡ false) → notes_with at bad words l ≡ []
unfolding meta_findings
no_notes at bad words l groups ok is none =
    let o : AreOrdered l = ordered l ok in
    let there : (i : ℕ) → at ≤ i → i < at + l.size / 8 → bad i ≡ false =
    λ i low high. ap bad (let e : i ≡ at + (i - at) = omega (arith, low) in e) ∙ none (i - at) (omega (arith, low, high)) in
    let info : bad_meta bad at 512 ≡ [] = none_bad bad at 512 (λ i low high. there i low (omega (arith, high, o.size_is))) in
    let rest : bad_meta bad (at + l.map_off / 8) (l.size / 8 - l.map_off / 8) ≡ [] =
    none_bad bad (at + l.map_off / 8) (l.size / 8 - l.map_off / 8)
    (λ i low high. there i (omega (arith, low)) (omega (arith, high, o.after_map, o.after_log, o.size_is))) in
    λ i. none_refused l words 0 l.lanes groups is i ++ (info i ++ rest i)

-- ---- an entry of a sector that is marked as bad

-- the cell of a bad entry, and that of an entry of zeros, count as zeros
marked_zero : (l : Layout) (words : List ℕ) (count : ℕ) (k : Kind) (block : ℕ) → is_marked k ≡ true → cell_words count (cell_by l words k block) ≡ replicate count 0
marked_zero l words count kind.Initial block is = absurd (let e = is in cc)
marked_zero l words count kind.Zero block is = absurd (let e = is in cc)
marked_zero l words count kind.Bad block is = refl
marked_zero l words count kind.Normal block is = absurd (let e = is in cc)

zero_words : (l : Layout) (words : List ℕ) (sector : ℕ) → cell_words (l.sector / 8) (cell_with l words (entry_of (zero_of 0) sector)) ≡ replicate (l.sector / 8) 0
zero_words l words sector = ap (λ (e : MapEntry). cell_words (l.sector / 8) (cell_with l words e)) (zero_back 0 sector (omega arith))

marked_same : (l : Layout) (words : List ℕ) (o : Option Loss) (word sector : ℕ) → is_marked (entry_of word sector).kind ≡ true
    → cell_words (l.sector / 8) (cell_with l words (entry_of (rescued_entry o word) sector)) ≡ cell_words (l.sector / 8) (cell_with l words (entry_of word sector))
marked_same l words None word sector is = refl
marked_same l words (Some why) word sector is =
    zero_words l words sector ∙ sym (marked_zero l words (l.sector / 8) (entry_of word sector).kind (entry_of word sector).block is)

-- ---- the bytes of sectors, one after another

entries_are : (l : Layout) (words : List ℕ) (f : ℕ → List ℕ) (entries : List ℕ) (a : ℕ)
    → ((k : ℕ) → k < length entries → entry_bytes l words (get_or entries k 0) (a + k) ≡ f (a + k))
    → entries_bytes l words a entries ≡ flat_map f (range_with_len a (length entries))
entries_are l words f [] a same = refl
entries_are l words f (entry ∷ entries) a same =
    let at : a ≡ a + 0 = omega arith in
    let here : entry_bytes l words entry a ≡ f a = ap (entry_bytes l words entry) at ∙ same 0 (omega arith) ∙ ap f (sym at) in
    let behind : entries_bytes l words (a + 1) entries ≡ flat_map f (range_with_len (a + 1) (length entries)) =
    entries_are l words f entries (a + 1) (λ k lt.
    let next : a + 1 + k ≡ a + suc k = omega arith in
    ap (entry_bytes l words (get_or entries k 0)) next ∙ same (suc k) (omega (arith, lt)) ∙ ap f (sym next)) in
    λ i. here i ++ behind i

-- the bytes of an arena's sectors by their cells; a bad cell counts as zeros
abbrev pub state_sector : ArenaState → ℕ → List ℕ
state_sector state sector = bytes_of (cell_words (state.info.layout.sector / 8) (cell_at state.info.layout state.words sector))

abbrev pub state_bytes : ArenaState → List ℕ
state_bytes state = flat_map (state_sector state) (range_with_len 0 state.info.layout.external)

-- ---- the arena

module _ (words parent : List ℕ) (opened : Opened) (is : opening words parent ≡ Ok opened) where
  -- its first info block is used
  pub first_used : source_of words parent ≡ source.First opened.info
  first_used =
      ap (λ (r : Result Info InfoFault). source_by (8 * length words) r (page_reading (length words - 512) words parent)) (parts words parent opened is).info_is

  module _ (bad : ℕ → Bool) (none : NoneBad bad words) where
    s : Sound words parent opened
    s = sound words parent opened is

    ok : IsLayout opened.info.layout
    ok = s.arena.sound.layout

    -- no word of it is bad
    own_sound : (i : ℕ) → i < opened.info.layout.size / 8 → bad i ≡ false
    own_sound i lt = none i (omega (arith, lt, s.arena.size_inside))

    lane_sound : (lane : ℕ) → lane < opened.info.layout.lanes → list_any bad (range_with_len (opened.info.layout.flog_off / 8 + 8 * lane) 8) ≡ false
    lane_sound lane lt =
        let o : AreOrdered opened.info.layout = ordered opened.info.layout ok in
        none_any bad (opened.info.layout.flog_off / 8 + 8 * lane) 8 (λ b low high. own_sound b (omega (arith, high, lt, o.after_log, o.size_is)))

    -- all lanes count
    pub groups_are : counted_groups opened.info.layout bad words ≡ opened.groups
    groups_are = all_counted opened.info.layout bad words 0 opened.info.layout.lanes opened.groups
        (λ lane lt. lane_sound lane (omega (arith, lt))) (parts words parent opened is).groups_is

    -- the pending moves are made
    pub moved_is : map_moved opened.info.layout bad words ≡ opened.entries
    moved_is =
        let p : Parts words parent opened = parts words parent opened is in
        ap (recovered_map (map_in opened.info.layout words)) groups_are ∙ ap (moved (map_in opened.info.layout words)) (sym p.moves_is) ∙ sym p.entries_is

    read_with : entries_in opened.info.layout bad words ≡ rescued_map opened.info.layout bad opened.entries opened.groups
    read_with = λ i. rescued_map opened.info.layout bad (moved_is i) (groups_are i)

    count : length opened.entries ≡ opened.info.layout.external
    count = count_entries words parent opened is

    lost_alone : LosesMarkedAlone opened.info.layout bad opened.entries opened.groups
    lost_alone = sound_maps_lose_nothing opened.info.layout bad opened.entries opened.groups ok count own_sound s.once

    -- the list has the pending moves, and the sectors that the map marks as bad
    pub moves_are : moves_in opened.info.layout bad words ≡ opened.moves
    moves_are = ap (moves_of (map_in opened.info.layout words)) groups_are ∙ sym (parts words parent opened is).moves_is

    pub losses_are : losses_in opened.info.layout bad words ≡ map loss.Marked (filter (marks opened.entries) (range_with_len 0 opened.info.layout.external))
    losses_are =
        (λ i. losses_of opened.info.layout bad (moved_is i) (groups_are i)) ∙ lost_alone.losses
        ∙ ap (λ (n : ℕ). map loss.Marked (filter (marks opened.entries) (range_with_len 0 n))) count

    -- a sector has its own words, or it is marked as bad and counts as zeros
    words_are : (sector : ℕ) → sector < length opened.entries
        → cell_words (opened.info.layout.sector / 8) (cell_with opened.info.layout words (entry_of (get_or (rescued_map opened.info.layout bad opened.entries opened.groups) sector 0) sector))
        ≡ cell_words (opened.info.layout.sector / 8) (cell_with opened.info.layout words (entry_of (get_or opened.entries sector 0) sector))
    words_are sector lt = by_mark (marks opened.entries sector) refl
      where
        by_mark : (b : Bool) → marks opened.entries sector ≡ b
            → cell_words (opened.info.layout.sector / 8) (cell_with opened.info.layout words (entry_of (get_or (rescued_map opened.info.layout bad opened.entries opened.groups) sector 0) sector))
            ≡ cell_words (opened.info.layout.sector / 8) (cell_with opened.info.layout words (entry_of (get_or opened.entries sector 0) sector))
        by_mark false unmarked =
            ap (λ (w : ℕ). cell_words (opened.info.layout.sector / 8) (cell_with opened.info.layout words (entry_of w sector))) (lost_alone.others sector lt unmarked)
        by_mark true marked =
            ap (λ (w : ℕ). cell_words (opened.info.layout.sector / 8) (cell_with opened.info.layout words (entry_of w sector)))
            (get_or-map-range_with_len (λ k. rescued_entry (loss_at opened.info.layout bad opened.entries opened.groups k) (get_or opened.entries k 0)) 0 (length opened.entries) sector sector 0 lt (omega arith))
            ∙ marked_same opened.info.layout words (loss_at opened.info.layout bad opened.entries opened.groups sector) (get_or opened.entries sector 0) sector marked

    -- the bytes that are read are those of its cells
    pub arena_is : entries_bytes opened.info.layout words 0 (entries_in opened.info.layout bad words) ≡ state_bytes (state_of words opened)
    arena_is =
        ap (entries_bytes opened.info.layout words 0) read_with
        ∙ entries_are opened.info.layout words (state_sector (state_of words opened)) (rescued_map opened.info.layout bad opened.entries opened.groups) 0 (λ k lt. sector_is k lt)
        ∙ ap (λ (n : ℕ). flat_map (state_sector (state_of words opened)) (range_with_len 0 n)) (long ∙ count)
      where
        long : length (rescued_map opened.info.layout bad opened.entries opened.groups) ≡ length opened.entries
        long = length-map-range_with_len (λ k. rescued_entry (loss_at opened.info.layout bad opened.entries opened.groups k) (get_or opened.entries k 0)) 0 (length opened.entries)

        sector_is : (k : ℕ) → k < length (rescued_map opened.info.layout bad opened.entries opened.groups)
            → entry_bytes opened.info.layout words (get_or (rescued_map opened.info.layout bad opened.entries opened.groups) k 0) (0 + k) ≡ state_sector (state_of words opened) (0 + k)
        sector_is k lt =
            let inside : k < length opened.entries = omega (arith, lt, long) in
            let zero' : 0 + k ≡ k = omega arith in
            ap (entry_bytes opened.info.layout words (get_or (rescued_map opened.info.layout bad opened.entries opened.groups) k 0)) zero'
            ∙ ap bytes_of (words_are k inside)
            ∙ ap (λ (c : Cell). bytes_of (cell_words (opened.info.layout.sector / 8) c)) (sym (cell_same words parent opened is k (omega (arith, inside, count))))
            ∙ ap (state_sector (state_of words opened)) (sym zero')
