-- The parts of opening an arena.
use Rattle.std.proofs.Common.{◌≡◌, ℕ, ◌+◌, ◌*◌, ◌/◌, ◌≤◌, List, length, drop, Result, Ok, Err, refl, sym, ap, ◌∙◌, subst, arith}
use Rattle.std.specs.List.{range_with_len}
use Rattle.std.proofs.lemmas.List.{length-drop}
use Rattle.std.proofs.lemmas.List.FromFn.{length-map-range_with_len, length-range_with_len}
use Rattle.nvd_words.specs.Checks.{Answers}
use Rattle.arena_layout.specs.declared.layout.Layout.{Layout}
use Rattle.arena_layout.specs.declared.info.Info.{Info}
use Rattle.arena_layout.specs.declared.info.InfoFault.{InfoFault}
use Rattle.arena_layout.specs.Layout.{IsLayout}
use Rattle.arena_layout.specs.Info.{info_reading, IsArenaOf}
use Rattle.arena_layout.proofs.Reading.{sound_at}
use Rattle.flog.specs.declared.half.Half.{Half}
use Rattle.flog.specs.declared.group.Group.{Group}
use Rattle.map_table.specs.declared.check.BlockFault.{BlockFault}
use Rattle.map_table.specs.Blocks.{blocks_of, block_check, NamesEachOnce}
use Rattle.map_table.proofs.Once.{names_once}
use Rattle.arena_open.specs.declared.opened.Opened.{Opened}
use Rattle.arena_open.specs.declared.refused.OpenRefused.{OpenRefused}
use Rattle.arena_open.specs.declared.refused.OpenRefused.TheVariants as refused
use Rattle.arena_open.specs.Halves.{AreInRange, AreMoves}
use Rattle.arena_open.specs.Reading.{info_bytes, entry_at, map_in, groups_in, moves_of, moved, free_of, on_blocks, on_map, on_groups, on_info, opened_with, opening}
use Rattle.arena_open.proofs.Pending.{Groups, groups_fit, in_range, moves_fit, moves_few}

-- ---- putting one together

pub opening_info : (words parent : List ℕ) (fault : InfoFault) → info_reading (info_bytes words) parent (8 * length words) ≡ Err fault → opening words parent ≡ Err (refused.Info fault)
unfolding opening
opening_info words parent fault e = rw e refl

pub opening_lanes : (words parent : List ℕ) (info : Info) (fault : OpenRefused) → info_reading (info_bytes words) parent (8 * length words) ≡ Ok info
    → groups_in info.layout words ≡ Err fault → opening words parent ≡ Err fault
unfolding opening
opening_lanes words parent info fault e g = rw (e, g) refl

pub opening_map : (words parent : List ℕ) (info : Info) (groups : List Group) → info_reading (info_bytes words) parent (8 * length words) ≡ Ok info
    → groups_in info.layout words ≡ Ok groups → opening words parent ≡ on_map info groups (map_in info.layout words)
unfolding opening
opening_map words parent info groups e g = rw (e, g) refl

pub err_same : {A B : Type 0} (x y : OpenRefused) (r : Result B OpenRefused) (s : Result A OpenRefused) → r ≡ Err x → r ≡ Err y → s ≡ Err x → s ≡ Err y
err_same x y r s a b c = let e : x ≡ y = cc in c ∙ ap (λ f. Err f) e

-- a fault of the lanes is the arena's fault
pub lanes_refused : (words parent : List ℕ) (info : Info) (r : Result Opened OpenRefused) (lanes : Result (List Group) OpenRefused) (fault : OpenRefused)
    → info_reading (info_bytes words) parent (8 * length words) ≡ Ok info → r ≡ Err fault → Answers refused.OutOfMemory lanes (groups_in info.layout words) → lanes ≡ Err fault
    → Answers refused.OutOfMemory r (opening words parent)
lanes_refused words parent info r lanes fault e is answer lanes_is =
    λ ne. is ∙ sym (opening_lanes words parent info fault e (sym (answer (λ memory. ne (err_same fault refused.OutOfMemory lanes r lanes_is memory is))) ∙ lanes_is))

-- ---- taking one apart

pub record Parts (words parent : List ℕ) (opened : Opened) : Type 0 where
  pub info_is : info_reading (info_bytes words) parent (8 * length words) ≡ Ok opened.info
  pub groups_is : groups_in opened.info.layout words ≡ Ok opened.groups
  pub moves_is : opened.moves ≡ moves_of (map_in opened.info.layout words) opened.groups
  pub entries_is : opened.entries ≡ moved (map_in opened.info.layout words) opened.moves
  pub check_is : block_check opened.info.layout.internal (blocks_of opened.entries (free_of opened.groups)) ≡ Ok tt

map_parts : (words parent : List ℕ) (info : Info) (groups : List Group) (opened : Opened) (checked : Result (Unit {0}) BlockFault)
    → info_reading (info_bytes words) parent (8 * length words) ≡ Ok info → groups_in info.layout words ≡ Ok groups
    → block_check info.layout.internal (blocks_of (moved (map_in info.layout words) (moves_of (map_in info.layout words) groups)) (free_of groups)) ≡ checked
    → on_blocks (opened_with info groups (moved (map_in info.layout words) (moves_of (map_in info.layout words) groups)) (moves_of (map_in info.layout words) groups)) checked ≡ Ok opened
    → Parts words parent opened
map_parts words parent info groups opened (Err f) e g c is = absurd (let h = is in cc)
map_parts words parent info groups opened (Ok u) e g c is =
    let same : opened_with info groups (moved (map_in info.layout words) (moves_of (map_in info.layout words) groups)) (moves_of (map_in info.layout words) groups) ≡ opened = cc in
    subst (λ (o : Opened). Parts words parent o) same (record { info_is = e; groups_is = g; moves_is = refl; entries_is = refl; check_is = c })

groups_parts : (words parent : List ℕ) (info : Info) (opened : Opened) (groups : Result (List Group) OpenRefused)
    → info_reading (info_bytes words) parent (8 * length words) ≡ Ok info → groups_in info.layout words ≡ groups → on_groups words info groups ≡ Ok opened → Parts words parent opened
groups_parts words parent info opened (Err f) e g is = absurd (let h = is in cc)
groups_parts words parent info opened (Ok groups) e g is =
    map_parts words parent info groups opened
    (block_check info.layout.internal (blocks_of (moved (map_in info.layout words) (moves_of (map_in info.layout words) groups)) (free_of groups))) e g refl is

info_parts : (words parent : List ℕ) (opened : Opened) (info : Result Info InfoFault)
    → info_reading (info_bytes words) parent (8 * length words) ≡ info → on_info words info ≡ Ok opened → Parts words parent opened
info_parts words parent opened (Err f) e is = absurd (let h = is in cc)
info_parts words parent opened (Ok info) e is = groups_parts words parent info opened (groups_in info.layout words) e refl is

pub parts : (words parent : List ℕ) (opened : Opened) → opening words parent ≡ Ok opened → Parts words parent opened
unfolding opening
parts words parent opened is = info_parts words parent opened (info_reading (info_bytes words) parent (8 * length words)) refl is

-- ---- what the parts say

pub record Sound (words parent : List ℕ) (opened : Opened) : Type 0 where
  pub arena : IsArenaOf parent (8 * length words) opened.info
  pub groups : Groups opened.info.layout (range_with_len 0 opened.info.layout.lanes) opened.groups
  pub moves : AreMoves opened.info.layout.external opened.moves
  pub few : length opened.moves ≤ 256
  pub once : NamesEachOnce opened.info.layout.internal (blocks_of opened.entries (free_of opened.groups))

pub lanes_in_range : (l : Layout) (words : List ℕ) (groups : List Group) → IsLayout l → groups_in l words ≡ Ok groups → AreInRange l.external groups
lanes_in_range l words groups ok e = in_range l.external l.internal groups ok.internal_few (groups_fit l words (range_with_len 0 l.lanes) groups e).fit

pub length_map : (l : Layout) (words : List ℕ) → length (map_in l words) ≡ l.external
length_map l words = length-map-range_with_len (entry_at l words) 0 l.external

pub sound_parts : (words parent : List ℕ) (opened : Opened) → Parts words parent opened → Sound words parent opened
sound_parts words parent opened p =
    let l : Layout = opened.info.layout in
    let arena : IsArenaOf parent (8 * length words) opened.info = sound_at (info_bytes words) parent (8 * length words) (Ok opened.info) (sym p.info_is) in
    let groups : Groups opened.info.layout (range_with_len 0 opened.info.layout.lanes) opened.groups =
    groups_fit opened.info.layout words (range_with_len 0 opened.info.layout.lanes) opened.groups p.groups_is in
    record {
      arena = arena;
      groups = groups;
      moves = subst (λ (ms : List Half). AreMoves opened.info.layout.external ms) (sym p.moves_is)
          (moves_fit opened.info.layout.external (map_in opened.info.layout words) opened.groups
          (lanes_in_range opened.info.layout words opened.groups arena.sound.layout p.groups_is));
      few = omega (
        arith,
        ap (λ (ms : List Half). length ms) p.moves_is,
        moves_few (map_in opened.info.layout words) opened.groups,
        groups.count,
        length-range_with_len 0 opened.info.layout.lanes,
        arena.sound.layout.lanes_few,
      );
      once = names_once opened.info.layout.internal (blocks_of opened.entries (free_of opened.groups)) p.check_is;
    }

pub sound : (words parent : List ℕ) (opened : Opened) → opening words parent ≡ Ok opened → Sound words parent opened
sound words parent opened is = sound_parts words parent opened (parts words parent opened is)

-- the arena lies inside the words
pub arena_inside : (kept parent : List ℕ) (at : ℕ) (info : Info) → at ≤ length kept → IsArenaOf parent (8 * length (drop at kept)) info → at + info.layout.size / 8 ≤ length kept
arena_inside kept parent at info le arena = omega (arith, arena.size_inside, length-drop at kept)
