-- Completing pending moves: UEFI 2.10, section 6.3 (BTT theory of operation, the Flog). It is this project's rule to store and
-- flush the changed map words lane by lane.
use Rattle.std.specs.Prelude.{◌≡◌, ℕ, ◌+◌, ◌*◌, ◌/◌, Bool, if◌then◌else◌, length, List, [], ◌∷◌, take, drop, map, slice_set, Option, Result, Ok, Err}
use Rattle.cut_words.specs.Words.{Words, Step, IsLeftAfter}
use Rattle.cut_words.specs.Fuses.{Makes, lasts}
use Rattle.arena_layout.specs.declared.layout.Layout.{Layout}
use Rattle.arena_layout.specs.Info.{IsInfo, info_of}
use Rattle.flog.specs.declared.half.Half.{Half}
use Rattle.flog.specs.declared.group.Group.{Group}
use Rattle.map_table.specs.Entry.{normal_of, with_entry}
use Rattle.map_table.specs.Blocks.{NamesEachOnce, blocks_of}
use Rattle.arena_open.specs.declared.opened.Opened.{Opened}
use Rattle.arena_open.specs.declared.opened.LaneState.{LaneState}
use Rattle.arena_open.specs.declared.state.ArenaState.{ArenaState}
use Rattle.arena_open.specs.declared.refused.OpenRefused.{OpenRefused}
use Rattle.arena_open.specs.declared.refused.OpenRefused.TheVariants as refused
use Rattle.arena_open.specs.Places.{map_word, word_of, value_at}
use Rattle.arena_open.specs.Writes.{Write, write_steps, written_over}
use Rattle.arena_open.specs.Reading.{info_bytes, map_in, groups_in, moves_of, free_of, opening}

-- the map word of a move's sector, with the normal entry of its new block
abbrev pub move_write : Layout → List ℕ → Half → Write
move_write l words half = record {
  place = word_of l (map_word (half.lba / 2));
  value = with_entry (value_at l words (map_word (half.lba / 2))) half.lba (normal_of half.new);
}

-- one move after another, in the words of an arena
abbrev pub move_writes : Layout → List ℕ → List Half → List Write
move_writes l words [] = []
move_writes l words (half ∷ halves) =
    let w = move_write l words half in
    w ∷ move_writes l (slice_set words w.place w.value) halves

-- the same writes in a space in which `at` is the arena's first word
abbrev pub shifted : ℕ → List Write → List Write
shifted at writes = map (λ w. record { place = at + w.place; value = w.value }) writes

-- the words of an arena with its pending moves completed
abbrev pub recovered : List ℕ → Opened → List ℕ
recovered words opened = written_over words (move_writes opened.info.layout words opened.moves)

-- two steps for each pending move
abbrev pub opened_steps : ℕ → List ℕ → Opened → List Step
opened_steps at words opened = write_steps (shifted at (move_writes opened.info.layout words opened.moves))

-- no steps if the arena doesn't open
abbrev pub steps_if : ℕ → List ℕ → Result Opened OpenRefused → List Step
steps_if at words (Err fault) = []
steps_if at words (Ok opened) = opened_steps at words opened

abbrev pub recovery_steps : ℕ → List ℕ → List ℕ → List Step
recovery_steps at words parent = steps_if at words (opening words parent)

-- the effect of a recovery on the words of a space and on a fuse
abbrev pub Recovers : Words → Words → Option ℕ → Option ℕ → ℕ → List ℕ → Type 0
Recovers old new fuse left at parent =
    let steps = recovery_steps at (drop at old.kept) parent in
    Makes old new fuse left steps (lasts fuse (length steps))

abbrev pub IsUntouched : Words → Words → Option ℕ → Option ℕ → Type 0
IsUntouched old new fuse left = (new ≡ old) × (left ≡ fuse)

-- ---- the state of an opened arena

-- a lane's free block is the old block of its current half
abbrev pub lane_of : Group → LaneState
lane_of group = record { free = group.half.old; group = group }

abbrev pub state_of : List ℕ → Opened → ArenaState
state_of words opened = record {
  info = opened.info;
  words = take (opened.info.layout.size / 8) (recovered words opened);
  lanes = map lane_of opened.groups;
  made = length opened.moves;
}

-- the words from an arena's first one on open as this one, in some namespace
abbrev pub IsOpened : List ℕ → Opened → Type 0
IsOpened words opened = (parent : List ℕ) × (opening words parent ≡ Ok opened)

-- how many pending moves were completed
abbrev pub moves_made : ArenaState → ℕ
moves_made state = state.made

-- the state if the fuse lasts for two steps a move, else a power cut
abbrev pub state_if : Bool → List ℕ → Opened → Result ArenaState OpenRefused
state_if lasted words opened = if lasted then Ok (state_of words opened) else Err refused.PowerCut

abbrev pub answer_of : Option ℕ → List ℕ → Result Opened OpenRefused → Result ArenaState OpenRefused
answer_of fuse words (Err fault) = Err fault
answer_of fuse words (Ok opened) = state_if (lasts fuse (2 * length opened.moves)) words opened

-- the result of opening with a fuse
abbrev pub open_answer : Option ℕ → List ℕ → List ℕ → Result ArenaState OpenRefused
open_answer fuse words parent = answer_of fuse words (opening words parent)

-- ---- after recovery

-- the same arena with some of its moves completed and the others pending
abbrev pub with_made : ℕ → Opened → Opened
with_made k opened = record { info = opened.info; groups = opened.groups; entries = opened.entries; moves = drop k opened.moves }

-- the same arena without pending moves
abbrev pub with_all_made : Opened → Opened
with_all_made opened = record { info = opened.info; groups = opened.groups; entries = opened.entries; moves = [] }

-- The words after a crash during recovery open as the same arena, with the moves pending that weren't completed. Completing these
-- yields the words of an uninterrupted recovery.
pub record IsPartRecovered (words parent left : List ℕ) (opened : Opened) : Type 0 where
  pub count : ℕ
  pub opens : opening left parent ≡ Ok (with_made count opened)
  pub ends : recovered left (with_made count opened) ≡ recovered words opened

-- a law: a recovery that is interrupted at any step and run again has the result of an uninterrupted one
abbrev pub RecoveryAgain : Type 0
RecoveryAgain = (at : ℕ) (old parent : List ℕ) (opened : Opened) (n : ℕ) (left : List ℕ) → opening (drop at old) parent ≡ Ok opened
    → IsLeftAfter old (recovery_steps at (drop at old) parent) n left → IsPartRecovered (drop at old) parent (drop at left) opened

-- after a recovery no move is pending, and the arena opens as before otherwise
abbrev pub OpensAgain : List ℕ → List ℕ → List ℕ → Type 0
OpensAgain words now parent = (opened : Opened) → opening words parent ≡ Ok opened → opening now parent ≡ Ok (with_all_made opened)

-- ---- states as opening returns them

abbrev pub groups_of_lanes : List LaneState → List Group
groups_of_lanes lanes = map (λ lane. lane.group) lanes

-- The info meets the layout relation, the words are the arena's, the lanes are those of its groups, no move is pending, and the
-- blocks of the map and the free ones are each named once.
pub record IsOpenState (state : ArenaState) : Type 0 where
  pub sound : IsInfo state.info
  pub said : info_of (info_bytes state.words) ≡ state.info
  pub count : length state.words ≡ state.info.layout.size / 8
  pub groups : groups_in state.info.layout state.words ≡ Ok (groups_of_lanes state.lanes)
  pub lanes : state.lanes ≡ map lane_of (groups_of_lanes state.lanes)
  pub settled : moves_of (map_in state.info.layout state.words) (groups_of_lanes state.lanes) ≡ []
  pub once : NamesEachOnce state.info.layout.internal (blocks_of (map_in state.info.layout state.words) (free_of (groups_of_lanes state.lanes)))
