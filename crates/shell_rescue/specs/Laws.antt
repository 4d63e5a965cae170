-- Laws about what is read of a sound namespace: its arenas open, and none of its words is bad.
use Rattle.std.specs.Prelude.{◌≡◌, ℕ, ◌<◌, Bool, true, false, List, [], length, map, filter, is_some, Ok}
use Rattle.std.specs.List.{range_with_len}
use Rattle.arena_open.specs.declared.state.ArenaState.{ArenaState}
use Rattle.arena_open.specs.Chain.{Link, chain_of}
use Rattle.arena_rescue.specs.declared.loss.Loss.TheVariants as loss
use Rattle.arena_rescue.specs.Laws.{marks}
use Rattle.image_set.specs.Load.{ImageSet}
use Rattle.namespace_areas.specs.declared.found.Found.{Found}
use Rattle.sector_namespaces.specs.View.{opened_view}
use Rattle.namespace_bytes.specs.Bad.{first_bad}
use Rattle.shell_reports.specs.Causes.{found_in, opened_in}
use Rattle.shell_sectors.specs.Write.{loaded_words}
use Rattle.shell_check.specs.Comes.{bad_in}
use Rattle.shell_export.specs.Export.{export_outcome, sectors_bytes}
use Rattle.shell_rescue.specs.declared.arena.ArenaLost.{ArenaLost}
use Rattle.shell_rescue.specs.Causes.{is_lost}
use Rattle.shell_rescue.specs.Comes.{rescue_outcome}
use Rattle.shell_rescue.specs.Lost.{lost_arenas}
use Rattle.shell_rescue.specs.Rescue.{rescued_bytes}

-- none of these words is bad
abbrev pub NoneBad : (ℕ → Bool) → List ℕ → Type 0
NoneBad bad words = (i : ℕ) → i < length words → bad i ≡ false

-- ---- the bytes

-- A law: of a sound namespace the bytes are those that `export --bad-as-zeros` prints.
abbrev pub SoundRescueIsExport : Type 0
SoundRescueIsExport = (uuid : List ℕ) (bad : ℕ → Bool) (words : List ℕ) (states : List ArenaState)
    → NoneBad bad words → opened_view words uuid ≡ Ok states
    → rescued_bytes bad words uuid ≡ sectors_bytes states

-- A law: if a namespace of a loaded set is found and sound, the outcome of `rescue` is that of
-- `export --bad-as-zeros`.
abbrev pub SoundRescueEndsAsExport : Type 0
SoundRescueEndsAsExport = (loaded : ImageSet) (uuid : List ℕ) (found : Found) (states : List ArenaState)
    → found_in loaded uuid ≡ Ok found
    → NoneBad (bad_in loaded found) (loaded_words loaded found) → opened_in loaded uuid found ≡ Ok states
    → rescue_outcome uuid false loaded ≡ export_outcome uuid true loaded

-- ---- the list

-- what is listed of a sound arena: the pending moves that were made, and then the sectors that its map
-- marks as bad
abbrev pub listed_of : Link → ArenaLost
listed_of link = record {
  notes = [];
  moves = link.opened.moves;
  losses = map loss.Marked (filter (marks link.opened.entries) (range_with_len 0 link.opened.info.layout.external));
  whole = true;
}

-- A law: of the arenas of a sound namespace nothing else is listed.
abbrev pub SoundListIsMarks : Type 0
SoundListIsMarks = (uuid : List ℕ) (bad : ℕ → Bool) (words : List ℕ) (states : List ArenaState)
    → NoneBad bad words → opened_view words uuid ≡ Ok states
    → lost_arenas bad words uuid ≡ map listed_of (chain_of words uuid 0).links

-- A law: a sector of a sound namespace is lost exactly if `export` is refused for a bad sector.
abbrev pub SoundListEndsAsExport : Type 0
SoundListEndsAsExport = (uuid : List ℕ) (bad : ℕ → Bool) (words : List ℕ) (states : List ArenaState)
    → NoneBad bad words → opened_view words uuid ≡ Ok states
    → is_lost uuid true bad words ≡ is_some (first_bad states)
