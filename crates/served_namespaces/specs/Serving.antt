-- What putting the arenas of namespaces back makes of the words of all modules.
use Rattle.std.specs.Prelude.{◌≡◌, ℕ, ◌++◌, List, flat_map, length, map, slice_get, take, Some, Ok}
use Rattle.cut_words.specs.Words.{Words}
use Rattle.nfit_reader.specs.declared.table.Mapping.{Mapping}
use Rattle.arena_open.specs.declared.opened.Opened.{Opened}
use Rattle.arena_open.specs.declared.state.ArenaState.{ArenaState}
use Rattle.arena_open.specs.Moves.{state_of}
use Rattle.arena_open.specs.Reading.{opening}
use Rattle.sector_namespaces.specs.Creation.{AreSettled}
use Rattle.sector_namespaces.specs.View.{opened_view}
use Rattle.served_namespaces.specs.declared.places.OpenedNamespace.{OpenedNamespace}
use Rattle.served_namespaces.specs.Places.{KeepsBeside, arena_words, words_at}

-- ---- what is put back

-- These words may stand in the place of an arena's. Wherever the arena's own words opened, they open as an arena with the same info.
pub record ArenaFits (state : ArenaState) (words : List ℕ) : Type 0 where
  pub size : length words ≡ length state.words
  pub opens : (behind parent : List ℕ) (arena : Opened) → opening (state.words ++ behind) parent ≡ Ok arena → (found : Opened) × (opening (words ++ behind) parent ≡ Ok found) × (found.info ≡ state.info)

-- each arena of a namespace has such words
pub record ArenasFit (o : OpenedNamespace) (parts : List (List ℕ)) : Type 0 where
  pub count : length parts ≡ length o.states
  pub each : (k : ℕ) (state : ArenaState) (words : List ℕ) → slice_get o.states k ≡ Some state → slice_get parts k ≡ Some words → ArenaFits state words

-- so has each arena of each namespace
pub record AllFit (opened : List OpenedNamespace) (words : List (List (List ℕ))) : Type 0 where
  pub count : length words ≡ length opened
  pub each : (k : ℕ) (o : OpenedNamespace) (parts : List (List ℕ)) → slice_get opened k ≡ Some o → slice_get words k ≡ Some parts → ArenasFit o parts

-- This arena is what opening finds in the words, in a place in which the arena's own words opened. So whatever is promised of the words
-- wherever those opened is true of this arena.
pub record IsOpenedFrom (state : ArenaState) (words : List ℕ) (new : ArenaState) : Type 0 where
  pub behind : List ℕ
  pub parent : List ℕ
  pub before : Opened
  pub opened : opening (state.words ++ behind) parent ≡ Ok before
  pub found : Opened
  pub opens : opening (words ++ behind) parent ≡ Ok found
  pub is : new ≡ state_of (words ++ behind) found

-- the words of a namespace begin with these parts, one behind another: those of its arenas
abbrev pub BeginsWith : List ℕ → List ArenaState → List (List ℕ) → Type 0
BeginsWith words states parts = take (arena_words states) words ≡ flat_map (λ (part : List ℕ). part) parts

-- In its place a namespace opens as arenas with the same info, each with the words that were put.
pub record IsLeft (sets : List (List Mapping)) (now : List Words) (o : OpenedNamespace) (parts : List (List ℕ)) : Type 0 where
  pub news : List ArenaState
  pub opens : opened_view (words_at sets o.place.found now) o.place.uuid ≡ Ok news
  pub infos : map (λ (s : ArenaState). s.info) news ≡ map (λ (s : ArenaState). s.info) o.states
  pub arenas : (k : ℕ) (state new : ArenaState) (words : List ℕ) → slice_get o.states k ≡ Some state → slice_get news k ≡ Some new → slice_get parts k ≡ Some words → IsOpenedFrom state words new
  pub words : BeginsWith (words_at sets o.place.found now) o.states parts

-- The words of all modules after the arenas of all these namespaces were put back.
pub record AreLeft (sets : List (List Mapping)) (loaded : List Words) (opened : List OpenedNamespace) (words : List (List (List ℕ))) (now : List Words) : Type 0 where
  pub each : (k : ℕ) (o : OpenedNamespace) (parts : List (List ℕ)) → slice_get opened k ≡ Some o → slice_get words k ≡ Some parts → IsLeft sets now o parts
  pub settled : AreSettled now
  -- no other word has changed since the words were loaded
  pub beside : KeepsBeside sets opened loaded now
