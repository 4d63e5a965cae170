-- The sectors of a namespace in an image set: its words, spread over the modules' contents, hold its arenas. UEFI 2.10, section 6.3 (BTT
-- theory of operation); where the words lie is ACPI 6.5, section 5.2.25.4.
use Rattle.std.specs.Prelude.{◌≡◌, ℕ, ◌+◌, ◌*◌, ◌%◌, ◌<◌, ◌≤◌, ◌==◌, if◌then◌else◌, List, length, map, None, Result, Err}
use Rattle.nfit_reader.specs.declared.table.Mapping.{Mapping}
use Rattle.interleave.specs.Places.{unit_of}
use Rattle.interleave.specs.Sound.{span_of}
use Rattle.cut_words.specs.Words.{Words, settled}
use Rattle.cut_words.specs.WordBytes.{words_in}
use Rattle.arena_layout.specs.declared.info.InfoFault.TheVariants as info
use Rattle.arena_open.specs.declared.refused.OpenRefused.TheVariants as refused
use Rattle.arena_open.specs.declared.state.ArenaState.{ArenaState}
use Rattle.arena_open.specs.declared.chain_refused.ChainRefused.{ChainRefused}
use Rattle.arena_open.specs.Chain.{chain_answer}
use Rattle.power_cut.specs.Namespace.{words_of, over, ReachEnds}
use Rattle.image_set.specs.Limits.{most_contents}
use Rattle.namespace_areas.specs.declared.found.Found.{Found}
use Rattle.namespace_areas.specs.Finding.{set_at}

-- the words of modules that have these bytes, the low byte first
abbrev pub rows_of : List (List ℕ) → List Words
rows_of contents = map (λ bytes. settled (words_in bytes)) contents

-- the words of a namespace of a region's set, over those of the modules
unfoldable pub view_words : List Mapping → Found → List Words → List ℕ
view_words set found rows = (words_of (over set found.offset found.raw rows)).kept

-- the arenas in a namespace's words, with power that stays on; a namespace without words has no info block
unfoldable pub opened_view : List ℕ → List ℕ → Result (List ArenaState) ChainRefused
opened_view words uuid =
    if length words == 0 then Err (record { arena = 0; fault = refused.Info info.Signature }) else chain_answer None words uuid 0

-- a namespace that was found lies in its region's set, in whole units
pub record LiesOn (set : List Mapping) (found : Found) : Type 0 where
  pub from : found.offset % unit_of set ≡ 0
  pub to : found.raw % unit_of set ≡ 0
  pub inside : found.offset + found.raw ≤ span_of set

-- ---- sets in which a namespace can be opened

-- the unit is whole pages, the modules have the words of all mappings, and the set is no longer than all contents may be
pub record IsUsable (set : List Mapping) (rows : List Words) : Type 0 where
  pub pages : (count : ℕ) × (unit_of set ≡ 4096 * (count + 1))
  pub reach : ReachEnds set rows
  pub short : length set * span_of set ≤ most_contents

abbrev pub AreUsable : List (List Mapping) → List Words → Type 0
AreUsable sets rows = (region : ℕ) → region < length sets → IsUsable (set_at sets region) rows
