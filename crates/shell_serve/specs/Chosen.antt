-- Words that weren't flushed when power was cut behind sessions, after the crash, as the chooser picks: this project's model of a power cut.
use Rattle.std.specs.Prelude.{◌≡◌, ℕ, ◌<◌, List, [], ◌++◌, flat_map, length, map, slice_index_or, Bool, Option, Some, Vec}
use Rattle.std.specs.Global.{Global}
use Rattle.cut_words.specs.Words.{Words}
use Rattle.nfit_reader.specs.declared.table.Mapping.{Mapping}
use Rattle.arena_open.specs.declared.state.ArenaState.{ArenaState}
use Rattle.lane_core.specs.declared.history.Entry.{Entry as HistoryEntry}
use Rattle.power_cut.specs.Left.{Each, InTurn, IsLeftOf, LeavesOption, LeavesWords}
use Rattle.namespace_areas.specs.Seen.{areas_shown}
use Rattle.namespace_map.specs.Areas.{Area}
use Rattle.served_namespaces.specs.declared.places.OpenedNamespace.{OpenedNamespace}
use Rattle.served_namespaces.specs.Places.{words_at}
use Rattle.served_namespaces.specs.Serving.{BeginsWith}
use Rattle.session_account.specs.Account.{Histories}
use Rattle.session_account.specs.Survival.{Flight}
use Rattle.session_service.specs.Ends.{IsAtCut}

-- ---- arenas

-- A namespace when power is cut and after it. Each of its arenas had words, of which a part is left, and whatever else could be left of
-- them is due too. The namespace's words begin with these parts.
pub record ArenasAtCut (o : OpenedNamespace) (now : List ℕ) (histories : ℕ → List HistoryEntry) (flights : ℕ → List Flight) (words : List Words) (parts : List (List ℕ)) : Type 0 where
  pub words_count : length words ≡ length o.states
  pub parts_count : length parts ≡ length o.states
  pub each : (k : ℕ) (d : ArenaState) (e : Words) → k < length o.states → IsAtCut (slice_index_or o.states k d) (histories k) (flights k) (slice_index_or words k e)
  pub begins : BeginsWith now o.states parts

-- the words of all arenas, in order of the namespaces, and then of their arenas
abbrev pub all_words : List (List Words) → List (Option Words)
all_words words = flat_map (map (λ (own : Words). Some own)) words

-- what is left of them, in the same order
abbrev pub words_left : List (List (List ℕ)) → List (Option (List ℕ))
words_left parts = flat_map (map (λ (part : List ℕ). Some part)) parts

-- Namespaces that were open, when power is cut and after it. `leaves` says what is left of their arenas' words. Of these a word is pending
-- exactly if it has two values, the kept one and another that a load returned.
pub record ArenasChosen (leaves : List (Option Words) → List (Option (List ℕ)) → Type 0) (sets : List (List Mapping)) (opened : List OpenedNamespace) (histories : Histories) (flights : ℕ → ℕ → List Flight) (now : List Words) : Type 0 where
  pub words : List (List Words)
  pub parts : List (List (List ℕ))
  pub words_count : length words ≡ length opened
  pub parts_count : length parts ≡ length opened
  pub each : (place : ℕ) (d : OpenedNamespace) → place < length opened
      → ArenasAtCut (slice_index_or opened place d) (words_at sets (slice_index_or opened place d).place.found now) (histories place) (flights place) (slice_index_or words place []) (slice_index_or parts place [])
  pub chosen : leaves (all_words words) (words_left parts)

-- ---- arenas and label areas

-- All words after the cut. `leaves` says what rows of words may be after it: first the arenas', and then the label areas'. `Hold` says
-- which words these hold, with what was stored since their last flush; whatever they could be after the cut is due.
pub record IsChosen (leaves : List (Option Words) → List (Option (List ℕ)) → Type 0) (Hold : List (Option Words) → Type 0) (IsDue : List (Option Area) → Type 0) (sets : List (List Mapping)) (opened : List OpenedNamespace) (histories : Histories)
    (flights : ℕ → ℕ → List Flight) (now : List Words) (labels : List (Option (List ℕ))) : Type 0 where
  pub pending : List (Option Words)
  pub hold : Hold pending
  pub due : (rows : List (Option (List ℕ))) → Each IsLeftOf pending rows → IsDue (areas_shown rows)
  pub arenas : ArenasChosen (λ words left. leaves (words ++ pending) (left ++ labels)) sets opened histories flights now

-- ---- one part after another

-- the words of a namespace's arenas, as the chooser picks
abbrev pub LeavesArenas : {C : Type 0} → (C → ℕ → Bool → C → Type 0) → Vec Words Global → List (List ℕ) → C → C → Type 0
LeavesArenas picks own parts before after = InTurn (LeavesWords picks) own.items parts before after

-- rows of words by a chooser that is begun from a seed, and its state behind them
abbrev pub LeavesTo : {C : Type 0} → (C → ℕ → C → Type 0) → (C → ℕ → Bool → C → Type 0) → C → ℕ → C → List (Option Words) → List (Option (List ℕ)) → Type 0
LeavesTo {C} begins picks choose seed after words left = (begun : C) × begins choose seed begun × InTurn (LeavesOption picks) words left begun after
