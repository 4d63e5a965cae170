-- A journal of sessions' commands, if power is cut after so many steps on labels: what each entry replies, and the label areas at
-- its end.
use Rattle.std.specs.Prelude.{◌≡◌, ⊤, ℕ, List, [], ◌∷◌, Option, Some, None, Err, MatchBool}
use Rattle.std.specs.List.{AllByRecursion}
use Rattle.nvd_words.specs.Checks.{value_unless}
use Rattle.cut_words.specs.Fuses.{burnt, lasts}
use Rattle.nfit_reader.specs.declared.table.Mapping.{Mapping}
use Rattle.namespace_map.specs.declared.refused.OpRefused.{OpRefused}
use Rattle.namespace_map.specs.declared.refused.OpRefused.TheVariants.{PowerCut}
use Rattle.namespace_map.specs.Areas.{Area, Change, IsLeftBy, steps_of_all}
use Rattle.namespace_map.specs.Changes.{changes_of}
use Rattle.namespace_map.specs.Commands.{refusal_of}
use Rattle.namespace_ops.specs.Entries.{JournalEntry}
use Rattle.namespace_ops.specs.Replay.{Kept, namespaces_with, kept_by}

-- why an entry's command is refused at its point
abbrev pub refusal_at : List (List Mapping) → Kept → JournalEntry → Option OpRefused
refusal_at sets k e = refusal_of (namespaces_with sets k) e.command

-- the label changes that it asks
abbrev pub changes_at : List (List Mapping) → Kept → JournalEntry → List Change
changes_at sets k e = changes_of (namespaces_with sets k) k.areas e.command

-- its steps: none if it is refused
abbrev pub steps_by : List (List Mapping) → Kept → JournalEntry → Option OpRefused → ℕ
steps_by sets k e (Some refused) = 0
steps_by sets k e None = steps_of_all k.areas (changes_at sets k e)

abbrev pub steps_at : List (List Mapping) → Kept → JournalEntry → ℕ
steps_at sets k e = steps_by sets k e (refusal_at sets k e)

-- what it leaves, with power to its end
abbrev pub kept_with : List (List Mapping) → Kept → JournalEntry → Kept
kept_with sets k e = kept_by sets k e.command (refusal_at sets k e)

abbrev pub IsOff : JournalEntry → Type 0
IsOff e = e.reply ≡ Err PowerCut

-- Each entry replies what its command does at its point, until the steps of one pass those that power lasts for: that one and all
-- later ones reply that power was cut. None replies out of memory.
unfoldable pub IsJournal : List (List Mapping) → Kept → Option ℕ → List JournalEntry → Type 0
IsJournal sets k fuse [] = ⊤
IsJournal sets k fuse (e ∷ es) =
    MatchBool (lasts fuse (steps_at sets k e))
    ((e.reply ≡ value_unless tt (refusal_at sets k e)) × IsJournal sets (kept_with sets k e) (burnt fuse (steps_at sets k e)) es)
    (IsOff e × AllByRecursion IsOff es)

-- the areas after a cut in an entry's label changes, which comes after the steps that power still lasts for
abbrev pub IsCutIn : List (List Mapping) → Kept → Option ℕ → JournalEntry → List (Option Area) → Type 0
IsCutIn sets k fuse e left = (steps : ℕ) × (fuse ≡ Some steps) × IsLeftBy k.areas (changes_at sets k e) steps left

-- the areas at the journal's end: as its commands made them, or as they are after the cut in one of these
unfoldable pub AreLeft : List (List Mapping) → Kept → Option ℕ → List JournalEntry → List (Option Area) → Type 0
AreLeft sets k fuse [] left = left ≡ k.areas
AreLeft sets k fuse (e ∷ es) left =
    MatchBool (lasts fuse (steps_at sets k e))
    (AreLeft sets (kept_with sets k e) (burnt fuse (steps_at sets k e)) es left)
    (IsCutIn sets k fuse e left)
