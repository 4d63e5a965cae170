-- The words of the label areas at the end of a journal of sessions' commands. UEFI 2.10, section 13.19 (index blocks, label slots); the
-- stores and keeps of a command, and their order, are those of `namespace_areas`.
use Rattle.std.specs.Prelude.{◌≡◌, ℕ, List, [], ◌∷◌, Option, Some, None, MatchBool}
use Rattle.cut_words.specs.Words.{Words}
use Rattle.cut_words.specs.Fuses.{burnt, lasts}
use Rattle.nfit_reader.specs.declared.table.Mapping.{Mapping}
use Rattle.namespace_areas.specs.Steps.{Rows, all_rows, all_settled, words_after}
use Rattle.namespace_map.specs.declared.refused.OpRefused.{OpRefused}
use Rattle.namespace_ops.specs.Entries.{JournalEntry}
use Rattle.namespace_ops.specs.Replay.{Kept}
use Rattle.session_account.specs.Journal.{changes_at, kept_with, refusal_at, steps_at}

-- the words that an entry's command makes of these: the same if it is refused
abbrev pub words_by : List (List Mapping) → Kept → JournalEntry → Rows → Option OpRefused → Rows
words_by sets k e rows (Some refused) = rows
words_by sets k e rows None = all_rows rows (changes_at sets k e)

-- those that it leaves, with power to its end
abbrev pub words_with : List (List Mapping) → Kept → JournalEntry → Rows → Rows
words_with sets k e rows = words_by sets k e rows (refusal_at sets k e)

-- the words at a cut in an entry's label changes: those after as many of their stores and keeps as power still lasted for, and no other
abbrev pub HoldAtCut : List (List Mapping) → Kept → Rows → Option ℕ → JournalEntry → List (Option Words) → Type 0
HoldAtCut sets k rows fuse e words = (steps : ℕ) × (fuse ≡ Some steps) × (words ≡ words_after rows (changes_at sets k e) steps)

-- The words at the journal's end, if the areas began with these: those that its commands made, none of them pending; or those at the cut
-- in one of these.
unfoldable pub AreasHold : List (List Mapping) → Kept → Rows → Option ℕ → List JournalEntry → List (Option Words) → Type 0
AreasHold sets k rows fuse [] words = words ≡ all_settled rows
AreasHold sets k rows fuse (e ∷ es) words =
    MatchBool (lasts fuse (steps_at sets k e))
    (AreasHold sets (kept_with sets k e) (words_with sets k e rows) (burnt fuse (steps_at sets k e)) es words)
    (HoldAtCut sets k rows fuse e words)
