-- How the registry's own promises make a journal of sessions' commands.
use Rattle.std.specs.Prelude.{◌≡◌, ◌≢◌, ◌⊎◌, ⊤, ℕ, None, true, false, List, [], ◌∷◌, ◌++◌, map, Option, Err}
use Rattle.std.specs.List.{AllByRecursion}
use Rattle.nvd_words.specs.Checks.{value_unless}
use Rattle.cut_words.specs.Fuses.{burnt, lasts}
use Rattle.nfit_reader.specs.declared.table.Mapping.{Mapping}
use Rattle.nvd_words.specs.declared.tag.Tag.{Tag}
use Rattle.namespace_areas.specs.declared.area.Area.{Area}
use Rattle.namespace_map.specs.declared.commands.Command.{Command}
use Rattle.namespace_map.specs.declared.commands.Command.TheVariants as command
use Rattle.namespace_map.specs.Commands.{done, refusal_of}
use Rattle.namespace_map.specs.Namespaces.{Namespaces}
use Rattle.namespace_map.specs.declared.refused.OpRefused.TheVariants.{OutOfMemory}
use Rattle.namespace_areas.specs.Seen.{AreLeft as AreasLeft, areas_shown, words_of}
use Rattle.namespace_areas.specs.Steps.{Rows, all_settled, rows_of}
use Rattle.namespace_ops.specs.Entries.{JournalEntry, Reply}
use Rattle.namespace_ops.specs.Counted.{State, Answered, makes_sectors}
use Rattle.namespace_ops.specs.Registered.{kept_of}
use Rattle.namespace_ops.specs.Replay.{Kept}
use Rattle.session_account.specs.Journal.{refusal_at, steps_at, kept_with, IsOff, IsJournal, IsCutIn, AreLeft}
use Rattle.session_account.specs.Words.{AreasHold, HoldAtCut, words_with}

-- ---- one call

-- power lasted for an entry; `rows` and `rows'` are the words of the label areas before it and behind it
pub record WentOn (sets : List (List Mapping)) (k k' : Kept) (rows rows' : Rows) (fuse left : Option ℕ) (e : JournalEntry) : Type 0 where
  pub lasted : lasts fuse (steps_at sets k e) ≡ true
  pub reply : e.reply ≡ value_unless tt (refusal_at sets k e)
  pub kept : k' ≡ kept_with sets k e
  pub words : rows' ≡ words_with sets k e rows
  pub left_is : left ≡ burnt fuse (steps_at sets k e)

-- it didn't: the areas are those after a cut in the entry's label changes, and their words those after the steps that power lasted for
pub record WentOff (sets : List (List Mapping)) (k : Kept) (rows : Rows) (fuse : Option ℕ) (e : JournalEntry) (areas : List Area) : Type 0 where
  pub short : lasts fuse (steps_at sets k e) ≡ false
  pub off : IsOff e
  pub cut : (left : List (Option (List ℕ))) → AreasLeft areas left → IsCutIn sets k fuse e (areas_shown left)
  pub words : HoldAtCut sets k rows fuse e (map words_of areas)

-- a law: what the registry promises of a call that makes no sectors says so
abbrev pub AnswersMakeEntries : Type 0
AnswersMakeEntries =
    (old new : State) (fuse left : Option ℕ) (tag : Tag) (c : Command) (reply : Reply) → Answered old new fuse left c reply → makes_sectors c ≡ false
    → old.stopped ≡ false → reply ≢ Err OutOfMemory
    → WentOn old.sets (kept_of old) (kept_of new) (rows_of old.areas) (rows_of new.areas) fuse left (record { tag = tag; command = c; reply = reply })
    ⊎ WentOff old.sets (kept_of old) (rows_of old.areas) fuse (record { tag = tag; command = c; reply = reply }) new.areas

-- ---- a journal

abbrev pub end_kept : List (List Mapping) → Kept → List JournalEntry → Kept
end_kept sets k [] = k
end_kept sets k (e ∷ es) = end_kept sets (kept_with sets k e) es

abbrev pub end_words : List (List Mapping) → Kept → Rows → List JournalEntry → Rows
end_words sets k rows [] = rows
end_words sets k rows (e ∷ es) = end_words sets (kept_with sets k e) (words_with sets k e rows) es

abbrev pub end_fuse : List (List Mapping) → Kept → Option ℕ → List JournalEntry → Option ℕ
end_fuse sets k fuse [] = fuse
end_fuse sets k fuse (e ∷ es) = end_fuse sets (kept_with sets k e) (burnt fuse (steps_at sets k e)) es

-- power lasted for all of it
unfoldable pub AllOn : List (List Mapping) → Kept → Option ℕ → List JournalEntry → Type 0
AllOn sets k fuse [] = ⊤
AllOn sets k fuse (e ∷ es) =
    (lasts fuse (steps_at sets k e) ≡ true) × (e.reply ≡ value_unless tt (refusal_at sets k e)) × AllOn sets (kept_with sets k e) (burnt fuse (steps_at sets k e)) es

-- what a lock round the registry keeps of it, of the areas' words and of the fuse, until power is cut
pub record IsOn (sets : List (List Mapping)) (from : Kept) (rows : Rows) (fuse : Option ℕ) (journal : List JournalEntry) (now : Kept) (words : Rows) (left : Option ℕ) : Type 0 where
  pub all : AllOn sets from fuse journal
  pub kept : end_kept sets from journal ≡ now
  pub words_are : end_words sets from rows journal ≡ words
  pub left_is : end_fuse sets from fuse journal ≡ left

-- a law: it stays so by an entry for which power lasted
abbrev pub OnGrows : Type 0
OnGrows =
    (sets : List (List Mapping)) (from now now' : Kept) (rows words words' : Rows) (fuse left left' : Option ℕ) (journal : List JournalEntry) (e : JournalEntry)
    → IsOn sets from rows fuse journal now words left → WentOn sets now now' words words' left left' e → IsOn sets from rows fuse (journal ++ e ∷ []) now' words' left'

-- a law: it is a journal, its areas are those of its end, and so are their words, none of them pending
abbrev pub OnIsJournal : Type 0
OnIsJournal =
    (sets : List (List Mapping)) (from now : Kept) (rows words : Rows) (fuse left : Option ℕ) (journal : List JournalEntry) → IsOn sets from rows fuse journal now words left
    → IsJournal sets from fuse journal × AreLeft sets from fuse journal now.areas × AreasHold sets from rows fuse journal (all_settled words)

-- a law: with an entry for which power didn't last, and later ones that all say so, it is one too; its areas are those after that cut,
-- and their words those that were stored and kept before it
abbrev pub OffIsJournal : Type 0
OffIsJournal =
    (sets : List (List Mapping)) (from now : Kept) (rows words : Rows) (fuse left : Option ℕ) (journal later : List JournalEntry) (e : JournalEntry) (areas : List Area)
    → IsOn sets from rows fuse journal now words left → WentOff sets now words left e areas → AllByRecursion IsOff later
    → IsJournal sets from fuse (journal ++ e ∷ later) × ((crash : List (Option (List ℕ))) → AreasLeft areas crash → AreLeft sets from fuse (journal ++ e ∷ later) (areas_shown crash))
    × AreasHold sets from rows fuse (journal ++ e ∷ later) (map words_of areas)

-- ---- which namespaces may be claimed

abbrev pub IsClaimable : Namespaces → List ℕ → Type 0
IsClaimable ns uuid = refusal_of ns (command.Claim uuid) ≡ None

-- a law: what may be claimed after a command could be claimed before it; so each namespace that is ever claimed is one that was opened
abbrev pub ClaimableBefore : Type 0
ClaimableBefore = (ns : Namespaces) (c : Command) (uuid : List ℕ) → makes_sectors c ≡ false → refusal_of ns c ≡ None → IsClaimable (done ns c) uuid → IsClaimable ns uuid
