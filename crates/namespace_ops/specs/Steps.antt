-- The steps of a journal: how many stores and flushes its commands take, and at which command a power cut comes.
use Rattle.std.specs.Prelude.{◌≡◌, ℕ, ◌+◌, true, false, if◌then◌else◌, List, [], ◌∷◌, ◌++◌, Option, Some, None}
use Rattle.std.specs.List.{AllByRecursion}
use Rattle.cut_words.specs.Fuses.{burnt, lasts}
use Rattle.nfit_reader.specs.declared.table.Mapping.{Mapping}
use Rattle.namespace_map.specs.declared.commands.Command.{Command}
use Rattle.namespace_map.specs.declared.refused.OpRefused.{OpRefused}
use Rattle.namespace_map.specs.Areas.{steps_of_all}
use Rattle.namespace_map.specs.Changes.{changes_of}
use Rattle.namespace_map.specs.Commands.{refusal_of}
use Rattle.namespace_ops.specs.Carried.{is_cut}
use Rattle.namespace_ops.specs.Entries.{JournalEntry}
use Rattle.namespace_ops.specs.Counted.{Answered, State, steps_before}
use Rattle.namespace_ops.specs.Replay.{Kept, is_memory, kept_after, namespaces_with}
use Rattle.namespace_ops.specs.Registered.{kept_of}

-- the steps of a command: those of an arena's format, and those of its label changes; a refused command has none
abbrev pub steps_unless : List (List Mapping) → Kept → Command → Option OpRefused → ℕ
steps_unless sets k c (Some f) = 0
steps_unless sets k c None = steps_before c + steps_of_all k.areas (changes_of (namespaces_with sets k) k.areas c)

-- those of an entry, on what its command began with; without memory it makes none
abbrev pub steps_of_entry : List (List Mapping) → Kept → JournalEntry → ℕ
steps_of_entry sets k e = if is_memory e.reply then 0 else steps_unless sets k e.command (refusal_of (namespaces_with sets k) e.command)

-- those of a journal, entry after entry
unfoldable pub steps_of : List (List Mapping) → Kept → List JournalEntry → ℕ
steps_of sets k [] = 0
steps_of sets k (e ∷ es) = steps_of_entry sets k e + steps_of sets (kept_after sets k e) es

-- Calls one after another under one fuse: each is answered on what the one before left, with the rest of its fuse.
unfoldable pub Follow : State → Option ℕ → List JournalEntry → State → Option ℕ → Type 0
Follow s fuse [] now left = (now ≡ s) × (left ≡ fuse)
Follow s fuse (e ∷ es) now left = (mid : State) × (rest : Option ℕ) × Answered s mid fuse rest e.command e.reply × Follow mid rest es now left

-- power is on, and no reply says that it was cut
abbrev pub AreUncut : List JournalEntry → Type 0
AreUncut es = AllByRecursion (λ e. is_cut e.reply ≡ false) es

-- a law: until power is cut the fuse lasts for the journal's steps, and is less by them
abbrev pub JournalsSpendTheirSteps : Type 0
JournalsSpendTheirSteps = (s now : State) (fuse left : Option ℕ) (es : List JournalEntry) → s.stopped ≡ false → Follow s fuse es now left → AreUncut es
    → (lasts fuse (steps_of s.sets (kept_of s) es) ≡ true) × (left ≡ burnt fuse (steps_of s.sets (kept_of s) es))

-- a law: the first PowerCut stands at the entry with whose steps the sum passes the fuse
abbrev pub CutsPassTheFuse : Type 0
CutsPassTheFuse = (s now : State) (fuse left : Option ℕ) (before later : List JournalEntry) (e : JournalEntry) → s.stopped ≡ false → Follow s fuse (before ++ e ∷ later) now left → AreUncut before → is_cut e.reply ≡ true
    → (lasts fuse (steps_of s.sets (kept_of s) before) ≡ true) × (lasts fuse (steps_of s.sets (kept_of s) (before ++ e ∷ [])) ≡ false)
