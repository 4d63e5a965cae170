-- What a journal says of the namespaces on which it is replayed: this project's rules.
use Rattle.std.specs.Prelude.{◌≡◌, ◌≢◌, ⊤, ℕ, Bool, true, false, if◌then◌else◌, List, [], ◌∷◌, Option, Some, None, Err}
use Rattle.std.specs.List.{AllByRecursion}
use Rattle.nvd_words.specs.Checks.{value_unless}
use Rattle.nfit_reader.specs.declared.table.Mapping.{Mapping}
use Rattle.namespace_map.specs.Namespaces.{Namespaces}
use Rattle.namespace_map.specs.declared.commands.Command.{Command}
use Rattle.namespace_map.specs.declared.refused.OpRefused.{OpRefused}
use Rattle.namespace_map.specs.declared.refused.OpRefused.TheVariants.{OutOfMemory}
use Rattle.namespace_map.specs.Areas.{Area as SeenArea, all_changed}
use Rattle.namespace_map.specs.Changes.{changes_of, namespaces_of}
use Rattle.namespace_map.specs.Commands.{done, refusal_of, step}
use Rattle.namespace_ops.specs.Carried.{is_cut}
use Rattle.namespace_ops.specs.Entries.{JournalEntry, Reply}
use Rattle.namespace_ops.specs.Counted.{with_claims}

-- ---- on namespaces

-- memory wasn't found
abbrev pub is_memory : Reply → Bool
is_memory (Err OutOfMemory) = true
is_memory reply = false

-- what an entry leaves: its command's step; without memory nothing changes
abbrev pub after_entry : Namespaces → JournalEntry → Namespaces
after_entry ns e = if is_memory e.reply then ns else (step ns e.command).1

-- what a journal leaves, entry after entry
unfoldable pub replayed : Namespaces → List JournalEntry → Namespaces
replayed ns [] = ns
replayed ns (e ∷ es) = replayed (after_entry ns e) es

-- each reply is that of its command's step, unless memory ran out
unfoldable pub AreReplies : Namespaces → List JournalEntry → Type 0
AreReplies ns [] = ⊤
AreReplies ns (e ∷ es) = (e.reply ≢ Err OutOfMemory → e.reply ≡ value_unless tt (refusal_of ns e.command)) × AreReplies (after_entry ns e) es

-- ---- on label areas

-- label areas, by what they show, and how often UUIDs are claimed
pub record Kept : Type 0 where
  pub areas : List (Option SeenArea)
  pub claims : List (List ℕ × ℕ)

-- their namespaces
abbrev pub namespaces_with : List (List Mapping) → Kept → Namespaces
namespaces_with sets k = with_claims (namespaces_of sets k.areas) k.claims

-- a command that isn't refused makes its label changes, and counts
abbrev pub kept_by : List (List Mapping) → Kept → Command → Option OpRefused → Kept
kept_by sets k c (Some f) = k
kept_by sets k c None = record { areas = all_changed k.areas (changes_of (namespaces_with sets k) k.areas c); claims = (done (namespaces_with sets k) c).claims }

abbrev pub kept_after : List (List Mapping) → Kept → JournalEntry → Kept
kept_after sets k e = if is_memory e.reply then k else kept_by sets k e.command (refusal_of (namespaces_with sets k) e.command)

unfoldable pub remade : List (List Mapping) → Kept → List JournalEntry → Kept
remade sets k [] = k
remade sets k (e ∷ es) = remade sets (kept_after sets k e) es

-- ---- a journal, what it is replayed on, and what it gives

pub record Gives (sets : List (List Mapping)) (from : Kept) (journal : List JournalEntry) (to : Kept) : Type 0 where
  -- replayed, it gives these namespaces with these claims
  pub replay : replayed (namespaces_with sets from) journal ≡ namespaces_with sets to
  -- its replies are those of the commands
  pub replies : AreReplies (namespaces_with sets from) journal
  -- the label changes of its commands, made one after another, give these areas
  pub changes : remade sets from journal ≡ to
  -- and power was on
  pub uncut : AllByRecursion (λ e. is_cut e.reply ≡ false) journal
