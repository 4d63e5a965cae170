-- What sessions came to.
use Rattle.std.specs.Prelude.{◌≡◌, ℕ, ◌<◌, true, false, List, [], ◌∷◌, ◌++◌, length, map, Option, Vec, slice_index_or}
use Rattle.turn_lock.specs.Rows.{items_at}
use Rattle.cut_words.specs.Words.{Words}
use Rattle.namespace_areas.specs.Seen.{AreHeld, AreLeft as AreasLeft, areas_seen, areas_shown, words_of}
use Rattle.namespace_areas.specs.Steps.{rows_of}
use Rattle.namespace_ops.specs.Entries.{JournalEntry}
use Rattle.namespace_ops.specs.Registered.{Registered, opening_of}
use Rattle.arena_open.specs.declared.state.ArenaState.{ArenaState}
use Rattle.lane_core.specs.declared.history.Entry.{Entry as HistoryEntry}
use Rattle.lane_core.specs.History.{IsLegal}
use Rattle.lane_core.specs.Reopening.{first_cells}
use Rattle.session_script.specs.declared.script.Script.{Script}
use Rattle.session_account.specs.declared.reply.Reply.{Reply}
use Rattle.session_account.specs.Account.{Accounts, Histories, flights_on}
use Rattle.session_account.specs.Journal.{AreLeft, IsJournal}
use Rattle.session_account.specs.Survival.{Flight}
use Rattle.session_account.specs.Words.{AreasHold}
use Rattle.registry_service.specs.Served.{AreKept, answered}
use Rattle.session_texts.specs.Texts.{replies_text}
use Rattle.session_service.specs.declared.ending.Ran.{Ran}
use Rattle.session_service.specs.declared.namespaces.ServedNamespace.{ServedNamespace}
use Rattle.session_service.specs.Ends.{IsAtCut}
use Rattle.session_service.specs.Namespaces.{servings_of}

-- the arenas of all namespaces in one row
abbrev pub in_row : {X Z : Type 0} → List (Vec X Z) → List X
in_row [] = []
in_row (v ∷ arenas) = v.items ++ in_row arenas

abbrev pub texts_of : {Z : Type 0} → List (Vec ℕ Z) → List (List ℕ)
texts_of texts = map (λ v. v.items) texts

-- the entries of the calls that were answered
abbrev pub journal_of : Ran → List JournalEntry
journal_of ran = answered ran.registry.journal

-- The words of an arena after the sessions, and its history.
pub record IsRunArena (state : ArenaState) (history : List HistoryEntry) (flights : List Flight) (words : Words) : Type 0 where
  pub legal : IsLegal (first_cells state) history
  pub at_cut : IsAtCut state history flights words

-- What the sessions of a script came to, on a registry and on namespaces that were opened.
pub record HasServed (registry : Registered) (served : List ServedNamespace) (script : Script) (ran : Ran) : Type 0 where
  -- what each session was answered, and its lines
  pub replies : List (List Reply)
  pub texts : texts_of ran.texts.items ≡ map replies_text replies
  -- of each arena the calls that stand, by namespace and then by arena
  pub histories : Histories
  pub sets : ran.registry.sets ≡ registry.sets
  -- an area that isn't ready is as it was, each has its size, and unless power was cut none stands in the middle of a change
  pub areas : AreKept registry.areas ran.registry.areas ran.registry.stopped
  -- the journal's replies are those of its commands, with power as long as the script says
  pub commands : IsJournal registry.sets (opening_of registry) script.labelcut (journal_of ran)
  -- if power lasted for all commands, the label areas are those of the journal's end
  pub on : ran.registry.stopped ≡ false → AreLeft registry.sets (opening_of registry) script.labelcut (journal_of ran) (areas_seen ran.registry.areas)
  -- if not, they are in the state after a crash in the command in which it was cut
  pub off : ran.registry.stopped ≡ true → (rows : List (Option (List ℕ))) → AreasLeft ran.registry.areas rows → AreLeft registry.sets (opening_of registry) script.labelcut (journal_of ran) (areas_shown rows)
  -- either way their words are those that the commands stored and flushed, as long as power lasted, if no area stood in the middle of a
  -- change at first
  pub words : AreHeld registry.opening → AreasHold registry.sets (opening_of registry) (rows_of registry.opening) script.labelcut (journal_of ran) (map words_of ran.registry.areas)
  -- each session's replies are those of what stands of it
  pub accounts : Accounts (servings_of served) script replies (journal_of ran) histories
  pub places : length ran.arenas.items ≡ length served
  pub counts : (place : ℕ) (n : ServedNamespace) → place < length served → length (items_at ran.arenas.items place) ≡ length (slice_index_or served place n).arenas.items
  pub arenas : (place k : ℕ) (n : ServedNamespace) (state : ArenaState) (words : Words) → place < length served → k < length (slice_index_or served place n).arenas.items
      → IsRunArena (slice_index_or (slice_index_or served place n).arenas.items k state) (histories place k)
      (flights_on (servings_of served) place k script replies histories)
      (slice_index_or (items_at ran.arenas.items place) k words)
