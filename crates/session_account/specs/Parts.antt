-- What each lock lets a session know, and what a session keeps, so that the account follows when the locks are closed.
use Rattle.std.specs.Prelude.{◌≡◌, ◌≢◌, ◌⊎◌, ℕ, ◌<◌, ◌≤◌, ◌==◌, Bool, false, IsTrue, List, [], ◌∷◌, ◌++◌, filter, length, slice_index_or, Option, Some, None, IsSome, Any, Ok, Err}
use Rattle.std.specs.List.{AllByRecursion}
use Rattle.arena_open.specs.declared.cell.Cell.{Cell}
use Rattle.nvd_words.specs.declared.tag.Tag.{Tag}
use Rattle.namespace_map.specs.declared.commands.Command.{Command}
use Rattle.namespace_map.specs.declared.commands.Command.TheVariants as command
use Rattle.namespace_ops.specs.Entries.{JournalEntry, Reply as Answer}
use Rattle.namespace_ops.specs.Room.{room_of}
use Rattle.lane_core.specs.declared.history.Act.{Act}
pub use Rattle.lane_core.specs.declared.in_call.InCall.{InCall}
pub use Rattle.session_parts.specs.declared.parts.CorePart.{CorePart}
pub use Rattle.session_parts.specs.Parts.{calls_by, part_by}
use Rattle.lane_core.specs.History.{Cells, end_of}
use Rattle.lane_core.specs.Sessions.{CoreSurvives}
use Rattle.session_account.specs.Survival.{Survives}
use Rattle.lane_core.specs.declared.history.Entry.{Entry as HistoryEntry}
use Rattle.session_script.specs.declared.script.Line.{Line}
use Rattle.session_account.specs.declared.reply.Reply.{Reply}
use Rattle.session_script.specs.declared.script.Script.{Script}
use Rattle.session_script.specs.declared.script.SessionLines.{SessionLines}
use Rattle.session_account.specs.Serving.{Serving, IsArena}
use Rattle.session_account.specs.Made.{Made, made, made_by, on_end, has_cut, uncut, cut_of}
use Rattle.session_account.specs.Orders.{InJournal, own_entries, entries_for}
use Rattle.session_account.specs.Sectors.{Stand, ChecksExactly, IsOfKind, InHistory, own_stands, stand, stands_of}
use Rattle.session_account.specs.Account.{has_cut_entry, IsCutLast, IsInTime, Histories, Accounts, session_at, replies_at, flights_on}

-- ---- the registry's lock

-- a session's entries of the journal, and for how many more it has room. Which namespace it has open follows from its entries (`open_after`).
pub record RegistryPart : Type 0 where
  pub entries : List JournalEntry
  pub room : ℕ

abbrev pub registry_part : List JournalEntry → List ℕ → ℕ → RegistryPart
registry_part journal room q = record { entries = own_entries q journal; room = room_of room q }

-- the namespace that entries leave open
abbrev pub open_done : Option (List ℕ) → Command → Option (List ℕ)
open_done held (command.Claim uuid) = Some uuid
open_done held (command.Unclaim uuid) = None
open_done held other = held

abbrev pub open_with : Option (List ℕ) → Command → Answer → Option (List ℕ)
open_with held c (Ok done) = open_done held c
open_with held c (Err refused) = held

abbrev pub open_after : Option (List ℕ) → List JournalEntry → Option (List ℕ)
open_after held [] = held
open_after held (e ∷ es) = open_after (open_with held e.command e.reply) es

-- a law: the namespace that its entries leave open is the one that its replies say
abbrev pub OpenFollows : Type 0
OpenFollows =
    (all : List Serving) (q : ℕ) (lines : List Line) (replies : List Reply) → AllByRecursion (ChecksExactly all) (made_by lines replies)
    → open_after None (entries_for q (made_by lines replies)) ≡ on_end lines replies

-- ---- a core's lock

-- the lanes in calls of each core, by the place of its namespace and its number there
abbrev pub Calls : Type 0
Calls = ℕ → ℕ → List InCall

-- ---- the lock of the power

-- who switched power off: a session that cuts it, or the label side
pub data Who : Type 0 where
  itself : Who
  labels : Who

-- whether a session switched it off, and whether it was told that it is
pub record PowerPart : Type 0 where
  pub stopped : Option Who
  pub told : Bool

-- who was told was told what is so: somebody switched it off
abbrev pub ToldOfOne : ℕ → (ℕ → PowerPart) → Type 0
ToldOfOne count parts = (q : ℕ) → IsTrue (parts q).told → (r : ℕ) × (r < count) × IsSome (parts r).stopped

-- a session switches power off itself if it has a cut of its own, and is cut then; on the label side, if a command of its own was cut
abbrev pub HasCause : Script → SessionLines → List Reply → List JournalEntry → Option Who → Type 0
HasCause script session replies own None = Unit {0}
HasCause script session replies own (Some itself) = IsSome session.cut × IsTrue (has_cut replies)
HasCause script session replies own (Some labels) = IsSome script.labelcut × IsTrue (has_cut_entry own)

-- ---- a session

-- what a lane that is still in a session's call would do is what the call that was cut would; while its entry doesn't stand, there are
-- those of the other calls alone
pub record IsOfCut (all : List Serving) (place k : ℕ) (calls : List Made) (own : List Stand) (l : InCall) : Type 0 where
  pub call : (a : Act) → l.act ≡ Some a → stands_of all place k (cut_of calls) ≡ record { call = l.tag.call; sector = l.sector; act = a } ∷ []
  pub not_yet : l.entered ≡ false → own ≡ stands_of all place k (uncut calls)

-- What session q has come to, with what its passes know: at its end, and, but for `all` of its calls, after each of them.
pub record IsDone (all : List Serving) (script : Script) (q : ℕ) (replies : List Reply) (registry : RegistryPart) (cores : ℕ → ℕ → CorePart) (power : PowerPart) : Type 0 where
  pub cut_last : IsCutLast (session_at script q).calls replies
  pub in_time : IsInTime all (session_at script q) replies
  pub checked : AllByRecursion (ChecksExactly all) (made_by (session_at script q).calls replies)
  pub kinds : AllByRecursion IsOfKind (made_by (session_at script q).calls replies)
  pub commands : InJournal q (session_at script q).calls replies registry.entries
  pub arenas : (place k : ℕ) → IsArena all place k → InHistory all place k (made_by (session_at script q).calls replies) (cores place k).stands
  pub in_call : (place k : ℕ) → IsArena all place k → AllByRecursion (IsOfCut all place k (made_by (session_at script q).calls replies) (cores place k).stands) (cores place k).calls
  pub told : IsTrue (has_cut replies) → IsTrue power.told
  pub stopped : HasCause script (session_at script q) replies registry.entries power.stopped

-- what the locks give when they are closed: each session's passes know its parts, and nothing is of another
pub record AreClosed (all : List Serving) (count : ℕ) (journal : List JournalEntry) (room : List ℕ) (histories : Histories) (calls : Calls) (power : ℕ → PowerPart) : Type 0 where
  pub no_entry : (q : ℕ) → count ≤ q → own_entries q journal ≡ []
  pub no_stand : (place k q : ℕ) → IsArena all place k → count ≤ q → own_stands q (histories place k) ≡ []
  pub no_call : (place k : ℕ) → IsArena all place k → AllByRecursion (λ l. l.tag.session < count) (calls place k)
  pub told : ToldOfOne count power

-- a law: closed locks and sessions that are done imply the accounts
abbrev pub AccountsFollow : Type 0
AccountsFollow =
    (all : List Serving) (script : Script) (replies : List (List Reply)) (journal : List JournalEntry) (room : List ℕ) (histories : Histories) (calls : Calls) (power : ℕ → PowerPart)
    → length replies ≡ length script.sessions → AreClosed all (length script.sessions) journal room histories calls power
    → ((q : ℕ) → q < length script.sessions → IsDone all script q (replies_at replies q) (registry_part journal room q) (λ place k. part_by (histories place k) (calls place k) q) (power q))
    → Accounts all script replies journal histories

-- ---- what is left of an arena

-- a law: if the sessions are done, the contents survive by their accounts
abbrev pub SurvivalFollows : Type 0
SurvivalFollows =
    (all : List Serving) (script : Script) (replies : List (List Reply)) (journal : List JournalEntry) (room : List ℕ) (histories : Histories) (calls : Calls) (power : ℕ → PowerPart)
    → length replies ≡ length script.sessions → AreClosed all (length script.sessions) journal room histories calls power
    → ((q : ℕ) → q < length script.sessions → IsDone all script q (replies_at replies q) (registry_part journal room q) (λ place k. part_by (histories place k) (calls place k) q) (power q))
    → (place k : ℕ) → IsArena all place k → (opening left : Cells) (count : ℕ) → CoreSurvives opening (histories place k) (calls place k) count left
    → Survives opening (histories place k) (flights_on all place k script replies histories) count left

-- ---- the parts of others

-- a law: an entry of the journal leaves the parts of all sessions but its own, and adds itself to that
abbrev pub EntriesKeep : Type 0
EntriesKeep = (journal : List JournalEntry) (e : JournalEntry) (q : ℕ) → (e.tag.session ≢ q → own_entries q (journal ++ e ∷ []) ≡ own_entries q journal) × (e.tag.session ≡ q → own_entries q (journal ++ e ∷ []) ≡ own_entries q journal ++ e ∷ [])

-- ---- one call more

-- the call that comes next, with its answer
abbrev pub next_made : List Line → List Reply → Line → Reply → Made
next_made lines replies line answer = made (length replies) (on_end lines replies) line answer

abbrev pub more : List Reply → Reply → List Reply
more replies answer = replies ++ answer ∷ []

-- a law: one more reply is one more call made
abbrev pub MadeGrows : Type 0
MadeGrows = (lines : List Line) (replies : List Reply) (line : Line) (answer : Reply) → length replies < length lines → slice_index_or lines (length replies) line ≡ line
    → made_by lines (more replies answer) ≡ made_by lines replies ++ next_made lines replies line answer ∷ []
