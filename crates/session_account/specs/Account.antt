-- The account of a script's sessions: its lines, their replies, the journal and the histories, held against one another.
use Rattle.std.specs.Prelude.{◌≡◌, ◌⊎◌, ℕ, ◌+◌, ◌<◌, ◌≤◌, Bool, true, false, IsTrue, List, [], ◌∷◌, ◌++◌, length, slice_index_or, Some, None, IsSome}
use Rattle.std.specs.List.{list_any, AllByRecursion}
use Rattle.namespace_ops.specs.Entries.{JournalEntry}
use Rattle.namespace_ops.specs.Carried as answer
use Rattle.lane_core.specs.declared.history.Entry.{Entry as HistoryEntry}
use Rattle.session_script.specs.declared.script.Line.{Line}
use Rattle.session_account.specs.declared.reply.Reply.{Reply}
use Rattle.session_script.specs.declared.script.Script.{Script}
use Rattle.session_script.specs.declared.script.SessionLines.{SessionLines}
use Rattle.session_account.specs.Survival.{Flight}
use Rattle.session_account.specs.Serving.{Serving, IsArena}
use Rattle.session_account.specs.Made.{made_by, has_cut, is_cut_last}
use Rattle.session_account.specs.Orders.{InJournal, own_entries}
use Rattle.session_account.specs.Orders as orders
use Rattle.session_account.specs.Sectors.{ChecksExactly, IsOfKind, InHistory, own_stands, steps_in, flights_of}
use Rattle.session_account.specs.Sectors as sectors

-- the history of each arena, by the place of its namespace and its number there
abbrev pub Histories : Type 0
Histories = ℕ → ℕ → List HistoryEntry

-- ---- one session

-- only the last reply may be a cut; if none is, each call has a reply
pub record IsCutLast (lines : List Line) (replies : List Reply) : Type 0 where
  pub few : length replies ≤ length lines
  pub last : is_cut_last replies ≡ true
  pub all : has_cut replies ≡ false → length replies ≡ length lines

-- a session that cuts power makes no more steps than it says
abbrev pub IsInTime : List Serving → SessionLines → List Reply → Type 0
IsInTime all session replies = (n : ℕ) → session.cut ≡ Some n → steps_in all (made_by session.calls replies) ≤ n

-- the account of session q
pub record Account (all : List Serving) (q : ℕ) (session : SessionLines) (replies : List Reply) (journal : List JournalEntry) (histories : Histories) : Type 0 where
  pub cut_last : IsCutLast session.calls replies
  pub in_time : IsInTime all session replies
  pub checked : AllByRecursion (ChecksExactly all) (made_by session.calls replies)
  pub kinds : AllByRecursion IsOfKind (made_by session.calls replies)
  pub commands : InJournal q session.calls replies (own_entries q journal)
  pub arenas : (place k : ℕ) → IsArena all place k → InHistory all place k (made_by session.calls replies) (own_stands q (histories place k))

-- ---- all sessions

abbrev pub no_lines : SessionLines
no_lines = record { cut = None; calls = [] }

abbrev pub session_at : Script → ℕ → SessionLines
session_at script q = slice_index_or script.sessions q no_lines

abbrev pub replies_at : List (List Reply) → ℕ → List Reply
replies_at replies q = slice_index_or replies q []

-- a session that cuts power was cut itself
abbrev pub CutItself : Script → List (List Reply) → ℕ → Type 0
CutItself script replies q = (q < length script.sessions) × IsSome (session_at script q).cut × IsTrue (has_cut (replies_at replies q))

abbrev pub has_cut_entry : List JournalEntry → Bool
has_cut_entry journal = list_any (λ e. answer.is_cut e.reply) journal

-- power was cut in a command
abbrev pub CutInCommand : Script → List JournalEntry → Type 0
CutInCommand script journal = IsSome script.labelcut × IsTrue (has_cut_entry journal)

-- a reply is a cut only if a session that cuts power was cut itself, or power was cut in a command
abbrev pub CutHasCause : Script → List (List Reply) → List JournalEntry → Type 0
CutHasCause script replies journal =
    (q : ℕ) → IsTrue (has_cut (replies_at replies q)) → ((r : ℕ) × CutItself script replies r) ⊎ CutInCommand script journal

pub record Accounts (all : List Serving) (script : Script) (replies : List (List Reply)) (journal : List JournalEntry) (histories : Histories) : Type 0 where
  pub count : length replies ≡ length script.sessions
  pub each : (q : ℕ) → q < length script.sessions → Account all q (session_at script q) (replies_at replies q) journal histories
  pub cause : CutHasCause script replies journal
  -- and nothing stands of a session that there isn't
  pub no_entry : orders.IsOfSessions (length script.sessions) journal
  pub no_stand : (place k : ℕ) → IsArena all place k → sectors.IsOfSessions (length script.sessions) (histories place k)

-- ---- calls in flight on an arena, session after session

abbrev pub flights_from : List Serving → ℕ → ℕ → List HistoryEntry → ℕ → List SessionLines → List (List Reply) → List Flight
flights_from all place k history q [] replies = []
flights_from all place k history q (session ∷ sessions) [] = []
flights_from all place k history q (session ∷ sessions) (own ∷ replies) =
    flights_of all place k history q (made_by session.calls own) ++ flights_from all place k history (q + 1) sessions replies

abbrev pub flights_on : List Serving → ℕ → ℕ → Script → List (List Reply) → Histories → List Flight
flights_on all place k script replies histories = flights_from all place k (histories place k) 0 script.sessions replies
