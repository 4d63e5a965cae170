-- A session between two of its calls: what it keeps and knows, and how one call more changes it.
use Rattle.std.specs.Prelude.{◌≡◌, ◌≢◌, ◌⊎◌, ℕ, ◌+◌, ◌<◌, ◌≤◌, Bool, true, false, IsTrue, List, [], ◌∷◌, ◌++◌, length, if◌then◌else◌, slice_index_or, option_to_list, Option, Some, None}
use Rattle.std.specs.List.{AllByRecursion}
use Rattle.namespace_ops.specs.Entries.{JournalEntry}
use Rattle.session_script.specs.declared.script.Line.{Line}
use Rattle.session_script.specs.declared.script.Line.TheVariants as line
use Rattle.session_script.specs.declared.payload.Payload.{Payload}
use Rattle.session_account.specs.declared.reply.Reply.{Reply}
use Rattle.session_account.specs.declared.reply.Reply.TheVariants as reply
use Rattle.session_script.specs.declared.script.Script.{Script}
use Rattle.session_script.specs.declared.script.SessionLines.{SessionLines}
use Rattle.session_account.specs.Serving.{Serving, Spot, IsArena}
use Rattle.session_account.specs.Made.{Made, made, made_by, on_end, has_cut, is_cut}
use Rattle.session_account.specs.Orders.{entries_for, entry_for, IsGivenBack}
use Rattle.session_account.specs.Sectors.{Stand, check_of, spot_of, ChecksExactly, IsOfKind, stand_of, stands_of, steps_in, steps_of}
use Rattle.session_account.specs.Account.{session_at}
use Rattle.session_account.specs.Parts.{RegistryPart, CorePart, PowerPart, InCall, Calls, IsOfCut, IsDone, HasCause, next_made, more}

-- a session's entries at each arena
abbrev pub Stands : Type 0
Stands = ℕ → ℕ → List Stand

-- a session that cuts power has so many steps left, and has spent no more than the others
abbrev pub HasLeft : SessionLines → ℕ → Option ℕ → Type 0
HasLeft session spent left = (n : ℕ) → session.cut ≡ Some n → (m : ℕ) × (left ≡ Some m) × (spent + m ≤ n)

-- session q after some of its calls, none of which was cut
pub record IsAt (all : List Serving) (q : ℕ) (session : SessionLines) (replies : List Reply) (entries : List JournalEntry) (stands : Stands) (left : Option ℕ) : Type 0 where
  pub few : length replies ≤ length session.calls
  pub goes_on : has_cut replies ≡ false
  pub has_left : HasLeft session (steps_in all (made_by session.calls replies)) left
  pub checked : AllByRecursion (ChecksExactly all) (made_by session.calls replies)
  pub kinds : AllByRecursion IsOfKind (made_by session.calls replies)
  pub commands : entries ≡ entries_for q (made_by session.calls replies)
  pub arenas : (place k : ℕ) → IsArena all place k → stands place k ≡ stands_of all place k (made_by session.calls replies)

-- a call more was answered by its checks or by its kind: its entries stand, and its steps are paid
pub record IsAnswered (all : List Serving) (q : ℕ) (m : Made) (entries entries' : List JournalEntry) (stands stands' : Stands) (left left' : Option ℕ) : Type 0 where
  pub uncut : is_cut m.reply ≡ false
  pub checked : ChecksExactly all m
  pub kind : IsOfKind m
  pub commands : entries' ≡ entries ++ option_to_list (entry_for q m)
  pub arenas : (place k : ℕ) → IsArena all place k → stands' place k ≡ stands place k ++ option_to_list (stand_of all place k m)
  pub paid : (n : ℕ) → left ≡ Some n → (m' : ℕ) × (left' ≡ Some m') × (steps_of all m + m' ≤ n)

-- a call more was cut: its entry stands or doesn't
pub record IsStopped (all : List Serving) (q : ℕ) (m : Made) (entries entries' : List JournalEntry) (stands stands' : Stands) : Type 0 where
  pub cut : is_cut m.reply ≡ true
  pub commands : (entries' ≡ entries) ⊎ (entries' ≡ entries ++ option_to_list (entry_for q m))
  pub arenas : (place k : ℕ) → IsArena all place k → (stands' place k ≡ stands place k) ⊎ (stands' place k ≡ stands place k ++ option_to_list (stand_of all place k m))

-- Session q within a sector call m (as if it were cut), in a lane of one arena: its entry there stands or doesn't yet, and its passes of the other locks know
-- what they knew. A write's entry stands from its map store on, a read's from its answer on: the history of a core's part is without the
-- reads whose words a lane still loads.
pub record IsCalling (all : List Serving) (q : ℕ) (session : SessionLines) (replies : List Reply) (m : Made) (place k : ℕ) (call : InCall) (entries : List JournalEntry) (cores : ℕ → ℕ → CorePart) (left : Option ℕ) : Type 0 where
  pub before : Stands
  pub began : Option ℕ
  pub at : IsAt all q session replies entries before began
  pub paid : (n : ℕ) → began ≡ Some n → (n' : ℕ) × (left ≡ Some n') × (call.steps + n' ≤ n)
  pub arena : IsArena all place k
  pub spot : (s : Spot) × (spot_of all m ≡ Some s) × (s.place ≡ place) × (s.arena ≡ k)
  pub whose : call.tag ≡ record { session = q; call = m.call }
  pub lane : (cores place k).calls ≡ call ∷ []
  pub here : (cores place k).stands ≡ before place k ++ (if call.entered then option_to_list (stand_of all place k m) else [])
  pub others : (p n : ℕ) → IsArena all p n → (p ≢ place) ⊎ (n ≢ k) → ((cores p n).stands ≡ before p n) × ((cores p n).calls ≡ [])

-- ---- laws of a sector call

-- a law: a call stands in the arena of its sector alone
abbrev pub StandsHere : Type 0
StandsHere = (all : List Serving) (m : Made) (spot : Spot) (p n : ℕ) → spot_of all m ≡ Some spot → (p ≢ spot.place) ⊎ (n ≢ spot.arena) → stand_of all p n m ≡ None

-- a law: a write whose value fits stands as the same, answered or cut
abbrev pub WritesSame : Type 0
WritesSame =
    (all : List Serving) (place k call : ℕ) (on : Option (List ℕ)) (sector : ℕ) (value : Payload) → check_of all on (line.Write sector value) ≡ None
    → stand_of all place k (made call on (line.Write sector value) reply.Done) ≡ stand_of all place k (made call on (line.Write sector value) reply.Cut)

-- a law: a sector call that was answered adds its entry to its arena, and nothing elsewhere
abbrev pub CallEnds : Type 0
CallEnds =
    (all : List Serving) (q : ℕ) (m : Made) (spot : Spot) (entries : List JournalEntry) (before now : Stands) (left left' : Option ℕ)
    → spot_of all m ≡ Some spot → entry_for q m ≡ None → is_cut m.reply ≡ false → ChecksExactly all m → IsOfKind m
    → now spot.place spot.arena ≡ before spot.place spot.arena ++ option_to_list (stand_of all spot.place spot.arena m)
    → ((p n : ℕ) → IsArena all p n → (p ≢ spot.place) ⊎ (n ≢ spot.arena) → now p n ≡ before p n)
    → ((n : ℕ) → left ≡ Some n → (n' : ℕ) × (left' ≡ Some n') × (steps_of all m + n' ≤ n))
    → IsAnswered all q m entries entries before now left left'

-- a law: one that was cut does so or doesn't
abbrev pub CallStops : Type 0
CallStops =
    (all : List Serving) (q : ℕ) (m : Made) (spot : Spot) (entries : List JournalEntry) (before now : Stands)
    → spot_of all m ≡ Some spot → entry_for q m ≡ None → is_cut m.reply ≡ true
    → (now spot.place spot.arena ≡ before spot.place spot.arena) ⊎ (now spot.place spot.arena ≡ before spot.place spot.arena ++ option_to_list (stand_of all spot.place spot.arena m))
    → ((p n : ℕ) → IsArena all p n → (p ≢ spot.place) ⊎ (n ≢ spot.arena) → now p n ≡ before p n)
    → IsStopped all q m entries entries before now

-- ---- laws

-- a session that has made no call
abbrev pub BeginsSo : Type 0
BeginsSo = (all : List Serving) (q : ℕ) (session : SessionLines) → IsAt all q session [] [] (λ place k. []) session.cut

abbrev pub NextIs : SessionLines → List Reply → Line → Type 0
NextIs session replies line = (length replies < length session.calls) × (slice_index_or session.calls (length replies) line ≡ line)

-- one more answered call
abbrev pub GoesOn : Type 0
GoesOn =
    (all : List Serving) (q : ℕ) (session : SessionLines) (replies : List Reply) (entries entries' : List JournalEntry) (stands stands' : Stands) (left left' : Option ℕ) (line : Line) (answer : Reply)
    → IsAt all q session replies entries stands left → NextIs session replies line
    → IsAnswered all q (next_made session.calls replies line answer) entries entries' stands stands' left left'
    → IsAt all q session (more replies answer) entries' stands' left'

-- what the locks of registry and cores let a session know
abbrev pub known_registry : List JournalEntry → ℕ → RegistryPart
known_registry entries room = record { entries = entries; room = room }

abbrev pub known_cores : Stands → Calls → ℕ → ℕ → CorePart
known_cores stands calls place k = record { stands = stands place k; calls = calls place k }

-- a call that was cut ends the session
abbrev pub StopsSo : Type 0
StopsSo =
    (all : List Serving) (script : Script) (q : ℕ) (replies : List Reply) (entries entries' : List JournalEntry) (stands stands' : Stands) (left : Option ℕ) (line : Line) (answer : Reply) (room : ℕ) (calls : Calls) (power : PowerPart)
    → IsAt all q (session_at script q) replies entries stands left → NextIs (session_at script q) replies line
    → IsStopped all q (next_made (session_at script q).calls replies line answer) entries entries' stands stands'
    → ((place k : ℕ) → IsArena all place k → AllByRecursion (IsOfCut all place k (made_by (session_at script q).calls (more replies answer)) (stands' place k)) (calls place k))
    → IsTrue power.told → HasCause script (session_at script q) (more replies answer) entries' power.stopped
    → IsDone all script q (more replies answer) (known_registry entries' room) (known_cores stands' calls) power

-- behind the last call a claim is given back
abbrev pub EndsSo : Type 0
EndsSo =
    (all : List Serving) (script : Script) (q : ℕ) (replies : List Reply) (entries last : List JournalEntry) (stands : Stands) (left : Option ℕ) (room : ℕ) (calls : Calls) (power : PowerPart)
    → IsAt all q (session_at script q) replies entries stands left → length replies ≡ length (session_at script q).calls
    → IsGivenBack q (length (session_at script q).calls) (on_end (session_at script q).calls replies) last
    → ((place k : ℕ) → IsArena all place k → calls place k ≡ []) → HasCause script (session_at script q) replies (entries ++ last) power.stopped
    → IsDone all script q replies (known_registry (entries ++ last) room) (known_cores stands calls) power
