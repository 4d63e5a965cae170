-- A session between two of its calls, and at its end: what it knows, held against the account.
use Rattle.std.specs.Prelude.{◌≡◌, ◌⊎◌, ℕ, zero, suc, ◌+◌, ◌^◌, ◌<◌, ◌≤◌, Bool, true, false, List, [], All, length, slice_index_or, Option, Some, None, is_some}
use Rattle.turn_lock.specs.Passes.{number_of, part_of, IsOutside}
use Rattle.namespace_ops.specs.Entries.{JournalEntry}
use Rattle.session_script.specs.declared.script.Line.{Line}
use Rattle.session_script.specs.declared.script.Line.TheVariants as line
use Rattle.session_script.specs.declared.script.Script.{Script}
use Rattle.session_account.specs.declared.reply.Reply.{Reply}
use Rattle.session_account.specs.Account.{has_cut_entry, session_at}
use Rattle.session_account.specs.Going as account
use Rattle.session_account.specs.Going.{NextIs, Stands, known_cores, known_registry}
use Rattle.session_account.specs.Made.{is_cut, on_end}
use Rattle.session_account.specs.Parts as parts
use Rattle.session_account.specs.Parts.{Calls, PowerPart, Who, itself, labels, more}
use Rattle.session_account.specs.Sectors.{check_of, is_check}
use Rattle.session_account.specs.Serving.{Serving}
use Rattle.registry_service.specs.declared.served.OrdersPart.{OrdersPart}
use Rattle.lane_pool.specs.declared.pool.PoolPart.{PoolPart}
use Rattle.lane_pool.specs.declared.sets.PowerOff.{PowerOff}
use Rattle.lane_pool.specs.declared.sets.Who.TheVariants as who
use Rattle.lane_pool.specs.Parts.{switched_by}
use Rattle.lane_calls.specs.Calls.{IsGoing}
use Rattle.lane_calls.specs.Sessions.{Know, Parts, made_with}
use Rattle.lane_sessions.specs.Making.{or_zero}
use Rattle.session_texts.specs.Texts.{replies_text}
use Rattle.session_service.specs.declared.runner.Runner.{Runner}
use Rattle.session_service.specs.declared.service.Service.{Service}
use Rattle.session_script.specs.Names.{LineHasText}
use Rattle.session_service.specs.Namespaces.{arenas_in, number_at}
use Rattle.session_service.specs.Services.{IsLaid, all_of, arena_at, arenas_of, orders_of}

-- ---- what a session knows

-- its entries in each arena, and its writes in flight there
abbrev pub stands_by : List Serving → Parts → Stands
stands_by all parts place k = (parts (number_at all place k)).mine.stands

abbrev pub calls_by : List Serving → Parts → Calls
calls_by all parts place k = (parts (number_at all place k)).mine.calls

-- the steps that lanes made for it, in the first n arenas
abbrev pub steps_to : ℕ → Parts → ℕ
steps_to zero parts = 0
steps_to (suc n) parts = steps_to n parts + (parts n).steps

-- in all arenas
abbrev pub steps_by : List Serving → Parts → ℕ
steps_by all parts = steps_to (length (arenas_in all)) parts

-- why it switched power off: power was cut in a command of its own, or else its own steps ended
abbrev pub who_if : Bool → Option Who
who_if true = Some labels
who_if false = Some itself

abbrev pub who_by : Bool → List JournalEntry → Option Who
who_by false entries = None
who_by true entries = who_if (has_cut_entry entries)

abbrev pub power_by : PoolPart → List JournalEntry → PowerPart
power_by m entries = record { stopped = who_by (is_some (switched_by m.stop)) entries; told = is_some m.told }

-- what session q knows of each arena and of the registry
pub record Knows (service : Service) (q : ℕ) (orders : OrdersPart) (known : Parts) (r : Runner) : Type 0 where
  pub know : Know service.sectors q known r.session
  pub first : (j : ℕ) → (known j).first ≡ arena_at (arenas_of service) j
  pub outside : IsOutside (orders_of service) r.orders
  pub orders_number : number_of r.orders ≡ q
  pub orders_is : part_of r.orders ≡ Some orders

-- ---- between two calls

-- a session that never cuts power doesn't begin to
abbrev pub StaysWhole : Option ℕ → Option ℕ → Type 0
StaysWhole left left' = left ≡ None → left' ≡ None

-- session q after some of its calls, none of which was cut, by what it knows; it made so many calls with the set of lanes that it keeps
pub record Standing (all : List Serving) (script : Script) (q : ℕ) (replies : List Reply) (orders : OrdersPart) (known : Parts) (pool : PoolPart) (made : ℕ) (left : Option ℕ) : Type 0 where
  -- it is in no call
  pub free : (j : ℕ) → (known j).mine.calls ≡ []
  -- it handed no set to `stop`, and may make each call that it has left
  pub going : IsGoing pool
  pub calls : length (session_at script q).calls + made ≤ pool.left + length replies
  pub held : orders.held ≡ on_end (session_at script q).calls replies
  pub labelcut : orders.began.labelcut ≡ script.labelcut
  -- it has room for its orders, and to give back what it has open at its end
  pub room : length (session_at script q).calls + 1 ≤ orders.room + length replies
  pub unstopped : pool.stop ≡ None
  pub uncut : has_cut_entry orders.entries ≡ false
  pub whole : StaysWhole (session_at script q).cut left
  -- the steps that it may make are those that lanes made for it, and those that are left
  pub counted : (n m : ℕ) → (session_at script q).cut ≡ Some n → left ≡ Some m → steps_by all known + m ≡ n
  pub at : account.IsAt all q (session_at script q) replies orders.entries (stands_by all known) left

pub record IsAt (service : Service) (script : Script) (q : ℕ) (replies : List Reply) (r : Runner) : Type 0 where
  pub orders : OrdersPart
  pub known : Parts
  pub knows : Knows service q orders known r
  pub call : r.session.caller.call ≡ length replies
  pub steps : r.session.caller.steps ≡ or_zero (session_at script q).cut
  pub held : r.held ≡ on_end (session_at script q).calls replies
  pub stands : Standing (all_of service) script q replies orders known knows.know.pool (made_with r.session.kept) r.session.caller.left

-- ---- at the end

-- If session q switched power off, it did so in an order, for the side of the labels; or itself: then it has a `cut` line, and lanes made
-- exactly so many steps for it.
abbrev pub IsSpent : List Serving → Script → ℕ → Parts → PoolPart → Type 0
IsSpent all script q known pool = (off : PowerOff) → switched_by pool.stop ≡ Some off
    → (off.who ≡ who.Labels) ⊎ ((off.who ≡ who.Session q) × ((session_at script q).cut ≡ Some off.steps) × (steps_by all known ≡ off.steps))

-- session q has made its last call and given back what it had open, or a call was cut; it keeps no set of lanes
pub record IsDone (service : Service) (script : Script) (q : ℕ) (replies : List Reply) (r : Runner) : Type 0 where
  pub orders : OrdersPart
  pub known : Parts
  pub knows : Knows service q orders known r
  pub rests : r.session.kept ≡ None
  pub spent : IsSpent (all_of service) script q known knows.know.pool
  pub done : parts.IsDone (all_of service) script q replies (known_registry orders.entries orders.room) (known_cores (stands_by (all_of service) known) (calls_by (all_of service) known)) (power_by knows.know.pool orders.entries)

-- ---- one call

-- its next call is this line, and can be made
pub record IsNext (service : Service) (script : Script) (q : ℕ) (replies : List Reply) (line : Line) (r : Runner) : Type 0 where
  pub laid : IsLaid service
  pub at : IsAt service script q replies r
  pub next : NextIs (session_at script q) replies line
  pub short : length (session_at script q).calls + 1 < 2 ^ 32
  pub text : LineHasText line

-- after a reply it goes on, unless the call was cut
pub record Goes (service : Service) (script : Script) (q : ℕ) (replies : List Reply) (answer : Reply) (r : Runner) : Type 0 where
  pub on : is_cut answer ≡ false → IsAt service script q (more replies answer) r
  pub ended : is_cut answer ≡ true → IsDone service script q (more replies answer) r

-- a call on a sector that its checks refuse
abbrev pub IsRefusedBy : List Serving → Option (List ℕ) → Line → Reply → Type 0
IsRefusedBy all held (line.Read sector) why = (is_check why ≡ true) × (check_of all held (line.Read sector) ≡ Some why)
IsRefusedBy all held (line.Write sector value) why = (is_check why ≡ true) × (check_of all held (line.Write sector value) ≡ Some why)
IsRefusedBy all held (line.Order o) why = ⊥

-- the lines of the replies that were given before are kept
abbrev pub KeepsText : Runner → Runner → Type 0
KeepsText r r' = (r'.session.number ≡ r.session.number) × (r'.text ≡ r.text) × (r'.refused ≡ r.refused)

-- ---- a session's loop

-- it has these replies, whose lines are its text, and its further calls can be made
pub record IsRunning (service : Service) (script : Script) (q : ℕ) (replies : List Reply) (r : Runner) : Type 0 where
  pub laid : IsLaid service
  pub at : IsAt service script q replies r
  pub short : length (session_at script q).calls + 1 < 2 ^ 32
  pub text : All LineHasText (session_at script q).calls
  pub said : r.text.items ≡ replies_text replies
  pub memory : r.refused ≡ false

-- a call was answered, and the line of its reply isn't in the text yet
pub record HasAnswer (service : Service) (script : Script) (q : ℕ) (replies : List Reply) (answer : Reply) (r : Runner) : Type 0 where
  pub laid : IsLaid service
  pub goes : Goes service script q replies answer r
  pub short : length (session_at script q).calls + 1 < 2 ^ 32
  pub text : All LineHasText (session_at script q).calls
  pub said : r.text.items ≡ replies_text replies
  pub memory : r.refused ≡ false

-- and it has made none
abbrev pub IsRunnerReady : Service → Script → ℕ → Runner → Type 0
IsRunnerReady service script q r = IsRunning service script q [] r

-- it is done with some replies, whose lines are its text
pub record IsThrough (service : Service) (script : Script) (q : ℕ) (r : Runner) : Type 0 where
  pub replies : List Reply
  pub said : r.text.items ≡ replies_text replies
  pub done : IsDone service script q replies r

-- it has come to its end, so far as memory lasted, and keeps no set of lanes
pub record IsEnded (service : Service) (script : Script) (q : ℕ) (r : Runner) : Type 0 where
  pub number : r.session.number ≡ q
  pub rests : r.session.kept ≡ None
  pub done : r.refused ≡ false → IsThrough service script q r

-- ---- all sessions

abbrev pub AreRunnersReady : Service → Script → List Runner → Type 0
AreRunnersReady service script runners = (q : ℕ) (d : Runner) → q < length runners → (q < length script.sessions) × IsRunnerReady service script q (slice_index_or runners q d)

abbrev pub AreEnded : Service → Script → List Runner → Type 0
AreEnded service script runners = (q : ℕ) (d : Runner) → q < length runners → IsEnded service script q (slice_index_or runners q d)
