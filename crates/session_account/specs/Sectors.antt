-- What a session's calls ask of sectors, what they cost, and its entries in the histories.
use Rattle.std.specs.Prelude.{◌≡◌, ◌⊎◌, ℕ, ◌+◌, ◌-◌, ◌*◌, ◌/◌, ◌<◌, ◌==◌, Bool, true, false, not, ◌&&◌, if◌then◌else◌, List, [], ◌++◌, filter, filter_map, map, length, replicate, sum_by, Option, Some, None, option_and_then}
use Rattle.std.specs.List.{list_any, AllByRecursion}
use Rattle.cut_words.specs.WordBytes.{words_in}
use Rattle.namespace_map.specs.declared.refused.OpRefused.TheVariants.{PowerCut, OutOfMemory}
use Rattle.lane_core.specs.declared.history.Act.{Act}
use Rattle.lane_core.specs.declared.history.Act.TheVariants as act
use Rattle.lane_core.specs.declared.history.Entry.{Entry as HistoryEntry}
use Rattle.session_script.specs.declared.script.Line.{Line}
use Rattle.session_script.specs.declared.script.Line.TheVariants as line
use Rattle.session_script.specs.declared.script.Order.TheVariants as order
use Rattle.session_script.specs.declared.payload.Payload.{Payload}
use Rattle.session_script.specs.declared.payload.Payload.TheVariants as payload
use Rattle.session_account.specs.declared.reply.Reply.{Reply}
use Rattle.session_account.specs.declared.reply.Reply.TheVariants as reply
pub use Rattle.session_parts.specs.declared.parts.Stand.{Stand}
pub use Rattle.session_parts.specs.Parts.{own_stands, stand}
use Rattle.session_account.specs.Survival.{Flight}
use Rattle.session_account.specs.Serving.{Shape, Serving, Spot, arenas_of, sectors_of, spot_in}
use Rattle.session_account.specs.Made.{Made, is_cut, uncut, cut_of}

-- ---- values

abbrev pub size_of : Payload → ℕ → ℕ
size_of (payload.Fill byte) bytes = bytes
size_of (payload.Hex value) bytes = length value

-- the words of a value for a sector of so many bytes
abbrev pub words_of : Payload → ℕ → List ℕ
words_of (payload.Fill byte) bytes = words_in (replicate bytes byte)
words_of (payload.Hex value) bytes = words_in value

-- ---- the checks of a call, in their order: NotOpen, Range, Length; IsOpen of an open

abbrev pub wrong_length : ℕ → ℕ → Option Reply
wrong_length said had = if said == had then None else Some (reply.Length said had)

-- with a sector of a namespace, or why it has none
abbrev pub on_spot : List Shape → Option Spot → (Shape → Option Reply) → Option Reply
on_spot arenas None further = Some (reply.Range (sectors_of arenas))
on_spot arenas (Some spot) further = further spot.shape

abbrev pub on_open : List Serving → Option (List ℕ) → ℕ → (Shape → Option Reply) → Option Reply
on_open all None sector further = Some reply.NotOpen
on_open all (Some uuid) sector further = on_spot (arenas_of all uuid) (spot_in all uuid sector) further

-- why a call isn't made; of a further kind of call it is a further line
abbrev pub check_of : List Serving → Option (List ℕ) → Line → Option Reply
check_of all on (line.Read sector) = on_open all on sector (λ shape. None)
check_of all on (line.Write sector value) = on_open all on sector (λ shape. wrong_length (size_of value shape.bytes) shape.bytes)
check_of all None (line.Order (order.Open uuid)) = None
check_of all (Some held) (line.Order (order.Open uuid)) = Some reply.IsOpen
check_of all None (line.Order order.Close) = Some reply.NotOpen
check_of all (Some held) (line.Order order.Close) = None
check_of all on (line.Order other) = None

-- a reply that says so
abbrev pub is_check : Reply → Bool
is_check (reply.Range count) = true
is_check (reply.Length said had) = true
is_check reply.NotOpen = true
is_check reply.IsOpen = true
is_check other = false

abbrev pub IsChecked : Option Reply → Reply → Type 0
IsChecked None answer = is_check answer ≡ false
IsChecked (Some why) answer = answer ≡ why

-- a call that wasn't cut has exactly the answer of its checks
abbrev pub ChecksExactly : List Serving → Made → Type 0
ChecksExactly all m = is_cut m.reply ≡ false → IsChecked (check_of all m.on m.line) m.reply

-- ---- kinds

abbrev pub is_done : Reply → Bool
is_done reply.Done = true
is_done other = false

abbrev pub is_value : Reply → Bool
is_value (reply.Value cell) = true
is_value other = false

-- what a command is answered
abbrev pub is_ordered : Reply → Bool
is_ordered reply.Done = true
is_ordered (reply.Op PowerCut) = false
is_ordered (reply.Op OutOfMemory) = false
is_ordered (reply.Op refused) = true
is_ordered other = false

-- a call that was made is answered by its kind
abbrev pub is_kind : Line → Reply → Bool
is_kind (line.Read sector) answer = is_value answer
is_kind (line.Write sector value) answer = is_done answer
is_kind (line.Order o) answer = is_ordered answer

abbrev pub IsOfKind : Made → Type 0
IsOfKind m = is_cut m.reply ≡ false → is_check m.reply ≡ false → is_kind m.line m.reply ≡ true

-- ---- steps

-- those that a call on a sector takes at least
abbrev pub least_steps : Line → Shape → ℕ
least_steps (line.Read sector) shape = 1
least_steps (line.Write sector value) shape = shape.lanes - 1 + 2 * (shape.bytes / 8) + 9
least_steps (line.Order o) shape = 0

abbrev pub sector_in : Line → Option ℕ
sector_in (line.Read sector) = Some sector
sector_in (line.Write sector value) = Some sector
sector_in (line.Order o) = None

-- the sector of a call
abbrev pub spot_of : List Serving → Made → Option Spot
spot_of all m = option_and_then (λ uuid. option_and_then (spot_in all uuid) (sector_in m.line)) m.on

abbrev pub steps_at : Line → Option Spot → ℕ
steps_at line None = 0
steps_at line (Some spot) = least_steps line spot.shape

-- a call that was cut or refused counts nothing
abbrev pub steps_of : List Serving → Made → ℕ
steps_of all m = if is_cut m.reply then 0 else if is_check m.reply then 0 else steps_at m.line (spot_of all m)

abbrev pub steps_in : List Serving → List Made → ℕ
steps_in all calls = sum_by (steps_of all) calls

-- ---- entries in the history of an arena

abbrev pub read_act : Reply → Option Act
read_act (reply.Value cell) = Some (act.Read cell)
read_act other = None

-- what a call that was answered did; of a further kind of call it is a further line
abbrev pub act_of : Line → Reply → Shape → Option Act
act_of (line.Read sector) answer shape = read_act answer
act_of (line.Write sector value) answer shape = if is_done answer then Some (act.Write (words_of value shape.bytes)) else None
act_of (line.Order o) answer shape = None

-- what a call that was cut may have done: nothing of a read is left
abbrev pub flying_act : Line → Shape → Option Act
flying_act (line.Read sector) shape = None
flying_act (line.Write sector value) shape = if size_of value shape.bytes == shape.bytes then Some (act.Write (words_of value shape.bytes)) else None
flying_act (line.Order o) shape = None

abbrev pub act_for : Line → Reply → Shape → Option Act
act_for line reply.Cut shape = flying_act line shape
act_for line answer shape = act_of line answer shape

abbrev pub stand_as : ℕ → ℕ → Option Act → Option Stand
stand_as call sector None = None
stand_as call sector (Some a) = Some (record { call = call; sector = sector; act = a })

-- in arena k of the namespace at a place
abbrev pub stand_by : ℕ → ℕ → Made → Option Spot → Option Stand
stand_by place k m None = None
stand_by place k m (Some spot) = if (spot.place == place) && (spot.arena == k) then stand_as m.call spot.own (act_for m.line m.reply spot.shape) else None

abbrev pub stand_of : List Serving → ℕ → ℕ → Made → Option Stand
stand_of all place k m = stand_by place k m (spot_of all m)

abbrev pub stands_of : List Serving → ℕ → ℕ → List Made → List Stand
stands_of all place k calls = filter_map (stand_of all place k) calls

-- the part on an arena: the calls that were answered, each once and in order, and maybe the write that was cut
pub record InHistory (all : List Serving) (place k : ℕ) (calls : List Made) (own : List Stand) : Type 0 where
  pub last : List Stand
  pub entries : own ≡ stands_of all place k (uncut calls) ++ last
  pub is_last : (last ≡ []) ⊎ (last ≡ stands_of all place k (cut_of calls))

-- no entry is of a session that there isn't
abbrev pub IsOfSessions : ℕ → List HistoryEntry → Type 0
IsOfSessions count history = AllByRecursion (λ e. e.tag.session < count) history

-- ---- calls in flight

abbrev pub flight : Stand → Flight
flight s = record { sector = s.sector; act = s.act }

-- an entry of a call of a session stands in a history
abbrev pub stands_in : ℕ → List HistoryEntry → Stand → Bool
stands_in q history s = list_any (λ e. (e.tag.session == q) && (e.tag.call == s.call)) history

-- the call of a session that was cut on an arena, if it doesn't stand
abbrev pub flights_of : List Serving → ℕ → ℕ → List HistoryEntry → ℕ → List Made → List Flight
flights_of all place k history q calls = map flight (filter (λ s. not (stands_in q history s)) (stands_of all place k (cut_of calls)))
