-- What an order does to its session's part of the registry.
use Rattle.std.specs.Prelude.{◌≡◌, ℕ, ◌+◌, ◌-◌, ◌≤◌, true, List, [], ◌∷◌, ◌++◌, length, option_to_list, Some, IsSome, Err}
use Rattle.namespace_map.specs.declared.refused.OpRefused.TheVariants.{PowerCut}
use Rattle.atomic_table.specs.Seated.{TableId}
use Rattle.turn_lock.specs.declared.parted.Parted.{Ghosts}
use Rattle.turn_lock.specs.declared.pass.TurnPass.{TurnPass}
use Rattle.turn_lock.specs.Passes.{number_of, part_of, IsOutside}
use Rattle.nvd_words.specs.declared.tag.Tag.{Tag}
use Rattle.namespace_map.specs.declared.commands.Command.{Command}
use Rattle.namespace_ops.specs.Entries.{JournalEntry, Reply as Answer}
use Rattle.namespace_ops.specs.Registered.{Registered}
use Rattle.session_account.specs.Made.{is_cut, made, on_after}
use Rattle.session_account.specs.Orders.{IsGivenBack, entry_for}
use Rattle.session_account.specs.Parts.{open_with, registry_part}
use Rattle.session_account.specs.Going.{known_registry}
use Rattle.session_account.specs.Sectors.{IsChecked, IsOfKind}
use Rattle.session_account.specs.declared.reply.Reply.{Reply}
use Rattle.session_script.specs.declared.script.Line.TheVariants as line
use Rattle.session_script.specs.declared.script.Order.{Order}
use Rattle.registry_service.specs.declared.served.OrdersPart.{OrdersPart}
use Rattle.registry_service.specs.Asking.{check_by}
use Rattle.registry_service.specs.Served.{Served, answered, part_of_session}

-- there is room for one entry more
abbrev pub HasRoom : OrdersPart → Type 0
HasRoom m = 1 ≤ m.room

-- ---- a call of the registry

abbrev pub call_entry : Tag → Command → Answer → JournalEntry
call_entry tag c a = record { tag = tag; command = c; reply = a }

-- the call has its entry if it was answered, takes one from the room, and opens or closes what it says
abbrev pub carried : Tag → Command → Answer → OrdersPart → OrdersPart
carried tag c a m = part_of_session m.began (m.entries ++ answered (call_entry tag c a ∷ [])) (m.room - 1) (open_with m.held c a)

-- memory ran out: nothing but one of the room is gone
abbrev pub forgotten : OrdersPart → OrdersPart
forgotten m = part_of_session m.began m.entries (m.room - 1) m.held

-- ---- an order

-- the entries that an order with its reply makes
abbrev pub ordered : ℕ → ℕ → Order → Reply → OrdersPart → List JournalEntry
ordered q call o r m = option_to_list (entry_for q (made call m.held (line.Order o) r))

-- an order of session q was answered, or cut in its command: its entry stands
pub record IsOrdered (q call : ℕ) (o : Order) (r : Reply) (m m' : OrdersPart) : Type 0 where
  pub entries : m'.entries ≡ m.entries ++ ordered q call o r m
  pub room : m'.room + length (ordered q call o r m) ≡ m.room
  pub held : m'.held ≡ on_after m.held (line.Order o) r
  pub began : m'.began ≡ m.began
  -- it is refused exactly by its checks, else it is answered as a command
  pub checked : IsChecked (check_by m.held o) r
  pub kind : IsOfKind (made call m.held (line.Order o) r)
  -- a cut has a cause, and its entry says so
  pub cause : is_cut r ≡ true → IsSome m.began.labelcut × ((c : Command) × (entry_for q (made call m.held (line.Order o) r) ≡ Some (call_entry (record { session = q; call = call }) c (Err PowerCut))))

-- ---- the end of a session

-- what it has open is given back, and its entry stands; its reply may be that power was cut
pub record GivesBack (q call : ℕ) (m m' : OrdersPart) : Type 0 where
  pub last : List JournalEntry
  pub entries : m'.entries ≡ m.entries ++ last
  pub given : IsGivenBack q call m.held last
  pub room : m'.room + length last ≡ m.room
  pub began : m'.began ≡ m.began

-- ---- passes

module _ {g : Ghosts Served OrdersPart} where
  -- a pass of this lock that doesn't have the turn, with room for one entry more
  abbrev pub MayOrder : TableId → TurnPass Served OrdersPart g → Type 0
  MayOrder lock p = IsOutside lock p × ((m : OrdersPart) × (part_of p ≡ Some m) × HasRoom m)

  -- what a pass knows goes from m to m', as P says
  abbrev pub PartGoes : (OrdersPart → OrdersPart → Type 0) → TurnPass Served OrdersPart g → TurnPass Served OrdersPart g → Type 0
  PartGoes P p p' = (m : OrdersPart) → part_of p ≡ Some m → (m' : OrdersPart) × (part_of p' ≡ Some m') × P m m'

  -- its session's entries are those that stand in the journal, and so is its room
  abbrev pub KnowsOwn : Registered → TurnPass Served OrdersPart g → Type 0
  KnowsOwn r p = (m : OrdersPart) → part_of p ≡ Some m → registry_part (answered r.journal) r.room (number_of p) ≡ known_registry m.entries m.room
