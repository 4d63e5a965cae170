-- What an order of a session asks of the registry, and what the registry's answer is to the session.
use Rattle.std.specs.Prelude.{◌≡◌, ⊤, ℕ, false, List, [], Option, Some, None, Ok, Err}
use Rattle.namespace_map.specs.declared.commands.Command.{Command}
use Rattle.namespace_map.specs.declared.commands.Command.TheVariants as command
use Rattle.namespace_map.specs.declared.refused.OpRefused.TheVariants.{PowerCut, OutOfMemory}
use Rattle.namespace_ops.specs.Carried.{HasGoodName}
use Rattle.namespace_ops.specs.Counted.{makes_sectors}
use Rattle.namespace_ops.specs.Entries.{Reply as Answer}
use Rattle.session_account.specs.declared.reply.Reply.{Reply}
use Rattle.session_account.specs.declared.reply.Reply.TheVariants as reply
use Rattle.session_account.specs.Orders.{command_of}
use Rattle.session_account.specs.Sectors.{check_of}
use Rattle.session_script.specs.declared.script.Line.TheVariants as line
use Rattle.session_script.specs.declared.script.Order.{Order}
pub use Rattle.session_script.specs.Names.{HasText}

-- why an order isn't made: its checks look at no sectors, so they are the same whatever is served
abbrev pub check_by : Option (List ℕ) → Order → Option Reply
check_by held o = check_of [] held (line.Order o)

-- a session claims if it has no namespace open, and gives back the one that it has open
abbrev pub Suits : Option (List ℕ) → Command → Type 0
Suits held (command.Create spec) = ⊤
Suits held (command.Delete uuid) = ⊤
Suits held (command.Rename uuid name) = ⊤
Suits held (command.Claim uuid) = held ≡ None
Suits held (command.Unclaim uuid) = held ≡ Some uuid

-- the command that an order asks
pub record IsAsked (held : Option (List ℕ)) (o : Order) (c : Command) : Type 0 where
  pub asks : command_of held o ≡ Some c
  pub unchecked : check_by held o ≡ None
  pub name : HasGoodName c
  pub plain : makes_sectors c ≡ false
  pub suits : Suits held c

-- what a session is told of the registry's answer: nothing if memory ran out
abbrev pub told_as : Answer → Option Reply
told_as (Ok done) = Some reply.Done
told_as (Err PowerCut) = Some reply.Cut
told_as (Err OutOfMemory) = None
told_as (Err refused) = Some (reply.Op refused)
