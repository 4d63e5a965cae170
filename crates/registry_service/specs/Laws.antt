-- The laws that link orders to the account of sessions. `src/law.rt` has a function for each.
use Rattle.std.specs.Prelude.{◌≡◌, ◌⊎◌, ℕ, false, IsTrue, List, [], slice_index_or, Option, None, IsSome}
use Rattle.session_account.specs.declared.reply.Reply.{Reply}
use Rattle.session_account.specs.declared.reply.Reply.TheVariants as reply
use Rattle.session_account.specs.Account.{has_cut_entry}
use Rattle.session_account.specs.Going.{IsAnswered, IsStopped, NextIs, Stands}
use Rattle.session_account.specs.Made.{is_cut, made, on_after, on_end}
use Rattle.session_account.specs.Parts.{more}
use Rattle.session_account.specs.Serving.{Serving}
use Rattle.session_script.specs.declared.script.Line.{Line}
use Rattle.session_script.specs.declared.script.Line.TheVariants as line
use Rattle.session_script.specs.declared.script.Order.{Order}
use Rattle.session_script.specs.declared.script.SessionLines.{SessionLines}
use Rattle.namespace_ops.specs.Registered.{Registered}
use Rattle.registry_service.specs.declared.served.OrdersPart.{OrdersPart}
use Rattle.registry_service.specs.Parts.{IsOrdered}
use Rattle.registry_service.specs.Served.{began_of, fresh, part_at, part_of_session}

-- a law: an order that was answered goes on its session; it touches no sector and costs no step of a lane
abbrev pub OrdersAnswer : Type 0
OrdersAnswer =
    (all : List Serving) (q call : ℕ) (o : Order) (r : Reply) (m m' : OrdersPart) (stands : Stands) (left : Option ℕ) → IsOrdered q call o r m m' → is_cut r ≡ false
    → IsAnswered all q (made call m.held (line.Order o) r) m.entries m'.entries stands stands left left

-- a law: one that was cut stops it, whether its entry stands or not
abbrev pub OrdersStop : Type 0
OrdersStop =
    (all : List Serving) (q call : ℕ) (o : Order) (m m' : OrdersPart) (stands : Stands) → (m' ≡ m) ⊎ IsOrdered q call o reply.Cut m m'
    → IsStopped all q (made call m.held (line.Order o) reply.Cut) m.entries m'.entries stands stands

-- a law: if its entry stands, power was cut in a command, for which the script has a cause
abbrev pub CutsHaveCause : Type 0
CutsHaveCause = (q call : ℕ) (o : Order) (m m' : OrdersPart) → IsOrdered q call o reply.Cut m m' → IsSome m.began.labelcut × IsTrue (has_cut_entry m'.entries)

-- a law: the namespace that is open goes on by each call
abbrev pub OpenGoesOn : Type 0
OpenGoesOn =
    (session : SessionLines) (replies : List Reply) (line : Line) (answer : Reply) → NextIs session replies line
    → on_end session.calls (more replies answer) ≡ on_after (on_end session.calls replies) line answer

-- a law: when the lock is made, a session has no entry, room for its calls, and nothing open
abbrev pub BeginsEmpty : Type 0
BeginsEmpty =
    (r : Registered) (fuse : Option ℕ) (calls : List ℕ) (q : ℕ) → r.journal ≡ [] → r.room ≡ []
    → part_at (fresh r fuse calls) q ≡ part_of_session (began_of (fresh r fuse calls)) [] (slice_index_or calls q 0) None
