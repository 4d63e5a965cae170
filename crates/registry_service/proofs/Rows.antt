-- Worked orders of a session: what they do to its part, and what they don't.
use Rattle.std.proofs.Common.{◌≡◌, inr, ℕ, List, [], ◌∷◌, Option, Some, None, Ok, Err, refl, ap, codes, replicate, length, arith}
use Rattle.namespace_map.specs.Commands.{named_of}
use Rattle.namespace_map.specs.declared.commands.Command.TheVariants as command
use Rattle.namespace_map.specs.declared.refused.OpRefused.TheVariants.{NoSuch, OutOfMemory, PowerCut}
use Rattle.namespace_ops.specs.Entries.{JournalEntry}
use Rattle.session_account.specs.Claims.{AreOpen}
use Rattle.session_account.specs.Orders.{entry}
use Rattle.session_account.specs.declared.reply.Reply.TheVariants as reply
use Rattle.session_script.specs.declared.script.Order.TheVariants as order
use Rattle.registry_service.specs.declared.served.Began.{Began}
use Rattle.registry_service.specs.declared.served.OrdersPart.{OrdersPart}
use Rattle.registry_service.specs.Parts.{GivesBack, IsOrdered}
use Rattle.registry_service.specs.Served.{answered, part_of_session}

abbrev u : List ℕ
u = replicate 16 0x11

-- a registry with nothing in it, and power for 519 steps on labels
abbrev began : Began
began = record { sets = []; areas = []; labelcut = Some 519 }

abbrev part : List JournalEntry → ℕ → Option (List ℕ) → OrdersPart
part entries room held = part_of_session began entries room held

-- session 3 opens a namespace by its call 0
pub opens : IsOrdered 3 0 (order.Open u) reply.Done (part [] 2 None) (part (entry 3 0 (command.Claim u) (Ok tt) ∷ []) 1 (Some u))
opens = record { entries = refl; room = refl; held = refl; began = refl; checked = refl; kind = λ _ _. refl; cause = λ cut. absurd (cc) }

-- with one open, another `open` asks nothing of the registry
pub is_open : IsOrdered 3 1 (order.Open u) reply.IsOpen (part [] 2 (Some u)) (part [] 2 (Some u))
is_open = record { entries = refl; room = refl; held = refl; began = refl; checked = refl; kind = λ _ not_a_check. absurd (cc); cause = λ cut. absurd (cc) }

-- a refusal of the registry has its entry
pub no_such : IsOrdered 3 1 (order.Delete u) (reply.Op NoSuch) (part [] 2 None) (part (entry 3 1 (command.Delete u) (Err NoSuch) ∷ []) 1 None)
no_such = record { entries = refl; room = refl; held = refl; began = refl; checked = refl; kind = λ _ _. refl; cause = λ cut. absurd (cc) }

-- a rename in which power is cut has one that says so
pub is_cut : IsOrdered 3 1 (order.Rename u (codes "b")) reply.Cut (part [] 2 None) (part (entry 3 1 (command.Rename u (named_of (codes "b"))) (Err PowerCut) ∷ []) 1 None)
is_cut = record { entries = refl; room = refl; held = refl; began = refl; checked = refl; kind = λ uncut _. absurd (cc); cause = λ _. (refl, (command.Rename u (named_of (codes "b")), refl)) }

-- what is open is given back behind the last call, also if power is off
pub gives_back : GivesBack 3 7 (part [] 1 (Some u)) (part (entry 3 7 (command.Unclaim u) (Err PowerCut) ∷ []) 0 (Some u))
gives_back = record { last = entry 3 7 (command.Unclaim u) (Err PowerCut) ∷ []; entries = refl; given = inr refl; room = refl; began = refl }

-- a call for which memory ran out isn't answered
pub forgotten : answered (entry 0 0 (command.Claim u) (Err OutOfMemory) ∷ entry 1 0 (command.Delete u) (Err NoSuch) ∷ []) ≡ entry 1 0 (command.Delete u) (Err NoSuch) ∷ []
forgotten = refl

-- ---- what is no order

-- it isn't done without an entry
pub not_unwritten : IsOrdered 3 0 (order.Open u) reply.Done (part [] 2 None) (part [] 2 (Some u)) → ⊥
not_unwritten h = let e : 0 ≡ 1 = ap (λ (es : List JournalEntry). length es) h.entries in absurd (omega (arith, e))

-- nor with two
pub not_twice : IsOrdered 3 0 (order.Open u) reply.Done (part [] 2 None) (part (entry 3 0 (command.Claim u) (Ok tt) ∷ entry 3 0 (command.Claim u) (Ok tt) ∷ []) 0 (Some u)) → ⊥
not_twice h = let e : 2 ≡ 1 = ap (λ (es : List JournalEntry). length es) h.entries in absurd (omega (arith, e))

-- a second `open` isn't done while one is open
pub not_open_twice : (m : OrdersPart) → IsOrdered 3 1 (order.Open u) reply.Done (part [] 2 (Some u)) m → ⊥
not_open_twice m h = let e : reply.Done ≡ reply.IsOpen = h.checked in absurd (cc)

-- ---- claims

-- a session doesn't have one open without a claim
pub not_lost : AreOpen ((u, 1) ∷ []) (Some u ∷ None ∷ Some u ∷ []) → ⊥
not_lost h = let e : 1 ≡ 2 = h u in absurd (omega (arith, e))

-- nor is one claimed that nobody has open
pub not_left : AreOpen ((u, 1) ∷ []) (None ∷ None ∷ []) → ⊥
not_left h = let e : 1 ≡ 0 = h u in absurd (omega (arith, e))
