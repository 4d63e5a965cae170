-- Accounts that are refused: each has no proof, so from one anything would follow.
use Rattle.std.proofs.Common.{◌≡◌, ◌⊎◌, inl, inr, ℕ, zero, suc, ◌≤◌, List, [], ◌∷◌, Option, Some, None, Bool, true, false, Ok, Err, refl, ap, ◌∙◌, arith}
use Rattle.std.specs.Prelude.{Any, is_ok}
use Rattle.arena_open.specs.declared.cell.Cell.TheVariants as cell
use Rattle.namespace_map.specs.Namespaces.{put_all}
use Rattle.namespace_map.specs.declared.commands.Command.TheVariants as command
use Rattle.namespace_map.specs.declared.refused.OpRefused.TheVariants.{NoSuch}
use Rattle.namespace_ops.specs.Entries.{JournalEntry}
use Rattle.session_script.specs.declared.script.Line.TheVariants as line
use Rattle.session_script.specs.declared.script.Order.TheVariants as order
use Rattle.session_account.specs.declared.reply.Reply.TheVariants as reply
use Rattle.session_script.specs.declared.script.Script.{Script}
use Rattle.lane_core.specs.Areas.{put}
use Rattle.lane_core.specs.History.{IsLegal, end_of}
use Rattle.session_account.specs.Survival.{Survives, IsLeftBy}
use Rattle.session_account.specs.Made.{made_by, is_cut_last}
use Rattle.session_account.specs.Orders.{InJournal, entry}
use Rattle.session_account.specs.Sectors.{InHistory, IsOfKind, ChecksExactly}
use Rattle.session_account.specs.Account.{IsInTime, CutHasCause, CutItself, CutInCommand, IsCutLast}
use Rattle.session_account.specs.Journal.{IsJournal}
use Rattle.session_account.proofs.Values.{u, served, zeros, fresh, filled, open_u, close, write, wrote, saw, session, script}

-- a read is answered from the opening contents, behind a write of its sector
pub stale_read : IsLegal fresh (wrote 0 1 5 0x11 ∷ saw 0 2 5 zeros ∷ []) → ⊥
unfolding IsLegal put
stale_read legal = let is : zeros ≡ cell.Bytes (filled 0x11) = legal.1.0 in absurd (cc)

-- an answered write is dropped: the cell at the end isn't there, and nothing is in flight
pub dropped_write : Survives fresh (wrote 0 1 5 0x11 ∷ []) [] 64716 fresh → ⊥
unfolding end_of put
dropped_write survives = by (survives 5 (omega arith))
  where
    by : (zeros ≡ cell.Bytes (filled 0x11)) ⊎ Any (IsLeftBy 5 zeros) [] → ⊥
    by (inl is) = absurd (cc)
    by (inr any) = absurd (omega (arith, any.2))

-- an answered write doesn't stand
pub missing_write : InHistory (served 256) 0 0 (made_by (open_u ∷ write 5 0x11 ∷ []) (reply.Done ∷ reply.Done ∷ [])) [] → ⊥
missing_write h = absurd (cc)

-- a `cut` line is passed over: a write is answered in spite of it
pub passed_over : IsInTime (served 1) (session (Some 0) (open_u ∷ write 0 0x22 ∷ [])) (reply.Done ∷ reply.Done ∷ []) → ⊥
passed_over in_time = let h : 137 ≤ 0 = in_time 0 refl in absurd (omega (arith, h))

pub one_too_few : IsInTime (served 256) (session (Some 391) (open_u ∷ write 0 0x5a ∷ [])) (reply.Done ∷ reply.Done ∷ []) → ⊥
one_too_few in_time = let h : 392 ≤ 391 = in_time 391 refl in absurd (omega (arith, h))

-- a reply is a cut in a script without cuts
pub no_cause : CutHasCause (script None (session None (open_u ∷ []) ∷ [])) ((reply.Cut ∷ []) ∷ []) [] → ⊥
no_cause cause = by (cause 0 refl)
  where
    plain : Script
    plain = script None (session None (open_u ∷ []) ∷ [])

    first : (r : ℕ) → CutItself plain ((reply.Cut ∷ []) ∷ []) r → ⊥
    first zero c = absurd (cc)
    first (suc r) c = absurd (omega (arith, c.0))

    by : ((r : ℕ) × CutItself plain ((reply.Cut ∷ []) ∷ []) r) ⊎ CutInCommand plain [] → ⊥
    by (inl itself) = first itself.0 itself.1
    by (inr command) = absurd (cc)

-- a cut isn't the last reply
pub cut_before : is_cut_last (reply.Cut ∷ reply.Done ∷ []) ≡ false
cut_before = refl

-- a call without a reply, though nothing was cut
pub unanswered : IsCutLast (open_u ∷ close ∷ []) (reply.Done ∷ []) → ⊥
unanswered h = let e : 1 ≡ 2 = h.all refl in absurd (omega (arith, e))

-- the reply to an order isn't that of the journal
pub invented : InJournal 0 (line.Order (order.Delete u) ∷ []) (reply.Done ∷ []) (entry 0 0 (command.Delete u) (Err NoSuch) ∷ []) → ⊥
invented h = let last : h.last ≡ [] = h.is_last in let e : Some false ≡ Some true = ap says (h.entries ∙ ap (λ (es : List JournalEntry). entry 0 0 (command.Delete u) (Ok tt) ∷ es) last) in absurd (cc)
  where
    says : List JournalEntry → Option Bool
    says [] = None
    says (e ∷ es) = Some (is_ok e.reply)

-- the journal's reply isn't that of its command: a delete of a namespace that isn't there
pub illegal : IsJournal [] (record { areas = []; claims = [] }) None (entry 0 0 (command.Delete u) (Ok tt) ∷ []) → ⊥
unfolding IsJournal put_all
illegal h = let e : true ≡ false = ap is_ok h.0 in absurd (cc)

-- a read without an open namespace is answered by a value
pub not_open : ChecksExactly (served 256) (record { call = 0; on = None; line = line.Read 0; reply = reply.Value zeros }) → ⊥
not_open h = let e : reply.Value zeros ≡ reply.NotOpen = h refl in absurd (cc)

-- a read is answered by `ok`
pub wrong_kind : IsOfKind (record { call = 0; on = Some u; line = line.Read 0; reply = reply.Done }) → ⊥
wrong_kind h = let e : false ≡ true = h refl refl in absurd (cc)
