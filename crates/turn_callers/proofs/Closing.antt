-- The journals, as the locks are closed.
use Rattle.std.proofs.Common.{◌≡◌, ℕ, ◌+◌, ◌<◌, List, [], ◌∷◌, ◌++◌, length, get_or, map, sym, ap, ◌∙◌, subst, arith}
use Rattle.std.specs.Prelude.{Vec}
use mathlib.Core.Logic.{dite}
use mathlib.Core.List.{map-append}
use native.Mathlib.Decide.{ℕ_discrete}
use Rattle.std.proofs.lemmas.List.{get_or-map, length-map}
use Rattle.atomic_table.specs.Seated.{TableId}
use Rattle.turn_lock.specs.declared.turn.Turn.{Turn}
use Rattle.turn_lock.specs.Passes.{lock_id}
use Rattle.turn_callers.specs.declared.register.RegisterEntry.{RegisterEntry}
use Rattle.turn_callers.specs.declared.register.Share.{Share}
use Rattle.turn_callers.specs.declared.register.Register.{Register}
use Rattle.turn_callers.specs.declared.order.ShelfOrder.{ShelfOrder}
use Rattle.turn_callers.specs.declared.session.ShelfSession.{ShelfSession}
use Rattle.turn_lock.specs.Rows.{items_at}
use Rattle.turn_callers.specs.Replay.{entries_by}
use Rattle.turn_callers.specs.Shares.{share_at}
use Rattle.turn_callers.specs.Orders.{made_at}
use Rattle.turn_callers.specs.Sessions.{AreDone, IsJournal}
use Rattle.turn_lock.proofs.Places.{there, items_at_is, items_at_front, items_at_last}

pub done_split : {Z : Type 0} (turns xs : List (Turn Register Share)) (t : Turn Register Share) (scripts : List (Vec ShelfOrder Z)) (ss : List ShelfSession) → turns ≡ xs ++ t ∷ [] → AreDone (map lock_id turns) scripts ss → AreDone (map lock_id xs ++ lock_id t ∷ []) scripts ss
done_split turns xs t scripts ss is done = subst (λ l. AreDone l scripts ss) (ap (map lock_id) is ∙ map-append lock_id xs (t ∷ [])) done

pub journal_same : {Z : Type 0} (scripts : List (Vec ShelfOrder Z)) (ss ss' : List ShelfSession) (j : ℕ) (es : List RegisterEntry) → length ss' ≡ length ss → ((q : ℕ) (d : ShelfSession) → q < length ss → (get_or ss' q d).replies ≡ (get_or ss q d).replies) → IsJournal scripts ss' j es → IsJournal scripts ss j es
journal_same scripts ss ss' j es same replies h = record {
  legal = h.legal;
  tied = λ q d inside. h.tied q d (omega arith) ∙ ap (λ v. made_at q j (items_at scripts q) v.items) (replies q d inside);
  no_other = λ q over. h.no_other q (omega arith);
}

pub nothing_else : (r first : Register) (q : ℕ) → share_at r.journal.items r.rooms.items q ≡ share_at first.journal.items first.rooms.items q → first.journal.items ≡ [] → entries_by q r.journal.items ≡ []
nothing_else r first q same none = ap (λ s. s.entries) same ∙ ap (entries_by q) none

-- one journal more
pub journals_push : {Z Y : Type 0} (scripts : List (Vec ShelfOrder Z)) (ss : List ShelfSession) (vs : List (Vec RegisterEntry Y)) (w : Vec RegisterEntry Y) → ((j : ℕ) → j < length vs → IsJournal scripts ss j (items_at vs j)) → IsJournal scripts ss (length vs) w.items
    → (j : ℕ) → j < length vs + 1 → IsJournal scripts ss j (items_at (vs ++ w ∷ []) j)
journals_push scripts ss vs w front last j h = dite (ℕ_discrete j (length vs))
    (λ is. subst (λ (k : ℕ). IsJournal scripts ss k (items_at (vs ++ w ∷ []) k)) (sym is) (subst (λ es. IsJournal scripts ss (length vs) es) (sym (items_at_last vs w)) last))
    (λ other. let inside : j < length vs = omega arith in subst (λ es. IsJournal scripts ss j es) (sym (items_at_front vs w j inside)) (front j inside))

pub replies_at : (ss ss' : List ShelfSession) (q : ℕ) (d : ShelfSession) → q < length ss → length ss' ≡ length ss → ((q : ℕ) (d : ShelfSession) → q < length ss → (get_or ss' q d).replies ≡ (get_or ss q d).replies)
    → items_at (map (λ s. s.replies) ss') q ≡ (get_or ss q d).replies.items
replies_at ss ss' q d h long same =
    let inside : q < length (map (λ (s : ShelfSession). s.replies) ss') = omega (arith, length-map ss' (λ (s : ShelfSession). s.replies)) in
    let near : q < length ss' = omega arith in
    items_at_is (map (λ s. s.replies) ss') q d.replies inside ∙ ap (λ v. v.items) (get_or-map (λ (s : ShelfSession). s.replies) ss' q d d.replies near) ∙ ap (λ v. v.items) (same q d h)

pub all_answered : {Z : Type 0} (locks : List TableId) (scripts : List (Vec ShelfOrder Z)) (ss ss' : List ShelfSession) (q : ℕ) → AreDone locks scripts ss → q < length ss → length ss' ≡ length ss → ((q : ℕ) (d : ShelfSession) → q < length ss → (get_or ss' q d).replies ≡ (get_or ss q d).replies)
    → length (items_at (map (λ s. s.replies) ss') q) ≡ length (items_at scripts q)
all_answered locks scripts ss ss' q done h long same = let s = there ss q h in ap length (replies_at ss ss' q s.0 h long same) ∙ (done q s.0 h).1.1

pub all_tied : {Z : Type 0} (scripts : List (Vec ShelfOrder Z)) (ss ss' : List ShelfSession) (j q : ℕ) (es : List RegisterEntry) → IsJournal scripts ss j es → q < length ss → length ss' ≡ length ss → ((q : ℕ) (d : ShelfSession) → q < length ss → (get_or ss' q d).replies ≡ (get_or ss q d).replies)
    → entries_by q es ≡ made_at q j (items_at scripts q) (items_at (map (λ s. s.replies) ss') q)
all_tied scripts ss ss' j q es journal h long same = let s = there ss q h in journal.tied q s.0 h ∙ ap (λ rs. made_at q j (items_at scripts q) rs) (sym (replies_at ss ss' q s.0 h long same))
