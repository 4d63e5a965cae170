-- Orders are steps of a session's account.
use Rattle.std.proofs.Common.{◌≡◌, ◌⊎◌, inl, inr, ℕ, ◌+◌, ◌<◌, ◌≤◌, suc, zero, max, Bool, true, false, ◌||◌, List, [], ◌∷◌, ◌++◌, length, get_or, replicate, Option, Some, None, Err, refl, sym, ap, ◌∙◌, subst, arith, append-nil, zero-add, cond}
use Rattle.std.specs.Prelude.{option_to_list}
use Rattle.std.proofs.lemmas.List.FromFn.{get_or-map-range_with_len, length-map-range_with_len}
use Rattle.std.proofs.lemmas.List.{get_or_past}
use Rattle.namespace_map.specs.declared.refused.OpRefused.TheVariants.{PowerCut}
use Rattle.namespace_ops.specs.Carried as ops
use Rattle.namespace_ops.specs.Entries.{JournalEntry}
use Rattle.namespace_ops.specs.Room.{room_of, with_room}
use Rattle.session_account.specs.declared.reply.Reply.{Reply}
use Rattle.session_account.specs.declared.reply.Reply.TheVariants as reply
use Rattle.session_account.specs.Account.{has_cut_entry}
use Rattle.session_account.specs.Made.{is_cut, made, on_after, on_from}
use Rattle.session_account.specs.Orders.{own_entries}
use Rattle.session_account.specs.Sectors.{Stand, check_of, spot_of, stand_of, steps_of, stand_by, steps_at, is_check, IsChecked}
use Rattle.session_account.specs.Serving.{Serving, Spot}
use Rattle.session_script.specs.declared.script.Line.{Line}
use Rattle.session_script.specs.declared.script.Line.TheVariants as line
use Rattle.session_script.specs.declared.script.Order.{Order}
use Rattle.session_script.specs.declared.script.Order.TheVariants as order
use Rattle.registry_service.specs.declared.served.OrdersPart.{OrdersPart}
use Rattle.registry_service.specs.Asking.{check_by}
use Rattle.registry_service.specs.Laws.{BeginsEmpty, CutsHaveCause, OpenGoesOn, OrdersAnswer, OrdersStop}
use Rattle.registry_service.specs.Parts.{IsOrdered, call_entry, ordered}
use Rattle.registry_service.specs.Served.{answered, began_of, fresh, part_of_session}

-- ---- an order is on no sector

no_spot : (all : List Serving) (call : ℕ) (held : Option (List ℕ)) (o : Order) (r : Reply) → spot_of all (made call held (line.Order o) r) ≡ None
no_spot all call None o r = refl
no_spot all call (Some uuid) o r = refl

no_stand : (all : List Serving) (place k call : ℕ) (held : Option (List ℕ)) (o : Order) (r : Reply) → stand_of all place k (made call held (line.Order o) r) ≡ None
no_stand all place k call held o r = ap (stand_by place k (made call held (line.Order o) r)) (no_spot all call held o r)

stands_same : (all : List Serving) (place k call : ℕ) (held : Option (List ℕ)) (o : Order) (r : Reply) (xs : List Stand) → xs ≡ xs ++ option_to_list (stand_of all place k (made call held (line.Order o) r))
stands_same all place k call held o r xs = sym (append-nil xs) ∙ ap (λ (s : Option Stand). xs ++ option_to_list s) (sym (no_stand all place k call held o r))

no_steps : (all : List Serving) (call : ℕ) (held : Option (List ℕ)) (o : Order) (r : Reply) → steps_of all (made call held (line.Order o) r) ≡ 0
no_steps all call held o r = by (is_cut r) (is_check r) (spot_of all (made call held (line.Order o) r)) (no_spot all call held o r)
  where
    by : (c d : Bool) (s : Option Spot) → s ≡ None → cond c 0 (cond d 0 (steps_at (line.Order o) s)) ≡ 0
    by true d s h = refl
    by false true s h = refl
    by false false s h = ap (steps_at (line.Order o)) h

-- its checks look at no sector
checks_same : (all : List Serving) (held : Option (List ℕ)) (o : Order) → check_by held o ≡ check_of all held (line.Order o)
checks_same all None (order.Open uuid) = refl
checks_same all (Some h) (order.Open uuid) = refl
checks_same all None order.Close = refl
checks_same all (Some h) order.Close = refl
checks_same all None (order.Create uuid region size name) = refl
checks_same all (Some h) (order.Create uuid region size name) = refl
checks_same all None (order.Delete uuid) = refl
checks_same all (Some h) (order.Delete uuid) = refl
checks_same all None (order.Rename uuid name) = refl
checks_same all (Some h) (order.Rename uuid name) = refl

pub orders_answer : OrdersAnswer
orders_answer all q call o r m m' stands left is uncut = record {
  uncut = uncut;
  checked = λ _. subst (λ (x : Option Reply). IsChecked x r) (checks_same all m.held o) is.checked;
  kind = is.kind;
  commands = is.entries;
  arenas = λ place k _. stands_same all place k call m.held o r (stands place k);
  paid = λ n has. (n, has, let none = no_steps all call m.held o r in omega (arith, none));
}

pub orders_stop : OrdersStop
orders_stop all q call o m m' stands either = record {
  cut = refl;
  commands = by either;
  arenas = λ place k _. inl refl;
}
  where
    by : (m' ≡ m) ⊎ IsOrdered q call o reply.Cut m m' → (m'.entries ≡ m.entries) ⊎ (m'.entries ≡ m.entries ++ ordered q call o reply.Cut m)
    by (inl same) = inl (ap (λ (x : OrdersPart). x.entries) same)
    by (inr is) = inr is.entries

-- ---- a cut has a cause

or_true : (b : Bool) → (b || true) ≡ true
or_true true = refl
or_true false = refl

last_is_cut : (es : List JournalEntry) (e : JournalEntry) → ops.is_cut e.reply ≡ true → has_cut_entry (es ++ e ∷ []) ≡ true
last_is_cut [] e h = ap (λ (b : Bool). b || false) h
last_is_cut (x ∷ xs) e h = ap (λ (b : Bool). ops.is_cut x.reply || b) (last_is_cut xs e h) ∙ or_true (ops.is_cut x.reply)

pub cuts_have_cause : CutsHaveCause
cuts_have_cause q call o m m' is =
    let c = is.cause refl in
    let es : m'.entries ≡ m.entries ++ call_entry (record { session = q; call = call }) c.1.0 (Err PowerCut) ∷ [] = is.entries ∙ ap (λ (x : Option JournalEntry). m.entries ++ option_to_list x) c.1.1 in
    (c.0, ap has_cut_entry es ∙ last_is_cut m.entries (call_entry (record { session = q; call = call }) c.1.0 (Err PowerCut)) refl)

-- ---- what is open

open_grows : (on : Option (List ℕ)) (lines : List Line) (replies : List Reply) (line : Line) (answer : Reply) → length replies < length lines → get_or lines (length replies) line ≡ line
    → on_from on lines (replies ++ answer ∷ []) ≡ on_after (on_from on lines replies) line answer
open_grows on [] replies line answer h is = absurd (omega arith)
open_grows on (l ∷ ls) [] line answer h is = ap (λ (l : Line). on_after on l answer) is
open_grows on (l ∷ ls) (r ∷ rs) line answer h is = open_grows (on_after on l r) ls rs line answer (omega arith) is

pub open_goes_on : OpenGoesOn
open_goes_on session replies line answer next = open_grows None session.calls replies line answer next.0 next.1

-- ---- the beginning

all_same : {A : Type 0} (d : A) (n q : ℕ) → get_or (replicate n d) q d ≡ d
all_same d zero q = refl
all_same d (suc n) zero = refl
all_same d (suc n) (suc q) = all_same d n q

lt_or : (q n : ℕ) → (q < n) ⊎ (n ≤ q)
lt_or q zero = inr (omega arith)
lt_or zero (suc n) = inl (omega arith)
lt_or (suc q) (suc n) = by (lt_or q n)
  where
    by : (q < n) ⊎ (n ≤ q) → (suc q < suc n) ⊎ (suc n ≤ suc q)
    by (inl h) = inl (omega (arith, h))
    by (inr h) = inr (omega (arith, h))

-- room that is added to none is what is added
room_first : (calls : List ℕ) (q : ℕ) → room_of (with_room [] calls) q ≡ get_or calls q 0
room_first calls q = by (lt_or q (length calls))
  where
    count : max 0 (length calls) ≡ length calls
    count = omega arith

    by : (q < length calls) ⊎ (length calls ≤ q) → room_of (with_room [] calls) q ≡ get_or calls q 0
    by (inl lt) = get_or-map-range_with_len (λ (session : ℕ). room_of [] session + room_of calls session) 0 (max 0 (length calls)) q q 0 (omega (arith, lt, count)) (omega arith) ∙ zero-add (get_or calls q 0)
    by (inr le) =
        let many : length (with_room [] calls) ≡ max 0 (length calls) = length-map-range_with_len (λ (session : ℕ). room_of [] session + room_of calls session) 0 (max 0 (length calls)) in
        get_or_past (with_room [] calls) q 0 (omega (arith, many, count, le)) ∙ sym (get_or_past calls q 0 le)

pub begins_empty : BeginsEmpty
begins_empty r fuse calls q empty roomless =
    let entries : own_entries q (answered r.journal) ≡ [] = ap (λ (es : List JournalEntry). own_entries q (answered es)) empty in
    let room : room_of (with_room r.room calls) q ≡ get_or calls q 0 = ap (λ (room : List ℕ). room_of (with_room room calls) q) roomless ∙ room_first calls q in
    let held : get_or (replicate (length calls) None) q None ≡ None = all_same None (length calls) q in
    λ i. part_of_session (began_of (fresh r fuse calls)) (entries i) (room i) (held i)
