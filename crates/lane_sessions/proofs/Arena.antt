-- What an arena leaves follows from what its sessions know of it.
use Rattle.std.proofs.Common.{◌≡◌, inl, inr, ℕ, zero, suc, ◌<◌, ◌≤◌, Bool, true, false, List, [], ◌∷◌, ◌++◌, length, length-drop, length-take-le, drop, get_or, map, Option, Some, None, refl, sym, ap, ◌∙◌, subst, arith}
use Rattle.std.specs.Prelude.{All, Any}
use mathlib.Core.Option.{some}
use lib.ListN.{get_elem?}
use Rattle.arena_open.specs.declared.cell.Cell.{Cell}
use Rattle.arena_open.specs.declared.cell.Cell.TheVariants as cell
use Rattle.arena_open.specs.declared.state.ArenaState.{ArenaState}
use Rattle.arena_open.specs.Moves.{IsOpenState}
use Rattle.std.proofs.lemmas.Option.{get_or_from_slice_get, slice_get_within}
use Rattle.lane_core.specs.declared.arena_words.ArenaWords.{ArenaWords}
use Rattle.lane_core.specs.declared.history.Act.TheVariants as act
use Rattle.lane_core.specs.declared.history.Entry.{Entry}
use Rattle.lane_core.specs.declared.in_call.InCall.{InCall}
use Rattle.lane_core.specs.declared.lane.Lane.{Lane}
use Rattle.lane_core.specs.Cut.{is_open}
use Rattle.lane_core.specs.History.{IsLegal, of_session}
use Rattle.lane_core.specs.Reopening.{IsEither, Reopens, first_cells}
use Rattle.lane_core.specs.Sessions.{IsFlying}
use Rattle.session_parts.specs.declared.parts.CorePart.{CorePart}
use Rattle.session_parts.specs.Parts.{own_stands, stand}
use Rattle.lane_table.specs.declared.arena.Arena.{Arena}
use Rattle.lane_table.specs.declared.closing.Closed.{Closed}
use Rattle.lane_table.specs.declared.lanes.Kit.{Kit}
use Rattle.lane_table.specs.declared.lanes.LaneEnd.{LaneEnd}
use Rattle.lane_table.specs.declared.session_pass.Pass.{Pass}
use Rattle.lane_table.specs.declared.table.PassPart.{PassPart}
use Rattle.lane_table.specs.Begun.{IsMadeOf}
use Rattle.lane_table.specs.Closed.{AreInOrder, IsClosed}
use Rattle.lane_table.specs.Kits.{arena_id, held_in, kit_in, loose_in}
use Rattle.lane_table.specs.Law.{unmade_from}
use Rattle.lane_table.specs.Reopened.{IsInFlight, MaySurvive}
use Rattle.lane_table.proofs.Reopens.{closed_words_reopen}
use Rattle.lane_calls.specs.declared.parts.ArenaPart.{ArenaPart}
use Rattle.lane_calls.specs.Lanes.{is_in_flight}
use Rattle.lane_calls.specs.Sessions.{Holds, InHand, calls_by, calls_of, in_call}
use Rattle.lane_sessions.specs.Closing.{AreHandedIn, ArePassesOf, InLane, IsSameEnd, Joins, all_calls, carried, carried_by}
use Rattle.lane_sessions.specs.Left.{IsArenaLeft, MayBeLeft}
use Rattle.lane_sessions.proofs.Calls.{AllOwn, Owns, all_below, any_of, own_calls}
use Rattle.lane_sessions.proofs.Lists.{any_one, behind, in_front, elem_is, is_within, some_at}

-- ---- a pass that is carried along

carried_at : (passes : List (Option Pass)) (q : ℕ) (p : Pass) (t : PassPart) → q < length passes → get_or passes q None ≡ Some p → p.seat.me.0.loose ≡ t ∷ [] → (k : ℕ) × (get_elem? (carried passes) k ≡ some t)
carried_at [] q p t h is one = absurd (omega (arith, h))
carried_at (o ∷ passes) zero p t h is one =
    (0, in_front (carried_by o) (carried passes) 0 t (ap (λ (x : Option Pass). get_elem? (carried_by x) 0) is ∙ ap (λ ts. get_elem? ts 0) one))
carried_at (o ∷ passes) (suc q) p t h is one = let r = carried_at passes q p t (omega (arith, h)) is one in behind (carried_by o) (carried passes) r.0 t r.1

-- ---- a session's writes in flight

owns_lane : (q : ℕ) (k : Kit) (m : ArenaPart) → Holds q k m → Owns q m.mine.calls
owns_lane q k m h = by (is_in_flight k) refl
  where
    calls : m.mine.calls ≡ calls_of k
    calls = ap (λ (x : CorePart). x.calls) h.mine

    by : (b : Bool) → is_in_flight k ≡ b → Owns q m.mine.calls
    by true e = inr (in_call k, calls ∙ ap (λ b. calls_by b (in_call k)) e, h.own e)
    by false e = inl (calls ∙ ap (λ b. calls_by b (in_call k)) e)

-- ---- what lane 0 needs to take the passes

some_in : {A : Type 0} {x y : A} → Some x ≡ Some y → x ≡ y
some_in e = cc

none_is : {A B : Type 0} {x : A} → None ≡ Some x → B
none_is e = absurd (cc)

module _ (a : Arena) (ends : List LaneEnd) (passes : List (Option Pass)) (known : ℕ → ArenaPart) (h : AreHandedIn a ends passes known) where
  pub some_lane : 0 < length ends
  some_lane = let some = a.some.0 in let count = h.order.count in omega (arith, some, count)

  pub of_passes : ArePassesOf (arena_id a) passes
  of_passes q p is =
      let at : get_or passes q None ≡ Some p = get_or_from_slice_get passes q (Some p) None is in
      elim (h.each q (slice_get_within passes q (Some p) is)) [
        | inl i ↦ subst (λ (x : Pass). x.seat.table_id ≡ arena_id a) (some_in (sym i.is ∙ at)) i.table_is
        | inr i ↦ none_is (sym i.none ∙ at)
      ]

module _ (a : Arena) (ends ends' : List LaneEnd) (passes : List (Option Pass)) (known : ℕ → ArenaPart) (h : AreHandedIn a ends passes known) (joins : Joins (carried passes) ends ends') where
  -- ---- a lane before and after the passes were joined to the first one

  now_at : (l : ℕ) (e : LaneEnd) → get_elem? ends l ≡ some e → (e' : LaneEnd) × (get_elem? ends' l ≡ some e') × IsSameEnd e e'
  now_at zero e is =
      let inside = is_within ends 0 e is in
      let count = joins.count in
      let r = some_at ends' 0 (omega (arith, inside, count)) in
      (r.0, r.1, (joins.first e r.0 is r.1).same)
  now_at (suc l) e is = (e, joins.others (suc l) (omega arith) ∙ is, record { table = refl; number = refl; lane = refl; held = refl })

  was_at : (l : ℕ) (e' : LaneEnd) → get_elem? ends' l ≡ some e' → (e : LaneEnd) × (get_elem? ends l ≡ some e) × IsSameEnd e e'
  was_at zero e' is =
      let inside = is_within ends' 0 e' is in
      let count = joins.count in
      let r = some_at ends 0 (omega (arith, inside, count)) in
      (r.0, r.1, (joins.first r.0 e' r.1 is).same)
  was_at (suc l) e' is = (e', sym (joins.others (suc l) (omega arith)) ∙ is, record { table = refl; number = refl; lane = refl; held = refl })

  -- ---- all lanes can be handed in

  pub order : AreInOrder a.shape.lanes ends'
  order = record { count = joins.count ∙ h.order.count; each = λ l e' is. let was = was_at l e' is in was.2.number ∙ h.order.each l was.0 was.1 }

  pub of_arena : All (λ e. (kit_in e).seat.table_id ≡ arena_id a) ends'
  of_arena l d inside =
      let r = some_at ends' l inside in
      let was = was_at l r.0 r.1 in
      let at : get_or ends' l d ≡ r.0 = elem_is ends' l r.0 d r.1 in
      let at' : get_or ends l was.0 ≡ was.0 = elem_is ends l was.0 was.0 was.1 in
      subst (λ e. (kit_in e).seat.table_id ≡ arena_id a) (sym at) (was.2.table ∙ subst (λ e. (kit_in e).seat.table_id ≡ arena_id a) at' (h.table l was.0 (is_within ends l was.0 was.1)))

  -- ---- lane 0 has the passes that were in hand

  first : (e : LaneEnd) × (get_elem? ends 0 ≡ some e)
  first = let some = a.some.0 in let count = h.order.count in some_at ends 0 (omega (arith, some, count))

  first' : (e' : LaneEnd) × (get_elem? ends' 0 ≡ some e') × IsSameEnd first.0 e'
  first' = now_at 0 first.0 first.1

  loose : loose_in (kit_in first'.0) ≡ loose_in (kit_in first.0) ++ carried passes
  loose = (joins.first first.0 first'.0 first.1 first'.1).loose

  module _ (state : ArenaState) (c : Closed) (words : ArenaWords) (opened : IsOpenState state) (made : IsMadeOf state a)
      (closed : IsClosed a.table.shared.key ends' c) (seen : words.seen.items ≡ c.seen.items) (kept : words.kept.items ≡ c.kept.items) where
    abbrev history : List Entry
    history = closed.history

    abbrev calls : List InCall
    calls = all_calls (length passes) known

    -- ---- each session's entries

    in_hand : (q : ℕ) → q < length passes → InHand (arena_id a) q (get_or passes q None) (known q) → own_stands q history ≡ (known q).mine.stands
    in_hand q lt i =
        let t : PassPart = record { session = q; unmade = false; steps = (known q).steps; entries = i.entries } in
        let one = carried_at passes q i.pass t lt i.is i.loose in
        let at = behind (loose_in (kit_in first.0)) (carried passes) one.0 t one.1 in
        let there : get_elem? (loose_in (kit_in first'.0)) at.0 ≡ some t = ap (λ ts. get_elem? ts at.0) loose ∙ at.1 in
        ap (map stand) (closed.loose 0 at.0 q first'.0 t first'.1 there refl).0 ∙ sym (ap (λ (m : CorePart). m.stands) i.mine)

    in_lane : (q : ℕ) → InLane q (get_or passes q None) ends (known q) → own_stands q history ≡ (known q).mine.stands
    in_lane q i =
        let p = i.holds.pass in
        let now = now_at i.place i.end i.there in
        let held : get_elem? (held_in (kit_in now.0)) 0 ≡ some p = ap (λ ts. get_elem? ts 0) (now.2.held ∙ i.holds.held) in
        ap (λ s. map stand (of_session s history)) (sym i.holds.session) ∙ ap (map stand) (closed.held i.place 0 now.0 p now.1 held).0 ∙ sym (ap (λ (m : CorePart). m.stands) i.holds.mine)

    own_entries : (q : ℕ) → q < length passes → own_stands q history ≡ (known q).mine.stands
    own_entries q lt = elim (h.each q lt) [
      | inl i ↦ in_hand q lt i
      | inr i ↦ in_lane q i
    ]

    -- no other session has any: lane 0 made the passes of these alone
    none_other : (q : ℕ) → length passes ≤ q → own_stands q history ≡ []
    none_other q over =
        let k = kit_in first.0 in
        let makes = k.makes (h.order.each 0 first.0 first.1) in
        let count = h.made first.0 first.1 in
        let there : get_elem? (loose_in (kit_in first'.0)) 0 ≡ some (unmade_from k.made) = ap (λ ts. get_elem? ts 0) (loose ∙ ap (λ ts. ts ++ carried passes) makes) in
        ap (map stand) (closed.loose 0 0 q first'.0 (unmade_from k.made) first'.1 there (omega (arith, over, count))).0

    -- ---- the writes in flight

    owns : AllOwn (length passes) known
    owns q lt = elim (h.each q lt) [
      | inl i ↦ inl (ap (λ (m : CorePart). m.calls) i.mine)
      | inr i ↦ owns_lane q (kit_in i.end) (known q) i.holds
    ]

    flying : (t : ℕ) (found : Cell) → IsInFlight ends' t found → Any (IsFlying t found) calls
    flying t found f =
        let was = was_at f.lane f.stopped f.there in
        let k = kit_in was.0 in
        let same = was.2.lane in
        let flies : is_in_flight k ≡ true = ap (λ (x : Lane). is_open x.phase) (sym same) ∙ f.unfinished in
        let by = h.flights f.lane was.0 was.1 flies in
        let own : (known by.0).mine.calls ≡ in_call k ∷ [] = ap (λ (m : CorePart). m.calls) by.2.mine ∙ ap (λ b. calls_by b (in_call k)) flies in
        let sector : k.seat.me.0.lane.sector ≡ t = ap (λ (x : Lane). x.sector) (sym same) ∙ f.on in
        let cell_is : found ≡ cell.Bytes k.seat.me.0.lane.words = f.words ∙ ap (λ (x : Lane). cell.Bytes x.words) same in
        any_of (IsFlying t found) (length passes) known by.0 by.1
        (subst (Any (IsFlying t found)) (sym own) (any_one (IsFlying t found) (in_call k) (act.Write k.seat.me.0.lane.words, refl, sector, refl, cell_is)))

    -- ---- after a power cut

    may : (t : ℕ) (found : Cell) → MaySurvive state ends' history t found → MayBeLeft (first_cells state) history calls t found
    may t found (inl e) = inl e
    may t found (inr f) = inr (flying t found f)

    reopens : (left : List ℕ) → IsEither words.kept.items words.seen.items left → Reopens state (MayBeLeft (first_cells state) history calls) left
    reopens left either =
        let r = closed_words_reopen state a ends' c left opened made order closed (subst (λ ws. IsEither c.kept.items ws left) seen (subst (λ ws. IsEither ws words.seen.items left) kept either)) in
        record {
          size = r.size;
          fixed = r.fixed;
          opens = λ behind parent arena opens.
              let f = r.opens behind parent arena opens in
              record { arena = f.arena; opens = f.opens; info = f.info; contents = λ t lt. may t _ (f.contents t lt) };
        }

    -- ---- both lists have the arena's words

    abbrev total : ℕ
    total = a.table.shared.key.shape.total

    seen_size : length words.seen.items ≡ total
    seen_size = ap length seen ∙ ap length closed.seen ∙ length-take-le total closed.row (omega (arith, closed.size))

    kept_size : length words.kept.items ≡ total
    kept_size = ap length kept ∙ ap length closed.kept ∙ length-take-le total (drop total closed.row) (omega (arith, length-drop total closed.row, closed.size))

    pub arena_left : IsArenaLeft (length passes) state (λ q. (known q).mine) words
    arena_left = record {
      history = history;
      legal = subst (λ cells. IsLegal cells history) made.begins closed.legal;
      calls = calls;
      own = λ q lt. λ i. record { stands = own_entries q lt i; calls = own_calls (length passes) known owns q lt i };
      none = none_other;
      flying = all_below (length passes) known owns;
      same = seen_size ∙ sym kept_size;
      reopens = reopens;
    }
