-- What the words tell once each lane was handed in.
use Rattle.std.proofs.Common.{◌≡◌, ℕ, zero, suc, ◌+◌, ◌/◌, ◌<◌, true, List, [], ◌∷◌, ◌++◌, length, map, arith, sym, ap, ◌∙◌, subst, slice_index, get_or-take, get_or-drop, take, drop}
use mathlib.Core.Option.{some, some-injective, some-ne-none}
use lib.ListN.{get_elem?}
use Rattle.atomic_table.specs.Table.{Final, Seen, Me}
use Rattle.map_table.specs.Entry.{entry_in}
use Rattle.lane_core.specs.declared.history.Entry.{Entry}
use Rattle.lane_core.specs.Areas.{entry_at, block_in}
use Rattle.lane_core.specs.Finished.{IsAccount}
use Rattle.lane_core.specs.Fixed.{RowHasFixed}
use Rattle.lane_core.specs.declared.lane.Lane.{Lane}
use Rattle.lane_core.specs.History.{cell_of, cell_in, of_lane, of_session}
use Rattle.lane_core.specs.Machine.{State}
use Rattle.lane_core.specs.Places.{Shows, geometry, SeenData, SeenMap}
use Rattle.lane_core.proofs.Cutting.{some_side}
use Rattle.lane_core.proofs.Past.{cell_in-words}
use Rattle.lane_core.proofs.Recovering.{recovers}
use Rattle.lane_table.specs.declared.closing.Closed.{Closed}
use Rattle.lane_table.specs.declared.lanes.LaneEnd.{LaneEnd}
use Rattle.lane_table.specs.declared.table.Key.{Key}
use Rattle.lane_table.specs.declared.table.Owned.{Owned}
use Rattle.lane_table.specs.declared.table.View.{View}
use Rattle.lane_table.specs.Closed.{IsClosed, AreInOrder}
use Rattle.lane_table.specs.declared.table.PassPart.{PassPart}
use Rattle.lane_table.specs.Kits.{kit_in, log_in, owned_in, held_in, loose_in, all_loose}
use Rattle.lane_table.specs.Law.{holds, opening_of, cells_in, areas_in, words_of, keeper, Tells, Covers, IsHeld, rising}
use Rattle.lane_table.proofs.Accounts.{Accounts, accounts}
use Rattle.lane_table.specs.Logs.{call_logged}
use Rattle.lane_table.proofs.Starts.{data_low, map_low}
use Rattle.lane_table.proofs.WriteLines.{map_word_in}

map_at : {A B : Type 0} (f : A → B) (xs : List A) (l : ℕ) (x : A) → get_elem? xs l ≡ some x → get_elem? (map f xs) l ≡ some (f x)
map_at f [] l x e = absurd (some-ne-none x (sym e))
map_at f (y ∷ xs) zero x e = ap (λ z. some (f z)) (some-injective y x e)
map_at f (y ∷ xs) (suc l) x e = map_at f xs l x e

abbrev pub owned_of : List LaneEnd → List Owned
owned_of ends = map (λ e. owned_in (kit_in e)) ends

at_first : {A : Type 0} (xs ys : List A) (m : ℕ) (x : A) → get_elem? xs m ≡ some x → get_elem? (xs ++ ys) m ≡ some x
at_first [] ys m x e = absurd (some-ne-none x (sym e))
at_first (y ∷ xs) ys zero x e = e
at_first (y ∷ xs) ys (suc m) x e = at_first xs ys m x e

at_second : {A : Type 0} (xs ys : List A) (m : ℕ) → get_elem? (xs ++ ys) (length xs + m) ≡ get_elem? ys m
at_second [] ys m = let same : 0 + m ≡ m = omega arith in ap (get_elem? ys) same
at_second (x ∷ xs) ys m = let next : suc (length xs) + m ≡ suc (length xs + m) = omega arith in ap (get_elem? (x ∷ (xs ++ ys))) next ∙ at_second xs ys m

-- a pass that an end carries is among those of all ends
loose_at : (ends : List LaneEnd) (l m : ℕ) (e : LaneEnd) (t : PassPart) → get_elem? ends l ≡ some e → get_elem? (loose_in (kit_in e)) m ≡ some t → (j : ℕ) × (get_elem? (all_loose ends) j ≡ some t)
loose_at [] l m e t at is = absurd (some-ne-none e (sym at))
loose_at (d ∷ ends) zero m e t at is = (m, at_first (loose_in (kit_in d)) (all_loose ends) m t (ap (λ e. get_elem? (loose_in (kit_in e)) m) (some-injective d e at) ∙ is))
loose_at (d ∷ ends) (suc l) m e t at is = let r = loose_at ends l m e t at is in (length (loose_in (kit_in d)) + r.0, at_second (loose_in (kit_in d)) (all_loose ends) r.0 ∙ r.1)

-- a word of the arena in the seen words
seen_at : (total : ℕ) (row : List ℕ) (i : ℕ) → i < total → slice_index (take total row) i ≡ slice_index row i
seen_at total row i lt = get_or-take total row i 0 lt

module _ {S : Type 0} (k : Key) (id : ℕ) (ends : List LaneEnd) (c : Closed) (ws : List ℕ) (xs : List S) (order : AreInOrder k.shape.lanes ends)
    (seen : c.seen.items ≡ take k.shape.total ws) (kept : c.kept.items ≡ take k.shape.total (drop k.shape.total ws)) (logs : c.logs.items ≡ map (λ e. (kit_in e).log.calls) ends) where
  pub closes : Final (Seen (holds k) id (keeper (owned_of ends) (all_loose ends))) ws xs → IsClosed k ends c
  closes final =
      record {
        state = s;
        sound = told.sound;
        row = ws;
        size = ap length (sym final.2) ∙ told.size;
        shown = shown;
        seen = seen;
        kept = kept;
        seen_fixed = λ i f. ap (λ r. slice_index r i) seen ∙ seen_at k.shape.total ws i f.inside ∙ (fixed i f).0;
        kept_fixed = λ i f. ap (λ r. slice_index r i) kept ∙ seen_at k.shape.total (drop k.shape.total ws) i f.inside ∙ get_or-drop k.shape.total ws i 0 ∙ (fixed i f).1;
        lanes = lane;
        history = past.0;
        legal = past.1.legal;
        each = own;
        logs = logs;
        logged = λ l e at. (kit_in e).logged ∙ ap (map call_logged) (sym (own l e at));
        held = held;
        loose = loose;
        no_other = past.1.no_other;
        leaves = λ t lt. past.1.leaves t lt ∙ cells t lt;
        same_end = λ t lt. past.1.leaves t lt ∙ sym (told.sound.cells t lt);
        survives = λ left hl. (λ l ll. let x = some_side (geometry k.shape) (opening_of k) s told.sound left hl l ll in (x.0, x.1), λ after hs. recovers (geometry k.shape) (opening_of k) s told.sound left hl after hs);
      }
    where
      s : State
      s = final.1.0.0

      told : Tells k.shape (opening_of k) (words_of k) final.0.words final.0.views s
      told = final.1.0.1

      both : Accounts k.shape (opening_of k) final.0.views s told.sound told.passes
      both = accounts k.shape (opening_of k) final.0.views s told.sound told.passes

      past : (h : List Entry) × IsAccount (geometry k.shape) (opening_of k) (cell_of (geometry k.shape) s.seen.data_at s.seen.map_at) (λ l. (s.lanes l).log) h
      past = (both.past, both.account)

      shown : Shows k.shape ws s
      shown = subst (λ ws. Shows k.shape ws s) final.2 told.shown

      fixed : RowHasFixed k.shape (words_of k) ws
      fixed = subst (λ ws. RowHasFixed k.shape (words_of k) ws) final.2 told.fixed

      knows : (l : ℕ) (e : LaneEnd) → get_elem? ends l ≡ some e → ((kit_in e).number < k.shape.lanes) × (s.lanes (kit_in e).number ≡ (kit_in e).seat.me.0.lane) × ((kit_in e).seat.me.0.shape ≡ k.shape)
      knows l e at = told.seats.known id l (keeper (owned_of ends) (all_loose ends)) (owned_in (kit_in e)) final.1.1 (map_at (λ e. owned_in (kit_in e)) ends l e at)

      held : (l m : ℕ) (e : LaneEnd) (t : PassPart) → get_elem? ends l ≡ some e → get_elem? (held_in (kit_in e)) m ≡ some t → (of_session t.session past.0 ≡ t.entries) × (rising t.entries ≡ true)
      held l m e t at is =
          let r = told.passes.held id l (keeper (owned_of ends) (all_loose ends)) (owned_in (kit_in e)) final.1.1 (map_at (λ e. owned_in (kit_in e)) ends l e at) m t is in
          (both.held (kit_in e).number t (knows l e at).0 (subst (λ (p : Lane). IsHeld told.passes.homes s.history (kit_in e).number p.log t) (sym (knows l e at).1) r.0), r.1)

      loose : (l m q : ℕ) (e : LaneEnd) (t : PassPart) → get_elem? ends l ≡ some e → get_elem? (loose_in (kit_in e)) m ≡ some t → Covers t q → (of_session q past.0 ≡ t.entries) × (rising t.entries ≡ true)
      loose l m q e t at is c =
          let j = loose_at ends l m e t at is in
          let r = told.passes.loose id j.0 (keeper (owned_of ends) (all_loose ends)) t final.1.1 j.1 in (both.loose id j.0 q t c r.0, r.1)

      lane_in : (l : ℕ) (e : LaneEnd) → get_elem? ends l ≡ some e → l < k.shape.lanes
      lane_in l e at = subst (λ n. n < k.shape.lanes) (order.each l e at) (knows l e at).0

      lane : (l : ℕ) (e : LaneEnd) → get_elem? ends l ≡ some e → s.lanes l ≡ (kit_in e).seat.me.0.lane
      lane l e at = ap s.lanes (sym (order.each l e at)) ∙ (knows l e at).1

      own : (l : ℕ) (e : LaneEnd) → get_elem? ends l ≡ some e → of_lane l past.0 ≡ log_in (kit_in e)
      own l e at = past.1.each l (lane_in l e at) ∙ ap (λ p. p.log) (lane l e at)

      -- the cells of the row are those of its seen words
      cells : (t : ℕ) → t < k.shape.sectors → cell_of (geometry k.shape) s.seen.data_at s.seen.map_at t ≡ cells_in k.shape c.seen.items t
      cells t lt =
          cell_in-words k.shape.width s.seen.data_at (areas_in k.shape (take k.shape.total ws)).data_at (entry_at s.seen.map_at t) t
          (λ j lj. let b = told.sound.blocks.map_in t lt in sym (seen_at k.shape.total ws _ (data_low k.shape told.shape (block_in (entry_at s.seen.map_at t) t) j b lj) ∙ shown (SeenData (block_in (entry_at s.seen.map_at t) t) j) (b, lj)))
          ∙ ap (λ w. cell_in k.shape.width (areas_in k.shape (take k.shape.total ws)).data_at (entry_in w t) t)
          (sym (seen_at k.shape.total ws _ (map_low k.shape told.shape (t / 2) (map_word_in k.shape.sectors t lt)) ∙ shown (SeenMap (t / 2)) (map_word_in k.shape.sectors t lt)))
          ∙ ap (λ ws. cells_in k.shape ws t) (sym seen)

-- as the code has it
pub closes_as : {S : Type 0} (k : Key) (id total : ℕ) (ends : List LaneEnd) (c : Closed) (me : Me S View) (ws : List ℕ) (xs : List S) → AreInOrder k.shape.lanes ends → total ≡ k.shape.total → c.seen.items ≡ take total (drop 0 ws) → c.kept.items ≡ take total (drop total ws)
    → c.logs.items ≡ map (λ e. (kit_in e).log.calls) ends → me ≡ (keeper (owned_of ends) (all_loose ends), []) → Final (Seen (holds k) id me.0) ws xs → IsClosed k ends c
closes_as k id total ends c me ws xs order t seen kept logs is final =
    closes k id ends c ws xs order (seen ∙ ap (λ n. take n ws) t) (kept ∙ ap (λ n. take n (drop n ws)) t) logs (subst (λ v. Final (Seen (holds k) id v) ws xs) (ap (λ m. m.0) is) final)
