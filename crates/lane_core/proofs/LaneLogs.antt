-- A lane's log is what its entries are without the read that isn't answered.
use Rattle.std.proofs.Common.{arith, length, take, ◌-◌, ◌≡◌, ℕ, ◌<◌, Bool, true, false, List, [], ◌∷◌, ◌++◌, slice_get, Some, refl, sym, ap, ◌∙◌, subst}
use Rattle.std.proofs.Math.Seq.{take-append_seam}
use Rattle.std.proofs.lemmas.List.{length-append}
use Rattle.lane_core.specs.declared.history.Entry.{Entry}
use Rattle.lane_core.specs.declared.lane.Lane.{Lane}
use Rattle.lane_core.specs.declared.machine.Core.{Core}
use Rattle.lane_core.specs.declared.now.LaneNow.{LaneNow}
use Rattle.lane_core.specs.History.{Cells, of_lane}
use Rattle.lane_core.specs.Invariant.{is_reading, only_if, open_entry}
use Rattle.lane_core.specs.Cores.{ShowsSound}
use Rattle.lane_core.specs.Logs.{EndsIn, IsLog, but_last}
use Rattle.lane_core.specs.Machine.{State, looked}
use Rattle.lane_core.specs.Machines.{IsSomeCore}
use Rattle.lane_core.proofs.Past.{append_none}
use Rattle.lane_core.proofs.Put.{never}
use Rattle.lane_core.proofs.Showing.{lane_lt}
use Rattle.lane_core.proofs.Stepping.{there_is}

-- lists with one last element each
none_snoc : (ys : List Entry) (b : Entry) → [] ≡ ys ++ b ∷ [] → ⊥
none_snoc [] b e = cc
none_snoc (y ∷ ys) b e = cc

pub snoc_same : (xs ys : List Entry) (a b : Entry) → xs ++ a ∷ [] ≡ ys ++ b ∷ [] → xs ≡ ys
snoc_same [] [] a b e = refl
snoc_same [] (y ∷ ys) a b e = absurd (none_snoc ys b (tails e))
  where
    tails : a ∷ [] ≡ y ∷ (ys ++ b ∷ []) → [] ≡ ys ++ b ∷ []
    tails e = cc
snoc_same (x ∷ xs) [] a b e = absurd (none_snoc xs a (sym (tails e)))
  where
    tails : x ∷ (xs ++ a ∷ []) ≡ b ∷ [] → xs ++ a ∷ [] ≡ []
    tails e = cc
snoc_same (x ∷ xs) (y ∷ ys) a b e =
    let heads : x ≡ y = cc in
    let tails : xs ++ a ∷ [] ≡ ys ++ b ∷ [] = cc in
    let rest : xs ≡ ys = snoc_same xs ys a b tails in
    λ i. heads i ∷ rest i

but_last-snoc : (xs : List Entry) (a : Entry) → but_last (xs ++ a ∷ []) ≡ xs
but_last-snoc xs a = ap (λ n. take n (xs ++ a ∷ [])) (let e : length (xs ++ a ∷ []) - 1 ≡ length xs = omega (arith, length-append xs (a ∷ [])) in e) ∙ take-append_seam xs (a ∷ [])

module _ (core : Core) (l : ℕ) (p : LaneNow) (at : slice_get core.lanes.items l ≡ Some p) where
  -- what the lane's entries are in a state that the core shows
  abbrev Ends : State → Type 0
  Ends s = EndsIn (is_reading p.phase) (of_lane l core.history.entries) (s.lanes l).log p

  ends_by : (o : Cells) (s : State) (h : ShowsSound core.shape core.row core.lanes.items core.history o s) (b : Bool) → is_reading p.phase ≡ b
      → of_lane l core.history.entries ≡ (s.lanes l).log ++ only_if b (open_entry core.shape.width (s.seen.data_at (looked (s.lanes l))) l (s.lanes l).tag (s.lanes l).sector)
      → EndsIn b (of_lane l core.history.entries) (s.lanes l).log p
  ends_by o s h false is e = e ∙ append_none (s.lanes l).log
  ends_by o s h true is e = (_, e, ap (λ (a : Lane). a.tag) (h.shown.each l p at), ap (λ (a : Lane). a.sector) (h.shown.each l p at), refl)

  ends : (o : Cells) (s : State) → ShowsSound core.shape core.row core.lanes.items core.history o s → Ends s
  ends o s h =
      let lt : l < core.shape.lanes = lane_lt core.shape core.row core.lanes.items core.history.entries s l p h.shape h.shown at in
      let reads : is_reading (s.lanes l).phase ≡ is_reading p.phase = ap (λ (a : Lane). is_reading a.phase) (h.shown.each l p at) in
      ends_by o s h (is_reading p.phase) refl (ap (of_lane l) (sym h.shown.history) ∙ (h.sound.each l lt).tells.entries
      ∙ ap (λ b. (s.lanes l).log ++ only_if b (open_entry core.shape.width (s.seen.data_at (looked (s.lanes l))) l (s.lanes l).tag (s.lanes l).sector)) reads)

  -- two logs with these entries are one
  same_log : (b : Bool) (all x y : List Entry) → EndsIn b all x p → EndsIn b all y p → x ≡ y
  same_log false all x y a c = sym a ∙ c
  same_log true all x y a c = snoc_same x y a.0 c.0 (sym a.1 ∙ c.1)

  pub is_log : (log : List Entry) → IsSomeCore core → EndsIn (is_reading p.phase) (of_lane l core.history.entries) log p → IsLog core l log
  is_log log some e = record {
    entries = λ q here. subst (λ (q : LaneNow). EndsIn (is_reading q.phase) (of_lane l core.history.entries) log q) (there_is (sym at ∙ here)) e;
    shown = λ o s h. same_log (is_reading p.phase) (of_lane l core.history.entries) (s.lanes l).log log (ends o s h) e;
  }

  -- the entries of a lane that loads no words of a read
  pub whole_log : (all : List Entry) → IsSomeCore core → all ≡ of_lane l core.history.entries → is_reading p.phase ≡ false → IsLog core l all
  whole_log all some e r = is_log all some (subst (λ b. EndsIn b (of_lane l core.history.entries) all p) (sym r) (sym e))

  -- those of one that does, without the last
  part_by : (b : Bool) (all log : List Entry) (a : Entry) (x : List Entry) → b ≡ true → all ≡ log ++ a ∷ [] → EndsIn b all x p → EndsIn b all log p
  part_by true all log a x q e k = (k.0, k.1 ∙ ap (λ ls. ls ++ k.0 ∷ []) (snoc_same x log k.0 a (sym k.1 ∙ e)), k.2, k.3, k.4)
  part_by false all log a x q e k = never q

  pub part_log : (log : List Entry) (a : Entry) → IsSomeCore core → of_lane l core.history.entries ≡ log ++ a ∷ [] → is_reading p.phase ≡ true → IsLog core l log
  part_log log a some e r = is_log log some (part_by (is_reading p.phase) (of_lane l core.history.entries) log a (some.1.0.lanes l).log r e (ends some.0 some.1.0 some.1.1))

  pub but_last_log : (all log : List Entry) → IsSomeCore core → all ≡ of_lane l core.history.entries → log ≡ but_last all → is_reading p.phase ≡ true → IsLog core l log
  but_last_log all log some e is r = by (is_reading p.phase) r (ends some.0 some.1.0 some.1.1)
    where
      by : (b : Bool) → b ≡ true → EndsIn b (of_lane l core.history.entries) (some.1.0.lanes l).log p → IsLog core l log
      by true q k = part_log log k.0 some (k.1 ∙ ap (λ ls. ls ++ k.0 ∷ []) (sym (is ∙ ap but_last (e ∙ k.1) ∙ but_last-snoc (some.1.0.lanes l).log k.0))) r
      by false q k = never q
