-- What the pool leaves when its lock is closed.
use Rattle.std.proofs.Common.{◌≡◌, inl, inr, ℕ, zero, suc, ◌≤◌, List, [], ◌∷◌, length, get_or, map, Option, Some, None, Result, Ok, Err, refl, sym, ap, ◌∙◌, subst, arith}
use Rattle.std.specs.Prelude.{All, Any, IfOk, Vec, nat_lt, slice_get}
use Rattle.std.proofs.lemmas.List.{get_or_past, length-map}
use Rattle.turn_lock.specs.declared.parted.Parted.{Ghosts}
use Rattle.turn_lock.specs.declared.pass.TurnPass.{TurnPass}
use Rattle.turn_lock.specs.Passes.{HasEach, number_of, part_of}
use Rattle.lane_pool.specs.declared.holders.Hand.TheVariants as hand
use Rattle.lane_pool.specs.declared.pool.PoolPart.{PoolPart}
use Rattle.lane_pool.specs.declared.sets.LaneSet.{LaneSet}
use Rattle.lane_pool.specs.declared.sets.PowerOff.{PowerOff}
use Rattle.lane_pool.specs.Parts.{HasPart, IsClosed, NoneOut}
use Rattle.lane_pool.specs.Pools.{Has, IsPool, NobodyOut, Now, handed_in, holder_at, left_in, nobody, part_at, set_at}
use Rattle.lane_pool.specs.Sets.{IsAtPlace}
use Rattle.lane_pool.proofs.Keeping.{weaker}

in_some : {A : Type 0} {x y : A} → Some x ≡ Some y → x ≡ y
in_some e = cc

-- the sets that are all at home
pub set_of : (sets : List LaneSet) (i : ℕ) → set_at (map (λ s. Some s) sets) i ≡ slice_get sets i
set_of [] i = refl
set_of (s ∷ sets) zero = refl
set_of (s ∷ sets) (suc i) = set_of sets i

module _ {g : Ghosts Now PoolPart} (x first : Now) (n : ℕ) (few : length first.holders ≤ n) (ps : List (TurnPass Now PoolPart g))
    (knows : All (λ p. part_of p ≡ Some (part_at x (number_of p))) ps) (each : HasEach n ps) (strangers : (q : ℕ) → n ≤ q → part_at x q ≡ part_at first q) where
  first_same : x.first ≡ first.first
  first_same = ap (λ (m : PoolPart). m.first) (strangers n (omega arith))

  -- there is nobody else
  stranger : (q : ℕ) → n ≤ q → part_at first q ≡ record { first = first.first; placed = nat_lt q (length first.holders); left = 0; hand = hand.Empty; handed = None; stop = None; told = None }
  stranger q over = λ i. record {
    first = first.first;
    placed = nat_lt q (length first.holders);
    left = (is i).left;
    hand = (is i).hand;
    handed = handed_in first.sets (is i).hand;
    stop = (is i).stop;
    told = (is i).told;
  }
    where
      is : holder_at first.holders q ≡ nobody
      is = get_or_past first.holders q nobody (omega (arith, few, over))

  -- a pass of each caller that did something
  pass_of : (q : ℕ) → ((n ≤ q) → ⊥) → Any (λ p. part_of p ≡ Some (part_at x q)) ps
  pass_of q below =
      let a = each q (omega (arith, below)) in
      (a.0, a.1, a.2, a.3, subst (λ (k : ℕ). part_of a.1 ≡ Some (part_at x k)) a.4 (subst (λ p. part_of p ≡ Some (part_at x (number_of p))) a.3 (knows a.0 a.1 a.2)))

  empty_out : {i f : ℕ} → hand.Empty ≡ hand.Out i f → ⊥
  empty_out e = cc

  empty_stopped : {i : ℕ} → hand.Empty ≡ hand.Stopped i → ⊥
  empty_stopped e = cc

  none_some : {A : Type 0} {y : A} → None ≡ Some y → ⊥
  none_some e = cc

  their_hand : (q : ℕ) → n ≤ q → (holder_at x.holders q).hand ≡ hand.Empty
  their_hand q over = ap (λ (m : PoolPart). m.hand) (strangers q over ∙ stranger q over)

  their_stop : (q : ℕ) → n ≤ q → (holder_at x.holders q).stop ≡ None
  their_stop q over = ap (λ (m : PoolPart). m.stop) (strangers q over ∙ stranger q over)

  module _ (none : NoneOut ps) where
    pub nobody_out : NobodyOut x.holders
    nobody_out q at room is =
        let below : (n ≤ q) → ⊥ = λ over. empty_out (sym (their_hand q over) ∙ is) in
        let w = pass_of q below in
        let h = subst (λ p. HasPart (λ m. (at room : ℕ) → m.hand ≡ hand.Out at room → ⊥) p) w.3 (none w.0 w.1 w.2) in
        let same : h.0 ≡ part_at x q = in_some (sym h.1 ∙ w.4) in
        h.2 at room (ap (λ (m : PoolPart). m.hand) same ∙ is)

    pub is_closed : IsPool x → (sets : List LaneSet) (off : Option PowerOff) → map (λ s. Some s) sets ≡ x.sets → off ≡ x.off → IsClosed first.first ps sets off
    is_closed is_pool sets off home is_off = record {
      count = sym (length-map sets (λ s. Some s)) ∙ ap (λ xs. length xs) home ∙ is_pool.count ∙ ap (λ xs. length xs) first_same;
      places = λ i s e. subst (λ fs. IsAtPlace fs i s) first_same (is_pool.home i s (at_home i ∙ e));
      idle = λ i s e. (elim (is_pool.ready i s (at_home i ∙ e)) [
        | inl r ↦ inl (weaker 0 (left_in x.holders) (omega arith) s r)
        | inr r ↦ inr (handed_by i s (at_home i ∙ e) r.0 r.1)
      ]);
      handed = λ i p lt. (part_at x (number_of (get_or ps i p)), knows i p lt, λ k is. (ap (λ h. handed_in x.sets h) is ∙ at_home k));
      one = λ a b p p' la lb i ha hb.
          is_pool.one (number_of (get_or ps a p)) (number_of (get_or ps b p')) i (has (get_or ps a p) i (knows a p la) ha) (has (get_or ps b p') i (knows b p' lb) hb);
      stopped = λ p e.
          let o = is_pool.by_one p (sym is_off ∙ e) in
          let below : (n ≤ o.0) → ⊥ = λ over. none_some (sym (their_stop o.0 over) ∙ o.1) in
          let w = pass_of o.0 below in
          (w.0, w.1, w.2, w.3, (part_at x o.0, w.4, o.1));
      told = λ i p lt. (part_at x (number_of (get_or ps i p)), knows i p lt, λ k is. is_off ∙ is_pool.told (number_of (get_or ps i p)) k is);
    }
      where
        at_home : (i : ℕ) → set_at x.sets i ≡ slice_get sets i
        at_home i = ap (λ xs. set_at xs i) (sym home) ∙ set_of sets i

        has : (p : TurnPass Now PoolPart g) (i : ℕ) → part_of p ≡ Some (part_at x (number_of p)) → HasPart (λ m. m.hand ≡ hand.Stopped i) p → Has (holder_at x.holders (number_of p)).hand i
        has p i known h =
            let same : h.0 ≡ part_at x (number_of p) = in_some (sym h.1 ∙ known) in
            subst (λ y. Has y i) (sym (ap (λ (m : PoolPart). m.hand) (sym same) ∙ h.2)) refl

        handed_by : (i : ℕ) (s : LaneSet) → set_at x.sets i ≡ Some s → (q : ℕ) → (holder_at x.holders q).hand ≡ hand.Stopped i → Any (HasPart (λ m. (m.hand ≡ hand.Stopped i) × (m.handed ≡ Some s))) ps
        handed_by i s at q is =
            let below : (n ≤ q) → ⊥ = λ over. empty_stopped (sym (their_hand q over) ∙ is) in
            let w = pass_of q below in
            (w.0, w.1, w.2, w.3, (part_at x q, w.4, (is, ap (λ h. handed_in x.sets h) is ∙ at)))

    pub closes : {Z E : Type 0} → IsPool x → (r : Result (Vec LaneSet Z × Option PowerOff) E) → IfOk r (λ p. (map (λ s. Some s) p.0.items ≡ x.sets) × (p.1 ≡ x.off)) → IfOk r (λ p. IsClosed first.first ps p.0.items p.1)
    closes is_pool (Ok p) h = is_closed is_pool p.0.items p.1 h.0 h.1
    closes is_pool (Err e) h = tt
