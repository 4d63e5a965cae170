-- Each lane's group, and the map, after a power cut.
use Rattle.std.proofs.Common.{◌≡◌, ℕ, ◌+◌, ◌*◌, ◌/◌, ◌^◌, ◌<◌, ◌≢◌, ◌⊎◌, inl, inr, Bool, true, false, refl, sym, ap, ◌∙◌, subst, arith}
use Rattle.map_table.specs.Entry.{entry_in}
use Rattle.lane_core.specs.Areas.{Geometry, Areas, Half, mapped, block_in, entry_at, normal}
use Rattle.lane_core.specs.Machine.{Phase, Locked, Known, LogAStored, LogA, LogBStored, Logged, Switched, Kept, Lane, State, other}
use Rattle.lane_core.specs.Invariant.{Halves, Sized, IsSound, is_locked, is_logged, is_switched, is_log_a_stored, is_log_b_stored, has_log_a, uses_sector}
use Rattle.lane_core.proofs.Put.{same_or_not, never}
use Rattle.std.proofs.Common.{subst₂}
use Rattle.lane_core.specs.Areas.{lba_in, old_in, new_in, seq_in, next_seq, half_in, IsNewer}
use Rattle.lane_core.specs.History.{Cell}
use Rattle.lane_core.specs.Cut.{AreLeft, IsCurrent, half_at, is_pending, is_open}
use Rattle.lane_core.proofs.Own.{switching_locked, switched_locked}
use Rattle.lane_core.proofs.Switching.{the_lock}
use Rattle.lane_core.proofs.Entries.{next_newer, lba_in-word, old_in-word, new_in-word, seq_in-word}

newer_apart : (a b : ℕ) → IsNewer a b → IsNewer b a → ⊥
unfolding next_seq
newer_apart a b h k = grind arith

not_pending_same : (areas : Areas) (half : Half) → half.old ≡ half.new → is_pending areas half ≡ false
not_pending_same areas half q = grind arith

not_pending_other : (areas : Areas) (half : Half) → mapped areas.map_at half.lba ≢ half.old → is_pending areas half ≡ false
not_pending_other areas half q = grind arith

pending_when : (areas : Areas) (half : Half) → half.old ≢ half.new → mapped areas.map_at half.lba ≡ half.old → is_pending areas half ≡ true
pending_when areas half ne q = grind arith

-- what the half that is current after a power cut says of a lane
pub data Outcome (g : Geometry) (s : State) (left : Areas) (p : Lane) (half : Half) : Type 0 where
  Rests : is_pending left half ≡ false → half.old ≡ p.block → Outcome g s left p half
  Redoes : is_pending left half ≡ true → half.old ≡ p.block → is_switched p.phase ≡ true → half.lba ≡ p.sector → entry_at s.seen.map_at p.sector ≡ normal half.new → Outcome g s left p half
  Moves : is_pending left half ≡ true → is_open p.phase ≡ true → half.lba ≡ p.sector → half.old ≡ mapped s.seen.map_at p.sector → half.new ≡ p.block → Outcome g s left p half

decided : {A : Type 0} (b : Bool) → (b ≡ true → A) → (b ≡ false → A) → A
decided true t f = t refl
decided false t f = f refl

b_stored_is : (ph : Phase) → is_log_b_stored ph ≡ true → ph ≡ LogBStored
b_stored_is LogBStored e = refl
b_stored_is _ e = never e

logged_is : (ph : Phase) → is_logged ph ≡ true → ph ≡ Logged
logged_is Logged e = refl
logged_is _ e = never e

switched_is : (ph : Phase) → is_switched ph ≡ true → ph ≡ Switched
switched_is Switched e = refl
switched_is _ e = never e

half_in_map : {n : ℕ} (t : ℕ) → t < n → 2 * (t / 2) < n
half_in_map t lt = omega arith

other_two : (side : ℕ) → side < 2 → other side < 2
other_two side lt = omega arith

switched_uses : (ph : Phase) → is_switched ph ≡ true → uses_sector ph ≡ true
switched_uses Switched e = refl
switched_uses _ e = never e

-- a lane that has a lock has a sector
locked_uses : (ph : Phase) → is_locked ph ≡ true → uses_sector ph ≡ true
locked_uses Locked e = refl
locked_uses Known e = refl
locked_uses LogAStored e = refl
locked_uses LogA e = refl
locked_uses LogBStored e = refl
locked_uses Logged e = refl
locked_uses Switched e = refl
locked_uses Kept e = refl
locked_uses _ e = never e

-- a lane has one current side at most
pub one_side : (areas : Areas) (l a b : ℕ) → IsCurrent areas l a → IsCurrent areas l b → a ≡ b
one_side areas l a b x y =
    elim (same_or_not a b) [
      | inl q ↦ q
      | inr ne ↦ absurd (clash (flip a b x.two y.two ne) (flip b a y.two x.two (λ q. ne (sym q))))
    ]
  where
    flip : (c d : ℕ) → c < 2 → d < 2 → c ≢ d → other c ≡ d
    flip c d u v ne = omega arith

    clash : other a ≡ b → other b ≡ a → ⊥
    clash p q = newer_apart (seq_in (areas.log_b l a)) (seq_in (areas.log_b l b)) (subst (λ c. IsNewer (seq_in (areas.log_b l a)) (seq_in (areas.log_b l c))) p x.newer)
        (subst (λ c. IsNewer (seq_in (areas.log_b l b)) (seq_in (areas.log_b l c))) q y.newer)

module _ (g : Geometry) (o : ℕ → Cell) (s : State) (h : IsSound g o s) (left : Areas) (hl : AreLeft g s.seen s.kept left) where
  -- the entry of a sector is the seen one, or a lane has switched it and its word is the kept one
  pub left_entry : (t : ℕ) → t < g.sectors → (entry_at left.map_at t ≡ entry_at s.seen.map_at t)
      ⊎ ((i : ℕ) × (i < g.lanes) × (is_switched (s.lanes i).phase ≡ true) × ((s.lanes i).sector ≡ t) × (left.map_at (t / 2) ≡ s.kept.map_at (t / 2)))
  left_entry t lt =
      elim (hl.map_left (t / 2) (half_in_map t lt)) [
        | inr q ↦ inl (ap (λ w. entry_in w t) q)
        | inl q ↦ elim (h.map_kept (t / 2)) [
          | inl k ↦ inl (ap (λ w. entry_in w t) (q ∙ k))
          | inr w ↦
              let who = switching_locked (s.lanes w.0) (t / 2) w.2 in
              elim (same_or_not t (s.lanes w.0).sector) [
                | inl e ↦ inr (w.0, w.1, who.0, sym e, q)
                | inr ne ↦ inl (ap (λ x. entry_in x t) q ∙ rest w.0 w.1 who.0 who.2 ne)
              ]
        ]
      ]
    where
      rest : (i : ℕ) → i < g.lanes → is_switched (s.lanes i).phase ≡ true → (s.lanes i).sector / 2 ≡ t / 2 → t ≢ (s.lanes i).sector → entry_at s.kept.map_at t ≡ entry_at s.seen.map_at t
      rest i li sw e ne =
          subst (λ m. entry_in (s.kept.map_at m) t ≡ entry_in (s.seen.map_at m) t) e
          ((h.each i li).halves.switched_rest sw t (sym e) ne)

  -- no entry that is left names the block of a lane that hasn't just switched
  apart_left : (l t : ℕ) → l < g.lanes → t < g.sectors → is_switched (s.lanes l).phase ≡ false → mapped left.map_at t ≢ (s.lanes l).block
  apart_left l t ll lt f q =
      elim (left_entry t lt) [
        | inl e ↦ h.blocks.apart t l lt ll (sym (ap (λ x. block_in x t) e) ∙ q)
        | inr w ↦ never (sym f ∙ ap (λ i. is_switched (s.lanes i).phase) (sym (h.blocks.lane_once w.0 l w.1 ll (sym (kept_block w.0 w.1 w.2 w.3 w.4) ∙ q))) ∙ w.2)
      ]
    where
      kept_block : (i : ℕ) → i < g.lanes → is_switched (s.lanes i).phase ≡ true → (s.lanes i).sector ≡ t → left.map_at (t / 2) ≡ s.kept.map_at (t / 2) → mapped left.map_at t ≡ (s.lanes i).block
      kept_block i li sw e k = ap (λ w. block_in (entry_in w t) t) k ∙ subst (λ t. mapped s.kept.map_at t ≡ (s.lanes i).block) e ((h.each i li).halves.switched sw).2

  -- the entry of a sector whose lock a lane has, if it hasn't just switched it
  locked_left : (l : ℕ) → l < g.lanes → is_locked (s.lanes l).phase ≡ true → is_switched (s.lanes l).phase ≡ false → mapped left.map_at (s.lanes l).sector ≡ mapped s.seen.map_at (s.lanes l).sector
  locked_left l ll k f =
      elim (left_entry (s.lanes l).sector ((h.each l ll).knows.in_range (locked_uses (s.lanes l).phase k))) [
        | inl e ↦ ap (λ x. block_in x (s.lanes l).sector) e
        | inr w ↦ never (sym f ∙ ap (λ i. is_switched (s.lanes i).phase) (sym (the_lock g o s l h ll k w.0 w.1 (switched_locked (s.lanes w.0).phase w.2) (ap (λ x. x / 2) w.3))) ∙ w.2)
      ]

  module _ (l : ℕ) (ll : l < g.lanes) where
    kept_a : left.log_a l (s.lanes l).side ≡ s.kept.log_a l (s.lanes l).side
    kept_a = elim (hl.a_left l (s.lanes l).side ll (h.each l ll).halves.two) [ inl q ↦ q | inr q ↦ q ∙ sym (h.each l ll).halves.current_a ]

    kept_b : left.log_b l (s.lanes l).side ≡ s.kept.log_b l (s.lanes l).side
    kept_b = elim (hl.b_left l (s.lanes l).side ll (h.each l ll).halves.two) [ inl q ↦ q | inr q ↦ q ∙ sym (h.each l ll).halves.current_b ]

    half_kept : half_at left l (s.lanes l).side ≡ (s.lanes l).half
    half_kept = ap (λ a. half_in a (left.log_b l (s.lanes l).side)) kept_a ∙ ap (half_in (s.kept.log_a l (s.lanes l).side)) kept_b ∙ (h.each l ll).halves.current

    current_kept : left.log_b l (other (s.lanes l).side) ≡ s.kept.log_b l (other (s.lanes l).side) → IsCurrent left l (s.lanes l).side
    current_kept q =
        record {
          two = (h.each l ll).halves.two;
          newer = subst₂ (λ b a. IsNewer b (seq_in a)) (sym (ap (λ (x : Half). x.seq) half_kept)) (sym q) (h.each l ll).halves.newer;
        }

    -- the current half is the one that the lane knows
    rests_or : Outcome g s left (s.lanes l) (s.lanes l).half
    rests_or = decided (is_logged (s.lanes l).phase)
        (λ t. let ph = logged_is (s.lanes l).phase t in let was = (h.each l ll).halves.logged t in
        Moves (pending_when left (s.lanes l).half (apart_halves ((h.each l ll).knows.in_range (ap uses_sector ph)) was) (ap (mapped left.map_at) was.0 ∙ locked_left l ll (ap is_locked ph) (ap is_switched ph) ∙ sym was.1)) (ap is_open ph) was.0 was.1 was.2)
        (λ f. decided (is_switched (s.lanes l).phase)
        (λ t. elim (hl.map_left ((s.lanes l).sector / 2) (half_in_map (s.lanes l).sector ((h.each l ll).knows.in_range (switched_uses (s.lanes l).phase t)))) [ inl q ↦ redo t f q | inr q ↦ done t f q ])
        (λ n. Rests (decided_half f n) ((h.each l ll).halves.old f)))
      where
        p : Lane
        p = s.lanes l

        apart_halves : p.sector < g.sectors → (p.half.lba ≡ p.sector) × (p.half.old ≡ mapped s.seen.map_at p.sector) × (p.half.new ≡ p.block) → p.half.old ≢ p.half.new
        apart_halves lt was q = h.blocks.apart p.sector l lt ll (sym was.1 ∙ q ∙ was.2)

        redo : is_switched p.phase ≡ true → is_logged p.phase ≡ false → left.map_at (p.sector / 2) ≡ s.kept.map_at (p.sector / 2) → Outcome g s left p p.half
        redo t f q =
            let hal = (h.each l ll).halves in
            let sw = hal.switched t in
            let lt = (h.each l ll).knows.in_range (ap uses_sector (switched_is p.phase t)) in
            Redoes (pending_when left p.half (λ e. h.blocks.apart p.sector l lt ll (sym sw.1 ∙ sym e ∙ hal.old f)) (ap (mapped left.map_at) sw.0 ∙ ap (λ w. block_in (entry_in w p.sector) p.sector) q ∙ sw.2 ∙ sym (hal.old f)))
            (hal.old f) t sw.0 sw.3

        done : is_switched p.phase ≡ true → is_logged p.phase ≡ false → left.map_at (p.sector / 2) ≡ s.seen.map_at (p.sector / 2) → Outcome g s left p p.half
        done t f q =
            let hal = (h.each l ll).halves in
            let sw = hal.switched t in
            let lt = (h.each l ll).knows.in_range (ap uses_sector (switched_is p.phase t)) in
            Rests (not_pending_other left p.half (λ e. h.blocks.apart p.sector l lt ll (sym (ap (λ w. block_in (entry_in w p.sector) p.sector) q) ∙ sym (ap (mapped left.map_at) sw.0) ∙ e ∙ hal.old f))) (hal.old f)

        decided_half : is_logged p.phase ≡ false → is_switched p.phase ≡ false → is_pending left p.half ≡ false
        decided_half f n =
            elim (h.each l ll).sized.lba [
              | inl q ↦ not_pending_same left p.half q
              | inr lt ↦ not_pending_other left p.half (λ q. apart_left l p.half.lba ll lt n (q ∙ (h.each l ll).halves.old f))
            ]

    -- the other half was stored, and its word B survives
    moves_on : is_log_b_stored (s.lanes l).phase ≡ true → left.log_b l (other (s.lanes l).side) ≡ s.seen.log_b l (other (s.lanes l).side)
        → IsCurrent left l (other (s.lanes l).side) × Outcome g s left (s.lanes l) (half_at left l (other (s.lanes l).side)) × Sized g (half_at left l (other (s.lanes l).side))
    moves_on t q = (
      record {
        two = let lt = hal.two in omega arith;
        newer = subst (λ i. IsNewer (seq_in (left.log_b l (other p.side))) (seq_in (left.log_b l i))) (sym back)
            (subst₂ IsNewer (sym (ap seq_in q ∙ nb.1)) (sym (ap (λ (x : Half). x.seq) half_kept)) (next_newer p.half.seq hal.newer.0 hal.newer.1));
      },
      Moves (pending_when left (half_at left l (other p.side)) (λ e. h.blocks.apart p.sector l in_map ll (sym (ap old_in a ∙ na.1) ∙ e ∙ ap new_in q ∙ nb.0))
          (ap (mapped left.map_at) (ap lba_in a ∙ na.0) ∙ locked_left l ll (ap is_locked ph) (ap is_switched ph) ∙ sym (ap old_in a ∙ na.1)))
          (ap is_open ph) (ap lba_in a ∙ na.0) (ap old_in a ∙ na.1) (ap new_in q ∙ nb.0),
      record {
        old = subst (λ b. b < g.sectors + g.lanes) (sym (ap old_in a ∙ na.1)) (h.blocks.map_in p.sector in_map);
        new = subst (λ b. b < g.sectors + g.lanes) (sym (ap new_in q ∙ nb.0)) (h.blocks.lane_in l ll);
        lba = inr (subst (λ b. b < g.sectors) (sym (ap lba_in a ∙ na.0)) in_map);
      },
    )
      where
        p : Lane
        p = s.lanes l

        hal : Halves (s.seen.log_a l) (s.seen.log_b l) (s.kept.log_a l) (s.kept.log_b l) (s.seen.map_at (p.sector / 2)) (s.kept.map_at (p.sector / 2)) p.phase p.side p.half p.block p.sector
        hal = (h.each l ll).halves

        ph : p.phase ≡ LogBStored
        ph = b_stored_is p.phase t

        in_map : p.sector < g.sectors
        in_map = (h.each l ll).knows.in_range (ap uses_sector ph)

        fits : (p.sector < 2 ^ 30) × (mapped s.seen.map_at p.sector < 2 ^ 30) × (p.block < 2 ^ 30)
        fits = let a = h.geometry.fits in let b = h.blocks.lane_in l ll in let c = h.blocks.map_in p.sector in_map in (omega (arith, in_map), omega arith, omega arith)

        na : (lba_in (s.seen.log_a l (other p.side)) ≡ p.sector) × (old_in (s.seen.log_a l (other p.side)) ≡ mapped s.seen.map_at p.sector)
        na = let e = hal.named_a (ap has_log_a ph) in (ap lba_in e ∙ lba_in-word _ _ (omega (arith, fits.0)), ap old_in e ∙ old_in-word _ _ (omega (arith, fits.0)) (omega (arith, fits.1)))

        nb : (new_in (s.seen.log_b l (other p.side)) ≡ p.block) × (seq_in (s.seen.log_b l (other p.side)) ≡ next_seq p.half.seq)
        nb = let e = hal.named_b t in (ap new_in e ∙ new_in-word _ _ fits.2, ap seq_in e ∙ seq_in-word _ _ (omega (arith, fits.2)))

        back : other (other p.side) ≡ p.side
        back = let lt = hal.two in omega arith

        a : left.log_a l (other p.side) ≡ s.seen.log_a l (other p.side)
        a = elim (hl.a_left l (other p.side) ll (omega (arith, hal.two))) [ inl e ↦ e ∙ hal.other_a (ap is_log_a_stored ph) | inr e ↦ e ]

    at_rest : left.log_b l (other (s.lanes l).side) ≡ s.kept.log_b l (other (s.lanes l).side) → (side : ℕ) × IsCurrent left l side × Outcome g s left (s.lanes l) (half_at left l side) × Sized g (half_at left l side)
    at_rest q = ((s.lanes l).side, current_kept q, subst (Outcome g s left (s.lanes l)) (sym half_kept) rests_or, subst (Sized g) (sym half_kept) (h.each l ll).sized)

    pub some_side : (side : ℕ) × IsCurrent left l side × Outcome g s left (s.lanes l) (half_at left l side) × Sized g (half_at left l side)
    some_side =
        elim (hl.b_left l (other (s.lanes l).side) ll (other_two (s.lanes l).side (h.each l ll).halves.two)) [
          | inl q ↦ at_rest q
          | inr q ↦ decided (is_log_b_stored (s.lanes l).phase)
              (λ t. let m = moves_on t q in (other (s.lanes l).side, m.0, m.1, m.2))
              (λ f. at_rest (q ∙ sym ((h.each l ll).halves.other_b f)))
        ]

    pub outcome : (side : ℕ) → IsCurrent left l side → Outcome g s left (s.lanes l) (half_at left l side)
    outcome side c = subst (λ i. Outcome g s left (s.lanes l) (half_at left l i)) (one_side left l some_side.0 side some_side.1 c) some_side.2

    pub sized_left : (side : ℕ) → IsCurrent left l side → Sized g (half_at left l side)
    sized_left side c = subst (λ i. Sized g (half_at left l i)) (one_side left l some_side.0 side some_side.1 c) some_side.3

    -- a lane that has switched its entry completes its move if the kept word survives
    pub redo_pending : (side : ℕ) → IsCurrent left l side → is_switched (s.lanes l).phase ≡ true → left.map_at ((s.lanes l).sector / 2) ≡ s.kept.map_at ((s.lanes l).sector / 2)
        → (is_pending left (half_at left l side) ≡ true) × ((half_at left l side).lba ≡ (s.lanes l).sector)
    redo_pending side c t q =
        subst (λ (x : Half). (is_pending left x ≡ true) × (x.lba ≡ p.sector)) (sym half_kept ∙ ap (half_at left l) (one_side left l p.side side (current_kept the_b) c)) (
          pending_when left p.half (λ e. h.blocks.apart p.sector l lt ll (sym sw.1 ∙ sym e ∙ hal.old (ap is_logged ph))) (ap (mapped left.map_at) sw.0 ∙ ap (λ w. block_in (entry_in w p.sector) p.sector) q ∙ sw.2 ∙ sym (hal.old (ap is_logged ph))),
          sw.0,
        )
      where
        p : Lane
        p = s.lanes l

        ph : p.phase ≡ Switched
        ph = switched_is p.phase t

        hal : Halves (s.seen.log_a l) (s.seen.log_b l) (s.kept.log_a l) (s.kept.log_b l) (s.seen.map_at (p.sector / 2)) (s.kept.map_at (p.sector / 2)) p.phase p.side p.half p.block p.sector
        hal = (h.each l ll).halves

        sw : (p.half.lba ≡ p.sector) × (p.half.new ≡ mapped s.seen.map_at p.sector) × (mapped s.kept.map_at p.sector ≡ p.block) × (entry_at s.seen.map_at p.sector ≡ normal p.half.new)
        sw = hal.switched t

        lt : p.sector < g.sectors
        lt = (h.each l ll).knows.in_range (ap uses_sector ph)

        the_b : left.log_b l (other p.side) ≡ s.kept.log_b l (other p.side)
        the_b = elim (hl.b_left l (other p.side) ll (omega (arith, hal.two))) [ inl e ↦ e | inr e ↦ e ∙ sym (hal.other_b (ap is_log_b_stored ph)) ]
