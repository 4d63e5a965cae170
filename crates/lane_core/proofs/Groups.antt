-- The log groups of an arena that was opened.
use Rattle.std.proofs.Common.{◌≡◌, ℕ, zero, suc, ◌+◌, ◌/◌, ◌<◌, ◌⊎◌, inl, inr, Bool, true, false, not, List, [], ◌∷◌, length, get_or, Option, Some, None, Result, Ok, Err, refl, sym, ap, ap₂, ◌∙◌, subst, subst₂, arith}
use Rattle.std.specs.Prelude.{◌&&◌, ◌==◌, nat_le, slice_index, IsTrue, if◌then◌else◌}
use Rattle.std.specs.Option.{option_map}
use Rattle.std.specs.List.{range_with_len}
use Rattle.nvd_words.specs.Checks.{first_fault, fault_if, value_unless}
use Rattle.nvd_words.specs.Ring.{is_newer}
use Rattle.flog.specs.declared.half.Half.{Half}
use Rattle.flog.specs.declared.group.Group.{Group}
use Rattle.flog.specs.declared.group.FlogFault.{FlogFault}
use Rattle.flog.specs.declared.group.FlogFault.TheVariants.{Padding, Sequences, Range}
use Rattle.flog.specs.Group.{half_of, place_of, other_side, is_padded, are_ordered, out_of_range, current_side, group_in, group_reading, StandsFor, IsNewerHalf}
use Rattle.flog.specs.Group.{half_in as group_half}
use Rattle.flog.proofs.Halves.{newer}
use Rattle.arena_layout.specs.declared.layout.Layout.{Layout}
use Rattle.arena_open.specs.declared.refused.OpenRefused.{OpenRefused}
use Rattle.arena_open.specs.Places.{group_words}
use Rattle.arena_open.specs.Reading.{with_group, groups_of, groups_in}
use Rattle.lane_core.specs.Areas.{Areas, IsNewer, next_seq, lba_in, old_in, new_in, seq_in}
use Rattle.lane_core.specs.Invariant.{Sized}
use Rattle.lane_core.specs.Cut.{IsCurrent, half_at}
use Rattle.lane_core.specs.Places.{shape_of}
use Rattle.lane_core.specs.Arenas.{areas_of, no_group}

-- ---- one group

three : {A F : Type 0} (v w : A) (o p q : Option F) → value_unless v (first_fault (o ∷ p ∷ q ∷ [])) ≡ Ok w → (q ≡ None) × (v ≡ w) × (o ≡ None)
unfolding first_fault
three v w (Some f) p q e = cc
three v w None (Some f) q e = cc
three v w None None (Some f) e = cc
three v w None None None e = (refl, cc, refl)

-- a check that must hold has passed
unless : {F : Type 0} (b : Bool) (f : F) → fault_if (not b) f ≡ None → b ≡ true
unless true f e = refl
unless false f e = cc

none_mapped : (o : Option ℕ) → option_map Range o ≡ None → o ≡ None
none_mapped None e = refl
none_mapped (Some n) e = cc

in_range : (external internal : ℕ) (h : Half) → out_of_range external internal h ≡ None → (h.old < internal) × (h.new < internal) × ((h.old ≡ h.new) ⊎ (h.lba < external))
unfolding out_of_range
in_range external internal h e = by (nat_le internal h.old) (nat_le internal h.new) (h.old == h.new) (nat_le external h.lba) refl refl refl refl e
  where
    by : (a b c d : Bool) → nat_le internal h.old ≡ a → nat_le internal h.new ≡ b → (h.old == h.new) ≡ c → nat_le external h.lba ≡ d
        → (if a then Some h.old else if b then Some h.new else if not c && d then Some h.lba else None) ≡ None → (h.old < internal) × (h.new < internal) × ((h.old ≡ h.new) ⊎ (h.lba < external))
    by true b c d ea eb ec ed e = cc
    by false true c d ea eb ec ed e = cc
    by false false true d ea eb ec ed e = (grind (arith, ea), grind (arith, eb), inl (grind (arith, ec)))
    by false false false true ea eb ec ed e = cc
    by false false false false ea eb ec ed e = (grind (arith, ea), grind (arith, eb), inr (grind (arith, ed)))

newer_is : (a b : ℕ) → is_newer a b ≡ true → IsNewer b a
unfolding next_seq
newer_is a b e = grind (arith, e)

pub record Read (words : List ℕ) (external internal : ℕ) (g : Group) : Type 0 where
  pub is : group_in words ≡ g
  pub range : (g.half.old < internal) × (g.half.new < internal) × ((g.half.old ≡ g.half.new) ⊎ (g.half.lba < external))
  pub newer_half : IsNewerHalf words g
  pub padded : is_padded words ≡ true

pub read_group : (words : List ℕ) (external internal : ℕ) (g : Group) → StandsFor words external internal g → Read words external internal g
read_group words external internal g e =
    let t = three (group_in words) g (fault_if (not (is_padded words)) Padding)
    (fault_if (not (are_ordered (group_half words 0).seq (group_half words 1).seq)) (Sequences (group_half words 0).seq (group_half words 1).seq))
    (option_map Range (out_of_range external internal (group_in words).half)) e in
    record {
      is = t.1;
      range = in_range external internal g.half (ap (λ (k : Group). out_of_range external internal k.half) (sym t.1) ∙ none_mapped (out_of_range external internal (group_in words).half) t.0);
      newer_half = newer words external internal (Ok g) (sym e);
      padded = unless (is_padded words) Padding t.2;
    }

-- ---- a lane's group in the areas

module _ (l : Layout) (words : List ℕ) (lane : ℕ) where
  abbrev pub areas : Areas
  areas = areas_of (shape_of l) words

  pub half_zero : group_half (group_words l words lane) 0 ≡ half_at areas lane 0
  unfolding place_of lba_in old_in new_in seq_in
  half_zero = ap₂ (λ i j. half_of (slice_index words i) (slice_index words j)) (omega arith) (omega arith)

  pub half_one : group_half (group_words l words lane) 1 ≡ half_at areas lane 1
  unfolding place_of lba_in old_in new_in seq_in
  half_one = ap₂ (λ i j. half_of (slice_index words i) (slice_index words j)) (omega arith) (omega arith)

  side_is : (b : Bool) → is_newer (group_half (group_words l words lane) 0).seq (group_half (group_words l words lane) 1).seq ≡ b → current_side (group_words l words lane) ≡ (if b then 1 else 0)
  unfolding current_side
  side_is b e = ap (λ b. if b then 1 else 0) e

  pub record LaneRead (g : Group) : Type 0 where
    pub half : g.half ≡ half_at areas lane g.side
    pub current : IsCurrent areas lane g.side
    pub sized : Sized (record { width = l.sector / 8; sectors = l.external; lanes = l.lanes }) g.half

  pub lane_read : (g : Group) → l.internal ≡ l.external + l.lanes → StandsFor (group_words l words lane) l.external l.internal g → LaneRead g
  lane_read g inner stands = by (is_newer (group_half (group_words l words lane) 0).seq (group_half (group_words l words lane) 1).seq) refl
    where
      r : Read (group_words l words lane) l.external l.internal g
      r = read_group (group_words l words lane) l.external l.internal g stands

      sized : Sized (record { width = l.sector / 8; sectors = l.external; lanes = l.lanes }) g.half
      sized = record { old = subst (λ n. g.half.old < n) inner r.range.0; new = subst (λ n. g.half.new < n) inner r.range.1; lba = r.range.2 }

      by : (b : Bool) → is_newer (group_half (group_words l words lane) 0).seq (group_half (group_words l words lane) 1).seq ≡ b → LaneRead g
      by true e =
          let side : g.side ≡ 1 = ap (λ (k : Group). k.side) (sym r.is) ∙ side_is true e in
          let half : g.half ≡ half_at areas lane 1 = ap (λ (k : Group). k.half) (sym r.is) ∙ ap (group_half (group_words l words lane)) (side_is true e) ∙ half_one in
          record {
            half = half ∙ ap (half_at areas lane) (sym side);
            current = subst (IsCurrent areas lane) (sym side) (record { two = omega arith; newer = newer_is (seq_in (areas.log_b lane 0)) (seq_in (areas.log_b lane 1)) (ap₂ (λ (a b : Half). is_newer a.seq b.seq) (sym half_zero) (sym half_one) ∙ e) });
            sized = sized;
          }
      by false e =
          let side : g.side ≡ 0 = ap (λ (k : Group). k.side) (sym r.is) ∙ side_is false e in
          let half : g.half ≡ half_at areas lane 0 = ap (λ (k : Group). k.half) (sym r.is) ∙ ap (group_half (group_words l words lane)) (side_is false e) ∙ half_zero in
          let newest : is_newer (half_at areas lane 1).seq (half_at areas lane 0).seq ≡ true =
          ap₂ (λ (a b : Half). is_newer a.seq b.seq) (sym half_one) (sym half) ∙ subst (λ s. IsTrue (is_newer (group_half (group_words l words lane) (other_side s)).seq g.half.seq)) side r.newer_half in
          record {
            half = half ∙ ap (half_at areas lane) (sym side);
            current = subst (IsCurrent areas lane) (sym side) (record { two = omega arith; newer = newer_is (seq_in (areas.log_b lane 1)) (seq_in (areas.log_b lane 0)) newest });
            sized = sized;
          }

-- ---- all groups

abbrev got : List Group → Result (List Group) OpenRefused → List Group
got gs (Ok found) = found
got gs (Err fault) = gs

record Parted (r : Result Group FlogFault) (t : Result (List Group) OpenRefused) (gs : List Group) : Type 0 where
  first : Group
  rest : List Group
  is_first : r ≡ Ok first
  is_rest : t ≡ Ok rest
  all : gs ≡ first ∷ rest

parted : (lane : ℕ) (r : Result Group FlogFault) (t : Result (List Group) OpenRefused) (gs : List Group) → with_group lane r t ≡ Ok gs → Parted r t gs
parted lane (Err f) t gs e = cc
parted lane (Ok g) (Err f) gs e = cc
parted lane (Ok g) (Ok more) gs e = record { first = g; rest = more; is_first = refl; is_rest = refl; all = cc }

module _ (l : Layout) (words : List ℕ) where
  each_of : (lane n : ℕ) (gs : List Group) → groups_of l words (range_with_len lane n) ≡ Ok gs
      → (length gs ≡ n) × ((k : ℕ) → k < n → StandsFor (group_words l words (lane + k)) l.external l.internal (get_or gs k no_group))
  each_of lane zero gs e = (ap length (sym (ap (got gs) e)), λ k lt. absurd (omega arith))
  each_of lane (suc n) gs e =
      let d = parted lane (group_reading (group_words l words lane) l.external l.internal) (groups_of l words (range_with_len (lane + 1) n)) gs e in
      let r = each_of (lane + 1) n d.rest d.is_rest in
      (ap length d.all ∙ ap suc r.0, at d.first d.rest d.all d.is_first r.1)
    where
      at : (first : Group) (rest : List Group) → gs ≡ first ∷ rest → group_reading (group_words l words lane) l.external l.internal ≡ Ok first
          → ((k : ℕ) → k < n → StandsFor (group_words l words (lane + 1 + k)) l.external l.internal (get_or rest k no_group))
          → (k : ℕ) → k < suc n → StandsFor (group_words l words (lane + k)) l.external l.internal (get_or gs k no_group)
      at first rest all one more zero lt = subst₂ (λ i gs. StandsFor (group_words l words i) l.external l.internal (get_or gs 0 no_group)) (omega arith) (sym all) one
      at first rest all one more (suc k) lt = subst₂ (λ i gs. StandsFor (group_words l words i) l.external l.internal (get_or gs (suc k) no_group)) (omega arith) (sym all) (more k (omega arith))

  pub groups_each : (gs : List Group) → groups_in l words ≡ Ok gs → (length gs ≡ l.lanes) × ((k : ℕ) → k < l.lanes → StandsFor (group_words l words k) l.external l.internal (get_or gs k no_group))
  groups_each gs e = let r = each_of 0 l.lanes gs e in (r.0, λ k lt. subst (λ i. StandsFor (group_words l words i) l.external l.internal (get_or gs k no_group)) (omega arith) (r.1 k lt))
