-- What opening recovers from the state after a power cut.
use Rattle.std.proofs.Common.{◌≡◌, ℕ, ◌+◌, ◌/◌, ◌^◌, ◌<◌, ◌≢◌, ◌==◌, ◌⊎◌, inl, inr, zero, suc, Bool, true, false, refl, sym, ap, ◌∙◌, subst, arith, if◌then◌else◌}
use Rattle.lane_core.specs.Areas.{Geometry, Areas, Half, mapped, block_in, entry_at, normal}
use Rattle.lane_core.specs.History.{listed}
use Rattle.lane_core.specs.Machine.{Phase, LogBStored, Logged, State}
use Rattle.lane_core.specs.Invariant.{IsSound, has_words, is_locked, is_switched, uses_sector, stored, saved}
use Rattle.lane_core.proofs.Put.{same_or_not, never}
use Rattle.std.proofs.Common.{◌&&◌, take_all, lt-suc_self}
use Rattle.lane_core.specs.History.{Cell, cell_in}
use Rattle.lane_core.specs.Cut.{AreLeft, IsCurrent, half_at, is_pending, recovered_entry, EachOnce, is_open, Survives, IsRecoverable}
use Rattle.lane_core.proofs.Own.{switched_locked}
use Rattle.lane_core.proofs.Switching.{the_lock}
use Rattle.lane_core.proofs.Entries.{block_in-normal}
use Rattle.lane_core.proofs.Past.{listed-take, cell_in-normal, cell_in-words}
use Rattle.lane_core.proofs.Cutting.{Outcome, Rests, Redoes, Moves, outcome, sized_left, redo_pending, left_entry}
use Rattle.arena_open.specs.declared.cell.Cell.TheVariants as cell

-- some sectors and lanes change blocks
module _ (g : Geometry) (f f' b b' sec : ℕ → ℕ) (moves : ℕ → Type 0) where
  pub swapped : EachOnce g f b
      → ((t : ℕ) → t < g.sectors → ((f' t ≡ f t) × ((i : ℕ) → i < g.lanes → moves i → sec i ≢ t)) ⊎ ((i : ℕ) × (i < g.lanes) × moves i × (sec i ≡ t) × (f' t ≡ b i)))
      → ((l : ℕ) → l < g.lanes → ((b' l ≡ b l) × (moves l → ⊥)) ⊎ (moves l × (sec l < g.sectors) × (b' l ≡ f (sec l))))
      → ((i j : ℕ) → i < g.lanes → j < g.lanes → moves i → moves j → sec i ≡ sec j → i ≡ j)
      → EachOnce g f' b'
  swapped h of_s of_l one =
      record {
        sector_in = λ t lt. elim (of_s t lt) [
          | inl a ↦ subst (λ x. x < g.sectors + g.lanes) (sym a.0) (h.sector_in t lt)
          | inr a ↦ subst (λ x. x < g.sectors + g.lanes) (sym a.4) (h.lane_in a.0 a.1)
        ];
        lane_in = λ l ll. elim (of_l l ll) [
          | inl a ↦ subst (λ x. x < g.sectors + g.lanes) (sym a.0) (h.lane_in l ll)
          | inr a ↦ subst (λ x. x < g.sectors + g.lanes) (sym a.2) (h.sector_in (sec l) a.1)
        ];
        sector_once = λ t u lt lu q. elim (of_s t lt) [
          | inl a ↦ elim (of_s u lu) [
            | inl c ↦ h.sector_once t u lt lu (sym a.0 ∙ q ∙ c.0)
            | inr c ↦ absurd (h.apart t c.0 lt c.1 (sym a.0 ∙ q ∙ c.4))
          ]
          | inr a ↦ elim (of_s u lu) [
            | inl c ↦ absurd (h.apart u a.0 lu a.1 (sym c.0 ∙ sym q ∙ a.4))
            | inr c ↦ sym a.3 ∙ ap sec (h.lane_once a.0 c.0 a.1 c.1 (sym a.4 ∙ q ∙ c.4)) ∙ c.3
          ]
        ];
        lane_once = λ l m ll lm q. elim (of_l l ll) [
          | inl a ↦ elim (of_l m lm) [
            | inl c ↦ h.lane_once l m ll lm (sym a.0 ∙ q ∙ c.0)
            | inr c ↦ absurd (h.apart (sec m) l c.1 ll (sym c.2 ∙ sym q ∙ a.0))
          ]
          | inr a ↦ elim (of_l m lm) [
            | inl c ↦ absurd (h.apart (sec l) m a.1 lm (sym a.2 ∙ q ∙ c.0))
            | inr c ↦ one l m ll lm a.0 c.0 (h.sector_once (sec l) (sec m) a.1 c.1 (sym a.2 ∙ q ∙ c.2))
          ]
        ];
        apart = λ t l lt ll q. elim (of_s t lt) [
          | inl a ↦ elim (of_l l ll) [
            | inl c ↦ h.apart t l lt ll (sym a.0 ∙ q ∙ c.0)
            | inr c ↦ a.1 l ll c.0 (h.sector_once (sec l) t c.1 lt (sym (sym a.0 ∙ q ∙ c.2)))
          ]
          | inr a ↦ elim (of_l l ll) [
            | inl c ↦ c.1 (subst moves (h.lane_once a.0 l a.1 ll (sym a.4 ∙ q ∙ c.0)) a.2)
            | inr c ↦ h.apart (sec l) a.0 c.1 a.1 (sym c.2 ∙ sym q ∙ a.4)
          ]
        ];
      }

both : (a b : Bool) → (a && b) ≡ true → (a ≡ true) × (b ≡ true)
both true true q = (refl, refl)
both true false q = never q
both false b q = never q

neither : (a b : Bool) → (a && b) ≡ false → a ≡ true → b ≡ false
neither true true q t = never (sym q)
neither true false q t = refl
neither false b q t = never t

-- the last pending move of a sector, or none
abbrev pub Last : Areas → (ℕ → ℕ) → ℕ → ℕ → Type 0
Last left sides k t = ((recovered_entry left sides k t ≡ entry_at left.map_at t) × ((i : ℕ) → i < k → is_pending left (half_at left i (sides i)) ≡ true → (half_at left i (sides i)).lba ≢ t))
    ⊎ ((i : ℕ) × (i < k) × (is_pending left (half_at left i (sides i)) ≡ true) × ((half_at left i (sides i)).lba ≡ t) × (recovered_entry left sides k t ≡ normal (half_at left i (sides i)).new))

pub last : (left : Areas) (sides : ℕ → ℕ) (k t : ℕ) → Last left sides k t
unfolding recovered_entry
last left sides zero t = inl (refl, λ i li. absurd (omega arith))
last left sides (suc k) t = go (last left sides k t) (is_pending left (half_at left k (sides k)) && ((half_at left k (sides k)).lba == t)) refl
  where
    hit : ((half_at left k (sides k)).lba == t) ≡ true → (half_at left k (sides k)).lba ≡ t
    hit q = grind arith

    miss : ((half_at left k (sides k)).lba == t) ≡ false → (half_at left k (sides k)).lba ≢ t
    miss q = grind arith

    go : Last left sides k t → (b : Bool) → (is_pending left (half_at left k (sides k)) && ((half_at left k (sides k)).lba == t)) ≡ b
        → (((if b then normal (half_at left k (sides k)).new else recovered_entry left sides k t) ≡ entry_at left.map_at t) × ((i : ℕ) → i < suc k → is_pending left (half_at left i (sides i)) ≡ true → (half_at left i (sides i)).lba ≢ t))
        ⊎ ((i : ℕ) × (i < suc k) × (is_pending left (half_at left i (sides i)) ≡ true) × ((half_at left i (sides i)).lba ≡ t) × ((if b then normal (half_at left k (sides k)).new else recovered_entry left sides k t) ≡ normal (half_at left i (sides i)).new))
    go was true q = let two = both _ _ q in inr (k, lt-suc_self k, two.0, hit two.1, refl)
    go was false q = elim was [
      | inl a ↦ inl (
        a.0,
        λ i li p. elim (same_or_not i k) [
          | inl e ↦ subst (λ j. (half_at left j (sides j)).lba ≢ t) (sym e) (miss (neither _ _ q (subst (λ j. is_pending left (half_at left j (sides j)) ≡ true) e p)))
          | inr ne ↦ a.1 i (omega arith) p
        ],
      )
      | inr a ↦ inr (a.0, omega (arith, a.1), a.2, a.3, a.4)
    ]

module _ (g : Geometry) (o : ℕ → Cell) (s : State) (h : IsSound g o s) (left : Areas) (hl : AreLeft g s.seen s.kept left) (sides : ℕ → ℕ) (hs : (l : ℕ) → l < g.lanes → IsCurrent left l (sides l)) where
  half : ℕ → Half
  half l = half_at left l (sides l)

  -- opening completes the lane's open write
  IsMover : ℕ → Type 0
  IsMover l = (is_pending left (half_at left l (sides l)) ≡ true) × (is_open (s.lanes l).phase ≡ true)

  is_open_locked : (ph : Phase) → is_open ph ≡ true → (is_locked ph ≡ true) × (is_switched ph ≡ false) × (uses_sector ph ≡ true) × (stored g.width ph ≡ g.width) × (saved g.width ph ≡ g.width) × (has_words ph ≡ true)
  is_open_locked LogBStored e = (refl, refl, refl, refl, refl, refl)
  is_open_locked Logged e = (refl, refl, refl, refl, refl, refl)
  is_open_locked _ e = never e

  -- two lanes with the lock of one sector are one
  one_lane : (i j : ℕ) → i < g.lanes → j < g.lanes → is_locked (s.lanes i).phase ≡ true → is_locked (s.lanes j).phase ≡ true → (s.lanes i).sector ≡ (s.lanes j).sector → i ≡ j
  one_lane i j li lj ti tj q = the_lock g o s j h lj tj i li ti (ap (λ x. x / 2) q)

  small : (l : ℕ) → l < g.lanes → (s.lanes l).block < 2 ^ 30
  small l ll = let a = h.geometry.fits in let b = h.blocks.lane_in l ll in omega arith

  -- what stands in the recovered map for a sector
  Stays : ℕ → Type 0
  Stays t = (recovered_entry left sides g.lanes t ≡ entry_at s.seen.map_at t) × ((i : ℕ) → i < g.lanes → (is_pending left (half_at left i (sides i)) ≡ true) × (is_open (s.lanes i).phase ≡ true) → (s.lanes i).sector ≢ t)

  Changed : ℕ → Type 0
  Changed t = (i : ℕ) × (i < g.lanes) × ((is_pending left (half_at left i (sides i)) ≡ true) × (is_open (s.lanes i).phase ≡ true)) × ((s.lanes i).sector ≡ t) × (recovered_entry left sides g.lanes t ≡ normal (s.lanes i).block)

  mover_lba : (i : ℕ) → i < g.lanes → (is_pending left (half_at left i (sides i)) ≡ true) × (is_open (s.lanes i).phase ≡ true)
      → ((half_at left i (sides i)).lba ≡ (s.lanes i).sector) × ((half_at left i (sides i)).old ≡ mapped s.seen.map_at (s.lanes i).sector) × ((half_at left i (sides i)).new ≡ (s.lanes i).block)
  mover_lba i li m = go (outcome g o s h left hl i li (sides i) (hs i li))
    where
      go : Outcome g s left (s.lanes i) (half_at left i (sides i)) → ((half_at left i (sides i)).lba ≡ (s.lanes i).sector) × ((half_at left i (sides i)).old ≡ mapped s.seen.map_at (s.lanes i).sector) × ((half_at left i (sides i)).new ≡ (s.lanes i).block)
      go (Rests n e) = never (sym n ∙ m.0)
      go (Redoes p e sw a b) = never (sym (is_open_locked (s.lanes i).phase m.1).1 ∙ sw)
      go (Moves p op a b c) = (a, b, c)

  sector_end : (t : ℕ) → t < g.sectors → Stays t ⊎ Changed t
  unfolding Stays Changed
  sector_end t lt = elim (last left sides g.lanes t) [
    | inl a ↦ inl (
      elim (left_entry g o s h left hl t lt) [
        | inl e ↦ a.0 ∙ e
        | inr w ↦ let r = redo_pending g o s h left hl w.0 w.1 (sides w.0) (hs w.0 w.1) w.2 (ap (λ x. left.map_at (x / 2)) w.3 ∙ w.4 ∙ ap (λ x. s.kept.map_at (x / 2)) (sym w.3)) in
            absurd (a.1 w.0 w.1 r.0 (r.1 ∙ w.3))
      ],
      λ i li m q. a.1 i li m.0 ((mover_lba i li m).0 ∙ q),
    )
    | inr a ↦ go a.0 a.1 a.2 a.3 a.4 (outcome g o s h left hl a.0 a.1 (sides a.0) (hs a.0 a.1))
  ]
    where
      go : (i : ℕ) → i < g.lanes → is_pending left (half_at left i (sides i)) ≡ true → (half_at left i (sides i)).lba ≡ t → recovered_entry left sides g.lanes t ≡ normal (half_at left i (sides i)).new
          → Outcome g s left (s.lanes i) (half_at left i (sides i))
          → ((recovered_entry left sides g.lanes t ≡ entry_at s.seen.map_at t) × ((i : ℕ) → i < g.lanes → (is_pending left (half_at left i (sides i)) ≡ true) × (is_open (s.lanes i).phase ≡ true) → (s.lanes i).sector ≢ t))
          ⊎ ((i : ℕ) × (i < g.lanes) × ((is_pending left (half_at left i (sides i)) ≡ true) × (is_open (s.lanes i).phase ≡ true)) × ((s.lanes i).sector ≡ t) × (recovered_entry left sides g.lanes t ≡ normal (s.lanes i).block))
      go i li p lba r (Rests n e) = never (sym n ∙ p)
      go i li p lba r (Redoes _ e sw a b) = inl (
        r ∙ sym b ∙ ap (entry_at s.seen.map_at) (sym a ∙ lba),
        λ j lj m q.
            let k = is_open_locked (s.lanes j).phase m.1 in
            never (sym k.1 ∙ ap (λ x. is_switched (s.lanes x).phase) (one_lane j i lj li k.0 (switched_locked (s.lanes i).phase sw) (q ∙ sym lba ∙ a)) ∙ sw),
      )
      go i li p lba r (Moves _ op a b c) = inr (i, li, (p, op), sym a ∙ lba, r ∙ ap normal c)

  lane_end : (l : ℕ) → l < g.lanes → (((half_at left l (sides l)).old ≡ (s.lanes l).block) × (IsMover l → ⊥)) ⊎ (IsMover l × ((s.lanes l).sector < g.sectors) × ((half_at left l (sides l)).old ≡ mapped s.seen.map_at (s.lanes l).sector))
  unfolding IsMover
  lane_end l ll = go (outcome g o s h left hl l ll (sides l) (hs l ll))
    where
      go : Outcome g s left (s.lanes l) (half_at left l (sides l))
          → (((half_at left l (sides l)).old ≡ (s.lanes l).block) × ((is_pending left (half_at left l (sides l)) ≡ true) × (is_open (s.lanes l).phase ≡ true) → ⊥))
          ⊎ (((is_pending left (half_at left l (sides l)) ≡ true) × (is_open (s.lanes l).phase ≡ true)) × ((s.lanes l).sector < g.sectors) × ((half_at left l (sides l)).old ≡ mapped s.seen.map_at (s.lanes l).sector))
      go (Rests n e) = inl (e, λ m. never (sym n ∙ m.0))
      go (Redoes p e sw a b) = inl (e, λ m. never (sym (is_open_locked (s.lanes l).phase m.1).1 ∙ sw))
      go (Moves p op a b c) = inr ((p, op), (h.each l ll).knows.in_range (is_open_locked (s.lanes l).phase op).2, b)

  stays_entry : (t : ℕ) → Stays t → recovered_entry left sides g.lanes t ≡ entry_at s.seen.map_at t
  unfolding Stays
  stays_entry t a = a.0

  sound_left : EachOnce g (λ t. block_in (recovered_entry left sides g.lanes t) t) (λ l. (half_at left l (sides l)).old)
  unfolding Stays Changed IsMover
  sound_left =
      swapped g (mapped s.seen.map_at) _ (λ l. (s.lanes l).block) _ (λ l. (s.lanes l).sector) (λ l. (is_pending left (half_at left l (sides l)) ≡ true) × (is_open (s.lanes l).phase ≡ true))
      (record { sector_in = h.blocks.map_in; lane_in = h.blocks.lane_in; sector_once = h.blocks.map_once; lane_once = h.blocks.lane_once; apart = h.blocks.apart })
      (λ t lt. elim (sector_end t lt) [
        | inl a ↦ inl (ap (λ x. block_in x t) a.0, a.1)
        | inr a ↦ inr (a.0, a.1, a.2, a.3, ap (λ x. block_in x t) a.4 ∙ block_in-normal (s.lanes a.0).block t (small a.0 a.1))
      ])
      lane_end
      (λ i j li lj mi mj q. one_lane i j li lj (is_open_locked (s.lanes i).phase mi.1).0 (is_open_locked (s.lanes j).phase mj.1).0 q)

  -- the words of a sector's block are what was seen
  row_left : (t : ℕ) → t < g.sectors → (j : ℕ) → j < g.width → left.data_at (mapped s.seen.map_at t) j ≡ s.seen.data_at (mapped s.seen.map_at t) j
  row_left t lt j lj = elim (hl.data_left (mapped s.seen.map_at t) j (h.blocks.map_in t lt) lj) [ inl q ↦ q ∙ h.settled t j lt lj | inr q ↦ q ]

  contents_left : (t : ℕ) → t < g.sectors → Survives g o s t (cell_in g.width left.data_at (recovered_entry left sides g.lanes t) t)
  unfolding Stays Changed
  contents_left t lt =
      elim (sector_end t lt) [
        | inl a ↦ inl (ap (λ x. cell_in g.width left.data_at x t) a.0 ∙ cell_in-words g.width left.data_at s.seen.data_at (entry_at s.seen.map_at t) t (row_left t lt) ∙ sym (h.cells t lt))
        | inr a ↦ inr (a.0, a.1, a.2.1, a.3, ap (λ x. cell_in g.width left.data_at x t) a.4 ∙ cell_in-normal g.width left.data_at (s.lanes a.0).block t (small a.0 a.1) ∙ ap cell.Bytes (words_left a.0 a.1 a.2.1))
      ]
    where
      words_left : (i : ℕ) → i < g.lanes → is_open (s.lanes i).phase ≡ true → listed g.width (left.data_at (s.lanes i).block) ≡ (s.lanes i).words
      words_left i li op =
          let k = is_open_locked (s.lanes i).phase op in
          let st = (h.each i li).stages in
          let size = st.size k.5 ∙ k.3 in
          listed-take g.width (left.data_at (s.lanes i).block) (s.lanes i).words (omega (arith, size))
          (λ j lj. elim (hl.data_left (s.lanes i).block j (h.blocks.lane_in i li) lj) [
            | inl q ↦ q ∙ st.kept_words j (subst (λ n. j < n) (sym k.4) lj)
            | inr q ↦ q ∙ st.seen_words j (subst (λ n. j < n) (sym k.3) lj)
          ])
          ∙ take_all g.width (s.lanes i).words (omega (arith, size))

  pub recovers : IsRecoverable g o s left sides
  recovers = record { sized = λ l ll. sized_left g o s h left hl l ll (sides l) (hs l ll); sound = sound_left; contents = contents_left }
