-- Areas in which lane 0 has made one write are open, and one cell differs.
use Rattle.std.proofs.Common.{◌≡◌, ◌≢◌, ℕ, ◌+◌, ◌*◌, ◌/◌, ◌^◌, ◌<◌, inl, inr, List, length, get_or, refl, sym, ap, ap₂, ◌∙◌, subst, arith, take_all}
use Rattle.map_table.specs.Entry.{entry_in, with_entry}
use Rattle.arena_open.specs.declared.cell.Cell.TheVariants as cell
use Rattle.lane_core.specs.Areas.{Areas, Geometry, Half, IsNewer, block_in, blocks_of, entry_at, half_in, mapped, next_seq, normal, put, seq_in, word_a, word_b}
use Rattle.lane_core.specs.Cut.{EachOnce, IsCurrent, half_at}
use Rattle.lane_core.specs.History.{cell_in, cell_of}
use Rattle.lane_core.specs.Invariant.{Sized}
use Rattle.lane_core.specs.Machine.{other}
use Rattle.lane_core.specs.Opening.{IsOpen}
use Rattle.lane_core.proofs.Entries.{block_in-normal, entry_in-with_other, entry_in-with_same, lba_in-word, new_in-word, next_newer, normal_fits, old_in-word, seq_in-word}
use Rattle.lane_core.proofs.Past.{cell_in-normal, cell_in-words, listed-take}
use Rattle.lane_core.proofs.Put.{put_at, put_elim, put_other, same_or_not}
use Rattle.lane_core.proofs.Recovering.{swapped}

-- the free block of lane 0
abbrev pub free_block : Areas → (ℕ → ℕ) → ℕ
free_block a sides = (half_at a 0 (sides 0)).old

-- the current sides after a write of lane 0
abbrev pub turned : (ℕ → ℕ) → ℕ → ℕ
turned sides = put sides 0 (other (sides 0))

-- the words of `b` are those of `a`, but for the three runs of a write
pub record Changed (g : Geometry) (a b : Areas) (sides : ℕ → ℕ) (own : ℕ) (value : List ℕ) : Type 0 where
  pub data_here : (k : ℕ) → k < g.width → b.data_at (free_block a sides) k ≡ get_or value k 0
  pub data_there : (c k : ℕ) → c < blocks_of g → k < g.width → c ≢ free_block a sides → b.data_at c k ≡ a.data_at c k
  pub map_here : b.map_at (own / 2) ≡ with_entry (a.map_at (own / 2)) own (normal (free_block a sides))
  pub map_there : (m : ℕ) → 2 * m < g.sectors → m ≢ own / 2 → b.map_at m ≡ a.map_at m
  pub a_here : b.log_a 0 (other (sides 0)) ≡ word_a own (mapped a.map_at own)
  pub b_here : b.log_b 0 (other (sides 0)) ≡ word_b (free_block a sides) (next_seq (half_at a 0 (sides 0)).seq)
  pub b_same : b.log_b 0 (sides 0) ≡ a.log_b 0 (sides 0)
  pub a_there : (l side : ℕ) → l < g.lanes → side < 2 → l ≢ 0 → b.log_a l side ≡ a.log_a l side
  pub b_there : (l side : ℕ) → l < g.lanes → side < 2 → l ≢ 0 → b.log_b l side ≡ a.log_b l side

module _ (g : Geometry) (a b : Areas) (sides : ℕ → ℕ) (own : ℕ) (value : List ℕ) (h : IsOpen g a sides) (inside : own < g.sectors) (long : length value ≡ g.width) (c : Changed g a b sides own value) where
  abbrev free : ℕ
  free = free_block a sides

  abbrev seq : ℕ
  seq = (half_at a 0 (sides 0)).seq

  some : 0 < g.lanes
  some = h.geometry.lanes

  free_in : free < g.sectors + g.lanes
  free_in = h.once.lane_in 0 some

  free_small : free < 2 ^ 30
  free_small = omega (arith, free_in, h.geometry.fits)

  old_in : mapped a.map_at own < g.sectors + g.lanes
  old_in = h.once.sector_in own inside

  two : sides 0 < 2
  two = (h.current 0 some).two

  -- ---- the log

  half_now : half_at b 0 (other (sides 0)) ≡ record { lba = own; old = mapped a.map_at own; new = free; seq = next_seq seq }
  half_now =
      ap₂ half_in c.a_here c.b_here
      ∙ (λ i. record {
        lba = lba_in-word own (mapped a.map_at own) (omega (arith, inside, h.geometry.fits)) i;
        old = old_in-word own (mapped a.map_at own) (omega (arith, inside, h.geometry.fits)) (omega (arith, old_in, h.geometry.fits)) i;
        new = new_in-word free (next_seq seq) free_small i;
        seq = seq_in-word free (next_seq seq) (omega (arith, free_small)) i;
      })

  half_there : (l : ℕ) → l < g.lanes → l ≢ 0 → half_at b l (sides l) ≡ half_at a l (sides l)
  half_there l lt ne = ap₂ half_in (c.a_there l (sides l) lt (h.current l lt).two ne) (c.b_there l (sides l) lt (h.current l lt).two ne)

  seq_now : seq_in (b.log_b 0 (other (sides 0))) ≡ next_seq seq
  seq_now = ap seq_in c.b_here ∙ seq_in-word free (next_seq seq) (omega (arith, free_small))

  seq_before : seq_in (b.log_b 0 (other (other (sides 0)))) ≡ seq
  seq_before = ap (λ (d : ℕ). seq_in (b.log_b 0 d)) (let e : other (other (sides 0)) ≡ sides 0 = omega (arith, two) in e) ∙ ap seq_in c.b_same

  current_here : IsCurrent b 0 (other (sides 0))
  current_here = record {
    two = omega (arith, two);
    newer = subst (λ (q : ℕ). IsNewer q (seq_in (b.log_b 0 (other (other (sides 0)))))) (sym seq_now)
        (subst (λ (q : ℕ). IsNewer (next_seq seq) q) (sym seq_before) (next_newer seq (h.current 0 some).newer.0 (h.current 0 some).newer.1));
  }

  current_there : (l : ℕ) → l ≢ 0 → l < g.lanes → IsCurrent b l (sides l)
  current_there l ne lt =
      let small = (h.current l lt).two in
      record {
        two = small;
        newer = subst (λ (q : ℕ). IsNewer q (seq_in (b.log_b l (other (sides l))))) (sym (ap seq_in (c.b_there l (sides l) lt small ne)))
            (subst (λ (q : ℕ). IsNewer (seq_in (a.log_b l (sides l))) q) (sym (ap seq_in (c.b_there l (other (sides l)) lt (omega (arith, small)) ne))) (h.current l lt).newer);
      }

  current_now : (l : ℕ) → l < g.lanes → IsCurrent b l (turned sides l)
  current_now = put_elim (λ l side. l < g.lanes → IsCurrent b l side) sides 0 (other (sides 0)) (λ lt. current_here) current_there

  sized_now : (l : ℕ) → l < g.lanes → Sized g (half_at b l (turned sides l))
  sized_now = put_elim (λ l side. l < g.lanes → Sized g (half_at b l side)) sides 0 (other (sides 0))
      (λ lt. subst (Sized g) (sym half_now) (record { old = old_in; new = free_in; lba = inr inside }))
      (λ l ne lt. subst (Sized g) (sym (half_there l lt ne)) (h.sized l lt))

  -- ---- the map

  entry_here : entry_at b.map_at own ≡ normal free
  entry_here = ap (λ (w : ℕ). entry_in w own) c.map_here ∙ entry_in-with_same (a.map_at (own / 2)) own (normal free) (normal_fits free free_small)

  entry_there : (t : ℕ) → t < g.sectors → t ≢ own → entry_at b.map_at t ≡ entry_at a.map_at t
  entry_there t lt ne = elim (same_or_not (t / 2) (own / 2)) [
    | inl e ↦ ap (λ (m : ℕ). entry_in (b.map_at m) t) e ∙ ap (λ (w : ℕ). entry_in w t) c.map_here
        ∙ entry_in-with_other (a.map_at (own / 2)) own t (normal free) (normal_fits free free_small) e ne ∙ ap (λ (m : ℕ). entry_in (a.map_at m) t) (sym e)
    | inr n ↦ ap (λ (w : ℕ). entry_in w t) (c.map_there (t / 2) (omega (arith, lt)) n)
  ]

  mapped_here : mapped b.map_at own ≡ free
  mapped_here = ap (λ (e : ℕ). block_in e own) entry_here ∙ block_in-normal free own free_small

  -- ---- the blocks: the sector and the lane change theirs

  old_here : (half_at b 0 (turned sides 0)).old ≡ mapped a.map_at own
  old_here = ap (λ (f : Half). f.old) (ap (λ (d : ℕ). half_at b 0 d) (put_at sides 0 (other (sides 0))) ∙ half_now)

  old_there : (l : ℕ) → l < g.lanes → l ≢ 0 → (half_at b l (turned sides l)).old ≡ (half_at a l (sides l)).old
  old_there l lt ne = ap (λ (f : Half). f.old) (ap (λ (d : ℕ). half_at b l d) (put_other sides 0 (other (sides 0)) l ne) ∙ half_there l lt ne)

  pub once_now : EachOnce g (mapped b.map_at) (λ l. (half_at b l (turned sides l)).old)
  once_now = swapped g (mapped a.map_at) (mapped b.map_at) (λ l. (half_at a l (sides l)).old) (λ l. (half_at b l (turned sides l)).old) (λ l. own) (λ l. l ≡ 0) h.once
      (λ t lt. elim (same_or_not t own) [
        | inl e ↦ inr (0, some, refl, sym e, ap (mapped b.map_at) e ∙ mapped_here)
        | inr ne ↦ inl (ap (λ (e : ℕ). block_in e t) (entry_there t lt ne), λ i li z e. ne (sym e))
      ])
      (λ l lt. elim (same_or_not l 0) [
        | inl e ↦ inr (e, inside, ap (λ (i : ℕ). (half_at b i (turned sides i)).old) e ∙ old_here)
        | inr ne ↦ inl (old_there l lt ne, ne)
      ])
      (λ i j li lj zi zj e. zi ∙ sym zj)

  pub open_now : IsOpen g b (turned sides)
  open_now = record { geometry = h.geometry; current = current_now; sized = sized_now; once = once_now }

  -- ---- the cells

  cell_here : cell_of g b.data_at b.map_at own ≡ cell.Bytes value
  cell_here =
      ap (λ (e : ℕ). cell_in g.width b.data_at e own) entry_here ∙ cell_in-normal g.width b.data_at free own free_small
      ∙ ap (λ (ws : List ℕ). cell.Bytes ws) (listed-take g.width (b.data_at free) value (omega (arith, long)) c.data_here ∙ take_all g.width value (omega (arith, long)))

  cell_there : (t : ℕ) → t < g.sectors → t ≢ own → cell_of g b.data_at b.map_at t ≡ cell_of g a.data_at a.map_at t
  cell_there t lt ne =
      ap (λ (e : ℕ). cell_in g.width b.data_at e t) (entry_there t lt ne)
      ∙ cell_in-words g.width b.data_at a.data_at (entry_at a.map_at t) t (λ j lj. c.data_there (mapped a.map_at t) j (h.once.sector_in t lt) lj (h.once.apart t 0 lt some))

  pub cells_now : (t : ℕ) → t < g.sectors → cell_of g b.data_at b.map_at t ≡ put (cell_of g a.data_at a.map_at) own (cell.Bytes value) t
  cells_now t lt = elim (same_or_not t own) [
    | inl e ↦ ap (cell_of g b.data_at b.map_at) e ∙ cell_here ∙ sym (put_at (cell_of g a.data_at a.map_at) own (cell.Bytes value)) ∙ ap (put (cell_of g a.data_at a.map_at) own (cell.Bytes value)) (sym e)
    | inr ne ↦ cell_there t lt ne ∙ sym (put_other (cell_of g a.data_at a.map_at) own (cell.Bytes value) t ne)
  ]
