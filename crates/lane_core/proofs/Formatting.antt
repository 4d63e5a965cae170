-- A new arena is open.
use Rattle.std.proofs.Common.{◌≡◌, ℕ, ◌+◌, ◌^◌, ◌<◌, inl, true, false, refl, sym, ap, ap₂, ◌∙◌, subst, subst₂, arith}
use Rattle.map_table.specs.Entry.{entry_in}
use Rattle.lane_core.specs.Areas.{Geometry, IsGeometry, mapped, entry_at, block_in, seq_in, IsNewer}
use Rattle.map_table.specs.Entry.{entry_of, has_zero, has_error, kind_of, block_of, block_bits}
use Rattle.lane_core.specs.Cut.{half_at}
use Rattle.lane_core.specs.Opening.{formatted, IsOpen}
use Rattle.lane_core.proofs.Entries.{old_in-word, new_in-word, seq_in-word}

new_entry : (g : Geometry) (s : ℕ) → s < 2 ^ 30 → entry_at (formatted g).map_at s ≡ 2 ^ 31 + s
unfolding entry_in
new_entry g s lt = grind arith

own_block : (g : Geometry) (s : ℕ) → s < 2 ^ 30 → mapped (formatted g).map_at s ≡ s
unfolding block_in entry_of
own_block g s lt = ap (λ e. block_in e s) (new_entry g s lt) ∙ value
  where
    zero_flag : has_zero (2 ^ 31 + s) ≡ true
    zero_flag = grind arith

    error_flag : has_error (2 ^ 31 + s) ≡ false
    error_flag = grind arith

    bits : block_bits (2 ^ 31 + s) ≡ s
    bits = omega arith

    value : block_in (2 ^ 31 + s) s ≡ s
    value = ap (λ k. block_of k (2 ^ 31 + s) s) (ap₂ kind_of zero_flag error_flag) ∙ bits

none_seq : seq_in 0 ≡ 0
unfolding seq_in
none_seq = refl

pub formatted_open : (g : Geometry) → IsGeometry g → IsOpen g (formatted g) (λ l. 0)
formatted_open g h =
    record {
      geometry = h;
      current = λ l ll. record { two = omega arith; newer = subst₂ IsNewer (sym (seq_in-word (g.sectors + l) 1 (small l ll))) (sym none_seq) (omega arith, omega arith, inl refl) };
      sized = λ l ll. record {
        old = subst (λ b. b < g.sectors + g.lanes) (sym (old_at l ll)) (omega arith);
        new = subst (λ b. b < g.sectors + g.lanes) (sym (new_in-word (g.sectors + l) 1 (omega (arith, inside l ll)))) (omega arith);
        lba = inl (old_at l ll ∙ sym (new_in-word (g.sectors + l) 1 (omega (arith, inside l ll))));
      };
      once = record {
        sector_in = λ s ls. subst (λ b. b < g.sectors + g.lanes) (sym (own_block g s (here s ls))) (omega arith);
        lane_in = λ l ll. subst (λ b. b < g.sectors + g.lanes) (sym (old_at l ll)) (omega arith);
        sector_once = λ s t ls lt e. sym (own_block g s (here s ls)) ∙ e ∙ own_block g t (here t lt);
        lane_once = λ l m ll lm e. let q : g.sectors + l ≡ g.sectors + m = sym (old_at l ll) ∙ e ∙ old_at m lm in omega arith;
        apart = λ s l ls ll e. let q : s ≡ g.sectors + l = sym (own_block g s (here s ls)) ∙ e ∙ old_at l ll in omega arith;
      };
    }
  where
    inside : (l : ℕ) → l < g.lanes → g.sectors + l < 2 ^ 30
    inside l ll = let f = h.fits in omega arith

    small : (l : ℕ) → l < g.lanes → g.sectors + l < 2 ^ 32
    small l ll = let f = h.fits in omega arith

    here : (s : ℕ) → s < g.sectors → s < 2 ^ 30
    here s ls = let f = h.fits in omega arith

    old_at : (l : ℕ) → l < g.lanes → (half_at (formatted g) l 0).old ≡ g.sectors + l
    old_at l ll = old_in-word l (g.sectors + l) (let f = h.fits in omega arith) (inside l ll)
