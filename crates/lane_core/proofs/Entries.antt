-- Map entries, log words and their parts.
use Rattle.std.proofs.Common.{◌≡◌, ℕ, ◌/◌, ◌^◌, ◌<◌, ◌≤◌, ◌≢◌, inl, inr, true, sym, ap, ap₂, ◌∙◌, subst, arith}
use Rattle.map_table.specs.Entry.{entry_in, with_entry}
use Rattle.lane_core.specs.Areas.{put, kind_in, block_in, normal, word_a, word_b, lba_in, old_in, new_in, seq_in, next_seq, entry_at, IsNewer}
use Rattle.map_table.specs.declared.kinds.Kind.TheVariants as kind
use Rattle.map_table.specs.Entry.{entry_of, normal_of, has_zero, has_error, kind_of, block_of, block_bits}
use Rattle.lane_core.proofs.Put.{put_at, put_other, same_or_not}

pub entry_in-with_same : (w s e : ℕ) → e < 2 ^ 32 → entry_in (with_entry w s e) s ≡ e
unfolding entry_in with_entry
entry_in-with_same w s e h = grind arith

pub entry_in-with_other : (w s t e : ℕ) → e < 2 ^ 32 → t / 2 ≡ s / 2 → t ≢ s → entry_in (with_entry w s e) t ≡ entry_in w t
unfolding entry_in with_entry
entry_in-with_other w s t e h q ne = grind arith

pub normal_fits : (b : ℕ) → b < 2 ^ 30 → normal b < 2 ^ 32
unfolding normal
normal_fits b h = omega arith

-- the two flags of a normal entry
zero_flag : (b : ℕ) → b < 2 ^ 30 → has_zero (normal_of b) ≡ true
zero_flag b h = grind arith

error_flag : (b : ℕ) → b < 2 ^ 30 → has_error (normal_of b) ≡ true
error_flag b h = grind arith

pub kind_in-normal : (b : ℕ) → b < 2 ^ 30 → kind_in (normal b) ≡ kind.Normal
unfolding kind_in normal entry_of
kind_in-normal b h = ap₂ kind_of (zero_flag b h) (error_flag b h)

pub block_in-normal : (b s : ℕ) → b < 2 ^ 30 → block_in (normal b) s ≡ b
unfolding block_in normal entry_of
block_in-normal b s h = ap (λ k. block_of k (normal_of b) s) (ap₂ kind_of (zero_flag b h) (error_flag b h)) ∙ bits
  where
    bits : block_bits (normal_of b) ≡ b
    bits = omega arith

pub lba_in-word : (lba old : ℕ) → lba < 2 ^ 32 → lba_in (word_a lba old) ≡ lba
unfolding lba_in word_a
lba_in-word lba old h = omega arith

pub old_in-word : (lba old : ℕ) → lba < 2 ^ 32 → old < 2 ^ 30 → old_in (word_a lba old) ≡ old
unfolding old_in word_a
old_in-word lba old h k = omega arith

pub new_in-word : (new seq : ℕ) → new < 2 ^ 30 → new_in (word_b new seq) ≡ new
unfolding new_in word_b
new_in-word new seq h = omega arith

pub seq_in-word : (new seq : ℕ) → new < 2 ^ 32 → seq_in (word_b new seq) ≡ seq
unfolding seq_in word_b
seq_in-word new seq h = omega arith

pub next_newer : (q : ℕ) → 0 < q → q ≤ 3 → IsNewer (next_seq q) q
unfolding next_seq
next_newer q low high = grind arith

-- the map after the entry of s becomes e
module _ (map : ℕ → ℕ) (w s e : ℕ) (fits : e < 2 ^ 32) (same : map (s / 2) ≡ w) where
  pub entry_at-stored : entry_at (put map (s / 2) (with_entry w s e)) s ≡ e
  entry_at-stored = subst (λ x. entry_in x s ≡ e) (sym (put_at map (s / 2) (with_entry w s e))) (entry_in-with_same w s e fits)

  pub entry_at-kept : (t : ℕ) → t ≢ s → entry_at (put map (s / 2) (with_entry w s e)) t ≡ entry_at map t
  entry_at-kept t ne =
      elim (same_or_not (t / 2) (s / 2)) [
        | inl q ↦ subst (λ m. entry_in (put map (s / 2) (with_entry w s e) m) t ≡ entry_in (map m) t) (sym q)
            (subst (λ x. entry_in x t ≡ entry_in (map (s / 2)) t) (sym (put_at map (s / 2) (with_entry w s e)))
            (subst (λ x. entry_in (with_entry w s e) t ≡ entry_in x t) (sym same) (entry_in-with_other w s t e fits q ne)))
        | inr q ↦ ap (λ x. entry_in x t) (put_other map (s / 2) (with_entry w s e) (t / 2) q)
      ]
