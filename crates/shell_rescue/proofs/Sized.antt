-- How many sectors of an arena are lost at most.
use Rattle.std.proofs.Common.{◌≡◌, ◌≢◌, ℕ, ◌+◌, ◌*◌, ◌≤◌, ◌==◌, ◌||◌, Bool, List, [], ◌∷◌, length, Option, Some, None, inl, inr, ap, arith}
use Rattle.std.specs.Prelude.{IsTrue}
use Rattle.std.specs.List.{cons_option, filter_map, range_with_len}
use Rattle.std.proofs.lemmas.Bool.{cases_eq, ne_eqb}
use Rattle.std.proofs.lemmas.List.FromFn.{length-range_with_len}
use Rattle.std.proofs.Math.Nat.{mul-le-mul_left}
use Rattle.arena_layout.specs.declared.layout.Layout.{Layout}
use Rattle.arena_layout.specs.Layout.{IsLayout, is_sector}
use Rattle.flog.specs.declared.group.Group.{Group}
use Rattle.arena_open.specs.Reading.{moves_of}
use Rattle.arena_open.proofs.OnceMore.{length_moved}
use Rattle.arena_check.specs.Check.{recovered_map}
use Rattle.arena_rescue.specs.declared.loss.Loss.{Loss}
use Rattle.arena_rescue.specs.Rescue.{loss_at, losses_of}

one_more : {Y : Type 0} (o : Option Y) (ys : List Y) → length (cons_option o ys) ≤ length ys + 1
one_more (Some y) ys = omega arith
one_more None ys = omega arith

few_found : {X Y : Type 0} (f : X → Option Y) (xs : List X) → length (filter_map f xs) ≤ length xs
few_found f [] = omega arith
few_found f (x ∷ xs) = omega (arith, one_more (f x) (filter_map f xs), few_found f xs)

-- no sector is lost twice
pub losses_few : (l : Layout) (bad : ℕ → Bool) (entries : List ℕ) (groups : List Group) (losses : List Loss) → losses ≡ losses_of l bad (recovered_map entries groups) groups → length losses ≤ length entries
losses_few l bad entries groups losses is =
    omega (
      arith,
      ap (λ (found : List Loss). length found) is,
      few_found (loss_at l bad (recovered_map entries groups) groups) (range_with_len 0 (length (recovered_map entries groups))),
      length-range_with_len 0 (length (recovered_map entries groups)),
      length_moved entries (moves_of entries groups),
    )

some_sector : (bytes : ℕ) → IsTrue (is_sector bytes) → 8 ≤ bytes
unfolding is_sector
some_sector bytes is = grind arith

-- an arena has more words than sectors
pub sectors_fit : (l : Layout) → IsLayout l → 8 * l.external ≤ l.size
sectors_fit l ok =
    let product : l.internal * 8 ≤ l.internal * l.inner = mul-le-mul_left l.internal (let le : 8 ≤ l.inner = omega (arith, some_sector l.sector ok.sector, ok.inner_enough) in le) in
    omega (arith, product, ok.after_data, ok.after_map, ok.after_flog, ok.size_is, ok.internal_is)

-- the next arena, if there is one, begins where this one ends
pub next_size : (next size : ℕ) → IsTrue ((next == 0) || (next == size)) → next ≢ 0 → next ≡ size
next_size next size said some = elim (cases_eq next 0) [
  | inl zero ↦ absurd (some zero)
  | inr other ↦ elim (cases_eq next size) [ inl same ↦ same | inr apart ↦ absurd (let e = rw (ne_eqb next 0 other, ne_eqb next size apart) at said in cc) ]
]
