-- The passes as they are handed in.
use Rattle.std.proofs.Common.{◌≡◌, ℕ, zero, suc, ◌<◌, List, [], ◌∷◌, ◌++◌, length, get_or, Some, true, refl, sym, ap, ◌∙◌, arith, append_assoc, append-nil}
use mathlib.Core.Option.{some}
use lib.ListN.{get_elem?}
use Rattle.turn_lock.specs.declared.table.Role.{Role}
use Rattle.turn_lock.specs.declared.table.Role.TheVariants.{Spent, Dealer, Caller, Keeper}
use Rattle.turn_lock.specs.declared.parted.Parted.{Ghosts}
use Rattle.turn_lock.specs.declared.pass.TurnPass.{TurnPass}
use Rattle.turn_lock.specs.Turns.{is_caller, number_in, part_in, entry_of}
use Rattle.turn_lock.specs.Passes.{number_of, part_of, entries_of}

module _ {T D : Type 0} where
  entry_is : (r : Role T D) (rest : List (ℕ × D)) → is_caller r ≡ true → (d : D) × (entry_of r ++ rest ≡ (number_in r, d) ∷ rest) × (part_in r ≡ Some d)
  entry_is Spent rest is = cc
  entry_is (Dealer m y) rest is = cc
  entry_is (Keeper known) rest is = cc
  entry_is (Caller q d o) rest is = (d, refl, refl)

module _ {T D : Type 0} {g : Ghosts T D} where
  pub entries_of-push : (ps : List (TurnPass T D g)) (p : TurnPass T D g) → entries_of (ps ++ p ∷ []) ≡ entries_of ps ++ entry_of p.seat.me.0
  entries_of-push [] p = append-nil (entry_of p.seat.me.0)
  entries_of-push (q ∷ ps) p = ap (λ es. entry_of q.seat.me.0 ++ es) (entries_of-push ps p) ∙ sym (append_assoc (entry_of q.seat.me.0) (entries_of ps) (entry_of p.seat.me.0))

  -- the entry of the pass at k stands at k
  pub entry_at : (ps : List (TurnPass T D g)) (k : ℕ) (d : TurnPass T D g) → k < length ps → (e : D) × (get_elem? (entries_of ps) k ≡ some (number_of (get_or ps k d), e)) × (part_of (get_or ps k d) ≡ Some e)
  entry_at [] k d h = absurd (omega arith)
  entry_at (p ∷ ps) zero d h = let e = entry_is p.seat.me.0 (entries_of ps) p.of_a_caller in (e.0, ap (λ es. get_elem? es 0) e.1, e.2)
  entry_at (p ∷ ps) (suc k) d h =
      let e = entry_is p.seat.me.0 (entries_of ps) p.of_a_caller in
      let t = entry_at ps k d (omega arith) in
      (t.0, ap (λ es. get_elem? es (suc k)) e.1 ∙ t.1, t.2)
