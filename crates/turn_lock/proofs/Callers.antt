-- The seat of a pass, from the invariant of its type.
use Rattle.std.proofs.Common.{◌≡◌, ℕ, true, Option, Some, None, refl, ap, ◌∙◌}
use Rattle.std.specs.Prelude.{IsSomeAnd}
use Rattle.atomic_table.specs.Table.{Me}
use Rattle.turn_lock.specs.declared.table.Role.{Role}
use Rattle.turn_lock.specs.declared.table.Role.TheVariants.{Spent, Dealer, Caller, Keeper}
use Rattle.turn_lock.specs.Turns.{is_caller, number_in, part_in, out_in, carried}

module _ {T D : Type 0} where
  role_is : (r : Role T D) (k : ℕ) (o : Option T) → is_caller r ≡ true → number_in r ≡ k → out_in r ≡ o → (d : D) × (r ≡ Caller k d o) × (part_in r ≡ Some d)
  role_is Spent k o is n out = cc
  role_is (Dealer m y) k o is n out = cc
  role_is (Keeper known) k o is n out = cc
  role_is (Caller q d o') k o is n out = (d, (λ i. Caller (n i) d (out i)), refl)

  pub seat_is : (me : Me (Option T) (Role T D)) (k : ℕ) (o : Option T) → is_caller me.0 ≡ true → number_in me.0 ≡ k → me.1 ≡ carried (out_in me.0) → out_in me.0 ≡ o
      → (d : D) × (me ≡ (Caller k d o, carried o)) × (part_in me.0 ≡ Some d)
  seat_is me k o is n slot out = let r = role_is me.0 k o is n out in (r.0, (λ i. (r.1 i, (slot ∙ ap carried out) i)), r.2)

  -- what the view of a caller says
  pub says : (r : Role T D) (k : ℕ) (d : D) (o : Option T) → r ≡ Caller k d o → (is_caller r ≡ true) × (number_in r ≡ k) × (part_in r ≡ Some d) × (out_in r ≡ o)
  says r k d o is = (ap is_caller is, ap number_in is, ap part_in is, ap out_in is)

-- the value of an option that has one
pub is_some_and : {X : Type 0} (o : Option X) (P : X → Type 0) → IsSomeAnd o P → (x : X) × (o ≡ Some x) × P x
is_some_and None P h = absurd h
is_some_and (Some x) P h = (x, refl, h)
