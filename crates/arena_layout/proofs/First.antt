-- The first fault of a list.
use Rattle.std.proofs.Common.{◌≡◌, List, [], ◌∷◌, Option, Some, None, refl}
use Rattle.nvd_words.specs.Checks.{first_fault}
use Rattle.nvd_words.proofs.Checks.{fault_if-true, fault_if-false}

pub first_here : {F : Type 0} (o : Option F) (fault : F) (faults : List (Option F)) → o ≡ Some fault → Some fault ≡ first_fault (o ∷ faults)
unfolding first_fault
first_here o fault faults e = rw e refl

pub first_next : {F : Type 0} (o : Option F) (faults : List (Option F)) (r : Option F) → o ≡ None → r ≡ first_fault faults → r ≡ first_fault (o ∷ faults)
unfolding first_fault
first_next o faults r e on = rw e on

pub first_none : {F : Type 0} (r : Option F) → r ≡ None → r ≡ first_fault []
unfolding first_fault
first_none r e = e

pub ruleset firsts = (first_here, first_next, first_none, fault_if-true, fault_if-false)
