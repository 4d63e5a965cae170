-- The first fault of a list.
use Rattle.std.proofs.Common.{◌≡◌, Bool, true, false, List, [], ◌∷◌, Option, Some, None, refl}
use Rattle.nvd_words.specs.Checks.{first_fault, fault_if}

pub first_here : {F : Type 0} (o : Option F) (fault : F) (faults : List (Option F)) → o ≡ Some fault → Some fault ≡ first_fault (o ∷ faults)
unfolding first_fault
first_here o fault faults e = rw e refl

pub first_next : {F : Type 0} (o : Option F) (faults : List (Option F)) (r : Option F) → o ≡ None → r ≡ first_fault faults → r ≡ first_fault (o ∷ faults)
unfolding first_fault
first_next o faults r e on = rw e on

pub first_none : {F : Type 0} → None ≡ first_fault {F = F} []
unfolding first_fault
first_none = refl

pub fault_if-true : {F : Type 0} (b : Bool) (fault : F) → b ≡ true → fault_if b fault ≡ Some fault
fault_if-true b fault e = rw e refl

pub fault_if-false : {F : Type 0} (b : Bool) (fault : F) → b ≡ false → fault_if b fault ≡ None
fault_if-false b fault e = rw e refl

pub ruleset firsts = (first_here, first_next, first_none, fault_if-true, fault_if-false)
