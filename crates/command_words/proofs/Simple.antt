-- A command made of a list of arguments is one that clap's contracts describe exactly.
use Rattle.std.proofs.Common.{◌≡◌, ℕ, Bool, true, false, List, [], ◌∷◌, map, refl, count_by, is_some}
use Rattle.std.specs.List.{list_all, list_any}
use Rattle.clap.specs.Words.{Rule, Text, is_simple, is_simple_and_free}
use Rattle.clap.specs.Simple.{filled_from, filled, with_index, index_after}
use Rattle.clap.specs.Walk.{is_early_multiple}
use Rattle.command_words.specs.declared.argument.Form.{Form}
use Rattle.command_words.specs.declared.argument.Form.TheVariants.{Place, Optional, Required, Flag}
use Rattle.command_words.specs.App.{Described, rule_of_form, rule_for, app_for}

-- a property of each built argument holds of all
all_built : (p : Rule → Bool) → ((argument : Described) (i : ℕ) → p (with_index i (filled (rule_for argument))) ≡ true)
    → (arguments : List Described) (i : ℕ) → list_all p (filled_from i (map rule_for arguments)) ≡ true
all_built p holds [] i = refl
all_built p holds (argument ∷ arguments) i =
    rw (holds argument i) (all_built p holds arguments (index_after i (filled (rule_for argument))))

simple_form : (form : Form) (name : Text) (i : ℕ) → (with_index i (filled (rule_of_form form name))).is_simple ≡ true
simple_form Place name i = refl
simple_form Optional name i = refl
simple_form Required name i = refl
simple_form Flag name i = refl

free_form : (form : Form) (name : Text) (i : ℕ) → (with_index i (filled (rule_of_form form name))).is_free ≡ true
free_form Place name i = refl
free_form Optional name i = refl
free_form Required name i = refl
free_form Flag name i = refl

given_form : (form : Form) (name : Text) → (rule_of_form form name).is_simple ≡ true
given_form Place name = refl
given_form Optional name = refl
given_form Required name = refl
given_form Flag name = refl

all_given : (arguments : List Described) → list_all (λ rule. rule.is_simple) (map rule_for arguments) ≡ true
all_given [] = refl
all_given (argument ∷ arguments) = rw (given_form argument.1 argument.0) (all_given arguments)

-- no argument takes several values
early_form : (form : Form) (name : Text) (n i : ℕ) → is_early_multiple n (with_index i (filled (rule_of_form form name))) ≡ false
early_form Place name n i = refl
early_form Optional name n i = refl
early_form Required name n i = refl
early_form Flag name n i = refl

none_early : (n : ℕ) (arguments : List Described) (i : ℕ) → list_any (is_early_multiple n) (filled_from i (map rule_for arguments)) ≡ false
none_early n [] i = refl
none_early n (argument ∷ arguments) i =
    rw (early_form argument.1 argument.0 n i) (none_early n arguments (index_after i (filled (rule_for argument))))

pub simple_app : (arguments : List Described) → is_simple (app_for arguments) ≡ true
simple_app arguments =
    let given = all_given arguments in
    let built = all_built (λ rule. rule.is_simple) (λ argument i. simple_form argument.1 argument.0 i) arguments 1 in
    let order = none_early (count_by (λ a. is_some a.index) (filled_from 1 (map rule_for arguments))) arguments 1 in
    rw (given, built, order) refl

pub free_app : (arguments : List Described) → is_simple_and_free (app_for arguments) ≡ true
free_app arguments =
    rw (simple_app arguments, all_built (λ rule. rule.is_free) (λ argument i. free_form argument.1 argument.0 i) arguments 1) refl
