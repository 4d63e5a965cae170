-- Why a claimed namespace isn't deleted.
use Rattle.std.proofs.Common.{◌≡◌, ℕ, true, List, [], ◌∷◌, Option, Some, None, Err, if◌then◌else◌, refl, inl, inr}
use Rattle.std.specs.Prelude.{nat_lt, not, Ok}
use Rattle.std.proofs.lemmas.Bool.{cases_Bool}
use Rattle.nvd_words.specs.Checks.{value_unless, first_fault, fault_if}
use Rattle.namespace_map.specs.Namespaces.{NamespaceEntry}
use Rattle.namespace_map.specs.declared.refused.OpRefused.{OpRefused}
use Rattle.namespace_map.specs.declared.refused.OpRefused.TheVariants.{Busy, NotSector}
use Rattle.namespace_map.specs.Commands.{entry_refusal, is_complete, is_sector}
use Rattle.namespace_ops.specs.Entries.{Reply}
use Rattle.namespace_ops.specs.Counting.{is_first}

-- by whether it may be claimed
abbrev pub busy_or : Reply → ℕ → OpRefused
busy_or (Err f) n = if is_first f then f else Busy n
busy_or (Ok x) n = Busy n

pub busy_is : (o : Option NamespaceEntry) (n : ℕ) (further : NamespaceEntry → List (Option OpRefused)) → nat_lt 0 n ≡ true
    → entry_refusal o (λ e. fault_if (nat_lt 0 n) (Busy n) ∷ further e) ≡ Some (busy_or (value_unless tt (entry_refusal o (λ e. fault_if (not (is_sector e.mode)) NotSector ∷ []))) n)
unfolding first_fault
busy_is None n further some = refl
busy_is (Some e) n further some =
    elim (cases_Bool (is_complete e.status)) [
      | inr not_it ↦ rw not_it refl
      | inl it ↦ rw it (rw some (elim (cases_Bool (is_sector e.mode)) [
        | inl sector ↦ rw sector refl
        | inr other ↦ rw other refl
      ]))
    ]
