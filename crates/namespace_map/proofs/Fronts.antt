-- After a crash, a front of a list of changes is made.
use Rattle.std.proofs.Common.{Option, ◌≡◌, ℕ, suc, ◌+◌, ◌-◌, ◌≤◌, Bool, List, [], ◌∷◌, length, take, refl, arith, inl, inr}
use Rattle.std.specs.Prelude.{nat_le, ◌==◌, ◌&&◌}
use Rattle.std.proofs.lemmas.Bool.{cases_Bool, le-leb}
use Rattle.namespace_map.specs.Areas.{Area, Change, changed_areas, steps_for, steps_of_all, after_steps, all_changed}

abbrev pub IsFront : List (Option Area) → List Change → List (Option Area) → Type 0
IsFront areas cs left = (k : ℕ) × (k ≤ length cs) × (left ≡ all_changed areas (take k cs))

one_more : (c : Change) (cs : List Change) (areas left : List (Option Area)) → IsFront (changed_areas areas c) cs left → IsFront areas (c ∷ cs) left
unfolding all_changed
one_more c cs areas left (k, below, is) = (suc k, omega arith, is)

-- after a crash that follows any number of steps
pub cut_is_front : (cs : List Change) (areas : List (Option Area)) (n : ℕ) (stays : Bool) → IsFront areas cs (after_steps areas cs n stays)
unfolding after_steps all_changed
cut_is_front [] areas n stays = (0, omega arith, refl)
cut_is_front (c ∷ cs) areas n stays =
    elim (cases_Bool (nat_le (steps_for areas c) n)) [
      | inl it ↦ rw it (one_more c cs areas _ (cut_is_front cs (changed_areas areas c) (n - steps_for areas c) stays))
      | inr not_it ↦ rw not_it (elim (cases_Bool ((n + 1 == steps_for areas c) && stays)) [
        | inl it ↦ rw it (1, omega arith, refl)
        | inr not_it ↦ rw not_it (0, omega arith, refl)
      ])
    ]

-- with all steps every change is made
pub uncut_is_whole : (cs : List Change) (areas : List (Option Area)) (n : ℕ) (stays : Bool) → steps_of_all areas cs ≤ n → after_steps areas cs n stays ≡ all_changed areas cs
unfolding after_steps all_changed steps_of_all
uncut_is_whole [] areas n stays h = refl
uncut_is_whole (c ∷ cs) areas n stays h = rw (le-leb (steps_for areas c) n (omega arith)) (uncut_is_whole cs (changed_areas areas c) (n - steps_for areas c) stays (omega arith))
