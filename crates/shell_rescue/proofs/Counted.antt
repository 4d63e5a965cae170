-- The groups of the lanes that count.
use Rattle.std.proofs.Common.{◌≡◌, ℕ, ◌+◌, Bool, List, [], ◌∷◌, ◌++◌, Option, Some, None, Result, Ok, Err, ap, ◌∙◌, sym, subst, arith}
use Rattle.std.specs.Prelude.{All, IfSome}
use Rattle.std.specs.List.{cons_option, filter_map, list_any, range_with_len}
use Rattle.std.proofs.lemmas.List.{append-nil}
use Rattle.std.proofs.lemmas.List.Elements.{All-append, All-cons, All-nil, filter_map-append}
use Rattle.arena_layout.specs.declared.layout.Layout.{Layout}
use Rattle.arena_layout.specs.Layout.{IsLayout}
use Rattle.flog.specs.declared.group.FlogFault.{FlogFault}
use Rattle.flog.specs.declared.group.Group.{Group}
use Rattle.flog.specs.Group.{group_reading}
use Rattle.arena_open.specs.Halves.{AreInRange, IsInRange}
use Rattle.arena_open.proofs.Pending.{half_fits}
use Rattle.arena_open.proofs.Ranges.{range-append}
use Rattle.arena_check.specs.Check.{in_arena}
use Rattle.arena_check.proofs.Picked.{any_shifted}
use Rattle.shell_rescue.specs.Rescue.{accepted, counted_group}

-- bad words of an arena, by their numbers in the namespace
pub bad_there : (bad : ℕ → Bool) (at first there n : ℕ) → there ≡ at + first → list_any bad (range_with_len there n) ≡ list_any (in_arena at bad) (range_with_len first n)
bad_there bad at first there n is = any_shifted bad (in_arena at bad) there first n (λ k lt. ap bad (omega (arith, is)))

-- one lane more
lane_more : (l : Layout) (bad : ℕ → Bool) (words : List ℕ) (n : ℕ) → filter_map (counted_group l bad words) (range_with_len 0 n) ++ cons_option (counted_group l bad words n) []
    ≡ filter_map (counted_group l bad words) (range_with_len 0 (n + 1))
lane_more l bad words n =
    sym (filter_map-append (counted_group l bad words) (range_with_len 0 n) (range_with_len n 1))
    ∙ ap (filter_map (counted_group l bad words)) (ap (λ (m : ℕ). range_with_len 0 n ++ range_with_len m 1) (let e : n ≡ 0 + n = omega arith in e) ∙ range-append 0 n 1)

-- a loop that pushes them
pub lane_pushed : (l : Layout) (bad : ℕ → Bool) (words : List ℕ) (n : ℕ) (before now : List Group) (o : Option Group) → before ≡ filter_map (counted_group l bad words) (range_with_len 0 n)
    → o ≡ counted_group l bad words n → now ≡ before ++ cons_option o [] → now ≡ filter_map (counted_group l bad words) (range_with_len 0 (n + 1))
lane_pushed l bad words n before now o was here is = is ∙ (λ i. was i ++ cons_option (here i) []) ∙ lane_more l bad words n

-- an accepted group is in range
pub accepted_in_range : (l : Layout) → IsLayout l → (ws : List ℕ) (r : Result Group FlogFault) → r ≡ group_reading ws l.external l.internal → IfSome (accepted r) (λ group. IsInRange l.external group.half)
accepted_in_range l ok ws (Err fault) is = tt
accepted_in_range l ok ws (Ok group) is =
    let fits = half_fits ws l.external l.internal group (sym is) in
    λ apart. record { sector = fits.lba apart; block = omega (arith, fits.new, ok.internal_few) }

-- a list that gets one more value, or none
pub all_more : {X : Type 0} (P : X → Type 0) (xs now : List X) (o : Option X) → now ≡ xs ++ cons_option o [] → All P xs → IfSome o P → All P now
all_more {X} P xs now None is each here = subst (λ (ys : List X). All P ys) (sym (is ∙ append-nil xs)) each
all_more {X} P xs now (Some x) is each here = subst (λ (ys : List X). All P ys) (sym is) (All-append P xs (x ∷ []) each (All-cons P x [] here (All-nil P)))

-- the groups stay in range
pub range_more : (external : ℕ) (groups now : List Group) (o : Option Group) → now ≡ groups ++ cons_option o [] → AreInRange external groups → IfSome o (λ group. IsInRange external group.half) → AreInRange external now
range_more external groups now o is each here = all_more (λ (group : Group). IsInRange external group.half) groups now o is each here
