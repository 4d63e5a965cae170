-- The label changes of a create that isn't refused can be made, and its labels written.
use Rattle.std.proofs.Common.{◌≡◌, ℕ, zero, suc, ◌+◌, ◌-◌, ◌*◌, ◌/◌, ◌%◌, ◌<◌, ◌≤◌, ◌^◌, true, false, List, [], ◌∷◌, map, Option, Some, None, refl, sym, ap, ◌∙◌, subst, inl, inr, arith}
use Rattle.std.specs.Prelude.{◌==◌, nat_lt, max, IsSome}
use Rattle.std.specs.List.{AllByRecursion}
use Rattle.std.proofs.Math.Nat.{mul-mod_left, mul_assoc, max-eq_left, max-eq_right}
use Rattle.std.proofs.lemmas.Nat.{pow-add, div-add-mod'}
use Rattle.std.proofs.lemmas.Bool.{cases_lt, eq-eqb, ne_eqb}
use Rattle.std.proofs.lemmas.Bool.Decides.{nat_tests}
use Rattle.label_codec.specs.declared.label.Label.{Label}
use Rattle.label_codec.specs.Sizes.{size_fault_of}
use Rattle.label_codec.specs.Writable.{IsSound}
use Rattle.namespace_map.specs.Areas.{Area as SeenArea, Change, slots_of, slots_on, free_in, area_at, changed_areas}
use Rattle.namespace_map.specs.Changes.{change_to, in_two}
use Rattle.namespace_map.specs.CommandLaws.{IsOf}
use Rattle.namespace_map.proofs.Slots.{owned}
use Rattle.namespace_map.proofs.Areas.{Proper, HasRoom, moved, proper_then, room_then}
use Rattle.namespace_areas.specs.Went.{CanMake, PutsSound, HasRoom as HasSlot}
use Rattle.namespace_ops.specs.declared.turns.Round.TheVariants.{Settle}
use Rattle.namespace_ops.specs.Carried.{becomes}
use Rattle.namespace_ops.proofs.CanPlan.{Keeps, KeepsSound, two_all}

abbrev Seens : Type 0
Seens = List (Option SeenArea)

-- ---- changes of one UUID on modules with two slots free or its own

owned_few : (o : Option Label) → owned o ≤ 1
owned_few None = omega arith
owned_few (Some l) = omega arith

ready_by : (o : Option SeenArea) → 1 ≤ free_in (slots_of o) → IsSome o
ready_by None room = absurd (omega arith)
ready_by (Some a) room = refl

slot_by : (o : Option SeenArea) (label : Option Label) → 1 ≤ free_in (slots_of o) → HasSlot o label
slot_by o None room = tt
slot_by o (Some l) room = room

abbrev pub Fitting : List ℕ → (ℕ → Option Label) → Seens → List Change → Type 0
Fitting uuid lab areas cs = AllByRecursion (λ c. IsOf uuid c × HasRoom lab areas c.number) cs

still_fitting : (uuid : List ℕ) (lab : ℕ → Option Label) (areas : Seens) (c : Change) → Proper uuid lab areas → IsOf uuid c → HasRoom lab areas c.number → (cs : List Change) → Fitting uuid lab areas cs → Fitting uuid (moved lab c) (changed_areas areas c) cs
still_fitting uuid lab areas c proper of room [] all = tt
still_fitting uuid lab areas c proper of room (d ∷ ds) ((of_d, room_d), rest) = ((of_d, room_then uuid lab areas c proper of room d.number room_d), still_fitting uuid lab areas c proper of room ds rest)

pub can_fitting : (cs : List Change) (uuid : List ℕ) (lab : ℕ → Option Label) (areas : Seens) → Proper uuid lab areas → Fitting uuid lab areas cs → CanMake areas cs
can_fitting [] uuid lab areas proper all = tt
can_fitting (c ∷ cs) uuid lab areas proper ((of, room), rest) =
    let free : 1 ≤ free_in (slots_on areas c.number) = let h = room.room in omega (arith, h, owned_few (lab c.number)) in (
      ready_by (area_at areas c.number) free,
      slot_by (area_at areas c.number) c.label free,
      can_fitting cs uuid (moved lab c) (changed_areas areas c) (proper_then uuid lab areas c proper of room) (still_fitting uuid lab areas c proper of room cs rest),
    )

-- new labels, in rounds that keep their UUID
abbrev pub IsNewOn : List ℕ → Seens → ℕ × Label → Type 0
IsNewOn uuid areas p = (p.1.uuid ≡ uuid) × HasRoom (λ m. None) areas p.0

fitting_round : (uuid : List ℕ) (areas : Seens) (f : Label → Option Label) → Keeps f → (ps : List (ℕ × Label)) → AllByRecursion (IsNewOn uuid areas) ps → Fitting uuid (λ m. None) areas (map (change_to f) ps)
fitting_round uuid areas f keeps [] all = tt
fitting_round uuid areas f keeps (p ∷ ps) ((own, room), rest) = (
  (
    record {
      of_uuid = own;
      label_of_uuid = λ l is. let k = keeps p.1 in ap (λ (x : Label). x.uuid) (same l k.0 (sym is ∙ k.1)) ∙ k.2 ∙ own;
    },
    room,
  ),
  fitting_round uuid areas f keeps ps rest,
)
  where
    same : (l m : Label) → Some l ≡ Some m → l ≡ m
    same l m e = cc

pub can_create : (uuid : List ℕ) (areas : Seens) (f g : Label → Option Label) → Keeps f → Keeps g → (ps : List (ℕ × Label)) → Proper uuid (λ m. None) areas → AllByRecursion (IsNewOn uuid areas) ps
    → CanMake areas (in_two f g ps)
can_create uuid areas f g kf kg ps proper all =
    can_fitting (in_two f g ps) uuid (λ m. None) areas proper
    (two_all (λ c. IsOf uuid c × HasRoom (λ m. None) areas c.number) f g ps (fitting_round uuid areas f kf ps all) (fitting_round uuid areas g kg ps all))

sound_new_round : (f : Label → Option Label) → KeepsSound f → (ps : List (ℕ × Label)) → AllByRecursion (λ p. IsSound p.1) ps → AllByRecursion PutsSound (map (change_to f) ps)
sound_new_round f keeps [] all = tt
sound_new_round f keeps (p ∷ ps) (one, rest) = (λ m is. keeps p.1 m one is, sound_new_round f keeps ps rest)

pub sound_create : (f g : Label → Option Label) → KeepsSound f → KeepsSound g → (ps : List (ℕ × Label)) → AllByRecursion (λ p. IsSound p.1) ps → AllByRecursion PutsSound (in_two f g ps)
sound_create f g kf kg ps all = two_all PutsSound f g ps (sound_new_round f kf ps all) (sound_new_round g kg ps all)

-- ---- sizes

pow_some : (k : ℕ) → 0 < 2 ^ k
pow_some zero = omega arith
pow_some (suc k) = let h = pow_some k in omega (arith, h)

small_power : (d : ℕ) (k : ℕ) → k + d ≡ 12 → 2 ^ k ≤ 4096
small_power d k e =
    let split : 4096 ≡ 2 ^ k * 2 ^ d = ap (λ (j : ℕ). 2 ^ j) (sym e) ∙ pow-add 2 k d in
    by (2 ^ k) (2 ^ d) (pow_some d) split
  where
    by : (a b : ℕ) → 0 < b → 4096 ≡ a * b → a ≤ 4096
    by a zero some e = absurd (omega arith)
    by a (suc b) some e = grind (arith, e)

-- a whole number of the greater of 4,096 and a power of two is one of 4,096
pub whole_pages : (share k n : ℕ) → share ≡ 2 ^ k → n % max 4096 share ≡ 0 → n % 4096 ≡ 0
whole_pages share k n is e =
    elim (cases_lt k 12) [
      | inl few ↦
          let small : share ≤ 4096 = omega (arith, is, small_power (12 - k) k (omega arith)) in
          ap (λ (u : ℕ). n % u) (sym (max-eq_left small)) ∙ e
      | inr many ↦
          let sum : k ≡ (k - 12) + 12 = omega arith in
          let split : share ≡ 2 ^ (k - 12) * 4096 = is ∙ ap (λ (j : ℕ). 2 ^ j) sum ∙ pow-add 2 (k - 12) 12 in
          let some : 0 < 2 ^ (k - 12) = pow_some (k - 12) in
          let big : 4096 ≤ share = omega (arith, split, times (2 ^ (k - 12)) some) in
          let whole : n % share ≡ 0 = ap (λ (u : ℕ). n % u) (sym (max-eq_right big)) ∙ e in
          let back : n / share * share + n % share ≡ n = div-add-mod' n share in
          let is' : n ≡ n / share * 2 ^ (k - 12) * 4096 = omega (arith, back, whole) ∙ ap (λ (s : ℕ). n / share * s) split ∙ sym (mul_assoc (n / share) (2 ^ (k - 12)) 4096) in
          ap (λ (x : ℕ). x % 4096) is' ∙ mul-mod_left (n / share * 2 ^ (k - 12)) 4096
    ]
  where
    times : (a : ℕ) → 0 < a → 4096 ≤ a * 4096
    times a some = omega arith

pub good_sizes : (start offset raw : ℕ) → start % 4096 ≡ 0 → offset % 4096 ≡ 0 → raw % 4096 ≡ 0 → 0 < raw → start + offset + raw ≤ 2 ^ 63 → size_fault_of (start + offset) raw ≡ None
unfolding size_fault_of
good_sizes start offset raw s o r some end =
    let dpa : (start + offset) % 4096 ≡ 0 = omega (arith, s, o) in
    let a : ((start + offset) % 4096 == 0) ≡ true = eq-eqb ((start + offset) % 4096) 0 dpa in
    let b : (raw % 4096 == 0) ≡ true = eq-eqb (raw % 4096) 0 r in
    let c : (raw == 0) ≡ false = ne_eqb raw 0 (λ z. omega arith) in
    let d : nat_lt (2 ^ 63) (start + offset + raw) ≡ false = not_lt (2 ^ 63) (start + offset + raw) end in
    rw (a, b, c, d) refl
  where
    not_lt : (x y : ℕ) → y ≤ x → nat_lt x y ≡ false
    not_lt x y le = grind (arith, nat_tests)

-- ---- the second round

pub keeps_settle : Keeps (becomes Settle)
keeps_settle l = (_, refl, refl)

pub sound_settle : KeepsSound (becomes Settle)
sound_settle l n sound e = subst IsSound (some_same e) (record { no_zero = sound.no_zero; sizes = sound.sizes })
  where
    some_same : {x y : Label} → Some x ≡ Some y → x ≡ y
    some_same h = cc
