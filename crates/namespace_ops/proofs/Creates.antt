-- What a create that isn't refused asks of its label changes.
use Rattle.std.proofs.Common.{◌≡◌, ◌≢◌, ℕ, zero, suc, ◌+◌, ◌*◌, ◌/◌, ◌%◌, ◌<◌, ◌≤◌, ◌^◌, Bool, true, false, List, [], ◌∷◌, length, map, Option, Some, None, Ok, Err, refl, sym, ap, subst, ◌∙◌, arith}
use Rattle.std.specs.Prelude.{◌&&◌, nat_lt, slice_get}
use Rattle.std.specs.List.{AllByRecursion, enumerate_from}
use Rattle.std.proofs.lemmas.Bool.{leb-true}
use Rattle.std.proofs.lemmas.Option.{none-some}
use Rattle.nvd_words.specs.Checks.{first_fault, value_unless}
use Rattle.nfit_reader.specs.declared.table.Mapping.{Mapping}
use Rattle.nfit_reader.specs.declared.table.Region.{Region}
use Rattle.interleave.specs.Places.{unit_of}
use Rattle.interleave.specs.Sets.{set_reading}
use Rattle.interleave.specs.Sound.{line_of, lines_of}
use Rattle.interleave.proofs.Sorted.{Makes, makes_set}
use Rattle.label_codec.specs.declared.label.Label.{Label}
use Rattle.label_codec.specs.Name.{HasNoZero}
use Rattle.label_codec.specs.Writable.{IsSound}
use Rattle.region_space.specs.Space.{is_clear}
use Rattle.namespace_map.specs.Namespaces.{Namespaces, extents_of}
use Rattle.namespace_map.proofs.Entries as entries
use Rattle.namespace_map.specs.declared.commands.Make.{Make}
use Rattle.namespace_map.specs.declared.commands.CreateSpec.{CreateSpec}
use Rattle.namespace_map.specs.declared.commands.Named.{Named}
use Rattle.namespace_map.specs.declared.commands.Named.TheVariants as named
use Rattle.namespace_map.specs.declared.refused.OpRefused.{OpRefused}
use Rattle.namespace_map.specs.declared.refused.OpRefused.TheVariants.{BadName, OutOfMemory}
use Rattle.namespace_map.specs.Commands.{name_in, area_of, create_refusal, set_of, share_of}
use Rattle.namespace_map.specs.Changes.{in_two, new_label, placed_in_all}
use Rattle.namespace_map.proofs.Areas.{Proper}
use Rattle.namespace_map.specs.Areas.{Change}
use Rattle.namespace_map.specs.Left.{AreRegions}
use Rattle.namespace_laws.proofs.Sets.{all_of_contained}
use Rattle.namespace_laws.proofs.Allowed.{Allowed, allowed, free_there, proper_none}
use Rattle.namespace_laws.proofs.CreateLaw.{any_place, each_new}
use Rattle.namespace_areas.specs.declared.area.Area.{Area}
use Rattle.namespace_areas.specs.Seen.{areas_seen}
use Rattle.namespace_areas.specs.Went.{CanMake, PutsSound}
use Rattle.namespace_areas.specs.Refusals.{offset_for, shown}
use Rattle.namespace_ops.specs.declared.turns.Round.TheVariants.{Mark, Settle}
use Rattle.namespace_ops.specs.Carried.{IsGoodName, becomes}
use Rattle.namespace_ops.specs.Created.{IsNew, new_changes}
use Rattle.namespace_ops.specs.declared.creating.NewNamespace.{NewNamespace}
use Rattle.namespace_ops.proofs.CanPlan.{keeps_mark, sound_mark}
use Rattle.namespace_ops.proofs.CanCreate.{IsNewOn, can_create, good_sizes, keeps_settle, sound_create, sound_settle, whole_pages}

-- an offset is answered where nothing is refused
pub offset_told : (v offset : ℕ) (o : Option OpRefused) → (Ok offset ≢ Err OutOfMemory → Ok offset ≡ value_unless v o) → (o ≡ None) × (offset ≡ v)
offset_told v offset o told = by o (told (λ e. cc))
  where
    by : (p : Option OpRefused) → Ok offset ≡ value_unless v p → (p ≡ None) × (offset ≡ v)
    by None e = (refl, cc)
    by (Some f) e = absurd (cc)

inside : {X : Type 0} (xs : List X) (k : ℕ) (x : X) → slice_get xs k ≡ Some x → k < length xs
inside [] k x e = absurd (none-some x e)
inside (y ∷ ys) zero x e = omega arith
inside (y ∷ ys) (suc k) x e = let h = inside ys k x e in omega (arith, h)

left_true : (a b : Bool) → (a && b) ≡ true → a ≡ true
left_true true b e = refl
left_true false b e = e

all_both : (P Q : Mapping → Type 0) (xs : List Mapping) → AllByRecursion P xs → AllByRecursion Q xs → AllByRecursion (λ m. P m × Q m) xs
all_both P Q [] ps qs = tt
all_both P Q (x ∷ xs) (p, ps) (q, qs) = ((p, q), all_both P Q xs ps qs)

all_step : (P Q : Mapping → Type 0) → ((m : Mapping) → P m → Q m) → (xs : List Mapping) → AllByRecursion P xs → AllByRecursion Q xs
all_step P Q step [] all = tt
all_step P Q step (x ∷ xs) (one, rest) = (step x one, all_step P Q step xs rest)

-- where a mapping's bytes lie
abbrev IsPlain : Mapping → Type 0
IsPlain m = (m.start % 4096 ≡ 0) × (m.start + m.size ≤ 2 ^ 63)

module _ (sets : List (List Mapping)) (areas : List Area) (spec : CreateSpec) (regions : AreRegions sets) (good : create_refusal (shown sets areas) spec ≡ None) where
  abbrev uuid : List ℕ
  uuid = spec.uuid

  abbrev region : ℕ
  region = spec.region

  abbrev size : ℕ
  size = spec.size

  abbrev made : Make
  made = spec.make

  abbrev ns : Namespaces
  ns = shown sets areas

  abbrev pub set : List Mapping
  set = set_of ns region

  abbrev pub raw : ℕ
  raw = share_of set size

  abbrev pub offset : ℕ
  offset = offset_for ns spec

  has : Allowed ns uuid spec.name region size made
  has = allowed ns uuid spec.name region size made good

  pub region_there : region < length sets
  region_there = inside sets region set has.there

  made_set : (r : Region) × (0 < length r.mappings) × (set_reading r ≡ Ok set)
  made_set = regions.read region set has.there

  makes : Makes made_set.0 set
  makes = makes_set made_set.0 set made_set.2 made_set.1

  plain : AllByRecursion IsPlain set
  plain = all_of_contained IsPlain set (λ m c. let s = makes.sound.shares m c in (s.start, s.end))

  clear : AllByRecursion (λ m. offset + raw ≤ m.size) set
  clear = all_step (λ m. is_clear (extents_of ns.entries) raw offset m ≡ true) (λ m. offset + raw ≤ m.size) (λ m e. leb-true (offset + raw) m.size (left_true _ _ e)) set has.clear

  pages : (n : ℕ) → n % unit_of set ≡ 0 → n % 4096 ≡ 0
  pages n e = by set n makes.some e (makes.sound.power)
    where
      by : (s : List Mapping) (n : ℕ) → 0 < length s → n % unit_of s ≡ 0 → (k : ℕ) × (lines_of s * line_of s ≡ 2 ^ k) → n % 4096 ≡ 0
      by [] n some e p = absurd (omega arith)
      by (m ∷ ms) n some e (k, is) = whole_pages (lines_of (m ∷ ms) * line_of (m ∷ ms)) k n is e

  pub starts_fit : AllByRecursion (λ m. m.start + offset < 2 ^ 64) set
  starts_fit = all_step (λ m. IsPlain m × (offset + raw ≤ m.size)) (λ m. m.start + offset < 2 ^ 64) (λ m h. omega (arith, h.0.1, h.1)) set (all_both IsPlain (λ m. offset + raw ≤ m.size) set plain clear)

  abbrev label_for : List ℕ → ℕ × Mapping → ℕ × Label
  label_for n = new_label uuid n made set offset raw

  proper : Proper uuid (λ m. None) (areas_seen areas)
  proper = proper_none uuid (areas_seen areas) (entries.entry_there sets (placed_in_all (areas_seen areas)) uuid (sym (entries.lookup_entries sets (placed_in_all (areas_seen areas)) uuid) ∙ has.absent))

  pub new_can : (n : List ℕ) → CanMake (areas_seen areas) (in_two (becomes Mark) (becomes Settle) (map (label_for n) (enumerate_from 0 set)))
  new_can n =
      can_create uuid (areas_seen areas) (becomes Mark) (becomes Settle) keeps_mark keeps_settle (map (label_for n) (enumerate_from 0 set)) proper
      (each_new (IsNewOn uuid (areas_seen areas)) (label_for n) set 0 (λ m. nat_lt (area_of ns m.«module»).free 2 ≡ false) (λ e. Unit {0})
      (λ e free t. let both = free_there sets (areas_seen areas) e.1.«module» 2 (omega arith) free in (refl, record { there = both.0; room = omega (arith, both.1) }))
      has.slots (any_place set 0))

  pub new_sound : (n : List ℕ) → HasNoZero n → AllByRecursion PutsSound (in_two (becomes Mark) (becomes Settle) (map (label_for n) (enumerate_from 0 set)))
  new_sound n no_zero =
      sound_create (becomes Mark) (becomes Settle) sound_mark sound_settle (map (label_for n) (enumerate_from 0 set))
      (each_new (λ p. IsSound p.1) (label_for n) set 0 (λ m. IsPlain m × (offset + raw ≤ m.size)) (λ e. Unit {0})
      (λ e h t. record { no_zero = no_zero; sizes = good_sizes e.1.start offset raw h.0.0 (pages offset has.offset_whole) (pages raw has.raw_whole) has.raw_some (omega (arith, h.0.1, h.1)) })
      (all_both IsPlain (λ m. offset + raw ≤ m.size) set plain clear) (any_place set 0))

  -- the same, by what the code has
  pub changes_are : (s : List Mapping) (n : List ℕ) (o r : ℕ) → s ≡ set → o ≡ offset → r ≡ length set
      → new_changes s (record { uuid = uuid; name = n; make = made; offset = o; raw = size / r }) ≡ in_two (becomes Mark) (becomes Settle) (map (label_for n) (enumerate_from 0 set))
  changes_are s n o r a b c = rw (a, b, c) refl

-- a text that makes no name is refused
pub create_not_named : (sets : List (List Mapping)) (areas : List Area) (spec : CreateSpec) (bytes : ℕ) → spec.name ≡ named.Refused bytes
    → create_refusal (shown sets areas) spec ≡ None → ⊥
unfolding first_fault
create_not_named sets areas spec bytes is none = none-some (BadName bytes) (sym none ∙ ap (λ (n : Named). create_refusal (shown sets areas) (record spec { name = n })) is)

-- ---- what was planned

module _ (sets : List (List Mapping)) (areas : List Area) (spec : CreateSpec) (regions : AreRegions sets) (new : NewNamespace) (is : IsNew sets areas spec new) where
  pub planned_can : CanMake (areas_seen areas) new.changes.items
  planned_can = subst (λ (cs : List Change). CanMake (areas_seen areas) cs) (sym is.changes) (new_can sets areas spec regions is.allowed (name_in spec.name))

  no_zero : IsGoodName spec.name → (n : Named) → spec.name ≡ n → HasNoZero (name_in n)
  no_zero good (named.Good n) at = good n at
  no_zero good (named.Refused bytes) at = absurd (create_not_named sets areas spec bytes at is.allowed)

  pub planned_sound : IsGoodName spec.name → AllByRecursion PutsSound new.changes.items
  planned_sound good = subst (λ (cs : List Change). AllByRecursion PutsSound cs) (sym is.changes) (new_sound sets areas spec regions is.allowed (name_in spec.name) (no_zero good spec.name refl))

-- on equal sets and areas
pub planned_as : (sets sets' : List (List Mapping)) (areas areas' : List Area) (spec : CreateSpec) (new : NewNamespace) → sets ≡ sets' → areas ≡ areas' → IsNew sets' areas' spec new → IsNew sets areas spec new
planned_as sets sets' areas areas' spec new a b is =
    subst (λ (s : List (List Mapping)). IsNew s areas spec new) (sym a) (subst (λ (x : List Area). IsNew sets' x spec new) (sym b) is)
