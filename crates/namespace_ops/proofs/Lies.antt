-- Where a sector namespace that nothing refuses lies.
use Rattle.std.proofs.Common.{◌≡◌, ℕ, zero, suc, ◌+◌, ◌*◌, ◌/◌, ◌%◌, ◌<◌, ◌≤◌, Bool, true, false, List, [], ◌∷◌, length, Some, None, refl, sym, ap, ◌∙◌, subst, arith}
use Rattle.std.specs.Prelude.{◌==◌, ◌||◌, ◌&&◌, not, slice_get, slice_index_or, is_some, is_none}
use Rattle.std.specs.List.{AllByRecursion}
use Rattle.std.proofs.Math.Nat.{div-add-mod, mul_assoc, mul_comm}
use Rattle.std.proofs.lemmas.Nat.{div-mul-add}
use Rattle.std.proofs.lemmas.Bool.{eqb-true, not-false, or_parts, leb-true}
use Rattle.std.proofs.lemmas.Option.{none-some}
use Rattle.nvd_words.specs.Checks.{fault_if}
use Rattle.nfit_reader.specs.declared.table.Mapping.{Mapping}
use Rattle.interleave.specs.Places.{unit_of}
use Rattle.interleave.specs.Sound.{span_of}
use Rattle.label_set.specs.Rules.{modules_of}
use Rattle.region_space.specs.Space.{is_clear}
use Rattle.namespace_areas.specs.declared.area.Area.{Area}
use Rattle.namespace_map.specs.Namespaces.{Namespaces, extents_of, lookup}
use Rattle.namespace_map.specs.declared.commands.CreateSpec.{CreateSpec}
use Rattle.namespace_map.specs.declared.commands.Make.{Make}
use Rattle.namespace_map.specs.declared.refused.OpRefused.TheVariants.{BadSize, Exists, NoRegion}
use Rattle.namespace_map.specs.Commands.{bad_name, has_no_plan, is_bad_size, set_of, share_of, unready_of}
use Rattle.namespace_laws.proofs.Sets.{no_fault}
use Rattle.namespace_laws.proofs.Allowed.{allowed, passed_if}
use Rattle.namespace_areas.specs.Finding.{set_at}
use Rattle.namespace_areas.specs.Refusals.{offset_for, shown}
use Rattle.sector_namespaces.specs.Creation.{CanLie, has_sectors}
use Rattle.namespace_ops.specs.Created.{refusal_for}

-- ---- sizes

-- a whole number of units for each module is all of it
all_shares : (size ways unit : ℕ) → 1 ≤ ways → size % (ways * unit) ≡ 0 → ways * (size / ways) ≡ size
all_shares size ways unit some e =
    let q : ℕ = size / (ways * unit) in
    let is : size ≡ unit * q * ways + 0 = sym (div-add-mod size (ways * unit)) ∙ ap (λ (r : ℕ). ways * unit * q + r) e ∙ ap (λ (x : ℕ). x + 0) (mul_assoc ways unit q ∙ mul_comm ways (unit * q)) in
    let share : size / ways ≡ unit * q = ap (λ (x : ℕ). x / ways) is ∙ div-mul-add (unit * q) ways 0 (omega arith) in
    ap (λ (x : ℕ). ways * x) share ∙ mul_comm ways (unit * q) ∙ omega (arith, is)

-- ---- places

there_at : (sets : List (List Mapping)) (k : ℕ) (set : List Mapping) → slice_get sets k ≡ Some set → (k < length sets) × (slice_index_or sets k [] ≡ set)
there_at [] k set e = absurd (none-some set e)
there_at (s ∷ sets) zero set e = (omega arith, (let h = e in cc))
there_at (s ∷ sets) (suc k) set e = let h = there_at sets k set e in (omega (arith, h.0), h.1)

left_true : (a b : Bool) → (a && b) ≡ true → a ≡ true
left_true true b e = refl
left_true false b e = e

end_inside : (set : List Mapping) (offset raw : ℕ) → 1 ≤ length set → AllByRecursion (λ m. offset + raw ≤ m.size) set → offset + raw ≤ span_of set
end_inside [] offset raw some all = absurd (omega arith)
end_inside (m ∷ ms) offset raw some (one, rest) = one

all_step : (P Q : Mapping → Type 0) → ((m : Mapping) → P m → Q m) → (xs : List Mapping) → AllByRecursion P xs → AllByRecursion Q xs
all_step P Q step [] all = tt
all_step P Q step (x ∷ xs) (one, rest) = (step x one, all_step P Q step xs rest)

module _ (sets : List (List Mapping)) (areas : List Area) (spec : CreateSpec) where
  abbrev ns : Namespaces
  ns = shown sets areas

  abbrev set : List Mapping
  set = set_of ns spec.region

  abbrev raw : ℕ
  raw = share_of set spec.size

  abbrev offset : ℕ
  offset = offset_for ns spec

  abbrev made : Make
  made = spec.make

  pub record IsGood : Type 0 where
    pub there : spec.region < length sets
    pub set_is : set_at sets spec.region ≡ set
    pub lies : CanLie set offset spec

  pub good_has : has_sectors spec.make ≡ true → refusal_for sets areas spec ≡ None → IsGood
  good_has sectors good =
      let has = allowed ns spec.uuid spec.name spec.region spec.size spec.make good in
      let r1 = (no_fault (bad_name spec.name) _ good).1 in
      let r2 = no_fault (fault_if (is_none (slice_get ns.sets spec.region)) (NoRegion spec.region)) _ r1 in
      let r3 = (no_fault (unready_of ns (modules_of set)) _ r2.1).1 in
      let r4 = no_fault (fault_if (is_some (lookup spec.uuid ns.entries)) Exists) _ r3 in
      let r5 = no_fault (fault_if (is_bad_size set spec.size made) (BadSize spec.size)) _ r4.1 in
      let sizes = or_parts ((spec.size == 0) || not (spec.size % (length set * unit_of set) == 0)) (has_no_plan made spec.size) (passed_if (is_bad_size set spec.size made) (BadSize spec.size) r5.0) in
      let parts = or_parts (spec.size == 0) (not (spec.size % (length set * unit_of set) == 0)) sizes.0 in
      let multiple : spec.size % (length set * unit_of set) ≡ 0 = eqb-true (spec.size % (length set * unit_of set)) 0 (not-false (spec.size % (length set * unit_of set) == 0) parts.1) in
      let there = there_at sets spec.region set has.there in
      record {
        there = there.0;
        set_is = there.1;
        lies = record {
          sectors = sectors;
          planned = sizes.1;
          shares = all_shares spec.size (length set) (unit_of set) has.some multiple;
          from = has.offset_whole;
          to = has.raw_whole;
          inside = end_inside set offset raw has.some
              (all_step (λ m. is_clear (extents_of ns.entries) raw offset m ≡ true) (λ m. offset + raw ≤ m.size) (λ m e. leb-true (offset + raw) m.size (left_true _ _ e)) set has.clear);
        };
      }

  -- as the code has them
  pub lies_by : (s : List Mapping) (o : ℕ) → s ≡ set → o ≡ offset → IsGood → CanLie s o spec
  lies_by s o a b good = subst (λ (s' : List Mapping). CanLie s' o spec) (sym a) (subst (λ (o' : ℕ). CanLie set o' spec) (sym b) good.lies)
