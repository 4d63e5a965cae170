-- What the status of labels that can be rescued says of the first of them.
use Rattle.std.proofs.Common.{◌≡◌, ℕ, ◌+◌, ◌%◌, ◌≤◌, ltb, eqb, Bool, true, false, List, [], ◌∷◌, ◌++◌, Option, Some, None, refl, sym, ◌∙◌, arith}
use Rattle.std.specs.Prelude.{⊤, unwrap_or, not, ◌==◌}
use Rattle.std.specs.List.{AllByRecursion}
use Rattle.std.specs.Option.{option_map}
use Rattle.std.proofs.lemmas.Bool.{ltb-false, eqb-true, not-false, or_parts}
use Rattle.nvd_words.specs.Checks.{first_fault, fault_if}
use Rattle.nfit_reader.specs.declared.table.Mapping.{Mapping}
use Rattle.interleave.specs.Places.{unit_of}
use Rattle.interleave.specs.Sound.{span_of}
use Rattle.label_set.specs.declared.placed.Placed.{Placed}
use Rattle.label_set.specs.declared.placed.Field.TheVariants as field
use Rattle.label_set.specs.declared.placed.SetStatus.{SetStatus}
use Rattle.label_set.specs.declared.placed.SetStatus.TheVariants.{Local}
use Rattle.label_set.specs.declared.rules.Rule.{Rule}
use Rattle.label_set.specs.declared.rules.Rule.TheVariants as rule
use Rattle.label_set.specs.Rules.{least_where, module_of, mapping_of, counted_from, relative_of, leaves, is_outside, is_unaligned, breaks_of}
use Rattle.label_set.specs.Status.{local_finding, twice_finding, broken_finding, differing_finding, missing_finding, naming_of, status_of}
use Rattle.label_set.proofs.Twice.{least_none}
use Rattle.namespace_areas.proofs.Complete.{IsPlaced}
use Rattle.label_rescue.specs.Rescue.{is_rescuable}

-- ---- of all findings only a missing label lets labels be rescued

abbrev Bars : Option SetStatus → Type 0
Bars None = ⊤
Bars (Some status) = is_rescuable status ≡ false

bars_if : (b : Bool) (status : SetStatus) → is_rescuable status ≡ false → Bars (fault_if b status)
bars_if true status e = e
bars_if false status e = tt

bars_map : {X : Type 0} (f : X → SetStatus) (o : Option X) → ((x : X) → is_rescuable (f x) ≡ false) → Bars (option_map f o)
bars_map f None e = tt
bars_map f (Some x) e = e x

abbrev pub Nothing : Option SetStatus → Type 0
Nothing o = o ≡ None

-- labels that can be rescued have none of them
pub record Passes (fs rest : List (Option SetStatus)) : Type 0 where
  pub all : AllByRecursion Nothing fs
  pub behind : first_fault (fs ++ rest) ≡ first_fault rest

passes : (naming : SetStatus) (fs rest : List (Option SetStatus)) → AllByRecursion Bars fs → is_rescuable (unwrap_or (first_fault (fs ++ rest)) naming) ≡ true → Passes fs rest
unfolding first_fault
passes naming [] rest all e = record { all = tt; behind = refl }
passes naming (None ∷ fs) rest (one, all) e =
    let p = passes naming fs rest all e in
    record { all = (refl, p.all); behind = p.behind }
passes naming (Some status ∷ fs) rest (one, all) e = absurd (let f = sym one ∙ e in cc)

-- the findings before that of missing labels
abbrev pub earlier : List Mapping → List Placed → List (Option SetStatus)
earlier set labels =
    local_finding labels
    ∷ twice_finding labels
    ∷ broken_finding rule.Inside set labels
    ∷ broken_finding rule.Cookie set labels
    ∷ differing_finding field.Count set labels
    ∷ broken_finding rule.Position set labels
    ∷ differing_finding field.Dpa set labels
    ∷ differing_finding field.RawSize set labels
    ∷ differing_finding field.LbaSize set labels
    ∷ differing_finding field.Guids set labels
    ∷ broken_finding rule.Aligned set labels
    ∷ []

pub unbroken : (set : List Mapping) (labels : List Placed) → is_rescuable (status_of set labels) ≡ true → Passes (earlier set labels) (missing_finding set labels ∷ [])
unfolding status_of
unbroken set labels e =
    passes (naming_of labels) (earlier set labels) (missing_finding set labels ∷ []) (
      bars_if _ Local refl,
      (
        bars_map _ _ (λ n. refl),
        (
          bars_map _ _ (λ q. refl),
          (bars_map _ _ (λ q. refl), (bars_if _ _ refl, (bars_map _ _ (λ q. refl), (bars_if _ _ refl, (bars_if _ _ refl, (bars_if _ _ refl, (bars_if _ _ refl, (bars_map _ _ (λ q. refl), tt)))))))),
        ),
      ),
    ) e

-- ---- the first label

pub mapped_none : {X Y : Type 0} (f : X → Y) (o : Option X) → option_map f o ≡ None → o ≡ None
mapped_none f None e = refl
mapped_none f (Some x) e = absurd (let g = e in cc)

breaks_none : (r : Rule) (set : List Mapping) (p : Placed) (labels : List Placed) → broken_finding r set (p ∷ labels) ≡ None → breaks_of r set p ≡ false
breaks_none r set p labels e = (least_none module_of (breaks_of r set) (p ∷ labels) (mapped_none _ (least_where module_of (breaks_of r set) (p ∷ labels)) e)).0

inside_by : (o : Option Mapping) (span : ℕ) (p : Placed) → leaves span o p ≡ false → counted_from o p.label.dpa + p.label.raw ≤ span
inside_by None span p e = absurd (let f = e in cc)
inside_by (Some m) span p e =
    let parts = or_parts (ltb p.label.dpa m.start) (ltb (m.start + span) (p.label.dpa + p.label.raw)) e in
    omega (arith, ltb-false p.label.dpa m.start parts.0, ltb-false (m.start + span) (p.label.dpa + p.label.raw) parts.1)

pub placed : (set : List Mapping) (p : Placed) (labels : List Placed) → is_rescuable (status_of set (p ∷ labels)) ≡ true → IsPlaced set p
placed set p labels e =
    let all = (unbroken set (p ∷ labels) e).all in
    let out : is_outside set p ≡ false = breaks_none rule.Inside set p labels all.1.1.0 in
    let odd : is_unaligned set p ≡ false = breaks_none rule.Aligned set p labels all.1.1.1.1.1.1.1.1.1.1.0 in
    let parts = or_parts (not (relative_of set p % unit_of set == 0)) (not (p.label.raw % unit_of set == 0)) odd in
    record {
      from = eqb-true (relative_of set p % unit_of set) 0 (not-false (eqb (relative_of set p % unit_of set) 0) parts.0);
      to = eqb-true (p.label.raw % unit_of set) 0 (not-false (eqb (p.label.raw % unit_of set) 0) parts.1);
      inside = inside_by (mapping_of set p.«module») (span_of set) p out;
    }
