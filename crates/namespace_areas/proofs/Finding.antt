-- A sector namespace by its first label.
use Rattle.std.proofs.Common.{◌≡◌, ℕ, suc, ◌+◌, ◌-◌, ◌%◌, ◌<◌, ◌≤◌, Bool, true, false, List, [], ◌∷◌, length, get_or, Option, Some, Ok, refl, sym, ap, ◌∙◌, subst, arith}
use Rattle.std.specs.Prelude.{find, slice_get, if◌then◌else◌}
use Rattle.std.specs.Option.{option_map}
use Rattle.std.specs.List.{enumerate_from}
use Rattle.nfit_reader.specs.declared.table.Mapping.{Mapping}
use Rattle.interleave.specs.Places.{unit_of}
use Rattle.interleave.specs.Sound.{span_of}
use Rattle.label_codec.specs.declared.mode.Mode.{Mode}
use Rattle.label_codec.specs.declared.mode.Mode.TheVariants as mode
use Rattle.label_codec.specs.Mode.{mode_of}
use Rattle.label_set.specs.declared.placed.Placed.{Placed}
use Rattle.label_set.specs.Rules.{relative_of}
use Rattle.label_set.specs.Status.{status_of}
use Rattle.namespace_map.specs.Namespaces.{region_of, holds_label, entry_with}
use Rattle.namespace_map.specs.Commands.{is_complete, is_sector}
use Rattle.namespace_areas.specs.Finding.{set_at, found_of, LiesInSet}
use Rattle.namespace_areas.proofs.Complete.{IsPlaced, placed}

-- ---- the set of a region that is found

pub record IsRegion (sets : List (List Mapping)) (from number : ℕ) (set : List Mapping) : Type 0 where
  pub low : from ≤ number
  pub high : number < from + length sets
  pub is : get_or sets (number - from) [] ≡ set

here_or_later : (sets : List (List Mapping)) (from number : ℕ) (s set : List Mapping) (later : Option (ℕ × List Mapping)) (b : Bool)
    → (later ≡ Some (number, set) → IsRegion sets (from + 1) number set) → (if b then Some (from, s) else later) ≡ Some (number, set) → IsRegion (s ∷ sets) from number set
here_or_later sets from number s set later true behind e =
    let same : ◌≡◌ {A = ℕ × List Mapping} (from, s) (number, set) = cc in
    let n : from ≡ number = ap (λ (r : ℕ × List Mapping). r.0) same in
    record {
      low = omega (arith, n);
      high = omega (arith, n);
      is = ap (λ (k : ℕ). get_or (s ∷ sets) k []) (let z : number - from ≡ 0 = omega (arith, n) in z) ∙ ap (λ (r : ℕ × List Mapping). r.1) same;
    }
here_or_later sets from number s set later false behind e =
    let r : IsRegion sets (from + 1) number set = behind e in
    record {
      low = omega (arith, r.low);
      high = omega (arith, r.high);
      is = ap (λ (k : ℕ). get_or (s ∷ sets) k []) (let z : number - from ≡ suc (number - (from + 1)) = omega (arith, r.low) in z) ∙ r.is;
    }

region_from : (test : ℕ × List Mapping → Bool) (sets : List (List Mapping)) (from number : ℕ) (set : List Mapping)
    → find test (enumerate_from from sets) ≡ Some (number, set) → IsRegion sets from number set
region_from test [] from number set e = absurd (let f = e in cc)
region_from test (s ∷ sets) from number set e =
    here_or_later sets from number s set (find test (enumerate_from (from + 1) sets)) (test (from, s)) (region_from test sets (from + 1) number set) e

pub region_is : (sets : List (List Mapping)) (p : Placed) (number : ℕ) (set : List Mapping) → region_of sets p ≡ Some (number, set) → IsRegion sets 0 number set
region_is sets p number set e = region_from (λ r. holds_label p r.1) sets 0 number set e

-- ---- what is found

module _ (sets : List (List Mapping)) (first : Placed) (rest : List Placed) (number : ℕ) (set : List Mapping)
    (here : region_of sets first ≡ Some (number, set)) (complete : is_complete (status_of set (first ∷ rest)) ≡ true) where
  r : IsRegion sets 0 number set
  r = region_is sets first number set here

  set_is : set_at sets number ≡ set
  set_is = ap (λ (k : ℕ). get_or sets k []) (let z : number ≡ number - 0 = omega arith in z) ∙ r.is

  pub is_found : is_sector (mode_of first.label.kind first.label.abstraction) ≡ true
      → found_of sets (Some (entry_with sets (first ∷ rest) first))
      ≡ Ok (record { region = number; offset = relative_of set first; raw = first.label.raw; mode = mode_of first.label.kind first.label.abstraction })
  is_found sector =
      rw (here, complete, sector) (ap (λ (s : List Mapping). Ok (record { region = number; offset = relative_of s first; raw = first.label.raw; mode = mode_of first.label.kind first.label.abstraction })) set_is)

  pub lies_in : (mode : Mode) → LiesInSet sets (record { region = number; offset = relative_of set first; raw = first.label.raw; mode = mode })
  lies_in mode =
      let p : IsPlaced set first = placed set first rest complete in
      record {
        region = omega (arith, r.high);
        from = subst (λ (s : List Mapping). relative_of set first % unit_of s ≡ 0) (sym set_is) p.from;
        to = subst (λ (s : List Mapping). first.label.raw % unit_of s ≡ 0) (sym set_is) p.to;
        inside = subst (λ (s : List Mapping). relative_of set first + first.label.raw ≤ span_of s) (sym set_is) p.inside;
      }

-- by all labels
module _ (sets : List (List Mapping)) (number : ℕ) (set : List Mapping) where
  pub found_with : (labels : List Placed) (first : Placed) → Some first ≡ slice_get labels 0 → Some (number, set) ≡ region_of sets first
      → true ≡ is_complete (status_of set labels) → true ≡ is_sector (mode_of first.label.kind first.label.abstraction)
      → Ok (record { region = number; offset = relative_of set first; raw = first.label.raw; mode = mode_of first.label.kind first.label.abstraction })
      ≡ found_of sets (option_map (entry_with sets labels) (slice_get labels 0))
  found_with [] first is here complete sector = absurd (let e = is in cc)
  found_with (p ∷ rest) first is here complete sector =
      let same : first ≡ p = cc in
      (λ i. Ok (record { region = number; offset = relative_of set (same i); raw = (same i).label.raw; mode = mode_of (same i).label.kind (same i).label.abstraction }))
      ∙ sym (is_found sets p rest number set (sym (here ∙ ap (region_of sets) same)) (sym complete) (sym (sector ∙ ap (λ (q : Placed). is_sector (mode_of q.label.kind q.label.abstraction)) same)))

  pub lies_with : (labels : List Placed) (first : Placed) → Some first ≡ slice_get labels 0 → Some (number, set) ≡ region_of sets first
      → true ≡ is_complete (status_of set labels) → (mode : Mode)
      → LiesInSet sets (record { region = number; offset = relative_of set first; raw = first.label.raw; mode = mode })
  lies_with [] first is here complete mode = absurd (let e = is in cc)
  lies_with (p ∷ rest) first is here complete mode =
      let same : first ≡ p = cc in
      subst (λ (q : Placed). LiesInSet sets (record { region = number; offset = relative_of set q; raw = q.label.raw; mode = mode })) (sym same)
      (lies_in sets p rest number set (sym (here ∙ ap (region_of sets) same)) (sym complete) mode)

pub sector_is : (m : Mode) → true ≡ is_sector m → m ≡ mode.Sector
sector_is mode.Raw e = cc
sector_is mode.Sector e = refl
sector_is mode.Sector1 e = cc
sector_is (mode.Other u) e = cc
