-- A complete status that isn't pending means that all names agree, and that no label has UPDATING.
use Rattle.std.proofs.Common.{◌≡◌, ℕ, true, false, List, [], Option, Some, None, refl, sym, ap, ◌∙◌}
use Rattle.std.specs.Prelude.{filter, map, unwrap_or}
use Rattle.std.specs.List.{list_any}
use Rattle.nfit_reader.specs.declared.table.Mapping.{Mapping}
use Rattle.label_set.specs.declared.placed.Placed.{Placed}
use Rattle.label_set.specs.declared.placed.Field.TheVariants.{Names}
use Rattle.label_set.specs.declared.placed.Why.TheVariants.{Differs}
use Rattle.label_set.specs.declared.placed.SetStatus.{SetStatus}
use Rattle.label_set.specs.declared.placed.SetStatus.TheVariants.{Complete, Incomplete}
use Rattle.label_set.specs.Rules.{is_updating, is_marked, agreed_name, least_missing, module_of}
use Rattle.label_set.specs.Status.{half_named, named_by, naming_of, missing_finding}
use Rattle.namespace_map.specs.Areas.{Area}
use Rattle.namespace_laws.proofs.Whole.{own_of, all_from_none}
use Rattle.namespace_laws.proofs.Sound.{IsWhole}
use Rattle.namespace_laws.proofs.Table.{Model, own_status}
use Rattle.namespace_laws.proofs.Delete.{Stands}
use Rattle.namespace_laws.proofs.Shaped.{complete_misses, filter_none, changing}

half_pending : (a b : Option (List ℕ)) (name : List ℕ) → half_named a b ≡ Complete name false → ⊥
half_pending (Some old) (Some new) name e = let g : Complete old true ≡ Complete name false = e in cc
half_pending (Some old) None name e = let g : Incomplete (Differs Names) ≡ Complete name false = e in cc
half_pending None b name e = let g : Incomplete (Differs Names) ≡ Complete name false = e in cc

-- all have the name, and none changes
pub record Quiet (own : List Placed) (name : List ℕ) : Type 0 where
  pub agreed : agreed_name own ≡ Some name
  pub quiet : list_any is_updating own ≡ false

pub naming_quiet : (own : List Placed) (name : List ℕ) → naming_of own ≡ Complete name false → Quiet own name
naming_quiet own name e = by (agreed_name own) refl e
  where
    by : (o : Option (List ℕ)) → agreed_name own ≡ o → named_by own o ≡ Complete name false → Quiet own name
    by None is f = absurd (half_pending (agreed_name (filter (is_marked false) own)) (agreed_name (filter (is_marked true) own)) name f)
    by (Some n) is f =
        let g : Complete n (list_any is_updating own) ≡ Complete name false = f in
        record { agreed = is ∙ (let h : n ≡ name = cc in ap Some h); quiet = cc }

module _ (set : List Mapping) (uuid : List ℕ) (c : Model) (whole : IsWhole set c.shared) (name : List ℕ) (left : List (Option Area)) (s : Stands uuid set c (Complete name false) left) where
  pub stands_quiet : Quiet (own_of uuid left) name
  stands_quiet = naming_quiet (own_of uuid left) name (named (missing_finding set (own_of uuid left)) none)
    where
      is : unwrap_or (missing_finding set (own_of uuid left)) (naming_of (own_of uuid left)) ≡ Complete name false
      is = sym (own_status uuid set c whole s.lab left s.proper s.sound) ∙ s.has_status

      none : missing_finding set (own_of uuid left) ≡ None
      none = rw (complete_misses set (own_of uuid left) (least_missing (own_of uuid left) set) name false refl is) refl

      named : (o : Option SetStatus) → missing_finding set (own_of uuid left) ≡ None → naming_of (own_of uuid left) ≡ Complete name false
      named o e = sym (ap (λ (o : Option SetStatus). unwrap_or o (naming_of (own_of uuid left))) e) ∙ is

  pub none_changing : changing (own_of uuid left) ≡ []
  none_changing = ap (map module_of) (filter_none is_updating (own_of uuid left) (all_from_none is_updating (own_of uuid left) stands_quiet.quiet))
