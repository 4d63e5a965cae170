-- Modules' areas, and the least of several modules.
use Rattle.std.proofs.Common.{◌≡◌, ℕ, zero, suc, ◌+◌, ◌<◌, ◌≤◌, Bool, true, false, cond, List, [], ◌∷◌, length, drop, get_or, Option, Some, None, refl, sym, ap, ◌∙◌, subst, arith}
use Rattle.std.specs.Prelude.{slice_get, unwrap_or}
use Rattle.std.specs.Option.{option_map}
use Rattle.std.proofs.lemmas.Option.{slice_get-map, slice_get-get_or}
use Rattle.label_set.specs.Rules.{lesser}
use Rattle.label_set.proofs.Lesser.{IsLeastOf, least_passes, least_fails}
use Rattle.namespace_areas.specs.declared.area.Area.{Area}
use Rattle.namespace_map.specs.Namespaces.{AreaSummary}
use Rattle.namespace_map.specs.Commands.{no_area}
use Rattle.namespace_map.specs.Changes.{area_summary}
use Rattle.namespace_areas.specs.Seen.{area_seen, areas_seen}
use Rattle.namespace_areas.specs.Refusals.{area_summary_at}

abbrev state_by : Option Area → AreaSummary
state_by None = no_area
state_by (Some area) = area_summary (area_seen area)

state_is : (areas : List Area) (n : ℕ) → area_summary_at areas n ≡ state_by (slice_get areas n)
state_is areas n = ap (λ (o : Option AreaSummary). unwrap_or o no_area) (slice_get-map area_summary (areas_seen areas) n ∙ ap (option_map area_summary) (slice_get-map area_seen areas n)) ∙ by (slice_get areas n)
  where
    by : (o : Option Area) → unwrap_or (option_map area_summary (option_map area_seen o)) no_area ≡ state_by o
    by None = refl
    by (Some a) = refl

state_here : (areas : List Area) (n : ℕ) (area : Area) → slice_get areas n ≡ Some area → area_summary_at areas n ≡ area_summary (area_seen area)
state_here areas n area is = state_is areas n ∙ ap state_by is

state_none : (areas : List Area) (n : ℕ) → slice_get areas n ≡ None → area_summary_at areas n ≡ no_area
state_none areas n is = state_is areas n ∙ ap state_by is

pub state_inside : (areas : List Area) (n : ℕ) (d : Area) → n < length areas → area_summary_at areas n ≡ area_summary (area_seen (get_or areas n d))
state_inside areas n d lt = state_here areas n (get_or areas n d) (slice_get-get_or areas n d lt)

pub none_there : {X : Type 0} (xs : List X) (n : ℕ) → length xs ≤ n → slice_get xs n ≡ None
none_there [] n le = refl
none_there (x ∷ xs) zero le = absurd (omega arith)
none_there (x ∷ xs) (suc n) le = none_there xs n (omega arith)

pub state_outside : (areas : List Area) (n : ℕ) → length areas ≤ n → area_summary_at areas n ≡ no_area
state_outside areas n le = state_none areas n (none_there areas n le)

-- one module more
pub least_more : (test : ℕ → Bool) (xs all : List ℕ) (i x : ℕ) (least least' : Option ℕ) (passes : Bool) → i < length xs → x ≡ get_or xs i x → passes ≡ test x
    → least' ≡ lesser (λ n. n) least (cond passes (Some x) None)
    → IsLeastOf (λ n. n) test least (drop i xs) all → IsLeastOf (λ n. n) test least' (drop (i + 1) xs) all
least_more test xs all i x least least' true lt is passes new was =
    subst (λ (o : Option ℕ). IsLeastOf (λ n. n) test o (drop (i + 1) xs) all) (sym new) (least_passes (λ n. n) test xs all i x least lt is (sym passes) was)
least_more test xs all i x least least' false lt is passes new was =
    subst (λ (o : Option ℕ). IsLeastOf (λ n. n) test o (drop (i + 1) xs) all) (sym (new ∙ none least)) (least_fails (λ n. n) test xs all i x least lt is (sym passes) was)
  where
    none : (o : Option ℕ) → lesser (λ (n : ℕ). n) o None ≡ o
    none None = refl
    none (Some n) = refl
