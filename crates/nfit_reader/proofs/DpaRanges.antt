-- Regions by index, and DPA ranges that meet.
use Rattle.std.proofs.Common.{◌≡◌, ℕ, ◌+◌, ◌<◌, ◌≤◌, eqb, List, [], ◌∷◌, map, drop, length, get_or, cond, Some, None, refl, sym, ap, ◌∙◌}
use Rattle.std.specs.Option.{option_map, unwrap_or}
use Rattle.std.specs.List.{position_from, find}
use Rattle.std.proofs.lemmas.List.{at_drop_more, at_drop_all}
use Rattle.nfit_reader.specs.declared.table.Region.{Region}
use Rattle.nfit_reader.specs.declared.alias.DpaRange.{DpaRange}
use Rattle.nfit_reader.specs.declared.table.NfitFault.TheVariants as fault
use Rattle.nfit_reader.specs.Table.{is_alias, alias_in}

pub position_from-index : (index i : ℕ) (regions : List Region) → position_from (λ y. eqb y index) i (map (λ r. r.index) regions) ≡ position_from (λ r. eqb r.index index) i regions
position_from-index index i [] = refl
position_from-index index i (r ∷ regions) = ap (λ o. cond (eqb r.index index) (Some i) o) (position_from-index index (i + 1) regions)

-- ---- the first alias, from DPA range to DPA range

pub alias_at : (dpa_ranges : List DpaRange) (i : ℕ) (d : DpaRange) → i < length dpa_ranges
    → alias_in (drop i dpa_ranges) ≡ unwrap_or (option_map (λ b. Some (fault.Alias (get_or dpa_ranges i d).«module» (get_or dpa_ranges i d).region b.region)) (find (is_alias (get_or dpa_ranges i d)) (drop (i + 1) dpa_ranges))) (alias_in (drop (i + 1) dpa_ranges))
unfolding alias_in
alias_at dpa_ranges i d h = at_drop_more alias_in dpa_ranges i d h

pub alias_here : (dpa_ranges : List DpaRange) (i : ℕ) (d b : DpaRange) → i < length dpa_ranges → Some b ≡ find (is_alias (get_or dpa_ranges i d)) (drop (i + 1) dpa_ranges)
    → Some (fault.Alias (get_or dpa_ranges i d).«module» (get_or dpa_ranges i d).region b.region) ≡ alias_in (drop i dpa_ranges)
alias_here dpa_ranges i d b h e =
    sym (alias_at dpa_ranges i d h
    ∙ ap (λ o. unwrap_or (option_map (λ b. Some (fault.Alias (get_or dpa_ranges i d).«module» (get_or dpa_ranges i d).region b.region)) o) (alias_in (drop (i + 1) dpa_ranges))) (sym e))

pub alias_more : (dpa_ranges : List DpaRange) (i : ℕ) (d : DpaRange) → i < length dpa_ranges → None ≡ find (is_alias (get_or dpa_ranges i d)) (drop (i + 1) dpa_ranges)
    → alias_in (drop (i + 1) dpa_ranges) ≡ alias_in (drop i dpa_ranges)
alias_more dpa_ranges i d h e =
    sym (alias_at dpa_ranges i d h
    ∙ ap (λ o. unwrap_or (option_map (λ b. Some (fault.Alias (get_or dpa_ranges i d).«module» (get_or dpa_ranges i d).region b.region)) o) (alias_in (drop (i + 1) dpa_ranges))) (sym e))

pub alias_end : (dpa_ranges : List DpaRange) (i : ℕ) → length dpa_ranges ≤ i → None ≡ alias_in (drop i dpa_ranges)
unfolding alias_in
alias_end dpa_ranges i h = sym (at_drop_all alias_in dpa_ranges i h)
