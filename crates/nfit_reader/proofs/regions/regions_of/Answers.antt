use Rattle.std.proofs.Common.{◌≡◌, ℕ, ◌≤◌, ◌+◌, false, List, ◌++◌, Option, Some, None, length, length-append, eqb, get_or, take, sym, ap, ◌∙◌, arith}
use Rattle.std.specs.Option.{option_to_list}
use Rattle.std.specs.List.{filter_map, filter}
use Rattle.std.proofs.lemmas.List.{take_all}
use Rattle.nfit_reader.specs.declared.structures.Range.{Range}
use Rattle.nfit_reader.specs.Names.{region_where}
use Rattle.nfit_reader.specs.Table.{regions_of, links_into}
use Rattle.nfit_reader.proofs.Groups.{filter_map_more, filter_map-region_where}
use Rattle.nfit_reader.proofs.regions.regions_of.Goals as goal

abbrev blank : Range
blank = record { index = 0; persistent = false; base = 0; length = 0 }

at_most_one : {A : Type 0} (o : Option A) → length (option_to_list o) ≤ 1
at_most_one None = omega arith
at_most_one (Some x) = omega arith

few_more : {A : Type 0} (xs ys : List A) (o : Option A) (n : ℕ) → length xs ≤ n → ys ≡ xs ++ option_to_list o → length ys ≤ n + 1
few_more xs ys o n few e = let one = at_most_one o in rw e (rw length-append (omega arith))

pub loop-range-preserved : goal.loop-range-preserved
loop-range-preserved c = (
  few_more c.loop-range.regions c.push_some.new.items c.in_ok-region.region c.loop-range.range-index c.loop-range.invariant.0 c.in_ok-push_some.ensures,
  λ structures named numbered links.
      let range = get_or c.args.ranges.now c.loop-range.range-index blank in
      let group : c.group_of-group.result.now ≡ links_into structures range.index =
      c.group_of-group.ensures ∙ c.in_ok-groups.ensures.group range.index ∙ ap (filter (λ m. eqb m.range range.index)) links in
      let region : c.in_ok-region.region ≡ region_where structures range = c.in_ok-region.ensures structures named numbered group in
      c.in_ok-push_some.ensures
      ∙ ap (λ xs. xs ++ option_to_list c.in_ok-region.region) (c.loop-range.invariant.1 structures named numbered links)
      ∙ ap (λ o. filter_map (region_where structures) (take c.loop-range.range-index c.args.ranges.now) ++ option_to_list o) region
      ∙ sym (filter_map_more (region_where structures) c.args.ranges.now c.loop-range.range-index blank c.loop-range-test.true),
)

pub returns-clause-regions : goal.returns-clause-regions
unfolding regions_of
returns-clause-regions c = λ structures named numbered ranges links.
    c.loop-range.invariant.1 structures named numbered links ∙ ap (filter_map (region_where structures)) (take_all c.loop-range.range-index c.args.ranges.now c.loop-range-test.false ∙ ranges) ∙ filter_map-region_where structures _
