use Rattle.std.proofs.Common.{◌≡◌, ◌&&◌, List, sym, ◌∙◌, subst}
use Rattle.std.specs.Prelude.{nat_lt}
use Rattle.std.specs.List.{list_any}
use Rattle.std.proofs.lemmas.List.Sorted.{list_any-IsPermutation}
use Rattle.region_space.specs.declared.extent.Extent.{Extent}
use Rattle.region_space.specs.Reach.{passes, starts_before}
use Rattle.region_space.proofs.Filters.{any_filter}
use Rattle.region_space.proofs.space.Space.reach.Goals as goal

pub returns : goal.returns
returns c past =
    let starts = starts_before c.args.«module» c.args.address in
    let ordered = c.self.inside.ordered in
    let all : list_any (λ e. starts e && passes past e) c.self.inside.extents ≡ list_any (λ e. starts e && passes past e) ordered =
    list_any-IsPermutation (λ e. starts e && passes past e) c.self.inside.extents ordered c.self.invariant in
    subst (λ (l : List Extent). list_any (λ e. starts e && passes past e) l ≡ nat_lt past c.reach.result.end) c.self.view_is
    (all ∙ sym (any_filter (passes past) starts ordered) ∙ c.reach.ensures.all past)
