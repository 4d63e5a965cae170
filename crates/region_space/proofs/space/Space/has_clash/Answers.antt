use Rattle.std.proofs.Common.{◌≡◌, ◌&&◌, List, sym, ◌∙◌, ap}
use Rattle.std.specs.Prelude.{nat_lt, filter}
use Rattle.std.specs.List.{list_any}
use Rattle.std.proofs.lemmas.List.Sorted.{list_any-IsPermutation}
use Rattle.region_space.specs.declared.extent.Extent.{Extent}
use Rattle.region_space.specs.Space.{clash}
use Rattle.region_space.specs.Reach.{end_of, starts_before, passes_beside, reach_beside}
use Rattle.region_space.proofs.Filters.{any_filter, any_same}
use Rattle.region_space.proofs.Clashes.{clash_parts}
use Rattle.region_space.proofs.space.Space.has_clash.Goals as goal

pub returns : goal.returns
returns c =
    let e = c.args.extent.now in
    let ordered = c.self.inside.ordered in
    let reached : list_any (passes_beside e.owner e.start) (filter (starts_before e.«module» (end_of e)) ordered) ≡ nat_lt e.start (reach_beside c.reach-reach.result e.owner) =
    rw c.end.ensures at (c.reach-reach.ensures.beside e.owner e.start) in
    let clashing : list_any (passes_beside e.owner e.start) (filter (starts_before e.«module» (end_of e)) ordered) ≡ list_any (clash e) ordered =
    any_filter (passes_beside e.owner e.start) (starts_before e.«module» (end_of e)) ordered
    ∙ any_same (λ x. starts_before e.«module» (end_of e) x && passes_beside e.owner e.start x) (clash e) ordered (clash_parts e) in
    let all : list_any (clash e) c.self.inside.extents ≡ list_any (clash e) ordered = list_any-IsPermutation (clash e) c.self.inside.extents ordered c.self.invariant in
    rw (c.from.ensures, c.beside.ensures) (sym reached ∙ clashing ∙ sym all ∙ ap (λ (l : List Extent). list_any (clash e) l) c.self.view_is)
