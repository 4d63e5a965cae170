use Rattle.std.proofs.Common.{◌≡◌, List, [], Some, sym, ap, ◌∙◌, subst}
use Rattle.std.specs.Prelude.{slice_get}
use Rattle.std.proofs.lemmas.List.{get_or_default}
use Rattle.interleave.proofs.First.{on_ok}
use Rattle.region_space.specs.declared.extent.Extent.{Extent}
use Rattle.namespace_areas.specs.declared.found.Found.{Found}
use Rattle.namespace_areas.specs.Finding.{LiesInSet, found_at, set_at}
use Rattle.namespace_areas.proofs.Finding.{sector_is}
use Rattle.label_rescue.specs.declared.rescued.RescueFound.{RescueFound}
use Rattle.label_rescue.specs.Rescue.{rescued_with}
use Rattle.label_rescue.proofs.Placed.{one_is, there}
use Rattle.label_rescue.proofs.rescued.rescued_one.Goals as goal

pub bounds-sets-region : goal.bounds-sets-region
bounds-sets-region c =
    (there c.args.sets.now c.args.namespace.now.mode c.in-Some.region c.args.namespace.now c.in-Some-first.extent.now c.requires.labels c.if-not-is_rescuable.ensures (sym c.in-Some.is)
    (c.in-Some-first.ensures.value ∙ ap (λ (es : List Extent). slice_get es 0) c.as_slice.ensures)).high

pub returns-clause-answer : goal.returns-clause-answer
returns-clause-answer c =
    let sets = c.args.sets.now in
    let n = c.args.namespace.now in
    let region = c.in-Some.region in
    let e = c.in-Some-first.extent.now in
    let first : Some e ≡ slice_get n.extents 0 = c.in-Some-first.ensures.value ∙ ap (λ (es : List Extent). slice_get es 0) c.as_slice.ensures in
    let t = there sets n.mode region n e c.requires.labels c.if-not-is_rescuable.ensures (sym c.in-Some.is) first in
    let at : set_at sets region ≡ c.index-sets-region.result = get_or_default sets region [] c.index-sets-region.result t.high ∙ sym c.index-sets-region.is in
    let is : c.found_at-found.result ≡ found_at sets n.mode region e = c.found_at-found.ensures sets at in
    on_ok c.with_missing.result _ _
    (λ answer said. said ∙ ap (rescued_with sets c.args.namespaces.now n) is
    ∙ sym (one_is sets c.args.namespaces.now n region e c.if-not-is_rescuable.ensures c.if-not-is_sector.ensures c.in-Some.is first))
    (c.with_missing.ensures.answer sets (ap (λ (f : Found). set_at sets f.region) is ∙ at))

pub returns-clause-lies : goal.returns-clause-lies
returns-clause-lies c =
    let sets = c.args.sets.now in
    let n = c.args.namespace.now in
    let region = c.in-Some.region in
    let e = c.in-Some-first.extent.now in
    let first : Some e ≡ slice_get n.extents 0 = c.in-Some-first.ensures.value ∙ ap (λ (es : List Extent). slice_get es 0) c.as_slice.ensures in
    let t = there sets n.mode region n e c.requires.labels c.if-not-is_rescuable.ensures (sym c.in-Some.is) first in
    let at : set_at sets region ≡ c.index-sets-region.result = get_or_default sets region [] c.index-sets-region.result t.high ∙ sym c.index-sets-region.is in
    let is : c.found_at-found.result ≡ found_at sets n.mode region e = c.found_at-found.ensures sets at in
    on_ok c.with_missing.result _ _
    (λ answer said. on_ok answer _ _ (λ (r : RescueFound) same. subst (λ (f : Found). LiesInSet sets f) (sym (same ∙ is)) t.lies) said)
    c.with_missing.ensures.same

pub returns-clause-sector : goal.returns-clause-sector
returns-clause-sector c =
    let sets = c.args.sets.now in
    let n = c.args.namespace.now in
    let region = c.in-Some.region in
    let e = c.in-Some-first.extent.now in
    let first : Some e ≡ slice_get n.extents 0 = c.in-Some-first.ensures.value ∙ ap (λ (es : List Extent). slice_get es 0) c.as_slice.ensures in
    let t = there sets n.mode region n e c.requires.labels c.if-not-is_rescuable.ensures (sym c.in-Some.is) first in
    let at : set_at sets region ≡ c.index-sets-region.result = get_or_default sets region [] c.index-sets-region.result t.high ∙ sym c.index-sets-region.is in
    let is : c.found_at-found.result ≡ found_at sets n.mode region e = c.found_at-found.ensures sets at in
    on_ok c.with_missing.result _ _
    (λ answer said. on_ok answer _ _ (λ (r : RescueFound) same. ap (λ (f : Found). f.mode) (same ∙ is) ∙ sector_is n.mode c.if-not-is_sector.ensures) said)
    c.with_missing.ensures.same
