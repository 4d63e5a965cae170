use Rattle.std.proofs.Common.{Err, ap, ◌∙◌}
use Rattle.std.proofs.lemmas.Result.{err_from_is_err_and}
use Rattle.image_set.specs.Load.{module_fault}
use Rattle.image_set.proofs.Asked.{stops_here, goes_on, passed}
use Rattle.image_set.proofs.Sized.{module_passes, is_sized}
use Rattle.image_set.proofs.sizes.module_sizes.Goals as goal

pub returns-in_err-labels-clause-told : goal.returns-in_err-labels-clause-told
unfolding module_fault
returns-in_err-labels-clause-told g c = λ set told no_read no_memory.
    let p = err_from_is_err_and c.from_residual.result c.from_residual.ensures.1 in
    stops_here _ c.in_err-labels.field-0.0 _ _ _ c.labels_size.result c.from_residual.result c.in_err-labels.was (p.1 ∙ ap (λ f. Err f) p.2)
    (c.labels_size.ensures.told set told) no_read no_memory

pub returns-in_err-contents-clause-told : goal.returns-in_err-contents-clause-told
unfolding module_fault
returns-in_err-contents-clause-told g c = λ set told no_read no_memory.
    let p = err_from_is_err_and c.from_residual-in_err-contents.result c.from_residual-in_err-contents.ensures.1 in
    goes_on _ _ _ _ _ c.labels_size.result c.from_residual-in_err-contents.result c.in_ok-labels.was (c.labels_size.ensures.told set told)
    (stops_here _ c.in_err-contents.field-0.0 _ _ _ c.contents_size.result c.from_residual-in_err-contents.result c.in_err-contents.was (p.1 ∙ ap (λ f. Err f) p.2)
    (c.contents_size.ensures.told set (c.labels_size.ensures.source.same ∙ told)) no_read no_memory)

pub returns-in_err-bad-clause-told : goal.returns-in_err-bad-clause-told
unfolding module_fault
returns-in_err-bad-clause-told g c = λ set told no_read no_memory.
    let p = err_from_is_err_and c.from_residual-in_err-bad.result c.from_residual-in_err-bad.ensures.1 in
    goes_on _ _ _ _ _ c.labels_size.result c.from_residual-in_err-bad.result c.in_ok-labels.was (c.labels_size.ensures.told set told)
    (goes_on _ _ _ _ _ c.contents_size.result c.from_residual-in_err-bad.result c.in_ok-contents.was (c.contents_size.ensures.told set (c.labels_size.ensures.source.same ∙ told))
    (stops_here _ c.in_err-bad.field-0.0 _ _ _ c.bad_size.result c.from_residual-in_err-bad.result c.in_err-bad.was (p.1 ∙ ap (λ f. Err f) p.2)
    (c.bad_size.ensures.told set (c.contents_size.ensures.source.same ∙ (c.labels_size.ensures.source.same ∙ told))) no_read no_memory))

pub returns-clause-told : goal.returns-clause-told
returns-clause-told g c = λ set told no_read no_memory.
    let a = passed c.in_ok-labels.labels _ _ c.labels_size.result c.in_ok-labels.was (c.labels_size.ensures.told set told) in
    let b = passed c.in_ok-contents.contents _ _ c.contents_size.result c.in_ok-contents.was (c.contents_size.ensures.told set (c.labels_size.ensures.source.same ∙ told)) in
    let d = passed c.in_ok-bad.bad _ _ c.bad_size.result c.in_ok-bad.was (c.bad_size.ensures.told set (c.contents_size.ensures.source.same ∙ (c.labels_size.ensures.source.same ∙ told))) in
    module_passes set c.args.before c.args.module _ _ _ a.0 b.0 d.0 a.1 b.1 d.1

pub returns-clause-sized : goal.returns-clause-sized
returns-clause-sized g c = is_sized _ _ _ c.args.before c.in_ok-labels.ensures.sized c.in_ok-contents.ensures.sized c.in_ok-bad.ensures.sized
