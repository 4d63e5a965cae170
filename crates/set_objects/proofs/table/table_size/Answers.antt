use Rattle.std.proofs.Common.{Err, ap, ◌∙◌}
use Rattle.std.proofs.lemmas.Result.{err_from_is_err_and}
use Rattle.image_set.specs.Load.{table_fault}
use Rattle.image_set.proofs.Asked.{stops_here, goes_on, last}
use Rattle.set_objects.proofs.table.table_size.Goals as goal

pub returns-in_err-find_mark-clause-told : goal.returns-in_err-find_mark-clause-told
unfolding table_fault
returns-in_err-find_mark-clause-told g c = λ set told no_read no_memory.
    let fault = c.in_err-find_mark.field-0.0 in
    let p = err_from_is_err_and c.from_residual.result c.from_residual.ensures.1 in
    stops_here _ fault _ _ _ c.find_mark.result c.from_residual.result c.in_err-find_mark.was (p.1 ∙ ap (λ f. Err f) p.2) (c.find_mark.ensures.told set told) no_read no_memory

pub returns-clause-told : goal.returns-clause-told
unfolding table_fault
returns-clause-told g c = λ set told no_read no_memory.
    goes_on _ _ _ _ _ c.find_mark.result c.find_table.result c.in_ok-find_mark.was (c.find_mark.ensures.told set told)
    (last _ _ c.find_table.result (c.find_table.ensures.told set (c.find_mark.ensures.source.same ∙ told) no_read no_memory))
