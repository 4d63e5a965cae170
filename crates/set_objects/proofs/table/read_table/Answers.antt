use Rattle.std.proofs.Common.{Err, ap, sym, ◌∙◌, refl}
use Rattle.std.proofs.lemmas.Result.{err_from_is_err_and}
use Rattle.nfit_reader.specs.Table.{nfit_reading}
use Rattle.image_set.proofs.Asked.{passed}
use Rattle.image_set.proofs.Chain.{IsOpen, table_is}
use Rattle.set_objects.proofs.Telling.{table_told, tells_refused, tells_size}
use Rattle.set_objects.proofs.table.read_table.Goals as goal

pub returns-in_err-size-clause-told : goal.returns-in_err-size-clause-told
returns-in_err-size-clause-told g c = λ set told.
    let p = err_from_is_err_and c.from_residual.result c.from_residual.ensures.1 in
    tells_size set c.from_residual.result c.in_err-size.field-0.0 _ c.table_size.result (p.1 ∙ ap (λ f. Err f) p.2) c.in_err-size.was (c.table_size.ensures.told set told)

pub read_bytes-requires : goal.read_bytes-requires
read_bytes-requires g c = λ set told.
    sym (passed c.in_ok-size.size _ _ c.table_size.result c.in_ok-size.was (c.table_size.ensures.told set (sym c.table_size.ensures.source.same ∙ told))).1

pub returns-in_err-nfit-clause-told : goal.returns-in_err-nfit-clause-told
returns-in_err-nfit-clause-told g c = λ set told.
    let p = err_from_is_err_and c.from_residual-in_err-nfit.result c.from_residual-in_err-nfit.ensures.1 in
    let ready : IsOpen set c.deref.result.now = record {
      none = (passed c.in_ok-size.size _ _ c.table_size.result c.in_ok-size.was (c.table_size.ensures.told set told)).0;
      read = c.deref.ensures.value ∙ c.in_ok-bytes.ensures.told set (c.table_size.ensures.source.same ∙ told);
    } in
    tells_refused set c.from_residual-in_err-nfit.result c.in_err-nfit.field-0.0 c.deref.result.now c.table_of.result (nfit_reading c.deref.result.now) (p.1 ∙ ap (λ f. Err f) p.2) c.in_err-nfit.was refl
    c.table_of.ensures.reading ready

pub returns-clause-told : goal.returns-clause-told
returns-clause-told g c = λ set told no_read no_memory.
    let ready : IsOpen set c.deref.result.now = record {
      none = (passed c.in_ok-size.size _ _ c.table_size.result c.in_ok-size.was (c.table_size.ensures.told set told)).0;
      read = c.deref.ensures.value ∙ c.in_ok-bytes.ensures.told set (c.table_size.ensures.source.same ∙ told);
    } in
    sym (table_told set c.deref.result.now c.in_ok-nfit.nfit ready
    (table_is c.deref.result.now c.in_ok-nfit.nfit c.table_of.result (nfit_reading c.deref.result.now) c.in_ok-nfit.was refl c.table_of.ensures.reading))

pub returns-clause-there : goal.returns-clause-there
returns-clause-there g c = λ set told.
    let read = c.in_ok-bytes.ensures.told set (c.table_size.ensures.source.same ∙ told) in
    let ready : IsOpen set c.deref.result.now = record {
      none = (passed c.in_ok-size.size _ _ c.table_size.result c.in_ok-size.was (c.table_size.ensures.told set told)).0;
      read = c.deref.ensures.value ∙ read;
    } in
    record {
      reading = table_told set c.deref.result.now c.in_ok-nfit.nfit ready
          (table_is c.deref.result.now c.in_ok-nfit.nfit c.table_of.result (nfit_reading c.deref.result.now) c.in_ok-nfit.was refl c.table_of.ensures.reading);
      bytes = c.from_vec.ensures ∙ read;
    }
