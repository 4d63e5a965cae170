use Rattle.std.proofs.Common.{length, Ok, Err, sym, ap, ◌∙◌, refl, subst}
use Rattle.std.proofs.lemmas.Result.{err_from_is_err_and}
use Rattle.nfit_reader.specs.Table.{nfit_reading}
use Rattle.image_set.specs.declared.outline.Outline.{Outline}
use Rattle.image_set.specs.Outline.{contents_in, image_set_with}
use Rattle.image_set.specs.Sizes.{AreSized, AreSizesOf}
use Rattle.image_set.proofs.Asked.{passed}
use Rattle.image_set.proofs.Ends.{sizes_told}
use Rattle.image_set.proofs.Chain.{IsOpen, table_stops, table_refused, table_is, sizes_stop, all_read}
use Rattle.image_set.proofs.outline.load_outline.Goals as goal

pub returns-in_err-bytes-clause-told : goal.returns-in_err-bytes-clause-told
returns-in_err-bytes-clause-told g c = λ set told.
    let p = err_from_is_err_and c.from_residual.result c.from_residual.ensures.1 in
    table_stops (λ (o : Outline). image_set_with o (contents_in set (length o.sizes))) set c.from_residual.result c.in_err-bytes.field-0.0 _ c.table_size.result (p.1 ∙ ap (λ f. Err f) p.2) c.in_err-bytes.was (c.table_size.ensures.told set told)

pub read_bytes-requires : goal.read_bytes-requires
read_bytes-requires g c = λ set told.
    sym (passed c.in_ok-bytes.bytes _ _ c.table_size.result c.in_ok-bytes.was (c.table_size.ensures.told set (sym c.table_size.ensures.source.same ∙ told))).1

pub returns-in_err-nfit-clause-told : goal.returns-in_err-nfit-clause-told
returns-in_err-nfit-clause-told g c = λ set told.
    let p = err_from_is_err_and c.from_residual-in_err-nfit.result c.from_residual-in_err-nfit.ensures.1 in
    let ready : IsOpen set c.deref.result.now = record {
      none = (passed c.in_ok-bytes.bytes _ _ c.table_size.result c.in_ok-bytes.was (c.table_size.ensures.told set told)).0;
      read = c.deref.ensures.value ∙ c.in_ok-nfit_bytes.ensures.told set (c.table_size.ensures.source.same ∙ told);
    } in
    table_refused (λ (o : Outline). image_set_with o (contents_in set (length o.sizes))) set c.from_residual-in_err-nfit.result c.in_err-nfit.field-0.0 c.deref.result.now c.table_of.result (nfit_reading c.deref.result.now) (p.1 ∙ ap (λ f. Err f) p.2) c.in_err-nfit.was refl
    c.table_of.ensures.reading ready

pub returns-in_err-sizes-clause-told : goal.returns-in_err-sizes-clause-told
returns-in_err-sizes-clause-told g c = λ set told.
    let p = err_from_is_err_and c.from_residual-in_err-sizes.result c.from_residual-in_err-sizes.ensures.1 in
    let ready : IsOpen set c.deref.result.now = record {
      none = (passed c.in_ok-bytes.bytes _ _ c.table_size.result c.in_ok-bytes.was (c.table_size.ensures.told set told)).0;
      read = c.deref.ensures.value ∙ c.in_ok-nfit_bytes.ensures.told set (c.table_size.ensures.source.same ∙ told);
    } in
    sizes_stop (λ (o : Outline). image_set_with o (contents_in set (length o.sizes))) set c.from_residual-in_err-sizes.result c.in_err-sizes.field-0.0 c.deref.result.now c.in_ok-nfit.nfit _ c.checked_sizes.result (p.1 ∙ ap (λ f. Err f) p.2) c.in_err-sizes.was
    (table_is c.deref.result.now c.in_ok-nfit.nfit c.table_of.result (nfit_reading c.deref.result.now) c.in_ok-nfit.was refl c.table_of.ensures.reading)
    (c.checked_sizes.ensures.told set (c.read_bytes.ensures.source.same ∙ c.table_size.ensures.source.same ∙ told)) ready

pub read_outline-requires-clause-checked : goal.read_outline-requires-clause-checked
read_outline-requires-clause-checked g c = record {
  table = ap nfit_reading (sym c.deref.ensures.value)
      ∙ table_is c.deref.result.now c.in_ok-nfit.nfit c.table_of.result (nfit_reading c.deref.result.now) c.in_ok-nfit.was refl c.table_of.ensures.reading;
  counted = c.in_ok-nfit.ensures.counted;
  few = c.in_ok-nfit.ensures.few;
  modules = c.in_ok-nfit.ensures.modules;
  count = ap length c.as_slice.ensures ∙ c.in_ok-sizes.ensures.count;
  sized = subst AreSized (sym c.as_slice.ensures) c.in_ok-sizes.ensures.sized;
  there = λ set told.
      subst (AreSizesOf set) (sym c.as_slice.ensures)
      (sizes_told set c.in_ok-sizes.sizes (length c.in_ok-nfit.nfit.modules)
      (passed c.in_ok-sizes.sizes _ _ c.checked_sizes.result c.in_ok-sizes.was (c.checked_sizes.ensures.told set (sym c.checked_sizes.ensures.source.same ∙ told))).1 c.in_ok-sizes.ensures.count);
  read = λ set told. c.in_ok-nfit_bytes.ensures.told set (sym c.read_bytes.ensures.source.same ∙ (sym c.checked_sizes.ensures.source.same ∙ told));
}

pub returns-clause-told : goal.returns-clause-told
returns-clause-told g c = λ set told.
    let ready : IsOpen set c.deref.result.now = record {
      none = (passed c.in_ok-bytes.bytes _ _ c.table_size.result c.in_ok-bytes.was (c.table_size.ensures.told set told)).0;
      read = c.deref.ensures.value ∙ c.in_ok-nfit_bytes.ensures.told set (c.table_size.ensures.source.same ∙ told);
    } in
    all_read (λ (o : Outline). image_set_with o (contents_in set (length o.sizes))) set (Ok c.in_ok-read_outline.field-0) c.in_ok-read_outline.field-0 c.deref.result.now c.in_ok-nfit.nfit c.in_ok-sizes.sizes _ c.checked_sizes.result refl c.in_ok-sizes.was
    (table_is c.deref.result.now c.in_ok-nfit.nfit c.table_of.result (nfit_reading c.deref.result.now) c.in_ok-nfit.was refl c.table_of.ensures.reading)
    (c.checked_sizes.ensures.told set (c.read_bytes.ensures.source.same ∙ c.table_size.ensures.source.same ∙ told)) ready
    (c.in_ok-read_outline.ensures.told set (c.checked_sizes.ensures.source.same ∙ c.read_bytes.ensures.source.same ∙ c.table_size.ensures.source.same ∙ told))
