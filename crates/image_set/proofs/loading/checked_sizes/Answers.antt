use Rattle.std.proofs.Common.{[], ◌∷◌, length, map, Err, sym, ap, ◌∙◌, refl, subst}
use Rattle.std.specs.List.{range_with_len}
use Rattle.std.proofs.lemmas.Result.{err_from_is_err_and}
use Rattle.nvd_words.specs.Checks.{value_unless}
use Rattle.nvd_words.proofs.Checks.{fault_first, fault_next, fault_none}
use Rattle.image_set.specs.Load.{AnswersRead, modules_fault, mappings_fault}
use Rattle.image_set.specs.Sizes.{sizes_of, contents_of, mappings_fault_by}
use Rattle.image_set.proofs.Asked.{stops_here, passed}
use Rattle.image_set.proofs.Ends.{all_mapped, same_faults, sizes_told}
use Rattle.image_set.proofs.loading.checked_sizes.Goals as goal

pub returns-in_err-sizes-clause-told : goal.returns-in_err-sizes-clause-told
returns-in_err-sizes-clause-told g c = λ set told no_read no_memory.
    let p = err_from_is_err_and c.from_residual.result c.from_residual.ensures.1 in
    stops_here (map (sizes_of set) (range_with_len 0 (length c.args.nfit.now.modules))) c.in_err-sizes.field-0.0 (map (sizes_of set) (range_with_len 0 (length c.args.nfit.now.modules)))
    (modules_fault set (length c.args.nfit.now.modules)) (mappings_fault set c.args.nfit.now.regions ∷ []) c.modules_sizes.result c.from_residual.result c.in_err-sizes.was
    (p.1 ∙ ap (λ f. Err f) p.2)
    (subst (λ n. AnswersRead c.modules_sizes.result (value_unless (map (sizes_of set) (range_with_len 0 n)) (modules_fault set n))) c.len.ensures (c.modules_sizes.ensures.told set told))
    no_read no_memory

pub returns-in-Some-clause-told : goal.returns-in-Some-clause-told
returns-in-Some-clause-told g c = λ set told no_read no_memory.
    let p = passed c.in_ok-sizes.sizes (map (sizes_of set) (range_with_len 0 (length c.args.nfit.now.modules))) (modules_fault set (length c.args.nfit.now.modules)) c.modules_sizes.result
    c.in_ok-sizes.was
    (subst (λ n. AnswersRead c.modules_sizes.result (value_unless (map (sizes_of set) (range_with_len 0 n)) (modules_fault set n))) c.len.ensures (c.modules_sizes.ensures.told set told)) in
    let count = c.in_ok-sizes.ensures.count ∙ c.len.ensures in
    fault_next _ _ _ _ p.0
    (fault_first _ _ c.in-Some.fault _
    (sym (same_faults set c.in_ok-sizes.sizes c.args.nfit.now (sizes_told set c.in_ok-sizes.sizes (length c.args.nfit.now.modules) p.1 count) c.requires count)
    ∙ (ap (λ sizes. mappings_fault_by (contents_of sizes) c.args.nfit.now.regions) (sym c.as_slice-2.ensures)
    ∙ ap (λ regions. mappings_fault_by (contents_of c.as_slice-2.result.now) regions) (sym c.as_slice.ensures) ∙ sym c.mappings_fault.ensures.fault ∙ c.in-Some.is)))

pub returns-in-None-clause-told : goal.returns-in-None-clause-told
returns-in-None-clause-told g c = λ set told no_read no_memory.
    let p = passed c.in_ok-sizes.sizes (map (sizes_of set) (range_with_len 0 (length c.args.nfit.now.modules))) (modules_fault set (length c.args.nfit.now.modules)) c.modules_sizes.result
    c.in_ok-sizes.was
    (subst (λ n. AnswersRead c.modules_sizes.result (value_unless (map (sizes_of set) (range_with_len 0 n)) (modules_fault set n))) c.len.ensures (c.modules_sizes.ensures.told set told)) in
    let count = c.in_ok-sizes.ensures.count ∙ c.len.ensures in
    fault_next _ _ _ _ p.0
    (fault_next _ _ _ _
    (sym (same_faults set c.in_ok-sizes.sizes c.args.nfit.now (sizes_told set c.in_ok-sizes.sizes (length c.args.nfit.now.modules) p.1 count) c.requires count)
    ∙ (ap (λ sizes. mappings_fault_by (contents_of sizes) c.args.nfit.now.regions) (sym c.as_slice-2.ensures)
    ∙ ap (λ regions. mappings_fault_by (contents_of c.as_slice-2.result.now) regions) (sym c.as_slice.ensures) ∙ sym c.mappings_fault.ensures.fault ∙ c.in-None.is))
    (fault_none _ _ _ refl p.1))

pub returns-in-None-clause-mapped : goal.returns-in-None-clause-mapped
returns-in-None-clause-mapped g c =
    all_mapped c.in_ok-sizes.sizes c.args.nfit.now c.requires (c.in_ok-sizes.ensures.count ∙ c.len.ensures)
    (sym c.in-None.is ∙ c.mappings_fault.ensures.fault ∙ ap (λ regions. mappings_fault_by (contents_of c.as_slice-2.result.now) regions) c.as_slice.ensures
    ∙ ap (λ sizes. mappings_fault_by (contents_of sizes) c.args.nfit.now.regions) c.as_slice-2.ensures)
