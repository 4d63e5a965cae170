use Rattle.std.proofs.Common.{◌≡◌, ◌≤◌, Err, length, take, sym, ap, ◌∙◌, arith, subst}
use Rattle.std.proofs.lemmas.List.{length-take-le}
use Rattle.std.proofs.lemmas.Result.{err_from_is_err_and}
use Rattle.nfit_reader.proofs.Readings.{sound, same_fault, read_refused, read_on}
use Rattle.nfit_reader.proofs.Counted.{counted_table, few_table}
use Rattle.nfit_reader.proofs.Placed.{modules_table}
use Rattle.nfit_reader.specs.declared.table.NfitFault.TheVariants.{OutOfMemory}
use Rattle.nfit_reader.proofs.read.read_nfit.Goals as goal

pub slice_bounds-table-end : goal.slice_bounds-table-end
slice_bounds-table-end c =
    let s = sound c.args.bytes.now c.in_default.ensures in
    let inside : c.said.result ≤ length c.args.bytes.now = subst (λ n. n ≤ length c.args.bytes.now) (sym c.said.ensures) s.inside in
    sym (length-take-le c.said.result c.args.bytes.now inside)

pub structures_in-requires-clause-header : goal.structures_in-requires-clause-header
structures_in-requires-clause-header c =
    let s = sound c.args.bytes.now c.in_default.ensures in
    let inside : c.said.result ≤ length c.args.bytes.now = subst (λ n. n ≤ length c.args.bytes.now) (sym c.said.ensures) s.inside in
    let long = length-take-le c.said.result c.args.bytes.now inside in
    let header = s.header in
    let said = c.said.ensures in
    omega arith

pub returns-in_err-structures_in-clause-reading : goal.returns-in_err-structures_in-clause-reading
returns-in_err-structures_in-clause-reading c = λ memory.
    let fault = c.in_err-structures_in.field-0.0 in
    let p = err_from_is_err_and c.from_residual.result c.from_residual.ensures.1 in
    let gave : c.from_residual.result ≡ Err fault = p.1 ∙ ap (λ f. Err f) p.2 in
    gave ∙ read_refused c.args.bytes.now _ fault c.in_default.ensures (ap (λ n. take n c.args.bytes.now) c.said.ensures) (c.in_err-structures_in.ensures.reading (λ e. memory (gave ∙ ap (λ f. Err f) (same_fault fault OutOfMemory e))))

pub returns-clause-reading : goal.returns-clause-reading
returns-clause-reading c = λ memory.
    read_on c.args.bytes.now _ c.in_ok-structures_in.field-0 c.table_of.result c.in_default.ensures (ap (λ n. take n c.args.bytes.now) c.said.ensures)
    (c.in_ok-structures_in.ensures.reading (λ e. cc)) (c.table_of.ensures memory)

pub structures_in-requires-clause-small : goal.structures_in-requires-clause-small
structures_in-requires-clause-small c =
    let s = sound c.args.bytes.now c.in_default.ensures in
    let inside : c.said.result ≤ length c.args.bytes.now = subst (λ n. n ≤ length c.args.bytes.now) (sym c.said.ensures) s.inside in
    let long = length-take-le c.said.result c.args.bytes.now inside in
    omega arith

pub returns-clause-counted : goal.returns-clause-counted
returns-clause-counted c =
    let s = sound c.args.bytes.now c.in_default.ensures in
    let inside : c.said.result ≤ length c.args.bytes.now = subst (λ n. n ≤ length c.args.bytes.now) (sym c.said.ensures) s.inside in
    let long = length-take-le c.said.result c.args.bytes.now inside in
    counted_table c.in_ok-structures_in.field-0 c.table_of.result c.table_of.ensures (omega (arith, c.in_ok-structures_in.ensures.few, long)) c.in_ok-structures_in.ensures.short

pub returns-clause-few : goal.returns-clause-few
returns-clause-few c =
    let s = sound c.args.bytes.now c.in_default.ensures in
    let inside : c.said.result ≤ length c.args.bytes.now = subst (λ n. n ≤ length c.args.bytes.now) (sym c.said.ensures) s.inside in
    let long = length-take-le c.said.result c.args.bytes.now inside in
    few_table c.in_ok-structures_in.field-0 c.table_of.result c.table_of.ensures (omega (arith, c.in_ok-structures_in.ensures.few, long))

pub returns-clause-modules : goal.returns-clause-modules
returns-clause-modules c = modules_table c.in_ok-structures_in.field-0 c.table_of.result c.table_of.ensures
