use Rattle.std.proofs.Common.{◌+◌, ◌<◌, ◌^◌, [], ℕ, sym, subst}
use Rattle.std.specs.Prelude.{slice_get, unwrap_or}
use Rattle.std.specs.List.{AllByRecursion}
use Rattle.nfit_reader.specs.declared.table.Mapping.{Mapping}
use Rattle.namespace_ops.proofs.Creates.{create_not_named, offset_told, region_there, starts_fit}
use Rattle.namespace_ops.proofs.creating.plan_create.Goals as goal

pub named_changes-requires-clause-there : goal.named_changes-requires-clause-there
named_changes-requires-clause-there c =
    let told = offset_told _ c.in_ok-offset.offset _ c.in_ok-offset.ensures in
    region_there c.args.sets.now c.args.areas.now c.args.spec.now c.requires.regions told.0

pub named_changes-requires-clause-fits : goal.named_changes-requires-clause-fits
named_changes-requires-clause-fits c =
    let told = offset_told _ c.in_ok-offset.offset _ c.in_ok-offset.ensures in
    subst (λ (o : ℕ). AllByRecursion (λ (m : Mapping). m.start + o < 2 ^ 64) (unwrap_or (slice_get c.args.sets.now c.args.spec.now.region) [])) (sym told.1)
    (starts_fit c.args.sets.now c.args.areas.now c.args.spec.now c.requires.regions told.0)

pub returns-in-Refused-clause-refused : goal.returns-in-Refused-clause-refused
returns-in-Refused-clause-refused c = λ f is other.
    let told = offset_told _ c.in_ok-offset.offset _ c.in_ok-offset.ensures in
    absurd (create_not_named c.args.sets.now c.args.areas.now c.args.spec.now c.in-Refused.bytes c.in-Refused.is told.0)
