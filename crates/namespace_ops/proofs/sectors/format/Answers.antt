use Rattle.std.proofs.Common.{◌≡◌, ◌<◌, List, [], length, ap, sym, subst}
use Rattle.std.specs.Prelude.{slice_get, unwrap_or}
use Rattle.nfit_reader.specs.declared.table.Mapping.{Mapping}
use Rattle.namespace_map.specs.Commands.{set_of}
use Rattle.namespace_areas.specs.Refusals.{shown}
use Rattle.namespace_ops.proofs.Lies.{good_has, lies_by}
use Rattle.namespace_ops.proofs.sectors.format.Goals as goal

pub format-requires-clause-region : goal.format-requires-clause-region
format-requires-clause-region g c =
    let good = good_has c.args.store.now.sets c.args.store.now.areas c.args.spec.now c.requires.sectors c.requires.good in
    subst (λ (ss : List (List Mapping)). c.args.spec.now.region < length ss) (sym c.sets.ensures.sets) good.there

pub format-requires-clause-place : goal.format-requires-clause-place
format-requires-clause-place g c =
    let sets = c.args.store.now.sets in
    let areas = c.args.store.now.areas in
    let set_is : unwrap_or (slice_get c.sets.result.now c.args.spec.now.region) [] ≡ set_of (shown sets areas) c.args.spec.now.region = ap (λ (ss : List (List Mapping)). unwrap_or (slice_get ss c.args.spec.now.region) []) c.sets.ensures.sets in
    lies_by sets areas c.args.spec.now (unwrap_or (slice_get c.sets.result.now c.args.spec.now.region) []) c.args.offset set_is c.requires.place (good_has sets areas c.args.spec.now c.requires.sectors c.requires.good)

pub format-requires-clause-ready : goal.format-requires-clause-ready
format-requires-clause-ready g c = subst (λ (ss : List (List Mapping)). g.F.Formatter.ready c.args.formatter.now ss) (sym c.sets.ensures.sets) c.requires.ready

pub returns-clause-formats : goal.returns-clause-formats
returns-clause-formats g c =
    let sets = c.args.store.now.sets in
    let areas = c.args.store.now.areas in
    let set_is : unwrap_or (slice_get c.sets.result.now c.args.spec.now.region) [] ≡ set_of (shown sets areas) c.args.spec.now.region = ap (λ (ss : List (List Mapping)). unwrap_or (slice_get ss c.args.spec.now.region) []) c.sets.ensures.sets in
    subst (λ (o : _). g.F.Formatter.formats c.args.formatter.now c.format.new.self (set_of (shown sets areas) c.args.spec.now.region) o c.args.spec.now c.args.fuse.now) c.requires.place
    (subst (λ (s : List Mapping). g.F.Formatter.formats c.args.formatter.now c.format.new.self s c.args.offset c.args.spec.now c.args.fuse.now) set_is c.format.ensures.formats)
