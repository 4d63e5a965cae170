use Rattle.std.proofs.Common.{◌≡◌, ◌∙◌, ℕ, List, Ok, Err, map, Option, sym, ap, subst}
use Rattle.std.specs.Prelude.{IfOk}
use Rattle.std.specs.List.{All}
use Rattle.nvd_media.specs.Images.{Images}
use Rattle.nfit_reader.specs.declared.table.Mapping.{Mapping}
use Rattle.sector_namespaces.specs.View.{rows_of}
use Rattle.served_namespaces.specs.declared.places.FoundNamespace.{FoundNamespace}
use Rattle.served_namespaces.specs.declared.places.ReadNamespace.{ReadNamespace}
use Rattle.served_namespaces.specs.Opening.{opened_each}
use Rattle.served_namespaces.specs.Reading.{AreReadable, HaveEnds, IsReadIn, RevealsAll, opened_all}
use Rattle.shell_reports.proofs.More.{if_more}
use Rattle.shell_serve.specs.declared.opening.OpenOutcome.{OpenOutcome}
use Rattle.shell_serve.specs.Answering.{NamesBroken, OpensAs, OpensIn, OpensRead}
use Rattle.shell_serve.proofs.Opens.{ends_all, named_broken, opens_in, readable, sets_on}
use Rattle.shell_serve.proofs.opening.open_namespaces.Goals as goal

pub read_each-requires-clause-readable : goal.read_each-requires-clause-readable
read_each-requires-clause-readable g c = subst (λ (s : List (List Mapping)). AreReadable s) (sym c.sets-sets.ensures) (readable c.requires.recovered.0 c.args.set.now c.requires.recovered.1)

pub read_each-requires-clause-there : goal.read_each-requires-clause-there
read_each-requires-clause-there g c =
    sets_on (g.S.ImageSource.held c.args.images.now) c.args.set.now.registry.sets c.sets-sets.result.now c.sets-sets.ensures (ends_all c.requires.recovered.0 c.args.set.now c.requires.recovered.1 (g.S.ImageSource.held c.args.images.now) c.requires.there)

pub open_read-requires-clause-there : goal.open_read-requires-clause-there
open_read-requires-clause-there g c =
    subst (λ (h : Option Images). HaveEnds h c.sets-sets.result.now) (sym c.read_each.ensures.same)
    (sets_on (g.S.ImageSource.held c.args.images.now) c.args.set.now.registry.sets c.sets-sets.result.now c.sets-sets.ensures (ends_all c.requires.recovered.0 c.args.set.now c.requires.recovered.1 (g.S.ImageSource.held c.args.images.now) c.requires.there))

pub returns-in-Ok-Ok-clause-told : goal.returns-in-Ok-Ok-clause-told
returns-in-Ok-Ok-clause-told g c = λ contents reveals.
    let held = g.S.ImageSource.held c.args.images.now in
    let here : RevealsAll held c.sets-sets.result.now contents = subst (λ (s : List (List Mapping)). RevealsAll held s contents) (sym c.sets-sets.ensures) reveals in
    let told = subst (λ r. IfOk r (λ (each : List ReadNamespace). All (IsReadIn c.sets-sets.result.now contents) each × (opened_each c.sets-sets.result.now (rows_of contents) c.args.places.now ≡ Ok (opened_all c.sets-sets.result.now contents each)))) c.in-Ok-Ok.field-0-is
    (c.in-Ok-Ok.ensures.told contents here) in
    let then : RevealsAll (g.S.ImageSource.held c.read_each.new.images) c.sets-sets.result.now contents = subst (λ (h : Option Images). RevealsAll h c.sets-sets.result.now contents) (sym c.read_each.ensures.same) here in
    if_more (OpensRead c.sets-sets.result.now contents c.in-Ok-Ok.read) (OpensIn c.args.set.now.registry.sets contents c.args.places.now) c.open_read.result
    (λ o opens. subst (λ (s : List (List Mapping)). OpensIn s contents c.args.places.now o) c.sets-sets.ensures (opens_in c.sets-sets.result.now contents c.args.places.now c.in-Ok-Ok.read told.1 o opens))
    (c.open_read.ensures.told contents then told.0)

pub returns-in-Ok-Err-clause-told : goal.returns-in-Ok-Err-clause-told
returns-in-Ok-Err-clause-told g c = λ contents reveals.
    let held = g.S.ImageSource.held c.args.images.now in
    let here : RevealsAll held c.sets-sets.result.now contents = subst (λ (s : List (List Mapping)). RevealsAll held s contents) (sym c.sets-sets.ensures) reveals in
    if_more (NamesBroken c.in-Ok-Err.refused) (OpensIn c.args.set.now.registry.sets contents c.args.places.now) c.unopened.result
    (λ o named. subst (λ (s : List (List Mapping)). OpensIn s contents c.args.places.now o) c.sets-sets.ensures
    (named_broken c.sets-sets.result.now contents c.args.places.now c.in-Ok-Err.refused o named
    (λ uuid fault is. c.in-Ok-Err.ensures.refused contents here uuid fault (c.in-Ok-Err.field-0-is ∙ ap (λ r. Err r) is)))) c.unopened.ensures.names
