use Rattle.std.proofs.Common.{◌≡◌, ℕ, List, refl, subst}
use Rattle.image_set.specs.declared.outline.Outline.{Outline}
use Rattle.image_set.specs.Outline.{image_set_with}
use Rattle.namespace_areas.specs.Finding.{found_of}
use Rattle.namespace_areas.specs.Seen.{areas_seen}
use Rattle.namespace_areas.specs.Steps.{rows_of as label_rows}
use Rattle.namespace_map.specs.Changes.{namespaces_of}
use Rattle.namespace_map.specs.Namespaces.{lookup}
use Rattle.shell_reports.proofs.More.{if_more}
use Rattle.shell_changes.specs.declared.answer.Answer.{Answer}
use Rattle.shell_changes.specs.Answers.{HasSizes, outcome_with}
use Rattle.shell_changes.specs.Remains.{LeavesBy}
use Rattle.shell_changes.proofs.Remains.{no_sizes}
use Rattle.shell_sectors.proofs.Asked.{kept}
use Rattle.shell_serve.specs.declared.opening.OpenOutcome.{OpenOutcome}
use Rattle.shell_serve.specs.Answering.{FindsIn, OpensOne, Shows}
use Rattle.shell_serve.specs.Load.{LoadsRecovered}
use Rattle.shell_serve.specs.Recovered.{IsRecovered}
use Rattle.shell_serve.proofs.Coming.{loads_not, loads_opened}
use Rattle.shell_serve.proofs.Opens.{one_disjoint, one_states}
use Rattle.shell_serve.proofs.Recovering.{contents_are}
use Rattle.shell_serve.proofs.load.recovered_answer.Goals as goal

pub opened_answer-requires-clause-one : goal.opened_answer-requires-clause-one
opened_answer-requires-clause-one g c = λ κs lives.
    one_states c.args.set.registry.sets c.args.load.now.uuid c.in-Done.opened (subst (OpensOne c.args.set.registry.sets c.args.load.now.uuid) c.in-Done.is c.in_ok-opened.ensures.safe)

pub opened_answer-requires-clause-open : goal.opened_answer-requires-clause-open
opened_answer-requires-clause-open g c = λ κs lives.
    let one = subst (OpensOne c.args.set.registry.sets c.args.load.now.uuid) c.in-Done.is c.in_ok-opened.ensures.safe in
    (c.requires.recovered.0, record { recovered = c.requires.recovered.1; each = one.1.0; disjoint = one_disjoint c.args.set.registry.sets c.args.load.now.uuid c.in-Done.opened one })

pub returns-in-Done-clause-comes : goal.returns-in-Done-clause-comes
returns-in-Done-clause-comes g c =
    let leaves = LeavesBy g.C.Chooser.begins g.C.Chooser.picks c.args.choose.now c.args.running.seed in
    let held = g.S.ImageSource.held c.args.images.now in
    let sets = c.args.set.registry.sets in
    let areas = areas_seen c.args.set.registry.areas in
    let words = label_rows c.args.set.registry.areas in
    let found = found_of c.args.set.registry.sets (lookup c.args.load.now.uuid (namespaces_of c.args.set.registry.sets (areas_seen c.args.set.registry.areas)).entries) in
    let one = subst (OpensOne c.args.set.registry.sets c.args.load.now.uuid) c.in-Done.is c.in_ok-opened.ensures.safe in
    kept (λ answer. (outline : Outline) (contents : List (List ℕ)) → IsRecovered outline c.args.set → Shows held outline c.args.set contents → LoadsRecovered leaves c.args.load.now sets (image_set_with outline contents) areas words (outcome_with answer contents))
    c.opened_answer.result c.in_memory.result c.in_memory.ensures.same
    (if_more _ _ c.opened_answer.result
    (λ answer comes outline contents r shows.
    let opens = subst (FindsIn c.args.set.registry.sets contents c.args.load.now.uuid found) c.in-Done.is (c.in_ok-opened.ensures.told contents shows.reveals) in
    loads_opened leaves c.args.load.now (image_set_with outline contents) (outcome_with answer contents) sets areas words contents (contents_are outline contents) found refl c.in-Done.opened opens
    (λ there states is arenas.
    comes outline contents there states (record { recovered = r; each = one.1.0; disjoint = one_disjoint c.args.set.registry.sets c.args.load.now.uuid c.in-Done.opened one }) (record { sizes = shows.sizes; held = arenas }) is))
    c.opened_answer.ensures.comes)

pub returns-in-Done-clause-sizes : goal.returns-in-Done-clause-sizes
returns-in-Done-clause-sizes g c = kept (HasSizes c.args.set.rest.sizes) c.opened_answer.result c.in_memory.result c.in_memory.ensures.same c.opened_answer.ensures.sizes

pub returns-in-Not-clause-comes : goal.returns-in-Not-clause-comes
returns-in-Not-clause-comes g c = λ outline contents r shows.
    let leaves = LeavesBy g.C.Chooser.begins g.C.Chooser.picks c.args.choose.now c.args.running.seed in
    let found = found_of c.args.set.registry.sets (lookup c.args.load.now.uuid (namespaces_of c.args.set.registry.sets (areas_seen c.args.set.registry.areas)).entries) in
    let not = subst (FindsIn c.args.set.registry.sets contents c.args.load.now.uuid found) c.in-Not.is (c.in_ok-opened.ensures.told contents shows.reveals) in
    loads_not leaves c.args.load.now (image_set_with outline contents) (outcome_with c.without_set.result contents) c.args.set.registry.sets (areas_seen c.args.set.registry.areas) (label_rows c.args.set.registry.areas) contents (contents_are outline contents)
    found refl c.in-Not.report not (c.without_set.ensures.same contents)

pub returns-in-Not-clause-sizes : goal.returns-in-Not-clause-sizes
returns-in-Not-clause-sizes g c = no_sizes c.args.set.rest.sizes c.without_set.result c.without_set.ensures.saved
