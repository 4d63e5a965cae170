use Rattle.std.proofs.Common.{◌≡◌, ◌∙◌, ℕ, List, Result, Ok, sym, ap, subst}
use Rattle.image_set.specs.declared.outline.Outline.{Outline}
use Rattle.image_set.specs.Outline.{image_set_with}
use Rattle.namespace_areas.specs.Seen.{areas_seen}
use Rattle.namespace_areas.specs.Steps.{rows_of as label_rows}
use Rattle.namespace_map.specs.Changes.{namespaces_of}
use Rattle.sector_namespaces.specs.View.{rows_of}
use Rattle.served_namespaces.specs.declared.places.OpenedNamespace.{OpenedNamespace}
use Rattle.served_namespaces.specs.Opening.{Broken, found_each, opened_each}
use Rattle.shell_reports.specs.Outcome.{Outcome}
use Rattle.shell_reports.proofs.More.{if_more}
use Rattle.shell_changes.specs.declared.answer.Answer.{Answer}
use Rattle.shell_changes.specs.Answers.{HasSizes, outcome_with}
use Rattle.shell_changes.specs.Remains.{LeavesBy}
use Rattle.shell_changes.proofs.Remains.{no_sizes}
use Rattle.shell_sectors.proofs.Asked.{kept}
use Rattle.shell_serve.specs.declared.opening.OpenOutcome.{OpenOutcome}
use Rattle.shell_serve.specs.Answering.{IsNotOpen, OpensApart, OpensIn, Shows}
use Rattle.shell_serve.specs.Recovered.{IsRecovered}
use Rattle.shell_serve.specs.Scripts.{opened_by}
use Rattle.shell_serve.specs.Serve.{OnRecovered}
use Rattle.shell_serve.specs.Serving.{Serves}
use Rattle.shell_serve.specs.Texts.{serve_text}
use Rattle.shell_serve.proofs.Coming.{on_held, on_not, serve_on}
use Rattle.shell_serve.proofs.Recovering.{contents_are}
use Rattle.shell_serve.proofs.serve.recovered_answer.Goals as goal

pub opened_answer-requires-clause-open : goal.opened_answer-requires-clause-open
opened_answer-requires-clause-open g c = λ κs lives.
    let safe = subst (OpensApart c.args.set.registry.sets) c.in-Done.is c.in_ok-opened.ensures.safe in
    (c.requires.recovered.0, record { recovered = c.requires.recovered.1; each = safe.0; disjoint = safe.1 })

pub returns-in-Done-clause-comes : goal.returns-in-Done-clause-comes
returns-in-Done-clause-comes g c =
    let leaves = LeavesBy g.C.Chooser.begins g.C.Chooser.picks c.args.choose.now c.args.running.seed in
    let held = g.S.ImageSource.held c.args.images.now in
    let sets = c.args.set.registry.sets in
    let areas = areas_seen c.args.set.registry.areas in
    let words = label_rows c.args.set.registry.areas in
    let places = found_each c.args.set.registry.sets (namespaces_of c.args.set.registry.sets (areas_seen c.args.set.registry.areas)) (opened_by c.args.script.now) in
    let safe = subst (OpensApart c.args.set.registry.sets) c.in-Done.is c.in_ok-opened.ensures.safe in
    kept (λ answer. (outline : Outline) (contents : List (List ℕ)) → IsRecovered outline c.args.set → Shows held outline c.args.set contents → OnRecovered leaves sets (image_set_with outline contents) areas words c.args.script.now (outcome_with answer contents))
    c.opened_answer.result c.in_memory.result c.in_memory.ensures.same
    (if_more _ _ c.opened_answer.result
    (λ answer comes outline contents r shows.
    let opens = subst (OpensIn c.args.set.registry.sets contents places) c.in-Done.is (c.in_ok-opened.ensures.told contents shows.reveals) in
    serve_on leaves c.args.script.now (image_set_with outline contents) (outcome_with answer contents) sets areas words (Ok c.in-Done.opened)
    (ap (λ (cs : List (List ℕ)). opened_each c.args.set.registry.sets (rows_of cs) places) (contents_are outline contents) ∙ opens.0)
    (on_held (λ opened. Serves leaves serve_text sets (image_set_with outline contents) areas words opened c.args.script.now) (outcome_with answer contents) c.in-Done.opened opens.2
    (comes outline contents (record { recovered = r; each = safe.0; disjoint = safe.1 }) (record { sizes = shows.sizes; held = opens.1 }))))
    c.opened_answer.ensures.comes)

pub returns-in-Done-clause-sizes : goal.returns-in-Done-clause-sizes
returns-in-Done-clause-sizes g c = kept (HasSizes c.args.set.rest.sizes) c.opened_answer.result c.in_memory.result c.in_memory.ensures.same c.opened_answer.ensures.sizes

pub returns-in-Not-clause-comes : goal.returns-in-Not-clause-comes
returns-in-Not-clause-comes g c = λ outline contents r shows.
    let leaves = LeavesBy g.C.Chooser.begins g.C.Chooser.picks c.args.choose.now c.args.running.seed in
    let sets = c.args.set.registry.sets in
    let areas = areas_seen c.args.set.registry.areas in
    let words = label_rows c.args.set.registry.areas in
    let places = found_each c.args.set.registry.sets (namespaces_of c.args.set.registry.sets (areas_seen c.args.set.registry.areas)) (opened_by c.args.script.now) in
    let not = subst (OpensIn c.args.set.registry.sets contents places) c.in-Not.is (c.in_ok-opened.ensures.told contents shows.reveals) in
    serve_on leaves c.args.script.now (image_set_with outline contents) (outcome_with c.without_set.result contents) sets areas words (opened_each c.args.set.registry.sets (rows_of contents) places)
    (ap (λ (cs : List (List ℕ)). opened_each c.args.set.registry.sets (rows_of cs) places) (contents_are outline contents))
    (on_not (λ opened. Serves leaves serve_text sets (image_set_with outline contents) areas words opened c.args.script.now) (outcome_with c.without_set.result contents) (opened_each c.args.set.registry.sets (rows_of contents) places)
    (subst (λ (o : Outcome). IsNotOpen (opened_each c.args.set.registry.sets (rows_of contents) places) o) (sym (c.without_set.ensures.same contents)) not))

pub returns-in-Not-clause-sizes : goal.returns-in-Not-clause-sizes
returns-in-Not-clause-sizes g c = no_sizes c.args.set.rest.sizes c.without_set.result c.without_set.ensures.saved
