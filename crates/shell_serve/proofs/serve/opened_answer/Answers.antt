use Rattle.std.proofs.Common.{◌≡◌, ◌∙◌, ℕ, List, length, sym, ap, subst}
use Rattle.image_set.specs.declared.changing.OutlineRest.{OutlineRest}
use Rattle.image_set.specs.declared.outline.Outline.{Outline}
use Rattle.image_set.specs.Outline.{IsOutlineRest, image_set_with}
use Rattle.namespace_areas.specs.Seen.{areas_seen}
use Rattle.namespace_areas.specs.Steps.{rows_of as label_rows}
use Rattle.shell_changes.specs.declared.answer.Answer.{Answer}
use Rattle.shell_changes.specs.Answers.{HasSizes, outcome_with}
use Rattle.shell_changes.specs.Remains.{LeavesBy}
use Rattle.shell_changes.specs.Saved.{AreWholeSizes}
use Rattle.shell_reports.specs.Outcome.{Outcome}
use Rattle.shell_reports.proofs.More.{if_more}
use Rattle.shell_serve.specs.Answering.{HoldsIn, IsOpen}
use Rattle.shell_serve.specs.Chosen.{LeavesTo}
use Rattle.shell_serve.specs.Saving.{LeavesOn, SavesLeft}
use Rattle.shell_serve.specs.Serving.{Serves}
use Rattle.shell_serve.specs.Texts.{serve_text}
use Rattle.shell_serve.proofs.Choosing.{joined}
use Rattle.shell_serve.proofs.Coming.{serves}
use Rattle.shell_serve.proofs.Saves.{sizes_left}
use Rattle.shell_serve.proofs.serve.opened_answer.Goals as goal

pub left_answer-requires-clause-rest : goal.left_answer-requires-clause-rest
left_answer-requires-clause-rest g c = subst (λ (r : OutlineRest). IsOutlineRest r) (sym c.in_ok-served.ensures.rest) c.requires.open.1.recovered.opened.is_rest

pub left_answer-requires-clause-sizes : goal.left_answer-requires-clause-sizes
left_answer-requires-clause-sizes g c = subst (λ (r : OutlineRest). AreWholeSizes r.sizes) (sym c.in_ok-served.ensures.rest) c.requires.open.1.recovered.opened.sizes

pub left_answer-requires-clause-count : goal.left_answer-requires-clause-count
left_answer-requires-clause-count g c = c.in_ok-served.ensures.count ∙ c.requires.open.1.recovered.count ∙ ap (λ (r : OutlineRest). length r.sizes) (sym c.in_ok-served.ensures.rest)

pub returns-clause-comes : goal.returns-clause-comes
returns-clause-comes g c =
    let leaves = LeavesBy g.C.Chooser.begins g.C.Chooser.picks c.args.choose.now c.args.running.seed in
    if_more _ (λ (answer : Answer). (outline : Outline) (contents : List (List ℕ)) → IsOpen outline c.args.set c.args.opened → HoldsIn outline c.args.set contents c.args.opened
    → Serves leaves serve_text c.args.set.registry.sets (image_set_with outline contents) (areas_seen c.args.set.registry.areas) (label_rows c.args.set.registry.areas) c.args.opened c.args.script.now (outcome_with answer contents)) c.left_answer.result
    (λ answer saves outline contents is holds.
    let served = c.in_ok-served.ensures.served outline contents is holds in
    serves leaves (LeavesTo g.C.Chooser.begins g.C.Chooser.picks c.args.choose.now c.args.running.seed c.serve_opened.new.choose) (LeavesOn g.C.Chooser.picks c.serve_opened.new.choose)
    (joined g.C.Chooser.picks g.C.Chooser.begins c.args.choose.now c.serve_opened.new.choose c.args.running.seed) (serve_text) outline c.args.set is.recovered contents c.args.opened c.args.script.now c.in_ok-served.served.patch c.in_ok-served.served.areas.items
    c.in_ok-served.served.texts.items served c.printed_answer.result answer (ap (λ (o : Outcome). o.ending) c.printed_answer.ensures)
    (ap (λ (o : Outcome). o.text) c.printed_answer.ensures ∙ c.in_ok-text.ensures served.replies served.texts)
    (subst (λ (r : OutlineRest). SavesLeft (LeavesOn g.C.Chooser.picks c.serve_opened.new.choose) c.printed_answer.result c.in_ok-served.served.areas.items r c.in_ok-served.served.patch answer) c.in_ok-served.ensures.rest saves))
    c.left_answer.ensures

pub returns-clause-sizes : goal.returns-clause-sizes
returns-clause-sizes g c =
    if_more _ (HasSizes c.args.set.rest.sizes) c.left_answer.result
    (λ answer saves. sizes_left c.printed_answer.result c.in_ok-served.served.areas.items c.in_ok-served.served.rest c.args.set.rest c.in_ok-served.served.patch answer c.in_ok-served.ensures.rest saves)
    c.left_answer.ensures
