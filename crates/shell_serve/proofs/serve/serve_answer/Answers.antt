use Rattle.std.proofs.Common.{◌∙◌, ℕ, List, length, sym, subst}
use Rattle.std.specs.Prelude.{IfOk}
use Rattle.image_set.specs.declared.changing.OutlineRest.{OutlineRest}
use Rattle.image_set.specs.declared.outline.Outline.{Outline}
use Rattle.image_set.specs.Outline.{HasContents, contents_in, image_set_with}
use Rattle.shell_reports.proofs.More.{if_both}
use Rattle.shell_changes.specs.declared.answer.Answer.{Answer}
use Rattle.shell_changes.specs.Answers.{HasSizes, outcome_with}
use Rattle.shell_changes.specs.Remains.{LeavesBy}
use Rattle.shell_changes.proofs.Remains.{no_sizes}
use Rattle.shell_serve.specs.declared.recovered.SetRecovered.{SetRecovered}
use Rattle.shell_serve.specs.Answering.{AnswersFrom}
use Rattle.shell_serve.specs.Recovered.{RecoversIn}
use Rattle.shell_serve.specs.Serve.{ServeComes}
use Rattle.shell_serve.proofs.Coming.{serve_faulty, serve_recovered}
use Rattle.shell_serve.proofs.Opens.{outlined, shown, sizes_of}
use Rattle.shell_serve.proofs.serve.serve_answer.Goals as goal

pub recovered_answer-requires-clause-recovered : goal.recovered_answer-requires-clause-recovered
recovered_answer-requires-clause-recovered g c = λ κs lives. (c.args.outline, subst (RecoversIn c.args.outline) c.in-Ok-Done.field-0-is c.in-Ok-Done.ensures)

pub recovered_answer-requires-clause-there : goal.recovered_answer-requires-clause-there
recovered_answer-requires-clause-there g c = λ κs lives. outlined c.args.outline c.in-Ok-Done.set (subst (RecoversIn c.args.outline) c.in-Ok-Done.field-0-is c.in-Ok-Done.ensures) (g.S.ImageSource.held c.args.images.now) c.requires.there

pub returns-in-Ok-Done-clause-comes : goal.returns-in-Ok-Done-clause-comes
returns-in-Ok-Done-clause-comes g c =
    let leaves = LeavesBy g.C.Chooser.begins g.C.Chooser.picks c.args.choose.now c.args.running.seed in
    let held = g.S.ImageSource.held c.args.images.now in
    let r = subst (RecoversIn c.args.outline) c.in-Ok-Done.field-0-is c.in-Ok-Done.ensures in
    if_both _ (HasSizes c.in-Ok-Done.set.rest.sizes) (AnswersFrom (ServeComes leaves c.args.script.now) held c.args.outline) c.recovered_answer.result
    (λ answer comes sizes. record {
      comes = λ source told.
          let cs = contents_in source (length c.args.outline.sizes) in
          serve_recovered leaves c.args.script.now (image_set_with c.args.outline cs) (outcome_with answer cs) c.in-Ok-Done.set (r.is cs)
          (comes c.args.outline cs r (shown c.args.outline c.in-Ok-Done.set r held source told (outlined c.args.outline c.in-Ok-Done.set r held c.requires.there source told)));
      sizes = sizes_of c.args.outline c.in-Ok-Done.set r answer sizes;
    })
    c.recovered_answer.ensures.comes c.recovered_answer.ensures.sizes

pub returns-in-Ok-Not-clause-comes : goal.returns-in-Ok-Not-clause-comes
returns-in-Ok-Not-clause-comes g c =
    let leaves = LeavesBy g.C.Chooser.begins g.C.Chooser.picks c.args.choose.now c.args.running.seed in
    let faulty = subst (RecoversIn c.args.outline) c.in-Ok-Not.field-0-is c.in-Ok-Not.ensures in
    record {
      comes = λ source told.
          let cs = contents_in source (length c.args.outline.sizes) in
          serve_faulty leaves c.args.script.now (image_set_with c.args.outline cs) (outcome_with c.without_set.result cs) faulty.0 (faulty.1 cs) (c.without_set.ensures.same cs ∙ faulty.2);
      sizes = no_sizes c.args.outline.sizes c.without_set.result c.without_set.ensures.saved;
    }
