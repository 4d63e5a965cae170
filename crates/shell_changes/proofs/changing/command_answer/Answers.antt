use Rattle.std.proofs.Common.{◌≡◌, ◌∙◌, ℕ, List, None}
use Rattle.std.proofs.lemmas.List.{length-map}
use Rattle.namespace_map.specs.Commands.{refusal_of}
use Rattle.namespace_areas.specs.Seen.{words_of}
use Rattle.namespace_areas.specs.Refusals.{shown}
use Rattle.namespace_ops.specs.Counted.{makes_sectors}
use Rattle.shell_reports.proofs.More.{if_both, if_more}
use Rattle.shell_changes.specs.declared.answer.Answer.{Answer}
use Rattle.shell_changes.specs.Answers.{outcome_with}
use Rattle.shell_changes.specs.Going.{GoesOn}
use Rattle.shell_changes.specs.Remains.{LeavesBy}
use Rattle.shell_changes.specs.Rest.{HoldSets, objects_for, words_for}
use Rattle.shell_changes.proofs.Counted.{goes_on}
use Rattle.shell_changes.proofs.Runs.{count_same, refused_is, runs_given}
use Rattle.shell_changes.proofs.changing.command_answer.Goals as goal

pub reply_answer-requires-clause-areas : goal.reply_answer-requires-clause-areas
reply_answer-requires-clause-areas g c =
    let ran = c.in_ok-ran.ran in
    record {
      rest_is = c.requires.run.rest_is;
      whole = c.requires.run.whole;
      count = length-map ran.areas.items words_of
          ∙ count_same c.args.registry.sets c.args.registry.areas ran.areas.items c.args.fuse c.run_command.new.fuse c.args.change.now ran.reply c.in_ok-ran.ensures.runs ∙ c.requires.run.count;
    }

pub reply_answer-requires-clause-given : goal.reply_answer-requires-clause-given
reply_answer-requires-clause-given g c = λ cut none.
    let ran = c.in_ok-ran.ran in
    runs_given c.args.registry.sets c.args.registry.areas ran.areas.items c.args.fuse c.run_command.new.fuse c.args.change.now ran.reply c.in_ok-ran.ensures.runs
    cut (c.requires.given none)

pub returns-clause-refused : goal.returns-clause-refused
returns-clause-refused g c =
    let ran = c.in_ok-ran.ran in
    if_more _ _ c.reply_answer.result
    (λ answer said contents.
    refused_is c.args.registry.sets c.args.registry.areas ran.areas.items c.args.fuse c.run_command.new.fuse c.args.change.now ran.reply c.in_ok-ran.ensures.runs
    (outcome_with answer contents) (λ f err other. said f err other contents))
    c.reply_answer.ensures.refused

pub returns-clause-went : goal.returns-clause-went
returns-clause-went g c =
    let begins = g.C.Chooser.begins in
    let picks = g.C.Chooser.picks in
    let ran = c.in_ok-ran.ran in
    let h = c.args.registry in
    let change = c.args.change.now in
    if_both _ _ (λ (answer : Answer). (contents : List (List ℕ)) → HoldSets h.sets contents → refusal_of (shown h.sets h.areas) change ≡ None
    → GoesOn (LeavesBy begins picks c.args.choose.now) (objects_for (makes_sectors change) c.args.rest contents) c.args.power h.sets h.areas (words_for (makes_sectors change) contents) c.args.fuse change (outcome_with answer contents)) c.reply_answer.result
    (λ answer done cut contents holds none.
    goes_on begins picks c.args.power c.args.choose.now answer contents c.args.rest h.sets h.areas ran.areas.items c.args.fuse c.run_command.new.fuse change ran.reply c.in_ok-ran.ensures.runs ran.begun done cut none holds
    (c.in_ok-ran.ensures.begins none))
    c.reply_answer.ensures.done c.reply_answer.ensures.cut
