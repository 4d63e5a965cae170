use Rattle.std.proofs.Common.{ℕ, List, ◌++◌, sym, ap, ◌∙◌, subst}
use Rattle.session_account.specs.Parts.{more}
use Rattle.session_texts.specs.Texts.{reply_text}
use Rattle.session_texts.proofs.Adding.{replies_more}
use Rattle.session_service.specs.declared.runner.Runner.{Runner}
use Rattle.session_service.specs.Runners.{IsAt, IsDone}
use Rattle.session_service.proofs.Steps as steps
use Rattle.session_service.proofs.running.note.Goals as goal

pub add_line-requires : goal.add_line-requires
add_line-requires g c = c.requires.3.memory

pub returns-then-cut-clause-ended : goal.returns-then-cut-clause-ended
returns-then-cut-clause-ended g c = λ no script q replies h.
    let service = c.args.service.now in
    let answer = c.args.reply in
    let r = c.args.runner.now in
    let after = c.add_line.new.runner in
    let line = c.add_line.ensures in
    let done : IsDone service script q (more replies answer) after =
    subst (λ (x : Runner). IsDone service script q (more replies answer) x) (sym line.same)
    (steps.same_done_at service script q (more replies answer) r after.text after.refused after.words (h.goes.ended (sym c.is_cut-cut.ensures ∙ c.if-cut.true))) in
    record {
      number = done.knows.know.seated.number;
      rests = done.rests;
      done = λ lasted. record {
        replies = more replies answer;
        said = line.said lasted ∙ ap (λ (text : List ℕ). text ++ reply_text answer) h.said ∙ sym (replies_more replies answer);
        done = done;
      };
    }

pub rest_session-requires : goal.rest_session-requires
rest_session-requires g c =
    let service = c.args.service.now in
    let answer = c.args.reply in
    let script = c.requires.0 in
    let q = c.requires.1 in
    let replies = c.requires.2 in
    let h = c.requires.3 in
    let after = c.add_line.new.runner in (
      script,
      q,
      more replies answer,
      subst (λ (x : Runner). IsAt service script q (more replies answer) x) (sym c.add_line.ensures.same)
          (steps.same_at service script q (more replies answer) c.args.runner.now after.text after.refused after.words (h.goes.on (sym c.is_cut-cut.ensures ∙ c.if-cut.false))),
    )

pub returns-clause-on : goal.returns-clause-on
returns-clause-on g c = λ yes script q replies h.
    let service = c.args.service.now in
    let answer = c.args.reply in
    let after = c.add_line.new.runner in
    let line = c.add_line.ensures in
    record {
      laid = h.laid;
      at =
          subst (λ (x : Runner). IsAt service script q (more replies answer) x) (sym line.same)
          (steps.same_at service script q (more replies answer) c.args.runner.now after.text after.refused after.words (h.goes.on (sym c.is_cut-cut.ensures ∙ c.if-cut.false)));
      short = h.short;
      text = h.text;
      said = line.said c.if-full.false ∙ ap (λ (text : List ℕ). text ++ reply_text answer) h.said ∙ sym (replies_more replies answer);
      memory = c.if-full.false;
    }
