use Rattle.std.proofs.Common.{◌≡◌, ◌∙◌, List, Option, None, Ok, Err, ap, sym, subst}
use Rattle.std.specs.Prelude.{map}
use Rattle.namespace_map.specs.declared.refused.OpRefused.{OpRefused}
use Rattle.namespace_map.specs.declared.refused.OpRefused.TheVariants.{PowerCut}
use Rattle.namespace_areas.specs.Seen.{words_of}
use Rattle.shell_reports.specs.declared.status.Ending.TheVariants as ending
use Rattle.shell_reports.specs.Cut.{cut_text, done_text}
use Rattle.shell_reports.proofs.More.{if_more}
use Rattle.shell_changes.specs.declared.answer.Answer.{Answer}
use Rattle.shell_changes.specs.declared.saving.Remains.{Remains}
use Rattle.cut_words.specs.Words.{Words}
use Rattle.shell_changes.specs.Answers.{HasSizes}
use Rattle.shell_reports.specs.Faults.{refusal_text, refused_outcome}
use Rattle.shell_changes.specs.Remains.{AnswersCut, AnswersDone, CanLeave, SavesLeft, remains_of}
use Rattle.shell_changes.proofs.Remains.{leave_as, no_sizes, sizes_left}
use Rattle.shell_changes.proofs.Runs.{err_same}
use Rattle.shell_changes.proofs.changing.reply_answer.Goals as goal

pub done_answer-requires : goal.done_answer-requires
done_answer-requires g c =
    let is : c.remaining-remains.result ≡ remains_of c.args.rest (map words_of c.args.ran.areas.items) c.args.ran.begun = c.remaining-remains.ensures ∙ ap (λ (ls : List (Option Words)). remains_of c.args.rest ls c.args.ran.begun) c.in_ok-labels.ensures in
    subst CanLeave (sym is) (leave_as c.args.rest (map words_of c.args.ran.areas.items) c.args.ran.begun c.requires.areas c.requires.arena)

pub cut_answer-requires-clause-can : goal.cut_answer-requires-clause-can
cut_answer-requires-clause-can g c =
    let is : c.remaining-remains.result ≡ remains_of c.args.rest (map words_of c.args.ran.areas.items) c.args.ran.begun = c.remaining-remains.ensures ∙ ap (λ (ls : List (Option Words)). remains_of c.args.rest ls c.args.ran.begun) c.in_ok-labels.ensures in
    subst CanLeave (sym is) (leave_as c.args.rest (map words_of c.args.ran.areas.items) c.args.ran.begun c.requires.areas c.requires.arena)

pub cut_answer-requires-clause-given : goal.cut_answer-requires-clause-given
cut_answer-requires-clause-given g c =
    c.requires.given (subst (λ (f : OpRefused). c.args.ran.reply ≡ Err f) (c.is_cut.ensures.cut c.if-is_cut.true) c.in-Err.is)

pub returns-in-Ok-clause-done : goal.returns-in-Ok-clause-done
returns-in-Ok-clause-done g c =
    let picks = g.C.Chooser.picks in
    let due = remains_of c.args.rest (map words_of c.args.ran.areas.items) c.args.ran.begun in
    let is : c.remaining-remains.result ≡ due = c.remaining-remains.ensures ∙ ap (λ (ls : List (Option Words)). remains_of c.args.rest ls c.args.ran.begun) c.in_ok-labels.ensures in
    if_more (AnswersDone picks c.remaining-remains.result c.args.choose.now) (λ (answer : Answer). c.args.ran.reply ≡ Ok tt → AnswersDone picks due c.args.choose.now answer) c.done_answer.result
    (λ answer done _. subst (λ (r : Remains). AnswersDone picks r c.args.choose.now answer) is done) c.done_answer.ensures

pub returns-in-Ok-clause-cut : goal.returns-in-Ok-clause-cut
returns-in-Ok-clause-cut g c =
    if_more (AnswersDone g.C.Chooser.picks c.remaining-remains.result c.args.choose.now) _ c.done_answer.result (λ answer done is. absurd (let e = sym c.in-Ok.is ∙ is in cc)) c.done_answer.ensures

pub returns-in-Ok-clause-refused : goal.returns-in-Ok-clause-refused
returns-in-Ok-clause-refused g c =
    if_more (AnswersDone g.C.Chooser.picks c.remaining-remains.result c.args.choose.now) _ c.done_answer.result (λ answer done f is other. absurd (let e = sym c.in-Ok.is ∙ is in cc)) c.done_answer.ensures

pub returns-in-Ok-clause-sizes : goal.returns-in-Ok-clause-sizes
returns-in-Ok-clause-sizes g c =
    let picks = g.C.Chooser.picks in
    let due = remains_of c.args.rest (map words_of c.args.ran.areas.items) c.args.ran.begun in
    let is : c.remaining-remains.result ≡ due = c.remaining-remains.ensures ∙ ap (λ (ls : List (Option Words)). remains_of c.args.rest ls c.args.ran.begun) c.in_ok-labels.ensures in
    if_more (AnswersDone picks c.remaining-remains.result c.args.choose.now) (HasSizes c.args.rest.sizes) c.done_answer.result
    (λ answer done. sizes_left picks ending.Done done_text answer c.args.choose.now done.after c.args.rest (map words_of c.args.ran.areas.items) c.args.ran.begun
    (subst (λ (r : Remains). SavesLeft picks ending.Done done_text r answer c.args.choose.now done.after) is done.saved))
    c.done_answer.ensures

pub returns-then-is_cut-clause-done : goal.returns-then-is_cut-clause-done
returns-then-is_cut-clause-done g c =
    if_more (AnswersCut g.C.Chooser.begins g.C.Chooser.picks c.args.power c.remaining-remains.result c.args.choose.now) _ c.cut_answer.result (λ answer cut is. absurd (let e = sym c.in-Err.is ∙ is in cc)) c.cut_answer.ensures

pub returns-then-is_cut-clause-cut : goal.returns-then-is_cut-clause-cut
returns-then-is_cut-clause-cut g c =
    let begins = g.C.Chooser.begins in
    let picks = g.C.Chooser.picks in
    let due = remains_of c.args.rest (map words_of c.args.ran.areas.items) c.args.ran.begun in
    let is : c.remaining-remains.result ≡ due = c.remaining-remains.ensures ∙ ap (λ (ls : List (Option Words)). remains_of c.args.rest ls c.args.ran.begun) c.in_ok-labels.ensures in
    if_more (AnswersCut begins picks c.args.power c.remaining-remains.result c.args.choose.now) (λ (answer : Answer). c.args.ran.reply ≡ Err PowerCut → AnswersCut begins picks c.args.power due c.args.choose.now answer) c.cut_answer.result
    (λ answer cut _. subst (λ (r : Remains). AnswersCut begins picks c.args.power r c.args.choose.now answer) is cut) c.cut_answer.ensures

pub returns-then-is_cut-clause-refused : goal.returns-then-is_cut-clause-refused
returns-then-is_cut-clause-refused g c =
    let cut : c.in-Err.refused ≡ PowerCut = c.is_cut.ensures.cut c.if-is_cut.true in
    if_more (AnswersCut g.C.Chooser.begins g.C.Chooser.picks c.args.power c.remaining-remains.result c.args.choose.now) _ c.cut_answer.result
    (λ answer it f is other. absurd (other (err_same f c.in-Err.refused (sym is ∙ c.in-Err.is) ∙ cut))) c.cut_answer.ensures

pub returns-then-is_cut-clause-sizes : goal.returns-then-is_cut-clause-sizes
returns-then-is_cut-clause-sizes g c =
    let begins = g.C.Chooser.begins in
    let picks = g.C.Chooser.picks in
    let due = remains_of c.args.rest (map words_of c.args.ran.areas.items) c.args.ran.begun in
    let is : c.remaining-remains.result ≡ due = c.remaining-remains.ensures ∙ ap (λ (ls : List (Option Words)). remains_of c.args.rest ls c.args.ran.begun) c.in_ok-labels.ensures in
    if_more (AnswersCut begins picks c.args.power c.remaining-remains.result c.args.choose.now) (HasSizes c.args.rest.sizes) c.cut_answer.result
    (λ answer cut. sizes_left picks ending.PowerCut (cut_text cut.steps) answer cut.begun cut.after c.args.rest (map words_of c.args.ran.areas.items) c.args.ran.begun
    (subst (λ (r : Remains). SavesLeft picks ending.PowerCut (cut_text cut.steps) r answer cut.begun cut.after) is cut.saved))
    c.cut_answer.ensures

pub returns-else-is_cut-clause-done : goal.returns-else-is_cut-clause-done
returns-else-is_cut-clause-done g c = if_more _ _ c.refusing_answer.result (λ answer none is. absurd (let e = sym c.in-Err.is ∙ is in cc)) c.refusing_answer.ensures.saved

pub returns-else-is_cut-clause-cut : goal.returns-else-is_cut-clause-cut
returns-else-is_cut-clause-cut g c =
    if_more _ _ c.refusing_answer.result (λ answer none is. absurd (c.is_cut.ensures.not_cut c.if-is_cut.false (err_same c.in-Err.refused PowerCut (sym c.in-Err.is ∙ is)))) c.refusing_answer.ensures.saved

pub returns-else-is_cut-clause-refused : goal.returns-else-is_cut-clause-refused
returns-else-is_cut-clause-refused g c =
    if_more _ _ c.refusing_answer.result (λ answer said f is other contents. said contents ∙ ap (λ (r : OpRefused). refused_outcome (refusal_text r)) (err_same c.in-Err.refused f (sym c.in-Err.is ∙ is))) c.refusing_answer.ensures.text

pub returns-else-is_cut-clause-sizes : goal.returns-else-is_cut-clause-sizes
returns-else-is_cut-clause-sizes g c =
    if_more (λ (answer : Answer). answer.saved ≡ None) (HasSizes c.args.rest.sizes) c.refusing_answer.result (λ answer none. no_sizes c.args.rest.sizes answer none) c.refusing_answer.ensures.saved
