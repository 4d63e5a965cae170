use Rattle.std.proofs.Common.{◌≡◌, ◌++◌, ℕ, List, length, ap, ◌∙◌, arith}
use Rattle.session_service.specs.Ran.{texts_of}
use Rattle.shell_serve.specs.Texts.{session_line}
use Rattle.shell_serve.proofs.TextLines.{all_sessions, lines_text, of_replies, one_session}
use Rattle.shell_serve.proofs.texts.serve_text.Goals as goal

pub loop-q-preserved : goal.loop-q-preserved
loop-q-preserved c =
    let steps = c.in-Some.ensures.steps in
    let rest = c.next.new.self.iter.rest.items in
    let said = ap (λ (q : ℕ). session_line q ++ c.deref-in-loop-q.result.now) steps.1 ∙ ap (λ (lines : List ℕ). session_line c.loop-q.q-iterator.count ++ lines) c.deref-in-loop-q.ensures.value in
    ap (λ (q : ℕ). c.add_session.new.text.items ++ lines_text q (texts_of rest)) steps.2
    ∙ one_session c.loop-q.q-iterator.count c.in-Some.lines rest c.loop-q.q-iterator.iter.rest.items _ c.loop-q.text.items c.add_session.new.text.items _ steps.0.0 said c.in_ok-add_session.ensures c.loop-q.invariant

pub returns : goal.returns
returns c = λ replies are.
    let ok = c.loop-q.q-iterator.iter.rest.ok in
    let none : length c.loop-q.q-iterator.iter.rest.items ≡ 0 = omega (arith, c.in-None.ensures.steps.0.0, ok.0) in
    of_replies c.args.texts.items replies c.loop-q.text.items (all_sessions c.loop-q.q-iterator.count c.loop-q.q-iterator.iter.rest.items c.loop-q.text.items _ none c.loop-q.invariant) are
