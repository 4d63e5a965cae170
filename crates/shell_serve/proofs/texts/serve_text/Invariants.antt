use Rattle.std.proofs.Common.{◌≡◌, ◌++◌}
use Rattle.session_service.specs.Ran.{texts_of}
use Rattle.shell_serve.proofs.TextLines.{lines_text}
use Rattle.shell_serve.proofs.texts.serve_text.Given as goal

abbrev pub invariant-loop-q : goal.invariant-loop-q
invariant-loop-q l = l.text.items ++ lines_text l.q-iterator.count (texts_of l.q-iterator.iter.rest.items) ≡ lines_text 0 (texts_of l.fn.texts.items)
