use Rattle.std.proofs.Common.{sym, subst}
use Rattle.std.specs.Prelude.{IfOk, IsTrue}
use Rattle.shell_changes.specs.declared.answer.Answer.{Answer}
use Rattle.shell_changes.specs.Saved.{copies_contents}
use Rattle.shell_run.specs.declared.words.CommandLine.{CommandLine}
use Rattle.shell_run.specs.Run.{copies}
use Rattle.shell_run.proofs.top.perform_scripted.Goals as goal

pub returns-in-Replay-clause-copying : goal.returns-in-Replay-clause-copying
returns-in-Replay-clause-copying g c =
    subst (λ (command : CommandLine). IfOk c.perform_replay.result (λ (answer : Answer). IsTrue (copies_contents answer.saved) → IsTrue (copies command))) (sym c.in-Replay.is) c.perform_replay.ensures.copying

pub returns-in-Import-clause-copying : goal.returns-in-Import-clause-copying
returns-in-Import-clause-copying g c =
    subst (λ (command : CommandLine). IfOk c.perform_import.result (λ (answer : Answer). IsTrue (copies_contents answer.saved) → IsTrue (copies command))) (sym c.in-Import.is) c.perform_import.ensures.copying
