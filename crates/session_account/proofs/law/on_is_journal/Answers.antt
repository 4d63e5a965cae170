use Rattle.session_account.proofs.Registering.{on_is_journal}
use Rattle.session_account.proofs.law.on_is_journal.Goals as goal

pub returns : goal.returns
returns c = on_is_journal
