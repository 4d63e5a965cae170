use Rattle.session_account.proofs.Registering.{off_is_journal}
use Rattle.session_account.proofs.law.off_is_journal.Goals as goal

pub returns : goal.returns
returns c = off_is_journal
