use Rattle.session_account.proofs.Registering.{answers_make_entries}
use Rattle.session_account.proofs.law.answers_make_entries.Goals as goal

pub returns : goal.returns
returns c = answers_make_entries
