use Rattle.session_account.proofs.Keeping.{entries_keep}
use Rattle.session_account.proofs.law.entries_keep.Goals as goal

pub returns : goal.returns
returns c = entries_keep
