use Rattle.session_account.proofs.CutEntries.{journals_leave_others}
use Rattle.session_account.proofs.law.journals_leave_others.Goals as goal

pub returns : goal.returns
returns c = journals_leave_others
