use Rattle.namespace_laws.proofs.First as cut
use Rattle.namespace_laws.proofs.changing.delete_is_cut.Goals as goal

pub returns-clause-left : goal.returns-clause-left
returns-clause-left c = cut.delete_is_cut

pub returns-clause-alone : goal.returns-clause-alone
returns-clause-alone c sets areas uuid e regions read is status good one steps stays = cut.delete_is_cut_alone sets areas uuid e regions read is status good one steps stays

pub returns-clause-any : goal.returns-clause-any
returns-clause-any c = cut.any_delete_is_cut
