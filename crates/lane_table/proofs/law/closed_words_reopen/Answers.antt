use Rattle.lane_table.proofs.Reopens.{closed_words_reopen}
use Rattle.lane_table.proofs.law.closed_words_reopen.Goals as goal

pub returns : goal.returns
returns c = closed_words_reopen
