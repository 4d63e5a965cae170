use Rattle.cut_words.proofs.OneStep.{is_pending}
use Rattle.cut_words.proofs.words.CutWords.pending.Goals as goal

pub returns : goal.returns
returns c = is_pending c.self.inside.kept.items c.self.inside.pending c.self.inside.stored c.args.self.now c.args.i c.get.result c.self.view_is c.self.invariant.0 c.self.invariant.1 c.requires c.get.ensures
