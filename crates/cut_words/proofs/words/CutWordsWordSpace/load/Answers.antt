use Rattle.std.proofs.Common.{sym, ◌∙◌}
use Rattle.cut_words.proofs.OneStep.{loads_pending, loads_kept}
use Rattle.cut_words.proofs.words.CutWordsWordSpace.load.Goals as goal

pub returns-then-get : goal.returns-then-get
returns-then-get c =
    loads_pending c.self.inside.kept.items c.self.inside.pending c.self.inside.stored c.args.self.now c.args.i c.get-then-get.result c.self.view_is c.self.invariant.0 c.self.invariant.1 c.requires
    (sym c.get.ensures ∙ c.if-get.true) c.get-then-get.ensures

pub returns-else-get : goal.returns-else-get
returns-else-get c =
    loads_kept c.self.inside.kept.items c.self.inside.pending c.self.inside.stored c.args.self.now c.args.i c.index.result.now c.self.view_is c.self.invariant.0 c.self.invariant.1 c.requires
    (sym c.get.ensures ∙ c.if-get.false) c.index.ensures
