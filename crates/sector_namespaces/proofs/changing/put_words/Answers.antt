use Rattle.std.proofs.Common.{◌+◌, ◌∙◌, get_or, ap, arith}
use Rattle.std.proofs.Math.ListN.{set}
use Rattle.std.proofs.lemmas.List.Edits.{paste_more}
use Rattle.cut_words.specs.Words.{Words, settled}
use Rattle.sector_namespaces.proofs.changing.put_words.Goals as goal

pub loop-i-preserved : goal.loop-i-preserved
loop-i-preserved g c =
    let first = (g.W.WordSpace.words c.args.space.now).kept in
    record {
      put = c.put_word.ensures.put
          ∙ ap (λ (w : Words). settled (set w.kept (c.args.first + c.loop-i.i) (get_or c.args.words.now c.loop-i.i 0))) c.loop-i.invariant.put
          ∙ ap settled (paste_more (g.W.WordSpace.words c.args.space.now).kept c.args.first c.args.words.now c.loop-i.i 0 (omega (arith, c.loop-i-test.true, c.requires.inside)) (omega (arith, c.loop-i-test.true)));
      beside = c.put_word.ensures.beside ∙ c.loop-i.invariant.beside;
    }
