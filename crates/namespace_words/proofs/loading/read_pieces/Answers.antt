use Rattle.std.proofs.Common.{◌∙◌, Option, sym, subst, arith}
use Rattle.nvd_media.specs.Images.{Images}
use Rattle.arena_open.proofs.Groups.{pushed}
use Rattle.namespace_words.specs.Source.{Reveals}
use Rattle.namespace_words.proofs.loading.read_pieces.Goals as goal

pub loop-images-preserved : goal.loop-images-preserved
loop-images-preserved g c = record {
  below = (pushed c.in_ok-read_piece.field-0 _ c.if-is_err.ensures.value c.in_ok-read_piece.ensures.more).1;
  room = c.in_ok-read_piece.ensures.room ∙ c.loop-images.invariant.room;
  same = c.in_ok-read_piece.ensures.same ∙ c.loop-images.invariant.same;
  later = omega (arith, c.in_ok-read_piece.ensures.cause.later, c.loop-images.invariant.later);
  front = λ contents reveals front.
      pushed c.in_ok-read_piece.field-0 _ c.if-is_err.ensures.value
      (c.in_ok-read_piece.ensures.told contents (subst (λ (h : Option Images). Reveals h c.args.extent.now.set contents) (sym c.loop-images.invariant.same) reveals) (c.loop-images.invariant.front contents reveals front));
}

pub returns-clause-told : goal.returns-clause-told
returns-clause-told g c = λ contents reveals front. c.loop-images.invariant.front contents reveals front
