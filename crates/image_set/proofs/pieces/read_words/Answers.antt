use Rattle.std.proofs.Common.{◌≡◌, length, take, drop, arith, ap, ◌∙◌}
use Rattle.std.proofs.lemmas.List.{length-take-le}
use Rattle.nvd_media.specs.Images.{bytes_of as bytes_in}
use Rattle.image_set.proofs.Eights.{piece_more}
use Rattle.image_set.proofs.pieces.read_words.Goals as goal

pub loop-at-preserved : goal.loop-at-preserved
loop-at-preserved g c =
    let room = c.loop-at.invariant.room in
    let lent = c.deref_mut.ensures.len in
    let least = c.min-count.ensures in
    let piece : length (take c.min-count.result c.deref_mut.result.now) ≡ c.min-count.result = length-take-le c.min-count.result c.deref_mut.result.now (omega arith) in
    record {
      same = c.read.ensures.same ∙ c.loop-at.invariant.same;
      later = let a = c.read.ensures.cause.later in let b = c.loop-at.invariant.later in omega arith;
      room = c.loop-at.invariant.room;
      whole = omega arith;
      within = omega arith;
      count = let a = c.in_ok-push_words.ensures.count in let b = c.read.auto.into in omega arith;
      told = λ set told.
          piece_more c.loop-at.words.items c.push_words.new.words.items c.read.new.into (bytes_in set c.args.object) c.loop-at.at c.min-count.result c.in_ok-push_words.ensures.bytes
          (c.in_ok-read.ensures.told set (c.loop-at.invariant.same ∙ told) ∙ ap (λ n. take n (drop c.loop-at.at (bytes_in set c.args.object))) piece) (c.loop-at.invariant.told set told);
    }
