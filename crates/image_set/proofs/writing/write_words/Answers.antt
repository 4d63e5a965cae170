use Rattle.std.proofs.Common.{Ok, ◌-◌, ◌*◌, min, take, drop, length, sym, ap, ◌∙◌, arith}
use Rattle.std.proofs.lemmas.List.{length-take-le}
use Rattle.nvd_media.specs.Images.{with_more}
use Rattle.cut_words.specs.WordBytes.{bytes_of}
use Rattle.image_set.proofs.Adding.{adds_as, adds_then, ends_at, more_alike, piece_added}
use Rattle.image_set.proofs.writing.write_words.Goals as goal

pub write_piece-requires-in-loop-at-clause-end : goal.write_piece-requires-in-loop-at-clause-end
write_piece-requires-in-loop-at-clause-end g c = λ set told.
    ap (λ n. 8 * n) (sym (length-take-le c.loop-at.at c.args.words.now c.loop-at.invariant.within))
    ∙ ends_at (g.K.ImageSink.made c.args.out.now) (g.K.ImageSink.made c.loop-at.out) (g.K.ImageSink.kept c.args.out.now) (g.K.ImageSink.kept c.loop-at.out)
    (g.K.ImageSink.faults c.args.out.now) (g.K.ImageSink.faults c.loop-at.out) c.loop-at.at c.args.object (take c.loop-at.at c.args.words.now) c.requires.absent c.loop-at.invariant.adds set told

pub loop-at-preserved : goal.loop-at-preserved
loop-at-preserved g c =
    let out = c.write_piece-in-loop-at.new.out in
    let words = c.args.words.now in
    let object = c.args.object in
    let at = c.loop-at.at in
    let count = min 32768 (length words - at) in
    let next = c.in_ok-at-2.at in
    record {
      within = let n = c.in_ok-at-2.ensures.next in let w = c.loop-at.invariant.within in omega (arith, n, w);
      room = c.in_ok-at-2.ensures.room;
      adds = adds_as (g.K.ImageSink.made c.args.out.now) (g.K.ImageSink.made out) (g.K.ImageSink.kept c.args.out.now) (g.K.ImageSink.kept out)
          (g.K.ImageSink.faults c.args.out.now) (g.K.ImageSink.faults out) (Ok next)
          (λ set. with_more (with_more set object (bytes_of (take at words))) object (bytes_of (take count (drop at words)))) (λ set. with_more set object (bytes_of (take next words)))
          (λ set other. piece_added object words at count set other ∙ ap (λ n. with_more set object (bytes_of (take n words)) other) (sym c.in_ok-at-2.ensures.next))
          (adds_then (g.K.ImageSink.made c.args.out.now) (g.K.ImageSink.made c.loop-at.out) (g.K.ImageSink.made out)
          (g.K.ImageSink.kept c.args.out.now) (g.K.ImageSink.kept c.loop-at.out) (g.K.ImageSink.kept out)
          (g.K.ImageSink.faults c.args.out.now) (g.K.ImageSink.faults c.loop-at.out) (g.K.ImageSink.faults out) at (Ok next)
          (λ set. with_more set object (bytes_of (take at words))) (λ set. with_more set object (bytes_of (take count (drop at words))))
          (more_alike object (bytes_of (take count (drop at words)))) c.loop-at.invariant.adds c.in_ok-at-2.ensures.adds);
    }
