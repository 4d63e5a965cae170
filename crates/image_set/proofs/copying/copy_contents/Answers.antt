use Rattle.std.proofs.Common.{◌+◌, ◌-◌, min, Ok, arith, refl, sym, ◌∙◌, subst}
use Rattle.image_set.specs.declared.fault.CopyStop.{CopyStop}
use Rattle.image_set.specs.Outline.{CopiesRow}
use Rattle.image_set.proofs.Copied.{row_as, row_ends, row_more}
use Rattle.image_set.proofs.copying.copy_contents.Goals as goal

pub copy_piece-requires-clause-part : goal.copy_piece-requires-clause-part
copy_piece-requires-clause-part g c = record {
  within = omega arith;
  there = c.requires.there;
  end = λ set told. sym (rw (c.requires.absent set told) refl);
}

pub copy_piece-requires-in-loop-at-clause-part : goal.copy_piece-requires-in-loop-at-clause-part
copy_piece-requires-in-loop-at-clause-part g c = record {
  within = c.loop-at.invariant.within;
  there = λ set told. c.requires.there set (sym c.loop-at.invariant.same ∙ told);
  end = row_ends (g.P.Patch.patched c.args.patch.now) (g.S.ImageSource.held c.args.images.now) c.args.contents.«module» c.loop-at.at (g.K.ImageSink.made c.args.out.now) (g.K.ImageSink.made c.loop-at.out)
      (g.K.ImageSink.kept c.args.out.now) (g.K.ImageSink.kept c.loop-at.out) c.loop-at.at c.requires.absent c.loop-at.invariant.copied;
}

pub loop-at-preserved : goal.loop-at-preserved
loop-at-preserved g c =
    let made = g.K.ImageSink.made in
    let kept = g.K.ImageSink.kept in
    let held = g.S.ImageSource.held in
    let images = c.copy_piece-in-loop-at.new.images in
    let out = c.copy_piece-in-loop-at.new.out in
    let at = c.loop-at.at in
    let count = min 262144 (c.args.contents.bytes - at) in
    let next = c.in_ok-at-2.at in
    record {
      within = let n = c.in_ok-at-2.ensures.next in let w = c.loop-at.invariant.within in omega (arith, n, w);
      room = c.in_ok-at-2.ensures.room;
      same = c.in_ok-at-2.ensures.outside.same ∙ c.loop-at.invariant.same;
      later_read = let a = c.in_ok-at-2.ensures.outside.later_read in let b = c.loop-at.invariant.later_read in omega arith;
      later_written = let a = c.in_ok-at-2.ensures.outside.later_written in let b = c.loop-at.invariant.later_written in omega arith;
      copied = row_as (g.P.Patch.patched c.args.patch.now) (held c.args.images.now) c.args.contents.«module» (at + count) next (made c.args.out.now) (made out) (kept c.args.out.now) (kept out) next next (sym c.in_ok-at-2.ensures.next)
          (row_more (g.P.Patch.patched c.args.patch.now) (held c.args.images.now) c.args.contents.«module» at count (made c.args.out.now) (made c.loop-at.out) (made out) (kept c.args.out.now) (kept c.loop-at.out) (kept out) at (Ok next)
          c.loop-at.invariant.copied
          (subst (λ h. CopiesRow {E = CopyStop} (g.P.Patch.patched c.args.patch.now) h c.args.contents.«module» at count (made c.loop-at.out) (made out) (kept c.loop-at.out) (kept out) (Ok next)) c.loop-at.invariant.same c.in_ok-at-2.ensures.copied));
    }

pub returns-clause-copied : goal.returns-clause-copied
returns-clause-copied g c =
    row_as (g.P.Patch.patched c.args.patch.now) (g.S.ImageSource.held c.args.images.now) c.args.contents.«module» c.loop-at.at c.args.contents.bytes (g.K.ImageSink.made c.args.out.now) (g.K.ImageSink.made c.loop-at.out)
    (g.K.ImageSink.kept c.args.out.now) (g.K.ImageSink.kept c.loop-at.out) c.loop-at.at (tt {0})
    (let w = c.loop-at.invariant.within in let f = c.loop-at-test.false in omega arith) c.loop-at.invariant.copied
