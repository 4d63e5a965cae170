use Rattle.std.proofs.Common.{◌≡◌, ◌<◌, length, get_or, None, Ok, refl, sym, ap, ◌∙◌, arith, subst}
use Rattle.std.specs.Option.{option_map}
use Rattle.std.proofs.lemmas.List.{get_or_read}
use Rattle.std.proofs.lemmas.Result.{err_from_is_err_and}
use Rattle.nvd_media.specs.declared.object.Object.TheVariants as object
use Rattle.nvd_media.specs.Images.{Becomes, IsSameSet, IsUnfinished, Keeps, with_more}
use Rattle.cut_words.specs.WordBytes.{bytes_of}
use Rattle.image_set.specs.declared.fault.CopyStop.{CopyStop}
use Rattle.image_set.specs.Outline.{CopiesModule, objects_with}
use Rattle.image_set.specs.Save.{front_of}
use Rattle.image_set.proofs.Copied.{front_lacks, front_more, front_stopped, front_table, size_at, stopped_then}
use Rattle.image_set.proofs.copying.copy_objects.Goals as goal

pub write-requires-clause-end : goal.write-requires-clause-end
write-requires-clause-end g c = λ set told. sym (rw (c.requires.empty set told object.Nfit) refl)

pub loop-module-init : goal.loop-module-init
loop-module-init g c = record {
  spelling = c.requires.spelling;
  room = c.requires.room;
  same = refl;
  later_read = omega arith;
  later_written = c.in_ok-write.ensures.cause.later;
  copied = front_table (g.P.Patch.patched c.args.patch.now) (g.S.ImageSource.held c.args.images.now) c.args.left.now (g.K.ImageSink.made c.args.out.now) (g.K.ImageSink.made c.write.new.self)
      (g.K.ImageSink.kept c.args.out.now) (g.K.ImageSink.kept c.write.new.self) (tt {0}) c.requires.empty
      (subst (λ bytes. Becomes (g.K.ImageSink.made c.args.out.now) (g.K.ImageSink.made c.write.new.self) (λ set now. IsUnfinished set now × IsSameSet now (with_more set object.Nfit bytes)))
      c.as_slice.ensures c.in_ok-write.ensures.told)
      (subst (λ bytes. Keeps (g.K.ImageSink.kept c.args.out.now) (g.K.ImageSink.kept c.write.new.self) (λ set now. IsSameSet now (with_more set object.Nfit bytes)))
      c.as_slice.ensures c.in_ok-write.ensures.kept);
}

pub copy_module-requires-clause-there : goal.copy_module-requires-clause-there
copy_module-requires-clause-there g c = λ set told.
    let inside : c.loop-module.module < length c.args.left.now.sizes = omega (arith, c.loop-module-test.true, c.requires.copyable.few, ap length c.as_slice-sizes.ensures) in
    size_at c.args.left.now.sizes set c.loop-module.module (c.requires.there set (sym c.loop-module.invariant.same ∙ told)) inside
    ∙ sym (ap (λ xs. get_or xs c.loop-module.module 0) c.as_slice-sizes.ensures)

pub copy_module-requires-clause-absent : goal.copy_module-requires-clause-absent
copy_module-requires-clause-absent g c =
    front_lacks (g.P.Patch.patched c.args.patch.now) (g.S.ImageSource.held c.args.images.now) c.args.left.now c.loop-module.module (g.K.ImageSink.made c.args.out.now) (g.K.ImageSink.made c.loop-module.out)
    (g.K.ImageSink.kept c.args.out.now) (g.K.ImageSink.kept c.loop-module.out) (tt {0}) c.loop-module.invariant.copied

pub returns-in_err-copy_module-clause-copied : goal.returns-in_err-copy_module-clause-copied
returns-in_err-copy_module-clause-copied g c =
    let made = g.K.ImageSink.made in
    let kept = g.K.ImageSink.kept in
    let left = c.args.left.now in
    let p = err_from_is_err_and c.from_residual-in_err-copy_module.result c.from_residual-in_err-copy_module.ensures.1 in
    rw p.1
    (front_stopped (g.P.Patch.patched c.args.patch.now) (g.S.ImageSource.held c.args.images.now) left (length left.sizes) (made c.args.out.now) (made c.copy_module.new.out) (kept c.args.out.now) (kept c.copy_module.new.out) p.0
    (stopped_then (made c.args.out.now) (made c.loop-module.out) (made c.copy_module.new.out)
    (λ was now. IsUnfinished was now × IsSameSet now (front_of (objects_with left c.loop-module.invariant.copied.contents) c.loop-module.module)) (λ was now. IsUnfinished was now × Unit {0})
    (λ was now r. r.0) (λ was now s. s.0) c.loop-module.invariant.copied.told c.in_err-copy_module.ensures.copied.copies.told))

pub loop-module-preserved : goal.loop-module-preserved
loop-module-preserved g c =
    let made = g.K.ImageSink.made in
    let kept = g.K.ImageSink.kept in
    let held = g.S.ImageSource.held in
    let out = c.copy_module.new.out in
    let m = c.loop-module.module in
    let left = c.args.left.now in
    let inside : m < length left.sizes = omega (arith, c.loop-module-test.true, c.requires.copyable.few, ap length c.as_slice-sizes.ensures) in
    let area = c.index-labels-at.result in
    let ranges = c.index-bad-at.result in
    let area_is : area ≡ get_or left.labels m None =
    get_or_read left.labels m area (omega (arith, inside, c.requires.copyable.labels)) (c.index-labels-at.is ∙ ap (λ xs. get_or xs m area) c.as_slice-labels.ensures) None in
    let ranges_is : ranges ≡ get_or left.bad m None =
    get_or_read left.bad m ranges (omega (arith, inside, c.requires.copyable.bad)) (c.index-bad-at.is ∙ ap (λ xs. get_or xs m ranges) c.as_slice-bad.ensures) None in
    let count = get_or c.as_slice-sizes.result.now m 0 in
    record {
      spelling = c.in_ok-copy_module.ensures.spelling;
      room = c.in_ok-copy_module.ensures.room;
      same = c.in_ok-copy_module.ensures.outside.same ∙ c.loop-module.invariant.same;
      later_read = let a = c.in_ok-copy_module.ensures.outside.later_read in let b = c.loop-module.invariant.later_read in omega arith;
      later_written = let a = c.in_ok-copy_module.ensures.outside.later_written in let b = c.loop-module.invariant.later_written in omega arith;
      copied = front_more {F = CopyStop} (g.P.Patch.patched c.args.patch.now) (held c.args.images.now) left m (option_map bytes_of area) count ranges
          (made c.args.out.now) (made c.loop-module.out) (made out) (kept c.args.out.now) (kept c.loop-module.out) (kept out) (tt {0}) (Ok (tt {0})) inside
          (ap (option_map bytes_of) area_is) (ap (λ xs. get_or xs m 0) c.as_slice-sizes.ensures) ranges_is c.loop-module.invariant.copied
          (subst (λ h. CopiesModule {E = CopyStop} (g.P.Patch.patched c.args.patch.now) h m (option_map bytes_of area) count ranges (made c.loop-module.out) (made out) (kept c.loop-module.out) (kept out) (Ok (tt {0}))) c.loop-module.invariant.same
          c.in_ok-copy_module.ensures.copied);
    }
