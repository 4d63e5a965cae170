use Rattle.std.proofs.Common.{◌≡◌, ◌<◌, length, get_or, None, Ok, refl, sym, ap, ◌∙◌, arith, subst}
use Rattle.std.specs.Prelude.{OnOk}
use Rattle.std.specs.Option.{option_map}
use Rattle.std.proofs.lemmas.List.{get_or_read}
use Rattle.std.proofs.lemmas.Result.{err_from_is_err_and}
use Rattle.nvd_media.specs.declared.object.Object.TheVariants as object
use Rattle.nvd_media.specs.Images.{Images, IsSameSet, IsUnfinished}
use Rattle.cut_words.specs.WordBytes.{bytes_of}
use Rattle.nvd_media.proofs.Told.{becomes_then}
use Rattle.image_set.specs.Save.{front_of, set_of}
use Rattle.image_set.proofs.Adding.{becomes_mono}
use Rattle.image_set.proofs.Fronts.{contents_here, labels_at, module_reached, ranges_at, reached_none, table_reached}
use Rattle.image_set.proofs.saving.write_objects.Goals as goal

pub write-requires-clause-end : goal.write-requires-clause-end
write-requires-clause-end g c = λ set told. sym (rw (c.requires.empty set told object.Nfit) refl)

pub loop-module-init : goal.loop-module-init
loop-module-init g c = record {
  room = c.requires.room;
  reaches = table_reached (g.K.ImageSink.made c.args.out.now) (g.K.ImageSink.made c.write.new.self) (g.K.ImageSink.kept c.args.out.now) (g.K.ImageSink.kept c.write.new.self)
      (g.K.ImageSink.faults c.args.out.now) (g.K.ImageSink.faults c.write.new.self) (Ok (tt {0})) c.args.nfit.now c.args.images.now c.args.bad.now c.requires.empty
      (record { told = c.in_ok-write.ensures.told; holds = c.in_ok-write.ensures.kept; cause = c.in_ok-write.ensures.cause });
}

pub write_module-requires-clause-absent : goal.write_module-requires-clause-absent
write_module-requires-clause-absent g c =
    reached_none (g.K.ImageSink.made c.args.out.now) (g.K.ImageSink.made c.loop-module.out) (g.K.ImageSink.kept c.args.out.now) (g.K.ImageSink.kept c.loop-module.out)
    (g.K.ImageSink.faults c.args.out.now) (g.K.ImageSink.faults c.loop-module.out) (tt {0}) (set_of c.args.nfit.now c.args.images.now c.args.bad.now) c.loop-module.module
    c.loop-module.invariant.reaches

pub returns-in_err-write_module-clause-told : goal.returns-in_err-write_module-clause-told
returns-in_err-write_module-clause-told g c =
    let p = err_from_is_err_and c.from_residual-in_err-write_module.result c.from_residual-in_err-write_module.ensures.1 in
    becomes_then (g.K.ImageSink.made c.args.out.now) (g.K.ImageSink.made c.loop-module.out) (g.K.ImageSink.made c.write_module.new.out)
    (λ was now. IsUnfinished was now × IsSameSet now (front_of (set_of c.args.nfit.now c.args.images.now c.args.bad.now) c.loop-module.module)) (λ was now. IsUnfinished was now × Unit {0})
    (λ was now. IsUnfinished was now × OnOk c.from_residual-in_err-write_module.result (IsSameSet now (front_of (set_of c.args.nfit.now c.args.images.now c.args.bad.now) (length c.args.images.now.contents))))
    (λ was between now _ r s. (s.0 ∙ r.0, rw p.1 tt)) c.loop-module.invariant.reaches.told c.in_err-write_module.ensures.adds.told

pub loop-module-preserved : goal.loop-module-preserved
loop-module-preserved g c =
    let out = c.write_module.new.out in
    let m = c.loop-module.module in
    let nfit = c.args.nfit.now in
    let left = c.args.images.now in
    let bad = c.args.bad.now in
    let set : Images = set_of nfit left bad in
    let inside : m < length left.contents = omega (arith, c.loop-module-test.true, c.requires.few, ap length c.as_slice-contents.ensures) in
    let area = c.index-labels-at.result in
    let row = c.as_slice.result.now in
    let ranges = c.index-bad-at.result in
    let area_is : area ≡ get_or left.labels m None = get_or_read left.labels m area (omega (arith, inside, c.requires.modules.labels)) (c.index-labels-at.is ∙ ap (λ xs. get_or xs m area) c.as_slice-labels.ensures) None in
    let row_is : row ≡ get_or left.contents m row =
    c.as_slice.ensures ∙ get_or_read left.contents m c.index-contents-at.result inside (c.index-contents-at.is ∙ ap (λ xs. get_or xs m c.index-contents-at.result) c.as_slice-contents.ensures) row in
    let ranges_is : ranges ≡ get_or bad m None = get_or_read bad m ranges (omega (arith, inside, c.requires.modules.ranges)) c.index-bad-at.is None in
    record {
      room = c.in_ok-write_module.ensures.room;
      reaches = module_reached (g.K.ImageSink.made c.args.out.now) (g.K.ImageSink.made c.loop-module.out) (g.K.ImageSink.made out)
          (g.K.ImageSink.kept c.args.out.now) (g.K.ImageSink.kept c.loop-module.out) (g.K.ImageSink.kept out)
          (g.K.ImageSink.faults c.args.out.now) (g.K.ImageSink.faults c.loop-module.out) (g.K.ImageSink.faults out) (tt {0}) (Ok (tt {0})) set m
          (option_map bytes_of area) (bytes_of row) ranges (labels_at nfit left bad m area area_is) (contents_here nfit left bad m row inside row_is) (ranges_at nfit left bad m ranges ranges_is)
          c.loop-module.invariant.reaches c.in_ok-write_module.ensures.adds;
    }

pub returns-clause-told : goal.returns-clause-told
returns-clause-told g c =
    let end : c.loop-module.module ≡ length c.args.images.now.contents = omega (arith, c.loop-module-test.false, c.requires.few, c.loop-module.auto, ap length c.as_slice-contents.ensures) in
    becomes_mono (g.K.ImageSink.made c.args.out.now) (g.K.ImageSink.made c.loop-module.out)
    (λ was now r. (r.0, subst (λ n. IsSameSet now (front_of (set_of c.args.nfit.now c.args.images.now c.args.bad.now) n)) end r.1)) c.loop-module.invariant.reaches.told

pub returns-clause-kept : goal.returns-clause-kept
returns-clause-kept g c = λ now told.
    let end : c.loop-module.module ≡ length c.args.images.now.contents = omega (arith, c.loop-module-test.false, c.requires.few, c.loop-module.auto, ap length c.as_slice-contents.ensures) in
    let p = c.loop-module.invariant.reaches.holds now told in
    (p.0, p.1, λ empty o. p.2 empty o ∙ ap (λ n. front_of (set_of c.args.nfit.now c.args.images.now c.args.bad.now) n o) end)
