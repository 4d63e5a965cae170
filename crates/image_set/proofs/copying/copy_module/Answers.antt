use Rattle.std.proofs.Common.{Ok, refl}
use Rattle.std.specs.Option.{option_map}
use Rattle.nvd_media.specs.declared.object.Object.TheVariants as object
use Rattle.cut_words.specs.WordBytes.{bytes_of}
use Rattle.image_set.specs.declared.fault.CopyStop.{CopyStop}
use Rattle.image_set.specs.Save.{with_some}
use Rattle.image_set.proofs.Adding.{absent_after}
use Rattle.image_set.proofs.Copied.{absent_from, copies_of, module_copied}
use Rattle.image_set.proofs.copying.copy_module.Goals as goal

pub copy_contents-requires-clause-absent : goal.copy_contents-requires-clause-absent
copy_contents-requires-clause-absent g c =
    absent_after (g.K.ImageSink.made c.args.out.now) (g.K.ImageSink.made c.write_area.new.out) (g.K.ImageSink.kept c.args.out.now) (g.K.ImageSink.kept c.write_area.new.out)
    (g.K.ImageSink.faults c.args.out.now) (g.K.ImageSink.faults c.write_area.new.out) c.in_ok-write_area.field-0 (object.Labels c.args.contents.«module») (object.Contents c.args.contents.«module»)
    (option_map bytes_of c.args.area.now) refl c.in_ok-write_area.ensures.adds (λ set told. (c.requires.absent set told).contents)

pub write_ranges-requires : goal.write_ranges-requires
write_ranges-requires g c = record {
  absent = absent_from (g.P.Patch.patched c.args.patch.now) (g.S.ImageSource.held c.args.images.now) c.args.contents.«module» (object.BadRanges c.args.contents.«module») c.args.contents.bytes (g.K.ImageSink.made c.write_area.new.out) (g.K.ImageSink.made c.copy_contents.new.out)
      (g.K.ImageSink.kept c.write_area.new.out) (g.K.ImageSink.kept c.copy_contents.new.out) c.in_ok-copy_contents.field-0 refl
      (absent_after (g.K.ImageSink.made c.args.out.now) (g.K.ImageSink.made c.write_area.new.out) (g.K.ImageSink.kept c.args.out.now) (g.K.ImageSink.kept c.write_area.new.out)
      (g.K.ImageSink.faults c.args.out.now) (g.K.ImageSink.faults c.write_area.new.out) c.in_ok-write_area.field-0 (object.Labels c.args.contents.«module») (object.BadRanges c.args.contents.«module»)
      (option_map bytes_of c.args.area.now) refl c.in_ok-write_area.ensures.adds (λ set told. (c.requires.absent set told).ranges)) c.in_ok-copy_contents.ensures.copied;
}

pub returns-clause-copied : goal.returns-clause-copied
returns-clause-copied g c =
    let made = g.K.ImageSink.made in
    let kept = g.K.ImageSink.kept in
    let faults = g.K.ImageSink.faults in
    module_copied {E = CopyStop} (g.P.Patch.patched c.args.patch.now) (g.S.ImageSource.held c.args.images.now) c.args.contents.«module» (option_map bytes_of c.args.area.now) c.args.contents.bytes c.args.ranges.now
    (made c.args.out.now) (made c.write_area.new.out) (made c.copy_contents.new.out) (made c.write_ranges.new.out)
    (kept c.args.out.now) (kept c.write_area.new.out) (kept c.copy_contents.new.out) (kept c.write_ranges.new.out)
    c.in_ok-write_area.field-0 c.in_ok-copy_contents.field-0 (Ok (tt {0})) c.requires.there
    (copies_of (made c.args.out.now) (made c.write_area.new.out) (kept c.args.out.now) (kept c.write_area.new.out) (faults c.args.out.now) (faults c.write_area.new.out) c.in_ok-write_area.field-0
    (λ set. with_some set (object.Labels c.args.contents.«module») (option_map bytes_of c.args.area.now)) c.in_ok-write_area.field-0 c.in_ok-write_area.ensures.adds)
    c.in_ok-copy_contents.ensures.copied
    (copies_of (made c.copy_contents.new.out) (made c.write_ranges.new.out) (kept c.copy_contents.new.out) (kept c.write_ranges.new.out) (faults c.copy_contents.new.out) (faults c.write_ranges.new.out) c.in_ok-write_ranges.field-0
    (λ set. with_some set (object.BadRanges c.args.contents.«module») c.args.ranges.now) (tt {0}) c.in_ok-write_ranges.ensures.adds)
