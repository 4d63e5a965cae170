use Rattle.std.proofs.Common.{Ok, Some, refl}
use Rattle.std.specs.Option.{option_map}
use Rattle.nvd_media.specs.declared.object.Object.TheVariants as object
use Rattle.nvd_media.specs.Images.{Images, with_more}
use Rattle.cut_words.specs.WordBytes.{bytes_of}
use Rattle.image_set.specs.Save.{with_some}
use Rattle.image_set.proofs.Adding.{adds_then, absent_after, more_alike, some_alike}
use Rattle.image_set.proofs.writing.write_module.Goals as goal

pub write_words-requires-clause-absent : goal.write_words-requires-clause-absent
write_words-requires-clause-absent g c =
    absent_after (g.K.ImageSink.made c.args.out.now) (g.K.ImageSink.made c.write_area.new.out) (g.K.ImageSink.kept c.args.out.now) (g.K.ImageSink.kept c.write_area.new.out)
    (g.K.ImageSink.faults c.args.out.now) (g.K.ImageSink.faults c.write_area.new.out) c.in_ok-write_area.field-0 (object.Labels c.args.«module») (object.Contents c.args.«module»)
    (option_map bytes_of c.args.area.now) refl c.in_ok-write_area.ensures.adds (λ set told. (c.requires.absent set told).contents)

pub write_ranges-requires : goal.write_ranges-requires
write_ranges-requires g c = record {
  absent = absent_after (g.K.ImageSink.made c.write_area.new.out) (g.K.ImageSink.made c.write_words.new.out) (g.K.ImageSink.kept c.write_area.new.out) (g.K.ImageSink.kept c.write_words.new.out)
      (g.K.ImageSink.faults c.write_area.new.out) (g.K.ImageSink.faults c.write_words.new.out) c.in_ok-write_words.field-0 (object.Contents c.args.«module»)
      (object.BadRanges c.args.«module») (Some (bytes_of c.args.contents.now)) refl c.in_ok-write_words.ensures.adds
      (absent_after (g.K.ImageSink.made c.args.out.now) (g.K.ImageSink.made c.write_area.new.out) (g.K.ImageSink.kept c.args.out.now) (g.K.ImageSink.kept c.write_area.new.out)
      (g.K.ImageSink.faults c.args.out.now) (g.K.ImageSink.faults c.write_area.new.out) c.in_ok-write_area.field-0 (object.Labels c.args.«module») (object.BadRanges c.args.«module»)
      (option_map bytes_of c.args.area.now) refl c.in_ok-write_area.ensures.adds (λ set told. (c.requires.absent set told).ranges));
}

pub returns-clause-adds : goal.returns-clause-adds
returns-clause-adds g c =
    let made = g.K.ImageSink.made in
    let kept = g.K.ImageSink.kept in
    let faults = g.K.ImageSink.faults in
    let area : Images → Images = λ set. with_some set (object.Labels c.args.«module») (option_map bytes_of c.args.area.now) in
    let contents : Images → Images = λ set. with_more set (object.Contents c.args.«module») (bytes_of c.args.contents.now) in
    let ranges : Images → Images = λ set. with_some set (object.BadRanges c.args.«module») c.args.ranges.now in
    adds_then (made c.args.out.now) (made c.write_words.new.out) (made c.write_ranges.new.out) (kept c.args.out.now) (kept c.write_words.new.out) (kept c.write_ranges.new.out)
    (faults c.args.out.now) (faults c.write_words.new.out) (faults c.write_ranges.new.out) c.in_ok-write_words.field-0 c.write_ranges.result (λ set. contents (area set)) ranges
    (some_alike (object.BadRanges c.args.«module») c.args.ranges.now)
    (adds_then (made c.args.out.now) (made c.write_area.new.out) (made c.write_words.new.out) (kept c.args.out.now) (kept c.write_area.new.out) (kept c.write_words.new.out)
    (faults c.args.out.now) (faults c.write_area.new.out) (faults c.write_words.new.out) c.in_ok-write_area.field-0 (Ok c.in_ok-write_words.field-0) area contents
    (more_alike (object.Contents c.args.«module») (bytes_of c.args.contents.now)) c.in_ok-write_area.ensures.adds c.in_ok-write_words.ensures.adds)
    c.write_ranges.ensures.adds
