use Rattle.nvd_media.specs.declared.object.Object.TheVariants as object
use Rattle.image_set.specs.Load.{bytes_kept}
use Rattle.image_set.proofs.Filled.{there_told, area_whole, area_sound}
use Rattle.image_set.proofs.reading.read_area.Goals as goal

pub read_object-requires-clause-whole : goal.read_object-requires-clause-whole
read_object-requires-clause-whole g c = area_whole c.in-Some.bytes (c.requires.sized c.in-Some.bytes c.in-Some.is)

pub returns-in_ok-read_object-in-Some-clause-told : goal.returns-in_ok-read_object-in-Some-clause-told
returns-in_ok-read_object-in-Some-clause-told g c = λ set told.
    there_told (set (object.Labels c.args.module)) c.args.bytes c.in-Some.bytes (bytes_kept c.in_ok-read_object-in-Some.field-0) (c.requires.there set told) c.in-Some.is
    (c.in_ok-read_object-in-Some.ensures.told set told)

pub returns-in_ok-read_object-in-Some-clause-sound : goal.returns-in_ok-read_object-in-Some-clause-sound
returns-in_ok-read_object-in-Some-clause-sound g c =
    area_sound c.in_ok-read_object-in-Some.field-0 c.in-Some.bytes c.in_ok-read_object-in-Some.ensures.count (c.requires.sized c.in-Some.bytes c.in-Some.is)
    c.in_ok-read_object-in-Some.ensures.settled.kept c.in_ok-read_object-in-Some.ensures.settled.fit
