use Rattle.std.proofs.Common.{rules, sym, ◌∙◌}
use Rattle.nvd_media.specs.declared.object.Object.TheVariants as object
use Rattle.label_index.specs.Area.{IsAreaSize, is_area_size}
use Rattle.image_set.specs.Load.{bytes_kept}
use Rattle.image_set.proofs.Filled.{area_sound, area_whole}
use Rattle.set_objects.proofs.There.{read_there}
use Rattle.set_objects.proofs.reading.read_area.Goals as goal

pub read_words-requires-clause-whole : goal.read_words-requires-clause-whole
read_words-requires-clause-whole g c = let sized : IsAreaSize c.in-Some.bytes = search rules in area_whole c.in-Some.bytes sized

pub returns-in_ok-read_words-in-Some-clause-told : goal.returns-in_ok-read_words-in-Some-clause-told
returns-in_ok-read_words-in-Some-clause-told g c = λ set told.
    read_there is_area_size (set (object.Labels c.args.module)) c.args.found c.in-Some.bytes (bytes_kept c.in_ok-read_words-in-Some.field-0) (c.requires set told) c.in-Some.is
    (sym c.is_area_size.ensures.test ∙ c.if-is_area_size.true) (c.in_ok-read_words-in-Some.ensures.told set told)

pub returns-in_ok-read_words-in-Some-clause-sound : goal.returns-in_ok-read_words-in-Some-clause-sound
returns-in_ok-read_words-in-Some-clause-sound g c =
    let sized : IsAreaSize c.in-Some.bytes = search rules in
    area_sound c.in_ok-read_words-in-Some.field-0 c.in-Some.bytes c.in_ok-read_words-in-Some.ensures.count sized
    c.in_ok-read_words-in-Some.ensures.settled.kept c.in_ok-read_words-in-Some.ensures.settled.fit
