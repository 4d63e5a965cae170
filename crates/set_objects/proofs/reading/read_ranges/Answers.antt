use Rattle.std.proofs.Common.{sym, ◌∙◌}
use Rattle.nvd_media.specs.declared.object.Object.TheVariants as object
use Rattle.image_set.specs.Limits.{is_bad_size}
use Rattle.set_objects.proofs.There.{read_there}
use Rattle.set_objects.proofs.reading.read_ranges.Goals as goal

pub returns-in_ok-read_bytes-in-Some-clause-told : goal.returns-in_ok-read_bytes-in-Some-clause-told
returns-in_ok-read_bytes-in-Some-clause-told g c = λ set told.
    read_there is_bad_size (set (object.BadRanges c.args.module)) c.args.found c.in-Some.bytes c.from_vec.result (c.requires set told) c.in-Some.is (sym c.is_bad_size.ensures ∙ c.if-is_bad_size.true)
    (c.from_vec.ensures ∙ c.in_ok-read_bytes-in-Some.ensures.told set told)
