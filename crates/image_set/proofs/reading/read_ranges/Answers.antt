use Rattle.std.proofs.Common.{◌∙◌}
use Rattle.nvd_media.specs.declared.object.Object.TheVariants as object
use Rattle.image_set.proofs.Filled.{there_told}
use Rattle.image_set.proofs.reading.read_ranges.Goals as goal

pub returns-in_ok-read_bytes-in-Some-clause-told : goal.returns-in_ok-read_bytes-in-Some-clause-told
returns-in_ok-read_bytes-in-Some-clause-told g c = λ set told.
    there_told (set (object.BadRanges c.args.module)) c.args.bytes c.in-Some.bytes c.from_vec.result (c.requires.there set told) c.in-Some.is
    (c.from_vec.ensures ∙ c.in_ok-read_bytes-in-Some.ensures.told set told)
