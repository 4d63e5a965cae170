use Rattle.std.proofs.Common.{sym, ◌∙◌}
use Rattle.nvd_media.specs.declared.object.Object.TheVariants as object
use Rattle.image_set.specs.Limits.{is_bad_size}
use Rattle.image_set.proofs.Asked.{optional_fits, optional_odd}
use Rattle.image_set.proofs.sizes.bad_size.Goals as goal

pub returns-in-Some-clause-told : goal.returns-in-Some-clause-told
returns-in-Some-clause-told g c = λ set told no_read no_memory.
    optional_fits (set (object.BadRanges c.args.module)) c.in_ok-length.field-0 c.in-Some.bytes is_bad_size (object.BadRanges c.args.module) (c.in_ok-length.ensures.told set told) c.in-Some.is
    (sym c.is_bad_size.ensures ∙ c.if-is_bad_size.true)

pub returns-in-Some-2-clause-told : goal.returns-in-Some-2-clause-told
returns-in-Some-2-clause-told g c = λ set told no_read no_memory.
    optional_odd (set (object.BadRanges c.args.module)) c.in_ok-length.field-0 c.in-Some.bytes is_bad_size (object.BadRanges c.args.module) (c.in_ok-length.ensures.told set told) c.in-Some.is
    (sym c.is_bad_size.ensures ∙ c.if-is_bad_size.false)
