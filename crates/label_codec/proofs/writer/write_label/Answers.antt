use Rattle.std.proofs.Common.{◌∙◌, ap}
use Rattle.label_codec.specs.Label.{label_reading}
use Rattle.label_codec.proofs.Spelled.{spelled, length_body}
use Rattle.label_codec.proofs.Written.{written}
use Rattle.label_codec.proofs.writer.write_label.Goals as goal

pub returns-clause-spelled : goal.returns-clause-spelled
returns-clause-spelled c =
    let label = c.args.label.now in
    let ok = c.know_writable.ensures in
    written label c.copy_from_slice.new.self c.copy_from_slice-2.new.self c.fixed_fields.result c.copy_from_slice-3.new.self c.fletcher64-sum.result
    (c.copy_from_slice.ensures.after ∙ c.as_bytes.ensures) (c.copy_from_slice-2.ensures.after ∙ c.field.ensures) c.fixed_fields.ensures
    ok.bytes.uuid_len (length_body label ok) c.fletcher64-sum.ensures (c.copy_from_slice-3.ensures.after ∙ c.to_le_bytes.ensures)

pub returns-clause-read : goal.returns-clause-read
returns-clause-read c =
    ap (λ bytes. label_reading bytes c.args.label.now.slot) (returns-clause-spelled c) ∙ spelled c.args.label.now c.know_writable.ensures
