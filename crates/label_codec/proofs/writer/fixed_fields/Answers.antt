use Rattle.std.proofs.Common.{◌∙◌}
use Rattle.label_codec.proofs.Written.{fixed}
use Rattle.label_codec.proofs.writer.fixed_fields.Goals as goal

pub returns : goal.returns
returns c =
    fixed c.args.label.now c.copy_from_slice.new.self c.copy_from_slice-2.new.self c.copy_from_slice-3.new.self c.copy_from_slice-4.new.self c.copy_from_slice-5.new.self c.copy_from_slice-6.new.self c.copy_from_slice-7.new.self c.copy_from_slice-8.new.self c.copy_from_slice-9.new.self c.copy_from_slice-10.new.self c.copy_from_slice-11.new.self
    (c.copy_from_slice.ensures.after ∙ c.to_le_bytes.ensures) (c.copy_from_slice-2.ensures.after ∙ c.to_le_bytes-2.ensures) (c.copy_from_slice-3.ensures.after ∙ c.to_le_bytes-3.ensures) (c.copy_from_slice-4.ensures.after ∙ c.to_le_bytes-4.ensures) (c.copy_from_slice-5.ensures.after ∙ c.to_le_bytes-5.ensures) (c.copy_from_slice-6.ensures.after ∙ c.to_le_bytes-6.ensures)
    (c.copy_from_slice-7.ensures.after ∙ c.to_le_bytes-7.ensures) (c.copy_from_slice-8.ensures.after ∙ c.to_le_bytes-8.ensures) (c.copy_from_slice-9.ensures.after ∙ c.guid_bytes.ensures) (c.copy_from_slice-10.ensures.after ∙ c.guid_bytes-2.ensures) (c.copy_from_slice-11.ensures.after ∙ c.to_le_bytes-9.ensures)
