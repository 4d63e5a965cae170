use Rattle.std.proofs.Common.{◌≤◌, ◌∙◌, ap, length, arith, refl}
use Rattle.std.proofs.lemmas.List.{length-take}
use Rattle.label_index.specs.Index.{block_reading}
use Rattle.label_index.proofs.Spelled.{enough, spelled}
use Rattle.label_index.proofs.Written.{written}
use Rattle.label_index.proofs.writer.write_index.Goals as goal

pub slice_bounds-copy_from_slice-end-2 : goal.slice_bounds-copy_from_slice-end-2
slice_bounds-copy_from_slice-end-2 c =
    omega (arith, length-take 64 c.args.into.now, c.requires.len, enough c.requires.writable.0 c.args.block.now c.requires.writable.1)

pub copy_from_slice-requires : goal.copy_from_slice-requires
copy_from_slice-requires c =
    omega (arith, length-take 64 c.args.into.now, c.requires.len, enough c.requires.writable.0 c.args.block.now c.requires.writable.1, ap length c.head_bytes.ensures)

pub returns-clause-spelled : goal.returns-clause-spelled
returns-clause-spelled c =
    let long : 72 ≤ length c.args.into.now = omega (arith, c.requires.len, enough c.requires.writable.0 c.args.block.now c.requires.writable.1) in
    written c.args.block.now c.copy_from_slice.new.self c.copy_from_slice-2.new.self c.write.new.into c.args.into.now c.copy_from_slice-3.new.self _ c.fletcher64-sum.result
    (c.copy_from_slice.ensures.after ∙ c.head_bytes.ensures) c.copy_from_slice-2.ensures.after long c.requires.len refl c.write.ensures c.fletcher64-sum.ensures
    (c.copy_from_slice-3.ensures.after ∙ c.to_le_bytes.ensures)

pub returns-clause-read : goal.returns-clause-read
returns-clause-read c = λ area ok.
    ap (λ bytes. block_reading area c.args.block.now.size c.args.block.now.side bytes) (returns-clause-spelled c) ∙ spelled area c.args.block.now ok
