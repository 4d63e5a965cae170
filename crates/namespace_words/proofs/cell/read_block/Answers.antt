use Rattle.std.proofs.Common.{◌≡◌, ◌+◌, ◌*◌, ◌%◌, ℕ, List, length, ap, subst, arith}
use Rattle.std.specs.Prelude.{IfOk}
use Rattle.arena_open.specs.declared.cell.Cell.TheVariants as cell
use Rattle.namespace_words.specs.Source.{words_by}
use Rattle.namespace_words.proofs.HeldCells.{block_bytes, block_first, block_read}
use Rattle.namespace_words.proofs.cell.read_block.Goals as goal

pub overflow_mul-place : goal.overflow_mul-place
overflow_mul-place g c =
    let place : c.from.result * c.from-2.result ≡ c.args.block * c.args.layout.now.inner = λ i. c.from.ensures i * c.from-2.ensures i in
    omega (arith, place, block_bytes c.args.layout.now c.args.block c.requires.layout c.requires.block, c.requires.layout.size_high)

pub read_extent-requires-clause-inside : goal.read_extent-requires-clause-inside
read_extent-requires-clause-inside g c =
    let place : c.from.result * c.from-2.result ≡ c.args.block * c.args.layout.now.inner = λ i. c.from.ensures i * c.from-2.ensures i in
    omega (
      arith,
      place,
      block_bytes c.args.layout.now c.args.block c.requires.layout c.requires.block,
      c.requires.within,
      c.as_mut_slice-bytes.ensures.len,
      c.in-Ok.ensures.len,
    )

pub returns-clause-told : goal.returns-clause-told
returns-clause-told g c = λ contents reveals.
    let place : c.from.result * c.from-2.result ≡ c.args.block * c.args.layout.now.inner = λ i. c.from.ensures i * c.from-2.ensures i in
    let first : 8 * c.args.at + c.args.layout.now.data_off + c.from.result * c.from-2.result ≡ 8 * c.args.at + c.args.layout.now.data_off + c.args.block * c.args.layout.now.inner =
    ap (λ (n : ℕ). 8 * c.args.at + c.args.layout.now.data_off + n) place in
    let whole : (8 * c.args.at + c.args.layout.now.data_off + c.from.result * c.from-2.result) % 8 ≡ 0 =
    omega (arith, first, block_first c.args.at c.args.layout.now c.args.block c.requires.layout) in
    let long : length c.read_extent.new.into ≡ c.args.layout.now.sector = omega (arith, c.read_extent.auto.into, c.as_mut_slice-bytes.ensures.len, c.in-Ok.ensures.len) in
    let is = block_read (words_by c.args.extent.now contents) c.read_extent.new.into c.args.at (8 * c.args.at + c.args.layout.now.data_off + c.from.result * c.from-2.result)
    c.args.layout.now c.args.block c.requires.layout first long (c.in_ok-read_extent.ensures.words contents reveals whole) in
    subst (λ (ws : List ℕ). IfOk c.cell_of.result (λ made. made ≡ cell.Bytes ws)) is c.cell_of.ensures
