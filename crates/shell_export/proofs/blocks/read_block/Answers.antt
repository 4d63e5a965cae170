use Rattle.std.proofs.Common.{◌≡◌, ◌+◌, ◌*◌, ◌%◌, ◌∙◌, ℕ, length, ap, arith}
use Rattle.namespace_words.specs.Source.{words_by}
use Rattle.namespace_words.proofs.HeldCells.{block_first}
use Rattle.shell_export.proofs.SectorBytes.{block_is, on_both}
use Rattle.shell_export.proofs.blocks.read_block.Goals as goal

pub returns-clause-told : goal.returns-clause-told
returns-clause-told g c = λ contents reveals.
    let offset : c.from.result * c.from-2.result ≡ c.args.block * c.args.place.now.layout.inner = λ i. c.from.ensures i * c.from-2.ensures i in
    let first : 8 * c.args.place.now.at + c.args.place.now.layout.data_off + c.from.result * c.from-2.result ≡ 8 * c.args.place.now.at + c.args.place.now.layout.data_off + c.args.block * c.args.place.now.layout.inner =
    ap (λ (n : ℕ). 8 * c.args.place.now.at + c.args.place.now.layout.data_off + n) offset in
    let whole : (8 * c.args.place.now.at + c.args.place.now.layout.data_off + c.from.result * c.from-2.result) % 8 ≡ 0 =
    omega (arith, first, block_first c.args.place.now.at c.args.place.now.layout c.args.block c.requires.layout) in
    let long : length c.read_extent.new.into ≡ c.args.place.now.layout.sector = c.read_extent.auto.into ∙ c.requires.room in
    on_both c.read_extent.result _ _ _
    (λ fit are. block_is (words_by c.args.extent.now contents) c.read_extent.new.into c.args.place.now.at (8 * c.args.place.now.at + c.args.place.now.layout.data_off + c.from.result * c.from-2.result)
    c.args.place.now.layout c.args.block c.requires.layout first long fit are)
    c.read_extent.ensures.fit (c.read_extent.ensures.words contents reveals whole)
