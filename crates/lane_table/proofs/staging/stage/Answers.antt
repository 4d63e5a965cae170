use Rattle.std.proofs.Common.{◌≡◌, ◌+◌, ◌≤◌, sym, ap, ◌∙◌, subst}
use Rattle.lane_core.specs.declared.shape.Shape.{Shape}
use Rattle.lane_core.specs.Places.{KeptData, word_of}
use Rattle.lane_table.proofs.Addresses.{kept_row}
use Rattle.lane_table.proofs.staging.stage.Goals as goal

pub keep_words-requires-clause-at : goal.keep_words-requires-clause-at
keep_words-requires-clause-at c =
    let x = c.args.shape.now in
    let id = c.args.table.now.table_id in
    let r = kept_row x c.requires.table.0 id c.requires.table.1 c.args.mine.block c.requires.mine.2 c.requires.words.1 c.block_word-at.result c.kept-kept_at.result c.block_word-at.ensures c.kept-kept_at.ensures in
    let block : c.store_words.new.seat.me.0.lane.block ≡ c.args.mine.block =
    ap (λ m. m.0.lane.block) c.store_words.ensures.stored.1.0 ∙ ap (λ m. m.0.lane.block) c.in-Clear.ensures.scanned.0.0 ∙ ap (λ m. m.0.lane.block) c.write_begin.ensures.begun ∙ c.requires.mine.0.block in (
      r.0 ∙ ap (λ (y : Shape). word_of y (KeptData c.args.mine.block 0)) (sym c.requires.shape.0) ∙ ap (λ b. word_of c.args.table.now.key.shape (KeptData b 0)) (sym block),
      subst (λ n. c.kept-kept_at.result + n ≤ id.words) (sym c.requires.words.0) r.1,
      r.2,
    )

pub fetch-requires-2 : goal.fetch-requires-2
fetch-requires-2 c =
    let x = c.args.shape.now in
    let id = c.args.table.now.table_id in
    let r = kept_row x c.requires.table.0 id c.requires.table.1 c.args.mine.block c.requires.mine.2 c.requires.words.1 c.block_word-at.result c.kept-kept_at.result c.block_word-at.ensures c.kept-kept_at.ensures in
    (subst (λ n. c.kept-kept_at.result + n ≤ id.words) (sym c.requires.words.0) r.1, r.2)
