use Rattle.std.proofs.Common.{◌≡◌, ℕ, ◌+◌, ◌*◌, ◌/◌, List, length, ap, ◌∙◌, arith}
use Rattle.std.proofs.lemmas.List.{length-append, length-take-le}
use Rattle.cut_words.specs.WordBytes.{words_in}
use Rattle.arena_open.proofs.Bytes.{length_words}
use Rattle.namespace_words.specs.Source.{words_by}
use Rattle.namespace_words.proofs.WordRows.{front_put, ok_then}
use Rattle.namespace_words.proofs.loading.read_piece.Goals as goal

pub returns-clause-more : goal.returns-clause-more
returns-clause-more g c =
    let size : length c.read_extent.new.into ≡ c.min-size.result = c.read_extent.auto.into ∙ length-take-le c.min-size.result c.args.room.now (omega (arith, c.min-size.ensures)) in
    ok_then c.add_words.result (λ put.
    let long : length c.add_words.new.words.items ≡ length c.args.words.now.items + length c.read_extent.new.into / 8 =
    ap length put ∙ length-append c.args.words.now.items (words_in c.read_extent.new.into)
    ∙ (let e : length c.args.words.now.items + length (words_in c.read_extent.new.into) ≡ length c.args.words.now.items + length c.read_extent.new.into / 8 = omega (arith, length_words c.read_extent.new.into) in e) in (
      omega (arith, long, size, c.min-size.ensures, c.requires.more, c.requires.room, c.len-first.ensures),
      omega (arith, long, size, c.min-size.ensures, c.requires.more, c.requires.room, c.len-first.ensures),
    )) c.add_words.ensures

pub returns-clause-told : goal.returns-clause-told
returns-clause-told g c = λ contents reveals front.
    let into : List ℕ = c.read_extent.new.into in
    let first : c.len-first.result ≡ length c.args.words.now.items = omega (arith, c.len-first.ensures) in
    ok_then c.add_words.result (λ put.
    front_put c.args.words.now.items c.add_words.new.words.items (words_in c.read_extent.new.into) (words_by c.args.extent.now contents) (length c.read_extent.new.into / 8) (8 * c.len-first.result / 8)
    put front (c.in_ok-read_extent.ensures.words contents reveals (omega arith)) (omega (arith, first)) (length_words c.read_extent.new.into)) c.add_words.ensures
