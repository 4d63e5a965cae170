use Rattle.std.proofs.Common.{◌≡◌, ℕ, ◌+◌, ◌-◌, ◌*◌, ◌/◌, ◌%◌, List, length, take, drop, sym, ap, ◌∙◌, subst, arith}
use Rattle.std.proofs.lemmas.List.{length-take-le}
use Rattle.namespace_words.specs.Source.{AreBytesFrom, AreBytesOf, bytes_by, words_by}
use Rattle.namespace_words.proofs.HeldArenas.{area_words, bytes_from}
use Rattle.namespace_words.proofs.arenas.read_entries.Goals as goal

pub returns-clause-told : goal.returns-clause-told
returns-clause-told g c = λ contents reveals at l starts whole before.
    let off : ℕ = l.map_off + 4 * c.args.first in
    let sum : c.args.start + 4 * c.from.result ≡ 8 * at + (l.map_off + 4 * c.args.first) = omega (arith, starts, c.from.ensures) in
    let eights : (l.map_off + 4 * c.args.first) % 8 ≡ 0 = omega (arith, whole, c.requires.even) in
    let place : (l.map_off + 4 * c.args.first) / 8 ≡ l.map_off / 8 + c.args.first / 2 = omega (arith, whole, c.requires.even) in
    let read : AreBytesOf (words_by c.args.extent.now contents) ((8 * at + (l.map_off + 4 * c.args.first)) / 8) c.read_extent.new.into =
    subst (λ (n : ℕ). AreBytesOf (words_by c.args.extent.now contents) (n / 8) c.read_extent.new.into) sum
    (c.in_ok-read_extent.ensures.words contents reveals (omega (arith, c.requires.whole, c.requires.even, c.from.ensures))) in
    c.add_entries.ensures.told (drop at (words_by c.args.extent.now contents)) l
    (subst (λ (n : ℕ). AreBytesOf (drop at (words_by c.args.extent.now contents)) n c.read_extent.new.into) place
    (area_words (words_by c.args.extent.now contents) at (l.map_off + 4 * c.args.first) c.read_extent.new.into eights read)) before

pub returns-clause-bytes : goal.returns-clause-bytes
returns-clause-bytes g c = λ contents reveals.
    let size : length c.read_extent.new.into ≡ 8 * ((c.args.end - c.args.first + 1) / 2) =
    c.read_extent.auto.into ∙ length-take-le (8 * ((c.args.end - c.args.first + 1) / 2)) c.args.room.now (omega (arith, c.requires.room)) in
    let are : c.read_extent.new.into ≡ take (length c.read_extent.new.into) (drop (c.args.start + 4 * c.from.result) (bytes_by c.args.extent.now contents)) =
    c.in_ok-read_extent.ensures.told contents reveals ∙ ap (λ (n : ℕ). take n (drop (c.args.start + 4 * c.from.result) (bytes_by c.args.extent.now contents))) (sym c.read_extent.auto.into) in
    let from : c.from.result ≡ c.args.first = c.from.ensures in
    subst (λ (k : ℕ). AreBytesFrom (bytes_by c.args.extent.now contents) (c.args.start + 4 * k) (8 * ((c.args.end - c.args.first + 1) / 2))) from
    (subst (λ (n : ℕ). AreBytesFrom (bytes_by c.args.extent.now contents) (c.args.start + 4 * c.from.result) n) size
    (bytes_from (bytes_by c.args.extent.now contents) c.read_extent.new.into (c.args.start + 4 * c.from.result) c.in_ok-read_extent.ensures.fit are))
