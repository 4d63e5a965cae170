use Rattle.std.proofs.Common.{◌≡◌, ℕ, ◌+◌, ◌-◌, ◌*◌, ◌/◌, ◌%◌, List, length, drop, subst, ap, ◌∙◌, arith}
use Rattle.std.proofs.lemmas.List.{length-drop, length-replicate}
use Rattle.arena_layout.specs.Info.{info_reading}
use Rattle.arena_open.specs.Reading.{info_bytes}
use Rattle.namespace_words.specs.Source.{AreBytesOf, words_by}
use Rattle.namespace_words.proofs.HeldArenas.{area_words, info_is}
use Rattle.namespace_words.proofs.HeldBytes.{words_long}
use Rattle.namespace_words.proofs.arenas.read_info_at.Goals as goal

pub returns-clause-told : goal.returns-clause-told
returns-clause-told g c = λ contents reveals.
    let all : List ℕ = words_by c.args.extent.now contents in
    let words : List ℕ = drop c.args.at (words_by c.args.extent.now contents) in
    let from : 8 * c.args.at % 8 ≡ 0 = omega arith in
    let place : 8 * c.args.at / 8 ≡ (8 * c.args.at + 0) / 8 = omega arith in
    let are : AreBytesOf (drop c.args.at (words_by c.args.extent.now contents)) (0 / 8) c.read_extent.new.into =
    area_words (words_by c.args.extent.now contents) c.args.at 0 c.read_extent.new.into (omega arith)
    (subst (λ (n : ℕ). AreBytesOf (words_by c.args.extent.now contents) n c.read_extent.new.into) place (c.in_ok-read_extent.ensures.words contents reveals from)) in
    let long : length c.read_extent.new.into ≡ 4096 = c.read_extent.auto.into ∙ length-replicate {A = ℕ} 4096 0 in
    let rest : c.bytes.result - 8 * c.args.at ≡ 8 * length (drop c.args.at (words_by c.args.extent.now contents)) =
    omega (arith, c.bytes.ensures.bytes, length-drop c.args.at (words_by c.args.extent.now contents), words_long c.args.extent.now contents, c.requires.pages, c.requires.inside) in
    c.read_info.ensures.info
    ∙ ap (λ (bytes : List ℕ). info_reading bytes c.args.parent.now (c.bytes.result - 8 * c.args.at)) (info_is words c.read_extent.new.into long c.in_ok-read_extent.ensures.fit are)
    ∙ ap (info_reading (info_bytes words) c.args.parent.now) rest
