use Rattle.std.proofs.Common.{◌≡◌, ℕ, ◌-◌, ◌*◌, ◌/◌, List, length, drop, subst, ◌∙◌, sym, arith}
use Rattle.std.proofs.lemmas.List.{length-drop}
use Rattle.arena_layout.specs.Info.{info_reading}
use Rattle.arena_open.specs.Reading.{info_bytes}
use Rattle.arena_check.specs.Check.{page_at, source_by}
use Rattle.namespace_words.specs.Source.{Reveals, words_by}
use Rattle.namespace_words.proofs.HeldBytes.{words_long}
use Rattle.shell_check.proofs.PagesBehind.{last_page}
use Rattle.shell_check.proofs.pages.read_source.Goals as goal

pub returns-clause-told : goal.returns-clause-told
returns-clause-told g c = λ contents reveals.
    let all : List ℕ = words_by c.args.extent.now contents in
    let words : List ℕ = drop c.args.at (words_by c.args.extent.now contents) in
    let there = subst (λ h. Reveals h c.args.extent.now.set contents) (sym c.in_ok-first.ensures.same) reveals in
    let long : length (words_by c.args.extent.now contents) ≡ c.bytes-bytes.result / 8 = omega (arith, words_long c.args.extent.now contents, c.bytes-bytes.ensures.bytes) in
    let first : c.in_ok-first.first ≡ info_bytes words = c.in_ok-first.ensures.told contents reveals in
    let last : c.in_ok-last.last ≡ page_at (length words - 512) words =
    c.in_ok-last.ensures.told contents there ∙ last_page (words_by c.args.extent.now contents) c.args.at (c.bytes-bytes.result / 8) long (omega (arith, c.bytes-bytes.ensures.bytes, c.requires.inside, c.requires.pages)) in
    let rest : c.bytes-bytes.result - 8 * c.args.at ≡ 8 * length words =
    omega (arith, c.bytes-bytes.ensures.bytes, length-drop c.args.at (words_by c.args.extent.now contents), words_long c.args.extent.now contents, c.requires.pages, c.requires.inside) in (
      c.used_info.ensures.source
          ∙ (λ i. source_by (rest i) (info_reading (first i) c.args.parent.now (rest i)) (info_reading (last i) c.args.parent.now (rest i))),
      first,
    )
