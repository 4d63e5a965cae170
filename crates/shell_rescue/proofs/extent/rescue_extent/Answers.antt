use Rattle.std.proofs.Common.{◌≡◌, ◌∙◌, ℕ, Bool, List, [], sym, subst, arith}
use Rattle.std.specs.Prelude.{IfOk}
use Rattle.bad_ranges.specs.Bad.{bad_words}
use Rattle.namespace_words.specs.Source.{words_by}
use Rattle.namespace_words.proofs.HeldBytes.{words_long}
use Rattle.power_cut.specs.Namespace.{raw_bytes}
use Rattle.shell_reports.proofs.More.{if_more}
use Rattle.shell_check.proofs.Empty.{no_words}
use Rattle.shell_rescue.specs.Reading.{IsRescued}
use Rattle.shell_rescue.proofs.extent.rescue_extent.Goals as goal

pub returns-then-bytes-eq0-clause-told : goal.returns-then-bytes-eq0-clause-told
returns-then-bytes-eq0-clause-told g c = λ contents reveals.
    let e = c.args.extent.now in
    let raw : raw_bytes e ≡ 0 = sym c.bytes.ensures.bytes ∙ c.if-bytes-eq0.true in
    let none : words_by e contents ≡ [] = no_words (words_by e contents) (omega (arith, words_long e contents, raw)) in
    let bad = bad_words e c.args.bad.now in
    if_more _ (IsRescued c.args.listing bad (words_by e contents) c.args.uuid.now) c.rescue_empty.result
    (λ rescued told. subst (λ (ws : List ℕ). IsRescued c.args.listing bad ws c.args.uuid.now rescued) (sym none) (told bad c.args.uuid.now)) c.rescue_empty.ensures.told

pub returns-in-Ok-clause-told : goal.returns-in-Ok-clause-told
returns-in-Ok-clause-told g c = λ contents reveals.
    let e = c.args.extent.now in
    let bad : bad_words c.in-Ok.bad.extent c.in-Ok.bad.objects ≡ bad_words e c.args.bad.now =
    (λ i. bad_words (c.in-Ok.ensures i).extent (c.in-Ok.ensures i).objects) in
    subst (λ (b : ℕ → Bool). IfOk c.rescue_chain.result (λ found. IfOk found (IsRescued c.args.listing b (words_by e contents) c.args.uuid.now))) bad (c.rescue_chain.ensures.told contents reveals)
