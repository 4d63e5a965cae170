use Rattle.std.proofs.Common.{◌≡◌, ◌∙◌, ℕ, Bool, List, [], length, sym, subst, arith}
use Rattle.std.specs.Prelude.{IfOk, MatchBool}
use Rattle.bad_ranges.specs.Bad.{bad_words}
use Rattle.namespace_words.specs.Source.{bytes_by, words_by}
use Rattle.namespace_words.proofs.HeldBytes.{bytes_long, words_long}
use Rattle.power_cut.specs.Namespace.{raw_bytes}
use Rattle.shell_reports.proofs.More.{if_more}
use Rattle.arena_repair.specs.Chain.{reports_of}
use Rattle.shell_check.specs.Reading.{IsListed, RepairsAll}
use Rattle.shell_check.proofs.Empty.{empty_runs, no_words}
use Rattle.shell_check.proofs.extent.check_extent.Goals as goal

pub returns-then-bytes-eq0-clause-told : goal.returns-then-bytes-eq0-clause-told
returns-then-bytes-eq0-clause-told g c = λ contents reveals.
    let e = c.args.extent.now in
    let raw : raw_bytes e ≡ 0 = sym c.bytes.ensures.bytes ∙ c.if-bytes-eq0.true in
    let none : words_by e contents ≡ [] = no_words (words_by e contents) (omega (arith, words_long e contents, raw)) in
    let bad = bad_words e c.args.bad.now in
    if_more _ (IsListed c.args.head.now c.args.repair (reports_of bad (words_by e contents) c.args.uuid.now)) c.check_empty.result
    (λ checked listed. subst (λ (ws : List ℕ). IsListed c.args.head.now c.args.repair (reports_of bad ws c.args.uuid.now) checked) (sym none) (listed bad c.args.uuid.now)) c.check_empty.ensures.lines

pub returns-then-bytes-eq0-clause-repairs : goal.returns-then-bytes-eq0-clause-repairs
returns-then-bytes-eq0-clause-repairs g c = λ contents reveals.
    let e = c.args.extent.now in
    let row : List ℕ = bytes_by e contents in
    let raw : raw_bytes e ≡ 0 = sym c.bytes.ensures.bytes ∙ c.if-bytes-eq0.true in
    let long : length row ≡ 0 = bytes_long e contents ∙ raw in
    if_more _ (λ checked. MatchBool c.args.repair (RepairsAll (bad_words e c.args.bad.now) c.args.uuid.now row checked.runs) (checked.runs ≡ [])) c.check_empty.result
    (λ checked none. empty_runs c.args.repair (bad_words e c.args.bad.now) c.args.uuid.now row checked.runs long none) c.check_empty.ensures.runs

pub returns-in-Ok-clause-told : goal.returns-in-Ok-clause-told
returns-in-Ok-clause-told g c = λ contents reveals.
    let e = c.args.extent.now in
    let bad : bad_words c.in-Ok.bad.extent c.in-Ok.bad.objects ≡ bad_words e c.args.bad.now =
    (λ i. bad_words (c.in-Ok.ensures i).extent (c.in-Ok.ensures i).objects) in
    subst (λ (b : ℕ → Bool). IfOk c.check_chain.result (λ found. IfOk found (IsListed c.args.head.now c.args.repair (reports_of b (words_by e contents) c.args.uuid.now)))) bad (c.check_chain.ensures.told contents reveals)

pub returns-in-Ok-clause-repairs : goal.returns-in-Ok-clause-repairs
returns-in-Ok-clause-repairs g c = λ contents reveals.
    let e = c.args.extent.now in
    let bad : bad_words c.in-Ok.bad.extent c.in-Ok.bad.objects ≡ bad_words e c.args.bad.now =
    (λ i. bad_words (c.in-Ok.ensures i).extent (c.in-Ok.ensures i).objects) in
    subst (λ (b : ℕ → Bool). IfOk c.check_chain.result (λ found. IfOk found (λ checked. MatchBool c.args.repair
    (RepairsAll b c.args.uuid.now (bytes_by e contents) checked.runs) (checked.runs ≡ [])))) bad
    (c.check_chain.ensures.repairs contents reveals)
