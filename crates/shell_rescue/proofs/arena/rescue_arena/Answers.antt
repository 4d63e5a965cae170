use Rattle.std.proofs.Common.{◌≡◌, ◌∙◌, List, ℕ, ap, sym, subst, arith}
use Rattle.std.specs.Prelude.{IfOk}
use Rattle.arena_check.specs.declared.info.InfoSource.{InfoSource}
use Rattle.arena_check.specs.declared.info.InfoSource.TheVariants as source
use Rattle.arena_check.specs.Check.{source_of}
use Rattle.namespace_words.specs.Source.{Reveals}
use Rattle.power_cut.specs.Namespace.{raw_bytes}
use Rattle.shell_reports.proofs.More.{if_more}
use Rattle.shell_rescue.specs.Reading.{IsBounded, IsFound}
use Rattle.shell_rescue.proofs.arena.rescue_arena.Goals as goal

pub returns-in-First-clause-told : goal.returns-in-First-clause-told
returns-in-First-clause-told g c = λ contents reveals words is.
    let parent = c.args.parent.now in
    let there = subst (λ h. Reveals h c.args.extent.now.set contents) (sym c.in_ok-source.ensures.same) reveals in
    let used : source.First c.in-First.info ≡ source_of words parent =
    sym c.in-First.is ∙ (c.in_ok-source.ensures.told contents reveals).0 ∙ ap (λ (ws : List ℕ). source_of ws parent) (sym is) in
    subst (λ (s : InfoSource). IfOk c.rescue_used.result (λ found. IfOk found (IsFound c.args.at (g.B.BadWords.bad c.args.bad.now) words s))) used (c.rescue_used.ensures.told contents there words is)

pub returns-in-Last-clause-told : goal.returns-in-Last-clause-told
returns-in-Last-clause-told g c = λ contents reveals words is.
    let parent = c.args.parent.now in
    let there = subst (λ h. Reveals h c.args.extent.now.set contents) (sym c.in_ok-source.ensures.same) reveals in
    let used : source.Last c.in-Last.fault c.in-Last.info ≡ source_of words parent =
    sym c.in-Last.is ∙ (c.in_ok-source.ensures.told contents reveals).0 ∙ ap (λ (ws : List ℕ). source_of ws parent) (sym is) in
    subst (λ (s : InfoSource). IfOk c.rescue_used-in-Last.result (λ found. IfOk found (IsFound c.args.at (g.B.BadWords.bad c.args.bad.now) words s))) used
    (c.rescue_used-in-Last.ensures.told contents there words is)

pub returns-in-Neither-clause-told : goal.returns-in-Neither-clause-told
returns-in-Neither-clause-told g c = λ contents reveals words is.
    let parent = c.args.parent.now in
    let bad = g.B.BadWords.bad c.args.bad.now in
    let used : source.Neither c.in-Neither.fault ≡ source_of words parent =
    sym c.in-Neither.is ∙ (c.in_ok-source.ensures.told contents reveals).0 ∙ ap (λ (ws : List ℕ). source_of ws parent) (sym is) in
    if_more _ (IsFound c.args.at bad words (source_of words parent)) c.nothing_found.result
    (λ found told. subst (λ (s : InfoSource). IsFound c.args.at bad words s found) used (told c.args.at bad words)) c.nothing_found.ensures.told

pub returns-in-Neither-clause-bounded : goal.returns-in-Neither-clause-bounded
returns-in-Neither-clause-bounded g c =
    if_more _ (IsBounded (raw_bytes c.args.extent.now) c.args.at c.args.parent.now) c.nothing_found.result
    (λ found told. told (raw_bytes c.args.extent.now) c.args.at c.args.parent.now (omega (arith, c.requires.inside))) c.nothing_found.ensures.bounded
