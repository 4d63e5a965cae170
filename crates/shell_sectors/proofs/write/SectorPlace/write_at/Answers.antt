use Rattle.std.proofs.Common.{◌≡◌, ◌≢◌, ◌∙◌, ◌<◌, ◌++◌, ℕ, List, length, sym, ap, subst}
use Rattle.arena_open.specs.declared.opened.Opened.{Opened}
use Rattle.arena_open.specs.Chain.{Link}
use Rattle.arena_open.specs.InPlace.{external_in}
use Rattle.namespace_bytes.specs.SectorPut.{HasBlocks}
use Rattle.namespace_bytes.specs.declared.runs.Run.{Run}
use Rattle.namespace_words.specs.Moves.{move_runs}
use Rattle.shell_reports.specs.Cut.{done_text}
use Rattle.shell_reports.specs.Faults.{refused_outcome}
use Rattle.shell_reports.proofs.More.{if_more}
use Rattle.shell_sectors.specs.LoneRuns.{lone_runs}
use Rattle.shell_sectors.specs.Value.{bytes_for}
use Rattle.shell_sectors.specs.Write.{length_text}
use Rattle.shell_sectors.specs.Writing.{SavesRuns}
use Rattle.shell_sectors.proofs.Written.{writes_misfit, writes_runs}
use Rattle.shell_sectors.proofs.write.SectorPlace.write_at.Goals as goal

pub write_runs-requires-clause-arena : goal.write_runs-requires-clause-arena
write_runs-requires-clause-arena c =
    let link = c.arena_at-arena.result.now in
    subst HasBlocks (sym (c.arena_at-arena.ensures link)) (c.requires.sized.each c.args.at.0 link c.requires.lies.1.there)

pub write_runs-requires-clause-own : goal.write_runs-requires-clause-own
write_runs-requires-clause-own c =
    let link = c.arena_at-arena.result.now in
    subst (λ (it : Link). c.args.at.1 < external_in it) (sym (c.arena_at-arena.ensures link)) (c.requires.lies.1.inside link)

pub returns-then-said-had : goal.returns-then-said-had
returns-then-said-had c = λ outline uuid sector it at.
    let link = c.arena_at-arena.result.now in
    let had : c.parts.result.now.info.layout.sector ≡ link.opened.info.layout.sector = ap (λ (o : Opened). o.info.layout.sector) c.parts.ensures in
    writes_misfit uuid outline c.args.self it sector c.args.value c.without_set.result c.args.arenas.now c.args.at.0 c.args.at.1 at link c.arena_at-arena.ensures
    (subst (λ (n : ℕ). length (bytes_for n c.args.value) ≢ n) had (λ e. c.if-said-had.true (c.length_for-said.ensures ∙ e)))
    c.without_set.ensures.saved
    (λ contents. c.without_set.ensures.same contents ∙ c.in_ok-length_answer.ensures
    ∙ ap (λ (n : ℕ). refused_outcome (length_text n c.parts.result.now.info.layout.sector)) c.length_for-said.ensures
    ∙ ap (λ (n : ℕ). refused_outcome (length_text (length (bytes_for n c.args.value)) n)) had)

pub returns : goal.returns
returns c =
    let link = c.arena_at-arena.result.now in
    let had : c.parts.result.now.info.layout.sector ≡ link.opened.info.layout.sector = ap (λ (o : Opened). o.info.layout.sector) c.parts.ensures in
    let fit : length (bytes_for c.parts.result.now.info.layout.sector c.args.value) ≡ c.parts.result.now.info.layout.sector = sym c.length_for-said.ensures ∙ c.if-said-had.false in
    let runs : c.in_ok-runs.runs ≡ move_runs c.args.arenas.now ++ lone_runs link c.args.at.1 (bytes_for link.opened.info.layout.sector c.args.value) =
    c.in_ok-runs.ensures ∙ ap (λ (bytes : List ℕ). move_runs c.args.arenas.now ++ lone_runs link c.args.at.1 bytes) (c.in_ok-bytes.ensures ∙ ap (λ (n : ℕ). bytes_for n c.args.value) had) in
    if_more _ _ c.save.result
    (λ answer saves outline uuid sector it at.
    writes_runs uuid outline c.args.self it sector c.args.value answer c.args.arenas.now c.args.at.0 c.args.at.1 at link c.arena_at-arena.ensures
    (subst (λ (n : ℕ). length (bytes_for n c.args.value) ≡ n) had fit)
    (subst (λ (rs : List Run). SavesRuns done_text it.registry c.args.self rs answer) runs
    (subst (λ (text : List ℕ). SavesRuns text it.registry c.args.self c.in_ok-runs.runs answer) c.in_ok-report.ensures.text (saves outline uuid it))))
    c.save.ensures
