use Rattle.std.proofs.Common.{ℕ, List, subst, arith}
use Rattle.lane_core.specs.Schedules.{opened_held}
use Rattle.lane_replay.specs.Playing.{replay_text}
use Rattle.namespace_bytes.specs.declared.runs.Run.{Run}
use Rattle.shell_changes.specs.Remains.{LeavesBy}
use Rattle.shell_reports.proofs.More.{if_more}
use Rattle.shell_sectors.specs.Writing.{SavesRuns}
use Rattle.shell_replay.proofs.Coming.{replays_run}
use Rattle.shell_replay.proofs.replay.replay_only.Goals as goal

pub words_run-requires : goal.words_run-requires
words_run-requires g c = omega (arith, c.in_ok-ended.ensures.size, c.requires.open.count, c.requires.open.sound.layout.size_high)

pub returns : goal.returns
returns g c =
    let leaves = LeavesBy g.C.Chooser.begins g.C.Chooser.picks c.args.choose.now in
    if_more _ _ c.save.result
    (λ answer saves outline uuid it.
    replays_run leaves c.args.schedule.now uuid outline c.args.place it answer c.args.state c.requires.open c.in_ok-run.run' c.in_ok-ended.ended.left.items
    c.in_ok-run.ensures.first c.in_ok-run.ensures.long c.in_ok-run.ensures.words c.in_ok-ended.ensures.size
    (subst (λ (runs : List Run). SavesRuns (replay_text (opened_held c.args.state) c.args.schedule.now.lines) it.registry c.args.place runs answer) c.in_ok-runs.ensures
    (subst (λ (text : List ℕ). SavesRuns text it.registry c.args.place c.in_ok-runs.runs answer) c.in_ok-ended.ensures.text (saves outline uuid it)))
    c.in_ok-ended.ensures.reopens c.one_arena_changes.ensures c.replays_stand.ensures c.in_ok-ended.ensures.cut)
    c.save.ensures
