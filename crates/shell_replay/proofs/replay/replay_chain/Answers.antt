use Rattle.std.proofs.Common.{◌∙◌, ℕ, List, sym, ap, subst}
use Rattle.arena_open.specs.declared.state.ArenaState.{ArenaState}
use Rattle.shell_changes.specs.Remains.{LeavesBy}
use Rattle.shell_reports.specs.Faults.{refused_outcome}
use Rattle.shell_reports.proofs.More.{if_more}
use Rattle.shell_replay.specs.Answering.{ReplaysWith}
use Rattle.shell_replay.specs.Replay.{arenas_refusal}
use Rattle.shell_replay.proofs.Coming.{replays_others}
use Rattle.shell_replay.proofs.replay.replay_chain.Goals as goal

pub returns-in-Ok : goal.returns-in-Ok
returns-in-Ok g c =
    let leaves = LeavesBy g.C.Chooser.begins g.C.Chooser.picks c.args.choose.now in
    if_more _ _ c.replay_only.result
    (λ answer comes outline uuid it.
    subst (λ (ss : List ArenaState). ReplaysWith leaves uuid c.args.schedule.now outline c.args.place ss answer) (sym c.in-Ok.ensures.one) (comes outline uuid it))
    c.replay_only.ensures

pub returns-in_ok-arenas_answer-in-Err : goal.returns-in_ok-arenas_answer-in-Err
returns-in_ok-arenas_answer-in-Err g c = λ outline uuid it.
    let leaves = LeavesBy g.C.Chooser.begins g.C.Chooser.picks c.args.choose.now in
    let others = c.only_arena.ensures.others c.in-Err.count c.in-Err.is in
    replays_others leaves c.args.schedule.now uuid outline c.args.place it c.without_set.result c.args.chain others.1 c.without_set.ensures.saved
    (λ contents. c.without_set.ensures.same contents ∙ c.in_ok-arenas_answer-in-Err.ensures ∙ ap (λ (n : ℕ). refused_outcome (arenas_refusal n)) others.0)
