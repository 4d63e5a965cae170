use Rattle.std.proofs.Common.{◌∙◌, sym, ap, subst}
use Rattle.lane_core.specs.declared.shape.Shape.{Shape}
use Rattle.lane_core.specs.Held.{Held, held_by}
use Rattle.lane_core.specs.Reopening.{MaySurvive, Reopens, first_cells}
use Rattle.lane_replay.specs.Playing.{replay_text, replayed}
use Rattle.shell_replay.specs.Replay.{held_at_end}
use Rattle.shell_replay.proofs.Fresh.{fresh_held, left_alone}
use Rattle.shell_replay.proofs.playing.play_and_cut.Goals as goal

pub returns-clause-text : goal.returns-clause-text
returns-clause-text g c =
    c.in_ok-text.ensures.text ∙ (λ i. replay_text (fresh_held c.args.state c.in_ok-core.core c.in_ok-core.ensures.fresh i) c.args.schedule.now.lines)

pub returns-clause-cut : goal.returns-clause-cut
returns-clause-cut g c =
    let end = c.in_ok-text.ensures.held ∙ (λ i. (replayed (fresh_held c.args.state c.in_ok-core.core c.in_ok-core.ensures.fresh i) c.args.schedule.now.lines).held) in
    left_alone g.C.Chooser.begins g.C.Chooser.picks c.args.choose.now c.begin.new.self c.cut-left.new.choose c.args.schedule.now.seed (held_by c.play.new.core) (held_at_end c.args.state c.args.schedule.now.lines)
    c.cut-left.result.items end c.begin.ensures c.cut-left.ensures.asked

pub returns-clause-reopens : goal.returns-clause-reopens
returns-clause-reopens g c =
    let end = c.in_ok-text.ensures.held ∙ (λ i. (replayed (fresh_held c.args.state c.in_ok-core.core c.in_ok-core.ensures.fresh i) c.args.schedule.now.lines).held) in
    subst (λ (h : Held). Reopens c.args.state (MaySurvive (first_cells c.args.state) h) c.cut-left.result.items) end (c.cut-left.ensures.reopens c.args.state (c.play.ensures.arena c.args.state c.in_ok-core.ensures.arena))

pub returns-clause-shape : goal.returns-clause-shape
returns-clause-shape g c =
    let end = c.in_ok-text.ensures.held ∙ (λ i. (replayed (fresh_held c.args.state c.in_ok-core.core c.in_ok-core.ensures.fresh i) c.args.schedule.now.lines).held) in
    ap (λ (h : Held). h.shape) (sym end) ∙ c.play.ensures.shape ∙ c.in_ok-core.ensures.fresh.shape

pub returns-clause-size : goal.returns-clause-size
returns-clause-size g c =
    c.cut-left.ensures.survives.size ∙ ap (λ (x : Shape). x.total) (c.play.ensures.shape ∙ c.in_ok-core.ensures.fresh.shape) ∙ sym c.requires.state.count
