use Rattle.std.proofs.Common.{List, ℕ, subst}
use Rattle.lane_core.specs.Held.{held_by}
use Rattle.lane_replay.specs.Steps.{Plays}
use Rattle.lane_replay.specs.Playing.{replayed}
use Rattle.lane_replay.proofs.Parts.{whole_text}
use Rattle.lane_replay.proofs.playing.play.Goals as goal

pub returns-clause-text : goal.returns-clause-text
returns-clause-text c =
    let old = held_by c.args.core.now in
    let new = held_by c.play_lines.new.core in
    whole_text old new c.args.lines.now c.play_lines.new.text.items c.add_cuts.new.text.items
    (subst (λ (start : List ℕ). Plays (replayed old c.args.lines.now) new start c.play_lines.new.text.items) c.new-text.ensures.items c.in_ok-play_lines.ensures.plays) c.in_ok-add_cuts.ensures

pub returns-clause-held : goal.returns-clause-held
returns-clause-held c = c.in_ok-play_lines.ensures.plays.held
