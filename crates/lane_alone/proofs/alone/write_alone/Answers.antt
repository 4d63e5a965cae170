use Rattle.std.proofs.Common.{List, ℕ, sym, subst}
use Rattle.lane_alone.specs.Alone.{IsWritten}
use Rattle.lane_alone.proofs.Written.{written}
use Rattle.lane_alone.proofs.alone.write_alone.Goals as goal

pub returns-clause-written : goal.returns-clause-written
returns-clause-written c =
    subst (λ (left : List ℕ). IsWritten c.args.state c.args.sector c.args.value.now left) (sym c.lone_words.ensures)
    (written c.args.state c.requires.state c.args.sector c.requires.sector c.args.value.now c.requires.words)
