use Rattle.std.proofs.Common.{length, ap, ◌∙◌, sym}
use Rattle.cut_words.specs.Words.{Words}
use Rattle.label_repair.proofs.Found.{repair_writes}
use Rattle.label_repair.proofs.Alone.{same_length}
use Rattle.label_repair.proofs.repair.repair_area.Goals as goal
use Rattle.label_repair.proofs.repair.repair_area.Goals.{in-Some, in_default}

pub write_alone-requires : goal.write_alone-requires
write_alone-requires c =
    repair_writes c.args.words.now c.in-Some.repair c.requires.settled c.requires.size (sym c.in_ok-found.ensures.found ∙ c.in-Some.is)

pub returns-clause-count : goal.returns-clause-count
returns-clause-count c = elim c.match-found.branch [
  | in-Some w ↦ ap (λ (v : Words). length v.kept) (w.words-is ∙ w.write_alone.ensures) ∙ same_length c.args.words.now.kept w.in-Some.repair.block (repair_writes c.args.words.now w.in-Some.repair c.requires.settled c.requires.size (sym c.in_ok-found.ensures.found ∙ w.in-Some.is)).valid
  | in_default w ↦ ap (λ (v : Words). length v.kept) w.words-is
]
