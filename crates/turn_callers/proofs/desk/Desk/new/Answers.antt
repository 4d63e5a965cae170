use Rattle.std.proofs.Common.{Bool, sym, ap, ◌∙◌}
use Rattle.std.specs.Prelude.{not}
use Rattle.turn_callers.specs.Power.{any_of}
use Rattle.turn_callers.proofs.Any.{none_of}
use Rattle.turn_callers.proofs.desk.Desk.new.Goals as goal

pub invariant_of-result : goal.invariant_of-result
invariant_of-result c = record {
  stopped_by_one = sym (ap any_of c.in_ok-silent.ensures ∙ none_of c.args.callers);
  told_when_off = ap (λ (b : Bool). not b) (ap any_of c.in_ok-silent-2.ensures ∙ none_of c.args.callers);
}
