use Rattle.std.proofs.Common.{◌≡◌, false, sym, subst, ◌∙◌}
use Rattle.std.specs.List.{list_any}
use Rattle.bad_ranges.specs.Bad.{Reported, bad_words, has_record}
use Rattle.bad_ranges.proofs.Records.{none_here}
use Rattle.bad_ranges.proofs.Runs.{none_bad}
use Rattle.bad_ranges.proofs.extent.BadExtentBadWords.any_bad.Goals as goal

pub returns-else-self : goal.returns-else-self
returns-else-self c =
    let own : Reported = c.args.self.now in
    let none : list_any has_record own.objects ≡ false =
    subst (λ (r : Reported). list_any has_record r.objects ≡ false) c.self.view_is (sym c.self.invariant.some ∙ c.if-self.false) in
    c.if-self.false ∙ sym (none_here (bad_words own.extent own.objects) c.args.first c.args.count (λ j le lt. none_bad own.extent own.objects j none))
