use Rattle.std.proofs.Common.{◌≡◌, false, sym, subst, ◌∙◌}
use Rattle.std.specs.List.{list_any}
use Rattle.bad_ranges.specs.Bad.{Reported, has_record}
use Rattle.bad_ranges.proofs.Runs.{none_bad}
use Rattle.bad_ranges.proofs.extent.BadExtentBadWords.is_bad.Goals as goal

pub returns-else-self : goal.returns-else-self
returns-else-self c =
    let own : Reported = c.args.self.now in
    let none : list_any has_record own.objects ≡ false =
    subst (λ (r : Reported). list_any has_record r.objects ≡ false) c.self.view_is (sym c.self.invariant.some ∙ c.if-self.false) in
    c.if-self.false ∙ sym (none_bad own.extent own.objects c.args.i none)
