use Rattle.std.proofs.Common.{◌∙◌, List, Option, Some, map, refl, sym, ap, subst}
use Rattle.std.specs.List.{All}
use Rattle.std.specs.Option.{option_map}
use Rattle.cut_words.specs.Words.{Words}
use Rattle.image_set.proofs.Kept.{AreaSettled, kept_areas}
use Rattle.shell_check.proofs.saving.copied_answer.Goals as goal

pub returns : goal.returns
returns c =
    let l = c.in_ok-left.ensures.left in
    let settled : All AreaSettled c.in_ok-labels.labels = subst (λ (labels : List (Option Words)). All AreaSettled labels) (sym c.in_ok-labels.ensures) (λ k d lt. (c.requires.settled k d lt).kept) in
    record {
      ends = c.requires.done;
      says = refl;
      left = c.in_ok-left.left;
      saves = ap (λ set. Some set) c.new-2.ensures;
      nfit = l.nfit;
      kept = (kept_areas _ c.in_ok-labels.labels c.in_ok-left.left.labels _ _ settled l.asked).0 ∙ ap (map (option_map (λ w. w.kept))) c.in_ok-labels.ensures;
      sizes = l.sizes;
      bad = l.bad;
    }
