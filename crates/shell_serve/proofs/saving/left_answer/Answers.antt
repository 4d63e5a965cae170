use Rattle.std.proofs.Common.{◌∙◌, ℕ, List, Option, Some, map, length, refl, sym, ap, subst}
use Rattle.std.proofs.lemmas.List.{length-map}
use Rattle.cut_words.specs.Words.{Words}
use Rattle.power_cut.specs.Left.{Each, InTurn, IsLeftOf, LeavesOption}
use Rattle.namespace_areas.specs.Seen.{words_of}
use Rattle.shell_changes.specs.Saved.{AreWholeSizes}
use Rattle.shell_serve.proofs.saving.left_answer.Goals as goal

pub leave_areas-requires-clause-count : goal.leave_areas-requires-clause-count
leave_areas-requires-clause-count g c = ap length c.in_ok-labels.ensures ∙ length-map c.args.areas.items words_of ∙ c.requires.count

pub new-requires : goal.new-requires
new-requires g c = (c.in_ok-left.ensures.copyable, subst (λ (sizes : List ℕ). AreWholeSizes sizes) (sym c.in_ok-left.ensures.left.sizes) c.requires.sizes)

pub returns : goal.returns
returns g c =
    let l = c.in_ok-left.ensures.left in
    record {
      is = refl;
      left = c.in_ok-left.left;
      saves = ap (λ set. Some set) c.new.ensures;
      areas_left = subst (λ (labels : List (Option Words)). Each IsLeftOf labels c.in_ok-left.left.labels) c.in_ok-labels.ensures l.left_of;
      chosen = (c.leave_areas.new.choose, subst (λ (labels : List (Option Words)). InTurn (LeavesOption g.C.Chooser.picks) labels c.in_ok-left.left.labels c.args.choose.now c.leave_areas.new.choose) c.in_ok-labels.ensures l.asked);
      nfit = l.nfit;
      sizes = l.sizes;
      bad = l.bad;
    }
