use Rattle.std.proofs.Common.{◌∙◌, ℕ, List, Option, Some, map, length, refl, sym, ap, subst}
use Rattle.std.specs.List.{All}
use Rattle.std.specs.Option.{option_map}
use Rattle.std.proofs.lemmas.List.{length-map}
use Rattle.cut_words.specs.Words.{Words}
use Rattle.image_set.proofs.Kept.{AreaSettled, kept_areas}
use Rattle.namespace_areas.specs.Seen.{words_of}
use Rattle.shell_changes.specs.Saved.{AreWholeSizes}
use Rattle.shell_sectors.proofs.patching.printed_patched.Goals as goal

pub leave_areas-requires-clause-count : goal.leave_areas-requires-clause-count
leave_areas-requires-clause-count c = ap length c.in_ok-labels.ensures ∙ length-map c.args.areas.items words_of ∙ c.requires.count

pub new-requires-2 : goal.new-requires-2
new-requires-2 c = (c.in_ok-left.ensures.copyable, subst (λ (sizes : List ℕ). AreWholeSizes sizes) (sym c.in_ok-left.ensures.left.sizes) c.requires.sizes)

pub returns : goal.returns
returns c =
    let l = c.in_ok-left.ensures.left in
    let settled : All AreaSettled c.in_ok-labels.labels = subst (λ (labels : List (Option Words)). All AreaSettled labels) (sym c.in_ok-labels.ensures) (λ k d lt. (c.requires.settled k d lt).kept) in
    record {
      ends = c.requires.done;
      says = refl;
      left = c.in_ok-left.left;
      saves = ap (λ set. Some set) c.new-2.ensures;
      nfit = l.nfit;
      kept = (kept_areas _ c.in_ok-labels.labels c.in_ok-left.left.labels _ _ settled l.asked).0 ∙ ap (map (option_map (λ w. w.kept))) c.in_ok-labels.ensures;
      sizes = l.sizes;
      bad = l.bad;
    }
