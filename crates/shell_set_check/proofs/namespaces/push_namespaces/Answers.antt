use Rattle.std.proofs.Common.{◌≡◌, List, ◌++◌, Option, ap, ◌∙◌, sym, subst, map}
use Rattle.std.specs.Option.{option_map}
use Rattle.cut_words.specs.Words.{Words}
use Rattle.image_set.specs.Load.{bytes_kept}
use Rattle.namespace_areas.specs.declared.area.Area.{Area}
use Rattle.namespace_areas.specs.Areas.{AreRunning, labels_of}
use Rattle.namespace_areas.specs.Seen.{words_of}
use Rattle.namespace_areas.proofs.Opening.{words_all}
use Rattle.namespace_areas.proofs.Seen.{held_running}
use Rattle.label_set.specs.declared.placed.Placed.{Placed}
use Rattle.namespace_map.specs.Namespaces.{placed_of}
use Rattle.namespace_ops.specs.Opening.{set_fault_from, sets_of}
use Rattle.shell_reports.specs.List.{shown_by}
use Rattle.shell_reports.proofs.Opened.{are_whole, held_opened, shown_all}
use Rattle.shell_set_check.specs.Namespaces.{labels_by}
use Rattle.shell_set_check.proofs.namespaces.push_namespaces.Goals as goal

pub push_labels-requires-clause-running : goal.push_labels-requires-clause-running
push_labels-requires-clause-running c =
    subst (λ (xs : List Area). AreRunning xs) (sym c.as_slice.ensures)
    (held_running c.in_ok-areas.areas (held_opened c.args.outline.labels c.in_ok-areas.areas c.in_ok-areas.ensures c.requires.areas))

pub returns-clause-lines : goal.returns-clause-lines
returns-clause-lines c =
    let nfit = c.args.outline.nfit in
    let shown : labels_of c.as_slice.result.now ≡ placed_of (map shown_by (map (option_map bytes_kept) c.args.outline.labels)) = ap labels_of (c.as_slice.ensures ∙ c.in_ok-areas.ensures) ∙ ap placed_of (shown_all c.args.outline.labels) in
    c.in_ok-push_labels.ensures ∙ ap (λ (ls : List Placed). c.args.text.now.items ++ labels_by (set_fault_from 0 nfit.regions) (sets_of nfit) ls) shown

pub returns-clause-same : goal.returns-clause-same
returns-clause-same c =
    let back : c.in_ok-labels.labels ≡ c.args.outline.labels = c.in_ok-labels.ensures ∙ ap (map words_of) (c.into_vec.ensures ∙ c.in_ok-areas.ensures) ∙ words_all c.args.outline.labels (are_whole c.args.outline.labels c.requires.areas) in
    ap (λ (ls : List (Option Words)). record c.args.outline { labels = ls }) back
