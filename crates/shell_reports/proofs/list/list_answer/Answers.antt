use Rattle.std.proofs.Common.{◌≡◌, ◌∙◌, ℕ, List, map, sym, ap}
use Rattle.namespace_map.specs.Namespaces.{listed, placed_of}
use Rattle.namespace_ops.specs.Counted.{namespaces_in}
use Rattle.namespace_ops.specs.Registered.{Registered, state_of}
use Rattle.namespace_ops.proofs.Regions.{was_opened}
use Rattle.namespace_areas.specs.Areas.{shown_in}
use Rattle.image_set.specs.Outline.{image_set_with}
use Rattle.shell_reports.specs.declared.outcome.Report.{Report}
use Rattle.shell_reports.specs.Outcome.{printed}
use Rattle.shell_reports.specs.Saved.{outcome_of}
use Rattle.shell_reports.specs.List.{list_outcome, list_text, listed_by, listed_outcome}
use Rattle.shell_reports.proofs.Listing.{lists, refuses, fault_said}
use Rattle.shell_reports.proofs.More.{if_more}
use Rattle.shell_reports.proofs.Opened.{held_opened, shown_all}
use Rattle.shell_reports.proofs.list.list_answer.Goals as goal

pub open_all-requires-clause-table : goal.open_all-requires-clause-table
open_all-requires-clause-table c = (c.args.outline.nfit_bytes, c.requires.table)

pub open_all-requires-clause-held : goal.open_all-requires-clause-held
open_all-requires-clause-held c = held_opened c.args.outline.labels c.in_ok-areas.areas c.in_ok-areas.ensures c.requires.areas

pub open_answer-requires : goal.open_answer-requires
open_answer-requires c =
    let opened = sym c.in-Ok.is ∙ c.open_all.ensures (λ wanting. (let e = sym c.in-Ok.is ∙ wanting in cc)) in
    record { running = ap (λ (r : Registered). r.stopped) (was_opened c.args.outline.nfit c.in_ok-areas.areas c.in-Ok.registry opened).is }

pub returns-in-Ok : goal.returns-in-Ok
unfolding image_set_with
returns-in-Ok c =
    let areas = c.in_ok-areas.areas in
    let nfit = c.args.outline.nfit in
    let opened = sym c.in-Ok.is ∙ c.open_all.ensures (λ wanting. (let e = sym c.in-Ok.is ∙ wanting in cc)) in
    let same = ap (λ shown. listed_outcome (listed_by nfit (placed_of shown))) (ap (map shown_in) c.in_ok-areas.ensures ∙ shown_all c.args.outline.labels) in
    if_more (λ (answer : Report). outcome_of answer ≡ printed (list_text (listed (namespaces_in (state_of c.in-Ok.registry)))))
    (λ (answer : Report). (contents : List (List ℕ)) → outcome_of answer ≡ list_outcome (image_set_with c.args.outline contents)) c.open_answer.result
    (λ answer said contents. said ∙ sym (ap listed_outcome (lists nfit areas (held_opened c.args.outline.labels c.in_ok-areas.areas c.in_ok-areas.ensures c.requires.areas) c.in-Ok.registry opened)) ∙ same) c.open_answer.ensures

pub returns : goal.returns
unfolding image_set_with
returns c =
    let areas = c.in_ok-areas.areas in
    let nfit = c.args.outline.nfit in
    let same = ap (λ shown. listed_outcome (listed_by nfit (placed_of shown))) (ap (map shown_in) c.in_ok-areas.ensures ∙ shown_all c.args.outline.labels) in
    fault_said c.open_fault_answer.result c.in-Err.fault (λ (contents : List (List ℕ)). list_outcome (image_set_with c.args.outline contents))
    (λ finding contents.
    let opened = sym c.in-Err.is ∙ c.open_all.ensures (λ wanting. finding (let e = sym c.in-Err.is ∙ wanting in cc)) in
    sym (ap listed_outcome (refuses nfit areas c.in-Err.fault opened)) ∙ same)
    c.open_fault_answer.ensures.text c.open_fault_answer.ensures.finding
