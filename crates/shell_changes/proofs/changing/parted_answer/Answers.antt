use Rattle.std.proofs.Common.{◌≡◌, ◌≢◌, ◌∙◌, ◌<◌, ◌^◌, ℕ, List, None, Ok, Err, ap, length, map, sym, subst}
use Rattle.std.proofs.lemmas.List.{length-map}
use Rattle.nfit_reader.specs.declared.table.Mapping.{Mapping}
use Rattle.namespace_areas.specs.declared.area.Area.{Area}
use Rattle.namespace_areas.specs.Seen.{AreHeld}
use Rattle.namespace_areas.specs.Opening.{opened_as}
use Rattle.namespace_areas.proofs.Opening.{held_all}
use Rattle.interleave.specs.Sets.{set_reading}
use Rattle.namespace_ops.specs.Registered.{Registered}
use Rattle.namespace_ops.specs.Opening.{registry_opening, set_in}
use Rattle.namespace_ops.specs.declared.registry.OpenFault.TheVariants.{OutOfMemory}
use Rattle.shell_reports.specs.List.{open_outcome}
use Rattle.shell_reports.proofs.More.{if_both, if_more}
use Rattle.shell_changes.specs.declared.answer.Answer.{Answer}
use Rattle.shell_changes.specs.Answers.{HasSizes, outcome_with}
use Rattle.shell_changes.specs.Namespaces.{ChangeComes}
use Rattle.shell_changes.specs.Reading.{set_parted}
use Rattle.shell_changes.specs.Remains.{LeavesBy}
use Rattle.shell_changes.specs.Rest.{HoldSets}
use Rattle.shell_changes.proofs.Remains.{no_sizes}
use Rattle.shell_changes.proofs.Sizes.{hold_sets, whole_sizes}
use Rattle.shell_reports.proofs.Opened.{are_whole}
use Rattle.shell_changes.proofs.Goes.{comes, comes_not}
use Rattle.namespace_ops.proofs.Regions.{was_opened}
use Rattle.shell_changes.proofs.changing.parted_answer.Goals as goal

pub open_areas-requires : goal.open_areas-requires
open_areas-requires g c = are_whole c.args.labels c.requires.parted.areas

pub open_all-requires-clause-table : goal.open_all-requires-clause-table
open_all-requires-clause-table g c = (c.args.rest.nfit_bytes, c.requires.parted.table)

pub open_all-requires-clause-held : goal.open_all-requires-clause-held
open_all-requires-clause-held g c = subst (λ (xs : List Area). AreHeld xs) (sym c.in_ok-areas.ensures) (held_all c.args.labels (are_whole c.args.labels c.requires.parted.areas))

pub opened_answer-requires-clause-fresh : goal.opened_answer-requires-clause-fresh
opened_answer-requires-clause-fresh g c =
    let is : Ok c.in-Ok.registry ≡ registry_opening c.args.nfit c.in_ok-areas.areas = sym c.in-Ok.is ∙ c.open_all.ensures (λ e. absurd (let both = sym c.in-Ok.is ∙ e in cc)) in
    let was = (was_opened c.args.nfit c.in_ok-areas.areas c.in-Ok.registry is).is in
    record {
      running = ap (λ (r : Registered). r.stopped) was;
      claims = ap (λ (r : Registered). r.claims) was;
      journal = ap (λ (r : Registered). r.journal) was;
      room = ap (λ (r : Registered). r.room) was;
    }

pub opened_answer-requires-clause-run : goal.opened_answer-requires-clause-run
opened_answer-requires-clause-run g c =
    let is : Ok c.in-Ok.registry ≡ registry_opening c.args.nfit c.in_ok-areas.areas = sym c.in-Ok.is ∙ c.open_all.ensures (λ e. absurd (let both = sym c.in-Ok.is ∙ e in cc)) in
    let was = was_opened c.args.nfit c.in_ok-areas.areas c.in-Ok.registry is in
    let areas = sym c.in_ok-areas.ensures ∙ was.areas_are in
    record {
      few_sets = subst (λ (sets : List (List Mapping)). length sets < 2 ^ 32) was.sets (subst (λ (n : ℕ). n < 2 ^ 32) (sym (length-map c.args.nfit.regions (λ r. set_in (set_reading r)))) c.requires.parted.regions);
      name = c.requires.name;
      rest_is = c.requires.parted.rest_is;
      whole = whole_sizes c.args.rest.sizes c.requires.parted.sized;
      count = ap length (sym areas) ∙ length-map c.args.labels opened_as ∙ c.requires.parted.count;
    }

pub returns-in-Ok-clause-comes : goal.returns-in-Ok-clause-comes
returns-in-Ok-clause-comes g c =
    let leaves = LeavesBy g.C.Chooser.begins g.C.Chooser.picks c.args.choose.now in
    let is : Ok c.in-Ok.registry ≡ registry_opening c.args.nfit c.in_ok-areas.areas = sym c.in-Ok.is ∙ c.open_all.ensures (λ e. absurd (let both = sym c.in-Ok.is ∙ e in cc)) in
    let is' : Ok c.in-Ok.registry ≡ registry_opening c.args.nfit (map opened_as c.args.labels) = is ∙ ap (registry_opening c.args.nfit) c.in_ok-areas.ensures in
    let was = was_opened c.args.nfit c.in_ok-areas.areas c.in-Ok.registry is in
    if_more _ (λ (answer : Answer). (contents : List (List ℕ)) → map (λ row. length row) contents ≡ c.args.rest.sizes
    → ChangeComes leaves c.args.change.now c.args.power (set_parted c.args.nfit c.args.labels c.args.rest contents) (outcome_with answer contents)) c.opened_answer.result
    (λ answer from contents have.
    comes leaves c.args.nfit c.args.labels c.args.rest contents c.args.power c.args.change.now (outcome_with answer contents) c.requires.parted c.in-Ok.registry is'
    (from contents (subst (λ (sets : List (List Mapping)). HoldSets sets contents) was.sets
    (hold_sets c.args.nfit c.args.labels c.args.rest contents c.requires.parted c.loaded_sets_are_usable.ensures have was.sound))))
    c.opened_answer.ensures.comes

pub returns-in-Err-clause-comes : goal.returns-in-Err-clause-comes
returns-in-Err-clause-comes g c =
    let leaves = LeavesBy g.C.Chooser.begins g.C.Chooser.picks c.args.choose.now in
    if_both (λ (answer : Answer). (contents : List (List ℕ)) → outcome_with answer contents ≡ open_outcome c.in-Err.fault) (λ _. c.in-Err.fault ≢ OutOfMemory)
    (λ (answer : Answer). (contents : List (List ℕ)) → map (λ row. length row) contents ≡ c.args.rest.sizes
    → ChangeComes leaves c.args.change.now c.args.power (set_parted c.args.nfit c.args.labels c.args.rest contents) (outcome_with answer contents)) c.faulty_answer.result
    (λ answer said finding contents have.
    let is : Err c.in-Err.fault ≡ registry_opening c.args.nfit c.in_ok-areas.areas = sym c.in-Err.is ∙ c.open_all.ensures (λ e. finding (let both = sym c.in-Err.is ∙ e in cc)) in
    comes_not leaves c.args.nfit c.args.labels c.args.rest contents c.args.power c.args.change.now (outcome_with answer contents) c.requires.parted c.in-Err.fault (is ∙ ap (registry_opening c.args.nfit) c.in_ok-areas.ensures) (said contents))
    c.faulty_answer.ensures.text c.faulty_answer.ensures.memory

pub returns-in-Err-clause-sizes : goal.returns-in-Err-clause-sizes
returns-in-Err-clause-sizes g c =
    if_more (λ (answer : Answer). answer.saved ≡ None) (HasSizes c.args.rest.sizes) c.faulty_answer.result (λ answer none. no_sizes c.args.rest.sizes answer none) c.faulty_answer.ensures.saved
