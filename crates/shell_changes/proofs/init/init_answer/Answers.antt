use Rattle.std.proofs.Common.{◌≡◌, ◌∙◌, ℕ, List, [], Some, None, refl, sym, ap, subst, arith}
use Rattle.std.specs.Prelude.{IfOk, map}
use Rattle.std.specs.Option.{option_map}
use Rattle.std.proofs.lemmas.List.{length-map}
use Rattle.image_set.specs.Load.{area_of, bytes_kept}
use Rattle.image_set.specs.Outline.{image_set_with}
use Rattle.image_set.specs.Sound.{IsArea}
use Rattle.label_area.specs.Initialise.{initialised}
use Rattle.shell_changes.specs.Remains.{LeavesBy}
use Rattle.shell_reports.proofs.More.{if_more}
use Rattle.shell_reports.specs.Labels.{module_outcome}
use Rattle.shell_changes.specs.declared.answer.Answer.{Answer}
use Rattle.shell_changes.specs.Init.{InitArea, InitComes}
use Rattle.shell_changes.specs.Answers.{HasSizes, outcome_with}
use Rattle.shell_changes.proofs.Parts.{answered, inside, module_none, module_some}
use Rattle.shell_changes.proofs.Remains.{no_sizes}
use Rattle.shell_changes.proofs.init.init_answer.Goals as goal

pub area_answer-requires-clause-there : goal.area_answer-requires-clause-there
unfolding image_set_with
area_answer-requires-clause-there g c =
    let found : Some (bytes_kept c.in-Some.words) ≡ area_of (image_set_with c.args.outline []) c.args.«module» = sym (ap (option_map bytes_kept) c.in-Some.is) ∙ c.take_area-rest.ensures.area [] in
    let there = inside (map (option_map bytes_kept) c.args.outline.labels) c.args.«module» (bytes_kept c.in-Some.words) (sym found) in
    let count = c.take_area-rest.ensures.count in
    let same = length-map c.args.outline.labels (option_map bytes_kept) in
    omega arith

pub area_answer-requires-clause-settled : goal.area_answer-requires-clause-settled
area_answer-requires-clause-settled g c = (subst IsArea c.in-Some.is c.take_area-rest.ensures.settled).kept c.in-Some.words refl

pub area_answer-requires-clause-size : goal.area_answer-requires-clause-size
area_answer-requires-clause-size g c = (subst IsArea c.in-Some.is c.take_area-rest.ensures.settled).sized c.in-Some.words refl

pub returns-in-Some-clause-comes : goal.returns-in-Some-clause-comes
returns-in-Some-clause-comes g c =
    let leaves = LeavesBy g.C.Chooser.begins g.C.Chooser.picks c.args.choose.now in
    let loaded = λ (contents : List (List ℕ)). image_set_with c.args.outline contents in
    let rest = λ (contents : List (List ℕ)). image_set_with c.take_area-rest.result.0 contents in
    let m = c.args.«module» in
    if_more
    (λ (answer : Answer). (contents : List (List ℕ)) → InitArea leaves m c.args.power (rest contents) (initialised c.in-Some.words.kept c.args.power.steps) (outcome_with answer contents))
    (λ (answer : Answer). (contents : List (List ℕ)) → InitComes leaves m c.args.power (loaded contents) (outcome_with answer contents))
    c.area_answer.result
    (λ answer said contents.
    module_some leaves m c.args.power (loaded contents) (outcome_with answer contents) (area_of (loaded contents) m) c.in-Some.words
    (sym (ap (option_map bytes_kept) c.in-Some.is) ∙ c.take_area-rest.ensures.area contents)
    (answered leaves m c.args.power (loaded contents) (rest contents) (c.take_area-rest.ensures.others contents) (outcome_with answer contents) (initialised c.in-Some.words.kept c.args.power.steps) (said contents)))
    c.area_answer.ensures.comes

pub returns-in-Some-clause-sizes : goal.returns-in-Some-clause-sizes
returns-in-Some-clause-sizes g c =
    subst (λ (sizes : List ℕ). IfOk c.area_answer.result (λ answer. HasSizes sizes answer)) c.take_area-rest.ensures.sizes c.area_answer.ensures.sizes

pub returns-in-None-clause-comes : goal.returns-in-None-clause-comes
returns-in-None-clause-comes g c =
    let leaves = LeavesBy g.C.Chooser.begins g.C.Chooser.picks c.args.choose.now in
    let loaded = λ (contents : List (List ℕ)). image_set_with c.args.outline contents in
    let m = c.args.«module» in
    if_more
    (λ (answer : Answer). (contents : List (List ℕ)) → outcome_with answer contents ≡ module_outcome m None)
    (λ (answer : Answer). (contents : List (List ℕ)) → InitComes leaves m c.args.power (loaded contents) (outcome_with answer contents))
    c.no_area_answer.result
    (λ answer said contents.
    module_none leaves m c.args.power (loaded contents) (outcome_with answer contents) (area_of (loaded contents) m)
    (sym (ap (option_map bytes_kept) c.in-None.is) ∙ c.take_area-rest.ensures.area contents) (said contents))
    c.no_area_answer.ensures.text

pub returns-in-None-clause-sizes : goal.returns-in-None-clause-sizes
returns-in-None-clause-sizes g c =
    if_more (λ (answer : Answer). answer.saved ≡ None) (λ (answer : Answer). HasSizes c.args.outline.sizes answer) c.no_area_answer.result
    (λ answer none. no_sizes c.args.outline.sizes answer none) c.no_area_answer.ensures.saved
