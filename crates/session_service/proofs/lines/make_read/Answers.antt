use Rattle.std.proofs.Common.{◌≡◌, Some, length, refl, sym, ap, ◌∙◌, subst, arith}
use Rattle.std.proofs.lemmas.List.{take_at}
use Rattle.arena_open.specs.declared.cell.Cell.{Cell}
use Rattle.lane_core.specs.declared.history.Act.TheVariants as act
use Rattle.session_parts.specs.Parts.{stand_at}
use Rattle.session_script.specs.declared.script.Line.TheVariants as line
use Rattle.lane_table.specs.Reads.{cell_of_kind}
use Rattle.lane_calls.specs.Calls.{CallGoes, answered, one_at_least, whichever}
use Rattle.session_service.specs.declared.runner.Runner.{Runner}
use Rattle.session_account.specs.Sectors.{on_open}
use Rattle.session_service.specs.Namespaces.{AreLaid, IsFound, servings_at}
use Rattle.session_service.specs.Services.{all_of}
use Rattle.session_service.proofs.Steps as steps
use Rattle.session_service.proofs.lines.make_read.Goals as goal

pub find-requires : goal.find-requires
find-requires g c = subst AreLaid (sym c.as_slice-places.ensures.value) c.requires.3.laid.laid

pub refuse-requires : goal.refuse-requires
refuse-requires g c = (
  c.requires.0,
  c.requires.1,
  c.requires.2,
  line.Read c.args.sector,
  c.requires.3,
  steps.read_refused (all_of c.args.service.now) c.args.runner.now.held c.args.sector c.in-Err.why
      (λ further. subst (λ ps. on_open (servings_at ps) c.args.runner.now.held c.args.sector further ≡ Some c.in-Err.why) c.as_slice-places.ensures.value (c.in-Err.ensures.check c.in-Err.why further refl)),
)

pub returns-in-Err-clause-goes : goal.returns-in-Err-clause-goes
returns-in-Err-clause-goes g c = λ script q replies next.
    c.refuse.ensures.goes script q replies (line.Read c.args.sector) next
    (steps.read_refused (all_of c.args.service.now) c.args.runner.now.held c.args.sector c.in-Err.why
    (λ further. subst (λ ps. on_open (servings_at ps) c.args.runner.now.held c.args.sector further ≡ Some c.in-Err.why) c.as_slice-places.ensures.value (c.in-Err.ensures.check c.in-Err.why further refl)))

pub rest_session-requires : goal.rest_session-requires
rest_session-requires g c = (
  c.requires.0,
  c.requires.1,
  c.requires.2,
  steps.same_at c.args.service.now c.requires.0 c.requires.1 c.requires.2 c.args.runner.now c.args.runner.now.text c.args.runner.now.refused c.take_words.new.last c.requires.3.at,
)

pub read-requires : goal.read-requires
read-requires g c = record {
  may = steps.may_read c.args.service.now c.requires.0 c.requires.1 c.requires.2 (line.Read c.args.sector) c.args.runner.now c.requires.3 c.args.sector c.in-Ok.found
      (subst (λ ps. IsFound (servings_at ps) c.args.runner.now.held c.args.sector c.in-Ok.found) c.as_slice-places.ensures.value c.in-Ok.ensures.found) (length c.as_mut_slice-into.result.now) (omega (arith, c.as_mut_slice-into.ensures.len, c.in-Ok-take_words.ensures));
}

pub returns-in-Got-clause-goes : goal.returns-in-Got-clause-goes
returns-in-Got-clause-goes g c = λ script q replies next.
    let r = c.args.runner.now in
    let w = c.in-Got.ensures in
    let after : Runner = record r { session = c.read.new.session; words = c.take_words.new.last } in
    steps.got_goes c.args.service.now script q replies (line.Read c.args.sector) r next c.args.sector c.in-Ok.found
    (subst (λ ps. IsFound (servings_at ps) c.args.runner.now.held c.args.sector c.in-Ok.found) c.as_slice-places.ensures.value c.in-Ok.ensures.found) after w.next refl refl
    c.cell_of.result refl
    (subst (λ (cell : Cell). CallGoes c.args.service.now.sectors c.in-Ok.found.arena one_at_least (whichever (λ m m'. m' ≡ answered (stand_at r.session.caller.call c.in-Ok.found.sector (act.Read cell)) m)) r.session c.read.new.session) (sym (c.cell_of.ensures ∙ ap (cell_of_kind c.in-Got.kind) (take_at c.read.new.into _ c.in-Ok-take_words.words.len (omega (arith, c.read.auto.into, c.as_mut_slice-into.ensures.len))))) (w.done c.in-Got.kind refl))
    (w.spent c.in-Got.kind refl)

pub returns-in-Cut-clause-goes : goal.returns-in-Cut-clause-goes
returns-in-Cut-clause-goes g c = λ script q replies next.
    let r = c.args.runner.now in
    let w = c.in-Cut.ensures in
    let after : Runner = record r { session = c.read.new.session; words = c.take_words.new.last } in
    steps.read_cut_goes c.args.service.now script q replies (line.Read c.args.sector) r next c.args.sector c.in-Ok.found
    (subst (λ ps. IsFound (servings_at ps) c.args.runner.now.held c.args.sector c.in-Ok.found) c.as_slice-places.ensures.value c.in-Ok.ensures.found) after w.next refl refl refl (w.cut refl) (w.told refl)
