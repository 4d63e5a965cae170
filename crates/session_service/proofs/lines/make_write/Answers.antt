use Rattle.std.proofs.Common.{◌≡◌, ◌*◌, ℕ, List, Some, length, refl, sym, ap, ◌∙◌, subst}
use Rattle.lane_core.specs.declared.history.Act.TheVariants as act
use Rattle.session_parts.specs.Parts.{stand_at}
use Rattle.session_script.specs.declared.script.Line.TheVariants as line
use Rattle.session_account.specs.Sectors.{on_open}
use Rattle.lane_calls.specs.Calls as lanes
use Rattle.lane_calls.specs.Calls.{CallGoes, answered, none_at_least, whichever, write_at_least}
use Rattle.session_service.specs.declared.runner.Runner.{Runner}
use Rattle.session_service.specs.Namespaces.{AreLaid, IsFound, servings_at}
use Rattle.session_service.specs.Services.{all_of}
use Rattle.session_service.proofs.Steps as steps
use Rattle.session_service.proofs.lines.make_write.Goals as goal

pub find-requires : goal.find-requires
find-requires g c = subst AreLaid (sym c.as_slice-places.ensures.value) c.requires.3.laid.laid

pub refuse-requires : goal.refuse-requires
refuse-requires g c = (
  c.requires.0,
  c.requires.1,
  c.requires.2,
  line.Write c.args.sector c.args.value.now,
  c.requires.3,
  steps.write_refused (all_of c.args.service.now) c.args.runner.now.held c.args.sector c.args.value.now c.in-Err.why
      (λ further. subst (λ ps. on_open (servings_at ps) c.args.runner.now.held c.args.sector further ≡ Some c.in-Err.why) c.as_slice-places.ensures.value (c.in-Err.ensures.check c.in-Err.why further refl)),
)

pub returns-in-Err-clause-goes : goal.returns-in-Err-clause-goes
returns-in-Err-clause-goes g c = λ script q replies next.
    c.refuse.ensures.goes script q replies (line.Write c.args.sector c.args.value.now) next
    (steps.write_refused (all_of c.args.service.now) c.args.runner.now.held c.args.sector c.args.value.now c.in-Err.why
    (λ further. subst (λ ps. on_open (servings_at ps) c.args.runner.now.held c.args.sector further ≡ Some c.in-Err.why) c.as_slice-places.ensures.value (c.in-Err.ensures.check c.in-Err.why further refl)))

pub refuse-requires-in-Some : goal.refuse-requires-in-Some
refuse-requires-in-Some g c = (
  c.requires.0,
  c.requires.1,
  c.requires.2,
  line.Write c.args.sector c.args.value.now,
  c.requires.3,
  steps.write_misfits (all_of c.args.service.now) c.args.runner.now.held c.args.sector c.args.value.now c.in-Some.why c.in-Ok.found
      (subst (λ ps. IsFound (servings_at ps) c.args.runner.now.held c.args.sector c.in-Ok.found) c.as_slice-places.ensures.value c.in-Ok.ensures.found) (sym c.in-Some.ensures),
)

pub returns-in-Some-clause-goes : goal.returns-in-Some-clause-goes
returns-in-Some-clause-goes g c = λ script q replies next.
    c.refuse-in-Some.ensures.goes script q replies (line.Write c.args.sector c.args.value.now) next
    (steps.write_misfits (all_of c.args.service.now) c.args.runner.now.held c.args.sector c.args.value.now c.in-Some.why c.in-Ok.found
    (subst (λ ps. IsFound (servings_at ps) c.args.runner.now.held c.args.sector c.in-Ok.found) c.as_slice-places.ensures.value c.in-Ok.ensures.found) (sym c.in-Some.ensures))

pub value_words-requires-clause-whole : goal.value_words-requires-clause-whole
value_words-requires-clause-whole g c = steps.whole_words c.args.service.now c.requires.3.laid c.args.runner.now.held c.args.sector c.in-Ok.found (subst (λ ps. IsFound (servings_at ps) c.args.runner.now.held c.args.sector c.in-Ok.found) c.as_slice-places.ensures.value c.in-Ok.ensures.found)

pub write-requires : goal.write-requires
write-requires g c = (
  c.type_bounds.sync-G,
  steps.may_write c.args.service.now c.requires.0 c.requires.1 c.requires.2 (line.Write c.args.sector c.args.value.now) c.args.runner.now c.requires.3 c.args.sector c.in-Ok.found
      (subst (λ ps. IsFound (servings_at ps) c.args.runner.now.held c.args.sector c.in-Ok.found) c.as_slice-places.ensures.value c.in-Ok.ensures.found) c.as_slice-slice.result.now (ap (λ (ws : List ℕ). 8 * length ws) c.as_slice-slice.ensures.value ∙ c.in-Ok-value_words.ensures.count),
)

pub returns-in-Done-clause-goes : goal.returns-in-Done-clause-goes
returns-in-Done-clause-goes g c = λ script q replies next.
    let r = c.args.runner.now in
    let f = c.in-Ok.found in
    let w = c.in-Done.ensures in
    let value = c.args.value.now in
    let same = c.as_slice-slice.ensures.value ∙ c.in-Ok-value_words.ensures.words ∙ sym (steps.value_is value f.bytes) in
    let after : Runner = record r { session = c.write.new.session } in
    steps.done_goes c.args.service.now script q replies (line.Write c.args.sector value) r next c.args.sector f (subst (λ ps. IsFound (servings_at ps) c.args.runner.now.held c.args.sector c.in-Ok.found) c.as_slice-places.ensures.value c.in-Ok.ensures.found) after w.next refl refl value (sym c.in-None.ensures) refl
    (subst (λ (ws : List ℕ). CallGoes c.args.service.now.sectors f.arena write_at_least (whichever (λ m m'. m' ≡ answered (stand_at r.session.caller.call f.sector (act.Write ws)) m)) r.session c.write.new.session) same (w.done refl))
    (w.spent refl)

pub returns-clause-goes : goal.returns-clause-goes
returns-clause-goes g c = λ script q replies next.
    let r = c.args.runner.now in
    let f = c.in-Ok.found in
    let w = c.in-Cut.ensures in
    let value = c.args.value.now in
    let same = c.as_slice-slice.ensures.value ∙ c.in-Ok-value_words.ensures.words ∙ sym (steps.value_is value f.bytes) in
    let after : Runner = record r { session = c.write.new.session } in
    steps.write_cut_goes c.args.service.now script q replies (line.Write c.args.sector value) r next c.args.sector f (subst (λ ps. IsFound (servings_at ps) c.args.runner.now.held c.args.sector c.in-Ok.found) c.as_slice-places.ensures.value c.in-Ok.ensures.found) after w.next refl refl value (sym c.in-None.ensures) refl
    (subst (λ (ws : List ℕ). CallGoes c.args.service.now.sectors f.arena none_at_least (lanes.IsStopped r.session.number r.session.caller.call f.sector ws) r.session c.write.new.session) same (w.cut refl))
    (w.told refl)
