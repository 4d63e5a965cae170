use Rattle.std.proofs.Common.{◌≡◌, ◌∙◌, ℕ, List, [], Contains, refl, sym, ap, subst, arith}
use Rattle.std.proofs.lemmas.Bool.{le-ltb, lt-ltb}
use Rattle.arena_open.specs.declared.state.ArenaState.{ArenaState}
use Rattle.arena_open.specs.ChainCells.{sectors_of}
use Rattle.image_set.specs.declared.outline.Outline.{Outline}
use Rattle.image_set.specs.Outline.{image_set_with}
use Rattle.namespace_areas.specs.declared.found.Found.{Found}
use Rattle.namespace_areas.specs.Seen.{areas_seen}
use Rattle.namespace_areas.specs.Steps.{rows_of as label_rows}
use Rattle.served_namespaces.specs.declared.places.OpenedNamespace.{OpenedNamespace}
use Rattle.session_script.specs.declared.script.Script.{Script}
use Rattle.session_script.specs.Load.{load_script}
use Rattle.shell_changes.specs.declared.answer.Answer.{Answer}
use Rattle.shell_changes.specs.Answers.{outcome_with}
use Rattle.shell_changes.specs.Remains.{LeavesBy}
use Rattle.shell_changes.proofs.Remains.{no_sizes}
use Rattle.shell_reports.specs.Faults.{range_text, refused_outcome}
use Rattle.shell_reports.proofs.More.{if_more}
use Rattle.shell_serve.specs.Answering.{HoldsIn, IsOpen}
use Rattle.shell_serve.specs.Load.{LoadsOnStates, one_opened, script_for}
use Rattle.shell_serve.specs.Serving.{Serves}
use Rattle.shell_serve.specs.Texts.{summary}
use Rattle.shell_serve.proofs.Coming.{load_few, load_on}
use Rattle.shell_serve.proofs.Opens.{each_of}
use Rattle.shell_serve.proofs.load.opened_answer.Goals as goal

pub sectors_of-sectors-requires : goal.sectors_of-sectors-requires
sectors_of-sectors-requires g c =
    let o : OpenedNamespace = record { place = record { uuid = c.args.load.now.uuid; found = c.requires.one.0 }; states = c.requires.one.1.0 } in
    let there : Contains c.args.opened o = subst (λ (os : List OpenedNamespace). Contains os o) (sym c.requires.one.1.1) (0, omega arith, refl) in
    record { one = (o, c.as_slice.ensures ∙ c.requires.one.1.1, (each_of c.args.set.registry.sets c.args.opened c.requires.open.1.each o there).are_open) }

pub returns-then-sectors-from-clause-comes : goal.returns-then-sectors-from-clause-comes
returns-then-sectors-from-clause-comes g c = λ outline contents found states ready holds is.
    let leaves = LeavesBy g.C.Chooser.begins g.C.Chooser.picks c.args.choose.now c.args.running.seed in
    let count : c.sectors_of-sectors.result ≡ sectors_of states = c.sectors_of-sectors.ensures (record { place = record { uuid = c.args.load.now.uuid; found = found }; states = states }) (c.as_slice.ensures ∙ is) in
    load_few leaves c.args.load.now (image_set_with outline contents) (outcome_with c.without_set.result contents) c.args.set.registry.sets (areas_seen c.args.set.registry.areas) (label_rows c.args.set.registry.areas) found states
    (lt-ltb (sectors_of states) c.args.load.now.sessions (omega (arith, count, c.from.ensures, c.if-sectors-from.true)))
    (c.without_set.ensures.same contents ∙ c.in_ok-report.ensures ∙ ap (λ (n : ℕ). refused_outcome (range_text n)) count)

pub returns-then-sectors-from-clause-sizes : goal.returns-then-sectors-from-clause-sizes
returns-then-sectors-from-clause-sizes g c = no_sizes c.args.set.rest.sizes c.without_set.result c.without_set.ensures.saved

pub script_answer-requires-clause-text : goal.script_answer-requires-clause-text
script_answer-requires-clause-text g c κs within = c.in_ok-script.ensures.text

pub returns-clause-comes : goal.returns-clause-comes
returns-clause-comes g c =
    let leaves = LeavesBy g.C.Chooser.begins g.C.Chooser.picks c.args.choose.now c.args.running.seed in
    let sets = c.args.set.registry.sets in
    let areas = areas_seen c.args.set.registry.areas in
    let words = label_rows c.args.set.registry.areas in
    if_more _ (λ (answer : Answer). (outline : Outline) (contents : List (List ℕ)) (found : Found) (states : List ArenaState) → IsOpen outline c.args.set c.args.opened → HoldsIn outline c.args.set contents c.args.opened → c.args.opened ≡ one_opened c.args.load.now found states
    → LoadsOnStates leaves c.args.load.now sets (image_set_with outline contents) areas words found states (outcome_with answer contents)) c.script_answer.result
    (λ answer comes outline contents found states ready holds is.
    let count : c.sectors_of-sectors.result ≡ sectors_of states = c.sectors_of-sectors.ensures (record { place = record { uuid = c.args.load.now.uuid; found = found }; states = states }) (c.as_slice.ensures ∙ is) in
    let made : c.in_ok-script.script ≡ script_for c.args.load.now (sectors_of states) =
    c.in_ok-script.ensures.script ∙ ap (λ (n : ℕ). load_script c.args.load.now.number c.args.load.now.uuid n c.args.load.now.sessions c.args.load.now.calls) count in
    load_on leaves c.args.load.now (image_set_with outline contents) (outcome_with answer contents) sets areas words found states
    (le-ltb (sectors_of states) c.args.load.now.sessions (omega (arith, count, c.from.ensures, c.if-sectors-from.false)))
    (subst (λ (s : Script). Serves leaves (summary s) sets (image_set_with outline contents) areas words (one_opened c.args.load.now found states) s (outcome_with answer contents)) made
    (subst (λ (os : List OpenedNamespace). Serves leaves (summary c.in_ok-script.script) sets (image_set_with outline contents) areas words os c.in_ok-script.script (outcome_with answer contents)) is (comes outline contents ready holds))))
    c.script_answer.ensures.comes
