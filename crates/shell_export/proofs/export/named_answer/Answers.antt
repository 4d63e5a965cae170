use Rattle.std.proofs.Common.{◌≡◌, ◌∙◌, ◌+◌, ◌%◌, ◌≤◌, ℕ, List, length, Result, Ok, refl, sym, subst, arith}
use Rattle.std.specs.Prelude.{IfOk}
use Rattle.nfit_reader.specs.declared.table.Mapping.{Mapping}
use Rattle.interleave.specs.Places.{unit_of}
use Rattle.interleave.specs.Sound.{span_of}
use Rattle.image_set.specs.Outline.{image_set_with}
use Rattle.namespace_areas.specs.declared.found.Found.{Found}
use Rattle.namespace_areas.specs.Finding.{LiesInSet}
use Rattle.namespace_map.specs.declared.refused.OpRefused.{OpRefused}
use Rattle.namespace_words.specs.Source.{Reveals}
use Rattle.power_cut.specs.Namespace.{over, words_of}
use Rattle.sector_namespaces.specs.View.{rows_of}
use Rattle.shell_reports.specs.declared.outcome.Report.{Report}
use Rattle.shell_reports.specs.Faults.{refusal_text, refused_outcome}
use Rattle.shell_reports.specs.Saved.{outcome_of}
use Rattle.shell_reports.proofs.More.{if_more}
use Rattle.shell_sectors.proofs.Asked.{found_ends, found_few, found_pages, found_reveals}
use Rattle.shell_export.specs.Export.{export_outcome, words_outcome}
use Rattle.shell_export.specs.Printing.{AreHeld}
use Rattle.shell_export.proofs.Opened.{found_due, refused_due}
use Rattle.shell_export.proofs.Told.{due_by, due_report}
use Rattle.shell_export.proofs.Unplaced.{unplaced_uncut}
use Rattle.shell_export.proofs.export.named_answer.Goals as goal

pub find_place-requires-clause-running : goal.find_place-requires-clause-running
find_place-requires-clause-running g c = c.requires.1.1.running

pub find_place-requires-clause-held : goal.find_place-requires-clause-held
find_place-requires-clause-held g c = c.requires.1.1.held

lies_of : (sets : List (List Mapping)) (r : Result Found OpRefused) (found : Found) → r ≡ Ok found → IfOk r (LiesInSet sets) → LiesInSet sets found
lies_of sets r found is lies = subst (λ (x : Result Found OpRefused). IfOk x (LiesInSet sets)) is lies

pub found_answer-requires-clause-from : goal.found_answer-requires-clause-from
found_answer-requires-clause-from g c =
    subst (λ (set : List Mapping). c.in-Ok-Ok.found.offset % unit_of set ≡ 0) (sym c.set-set.ensures) (lies_of c.args.registry.now.sets _ c.in-Ok-Ok.found c.in-Ok-Ok.field-0-is c.in-Ok-Ok.ensures.lies).from

pub found_answer-requires-clause-to : goal.found_answer-requires-clause-to
found_answer-requires-clause-to g c =
    subst (λ (set : List Mapping). c.in-Ok-Ok.found.raw % unit_of set ≡ 0) (sym c.set-set.ensures) (lies_of c.args.registry.now.sets _ c.in-Ok-Ok.found c.in-Ok-Ok.field-0-is c.in-Ok-Ok.ensures.lies).to

pub found_answer-requires-clause-inside : goal.found_answer-requires-clause-inside
found_answer-requires-clause-inside g c =
    subst (λ (set : List Mapping). c.in-Ok-Ok.found.offset + c.in-Ok-Ok.found.raw ≤ span_of set) (sym c.set-set.ensures) (lies_of c.args.registry.now.sets _ c.in-Ok-Ok.found c.in-Ok-Ok.field-0-is c.in-Ok-Ok.ensures.lies).inside

pub found_answer-requires-clause-pages : goal.found_answer-requires-clause-pages
found_answer-requires-clause-pages g c =
    found_pages c.requires.0 c.args.registry.now c.requires.1.0 c.requires.1.1 c.in-Ok-Ok.found (lies_of c.args.registry.now.sets _ c.in-Ok-Ok.found c.in-Ok-Ok.field-0-is c.in-Ok-Ok.ensures.lies)
    c.set-set.result.now c.set-set.ensures

pub found_answer-requires-clause-few : goal.found_answer-requires-clause-few
found_answer-requires-clause-few g c =
    found_few c.requires.0 c.args.registry.now c.requires.1.0 c.requires.1.1 c.in-Ok-Ok.found (lies_of c.args.registry.now.sets _ c.in-Ok-Ok.found c.in-Ok-Ok.field-0-is c.in-Ok-Ok.ensures.lies)
    c.set-set.result.now c.set-set.ensures

pub found_answer-requires-clause-there : goal.found_answer-requires-clause-there
found_answer-requires-clause-there g c =
    found_ends c.requires.0 c.args.registry.now c.requires.1.0 c.requires.1.1 c.in-Ok-Ok.found (lies_of c.args.registry.now.sets _ c.in-Ok-Ok.found c.in-Ok-Ok.field-0-is c.in-Ok-Ok.ensures.lies)
    c.set-set.result.now c.set-set.ensures (g.S.ImageSource.held c.args.images.now) c.requires.1.2

pub op_refused_answer-requires : goal.op_refused_answer-requires
op_refused_answer-requires g c = unplaced_uncut _ _ c.in-Ok-Err.refused (sym c.in-Ok-Err.field-0-is ∙ c.in-Ok-Err.ensures.place)

pub returns-in-Ok-Ok-clause-printed : goal.returns-in-Ok-Ok-clause-printed
returns-in-Ok-Ok-clause-printed g c =
    let held = g.S.ImageSource.held c.args.images.now in
    if_more _ _ c.found_answer.result
    (λ ended said outline rest o there.
    due_by (Reveals (g.S.ImageSource.held c.args.images.now) c.set-set.result.now) (AreHeld (g.S.ImageSource.held c.args.images.now) (length outline.sizes))
    (λ contents. words_outcome c.args.uuid.now c.args.zeros c.in-Ok-Ok.found.mode (words_of (over c.set-set.result.now c.in-Ok-Ok.found.offset c.in-Ok-Ok.found.raw (rows_of contents))).kept)
    (λ contents. export_outcome c.args.uuid.now c.args.zeros (image_set_with outline contents))
    (g.O.TextSink.written c.args.text.now) (g.O.TextSink.written c.found_answer.new.text) (g.O.TextSink.kept c.args.text.now) (g.O.TextSink.kept c.found_answer.new.text) ended
    (λ contents known. (
      subst (λ (cs : List (List ℕ)). Reveals held c.set-set.result.now cs) (sym known.2)
          (found_reveals outline c.args.registry.now rest o c.in-Ok-Ok.found (lies_of c.args.registry.now.sets _ c.in-Ok-Ok.found c.in-Ok-Ok.field-0-is c.in-Ok-Ok.ensures.lies)
          c.set-set.result.now c.set-set.ensures held known.0 known.1 (there known.0 known.1)),
      sym
          ((λ i. words_outcome c.args.uuid.now c.args.zeros c.in-Ok-Ok.found.mode (words_of (over (c.set-set.ensures i) c.in-Ok-Ok.found.offset c.in-Ok-Ok.found.raw (rows_of contents))).kept)
          ∙ found_due outline c.args.uuid.now c.args.zeros contents c.args.registry.now rest o c.in-Ok-Ok.found (sym c.in-Ok-Ok.field-0-is ∙ c.in-Ok-Ok.ensures.place)),
    ))
    said)
    c.found_answer.ensures.printed

pub returns-in-Ok-Err-clause-printed : goal.returns-in-Ok-Err-clause-printed
returns-in-Ok-Err-clause-printed g c =
    if_more _ _ c.print_made.result
    (λ ended said outline rest o there.
    due_report (AreHeld (g.S.ImageSource.held c.args.images.now) (length outline.sizes)) (λ contents. export_outcome c.args.uuid.now c.args.zeros (image_set_with outline contents)) (outcome_of said.0)
    (g.O.TextSink.written c.args.text.now) (g.O.TextSink.written c.print_made.new.text) (g.O.TextSink.kept c.args.text.now) (g.O.TextSink.kept c.print_made.new.text) ended refl
    (λ contents known.
    let says : outcome_of said.0 ≡ refused_outcome (refusal_text c.in-Ok-Err.refused) =
    subst (λ r. IfOk r (λ (report : Report). outcome_of report ≡ refused_outcome (refusal_text c.in-Ok-Err.refused))) said.1 c.op_refused_answer.ensures.text in
    sym (refused_due outline c.args.uuid.now c.args.zeros contents c.args.registry.now rest o c.in-Ok-Err.refused (sym c.in-Ok-Err.field-0-is ∙ c.in-Ok-Err.ensures.place)) ∙ sym says)
    said.2)
    c.print_made.ensures.printed
