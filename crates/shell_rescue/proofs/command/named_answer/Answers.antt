use Rattle.std.proofs.Common.{◌≡◌, ◌∙◌, ◌%◌, ℕ, List, Option, Result, length, refl, sym, subst}
use Rattle.std.specs.Prelude.{IfOk}
use Rattle.nvd_media.specs.Images.{Images}
use Rattle.bad_ranges.specs.Bad.{bad_words}
use Rattle.image_set.specs.Outline.{image_set_with}
use Rattle.namespace_words.specs.Source.{HasEnds, Reveals, words_by}
use Rattle.power_cut.specs.Namespace.{Namespace, over, raw_bytes, words_of}
use Rattle.sector_namespaces.specs.View.{rows_of}
use Rattle.label_rescue.specs.declared.rescued.RescueFound.{RescueFound}
use Rattle.namespace_areas.specs.Finding.{LiesInSet}
use Rattle.namespace_map.specs.declared.refused.OpRefused.{OpRefused}
use Rattle.shell_reports.specs.declared.outcome.Report.{Report}
use Rattle.shell_reports.specs.Faults.{refusal_text, refused_outcome}
use Rattle.shell_reports.specs.Saved.{outcome_of}
use Rattle.shell_reports.proofs.More.{if_more}
use Rattle.shell_sectors.proofs.Asked.{found_ends, found_pages, found_reveals}
use Rattle.shell_check.proofs.Extents.{bad_there}
use Rattle.shell_export.specs.Printing.{AreHeld}
use Rattle.shell_export.proofs.Told.{due_by, due_report}
use Rattle.shell_rescue.specs.Comes.{made_outcome, rescue_outcome, words_outcome}
use Rattle.shell_rescue.proofs.Named.{found_due, made_is, refused_due}
use Rattle.shell_rescue.proofs.command.named_answer.Goals as goal

pub rescue_found-requires-clause-pages : goal.rescue_found-requires-clause-pages
rescue_found-requires-clause-pages g c =
    subst (λ (n : Namespace). raw_bytes n % 4096 ≡ 0) (sym c.of-extent.ensures.made)
    (found_pages c.requires.open.0 c.args.registry.now c.args.rest.now c.requires.open.1 c.in-Ok-answer.place.found
    (subst (λ (answer : Result RescueFound OpRefused). IfOk answer (λ place. LiesInSet c.args.registry.now.sets place.found)) c.in-Ok-answer.is c.in-Ok.ensures.lies)
    c.set-set.result.now c.set-set.ensures)

pub rescue_found-requires-clause-there : goal.rescue_found-requires-clause-there
rescue_found-requires-clause-there g c =
    let held = g.S.ImageSource.held c.args.images.now in
    subst (λ (n : Namespace). HasEnds held n.set) (sym c.of-extent.ensures.made)
    (found_ends c.requires.open.0 c.args.registry.now c.args.rest.now c.requires.open.1 c.in-Ok-answer.place.found
    (subst (λ (answer : Result RescueFound OpRefused). IfOk answer (λ place. LiesInSet c.args.registry.now.sets place.found)) c.in-Ok-answer.is c.in-Ok.ensures.lies)
    c.set-set.result.now c.set-set.ensures held c.requires.there)

pub print_rescued-requires-clause-there : goal.print_rescued-requires-clause-there
print_rescued-requires-clause-there g c =
    let held = g.S.ImageSource.held c.args.images.now in
    subst (λ (h : Option Images). HasEnds h c.of-extent.result.set) (sym c.in_ok-rescued-in-Ok-answer.ensures.same)
    (subst (λ (n : Namespace). HasEnds held n.set) (sym c.of-extent.ensures.made)
    (found_ends c.requires.open.0 c.args.registry.now c.args.rest.now c.requires.open.1 c.in-Ok-answer.place.found
    (subst (λ (answer : Result RescueFound OpRefused). IfOk answer (λ place. LiesInSet c.args.registry.now.sets place.found)) c.in-Ok-answer.is c.in-Ok.ensures.lies)
    c.set-set.result.now c.set-set.ensures held c.requires.there))

pub returns-in_ok-rescued-in-Ok-answer-clause-printed : goal.returns-in_ok-rescued-in-Ok-answer-clause-printed
returns-in_ok-rescued-in-Ok-answer-clause-printed g c =
    let held = g.S.ImageSource.held c.args.images.now in
    let between = g.S.ImageSource.held c.rescue_found.new.images in
    let registry = c.args.registry.now in
    let rest = c.args.rest.now in
    let uuid = c.args.uuid.now in
    let listing = c.args.listing in
    let found = c.in-Ok-answer.place.found in
    let place : RescueFound = c.in-Ok-answer.place in
    let lies : LiesInSet registry.sets found = subst (λ (answer : Result RescueFound OpRefused). IfOk answer (λ p. LiesInSet registry.sets p.found)) c.in-Ok-answer.is c.in-Ok.ensures.lies in
    let missing = c.as_slice-missing.result.now in
    let set = c.set-set.result.now in
    let extent = c.of-extent.result in
    let made = c.of-extent.ensures.made in
    let bad = c.as_slice-bad.result.now in
    let rescued = c.in_ok-rescued-in-Ok-answer.rescued in
    if_more _ _ c.print_rescued.result
    (λ ended said outline o.
    due_by (Reveals between extent.set) (AreHeld held (length outline.sizes)) (λ contents. made_outcome uuid listing (words_by extent contents) rescued) (λ contents. rescue_outcome uuid listing (image_set_with outline contents))
    (g.O.TextSink.written c.args.text.now) (g.O.TextSink.written c.print_rescued.new.text) (g.O.TextSink.kept c.args.text.now) (g.O.TextSink.kept c.print_rescued.new.text) ended
    (λ contents known.
    let e : Namespace = over set found.offset found.raw (rows_of contents) in
    let there : Reveals held extent.set contents =
    subst (λ (n : Namespace). Reveals held n.set contents) (sym made)
    (subst (λ (cs : List (List ℕ)). Reveals held set cs) (sym known.2) (found_reveals outline registry rest o found lies set c.set-set.ensures held known.0 known.1 (c.requires.there known.0 known.1))) in
    let placed : words_outcome uuid listing missing (bad_words extent bad) (words_by extent contents) ≡ words_outcome uuid listing place.missing (bad_words e rest.bad) (words_of e).kept =
    (λ i. words_outcome uuid listing (c.as_slice-missing.ensures i) (bad_there set found.offset found.raw extent made contents bad i) (words_by (made i) contents))
    ∙ (λ i. words_outcome uuid listing place.missing (bad_words e (c.as_slice-bad.ensures i)) (words_of e).kept) in (
      subst (λ (h : Option Images). Reveals h extent.set contents) (sym c.in_ok-rescued-in-Ok-answer.ensures.same) there,
      sym
          (made_is uuid listing missing (bad_words extent bad) (words_by extent contents) rescued (c.in_ok-rescued-in-Ok-answer.ensures.told contents there)
          ∙ placed ∙ found_due outline uuid listing contents registry rest o place (sym c.in-Ok-answer.is ∙ c.in-Ok.ensures.answer) set c.set-set.ensures),
    ))
    said)
    c.print_rescued.ensures.printed

pub returns-in-Err-clause-printed : goal.returns-in-Err-clause-printed
returns-in-Err-clause-printed g c =
    let refusal = c.in-Err.refused in
    if_more _ _ c.print_made.result
    (λ ended said outline o.
    due_report (AreHeld (g.S.ImageSource.held c.args.images.now) (length outline.sizes)) (λ contents. rescue_outcome c.args.uuid.now c.args.listing (image_set_with outline contents)) (outcome_of said.0)
    (g.O.TextSink.written c.args.text.now) (g.O.TextSink.written c.print_made.new.text) (g.O.TextSink.kept c.args.text.now) (g.O.TextSink.kept c.print_made.new.text) ended refl
    (λ contents known.
    let says : outcome_of said.0 ≡ refused_outcome (refusal_text refusal) =
    subst (λ r. IfOk r (λ (report : Report). outcome_of report ≡ refused_outcome (refusal_text refusal))) said.1 c.op_refused_answer.ensures.text in
    sym (refused_due outline c.args.uuid.now c.args.listing contents c.args.registry.now c.args.rest.now o refusal (sym c.in-Err.is ∙ c.in-Ok.ensures.answer)) ∙ sym says)
    said.2)
    c.print_made.ensures.printed
