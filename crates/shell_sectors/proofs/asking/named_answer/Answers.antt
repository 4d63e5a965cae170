use Rattle.std.proofs.Common.{◌≡◌, ◌∙◌, ◌+◌, ◌%◌, ◌≤◌, List, length, sym, subst}
use Rattle.nfit_reader.specs.declared.table.Mapping.{Mapping}
use Rattle.interleave.specs.Places.{unit_of}
use Rattle.interleave.specs.Sound.{span_of}
use Rattle.image_set.specs.Outline.{contents_in}
use Rattle.power_cut.specs.Namespace.{over, words_of}
use Rattle.sector_namespaces.specs.View.{opened_view, rows_of}
use Rattle.shell_reports.specs.Sectors.{on_arenas}
use Rattle.shell_reports.proofs.More.{if_more}
use Rattle.shell_reports.proofs.Uncut.{unfound_uncut}
use Rattle.shell_sectors.specs.Asked.{asked}
use Rattle.shell_sectors.proofs.Asked.{found_due, found_ends, found_few, found_pages, found_reveals, kept, refused_due}
use Rattle.shell_sectors.proofs.asking.named_answer.Goals as goal

pub find-requires : goal.find-requires
find-requires g c = record { running = c.requires.open.1.running }

pub found_answer-requires-clause-from : goal.found_answer-requires-clause-from
found_answer-requires-clause-from g c = subst (λ (set : List Mapping). c.in-Ok.found.offset % unit_of set ≡ 0) (sym c.set-set.ensures) c.in-Ok.ensures.lies.from

pub found_answer-requires-clause-to : goal.found_answer-requires-clause-to
found_answer-requires-clause-to g c = subst (λ (set : List Mapping). c.in-Ok.found.raw % unit_of set ≡ 0) (sym c.set-set.ensures) c.in-Ok.ensures.lies.to

pub found_answer-requires-clause-inside : goal.found_answer-requires-clause-inside
found_answer-requires-clause-inside g c = subst (λ (set : List Mapping). c.in-Ok.found.offset + c.in-Ok.found.raw ≤ span_of set) (sym c.set-set.ensures) c.in-Ok.ensures.lies.inside

pub found_answer-requires-clause-pages : goal.found_answer-requires-clause-pages
found_answer-requires-clause-pages g c = found_pages c.requires.open.0 c.args.registry.now c.args.rest.now c.requires.open.1 c.in-Ok.found c.in-Ok.ensures.lies c.set-set.result.now c.set-set.ensures

pub found_answer-requires-clause-few : goal.found_answer-requires-clause-few
found_answer-requires-clause-few g c =
    found_few c.requires.open.0 c.args.registry.now c.args.rest.now c.requires.open.1 c.in-Ok.found c.in-Ok.ensures.lies c.set-set.result.now c.set-set.ensures

pub found_answer-requires-clause-there : goal.found_answer-requires-clause-there
found_answer-requires-clause-there g c =
    found_ends c.requires.open.0 c.args.registry.now c.args.rest.now c.requires.open.1 c.in-Ok.found c.in-Ok.ensures.lies c.set-set.result.now c.set-set.ensures
    (g.S.ImageSource.held c.args.images.now) c.requires.there

pub op_refused_answer-requires : goal.op_refused_answer-requires
op_refused_answer-requires g c = unfound_uncut _ _ c.in-Err.refused c.in-Err.ensures.found

pub returns-in-Ok-clause-told : goal.returns-in-Ok-clause-told
returns-in-Ok-clause-told g c =
    let held = g.S.ImageSource.held c.args.images.now in
    if_more _ _ c.found_answer.result
    (λ answer due outline o source told.
    let contents = contents_in source (length outline.sizes) in
    due contents (found_reveals outline c.args.registry.now c.args.rest.now o c.in-Ok.found c.in-Ok.ensures.lies c.set-set.result.now c.set-set.ensures held source told (c.requires.there source told))
    ∙ (λ i. on_arenas c.args.uuid.now (asked c.args.ask) (opened_view (words_of (over (c.set-set.ensures i) c.in-Ok.found.offset c.in-Ok.found.raw (rows_of contents))).kept c.args.uuid.now))
    ∙ found_due outline c.args.uuid.now (asked c.args.ask) contents c.args.registry.now c.args.rest.now o c.in-Ok.found c.in-Ok.ensures.found)
    c.found_answer.ensures.told

pub returns-in-Err-clause-told : goal.returns-in-Err-clause-told
returns-in-Err-clause-told g c =
    kept _ c.op_refused_answer.result c.reported.result c.reported.ensures.same
    (if_more _ _ c.op_refused_answer.result
    (λ answer says outline o source told.
    says ∙ refused_due outline c.args.uuid.now (asked c.args.ask) (contents_in source (length outline.sizes)) c.args.registry.now c.args.rest.now o c.in-Err.refused c.in-Err.ensures.found)
    c.op_refused_answer.ensures.text)
