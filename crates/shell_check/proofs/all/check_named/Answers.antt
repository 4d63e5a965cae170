use Rattle.std.proofs.Common.{◌≡◌, ◌+◌, ◌%◌, ◌≤◌, ℕ, List, Option, length, sym, subst}
use Rattle.nfit_reader.specs.declared.table.Mapping.{Mapping}
use Rattle.arena_check.specs.declared.finding.Report.{Report}
use Rattle.interleave.specs.Places.{unit_of}
use Rattle.interleave.specs.Sound.{span_of}
use Rattle.image_set.specs.Outline.{contents_in}
use Rattle.power_cut.specs.Namespace.{over}
use Rattle.sector_namespaces.specs.View.{rows_of}
use Rattle.shell_reports.proofs.More.{if_more}
use Rattle.shell_sectors.proofs.Asked.{found_ends, found_few, found_pages, found_reveals}
use Rattle.shell_check.specs.All.{AreReported, reports_over}
use Rattle.shell_check.proofs.Each.{found_reported, none_reported}
use Rattle.shell_check.proofs.all.check_named.Goals as goal

pub find-requires : goal.find-requires
find-requires g c = record { running = c.requires.open.1.running }

pub check_found-requires-clause-from : goal.check_found-requires-clause-from
check_found-requires-clause-from g c = subst (λ (set : List Mapping). c.in-Ok.found.offset % unit_of set ≡ 0) (sym c.set-set.ensures) c.in-Ok.ensures.lies.from

pub check_found-requires-clause-to : goal.check_found-requires-clause-to
check_found-requires-clause-to g c = subst (λ (set : List Mapping). c.in-Ok.found.raw % unit_of set ≡ 0) (sym c.set-set.ensures) c.in-Ok.ensures.lies.to

pub check_found-requires-clause-inside : goal.check_found-requires-clause-inside
check_found-requires-clause-inside g c = subst (λ (set : List Mapping). c.in-Ok.found.offset + c.in-Ok.found.raw ≤ span_of set) (sym c.set-set.ensures) c.in-Ok.ensures.lies.inside

pub check_found-requires-clause-pages : goal.check_found-requires-clause-pages
check_found-requires-clause-pages g c = found_pages c.requires.open.0 c.args.registry.now c.args.rest.now c.requires.open.1 c.in-Ok.found c.in-Ok.ensures.lies c.set-set.result.now c.set-set.ensures

pub check_found-requires-clause-few : goal.check_found-requires-clause-few
check_found-requires-clause-few g c = found_few c.requires.open.0 c.args.registry.now c.args.rest.now c.requires.open.1 c.in-Ok.found c.in-Ok.ensures.lies c.set-set.result.now c.set-set.ensures

pub check_found-requires-clause-there : goal.check_found-requires-clause-there
check_found-requires-clause-there g c =
    found_ends c.requires.open.0 c.args.registry.now c.args.rest.now c.requires.open.1 c.in-Ok.found c.in-Ok.ensures.lies c.set-set.result.now c.set-set.ensures
    (g.S.ImageSource.held c.args.images.now) c.requires.there

pub returns-in-Ok-clause-told : goal.returns-in-Ok-clause-told
returns-in-Ok-clause-told g c =
    let held = g.S.ImageSource.held c.args.images.now in
    let registry = c.args.registry.now in
    let rest = c.args.rest.now in
    let uuid = c.args.uuid.now in
    let found = c.in-Ok.found in
    let set = c.set-set.result.now in
    if_more _ _ c.check_found.result
    (λ lines says outline o source told.
    let contents = contents_in source (length outline.sizes) in
    let reported : AreReported uuid (reports_over (over set found.offset found.raw (rows_of contents)) rest.bad uuid) lines =
    subst (λ (bad : List (Option (List ℕ))). AreReported uuid (reports_over (over set found.offset found.raw (rows_of contents)) bad uuid) lines) c.as_slice.ensures
    (says contents (found_reveals outline registry rest o found c.in-Ok.ensures.lies set c.set-set.ensures held source told (c.requires.there source told))) in
    subst (λ (reports : List Report). AreReported uuid reports lines) (found_reported outline registry rest o uuid contents found c.in-Ok.ensures.found set c.set-set.ensures) reported)
    c.check_found.ensures.told

pub returns-in-Err-clause-told : goal.returns-in-Err-clause-told
returns-in-Err-clause-told g c = λ outline o source told.
    none_reported outline c.args.registry.now c.args.rest.now o c.args.uuid.now (contents_in source (length outline.sizes)) c.in-Err.field-0 c.in-Err.ensures.found c.no_lines.result c.no_lines.ensures.text c.no_lines.ensures.count
