use Rattle.std.proofs.Common.{◌≡◌, ◌∙◌, ◌++◌, ◌%◌, ℕ, Bool, List, [], sym, ap, subst}
use Rattle.std.specs.Prelude.{MatchBool}
use Rattle.bad_ranges.specs.Bad.{bad_words}
use Rattle.namespace_bytes.specs.declared.runs.Run.{Run}
use Rattle.namespace_bytes.specs.Patching.{bytes_by_place}
use Rattle.namespace_words.specs.Source.{HasEnds, Reveals, bytes_by, words_by}
use Rattle.power_cut.specs.Namespace.{Namespace, raw_bytes, words_of}
use Rattle.shell_reports.proofs.More.{if_more}
use Rattle.shell_sectors.proofs.Asked.{found_ends}
use Rattle.shell_sectors.proofs.Written.{whole_pages}
use Rattle.arena_repair.specs.Chain.{reports_of}
use Rattle.shell_check.specs.Reading.{RepairsAll}
use Rattle.shell_check.specs.Text.{check_text, last_line}
use Rattle.shell_check.proofs.Extents.{bad_there, reports_there}
use Rattle.shell_check.proofs.Lanes.{ok_is}
use Rattle.shell_check.proofs.command.check_place.Goals as goal

pub check_extent-requires-clause-pages : goal.check_extent-requires-clause-pages
check_extent-requires-clause-pages g c =
    subst (λ (n : Namespace). raw_bytes n % 4096 ≡ 0) (sym c.of-extent.ensures.made) (whole_pages c.args.uuid.now c.requires.found.0 c.args.place.now c.requires.found.1)

pub check_extent-requires-clause-there : goal.check_extent-requires-clause-there
check_extent-requires-clause-there g c =
    let held = g.S.ImageSource.held c.args.images.now in
    let it = c.requires.found.1 in
    subst (λ (n : Namespace). HasEnds held n.set) (sym c.of-extent.ensures.made)
    (found_ends c.requires.found.0 it.registry c.args.place.now.rest it.parts c.args.place.now.found it.lies c.args.place.now.set it.set held c.requires.there)

pub returns-in-Ok-clause-told : goal.returns-in-Ok-clause-told
returns-in-Ok-clause-told g c = λ contents reveals e is.
    let held = g.S.ImageSource.held c.args.images.now in
    let place = c.args.place.now in
    let shown = subst (λ (n : Namespace). Reveals held n.set contents) (sym c.of-extent.ensures.made) reveals in
    let listed = ok_is _ c.in_ok-checked.field-0 c.in-Ok.checked c.in-Ok.is (c.in_ok-checked.ensures.told contents shown) in
    let reports : reports_of (bad_words c.of-extent.result c.as_slice-bad.result.now) (words_by c.of-extent.result contents) c.args.uuid.now ≡ reports_of (bad_words e place.rest.bad) (words_of e).kept c.args.uuid.now =
    reports_there place.set place.found.offset place.found.raw c.of-extent.result c.of-extent.ensures.made contents c.as_slice-bad.result.now c.args.uuid.now
    ∙ (λ i. reports_of (bad_words (sym is i) (c.as_slice-bad.ensures i)) (words_of (sym is i)).kept c.args.uuid.now) in
    if_more _ _ c.with_last_line.result
    (λ done says. says ∙ (λ i. listed.text i ++ last_line (listed.count i)) ∙ ap (check_text c.args.repair) reports)
    c.with_last_line.ensures.text

pub returns-in-Ok-clause-repairs : goal.returns-in-Ok-clause-repairs
returns-in-Ok-clause-repairs g c = λ contents reveals e is.
    let held = g.S.ImageSource.held c.args.images.now in
    let place = c.args.place.now in
    let shown = subst (λ (n : Namespace). Reveals held n.set contents) (sym c.of-extent.ensures.made) reveals in
    let repaired = ok_is _ c.in_ok-checked.field-0 c.in-Ok.checked c.in-Ok.is (c.in_ok-checked.ensures.repairs contents shown) in
    let bad : bad_words c.of-extent.result c.as_slice-bad.result.now ≡ bad_words e place.rest.bad =
    bad_there place.set place.found.offset place.found.raw c.of-extent.result c.of-extent.ensures.made contents c.as_slice-bad.result.now
    ∙ (λ i. bad_words (sym is i) (c.as_slice-bad.ensures i)) in
    let row : bytes_by c.of-extent.result contents ≡ bytes_by_place place.set place.found.offset place.found.raw contents = ap (λ (n : Namespace). bytes_by n contents) c.of-extent.ensures.made in
    if_more _ _ c.with_last_line.result
    (λ done same.
    subst (λ (runs : List Run). MatchBool c.args.repair (RepairsAll (bad_words e place.rest.bad) c.args.uuid.now (bytes_by_place place.set place.found.offset place.found.raw contents) runs) (runs ≡ [])) (sym same)
    (subst (λ (bytes : List ℕ). MatchBool c.args.repair (RepairsAll (bad_words e place.rest.bad) c.args.uuid.now bytes c.in-Ok.checked.runs) (c.in-Ok.checked.runs ≡ [])) row
    (subst (λ (b : ℕ → Bool). MatchBool c.args.repair (RepairsAll b c.args.uuid.now (bytes_by c.of-extent.result contents) c.in-Ok.checked.runs) (c.in-Ok.checked.runs ≡ [])) bad repaired)))
    c.with_last_line.ensures.runs
