use Rattle.std.proofs.Common.{◌≡◌, ◌∙◌, ◌%◌, false, ap, sym, subst}
use Rattle.bad_ranges.specs.Bad.{bad_words}
use Rattle.arena_repair.specs.Chain.{reports_of}
use Rattle.namespace_words.specs.Source.{HasEnds, Reveals, words_by}
use Rattle.power_cut.specs.Namespace.{Namespace, over, raw_bytes}
use Rattle.sector_namespaces.specs.View.{rows_of}
use Rattle.shell_check.specs.All.{reports_over}
use Rattle.shell_check.specs.Text.{findings_in, report_lines}
use Rattle.shell_check.proofs.Extents.{reports_there}
use Rattle.shell_check.proofs.Lanes.{ok_is}
use Rattle.shell_check.proofs.all.check_found.Goals as goal

pub check_extent-requires-clause-pages : goal.check_extent-requires-clause-pages
check_extent-requires-clause-pages g c = subst (λ (n : Namespace). raw_bytes n % 4096 ≡ 0) (sym c.of-extent.ensures.made) c.requires.pages

pub check_extent-requires-clause-there : goal.check_extent-requires-clause-there
check_extent-requires-clause-there g c =
    subst (λ (n : Namespace). HasEnds (g.S.ImageSource.held c.args.images.now) n.set) (sym c.of-extent.ensures.made) c.requires.there

pub returns-in-Ok-Ok-clause-told : goal.returns-in-Ok-Ok-clause-told
returns-in-Ok-Ok-clause-told g c = λ contents reveals.
    let held = g.S.ImageSource.held c.args.images.now in
    let found = c.args.found.now in
    let shown = subst (λ (n : Namespace). Reveals held n.set contents) (sym c.of-extent.ensures.made) reveals in
    let listed = ok_is _ c.in-Ok-Ok.field-0 c.in-Ok-Ok.checked c.in-Ok-Ok.field-0-is (c.in-Ok-Ok.ensures.told contents shown) in
    let reports : reports_of (bad_words c.of-extent.result c.args.bad.now) (words_by c.of-extent.result contents) c.args.uuid.now ≡ reports_over (over c.args.set.now found.offset found.raw (rows_of contents)) c.args.bad.now c.args.uuid.now =
    reports_there c.args.set.now found.offset found.raw c.of-extent.result c.of-extent.ensures.made contents c.args.bad.now c.args.uuid.now in
    record {
      text = listed.text ∙ (λ i. report_lines ((c.deref.ensures ∙ c.in-Ok.ensures) i) false 0 (reports i));
      count = listed.count ∙ ap (findings_in false) reports;
    }
