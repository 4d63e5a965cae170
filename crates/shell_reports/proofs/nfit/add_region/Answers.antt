use Rattle.std.proofs.Common.{◌++◌, sym, ap, ◌∙◌}
use Rattle.std.specs.Prelude.{string_bytes}
use Rattle.interleave.specs.Sets.{set_reading}
use Rattle.shell_reports.specs.Nfit.{region_start}
use Rattle.shell_reports.proofs.Regions.{set_said, none_said}
use Rattle.shell_reports.proofs.nfit.add_region.Goals as goal

pub returns-in-Ok : goal.returns-in-Ok
returns-in-Ok c =
    let region = c.args.region.now in
    set_said c.add_set.result (string_bytes c.args.text.now) (region_start c.args.number region.index) (string_bytes c.push_str.new.self) (string_bytes c.add_set.new.text) region
    _ c.interleave_set.result (set_reading region) c.in-Ok.is (c.in_ok-push_str.ensures.bytes ∙ ap (λ x. string_bytes c.args.text.now ++ x) (c.as_str.ensures.value ∙ c.in_ok-region_start.ensures))
    (λ found. c.interleave_set.ensures region found ∙ ap set_reading (sym (c.requires.region region))) c.add_set.ensures

pub returns-in-Err : goal.returns-in-Err
returns-in-Err c =
    let region = c.args.region.now in
    none_said c.add_fault.result (string_bytes c.args.text.now) (region_start c.args.number region.index) (string_bytes c.push_str.new.self) (string_bytes c.add_fault.new.text) region
    c.in-Err.fault c.interleave_set.result (set_reading region) c.in-Err.is (c.in_ok-push_str.ensures.bytes ∙ ap (λ x. string_bytes c.args.text.now ++ x) (c.as_str.ensures.value ∙ c.in_ok-region_start.ensures))
    (λ found. c.interleave_set.ensures region found ∙ ap set_reading (sym (c.requires.region region))) (c.add_fault.ensures.text region) c.add_fault.ensures.finding
