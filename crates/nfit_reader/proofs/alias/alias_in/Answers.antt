use Rattle.std.proofs.Common.{get_or, sym, ap, ◌∙◌}
use Rattle.std.specs.List.{find}
use Rattle.nfit_reader.specs.declared.alias.DpaRange.{DpaRange}
use Rattle.nfit_reader.specs.Table.{is_alias}
use Rattle.nfit_reader.proofs.DpaRanges.{alias_here, alias_more, alias_end}
use Rattle.nfit_reader.proofs.alias.alias_in.Goals as goal

abbrev blank : DpaRange
blank = record { «module» = 0; start = 0; size = 0; region = 0 }

pub returns-in-Some : goal.returns-in-Some
returns-in-Some c =
    alias_here c.args.dpa_ranges.now c.loop-place.place blank c.in-Some.b c.loop-place-test.true
    (c.in-Some.ensures ∙ ap (find (is_alias (get_or c.args.dpa_ranges.now c.loop-place.place blank))) c.others_after.ensures)
    ∙ c.loop-place.invariant

pub loop-place-preserved : goal.loop-place-preserved
loop-place-preserved c =
    alias_more c.args.dpa_ranges.now c.loop-place.place blank c.loop-place-test.true
    (sym c.in_default.is ∙ c.first_alias.ensures ∙ ap (find (is_alias (get_or c.args.dpa_ranges.now c.loop-place.place blank))) c.others_after.ensures)
    ∙ c.loop-place.invariant

pub returns : goal.returns
returns c = alias_end c.args.dpa_ranges.now c.loop-place.place c.loop-place-test.false ∙ c.loop-place.invariant
