use Rattle.std.proofs.Common.{◌∙◌, sym, arith}
use Rattle.std.proofs.lemmas.List.{drop_all}
use Rattle.map_table.proofs.Tallies.{search_ends, search_goes_on, search_fails}
use Rattle.map_table.proofs.counts.first_flag.Goals as goal

pub returns-then-get-clause-first : goal.returns-then-get-clause-first
returns-then-get-clause-first c =
    search_ends c.args.flags.now c.loop-place.place (omega arith) (sym c.get.ensures ∙ c.if-get.true) c.loop-place.invariant

pub loop-place-preserved : goal.loop-place-preserved
loop-place-preserved c =
    search_goes_on c.args.flags.now c.loop-place.place (omega arith) (sym c.get.ensures ∙ c.if-get.false) c.loop-place.invariant

pub returns-clause-first : goal.returns-clause-first
returns-clause-first c =
    search_fails c.args.flags.now _ c.loop-place.place (drop_all c.loop-place.place c.args.flags.now (omega arith)) c.loop-place.invariant
