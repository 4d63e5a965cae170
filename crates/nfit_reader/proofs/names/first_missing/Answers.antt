use Rattle.std.proofs.Common.{sym, ◌∙◌}
use Rattle.nfit_reader.specs.Table.{missing_of}
use Rattle.nfit_reader.proofs.Missing.{here, more, ended}
use Rattle.nfit_reader.proofs.names.first_missing.Goals as goal

pub returns-then-is_some : goal.returns-then-is_some
returns-then-is_some c = λ structures named.
    here (missing_of structures) c.args.links.now c.loop-link.link-index _ c.missing-missing.result c.loop-link-test.true (c.missing-missing.ensures structures named) (sym c.is_some.ensures ∙ c.if-is_some.true)
    ∙ c.loop-link.invariant structures named

pub loop-link-preserved : goal.loop-link-preserved
loop-link-preserved c = λ structures named.
    more (missing_of structures) c.args.links.now c.loop-link.link-index _ c.missing-missing.result c.loop-link-test.true (c.missing-missing.ensures structures named) (sym c.is_some.ensures ∙ c.if-is_some.false)
    ∙ c.loop-link.invariant structures named

pub returns : goal.returns
returns c = λ structures named.
    ended (missing_of structures) c.args.links.now c.loop-link.link-index c.loop-link-test.false ∙ c.loop-link.invariant structures named
