use Rattle.std.proofs.Common.{ap, ◌∙◌, refl}
use Rattle.std.specs.Option.{is_some}
use Rattle.nfit_reader.specs.Names.{again_in}
use Rattle.nfit_reader.proofs.Twice.{again_range, again_interleave, again_control}
use Rattle.nfit_reader.proofs.names.Names.add.Goals as goal

pub returns-in_ok-old-in-Range-clause-again : goal.returns-in_ok-old-in-Range-clause-again
returns-in_ok-old-in-Range-clause-again c = λ rest named.
    c.twice_if.ensures ∙ again_range c.args.structure c.in-Range.range rest c.is_some.result c.in-Range.is
    (c.is_some.ensures ∙ ap is_some (c.in_ok-old-in-Range.ensures.old ∙ named.ranges c.in-Range.range.index))

pub returns-in_ok-old-in-Interleave-clause-again : goal.returns-in_ok-old-in-Interleave-clause-again
returns-in_ok-old-in-Interleave-clause-again c = λ rest named.
    c.twice_if-in-Interleave.ensures ∙ again_interleave c.args.structure c.in-Interleave.interleave rest c.is_some-in-Interleave.result c.in-Interleave.is
    (c.is_some-in-Interleave.ensures ∙ ap is_some (c.in_ok-old-in-Interleave.ensures.old ∙ named.lines c.in-Interleave.interleave.index))

pub returns-in_ok-old-in-Control-clause-again : goal.returns-in_ok-old-in-Control-clause-again
returns-in_ok-old-in-Control-clause-again c = λ rest named.
    c.twice_if-in-Control.ensures ∙ again_control c.args.structure c.in-Control.control rest c.is_some-in-Control.result c.in-Control.is
    (c.is_some-in-Control.ensures ∙ ap is_some (c.in_ok-old-in-Control.ensures.old ∙ named.identities c.in-Control.control.index))

pub returns-in-Mapping-clause-again : goal.returns-in-Mapping-clause-again
unfolding again_in
returns-in-Mapping-clause-again c = λ rest named. rw c.in-Mapping.is refl

pub returns-in-PassedOver-clause-again : goal.returns-in-PassedOver-clause-again
unfolding again_in
returns-in-PassedOver-clause-again c = λ rest named. rw c.in-PassedOver.is refl
