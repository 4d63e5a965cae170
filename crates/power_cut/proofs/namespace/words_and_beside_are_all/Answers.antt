use Rattle.power_cut.proofs.Beside.{are_all, are_same_outside}
use Rattle.power_cut.proofs.Spread.{laid_of}
use Rattle.power_cut.proofs.namespace.words_and_beside_are_all.Goals as goal

pub returns-clause-all : goal.returns-clause-all
returns-clause-all c = are_all c.args.set.now c.args.offset c.args.raw
    (λ modules. laid_of c.args.set.now c.args.offset c.args.raw c.span-span.result c.unit-unit.result modules c.requires.from c.requires.to c.requires.inside
    c.unit-unit.ensures.unit c.unit-unit.ensures.whole c.unit-unit.ensures.parts c.span-span.ensures.span c.span-span.ensures.fits c.span-span.ensures.each c.span-span.ensures.apart
    c.span-span.ensures.places c.span-span.ensures.words)

pub returns-clause-outside : goal.returns-clause-outside
returns-clause-outside c = are_same_outside c.args.set.now c.args.offset c.args.raw
