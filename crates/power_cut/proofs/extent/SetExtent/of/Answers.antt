use Rattle.std.proofs.Common.{[]}
use Rattle.power_cut.proofs.Spread.{laid_of}
use Rattle.power_cut.proofs.extent.SetExtent.of.Goals as goal

pub invariant_of-result : goal.invariant_of-result
invariant_of-result c = laid_of c.args.set.now c.args.offset c.args.raw c.span-span.result c.unit-unit.result [] c.requires.from c.requires.to c.requires.inside
    c.unit-unit.ensures.unit c.unit-unit.ensures.whole c.unit-unit.ensures.parts c.span-span.ensures.span c.span-span.ensures.fits c.span-span.ensures.each c.span-span.ensures.apart
    c.span-span.ensures.places c.span-span.ensures.words

pub returns-clause-laid : goal.returns-clause-laid
returns-clause-laid c = laid_of c.args.set.now c.args.offset c.args.raw c.span-span.result c.unit-unit.result [] c.requires.from c.requires.to c.requires.inside
    c.unit-unit.ensures.unit c.unit-unit.ensures.whole c.unit-unit.ensures.parts c.span-span.ensures.span c.span-span.ensures.fits c.span-span.ensures.each c.span-span.ensures.apart
    c.span-span.ensures.places c.span-span.ensures.words
