use Rattle.power_cut.proofs.Spread.{laid_of}
use Rattle.namespace_bytes.proofs.patch.NamespacePatch.lies_in.Goals as goal

pub returns : goal.returns
returns c = record {
  laid = λ modules. laid_of c.args.set.now c.args.self.now.offset c.args.self.now.raw c.span-span.result c.unit-unit.result modules c.requires.from c.requires.to c.requires.inside
      c.unit-unit.ensures.unit c.unit-unit.ensures.whole c.unit-unit.ensures.parts c.span-span.ensures.span c.span-span.ensures.fits c.span-span.ensures.each c.span-span.ensures.apart
      c.span-span.ensures.places c.span-span.ensures.words;
}
