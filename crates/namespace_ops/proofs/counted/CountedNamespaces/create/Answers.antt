use Rattle.std.proofs.Common.{◌∙◌, refl, sym, ap}
use Rattle.namespace_map.specs.declared.commands.Make.{Make}
use Rattle.sector_namespaces.specs.Creation.{has_sectors}
use Rattle.namespace_map.specs.declared.commands.Command.TheVariants as command
use Rattle.namespace_ops.specs.Counting.{state_in}
use Rattle.namespace_ops.proofs.Answers.{raw_answered, same_formats, sectors_answered, sectors_formats}
use Rattle.namespace_ops.proofs.counted.CountedNamespaces.create.Goals as goal

pub returns-in-Raw-clause-answered : goal.returns-in-Raw-clause-answered
returns-in-Raw-clause-answered g c =
    raw_answered (state_in c.args.self.now) c.create.new.self c.args.fuse.now c.create.new.fuse c.args.spec.now c.create.result (sym c.is_off.ensures ∙ c.if-is_off.false) c.create.ensures.sets c.create.ensures.stopped
    c.create.ensures.memory c.create.ensures.done (ap (λ (m : Make). has_sectors m) c.in-Raw.is) c.create.ensures.carried

pub returns-in-Raw-clause-formats : goal.returns-in-Raw-clause-formats
returns-in-Raw-clause-formats g c =
    same_formats g.F.Formatter.formats (state_in c.args.self.now) c.args.formatter.now c.args.formatter.now c.args.fuse.now (command.Create c.args.spec.now) c.create.result (ap (λ (m : Make). has_sectors m) c.in-Raw.is) refl

pub create_sectors-requires-clause-can : goal.create_sectors-requires-clause-can
create_sectors-requires-clause-can g c = record {
  running = sym c.is_off.ensures ∙ c.if-is_off.false;
  name = c.requires.name;
  sectors = ap (λ (m : Make). has_sectors m) c.in-Sector.is;
}

pub create_sectors-requires-clause-ready : goal.create_sectors-requires-clause-ready
create_sectors-requires-clause-ready g c = c.requires.ready (ap (λ (m : Make). has_sectors m) c.in-Sector.is)

pub returns-in-Sector-clause-answered : goal.returns-in-Sector-clause-answered
returns-in-Sector-clause-answered g c =
    sectors_answered (state_in c.args.self.now) c.create_sectors.new.store c.args.fuse.now c.create_sectors.new.fuse c.args.spec.now c.create_sectors.result (sym c.is_off.ensures ∙ c.if-is_off.false)
    c.create_sectors.ensures.sets c.create_sectors.ensures.stopped (λ e. let was = c.create_sectors.ensures.memory e in (ap (λ h. h.areas) was.0, was.2)) c.create_sectors.ensures.done
    (ap (λ (m : Make). has_sectors m) c.in-Sector.is) c.create_sectors.ensures.held c.create_sectors.ensures.creates

pub returns-in-Sector-clause-formats : goal.returns-in-Sector-clause-formats
returns-in-Sector-clause-formats g c =
    sectors_formats g.F.Formatter.formats (state_in c.args.self.now) c.args.formatter.now c.create_sectors.new.formatter c.args.fuse.now c.args.spec.now c.create_sectors.result
    (sym c.is_off.ensures ∙ c.if-is_off.false) (ap (λ (m : Make). has_sectors m) c.in-Sector.is) (λ e. (c.create_sectors.ensures.memory e).1) c.create_sectors.ensures.refused c.create_sectors.ensures.formats
