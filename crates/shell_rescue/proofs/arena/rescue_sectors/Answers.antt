use Rattle.std.proofs.Common.{arith}
use Rattle.arena_check.specs.Check.{in_arena}
use Rattle.shell_rescue.proofs.Sized.{losses_few}
use Rattle.shell_rescue.proofs.arena.rescue_sectors.Goals as goal

pub returns-clause-sized : goal.returns-clause-sized
returns-clause-sized g c = record {
  losses = omega (
    arith,
    losses_few c.args.layout.now (in_arena c.args.at (g.B.BadWords.bad c.args.bad.now)) c.args.entries.items c.as_slice.result.now c.in_ok-map.map.losses c.in_ok-map.ensures.losses,
    c.requires.sectors,
  );
  entries = c.in_ok-map.ensures.sectors;
  blocks = c.in_ok-map.ensures.blocks;
}
