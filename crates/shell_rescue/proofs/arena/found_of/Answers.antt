use Rattle.std.proofs.Common.{◌*◌, ◌≤◌, refl, arith}
use Rattle.arena_layout.specs.Layout.{IsLayout}
use Rattle.shell_rescue.proofs.Sized.{next_size, sectors_fit}
use Rattle.shell_rescue.proofs.arena.found_of.Goals as goal

pub returns-clause-bounded : goal.returns-clause-bounded
returns-clause-bounded c = λ bytes parent arena inside sized.
    let l = c.args.info.now.layout in
    let ok : IsLayout c.args.info.now.layout = arena.sound.layout in
    let fit : 8 * l.external ≤ l.size = sectors_fit l ok in
    record {
      readable = record {
        layout = ok;
        within = omega (arith, arena.size_inside, inside);
        entries = sized.entries;
        blocks = sized.blocks;
      };
      next = λ some. (c.args.info.now, arena, refl);
      few = omega (arith, sized.losses, fit, arena.size_inside);
      few_here = λ some. omega (arith, sized.losses, fit, next_size c.args.info.now.next l.size arena.sound.next some);
    }
