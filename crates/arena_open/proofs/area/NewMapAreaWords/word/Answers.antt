use Rattle.std.proofs.Common.{arith, ◌<◌, ◌∙◌}
use Rattle.arena_open.proofs.Bytes.{packed}
use Rattle.arena_open.proofs.Counts.{length_map, map_index}
use Rattle.arena_open.proofs.area.NewMapAreaWords.word.Goals as goal

pub overflow_mul-i : goal.overflow_mul-i
overflow_mul-i c = omega (arith, c.requires.inside, c.requires.sound.1, length_map c.args.self.now.external c.args.self.now.count)

pub overflow_mul-i-2 : goal.overflow_mul-i-2
overflow_mul-i-2 c = omega (arith, c.requires.inside, c.requires.sound.1, length_map c.args.self.now.external c.args.self.now.count)

pub overflow_add-i : goal.overflow_add-i
overflow_add-i c = omega (arith, c.requires.inside, c.requires.sound.1, length_map c.args.self.now.external c.args.self.now.count)

pub returns : goal.returns
returns c =
    let lt : c.args.i < c.args.self.now.count = omega (arith, c.requires.inside, length_map c.args.self.now.external c.args.self.now.count) in
    packed c.from.result c.from-2.result (omega arith)
    ∙ omega (arith, c.from.ensures, c.new_entry-low.ensures, c.from-2.ensures, c.new_entry-high.ensures, map_index c.args.self.now.external c.args.self.now.count c.args.i lt)
