use Rattle.std.proofs.Common.{◌≡◌, ◌≤◌, ℕ, Bool, true, false, drop, length, arith}
use Rattle.std.proofs.lemmas.List.{length-drop}
use mir.Val.{bool_byte}
use Rattle.label_index.proofs.Spelled.{bits_below}
use Rattle.label_index.proofs.free.byte_of.Goals as goal

bit_small : (b : Bool) (n : ℕ) → n ≡ bool_byte b → n ≤ 1
bit_small true n e = omega (arith, e)
bit_small false n e = omega (arith, e)

pub overflow_mul-byte : goal.overflow_mul-byte
overflow_mul-byte c =
    let bits = c.args.bits.now in
    let at = c.loop-at.at in
    let few : length (drop at bits) ≤ 7 = omega (arith, length-drop at bits, c.requires) in
    omega (arith, bits_below 7 (drop at bits) few, c.loop-at.invariant.so_far)

pub overflow_add-byte : goal.overflow_add-byte
overflow_add-byte c =
    let bits = c.args.bits.now in
    let at = c.loop-at.at in
    let few : length (drop at bits) ≤ 7 = omega (arith, length-drop at bits, c.requires) in
    omega (arith, bits_below 7 (drop at bits) few, c.loop-at.invariant.so_far, bit_small _ c.from.result c.from.ensures)
