use Rattle.std.proofs.Common.{◌≡◌, ℕ, ◌+◌, ◌-◌, ◌*◌, ◌<◌, ◌≤◌, length, sym, ◌∙◌, subst, arith}
use Rattle.namespace_bytes.specs.Patching.{AreBytesAt, BytePatch, patch_on}
use Rattle.namespace_bytes.proofs.Patched.{has_address, line_at, line_from, line_inside, size_fits}
use Rattle.namespace_bytes.proofs.patch.NamespacePatch.line.Goals as goal

pub offset_of-byte-requires : goal.offset_of-byte-requires
offset_of-byte-requires c =
    has_address (patch_on c.args.set.now c.args.self.now) c.requires.laid c.args.module c.args.start c.args.at c.requires.there c.requires.from c.requires.to

abbrev patch : goal.After-from-4 → BytePatch
patch c = patch_on c.args.set.now c.args.self.now

some : (c : goal.After-from-4) → 0 < c.min-size.result
some c = omega (arith, c.min-size.ensures, c.min-left.ensures, c.run_length.ensures.some, c.requires.some, c.from.ensures, c.from-2.ensures, c.from-3.ensures, c.requires.from, c.requires.to)

short : (c : goal.After-from-4) → c.min-size.result ≤ c.run_length.result
short c = omega (arith, c.min-size.ensures)

within : (c : goal.After-from-4) → c.args.at + c.min-size.result ≤ c.args.start + c.args.self.now.raw
within c = omega (arith, c.min-size.ensures, c.min-left.ensures, c.from.ensures, c.from-2.ensures, c.from-3.ensures, c.requires.from, c.requires.to)

from_is : (c : goal.After-from-4) → c.from-4.result ≡ length c.args.set.now
from_is c = c.from-4.ensures ∙ c.ways.ensures.ways

pub overflow_sub-result : goal.overflow_sub-result
overflow_sub-result c =
    let from = line_from (patch c) c.requires.laid c.args.module c.args.start c.args.at c.offset_of-byte.result c.run_length.result c.min-size.result c.requires.there c.requires.from
    (c.run_length.ensures.run c.args.module c.args.at c.offset_of-byte.ensures.there).each (some c) (short c) (within c) in
    subst (λ (n : ℕ). n * c.args.self.now.offset ≤ c.offset_of-byte.result) (sym (from_is c)) from

pub overflow_mul-result : goal.overflow_mul-result
overflow_mul-result c =
    let own : c.from-4.result * c.args.self.now.offset ≤ c.offset_of-byte.result = overflow_sub-result c in
    omega (arith, own, c.offset_of-byte.type_inv)

inside : (c : goal.After-from-4) → c.offset_of-byte.result - c.from-4.result * c.args.self.now.offset + c.min-size.result ≤ length c.args.set.now * c.args.self.now.raw
inside c =
    let own = line_inside (patch c) c.requires.laid c.args.module c.args.start c.args.at c.offset_of-byte.result c.run_length.result c.min-size.result c.requires.there c.requires.from
    (c.run_length.ensures.run c.args.module c.args.at c.offset_of-byte.ensures.there).each (some c) (short c) (within c) in
    subst (λ (n : ℕ). c.offset_of-byte.result - n * c.args.self.now.offset + c.min-size.result ≤ length c.args.set.now * c.args.self.now.raw) (sym (from_is c)) own

pub returns-clause-inside : goal.returns-clause-inside
returns-clause-inside c = inside c

pub returns-clause-there : goal.returns-clause-there
returns-clause-there c =
    let own = line_at (patch c) c.requires.laid c.args.module c.args.start c.args.at c.offset_of-byte.result c.run_length.result c.min-size.result c.requires.there c.requires.from
    (c.run_length.ensures.run c.args.module c.args.at c.offset_of-byte.ensures.there).each (some c) (short c) (within c) in
    subst (λ (n : ℕ). AreBytesAt (patch c) c.args.module c.args.at (c.offset_of-byte.result - n * c.args.self.now.offset) c.min-size.result) (sym (from_is c)) own

pub returns-clause-fits : goal.returns-clause-fits
returns-clause-fits c = omega (arith, inside c, size_fits (patch c) c.requires.laid)
