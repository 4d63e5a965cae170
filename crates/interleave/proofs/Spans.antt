-- The bytes of a module in a set.
use Rattle.std.proofs.Common.{ℕ, ◌<◌, List, [], ◌∷◌, length, Contains, refl, arith}
use Rattle.nfit_reader.specs.declared.table.Mapping.{Mapping}
use Rattle.interleave.specs.Sound.{IsSound, span_of}

-- a set with a mapping has bytes
pub some_bytes : (line lines : ℕ) (ms : List Mapping) → IsSound line lines (span_of ms) ms → 0 < length ms → 0 < span_of ms
some_bytes line lines [] sound some = absurd (omega arith)
some_bytes line lines (m ∷ ms) sound some =
    let among : Contains (m ∷ ms) m = (0, omega arith, refl) in
    omega (arith, (sound.shares m among).positive)
