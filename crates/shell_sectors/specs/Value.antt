-- The bytes that a value denotes.
use Rattle.std.specs.Prelude.{ℕ, List, replicate}
use Rattle.session_script.specs.declared.payload.Payload.{Payload}
use Rattle.session_script.specs.declared.payload.Payload.TheVariants as payload

-- `fill:` has as many bytes as the sector, `hex:` those that it names
abbrev pub bytes_for : ℕ → Payload → List ℕ
bytes_for size (payload.Fill byte) = replicate size byte
bytes_for size (payload.Hex bytes) = bytes
