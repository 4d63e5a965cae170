-- Runs of bytes that are put into a namespace, one after another.
use Rattle.std.specs.Prelude.{ℕ, ◌+◌, ◌-◌, ◌*◌, nat_lt, if◌then◌else◌, List, [], ◌∷◌, length, slice_index}
use Rattle.std.specs.Int.{w32, to_le_bytes}
use Rattle.arena_layout.specs.declared.layout.Layout.{Layout}
use Rattle.map_table.specs.Entry.{normal_of}
use Rattle.namespace_bytes.specs.declared.runs.Run.{Run}

-- byte i of a namespace after a run was put there
abbrev pub run_byte : Run → ℕ → ℕ → ℕ
run_byte run i old =
    if nat_lt i run.first then old
    else if nat_lt i (run.first + length run.bytes) then slice_index run.bytes (i - run.first)
    else old

-- after all of these; of two runs with the same byte the later one counts
abbrev pub runs_byte : List Run → ℕ → ℕ → ℕ
runs_byte [] i old = old
runs_byte (run ∷ runs) i old = runs_byte runs i (run_byte run i old)

-- the normal map entry of a block, for sector `own` of the arena whose first word is `at`
abbrev pub entry_run : ℕ → Layout → ℕ → ℕ → Run
entry_run at l own block = record { first = 8 * at + l.map_off + 4 * own; bytes = to_le_bytes w32 (normal_of block) }
