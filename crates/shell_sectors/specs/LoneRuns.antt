-- The runs of bytes that a write of one sector puts into a namespace: UEFI 2.10, sections 6.2 and 6.3.
use Rattle.std.specs.Prelude.{ℕ, ◌+◌, ◌*◌, ◌<◌, ◌≤◌, List, [], ◌∷◌, slice_index_or}
use Rattle.nvd_words.specs.Ring.{successor_of}
use Rattle.cut_words.specs.WordBytes.{bytes_of}
use Rattle.flog.specs.declared.group.Group.{Group}
use Rattle.flog.specs.declared.half.Half.{Half}
use Rattle.flog.specs.Group.{other_side, place_of, words_of_half}
use Rattle.arena_open.specs.Chain.{Link}
use Rattle.lane_core.specs.Arenas.{no_group}
use Rattle.namespace_bytes.specs.declared.runs.Run.{Run}
use Rattle.namespace_bytes.specs.Putting.{block_at}
use Rattle.namespace_bytes.specs.Runs.{entry_run}

-- the lane that writes has a half that is followed by another one, and a free block
pub record CanWrite (internal : ℕ) (group : Group) : Type 0 where
  pub side : group.side < 2
  pub low : 1 ≤ group.half.seq
  pub high : group.half.seq ≤ 3
  pub free : group.half.old < internal

-- the lane that writes
abbrev pub lane_group : Link → Group
lane_group link = slice_index_or link.opened.groups 0 no_group

-- the value fills its free block
abbrev pub value_run : Link → List ℕ → Run
value_run link value = record { first = 8 * link.at + link.opened.info.layout.data_off + (lane_group link).half.old * link.opened.info.layout.inner; bytes = value }

-- the log's half for the move: the sector gets the lane's free block
abbrev pub half_next : Link → ℕ → Half
half_next link own = record { lba = own; old = block_at link.opened.entries own; new = (lane_group link).half.old; seq = successor_of (lane_group link).half.seq }

abbrev pub half_run : Link → ℕ → Run
half_run link own = record { first = 8 * link.at + link.opened.info.layout.flog_off + 8 * place_of (other_side (lane_group link).side); bytes = bytes_of (words_of_half (half_next link own)) }

-- the value, then the log, then the map entry
abbrev pub lone_runs : Link → ℕ → List ℕ → List Run
lone_runs link own value = value_run link value ∷ half_run link own ∷ entry_run link.at link.opened.info.layout own (lane_group link).half.old ∷ []
