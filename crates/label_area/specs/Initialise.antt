-- Initialising an area that has no index block.
use Rattle.std.specs.Prelude.{◌≡◌, ℕ, ◌*◌, false, if◌then◌else◌, List, length, replicate, Option, None, Result, Ok, Err}
use Rattle.label_index.specs.declared.index.IndexBlock.{IndexBlock}
use Rattle.label_index.specs.declared.index.Side.TheVariants as side
use Rattle.label_index.specs.Area.{block_size_of, slots_of}
use Rattle.cut_words.specs.Words.{Words, after, settled, IsLeft}
use Rattle.cut_words.specs.Fuses.{allowed, burnt, lasts}
use Rattle.cut_words.specs.WordBytes.{bytes_of}
use Rattle.label_area.specs.declared.fault.AreaFault.{AreaFault}
use Rattle.label_area.specs.declared.fault.AreaFault.TheVariants.{NoIndex, AlreadyInitialised, PowerCut}
use Rattle.label_area.specs.declared.fault.AreaRefused.{AreaRefused}
use Rattle.label_area.specs.declared.read.Shown.{Shown}
use Rattle.label_area.specs.Area.{block_in}
use Rattle.label_area.specs.Change.{count_of_steps}
use Rattle.label_area.specs.Whole.{steps_under}
use Rattle.label_area.specs.Init.{empty_block, full_words, init_steps, IsInitCut}
use Rattle.label_area.specs.State.{AreaState}
use Rattle.label_area.specs.Opened.{refused}

-- the size of an index block, and the number of slots, of an area of `count` words
abbrev pub size_for : ℕ → ℕ
size_for count = block_size_of (8 * count)

abbrev pub slots_for : ℕ → ℕ
slots_for count = slots_of (8 * count)

-- the steps of both blocks: two for each word, and two more for each block
abbrev pub init_count : ℕ → ℕ
init_count count = 2 * count_of_steps (size_for count) None

-- the contents of an area with all slots free
abbrev pub blank : ℕ → Shown
blank count = record { block = empty_block (size_for count) (slots_for count) side.One 2; labels = replicate (slots_for count) None }

-- the contents under the first block of an area that has none, or why the area isn't initialised
abbrev pub blank_by : ℕ → Result IndexBlock AreaFault → Result Shown AreaFault
blank_by count (Ok block) = Err (AlreadyInitialised block.seq)
blank_by count (Err NoIndex) = Ok (blank count)
blank_by count (Err fault) = Err fault

-- an area with both blocks: no word is pending, side Zero is current with Seq 3, and all slots are free
abbrev pub initial : List ℕ → AreaState
initial values = record {
  words = settled (full_words values (size_for (length values)) (slots_for (length values)));
  block = empty_block (size_for (length values)) (slots_for (length values)) side.Zero 3;
  labels = replicate (slots_for (length values)) None;
  stopped = false;
}

-- the words after the steps that a fuse allows
abbrev pub cut_short : List ℕ → Option ℕ → AreaRefused
cut_short values fuse = record { words = after (settled values) (allowed fuse (init_steps values (size_for (length values)) (slots_for (length values)))); fault = PowerCut }

abbrev pub initialised_by : List ℕ → Option ℕ → Result IndexBlock AreaFault → Result AreaState AreaRefused
initialised_by values fuse (Ok block) = Err (refused values (AlreadyInitialised block.seq))
initialised_by values fuse (Err NoIndex) = if lasts fuse (init_count (length values)) then Ok (initial values) else Err (cut_short values fuse)
initialised_by values fuse (Err fault) = Err (refused values fault)

-- the initialised area under a fuse, or the refusal
abbrev pub initialised : List ℕ → Option ℕ → Result AreaState AreaRefused
initialised values fuse = initialised_by values fuse (block_in (bytes_of values))

-- ---- the fuse, and the area after a crash

-- the fuse: the steps are taken from it, unless the area was refused before the first
abbrev pub fuse_after : AreaFault → Option ℕ → ℕ → Option ℕ
fuse_after PowerCut fuse count = burnt fuse count
fuse_after fault fuse count = fuse

abbrev pub fuse_left : Result AreaState AreaRefused → Option ℕ → ℕ → Option ℕ
fuse_left (Ok area) fuse count = burnt fuse count
fuse_left (Err refused) fuse count = fuse_after refused.fault fuse count

-- the words after a crash, if steps were made: initialising `count` words under a fuse
abbrev pub LeavesWhole : ℕ → Option ℕ → Words → Type 0
LeavesWhole count fuse words = (left : List ℕ) → IsLeft words left → IsInitCut (size_for count) (slots_for count) (steps_under fuse (init_count count)) left

abbrev pub InitLeaves : ℕ → Option ℕ → Result AreaState AreaRefused → Type 0
InitLeaves count fuse (Ok area) = LeavesWhole count fuse area.words
InitLeaves count fuse (Err refused) = refused.fault ≡ PowerCut → LeavesWhole count fuse refused.words
