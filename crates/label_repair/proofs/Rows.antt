-- Worked examples: an area of 1,024 bytes with its two first blocks, of which the lower one is current, with one word damaged.
use Rattle.std.proofs.Common.{◌≡◌, ℕ, ◌+◌, ◌*◌, ◌^◌, List, [], ◌∷◌, replicate, Result, Option, Some, None, Ok, Err, true, false, refl}
use Rattle.std.proofs.Math.ListN.{set}
use Rattle.nvd_words.specs.Checks.{checked}
use Rattle.nvd_words.specs.Bytes.{number_at}
use Rattle.cut_words.specs.WordBytes.{bytes_of}
use Rattle.label_index.specs.declared.index.IndexBlock.{IndexBlock}
use Rattle.label_index.specs.declared.index.IndexFault.{IndexFault}
use Rattle.label_index.specs.declared.index.IndexFault.TheVariants.{Signature, Sequence, Version, Offsets, Slots, Checksum}
use Rattle.label_index.specs.declared.index.Side.TheVariants as side
use Rattle.label_index.specs.Area.{greatest}
use Rattle.label_index.specs.Index.{has_signature, sequence_of, has_version, has_offsets, has_slots, has_checksum, index_of, free_of}
use Rattle.label_index.specs.Spelling.{spelling_of}
use Rattle.label_area.specs.Init.{empty_block, full_words}
use Rattle.label_repair.specs.declared.repair.IndexRepair.{IndexRepair}
use Rattle.label_repair.specs.Repair.{predecessor_of, repair_by, repair_in, repaired_words}

-- the ring
pub before_one : predecessor_of 1 ≡ 3
before_one = refl

pub before_two : predecessor_of 2 ≡ 1
before_two = refl

pub before_three : predecessor_of 3 ≡ 2
before_three = refl

-- ---- by the readings

abbrev Reading : Type 0
Reading = Result IndexBlock IndexFault

-- two slots, of which the second is free
abbrev block : ℕ → IndexBlock
block seq = record { side = side.One; seq = seq; size = 256; slots = 2; free = false ∷ true ∷ [] }

abbrev lower : ℕ → IndexBlock
lower seq = record { side = side.Zero; seq = seq; size = 256; slots = 2; free = false ∷ true ∷ [] }

-- the lower side is written from the upper one, and the upper one from the lower one
pub lower_is_written : repair_by (Err Signature) (Ok (block 1)) ≡ Some (record { block = lower 3; fault = Signature })
lower_is_written = refl

pub upper_is_written : repair_by (Ok (lower 2)) (Err Checksum) ≡ Some (record { block = block 1; fault = Checksum })
upper_is_written = refl

-- a closed block is left, and so are two valid ones and two refused ones
pub closed_is_left : repair_by (Ok (lower 2)) (Err Sequence) ≡ None
closed_is_left = refl

pub closed_is_left_below : repair_by (Err Sequence) (Ok (block 2)) ≡ None
closed_is_left_below = refl

pub both_are_valid : repair_by (Ok (lower 2)) (Ok (block 1)) ≡ None
both_are_valid = refl

pub both_are_refused : repair_by (Err Signature) (Err Checksum) ≡ None
both_are_refused = refl

-- ---- by the words

-- the lower block has Seq 3, the upper one Seq 2; the upper one has words 32 to 63
abbrev words : List ℕ
words = full_words (replicate 128 0) 256 2

-- one of them is set to another value
abbrev damaged : ℕ → ℕ → List ℕ
damaged i v = set words i v

abbrev found : IndexFault → Option IndexRepair
found fault = Some (record { block = empty_block 256 2 side.One 2; fault = fault })

pub sound : repair_in (bytes_of words) ≡ None
unfolding greatest checked has_signature sequence_of has_version has_offsets has_slots has_checksum index_of free_of number_at spelling_of
sound = refl

-- Sig
pub signature : repair_in (bytes_of (damaged 32 0)) ≡ found Signature
unfolding greatest checked has_signature sequence_of has_version has_offsets has_slots has_checksum index_of free_of number_at spelling_of
signature = refl

-- Seq
pub sequence : repair_in (bytes_of (damaged 34 (2 ^ 24))) ≡ None
unfolding greatest checked has_signature sequence_of has_version has_offsets has_slots has_checksum index_of free_of number_at spelling_of
sequence = refl

-- Minor
pub version : repair_in (bytes_of (damaged 39 (2 + 2 ^ 32 + 3 * 2 ^ 48))) ≡ found (Version 1 3)
unfolding greatest checked has_signature sequence_of has_version has_offsets has_slots has_checksum index_of free_of number_at spelling_of
version = refl

-- MyOff
pub offsets : repair_in (bytes_of (damaged 35 0)) ≡ found Offsets
unfolding greatest checked has_signature sequence_of has_version has_offsets has_slots has_checksum index_of free_of number_at spelling_of
offsets = refl

-- NSlot
pub slots : repair_in (bytes_of (damaged 39 (2 ^ 32 + 2 * 2 ^ 48))) ≡ found Slots
unfolding greatest checked has_signature sequence_of has_version has_offsets has_slots has_checksum index_of free_of number_at spelling_of
slots = refl

-- Checksum
pub checksum : repair_in (bytes_of (damaged 40 0)) ≡ found Checksum
unfolding greatest checked has_signature sequence_of has_version has_offsets has_slots has_checksum index_of free_of number_at spelling_of
checksum = refl

-- a repair puts back what `init` wrote
pub put_back : repaired_words (damaged 40 0) ≡ words
unfolding greatest checked has_signature sequence_of has_version has_offsets has_slots has_checksum index_of free_of number_at spelling_of
put_back = refl
