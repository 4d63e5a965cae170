-- Worked examples, computed on the definitions.
use Rattle.std.proofs.Common.{◌≡◌, ◌≢◌, ℕ, zero, suc, ◌^◌, ◌<◌, ◌++◌, List, [], ◌∷◌, get_or, replicate, Some, None, Ok, refl, arith}
use Rattle.std.specs.Prelude.{codes}
use Rattle.uuid.specs.Parts.{swap_fields}
use Rattle.nvd_words.specs.Bytes.{number_at}
use Rattle.nvd_words.specs.Checks.{first_fault}
use Rattle.nvd_words.proofs.ByteLists.{few_bytes, zero_bytes}
use Rattle.label_codec.specs.declared.label.Label.{Label}
use Rattle.label_codec.specs.declared.label.SizeField.TheVariants.{Dpa, RawSize}
use Rattle.label_codec.specs.declared.mode.Mode.TheVariants.{Raw, Sector, Sector1, Other}
use Rattle.label_codec.specs.Label.{label_of, label_reading, has_checksum, spelling_of}
use Rattle.label_codec.specs.Mode.{persistent_memory, no_abstraction, btt_2_0, btt_1_1, mode_of}
use Rattle.label_codec.specs.Name.{text_in}
use Rattle.label_codec.specs.Sizes.{size_fault_of}
use Rattle.label_codec.specs.Writable.{IsWritable}

-- the GUIDs on a medium
pub memory_bytes : swap_fields persistent_memory ≡ 0x79 ∷ 0xd3 ∷ 0xf0 ∷ 0x66 ∷ 0xf3 ∷ 0xb4 ∷ 0x74 ∷ 0x40 ∷ 0xac ∷ 0x43 ∷ 0x0d ∷ 0x33 ∷ 0x18 ∷ 0xb7 ∷ 0x8c ∷ 0xdb ∷ []
memory_bytes = refl

pub table_2_0_bytes : swap_fields btt_2_0 ≡ 0xfc ∷ 0x3b ∷ 0x63 ∷ 0x18 ∷ 0x35 ∷ 0x17 ∷ 0x17 ∷ 0x42 ∷ 0x8a ∷ 0xc9 ∷ 0x17 ∷ 0x23 ∷ 0x92 ∷ 0x82 ∷ 0xd3 ∷ 0xf8 ∷ []
table_2_0_bytes = refl

pub table_1_1_bytes : swap_fields btt_1_1 ≡ 0xa2 ∷ 0x63 ∷ 0xed ∷ 0x8a ∷ 0xa2 ∷ 0x29 ∷ 0x66 ∷ 0x4c ∷ 0x8b ∷ 0x12 ∷ 0xf0 ∷ 0x5d ∷ 0x15 ∷ 0xd3 ∷ 0x92 ∷ 0x2a ∷ []
table_1_1_bytes = refl

-- every kind of pair
pub raw_mode : mode_of persistent_memory no_abstraction ≡ Raw
raw_mode = refl

pub sector_mode : mode_of persistent_memory btt_2_0 ≡ Sector
sector_mode = refl

pub sector1_mode : mode_of persistent_memory btt_1_1 ≡ Sector1
sector1_mode = refl

pub other_table : mode_of persistent_memory persistent_memory ≡ Other persistent_memory
other_table = refl

pub other_memory : mode_of btt_2_0 no_abstraction ≡ Other btt_2_0
other_memory = refl

-- a name ends before the first zero, or with its field
pub short_name : text_in (codes "a" ++ (0 ∷ codes "b" ++ replicate 61 0)) ≡ codes "a"
short_name = refl

pub full_name : text_in (replicate 64 97) ≡ replicate 64 97
full_name = refl

pub no_name : text_in (replicate 64 0) ≡ []
no_name = refl

-- the sizes that no label may have
pub good_sizes : size_fault_of 0 4194304 ≡ None
unfolding size_fault_of
good_sizes = refl

pub greatest_sizes : size_fault_of (2 ^ 62) (2 ^ 62) ≡ None
unfolding size_fault_of
greatest_sizes = refl

pub odd_address : size_fault_of 512 512 ≡ Some Dpa
unfolding size_fault_of
odd_address = refl

pub odd_raw : size_fault_of 4096 512 ≡ Some RawSize
unfolding size_fault_of
odd_raw = refl

pub no_raw : size_fault_of 4096 0 ≡ Some RawSize
unfolding size_fault_of
no_raw = refl

pub past_the_end : size_fault_of (2 ^ 63) 4096 ≡ Some RawSize
unfolding size_fault_of
past_the_end = refl

-- the premises of the laws hold: a label of four mebibytes from address 0 on, in slot 0
abbrev plain : Label
plain = record {
  uuid = replicate 16 17;
  name = codes "a";
  flags = 0;
  count = 1;
  position = 0;
  cookie = 0x0000a3de00001235;
  lba = 512;
  dpa = 0;
  raw = 4194304;
  slot = 0;
  align = 0;
  kind = persistent_memory;
  abstraction = no_abstraction;
  spa_cookie = 0;
}

pub plain_writable : IsWritable plain
unfolding size_fault_of
plain_writable = record {
  sound = record { no_zero = some_byte; sizes = refl };
  numbers = record {
    flags = omega arith;
    count = omega arith;
    position = omega arith;
    cookie = omega arith;
    lba = omega arith;
    dpa = omega arith;
    raw = omega arith;
    slot = omega arith;
    align = omega arith;
    spa_cookie = omega arith;
  };
  bytes = record {
    uuid_len = refl;
    uuid = few_bytes (replicate 16 17) refl;
    name_len = omega arith;
    name = few_bytes (codes "a") refl;
    kind_len = refl;
    kind = few_bytes persistent_memory refl;
    abstraction_len = refl;
    abstraction = zero_bytes 16;
  };
}
  where
    some_byte : (i : ℕ) → i < 1 → get_or (codes "a") i 0 ≢ 0
    some_byte zero lt = λ e. absurd (omega (arith, e))
    some_byte (suc i) lt = absurd (omega (arith, lt))

pub plain_reads_back : label_reading (spelling_of plain) 0 ≡ Ok plain
unfolding first_fault label_of has_checksum number_at spelling_of size_fault_of
plain_reads_back = refl
