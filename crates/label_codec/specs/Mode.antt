-- How a namespace is accessed, from the two GUIDs of its label: UEFI 2.10, section 13.19 (TypeGuid, AddressAbstractionGuid).
use Rattle.std.specs.Prelude.{ℕ, not, if◌then◌else◌, List, [], ◌∷◌, replicate}
use Rattle.std.specs.Str.{bytes_eq}
use Rattle.label_codec.specs.declared.mode.Mode.{Mode}
use Rattle.label_codec.specs.declared.mode.Mode.TheVariants.{Raw, Sector, Sector1, Other}

-- GUIDs are here sixteen bytes in the order of their text

-- 66f0d379-b4f3-4074-ac43-0d3318b78cdb
abbrev pub persistent_memory : List ℕ
persistent_memory = 0x66 ∷ 0xf0 ∷ 0xd3 ∷ 0x79 ∷ 0xb4 ∷ 0xf3 ∷ 0x40 ∷ 0x74 ∷ 0xac ∷ 0x43 ∷ 0x0d ∷ 0x33 ∷ 0x18 ∷ 0xb7 ∷ 0x8c ∷ 0xdb ∷ []

abbrev pub no_abstraction : List ℕ
no_abstraction = replicate 16 0

-- 18633bfc-1735-4217-8ac9-17239282d3f8
abbrev pub btt_2_0 : List ℕ
btt_2_0 = 0x18 ∷ 0x63 ∷ 0x3b ∷ 0xfc ∷ 0x17 ∷ 0x35 ∷ 0x42 ∷ 0x17 ∷ 0x8a ∷ 0xc9 ∷ 0x17 ∷ 0x23 ∷ 0x92 ∷ 0x82 ∷ 0xd3 ∷ 0xf8 ∷ []

-- 8aed63a2-29a2-4c66-8b12-f05d15d3922a
abbrev pub btt_1_1 : List ℕ
btt_1_1 = 0x8a ∷ 0xed ∷ 0x63 ∷ 0xa2 ∷ 0x29 ∷ 0xa2 ∷ 0x4c ∷ 0x66 ∷ 0x8b ∷ 0x12 ∷ 0xf0 ∷ 0x5d ∷ 0x15 ∷ 0xd3 ∷ 0x92 ∷ 0x2a ∷ []

-- persistent memory without an abstraction is Raw, with a Block Translation Table 2.0 Sector, with one of 1.1 Sector1; every
-- other pair is Other, with the TypeGuid if that isn't persistent memory, else with the abstraction
abbrev pub mode_of : List ℕ → List ℕ → Mode
mode_of kind abstraction =
    if not (bytes_eq kind persistent_memory) then Other kind
    else if bytes_eq abstraction no_abstraction then Raw
    else if bytes_eq abstraction btt_2_0 then Sector
    else if bytes_eq abstraction btt_1_1 then Sector1
    else Other abstraction
