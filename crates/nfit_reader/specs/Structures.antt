-- The structures of an NFIT: ACPI 6.5, section 5.2.25.
use Rattle.std.specs.Prelude.{◌≡◌, ◌≤◌, ℕ, zero, suc, ◌+◌, ◌*◌, ◌==◌, nat_le, Bool, not, ◌&&◌, ◌||◌, if◌then◌else◌, List, [], ◌∷◌, length, take, drop, map, slice_index, Result, Ok, Err}
use Rattle.std.specs.List.{range_with_len}
use Rattle.std.specs.Int.{w16, w32, w64}
use Rattle.std.specs.Str.{bytes_eq}
use Rattle.nvd_words.specs.Bytes.{number_at}
use Rattle.nfit_reader.specs.declared.table.Lines.{Lines}
use Rattle.nfit_reader.specs.declared.table.Identity.{Identity}
use Rattle.nfit_reader.specs.declared.table.NfitFault.{NfitFault}
use Rattle.nfit_reader.specs.declared.table.NfitFault.TheVariants as fault
use Rattle.nfit_reader.specs.declared.structures.Structure.{Structure}
use Rattle.nfit_reader.specs.declared.structures.Structure.TheVariants as structure
use Rattle.nfit_reader.specs.declared.structures.Range.{Range}
use Rattle.nfit_reader.specs.declared.structures.Link.{Link}

-- ---- splitting the table into spans

-- the minimum Length of a type: SPA range 0, region mapping 1, interleave 2, control region 4
unfoldable pub least_length : ℕ → ℕ
least_length kind = if kind == 0 then 56 else if kind == 1 then 48 else if kind == 2 then 16 else if kind == 4 then 32 else 4

-- an interleave structure has at least one line, and room for all of them (section 5.2.25.4)
unfoldable pub has_lines : List ℕ → Bool
has_lines rest = nat_le 1 (number_at w32 rest 8) && nat_le (16 + 4 * number_at w32 rest 8) (number_at w16 rest 2)

-- the bytes begin with a complete structure: Type at 0, Length at 2
unfoldable pub is_structure : List ℕ → Bool
is_structure rest = nat_le 4 (length rest)
    && nat_le (least_length (number_at w16 rest 0)) (number_at w16 rest 2)
    && nat_le (number_at w16 rest 2) (length rest)
    && (not (number_at w16 rest 0 == 2) || has_lines rest)

abbrev pub with_first : {A F : Type 0} → A → Result (List A) F → Result (List A) F
with_first x (Ok xs) = Ok (x ∷ xs)
with_first x (Err f) = Err f

-- the bytes of the structures from offset `at` to the table's end, at most `most` of them
unfoldable pub spans_from : ℕ → ℕ → List ℕ → Result (List (List ℕ)) NfitFault
spans_from most at [] = Ok []
spans_from zero at (b ∷ rest) = Err (fault.Structure at)
spans_from (suc most) at (b ∷ rest) =
    let len = number_at w16 (b ∷ rest) 2 in
    if is_structure (b ∷ rest)
    then with_first (take len (b ∷ rest)) (spans_from most (at + len) (drop len (b ∷ rest)))
    else Err (fault.Structure at)

-- ---- decoding a span

-- the GUID of persistent memory, 66f0d379-b4f3-4074-ac43-0d3318b78cdb, its first three fields with their low bytes first
abbrev pub persistent_memory : List ℕ
persistent_memory = 0x79 ∷ 0xd3 ∷ 0xf0 ∷ 0x66 ∷ 0xf3 ∷ 0xb4 ∷ 0x74 ∷ 0x40 ∷ 0xac ∷ 0x43 ∷ 0x0d ∷ 0x33 ∷ 0x18 ∷ 0xb7 ∷ 0x8c ∷ 0xdb ∷ []

-- section 5.2.25.2
unfoldable pub range_of : List ℕ → Range
range_of span = record {
  index = number_at w16 span 4;
  persistent = bytes_eq (take 16 (drop 16 span)) persistent_memory;
  base = number_at w64 span 32;
  length = number_at w64 span 40;
}

-- section 5.2.25.3
unfoldable pub link_of : List ℕ → Link
link_of span = record {
  handle = number_at w32 span 4;
  range = number_at w16 span 12;
  control = number_at w16 span 14;
  size = number_at w64 span 16;
  offset = number_at w64 span 24;
  start = number_at w64 span 32;
  interleave = number_at w16 span 40;
  ways = number_at w16 span 42;
}

-- section 5.2.25.4
unfoldable pub lines_of : List ℕ → Lines
lines_of span = record {
  size = number_at w32 span 12;
  offsets = map (λ i. number_at w32 span (16 + 4 * i)) (range_with_len 0 (number_at w32 span 8));
}

-- section 5.2.25.6
unfoldable pub identity_of : List ℕ → Identity
identity_of span = record {
  vendor = number_at w16 span 6;
  date = number_at w16 span 20;
  location = slice_index span 19;
  serial = number_at w32 span 24;
}

-- a structure with index 0 is skipped
abbrev pub unless_zero : ℕ → Structure → Structure
unless_zero index s = if index == 0 then structure.PassedOver else s

unfoldable pub range_structure : List ℕ → Structure
range_structure span = unless_zero (number_at w16 span 4) (structure.Range (range_of span))

unfoldable pub interleave_structure : List ℕ → Structure
interleave_structure span = unless_zero (number_at w16 span 4) (structure.Interleave (record { index = number_at w16 span 4; lines = lines_of span }))

unfoldable pub control_structure : List ℕ → Structure
control_structure span = unless_zero (number_at w16 span 4) (structure.Control (record { index = number_at w16 span 4; identity = identity_of span }))

-- decodes a span by its Type; other types are skipped
unfoldable pub structure_of : List ℕ → Structure
structure_of span =
    let kind = number_at w16 span 0 in
    if kind == 0 then range_structure span
    else if kind == 1 then structure.Mapping (link_of span)
    else if kind == 2 then interleave_structure span
    else if kind == 4 then control_structure span
    else structure.PassedOver

-- the decoded spans, or the fault at which splitting ended
abbrev pub structures_of : Result (List (List ℕ)) NfitFault → Result (List Structure) NfitFault
structures_of (Ok spans) = Ok (map structure_of spans)
structures_of (Err f) = Err f

-- a span has the bytes that its type needs
pub record IsWhole (span : List ℕ) : Type 0 where
  pub header : 4 ≤ length span
  pub fields : least_length (number_at w16 span 0) ≤ length span
  pub lines : number_at w16 span 0 ≡ 2 → 16 + 4 * number_at w32 span 8 ≤ length span
