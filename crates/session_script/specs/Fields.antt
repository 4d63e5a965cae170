-- The fields of a line, from left to right. A field is what stands before the next blank.
use Rattle.std.specs.Prelude.{ℕ, ◌-◌, ◌^◌, ◌==◌, nat_le, Bool, not, ◌&&◌, if◌then◌else◌, List, [], ◌∷◌, length, take, drop, Option, Some, None, option_map, option_and_then, Result, Ok, Err, codes}
use Rattle.std.specs.List.{list_all}
use Rattle.std.specs.Result.{result_ok}
use Rattle.std.specs.Str.{bytes_eq, is_utf8}
use Rattle.hex.specs.Hex.{decode_of}
use Rattle.uuid.specs.Text.{parsed}
use Rattle.command_words.specs.Numbers.{limited, number_of}
use Rattle.session_script.specs.declared.fault.LineFault.{LineFault}
use Rattle.session_script.specs.declared.fault.LineFault.TheVariants as line
use Rattle.session_script.specs.declared.fault.LineKind.{LineKind}
use Rattle.session_script.specs.declared.fault.LineKind.TheVariants as kind
use Rattle.session_script.specs.declared.fields.Fields.{Fields}
use Rattle.session_script.specs.declared.payload.Payload.{Payload}
use Rattle.session_script.specs.declared.payload.Payload.TheVariants as payload
use Rattle.session_script.specs.Lines.{before, after}

-- ---- the text of a line

-- a byte that isn't a control character: those are U+0000 to U+001F and U+007F, each of one byte in UTF-8
abbrev pub is_plain : ℕ → Bool
is_plain byte = nat_le 32 byte && not (byte == 127)

-- UTF-8 without control characters
abbrev pub is_printable : List ℕ → Bool
is_printable text = is_utf8 text && list_all is_plain text

-- ---- fields

-- what stands after the last blank that was read, None after the end of the line
abbrev pub Rest : Type 0
Rest = Option (List ℕ)

abbrev pub rest_of : Fields → Rest
rest_of fields = option_map (λ text. text.now) fields.rest

-- a field's value, and what stands after the field
abbrev pub Field : Type 0 → Type 0
Field A = Result (A × Rest) LineFault

abbrev pub found : {A : Type 0} → LineKind → Rest → Option A → Field A
found {A} what rest None = Err (line.Kind what)
found {A} what rest (Some value) = Ok (value, rest)

-- what follows a field, if it is of its kind
abbrev pub on_field : {A B : Type 0} → Field A → (A → Rest → Result B LineFault) → Result B LineFault
on_field {A} {B} (Ok field) next = next field.0 field.1
on_field {A} {B} (Err fault) next = Err fault

-- a field as it stands; one that is missing is Word
abbrev pub word_field : Rest → Field (List ℕ)
word_field None = Err (line.Kind kind.Word)
word_field (Some text) = Ok (before 32 text, after 32 text)

-- a field of some kind
abbrev pub field_of : {A : Type 0} → LineKind → (List ℕ → Option A) → Rest → Field A
field_of what read rest = on_field (word_field rest) (λ word rest. found what rest (read word))

-- nothing stands after the last field
abbrev pub at_end : {B : Type 0} → Rest → B → Result B LineFault
at_end {B} None value = Ok value
at_end {B} (Some text) value = Err (line.Kind kind.Word)

-- ---- kinds of fields

-- a number of at most 64 or 32 bits, in decimal digits without sign or leading zero
abbrev pub number_field : ℕ → Rest → Field ℕ
number_field most rest = field_of kind.Number (λ word. limited most (number_of word)) rest

abbrev pub u64_field : Rest → Field ℕ
u64_field rest = number_field (2 ^ 64 - 1) rest

abbrev pub u32_field : Rest → Field ℕ
u32_field rest = number_field (2 ^ 32 - 1) rest

-- a UUID in its form with hyphens, in either case: of the forms that `parsed` has it alone takes 36 bytes
abbrev pub hyphenated : List ℕ → Option (List ℕ)
hyphenated word = if length word == 36 then parsed word else None

abbrev pub uuid_field : Rest → Field (List ℕ)
uuid_field rest = field_of kind.Uuid hyphenated rest

-- a name is all that is left of the line, and may be empty; the blank before it must be there
abbrev pub name_field : Rest → Field (List ℕ)
name_field None = Err (line.Kind kind.Name)
name_field (Some name) = Ok (name, None)

abbrev pub fill_of : List ℕ → Option Payload
fill_of (byte ∷ []) = Some (payload.Fill byte)
fill_of other = None

-- fill: and two hexadecimal digits, or hex: and an even number of them
abbrev pub value_of : List ℕ → Option Payload
value_of word =
    if bytes_eq (take 5 word) (codes "fill:") then option_and_then fill_of (result_ok (decode_of (drop 5 word)))
    else if bytes_eq (take 4 word) (codes "hex:") then option_map (λ bytes. payload.Hex bytes) (result_ok (decode_of (drop 4 word)))
    else None

abbrev pub value_field : Rest → Field Payload
value_field rest = field_of kind.Value value_of rest
