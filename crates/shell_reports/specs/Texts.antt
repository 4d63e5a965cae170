-- The texts of values: this project's rules.
use Rattle.std.specs.Prelude.{ℕ, ◌==◌, ◌||◌, if◌then◌else◌, List, [], ◌∷◌, ◌++◌, codes}
use Rattle.std.specs.Fmt.{decimal}
use Rattle.hex.specs.Hex.{encode_lower}
use Rattle.session_script.specs.Fields.{is_printable}
use Rattle.uuid.specs.Text.{hyphenated_text, lower}
use Rattle.label_codec.specs.declared.label.LabelFault.{LabelFault}
use Rattle.label_codec.specs.declared.label.LabelFault.TheVariants.{Checksum, Slot, OddSize}
use Rattle.label_codec.specs.declared.label.SizeField.TheVariants.{Dpa, RawSize}
use Rattle.label_codec.specs.declared.mode.Mode.{Mode}
use Rattle.label_codec.specs.declared.mode.Mode.TheVariants.{Raw, Sector, Sector1, Other}

-- with a backslash before each quotation mark and each backslash
abbrev pub escaped : List ℕ → List ℕ
escaped [] = []
escaped (byte ∷ bytes) = if (byte == 34) || (byte == 92) then 92 ∷ byte ∷ escaped bytes else byte ∷ escaped bytes

-- a name in quotation marks, or in hexadecimal digits if it isn't printable
abbrev pub name_text : List ℕ → List ℕ
name_text name = if is_printable name then 34 ∷ escaped name ++ 34 ∷ [] else codes "hex:" ++ encode_lower name

-- an identifier, lower case with hyphens (RFC 9562, section 4)
abbrev pub uuid_text : List ℕ → List ℕ
uuid_text uuid = hyphenated_text lower uuid

abbrev pub mode_text : Mode → List ℕ
mode_text Raw = codes "raw"
mode_text Sector = codes "sector"
mode_text Sector1 = codes "sector1"
mode_text (Other guid) = codes "other:" ++ uuid_text guid

abbrev pub label_fault_text : LabelFault → List ℕ
label_fault_text Checksum = codes "Checksum"
label_fault_text (Slot said) = codes "Slot " ++ decimal said
label_fault_text (OddSize Dpa) = codes "OddSize Dpa"
label_fault_text (OddSize RawSize) = codes "OddSize RawSize"
