-- Rules for single labels of a set, and for several together: UEFI 2.10, section 13.19 (EFI_NVDIMM_LABEL), and this project's
-- rules.
use Rattle.std.specs.Prelude.{ℕ, ◌+◌, ◌-◌, ◌%◌, ◌==◌, nat_le, nat_lt, Bool, true, false, not, ◌&&◌, ◌||◌, if◌then◌else◌, List, [], ◌∷◌, length, map, find, position, count_by, Option, Some, None}
use Rattle.std.specs.List.{list_any, list_all}
use Rattle.std.specs.Option.{option_map}
use Rattle.std.specs.Str.{bytes_eq}
use Rattle.nfit_reader.specs.declared.table.Mapping.{Mapping}
use Rattle.label_codec.specs.Flags.{has_local, has_updating}
use Rattle.interleave.specs.Places.{cookie_of, unit_of}
use Rattle.interleave.specs.Sound.{span_of}
use Rattle.label_set.specs.declared.placed.Placed.{Placed}
use Rattle.label_set.specs.declared.placed.Why.{Why}
use Rattle.label_set.specs.declared.placed.Why.TheVariants.{Outside, Cookie, Position, Unaligned}
use Rattle.label_set.specs.declared.placed.Field.{Field}
use Rattle.label_set.specs.declared.placed.Field.TheVariants.{Count, Dpa, RawSize, LbaSize, Guids, Names}
use Rattle.label_set.specs.declared.rules.Rule.{Rule}
use Rattle.label_set.specs.declared.rules.Rule.TheVariants as rule

-- ---- the least of several

-- the one with the lesser key, or the first if the keys are equal
abbrev pub lesser : {X : Type 0} → (X → ℕ) → Option X → Option X → Option X
lesser key None later = later
lesser key (Some a) None = Some a
lesser key (Some a) (Some b) = if nat_le (key a) (key b) then Some a else Some b

-- the one with the least key of those that pass a test, the first of several
abbrev pub least_where : {X : Type 0} → (X → ℕ) → (X → Bool) → List X → Option X
least_where key test [] = None
least_where key test (x ∷ xs) = lesser key (if test x then Some x else None) (least_where key test xs)

-- the number of a label's module
abbrev pub module_of : Placed → ℕ
module_of p = p.«module»

-- how many of the labels a module has
abbrev pub count_on : List Placed → ℕ → ℕ
count_on labels number = count_by (λ p. p.«module» == number) labels

-- its module has two of the labels
abbrev pub is_twice : List Placed → Placed → Bool
is_twice labels p = nat_lt 1 (count_on labels p.«module»)

-- the least module that has two of the labels
abbrev pub least_twice : List Placed → Option ℕ
least_twice labels = option_map module_of (least_where module_of (is_twice labels) labels)

-- the modules of a set, by position
abbrev pub modules_of : List Mapping → List ℕ
modules_of set = map (λ m. m.«module») set

-- the least module of a set that has no label
abbrev pub least_missing : List Placed → List Mapping → Option ℕ
least_missing labels set = least_where (λ number. number) (λ number. count_on labels number == 0) (modules_of set)

-- ---- flags of a label

abbrev pub is_local : Placed → Bool
is_local p = has_local p.label.flags

abbrev pub is_updating : Placed → Bool
is_updating p = has_updating p.label.flags

-- its flag UPDATING is as given
abbrev pub is_marked : Bool → Placed → Bool
is_marked true p = is_updating p
is_marked false p = not (is_updating p)

-- ---- a label and its set, a list of mappings in order of position

-- the mapping of a module
abbrev pub mapping_of : List Mapping → ℕ → Option Mapping
mapping_of set number = find (λ m. m.«module» == number) set

-- an address relative to the start of a mapping
abbrev pub counted_from : Option Mapping → ℕ → ℕ
counted_from None address = address
counted_from (Some m) address = address - m.start

-- a label's address relative to the start of its module's mapping
abbrev pub relative_of : List Mapping → Placed → ℕ
relative_of set p = counted_from (mapping_of set p.«module») p.label.dpa

-- a label's extent isn't inside `span` bytes from `start` on
abbrev pub is_past : ℕ → ℕ → Placed → Bool
is_past start span p = nat_lt p.label.dpa start || nat_lt (start + span) (p.label.dpa + p.label.raw)

-- a label's extent isn't inside a mapping; the mappings of a valid set have the same size
abbrev pub leaves : ℕ → Option Mapping → Placed → Bool
leaves span None p = true
leaves span (Some m) p = is_past m.start span p

-- the module isn't in the set, or the extent isn't inside its mapping
abbrev pub is_outside : List Mapping → Placed → Bool
is_outside set p = leaves (span_of set) (mapping_of set p.«module») p

abbrev pub has_other_cookie : List Mapping → Placed → Bool
has_other_cookie set p = not (p.label.cookie == cookie_of set)

-- its position isn't its module's
abbrev pub is_not_at : Option ℕ → Placed → Bool
is_not_at None p = true
is_not_at (Some place) p = not (p.label.position == place)

abbrev pub is_elsewhere : List Mapping → Placed → Bool
is_elsewhere set p = is_not_at (position (λ m. m.«module» == p.«module») set) p

-- its address, relative to the mapping, or its size isn't a multiple of the unit
abbrev pub is_unaligned : List Mapping → Placed → Bool
is_unaligned set p = not (relative_of set p % unit_of set == 0) || not (p.label.raw % unit_of set == 0)

-- a label violates a rule
abbrev pub breaks_of : Rule → List Mapping → Placed → Bool
breaks_of rule.Inside set p = is_outside set p
breaks_of rule.Cookie set p = has_other_cookie set p
breaks_of rule.Position set p = is_elsewhere set p
breaks_of rule.Aligned set p = is_unaligned set p

abbrev pub why_of : Rule → Placed → Why
why_of rule.Inside p = Outside p.«module»
why_of rule.Cookie p = Cookie p.«module» p.label.cookie
why_of rule.Position p = Position p.«module» p.label.position
why_of rule.Aligned p = Unaligned p.«module»

-- ---- several labels

abbrev pub same_guids : Placed → Placed → Bool
same_guids p q = bytes_eq q.label.kind p.label.kind && bytes_eq q.label.abstraction p.label.abstraction

abbrev pub same_name : Placed → Placed → Bool
same_name p q = bytes_eq q.label.name p.label.name

-- a label agrees in a field with another, or, for Count, with the set
abbrev pub agrees_of : Field → List Mapping → Placed → Placed → Bool
agrees_of Count set p q = q.label.count == length set
agrees_of Dpa set p q = relative_of set q == relative_of set p
agrees_of RawSize set p q = q.label.raw == p.label.raw
agrees_of LbaSize set p q = q.label.lba == p.label.lba
agrees_of Guids set p q = same_guids p q
agrees_of Names set p q = same_name p q

-- some label differs from the first
abbrev pub differ_in : Field → List Mapping → List Placed → Bool
differ_in field set [] = false
differ_in field set (p ∷ labels) = list_any (λ q. not (agrees_of field set p q)) (p ∷ labels)

-- the name of all labels, if they have the same
abbrev pub agreed_name : List Placed → Option (List ℕ)
agreed_name [] = None
agreed_name (p ∷ labels) = if list_all (same_name p) (p ∷ labels) then Some p.label.name else None
