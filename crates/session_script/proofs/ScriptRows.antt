-- Worked examples of scripts.
use Rattle.std.proofs.Common.{◌≡◌, ℕ, List, [], ◌∷◌, Option, Some, None, Ok, refl, codes}
use Rattle.std.specs.Result.{result_err}
use Rattle.std.specs.Str.{is_utf8, chars}
use lib.Utf8.{encode}
use Rattle.hex.specs.Hex.{decode_pairs}
use Rattle.uuid.specs.Text.{by_index}
use Rattle.session_script.specs.declared.fault.LineKind.TheVariants as kind
use Rattle.session_script.specs.declared.fault.ScriptFault.{ScriptFault}
use Rattle.session_script.specs.declared.fault.ScriptFault.TheVariants as fault
use Rattle.session_script.specs.declared.payload.Payload.TheVariants.{Fill, Hex}
use Rattle.session_script.specs.declared.script.Line.TheVariants.{Read, Write, Order}
use Rattle.session_script.specs.declared.script.Order.TheVariants.{Open, Close, Create, Delete, Rename}
use Rattle.session_script.specs.Script.{script_reading, verb_of}

abbrev u : List ℕ
u = 0x11 ∷ 0x11 ∷ 0x11 ∷ 0x11 ∷ 0x11 ∷ 0x11 ∷ 0x41 ∷ 0x11 ∷ 0x81 ∷ 0x11 ∷ 0x11 ∷ 0x11 ∷ 0x11 ∷ 0x11 ∷ 0x11 ∷ 0x11 ∷ []

pub no_script : script_reading [] ≡ Ok (record { labelcut = None; sessions = [] })
unfolding decode_pairs is_utf8 chars encode by_index verb_of
no_script = refl

-- every kind of line; a name may be empty or have blanks
pub whole_script : script_reading (codes "labelcut 7\nsession 0\ncut 391\nopen 11111111-1111-4111-8111-111111111111\nwrite 0 fill:5a\nwrite 1 hex:0001\nread 2\nclose\nsession 1\ncreate 11111111-1111-4111-8111-111111111111 0 4096 \nrename 11111111-1111-4111-8111-111111111111 a b\ndelete 11111111-1111-4111-8111-111111111111") ≡ Ok (record {
  labelcut = Some 7;
  sessions =
      record { cut = Some 391; calls = Order (Open u) ∷ Write 0 (Fill 0x5a) ∷ Write 1 (Hex (0 ∷ 1 ∷ [])) ∷ Read 2 ∷ Order Close ∷ [] }
      ∷ record { cut = None; calls = Order (Create u 0 4096 []) ∷ Order (Rename u (codes "a b")) ∷ Order (Delete u) ∷ [] }
      ∷ [];
})
unfolding decode_pairs is_utf8 chars encode by_index verb_of
whole_script = refl

-- ---- faults

abbrev fault_in : List ℕ → Option ScriptFault
fault_in text = result_err (script_reading text)

pub third_line : fault_in (codes "session 0\nclose\nread x\n") ≡ Some (fault.Line 3 kind.Number)
unfolding decode_pairs is_utf8 chars encode by_index verb_of
third_line = refl

pub wrong_session : fault_in (codes "session 1 x\n") ≡ Some (fault.Line 1 kind.Order)
unfolding decode_pairs is_utf8 chars encode by_index verb_of
wrong_session = refl

-- the place comes before the fields
pub late_labelcut : fault_in (codes "session 0\nlabelcut x\n") ≡ Some (fault.Line 2 kind.Order)
unfolding decode_pairs is_utf8 chars encode by_index verb_of
late_labelcut = refl

pub late_cut : fault_in (codes "session 0\ncut 1\ncut 2\n") ≡ Some (fault.Line 3 kind.Order)
unfolding decode_pairs is_utf8 chars encode by_index verb_of
late_cut = refl

pub no_session : fault_in (codes "labelcut 1\nclose\n") ≡ Some (fault.Line 2 kind.Order)
unfolding decode_pairs is_utf8 chars encode by_index verb_of
no_session = refl

pub no_name : fault_in (codes "session 0\nrename 11111111-1111-4111-8111-111111111111") ≡ Some (fault.Line 2 kind.Name)
unfolding decode_pairs is_utf8 chars encode by_index verb_of
no_name = refl

-- 32 digits without hyphens are another form of a UUID
pub no_hyphens : fault_in (codes "session 0\nopen 11111111111141118111111111111111") ≡ Some (fault.Line 2 kind.Uuid)
unfolding decode_pairs is_utf8 chars encode by_index verb_of
no_hyphens = refl
