-- Worked examples of the grammar.
use Rattle.std.proofs.Common.{◌≡◌, ℕ, List, [], ◌∷◌, Option, Some, Ok, refl, codes}
use Rattle.std.specs.Result.{result_err}
use Rattle.std.specs.Str.{is_utf8, chars}
use lib.Utf8.{encode}
use Rattle.hex.specs.Hex.{decode_pairs}
use Rattle.session_script.specs.declared.fault.LineKind.TheVariants as kind
use Rattle.session_script.specs.declared.fault.ScriptFault.{ScriptFault}
use Rattle.session_script.specs.declared.fault.ScriptFault.TheVariants as fault
use Rattle.session_script.specs.declared.payload.Payload.TheVariants.{Fill, Hex}
use Rattle.session_script.specs.declared.schedule.ReplayLine.TheVariants.{Read, Write, Step}
use Rattle.session_script.specs.ScheduleLines.{begun, called}
use Rattle.session_script.specs.Schedule.{replay_reading}

-- two lanes race on a sector
pub race : replay_reading (codes "call 1 write 9 fill:11\nstep 1 138\ncall 0 read 9\nstep 0 1\n")
    ≡ Ok (record { lines = Write 1 9 (Fill 0x11) ∷ Step 1 138 ∷ Read 0 9 ∷ Step 0 1 ∷ [] })
unfolding decode_pairs is_utf8 chars encode begun called
race = refl

pub no_line : replay_reading [] ≡ Ok (record { lines = [] })
unfolding decode_pairs is_utf8 chars encode begun called
no_line = refl

-- digits in either case; the last line may end without LF
pub bytes : replay_reading (codes "call 0 write 0 hex:0aFF") ≡ Ok (record { lines = Write 0 0 (Hex (0x0a ∷ 0xff ∷ [])) ∷ [] })
unfolding decode_pairs is_utf8 chars encode begun called
bytes = refl

-- no digits are an even number of digits
pub no_bytes : replay_reading (codes "call 0 write 0 hex:") ≡ Ok (record { lines = Write 0 0 (Hex []) ∷ [] })
unfolding decode_pairs is_utf8 chars encode begun called
no_bytes = refl

-- ---- faults

abbrev fault_in : List ℕ → Option ScriptFault
fault_in text = result_err (replay_reading text)

pub empty_line : fault_in (codes "step 0 1\n\nstep 0 1") ≡ Some (fault.Line 2 kind.Word)
unfolding decode_pairs is_utf8 chars encode begun called
empty_line = refl

pub carriage_return : fault_in (codes "step 0 1\r\n") ≡ Some (fault.Line 1 kind.Encoding)
unfolding decode_pairs is_utf8 chars encode begun called
carriage_return = refl

-- fields are read from left to right
pub number_first : fault_in (codes "step 0 1\ncall x nope\n") ≡ Some (fault.Line 2 kind.Number)
unfolding decode_pairs is_utf8 chars encode begun called
number_first = refl

pub unknown_call : fault_in (codes "call 1 nope\n") ≡ Some (fault.Line 1 kind.Word)
unfolding decode_pairs is_utf8 chars encode begun called
unknown_call = refl

pub leading_zero : fault_in (codes "step 00 1") ≡ Some (fault.Line 1 kind.Number)
unfolding decode_pairs is_utf8 chars encode begun called
leading_zero = refl

-- a lane has 32 bits
pub large_lane : fault_in (codes "step 4294967296 1") ≡ Some (fault.Line 1 kind.Number)
unfolding decode_pairs is_utf8 chars encode begun called
large_lane = refl

pub missing_field : fault_in (codes "step 0") ≡ Some (fault.Line 1 kind.Word)
unfolding decode_pairs is_utf8 chars encode begun called
missing_field = refl

-- after a blank at the end stands an empty word
pub empty_field : fault_in (codes "step 0 ") ≡ Some (fault.Line 1 kind.Number)
unfolding decode_pairs is_utf8 chars encode begun called
empty_field = refl

pub word_after : fault_in (codes "step 0 1 ") ≡ Some (fault.Line 1 kind.Word)
unfolding decode_pairs is_utf8 chars encode begun called
word_after = refl

pub one_digit : fault_in (codes "call 0 write 0 fill:5") ≡ Some (fault.Line 1 kind.Value)
unfolding decode_pairs is_utf8 chars encode begun called
one_digit = refl
