-- The names in a script are UTF-8: each line is, and a blank ends a character.
use Rattle.std.proofs.Common.{◌≡◌, ◌≢◌, ◌<◌, ℕ, zero, suc, ◌+◌, ◌-◌, ◌^◌, ◌*◌, ◌/◌, ◌%◌, ◌==◌, nat_lt, Bool, true, false, if◌then◌else◌, List, [], ◌∷◌, ◌++◌, length, get_or, Option, Some, None, option_map, option_to_list, Result, Ok, Err, IfOk, IfSome, All, sym, ap, ◌∙◌, subst, inl, inr, eq-or-lt_of_le, arith}
use Rattle.std.specs.Prelude.{⊤}
use Rattle.std.specs.Str.{IsUtf8, is_utf8}
use Rattle.std.specs.List.{list_all}
use Rattle.std.proofs.lemmas.Bool.{cases_Bool, eqb-true}
use Rattle.std.proofs.lemmas.List.Elements.{All-nil, All-cons, All-push, All-append}
use Rattle.std.proofs.lemmas.Str.{is_utf8-from_IsUtf8, IsUtf8-from_is_utf8, IsUtf8-drop, IsCharBoundary-after_ascii}
use Rattle.command_words.specs.Numbers.{limited, number_of}
use Rattle.nvd_media.specs.Choosers.{next_of}
use Rattle.session_script.specs.declared.fault.LineFault.{LineFault}
use Rattle.session_script.specs.declared.fault.LineFault.TheVariants as line
use Rattle.session_script.specs.declared.fault.LineKind.{LineKind}
use Rattle.session_script.specs.declared.fault.LineKind.TheVariants as kind
use Rattle.session_script.specs.declared.fault.ScriptFault.{ScriptFault}
use Rattle.session_script.specs.declared.fault.ScriptFault.TheVariants as fault
use Rattle.session_script.specs.declared.fault.ScriptLimit.TheVariants as limit
use Rattle.session_script.specs.declared.payload.Payload.{Payload}
use Rattle.session_script.specs.declared.payload.Payload.TheVariants.{Fill}
use Rattle.session_script.specs.declared.script.Line.{Line}
use Rattle.session_script.specs.declared.script.Line.TheVariants.{Read, Write, Order}
use Rattle.session_script.specs.declared.script.Order.TheVariants.{Open, Close, Create, Delete, Rename}
use Rattle.session_script.specs.declared.script.Script.{Script}
use Rattle.session_script.specs.declared.script.SessionLines.{SessionLines}
use Rattle.session_script.specs.declared.sessions.ReadScript.{ReadScript}
use Rattle.session_script.specs.declared.verbs.Said.{Said}
use Rattle.session_script.specs.declared.verbs.Said.TheVariants as said
use Rattle.session_script.specs.declared.verbs.Verb.{Verb}
use Rattle.session_script.specs.declared.verbs.Verb.TheVariants as verb
use Rattle.session_script.specs.Lines.{before, after, lines_in, lines_read}
use Rattle.session_script.specs.Fields.{Field, Rest, at_end, field_of, found, hyphenated, is_plain, is_printable, name_field, on_field, u32_field, u64_field, uuid_field, value_field, value_of}
use Rattle.session_script.specs.Load.{load_line, load_lines, load_session, load_sessions, number_after}
use Rattle.session_script.specs.Names.{LineHasText, ScriptHasText, SessionHasText}
use Rattle.session_script.specs.Script.{and_said, create_line, may_stand, nothing_said, on_verb, rename_line, said_by, said_reading, script_of, script_reading, session_line, sessions_of, verb_of, with_call, with_cut, with_line, with_said, within_limits, write_call}
use Rattle.session_script.proofs.Parts.{after_none, after_some, before_within}

-- ---- what stands after a blank

at_mark : (mark : ℕ) (xs : List ℕ) → length (before mark xs) < length xs → get_or xs (length (before mark xs)) 0 ≡ mark
at_mark mark [] inside = absurd (let none : 0 < 0 = inside in omega arith)
at_mark mark (c ∷ cs) inside =
    elim (cases_Bool (c == mark)) [
      | inl here ↦ rw here (eqb-true c mark here)
      | inr next ↦ rw next (at_mark mark cs (let more : suc (length (before mark cs)) < suc (length cs) = rw next at inside in omega arith))
    ]

-- the rest of a line is UTF-8
abbrev IsText : Rest → Type 0
IsText rest = IfSome rest IsUtf8

after_text : (text : List ℕ) → IsUtf8 text → IsText (after 32 text)
after_text text is =
    elim (eq-or-lt_of_le (before_within 32 text)) [
      | inl all ↦ subst IsText (sym (after_none 32 text all)) tt
      | inr inside ↦
          let other : length (before 32 text) ≢ length text = λ same. (let e = same in omega arith) in
          let small : get_or text (length (before 32 text)) 0 < 128 = (let e = at_mark 32 text inside in omega arith) in
          subst IsText (sym (after_some 32 text other))
          (IsUtf8-drop text (length (before 32 text) + 1) is (IsCharBoundary-after_ascii text (length (before 32 text)) is inside small))
    ]

-- ---- one line

if_has : {A F : Type 0} (P : A → Type 0) (c : Bool) (r s : Result A F) → IfOk r P → IfOk s P → IfOk (if c then r else s) P
if_has P true r s h k = h
if_has P false r s h k = k

printable_has : {A : Type 0} (P : A → Type 0) (text : List ℕ) (r s : Result A LineFault) → (IsUtf8 text → IfOk r P) → IfOk s P → IfOk (if is_printable text then r else s) P
printable_has P text r s h k =
    elim (cases_Bool (is_utf8 text)) [
      | inl so ↦ rw so (if_has P (list_all is_plain text) r s (h (IsUtf8-from_is_utf8 text so)) k)
      | inr other ↦ rw other k
    ]

abbrev LeavesText : {A : Type 0} → A × Rest → Type 0
LeavesText {A} field = IsText field.1

found_has : {A : Type 0} (what : LineKind) (rest : Rest) (o : Option A) → IsText rest → IfOk (found what rest o) LeavesText
found_has what rest None is = tt
found_has what rest (Some value) is = is

field_has : {A : Type 0} (what : LineKind) (read : List ℕ → Option A) (rest : Rest) → IsText rest → IfOk (field_of what read rest) LeavesText
field_has what read None is = tt
field_has what read (Some text) is = found_has what (after 32 text) (read (before 32 text)) (after_text text is)

on_has : {A B : Type 0} (P : B → Type 0) (field : Field A) (next : A → Rest → Result B LineFault) → IfOk field LeavesText
    → ((value : A) (rest : Rest) → IsText rest → IfOk (next value rest) P) → IfOk (on_field field next) P
on_has P (Ok field) next is h = h field.0 field.1 is
on_has P (Err fault) next is h = tt

on_name : (P : Said → Type 0) (rest : Rest) (next : List ℕ → Rest → Result Said LineFault) → IsText rest
    → ((name : List ℕ) (rest : Rest) → is_utf8 name ≡ true → IfOk (next name rest) P) → IfOk (on_field (name_field rest) next) P
on_name P None next is h = tt
on_name P (Some name) next is h = h name None (is_utf8-from_IsUtf8 name is)

end_has : {B : Type 0} (P : B → Type 0) (rest : Rest) (value : B) → P value → IfOk (at_end rest value) P
end_has P None value is = is
end_has P (Some text) value is = tt

-- the name that a line gives is UTF-8
abbrev SaidHasText : Said → Type 0
SaidHasText (said.Labelcut steps) = ⊤
SaidHasText said.Session = ⊤
SaidHasText (said.Cut steps) = ⊤
SaidHasText (said.Call call) = LineHasText call

on_uuid : (rest : Rest) (next : List ℕ → Rest → Result Said LineFault) → IsText rest → ((uuid : List ℕ) (rest : Rest) → IsText rest → IfOk (next uuid rest) SaidHasText)
    → IfOk (on_field (uuid_field rest) next) SaidHasText
on_uuid rest next is h = on_has SaidHasText (uuid_field rest) next (field_has kind.Uuid hyphenated rest is) h

on_u64 : (rest : Rest) (next : ℕ → Rest → Result Said LineFault) → IsText rest → ((n : ℕ) (rest : Rest) → IsText rest → IfOk (next n rest) SaidHasText)
    → IfOk (on_field (u64_field rest) next) SaidHasText
on_u64 rest next is h = on_has SaidHasText (u64_field rest) next (field_has kind.Number (λ word. limited (2 ^ 64 - 1) (number_of word)) rest is) h

on_u32 : (rest : Rest) (next : ℕ → Rest → Result Said LineFault) → IsText rest → ((n : ℕ) (rest : Rest) → IsText rest → IfOk (next n rest) SaidHasText)
    → IfOk (on_field (u32_field rest) next) SaidHasText
on_u32 rest next is h = on_has SaidHasText (u32_field rest) next (field_has kind.Number (λ word. limited (2 ^ 32 - 1) (number_of word)) rest is) h

on_value : (rest : Rest) (next : Payload → Rest → Result Said LineFault) → IsText rest → ((value : Payload) (rest : Rest) → IsText rest → IfOk (next value rest) SaidHasText)
    → IfOk (on_field (value_field rest) next) SaidHasText
on_value rest next is h = on_has SaidHasText (value_field rest) next (field_has kind.Value value_of rest is) h

create_has : (rest : Rest) → IsText rest → IfOk (create_line rest) SaidHasText
create_has rest is =
    on_uuid rest (λ uuid rest. on_field (u32_field rest) (λ region rest. on_field (u64_field rest) (λ size rest. on_field (name_field rest) (λ name rest. at_end rest (said.Call (Order (Create uuid region size name))))))) is
    (λ uuid rest is. on_u32 rest (λ region rest. on_field (u64_field rest) (λ size rest. on_field (name_field rest) (λ name rest. at_end rest (said.Call (Order (Create uuid region size name)))))) is
    (λ region rest is. on_u64 rest (λ size rest. on_field (name_field rest) (λ name rest. at_end rest (said.Call (Order (Create uuid region size name))))) is
    (λ size rest is. on_name SaidHasText rest (λ name rest. at_end rest (said.Call (Order (Create uuid region size name)))) is
    (λ name rest is. end_has SaidHasText rest (said.Call (Order (Create uuid region size name))) is))))

rename_has : (rest : Rest) → IsText rest → IfOk (rename_line rest) SaidHasText
rename_has rest is =
    on_uuid rest (λ uuid rest. on_field (name_field rest) (λ name rest. at_end rest (said.Call (Order (Rename uuid name))))) is
    (λ uuid rest is. on_name SaidHasText rest (λ name rest. at_end rest (said.Call (Order (Rename uuid name)))) is
    (λ name rest is. end_has SaidHasText rest (said.Call (Order (Rename uuid name))) is))

write_has : (rest : Rest) → IsText rest → IfOk (write_call rest) SaidHasText
write_has rest is =
    on_u64 rest (λ sector rest. on_field (value_field rest) (λ value rest. at_end rest (said.Call (Write sector value)))) is
    (λ sector rest is. on_value rest (λ value rest. at_end rest (said.Call (Write sector value))) is (λ value rest is. end_has SaidHasText rest (said.Call (Write sector value)) tt))

session_has : (count : ℕ) (rest : Rest) → IsText rest → IfOk (session_line count rest) SaidHasText
session_has count rest is =
    on_u32 rest (λ number rest. if number == count then at_end rest said.Session else Err (line.Kind kind.Order)) is
    (λ number rest is. if_has SaidHasText (number == count) (at_end rest said.Session) (Err (line.Kind kind.Order)) (end_has SaidHasText rest said.Session tt) tt)

said_has : (count : ℕ) (v : Verb) (rest : Rest) → IsText rest → IfOk (said_by count v rest) SaidHasText
said_has count verb.Labelcut rest is = on_u64 rest (λ steps rest. at_end rest (said.Labelcut steps)) is (λ steps rest is. end_has SaidHasText rest (said.Labelcut steps) tt)
said_has count verb.Session rest is = session_has count rest is
said_has count verb.Cut rest is = on_u64 rest (λ steps rest. at_end rest (said.Cut steps)) is (λ steps rest is. end_has SaidHasText rest (said.Cut steps) tt)
said_has count verb.Open rest is = on_uuid rest (λ uuid rest. at_end rest (said.Call (Order (Open uuid)))) is (λ uuid rest is. end_has SaidHasText rest (said.Call (Order (Open uuid))) tt)
said_has count verb.Close rest is = end_has SaidHasText rest (said.Call (Order Close)) tt
said_has count verb.Read rest is = on_u64 rest (λ sector rest. at_end rest (said.Call (Read sector))) is (λ sector rest is. end_has SaidHasText rest (said.Call (Read sector)) tt)
said_has count verb.Write rest is = write_has rest is
said_has count verb.Create rest is = create_has rest is
said_has count verb.Delete rest is = on_uuid rest (λ uuid rest. at_end rest (said.Call (Order (Delete uuid)))) is (λ uuid rest is. end_has SaidHasText rest (said.Call (Order (Delete uuid))) tt)
said_has count verb.Rename rest is = rename_has rest is

verb_has : (read : ReadScript) (o : Option Verb) (rest : Rest) → IsText rest → IfOk (on_verb read o rest) SaidHasText
verb_has read None rest is = tt
verb_has read (Some v) rest is =
    if_has SaidHasText (may_stand read v) (said_by (length (sessions_of read)) v rest) (Err (line.Kind kind.Order)) (said_has (length (sessions_of read)) v rest is) tt

reading_has : (read : ReadScript) (text : List ℕ) → IfOk (said_reading read text) SaidHasText
reading_has read text =
    printable_has SaidHasText text (on_verb read (verb_of (before 32 text)) (after 32 text)) (Err (line.Kind kind.Encoding))
    (λ is. verb_has read (verb_of (before 32 text)) (after 32 text) (after_text text is)) tt

-- ---- all lines

-- the names of a script so far are UTF-8
abbrev ReadHasText : ReadScript → Type 0
ReadHasText read = All SessionHasText read.done × IfSome read.last SessionHasText

with_last : (sessions : List SessionLines) (last : Option SessionLines) → All SessionHasText sessions → IfSome last SessionHasText → All SessionHasText (sessions ++ option_to_list last)
with_last sessions None all is = All-append SessionHasText sessions [] all (All-nil SessionHasText)
with_last sessions (Some session) all is = All-push SessionHasText sessions session all is

sessions_have : (read : ReadScript) → ReadHasText read → All SessionHasText (sessions_of read)
sessions_have read h = with_last read.done read.last h.0 h.1

cut_has : (steps : ℕ) (last : Option SessionLines) → IfSome last SessionHasText → IfSome (option_map (with_cut steps) last) SessionHasText
cut_has steps None h = tt
cut_has steps (Some session) h = h

call_has : (call : Line) (last : Option SessionLines) → LineHasText call → IfSome last SessionHasText → IfSome (option_map (with_call call) last) SessionHasText
call_has call None is h = tt
call_has call (Some session) is h = All-push LineHasText session.calls call h is

and_has : (read : ReadScript) (s : Said) → ReadHasText read → SaidHasText s → ReadHasText (and_said read s)
and_has read (said.Labelcut steps) h is = h
and_has read said.Session h is = (sessions_have read h, All-nil LineHasText)
and_has read (said.Cut steps) h is = (h.0, cut_has steps read.last h.1)
and_has read (said.Call call) h is = (h.0, call_has call read.last is h.1)

limits_have : (read : ReadScript) → ReadHasText read → IfOk (within_limits read) ReadHasText
limits_have read h =
    if_has ReadHasText (nat_lt 1024 (length (sessions_of read))) (Err (fault.TooMany limit.Sessions)) (if nat_lt 65536 read.calls then Err (fault.TooMany limit.Calls) else Ok read) tt
    (if_has ReadHasText (nat_lt 65536 read.calls) (Err (fault.TooMany limit.Calls)) (Ok read) tt h)

with_has : (read : ReadScript) (number : ℕ) (r : Result Said LineFault) → ReadHasText read → IfOk r SaidHasText → IfOk (with_said read number r) ReadHasText
with_has read number (Err what) h is = tt
with_has read number (Ok s) h is = limits_have (and_said read s) (and_has read s h is)

line_has : (read : ReadScript) (number : ℕ) (text : List ℕ) → ReadHasText read → IfOk (with_line read number text) ReadHasText
line_has read number text h =
    if_has ReadHasText (nat_lt 32768 (length text)) (Err (fault.TooMany limit.Bytes)) (with_said read number (said_reading read text)) tt
    (with_has read number (said_reading read text) h (reading_has read text))

lines_have : (number : ℕ) (lines : List (List ℕ)) (r : Result ReadScript ScriptFault) → IfOk r ReadHasText → IfOk (lines_read with_line number lines r) ReadHasText
lines_have number lines (Err what) h = tt
lines_have number [] (Ok read) h = h
lines_have number (line ∷ lines) (Ok read) h = lines_have (number + 1) lines (with_line read number line) (line_has read number line h)

of_has : (r : Result ReadScript ScriptFault) → IfOk r ReadHasText → IfOk (script_of r) ScriptHasText
of_has (Err what) h = tt
of_has (Ok read) h = sessions_have read h

pub script_has : (text : List ℕ) → IfOk (script_reading text) ScriptHasText
script_has text = of_has (lines_read with_line 1 (lines_in text) (Ok nothing_said)) (lines_have 1 (lines_in text) (Ok nothing_said) (All-nil SessionHasText, tt))

-- a script whose lines were all read
pub read_has : (text rest : List ℕ) (number : ℕ) (read : ReadScript) (script : Script) → length rest ≡ 0
    → lines_read with_line number (lines_in rest) (Ok read) ≡ lines_read with_line 1 (lines_in text) (Ok nothing_said) → Ok script ≡ script_of (Ok read) → ScriptHasText script
read_has text [] number read script none same is = subst (λ (r : Result Script ScriptFault). IfOk r ScriptHasText) (sym (is ∙ ap script_of same)) (script_has text)
read_has text (c ∷ cs) number read script none same is = absurd (let e : suc (length cs) ≡ 0 = none in omega arith)

-- ---- a load

either_has : (c : Bool) (sector byte : ℕ) → LineHasText (if c then Write sector (Fill byte) else Read sector)
either_has true sector byte = tt
either_has false sector byte = tt

load_lines_have : (n share sessions q x : ℕ) → All LineHasText (load_lines n share sessions q x)
load_lines_have zero share sessions q x = All-nil LineHasText
load_lines_have (suc n) share sessions q x =
    All-cons LineHasText (load_line share sessions q (next_of x)) (load_lines n share sessions q (next_of x))
    (either_has (next_of x / 2 ^ 32 % 2 == 0) (next_of x / 2 ^ 33 % share * sessions + q) (next_of x / 2 ^ 56)) (load_lines_have n share sessions q (next_of x))

load_session_has : (uuid : List ℕ) (calls share sessions q x : ℕ) → SessionHasText (load_session uuid calls share sessions q x)
load_session_has uuid calls share sessions q x =
    All-cons LineHasText (Order (Open uuid)) (load_lines calls share sessions q x ++ Order Close ∷ []) tt
    (All-push LineHasText (load_lines calls share sessions q x) (Order Close) (load_lines_have calls share sessions q x) tt)

load_sessions_have : (n : ℕ) (uuid : List ℕ) (calls share sessions q x : ℕ) → All SessionHasText (load_sessions n uuid calls share sessions q x)
load_sessions_have zero uuid calls share sessions q x = All-nil SessionHasText
load_sessions_have (suc n) uuid calls share sessions q x =
    All-cons SessionHasText (load_session uuid calls share sessions q x) (load_sessions n uuid calls share sessions (q + 1) (number_after calls x))
    (load_session_has uuid calls share sessions q x) (load_sessions_have n uuid calls share sessions (q + 1) (number_after calls x))

pub load_has : (uuid : List ℕ) (calls share sessions number : ℕ) (made : List SessionLines) → made ≡ load_sessions sessions uuid calls share sessions 0 number → All SessionHasText made
load_has uuid calls share sessions number made is = subst (All SessionHasText) (sym is) (load_sessions_have sessions uuid calls share sessions 0 number)
