-- What follows a field.
use Rattle.std.proofs.Common.{◌≡◌, Result, Ok, Err, refl}
use Rattle.session_script.specs.declared.fault.LineFault.{LineFault}
use Rattle.session_script.specs.Fields.{Field, Rest, on_field}

-- the field isn't of its kind
pub field_fails : {A B : Type 0} (field : Field A) (next : A → Rest → Result B LineFault) (fault : LineFault) → field ≡ Err fault → Err fault ≡ on_field field next
field_fails field next fault e = rw e refl

-- the field was read
pub field_on : {A B : Type 0} (field : Field A) (next : A → Rest → Result B LineFault) (value : A) (rest : Rest) (r : Result B LineFault) → field ≡ Ok (value, rest)
    → r ≡ next value rest → r ≡ on_field field next
field_on field next value rest r e on = rw e on

pub ruleset fields = (field_fails, field_on)
