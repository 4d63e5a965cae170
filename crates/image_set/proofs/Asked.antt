-- The fault of an object, from its length.
use Rattle.std.proofs.Common.{◌≡◌, ◌≢◌, ℕ, Bool, true, false, List, [], ◌∷◌, length, Option, Some, None, Result, Ok, Err, refl, sym, ◌∙◌}
use Rattle.std.specs.Prelude.{unwrap_or}
use Rattle.std.specs.Option.{option_map}
use Rattle.nvd_words.specs.Checks.{first_fault, value_unless}
use Rattle.nvd_words.proofs.Checks.{fault_first, fault_next}
use Rattle.nvd_media.specs.declared.object.Object.{Object}
use Rattle.image_set.specs.declared.fault.LoadFault.{LoadFault}
use Rattle.image_set.specs.declared.fault.LoadFault.TheVariants as fault
use Rattle.image_set.specs.Load.{needed_fault, optional_fault, AnswersRead}

-- ---- one object

pub optional_absent : (x : Option (List ℕ)) (found : Option ℕ) (test : ℕ → Bool) (o : Object) → found ≡ option_map length x → found ≡ None
    → Ok None ≡ value_unless (option_map length x) (optional_fault test o x)
optional_absent None found test o told is = refl
optional_absent (Some bytes) found test o told is = absurd (let e = sym told ∙ is in cc)

pub optional_fits : (x : Option (List ℕ)) (found : Option ℕ) (n : ℕ) (test : ℕ → Bool) (o : Object) → found ≡ option_map length x → found ≡ Some n → test n ≡ true
    → Ok (Some n) ≡ value_unless (option_map length x) (optional_fault test o x)
optional_fits None found n test o told is fits = absurd (let e = sym told ∙ is in cc)
optional_fits (Some bytes) found n test o told is fits =
    let len : length bytes ≡ n = let e = sym told ∙ is in cc in
    rw (len, fits) refl

pub optional_odd : (x : Option (List ℕ)) (found : Option ℕ) (n : ℕ) (test : ℕ → Bool) (o : Object) → found ≡ option_map length x → found ≡ Some n → test n ≡ false
    → Err (fault.Size o n) ≡ value_unless (option_map length x) (optional_fault test o x)
optional_odd None found n test o told is odd = absurd (let e = sym told ∙ is in cc)
optional_odd (Some bytes) found n test o told is odd =
    let len : length bytes ≡ n = let e = sym told ∙ is in cc in
    rw (len, odd) refl

pub needed_absent : (x : Option (List ℕ)) (found : Option ℕ) (test : ℕ → Bool) (o : Object) → found ≡ option_map length x → found ≡ None
    → Err (fault.Missing o) ≡ value_unless (length (unwrap_or x [])) (needed_fault test o x)
needed_absent None found test o told is = refl
needed_absent (Some bytes) found test o told is = absurd (let e = sym told ∙ is in cc)

pub needed_fits : (x : Option (List ℕ)) (found : Option ℕ) (n : ℕ) (test : ℕ → Bool) (o : Object) → found ≡ option_map length x → found ≡ Some n → test n ≡ true
    → Ok n ≡ value_unless (length (unwrap_or x [])) (needed_fault test o x)
needed_fits None found n test o told is fits = absurd (let e = sym told ∙ is in cc)
needed_fits (Some bytes) found n test o told is fits =
    let len : length bytes ≡ n = let e = sym told ∙ is in cc in
    rw (len, fits) refl

pub needed_odd : (x : Option (List ℕ)) (found : Option ℕ) (n : ℕ) (test : ℕ → Bool) (o : Object) → found ≡ option_map length x → found ≡ Some n → test n ≡ false
    → Err (fault.Size o n) ≡ value_unless (length (unwrap_or x [])) (needed_fault test o x)
needed_odd None found n test o told is odd = absurd (let e = sym told ∙ is in cc)
needed_odd (Some bytes) found n test o told is odd =
    let len : length bytes ≡ n = let e = sym told ∙ is in cc in
    rw (len, odd) refl

-- ---- results in sequence

-- a call that stopped has revealed the fault
pub stopped : {A B : Type 0} (e : LoadFault) (x : A) (f : Option LoadFault) (r : Result A LoadFault) (r' : Result B LoadFault) → r ≡ Err e → r' ≡ Err e
    → AnswersRead r (value_unless x f) → r' ≢ Err fault.ReadFault → r' ≢ Err fault.OutOfMemory → f ≡ Some e
stopped e x None r r' is is' told no_read no_memory =
    absurd (let same = told (λ h. no_read (let k : e ≡ fault.ReadFault = cc in cc)) (λ h. no_memory (let k : e ≡ fault.OutOfMemory = cc in cc)) in cc)
stopped e x (Some f) r r' is is' told no_read no_memory =
    let same = told (λ h. no_read (let k : e ≡ fault.ReadFault = cc in cc)) (λ h. no_memory (let k : e ≡ fault.OutOfMemory = cc in cc)) in cc

-- a call that went on has found none
pub passed : {A : Type 0} (v x : A) (f : Option LoadFault) (r : Result A LoadFault) → r ≡ Ok v → AnswersRead r (value_unless x f) → (f ≡ None) × (v ≡ x)
passed v x None r is told = (refl, let same = told (λ h. cc) (λ h. cc) in cc)
passed v x (Some f) r is told = absurd (let same = told (λ h. cc) (λ h. cc) in cc)

-- the first check stops
pub stops_here : {A B : Type 0} (v : B) (e : LoadFault) (x : A) (f : Option LoadFault) (faults : List (Option LoadFault)) (r : Result A LoadFault) (r' : Result B LoadFault) → r ≡ Err e
    → r' ≡ Err e → AnswersRead r (value_unless x f) → r' ≢ Err fault.ReadFault → r' ≢ Err fault.OutOfMemory → r' ≡ value_unless v (first_fault (f ∷ faults))
stops_here v e x f faults r r' is is' told no_read no_memory = is' ∙ fault_first v f e faults (stopped e x f r r' is is' told no_read no_memory)

-- the first check finds no fault
pub goes_on : {A B : Type 0} (v : B) (a x : A) (f : Option LoadFault) (faults : List (Option LoadFault)) (r : Result A LoadFault) (r' : Result B LoadFault) → r ≡ Ok a
    → AnswersRead r (value_unless x f) → r' ≡ value_unless v (first_fault faults) → r' ≡ value_unless v (first_fault (f ∷ faults))
goes_on v a x f faults r r' is told on = fault_next v f faults r' (passed a x f r is told).0 on

-- the last check decides
pub last : {A : Type 0} (v : A) (f : Option LoadFault) (r : Result A LoadFault) → r ≡ value_unless v f → r ≡ value_unless v (first_fault (f ∷ []))
unfolding first_fault
last v None r is = is
last v (Some f) r is = is
