-- From the header to the table.
use Rattle.std.proofs.Common.{◌≡◌, ℕ, ◌≤◌, Bool, true, false, ltb, List, ◌∷◌, length, take, drop, Option, Some, None, Result, Ok, Err, refl, ap, ◌∙◌}
use Rattle.std.proofs.lemmas.List.{length-take-le}
use Rattle.std.proofs.lemmas.Bool.{or_parts, ltb-false}
use Rattle.nvd_words.specs.Checks.{first_fault, fault_if}
use Rattle.nfit_reader.specs.declared.table.Nfit.{Nfit}
use Rattle.nfit_reader.specs.declared.table.NfitFault.{NfitFault}
use Rattle.nfit_reader.specs.declared.structures.Structure.{Structure}
use Rattle.nfit_reader.specs.Structures.{spans_from, structures_of}
use Rattle.nfit_reader.specs.Table.{nfit_reading, header_fault, table_reading, structures_reading, reading_after, said_of}

pub reading_refused : (bytes : List ℕ) (f : NfitFault) → Some f ≡ header_fault bytes → Err f ≡ nfit_reading bytes
reading_refused bytes f e = ap (reading_after bytes) e

pub ruleset readings = (reading_refused)

none_first : {F : Type 0} (o : Option F) (os : List (Option F)) → None ≡ first_fault (o ∷ os) → (o ≡ None) × (None ≡ first_fault os)
unfolding first_fault
none_first None os e = (refl, e)
none_first (Some x) os e = cc

none_if : {F : Type 0} (b : Bool) (f : F) → fault_if b f ≡ None → b ≡ false
none_if true f e = cc
none_if false f e = refl

pub record IsSound (bytes : List ℕ) : Type 0 where
  pub inside : said_of bytes ≤ length bytes
  pub header : 40 ≤ said_of bytes

pub sound : (bytes : List ℕ) → None ≡ header_fault bytes → IsSound bytes
unfolding header_fault
sound bytes e =
    let signature = none_first _ _ e in
    let len = none_first _ _ signature.1 in
    let parts = or_parts (ltb (length bytes) (said_of bytes)) (ltb (said_of bytes) 40) (none_if _ _ len.0) in
    record { inside = ltb-false (length bytes) (said_of bytes) parts.0; header = ltb-false (said_of bytes) 40 parts.1 }

-- the reading of a table with a valid header is that of its structures
pub reading_on : (bytes table : List ℕ) → None ≡ header_fault bytes → table ≡ take (said_of bytes) bytes
    → structures_reading (structures_of (spans_from (length table) 40 (drop 40 table))) ≡ nfit_reading bytes
reading_on bytes table none is =
    let long : length table ≡ said_of bytes = ap length is ∙ length-take-le (said_of bytes) bytes (sound bytes none).inside in
    ap (λ n. structures_reading (structures_of (spans_from n 40 (drop 40 table)))) long
    ∙ ap (λ xs. structures_reading (structures_of (spans_from (said_of bytes) 40 (drop 40 xs)))) is
    ∙ ap (reading_after bytes) none

pub read_refused : (bytes table : List ℕ) (f : NfitFault) → None ≡ header_fault bytes → table ≡ take (said_of bytes) bytes
    → Err f ≡ structures_of (spans_from (length table) 40 (drop 40 table)) → Err f ≡ nfit_reading bytes
read_refused bytes table f none is e = ap structures_reading e ∙ reading_on bytes table none is

pub read_on : (bytes table : List ℕ) (structures : List Structure) (r : Result Nfit NfitFault) → None ≡ header_fault bytes → table ≡ take (said_of bytes) bytes
    → Ok structures ≡ structures_of (spans_from (length table) 40 (drop 40 table)) → r ≡ table_reading structures → r ≡ nfit_reading bytes
read_on bytes table structures r none is e told = told ∙ ap structures_reading e ∙ reading_on bytes table none is

error_of : {A F : Type 0} → Result A F → F → F
error_of (Ok x) other = other
error_of (Err f) other = f

pub same_fault : {A F : Type 0} (f g : F) → ◌≡◌ {A = Result A F} (Err f) (Err g) → f ≡ g
unfolding error_of
same_fault f g e = ap (λ r. error_of r f) e
