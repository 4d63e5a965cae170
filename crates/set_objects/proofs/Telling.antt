-- Reading the firmware's table, from one result to the next.
use Rattle.std.proofs.Common.{◌≡◌, ◌≢◌, ℕ, List, Result, Ok, Err, sym, ap, ◌∙◌}
use Rattle.std.specs.Result.{result_map_both}
use Rattle.nvd_words.specs.Checks.{Answers, value_unless}
use Rattle.nvd_media.specs.Images.{Images}
use Rattle.nfit_reader.specs.declared.table.Nfit.{Nfit}
use Rattle.nfit_reader.specs.declared.table.NfitFault.{NfitFault}
use Rattle.nfit_reader.specs.Table.{nfit_reading}
use Rattle.image_set.specs.declared.fault.LoadFault.{LoadFault}
use Rattle.image_set.specs.declared.fault.LoadFault.TheVariants as fault
use Rattle.image_set.specs.Load.{AnswersRead, table_fault}
use Rattle.image_set.proofs.Asked.{stopped}
use Rattle.image_set.proofs.Chain.{IsOpen}
use Rattle.set_objects.specs.declared.fault.ReadStop.{ReadStop}
use Rattle.set_objects.specs.declared.fault.ReadStop.TheVariants as stop
use Rattle.set_objects.specs.declared.table.Table.{Table}
use Rattle.set_objects.specs.Objects.{table_reading, table_unless}
use Rattle.set_objects.specs.Table.{fault_of}

-- the table that is read is the set's, or the fault is the set's
abbrev pub Tells : Result Table LoadFault → Images → Type 0
Tells result set = AnswersRead (result_map_both (λ (t : Table). t.nfit) (λ (f : LoadFault). f) result) (table_reading set)

tells_err : (set : Images) (result : Result Table LoadFault) (e : LoadFault) → result ≡ Err e → (e ≢ fault.ReadFault → e ≢ fault.OutOfMemory → table_reading set ≡ Err e) → Tells result set
tells_err set result e is h no_read no_memory =
    let same : result_map_both (λ (t : Table). t.nfit) (λ (f : LoadFault). f) result ≡ Err e = ap (result_map_both (λ (t : Table). t.nfit) (λ (f : LoadFault). f)) is in
    same ∙ sym (h (λ x. no_read (same ∙ ap (λ f. Err f) x)) (λ x. no_memory (same ∙ ap (λ f. Err f) x)))

-- reading stopped
pub tells_stop : (set : Images) (result : Result Table LoadFault) (s : ReadStop) (e : LoadFault) → result ≡ Err e → e ≡ fault_of s → Tells result set
tells_stop set result stop.ReadFault e is from = tells_err set result e is (λ no_read no_memory. absurd (no_read from))
tells_stop set result stop.OutOfMemory e is from = tells_err set result e is (λ no_read no_memory. absurd (no_memory from))

-- the mark or the table's object has a fault
pub tells_size : (set : Images) (result : Result Table LoadFault) (e : LoadFault) (n : ℕ) (r : Result ℕ LoadFault) → result ≡ Err e → r ≡ Err e → AnswersRead r (value_unless n (table_fault set))
    → Tells result set
unfolding table_reading
tells_size set result e n r is is' told =
    tells_err set result e is (λ no_read no_memory.
    ap (table_unless set)
    (stopped e n (table_fault set) r r is' is' told (λ h. no_read (let k : Err e ≡ Err fault.ReadFault = sym is' ∙ h in cc)) (λ h. no_memory (let k : Err e ≡ Err fault.OutOfMemory = sym is' ∙ h in cc))))

opened : (set : Images) (bytes : List ℕ) (read : Result Nfit NfitFault) → IsOpen set bytes → nfit_reading bytes ≡ read → table_reading set ≡ result_map_both (λ n. n) fault.Nfit read
unfolding table_reading
opened set bytes read ready is =
    ap (table_unless set) ready.none ∙ ap (λ b. result_map_both (λ n. n) fault.Nfit (nfit_reading b)) (sym ready.read) ∙ ap (result_map_both (λ n. n) fault.Nfit) is

-- the table is refused
pub tells_refused : (set : Images) (result : Result Table LoadFault) (e : LoadFault) (bytes : List ℕ) (r : Result Nfit LoadFault) (read : Result Nfit NfitFault) → result ≡ Err e → r ≡ Err e
    → nfit_reading bytes ≡ read → Answers fault.OutOfMemory r (result_map_both (λ n. n) fault.Nfit (nfit_reading bytes)) → IsOpen set bytes → Tells result set
tells_refused set result e bytes r (Ok nfit) is is' reading told ready =
    tells_err set result e is (λ no_read no_memory.
    absurd (let same : Err e ≡ Ok nfit = sym is' ∙ told (λ h. no_memory (let k : Err e ≡ Err fault.OutOfMemory = sym is' ∙ h in cc)) ∙ ap (result_map_both (λ n. n) fault.Nfit) reading in cc))
tells_refused set result e bytes r (Err refused) is is' reading told ready =
    tells_err set result e is (λ no_read no_memory.
    let same : Err e ≡ Err (fault.Nfit refused) = sym is' ∙ told (λ h. no_memory (let k : Err e ≡ Err fault.OutOfMemory = sym is' ∙ h in cc)) ∙ ap (result_map_both (λ n. n) fault.Nfit) reading in
    let is_nfit : e ≡ fault.Nfit refused = cc in
    opened set bytes (Err refused) ready reading ∙ ap (λ x. Err x) (sym is_nfit))

-- the table is read
pub table_told : (set : Images) (bytes : List ℕ) (nfit : Nfit) → IsOpen set bytes → nfit_reading bytes ≡ Ok nfit → table_reading set ≡ Ok nfit
table_told set bytes nfit ready reading = opened set bytes (Ok nfit) ready reading
