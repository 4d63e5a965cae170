-- The firmware's table, and what loading makes of it.
use Rattle.std.proofs.Common.{◌≡◌, [], ◌∷◌, length, Option, Some, None, Result, Ok, Err, refl, ap, ◌∙◌}
use Rattle.std.specs.Result.{result_map_both}
use Rattle.nvd_words.specs.Checks.{first_fault, value_unless}
use Rattle.nvd_media.specs.declared.object.Object.TheVariants as object
use Rattle.nvd_media.specs.Images.{Images, bytes_of}
use Rattle.nfit_reader.specs.declared.table.Nfit.{Nfit}
use Rattle.nfit_reader.specs.declared.table.NfitFault.{NfitFault}
use Rattle.nfit_reader.specs.Table.{nfit_reading}
use Rattle.image_set.specs.declared.fault.LoadFault.{LoadFault}
use Rattle.image_set.specs.declared.fault.LoadFault.TheVariants as fault
use Rattle.image_set.specs.Load.{ImageSet, image_set_of, loading, mappings_fault, modules_fault, table_fault, unless_fault, with_table}
use Rattle.set_objects.specs.Objects.{table_reading, table_unless}

-- the mark and the table are there, and the table is read
pub record IsOpen (set : Images) (nfit : Nfit) : Type 0 where
  pub none : table_fault set ≡ None
  pub reading : nfit_reading (bytes_of set object.Nfit) ≡ Ok nfit

reading_ok : (r : Result Nfit NfitFault) (nfit : Nfit) → result_map_both (λ n. n) fault.Nfit r ≡ Ok nfit → r ≡ Ok nfit
reading_ok (Ok n) nfit is = let same : n ≡ nfit = cc in ap (λ m. Ok m) same
reading_ok (Err f) nfit is = absurd (cc)

open_by : (set : Images) (nfit : Nfit) (f : Option LoadFault) → table_fault set ≡ f → table_unless set f ≡ Ok nfit → IsOpen set nfit
open_by set nfit None none is = record { none = none; reading = reading_ok (nfit_reading (bytes_of set object.Nfit)) nfit is }
open_by set nfit (Some f) none is = absurd (cc)

pub opened : (set : Images) (nfit : Nfit) → table_reading set ≡ Ok nfit → IsOpen set nfit
unfolding table_reading
opened set nfit is = open_by set nfit (table_fault set) refl is

pub reading_open : (set : Images) (nfit : Nfit) → IsOpen set nfit → table_reading set ≡ Ok nfit
unfolding table_reading
reading_open set nfit ready = ap (table_unless set) ready.none ∙ ap (result_map_both (λ n. n) fault.Nfit) ready.reading

-- loading goes on with the modules' objects
abbrev pub set_unless : Images → Nfit → Option LoadFault → Result ImageSet LoadFault
set_unless set nfit f = value_unless (image_set_of set nfit) f

pub loading_open : (set : Images) (nfit : Nfit) → table_reading set ≡ Ok nfit
    → loading set ≡ set_unless set nfit (first_fault (modules_fault set (length nfit.modules) ∷ mappings_fault set nfit.regions ∷ []))
unfolding loading
loading_open set nfit is =
    let ready = opened set nfit is in
    ap (unless_fault set) ready.none ∙ ap (with_table set) ready.reading

-- loading stops at the table
refused : (set : Images) (f : LoadFault) (r : Result Nfit NfitFault) → result_map_both (λ n. n) fault.Nfit r ≡ Err f → with_table set r ≡ Err f
refused set f (Ok n) is = absurd (cc)
refused set f (Err e) is = let same : fault.Nfit e ≡ f = cc in ap (λ x. Err x) same

closed_by : (set : Images) (f : LoadFault) (t : Option LoadFault) → table_unless set t ≡ Err f → unless_fault set t ≡ Err f
closed_by set f None is = refused set f (nfit_reading (bytes_of set object.Nfit)) is
closed_by set f (Some e) is = let same : e ≡ f = cc in ap (λ x. Err x) same

pub loading_closed : (set : Images) (f : LoadFault) → table_reading set ≡ Err f → loading set ≡ Err f
unfolding table_reading loading
loading_closed set f is = closed_by set f (table_fault set) is
