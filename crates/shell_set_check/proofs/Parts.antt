-- The lines of a whole set, from those of its parts.
use Rattle.std.proofs.Common.{◌≡◌, ◌≢◌, ℕ, Bool, true, false, nat_eq, List, [], ◌∷◌, ◌++◌, length, map, Option, Some, Result, Ok, Err, refl, sym, ap, ◌∙◌, subst, arith}
use Rattle.std.specs.Prelude.{IfOk, IsTrue, OnOk}
use Rattle.std.specs.Option.{option_map}
use Rattle.std.proofs.lemmas.Bool.{eqb-true, false≢true}
use Rattle.std.proofs.lemmas.List.{append_assoc}
use Rattle.nvd_media.specs.Images.{Images}
use Rattle.image_set.specs.declared.fault.LoadFault.{LoadFault}
use Rattle.image_set.specs.declared.outline.Outline.{Outline}
use Rattle.image_set.specs.Load.{ImageSet, bytes_kept, loading}
use Rattle.image_set.specs.Outline.{contents_in, image_set_with}
use Rattle.set_objects.specs.declared.objects.SetRead.{SetRead}
use Rattle.set_objects.specs.Objects.{table_reading}
use Rattle.set_objects.specs.Read.{ReadsSet}
use Rattle.set_objects.proofs.Modules.{loaded_is_faultless}
use Rattle.shell_reports.specs.LoadFaults.{load_fault_text}
use Rattle.shell_check.specs.All.{WithContents}
use Rattle.shell_set_check.specs.Text.{fault_line}
use Rattle.shell_set_check.specs.Whole.{arenas_part, lines_by, lines_of, outline_lines, set_lines}

-- ---- whether there is a fault

pub none_at : (faults : List LoadFault) (n : ℕ) → n ≡ length faults → IsTrue (nat_eq n 0) → faults ≡ []
none_at [] n is holds = refl
none_at (f ∷ fs) n is holds = absurd (omega (arith, eqb-true n 0 holds, is))

pub some_at : (faults : List LoadFault) (n : ℕ) → n ≡ length faults → nat_eq n 0 ≡ false → faults ≢ []
some_at faults n is fails = λ none. false≢true (sym fails ∙ ap (λ (k : ℕ). nat_eq k 0) (is ∙ ap length none))

-- ---- of a set whose table is read

module _ (held : Option Images) (x : Images) (at : held ≡ Some x) (read : SetRead) (r : ReadsSet read x) (before middle after : List ℕ)
    (begun : middle ≡ before ++ outline_lines read.outline.nfit read.faults (map (option_map bytes_kept) read.outline.labels) read.outline.bad) where
  lines_are : after ≡ middle ++ arenas_part (loading x) → after ≡ before ++ set_lines x read.outline.nfit
  lines_are said =
      said ∙ ap (λ (ls : List ℕ). ls ++ arenas_part (loading x)) (begun ∙ (λ i. before ++ outline_lines read.outline.nfit (r.faults i) (r.labels i) (r.bad i)))
      ∙ append_assoc before _ (arenas_part (loading x))

  whole_are : (outline : Outline) → outline ≡ read.outline → read.faults ≡ [] → WithContents held outline (λ loaded. after ≡ middle ++ arenas_part (Ok loaded)) → after ≡ middle ++ arenas_part (loading x)
  whole_are outline is none said =
      said x at ∙ ap (λ (o : Outline). middle ++ arenas_part (Ok (image_set_with o (contents_in x (length o.sizes))))) is
      ∙ ap (λ (l : Result ImageSet LoadFault). middle ++ arenas_part l) (sym (r.whole none))

  by_loading : read.faults ≢ [] → ((fault : LoadFault) → after ≡ middle ++ arenas_part (Err fault)) → (l : Result ImageSet LoadFault) → loading x ≡ l → after ≡ middle ++ arenas_part l
  by_loading some said (Ok loaded) is = absurd (some (r.faults ∙ loaded_is_faultless x read.outline.nfit loaded r.table is))
  by_loading some said (Err fault) is = said fault

  pub table_said : {U E : Type 0} (q : Result U E) (outline : Outline) (n : ℕ) (whole : Bool) → outline ≡ read.outline → n ≡ length read.faults → nat_eq n 0 ≡ whole
      → (IsTrue whole → OnOk q (WithContents held outline (λ loaded. after ≡ middle ++ arenas_part (Ok loaded))))
      → (whole ≡ false → OnOk q ((fault : LoadFault) → after ≡ middle ++ arenas_part (Err fault))) → OnOk q (after ≡ before ++ set_lines x read.outline.nfit)
  table_said (Ok u) outline n true is long judged checked unchecked = lines_are (whole_are outline is (none_at read.faults n long judged) (checked refl))
  table_said (Ok u) outline n false is long judged checked unchecked = lines_are (by_loading (some_at read.faults n long judged) (unchecked refl) (loading x) refl)
  table_said (Err e) outline n whole is long judged checked unchecked = tt

-- ---- of any set

-- what holds once memory was found
pub memory_on : {U E F : Type 0} (q : Result U E) (made : Result U F) (P : Type 0) → IfOk q (λ u. made ≡ Ok u) → OnOk made P → OnOk q P
memory_on (Ok u) made P same on = subst (λ (m : Result _ _). OnOk m P) same on
memory_on (Err e) made P same on = tt

pub fault_said : {U E : Type 0} (q : Result U E) (x : Images) (fault : LoadFault) (before after : List ℕ) → table_reading x ≡ Err fault
    → OnOk q (after ≡ before ++ fault_line (load_fault_text fault)) → OnOk q (after ≡ before ++ lines_of x)
fault_said (Ok u) x fault before after is said = said ∙ ap (λ t. before ++ lines_by x t) (sym is)
fault_said (Err e) x fault before after is said = tt

pub set_said : {U E : Type 0} (q : Result U E) (x : Images) (read : SetRead) (before after : List ℕ) → ReadsSet read x
    → OnOk q (after ≡ before ++ set_lines x read.outline.nfit) → OnOk q (after ≡ before ++ lines_of x)
set_said (Ok u) x read before after r said = said ∙ ap (λ t. before ++ lines_by x t) (sym r.table)
set_said (Err e) x read before after r said = tt
