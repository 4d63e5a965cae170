-- What `init` answers, by the area that it found.
use Rattle.std.proofs.Common.{◌≡◌, ◌≢◌, ℕ, zero, suc, ◌<◌, Bool, true, false, List, [], ◌∷◌, Option, Some, None, Result, Ok, Err, length, refl, sym, ◌∙◌, subst, arith}
use Rattle.std.specs.Prelude.{IfOk, slice_index_or}
use Rattle.cut_words.specs.Words.{Words, settled}
use Rattle.cut_words.specs.Fuses.{lasts}
use Rattle.cut_words.specs.WordBytes.{bytes_of}
use Rattle.label_index.specs.declared.index.IndexBlock.{IndexBlock}
use Rattle.label_area.specs.declared.fault.AreaFault.{AreaFault}
use Rattle.label_area.specs.declared.fault.AreaFault.TheVariants.{Unsupported, NoIndex, OutOfMemory, AlreadyInitialised, PowerCut}
use Rattle.label_area.specs.declared.fault.AreaRefused.{AreaRefused}
use Rattle.label_area.specs.Area.{block_in}
use Rattle.label_area.specs.State.{AreaState}
use Rattle.label_area.specs.Initialise.{initial, initialised, initialised_by, init_count}
use Rattle.label_area.proofs.Blocks.{read_fault}
use Rattle.image_set.specs.Load.{ImageSet, bytes_kept}
use Rattle.image_set.specs.Changed.{objects_of, with_area}
use Rattle.shell_reports.specs.declared.status.Ending.TheVariants as ending
use Rattle.shell_reports.specs.declared.power.Power.{Power}
use Rattle.shell_reports.specs.Outcome.{Outcome}
use Rattle.shell_reports.specs.Saved.{IsSaving}
use Rattle.shell_reports.specs.Labels.{fault_outcome, module_outcome}
use Rattle.shell_changes.specs.declared.answer.Answer.{Answer}
use Rattle.shell_changes.specs.Init.{InitArea, InitModule, RefusedArea}
use Rattle.shell_changes.specs.Answers.{outcome_with}
use Rattle.shell_reports.specs.Cut.{cut_text, done_text}

-- a place where something stands is inside
pub inside : {A : Type 0} (xs : List (Option A)) (i : ℕ) (x : A) → slice_index_or xs i None ≡ Some x → i < length xs
inside [] i x is = absurd (let e = is in cc)
inside (o ∷ xs) zero x is = omega arith
inside (o ∷ xs) (suc i) x is = let lt = inside xs i x is in omega arith

-- an area with both blocks has no word pending
settled_by : (values : List ℕ) (fuse : Option ℕ) (area : AreaState) (found : Result IndexBlock AreaFault) → initialised_by values fuse found ≡ Ok area → area.words ≡ settled area.words.kept
settled_by values fuse area (Ok block) is = absurd (let e = is in cc)
settled_by values fuse area (Err NoIndex) is = by (lasts fuse (init_count (length values))) refl is
  where
    by : (b : Bool) → lasts fuse (init_count (length values)) ≡ b → initialised_by values fuse (Err NoIndex) ≡ Ok area → area.words ≡ settled area.words.kept
    by true long e =
        let same : Ok (initial values) ≡ Ok area = rw long at e in
        let one : initial values ≡ area = (let s = same in cc) in
        subst (λ (a : AreaState). a.words ≡ settled a.words.kept) one refl
    by false short e = absurd (let s = rw short at e in cc)
settled_by values fuse area (Err (Unsupported major minor)) is = absurd (let e = is in cc)
settled_by values fuse area (Err OutOfMemory) is = absurd (let e = is in cc)
settled_by values fuse area (Err (AlreadyInitialised seq)) is = absurd (let e = is in cc)
settled_by values fuse area (Err PowerCut) is = absurd (let e = is in cc)

pub area_settled : (values : List ℕ) (fuse : Option ℕ) (area : AreaState) → Ok area ≡ initialised values fuse → area.words ≡ settled area.words.kept
area_settled values fuse area is = settled_by values fuse area (block_in (bytes_of values)) (sym is)

-- a fault that isn't a power cut
pub kept_is : (leaves : ℕ → List (Option Words) → List (Option (List ℕ)) → Type 0) (m : ℕ) (power : Power) (loaded : ImageSet) (words : Words) (outcome : Outcome) (fault : AreaFault) → fault ≢ PowerCut
    → outcome ≡ fault_outcome m fault → RefusedArea leaves m power loaded words fault outcome
kept_is leaves m power loaded words outcome (Unsupported major minor) other is = is
kept_is leaves m power loaded words outcome NoIndex other is = is
kept_is leaves m power loaded words outcome OutOfMemory other is = is
kept_is leaves m power loaded words outcome (AlreadyInitialised seq) other is = is
kept_is leaves m power loaded words outcome PowerCut other is = absurd (other refl)

-- power that is cut has a number of steps
cut_given : (values : List ℕ) (fuse : Option ℕ) (refused : AreaRefused) (found : Result IndexBlock AreaFault) → block_in (bytes_of values) ≡ found → initialised_by values fuse found ≡ Err refused
    → refused.fault ≡ PowerCut → fuse ≢ None
cut_given values fuse refused (Ok block) was is cut none = let same : AlreadyInitialised block.seq ≡ refused.fault = (let e = is in cc) in let e = same ∙ cut in cc
cut_given values fuse refused (Err NoIndex) was is cut none =
    let e : ◌≡◌ {A = Result AreaState AreaRefused} (Ok (initial values)) (Err refused) = subst (λ (f : Option ℕ). initialised_by values f (Err NoIndex) ≡ Err refused) none is in cc
cut_given values fuse refused (Err (Unsupported major minor)) was is cut none = let same : Unsupported major minor ≡ refused.fault = (let e = is in cc) in let e = same ∙ cut in cc
cut_given values fuse refused (Err OutOfMemory) was is cut none = let same : OutOfMemory ≡ refused.fault = (let e = is in cc) in let e = same ∙ cut in cc
cut_given values fuse refused (Err (AlreadyInitialised seq)) was is cut none = let same : AlreadyInitialised seq ≡ refused.fault = (let e = is in cc) in let e = same ∙ cut in cc
cut_given values fuse refused (Err PowerCut) was is cut none = read_fault (bytes_of values) PowerCut was refl

pub init_given : (values : List ℕ) (fuse : Option ℕ) (words : Words) (refused : AreaRefused) (found : Result AreaState AreaRefused) → found ≡ Err refused
    → (found ≢ Err (record { words = words; fault = OutOfMemory }) → found ≡ initialised values fuse) → refused.fault ≡ PowerCut → fuse ≢ None
init_given values fuse words refused found is told cut =
    let finding : found ≢ Err (record { words = words; fault = OutOfMemory }) =
    λ wanting. (let same : refused.fault ≡ OutOfMemory = (let e = sym is ∙ wanting in cc) in let e = sym same ∙ cut in cc) in
    cut_given values fuse refused (block_in (bytes_of values)) refl (sym (told finding) ∙ is) cut

-- ---- what was answered, by what was found

-- a set of which any contents may be copied
module _ (leaves : ℕ → List (Option Words) → List (Option (List ℕ)) → Type 0) (m : ℕ) (power : Power) (set : List (List ℕ) → ImageSet) where
  pub told_ok : {E : Type 0} (r : Result Answer E) (words : Words) (area : AreaState) (found due : Result AreaState AreaRefused)
      → found ≡ Ok area → (found ≢ Err (record { words = words; fault = OutOfMemory }) → found ≡ due)
      → IfOk r (λ answer. (contents : List (List ℕ)) → IsSaving ending.Done done_text (objects_of (with_area (set contents) m (bytes_of area.words.kept))) (outcome_with answer contents))
      → IfOk r (λ answer. (contents : List (List ℕ)) → InitArea leaves m power (set contents) due (outcome_with answer contents))
  told_ok r words area found due is told said =
      let same : Ok area ≡ due = sym is ∙ told (λ wanting. (let e = sym is ∙ wanting in cc)) in
      subst (λ (d : Result AreaState AreaRefused). IfOk r (λ answer. (contents : List (List ℕ)) → InitArea leaves m power (set contents) d (outcome_with answer contents))) same said

  pub told_err : {E : Type 0} (r : Result Answer E) (words : Words) (refused : AreaRefused) (found due : Result AreaState AreaRefused)
      → found ≡ Err refused → (found ≢ Err (record { words = words; fault = OutOfMemory }) → found ≡ due)
      → IfOk r (λ answer. (contents : List (List ℕ)) → RefusedArea leaves m power (set contents) refused.words refused.fault (outcome_with answer contents)) → IfOk r (λ _. refused.fault ≢ OutOfMemory)
      → IfOk r (λ answer. (contents : List (List ℕ)) → InitArea leaves m power (set contents) due (outcome_with answer contents))
  told_err (Ok answer) words refused found due is told said finding =
      let same : Err refused ≡ due = sym is ∙ told (λ wanting. finding (let e = sym is ∙ wanting in cc)) in
      subst (λ (d : Result AreaState AreaRefused). (contents : List (List ℕ)) → InitArea leaves m power (set contents) d (outcome_with answer contents)) same said
  told_err (Err e) words refused found due is told said finding = tt

module _ (leaves : ℕ → List (Option Words) → List (Option (List ℕ)) → Type 0) (m : ℕ) (power : Power) (loaded : ImageSet) where
  -- of a module that has an area
  pub module_some : (outcome : Outcome) (found : Option (List ℕ)) (words : Words) → Some (bytes_kept words) ≡ found
      → InitArea leaves m power loaded (initialised words.kept power.steps) outcome → InitModule leaves m power loaded found outcome
  module_some outcome found words is said = subst (λ (f : Option (List ℕ)). InitModule leaves m power loaded f outcome) is (words.kept, refl, said)

  -- of one that has none
  pub module_none : (outcome : Outcome) (found : Option (List ℕ)) → None ≡ found → outcome ≡ module_outcome m None → InitModule leaves m power loaded found outcome
  module_none outcome found is said = subst (λ (f : Option (List ℕ)). InitModule leaves m power loaded f outcome) is said

  -- a set that is the same once the area is put back
  module _ (rest : ImageSet) (same : (bytes : List ℕ) → with_area rest m bytes ≡ with_area loaded m bytes) (outcome : Outcome) where
    saving : (e : _) (text bytes : List ℕ) → IsSaving e text (objects_of (with_area rest m bytes)) outcome → IsSaving e text (objects_of (with_area loaded m bytes)) outcome
    saving e text bytes said = subst (λ (set : ImageSet). IsSaving e text (objects_of set) outcome) (same bytes) said

    refused_by : (words : Words) (fault : AreaFault) → RefusedArea leaves m power rest words fault outcome → RefusedArea leaves m power loaded words fault outcome
    refused_by words (Unsupported major minor) said = said
    refused_by words NoIndex said = said
    refused_by words OutOfMemory said = said
    refused_by words (AlreadyInitialised seq) said = said
    refused_by words PowerCut (left, steps, given, cut, said) = (left, steps, given, cut, saving ending.PowerCut (cut_text steps) (bytes_of left) said)

    pub answered : (found : Result AreaState AreaRefused) → InitArea leaves m power rest found outcome → InitArea leaves m power loaded found outcome
    answered (Ok area) said = saving ending.Done done_text (bytes_of area.words.kept) said
    answered (Err refused) said = refused_by refused.words refused.fault said
