-- The sizes of one module after another.
use Rattle.std.proofs.Common.{◌≡◌, ℕ, zero, suc, ◌+◌, ◌<◌, ◌≤◌, List, [], ◌∷◌, ◌++◌, length, map, drop, get_or, Option, Some, None, Result, Ok, Err, refl, sym, ap, ◌∙◌, arith}
use Rattle.std.specs.Prelude.{sum}
use Rattle.std.specs.List.{All, range_with_len}
use Rattle.std.proofs.lemmas.List.{length-append, map-append}
use Rattle.std.proofs.lemmas.List.Elements.{All-append}
use Rattle.std.proofs.lemmas.List.Sums.{sum_by-append}
use Rattle.std.proofs.lemmas.List.FromFn.{get_or-range_with_len, length-range_with_len, map-range_with_len_more}
use Rattle.nvd_words.specs.Checks.{first_fault, value_unless}
use Rattle.nvd_media.specs.Images.{Images, bytes_of}
use Rattle.nvd_media.specs.declared.object.Object.TheVariants as object
use Rattle.nfit_reader.proofs.Missing.{here, more, ended}
use Rattle.image_set.specs.declared.fault.LoadFault.{LoadFault}
use Rattle.image_set.specs.declared.sizes.Sizes.{Sizes}
use Rattle.image_set.specs.Limits.{most_contents}
use Rattle.image_set.specs.Load.{module_fault, modules_fault, size_before, AnswersRead}
use Rattle.image_set.specs.Sizes.{sizes_of, contents_of, IsSized, AreSized}
use Rattle.image_set.proofs.Asked.{stopped, passed}

abbrev pub fault_at : Images → ℕ → Option LoadFault
fault_at set m = module_fault set (size_before set m) m

abbrev pub fault_from : Images → ℕ → ℕ → Option LoadFault
fault_from set m count = first_fault (map (fault_at set) (drop m (range_with_len 0 count)))

-- these are the sizes of the first modules of an image set, and the rest decides
pub record Told (set : Images) (all : List Sizes) (m count : ℕ) : Type 0 where
  pub sizes : all ≡ map (sizes_of set) (range_with_len 0 m)
  pub rest : fault_from set m count ≡ modules_fault set count

-- the sizes of the first modules were asked for
pub record Counted (held : Option Images) (all : List Sizes) (before m count : ℕ) : Type 0 where
  pub counted : length all ≡ m
  pub within : m ≤ count
  pub each : All IsSized all
  pub total : sum (contents_of all) ≡ before
  pub few : before ≤ most_contents
  pub told : (set : Images) → held ≡ Some set → Told set all m count

sum_more : (xs : List ℕ) (x : ℕ) → sum (xs ++ x ∷ []) ≡ sum xs + x
sum_more xs x = sum_by-append (λ (y : ℕ). y) xs (x ∷ []) ∙ omega arith

all_none : {X : Type 0} (P : X → Type 0) → All P []
all_none P k d h = absurd (omega arith)

pub all_one : {X : Type 0} (P : X → Type 0) (x : X) → P x → All P (x ∷ [])
all_one P x p zero d h = p
all_one P x p (suc k) d h = absurd (omega arith)

contents_more : (all : List Sizes) (s : Sizes) → sum (contents_of (all ++ s ∷ [])) ≡ sum (contents_of all) + s.contents
contents_more all s = ap sum (map-append (λ (t : Sizes). t.contents) all (s ∷ [])) ∙ sum_more (contents_of all) s.contents

pub contents_by : (set : Images) (modules : List ℕ) → contents_of (map (sizes_of set) modules) ≡ map (λ k. length (bytes_of set (object.Contents k))) modules
contents_by set [] = refl
contents_by set (m ∷ modules) = ap (λ (rest : List ℕ). length (bytes_of set (object.Contents m)) ∷ rest) (contents_by set modules)

-- the sum of the contents so far is that before the next module
before_is : (set : Images) (all : List Sizes) (before m count : ℕ) → Told set all m count → sum (contents_of all) ≡ before → size_before set m ≡ before
before_is set all before m count told total =
    sym (ap sum (ap contents_of told.sizes ∙ contents_by set (range_with_len 0 m))) ∙ total

pub counted_none : (held : Option Images) (count : ℕ) → Counted held [] 0 0 count
unfolding modules_fault
counted_none held count = record {
  counted = refl;
  within = omega arith;
  each = all_none IsSized;
  total = refl;
  few = omega arith;
  told = λ set is. record { sizes = refl; rest = refl };
}

-- the fault of the next module, from what was revealed
next_fault : (set : Images) (all : List Sizes) (before m count : ℕ) → Told set all m count → sum (contents_of all) ≡ before
    → module_fault set before m ≡ fault_at set m
next_fault set all before m count told total = ap (λ b. module_fault set b m) (sym (before_is set all before m count told total))

here_is : (m count : ℕ) → m < count → get_or (range_with_len 0 count) m 0 ≡ m
here_is m count lt = get_or-range_with_len 0 count m 0 lt ∙ omega arith

pub counted_on : (held held' : Option Images) (all : List Sizes) (before m count : ℕ) (s : Sizes) (r : Result Sizes LoadFault) → Counted held all before m count → held' ≡ held → m < count
    → r ≡ Ok s → IsSized s → before + s.contents ≤ most_contents → ((set : Images) → held' ≡ Some set → AnswersRead r (value_unless (sizes_of set m) (module_fault set before m)))
    → Counted held (all ++ s ∷ []) (before + s.contents) (m + 1) count
counted_on held held' all before m count s r c same lt is sized few told = record {
  counted = length-append all (s ∷ []) ∙ omega (arith, c.counted);
  within = omega arith;
  each = All-append IsSized all (s ∷ []) c.each (all_one IsSized s sized);
  total = contents_more all s ∙ omega (arith, c.total);
  few = few;
  told = λ set is_set.
      let was = c.told set is_set in
      let p = passed s (sizes_of set m) (module_fault set before m) r is (told set (same ∙ is_set)) in
      let none : None ≡ fault_at set (get_or (range_with_len 0 count) m 0) =
      sym p.0 ∙ next_fault set all before m count was c.total ∙ ap (fault_at set) (sym (here_is m count lt)) in
      record {
        sizes = ap (λ (front : List Sizes). front ++ s ∷ []) was.sizes ∙ ap (λ (x : Sizes). map (sizes_of set) (range_with_len 0 m) ++ x ∷ []) p.1
            ∙ sym (map-range_with_len_more (sizes_of set) 0 m m (omega arith));
        rest = more (fault_at set) (range_with_len 0 count) m 0 None (omega (arith, length-range_with_len 0 count)) none refl ∙ was.rest;
      };
}

-- a module stops
pub counted_stops : (held held' : Option Images) (all : List Sizes) (before m count : ℕ) (e : LoadFault) (r : Result Sizes LoadFault) (r' : Result (List Sizes) LoadFault)
    → Counted held all before m count → held' ≡ held → m < count → r ≡ Err e → r' ≡ Err e
    → ((set : Images) → held' ≡ Some set → AnswersRead r (value_unless (sizes_of set m) (module_fault set before m)))
    → (set : Images) → held ≡ Some set → AnswersRead r' (value_unless (map (sizes_of set) (range_with_len 0 count)) (modules_fault set count))
counted_stops held held' all before m count e r r' c same lt is is' told set is_set no_read no_memory =
    let was = c.told set is_set in
    let f = stopped e (sizes_of set m) (module_fault set before m) r r' is is' (told set (same ∙ is_set)) no_read no_memory in
    let some : Some e ≡ fault_at set (get_or (range_with_len 0 count) m 0) =
    sym f ∙ next_fault set all before m count was c.total ∙ ap (fault_at set) (sym (here_is m count lt)) in
    let whole : Some e ≡ modules_fault set count =
    here (fault_at set) (range_with_len 0 count) m 0 (Some e) (omega (arith, length-range_with_len 0 count)) some refl ∙ was.rest in
    is' ∙ ap (value_unless (map (sizes_of set) (range_with_len 0 count))) whole

-- no module is left
pub counted_all : (held : Option Images) (all : List Sizes) (before m count : ℕ) (r : Result (List Sizes) LoadFault) → Counted held all before m count → count ≤ m → r ≡ Ok all
    → (set : Images) → held ≡ Some set → r ≡ value_unless (map (sizes_of set) (range_with_len 0 count)) (modules_fault set count)
counted_all held all before m count r c le is set is_set =
    let was = c.told set is_set in
    let end : m ≡ count = let w = c.within in omega arith in
    let none : None ≡ modules_fault set count = ended (fault_at set) (range_with_len 0 count) m (omega (arith, length-range_with_len 0 count)) ∙ was.rest in
    is ∙ ap (λ (xs : List Sizes). Ok xs) (was.sizes ∙ ap (λ n. map (sizes_of set) (range_with_len 0 n)) end) ∙ ap (value_unless (map (sizes_of set) (range_with_len 0 count))) none

pub are_sized : (held : Option Images) (all : List Sizes) (before m count : ℕ) → Counted held all before m count → AreSized all
are_sized held all before m count c = record { each = c.each; total = let t = c.total in let f = c.few in omega arith }
