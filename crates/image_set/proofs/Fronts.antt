-- Writing a set module by module.
use Rattle.std.proofs.Common.{◌≡◌, ℕ, ◌+◌, ◌<◌, Bool, true, false, cond, List, [], length, get_or, Option, Some, None, Result, Ok, refl, sym, ap, ◌∙◌, arith, inl, inr}
use Rattle.std.specs.Prelude.{OnOk, nat_lt, ◌==◌, slice_get}
use Rattle.std.specs.Option.{ForSome, option_map}
use Rattle.std.proofs.lemmas.Bool.{cases_Bool, eqb-true}
use Rattle.std.proofs.lemmas.Bool.Decides.{nat_tests}
use Rattle.std.proofs.lemmas.Option.{slice_get_past, slice_get_read}
use Rattle.std.proofs.lemmas.List.{get_or_past}
use Rattle.nvd_media.specs.declared.object.Object.TheVariants as object
use Rattle.nvd_media.specs.Causes.{HasCause}
use Rattle.nvd_media.specs.Images.{Images, IsEmptySet, IsSameSet, Becomes, Keeps, IsUnfinished, with_more}
use Rattle.nvd_media.proofs.Told.{becomes_then, becomes_told}
use Rattle.cut_words.specs.WordBytes as words
use Rattle.power_cut.specs.declared.leaving.Images.{Images as Left}
use Rattle.image_set.specs.Save.{Adds, HasModules, HasNone, front_of, set_of, with_module, with_some}
use Rattle.image_set.proofs.Adding.{IsAlike, on_ok, on_err, keeps_then, rose_on, some_here, some_other, some_alike, more_alike}

-- the effect on an empty sink
pub record Reaches {T E : Type 0} (made made' kept kept' : Option Images) (faults faults' : ℕ) (result : Result T E) (set : Images) : Type 0 where
  pub told : Becomes made made' (λ was now. IsUnfinished was now × OnOk result (IsSameSet now set))
  pub holds : OnOk result (Keeps kept kept' (λ was now. IsEmptySet was → IsSameSet now set))
  pub cause : HasCause faults faults' result

-- the objects of one more module
module _ (set : Images) (m : ℕ) (area : Option (List ℕ)) (contents : List ℕ) (bad : Option (List ℕ)) where
  abbrev one_area : Images
  one_area = with_some (front_of set m) (object.Labels m) area

  abbrev two : Images
  two = with_some one_area (object.Contents m) (Some contents)

  not_yet : nat_lt m m ≡ false
  not_yet = grind (arith, nat_tests)

  apart_later : (k : ℕ) → (m == k) ≡ false → nat_lt k (m + 1) ≡ nat_lt k m
  apart_later k apart = elim (cases_Bool (nat_lt k m)) [
    | inl below ↦ rw below (grind (arith, nat_tests))
    | inr above ↦ rw above (grind (arith, nat_tests))
  ]

  now_there : nat_lt m (m + 1) ≡ true
  now_there = grind (arith, nat_tests)

  pub front_step : set (object.Labels m) ≡ area → set (object.Contents m) ≡ Some contents → set (object.BadRanges m) ≡ bad
      → IsSameSet (with_module m area contents bad (front_of set m)) (front_of set (m + 1))
  front_step l c b object.Mark = some_other (object.BadRanges m) object.Mark bad two refl ∙ some_other (object.Labels m) object.Mark area (front_of set m) refl
  front_step l c b object.Nfit = some_other (object.BadRanges m) object.Nfit bad two refl ∙ some_other (object.Labels m) object.Nfit area (front_of set m) refl
  front_step l c b (object.Labels k) =
      some_other (object.BadRanges m) (object.Labels k) bad two refl
      ∙ elim (cases_Bool (m == k)) [
        | inl same ↦
            let e : m ≡ k = eqb-true m k same in
            rw (← e) (some_here (object.Labels m) area (front_of set m) (rw not_yet refl) ∙ sym l ∙ rw now_there refl)
        | inr apart ↦ some_other (object.Labels m) (object.Labels k) area (front_of set m) apart ∙ rw (apart_later k apart) refl
      ]
  front_step l c b (object.Contents k) =
      some_other (object.BadRanges m) (object.Contents k) bad two refl
      ∙ elim (cases_Bool (m == k)) [
        | inl same ↦
            let e : m ≡ k = eqb-true m k same in
            rw (← e) (some_here (object.Contents m) (Some contents) one_area (some_other (object.Labels m) (object.Contents m) area (front_of set m) refl ∙ rw not_yet refl) ∙ sym c ∙ rw now_there refl)
        | inr apart ↦
            some_other (object.Contents m) (object.Contents k) (Some contents) one_area apart ∙ some_other (object.Labels m) (object.Contents k) area (front_of set m) refl
            ∙ rw (apart_later k apart) refl
      ]
  front_step l c b (object.BadRanges k) = elim (cases_Bool (m == k)) [
    | inl same ↦
        let e : m ≡ k = eqb-true m k same in
        rw (← e) (some_here (object.BadRanges m) bad two (some_other (object.Labels m) (object.BadRanges m) area (front_of set m) refl ∙ rw not_yet refl) ∙ sym b ∙ rw now_there refl)
    | inr apart ↦
        some_other (object.BadRanges m) (object.BadRanges k) bad two apart ∙ some_other (object.Labels m) (object.BadRanges k) area (front_of set m) refl
        ∙ rw (apart_later k apart) refl
  ]

none_below : (k : ℕ) → nat_lt k 0 ≡ false
none_below k = grind (arith, nat_tests)

-- a module's objects aren't there before they are written
pub front_none : (set : Images) (m : ℕ) (now : Images) → IsSameSet now (front_of set m) → HasNone m now
front_none set m now same = record {
  labels = same (object.Labels m) ∙ rw (not_yet set m None [] None) refl;
  contents = same (object.Contents m) ∙ rw (not_yet set m None [] None) refl;
  ranges = same (object.BadRanges m) ∙ rw (not_yet set m None [] None) refl;
}

pub module_alike : (m : ℕ) (area : Option (List ℕ)) (contents : List ℕ) (bad : Option (List ℕ)) → IsAlike (with_module m area contents bad)
module_alike m area contents bad x y same =
    some_alike (object.BadRanges m) bad (with_more (with_some x (object.Labels m) area) (object.Contents m) contents) (with_more (with_some y (object.Labels m) area) (object.Contents m) contents)
    (more_alike (object.Contents m) contents (with_some x (object.Labels m) area) (with_some y (object.Labels m) area) (some_alike (object.Labels m) area x y same))

-- ---- the effect on a sink

-- one more change
pub reaches_on : {T E U F : Type 0} (m m' m'' k k' k'' : Option Images) (n n' n'' : ℕ) (x : T) (second : Result U F) (set set' : Images) (change : Images → Images)
    → IsAlike change → IsSameSet (change set) set' → Reaches {E = E} m m' k k' n n' (Ok x) set → Adds m' m'' k' k'' n' n'' second change → Reaches m m'' k k'' n n'' second set'
reaches_on m m' m'' k k' k'' n n' n'' x second set set' change alike same one two = record {
  told = becomes_then m m' m'' (λ was now. IsUnfinished was now × IsSameSet now set) (λ was now. IsUnfinished was now × OnOk second (IsSameSet now (change was)))
      (λ was now. IsUnfinished was now × OnOk second (IsSameSet now set'))
      (λ a b c _ r s. (s.0 ∙ r.0, on_ok second (λ is object. is object ∙ alike b set r.1 object ∙ same object) s.1)) one.told two.told;
  holds = on_ok second (λ keeps. keeps_then k k' k'' (λ was now. IsEmptySet was → IsSameSet now set) (λ was now. IsSameSet now (change was)) (λ was now. IsEmptySet was → IsSameSet now set')
      (λ a b c r s empty object. s object ∙ alike b set (r empty) object ∙ same object) one.holds keeps) two.holds;
  cause = record {
    later = let a = one.cause.later in let b = two.cause.later in omega arith;
    failed = on_err second (rose_on n n' n'' one.cause.later) two.cause.failed;
  };
}

pub module_reached : {T E U F : Type 0} (m m' m'' k k' k'' : Option Images) (n n' n'' : ℕ) (x : T) (second : Result U F) (set : Images) (which : ℕ) (area : Option (List ℕ)) (contents : List ℕ) (bad : Option (List ℕ))
    → set (object.Labels which) ≡ area → set (object.Contents which) ≡ Some contents → set (object.BadRanges which) ≡ bad
    → Reaches {E = E} m m' k k' n n' (Ok x) (front_of set which) → Adds m' m'' k' k'' n' n'' second (with_module which area contents bad)
    → Reaches m m'' k k'' n n'' second (front_of set (which + 1))
module_reached m m' m'' k k' k'' n n' n'' x second set which area contents bad l c b one two =
    reaches_on m m' m'' k k' k'' n n' n'' x second (front_of set which) (front_of set (which + 1)) (with_module which area contents bad) (module_alike which area contents bad)
    (front_step set which area contents bad l c b) one two

-- no object of the next module is there
pub reached_none : {T E : Type 0} (m m' k k' : Option Images) (n n' : ℕ) (x : T) (set : Images) (which : ℕ) → Reaches {E = E} m m' k k' n n' (Ok x) (front_of set which) → ForSome m' (HasNone which)
reached_none m m' k k' n n' x set which one now told =
    front_none set which now (becomes_told m m' (λ was now. IsUnfinished was now × IsSameSet now (front_of set which)) now one.told told).2.1

-- ---- the set that is saved

-- an object of a module past the last one
pub none_past : {A : Type 0} (xs : List (Option A)) (k n : ℕ) → length xs ≡ n → nat_lt k n ≡ false → get_or xs k None ≡ None
none_past xs k n is past = get_or_past xs k None (grind (arith, nat_tests))

pub if_same : (b : Bool) (o : Option (List ℕ)) → (b ≡ false → o ≡ None) → cond b o None ≡ o
if_same true o h = refl
if_same false o h = sym (h refl)

-- once the objects of all modules are there, the mark completes the set
pub set_whole : (nfit : List ℕ) (left : Left) (bad : List (Option (List ℕ))) → HasModules left bad
    → IsSameSet (with_more (front_of (set_of nfit left bad) (length left.contents)) object.Mark []) (set_of nfit left bad)
unfolding set_of
set_whole nfit left bad has object.Mark = refl
set_whole nfit left bad has object.Nfit = refl
set_whole nfit left bad has (object.Labels k) =
    if_same (nat_lt k (length left.contents)) (option_map words.bytes_of (get_or left.labels k None))
    (λ past. ap (option_map words.bytes_of) (none_past left.labels k (length left.contents) has.labels past))
set_whole nfit left bad has (object.Contents k) =
    if_same (nat_lt k (length left.contents)) (option_map words.bytes_of (slice_get left.contents k))
    (λ past. ap (option_map words.bytes_of) (slice_get_past left.contents k (grind (arith, nat_tests))))
set_whole nfit left bad has (object.BadRanges k) = if_same (nat_lt k (length left.contents)) (get_or bad k None) (none_past bad k (length left.contents) has.ranges)

-- the mark is written
pub whole_told : (m m' m'' : Option Images) (nfit : List ℕ) (left : Left) (bad : List (Option (List ℕ))) → HasModules left bad
    → Becomes m m' (λ was now. IsUnfinished was now × IsSameSet now (front_of (set_of nfit left bad) (length left.contents)))
    → Becomes m' m'' (λ was now. IsSameSet now (with_more was object.Mark [])) → Becomes m m'' (λ _ now. IsSameSet now (set_of nfit left bad))
whole_told m m' m'' nfit left bad has first then_mark =
    becomes_then m m' m'' (λ was now. IsUnfinished was now × IsSameSet now (front_of (set_of nfit left bad) (length left.contents))) (λ was now. IsSameSet now (with_more was object.Mark []))
    (λ _ now. IsSameSet now (set_of nfit left bad))
    (λ a b c _ r s o. s o ∙ more_alike object.Mark [] b (front_of (set_of nfit left bad) (length left.contents)) r.1 o ∙ set_whole nfit left bad has o) first then_mark

pub whole_kept : (k k' k'' : Option Images) (nfit : List ℕ) (left : Left) (bad : List (Option (List ℕ))) → HasModules left bad
    → Keeps k k' (λ was now. IsEmptySet was → IsSameSet now (front_of (set_of nfit left bad) (length left.contents)))
    → Keeps k' k'' (λ was now. IsSameSet now (with_more was object.Mark [])) → Keeps k k'' (λ was now. IsEmptySet was → IsSameSet now (set_of nfit left bad))
whole_kept k k' k'' nfit left bad has first then_mark =
    keeps_then k k' k'' (λ was now. IsEmptySet was → IsSameSet now (front_of (set_of nfit left bad) (length left.contents))) (λ was now. IsSameSet now (with_more was object.Mark []))
    (λ was now. IsEmptySet was → IsSameSet now (set_of nfit left bad))
    (λ a b c r s empty o. s o ∙ more_alike object.Mark [] b (front_of (set_of nfit left bad) (length left.contents)) (r empty) o ∙ set_whole nfit left bad has o) first then_mark

-- the objects of a module of the lists
pub labels_at : (nfit : List ℕ) (left : Left) (bad : List (Option (List ℕ))) (m : ℕ) (area : Option (List ℕ)) → area ≡ get_or left.labels m None
    → set_of nfit left bad (object.Labels m) ≡ option_map words.bytes_of area
unfolding set_of
labels_at nfit left bad m area is = ap (option_map words.bytes_of) (sym is)

pub contents_here : (nfit : List ℕ) (left : Left) (bad : List (Option (List ℕ))) (m : ℕ) (row : List ℕ) → m < length left.contents → row ≡ get_or left.contents m row
    → set_of nfit left bad (object.Contents m) ≡ Some (words.bytes_of row)
unfolding set_of
contents_here nfit left bad m row lt is = ap (option_map words.bytes_of) (slice_get_read left.contents (length left.contents) m row refl lt is)

pub ranges_at : (nfit : List ℕ) (left : Left) (bad : List (Option (List ℕ))) (m : ℕ) (ranges : Option (List ℕ)) → ranges ≡ get_or bad m None
    → set_of nfit left bad (object.BadRanges m) ≡ ranges
unfolding set_of
ranges_at nfit left bad m ranges is = sym is

becomes_where : {R S : Images → Images → Type 0} (a b : Option Images) → ((x y : Images) → a ≡ Some x → R x y → S x y) → Becomes a b R → Becomes a b S
becomes_where None b h r = r
becomes_where (Some x) b h r = (r.0, r.1, h x r.0 refl r.2)

table_front : (nfit : List ℕ) (left : Left) (bad : List (Option (List ℕ))) (set : Images) → IsEmptySet set
    → IsSameSet (with_more set object.Nfit nfit) (front_of (set_of nfit left bad) 0)
unfolding set_of
table_front nfit left bad set empty object.Mark = empty object.Mark
table_front nfit left bad set empty object.Nfit = rw (empty object.Nfit) refl
table_front nfit left bad set empty (object.Labels k) = empty (object.Labels k) ∙ rw (none_below k) refl
table_front nfit left bad set empty (object.Contents k) = empty (object.Contents k) ∙ rw (none_below k) refl
table_front nfit left bad set empty (object.BadRanges k) = empty (object.BadRanges k) ∙ rw (none_below k) refl

-- the table alone
pub table_reached : {T E : Type 0} (m m' k k' : Option Images) (n n' : ℕ) (result : Result T E) (nfit : List ℕ) (left : Left) (bad : List (Option (List ℕ))) → ForSome m IsEmptySet
    → Adds m m' k k' n n' result (λ set. with_more set object.Nfit nfit) → Reaches m m' k k' n n' result (front_of (set_of nfit left bad) 0)
table_reached m m' k k' n n' result nfit left bad empty adds = record {
  told = becomes_where m m' (λ a b e r. (r.0, on_ok result (λ is object. is object ∙ table_front nfit left bad a (empty a e) object) r.1)) adds.told;
  holds = on_ok result (λ keeps now told. let p = keeps now told in (p.0, p.1, λ none object. p.2 object ∙ table_front nfit left bad p.0 none object)) adds.holds;
  cause = adds.cause;
}
