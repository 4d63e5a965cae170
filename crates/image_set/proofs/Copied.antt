-- Objects that are copied to a set one by one.
use Rattle.std.proofs.Common.{◌≡◌, ℕ, ◌+◌, ◌<◌, false, cond, List, [], ◌∷◌, ◌++◌, length, take, drop, get_or, Option, Some, None, Result, Ok, Err, refl, sym, ap, ◌∙◌, arith, inl, inr}
use Rattle.std.specs.Prelude.{OnOk, nat_lt, slice_get}
use Rattle.std.specs.Option.{ForSome, option_map}
use Rattle.std.specs.List.{range_with_len}
use Rattle.std.proofs.lemmas.Bool.{cases_Bool}
use Rattle.std.proofs.lemmas.Bool.Decides.{nat_tests}
use Rattle.std.proofs.lemmas.List.{get_or_push, get_or_append_left, length_push, length-append, map_push, take_all, take_more}
use Rattle.std.proofs.lemmas.List.Elements.{All-append}
use Rattle.std.proofs.lemmas.List.FromFn.{get_or-map-range_with_len}
use Rattle.std.proofs.lemmas.Option.{slice_get_past, slice_get-get_or}
use Rattle.std.proofs.Math.Seq.{take-add}
use Rattle.std.proofs.lemmas.Simd.{map-map}
use Rattle.nvd_words.specs.Bytes.{AreBytes}
use Rattle.nvd_words.proofs.ByteLists.{both_bytes}
use Rattle.nvd_media.specs.declared.object.Object.{Object}
use Rattle.nvd_media.specs.declared.object.Object.TheVariants as object
use Rattle.nvd_media.specs.Images.{Images, IsEmptySet, IsSameSet, Becomes, Keeps, IsUnfinished, is_object, bytes_of as bytes_in, with_more}
use Rattle.nvd_media.proofs.Told.{becomes_here, becomes_then, becomes_told}
use Rattle.cut_words.specs.WordBytes.{bytes_of}
use Rattle.image_set.specs.declared.changing.OutlineLeft.{OutlineLeft}
use Rattle.image_set.specs.Outline.{Copies, CopiesRow, CopiesModule, CopiesFront, CopiesSet, HasContents, IsCopyable, PatchesSet, contents_in, objects_with}
use Rattle.image_set.specs.Patches.{patched_row}
use Rattle.image_set.specs.Save.{Adds, HasNone, front_of, with_module, with_some}
use Rattle.image_set.proofs.Adding.{IsAlike, on_ok, keeps_then, becomes_mono, bytes_added, more_alike, more_twice, some_alike, some_other}
use Rattle.image_set.proofs.Filled.{list_on}
use Rattle.image_set.proofs.Fronts.{front_none, front_step, if_same, module_alike, none_past}
use Rattle.image_set.proofs.Patched.{contents_by, row_append, row_long, same_contents}
use Rattle.image_set.proofs.Counting.{all_one}

-- ---- the effect on a sink

-- words that are written count as copied
pub copies_of : {T E U F : Type 0} (m m' k k' : Option Images) (n n' : ℕ) (x : T) (f : Images → Images) → (y : U) → Adds {E = E} m m' k k' n n' (Ok x) f → Copies {E = F} m m' k k' (Ok y) f
copies_of m m' k k' n n' x f y adds = record { told = adds.told; holds = adds.holds }

pub copies_of_err : {T E U F : Type 0} (m m' k k' : Option Images) (n n' : ℕ) (e : E) (f g : Images → Images) → (e' : F) → Adds {T = T} m m' k k' n n' (Err e) f → Copies {T = U} m m' k k' (Err e') g
copies_of_err m m' k k' n n' e f g e' adds = record { told = becomes_mono m m' (λ a b r. (r.0, tt)) adds.told; holds = tt }

pub copies_then : {T E U F : Type 0} (m m' m'' k k' k'' : Option Images) (x : T) (second : Result U F) (f g : Images → Images) → IsAlike g
    → Copies {E = E} m m' k k' (Ok x) f → Copies m' m'' k' k'' second g → Copies m m'' k k'' second (λ set. g (f set))
copies_then m m' m'' k k' k'' x second f g alike one two = record {
  told = becomes_then m m' m'' (λ set now. IsUnfinished set now × IsSameSet now (f set)) (λ set now. IsUnfinished set now × OnOk second (IsSameSet now (g set)))
      (λ set now. IsUnfinished set now × OnOk second (IsSameSet now (g (f set))))
      (λ a b c _ r s. (s.0 ∙ r.0, on_ok second (λ same object. same object ∙ alike b (f a) r.1 object) s.1)) one.told two.told;
  holds = on_ok second (λ keeps. keeps_then k k' k'' (λ set now. IsSameSet now (f set)) (λ set now. IsSameSet now (g set)) (λ set now. IsSameSet now (g (f set)))
      (λ a b c r s object. s object ∙ alike b (f a) r object) one.holds keeps) two.holds;
}

pub copies_as : {T E : Type 0} (m m' k k' : Option Images) (result : Result T E) (f g : Images → Images) → ((set : Images) → IsSameSet (f set) (g set))
    → Copies m m' k k' result f → Copies m m' k k' result g
copies_as m m' k k' result f g same copies = record {
  told = becomes_mono m m' (λ a b r. (r.0, on_ok result (λ is object. is object ∙ same a object) r.1)) copies.told;
  holds = on_ok result (λ keeps now told. let p = keeps now told in (p.0, p.1, λ object. p.2 object ∙ same p.0 object)) copies.holds;
}

-- after a fault nothing is known of what was copied
pub copies_fault : {T E U F : Type 0} (m m' k k' : Option Images) (e : E) (e' : F) (f g : Images → Images) → Copies {T = T} m m' k k' (Err e) f → Copies {T = U} m m' k k' (Err e') g
copies_fault m m' k k' e e' f g copies = record { told = becomes_mono m m' (λ a b r. (r.0, tt)) copies.told; holds = tt }

-- no call was made on the sink
pub copies_stay : {U F : Type 0} (m k : Option Images) (e : F) (g : Images → Images) → Copies {T = U} m m k k (Err e) g
copies_stay m k e g = record { told = becomes_here m (λ set now. IsUnfinished set now × Unit {0}) (λ set _. (refl, tt)); holds = tt }

-- ---- rows

-- bytes that were read and then written
pub row_copied : {T E : Type 0} (f : ℕ → ℕ → ℕ → ℕ) (held : Option Images) (m at count : ℕ) (s s' k k' : Option Images) (x : T) (row : List ℕ) → length row ≡ count → AreBytes row
    → ForSome held (λ source. row ≡ patched_row f m at (take count (drop at (bytes_in source (object.Contents m)))))
    → Becomes s s' (λ set now. IsUnfinished set now × IsSameSet now (with_more set (object.Contents m) row)) → Keeps k k' (λ set now. IsSameSet now (with_more set (object.Contents m) row))
    → CopiesRow {E = E} f held m at count s s' k k' (Ok x)
row_copied f held m at count s s' k k' x row long fit read told holds = record { row = row; long = long; read = read; fit = fit; copies = record { told = told; holds = holds } }

-- bytes whose copying stopped
pub row_stopped : {T E : Type 0} (f : ℕ → ℕ → ℕ → ℕ) (held : Option Images) (m at count : ℕ) (s s' k k' : Option Images) (e : E)
    → Becomes s s' (λ set now. IsUnfinished set now × Unit {0}) → CopiesRow {T = T} f held m at count s s' k k' (Err e)
row_stopped f held m at count s s' k k' e told = record { row = []; long = tt; read = tt; fit = tt; copies = record { told = told; holds = tt } }

pub row_fault : {T U E F : Type 0} (f : ℕ → ℕ → ℕ → ℕ) (held : Option Images) (m at count at' count' : ℕ) (s s' k k' : Option Images) (e : E) (e' : F)
    → CopiesRow {T = T} f held m at count s s' k k' (Err e) → CopiesRow {T = U} f held m at' count' s s' k k' (Err e')
row_fault f held m at count at' count' s s' k k' e e' one =
    record { row = one.row; long = tt; read = tt; fit = tt; copies = copies_fault s s' k k' e e' (λ set. with_more set (object.Contents m) one.row) (λ set. with_more set (object.Contents m) one.row) one.copies }

-- the next bytes
pub row_more : {T E U F : Type 0} (f : ℕ → ℕ → ℕ → ℕ) (held : Option Images) (m at count : ℕ) (s s' s'' k k' k'' : Option Images) (x : T) (second : Result U F)
    → CopiesRow {E = E} f held m 0 at s s' k k' (Ok x) → CopiesRow f held m at count s' s'' k' k'' second → CopiesRow f held m 0 (at + count) s s'' k k'' second
row_more f held m at count s s' s'' k k' k'' x second one two = record {
  row = one.row ++ two.row;
  long = on_ok second (λ long. length-append one.row two.row ∙ ap (λ n. n + length two.row) one.long ∙ ap (λ n. at + n) long) two.long;
  read = on_ok second (λ read source told.
      let bytes : List ℕ = bytes_in source (object.Contents m) in
      let front : List ℕ = take at bytes in
      let past : List ℕ = take count (drop at bytes) in
      let long : length front ≡ at = sym (row_long f m 0 front) ∙ sym (ap length (one.read source told)) ∙ one.long in
      let next : at ≡ 0 + length front = omega (arith, long) in
      ap (λ xs. xs ++ two.row) (one.read source told) ∙ ap (λ xs. patched_row f m 0 front ++ xs) (read source told)
      ∙ ap (λ n. patched_row f m 0 front ++ patched_row f m n past) next ∙ row_append f m 0 front past ∙ ap (λ xs. patched_row f m 0 xs) (sym (take-add at count bytes))) two.read;
  fit = on_ok second (λ fit. both_bytes one.row two.row one.fit fit) two.fit;
  copies = copies_as s s'' k k'' second (λ set. with_more (with_more set (object.Contents m) one.row) (object.Contents m) two.row) (λ set. with_more set (object.Contents m) (one.row ++ two.row))
      (λ set. more_twice (object.Contents m) one.row two.row set)
      (copies_then s s' s'' k k' k'' x second (λ set. with_more set (object.Contents m) one.row) (λ set. with_more set (object.Contents m) two.row) (more_alike (object.Contents m) two.row) one.copies two.copies);
}

-- with another result, and an equal count
pub row_as : {T E U F : Type 0} (f : ℕ → ℕ → ℕ → ℕ) (held : Option Images) (m count count' : ℕ) (s s' k k' : Option Images) (x : T) (y : U) → count ≡ count'
    → CopiesRow {E = E} f held m 0 count s s' k k' (Ok x) → CopiesRow {E = F} f held m 0 count' s s' k k' (Ok y)
row_as f held m count count' s s' k k' x y same one = record {
  row = one.row;
  long = one.long ∙ same;
  read = λ source told. one.read source told ∙ ap (λ n. patched_row f m 0 (take n (bytes_in source (object.Contents m)))) same;
  fit = one.fit;
  copies = record { told = one.copies.told; holds = one.copies.holds };
}

-- the start of the next bytes
pub row_ends : {T E : Type 0} (f : ℕ → ℕ → ℕ → ℕ) (held : Option Images) (m count : ℕ) (s s' k k' : Option Images) (x : T) → ForSome s (λ set. set (object.Contents m) ≡ None)
    → CopiesRow {E = E} f held m 0 count s s' k k' (Ok x) → ForSome s' (λ set. count ≡ length (bytes_in set (object.Contents m)))
row_ends f held m count s s' k k' x absent one now told =
    let p = becomes_told s s' (λ set now. IsUnfinished set now × IsSameSet now (with_more set (object.Contents m) one.row)) now one.copies.told told in
    sym one.long ∙ sym (ap length (bytes_added (object.Contents m) one.row p.0 now (absent p.0 p.1) p.2.1))

-- another object that was absent still is
pub absent_from : {T E : Type 0} (f : ℕ → ℕ → ℕ → ℕ) (held : Option Images) (m : ℕ) (other : Object) (count : ℕ) (s s' k k' : Option Images) (x : T) → is_object (object.Contents m) other ≡ false
    → ForSome s (λ set. set other ≡ None) → CopiesRow {E = E} f held m 0 count s s' k k' (Ok x) → ForSome s' (λ set. set other ≡ None)
absent_from f held m other count s s' k k' x apart absent one now told =
    let p = becomes_told s s' (λ set now. IsUnfinished set now × IsSameSet now (with_more set (object.Contents m) one.row)) now one.copies.told told in
    p.2.1 other ∙ some_other (object.Contents m) other (Some one.row) p.0 apart ∙ absent p.0 p.1

-- ---- modules

pub module_copied : {T E U F V G : Type 0} (f : ℕ → ℕ → ℕ → ℕ) (held : Option Images) (which : ℕ) (area : Option (List ℕ)) (count : ℕ) (bad : Option (List ℕ)) (m0 m1 m2 m3 k0 k1 k2 k3 : Option Images) (x : T) (y : U) (third : Result V G)
    → ForSome held (λ source. length (bytes_in source (object.Contents which)) ≡ count)
    → Copies {E = E} m0 m1 k0 k1 (Ok x) (λ set. with_some set (object.Labels which) area) → CopiesRow {E = F} f held which 0 count m1 m2 k1 k2 (Ok y)
    → Copies m2 m3 k2 k3 third (λ set. with_some set (object.BadRanges which) bad) → CopiesModule f held which area count bad m0 m3 k0 k3 third
module_copied f held which area count bad m0 m1 m2 m3 k0 k1 k2 k3 x y third there one two three =
    let labels : Images → Images = λ set. with_some set (object.Labels which) area in
    let contents : Images → Images = λ set. with_more set (object.Contents which) two.row in
    let ranges : Images → Images = λ set. with_some set (object.BadRanges which) bad in
    record {
      row = two.row;
      long = on_ok_of third two.long;
      read = on_ok_of third (λ source told.
          two.read source told ∙ ap (λ xs. patched_row f which 0 xs) (take_all count (bytes_in source (object.Contents which)) (let e = there source told in omega arith)));
      fit = on_ok_of third two.fit;
      copies = copies_then m0 m2 m3 k0 k2 k3 y third (λ set. contents (labels set)) ranges (some_alike (object.BadRanges which) bad)
          (copies_then m0 m1 m2 k0 k1 k2 x (Ok y) labels contents (more_alike (object.Contents which) two.row) one two.copies) three;
    }
  where
    on_ok_of : {V G P : Type 0} (r : Result V G) → P → OnOk r P
    on_ok_of (Ok x) p = p
    on_ok_of (Err e) p = tt

-- a module that stopped
pub module_stopped : {T E : Type 0} (f : ℕ → ℕ → ℕ → ℕ) (held : Option Images) (which : ℕ) (area : Option (List ℕ)) (count : ℕ) (bad : Option (List ℕ)) (m m' k k' : Option Images) (e : E)
    → Becomes m m' (λ set now. IsUnfinished set now × Unit {0}) → CopiesModule {T = T} f held which area count bad m m' k k' (Err e)
module_stopped f held which area count bad m m' k k' e told = record { row = []; long = tt; read = tt; fit = tt; copies = record { told = told; holds = tt } }

-- steps of which the last one stopped
pub stopped_then : (m m' m'' : Option Images) (R S : Images → Images → Type 0) → ((x y : Images) → R x y → IsUnfinished x y) → ((x y : Images) → S x y → IsUnfinished x y)
    → Becomes m m' R → Becomes m' m'' S → Becomes m m'' (λ set now. IsUnfinished set now × Unit {0})
stopped_then m m' m'' R S f g one two = becomes_then m m' m'' R S (λ set now. IsUnfinished set now × Unit {0}) (λ a b c _ r s. (g b c s ∙ f a b r, tt)) one two

-- ---- the front of a set

-- one more module's contents change nothing of the modules before it
front_kept : (left : OutlineLeft) (contents : List (List ℕ)) (row : List ℕ) (m : ℕ) → length contents ≡ m
    → IsSameSet (front_of (objects_with left contents) m) (front_of (objects_with left (contents ++ row ∷ [])) m)
front_kept left contents row m long object.Mark = refl
front_kept left contents row m long object.Nfit = refl
front_kept left contents row m long (object.Labels k) = refl
front_kept left contents row m long (object.BadRanges k) = refl
front_kept left contents row m long (object.Contents k) = elim (cases_Bool (nat_lt k m)) [
  | inl below ↦
      let lt : k < length contents = grind (arith, nat_tests, long, below) in
      let more : k < length (contents ++ row ∷ []) = omega (arith, lt, length_push contents row) in
      ap (λ found. cond (nat_lt k m) found None)
      (slice_get-get_or contents k [] lt ∙ sym (ap (λ x. Some x) (get_or_append_left contents (row ∷ []) [] k lt)) ∙ sym (slice_get-get_or (contents ++ row ∷ []) k [] more))
  | inr above ↦ rw above refl
]

contents_last : (contents : List (List ℕ)) (row : List ℕ) (m : ℕ) → length contents ≡ m → slice_get (contents ++ row ∷ []) m ≡ Some row
contents_last contents row m long =
    slice_get-get_or (contents ++ row ∷ []) m [] (omega (arith, long, length_push contents row)) ∙ ap (λ x. Some x) (get_or_push contents row [] m long)

-- the objects of one more module
pub front_more : {T E U F : Type 0} (f : ℕ → ℕ → ℕ → ℕ) (held : Option Images) (left : OutlineLeft) (m : ℕ) (area : Option (List ℕ)) (count : ℕ) (bad : Option (List ℕ)) (m0 m1 m2 k0 k1 k2 : Option Images) (x : T) (second : Result U F)
    → m < length left.sizes → area ≡ option_map bytes_of (get_or left.labels m None) → count ≡ get_or left.sizes m 0 → bad ≡ get_or left.bad m None
    → CopiesFront {E = E} f held left m m0 m1 k0 k1 (Ok x) → CopiesModule f held m area count bad m1 m2 k1 k2 second → CopiesFront f held left (m + 1) m0 m2 k0 k2 second
front_more f held left m area count bad m0 m1 m2 k0 k1 k2 x second lt labels sizes ranges one two =
    let after : List (List ℕ) = one.contents ++ two.row ∷ [] in
    let step : (was : Images) → IsSameSet was (front_of (objects_with left one.contents) m) → IsSameSet (with_module m area two.row bad was) (front_of (objects_with left after) (m + 1)) =
    (λ was same o.
    module_alike m area two.row bad was (front_of (objects_with left after) m) (λ p. same p ∙ front_kept left one.contents two.row m one.count p) o
    ∙ front_step (objects_with left after) m area two.row bad (sym labels) (contents_last one.contents two.row m one.count) (sym ranges) o) in
    record {
      contents = after;
      count = on_ok second (λ _. length_push one.contents two.row ∙ ap (λ n. n + 1) one.count) two.long;
      sized = on_ok second (λ long.
          map_push (λ (row : List ℕ). length row) one.contents two.row ∙ ap (λ xs. xs ++ length two.row ∷ []) one.sized
          ∙ ap (λ n. take m left.sizes ++ n ∷ []) (long ∙ sizes) ∙ sym (take_more left.sizes m 0 lt)) two.long;
      read = on_ok second (λ read source told.
          let bytes : ℕ → List ℕ = λ k. bytes_in source (object.Contents k) in
          list_on (λ (k : ℕ). patched_row f k 0 (bytes k)) one.contents two.row m (one.read source told ∙ contents_by f bytes m) (read source told) ∙ sym (contents_by f bytes (m + 1))) two.read;
      fit = on_ok second (λ fit. All-append AreBytes one.contents (two.row ∷ []) one.fit (all_one AreBytes two.row fit)) two.fit;
      told = becomes_then m0 m1 m2 (λ was now. IsUnfinished was now × IsSameSet now (front_of (objects_with left one.contents) m)) (λ was now. IsUnfinished was now × OnOk second (IsSameSet now (with_module m area two.row bad was)))
          (λ was now. IsUnfinished was now × OnOk second (IsSameSet now (front_of (objects_with left after) (m + 1))))
          (λ a b c _ r s. (s.0 ∙ r.0, on_ok second (λ is o. is o ∙ step b r.1 o) s.1)) one.told two.copies.told;
      holds = on_ok second (λ keeps. keeps_then k0 k1 k2 (λ was now. IsEmptySet was → IsSameSet now (front_of (objects_with left one.contents) m)) (λ was now. IsSameSet now (with_module m area two.row bad was))
          (λ was now. IsEmptySet was → IsSameSet now (front_of (objects_with left after) (m + 1)))
          (λ a b c r s empty o. s o ∙ step b (r empty) o) one.holds keeps) two.copies.holds;
    }

pub front_stopped : {T E : Type 0} (f : ℕ → ℕ → ℕ → ℕ) (held : Option Images) (left : OutlineLeft) (m : ℕ) (m0 m1 k0 k1 : Option Images) (e : E)
    → Becomes m0 m1 (λ set now. IsUnfinished set now × Unit {0}) → CopiesFront {T = T} f held left m m0 m1 k0 k1 (Err e)
front_stopped f held left m m0 m1 k0 k1 e told = record { contents = []; count = tt; sized = tt; read = tt; fit = tt; told = told; holds = tt }

-- no object of the next module is there
pub front_lacks : {T E : Type 0} (f : ℕ → ℕ → ℕ → ℕ) (held : Option Images) (left : OutlineLeft) (m : ℕ) (m0 m1 k0 k1 : Option Images) (x : T) → CopiesFront {E = E} f held left m m0 m1 k0 k1 (Ok x) → ForSome m1 (HasNone m)
front_lacks f held left m m0 m1 k0 k1 x one now told =
    front_none (objects_with left one.contents) m now (becomes_told m0 m1 (λ was now. IsUnfinished was now × IsSameSet now (front_of (objects_with left one.contents) m)) now one.told told).2.1

none_below : (k : ℕ) → nat_lt k 0 ≡ false
none_below k = grind (arith, nat_tests)

table_first : (left : OutlineLeft) (set : Images) → IsEmptySet set → IsSameSet (with_more set object.Nfit left.nfit) (front_of (objects_with left []) 0)
table_first left set empty object.Mark = empty object.Mark
table_first left set empty object.Nfit = rw (empty object.Nfit) refl
table_first left set empty (object.Labels k) = empty (object.Labels k) ∙ rw (none_below k) refl
table_first left set empty (object.Contents k) = empty (object.Contents k) ∙ rw (none_below k) refl
table_first left set empty (object.BadRanges k) = empty (object.BadRanges k) ∙ rw (none_below k) refl

becomes_empty : {R S : Images → Images → Type 0} (a b : Option Images) → ForSome a IsEmptySet → ((x y : Images) → IsEmptySet x → R x y → S x y) → Becomes a b R → Becomes a b S
becomes_empty None b empty h r = r
becomes_empty (Some x) b empty h r = (r.0, r.1, h x r.0 (empty x refl) r.2)

-- the table alone
pub front_table : {T E : Type 0} (f : ℕ → ℕ → ℕ → ℕ) (held : Option Images) (left : OutlineLeft) (m0 m1 k0 k1 : Option Images) (x : T) → ForSome m0 IsEmptySet
    → Becomes m0 m1 (λ set now. IsUnfinished set now × IsSameSet now (with_more set object.Nfit left.nfit)) → Keeps k0 k1 (λ set now. IsSameSet now (with_more set object.Nfit left.nfit))
    → CopiesFront {E = E} f held left 0 m0 m1 k0 k1 (Ok x)
front_table f held left m0 m1 k0 k1 x empty told holds = record {
  contents = [];
  count = refl;
  sized = refl;
  read = λ source told'. refl;
  fit = λ k d lt. absurd (omega arith);
  told = becomes_empty m0 m1 empty (λ a b none r. (r.0, λ o. r.1 o ∙ table_first left a none o)) told;
  holds = λ now told'. let p = holds now told' in (p.0, p.1, λ none o. p.2 o ∙ table_first left p.0 none o);
}

-- ---- the whole set

set_whole : (left : OutlineLeft) (contents : List (List ℕ)) (n : ℕ) → IsCopyable left → n ≡ length left.sizes → length contents ≡ n
    → IsSameSet (with_more (front_of (objects_with left contents) n) object.Mark []) (objects_with left contents)
set_whole left contents n has is long object.Mark = refl
set_whole left contents n has is long object.Nfit = refl
set_whole left contents n has is long (object.Labels k) =
    if_same (nat_lt k n) (option_map bytes_of (get_or left.labels k None)) (λ past. ap (option_map bytes_of) (none_past left.labels k n (has.labels ∙ sym is) past))
set_whole left contents n has is long (object.Contents k) =
    if_same (nat_lt k n) (slice_get contents k) (λ past. slice_get_past contents k (grind (arith, nat_tests, long, past)))
set_whole left contents n has is long (object.BadRanges k) = if_same (nat_lt k n) (get_or left.bad k None) (none_past left.bad k n (has.bad ∙ sym is))

-- the mark is written
pub set_copied : {T E U F : Type 0} (f : ℕ → ℕ → ℕ → ℕ) (held : Option Images) (left : OutlineLeft) (m0 m1 m2 k0 k1 k2 : Option Images) (x : T) (y : U) → IsCopyable left
    → CopiesFront {E = E} f held left (length left.sizes) m0 m1 k0 k1 (Ok x)
    → Becomes m1 m2 (λ set now. IsSameSet now (with_more set object.Mark [])) → Keeps k1 k2 (λ set now. IsSameSet now (with_more set object.Mark []))
    → PatchesSet {E = F} f held left m0 m2 k0 k2 (Ok y)
set_copied f held left m0 m1 m2 k0 k1 k2 x y has one mark marked =
    let n : ℕ = length left.sizes in
    let whole : (was : Images) → IsSameSet was (front_of (objects_with left one.contents) n) → IsSameSet (with_more was object.Mark []) (objects_with left one.contents) =
    (λ was same o. more_alike object.Mark [] was (front_of (objects_with left one.contents) n) same o ∙ set_whole left one.contents n has refl one.count o) in
    record {
      contents = one.contents;
      sized = one.sized ∙ take_all n left.sizes (omega arith);
      read = one.read;
      fit = one.fit;
      told = becomes_then m0 m1 m2 (λ was now. IsUnfinished was now × IsSameSet now (front_of (objects_with left one.contents) n)) (λ was now. IsSameSet now (with_more was object.Mark []))
          (λ _ now. IsSameSet now (objects_with left one.contents)) (λ a b c _ r s o. s o ∙ whole b r.1 o) one.told mark;
      holds = keeps_then k0 k1 k2 (λ was now. IsEmptySet was → IsSameSet now (front_of (objects_with left one.contents) n)) (λ was now. IsSameSet now (with_more was object.Mark []))
          (λ was now. IsEmptySet was → IsSameSet now (objects_with left one.contents)) (λ a b c r s empty o. s o ∙ whole b (r empty) o) one.holds marked;
    }

pub set_stopped : {T E : Type 0} (f : ℕ → ℕ → ℕ → ℕ) (held : Option Images) (left : OutlineLeft) (m0 m1 k0 k1 : Option Images) (e : E)
    → Becomes m0 m1 (λ set now. IsUnfinished set now) → PatchesSet {T = T} f held left m0 m1 k0 k1 (Err e)
set_stopped f held left m0 m1 k0 k1 e told = record { contents = []; sized = tt; read = tt; fit = tt; told = told; holds = tt }

pub set_untouched : {T E : Type 0} (f : ℕ → ℕ → ℕ → ℕ) (held : Option Images) (left : OutlineLeft) (m0 m1 k0 k1 : Option Images) (e : E) → m1 ≡ m0 → PatchesSet {T = T} f held left m0 m1 k0 k1 (Err e)
set_untouched f held left m0 m1 k0 k1 e same = rw same (set_stopped f held left m0 m0 k0 k1 e (becomes_here m0 (λ set now. IsUnfinished set now) (λ set _. refl)))

-- nothing was changed
pub set_plain : {T E : Type 0} (held : Option Images) (left : OutlineLeft) (m0 m1 k0 k1 : Option Images) (result : Result T E) → PatchesSet (λ _ _ old. old) held left m0 m1 k0 k1 result
    → CopiesSet held left m0 m1 k0 k1 result
set_plain held left m0 m1 k0 k1 result set = record {
  contents = set.contents;
  sized = set.sized;
  read = on_ok result (λ read source told. read source told ∙ same_contents (contents_in source (length left.sizes))) set.read;
  told = set.told;
  holds = set.holds;
}

-- ---- sizes

-- the contents of a module have the given size
pub size_at : (sizes : List ℕ) (source : Images) (m : ℕ) → HasContents sizes source → m < length sizes → length (bytes_in source (object.Contents m)) ≡ get_or sizes m 0
size_at sizes source m has lt =
    let f : ℕ → ℕ = λ k. length (bytes_in source (object.Contents k)) in
    sym (ap (λ xs. get_or xs m 0) (has ∙ map-map (λ (row : List ℕ). length row) (λ (k : ℕ). bytes_in source (object.Contents k)) (range_with_len 0 (length sizes)))
    ∙ get_or-map-range_with_len f 0 (length sizes) m m 0 lt (omega arith))
