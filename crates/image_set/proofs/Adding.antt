-- Objects that are added to a set one by one.
use Rattle.std.proofs.Common.{◌≡◌, ℕ, ◌+◌, ◌*◌, ◌≤◌, true, false, List, ◌++◌, length, take, drop, Option, Some, None, Result, Ok, Err, refl, sym, ap, ◌∙◌, arith, inl, inr, append_assoc}
use Rattle.std.specs.Prelude.{OnOk, OnErr}
use Rattle.std.specs.Option.{ForSome}
use Rattle.std.proofs.lemmas.Bool.{cases_Bool}
use Rattle.std.proofs.Math.Seq.{take-add}
use Rattle.cut_words.specs.WordBytes as words
use Rattle.cut_words.proofs.Bytes.{length_bytes}
use Rattle.cut_words.proofs.Put.{bytes_of-append}
use Rattle.nvd_media.specs.declared.object.Object.{Object}
use Rattle.nvd_media.specs.declared.object.Object.TheVariants as object
use Rattle.nvd_media.specs.Causes.{Rose}
use Rattle.nvd_media.specs.Images.{Images, IsSameSet, Becomes, Keeps, IsUnfinished, is_object, bytes_of, with_more}
use Rattle.nvd_media.proofs.Told.{becomes_here, becomes_then, becomes_told}
use Rattle.image_set.specs.Save.{Adds, with_some}

-- a change of sets has the same effect on equal sets
abbrev pub IsAlike : (Images → Images) → Type 0
IsAlike change = (a b : Images) → IsSameSet a b → IsSameSet (change a) (change b)

pub more_alike : (object : Object) (bytes : List ℕ) → IsAlike (λ set. with_more set object bytes)
more_alike object bytes a b same other = rw (same other) refl

pub some_alike : (object : Object) (bytes : Option (List ℕ)) → IsAlike (λ set. with_some set object bytes)
some_alike object None a b same = same
some_alike object (Some bytes) a b same = more_alike object bytes a b same

pub on_ok : {T E P Q : Type 0} (r : Result T E) → (P → Q) → OnOk r P → OnOk r Q
on_ok (Ok x) f p = f p
on_ok (Err e) f p = p

pub on_err : {T E P Q : Type 0} (r : Result T E) → (P → Q) → OnErr r P → OnErr r Q
on_err (Ok x) f p = p
on_err (Err e) f p = f p

-- ---- changes in sequence

pub keeps_then : (a b c : Option Images) (R S T : Images → Images → Type 0) → ((x y z : Images) → R x y → S y z → T x z) → Keeps a b R → Keeps b c S → Keeps a c T
keeps_then a b c R S T h r s now told =
    let q = s now told in
    let p = r q.0 q.1 in
    (p.0, p.1, h p.0 q.0 now p.2 q.2)

pub rose_on : (n n' n'' : ℕ) → n ≤ n' → Rose n' n'' → Rose n n''
rose_on n n' n'' le rose = omega (arith, le, rose)

pub becomes_mono : {R S : Images → Images → Type 0} (a b : Option Images) → ((x y : Images) → R x y → S x y) → Becomes a b R → Becomes a b S
becomes_mono None b h r = r
becomes_mono (Some x) b h r = (r.0, r.1, h x r.0 r.2)

-- a change after another one
pub adds_then : {T E U F : Type 0} (m m' m'' k k' k'' : Option Images) (n n' n'' : ℕ) (x : T) (second : Result U F) (f g : Images → Images) → IsAlike g
    → Adds {E = E} m m' k k' n n' (Ok x) f → Adds m' m'' k' k'' n' n'' second g → Adds m m'' k k'' n n'' second (λ set. g (f set))
adds_then m m' m'' k k' k'' n n' n'' x second f g alike one two = record {
  told = becomes_then m m' m'' (λ set now. IsUnfinished set now × IsSameSet now (f set)) (λ set now. IsUnfinished set now × OnOk second (IsSameSet now (g set)))
      (λ set now. IsUnfinished set now × OnOk second (IsSameSet now (g (f set))))
      (λ a b c _ r s. (s.0 ∙ r.0, on_ok second (λ same object. same object ∙ alike b (f a) r.1 object) s.1)) one.told two.told;
  holds = on_ok second (λ keeps. keeps_then k k' k'' (λ set now. IsSameSet now (f set)) (λ set now. IsSameSet now (g set)) (λ set now. IsSameSet now (g (f set)))
      (λ a b c r s object. s object ∙ alike b (f a) r object) one.holds keeps) two.holds;
  cause = record {
    later = let a = one.cause.later in let b = two.cause.later in omega arith;
    failed = on_err second (rose_on n n' n'' one.cause.later) two.cause.failed;
  };
}

-- an equal change
pub adds_as : {T E : Type 0} (m m' k k' : Option Images) (n n' : ℕ) (result : Result T E) (f g : Images → Images) → ((set : Images) → IsSameSet (f set) (g set))
    → Adds m m' k k' n n' result f → Adds m m' k k' n n' result g
adds_as m m' k k' n n' result f g same adds = record {
  told = becomes_mono m m' (λ a b r. (r.0, on_ok result (λ is object. is object ∙ same a object) r.1)) adds.told;
  holds = on_ok result (λ keeps now told. let p = keeps now told in (p.0, p.1, λ object. p.2 object ∙ same p.0 object)) adds.holds;
  cause = adds.cause;
}

-- after a fault nothing is known of what was added
pub adds_fault : {T E U F : Type 0} (m m' k k' : Option Images) (n n' : ℕ) (e : E) (e' : F) (f g : Images → Images) → Adds {T = T} m m' k k' n n' (Err e) f
    → Adds {T = U} m m' k k' n n' (Err e') g
adds_fault m m' k k' n n' e e' f g adds = record {
  told = becomes_mono m m' (λ a b r. (r.0, tt)) adds.told;
  holds = tt;
  cause = record { later = adds.cause.later; failed = adds.cause.failed };
}

-- nothing was done
pub adds_none : {T E : Type 0} (m k : Option Images) (n : ℕ) (x : T) (f : Images → Images) → ((set : Images) → IsSameSet set (f set)) → Adds {E = E} m m k k n n (Ok x) f
adds_none m k n x f same = record {
  told = becomes_here m (λ set now. IsUnfinished set now × IsSameSet now (f set)) (λ set _. (refl, same set));
  holds = λ now told. (now, told, same now);
  cause = record { later = omega arith; failed = tt };
}

-- ---- one object

pub object_is : (o : Object) → is_object o o ≡ true
object_is object.Mark = refl
object_is object.Nfit = refl
object_is (object.Labels m) = grind arith
object_is (object.Contents m) = grind arith
object_is (object.BadRanges m) = grind arith

pub more_twice : (o : Object) (a b : List ℕ) (set : Images) → IsSameSet (with_more (with_more set o a) o b) (with_more set o (a ++ b))
more_twice o a b set other = elim (cases_Bool (is_object o other)) [
  | inl here ↦ rw here (ap Some (append_assoc (bytes_of set other) a b))
  | inr there ↦ rw there refl
]

-- the bytes of an object that was absent
pub bytes_added : (o : Object) (bytes : List ℕ) (set now : Images) → set o ≡ None → IsSameSet now (with_more set o bytes) → bytes_of now o ≡ bytes
bytes_added o bytes set now absent same = rw (same o, object_is o, absent) refl

-- the start of the next piece
pub ends_at : {T E : Type 0} (m m' k k' : Option Images) (n n' : ℕ) (x : T) (o : Object) (ws : List ℕ) → ForSome m (λ set. set o ≡ None)
    → Adds {E = E} m m' k k' n n' (Ok x) (λ set. with_more set o (words.bytes_of ws)) → ForSome m' (λ set. 8 * length ws ≡ length (bytes_of set o))
ends_at m m' k k' n n' x o ws absent adds now told =
    let p = becomes_told m m' (λ set now. IsUnfinished set now × IsSameSet now (with_more set o (words.bytes_of ws))) now adds.told told in
    sym (length_bytes ws) ∙ sym (ap length (bytes_added o (words.bytes_of ws) p.0 now (absent p.0 p.1) p.2.1))

-- another piece
pub piece_added : (o : Object) (ws : List ℕ) (at count : ℕ) (set : Images)
    → IsSameSet (with_more (with_more set o (words.bytes_of (take at ws))) o (words.bytes_of (take count (drop at ws)))) (with_more set o (words.bytes_of (take (at + count) ws)))
piece_added o ws at count set other =
    more_twice o (words.bytes_of (take at ws)) (words.bytes_of (take count (drop at ws))) set other
    ∙ ap (λ bytes. with_more set o bytes other) (sym (bytes_of-append (take at ws) (take count (drop at ws))) ∙ ap words.bytes_of (sym (take-add at count ws)))

-- ---- other objects

pub some_other : (o other : Object) (bytes : Option (List ℕ)) (set : Images) → is_object o other ≡ false → with_some set o bytes other ≡ set other
some_other o other None set apart = refl
some_other o other (Some bytes) set apart = rw apart refl

pub some_here : (o : Object) (bytes : Option (List ℕ)) (set : Images) → set o ≡ None → with_some set o bytes o ≡ bytes
some_here o None set absent = absent
some_here o (Some bytes) set absent = rw (object_is o, absent) refl

-- an object that was absent still is
pub absent_after : {T E : Type 0} (m m' k k' : Option Images) (n n' : ℕ) (x : T) (o other : Object) (bytes : Option (List ℕ)) → is_object o other ≡ false
    → Adds {E = E} m m' k k' n n' (Ok x) (λ set. with_some set o bytes) → ForSome m (λ set. set other ≡ None) → ForSome m' (λ set. set other ≡ None)
absent_after m m' k k' n n' x o other bytes apart adds absent now told =
    let p = becomes_told m m' (λ set now. IsUnfinished set now × IsSameSet now (with_some set o bytes)) now adds.told told in
    p.2.1 other ∙ some_other o other bytes p.0 apart ∙ absent p.0 p.1
