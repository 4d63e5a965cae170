-- The next half, stored over the half that isn't current, becomes the current one.
use Rattle.std.proofs.Common.{◌≡◌, ℕ, zero, suc, ◌+◌, ◌*◌, ◌/◌, ◌%◌, ◌^◌, ◌<◌, ◌≤◌, Bool, true, false, not, List, [], ◌∷◌, length, Option, Some, None, Result, Ok, Err, refl, sym, ap, ◌∙◌, subst, arith}
use Rattle.std.specs.Prelude.{◌&&◌, ◌||◌, ◌==◌, nat_le, slice_index, IfOk}
use Rattle.std.specs.Option.{option_map}
use Rattle.std.proofs.lemmas.Bool.{and_parts, leb-true}
use Rattle.nvd_words.specs.Checks.{first_fault, fault_if, value_unless}
use Rattle.nvd_words.specs.Ring.{is_newer, successor_of}
use Rattle.flog.specs.declared.half.Half.{Half}
use Rattle.flog.specs.declared.group.Group.{Group}
use Rattle.flog.specs.declared.group.FlogFault.{FlogFault}
use Rattle.flog.specs.declared.group.FlogFault.TheVariants.{Padding, Sequences, Range}
use Rattle.flog.specs.Group.{half_of, half_in, words_of_half, place_of, other_side, with_half, is_padded, are_ordered, out_of_range, current_side, group_in, group_reading, StandsFor, IsNext, HasNoFlags, IsNewerHalf, PacksBack}

-- ---- reading succeeded

pub record Passed (words : List ℕ) (external internal : ℕ) (g : Group) : Type 0 where
  pub padded : is_padded words ≡ true
  pub ordered : are_ordered (half_in words 0).seq (half_in words 1).seq ≡ true
  pub is : group_in words ≡ g

three : {A F : Type 0} (v w : A) (o p q : Option F) → value_unless v (first_fault (o ∷ p ∷ q ∷ [])) ≡ Ok w → (o ≡ None) × (p ≡ None) × (v ≡ w)
unfolding first_fault
three v w (Some f) p q e = cc
three v w None (Some f) q e = cc
three v w None None (Some f) e = cc
three v w None None None e = (refl, refl, cc)

unless : {F : Type 0} (b : Bool) (f : F) → fault_if (not b) f ≡ None → b ≡ true
unless true f e = refl
unless false f e = cc

passed : (words : List ℕ) (external internal : ℕ) (g : Group) → StandsFor words external internal g → Passed words external internal g
passed words external internal g e =
    let t = three (group_in words) g (fault_if (not (is_padded words)) Padding)
    (fault_if (not (are_ordered (half_in words 0).seq (half_in words 1).seq)) (Sequences (half_in words 0).seq (half_in words 1).seq))
    (option_map Range (out_of_range external internal (group_in words).half)) e in
    record { padded = unless (is_padded words) Padding t.0; ordered = unless (are_ordered (half_in words 0).seq (half_in words 1).seq) (Sequences (half_in words 0).seq (half_in words 1).seq) t.1; is = t.2 }

-- ---- the ring

after : (x : ℕ) → 1 ≤ x → x ≤ 3 → (is_newer x (successor_of x) ≡ true) × (is_newer (successor_of x) x ≡ false) × (are_ordered x (successor_of x) ≡ true) × (are_ordered (successor_of x) x ≡ true)
unfolding are_ordered
after zero low high = absurd (omega arith)
after (suc zero) low high = (refl, refl, refl, refl)
after (suc (suc zero)) low high = (refl, refl, refl, refl)
after (suc (suc (suc zero))) low high = (refl, refl, refl, refl)
after (suc (suc (suc (suc x)))) low high = absurd (omega arith)

newer_low : (a b : ℕ) → is_newer a b ≡ true → (1 ≤ b) × (b ≤ 3)
newer_low a b e =
    let p = and_parts (nat_le 1 b && nat_le b 3) ((a == 0) || (nat_le 1 a && nat_le a 3 && (b == successor_of a))) e in
    let q = and_parts (nat_le 1 b) (nat_le b 3) p.0 in
    (leb-true 1 b q.0, leb-true b 3 q.1)

older : (a b : ℕ) → are_ordered a b ≡ true → is_newer a b ≡ false → is_newer b a ≡ true
older a b e f = let either = (and_parts (nat_le a 3 && nat_le b 3) (is_newer a b || is_newer b a) (unfold are_ordered in e)).1 in rw f at either

ordered_low : (a b : ℕ) → are_ordered a b ≡ true → is_newer a b ≡ false → (1 ≤ a) × (a ≤ 3)
ordered_low a b e f = newer_low b a (older a b e f)

-- ---- the two words

lba_back : (lba old : ℕ) → lba < 2 ^ 32 → (lba + 2 ^ 32 * old) % 2 ^ 32 ≡ lba
lba_back lba old lt = omega arith

above_back : (low high : ℕ) → low < 2 ^ 32 → (low + 2 ^ 32 * high) / 2 ^ 32 ≡ high
above_back low high lt = omega arith

old_back : (lba old : ℕ) → lba < 2 ^ 32 → old < 2 ^ 30 → (lba + 2 ^ 32 * old) / 2 ^ 32 % 2 ^ 30 ≡ old
old_back lba old lt lt' = ap (λ (n : ℕ). n % 2 ^ 30) (above_back lba old lt) ∙ omega arith

new_back : (new seq : ℕ) → new < 2 ^ 30 → (new + 2 ^ 32 * seq) % 2 ^ 30 ≡ new
new_back new seq lt = omega arith

seq_back : (new seq : ℕ) → new < 2 ^ 30 → (new + 2 ^ 32 * seq) / 2 ^ 32 ≡ seq
seq_back new seq lt = above_back new seq (omega arith)

pub half_back : (half : Half) → half.lba < 2 ^ 32 → half.old < 2 ^ 30 → half.new < 2 ^ 30
    → half_of (half.lba + 2 ^ 32 * half.old) (half.new + 2 ^ 32 * half.seq) ≡ half
half_back half lba old new =
    let p0 = lba_back half.lba half.old lba in
    let p1 = old_back half.lba half.old lba old in
    let p2 = new_back half.new half.seq new in
    let p3 = seq_back half.new half.seq new in
    λ i. record { lba = p0 i; old = p1 i; new = p2 i; seq = p3 i }

-- words without flags are the encoding of their half
pub words_back : (a b : ℕ) → HasNoFlags a b → words_of_half (half_of a b) ≡ a ∷ b ∷ []
words_back a b none =
    let old : a / 2 ^ 32 < 2 ^ 30 = omega (arith, none.old) in
    let first : a % 2 ^ 32 + 2 ^ 32 * (a / 2 ^ 32 % 2 ^ 30) ≡ a = omega arith in
    let second : b % 2 ^ 30 + 2 ^ 32 * (b / 2 ^ 32) ≡ b = omega (arith, none.new) in
    rw (first, second) refl

packs_at : (words : List ℕ) (g : Group) → group_in words ≡ g → PacksBack words g
packs_at words g e =
    subst (λ (k : Group). PacksBack words k) e (words_back (slice_index words (place_of (current_side words))) (slice_index words (place_of (current_side words) + 1)))

-- the half that was read encodes to the words it was read from
pub packs : (words : List ℕ) (external internal : ℕ) (r : Result Group FlogFault) → r ≡ group_reading words external internal → IfOk r (PacksBack words)
packs words external internal (Ok g) e = packs_at words g (passed words external internal g (sym e)).is
packs words external internal (Err f) e = tt

side_one : (words : List ℕ) → is_newer (half_in words 0).seq (half_in words 1).seq ≡ true → current_side words ≡ 1
unfolding current_side
side_one words e = rw e refl

side_zero : (words : List ℕ) → is_newer (half_in words 0).seq (half_in words 1).seq ≡ false → current_side words ≡ 0
unfolding current_side
side_zero words e = rw e refl

newer_by : (newer : Bool) (words : List ℕ) (external internal : ℕ) (g : Group) → Passed words external internal g
    → is_newer (half_in words 0).seq (half_in words 1).seq ≡ newer → IsNewerHalf words g
newer_by true words external internal g ok e =
    let is : g ≡ record { side = 1; half = half_in words 1 } = sym ok.is ∙ λ i. record { side = side_one words e i; half = half_in words (side_one words e i) } in
    subst (λ (k : Group). IsNewerHalf words k) (sym is) e
newer_by false words external internal g ok e =
    let is : g ≡ record { side = 0; half = half_in words 0 } = sym ok.is ∙ λ i. record { side = side_zero words e i; half = half_in words (side_zero words e i) } in
    subst (λ (k : Group). IsNewerHalf words k) (sym is) (older (half_in words 0).seq (half_in words 1).seq ok.ordered e)

-- the half that was read is the newer one
pub newer : (words : List ℕ) (external internal : ℕ) (r : Result Group FlogFault) → r ≡ group_reading words external internal → IfOk r (IsNewerHalf words)
newer words external internal (Ok g) e = newer_by (is_newer (half_in words 0).seq (half_in words 1).seq) words external internal g (passed words external internal g (sym e)) refl
newer words external internal (Err f) e = tt

-- ---- the group afterwards

-- the decoded group, from its parts
reads : (words : List ℕ) (external internal side : ℕ) (half : Half) → is_padded words ≡ true → are_ordered (half_in words 0).seq (half_in words 1).seq ≡ true
    → current_side words ≡ side → half_in words side ≡ half → out_of_range external internal half ≡ None
    → StandsFor words external internal (record { side = side; half = half })
unfolding first_fault
reads words external internal side half padded ordered is half_is range =
    let same : (half_in words (current_side words)) ≡ half = ap (half_in words) is ∙ half_is in
    rw (padded, ordered, same, range, is) refl

padded_still : (a b c d a' b' c' d' : ℕ) (rest : List ℕ) → is_padded (a ∷ b ∷ c ∷ d ∷ rest) ≡ true → is_padded (a' ∷ b' ∷ c' ∷ d' ∷ rest) ≡ true
unfolding is_padded
padded_still a b c d a' b' c' d' rest e = e

zero_of : (a b c d : ℕ) (rest : List ℕ) → half_in (a ∷ b ∷ c ∷ d ∷ rest) 0 ≡ half_of a b
unfolding place_of
zero_of a b c d rest = refl

one_of : (a b c d : ℕ) (rest : List ℕ) → half_in (a ∷ b ∷ c ∷ d ∷ rest) 1 ≡ half_of c d
unfolding place_of
one_of a b c d rest = refl

put_zero : (a b c d : ℕ) (rest : List ℕ) (h : Half) → with_half (a ∷ b ∷ c ∷ d ∷ rest) 0 h ≡ (h.lba + 2 ^ 32 * h.old) ∷ (h.new + 2 ^ 32 * h.seq) ∷ c ∷ d ∷ rest
unfolding place_of
put_zero a b c d rest h = refl

put_one : (a b c d : ℕ) (rest : List ℕ) (h : Half) → with_half (a ∷ b ∷ c ∷ d ∷ rest) 1 h ≡ a ∷ b ∷ (h.lba + 2 ^ 32 * h.old) ∷ (h.new + 2 ^ 32 * h.seq) ∷ rest
unfolding place_of
put_one a b c d rest h = refl

-- the current half is at side one, and the next one goes to side zero
into_zero : (a b c d : ℕ) (rest : List ℕ) (external internal : ℕ) (g : Group) (h : Half) → is_padded (a ∷ b ∷ c ∷ d ∷ rest) ≡ true → IsNext external internal g h
    → g.half ≡ half_of c d → 1 ≤ g.half.seq → g.half.seq ≤ 3
    → StandsFor ((h.lba + 2 ^ 32 * h.old) ∷ (h.new + 2 ^ 32 * h.seq) ∷ c ∷ d ∷ rest) external internal (record { side = 0; half = h })
into_zero a b c d rest external internal g h padded next was low high =
    let words : List ℕ = (h.lba + 2 ^ 32 * h.old) ∷ (h.new + 2 ^ 32 * h.seq) ∷ c ∷ d ∷ rest in
    let x : ℕ = g.half.seq in
    let ring = after x low high in
    let here : half_in words 0 ≡ h = zero_of (h.lba + 2 ^ 32 * h.old) (h.new + 2 ^ 32 * h.seq) c d rest ∙ half_back h next.lba next.old next.new in
    let seq0 : (half_in words 0).seq ≡ successor_of x = ap (λ (k : Half). k.seq) here ∙ next.seq in
    let seq1 : (half_in words 1).seq ≡ x = ap (λ (k : Half). k.seq) (one_of (h.lba + 2 ^ 32 * h.old) (h.new + 2 ^ 32 * h.seq) c d rest ∙ sym was) in
    reads words external internal 0 h
    (padded_still a b c d (h.lba + 2 ^ 32 * h.old) (h.new + 2 ^ 32 * h.seq) c d rest padded)
    (ap (λ (k : ℕ). are_ordered k (half_in words 1).seq) seq0 ∙ ap (are_ordered (successor_of x)) seq1 ∙ ring.3)
    (side_zero words (ap (λ (k : ℕ). is_newer k (half_in words 1).seq) seq0 ∙ ap (is_newer (successor_of x)) seq1 ∙ ring.1))
    here next.in_range

-- the current half is at side zero, and the next one goes to side one
into_one : (a b c d : ℕ) (rest : List ℕ) (external internal : ℕ) (g : Group) (h : Half) → is_padded (a ∷ b ∷ c ∷ d ∷ rest) ≡ true → IsNext external internal g h
    → g.half ≡ half_of a b → 1 ≤ g.half.seq → g.half.seq ≤ 3
    → StandsFor (a ∷ b ∷ (h.lba + 2 ^ 32 * h.old) ∷ (h.new + 2 ^ 32 * h.seq) ∷ rest) external internal (record { side = 1; half = h })
into_one a b c d rest external internal g h padded next was low high =
    let words : List ℕ = a ∷ b ∷ (h.lba + 2 ^ 32 * h.old) ∷ (h.new + 2 ^ 32 * h.seq) ∷ rest in
    let x : ℕ = g.half.seq in
    let ring = after x low high in
    let here : half_in words 1 ≡ h = one_of a b (h.lba + 2 ^ 32 * h.old) (h.new + 2 ^ 32 * h.seq) rest ∙ half_back h next.lba next.old next.new in
    let seq1 : (half_in words 1).seq ≡ successor_of x = ap (λ (k : Half). k.seq) here ∙ next.seq in
    let seq0 : (half_in words 0).seq ≡ x = ap (λ (k : Half). k.seq) (zero_of a b (h.lba + 2 ^ 32 * h.old) (h.new + 2 ^ 32 * h.seq) rest ∙ sym was) in
    reads words external internal 1 h
    (padded_still a b c d a b (h.lba + 2 ^ 32 * h.old) (h.new + 2 ^ 32 * h.seq) rest padded)
    (ap (λ (k : ℕ). are_ordered k (half_in words 1).seq) seq0 ∙ ap (are_ordered x) seq1 ∙ ring.2)
    (side_one words (ap (λ (k : ℕ). is_newer k (half_in words 1).seq) seq0 ∙ ap (is_newer x) seq1 ∙ ring.0))
    here next.in_range

becomes_by : (newer : Bool) (a b c d : ℕ) (rest : List ℕ) (external internal : ℕ) (g : Group) (h : Half) → Passed (a ∷ b ∷ c ∷ d ∷ rest) external internal g
    → IsNext external internal g h → is_newer (half_in (a ∷ b ∷ c ∷ d ∷ rest) 0).seq (half_in (a ∷ b ∷ c ∷ d ∷ rest) 1).seq ≡ newer
    → StandsFor (with_half (a ∷ b ∷ c ∷ d ∷ rest) (other_side g.side) h) external internal (record { side = other_side g.side; half = h })
becomes_by true a b c d rest external internal g h ok next e =
    let words : List ℕ = a ∷ b ∷ c ∷ d ∷ rest in
    let side : g.side ≡ 1 = ap (λ (k : Group). k.side) (sym ok.is) ∙ side_one words e in
    let was : g.half ≡ half_of c d = ap (λ (k : Group). k.half) (sym ok.is) ∙ ap (half_in words) (side_one words e) ∙ one_of a b c d rest in
    let seq : g.half.seq ≡ (half_in words 1).seq = ap (λ (k : Half). k.seq) (was ∙ sym (one_of a b c d rest)) in
    let low = newer_low (half_in words 0).seq (half_in words 1).seq e in
    let other : other_side g.side ≡ 0 = ap other_side side in
    rw (other, put_zero a b c d rest h) (into_zero a b c d rest external internal g h ok.padded next was (omega (arith, low.0, seq)) (omega (arith, low.1, seq)))
becomes_by false a b c d rest external internal g h ok next e =
    let words : List ℕ = a ∷ b ∷ c ∷ d ∷ rest in
    let side : g.side ≡ 0 = ap (λ (k : Group). k.side) (sym ok.is) ∙ side_zero words e in
    let was : g.half ≡ half_of a b = ap (λ (k : Group). k.half) (sym ok.is) ∙ ap (half_in words) (side_zero words e) ∙ zero_of a b c d rest in
    let seq : g.half.seq ≡ (half_in words 0).seq = ap (λ (k : Half). k.seq) (was ∙ sym (zero_of a b c d rest)) in
    let low = ordered_low (half_in words 0).seq (half_in words 1).seq ok.ordered e in
    let other : other_side g.side ≡ 1 = ap other_side side in
    rw (other, put_one a b c d rest h) (into_one a b c d rest external internal g h ok.padded next was (omega (arith, low.0, seq)) (omega (arith, low.1, seq)))

pub becomes : (words : List ℕ) (external internal : ℕ) (g : Group) (h : Half) → 4 ≤ length words → StandsFor words external internal g → IsNext external internal g h
    → StandsFor (with_half words (other_side g.side) h) external internal (record { side = other_side g.side; half = h })
becomes [] external internal g h len ok next = absurd (omega arith)
becomes (a ∷ []) external internal g h len ok next = absurd (omega arith)
becomes (a ∷ b ∷ []) external internal g h len ok next = absurd (omega arith)
becomes (a ∷ b ∷ c ∷ []) external internal g h len ok next = absurd (omega arith)
becomes (a ∷ b ∷ c ∷ d ∷ rest) external internal g h len ok next =
    becomes_by (is_newer (half_in (a ∷ b ∷ c ∷ d ∷ rest) 0).seq (half_in (a ∷ b ∷ c ∷ d ∷ rest) 1).seq) a b c d rest external internal g h (passed (a ∷ b ∷ c ∷ d ∷ rest) external internal g ok) next refl
