-- An order of taking gives the account.
use Rattle.std.proofs.Common.{◌≡◌, ◌≢◌, ℕ, zero, suc, ◌+◌, ◌<◌, ◌≤◌, Bool, true, false, true≢false, cond, List, [], ◌∷◌, ◌++◌, length, map, sym, refl, ap, ◌∙◌, subst, eq-eqb, ne_eqb, lt_of_not-le, arith}
use Rattle.std.specs.Prelude.{filter, ◌==◌, ◌&&◌}
use mathlib.Core.Option.{some, some-injective, some-ne-none}
use mathlib.Core.Logic.{dite}
use native.Mathlib.Decide.{dec_le, ℕ_discrete}
use lib.ListN.{get_elem?}
use Rattle.std.proofs.lemmas.List.Elements.{filter-append}
use Rattle.ticket_queue.specs.declared.ticket.Ticket.{Ticket}
use Rattle.ticket_queue.specs.declared.ticket.View.{View}
use Rattle.ticket_queue.specs.Law.{put_by, tickets, taken_by}
use Rattle.ticket_queue.specs.Parties.{put_in, taken_in, IsOrder}
use Rattle.ticket_queue.specs.Account.{one_if, times, total, below, Rises, put_at, taken_at, AreCounted, is_at, IsAccount}
use Rattle.crossbeam_queue.proofs.Lists.{at_map, at_longer}
use Rattle.ticket_queue.proofs.Places.{of_map}

-- ---- rising

module _ {A : Type 0} (f : A → ℕ) where
  weaker : (o o' : ℕ) (xs : List A) → o' ≤ o → Rises f o xs → Rises f o' xs
  weaker o o' [] le r = tt
  weaker o o' (x ∷ xs) le r = let h = r.0 in (omega (arith, le, h), r.1)

  rises_filter : (p : A → Bool) (o : ℕ) (xs : List A) → Rises f o xs → Rises f o (filter p xs)
  rises_filter p o [] r = tt
  rises_filter p o (x ∷ xs) r = by (p x) r.0 (rises_filter p (f x + 1) xs r.1)
    where
      by : (b : Bool) → o ≤ f x → Rises f (f x + 1) (filter p xs) → Rises f o (cond b (x ∷ filter p xs) (filter p xs))
      by true h rest = (h, rest)
      by false h rest = weaker (f x + 1) o (filter p xs) (omega (arith, h)) rest

  rises_front : (o : ℕ) (xs ys : List A) → Rises f o (xs ++ ys) → Rises f o xs
  rises_front o [] ys r = tt
  rises_front o (x ∷ xs) ys r = (r.0, rises_front (f x + 1) xs ys r.1)

  rises_numbered : (o : ℕ) (xs : List A) → ((i : ℕ) (x : A) → get_elem? xs i ≡ some x → f x ≡ o + i) → Rises f o xs
  rises_numbered o [] is = tt
  rises_numbered o (x ∷ xs) is =
      let first = is 0 x refl in
      (omega (arith, first), rises_numbered (f x + 1) xs (λ i y at. let next = is (suc i) y at in omega (arith, next, first)))

module _ {A B : Type 0} (f : B → ℕ) (g : A → B) where
  rises_from_map : (o : ℕ) (xs : List A) → Rises f o (map g xs) → Rises (λ a. f (g a)) o xs
  rises_from_map o [] r = tt
  rises_from_map o (x ∷ xs) r = (r.0, rises_from_map (f (g x) + 1) xs r.1)

  rises_to_map : (o : ℕ) (xs : List A) → Rises (λ a. f (g a)) o xs → Rises f o (map g xs)
  rises_to_map o [] r = tt
  rises_to_map o (x ∷ xs) r = (r.0, rises_to_map (f (g x) + 1) xs r.1)

-- ---- filters

module _ {A : Type 0} where
  pub of_filter : (p : A → Bool) (xs : List A) (j : ℕ) (x : A) → get_elem? (filter p xs) j ≡ some x → (i : ℕ) × (get_elem? xs i ≡ some x)
  of_filter p [] j x e = absurd (some-ne-none x (sym e))
  of_filter p (y ∷ ys) j x e = by (λ i at. of_filter p ys i x at) (p y) j e
    where
      by : ((i : ℕ) → get_elem? (filter p ys) i ≡ some x → (k : ℕ) × (get_elem? ys k ≡ some x)) → (b : Bool) (i : ℕ) → get_elem? (cond b (y ∷ filter p ys) (filter p ys)) i ≡ some x → (k : ℕ) × (get_elem? (y ∷ ys) k ≡ some x)
      by rest true zero at = (0, at)
      by rest true (suc i) at = let r = rest i at in (suc r.0, r.1)
      by rest false i at = let r = rest i at in (suc r.0, r.1)

  filter_cons : (p : A → Bool) (x : A) (xs : List A) (b : Bool) → p x ≡ b → filter p (x ∷ xs) ≡ cond b (x ∷ filter p xs) (filter p xs)
  filter_cons p x xs b is = ap (λ (c : Bool). cond c (x ∷ filter p xs) (filter p xs)) is

  -- two filters may change places
  filters : (p q : A → Bool) (xs : List A) → filter p (filter q xs) ≡ filter q (filter p xs)
  filters p q [] = refl
  filters p q (x ∷ xs) = by (filters p q xs) (p x) (q x) refl refl
    where
      by : filter p (filter q xs) ≡ filter q (filter p xs) → (b c : Bool) → p x ≡ b → q x ≡ c → filter p (filter q (x ∷ xs)) ≡ filter q (filter p (x ∷ xs))
      by rest true true pb qc = ap (filter p) (filter_cons q x xs true qc) ∙ (filter_cons p x (filter q xs) true pb ∙ (ap (λ l. x ∷ l) rest ∙ sym (ap (filter q) (filter_cons p x xs true pb) ∙ filter_cons q x (filter p xs) true qc)))
      by rest true false pb qc = ap (filter p) (filter_cons q x xs false qc) ∙ (rest ∙ sym (ap (filter q) (filter_cons p x xs true pb) ∙ filter_cons q x (filter p xs) false qc))
      by rest false true pb qc = ap (filter p) (filter_cons q x xs true qc) ∙ (filter_cons p x (filter q xs) false pb ∙ (rest ∙ sym (ap (filter q) (filter_cons p x xs false pb))))
      by rest false false pb qc = ap (filter p) (filter_cons q x xs false qc) ∙ (rest ∙ sym (ap (filter q) (filter_cons p x xs false pb)))

filter_map : {A B : Type 0} (p : B → Bool) (g : A → B) (xs : List A) → filter p (map g xs) ≡ map g (filter (λ a. p (g a)) xs)
filter_map p g [] = refl
filter_map {A} {B} p g (x ∷ xs) = by (p (g x)) (filter_map p g xs)
  where
    by : (b : Bool) → filter p (map g xs) ≡ map g (filter (λ a. p (g a)) xs) → cond b (g x ∷ filter p (map g xs)) (filter p (map g xs)) ≡ map g (cond b (x ∷ filter (λ a. p (g a)) xs) (filter (λ a. p (g a)) xs))
    by true same = ap (λ l. g x ∷ l) same
    by false same = same

-- ---- counting

times_append : {A : Type 0} (p : A → Bool) (xs ys : List A) → times p (xs ++ ys) ≡ times p xs + times p ys
times_append p [] ys = omega arith
times_append p (x ∷ xs) ys = let h = times_append p xs ys in omega (arith, h)

total_zero : (n : ℕ) → total (λ k. 0) n ≡ 0
total_zero zero = refl
total_zero (suc n) = let h = total_zero n in omega (arith, h)

total_same : (f g : ℕ → ℕ) (n : ℕ) → ((k : ℕ) → k < n → f k ≡ g k) → total f n ≡ total g n
total_same f g zero is = refl
total_same f g (suc n) is = let h = total_same f g n (λ k lt. is k (omega (arith, lt))) in let last = is n (omega arith) in omega (arith, h, last)

total_plus : (f g : ℕ → ℕ) (n : ℕ) → total (λ k. f k + g k) n ≡ total f n + total g n
total_plus f g zero = refl
total_plus f g (suc n) = let h = total_plus f g n in omega (arith, h)

-- only at k
total_none : (k c n : ℕ) → n ≤ k → total (λ z. cond (k == z) c 0) n ≡ 0
total_none k c zero le = refl
total_none k c (suc n) le =
    let h = total_none k c n (omega (arith, le)) in
    let last : cond (k == n) c 0 ≡ 0 = ap (λ (b : Bool). cond b c 0) (ne_eqb k n (λ s. omega (arith, s, le))) in
    omega (arith, h, last)

total_one : (k c n : ℕ) → k < n → total (λ z. cond (k == z) c 0) n ≡ c
total_one k c zero lt = absurd (omega (arith, lt))
total_one k c (suc n) lt = dite (ℕ_discrete k n)
    (λ (is : k ≡ n).
    let h = total_none k c n (omega (arith, is)) in
    let last : cond (k == n) c 0 ≡ c = ap (λ (b : Bool). cond b c 0) (eq-eqb k n is) in
    omega (arith, h, last))
    (λ (ne : k ≢ n).
    let h = total_one k c n (omega (arith, lt, ne)) in
    let last : cond (k == n) c 0 ≡ 0 = ap (λ (b : Bool). cond b c 0) (ne_eqb k n ne) in
    omega (arith, h, last))

module _ {T : Type 0} where
  -- what was taken is what each party took
  by_party : (p : Ticket T → Bool) (order : List (ℕ × Ticket T)) (n : ℕ) → ((j : ℕ) (e : ℕ × Ticket T) → get_elem? order j ≡ some e → e.0 < n) → total (λ k. times p (taken_by k order)) n ≡ times p (tickets order)
  by_party p [] n few = total_zero n
  by_party p (e ∷ es) n few =
      let c : ℕ = one_if (p e.1) in
      let one : (k : ℕ) → times p (taken_by k (e ∷ es)) ≡ cond (e.0 == k) c 0 + times p (taken_by k es) = λ k. split (e.0 == k) k in
      let all = total_same (λ k. times p (taken_by k (e ∷ es))) (λ k. cond (e.0 == k) c 0 + times p (taken_by k es)) n (λ k lt. one k) in
      let two = total_plus (λ k. cond (e.0 == k) c 0) (λ k. times p (taken_by k es)) n in
      let first = total_one e.0 c n (few 0 e refl) in
      let rest = by_party p es n (λ j d at. few (suc j) d at) in
      omega (arith, all, two, first, rest)
    where
      split : (b : Bool) (k : ℕ) → times p (tickets (cond b (e ∷ filter (λ (d : ℕ × Ticket T). d.0 == k) es) (filter (λ (d : ℕ × Ticket T). d.0 == k) es))) ≡ cond b (one_if (p e.1)) 0 + times p (taken_by k es)
      split true k = refl
      split false k = omega arith

  -- who took something took it
  took : (order : List (ℕ × Ticket T)) (j : ℕ) (e : ℕ × Ticket T) → get_elem? order j ≡ some e → taken_by e.0 order ≢ []
  took [] j e at none = absurd (some-ne-none e (sym at))
  took (d ∷ ds) zero e at none =
      let is : d ≡ e = some-injective d e at in
      true≢false (sym (eq-eqb d.0 e.0 (ap (λ x. x.0) is)) ∙ by (d.0 == e.0) none)
    where
      by : (b : Bool) → tickets (cond b (d ∷ filter (λ (x : ℕ × Ticket T). x.0 == e.0) ds) (filter (λ (x : ℕ × Ticket T). x.0 == e.0) ds)) ≡ [] → b ≡ false
      by true n = cc
      by false n = refl
  took (d ∷ ds) (suc j) e at none = took ds j e at (by (d.0 == e.0) none)
    where
      by : (b : Bool) → tickets (cond b (d ∷ filter (λ (x : ℕ × Ticket T). x.0 == e.0) ds) (filter (λ (x : ℕ × Ticket T). x.0 == e.0) ds)) ≡ [] → taken_by e.0 ds ≡ []
      by true n = cc
      by false n = n

  few_take : (order : List (ℕ × Ticket T)) (n : ℕ) → ((k : ℕ) → n ≤ k → taken_by k order ≡ []) → (j : ℕ) (e : ℕ × Ticket T) → get_elem? order j ≡ some e → e.0 < n
  few_take order n none j e at = by (dec_le n e.0)
    where
      by : Dec (n ≤ e.0) → e.0 < n
      by (yes le) = absurd (took order j e at (none e.0 le))
      by (no gt) = lt_of_not-le gt

  module _ (number : T → ℕ) where
    abbrev num : Ticket T → ℕ
    num t = number t.item

    -- the tickets n of party s, among all and among its own
    at_own : (s n : ℕ) (ts : List (Ticket T)) → times (is_at number s n) ts ≡ times (λ t. num t == n) (put_by s ts)
    at_own s n [] = refl
    at_own s n (t ∷ ts) = by (t.party == s) (at_own s n ts)
      where
        by : (b : Bool) → times (is_at number s n) ts ≡ times (λ u. num u == n) (put_by s ts) → one_if (b && (num t == n)) + times (is_at number s n) ts ≡ times (λ u. num u == n) (cond b (t ∷ put_by s ts) (put_by s ts))
        by true h = omega (arith, h)
        by false h = omega (arith, h)

    numbered_none : (n o : ℕ) (ts : List (Ticket T)) → ((i : ℕ) (t : Ticket T) → get_elem? ts i ≡ some t → num t ≡ o + i) → n < o → times (λ t. num t == n) ts ≡ 0
    numbered_none n o [] is lt = refl
    numbered_none n o (t ∷ ts) is lt =
        let first = is 0 t refl in
        let rest = numbered_none n (o + 1) ts (λ i u at. let next = is (suc i) u at in omega (arith, next)) (omega (arith, lt)) in
        let no : one_if (num t == n) ≡ 0 = ap one_if (ne_eqb (num t) n (λ s. omega (arith, s, first, lt))) in
        omega (arith, rest, no)

    numbered_once : (n o : ℕ) (ts : List (Ticket T)) → ((i : ℕ) (t : Ticket T) → get_elem? ts i ≡ some t → num t ≡ o + i) → times (λ t. num t == (o + n)) ts ≡ below n (length ts)
    numbered_once n o [] is = refl
    numbered_once zero o (t ∷ ts) is =
        let first = is 0 t refl in
        let rest = numbered_none (o + 0) (o + 1) ts (λ i u at. let next = is (suc i) u at in omega (arith, next)) (omega arith) in
        let yes : one_if (num t == (o + 0)) ≡ 1 = ap one_if (eq-eqb (num t) (o + 0) first) in
        omega (arith, rest, yes)
    numbered_once (suc n) o (t ∷ ts) is =
        let first = is 0 t refl in
        let rest = numbered_once n (o + 1) ts (λ i u at. let next = is (suc i) u at in omega (arith, next)) in
        let moved : o + suc n ≡ o + 1 + n = omega arith in
        let same : times (λ u. num u == (o + suc n)) ts ≡ times (λ u. num u == (o + 1 + n)) ts = ap (λ (m : ℕ). times (λ u. num u == m) ts) moved in
        let no : one_if (num t == (o + suc n)) ≡ 0 = ap one_if (ne_eqb (num t) (o + suc n) (λ s. omega (arith, s, first))) in
        omega (arith, rest, same, no)

-- ---- places

module _ {A : Type 0} where
  inside : (xs : List A) (i : ℕ) (x : A) → get_elem? xs i ≡ some x → i < length xs
  inside [] i x e = absurd (some-ne-none x (sym e))
  inside (y ∷ ys) zero x e = omega arith
  inside (y ∷ ys) (suc i) x e = let h = inside ys i x e in omega (arith, h)

  pub behind : (xs ys : List A) (j : ℕ) (y : A) → get_elem? ys j ≡ some y → get_elem? (xs ++ ys) (length xs + j) ≡ some y
  behind [] ys j y e = let is : 0 + j ≡ j = omega arith in ap (λ (n : ℕ). get_elem? ys n) is ∙ e
  behind (x ∷ xs) ys j y e = let is : suc (length xs) + j ≡ suc (length xs + j) = omega arith in ap (λ (n : ℕ). get_elem? (x ∷ (xs ++ ys)) n) is ∙ behind xs ys j y e

module _ {T : Type 0} where
  pub puts_at : (F : ℕ → List (Ticket T)) (vs : List (View T)) → ((k : ℕ) (v : View T) → get_elem? vs k ≡ some v → F k ≡ put_in v) → ((k : ℕ) → length vs ≤ k → F k ≡ []) → (k : ℕ) → F k ≡ put_at vs k
  puts_at F [] is none k = none k (omega arith)
  puts_at F (v ∷ vs) is none zero = is 0 v refl
  puts_at F (v ∷ vs) is none (suc k) = puts_at (λ z. F (suc z)) vs (λ j w e. is (suc j) w e) (λ j le. none (suc j) (omega (arith, le))) k

  pub takes_at : (F : ℕ → List (Ticket T)) (vs : List (View T)) → ((k : ℕ) (v : View T) → get_elem? vs k ≡ some v → F k ≡ taken_in v) → ((k : ℕ) → length vs ≤ k → F k ≡ []) → (k : ℕ) → F k ≡ taken_at vs k
  takes_at F [] is none k = none k (omega arith)
  takes_at F (v ∷ vs) is none zero = is 0 v refl
  takes_at F (v ∷ vs) is none (suc k) = takes_at (λ z. F (suc z)) vs (λ j w e. is (suc j) w e) (λ j le. none (suc j) (omega (arith, le))) k

  pub account : (number : T → ℕ) (vs : List (View T)) (left : List (Ticket T)) → IsOrder vs left → AreCounted number vs → IsAccount number vs left
  account number vs left o numbered =
      let num : Ticket T → ℕ = λ t. number t.item in
      let order : List (ℕ × Ticket T) = o.order in
      let all : List (Ticket T) = tickets order ++ left in
      let puts : (s : ℕ) → put_by s all ≡ put_at vs s = puts_at (λ s. put_by s all) vs o.puts (λ k le. (o.no_other k le).0) in
      let takes : (k : ℕ) → taken_by k order ≡ taken_at vs k = takes_at (λ k. taken_by k order) vs o.takes (λ k le. (o.no_other k le).1) in
      let front : (s : ℕ) → List (Ticket T) = λ s. put_by s (tickets order) in
      let whole : (s : ℕ) → front s ++ put_by s left ≡ put_at vs s = λ s. sym (filter-append (λ (t : Ticket T). t.party == s) (tickets order) left) ∙ puts s in
      let mine : (s : ℕ) → List (ℕ × Ticket T) = λ s. filter (λ (e : ℕ × Ticket T). e.1.party == s) order in
      let front_is : (s : ℕ) → front s ≡ tickets (mine s) = λ s. filter_map (λ (t : Ticket T). t.party == s) (λ (e : ℕ × Ticket T). e.1) order in
      let part_is : (k s : ℕ) → put_by s (taken_at vs k) ≡ taken_by k (mine s) =
      λ k s. ap (put_by s) (sym (takes k)) ∙ (filter_map (λ (t : Ticket T). t.party == s) (λ (e : ℕ × Ticket T). e.1) (filter (λ (e : ℕ × Ticket T). e.0 == k) order)
      ∙ ap tickets (filters (λ (e : ℕ × Ticket T). e.1.party == s) (λ (e : ℕ × Ticket T). e.0 == k) order)) in
      let rising : (s : ℕ) → Rises (λ (e : ℕ × Ticket T). number e.1.item) 0 (mine s) =
      λ s. rises_from_map num (λ (e : ℕ × Ticket T). e.1) 0 (mine s) (subst (Rises num 0) (front_is s)
      (rises_front num 0 (front s) (put_by s left) (subst (Rises num 0) (sym (whole s)) (rises_numbered num 0 (put_at vs s) (λ i t e. let n = numbered s i t e in omega (arith, n)))))) in
      let place : (k s i : ℕ) (t : Ticket T) → get_elem? (put_by s (taken_at vs k)) i ≡ some t → (j : ℕ) × (get_elem? (front s) j ≡ some t) =
      λ k s i t e.
      let m = of_map (λ (d : ℕ × Ticket T). d.1) (filter (λ (d : ℕ × Ticket T). d.0 == k) (mine s)) i t (ap (λ l. get_elem? l i) (sym (part_is k s)) ∙ e) in
      let f = of_filter (λ (d : ℕ × Ticket T). d.0 == k) (mine s) i m.0 m.1 in
      (f.0, ap (λ l. get_elem? l f.0) (front_is s) ∙ (at_map (λ (d : ℕ × Ticket T). d.1) (mine s) f.0 m.0 f.1 ∙ ap some m.2)) in
      let stands : (s j : ℕ) (t : Ticket T) → get_elem? (front s) j ≡ some t → get_elem? (put_at vs s) j ≡ some t = λ s j t e. ap (λ l. get_elem? l j) (sym (whole s)) ∙ at_longer (front s) (put_by s left) j t e in
      let stands_left : (s j : ℕ) (t : Ticket T) → get_elem? (put_by s left) j ≡ some t → get_elem? (put_at vs s) (length (front s) + j) ≡ some t =
      λ s j t e. ap (λ l. get_elem? l (length (front s) + j)) (sym (whole s)) ∙ behind (front s) (put_by s left) j t e in
      record {
        once = λ s n.
            let test : Ticket T → Bool = is_at number s n in
            let one = total_same (λ k. times test (taken_at vs k)) (λ k. times test (taken_by k order)) (length vs) (λ k lt. ap (times test) (sym (takes k))) in
            let two = by_party test order (length vs) (few_take order (length vs) (λ k le. (o.no_other k le).1)) in
            let three = times_append test (tickets order) left in
            let four : times test all ≡ times (λ t. num t == n) (put_at vs s) = at_own number s n all ∙ ap (times (λ t. num t == n)) (puts s) in
            let five = numbered_once number n 0 (put_at vs s) (λ i t e. let m = numbered s i t e in omega (arith, m)) in
            let plain : n ≡ 0 + n = omega arith in
            let six : times (λ t. num t == n) (put_at vs s) ≡ times (λ t. num t == (0 + n)) (put_at vs s) = ap (λ (m : ℕ). times (λ t. num t == m) (put_at vs s)) plain in
            omega (arith, one, two, three, four, five, six);
        rises = λ k s. subst (Rises num 0) (sym (part_is k s)) (rises_to_map num (λ (e : ℕ × Ticket T). e.1) 0 (filter (λ (e : ℕ × Ticket T). e.0 == k) (mine s)) (rises_filter (λ (e : ℕ × Ticket T). number e.1.item) (λ (e : ℕ × Ticket T). e.0 == k) 0 (mine s) (rising s)));
        above = λ k s i j t u e e'.
            let p = place k s i t e in
            let a = numbered s p.0 t (stands s p.0 t p.1) in
            let b = numbered s (length (front s) + j) u (stands_left s j u e') in
            let h = inside (front s) p.0 t p.1 in
            omega (arith, a, b, h);
        own = λ k s i t e.
            let p = place k s i t e in
            let at = stands s p.0 t p.1 in
            ap (λ (n : ℕ). get_elem? (put_at vs s) n) (numbered s p.0 t at) ∙ at;
        own_left = λ s i t e.
            let at = stands_left s i t e in
            ap (λ (n : ℕ). get_elem? (put_at vs s) n) (numbered s (length (front s) + i) t at) ∙ at;
      }
