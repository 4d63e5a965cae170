-- The queue's account, and what each worker completed, say that all jobs were completed.
use Rattle.std.proofs.Common.{◌≡◌, ℕ, zero, suc, ◌+◌, ◌-◌, ◌<◌, ◌≤◌, Bool, true, List, [], ◌∷◌, ◌++◌, length, map, Option, None, sym, refl, ap, ◌∙◌, subst, eq-eqb, ⊎_elim, arith}
use Rattle.std.specs.Prelude.{filter, ◌==◌, ◌&&◌, option_to_list}
use Rattle.std.proofs.lemmas.Bool.{cases_lt}
use mathlib.Core.Option.{some, some-injective, some-ne-none}
use lib.ListN.{get_elem?, length-map}
use Rattle.crossbeam_queue.proofs.Lists.{at_map}
use Rattle.ticket_queue.specs.declared.ticket.Ticket.{Ticket}
use Rattle.ticket_queue.specs.declared.ticket.View.{View}
use Rattle.ticket_queue.specs.Law.{put_by}
use Rattle.ticket_queue.specs.Parties.{put_in, taken_in}
use Rattle.ticket_queue.specs.Account.{Rises, below, is_at, put_at, taken_at, times}
use Rattle.ticket_queue.proofs.Places.{of_map}
use Rattle.bio_queue.specs.declared.op.Op.{Op}
use Rattle.bio_queue.specs.declared.bio.Completed.{Completed}
use Rattle.bio_queue.specs.Lists.{AreSubmitted}
use Rattle.bio_queue.specs.Served.{AreNumbered, IsAccountOf, IsCompletedOf, IsDone}
use Rattle.bio_queue.proofs.Parties.{taken_by_second}
use Rattle.block_service.specs.Served.{AreServed, count_at, is_of, times_completed}
use Rattle.block_service.proofs.Counts.{at_same, in_filter, inside, none_in, one_there, rises_along, sum_append, sum_map, sum_none, sum_over, sum_same, there, times_along, total_is}

count_there : {J : Type 0} (jobs : List (List J)) (s : ℕ) (js : List J) → get_elem? jobs s ≡ some js → count_at jobs s ≡ length js
count_there [] s js e = absurd (some-ne-none js (sym e))
count_there (x ∷ xs) zero js e = ap length (some-injective x js e)
count_there (x ∷ xs) (suc s) js e = count_there xs s js e

count_past : {J : Type 0} (jobs : List (List J)) (s : ℕ) → length jobs ≤ s → count_at jobs s ≡ 0
count_past [] s le = refl
count_past (x ∷ xs) zero le = absurd (omega (arith, le))
count_past (x ∷ xs) (suc s) le = count_past xs s (omega (arith, le))

rows_count : {D : Type 0} (s n : ℕ) (done : D → List Completed) (ds : List D) → times_completed s n (map done ds) ≡ sum_over (λ d. times (is_of s n) (done d)) ds
rows_count s n done [] = refl
rows_count s n done (d ∷ ds) = let h = rows_count s n done ds in omega (arith, h)

module _ {D T : Type 0} (sv wv : D → View T) where
  put_nothing : (ys : List D) (s : ℕ) → ((d : D) → length (put_in (wv d)) ≡ 0) → length (put_at (map wv ys) s) ≡ 0
  put_nothing [] s none = refl
  put_nothing (y ∷ ys) zero none = none y
  put_nothing (y ∷ ys) (suc s) none = put_nothing ys s none

  put_there : (xs ys : List D) (s : ℕ) (d : D) → get_elem? xs s ≡ some d → put_at (map sv xs ++ map wv ys) s ≡ put_in (sv d)
  put_there [] ys s d e = absurd (some-ne-none d (sym e))
  put_there (x ∷ xs) ys zero d e = ap (λ (y : D). put_in (sv y)) (some-injective x d e)
  put_there (x ∷ xs) ys (suc s) d e = put_there xs ys s d e

  put_past : (xs ys : List D) (s : ℕ) → length xs ≤ s → ((d : D) → length (put_in (wv d)) ≡ 0) → length (put_at (map sv xs ++ map wv ys) s) ≡ 0
  put_past [] ys s le none = put_nothing ys s none
  put_past (x ∷ xs) ys zero le none = absurd (omega (arith, le))
  put_past (x ∷ xs) ys (suc s) le none = put_past xs ys s (omega (arith, le)) none

module _ {D T J : Type 0} {R0 : D → T → Completed → Type 0} {Q : T → J → Type 0} {R : J → Completed → Type 0}
    -- the desks before and after; nothing is left in the queue
    (xs ds : List D) (left : List (Ticket T)) (rows : List (List Completed))
    (by number : T → ℕ) (op : T → Op) (sv wv : D → View T) (jobs : D → List J) (done : D → List Completed) (cut : D → Option T) (party num : D → ℕ)
    (count : length ds ≡ length xs) (empty : length left ≡ 0) (rows_are : rows ≡ map done ds)
    (account : IsAccountOf (map sv ds ++ map wv ds) left number)
    (complete : (k : ℕ) (d : D) → get_elem? ds k ≡ some d → IsDone (taken_in (wv d)) (done d) (cut d) (R0 d))
    (submitted : (k : ℕ) (d x : D) → get_elem? ds k ≡ some d → get_elem? xs k ≡ some x → AreSubmitted (put_in (sv x)) (put_in (sv d)) (jobs x) (jobs d) Q)
    (numbered : (d : D) → AreNumbered (put_in (sv d)) (party d) by number)
    (takes_none : (d : D) → length (taken_in (sv d)) ≡ 0) (puts_none : (d : D) → length (put_in (wv d)) ≡ 0)
    (at_place : (k : ℕ) (d : D) → get_elem? ds k ≡ some d → (party d ≡ k) × (num d ≡ k))
    (new : (k : ℕ) (x : D) → get_elem? xs k ≡ some x → length (put_in (sv x)) ≡ 0)
    (over : (k : ℕ) (d : D) → get_elem? ds k ≡ some d → (length (jobs d) ≡ 0) × (cut d ≡ None))
    (made : (d : D) (b : T) (c : Completed) → R0 d b c → IsCompletedOf (by b) (number b) (op b) (num d) c)
    (become : (d : D) (b : T) (j : J) (c : Completed) → Q b j → R0 d b c → R j c) where
  abbrev vs : List (View T)
  vs = map sv ds ++ map wv ds

  -- where a ticket that a worker took was put
  record IsFrom (t : Ticket T) : Type 0 where
    pub desk_of : D
    pub at : get_elem? ds t.party ≡ some desk_of
    pub place : get_elem? (put_in (sv desk_of)) (number t.item) ≡ some t
    pub by_is : by t.item ≡ t.party

  from : (k i : ℕ) (d : D) (t : Ticket T) → get_elem? ds k ≡ some d → get_elem? (taken_in (wv d)) i ≡ some t → IsFrom t
  from k i d t at e =
      let taken : get_elem? (taken_at vs (length ds + k)) i ≡ some t = ap (λ l. get_elem? l i) (taken_by_second sv wv ds ds k d at) ∙ e in
      let mine = in_filter (λ (u : Ticket T). u.party == t.party) (taken_at vs (length ds + k)) i t taken (eq-eqb t.party t.party refl) in
      let own = account.own (length ds + k) t.party mine.0 t mine.1 in
      ⊎_elim
      (λ (lt : t.party < length ds).
      let x = there ds t.party lt in
      let place : get_elem? (put_in (sv x.0)) (number t.item) ≡ some t = ap (λ l. get_elem? l (number t.item)) (sym (put_there sv wv ds ds t.party x.0 x.1)) ∙ own in
      record { desk_of = x.0; at = x.1; place = place; by_is = (numbered x.0 (number t.item) t place).0 ∙ (at_place t.party x.0 x.1).0 })
      (λ (le : length ds ≤ t.party).
      let a = inside (put_at vs t.party) (number t.item) t own in
      let b = put_past sv wv ds ds t.party le puts_none in
      absurd (omega (arith, a, b)))
      (cases_lt t.party (length ds))

  -- all that a worker took is completed
  as_many : (k : ℕ) (d : D) → get_elem? ds k ≡ some d → length (taken_in (wv d)) ≡ length (done d)
  as_many k d at =
      let n = (complete k d at).count in
      let none = ap (λ (o : Option T). length (option_to_list o)) (over k d at).1 in
      omega (arith, n, none)

  -- what a worker completed is the ticket that it took at that place
  same_test : (s n k : ℕ) (d : D) → get_elem? ds k ≡ some d → (i : ℕ) (t : Ticket T) (c : Completed) → get_elem? (taken_in (wv d)) i ≡ some t → get_elem? (done d) i ≡ some c → is_at number s n t ≡ is_of s n c
  same_test s n k d at i t c e f =
      let o = made d t.item c ((complete k d at).each i t c e f) in
      let a : t.party ≡ c.submitter = sym (o.submitter_is ∙ (from k i d t at e).by_is) in
      let b : number t.item ≡ c.number = sym o.number_is in
      λ z. (a z == s) && (b z == n)

  put_count : (s : ℕ) → length (put_at vs s) ≡ count_at (map jobs xs) s
  put_count s = ⊎_elim
      (λ (lt : s < length ds).
      let d = there ds s lt in
      let x = there xs s (omega (arith, lt, count)) in
      let sum = (submitted s d.0 x.0 d.1 x.1).sum in
      let a = ap length (put_there sv wv ds ds s d.0 d.1) in
      let b = count_there (map jobs xs) s (jobs x.0) (at_map jobs xs s x.0 x.1) in
      let none = new s x.0 x.1 in
      let left = (over s d.0 d.1).0 in
      omega (arith, a, b, sum, none, left))
      (λ (le : length ds ≤ s).
      let a = put_past sv wv ds ds s le puts_none in
      let b = count_past (map jobs xs) s (let m = length-map xs jobs in omega (arith, m, le, count)) in
      omega (arith, a, b))
      (cases_lt s (length ds))

  once : (s n : ℕ) → times_completed s n (map done ds) ≡ below n (count_at (map jobs xs) s)
  once s n =
      let p : Ticket T → Bool = is_at number s n in
      let all = account.once s n in
      let none_left = none_in p left empty in
      let total = total_is p vs in
      let parts = sum_append (λ v. times p (taken_in v)) (map sv ds) (map wv ds) in
      let first = sum_map (λ v. times p (taken_in v)) sv ds in
      let none = sum_none (λ (d : D). times p (taken_in (sv d))) ds (λ d. none_in p (taken_in (sv d)) (takes_none d)) in
      let second = sum_map (λ v. times p (taken_in v)) wv ds in
      let same = sum_same (λ (d : D). times p (taken_in (wv d))) (λ d. times (is_of s n) (done d)) ds (λ k d at. times_along p (is_of s n) (taken_in (wv d)) (done d) (as_many k d at) (same_test s n k d at)) in
      let rows = rows_count s n done ds in
      let counted = ap (below n) (put_count s) in
      omega (arith, all, none_left, total, parts, first, none, second, same, rows, counted)

  -- a row and its desk
  record IsRow (w : ℕ) (cs : List Completed) : Type 0 where
    pub desk_of : D
    pub at : get_elem? ds w ≡ some desk_of
    pub is : done desk_of ≡ cs

  row : (w : ℕ) (cs : List Completed) → get_elem? (map done ds) w ≡ some cs → IsRow w cs
  row w cs e = let m = of_map done ds w cs e in record { desk_of = m.0; at = m.1; is = m.2 }

  in_row : (w i : ℕ) (cs : List Completed) (c : Completed) (r : IsRow w cs) → get_elem? cs i ≡ some c → (t : Ticket T) × (get_elem? (taken_in (wv r.desk_of)) i ≡ some t) × (get_elem? (done r.desk_of) i ≡ some c)
  in_row w i cs c r e =
      let mine : get_elem? (done r.desk_of) i ≡ some c = ap (λ l. get_elem? l i) r.is ∙ e in
      let lt = inside (done r.desk_of) i c mine in
      let many = as_many w r.desk_of r.at in
      let t = there (taken_in (wv r.desk_of)) i (omega (arith, lt, many)) in
      (t.0, t.1, mine)

  made_by : (w i : ℕ) (cs : List Completed) (c : Completed) → get_elem? (map done ds) w ≡ some cs → get_elem? cs i ≡ some c → c.worker ≡ w
  made_by w i cs c e f =
      let r = row w cs e in
      let x = in_row w i cs c r f in
      (made r.desk_of x.0.item c ((complete w r.desk_of r.at).each i x.0 c x.1 x.2)).worker_is ∙ (at_place w r.desk_of r.at).1

  each_job : (w i k : ℕ) (cs : List Completed) (c : Completed) (js : List J) (j : J) → get_elem? (map done ds) w ≡ some cs → get_elem? cs i ≡ some c
      → get_elem? (map jobs xs) c.submitter ≡ some js → c.number + k + 1 ≡ length js → get_elem? js k ≡ some j → R j c
  each_job w i k cs c js j e f g long h =
      let r = row w cs e in
      let y = in_row w i cs c r f in
      let t : Ticket T = y.0 in
      let fact = (complete w r.desk_of r.at).each i t c y.1 y.2 in
      let o = made r.desk_of t.item c fact in
      let source = from w i r.desk_of t r.at y.1 in
      let party_is : c.submitter ≡ t.party = o.submitter_is ∙ source.by_is in
      let m = of_map jobs xs c.submitter js g in
      let sub = submitted t.party source.desk_of m.0 source.at (at_same xs c.submitter t.party m.0 party_is m.1) in
      let number_is = o.number_is in
      let whole = ap length m.2 in
      let none = new c.submitter m.0 m.1 in
      let ts : List (Ticket T) = put_in (sv source.desk_of) in
      let place : get_elem? ts (length (put_in (sv m.0)) + number t.item) ≡ some t = at_same ts (number t.item) (length (put_in (sv m.0)) + number t.item) t (omega (arith, none)) source.place in
      become r.desk_of t.item j c (sub.each (number t.item) k t j (omega (arith, long, number_is, whole)) place (ap (λ l. get_elem? l k) m.2 ∙ h)) fact

  rising : (w s : ℕ) (cs : List Completed) → get_elem? (map done ds) w ≡ some cs → Rises (λ (c : Completed). c.number) 0 (filter (λ (c : Completed). c.submitter == s) cs)
  rising w s cs e =
      let r = row w cs e in
      let d : D = r.desk_of in
      subst (λ (l : List Completed). Rises (λ (c : Completed). c.number) 0 (filter (λ (c : Completed). c.submitter == s) l)) r.is
      (rises_along (λ (t : Ticket T). t.party == s) (λ (c : Completed). c.submitter == s) (λ (t : Ticket T). number t.item) (λ (c : Completed). c.number) 0 (taken_in (wv d)) (done d) (as_many w d r.at)
      (λ i t c at f.
      let o = made d t.item c ((complete w d r.at).each i t c at f) in
      let a : t.party ≡ c.submitter = sym (o.submitter_is ∙ (from w i d t r.at at).by_is) in
      (ap (λ (n : ℕ). n == s) a, sym o.number_is))
      (subst (λ (l : List (Ticket T)). Rises (λ (t : Ticket T). number t.item) 0 (put_by s l)) (taken_by_second sv wv ds ds w d r.at) (account.rises (length ds + w) s)))

  served : AreServed (map jobs xs) (map done ds) R
  served = record {
    count = (let a = length-map ds done in let b = length-map xs jobs in omega (arith, a, b, count));
    once = once;
    by = made_by;
    each = each_job;
    rises = rising;
  }

  pub all_served : AreServed (map jobs xs) rows R
  all_served = subst (λ (l : List (List Completed)). AreServed (map jobs xs) l R) (sym rows_are) served

pub served_as : {J : Type 0} {R : J → Completed → Type 0} (jobs jobs' : List (List J)) (rows rows' : List (List Completed)) → jobs ≡ jobs' → rows ≡ rows' → AreServed jobs rows R → AreServed jobs' rows' R
served_as {J} {R} jobs jobs' rows rows' a b served = subst (λ (p : List (List J) × List (List Completed)). AreServed p.0 p.1 R) (λ i. (a i, b i)) served
