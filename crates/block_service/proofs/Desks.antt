-- Desks that were lent, and what is known of each.
use Rattle.std.proofs.Common.{◌≡◌, ℕ, zero, suc, ◌+◌, ◌^◌, ◌<◌, ◌≤◌, Bool, true, false, List, [], ◌∷◌, ◌++◌, length, map, take, drop, get_or, Option, None, sym, refl, ap, ◌∙◌, subst, arith}
use Rattle.std.specs.Prelude.{All, ◌==◌}
use Rattle.std.proofs.lemmas.Bool.{eqb-true}
use Rattle.std.proofs.lemmas.List.{append-nil, drop_all, take_all}
use Rattle.std.proofs.lemmas.List.Elements.{All-more}
use mathlib.Core.Option.{some, some-injective, some-ne-none}
use lib.ListN.{get_elem?, length-map}
use Rattle.crossbeam_queue.proofs.Lists.{at_map}
use Rattle.session_parts.specs.declared.parts.Stand.{Stand}
use Rattle.lane_calls.specs.declared.session.Sectors.{Sectors}
use Rattle.lane_calls.specs.declared.session.Session.{Session}
use Rattle.ticket_queue.proofs.Places.{of_map}
use Rattle.bio_queue.specs.declared.bio.Completed.{Completed}
use Rattle.bio_queue.specs.Lists.{AreChanged}
use Rattle.bio_queue.specs.Serving.{HasMade, IsAtWork, MayMake, NeverSwitched}
use Rattle.bio_queue.specs.Standing.{stands_of}
use Rattle.block_service.specs.Sessions.{AreOver}
use Rattle.block_service.proofs.Counts.{inside, one_there}
use Rattle.block_service.proofs.Sessions.{all_at, all_of}

pub nothing_in : {A : Type 0} (xs : List A) → length xs ≡ 0 → xs ≡ []
nothing_in [] e = refl
nothing_in (x ∷ xs) e = absurd (omega (arith, e))

is_zero : (n : ℕ) → true ≡ (n == 0) → n ≡ 0
is_zero n e = eqb-true n 0 (sym e)

-- a list that was found empty
pub found_empty : {A : Type 0} (xs : List A) (len : ℕ) (b : Bool) → len ≡ length xs → b ≡ (len == 0) → b ≡ true → xs ≡ []
found_empty xs len b long is found = nothing_in xs (sym long ∙ is_zero len (sym found ∙ is))

module _ {A : Type 0} where
  pub one_more : (xs : List A) (i : ℕ) (x : A) (P : A → Type 0) → i < length xs → x ≡ get_or xs i x → All P (take i xs) → P x → All P (take (i + 1) xs)
  one_more xs i x P lt is all own = All-more P xs i x lt all (subst P is own)

  pub all_taken : (xs : List A) (i : ℕ) (P : A → Type 0) → length xs ≤ i → All P (take i xs) → All P xs
  all_taken xs i P le all = subst (λ (l : List A). All P l) (take_all i xs le) all

  pub at_now : (xs now : List A) (k : ℕ) (d : A) → now ≡ xs → k < length now → get_elem? xs k ≡ some (get_or now k d)
  at_now xs now k d is lt = subst (λ (l : List A). get_elem? l k ≡ some (get_or now k d)) is (go now k lt)
    where
      go : (l : List A) (i : ℕ) → i < length l → get_elem? l i ≡ some (get_or l i d)
      go [] i h = absurd (omega (arith, h))
      go (y ∷ ys) zero h = refl
      go (y ∷ ys) (suc i) h = go ys i (omega (arith, h))

  pub or_there : (xs : List A) (k : ℕ) (x d : A) → get_elem? xs k ≡ some x → get_or xs k d ≡ x
  or_there [] k x d e = absurd (some-ne-none x (sym e))
  or_there (y ∷ ys) zero x d e = some-injective y x e
  or_there (y ∷ ys) (suc k) x d e = or_there ys k x d e

  pub all_in : (xs : List A) (P : A → Type 0) (k : ℕ) (x : A) → All P xs → get_elem? xs k ≡ some x → P x
  all_in xs P k x all e = all_at P xs k x all e

-- what a `Vec` has once its slice was lent
pub lent : {X : Type 0} (n : ℕ) (old new : List X) → n ≡ length old → length new ≡ length old → take n (new ++ drop (length new) old) ≡ new
lent n old new long same =
    ap (λ rest. take n (new ++ rest)) (drop_all (length new) old (omega (arith, same))) ∙ ap (λ xs. take n xs) (append-nil new) ∙ take_all n new (omega (arith, long, same))

-- of desks that changed: the one that was there before
pub before_there : {A : Type 0} {R : A → A → Type 0} (xs now new : List A) → now ≡ xs → AreChanged now new R → (k : ℕ) (d : A) → get_elem? new k ≡ some d → (x : A) × (get_elem? xs k ≡ some x) × R x d
before_there {A} {R} xs now new is changed k d e =
    let lt = inside new k d e in
    let count = changed.count in
    let here : k < length now = omega (arith, lt, count) in
    (get_or now k d, at_now xs now k d is here, subst (λ (y : A). R (get_or now k d) y) (or_there new k d d e) (changed.each k d here))

pub changed_at : {A : Type 0} {R : A → A → Type 0} (xs now new : List A) → now ≡ xs → AreChanged now new R → (k : ℕ) (d x : A) → get_elem? new k ≡ some d → get_elem? xs k ≡ some x → R x d
changed_at {A} {R} xs now new is changed k d x e f = let b = before_there xs now new is changed k d e in subst (λ (y : A). R y d) (one_there xs k b.0 x b.1 f) b.2

-- what is known of each, by the list before its elements
pub all_from_map : {A B : Type 0} (xs : List A) (ys : List B) (f : A → B) (P : B → Type 0) → map f xs ≡ ys → All P ys → All (λ a. P (f a)) xs
all_from_map xs ys f P is all = all_of (λ a. P (f a)) xs (λ k x e. all_at P ys k (f x) all (ap (λ l. get_elem? l k) (sym is) ∙ at_map f xs k x e))

-- a worker that begins
pub begins_work : {T : Type 0} (s : Sectors) (sectors width limit : ℕ) (cut : Option T) (cs : List Completed) (session : Session) → cut ≡ None → cs ≡ [] → MayMake s sectors width limit [] session → NeverSwitched session
    → IsAtWork s sectors width limit cut (stands_of cs) session
begins_work s sectors width limit cut cs session none new may on =
    subst (λ (l : List Completed). IsAtWork s sectors width limit cut (stands_of l) session) (sym new) (record {
      made = may.made;
      may = λ e n le. record {
        place_in = may.place_in;
        made = may.made;
        going = may.going;
        left = (let a = may.left in omega (arith, a, le));
        later = may.later;
        calls = (let a = may.calls in omega (arith, a, le));
        no_fuse = may.no_fuse;
        sectors_are = may.sectors_are;
        width_is = may.width_is;
      };
      told = λ some. absurd (some none);
      on = on;
    })

-- the workers' sessions, and what they made
pub sessions_over : {D : Type 0} (ds : List D) (s : Sectors) (rows : List (List Completed)) (sessions : List Session) (done : D → List Completed) (session : D → Session) → rows ≡ map done ds → sessions ≡ map session ds
    → ((k : ℕ) (d : D) → get_elem? ds k ≡ some d → ((session d).number ≡ k) × HasMade s (stands_of (done d)) (session d)) → AreOver s rows sessions
sessions_over {D} ds s rows sessions done session rows_are are each =
    subst (λ (p : List (List Completed) × List Session). AreOver s p.0 p.1) (λ i. (sym rows_are i, sym are i)) (record {
      count = (let a = length-map ds session in let b = length-map ds done in omega (arith, a, b));
      each = λ q x cs e f.
          let m = of_map session ds q x e in
          let n = of_map done ds q cs f in
          let is : n.0 ≡ m.0 = some-injective n.0 m.0 (sym n.1 ∙ m.1) in
          let rows_is : done m.0 ≡ cs = sym (ap done is) ∙ n.2 in
          let fact = each q m.0 m.1 in
          subst (λ (p : Session × List Completed). (p.0.number ≡ q) × HasMade s (stands_of p.1) p.0) (λ i. (m.2 i, rows_is i)) fact;
    })
