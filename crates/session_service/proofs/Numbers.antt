-- The numbers of the arenas, and where a sector lies among them.
use Rattle.std.proofs.Common.{◌≡◌, ◌≢◌, ◌⊎◌, inl, inr, ℕ, zero, suc, ◌+◌, ◌-◌, ◌<◌, ◌≤◌, List, [], ◌∷◌, ◌++◌, length, length-append, get_or, map, take, Bool, true, false, Option, Some, None, Result, Ok, Err, ◌^◌, refl, sym, ap, ◌∙◌, subst, arith}
use Rattle.std.specs.Prelude.{if◌then◌else◌, nat_lt, IfOk}
use Rattle.std.proofs.lemmas.List.{length-map, get_or-map}
use Rattle.std.proofs.lemmas.List.Sums.{sum_by-cons}
use Rattle.std.proofs.Math.ListN.{get_or-append}
use Rattle.turn_lock.proofs.Places.{there}
use Rattle.arena_layout.specs.declared.layout.Layout.{Layout}
use Rattle.session_account.specs.declared.reply.Reply.{Reply}
use Rattle.session_account.specs.declared.reply.Reply.TheVariants as reply
use Rattle.session_account.specs.Sectors.{on_open, on_spot}
use Rattle.session_account.specs.Serving.{Served, Serving, Shape, Spot, IsArena, arenas_by, no_serving, sectors_of, served_from, spot_by, spot_from}
use Rattle.session_service.specs.declared.finding.FoundSector.{FoundSector}
use Rattle.session_service.specs.declared.namespaces.NamespaceArenas.{NamespaceArenas}
use Rattle.session_service.specs.Namespaces.{AreLaid, FirstsFrom, HasNone, IsFirstOf, IsFound, IsFoundAt, LiesAt, arenas_in, number_at, externals, external_in, serving_at, servings_at, shape_as}

-- ---- numbers

pub number_there : (all : List Serving) (place k : ℕ) → IsArena all place k → number_at all place k < length (arenas_in all)
number_there [] place k h = absurd (omega (arith, h))
number_there (s ∷ all) zero k h = omega (arith, h, length-append s.arenas (arenas_in all))
number_there (s ∷ all) (suc place) k h = let r = number_there all place k h in omega (arith, r, length-append s.arenas (arenas_in all))

pub behind : {A : Type 0} (xs ys : List A) (j : ℕ) (d : A) → get_or (xs ++ ys) (length xs + j) d ≡ get_or ys j d
behind [] ys j d = let e : 0 + j ≡ j = omega arith in ap (λ (i : ℕ). get_or ys i d) e
behind (x ∷ xs) ys j d = let e : length (x ∷ xs) + j ≡ suc (length xs + j) = omega arith in ap (λ (i : ℕ). get_or (x ∷ xs ++ ys) i d) e ∙ behind xs ys j d

pub number_shape : (all : List Serving) (place k : ℕ) (d : Shape) → IsArena all place k → get_or (arenas_in all) (number_at all place k) d ≡ get_or (get_or all place no_serving).arenas k d
number_shape [] place k d h = absurd (omega (arith, h))
number_shape (s ∷ all) zero k d h = get_or-append s.arenas (arenas_in all) d k h
number_shape (s ∷ all) (suc place) k d h = behind s.arenas (arenas_in all) (number_at all place k) d ∙ number_shape all place k d h

-- two arenas have two numbers
pub number_apart : (all : List Serving) (p n place k : ℕ) → IsArena all p n → IsArena all place k → (p ≢ place) ⊎ (n ≢ k) → number_at all p n ≡ number_at all place k → ⊥
number_apart [] p n place k h g ne e = absurd (omega (arith, h))
number_apart (s ∷ all) zero n zero k h g (inl ne) e = ne refl
number_apart (s ∷ all) zero n zero k h g (inr ne) e = ne e
number_apart (s ∷ all) zero n (suc place) k h g ne e = absurd (omega (arith, h, e))
number_apart (s ∷ all) (suc p) n zero k h g ne e = absurd (omega (arith, g, e))
number_apart (s ∷ all) (suc p) n (suc place) k h g (inl ne) e = number_apart all p n place k h g (inl (λ x. ne (omega (arith, x)))) (omega (arith, e))
number_apart (s ∷ all) (suc p) n (suc place) k h g (inr ne) e = number_apart all p n place k h g (inr ne) (omega (arith, e))

pub number_low : (all : List Serving) (place : ℕ) → place < length all → number_at all place 0 + length (get_or all place no_serving).arenas ≤ length (arenas_in all)
number_low [] place h = absurd (omega (arith, h))
number_low (s ∷ all) zero h = omega (arith, length-append s.arenas (arenas_in all))
number_low (s ∷ all) (suc place) h = let r = number_low all place (omega (arith, h)) in omega (arith, r, length-append s.arenas (arenas_in all))

pub first_at : (n : ℕ) (places : List NamespaceArenas) (i k : ℕ) (d : NamespaceArenas) → FirstsFrom n places → i < length places → (get_or places i d).first + k ≡ n + number_at (servings_at places) i k
first_at n [] i k d h lt = absurd (omega (arith, lt))
first_at n (p ∷ ps) zero k d h lt = ap (λ (m : ℕ). m + k) h.0
first_at n (p ∷ ps) (suc i) k d h lt =
    let r = first_at (n + length p.arenas.items) ps i k d h.1 (omega (arith, lt)) in
    let l : length (map shape_as p.arenas.items) ≡ length p.arenas.items = length-map p.arenas.items shape_as in
    omega (arith, r, l)

-- ---- a sector of a namespace

lower : (a b : ℕ) → a < b → nat_lt a b ≡ true
lower a b lt = grind (arith)

not_lower : (a b : ℕ) → b ≤ a → nat_lt a b ≡ false
not_lower a b le = grind (arith)

externals_more : (l : Layout) (ls : List Layout) → externals (l ∷ ls) ≡ l.external + externals ls
externals_more l ls = sum_by-cons external_in l ls

externals_take : (k : ℕ) (l : Layout) (ls : List Layout) → externals (take (suc k) (l ∷ ls)) ≡ l.external + externals (take k ls)
externals_take k l ls = sum_by-cons external_in l (take k ls)

abbrev pub spot_at : ℕ → ℕ → ℕ → Shape → Spot
spot_at place k own shape = record { place = place; arena = k; own = own; shape = shape }

pub lies_spot : (place base : ℕ) (ls : List Layout) (sector k own : ℕ) (d : Layout) → LiesAt ls sector k own → spot_from place base (map shape_as ls) sector ≡ Some (spot_at place (base + k) own (shape_as (get_or ls k d)))
lies_spot place base [] sector k own d h = absurd (let t = h.there in omega (arith, t))
lies_spot place base (l ∷ ls) sector zero own d h =
    let same : sector ≡ own = let e = h.is in omega (arith, e) in
    let in_it : nat_lt sector l.external ≡ true = let lt = h.inside l in lower sector l.external (omega (arith, lt, same)) in
    let at : base ≡ base + 0 = omega arith in
    ap (λ (b : Bool). if b then Some (spot_at place base sector (shape_as l)) else spot_from place (base + 1) (map shape_as ls) (sector - l.external)) in_it
    ∙ (λ i. Some (spot_at place (at i) (same i) (shape_as l)))
lies_spot place base (l ∷ ls) sector (suc k) own d h =
    let more = externals_take k l ls in
    let over : l.external ≤ sector = let e = h.is in omega (arith, e, more) in
    let rest : sector - l.external ≡ externals (take k ls) + own = let e = h.is in omega (arith, e, more) in
    let at : base + 1 + k ≡ base + suc k = omega arith in
    ap (λ (b : Bool). if b then Some (spot_at place base sector (shape_as l)) else spot_from place (base + 1) (map shape_as ls) (sector - l.external)) (not_lower sector l.external over)
    ∙ lies_spot place (base + 1) ls (sector - l.external) k own d (record { there = let t = h.there in omega (arith, t); is = rest; inside = λ e. h.inside e })
    ∙ ap (λ (a : ℕ). Some (spot_at place a own (shape_as (get_or ls k d)))) at

pub past_spot : (place base : ℕ) (ls : List Layout) (sector : ℕ) → externals ls ≤ sector → spot_from place base (map shape_as ls) sector ≡ None
past_spot place base [] sector h = refl
past_spot place base (l ∷ ls) sector h =
    ap (λ (b : Bool). if b then Some (spot_at place base sector (shape_as l)) else spot_from place (base + 1) (map shape_as ls) (sector - l.external)) (not_lower sector l.external (let more = externals_more l ls in omega (arith, h, more)))
    ∙ past_spot place (base + 1) ls (sector - l.external) (let more = externals_more l ls in omega (arith, h, more))

pub sectors_same : (ls : List Layout) → sectors_of (map shape_as ls) ≡ externals ls
sectors_same [] = refl
sectors_same (l ∷ ls) = sum_by-cons (λ (a : Shape). a.sectors) (shape_as l) (map shape_as ls) ∙ ap (λ (n : ℕ). l.external + n) (sectors_same ls) ∙ sym (externals_more l ls)

-- ---- the namespace of a UUID

abbrev pub served_at : ℕ → List Shape → Served
served_at place arenas = record { place = place; arenas = arenas }

pub served_first : (n : ℕ) (places : List NamespaceArenas) (uuid : List ℕ) (i : ℕ) (d : NamespaceArenas) → IsFirstOf places uuid i → served_from n (servings_at places) uuid ≡ Some (served_at (n + i) (map shape_as (get_or places i d).arenas.items))
served_first n [] uuid i d h = absurd (let t = h.there in omega (arith, t))
served_first n (p ∷ ps) uuid zero d h =
    let at : n ≡ n + 0 = omega arith in
    ap (λ (b : Bool). if b then Some (served_at n (map shape_as p.arenas.items)) else served_from (n + 1) (servings_at ps) uuid) (h.same p)
    ∙ ap (λ (m : ℕ). Some (served_at m (map shape_as p.arenas.items))) at
served_first n (p ∷ ps) uuid (suc i) d h =
    let at : n + 1 + i ≡ n + suc i = omega arith in
    let inner : IsFirstOf ps uuid i = record { there = let t = h.there in omega (arith, t); same = λ e. h.same e; before = λ j e lt. h.before (suc j) e (omega (arith, lt)) } in
    ap (λ (b : Bool). if b then Some (served_at n (map shape_as p.arenas.items)) else served_from (n + 1) (servings_at ps) uuid) (h.before 0 p (omega arith))
    ∙ served_first (n + 1) ps uuid i d inner
    ∙ ap (λ (m : ℕ). Some (served_at m (map shape_as (get_or ps i d).arenas.items))) at

pub served_none : (n : ℕ) (places : List NamespaceArenas) (uuid : List ℕ) → HasNone places uuid → served_from n (servings_at places) uuid ≡ None
served_none n [] uuid h = refl
served_none n (p ∷ ps) uuid h =
    ap (λ (b : Bool). if b then Some (served_at n (map shape_as p.arenas.items)) else served_from (n + 1) (servings_at ps) uuid) (h 0 p (omega arith))
    ∙ served_none (n + 1) ps uuid (λ i d lt. h (suc i) d (omega (arith, lt)))

-- ---- what `find` finds

module _ (places : List NamespaceArenas) (uuid : List ℕ) (i : ℕ) (place : NamespaceArenas) (first : IsFirstOf places uuid i) (is : place ≡ get_or places i place) where
  served_is : served_from 0 (servings_at places) uuid ≡ Some (served_at i (map shape_as place.arenas.items))
  served_is =
      let at : 0 + i ≡ i = omega arith in
      served_first 0 places uuid i place first ∙ (λ j. Some (served_at (at j) (map shape_as (sym is j).arenas.items)))

  serving_is : get_or (servings_at places) i no_serving ≡ serving_at place
  serving_is = get_or-map serving_at places i place no_serving first.there ∙ ap serving_at (sym is)

  pub is_found : (sector : ℕ) (f : FoundSector) → AreLaid places → IsFoundAt place sector f → IsFound (servings_at places) (Some uuid) sector f
  is_found sector f laid at =
      let ls = place.arenas.items in
      let x = there ls at.k at.lies.there in
      let arenas : (get_or (servings_at places) i no_serving).arenas ≡ map shape_as ls = ap (λ (s : Serving). s.arenas) serving_is in
      let zero_k : 0 + at.k ≡ at.k = omega arith in
      record {
        uuid = uuid;
        is_open = refl;
        spot = spot_at i at.k f.sector (shape_as x.0);
        spot_is =
            ap (λ (s : Option Served). spot_by s sector) served_is ∙ lies_spot i 0 ls sector at.k f.sector x.0 at.lies
            ∙ (λ j. Some (spot_at i (zero_k j) f.sector (shape_as (x.1 j))));
        there = let l = length-map ls shape_as in let e = ap (λ (s : List Shape). length s) arenas in let t = at.lies.there in omega (arith, l, e, t);
        shape_is = λ d. ap (λ (s : List Shape). get_or s at.k d) arenas ∙ get_or-map shape_as ls at.k x.0 d at.lies.there ∙ ap shape_as x.1;
        inside = subst (λ (l : Layout). f.sector < l.external) x.1 (at.lies.inside x.0);
        number_is =
            let c = first_at 0 places i at.k place laid.firsts first.there in
            let p = ap (λ (p : NamespaceArenas). p.first) is in
            let e = at.number_is in omega (arith, c, p, e);
        sector_is = refl;
        bytes_is = at.bytes_is x.0 ∙ ap (λ (l : Layout). l.sector) x.1;
      }

  pub all_found : (sector : ℕ) (result : Result FoundSector Reply) → AreLaid places → IfOk result (IsFoundAt place sector) → IfOk result (IsFound (servings_at places) (Some uuid) sector)
  all_found sector (Ok f) laid h = is_found sector f laid h
  all_found sector (Err why) laid h = tt

  low : number_at (servings_at places) i 0 + length place.arenas.items ≤ length (arenas_in (servings_at places))
  low =
      let n = length-map places serving_at in
      let ls = length-map place.arenas.items shape_as in
      let arenas = ap (λ (s : Serving). length s.arenas) serving_is in
      let t = first.there in
      let c = number_low (servings_at places) i (omega (arith, t, n)) in omega (arith, c, arenas, ls)

  -- the number of its first arena is small, and its arenas are few
  pub few_first : AreLaid places → place.first < 2 ^ 32
  few_first laid =
      let c = first_at 0 places i 0 place laid.firsts first.there in
      let p = ap (λ (p : NamespaceArenas). p.first) is in
      let f = laid.few in omega (arith, c, p, f, low)

  pub few_arenas : AreLaid places → length place.arenas.items < 2 ^ 32
  few_arenas laid = let f = laid.few in omega (arith, f, low)

  pub no_sector : (sector : ℕ) (further : Shape → Option Reply) → externals place.arenas.items ≤ sector → on_open (servings_at places) (Some uuid) sector further ≡ Some (reply.Range (externals place.arenas.items))
  no_sector sector further past =
      ap (λ (s : Option Served). on_spot (arenas_by s) (spot_by s sector) further) served_is
      ∙ ap (λ (s : Option Spot). on_spot (map shape_as place.arenas.items) s further) (past_spot i 0 place.arenas.items sector past)
      ∙ ap (λ (n : ℕ). Some (reply.Range n)) (sectors_same place.arenas.items)

pub no_namespace : (places : List NamespaceArenas) (uuid : List ℕ) (sector : ℕ) (further : Shape → Option Reply) → HasNone places uuid → on_open (servings_at places) (Some uuid) sector further ≡ Some (reply.Range 0)
no_namespace places uuid sector further none = ap (λ (s : Option Served). on_spot (arenas_by s) (spot_by s sector) further) (served_none 0 places uuid none)

pub in_err : (r : Result FoundSector Reply) (x y : Reply) → r ≡ Err x → r ≡ Err y → x ≡ y
in_err r x y a b = ap (why_of x) (sym a ∙ b)
  where
    why_of : Reply → Result FoundSector Reply → Reply
    why_of z (Err w) = w
    why_of z (Ok f) = z
