-- Arenas are made, one after another.
use Rattle.std.proofs.Common.{◌≡◌, ℕ, zero, suc, ◌+◌, ◌<◌, ◌≤◌, List, [], ◌∷◌, ◌++◌, length, length-drop, get_or, map, drop, take, Option, Some, None, refl, sym, ap, ◌∙◌, subst, arith}
use Rattle.std.specs.Prelude.{All, Vec, slice_get}
use mathlib.Core.List.{map-append}
use mathlib.Core.Option.{some}
use lib.ListN.{get_elem?}
use Rattle.std.proofs.lemmas.Option.{get_or_from_slice_get, slice_get-get_or, slice_get_within}
use Rattle.std.proofs.lemmas.List.{length-map, length-take}
use Rattle.turn_lock.proofs.Places.{each_push, there}
use Rattle.arena_open.specs.declared.state.ArenaState.{ArenaState}
use Rattle.lane_core.specs.declared.shape.Shape.{Shape}
use Rattle.lane_table.specs.declared.arena.Arena.{Arena}
use Rattle.lane_table.specs.declared.lanes.Kit.{Kit}
use Rattle.lane_table.specs.declared.lanes.Lane.{Lane}
use Rattle.lane_table.specs.declared.lanes.LaneEnd.{LaneEnd}
use Rattle.lane_table.specs.declared.lanes.LaneEnd.TheVariants.{Idle}
use Rattle.lane_table.specs.declared.session_pass.Pass.{Pass}
use Rattle.lane_table.specs.declared.table.View.{View}
use Rattle.lane_table.specs.Begun.{AreFresh, IsMadeOf}
use Rattle.lane_table.specs.Kits.{IsOf, arena_id, held_in, kit_in}
use Rattle.lane_table.specs.Law.{made_pass, next_pass, pass_now}
use Rattle.lane_pool.specs.declared.sets.LaneSet.{LaneSet}
use Rattle.lane_pool.specs.Sets.{IsIdleEnd, WhichLane, lane_of}
use Rattle.lane_sessions.specs.declared.arenas.Column.{Column}
use Rattle.lane_sessions.specs.declared.arenas.Laid.{Laid}
use Rattle.lane_sessions.specs.declared.arenas.Plan.{Plan}
use Rattle.lane_sessions.specs.Making.{AreAside, AreLaid, AreNumbered, IsColumn, IsEndOf, IsPassOf, IsSetEnd}
use Rattle.lane_sessions.specs.Rows.{Along, AreRows, Gain}
use Rattle.lane_sessions.specs.Sets.{made_by, which}
use Rattle.lane_sessions.proofs.Along.{along_none, along_push, rows_none, rows_push}

none_some : {A : Type 0} {x : A} → None ≡ Some x → ⊥
none_some e = cc

in_some : {A : Type 0} {x y : A} → Some x ≡ Some y → x ≡ y
in_some e = cc

-- ---- the lanes of a new arena

elem_of : {A : Type 0} (xs : List A) (i : ℕ) (x : A) → slice_get xs i ≡ Some x → get_elem? xs i ≡ some x
elem_of [] i x e = absurd (none_some e)
elem_of (y ∷ ys) zero x e = ap (λ z. some z) (in_some e)
elem_of (y ∷ ys) (suc i) x e = elem_of ys i x e

-- each lane of an arena is idle, holds no pass, and lane 0 has made so many
abbrev pub AreLanes : ℕ → Arena → List Lane → Type 0
AreLanes sessions a lanes = (i : ℕ) (l : Lane) → slice_get lanes i ≡ Some l → (lane_of l.kit ≡ which sessions a i) × (held_in l.kit ≡ [])

made_none : (i : ℕ) → made_by 0 i ≡ 0
made_none zero = refl
made_none (suc i) = refl

module _ (a : Arena) (lanes : List Lane) (fresh : AreFresh (arena_id a) a.table.shared.key lanes) (own : All (λ (l : Lane). IsOf a l.kit) lanes) (free : All (λ (l : Lane). (held_in l.kit ≡ []) × (l.kit.made ≡ 0)) lanes) where
  lane_number : (i : ℕ) (d : Lane) → i < length lanes → (get_or lanes i d).kit.number ≡ i
  lane_number i d h = (fresh.each i (get_or lanes i d) (elem_of lanes i (get_or lanes i d) (slice_get-get_or lanes i d h))).number

  pub count_lanes : length lanes ≡ a.shape.lanes
  count_lanes = fresh.count ∙ ap (λ (x : Shape). x.lanes) a.shape_is

  pub some_lanes : 0 < length lanes
  some_lanes = let n = count_lanes in let m = a.some.0 in omega (arith, n, m)

  pub first_lane : (d : Lane) → IsOf a (get_or lanes 0 d).kit × ((get_or lanes 0 d).kit.number ≡ 0) × ((get_or lanes 0 d).kit.made ≡ 0)
  first_lane d = (own 0 d some_lanes, lane_number 0 d some_lanes, (free 0 d some_lanes).1)

  pub new_lanes : AreLanes 0 a lanes
  new_lanes i l is =
      let lt : i < length lanes = slice_get_within lanes i l is in
      let same : get_or lanes i l ≡ l = get_or_from_slice_get lanes i l l is in
      let at : IsOf a l.kit = subst (λ (l : Lane). IsOf a l.kit) same (own i l lt) in
      let number : l.kit.number ≡ i = ap (λ (l : Lane). l.kit.number) (sym same) ∙ lane_number i l lt in
      let no : (held_in l.kit ≡ []) × (l.kit.made ≡ 0) = subst (λ (l : Lane). (held_in l.kit ≡ []) × (l.kit.made ≡ 0)) same (free i l lt) in
      let made : l.kit.made ≡ made_by 0 i = no.1 ∙ sym (made_none i) in ((λ k. record { table = at.0 k; shape = at.1 k; number = number k; made = made k }), no.0)

-- after lane 0 made so many passes
module _ (n : ℕ) (a : Arena) (lanes lanes' : List Lane) (some_are : 0 < length lanes) (same : length lanes' ≡ length lanes) (are : AreLanes 0 a lanes)
    (first : (d : Lane) → (lane_of (get_or lanes' 0 d).kit ≡ record (lane_of (get_or lanes 0 d).kit) { made = n }) × (held_in (get_or lanes' 0 d).kit ≡ held_in (get_or lanes 0 d).kit))
    (others : (i : ℕ) (d : Lane) → 0 < i → i < length lanes → get_or lanes' i d ≡ get_or lanes i d) where
  pub made_lanes : AreLanes n a lanes'
  made_lanes zero l is =
      let at : get_or lanes' 0 l ≡ l = get_or_from_slice_get lanes' 0 l l is in
      let old = are 0 (get_or lanes 0 l) (slice_get-get_or lanes 0 l some_are) in
      let f = first l in (
        ap (λ (l : Lane). lane_of l.kit) (sym at) ∙ f.0 ∙ ap (λ (w : WhichLane). record w { made = n }) old.0,
        ap (λ (l : Lane). held_in l.kit) (sym at) ∙ f.1 ∙ old.1,
      )
  made_lanes (suc i) l is =
      let lt : suc i < length lanes = omega (arith, slice_get_within lanes' (suc i) l is, same) in
      let at : get_or lanes' (suc i) l ≡ l = get_or_from_slice_get lanes' (suc i) l l is in
      are (suc i) l (slice_get-get_or lanes (suc i) l lt ∙ ap (λ l. Some l) (sym (others (suc i) l (omega arith) lt) ∙ at))

-- ---- a pass more

-- the pass that a lane makes, which has made so many
pub new_pass : (a : Arena) (k : Kit) (q : ℕ) (t : Pass) → k.number ≡ 0 → k.made ≡ q → t.seat.table_id ≡ arena_id a → t.session ≡ k.made → t.seat.me.0 ≡ made_pass k.seat.me.0 → IsPassOf q a (Some t)
new_pass a k q t zero_is made table session is = record {
  pass = t;
  is = refl;
  table_is = table;
  session = session ∙ made;
  loose = ap (λ (v : View). v.loose) is ∙ ap (λ ts. (next_pass ts).loose) (k.makes zero_is) ∙ ap (λ (n : ℕ). pass_now n 0 []) made;
}

pub passes_push : (a : Arena) (passes : List (Option Pass)) (o : Option Pass) → ((q : ℕ) (d : Option Pass) → q < length passes → IsPassOf q a (get_or passes q d)) → IsPassOf (length passes) a o → (q : ℕ) (d : Option Pass) → q < length (passes ++ o ∷ []) → IsPassOf q a (get_or (passes ++ o ∷ []) q d)
passes_push a passes o = each_push (λ q o. IsPassOf q a o) passes o

-- ---- an arena more

module _ (p : Plan) (states : List ArenaState) (state : ArenaState) (x x' : Laid) (c : Column) (laid : AreLaid p states x) (col : IsColumn p state c) where
  pub laid_more : x'.arenas.items ≡ x.arenas.items ++ c.arena ∷ [] → Gain x.ends.items c.ends.items x'.ends.items → x'.aside.items ≡ x.aside.items ++ c.aside ∷ [] → Gain x.passes.items c.passes.items x'.passes.items → AreLaid p (states ++ state ∷ []) x'
  laid_more arenas ends aside passes = record {
    made = subst (λ l. Along IsMadeOf (states ++ state ∷ []) l) (sym arenas) (along_push IsMadeOf states x.arenas.items state c.arena laid.made col.made);
    sets = ends.same ∙ laid.sets;
    ends = subst (λ l. AreRows (IsSetEnd p) l x'.ends.items) (sym arenas)
        (rows_push (IsSetEnd p) x.arenas.items c.arena x.ends.items x'.ends.items c.ends.items laid.ends ends (col.sets ∙ sym laid.sets) (λ i e h. col.ends i e (omega (arith, h, col.sets))));
    aside = subst (λ l. Along (AreAside p) l x'.aside.items) (sym arenas)
        (subst (λ l. Along (AreAside p) (x.arenas.items ++ c.arena ∷ []) l) (sym aside) (along_push (AreAside p) x.arenas.items x.aside.items c.arena c.aside laid.aside col.aside));
    sessions = passes.same ∙ laid.sessions;
    passes = subst (λ l. AreRows IsPassOf l x'.passes.items) (sym arenas)
        (rows_push IsPassOf x.arenas.items c.arena x.passes.items x'.passes.items c.passes.items laid.passes passes (col.sessions ∙ sym laid.sessions) (λ q o h. col.passes q o (omega (arith, h, col.sessions))));
  }

-- no arena
pub none_laid : (p : Plan) (x : Laid) → x.arenas.items ≡ [] → x.aside.items ≡ [] → length x.ends.items ≡ p.sets → All (λ row. row.items ≡ []) x.ends.items → length x.passes.items ≡ p.sessions → All (λ row. row.items ≡ []) x.passes.items → AreLaid p [] x
none_laid p x arenas aside sets ends sessions passes = record {
  made = subst (λ l. Along IsMadeOf [] l) (sym arenas) (along_none IsMadeOf);
  sets = sets;
  ends = subst (λ l. AreRows (IsSetEnd p) l x.ends.items) (sym arenas) (rows_none (IsSetEnd p) x.ends.items ends);
  aside = subst (λ l. Along (AreAside p) l x.aside.items) (sym arenas) (subst (λ l. Along (AreAside p) [] l) (sym aside) (along_none (AreAside p)));
  sessions = sessions;
  passes = subst (λ l. AreRows IsPassOf l x.passes.items) (sym arenas) (rows_none IsPassOf x.passes.items passes);
}

-- ---- the lanes of one arena

get_drop : {A : Type 0} (n : ℕ) (xs : List A) (k : ℕ) → slice_get (drop n xs) k ≡ slice_get xs (n + k)
get_drop zero xs k = ap (λ (m : ℕ). slice_get xs m) (let e : k ≡ 0 + k = omega arith in e)
get_drop (suc n) [] k = refl
get_drop (suc n) (x ∷ xs) k = get_drop n xs k ∙ ap (λ (m : ℕ). slice_get (x ∷ xs) m) (let e : suc (n + k) ≡ suc n + k = omega arith in e)

get_take : {A : Type 0} (n : ℕ) (xs : List A) (k : ℕ) → k < n → slice_get (take n xs) k ≡ slice_get xs k
get_take zero xs k h = absurd (omega (arith, h))
get_take (suc n) [] k h = refl
get_take (suc n) (x ∷ xs) zero h = refl
get_take (suc n) (x ∷ xs) (suc k) h = get_take n xs k (omega (arith, h))

its_lane : {A B : Type 0} (f : A → B) (xs : List A) (k : ℕ) (y : B) → slice_get (map f xs) k ≡ Some y → (x : A) × (slice_get xs k ≡ Some x) × (f x ≡ y)
its_lane f [] k y e = absurd (none_some e)
its_lane f (x ∷ xs) zero y e = (x, refl, in_some e)
its_lane f (x ∷ xs) (suc k) y e = its_lane f xs k y e

module _ (p : Plan) (a : Arena) (lanes : List Lane) (count : length lanes ≡ a.shape.lanes) (few : p.sets ≤ a.shape.lanes) (are : AreLanes p.sessions a lanes) where
  pub set_ends : (ends : List (Option LaneEnd)) → Along (IsEndOf p.calls) (take p.sets lanes) ends → (i : ℕ) (e : Option LaneEnd) → i < p.sets → IsSetEnd p i a (get_or ends i e)
  set_ends ends along i e h =
      let lt : i < length lanes = omega (arith, h, few, count) in
      let l = there_lane i lt in
      let at = along.each i l.0 e (get_take p.sets lanes i h ∙ l.1) in (at.0 ∙ ap (λ (w : WhichLane). Some w) (are i l.0 l.1).0, at.1)
    where
      there_lane : (i : ℕ) → i < length lanes → (l : Lane) × (slice_get lanes i ≡ Some l)
      there_lane i lt = let l = there lanes i lt in (l.0, slice_get-get_or lanes i l.0 lt ∙ ap (λ l. Some l) l.1)

  pub set_free : All (λ (l : Lane). held_in l.kit ≡ []) (take p.sets lanes)
  set_free i d h =
      let lt : i < p.sets = (let n = length-take p.sets lanes in omega (arith, h, n)) in
      (are i (get_or (take p.sets lanes) i d) (sym (get_take p.sets lanes i lt) ∙ slice_get-get_or (take p.sets lanes) i d h)).1

  pub are_aside : {Z : Type 0} (ends : Vec LaneEnd Z) → ends.items ≡ map (λ x. Idle x) (drop p.sets lanes) → AreAside p a ends
  are_aside ends is = record {
    rest = let n = ap (λ l. length l) is ∙ length-map (drop p.sets lanes) (λ x. Idle x) ∙ length-drop p.sets lanes in omega (arith, n, few, count);
    others = λ k e at.
        let l = its_lane (λ x. Idle x) (drop p.sets lanes) k e (ap (λ l. slice_get l k) (sym is) ∙ at) in
        let m = are (p.sets + k) l.0 (sym (get_drop p.sets lanes k) ∙ l.1) in
        subst (λ e. IsIdleEnd 0 (Some e) × (lane_of (kit_in e) ≡ which p.sessions a (p.sets + k))) l.2 ((omega arith, m.1), m.0);
  }

-- ---- a set more

pub sets_more : (sets sets' : List LaneSet) (done : List _) (s : LaneSet) → sets' ≡ sets ++ s ∷ [] → map (λ s. s.ends) sets ≡ done → map (λ s. s.ends) sets' ≡ done ++ s.ends ∷ []
sets_more sets sets' done s is ends = ap (map (λ s. s.ends)) is ∙ map-append (λ (s : LaneSet). s.ends) sets (s ∷ []) ∙ ap (λ l. l ++ s.ends ∷ []) ends

pub numbers_more : (sets sets' : List LaneSet) (s : LaneSet) → sets' ≡ sets ++ s ∷ [] → AreNumbered sets → s.number ≡ length sets → AreNumbered sets'
numbers_more sets sets' s is are here i t at =
    let lt : i < length (sets ++ s ∷ []) = subst (λ l. i < length l) is (slice_get_within sets' i t at) in
    let same : get_or (sets ++ s ∷ []) i t ≡ t = ap (λ l. get_or l i t) (sym is) ∙ get_or_from_slice_get sets' i t t at in
    ap (λ (s : LaneSet). s.number) (sym same) ∙ each_push (λ (k : ℕ) (t : LaneSet). t.number ≡ k) sets s (λ k d h. are k (get_or sets k d) (slice_get-get_or sets k d h)) here i t lt
