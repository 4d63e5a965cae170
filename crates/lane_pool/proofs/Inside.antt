-- The pool's turns as its code makes them: what it keeps inside, by what its callers know of it.
use Rattle.std.proofs.Common.{◌≡◌, ◌≢◌, ℕ, ◌-◌, ◌<◌, true, List, length, get_or, set, Option, Some, None, refl, sym, ap, ◌∙◌, subst, arith}
use Rattle.std.specs.Prelude.{nat_lt}
use Rattle.std.proofs.lemmas.List.{get_or_default}
use Rattle.lane_pool.specs.declared.holders.Hand.TheVariants as hand
use Rattle.lane_pool.specs.declared.holders.Holder.{Holder}
use Rattle.lane_pool.specs.declared.holders.Stop.{Stop}
use Rattle.lane_pool.specs.declared.sets.LaneSet.{LaneSet}
use Rattle.lane_pool.specs.declared.sets.PowerOff.{PowerOff}
use Rattle.lane_pool.specs.Parts.{Asks, MayGive, MayStop, MayTake, Takes, WasOn, or_first, stop_with}
use Rattle.lane_pool.specs.Pools.{IsInside, IsPool, NobodyOut, Now, holder_at, left_in, nobody, part_at, pool_now, set_at}
use Rattle.lane_pool.specs.Sets.{IsAtPlace, IsReady}
use Rattle.lane_pool.proofs.Keeping as keeping

below : (a b : ℕ) → nat_lt a b ≡ true → a < b
below a b e = grind arith

out_parts : {at i room f : ℕ} → hand.Out at room ≡ hand.Out i f → (at ≡ i) × (room ≡ f)
out_parts e = (cc, cc)

pub placed_in : (v : Now) (q : ℕ) → (part_at v q).placed ≡ true → q < length v.holders
placed_in v q e = below q (length v.holders) e

-- a caller that was read is the one at its place
pub read_holder : (hs : List Holder) (q : ℕ) (x : Holder) → q < length hs → x ≡ get_or hs q x → x ≡ holder_at hs q
read_holder hs q x inside is = is ∙ get_or_default hs q x nobody inside

pub read_set : (sets : List (Option LaneSet)) (at : ℕ) (o : Option LaneSet) → at < length sets → o ≡ get_or sets at o → set_at sets at ≡ o
read_set sets at o inside is = sym (is ∙ get_or_default sets at o None inside)

-- power is on: a caller neither stopped it nor was told that it is off
none_by : {A : Type 0} (o : Option A) → ((x : A) → o ≡ Some x → ⊥) → o ≡ None
none_by None h = refl
none_by (Some x) h = absurd (h x refl)

some_none : {A : Type 0} {x : A} → Some x ≡ None → ⊥
some_none e = cc

was_on : (v : Now) → IsPool v → (q : ℕ) → v.off ≡ None → WasOn (part_at v q)
was_on v p q at = (
  none_by (holder_at v.holders q).told (λ x e. some_none (sym (p.told q x e) ∙ at)),
  none_by (holder_at v.holders q).stop (λ x e. p.stops q x e at),
)

module _ (total : ℕ) (v now : Now) (q : ℕ) (x : Holder) (view : v ≡ now) (kept : IsInside total v) (read : x ≡ get_or v.holders q x) where
  -- ---- told

  pub told_inside : (off : PowerOff) → (part_at now q).placed ≡ true → v.off ≡ Some off
      → IsInside total (pool_now v.first v.sets (set v.holders q (record { left = x.left; hand = x.hand; stop = x.stop; told = Some off })) v.off)
  told_inside off placed is_off =
      let inside = placed_in v q (ap (λ (u : Now). (part_at u q).placed) view ∙ placed) in
      let was : x ≡ holder_at v.holders q = read_holder v.holders q x inside read in
      subst (λ (y : Holder). IsInside total (pool_now v.first v.sets (set v.holders q (record { left = y.left; hand = y.hand; stop = y.stop; told = Some off })) v.off)) (sym was) (record {
        counted = kept.counted ∙ sym (keeping.told_left v kept.is_pool q inside off is_off);
        is_pool = keeping.told_pool v kept.is_pool q inside off is_off;
      })

  -- ---- a set is taken

  module _ (at : ℕ) (may : MayTake (part_at now q)) (s : LaneSet) (on : v.off ≡ None) (home : set_at v.sets at ≡ Some s) where
    its : MayTake (part_at v q)
    its = subst (λ (u : Now). MayTake (part_at u q)) (sym view) may

    took_at : q < length v.holders
    took_at = placed_in v q its.placed

    was_taking : x ≡ holder_at v.holders q
    was_taking = read_holder v.holders q x took_at read

    abbrev after_take : ℕ → Holder → Option LaneSet → Now
    after_take n y o = pool_now v.first (set v.sets at o) (set v.holders q (record { left = y.left; hand = hand.Out at n; stop = y.stop; told = y.told })) v.off

    pub took_inside : (o : Option LaneSet) → o ≡ None
        → IsInside total (pool_now v.first (set v.sets at o) (set v.holders q (record { left = x.left; hand = hand.Out at total; stop = x.stop; told = x.told })) v.off)
    took_inside o gone =
        subst (λ (o : Option LaneSet). IsInside total (after_take total x o)) (sym gone)
        (subst (λ (y : Holder). IsInside total (after_take total y None)) (sym was_taking)
        (subst (λ (n : ℕ). IsInside n (after_take n (holder_at v.holders q) None)) (sym kept.counted) (record {
          counted = sym (keeping.took_left v kept.is_pool q took_at at s on home its.free);
          is_pool = keeping.took_pool v kept.is_pool q took_at at s on home its.free;
        })))

    pub took_part : (o : Option LaneSet) → o ≡ None
        → Takes s (part_at now q) (part_at (pool_now v.first (set v.sets at o) (set v.holders q (record { left = x.left; hand = hand.Out at total; stop = x.stop; told = x.told })) v.off) q)
    took_part o gone =
        subst (λ (o : Option LaneSet). Takes s (part_at now q) (part_at (after_take total x o) q)) (sym gone)
        (subst (λ (y : Holder). Takes s (part_at now q) (part_at (after_take total y None) q)) (sym was_taking)
        (subst (λ (n : ℕ). Takes s (part_at now q) (part_at (after_take n (holder_at v.holders q) None) q)) (sym kept.counted)
        (subst (λ (u : Now). Takes s (part_at u q) (part_at (after_take (left_in v.holders) (holder_at v.holders q) None) q)) view (record {
          at = at;
          room = left_in v.holders;
          becomes = keeping.own_part v q took_at (keeping.took_holder v kept.is_pool q took_at at s on home its.free) (set v.sets at None) v.off;
          place = keeping.took_place v kept.is_pool q took_at at s on home its.free;
          ready = keeping.took_ready v kept.is_pool q took_at at s on home its.free;
          enough = keeping.own_left v kept.is_pool q took_at at s on home its.free;
          on = was_on v kept.is_pool q on;
        }))))

  -- ---- a set is given back

  module _ (s : LaneSet) (made at room : ℕ) (may : MayGive made s (part_at now q)) (out : x.hand ≡ hand.Out at room) where
    may_give : MayGive made s (part_at v q)
    may_give = subst (λ (u : Now). MayGive made s (part_at u q)) (sym view) may

    giving_at : q < length v.holders
    giving_at = placed_in v q may_give.placed

    was_giving : x ≡ holder_at v.holders q
    was_giving = read_holder v.holders q x giving_at read

    pub gave_inside : IsInside (total - made) (pool_now v.first (set v.sets at (Some s)) (set v.holders q (record { left = x.left - made; hand = hand.Empty; stop = x.stop; told = x.told })) v.off)
    gave_inside =
        let here : (holder_at v.holders q).hand ≡ hand.Out at room = ap (λ (y : Holder). y.hand) (sym was_giving) ∙ out in
        let same = out_parts (sym may_give.out ∙ here) in
        let place : IsAtPlace v.first at s = subst (λ (k : ℕ). IsAtPlace v.first k s) same.0 may_give.place in
        let ready : IsReady (room - made) s = subst (λ (k : ℕ). IsReady (k - made) s) same.1 may_give.ready in
        subst (λ (y : Holder). IsInside (total - made) (pool_now v.first (set v.sets at (Some s)) (set v.holders q (record { left = y.left - made; hand = hand.Empty; stop = y.stop; told = y.told })) v.off)) (sym was_giving) (record {
          counted = ap (λ (n : ℕ). n - made) kept.counted ∙ sym (keeping.gave_left v kept.is_pool q giving_at at room here s place made may_give.few ready);
          is_pool = keeping.gave_pool v kept.is_pool q giving_at at room here s place made may_give.few ready;
        })

  -- ---- power goes off

  module _ (off first : PowerOff) (st : Stop) (first_is : Some first ≡ or_first v.off off) (stop_is : Some st ≡ stop_with off x.told x.stop) where
    pub handed_inside : (s : LaneSet) (at room : ℕ) → MayStop (Some s) (part_at now q) → x.hand ≡ hand.Out at room
        → IsInside total (pool_now v.first (set v.sets at (Some s)) (set v.holders q (record { left = x.left; hand = hand.Stopped at; stop = Some st; told = Some first })) (Some first))
    handed_inside s at room may out =
        let its : MayStop (Some s) (part_at v q) = subst (λ (u : Now). MayStop (Some s) (part_at u q)) (sym view) may in
        let inside = placed_in v q its.placed in
        let was : x ≡ holder_at v.holders q = read_holder v.holders q x inside read in
        let here : (holder_at v.holders q).hand ≡ hand.Out at room = ap (λ (y : Holder). y.hand) (sym was) ∙ out in
        let same = out_parts (sym its.is_out.2 ∙ here) in
        let place : IsAtPlace v.first at s = subst (λ (k : ℕ). IsAtPlace v.first k s) same.0 its.is_out.3 in
        subst (λ (o : Option Stop). IsInside total (pool_now v.first (set v.sets at (Some s)) (set v.holders q (record { left = x.left; hand = hand.Stopped at; stop = o; told = Some first })) (Some first))) (sym stop_is)
        (subst (λ (y : Holder). IsInside total (pool_now v.first (set v.sets at (Some s)) (set v.holders q (record { left = y.left; hand = hand.Stopped at; stop = stop_with off y.told y.stop; told = Some first })) (Some first))) (sym was) (record {
          counted = kept.counted ∙ sym (keeping.stop_left v kept.is_pool q inside at room here s place off first first_is);
          is_pool = keeping.stop_pool v kept.is_pool q inside at room here s place off first first_is;
        }))

    -- there is such a place
    pub handed_at : (s : LaneSet) (at room : ℕ) → MayStop (Some s) (part_at now q) → x.hand ≡ hand.Out at room → at < length v.sets
    handed_at s at room may out =
        let its : MayStop (Some s) (part_at v q) = subst (λ (u : Now). MayStop (Some s) (part_at u q)) (sym view) may in
        let inside = placed_in v q its.placed in
        let was : x ≡ holder_at v.holders q = read_holder v.holders q x inside read in
        (kept.is_pool.out q at room (ap (λ (y : Holder). y.hand) (sym was) ∙ out)).0

    pub halted_inside : MayStop None (part_at now q)
        → IsInside total (pool_now v.first v.sets (set v.holders q (record { left = x.left; hand = x.hand; stop = Some st; told = Some first })) (Some first))
    halted_inside may =
        let its : MayStop None (part_at v q) = subst (λ (u : Now). MayStop None (part_at u q)) (sym view) may in
        let inside = placed_in v q its.placed in
        let was : x ≡ holder_at v.holders q = read_holder v.holders q x inside read in
        subst (λ (o : Option Stop). IsInside total (pool_now v.first v.sets (set v.holders q (record { left = x.left; hand = x.hand; stop = o; told = Some first })) (Some first))) (sym stop_is)
        (subst (λ (y : Holder). IsInside total (pool_now v.first v.sets (set v.holders q (record { left = y.left; hand = y.hand; stop = stop_with off y.told y.stop; told = Some first })) (Some first))) (sym was) (record {
          counted = kept.counted ∙ sym (keeping.halt_left v kept.is_pool q inside off first first_is);
          is_pool = keeping.halt_pool v kept.is_pool q inside off first first_is;
        }))

pub asked_on : (total : ℕ) (v now : Now) (q : ℕ) → v ≡ now → IsInside total v → now.off ≡ None → Asks None (part_at now q) (part_at now q)
asked_on total v now q view kept on =
    let at : v.off ≡ None = ap (λ (u : Now). u.off) view ∙ on in
    subst (λ (u : Now). Asks None (part_at u q) (part_at u q)) view (refl, was_on v kept.is_pool q at)

-- nobody has a set out: every set is at home
pub all_at_home : (total : ℕ) (v now : Now) → v ≡ now → IsInside total v → NobodyOut now.holders → (i : ℕ) → i < length v.sets → set_at v.sets i ≢ None
all_at_home total v now view kept none i lt e =
    let a = kept.is_pool.away i lt e in
    none a.0 i a.1 (ap (λ (u : Now). (holder_at u.holders a.0).hand) (sym view) ∙ a.2)
