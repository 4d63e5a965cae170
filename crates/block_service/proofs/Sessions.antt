-- The sessions of workers: new, and when they rest.
use Rattle.std.proofs.Common.{◌≡◌, ℕ, zero, suc, ◌+◌, ◌^◌, ◌<◌, ◌≤◌, List, [], ◌∷◌, ◌++◌, length, map, get_or, slice_get, Some, None, sym, refl, ap, ◌∙◌, subst, ⊎_elim, arith}
use Rattle.std.specs.Prelude.{All}
use mathlib.Core.Option.{some, some-injective, some-ne-none}
use lib.ListN.{get_elem?, length-map}
use Rattle.arena_open.specs.declared.state.ArenaState.{ArenaState}
use Rattle.lane_core.specs.Arenas.{shape_in}
use Rattle.session_parts.specs.declared.parts.Stand.{Stand}
use Rattle.session_parts.specs.Parts.{part}
use Rattle.lane_calls.specs.declared.session.Sectors.{Sectors}
use Rattle.lane_calls.specs.declared.session.Session.{Session}
use Rattle.lane_calls.specs.Sessions.{Know, Parts}
use Rattle.lane_sessions.specs.declared.making.SessionLimits.{SessionLimits}
use Rattle.lane_sessions.specs.Making.{AreNewSessions, IsNewSession}
use Rattle.lane_sessions.specs.Sets.{AreMadeOf}
use Rattle.lane_sessions.proofs.Columns.{as_elem, as_get}
use Rattle.bio_queue.specs.Serving.{HasMade, MayMake, NeverSwitched}
use Rattle.block_service.specs.Sessions.{AreBegun, AreRested, IsRested}
use Rattle.block_service.proofs.Counts.{inside, there}

pub all_at : {A : Type 0} (P : A → Type 0) (xs : List A) (k : ℕ) (x : A) → All P xs → get_elem? xs k ≡ some x → P x
all_at P [] k x all e = absurd (some-ne-none x (sym e))
all_at P (y ∷ ys) zero x all e = subst P (some-injective y x e) (all 0 y (omega arith))
all_at P (y ∷ ys) (suc k) x all e = all_at P ys k x (λ j d lt. all (suc j) d (omega (arith, lt))) e

pub all_of : {A : Type 0} (P : A → Type 0) (xs : List A) → ((k : ℕ) (x : A) → get_elem? xs k ≡ some x → P x) → All P xs
all_of P [] each k d lt = absurd (omega (arith, lt))
all_of P (x ∷ xs) each zero d lt = each 0 x refl
all_of P (x ∷ xs) each (suc k) d lt = all_of P xs (λ j y e. each (suc j) y e) k d (omega (arith, lt))

-- new sessions may make the calls of their limit
pub begun : (s : Sectors) (state : ArenaState) (states : List ArenaState) (limits all : List SessionLimits) (calls : ℕ) (sessions : List Session) → states ≡ state ∷ [] → AreMadeOf states s.arenas.items
    → limits ≡ all → All (λ (l : SessionLimits). (l.cut ≡ None) × (l.calls ≡ calls)) all → calls < 2 ^ 32 → AreNewSessions s states limits sessions
    → ((l : SessionLimits) (q : ℕ) (x : Session) → 0 < length s.arenas.items → l.cut ≡ None → l.calls < 2 ^ 32 → IsNewSession s (state ∷ []) l q x → MayMake s (shape_in state).sectors (shape_in state).width l.calls [] x)
    → ((l : SessionLimits) (q : ℕ) (x : Session) → IsNewSession s (state ∷ []) l q x → NeverSwitched x) → AreBegun s state calls sessions
begun s state states limits all calls sessions one made is each few new may on q x e =
    let lt = inside sessions q x e in
    let count = new.count in
    let l = there limits q (omega (arith, lt, count)) in
    let n : IsNewSession s (state ∷ []) l.0 q x = subst (λ (r : List ArenaState). IsNewSession s r l.0 q x) one (new.each q l.0 x (as_get limits q l.0 l.1) (as_get sessions q x e)) in
    let own = all_at (λ (m : SessionLimits). (m.cut ≡ None) × (m.calls ≡ calls)) all q l.0 each (ap (λ r. get_elem? r q) (sym is) ∙ l.1) in
    let arenas = made.count in
    let states_one = ap length one in
    let calls_is = own.1 in
    (n.number, subst (λ (m : ℕ). MayMake s (shape_in state).sectors (shape_in state).width m [] x) own.1 (may l.0 q x (omega (arith, arenas, states_one)) own.0 (omega (arith, calls_is, few)) n), on l.0 q x n)

-- one more rests
pub rested_push : (s : Sectors) (done rest all ys ys' : List Session) (x y : Session) → done ++ x ∷ rest ≡ all → ys' ≡ ys ++ y ∷ [] → AreRested s done ys → IsRested s x y → AreRested s (done ++ x ∷ []) ys'
rested_push s done rest all ys ys' x y whole is old new = subst (λ (l : List Session). AreRested s (done ++ x ∷ []) l) (sym is) (go done ys old.count old.each)
  where
    go : (xs zs : List Session) → length zs ≡ length xs → ((q : ℕ) (a b : Session) → get_elem? xs q ≡ some a → get_elem? zs q ≡ some b → IsRested s a b) → AreRested s (xs ++ x ∷ []) (zs ++ y ∷ [])
    go [] [] count each = record {
      count = refl;
      each = at;
    }
      where
        at : (q : ℕ) (a b : Session) → get_elem? (x ∷ []) q ≡ some a → get_elem? (y ∷ []) q ≡ some b → IsRested s a b
        at zero a b e f = subst (λ (p : Session × Session). IsRested s p.0 p.1) (λ i. (some-injective x a e i, some-injective y b f i)) new
        at (suc q) a b e f = absurd (some-ne-none a (sym e))
    go [] (z ∷ zs) count each = absurd (omega (arith, count))
    go (w ∷ xs) [] count each = absurd (omega (arith, count))
    go (w ∷ xs) (z ∷ zs) count each =
        let r = go xs zs (omega (arith, count)) (λ q a b e f. each (suc q) a b e f) in
        record {
          count = (let c = r.count in omega (arith, c));
          each = at r.each;
        }
      where
        at : ((q : ℕ) (a b : Session) → get_elem? (xs ++ x ∷ []) q ≡ some a → get_elem? (zs ++ y ∷ []) q ≡ some b → IsRested s a b) → (q : ℕ) (a b : Session) → get_elem? (w ∷ (xs ++ x ∷ [])) q ≡ some a → get_elem? (z ∷ (zs ++ y ∷ [])) q ≡ some b → IsRested s a b
        at rest zero a b e f = each 0 a b e f
        at rest (suc q) a b e f = rest q a b e f
