-- Passes that a lane's end carries along.
use Rattle.std.proofs.Common.{◌≡◌, ℕ, zero, suc, ◌<◌, List, [], ◌∷◌, ◌++◌, length, get_or, append-nil, append_assoc, Option, Some, refl, sym, ap, ◌∙◌, subst, arith}
use Rattle.std.specs.Prelude.{slice_get, slice_set}
use mathlib.Core.Option.{some}
use lib.ListN.{get_elem?}
use Rattle.atomic_table.specs.Seated.{TableId}
use Rattle.lane_table.specs.declared.lanes.LaneEnd.{LaneEnd}
use Rattle.lane_table.specs.declared.session_pass.Pass.{Pass}
use Rattle.lane_table.specs.declared.table.PassPart.{PassPart}
use Rattle.lane_table.specs.declared.table.View.{View}
use Rattle.lane_table.specs.Kits.{kit_in, loose_in}
use Rattle.lane_table.specs.Law.{gathered}
use Rattle.lane_sessions.specs.Closing.{ArePassesOf, Carries, Joins, carried, carried_by}
use Rattle.lane_sessions.proofs.Lists.{slice_get_seam}

pub carries_none : (e : LaneEnd) → Carries [] e e
carries_none e = record { same = record { table = refl; number = refl; lane = refl; held = refl }; loose = sym (append-nil (loose_in (kit_in e))) }

pub carries_pass : (e e' : LaneEnd) (p : Pass) → (kit_in e').seat.table_id ≡ (kit_in e).seat.table_id → (kit_in e').number ≡ (kit_in e).number
    → (kit_in e').seat.me.0 ≡ gathered (kit_in e).seat.me.0 p.seat.me.0 → Carries (carried_by (Some p)) e e'
carries_pass e e' p table number me = record {
  same = record { table = table; number = number; lane = ap (λ (v : View). v.lane) me; held = ap (λ (v : View). v.held) me };
  loose = ap (λ (v : View). v.loose) me;
}

pub carries_more : (ps qs : List PassPart) (e e' e'' : LaneEnd) → Carries ps e e' → Carries qs e' e'' → Carries (ps ++ qs) e e''
carries_more ps qs e e' e'' a b = record {
  same = record { table = b.same.table ∙ a.same.table; number = b.same.number ∙ a.same.number; lane = b.same.lane ∙ a.same.lane; held = b.same.held ∙ a.same.held };
  loose = b.loose ∙ ap (λ ts. ts ++ qs) a.loose ∙ append_assoc (loose_in (kit_in e)) ps qs;
}

pub carried_push : (xs : List (Option Pass)) (o : Option Pass) → carried (xs ++ o ∷ []) ≡ carried xs ++ carried_by o
carried_push [] o = append-nil (carried_by o)
carried_push (x ∷ xs) o = ap (λ ts. carried_by x ++ ts) (carried_push xs o) ∙ sym (append_assoc (carried_by x) (carried xs) (carried_by o))

pub carries_push : (xs : List (Option Pass)) (o : Option Pass) (e e' e'' : LaneEnd) → Carries (carried xs) e e' → Carries (carried_by o) e' e'' → Carries (carried (xs ++ o ∷ [])) e e''
carries_push xs o e e' e'' a b = subst (λ ts. Carries ts e e'') (sym (carried_push xs o)) (carries_more (carried xs) (carried_by o) e e' e'' a b)

pub pass_at_seam : (table : TableId) (xs ys zs : List (Option Pass)) (o : Option Pass) → ys ++ o ∷ zs ≡ xs → ArePassesOf table xs → (p : Pass) → o ≡ Some p → p.seat.table_id ≡ table
pass_at_seam table xs ys zs o is of p at = of (length ys) p (ap (λ l. slice_get l (length ys)) (sym is) ∙ slice_get_seam ys o zs ∙ ap (λ (x : Option Pass). Some x) at)

some_in : {x y : LaneEnd} → some x ≡ some y → x ≡ y
some_in e = cc

pub joins_set : (ps : List PassPart) (ends : List LaneEnd) (e e' : LaneEnd) → 0 < length ends → get_or ends 0 e ≡ e → Carries ps e e' → Joins ps ends (slice_set ends 0 e')
joins_set ps [] e e' h is c = absurd (omega (arith, h))
joins_set ps (x ∷ xs) e e' h is c = record {
  count = refl;
  first = λ u u' a b. subst (λ (y : LaneEnd). Carries ps y u') (sym is ∙ some_in a) (subst (λ (y : LaneEnd). Carries ps e y) (some_in b) c);
  others = others;
}
  where
    others : (l : ℕ) → 0 < l → get_elem? (e' ∷ xs) l ≡ get_elem? (x ∷ xs) l
    others zero lt = absurd (omega (arith, lt))
    others (suc l) lt = refl
