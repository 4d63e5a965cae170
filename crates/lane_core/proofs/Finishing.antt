-- Unfinished reads may be left out of the history.
use Rattle.std.proofs.Common.{◌≡◌, ℕ, ◌<◌, ◌≤◌, ◌≢◌, ◌==◌, inl, inr, zero, suc, Bool, true, false, List, [], ◌∷◌, ◌++◌, refl, sym, ap, ◌∙◌, subst, arith, if◌then◌else◌}
use Rattle.lane_core.specs.Areas.{Geometry}
use Rattle.lane_core.specs.History.{Cell, Entry, IsLegal, of_lane, end_of, after, changes_nothing, cell_of, listed}
use Rattle.lane_core.specs.Machine.{State, looked}
use Rattle.lane_core.specs.Invariant.{IsSound, is_reading, only_if, open_entry}
use Rattle.lane_core.specs.Finished.{IsAccount}
use Rattle.lane_core.proofs.Put.{same_or_not}
use Rattle.lane_core.proofs.Past.{append_none, after_same}
use Rattle.arena_open.specs.declared.cell.Cell.TheVariants as cell
use Rattle.lane_core.specs.declared.history.Act.TheVariants as act

pub own_first : (l : ℕ) (d : Entry) (ds : List Entry) → d.lane ≡ l → of_lane l (d ∷ ds) ≡ d ∷ of_lane l ds
unfolding of_lane
own_first l d ds q = grind arith

pub other_first : (l : ℕ) (d : Entry) (ds : List Entry) → d.lane ≢ l → of_lane l (d ∷ ds) ≡ of_lane l ds
unfolding of_lane
other_first l d ds ne = grind arith

pub same_first : (l : ℕ) (d : Entry) (ds es : List Entry) → of_lane l ds ≡ of_lane l es → of_lane l (d ∷ ds) ≡ of_lane l (d ∷ es)
unfolding of_lane
same_first l d ds es q = ap (λ r. if d.lane == l then d ∷ r else r) q

pub none_last : (xs : List Entry) (e : Entry) → [] ≡ xs ++ e ∷ [] → ⊥
none_last [] e q = cc
none_last (x ∷ xs) e q = cc

-- h without the last entry of the lane l, a read
pub record Dropped (l : ℕ) (h xs : List Entry) (o : ℕ → Cell) : Type 0 where
  pub rest : List Entry
  pub mine : of_lane l rest ≡ xs
  pub others : (m : ℕ) → m ≢ l → of_lane m rest ≡ of_lane m h
  pub legal : IsLegal o rest
  pub same : end_of o rest ≡ end_of o h

-- the entry before the last one stays
kept_first : (l : ℕ) (d : Entry) (ds ys xs : List Entry) (o : ℕ → Cell) → IsLegal o (d ∷ ds) → (r : Dropped l ds ys (after o d)) → of_lane l (d ∷ r.rest) ≡ xs → Dropped l (d ∷ ds) xs o
unfolding IsLegal end_of
kept_first l d ds ys xs o legal r mine = record { rest = d ∷ r.rest; mine = mine; others = λ m ne. same_first m d r.rest ds (r.others m ne); legal = (legal.0, r.legal); same = r.same }

last_gone : (l : ℕ) (d : Entry) (ds : List Entry) (c : Cell) (o : ℕ → Cell) → d.lane ≡ l → d.act ≡ act.Read c → of_lane l ds ≡ [] → IsLegal o (d ∷ ds) → Dropped l (d ∷ ds) [] o
unfolding IsLegal end_of
last_gone l d ds c o own a none legal =
    let still : after o d ≡ o = after_same o d (ap changes_nothing a) in
    record {
      rest = ds;
      mine = none;
      others = λ m ne. sym (other_first m d ds (λ q. ne (sym q ∙ own)));
      legal = subst (λ f. IsLegal f ds) still legal.1;
      same = ap (λ f. end_of f ds) (sym still);
    }

pub legal_rest : (d : Entry) (ds : List Entry) (o : ℕ → Cell) → IsLegal o (d ∷ ds) → IsLegal (after o d) ds
unfolding IsLegal
legal_rest d ds o h = h.1

pub none_of : (l : ℕ) → of_lane l [] ≡ []
unfolding of_lane
none_of l = refl

pub heads : (d x : Entry) (ds xs : List Entry) → d ∷ ds ≡ x ∷ xs → (d ≡ x) × (ds ≡ xs)
heads d x ds xs q = (cc, cc)

pub drop_read : (l : ℕ) (h xs : List Entry) (e : Entry) (c : Cell) (o : ℕ → Cell) → of_lane l h ≡ xs ++ e ∷ [] → e.act ≡ act.Read c → IsLegal o h → Dropped l h xs o
drop_read l [] xs e c o q a legal = absurd (none_last xs e (sym (none_of l) ∙ q))
drop_read l (d ∷ ds) [] e c o q a legal = elim (same_or_not d.lane l) [
  | inl y ↦ let r = heads d e (of_lane l ds) [] (sym (own_first l d ds y) ∙ q) in last_gone l d ds c o y (ap (λ (e : Entry). e.act) r.0 ∙ a) r.1 legal
  | inr n ↦ let r = drop_read l ds [] e c (after o d) (sym (other_first l d ds n) ∙ q) a (legal_rest d ds o legal) in kept_first l d ds [] [] o legal r (other_first l d r.rest n ∙ r.mine)
]
drop_read l (d ∷ ds) (x ∷ xs) e c o q a legal = elim (same_or_not d.lane l) [
  | inl y ↦ let z = heads d x (of_lane l ds) (xs ++ e ∷ []) (sym (own_first l d ds y) ∙ q) in
      let r = drop_read l ds xs e c (after o d) z.1 a (legal_rest d ds o legal) in kept_first l d ds xs (x ∷ xs) o legal r (own_first l d r.rest y ∙ ap (λ t. d ∷ t) r.mine ∙ ap (λ t. t ∷ xs) z.0)
  | inr n ↦ let r = drop_read l ds (x ∷ xs) e c (after o d) (sym (other_first l d ds n) ∙ q) a (legal_rest d ds o legal) in kept_first l d ds (x ∷ xs) (x ∷ xs) o legal r (other_first l d r.rest n ∙ r.mine)
]

module _ (g : Geometry) (o : ℕ → Cell) (s : State) (h : IsSound g o s) where
  -- the open reads of the first n lanes are left out
  record Sofar (n : ℕ) : Type 0 where
    past : List Entry
    legal : IsLegal o past
    done : (l : ℕ) → l < n → of_lane l past ≡ (s.lanes l).log
    todo : (l : ℕ) → n ≤ l → of_lane l past ≡ of_lane l s.history
    same : end_of o past ≡ end_of o s.history

  abbrev open_of : ℕ → Entry
  open_of n = open_entry g.width (s.seen.data_at (looked (s.lanes n))) n (s.lanes n).tag (s.lanes n).sector

  split_at : (l n : ℕ) → l < suc n → l ≢ n → l < n
  split_at l n lt ne = omega arith

  more : (n : ℕ) → n < g.lanes → (b : Bool) → is_reading (s.lanes n).phase ≡ b → Sofar n → Sofar (suc n)
  more n lt true is r =
      let q : of_lane n r.past ≡ (s.lanes n).log ++ open_of n ∷ [] = r.todo n (omega arith) ∙ (h.each n lt).tells.entries ∙ ap (λ b. (s.lanes n).log ++ only_if b (open_of n)) is in
      let d = drop_read n r.past (s.lanes n).log (open_of n) (cell.Bytes (listed g.width (s.seen.data_at (looked (s.lanes n))))) o q refl r.legal in
      record {
        past = d.rest;
        legal = d.legal;
        done = λ l ll. elim (same_or_not l n) [
          | inl z ↦ subst (λ l. of_lane l d.rest ≡ (s.lanes l).log) (sym z) d.mine
          | inr z ↦ d.others l z ∙ r.done l (split_at l n ll z)
        ];
        todo = λ l le. d.others l (λ z. omega arith) ∙ r.todo l (omega arith);
        same = d.same ∙ r.same;
      }
  more n lt false is r =
      record {
        past = r.past;
        legal = r.legal;
        done = λ l ll. elim (same_or_not l n) [
          | inl z ↦ subst (λ l. of_lane l r.past ≡ (s.lanes l).log) (sym z)
              (r.todo n (omega arith) ∙ (h.each n lt).tells.entries ∙ ap (λ b. (s.lanes n).log ++ only_if b (open_of n)) is ∙ append_none (s.lanes n).log)
          | inr z ↦ r.done l (split_at l n ll z)
        ];
        todo = λ l le. r.todo l (omega arith);
        same = r.same;
      }

  sofar : (n : ℕ) → n ≤ g.lanes → Sofar n
  sofar zero le = record { past = s.history; legal = h.legal; done = λ l lt. absurd (omega arith); todo = λ l le. refl; same = refl }
  sofar (suc n) le = more n (omega arith) (is_reading (s.lanes n).phase) refl (sofar n (omega arith))

  pub account : (past : List Entry) × IsAccount g o (cell_of g s.seen.data_at s.seen.map_at) (λ l. (s.lanes l).log) past
  account =
      let r = sofar g.lanes (omega arith) in (
        r.past,
        record {
          legal = r.legal;
          each = r.done;
          no_other = λ l le. r.todo l le ∙ h.known_lanes l le;
          leaves = λ t lt. ap (λ f. f t) r.same ∙ h.cells t lt;
        },
      )
