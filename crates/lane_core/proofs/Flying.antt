-- A call's steps, and what unfinished calls may have left.
use Rattle.std.proofs.Common.{◌≡◌, ◌⊎◌, ℕ, ◌+◌, ◌*◌, ◌≤◌, ◌==◌, nat_lt, if◌then◌else◌, inl, inr, zero, suc, not, Bool, true, false, List, [], ◌∷◌, ◌++◌, slice_get, Some, None, Option, refl, sym, ap, ◌∙◌, subst, arith}
use Rattle.std.specs.Prelude.{◌&&◌, Any}
use Rattle.map_table.specs.declared.kinds.Kind.{Kind}
use Rattle.map_table.specs.declared.kinds.Kind.TheVariants as kind
use Rattle.nvd_words.specs.declared.tag.Tag.{Tag}
use Rattle.arena_open.specs.declared.cell.Cell.{Cell}
use Rattle.arena_open.specs.declared.cell.Cell.TheVariants as cell
use Rattle.lane_core.specs.declared.history.Act.TheVariants as act
use Rattle.lane_core.specs.declared.history.Entry.{Entry}
use Rattle.lane_core.specs.declared.in_call.InCall.{InCall}
use Rattle.lane_core.specs.declared.now.LaneNow.{LaneNow}
use Rattle.lane_core.specs.declared.phase.Phase.{Phase}
use Rattle.lane_core.specs.declared.phase.Phase.TheVariants.{Idle, Scanning, Staging, Staged, Locked, Known, LogAStored, LogA, LogBStored, Logged, Switched, Kept, Called, Looking, Published, Moved, Reading}
use Rattle.lane_core.specs.declared.shape.Shape.{Shape}
use Rattle.lane_core.specs.declared.stepped.Answer.TheVariants as answer
use Rattle.lane_core.specs.declared.stepped.Step.TheVariants as step
use Rattle.lane_core.specs.declared.stepped.Stepped.{Stepped}
use Rattle.lane_core.specs.declared.stepped.Stepped.TheVariants as stepped
use Rattle.lane_core.specs.After.{answer_after, answer_looked, is_free, is_unmoved, kind_found, lane_after, lane_looked, wants_lock}
use Rattle.lane_core.specs.Begins.{is_idle}
use Rattle.lane_core.specs.Cut.{is_open}
use Rattle.lane_core.specs.History.{changes_nothing}
use Rattle.lane_core.specs.Lines.{word_at}
use Rattle.lane_core.specs.Machine.{other_lane}
use Rattle.lane_core.specs.Places.{Reader}
use Rattle.lane_core.specs.Rows.{RowWords}
use Rattle.lane_core.specs.Sessions.{IsFlying, OpenReadsMayGo, StepsArePaid, SurvivorsAreCalls, calls_from, in_call, is_entered, is_open_in, is_open_read, is_unfinished, least_steps, read_steps, write_steps}
use Rattle.lane_core.proofs.Past.{some_may_go}
use Rattle.lane_core.proofs.Put.{never}

-- ---- steps are counted

module _ (x : Shape) (row : RowWords) (l : ℕ) (p : LaneNow) where
  -- a phase that is at most one step further
  abbrev Near : Phase → Phase → Type 0
  Near old new = least_steps x new ≤ least_steps x old + 1

  choose : {A : Type 0} (P : A → Type 0) (b : Bool) (u v : A) → P u → P v → P (if b then u else v)
  choose P true u v a c = a
  choose P false u v a c = c

  scanning : (j : ℕ) → Near (Scanning j) (lane_after x l row p (Scanning j)).phase
  scanning j = choose (λ (ph : Phase). Near (Scanning j) ph) (word_at x row (Reader (other_lane l j)) == suc p.block) (Scanning 0) (if j + 2 == x.lanes then Staging 0 else Scanning (j + 1)) (omega arith) (last (j + 2 == x.lanes) refl)
    where
      ends : (j + 2 == x.lanes) ≡ true → x.lanes ≡ j + 2
      ends q = grind arith

      last : (b : Bool) → (j + 2 == x.lanes) ≡ b → Near (Scanning j) (if b then Staging 0 else Scanning (j + 1))
      last true q = let e = ends q in omega arith
      last false q = omega arith

  staging : (k : ℕ) → Near (Staging k) (lane_after x l row p (Staging k)).phase
  staging k = choose (λ (q : LaneNow). Near (Staging k) q.phase) (nat_lt k x.width) _ _ (omega arith) (last (k + 1 == 2 * x.width) refl)
    where
      ends : (k + 1 == 2 * x.width) ≡ true → k + 1 ≡ 2 * x.width
      ends q = grind arith

      last : (b : Bool) → (k + 1 == 2 * x.width) ≡ b → Near (Staging k) (if b then Staged else Staging (k + 1))
      last true q = let e = ends q in omega arith
      last false q = omega arith

  looked : (k : Kind) → p.phase ≡ Called → Near Called (lane_looked x l row p k).phase
  looked kind.Zero e = omega arith
  looked kind.Bad e = omega arith
  looked kind.Initial e = omega arith
  looked kind.Normal e = omega arith

  near : (ph : Phase) → p.phase ≡ ph → Near ph (lane_after x l row p ph).phase
  near Idle e = subst (λ (ph : Phase). Near Idle ph) (sym e) (omega arith)
  near (Scanning j) e = scanning j
  near (Staging k) e = staging k
  near Staged e = choose (λ (q : LaneNow). Near Staged q.phase) (is_free x l row p) _ _ (omega arith) (subst (λ (ph : Phase). Near Staged ph) (sym e) (omega arith))
  near Locked e = omega arith
  near Known e = omega arith
  near LogAStored e = omega arith
  near LogA e = omega arith
  near LogBStored e = omega arith
  near Logged e = omega arith
  near Switched e = omega arith
  near Kept e = omega arith
  near Called e = looked (kind_found x l row p) e
  near Looking e = omega arith
  near Published e = choose (λ (q : LaneNow). Near Published q.phase) (is_unmoved x l row p) _ _ (omega arith) (omega arith)
  near Moved e = omega arith
  near (Reading k) e = choose (λ (q : LaneNow). Near (Reading k) q.phase) (nat_lt k x.width) _ _ (omega arith) (omega arith)

  -- a write is answered from Kept alone
  is_wrote : Stepped → Bool
  is_wrote (stepped.Done tag answer.Wrote) = true
  is_wrote _ = false

  looked_not : (k : Kind) → is_wrote (answer_looked x l row p k) ≡ false
  unfolding is_wrote
  looked_not kind.Zero = refl
  looked_not kind.Bad = refl
  looked_not kind.Initial = refl
  looked_not kind.Normal = refl

  wrote_kept : (ph : Phase) → is_wrote (answer_after x l row p ph) ≡ true → least_steps x ph + 1 ≡ write_steps x
  unfolding is_wrote
  wrote_kept Kept e = omega arith
  wrote_kept (Staging k) e = never (sym (choose (λ (a : Stepped). is_wrote a ≡ false) (nat_lt k x.width) _ _ refl refl) ∙ e)
  wrote_kept (Reading k) e = never (sym (choose (λ (a : Stepped). is_wrote a ≡ false) (nat_lt k x.width) _ _ refl refl) ∙ e)
  wrote_kept Called e = never (sym (looked_not (kind_found x l row p)) ∙ e)
  wrote_kept Idle e = never e
  wrote_kept (Scanning j) e = never e
  wrote_kept Staged e = never e
  wrote_kept Locked e = never e
  wrote_kept Known e = never e
  wrote_kept LogAStored e = never e
  wrote_kept LogA e = never e
  wrote_kept LogBStored e = never e
  wrote_kept Logged e = never e
  wrote_kept Switched e = never e
  wrote_kept Looking e = never e
  wrote_kept Published e = never e
  wrote_kept Moved e = never e

  done_wrote : (tag : Tag) → answer_after x l row p p.phase ≡ stepped.Done tag answer.Wrote → is_wrote (answer_after x l row p p.phase) ≡ true
  unfolding is_wrote
  done_wrote tag e = ap is_wrote e

  -- a read is answered with a cell by its first look or after its last word
  is_got : Stepped → Bool
  is_got (stepped.Done tag (answer.Got found)) = true
  is_got _ = false

  abbrev Paid : Phase → Type 0
  Paid ph = (ph ≡ Called) ⊎ (read_steps x ≤ least_steps x ph + 1)

  got_reading : (k : ℕ) (b : Bool) → nat_lt k x.width ≡ b → is_got (if b then stepped.Went step.DataLoad else stepped.Done p.tag (answer.Got (cell.Bytes p.words))) ≡ true → Paid (Reading k)
  unfolding is_got
  got_reading k true t e = never e
  got_reading k false t e = let le = not_below k x.width t in inr (omega arith)
    where
      not_below : (a b : ℕ) → nat_lt a b ≡ false → b ≤ a
      not_below a b q = grind arith

  got_paid : (ph : Phase) → is_got (answer_after x l row p ph) ≡ true → Paid ph
  unfolding is_got
  got_paid Called e = inl refl
  got_paid (Reading k) e = got_reading k (nat_lt k x.width) refl e
  got_paid (Staging k) e = never (sym (choose (λ (a : Stepped). is_got a ≡ false) (nat_lt k x.width) _ _ refl refl) ∙ e)
  got_paid Kept e = never e
  got_paid Idle e = never e
  got_paid (Scanning j) e = never e
  got_paid Staged e = never e
  got_paid Locked e = never e
  got_paid Known e = never e
  got_paid LogAStored e = never e
  got_paid LogA e = never e
  got_paid LogBStored e = never e
  got_paid Logged e = never e
  got_paid Switched e = never e
  got_paid Looking e = never e
  got_paid Published e = never e
  got_paid Moved e = never e

  done_got : (tag : Tag) (found : Cell) → answer_after x l row p p.phase ≡ stepped.Done tag (answer.Got found) → is_got (answer_after x l row p p.phase) ≡ true
  unfolding is_got
  done_got tag found e = ap is_got e

pub steps_are_paid : StepsArePaid
steps_are_paid x row l p = (near x row l p p.phase refl, λ tag e. wrote_kept x row l p p.phase (done_wrote x row l p tag e), λ tag found e. got_paid x row l p p.phase (done_got x row l p tag found e))

-- ---- survivors

any_after : (P : InCall → Type 0) (b : Bool) (c : InCall) (cs : List InCall) → Any P cs → Any P ((if b then [] else c ∷ []) ++ cs)
any_after P true c cs h = h
any_after P false c cs h = (suc h.0, h.1, omega (arith, h.2), h.3, h.4)

any_call : (P : InCall → Type 0) (x : Shape) (lanes : List LaneNow) (n i : ℕ) (p : LaneNow) → slice_get lanes i ≡ Some p → is_idle p.phase ≡ false → ((m : ℕ) → P (in_call x m p)) → Any P (calls_from x n lanes)
any_call P x [] n i p e busy h = cc
any_call P x (y ∷ ys) n zero p e busy h = here y (is e)
  where
    is : Some y ≡ Some p → y ≡ p
    is e = cc

    here : (y : LaneNow) → y ≡ p → Any P (calls_from x n (y ∷ ys))
    here y q = subst (λ (y : LaneNow). Any P (calls_from x n (y ∷ ys))) (sym q) (subst (λ b. Any P ((if b then [] else in_call x n p ∷ []) ++ calls_from x (n + 1) ys)) (sym busy) (0, in_call x n p, omega arith, refl, h n))
any_call P x (y ∷ ys) n (suc i) p e busy h = any_after P (is_idle y.phase) (in_call x n y) (calls_from x (n + 1) ys) (any_call P x ys (n + 1) i p e busy h)

open_parts : (ph : Phase) → is_open ph ≡ true → (is_idle ph ≡ false) × (is_unfinished ph ≡ true) × (is_entered ph ≡ false) × (wants_lock ph ≡ false)
open_parts LogBStored e = (refl, refl, refl, refl)
open_parts Logged e = (refl, refl, refl, refl)
open_parts _ e = never e

pub survivors_are_calls : SurvivorsAreCalls
survivors_are_calls first held left each t lt = elim (each t lt) [
  | inl e ↦ inl e
  | inr w ↦
      let k = open_parts w.call.phase w.unfinished in
      inr (any_call (IsFlying t (left t)) held.shape held.lanes 0 w.lane w.call w.there k.0 (λ m. (
        act.Write w.call.words,
        ap (λ b. if b then Some (act.Write w.call.words) else None) k.1,
        ap (λ b. if b then w.call.next_sector else w.call.sector) k.3 ∙ w.on,
        k.2,
        w.words,
      )))
]

-- ---- open reads

open_changes_nothing : (o : Option LaneNow) (e : Entry) → is_open_in o e ≡ true → changes_nothing e.act ≡ true
open_changes_nothing None e h = never h
open_changes_nothing (Some p) e h = last_true _ (changes_nothing e.act) h
  where
    last_true : (a b : Bool) → (a && b) ≡ true → b ≡ true
    last_true true b h = h
    last_true false b h = never h

pub open_reads_may_go : OpenReadsMayGo
open_reads_may_go first lanes history legal = some_may_go first (λ e. not (is_open_read lanes e)) history (λ e q. open_changes_nothing (slice_get lanes e.lane) e (negated (is_open_read lanes e) q)) legal
  where
    negated : (b : Bool) → not b ≡ false → b ≡ true
    negated true q = refl
    negated false q = never (sym q)
