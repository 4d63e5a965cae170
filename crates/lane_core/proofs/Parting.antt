-- Calls and steps of others change nothing that a session knows of a core.
use Rattle.std.proofs.Common.{◌≡◌, ◌≢◌, ℕ, ◌+◌, ◌==◌, if◌then◌else◌, inl, inr, zero, suc, not, Bool, true, false, cond, filter, List, [], ◌∷◌, ◌++◌, Option, Some, None, slice_get, slice_set, refl, sym, ap, ◌∙◌, subst, arith}
use Rattle.std.specs.Prelude.{◌&&◌}
use Rattle.nvd_words.specs.declared.tag.Tag.{Tag}
use Rattle.lane_core.specs.declared.history.Entry.{Entry}
use Rattle.lane_core.specs.declared.in_call.InCall.{InCall}
use Rattle.lane_core.specs.declared.now.LaneNow.{LaneNow}
use Rattle.lane_core.specs.declared.shape.Shape.{Shape}
use Rattle.lane_core.specs.After.{lane_after, past_after}
use Rattle.lane_core.specs.Begins.{is_idle, read_begun, write_begun}
use Rattle.lane_core.specs.Held.{Held, recorded}
use Rattle.lane_core.specs.History.{changes_nothing, of_session}
use Rattle.lane_core.specs.Invariant.{is_reading}
use Rattle.lane_core.specs.Parts.{OthersKeepParts, OwnPartIsKnown, SamePart, own_calls, own_entries}
use Rattle.lane_core.specs.Schedules.{Read, Write, Step, if_there, lane_begun, lane_stepped, with_lane, zeros}
use Rattle.lane_core.specs.Rows.{Recorded}
use Rattle.lane_core.specs.Sessions.{IsFree, OneCallEach, answered_in, calls_from, in_call, is_open_in, is_open_read, same_tag, tag_of}
use Rattle.lane_core.proofs.Keeping.{first_tag}
use Rattle.lane_core.proofs.Past.{append_none, filter-grown}
use Rattle.lane_core.proofs.Put.{never, same_or_not}
use Rattle.lane_core.proofs.Served.{changed, reading_busy, reading_tag, session_other}

unequal : (a b : ℕ) → a ≢ b → (a == b) ≡ false
unequal a b ne = grind arith

equal : (a b : ℕ) → (a == b) ≡ true → a ≡ b
equal a b e = grind arith

tested : (a b : ℕ) → a ≡ b → (a == b) ≡ true
tested a b e = grind arith

same_lane : {a b : LaneNow} → Some a ≡ Some b → a ≡ b
same_lane e = cc

-- the lane is in no call of the session
abbrev IsOther : ℕ → LaneNow → Type 0
IsOther q p = is_idle p.phase ≡ false → (tag_of p).session ≢ q

-- ---- the lanes in its calls

abbrev own : ℕ → List InCall → List InCall
own q calls = filter (λ (c : InCall). c.tag.session == q) calls

module _ (q : ℕ) where
  before : (b : Bool) (c : InCall) (us vs : List InCall) → own q us ≡ own q vs → own q ((if b then [] else c ∷ []) ++ us) ≡ own q ((if b then [] else c ∷ []) ++ vs)
  before true c us vs e = e
  before false c us vs e = ap (λ r. cond (c.tag.session == q) (c ∷ r) r) e

  skipped : (b : Bool) (c : InCall) (us : List InCall) → (b ≡ false → c.tag.session ≢ q) → own q ((if b then [] else c ∷ []) ++ us) ≡ own q us
  skipped true c us ne = refl
  skipped false c us ne = ap (λ t. cond t (c ∷ own q us) (own q us)) (unequal c.tag.session q (ne refl))

  calls_set : (x : Shape) (lanes : List LaneNow) (n l : ℕ) (p r : LaneNow) → slice_get lanes l ≡ Some p → IsOther q p → IsOther q r → own q (calls_from x n (slice_set lanes l r)) ≡ own q (calls_from x n lanes)
  calls_set x [] n l p r at a b = cc
  calls_set x (y ∷ ys) n zero p r at a b =
      skipped (is_idle r.phase) (in_call x n r) (calls_from x (n + 1) ys) b
      ∙ sym (skipped (is_idle y.phase) (in_call x n y) (calls_from x (n + 1) ys) (subst (IsOther q) (sym (same_lane at)) a))
  calls_set x (y ∷ ys) n (suc l) p r at a b =
      before (is_idle y.phase) (in_call x n y) (calls_from x (n + 1) (slice_set ys l r)) (calls_from x (n + 1) ys) (calls_set x ys (n + 1) l p r at a b)

  none_from : (x : Shape) (lanes : List LaneNow) (n : ℕ) → ((i : ℕ) (r : LaneNow) → slice_get lanes i ≡ Some r → IsOther q r) → own q (calls_from x n lanes) ≡ []
  none_from x [] n others = refl
  none_from x (y ∷ ys) n others = skipped (is_idle y.phase) (in_call x n y) (calls_from x (n + 1) ys) (others 0 y refl) ∙ none_from x ys (n + 1) (λ i r at. others (suc i) r at)

  one_from : (x : Shape) (lanes : List LaneNow) (n l : ℕ) (p : LaneNow) → slice_get lanes l ≡ Some p → is_idle p.phase ≡ false → (tag_of p).session ≡ q
      → ((i : ℕ) (r : LaneNow) → slice_get lanes i ≡ Some r → i ≢ l → IsOther q r) → own q (calls_from x n lanes) ≡ in_call x (n + l) p ∷ []
  one_from x [] n l p at busy is others = cc
  one_from x (y ∷ ys) n zero p at busy is others =
      let here : n ≡ n + 0 = omega arith in
      subst (λ (y : LaneNow). own q (calls_from x n (y ∷ ys)) ≡ in_call x (n + 0) p ∷ []) (sym (same_lane at))
      (ap (λ b. own q ((if b then [] else in_call x n p ∷ []) ++ calls_from x (n + 1) ys)) busy
      ∙ ap (λ t. cond t (in_call x n p ∷ own q (calls_from x (n + 1) ys)) (own q (calls_from x (n + 1) ys))) (tested (tag_of p).session q is)
      ∙ ap (λ cs. in_call x n p ∷ cs) (none_from x ys (n + 1) (λ i r there. others (suc i) r there (λ e. no_suc i e)))
      ∙ ap (λ k. in_call x k p ∷ []) here)
    where
      no_suc : (i : ℕ) → suc i ≡ 0 → ⊥
      no_suc i e = absurd (omega (arith, e))
  one_from x (y ∷ ys) n (suc l) p at busy is others =
      let there : n + 1 + l ≡ n + suc l = omega arith in
      skipped (is_idle y.phase) (in_call x n y) (calls_from x (n + 1) ys) (others 0 y refl (λ e. no_suc e))
      ∙ one_from x ys (n + 1) l p at busy is (λ i r at ne. others (suc i) r at (λ e. ne (preds i e)))
      ∙ ap (λ k. in_call x k p ∷ []) there
    where
      no_suc : 0 ≡ suc l → ⊥
      no_suc e = absurd (omega (arith, e))

      preds : (i : ℕ) → suc i ≡ suc l → i ≡ l
      preds i e = omega (arith, e)

-- ---- its entries

module _ (f : Entry → Bool) where
  passed : (b t : Bool) (e : Entry) (us : List Entry) → f e ≡ t → t ≡ false → filter f (cond b (e ∷ us) us) ≡ filter f us
  passed true t e us is off = ap (λ t. cond t (e ∷ filter f us) (filter f us)) (is ∙ off)
  passed false t e us is off = refl

  both : (b : Bool) (e : Entry) (us vs : List Entry) → filter f us ≡ filter f vs → filter f (cond b (e ∷ us) us) ≡ filter f (cond b (e ∷ vs) vs)
  both true e us vs same = ap (λ r. cond (f e) (e ∷ r) r) same
  both false e us vs same = same

  one : (b c t : Bool) (e : Entry) (us vs : List Entry) → f e ≡ t → (f e ≡ true → b ≡ c) → filter f us ≡ filter f vs → filter f (cond b (e ∷ us) us) ≡ filter f (cond c (e ∷ vs) vs)
  one b c true e us vs is agree same = both b e us vs same ∙ ap (λ b. filter f (cond b (e ∷ vs) vs)) (agree is)
  one b c false e us vs is agree same = passed b false e us is refl ∙ same ∙ sym (passed c false e vs is refl)

  -- two tests that agree at each entry that f keeps
  agreeing : (g h : Entry → Bool) (es : List Entry) → ((e : Entry) → f e ≡ true → g e ≡ h e) → filter f (filter g es) ≡ filter f (filter h es)
  agreeing g h [] agree = refl
  agreeing g h (e ∷ es) agree = one (g e) (h e) (f e) e (filter g es) (filter h es) refl (agree e) (agreeing g h es agree)

session_agreeing : (q : ℕ) (g h : Entry → Bool) (es : List Entry) → ((e : Entry) → e.tag.session ≡ q → g e ≡ h e) → of_session q (filter g es) ≡ of_session q (filter h es)
unfolding of_session
session_agreeing q g h es agree = agreeing (λ e. e.tag.session == q) g h es (λ e t. agree e (equal e.tag.session q t))

-- an entry of another session
entries_grown : (q : ℕ) (lanes : List LaneNow) (es : List Entry) (e : Entry) → e.tag.session ≢ q → of_session q (answered_in lanes (es ++ e ∷ [])) ≡ of_session q (answered_in lanes es)
entries_grown q lanes es e ne = ap (of_session q) (filter-grown (λ e. not (is_open_read lanes e)) es e) ∙ by (not (is_open_read lanes e))
  where
    by : (b : Bool) → of_session q (answered_in lanes es ++ cond b (e ∷ []) []) ≡ of_session q (answered_in lanes es)
    by true = session_other q (answered_in lanes es) e ne
    by false = ap (of_session q) (append_none (answered_in lanes es))

set_same : (xs : List LaneNow) (l : ℕ) (p r : LaneNow) → slice_get xs l ≡ Some p → slice_get (slice_set xs l r) l ≡ Some r
set_same [] l p r at = cc
set_same (x ∷ xs) zero p r at = refl
set_same (x ∷ xs) (suc l) p r at = set_same xs l p r at

set_other : (xs : List LaneNow) (l i : ℕ) (r : LaneNow) → i ≢ l → slice_get (slice_set xs l r) i ≡ slice_get xs i
set_other [] l i r ne = refl
set_other (x ∷ xs) zero zero r ne = absurd (ne refl)
set_other (x ∷ xs) zero (suc i) r ne = refl
set_other (x ∷ xs) (suc l) zero r ne = refl
set_other (x ∷ xs) (suc l) (suc i) r ne = set_other xs l i r (λ e. ne (ap suc e))

-- an entry isn't that of a read of another session
unopened : (p : LaneNow) (e : Entry) → (is_reading p.phase ≡ true → e.tag.session ≢ p.tag.session) → is_open_in (Some p) e ≡ false
unopened p e ne = by (is_reading p.phase) refl
  where
    by : (b : Bool) → is_reading p.phase ≡ b → (b && same_tag e.tag p.tag && changes_nothing e.act) ≡ false
    by false h = refl
    by true h = ap (λ t. true && (t && (e.tag.call == p.tag.call)) && changes_nothing e.act) (unequal e.tag.session p.tag.session (ne h))

not_open : (q : ℕ) (p : LaneNow) → IsOther q p → (e : Entry) → e.tag.session ≡ q → is_open_in (Some p) e ≡ false
not_open q p other e is = unopened p e (λ rd k. other (reading_busy p.phase rd) (ap (λ (t : Tag). t.session) (reading_tag p rd) ∙ sym k ∙ is))

module _ (q : ℕ) (lanes : List LaneNow) (l : ℕ) (p r : LaneNow) (at : slice_get lanes l ≡ Some p) (was : IsOther q p) (is : IsOther q r) where
  open_same : (e : Entry) → e.tag.session ≡ q → is_open_read (slice_set lanes l r) e ≡ is_open_read lanes e
  open_same e own = elim (same_or_not e.lane l) [
    | inl k ↦
        ap (λ i. is_open_in (slice_get (slice_set lanes l r) i) e) k ∙ ap (λ o. is_open_in o e) (set_same lanes l p r at) ∙ not_open q r is e own
        ∙ sym (ap (λ i. is_open_in (slice_get lanes i) e) k ∙ ap (λ o. is_open_in o e) at ∙ not_open q p was e own)
    | inr ne ↦ ap (λ o. is_open_in o e) (set_other lanes l e.lane r ne)
  ]

  entries_set : (es : List Entry) → of_session q (answered_in (slice_set lanes l r) es) ≡ of_session q (answered_in lanes es)
  entries_set es = session_agreeing q (λ e. not (is_open_read (slice_set lanes l r) e)) (λ e. not (is_open_read lanes e)) es (λ e own. ap not (open_same e own))

-- ---- both

module _ (held : Held) (q l : ℕ) (p : LaneNow) (at : slice_get held.lanes l ≡ Some p) (was : IsOther q p) where
  -- a lane changes, and is in no call of the session afterwards
  lane_part : (r : LaneNow) → IsOther q r → SamePart q held (with_lane held l r)
  lane_part r is = record {
    calls = calls_set q held.shape held.lanes 0 l p r at was is;
    entries = entries_set q held.lanes l p r at was is held.entries;
  }

  abbrev q_lane : LaneNow
  q_lane = lane_after held.shape l held.row p p.phase

  abbrev past : Recorded
  past = past_after held.shape l held.row p (recorded held.entries 0) p.phase

  step_part : SamePart q held (lane_stepped held l p)
  step_part =
      let c = changed held.shape l held.row p (recorded held.entries 0) p.phase refl in
      let is : IsOther q q_lane = λ b e. was (c.busy b).0 (ap (λ (t : Tag). t.session) (sym (c.busy b).1) ∙ e) in
      record {
        calls = calls_set q held.shape held.lanes 0 l p q_lane at was is;
        entries = entries_set q held.lanes l p q_lane at was is past.entries ∙ elim c.grows [
          | inl e ↦ ap (λ es. of_session q (answered_in held.lanes es)) e
          | inr k ↦ ap (λ es. of_session q (answered_in held.lanes es)) k.1
              ∙ entries_grown q held.lanes held.entries k.0 (λ e. was k.4 (ap (λ (t : Tag). t.session) (sym k.3) ∙ e))
        ];
      }

-- what a lane becomes at the beginning of a call
begun_part : (held : Held) (q l : ℕ) (f : LaneNow → LaneNow) → ((p : LaneNow) → IsOther q (f p)) → (o : Option LaneNow) → slice_get held.lanes l ≡ o → SamePart q held (if_there held (lane_begun held l f) o)
begun_part held q l f is None at = record { calls = refl; entries = refl }
begun_part held q l f is (Some p) at = by (is_idle p.phase) refl
  where
    by : (b : Bool) → is_idle p.phase ≡ b → SamePart q held (if b then with_lane held l (f p) else held)
    by true idle = lane_part held q l p at (λ b. never (sym b ∙ idle)) (f p) (is p)
    by false busy = record { calls = refl; entries = refl }

stepped_part : (held : Held) (q l : ℕ) → ((p : LaneNow) → slice_get held.lanes l ≡ Some p → IsOther q p) → (o : Option LaneNow) → slice_get held.lanes l ≡ o → SamePart q held (if_there held (lane_stepped held l) o)
stepped_part held q l was None at = record { calls = refl; entries = refl }
stepped_part held q l was (Some p) at = step_part held q l p at (was p at)

pub others_keep_parts : OthersKeepParts
others_keep_parts held (Read l tag sector) q ne =
    begun_part held q l (λ p. read_begun p tag sector (zeros held.shape) (zeros held.shape)) (λ p b. ne) (slice_get held.lanes l) refl
others_keep_parts held (Write l tag sector words) q ne =
    begun_part held q l (λ p. write_begun held.shape p tag sector words)
    (λ p b e. ne (ap (λ (t : Tag). t.session) (sym (first_tag (held.shape.lanes == 1) p.tag tag)) ∙ e)) (slice_get held.lanes l) refl
others_keep_parts held (Step l) q was = stepped_part held q l was (slice_get held.lanes l) refl

-- ---- a session's own part

in_one : (held : Held) (l : ℕ) (p : LaneNow) → OneCallEach held.lanes → slice_get held.lanes l ≡ Some p → is_idle p.phase ≡ false → own_calls (tag_of p).session held ≡ in_call held.shape l p ∷ []
in_one held l p alone at busy =
    let there : 0 + l ≡ l = omega arith in
    one_from (tag_of p).session held.shape held.lanes 0 l p at busy refl (λ i r there ne b e. ne (alone i l r p there at b busy e))
    ∙ ap (λ k. in_call held.shape k p ∷ []) there

in_none : (held : Held) (session : ℕ) → IsFree session held.lanes → own_calls session held ≡ []
in_none held session free = none_from session held.shape held.lanes 0 (λ i r at b. free i r at b)

every : (es : List Entry) → filter (λ e. true) es ≡ es
every [] = refl
every (e ∷ es) = ap (λ r. e ∷ r) (every es)

all_own : (held : Held) (session : ℕ) → ((i : ℕ) (p : LaneNow) → slice_get held.lanes i ≡ Some p → is_reading p.phase ≡ true → p.tag.session ≢ session) → own_entries session held ≡ of_session session held.entries
all_own held q unread =
    session_agreeing q (λ e. not (is_open_read held.lanes e)) (λ e. true) held.entries (λ e own. ap not (closed e own (slice_get held.lanes e.lane) refl))
    ∙ ap (of_session q) (every held.entries)
  where
    closed : (e : Entry) → e.tag.session ≡ q → (o : Option LaneNow) → slice_get held.lanes e.lane ≡ o → is_open_in o e ≡ false
    closed e own None at = refl
    closed e own (Some p) at = unopened p e (λ rd k. unread e.lane p at rd (sym k ∙ own))

pub own_part_is_known : OwnPartIsKnown
own_part_is_known = record { in_one = in_one; in_none = in_none; all_own = all_own }
