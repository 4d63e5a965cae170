-- Each session has one call at a time, and no entry of it stands behind its open read: steps and
-- new calls keep this.
use Rattle.std.proofs.Common.{◌≡◌, ◌≢◌, ◌⊎◌, ℕ, ◌+◌, ◌*◌, ◌<◌, ◌==◌, nat_lt, if◌then◌else◌, inl, inr, zero, suc, Bool, true, false, List, [], ◌∷◌, ◌++◌, map, get_or, slice_get, slice_set, Some, refl, sym, ap, ◌∙◌, subst, arith, length-set, get_or-set_same, get_or-set_other}
use Rattle.std.proofs.lemmas.Option.{get_or_from_slice_get, slice_get_within, slice_get-get_or}
use Rattle.arena_open.specs.declared.opened.LaneState.{LaneState}
use Rattle.map_table.specs.declared.kinds.Kind.{Kind}
use Rattle.map_table.specs.declared.kinds.Kind.TheVariants as kind
use Rattle.nvd_words.specs.declared.tag.Tag.{Tag}
use Rattle.lane_core.specs.declared.history.Entry.{Entry}
use Rattle.lane_core.specs.declared.now.LaneNow.{LaneNow}
use Rattle.lane_core.specs.declared.phase.Phase.{Phase}
use Rattle.lane_core.specs.declared.phase.Phase.TheVariants.{Idle, Scanning, Staging, Staged, Locked, Known, LogAStored, LogA, LogBStored, Logged, Switched, Kept, Called, Looking, Published, Moved, Reading}
use Rattle.lane_core.specs.declared.shape.Shape.{Shape}
use Rattle.lane_core.specs.After.{is_free, is_unmoved, kind_found, lane_after, lane_looked, past_after, past_looked, wants_lock, cell_found}
use Rattle.lane_core.specs.Begins.{is_idle}
use Rattle.lane_core.specs.History.{of_session}
use Rattle.lane_core.specs.Idle.{idle_of}
use Rattle.lane_core.specs.Invariant.{is_reading}
use Rattle.lane_core.specs.Lines.{read_now, wrote_now}
use Rattle.lane_core.specs.Rows.{RowWords, Recorded, grown}
use Rattle.lane_core.specs.Sessions.{IsFree, IsLast, IsServed, NoneBehind, OneCallEach, tag_of}
use Rattle.lane_core.proofs.Past.{append_none, filter-grown}
use Rattle.lane_core.proofs.Put.{never, same_or_not}

-- ---- a session's entries

session_grown : (q : ℕ) (es : List Entry) (e : Entry) → of_session q (es ++ e ∷ []) ≡ of_session q es ++ of_session q (e ∷ [])
unfolding of_session
session_grown q es e = filter-grown (λ x. x.tag.session == q) es e

session_one : (q : ℕ) (e : Entry) → e.tag.session ≡ q → of_session q (e ∷ []) ≡ e ∷ []
unfolding of_session
session_one q e is = grind arith

session_none : (q : ℕ) (e : Entry) → e.tag.session ≢ q → of_session q (e ∷ []) ≡ []
unfolding of_session
session_none q e ne = grind arith

session_own : (q : ℕ) (es : List Entry) (e : Entry) → e.tag.session ≡ q → of_session q (es ++ e ∷ []) ≡ of_session q es ++ e ∷ []
session_own q es e is = session_grown q es e ∙ ap (λ r. of_session q es ++ r) (session_one q e is)

pub session_other : (q : ℕ) (es : List Entry) (e : Entry) → e.tag.session ≢ q → of_session q (es ++ e ∷ []) ≡ of_session q es
session_other q es e ne = session_grown q es e ∙ ap (λ r. of_session q es ++ r) (session_none q e ne) ∙ append_none (of_session q es)

-- a lane that loads a read's words isn't idle and wants no lock
reading_wants : (ph : Phase) → is_reading ph ≡ true → wants_lock ph ≡ false
reading_wants (Reading k) e = refl
reading_wants _ e = never e

pub reading_busy : (ph : Phase) → is_reading ph ≡ true → is_idle ph ≡ false
reading_busy (Reading k) e = refl
reading_busy _ e = never e

pub reading_tag : (p : LaneNow) → is_reading p.phase ≡ true → tag_of p ≡ p.tag
reading_tag p e = ap (λ b. if b then p.next else p.tag) (reading_wants p.phase e)

-- ---- what a step changes

-- the lane stays in its call, and the history has its entry more, or not
pub record Changed (l : ℕ) (p q : LaneNow) (old new : List Entry) : Type 0 where
  pub busy : is_idle q.phase ≡ false → (is_idle p.phase ≡ false) × (tag_of q ≡ tag_of p)
  pub grows : (new ≡ old) ⊎ ((e : Entry) × (new ≡ old ++ e ∷ []) × (e.lane ≡ l) × (e.tag ≡ tag_of p) × (is_idle p.phase ≡ false))
  pub reads : is_reading q.phase ≡ true → ((is_reading p.phase ≡ true) × (q.tag ≡ p.tag) × (new ≡ old)) ⊎ ((e : Entry) × (new ≡ old ++ e ∷ []) × (e.lane ≡ l) × (e.tag ≡ q.tag))

module _ (x : Shape) (l : ℕ) (row : RowWords) (p : LaneNow) (past : Recorded) where
  abbrev Step : LaneNow → Recorded → Type 0
  Step q new = Changed l p q past.entries new.entries

  tag_by : (ph : Phase) → p.phase ≡ ph → tag_of p ≡ (if wants_lock ph then p.next else p.tag)
  tag_by ph e = ap (λ ph. if wants_lock ph then p.next else p.tag) e

  same : Step p past
  same = record { busy = λ u. (u, refl); grows = inl refl; reads = λ u. inl (u, refl, refl) }

  -- no entry comes, and the lane loads no words of a read
  goes : (ph : Phase) (q : LaneNow) → p.phase ≡ ph → is_idle ph ≡ false → tag_of q ≡ (if wants_lock ph then p.next else p.tag) → is_reading q.phase ≡ false → Step q past
  goes ph q e busy t r = record { busy = λ u. (ap is_idle e ∙ busy, t ∙ sym (tag_by ph e)); grows = inl refl; reads = λ u. never (sym r ∙ u) }

  ends : (q : LaneNow) → is_idle q.phase ≡ true → is_reading q.phase ≡ false → Step q past
  ends q i r = record { busy = λ u. never (sym u ∙ i); grows = inl refl; reads = λ u. never (sym r ∙ u) }

  -- the lane's entry comes
  enters : (ph : Phase) (q : LaneNow) (e : Entry) → p.phase ≡ ph → is_idle ph ≡ false → (is_idle q.phase ≡ false → tag_of q ≡ (if wants_lock ph then p.next else p.tag)) → e.lane ≡ l → e.tag ≡ (if wants_lock ph then p.next else p.tag)
      → (is_reading q.phase ≡ true → e.tag ≡ q.tag) → Step q (grown past e)
  enters ph q e is busy t le te r = record {
    busy = λ u. (ap is_idle is ∙ busy, t u ∙ sym (tag_by ph is));
    grows = inr (e, refl, le, te ∙ sym (tag_by ph is), ap is_idle is ∙ busy);
    reads = λ u. inr (e, refl, le, r u);
  }

  choose : {A : Type 0} (P : A → Type 0) (b : Bool) (u v : A) → P u → P v → P (if b then u else v)
  choose P true u v a c = a
  choose P false u v a c = c

  scanning : (j : ℕ) → p.phase ≡ Scanning j → Step (lane_after x l row p (Scanning j)) past
  scanning j e =
      choose (λ ph. Step (record p { phase = ph }) past) _ (Scanning 0) _ (goes (Scanning j) _ e refl refl refl)
      (choose (λ ph. Step (record p { phase = ph }) past) (j + 2 == x.lanes) (Staging 0) (Scanning (j + 1)) (goes (Scanning j) _ e refl refl refl) (goes (Scanning j) _ e refl refl refl))

  staging : (k : ℕ) → p.phase ≡ Staging k → Step (lane_after x l row p (Staging k)) past
  staging k e =
      choose (λ q. Step q past) (nat_lt k x.width) _ _ (goes (Staging k) _ e refl refl refl)
      (choose (λ ph. Step (record p { phase = ph }) past) (k + 1 == 2 * x.width) Staged (Staging (k + 1)) (goes (Staging k) _ e refl refl refl) (goes (Staging k) _ e refl refl refl))

  called : (k : Kind) → p.phase ≡ Called → Step (lane_looked x l row p k) (past_looked x l row p past k)
  called kind.Zero e = enters Called _ _ e refl (λ u. never (sym u)) refl refl (λ u. never u)
  called kind.Bad e = enters Called _ _ e refl (λ u. never (sym u)) refl refl (λ u. never u)
  called kind.Initial e = goes Called _ e refl refl refl
  called kind.Normal e = goes Called _ e refl refl refl

  published : p.phase ≡ Published → Step (lane_after x l row p Published) (past_after x l row p past Published)
  published e = by (is_unmoved x l row p)
    where
      by : (b : Bool) → Step (if b then record p { phase = Reading 0; cell = [] } else record p { phase = Moved }) (if b then grown past (read_now l p (cell_found x l row p)) else past)
      by true = enters Published _ _ e refl (λ u. refl) refl refl (λ u. refl)
      by false = goes Published _ e refl refl refl

  reading : (k : ℕ) → p.phase ≡ Reading k → Step (lane_after x l row p (Reading k)) past
  reading k e = choose (λ q. Step q past) (nat_lt k x.width) _ _
      (record { busy = λ u. (ap is_idle e, sym (tag_by (Reading k) e)); grows = inl refl; reads = λ u. inl (ap is_reading e, refl, refl) })
      (ends _ refl refl)

  pub changed : (ph : Phase) → p.phase ≡ ph → Step (lane_after x l row p ph) (past_after x l row p past ph)
  changed Idle e = same
  changed (Scanning j) e = scanning j e
  changed (Staging k) e = staging k e
  changed Staged e = choose (λ q. Step q past) (is_free x l row p) _ _ (goes Staged _ e refl refl refl) same
  changed Locked e = goes Locked _ e refl refl refl
  changed Known e = goes Known _ e refl refl refl
  changed LogAStored e = goes LogAStored _ e refl refl refl
  changed LogA e = goes LogA _ e refl refl refl
  changed LogBStored e = goes LogBStored _ e refl refl refl
  changed Logged e = enters Logged _ (wrote_now l p) e refl (λ u. refl) refl refl (λ u. never u)
  changed Switched e = goes Switched _ e refl refl refl
  changed Kept e = ends _ refl refl
  changed Called e = called (kind_found x l row p) e
  changed Looking e = goes Looking _ e refl refl refl
  changed Published e = published e
  changed Moved e = goes Moved _ e refl refl refl
  changed (Reading k) e = reading k e

-- ---- a lane changes

last_same : (h : List Entry) (l : ℕ) (t u : Tag) → u ≡ t → IsLast h l t → IsLast h l u
last_same h l t u e k = subst (IsLast h l) (sym e) k

last_other : (h : List Entry) (e : Entry) (l : ℕ) (t : Tag) → e.tag.session ≢ t.session → IsLast h l t → IsLast (h ++ e ∷ []) l t
last_other h e l t ne k = record { before = k.before; entry = k.entry; is = session_other t.session h e ne ∙ k.is; lane_is = k.lane_is; tag_is = k.tag_is }

last_own : (h : List Entry) (e : Entry) (l : ℕ) (t : Tag) → e.lane ≡ l → e.tag ≡ t → IsLast (h ++ e ∷ []) l t
last_own h e l t le te = record { before = of_session t.session h; entry = e; is = session_own t.session h e (ap (λ (t : Tag). t.session) te); lane_is = le; tag_is = te }

module _ (lanes : List LaneNow) (l : ℕ) (p q : LaneNow) (at : slice_get lanes l ≡ Some p) where
  -- a lane afterwards is the changed one or another
  pub which : (i : ℕ) (r : LaneNow) → slice_get (slice_set lanes l q) i ≡ Some r → ((i ≡ l) × (q ≡ r)) ⊎ ((i ≢ l) × (slice_get lanes i ≡ Some r))
  which i r is = elim (same_or_not i l) [
    | inl e ↦ inl (e, sym (get_or-set_same lanes l q r (slice_get_within lanes l p at)) ∙ ap (λ j. get_or (slice_set lanes l q) j r) (sym e) ∙ get_or_from_slice_get (slice_set lanes l q) i r r is)
    | inr ne ↦ inr (
      ne,
      slice_get-get_or lanes i r (subst (λ n. i < n) (length-set lanes l q) (slice_get_within (slice_set lanes l q) i r is))
          ∙ ap Some (sym (get_or-set_other lanes l i q r ne) ∙ get_or_from_slice_get (slice_set lanes l q) i r r is),
    )
  ]

  module _ (old new : List Entry) (c : Changed l p q old new) (h : IsServed lanes old) where
    step_one : OneCallEach (slice_set lanes l q)
    step_one i j r s ri sj rb sb e = elim (which i r ri) [
      | inl a ↦ elim (which j s sj) [
        | inl b ↦ a.0 ∙ sym b.0
        | inr b ↦
            let k = c.busy (ap (λ (y : LaneNow). is_idle y.phase) a.1 ∙ rb) in
            a.0 ∙ h.one l j p s at b.1 k.0 sb (ap (λ (t : Tag). t.session) (sym k.1 ∙ ap tag_of a.1) ∙ e)
      ]
      | inr a ↦ elim (which j s sj) [
        | inl b ↦
            let k = c.busy (ap (λ (y : LaneNow). is_idle y.phase) b.1 ∙ sb) in
            h.one i l r p a.1 at rb k.0 (e ∙ ap (λ (t : Tag). t.session) (ap tag_of (sym b.1) ∙ k.1)) ∙ sym b.0
        | inr b ↦ h.one i j r s a.1 b.1 rb sb e
      ]
    ]

    step_behind : NoneBehind (slice_set lanes l q) new
    step_behind i r ri rd = elim (which i r ri) [
      | inl a ↦ elim (c.reads (ap (λ (y : LaneNow). is_reading y.phase) a.1 ∙ rd)) [
        | inl k ↦ subst (λ n. IsLast n i r.tag) (sym k.2) (subst (λ j. IsLast old j r.tag) (sym a.0) (last_same old l p.tag r.tag (ap (λ (y : LaneNow). y.tag) (sym a.1) ∙ k.1) (h.none_behind l p at k.0)))
        | inr k ↦ subst (λ n. IsLast n i r.tag) (sym k.1) (last_own old k.0 i r.tag (k.2 ∙ sym a.0) (k.3 ∙ ap (λ (y : LaneNow). y.tag) a.1))
      ]
      | inr a ↦ elim c.grows [
        | inl k ↦ subst (λ n. IsLast n i r.tag) (sym k) (h.none_behind i r a.1 rd)
        | inr k ↦ subst (λ n. IsLast n i r.tag) (sym k.1) (last_other old k.0 i r.tag
            (λ e. a.0 (h.one i l r p a.1 at (reading_busy r.phase rd) k.4 (ap (λ (t : Tag). t.session) (reading_tag r rd) ∙ sym e ∙ ap (λ (t : Tag). t.session) k.3)))
            (h.none_behind i r a.1 rd))
      ]
    ]

    pub served_step : IsServed (slice_set lanes l q) new
    served_step = record { one = step_one; none_behind = step_behind }

  -- a call begins in a session that is in none
  pub served_begin : (history : List Entry) (tag : Tag) → tag_of q ≡ tag → is_reading q.phase ≡ false → IsFree tag.session lanes → IsServed lanes history → IsServed (slice_set lanes l q) history
  served_begin history tag t nr free h = record {
    one = λ i j r s ri sj rb sb e. elim (which i r ri) [
      | inl a ↦ elim (which j s sj) [
        | inl b ↦ a.0 ∙ sym b.0
        | inr b ↦ absurd (free j s b.1 sb (sym e ∙ ap (λ (t : Tag). t.session) (ap tag_of (sym a.1) ∙ t)))
      ]
      | inr a ↦ elim (which j s sj) [
        | inl b ↦ absurd (free i r a.1 rb (e ∙ ap (λ (t : Tag). t.session) (ap tag_of (sym b.1) ∙ t)))
        | inr b ↦ h.one i j r s a.1 b.1 rb sb e
      ]
    ];
    none_behind = λ i r ri rd. elim (which i r ri) [
      | inl a ↦ never (sym nr ∙ ap (λ (y : LaneNow). is_reading y.phase) a.1 ∙ rd)
      | inr a ↦ h.none_behind i r a.1 rd
    ];
  }

-- ---- idle lanes

pub all_idle : (lanes : List LaneState) (i : ℕ) (p : LaneNow) → slice_get (map idle_of lanes) i ≡ Some p → is_idle p.phase ≡ true
all_idle [] i p e = cc
all_idle (x ∷ xs) zero p e = ap (λ (y : LaneNow). is_idle y.phase) (sym (got e))
  where
    got : Some (idle_of x) ≡ Some p → idle_of x ≡ p
    got e = cc
all_idle (x ∷ xs) (suc i) p e = all_idle xs i p e

idle_unread : (ph : Phase) → is_idle ph ≡ true → is_reading ph ≡ false
idle_unread Idle e = refl
idle_unread _ e = never e

pub served_idle : (lanes : List LaneState) (history : List Entry) → IsServed (map idle_of lanes) history
served_idle lanes history = record {
  one = λ i j p q ip jq pb qb e. never (sym pb ∙ all_idle lanes i p ip);
  none_behind = λ i p ip rd. never (sym (idle_unread p.phase (all_idle lanes i p ip)) ∙ rd);
}
