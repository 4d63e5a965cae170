-- A step of a lane of a core is the line of its phase.
use Rattle.std.proofs.Common.{◌≡◌, ℕ, ◌<◌, ◌≢◌, inl, inr, List, length, get_or, slice_get, slice_set, Some, sym, ap, ◌∙◌, subst, length-set, get_or-set_same, get_or-set_other}
use Rattle.std.proofs.lemmas.Option.{get_or_from_slice_get, slice_get_within, slice_get-get_or}
use Rattle.lane_core.specs.declared.history.Entry.{Entry}
use Rattle.lane_core.specs.declared.lane.Lane.{Lane}
use Rattle.lane_core.specs.declared.now.LaneNow.{LaneNow}
use Rattle.lane_core.specs.declared.phase.Phase.{Phase}
use Rattle.lane_core.specs.declared.shape.Shape.{Shape}
use Rattle.lane_core.specs.Areas.{put}
use Rattle.lane_core.specs.Machine.{State}
use Rattle.lane_core.specs.Places.{IsShape, Place, IsIn, Shows, word_of, value_of}
use Rattle.lane_core.specs.Rows.{RowWords}
use Rattle.lane_core.specs.Showing.{Shown, lane_at, lane_of}
use Rattle.lane_core.proofs.Put.{put_at, put_other, same_or_not}
use Rattle.lane_core.proofs.Places.{shows_stored, in_table}

module _ (x : Shape) (row : RowWords) (lanes : List LaneNow) (entries : List Entry) (s : State) (l : ℕ) (p : LaneNow) (hs : IsShape x) (h : Shown x row lanes entries s) (at : slice_get lanes l ≡ Some p) where
  -- the lane in its phase
  pub lane_is : (ph : Phase) → p.phase ≡ ph → s.lanes l ≡ lane_at x.width p ph (s.lanes l).log
  lane_is ph e = subst (λ ph. s.lanes l ≡ lane_at x.width p ph (s.lanes l).log) e (h.each l p at)

  pub lane_lt : l < x.lanes
  lane_lt = subst (λ n. l < n) h.count (slice_get_within lanes l p at)

  -- one lane changes
  lanes_shown : (t : State) (q : LaneNow) (new : Lane) → t.lanes ≡ put s.lanes l new → new ≡ lane_of x.width q new.log
      → (j : ℕ) (r : LaneNow) → slice_get (slice_set lanes l q) j ≡ Some r → t.lanes j ≡ lane_of x.width r (t.lanes j).log
  lanes_shown t q new et own j r is =
      subst (λ (f : ℕ → Lane). f j ≡ lane_of x.width r (f j).log) (sym et) (elim (same_or_not j l) [
        | inl e ↦ subst (λ j. put s.lanes l new j ≡ lane_of x.width r (put s.lanes l new j).log) (sym e)
            (subst (λ (a : Lane). a ≡ lane_of x.width r a.log) (sym (put_at s.lanes l new)) (subst (λ (r : LaneNow). new ≡ lane_of x.width r new.log) (mine e) own))
        | inr ne ↦ subst (λ (a : Lane). a ≡ lane_of x.width r a.log) (sym (put_other s.lanes l new j ne)) (h.each j r (elsewhere ne))
      ])
    where
      mine : j ≡ l → q ≡ r
      mine e = sym (get_or-set_same lanes l q r (slice_get_within lanes l p at)) ∙ ap (λ i. get_or (slice_set lanes l q) i r) (sym e) ∙ get_or_from_slice_get (slice_set lanes l q) j r r is

      elsewhere : j ≢ l → slice_get lanes j ≡ Some r
      elsewhere ne =
          slice_get-get_or lanes j r (subst (λ n. j < n) (length-set lanes l q) (slice_get_within (slice_set lanes l q) j r is))
          ∙ ap Some (sym (get_or-set_other lanes l j q r ne) ∙ get_or_from_slice_get (slice_set lanes l q) j r r is)

  -- no word changes
  pub still : (t : State) (q : LaneNow) (new : Lane) (entries' : List Entry) → t.lanes ≡ put s.lanes l new → new ≡ lane_of x.width q new.log
      → ((r : Place) → value_of t r ≡ value_of s r) → t.history ≡ entries' → Shown x row (slice_set lanes l q) entries' t
  still t q new entries' et own same eh = record {
    row_is = h.row_is;
    count = length-set lanes l q ∙ h.count;
    words = λ r i. h.words r i ∙ sym (same r);
    each = lanes_shown t q new et own;
    history = eh;
  }

  -- one word changes
  pub moves : (t : State) (q : LaneNow) (new : Lane) (entries' : List Entry) (row' : RowWords) (place : Place) (v : ℕ) → t.lanes ≡ put s.lanes l new → new ≡ lane_of x.width q new.log
      → IsIn x place → row'.words ≡ slice_set row.words (word_of x place) v → length row'.pending ≡ length row.pending → value_of t place ≡ v
      → ((r : Place) → r ≢ place → value_of t r ≡ value_of s r) → t.history ≡ entries' → Shown x row' (slice_set lanes l q) entries' t
  moves t q new entries' row' place v et own i ew ep here there eh = record {
    row_is = record { size = ap length ew ∙ length-set row.words (word_of x place) v ∙ h.row_is.size; arena = ep ∙ h.row_is.arena; small = h.row_is.small };
    count = length-set lanes l q ∙ h.count;
    words = subst (λ ws. Shows x ws t) (sym ew) (shows_stored x hs row.words s t place v i (subst (λ n. word_of x place < n) (sym h.row_is.size) (in_table x hs place i)) h.words here (λ r ne m. there r ne));
    each = lanes_shown t q new et own;
    history = eh;
  }
