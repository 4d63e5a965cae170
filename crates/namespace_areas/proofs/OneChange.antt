-- What becomes of one area by one change, in the words of the changes of several areas.
use Rattle.std.proofs.Common.{◌≡◌, ℕ, ◌≤◌, Bool, true, false, List, length, Option, Some, None, Ok, Err, refl, sym, ap, ◌∙◌, subst, arith, inl, inr}
use Rattle.std.specs.Prelude.{not}
use Rattle.std.specs.List.{position}
use Rattle.std.proofs.lemmas.Bool.{cases_Bool, false≢true, leb-true}
use Rattle.cut_words.specs.Words.{Words, Step, settled, IsLeft}
use Rattle.cut_words.specs.Fuses.{Makes, burnt, lasts}
use Rattle.cut_words.specs.WordBytes.{bytes_of}
use Rattle.cut_words.proofs.Making.{makes_length}
use Rattle.label_codec.specs.declared.label.Label.{Label}
use Rattle.label_index.specs.declared.index.IndexBlock.{IndexBlock}
use Rattle.label_index.specs.Area.{block_size_of}
use Rattle.label_area.specs.declared.fault.ChangeRefused.{ChangeRefused}
use Rattle.label_area.specs.Area.{SlotState, slots_by, slots_with, labels_in}
use Rattle.label_area.specs.Change.{opposite, next_block, words_after, replace_steps, count_of_steps, with_put, without}
use Rattle.label_area.specs.Whole.{IsCut, Shows, steps_under}
use Rattle.label_area.specs.State.{AreaState}
use Rattle.label_area.specs.Opened.{IsReady, state_of, opened_by}
use Rattle.label_area.specs.Replace.{placed, change_answer, replace_answer, answer_by, labels_after, changed, Changes, IsChanged}
use Rattle.label_area.proofs.Before.{IsSized, IsCurrent}
use Rattle.label_area.proofs.Written.{length_change}
use Rattle.label_area.proofs.Opened.{ready_sized, ready_current}
use Rattle.namespace_map.specs.Areas.{Area as SeenArea, slot_of, replaced}
use Rattle.namespace_map.proofs.Slots.{first_free}
use Rattle.namespace_areas.specs.Seen.{area_by, ready_seen, shown_by, area_shown, is_label_of}
use Rattle.namespace_areas.specs.Steps.{area_steps, steps_by, steps_put}
use Rattle.namespace_areas.specs.Went.{HasRoom, area_after, ShowsCut, AreaWent}
use Rattle.namespace_areas.proofs.Slots.{least_is, first_of}

-- ---- what words show

same_slots : (left : List ℕ) (block : IndexBlock) (slots : List SlotState) → Shows left block slots → slots_by (bytes_of left) block ≡ slots
same_slots left block slots shows =
    let listed : slots_with (bytes_of left) (Ok block) ≡ Ok slots = ap (slots_with (bytes_of left)) (sym shows.current) ∙ shows.listed in
    cc

pub shows_area : (left : List ℕ) (block : IndexBlock) (slots : List SlotState) → Shows left block slots → area_shown (Some left) ≡ Some (record { block = block.size; slots = slots })
shows_area left block slots shows =
    ap (shown_by left) shows.current ∙ ap (λ (ss : List SlotState). Some (record { block = block.size; slots = ss })) (same_slots left block slots shows)

pub kept_left : (words : Words) → IsLeft words words.kept
kept_left words = record { same_length = refl; each = λ i. inl refl }

lasts_count : (fuse : Option ℕ) (count : ℕ) → lasts fuse count ≡ true → count ≤ steps_under fuse count
lasts_count None count e = omega arith
lasts_count (Some n) count e = leb-true count n e

not_true : (b : Bool) → not b ≡ true → b ≡ false
not_true true e = absurd (false≢true e)
not_true false e = refl

-- ---- one change

pub labels_shown : (old : AreaState) → IsReady old → old.labels ≡ labels_in (ready_seen old).slots
labels_shown old ready = ap (λ (a : AreaState). a.labels) ready.shown

pub out_is : (old : AreaState) → IsReady old → (uuid : List ℕ) → position (is_label_of uuid) old.labels ≡ slot_of (ready_seen old).slots uuid
out_is old ready uuid = ap (position (is_label_of uuid)) (labels_shown old ready) ∙ first_of uuid (ready_seen old).slots

-- the label that is put, under the number of its slot
record IsPut (old : AreaState) (out : Option ℕ) (label put : Option Label) : Type 0 where
  found : placed old.block.free label ≡ Ok put
  slots : replaced out label (ready_seen old).slots ≡ without out (with_put put (ready_seen old).slots)
  count : count_of_steps old.block.size put ≡ count_of_steps old.block.size label

is_put : (old : AreaState) (out : Option ℕ) (label : Option Label) → HasRoom (Some (ready_seen old)) label → (put : Option Label) × IsPut old out label put
is_put old out None room = (None, record { found = refl; slots = refl; count = refl })
is_put old out (Some l) room =
    let (f, (below, is, empty)) = first_free (ready_seen old).slots room in
    let least : position (λ x. x) old.block.free ≡ Some f = sym (least_is (bytes_of old.words.kept) old.block.size old.block.free) ∙ is in
    (Some (record l { slot = f }), record { found = rw least refl; slots = rw is refl; count = refl })

module _ (old : AreaState) (ready : IsReady old) (uuid : List ℕ) (label : Option Label) where
  abbrev out : Option ℕ
  out = slot_of (ready_seen old).slots uuid

  abbrev count : ℕ
  count = count_of_steps old.block.size label

  abbrev then : SeenArea
  then = area_after (ready_seen old) uuid label

  enough : 256 ≤ old.block.size
  enough =
      let sized : IsSized old.words.kept (block_size_of (length (bytes_of old.words.kept))) = ready_sized old ready in
      let current : IsCurrent old.words.kept (block_size_of (length (bytes_of old.words.kept))) old.block = ready_current old ready in
      omega (arith, sized.enough, current.sized)

  module _ (put : Option Label) (ok : IsPut old out label put) (new : AreaState) (fuse left : Option ℕ) (h : IsChanged old new fuse left out put) where
    steps_are : length (replace_steps old.words.kept old.block out put) ≡ count
    steps_are = length_change (words_after old.words.kept old.block out put) old.block.size (opposite old.block.side) put enough ∙ ok.count

    made_is : not new.stopped ≡ lasts fuse count
    made_is = h.made.all_made ∙ ap (lasts fuse) steps_are

    left_is : left ≡ burnt fuse count
    left_is = h.made.fuse_left ∙ ap (burnt fuse) steps_are

    -- the steps are those of the change
    steps_same : replace_steps old.words.kept old.block out put ≡ area_steps old.words.kept uuid label
    steps_same = ap (steps_put old.words.kept uuid old.block) (sym ok.found) ∙ ap (steps_by old.words.kept uuid label) (sym ready.current)

    as_then : (values : List ℕ) → Shows values (next_block old.block out put) (without out (with_put put (ready_seen old).slots)) → area_shown (Some values) ≡ Some then
    as_then values shows = shows_area values _ _ shows ∙ ap (λ (ss : List SlotState). Some (record { block = old.block.size; slots = ss })) (sym ok.slots)

    as_before : (values : List ℕ) → Shows values old.block (ready_seen old).slots → area_shown (Some values) ≡ Some (ready_seen old)
    as_before values shows = shows_area values _ _ shows

    shows_cut : (n : ℕ) (values : List ℕ) → IsCut old.words.kept old.block out put n values → ShowsCut (ready_seen old) then count n values
    shows_cut n values cut = record {
      before = λ lt. as_before values (cut.before (omega (arith, ok.count)));
      either = λ e. elim (cut.either (e ∙ sym ok.count)) [ inl shows ↦ inl (as_before values shows) | inr shows ↦ inr (as_then values shows) ];
      after = λ le. as_then values (cut.after (omega (arith, ok.count)));
    }

    cut_at : (n : ℕ) → fuse ≡ Some n → (values : List ℕ) → IsLeft new.words values → ShowsCut (ready_seen old) then count n values
    cut_at n is values left =
        shows_cut n values (subst (λ (f : Option ℕ). IsCut old.words.kept old.block out put (steps_under f (count_of_steps old.block.size put)) values) is (h.whole values left))

    seen_then : new.stopped ≡ false → ready_seen new ≡ then
    seen_then running =
        let lasts_put : lasts fuse (count_of_steps old.block.size put) ≡ true = ap (lasts fuse) ok.count ∙ sym made_is ∙ ap not running in
        let shows = (h.whole new.words.kept (kept_left new.words)).after (lasts_count fuse (count_of_steps old.block.size put) lasts_put) in
        let block : new.block ≡ next_block old.block out put = ap (λ (a : AreaState). a.block) (h.done running) in
        ap (area_by new.words.kept) block
        ∙ ap (λ (ss : List SlotState). record { block = old.block.size; slots = ss }) (same_slots new.words.kept _ _ shows ∙ sym ok.slots)

    -- the area is what its words show
    ready_then : new.stopped ≡ false → IsReady new
    ready_then running =
        let values : List ℕ = new.words.kept in
        let next : IndexBlock = next_block old.block out put in
        let labels : List (Option Label) = labels_after out put old.labels in
        let is : new ≡ changed old out put = h.done running in
        let lasts_put : lasts fuse (count_of_steps old.block.size put) ≡ true = ap (lasts fuse) ok.count ∙ sym made_is ∙ ap not running in
        let opens = (h.reopens values (kept_left new.words)).after (lasts_count fuse (count_of_steps old.block.size put) lasts_put) in
        let shows = (h.whole values (kept_left new.words)).after (lasts_count fuse (count_of_steps old.block.size put) lasts_put) in
        let state : opened_by values (Ok next) ≡ Ok (record { words = settled values; block = next; labels = labels; stopped = false }) =
        ap (opened_by values) (sym shows.current) ∙ opens.opens in
        let same : state_of values next ≡ record { words = settled values; block = next; labels = labels; stopped = false } = cc in
        let block : new.block ≡ next = ap (λ (a : AreaState). a.block) is in
        let kept : values ≡ words_after old.words.kept old.block out put = ap (λ (a : AreaState). a.words.kept) is in
        record {
          size = opens.size;
          current = shows.current ∙ ap (λ (b : IndexBlock). Ok b) (sym block);
          shown = is ∙ ap (λ (w : List ℕ). record { words = settled w; block = next; labels = labels; stopped = false }) (sym kept) ∙ sym same ∙ ap (state_of values) (sym block);
        }

    went : AreaWent old new fuse left uuid label (not new.stopped)
    went = record {
      made_is = made_is;
      left_is = left_is;
      makes = subst (λ (steps : List Step). Makes old.words new.words fuse left steps (not new.stopped)) steps_same h.made;
      ready = λ e. ready_then (not_true new.stopped e);
      done = λ e. seen_then (not_true new.stopped e);
      cut = cut_at;
      size = makes_length old.words new.words fuse left (replace_steps old.words.kept old.block out put) (not new.stopped) h.made;
    }

  -- with the answer of the change
  ok_lasts : (put : Option Label) (fuse : Option ℕ) (slot : Option ℕ) → Ok slot ≡ change_answer old.block fuse put → lasts fuse (count_of_steps old.block.size put) ≡ true
  ok_lasts put fuse slot e =
      elim (cases_Bool (lasts fuse (count_of_steps old.block.size put))) [
        | inl it ↦ it
        | inr not_it ↦ absurd (let f = rw not_it at e in cc)
      ]

  err_lasts : (put : Option Label) (fuse : Option ℕ) (refused : ChangeRefused) → Err refused ≡ change_answer old.block fuse put → lasts fuse (count_of_steps old.block.size put) ≡ false
  err_lasts put fuse refused e =
      elim (cases_Bool (lasts fuse (count_of_steps old.block.size put))) [
        | inl it ↦ absurd (let f = rw it at e in cc)
        | inr not_it ↦ not_it
      ]

  module _ (room : HasRoom (Some (ready_seen old)) label) (new : AreaState) (fuse left : Option ℕ) (h : Changes old new fuse left out label) where
    pub went_ok : (slot : Option ℕ) → Ok slot ≡ replace_answer old.block fuse label → AreaWent old new fuse left uuid label true
    went_ok slot e =
        let (put, ok) = is_put old out label room in
        let all = ok_lasts put fuse slot (e ∙ ap (answer_by old.block fuse) ok.found) in
        let changed = h put ok.found in
        let made : not new.stopped ≡ true = made_is put ok new fuse left changed ∙ ap (lasts fuse) (sym ok.count) ∙ all in
        subst (AreaWent old new fuse left uuid label) made (went put ok new fuse left changed)

    pub went_err : (refused : ChangeRefused) → Err refused ≡ replace_answer old.block fuse label → AreaWent old new fuse left uuid label false
    went_err refused e =
        let (put, ok) = is_put old out label room in
        let short = err_lasts put fuse refused (e ∙ ap (answer_by old.block fuse) ok.found) in
        let changed = h put ok.found in
        let made : not new.stopped ≡ false = made_is put ok new fuse left changed ∙ ap (lasts fuse) (sym ok.count) ∙ short in
        subst (AreaWent old new fuse left uuid label) made (went put ok new fuse left changed)
