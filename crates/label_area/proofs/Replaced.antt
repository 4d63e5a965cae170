-- A change of an open area.
use Rattle.std.proofs.Common.{◌≡◌, ℕ, ◌*◌, ◌<◌, List, length, get_or, take, Bool, true, false, Option, Some, None, Ok, Err, refl, sym, ap, ◌∙◌, subst, arith, inl, inr, take_all}
use Rattle.std.specs.Prelude.{not}
use Rattle.std.proofs.lemmas.Bool.{cases_lt}
use Rattle.std.proofs.lemmas.List.{get_or_past, map-set, length-map}
use Rattle.std.proofs.lemmas.List.Quantifiers.{position-Some}
use Rattle.cut_words.specs.Words.{Words, Step, after, settled, IsLeft}
use Rattle.cut_words.specs.Fuses.{Makes, lasts}
use Rattle.cut_words.specs.WordBytes.{bytes_of}
use Rattle.cut_words.proofs.Making.{makes_all, makes_length}
use Rattle.label_codec.specs.declared.label.Label.{Label}
use Rattle.label_codec.specs.Writable.{IsSound, IsWritable}
use Rattle.label_index.specs.declared.index.IndexBlock.{IndexBlock}
use Rattle.label_index.specs.Area.{block_size_of, IsAreaSize}
use Rattle.label_area.specs.declared.fault.ChangeRefused.TheVariants.{PowerCut}
use Rattle.label_area.specs.Area.{SlotState, label_in, labels_in, slots_by, slots_with}
use Rattle.label_area.specs.Change.{opposite, slot_of_put, next_block, words_after, replace_steps, count_of_steps, with_put, without, IsFreeSlot}
use Rattle.label_area.specs.Whole.{IsChange, IsCut, Shows, slots_before, slots_after, steps_under}
use Rattle.label_area.specs.Writing.{CanWrite, writing_steps}
use Rattle.label_area.specs.State.{AreaState}
use Rattle.label_area.specs.Opened.{IsReady, OpensAs, opened_by, labels_by}
use Rattle.label_area.specs.Replace.{least_free, under_slot, placed, IsUsedSlot, IsInside, change_answer, with_new, without_old, labels_after, changed, Reopens, IsChanged}
use Rattle.label_area.proofs.Before.{IsCurrent}
use Rattle.label_area.proofs.Written.{length_change, slot_inside}
use Rattle.label_area.proofs.After.{sized, valid_next, length_after, length_slots, final_block, final_slots, replace_cut, replace_settles}
use Rattle.label_area.proofs.Opened.{area_size, ready_current}

-- ---- the labels of slots

listed_put : (put : Option Label) (slots : List SlotState) → labels_in (with_put put slots) ≡ with_new put (labels_in slots)
listed_put None slots = refl
listed_put (Some l) slots = map-set label_in slots l.slot (Some (Some l))

listed_without : (out : Option ℕ) (slots : List SlotState) → labels_in (without out slots) ≡ without_old out (labels_in slots)
listed_without None slots = refl
listed_without (Some k) slots = map-set label_in slots k None

-- ---- opening words

shows_opens : (left : List ℕ) (block : IndexBlock) (slots : List SlotState) (labels : List (Option Label)) → IsAreaSize (8 * length left) → labels_in slots ≡ labels → Shows left block slots → OpensAs left block labels
shows_opens left block slots labels size is shows =
    let listed : slots_with (bytes_of left) (Ok block) ≡ Ok slots = ap (slots_with (bytes_of left)) (sym shows.current) ∙ shows.listed in
    let same : slots_by (bytes_of left) block ≡ slots = cc in
    record {
      size = size;
      opens = ap (opened_by left) shows.current
          ∙ ap (λ (ls : List (Option Label)). Ok (record { words = settled left; block = block; labels = ls; stopped = false })) (ap labels_in same ∙ is);
    }

-- ---- one change

used_inside : (free : List Bool) (k : ℕ) → IsUsedSlot free k → k < length free
used_inside free k used =
    elim (cases_lt k (length free)) [
      | inl lt ↦ lt
      | inr past ↦ absurd (let t : get_or free k true ≡ true = get_or_past free k true past in let u : get_or free k true ≡ false = used in cc)
    ]

module _ (area : AreaState) (ready : IsReady area) (out : Option ℕ) (put : Option Label) (free : IsFreeSlot area.block.free (slot_of_put put)) where
  abbrev values : List ℕ
  values = area.words.kept

  abbrev final : List ℕ
  final = words_after values area.block out put

  abbrev next : IndexBlock
  next = next_block area.block out put

  abbrev count : ℕ
  count = count_of_steps area.block.size put

  abbrev steps : List Step
  steps = replace_steps values area.block out put

  cur : IsCurrent values (block_size_of (length (bytes_of values))) area.block
  cur = ready_current area ready

  pub slots_inside : ((k : ℕ) → out ≡ Some k → IsUsedSlot area.block.free k) → IsInside (length area.block.free) out put
  slots_inside used = record {
    out_in = λ k is. used_inside area.block.free k (used k is);
    put_in = λ l is. slot_inside area.block.free put l free is;
  }

  pub words_settled : area.words ≡ settled area.words.kept
  words_settled = ap (λ (a : AreaState). a.words) ready.shown

  module _ (writable : (l : Label) → put ≡ Some l → IsWritable l) where
    pub change : IsChange values area.block out put
    change = record { area = area_size values ready.size; current = ready.current; free = free; label = writable }

    pub steps_count : length steps ≡ count
    steps_count = length_change final area.block.size (opposite area.block.side) put (sized values area.block out put change).enough

    -- after a crash
    pub change_whole : (new : Words) (fuse left : Option ℕ) (made : Bool) → Makes area.words new fuse left steps made
        → (shown : List ℕ) → IsLeft new shown → IsCut values area.block out put (steps_under fuse count) shown
    change_whole new None left made h shown cut =
        replace_cut values area.block out put change count shown
        (subst (λ (w : Words). IsLeft w shown)
        (h.words ∙ ap (λ (w : Words). after w steps) words_settled ∙ ap (after (settled values)) (sym (take_all count steps (omega (arith, steps_count))))) cut)
    change_whole new (Some n) left made h shown cut =
        replace_cut values area.block out put change n shown
        (subst (λ (w : Words). IsLeft w shown) (h.words ∙ ap (λ (w : Words). after w (take n steps)) words_settled) cut)

    -- and how the area opens
    labels_before : labels_in (slots_before values area.block) ≡ area.labels
    labels_before = ap (λ (a : AreaState). a.labels) (sym ready.shown)

    labels_then : labels_in (slots_after values area.block out put) ≡ labels_after out put area.labels
    labels_then =
        listed_without out (with_put put (slots_before values area.block)) ∙ ap (without_old out) (listed_put put (slots_before values area.block))
        ∙ ap (λ (ls : List (Option Label)). labels_after out put ls) labels_before

    cut_reopens : (n : ℕ) (left : List ℕ) → length left ≡ length values → IsCut values area.block out put n left → Reopens area out put n left
    cut_reopens n left len cut =
        let size : IsAreaSize (8 * length left) = subst IsAreaSize (ap (λ (k : ℕ). 8 * k) (sym len)) ready.size in
        let old : Shows left area.block (slots_before values area.block) → OpensAs left area.block area.labels =
        shows_opens left area.block (slots_before values area.block) area.labels size labels_before in
        let new : Shows left next (slots_after values area.block out put) → OpensAs left next (labels_after out put area.labels) =
        shows_opens left next (slots_after values area.block out put) (labels_after out put area.labels) size labels_then in
        record {
          before = λ lt. old (cut.before lt);
          either = λ e. elim (cut.either e) [ inl shows ↦ inl (old shows) | inr shows ↦ inr (new shows) ];
          after = λ le. new (cut.after le);
        }

    pub change_reopens : (new : Words) (fuse left : Option ℕ) (made : Bool) → Makes area.words new fuse left steps made
        → (shown : List ℕ) → IsLeft new shown → Reopens area out put (steps_under fuse count) shown
    change_reopens new fuse left made h shown cut =
        cut_reopens (steps_under fuse count) shown (cut.same_length ∙ makes_length area.words new fuse left steps made h) (change_whole new fuse left made h shown cut)

    -- whether all steps were made
    pub all_made : (new : Words) (fuse left : Option ℕ) (made : Bool) → Makes area.words new fuse left steps made → lasts fuse count ≡ made
    all_made new fuse left made h = ap (lasts fuse) (sym steps_count) ∙ sym h.all_made

    pub words_changed : (new : Words) (fuse left : Option ℕ) → Makes area.words new fuse left steps true → new ≡ settled final
    words_changed new fuse left h =
        makes_all area.words new fuse left steps h ∙ ap (λ (w : Words). after w steps) words_settled ∙ replace_settles values area.block out put change

    -- the area after it
    pub labels_changed : labels_by final next ≡ without_old out (with_new put area.labels)
    labels_changed = ap labels_in (final_slots values area.block out put change) ∙ labels_then

    pub changed_ready : IsReady (changed area out put)
    changed_ready = record {
      size = subst IsAreaSize (ap (λ (n : ℕ). 8 * n) (sym (length_after values area.block out put change))) ready.size;
      current = final_block values area.block out put change;
      shown = ap (λ (ls : List (Option Label)). record { words = settled final; block = next; labels = ls; stopped = false }) (sym labels_changed);
    }

    -- the effect on the area
    pub cut_changed : (new : AreaState) (fuse left : Option ℕ) → new.stopped ≡ true → Makes area.words new.words fuse left steps false → IsChanged area new fuse left out put
    cut_changed new fuse left stopped h = record {
      made = subst (λ (b : Bool). Makes area.words new.words fuse left steps (not b)) (sym stopped) h;
      done = λ running. absurd (let both : true ≡ false = sym stopped ∙ running in cc);
      whole = change_whole new.words fuse left false h;
      reopens = change_reopens new.words fuse left false h;
    }

    pub done_changed : (new : AreaState) (fuse left : Option ℕ) → new ≡ changed area out put → Makes area.words new.words fuse left steps true → IsChanged area new fuse left out put
    done_changed new fuse left is h = record {
      made = subst (λ (a : AreaState). Makes area.words new.words fuse left steps (not a.stopped)) (sym is) h;
      done = λ running. is;
      whole = change_whole new.words fuse left true h;
      reopens = change_reopens new.words fuse left true h;
    }

    pub now_changed : (words : Words) (block : IndexBlock) (labels : List (Option Label)) (stopped : Bool) (fuse left : Option ℕ) → Makes area.words words fuse left steps true
        → block ≡ next → labels ≡ without_old out (with_new put area.labels) → stopped ≡ false → record { words = words; block = block; labels = labels; stopped = stopped } ≡ changed area out put
    now_changed words block labels stopped fuse left h bl ls st = rw (words_changed words fuse left h, bl, ls, st) refl

    pub cut_answer : (new : Words) (fuse left : Option ℕ) → Makes area.words new fuse left steps false → Err PowerCut ≡ change_answer area.block fuse put
    cut_answer new fuse left h = rw (all_made new fuse left false h) refl

    pub done_answer : (new : Words) (fuse left : Option ℕ) → Makes area.words new fuse left steps true → Ok (slot_of_put put) ≡ change_answer area.block fuse put
    done_answer new fuse left h = rw (all_made new fuse left true h) refl

-- ---- before it

pub can_write : (area : AreaState) (ready : IsReady area) (out : Option ℕ) (put : Option Label) → IsFreeSlot area.block.free (slot_of_put put) → ((l : Label) → put ≡ Some l → IsSound l)
    → CanWrite area.words (next_block area.block out put) put
can_write area ready out put free sound =
    let cur : IsCurrent area.words.kept (block_size_of (length (bytes_of area.words.kept))) area.block = ready_current area ready in
    record {
      none_pending = words_settled area ready out put free;
      valid = valid_next area.words.kept area.block out put (block_size_of (length (bytes_of area.words.kept))) cur;
      room = λ l is. omega (arith, cur.fits, cur.sized, slot_inside area.block.free put l free is);
      sound = sound;
    }

pub labels_count : (area : AreaState) → IsReady area → length area.labels ≡ length area.block.free
labels_count area ready =
    ap (λ (a : AreaState). length a.labels) ready.shown ∙ length-map (slots_by (bytes_of area.words.kept) area.block) label_in ∙ length_slots (bytes_of area.words.kept) area.block

-- the steps that write the next block are those of the change
pub steps_next : (words new : Words) (fuse left : Option ℕ) (now : IndexBlock) (out : Option ℕ) (put : Option Label) (block : IndexBlock) (made : Bool) → block ≡ next_block now out put
    → Makes words new fuse left (writing_steps words.kept block put) made → Makes words new fuse left (replace_steps words.kept now out put) made
steps_next words new fuse left now out put block made is h = subst (λ (b : IndexBlock). Makes words new fuse left (writing_steps words.kept b put) made) is h

-- ---- the least free slot

found_free : (free : List Bool) (label : Label) (put' : Option Label) (found : Option ℕ) → least_free free ≡ found → under_slot label found ≡ Ok put' → IsFreeSlot free (slot_of_put put')
found_free free label put' None was is k at = absurd (cc)
found_free free label put' (Some slot) was is k at =
    let e : Some (record label { slot = slot }) ≡ put' = cc in
    let f : Some slot ≡ Some k = ap slot_of_put e ∙ at in
    let same : slot ≡ k = cc in
    subst (λ (n : ℕ). get_or free n false ≡ true) same (position-Some (λ is_free. is_free) free slot false was).1

found_sound : (label : Label) (put' : Option Label) (found : Option ℕ) → IsSound label → under_slot label found ≡ Ok put' → (l : Label) → put' ≡ Some l → IsSound l
found_sound label put' None sound is l at = absurd (cc)
found_sound label put' (Some slot) sound is l at =
    let e : Some (record label { slot = slot }) ≡ put' = cc in
    let f : Some (record label { slot = slot }) ≡ Some l = e ∙ at in
    let same : record label { slot = slot } ≡ l = cc in
    subst IsSound same (record { no_zero = sound.no_zero; sizes = sound.sizes })

pub placed_free : (free : List Bool) (put put' : Option Label) → placed free put ≡ Ok put' → IsFreeSlot free (slot_of_put put')
placed_free free None put' is = λ k at. absurd (let e : None ≡ put' = cc in let f : None ≡ Some k = ap slot_of_put e ∙ at in cc)
placed_free free (Some label) put' is = found_free free label put' (least_free free) refl is

pub placed_sound : (free : List Bool) (put put' : Option Label) → ((l : Label) → put ≡ Some l → IsSound l) → placed free put ≡ Ok put' → (l : Label) → put' ≡ Some l → IsSound l
placed_sound free None put' sound is l at = absurd (let e : None ≡ put' = cc in let f : None ≡ Some l = e ∙ at in cc)
placed_sound free (Some label) put' sound is l at = found_sound label put' (least_free free) (sound label refl) is l at
