-- What areas show that are held, and their state after a crash.
use Rattle.std.proofs.Common.{◌≡◌, ℕ, zero, suc, ◌+◌, ◌*◌, List, [], ◌∷◌, length, map, Option, Some, None, Result, Ok, Err, refl, sym, ap, ◌∙◌, subst, arith, inl, inr}
use Rattle.std.specs.Prelude.{count_by, slice_get}
use Rattle.std.proofs.lemmas.Option.{none-some}
use Rattle.std.proofs.lemmas.List.{ext_get_or}
use Rattle.std.proofs.lemmas.List.Elements.{All-head, All-tail, All-nil, All-cons}
use Rattle.cut_words.specs.Words.{Words, settled, IsLeft}
use Rattle.cut_words.specs.WordBytes.{bytes_of}
use Rattle.cut_words.proofs.Guarded.{seen_is}
use Rattle.label_codec.specs.declared.label.Label.{Label}
use Rattle.label_codec.specs.Label.{label_reading}
use Rattle.label_codec.specs.Grammar.{StandsFor}
use Rattle.label_codec.specs.Writable.{IsSound}
use Rattle.label_codec.proofs.Grammar.{reads_grammar}
use Rattle.label_codec.proofs.Laws.{sound_if_read}
use Rattle.label_index.specs.declared.index.IndexBlock.{IndexBlock}
use Rattle.label_index.specs.Area.{IsAreaSize}
use Rattle.label_area.specs.declared.fault.AreaFault.{AreaFault}
use Rattle.label_area.specs.declared.fault.AreaRefused.{AreaRefused}
use Rattle.label_area.specs.Area.{block_in, slot_bytes}
use Rattle.label_area.specs.State.{AreaState}
use Rattle.label_area.specs.Opened.{IsReady, refused, state_of, opened, opened_by}
use Rattle.power_cut.specs.Left.{IsLeftOf}
use Rattle.namespace_map.specs.Namespaces.{placed_of}
use Rattle.namespace_areas.specs.declared.area.Area.{Area}
use Rattle.namespace_areas.specs.declared.area.Area.TheVariants.{Absent, Refused, Ready}
use Rattle.namespace_areas.specs.Areas.{IsRunning, AreRunning, shown_in, labels_of}
use Rattle.namespace_map.specs.Areas.{Area as SeenArea, free_in, slots_on}
use Rattle.namespace_map.specs.Changes.{labels_at, placed_in_all}
use Rattle.namespace_map.specs.Left.{LabelsAreRead}
use Rattle.namespace_areas.specs.Seen.{IsRefused, IsHeld, AreHeld, ready_seen, area_seen, areas_seen, words_of, AreLeft, shown_by, area_shown, areas_shown}
use Rattle.namespace_areas.proofs.Slots.{label_read, count_is}
use Rattle.namespace_areas.proofs.OneChange.{labels_shown}

-- ---- how areas come to be held

-- an area that was opened
pub opened_ready : (values : List ℕ) (area : AreaState) → IsAreaSize (8 * length values) → opened values ≡ Ok area → IsReady area
opened_ready values area size is = by_block (block_in (bytes_of values)) refl is
  where
    by_block : (r : Result IndexBlock AreaFault) → block_in (bytes_of values) ≡ r → opened_by values r ≡ Ok area → IsReady area
    by_block (Ok block) at e =
        let same : state_of values block ≡ area = cc in
        subst IsReady same (record { size = size; current = at; shown = refl })
    by_block (Err fault) at e = absurd (cc)

-- an area that was refused
pub opened_refused : (values : List ℕ) (r : AreaRefused) → opened values ≡ Err r → IsRefused r
opened_refused values r is = by_block (block_in (bytes_of values)) refl is
  where
    by_block : (b : Result IndexBlock AreaFault) → block_in (bytes_of values) ≡ b → opened_by values b ≡ Err r → IsRefused r
    by_block (Ok block) at e = absurd (cc)
    by_block (Err fault) at e =
        let same : refused values fault ≡ r = cc in
        subst IsRefused same (record { words = refl; block = λ b ok. absurd (let both : Ok b ≡ Err fault = sym ok ∙ at in cc) })

-- no area that is held was stopped
held_runs : (area : Area) → IsHeld area → IsRunning area
held_runs Absent h = tt
held_runs (Refused r) h = tt
held_runs (Ready area) h = ap (λ (a : AreaState). a.stopped) h.shown

pub held_running : (areas : List Area) → AreHeld areas → AreRunning areas
held_running [] h = All-nil IsRunning
held_running (a ∷ areas) h = All-cons IsRunning a areas (held_runs a (All-head IsHeld a areas h)) (held_running areas (All-tail IsHeld a areas h))

-- ---- the labels that they show

shown_labels : (area : Area) → IsHeld area → labels_at (area_seen area) ≡ shown_in area
shown_labels Absent h = refl
shown_labels (Refused r) h = refl
shown_labels (Ready area) h = ap (λ (ls : List (Option Label)). Some ls) (sym (labels_shown area h))

all_labels : (areas : List Area) → AreHeld areas → map labels_at (areas_seen areas) ≡ map shown_in areas
all_labels [] h = refl
all_labels (a ∷ areas) h =
    ap (λ (x : Option (List (Option Label))). x ∷ map labels_at (areas_seen areas)) (shown_labels a (All-head IsHeld a areas h))
    ∙ ap (λ (xs : List (Option (List (Option Label)))). shown_in a ∷ xs) (all_labels areas (All-tail IsHeld a areas h))

pub seen_labels : (areas : List Area) → AreHeld areas → placed_in_all (areas_seen areas) ≡ labels_of areas
seen_labels areas h = ap placed_of (all_labels areas h)

-- how many slots of an area are free
pub seen_free : (area : AreaState) → free_in (ready_seen area).slots ≡ count_by (λ free. free) area.block.free
seen_free area = count_is (bytes_of area.words.kept) area.block.size 0 area.block.free

-- each label is one that was read from its slot
label_reads : (areas : List Area) (m s : ℕ) (l : Label) → slice_get (slots_on (areas_seen areas) m) s ≡ Some (Some (Some l)) → (bytes : List ℕ) × (label_reading bytes s ≡ Ok l)
label_reads [] m s l e = absurd (none-some (Some (Some l)) e)
label_reads (Absent ∷ areas) zero s l e = absurd (none-some (Some (Some l)) e)
label_reads (Refused r ∷ areas) zero s l e = absurd (none-some (Some (Some l)) e)
label_reads (Ready a ∷ areas) zero s l e =
    let bytes : List ℕ = bytes_of a.words.kept in
    let at : 0 + s ≡ s = omega arith in
    let read : label_reading (slot_bytes bytes a.block.size s) s ≡ Ok l =
    subst (λ (n : ℕ). label_reading (slot_bytes bytes a.block.size n) n ≡ Ok l) at (label_read bytes a.block.size 0 a.block.free s l e) in
    (slot_bytes bytes a.block.size s, read)
label_reads (a ∷ areas) (suc m) s l e = label_reads areas m s l e

label_stands : (areas : List Area) (m s : ℕ) (l : Label) → slice_get (slots_on (areas_seen areas) m) s ≡ Some (Some (Some l)) → (bytes : List ℕ) × StandsFor bytes s l
label_stands areas m s l e = let (bytes, read) = label_reads areas m s l e in (bytes, reads_grammar bytes s l read)

pub label_sound : (areas : List Area) (m s : ℕ) (l : Label) → slice_get (slots_on (areas_seen areas) m) s ≡ Some (Some (Some l)) → IsSound l
label_sound areas m s l e = let (bytes, read) = label_reads areas m s l e in sound_if_read bytes s l read

pub seen_read : (areas : List Area) → LabelsAreRead (areas_seen areas)
seen_read areas = record {
  number = λ m s l e. let (bytes, stands) = label_stands areas m s l e in stands.slot ∙ stands.numbered;
  bytes = λ m s l e. let (bytes, stands) = label_stands areas m s l e in stands.raw_some;
}

-- ---- their state after a crash

pub left_kept : (words : Words) (left : List ℕ) → words ≡ settled words.kept → IsLeft words left → left ≡ words.kept
left_kept words left is h =
    let h' : IsLeft (settled words.kept) left = subst (λ (w : Words). IsLeft w left) is h in
    ext_get_or 0 left words.kept h'.same_length (λ i lt. elim (h'.each i) [ inl e ↦ e | inr e ↦ e ∙ seen_is words.kept i ])

none_shown : (values : List ℕ) (r : Result IndexBlock AreaFault) → ((b : IndexBlock) → r ≡ Ok b → ⊥) → shown_by values r ≡ None
none_shown values (Ok block) never = absurd (never block refl)
none_shown values (Err fault) never = refl

pub held_shown : (area : Area) (row : Option (List ℕ)) → IsHeld area → IsLeftOf (words_of area) row → area_shown row ≡ area_seen area
held_shown Absent row h e = ap area_shown e
held_shown (Refused r) row h (values, is, left) =
    ap area_shown (is ∙ ap (λ (v : List ℕ). Some v) (left_kept r.words values h.words left)) ∙ none_shown r.words.kept (block_in (bytes_of r.words.kept)) h.block
held_shown (Ready a) row h (values, is, left) =
    ap area_shown (is ∙ ap (λ (v : List ℕ). Some v) (left_kept a.words values (ap (λ (s : AreaState). s.words) h.shown) left)) ∙ ap (shown_by a.words.kept) h.current

pub left_shown : (areas : List Area) (rows : List (Option (List ℕ))) → AreHeld areas → AreLeft areas rows → areas_shown rows ≡ areas_seen areas
left_shown [] rows h e = ap areas_shown e
left_shown (a ∷ areas) rows h (first, rest, is, here, more) =
    ap areas_shown is
    ∙ ap (λ (x : Option SeenArea). x ∷ areas_shown rest) (held_shown a first (All-head IsHeld a areas h) here)
    ∙ ap (λ (xs : List (Option SeenArea)). area_seen a ∷ xs) (left_shown areas rest (All-tail IsHeld a areas h) more)
