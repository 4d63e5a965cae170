-- Areas that were opened are held, keep their words, and show what these show.
use Rattle.std.proofs.Common.{◌≡◌, ℕ, ◌*◌, arith, List, [], ◌∷◌, length, map, Option, Some, None, Result, Ok, Err, refl, sym, ap, ◌∙◌}
use Rattle.std.specs.Option.{option_map}
use Rattle.std.proofs.lemmas.List.Elements.{All-head, All-tail, All-cons}
use Rattle.cut_words.specs.Words.{Words, settled}
use Rattle.cut_words.specs.WordBytes.{bytes_of}
use Rattle.label_index.specs.declared.index.IndexBlock.{IndexBlock}
use Rattle.label_index.specs.Area.{IsAreaSize}
use Rattle.label_area.specs.declared.fault.AreaFault.{AreaFault}
use Rattle.label_area.specs.declared.fault.AreaRefused.{AreaRefused}
use Rattle.label_area.specs.Area.{block_in}
use Rattle.label_area.specs.State.{AreaState}
use Rattle.label_area.specs.Opened.{opened, opened_by}
use Rattle.namespace_areas.specs.Seen.{IsHeld, AreHeld, area_seen, areas_seen, words_of, area_shown, areas_shown, shown_by}
use Rattle.namespace_areas.specs.Opening.{IsWhole, AreWhole, as_area, opened_as}
use Rattle.namespace_areas.proofs.Seen.{opened_ready, opened_refused}

by_held : (values : List ℕ) → IsAreaSize (8 * length values) → (r : Result AreaState AreaRefused) → opened values ≡ r → IsHeld (as_area r)
by_held values size (Ok area) is = opened_ready values area size is
by_held values size (Err refused) is = opened_refused values refused is

pub held_one : (words : Option Words) → IsWhole words → IsHeld (opened_as words)
held_one None whole = tt
held_one (Some w) whole = by_held w.kept (whole.sized w refl) (opened w.kept) refl

by_words : (values : List ℕ) → (b : Result IndexBlock AreaFault) → words_of (as_area (opened_by values b)) ≡ Some (settled values)
by_words values (Ok block) = refl
by_words values (Err fault) = refl

pub words_one : (words : Option Words) → IsWhole words → words_of (opened_as words) ≡ words
words_one None whole = refl
words_one (Some w) whole = by_words w.kept (block_in (bytes_of w.kept)) ∙ ap (λ (x : Words). Some x) (sym (whole.kept w refl))

by_seen : (values : List ℕ) → (b : Result IndexBlock AreaFault) → area_seen (as_area (opened_by values b)) ≡ shown_by values b
by_seen values (Ok block) = refl
by_seen values (Err fault) = refl

-- the values of words of which none is pending
abbrev pub row_of : Option Words → Option (List ℕ)
row_of words = option_map (λ w. w.kept) words

pub seen_one : (words : Option Words) → area_seen (opened_as words) ≡ area_shown (row_of words)
seen_one None = refl
seen_one (Some w) = by_seen w.kept (block_in (bytes_of w.kept))

-- ---- all areas

pub held_all : (labels : List (Option Words)) → AreWhole labels → AreHeld (map opened_as labels)
held_all [] all = λ k d lt. absurd (omega (arith, lt))
held_all (words ∷ labels) all = All-cons IsHeld (opened_as words) (map opened_as labels) (held_one words (All-head IsWhole words labels all)) (held_all labels (All-tail IsWhole words labels all))

pub words_all : (labels : List (Option Words)) → AreWhole labels → map words_of (map opened_as labels) ≡ labels
words_all [] all = refl
words_all (words ∷ labels) all = rw (words_one words (All-head IsWhole words labels all), words_all labels (All-tail IsWhole words labels all)) refl

pub seen_all : (labels : List (Option Words)) → areas_seen (map opened_as labels) ≡ areas_shown (map row_of labels)
seen_all [] = refl
seen_all (words ∷ labels) = rw (seen_one words, seen_all labels) refl
