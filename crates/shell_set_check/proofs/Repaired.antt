-- A set whose label areas are repaired.
use Rattle.std.proofs.Common.{◌≡◌, ℕ, zero, suc, ◌+◌, ◌*◌, ◌/◌, ◌^◌, ◌<◌, List, [], ◌∷◌, ◌++◌, length, map, take, drop, get_or, Option, Some, None, refl, sym, ap, ◌∙◌, subst}
use Rattle.std.specs.Option.{option_map}
use Rattle.std.specs.List.{All}
use Rattle.std.proofs.lemmas.List.{get_or-drop, length-map}
use Rattle.std.proofs.lemmas.List.Elements.{All-head, All-map, All-tail}
use Rattle.cut_words.specs.Words.{Words, settled}
use Rattle.cut_words.specs.WordBytes.{bytes_of, put_at, words_in}
use Rattle.label_index.specs.Index.{place_of}
use Rattle.label_index.specs.Spelling.{spelling_of}
use Rattle.label_index.proofs.Spelled.{bytes_spelling}
use Rattle.label_repair.specs.declared.repair.IndexRepair.{IndexRepair}
use Rattle.label_repair.specs.Repair.{repair_in, repaired_words, words_with}
use Rattle.label_repair.proofs.Repaired.{repaired_length}
use Rattle.image_set.specs.declared.outline.Outline.{Outline}
use Rattle.image_set.specs.Load.{bytes_kept}
use Rattle.image_set.specs.Outline.{IsLoadable, IsOutlined, image_set_with}
use Rattle.image_set.specs.Sound.{AreWords, IsArea}
use Rattle.image_set.proofs.Filled.{area_sound}
use Rattle.shell_set_check.specs.Repair.{repaired_area, repaired_set}
use Rattle.shell_set_check.specs.Repairing.{repaired_in, repaired_outline}
use Rattle.format_patch.proofs.Bounds.{byte_words, take_words, words_back}

-- ---- each word is one of 64 bits

cons_words : (x : ℕ) (xs : List ℕ) → x < 2 ^ 64 → AreWords xs → AreWords (x ∷ xs)
cons_words x xs small are = record { each = each }
  where
    each : (i : ℕ) → get_or (x ∷ xs) i 0 < 2 ^ 64
    each zero = small
    each (suc i) = are.each i

both_words : (xs ys : List ℕ) → AreWords xs → AreWords ys → AreWords (xs ++ ys)
both_words [] ys a b = b
both_words (x ∷ xs) ys a b = cons_words x (xs ++ ys) (a.each 0) (both_words xs ys (record { each = λ j. a.each (suc j) }) b)

drop_words : (k : ℕ) (xs : List ℕ) → AreWords xs → AreWords (drop k xs)
drop_words k xs a = record { each = λ i. subst (λ (n : ℕ). n < 2 ^ 64) (sym (get_or-drop k xs i 0)) (a.each (k + i)) }

put_words : (words : List ℕ) (at : ℕ) (others : List ℕ) → AreWords words → AreWords others → AreWords (put_at words at others)
put_words words at others a b =
    both_words (take at words) (others ++ drop (at + length others) words) (take_words at words a)
    (both_words others (drop (at + length others) words) b (drop_words (at + length others) words a))

repaired_fit : (words : List ℕ) → AreWords words → AreWords (repaired_words words)
repaired_fit words fit = by (repair_in (bytes_of words))
  where
    by : (r : Option IndexRepair) → AreWords (words_with r words)
    by None = fit
    by (Some r) =
        put_words words (place_of r.block.size r.block.side / 8) (words_in (spelling_of r.block)) fit
        (byte_words (spelling_of r.block) (bytes_spelling r.block))

-- a repaired label area is one
area_repaired : (area : Option Words) → IsArea area → IsArea (repaired_in area)
area_repaired None sound = sound
area_repaired (Some w) sound =
    area_sound (settled (repaired_words w.kept)) (8 * length w.kept) (ap (λ (n : ℕ). 8 * n) (repaired_length w.kept (sound.sized w refl))) (sound.sized w refl) refl
    (repaired_fit w.kept (sound.fit w refl))

-- ---- the set

labels_same : (labels : List (Option Words)) → All IsArea labels → map (option_map bytes_kept) (map repaired_in labels) ≡ map (option_map repaired_area) (map (option_map bytes_kept) labels)
labels_same [] all = refl
labels_same (None ∷ labels) all = ap (λ (ls : List (Option (List ℕ))). None ∷ ls) (labels_same labels (All-tail IsArea None labels all))
labels_same (Some w ∷ labels) all =
    let area = All-head IsArea (Some w) labels all in
    λ i. Some (bytes_of (repaired_words (sym (words_back w.kept (area.fit w refl)) i))) ∷ labels_same labels (All-tail IsArea (Some w) labels all) i

-- with any contents, a repaired outline is the repaired set
pub repaired_with : (outline : Outline) (contents : List (List ℕ)) → IsOutlined outline → image_set_with (repaired_outline outline) contents ≡ repaired_set (image_set_with outline contents)
unfolding image_set_with
repaired_with outline contents sound =
    ap (λ (ls : List (Option (List ℕ))). record (image_set_with outline contents) { labels = ls }) (labels_same outline.labels sound.areas)

pub outlined : (outline : Outline) → IsOutlined outline → IsOutlined (repaired_outline outline)
outlined outline sound = record {
  table = sound.table;
  counted = sound.counted;
  regions = sound.regions;
  labels = length-map outline.labels repaired_in ∙ sound.labels;
  bad = sound.bad;
  few = sound.few;
  areas = All-map IsArea repaired_in outline.labels (λ k d lt. area_repaired (get_or outline.labels k d) (sound.areas k d lt));
}

pub loadable : (outline : Outline) → IsLoadable outline → IsLoadable (repaired_outline outline)
loadable outline can = record { count = can.count; sized = can.sized; total = can.total; mapped = can.mapped }
