-- Label areas that are opened show the labels of their bytes.
use Rattle.std.proofs.Common.{◌≡◌, ℕ, List, [], ◌∷◌, map, Option, Some, None, Result, Ok, Err, refl, sym, subst}
use Rattle.std.specs.List.{All}
use Rattle.std.specs.Option.{option_map}
use Rattle.std.specs.Result.{result_ok}
use Rattle.cut_words.specs.Words.{Words}
use Rattle.cut_words.specs.WordBytes.{bytes_of}
use Rattle.label_index.specs.declared.index.IndexBlock.{IndexBlock}
use Rattle.label_area.specs.declared.fault.AreaFault.{AreaFault}
use Rattle.label_area.specs.Area.{block_in, labels_in, slots_with}
use Rattle.label_area.specs.Opened.{opened_by}
use Rattle.image_set.specs.Load.{bytes_kept}
use Rattle.image_set.specs.Sound.{IsArea}
use Rattle.namespace_areas.specs.declared.area.Area.{Area}
use Rattle.namespace_areas.specs.Areas.{shown_in}
use Rattle.namespace_areas.specs.Seen.{AreHeld}
use Rattle.namespace_areas.proofs.Opening.{held_all}
use Rattle.namespace_areas.specs.Opening.{AreWhole, as_area, opened_as}
use Rattle.shell_reports.specs.List.{shown_by}

-- label areas of a set that was loaded
pub are_whole : (labels : List (Option Words)) → All IsArea labels → AreWhole labels
are_whole labels all = λ k d lt. let it = all k d lt in record { sized = it.sized; kept = it.kept }

pub held_opened : (labels : List (Option Words)) (areas : List Area) → areas ≡ map opened_as labels → All IsArea labels → AreHeld areas
held_opened labels areas is all = subst (λ (xs : List Area). AreHeld xs) (sym is) (held_all labels (are_whole labels all))

by_block : (values : List ℕ) (b : Result IndexBlock AreaFault) → shown_in (as_area (opened_by values b)) ≡ option_map labels_in (result_ok (slots_with (bytes_of values) b))
by_block values (Ok block) = refl
by_block values (Err fault) = refl

shown_one : (words : Option Words) → shown_in (opened_as words) ≡ shown_by (option_map bytes_kept words)
shown_one None = refl
shown_one (Some w) = by_block w.kept (block_in (bytes_of w.kept))

pub shown_all : (labels : List (Option Words)) → map shown_in (map opened_as labels) ≡ map shown_by (map (option_map bytes_kept) labels)
shown_all [] = refl
shown_all (words ∷ labels) = λ i. shown_one words i ∷ shown_all labels i
