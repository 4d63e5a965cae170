-- What an image set has beside its label areas, and the objects that are saved with it.
use Rattle.std.specs.Prelude.{ℕ, Bool, true, false, List, [], map, Option}
use Rattle.nvd_media.specs.Images.{Images}
use Rattle.nfit_reader.specs.declared.table.Mapping.{Mapping}
use Rattle.cut_words.specs.Words.{Words}
use Rattle.cut_words.specs.WordBytes.{bytes_of}
use Rattle.image_set.specs.declared.changing.OutlineRest.{OutlineRest}
use Rattle.image_set.specs.Outline as outlined
use Rattle.namespace_bytes.specs.Patching.{AreWhole}
use Rattle.sector_namespaces.specs.View.{AreUsable, rows_of}

-- the objects of a set whose contents are copied, with these rows of words as its label areas and these contents
abbrev pub objects_by : OutlineRest → List (List ℕ) → List (Option (List ℕ)) → Images
objects_by rest contents rows = outlined.objects_with (record { nfit = rest.nfit_bytes; labels = rows; sizes = rest.sizes; bad = rest.bad }) contents

-- ---- contents, by whether an arena is formatted in them

-- their words, if an arena is
abbrev pub words_for : Bool → List (List ℕ) → List Words
words_for false contents = []
words_for true contents = rows_of contents

-- the objects with them, if none is, and else with what is left of their words
abbrev pub objects_for : Bool → OutlineRest → List (List ℕ) → List (Option (List ℕ)) → List (List ℕ) → Images
objects_for false rest contents rows left = objects_by rest contents rows
objects_for true rest contents rows left = objects_by rest (map bytes_of left) rows

-- contents are whole words, and a namespace can be opened in each of these sets
pub record HoldSets (sets : List (List Mapping)) (contents : List (List ℕ)) : Type 0 where
  pub whole : AreWhole contents
  pub usable : AreUsable sets (rows_of contents)
