-- A law: what is loaded can be opened.
use Rattle.std.specs.Prelude.{◌≤◌, List, map, sum}
use Rattle.std.specs.List.{All}
use Rattle.cut_words.specs.Words.{Words}
use Rattle.nfit_reader.specs.declared.table.Mapping.{Mapping}
use Rattle.nfit_reader.specs.declared.table.Region.{Region}
use Rattle.image_set.specs.Limits.{most_contents}
use Rattle.image_set.specs.Sound.{size_of, AreMapped}
use Rattle.namespace_laws.specs.Regions.{AreSetsOf}
use Rattle.sector_namespaces.specs.View.{AreUsable}

-- where each mapping of the sets' regions lies inside its module's contents, and these have at most `most_contents` bytes
abbrev pub LoadedSetsAreUsable : Type 0
LoadedSetsAreUsable = (regions : List Region) (sets : List (List Mapping)) (rows : List Words) → All (AreMapped (map size_of rows)) regions
    → sum (map size_of rows) ≤ most_contents → AreSetsOf regions sets → AreUsable sets rows
