-- The arena of a new sector namespace is formatted in its place. UEFI 2.10, section 6.2 (BTT Info Block); that the format's steps count
-- like those of labels is this project's rule.
use Rattle.std.specs.Prelude.{◌≡◌, ℕ, ◌+◌, ◌*◌, ◌%◌, ◌≤◌, Bool, true, false, List, length, map, Option}
use Rattle.std.specs.List.{All}
use Rattle.cut_words.specs.Words.{Words, settled}
use Rattle.cut_words.specs.Fuses.{Makes, burnt, lasts}
use Rattle.nfit_reader.specs.declared.table.Mapping.{Mapping}
use Rattle.interleave.specs.Places.{unit_of}
use Rattle.interleave.specs.Sound.{span_of}
use Rattle.arena_layout.specs.declared.layout.Layout.{Layout}
use Rattle.arena_layout.specs.Plan.{plan_of}
use Rattle.arena_open.specs.Writes.{IsSettled}
use Rattle.arena_open.specs.Format.{IsNewArena, KeepsOutside, format_count, format_steps}
use Rattle.power_cut.specs.Namespace.{Namespace, beside_of, over, words_of}
use Rattle.namespace_map.specs.Namespaces.{Namespaces}
use Rattle.namespace_map.specs.declared.commands.CreateSpec.{CreateSpec}
use Rattle.namespace_map.specs.declared.commands.Make.{Make}
use Rattle.namespace_map.specs.declared.commands.Make.TheVariants as make
use Rattle.namespace_map.specs.Commands.{has_no_plan, set_of, share_of}
use Rattle.namespace_areas.specs.declared.area.Area.{Area}
use Rattle.namespace_areas.specs.Refusals.{offset_for, shown}

-- none of the modules' words is pending
abbrev pub AreSettled : List Words → Type 0
AreSettled rows = All (λ words. words ≡ settled words.kept) rows

-- ---- what is asked

-- a namespace of sectors
abbrev pub has_sectors : Make → Bool
has_sectors make.Raw = false
has_sectors (make.Sector sector lanes) = true

-- the layout of an arena of so many bytes; a raw namespace has none, so what stands for it is never looked at
abbrev pub layout_of : ℕ → Make → Layout
layout_of size make.Raw = plan_of size 0 0
layout_of size (make.Sector sector lanes) = plan_of size sector lanes

abbrev pub layout_for : CreateSpec → Layout
layout_for spec = layout_of spec.size spec.make

-- the steps of the format of its arena: two for each word of the map, the log and both info blocks; a raw namespace has none
abbrev pub arena_steps_of : ℕ → Make → ℕ
arena_steps_of size make.Raw = 0
arena_steps_of size (make.Sector sector lanes) = format_count (plan_of size sector lanes)

abbrev pub arena_steps : CreateSpec → ℕ
arena_steps spec = arena_steps_of spec.size spec.make

-- its place among namespaces: the least offset at which it fits, the same on each module of its region's set, over the words of all modules
abbrev pub place_in : Namespaces → CreateSpec → List Words → Namespace
place_in ns spec rows = over (set_of ns spec.region) (offset_for ns spec) (share_of (set_of ns spec.region) spec.size) rows

abbrev pub place_for : List (List Mapping) → List Area → CreateSpec → List Words → Namespace
place_for sets areas spec rows = place_in (shown sets areas) spec rows

-- A sector namespace can lie in a set, at an offset from the start of each mapping.
pub record CanLie (set : List Mapping) (offset : ℕ) (spec : CreateSpec) : Type 0 where
  -- an arena is planned for its size
  pub sectors : has_sectors spec.make ≡ true
  pub planned : has_no_plan spec.make spec.size ≡ false
  -- it has the same share of each module, in whole units, inside all mappings
  pub shares : length set * share_of set spec.size ≡ spec.size
  pub from : offset % unit_of set ≡ 0
  pub to : share_of set spec.size % unit_of set ≡ 0
  pub inside : offset + share_of set spec.size ≤ span_of set

-- ---- the format

-- What became of a namespace's words and a fuse by the format of its arena, which begins at the first word and is its own parent.
pub record IsFormatted (l : Layout) (uuid : List ℕ) (old now : Words) (fuse left : Option ℕ) (whole : Bool) : Type 0 where
  -- of the format's stores and keeps as many were made, in their order, as the fuse lasts for
  pub made : Makes old now fuse left (format_steps 0 l uuid uuid) whole
  -- that is two for each word of the four areas
  pub whole_is : whole ≡ lasts fuse (format_count l)
  pub left_is : left ≡ burnt fuse (format_count l)
  -- words outside the four areas are as they were, and none of them is pending
  pub outside : KeepsOutside 0 l old now
  -- when it is whole no word is pending
  pub settles : whole ≡ true → IsSettled now
  -- and the words hold a new arena: it opens with no move pending, and each sector reads as zeros
  pub opens : whole ≡ true → IsNewArena l uuid uuid now.kept

-- the words of a namespace's place went so, those beside it stayed, and each module has as many words as it had
pub record IsFormattedIn (place : List Words → Namespace) (l : Layout) (uuid : List ℕ) (rows rows' : List Words) (fuse left : Option ℕ) (whole : Bool) : Type 0 where
  pub formatted : IsFormatted l uuid (words_of (place rows)) (words_of (place rows')) fuse left whole
  pub beside : beside_of (place rows') ≡ beside_of (place rows)
  pub counts : map (λ words. length words.kept) rows' ≡ map (λ words. length words.kept) rows
