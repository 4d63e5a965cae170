-- The label areas of an image set, as the commands on namespaces see and change them.
use Rattle.std.specs.Prelude.{◌≡◌, ℕ, List, map, length, slice_index_or, Option, Some, None, Result, Ok, Err}
use Rattle.std.specs.Option.{option_map}
use Rattle.nvd_media.specs.Images.{Images, IsSameSet}
use Rattle.cut_words.specs.WordBytes.{bytes_of, words_in}
use Rattle.label_index.specs.declared.index.IndexBlock.{IndexBlock}
use Rattle.label_area.specs.declared.fault.AreaFault.{AreaFault}
use Rattle.label_area.specs.Area.{block_in, slots_by}
use Rattle.namespace_map.specs.Areas.{Area}
use Rattle.image_set.specs.Load.{ImageSet}
use Rattle.image_set.specs.Changed.{objects_of}

-- a label area that is read: the bytes of its index blocks, and its slots by the current one
abbrev pub area_by : List ℕ → Result IndexBlock AreaFault → Option Area
area_by bytes (Ok block) = Some (record { block = block.size; slots = slots_by bytes block })
area_by bytes (Err fault) = None

-- none if the module has no label area, or one without a valid index block
abbrev pub area_in : Option (List ℕ) → Option Area
area_in None = None
area_in (Some bytes) = area_by bytes (block_in bytes)

abbrev pub areas_in : List (Option (List ℕ)) → List (Option Area)
areas_in labels = map area_in labels

-- the words of all label areas, none for a module that has none
abbrev pub rows_in : ImageSet → List (Option (List ℕ))
rows_in set = map (option_map words_in) set.labels

-- an image set with other label areas
abbrev pub with_labels : ImageSet → List (Option (List ℕ)) → ImageSet
with_labels set labels = record { nfit = set.nfit; nfit_bytes = set.nfit_bytes; labels = labels; contents = set.contents; bad = set.bad }

-- A set that is saved is the one that was loaded, but that its label areas show these: one that isn't read is as it was, each has its
-- size, and all other objects are as they were.
pub record HasAreas (loaded : ImageSet) (areas : List (Option Area)) (saved : Images) : Type 0 where
  pub labels : List (Option (List ℕ))
  pub shown : areas_in labels ≡ areas
  pub unread : (m : ℕ) → area_in (slice_index_or loaded.labels m None) ≡ None → slice_index_or labels m None ≡ slice_index_or loaded.labels m None
  pub sizes : map (option_map length) labels ≡ map (option_map length) loaded.labels
  pub objects : IsSameSet saved (objects_of (with_labels loaded labels))

-- A set that is saved is the one that was loaded, but that its label areas are these rows of words: an area that isn't read is as it
-- was, each has its size, and all other objects are as they were.
pub record HasRows (loaded : ImageSet) (rows : List (Option (List ℕ))) (saved : Images) : Type 0 where
  pub unread : (m : ℕ) → area_in (slice_index_or loaded.labels m None) ≡ None → slice_index_or (map (option_map bytes_of) rows) m None ≡ slice_index_or loaded.labels m None
  pub sizes : map (option_map length) (map (option_map bytes_of) rows) ≡ map (option_map length) loaded.labels
  pub objects : IsSameSet saved (objects_of (with_labels loaded (map (option_map bytes_of) rows)))
