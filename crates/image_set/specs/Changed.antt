-- A set as it is saved, and a set with another label area: this project's rules.
use Rattle.std.specs.Prelude.{ℕ, ◌^◌, ◌<◌, List, [], length, slice_get, slice_index_or, slice_set, Some, None}
use Rattle.nvd_media.specs.declared.object.Object.TheVariants as object
use Rattle.nvd_media.specs.Images.{Images}
use Rattle.image_set.specs.declared.changing.SetLeft.{SetLeft}
use Rattle.image_set.specs.Load.{ImageSet}
use Rattle.image_set.specs.Save.{HasModules, set_of}

-- the objects of an image set, including its mark
unfoldable pub objects_of : ImageSet → Images
objects_of set object.Mark = Some []
objects_of set object.Nfit = Some set.nfit_bytes
objects_of set (object.Labels m) = slice_index_or set.labels m None
objects_of set (object.Contents m) = slice_get set.contents m
objects_of set (object.BadRanges m) = slice_index_or set.bad m None

-- an image set with another label area of a module
abbrev pub with_area : ImageSet → ℕ → List ℕ → ImageSet
with_area set m bytes = record {
  nfit = set.nfit;
  nfit_bytes = set.nfit_bytes;
  labels = slice_set set.labels m (Some bytes);
  contents = set.contents;
  bad = set.bad;
}

-- the objects that are saved
abbrev pub objects_in : SetLeft → Images
objects_in left = set_of left.nfit left.images left.bad

-- the set can be saved
pub record IsSavable (left : SetLeft) : Type 0 where
  pub modules : HasModules left.images left.bad
  pub few : length left.images.contents < 2 ^ 32
