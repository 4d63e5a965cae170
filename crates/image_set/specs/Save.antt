-- The image set that is saved: this project's rules.
use Rattle.std.specs.Prelude.{◌≡◌, ℕ, nat_lt, if◌then◌else◌, List, [], length, slice_get, slice_index_or, Option, Some, None, Result, OnOk}
use Rattle.std.specs.Option.{option_map}
use Rattle.nvd_media.specs.declared.object.Object.{Object}
use Rattle.nvd_media.specs.declared.object.Object.TheVariants as object
use Rattle.nvd_media.specs.Causes.{HasCause}
use Rattle.nvd_media.specs.Images.{Images, IsSameSet, Becomes, Keeps, IsUnfinished, with_more}
use Rattle.cut_words.specs.WordBytes.{bytes_of}
use Rattle.power_cut.specs.declared.leaving.Images.{Images as Left}

-- The objects of a finished set: the bytes of the firmware's table, the words of label areas and contents with the low byte
-- first, and the bytes of the lists of bad ranges. An object is there if the list has it for the module.
unfoldable pub set_of : List ℕ → Left → List (Option (List ℕ)) → Images
set_of nfit left bad object.Mark = Some []
set_of nfit left bad object.Nfit = Some nfit
set_of nfit left bad (object.Labels m) = option_map bytes_of (slice_index_or left.labels m None)
set_of nfit left bad (object.Contents m) = option_map bytes_of (slice_get left.contents m)
set_of nfit left bad (object.BadRanges m) = slice_index_or bad m None

-- the lists have the objects of the same modules
pub record HasModules (left : Left) (bad : List (Option (List ℕ))) : Type 0 where
  pub labels : length left.labels ≡ length left.contents
  pub ranges : length bad ≡ length left.contents

-- ---- while it is written

-- the objects after those of m modules were written
abbrev pub front_of : Images → ℕ → Images
front_of set m object.Mark = None
front_of set m object.Nfit = set object.Nfit
front_of set m (object.Labels k) = if nat_lt k m then set (object.Labels k) else None
front_of set m (object.Contents k) = if nat_lt k m then set (object.Contents k) else None
front_of set m (object.BadRanges k) = if nat_lt k m then set (object.BadRanges k) else None

-- a set with bytes appended to an object, if there are any
abbrev pub with_some : Images → Object → Option (List ℕ) → Images
with_some set object None = set
with_some set object (Some bytes) = with_more set object bytes

-- a set with the objects of a module
abbrev pub with_module : ℕ → Option (List ℕ) → List ℕ → Option (List ℕ) → Images → Images
with_module m area contents bad set = with_some (with_more (with_some set (object.Labels m) area) (object.Contents m) contents) (object.BadRanges m) bad

-- no object of the module was written
pub record HasNone (m : ℕ) (set : Images) : Type 0 where
  pub labels : set (object.Labels m) ≡ None
  pub contents : set (object.Contents m) ≡ None
  pub ranges : set (object.BadRanges m) ≡ None

-- The effect on a sink: if nothing failed, it has its old set with the change made, and the set isn't finished by it.
pub record Adds {T E : Type 0} (made made' kept kept' : Option Images) (faults faults' : ℕ) (result : Result T E) (change : Images → Images) : Type 0 where
  pub told : Becomes made made' (λ set now. IsUnfinished set now × OnOk result (IsSameSet now (change set)))
  pub holds : OnOk result (Keeps kept kept' (λ set now. IsSameSet now (change set)))
  pub cause : HasCause faults faults' result
