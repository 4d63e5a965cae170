-- What is read of an image set.
use Rattle.std.specs.Prelude.{◌≡◌, ◌≢◌, [], length, map, Ok, Err}
use Rattle.std.specs.Option.{option_map}
use Rattle.std.specs.List.{All, range_with_len}
use Rattle.nvd_media.specs.declared.object.Object.TheVariants as object
use Rattle.nvd_media.specs.Images.{Images, bytes_of}
use Rattle.nfit_reader.specs.declared.table.NfitFault.TheVariants as nfit_fault
use Rattle.image_set.specs.declared.fault.LoadFault.{LoadFault}
use Rattle.image_set.specs.declared.fault.LoadFault.TheVariants as fault
use Rattle.image_set.specs.Load.{bytes_kept, loading}
use Rattle.image_set.specs.Outline.{HasContents, IsLoadable, IsOutlined, contents_in, image_set_with}
use Rattle.set_objects.specs.declared.objects.ObjectsRead.{ObjectsRead}
use Rattle.set_objects.specs.declared.objects.ObjectsRead.TheVariants as objects
use Rattle.set_objects.specs.declared.objects.SetRead.{SetRead}
use Rattle.set_objects.specs.Objects.{bad_there, labels_there, object_faults, table_reading}

-- ---- what is read

-- of a set whose table is read
pub record ReadsSet (found : SetRead) (set : Images) : Type 0 where
  pub table : table_reading set ≡ Ok found.outline.nfit
  pub bytes : found.outline.nfit_bytes ≡ bytes_of set object.Nfit
  -- the label areas and lists of bad ranges that are there, module by module
  pub labels : map (option_map bytes_kept) found.outline.labels ≡ map (labels_there set) (range_with_len 0 (length found.outline.nfit.modules))
  pub bad : found.outline.bad ≡ map (bad_there set) (range_with_len 0 (length found.outline.nfit.modules))
  -- the contents have the lengths in the outline
  pub sizes : HasContents found.outline.sizes set
  -- every fault
  pub faults : found.faults ≡ object_faults set found.outline.nfit
  -- without a fault, the outline with its contents is the whole set
  pub whole : found.faults ≡ [] → loading set ≡ Ok (image_set_with found.outline (contents_in set (length found.outline.sizes)))

-- of a set
abbrev pub Reads : ObjectsRead → Images → Type 0
Reads (objects.NoTable f) set = table_reading set ≡ Err f
Reads (objects.Table found) set = ReadsSet found set

-- ---- what holds of it, whatever the source reveals

-- A fault of the set. The source didn't fail, and memory didn't run out.
pub record IsFinding (f : LoadFault) : Type 0 where
  pub read : f ≢ fault.ReadFault
  pub memory : f ≢ fault.OutOfMemory
  pub table : f ≢ fault.Nfit nfit_fault.OutOfMemory

-- of a set whose table is read
pub record IsSetRead (found : SetRead) : Type 0 where
  pub outlined : IsOutlined found.outline
  -- contents have a length for each module of the table
  pub count : length found.outline.sizes ≡ length found.outline.nfit.modules
  pub findings : All IsFinding found.faults
  -- without a fault, the contents can be read later
  pub loadable : found.faults ≡ [] → IsLoadable found.outline

-- of a set
abbrev pub IsRead : ObjectsRead → Type 0
IsRead (objects.NoTable f) = IsFinding f
IsRead (objects.Table found) = IsSetRead found
