-- The files of an image directory: this project's rule.
use Rattle.std.specs.Prelude.{◌≡◌, ℕ, List, ◌++◌, Some, true, codes, slice_get}
use Rattle.std.specs.Fmt.{decimal}
use Rattle.nvd_media.specs.declared.object.Object.{Object}
use Rattle.nvd_media.specs.Images.{is_object}
use Rattle.nvd_files.specs.declared.dir_source.Opened.{Opened}
use Rattle.nvd_media.specs.declared.object.Object.TheVariants.{Mark, Nfit, Labels, Contents, BadRanges}

-- the file at a place of the open ones is this object's
abbrev pub IsFileOf : Object → List Opened → ℕ → Type 0
IsFileOf object opened k = (o : Opened) × (slice_get opened k ≡ Some o) × (is_object o.object object ≡ true)

-- the file of an object; modules are numbered in decimal
abbrev pub file_name_of : Object → List ℕ
file_name_of Mark = codes "complete"
file_name_of Nfit = codes "nfit.bin"
file_name_of (Labels m) = codes "labels-" ++ (decimal m ++ codes ".bin")
file_name_of (Contents m) = codes "contents-" ++ (decimal m ++ codes ".bin")
file_name_of (BadRanges m) = codes "badranges-" ++ (decimal m ++ codes ".bin")
