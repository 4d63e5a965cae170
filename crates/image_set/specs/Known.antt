-- What is known of an image set before the bytes of its modules are read.
use Rattle.std.specs.Prelude.{◌≡◌, ℕ, ◌^◌, ◌<◌, ◌≤◌, List, length, Option, Ok}
use Rattle.std.specs.Option.{ForSome}
use Rattle.std.specs.List.{All}
use Rattle.nvd_media.specs.declared.object.Object.TheVariants as object
use Rattle.nvd_media.specs.Images.{Images, bytes_of}
use Rattle.nfit_reader.specs.declared.table.Nfit.{Nfit}
use Rattle.nfit_reader.specs.Table.{nfit_reading}
use Rattle.nfit_reader.specs.Counted.{AreCounted, NamesItsModules}
use Rattle.image_set.specs.declared.sizes.Sizes.{Sizes}
use Rattle.image_set.specs.Sizes.{AreSized, AreSizesOf, IsSized}

-- the sizes of at most 64 modules' objects are within their limits, and are the source's if it reveals what it holds
pub record AreKnown (held : Option Images) (sizes : List Sizes) : Type 0 where
  pub few : length sizes ≤ 64
  pub sized : All IsSized sizes
  pub there : ForSome held (λ set. AreSizesOf set sizes)

-- A table's bytes and the sizes of its modules' objects were checked. They are the source's, if it reveals what it holds.
pub record IsChecked (held : Option Images) (nfit : Nfit) (nfit_bytes : List ℕ) (sizes : List Sizes) : Type 0 where
  -- the table is the decoding of the bytes
  pub table : nfit_reading nfit_bytes ≡ Ok nfit
  pub counted : AreCounted nfit
  pub few : length nfit.regions < 2 ^ 32
  pub modules : NamesItsModules nfit
  -- the sizes are of each module, and within their limits
  pub count : length sizes ≡ length nfit.modules
  pub sized : AreSized sizes
  pub there : ForSome held (λ set. AreSizesOf set sizes)
  pub read : ForSome held (λ set. nfit_bytes ≡ bytes_of set object.Nfit)
