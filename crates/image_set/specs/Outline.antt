-- An image set whose contents stay in the source, and how it is saved by copying them: this project's rules.
use Rattle.std.specs.Prelude.{◌≡◌, ℕ, ◌^◌, ◌<◌, ◌≤◌, Bool, List, [], length, map, sum, take, drop, slice_get, slice_index_or, Option, Some, None, Result, Ok, OnOk, MatchResult}
use Rattle.std.specs.Option.{ForSome, option_map}
use Rattle.std.specs.Result.{result_map_both}
use Rattle.std.specs.List.{All, range_with_len}
use Rattle.nvd_words.specs.Bytes.{AreBytes}
use Rattle.nvd_media.specs.declared.object.Object.{Object}
use Rattle.nvd_media.specs.declared.object.Object.TheVariants as object
use Rattle.nvd_media.specs.Images.{Images, IsEmptySet, IsSameSet, Becomes, Keeps, IsUnfinished, bytes_of as bytes_in, with_more}
use Rattle.cut_words.specs.Words.{Words, IsLeft}
use Rattle.cut_words.specs.WordBytes.{bytes_of}
use Rattle.power_cut.specs.Left.{Each, InTurn, IsLeftOf, LeavesOption, LeavesWords}
use Rattle.nfit_reader.specs.Table.{nfit_reading}
use Rattle.nfit_reader.specs.Counted.{AreCounted}
use Rattle.image_set.specs.declared.fault.LoadFault.{LoadFault}
use Rattle.image_set.specs.declared.outline.Outline.{Outline}
use Rattle.image_set.specs.declared.changing.OutlineLeft.{OutlineLeft}
use Rattle.image_set.specs.declared.changing.OutlineRest.{OutlineRest}
use Rattle.image_set.specs.Load.{AnswersRead, ImageSet, bytes_kept, loading}
use Rattle.image_set.specs.Changed.{objects_of, with_area}
use Rattle.image_set.specs.Limits.{most_contents}
use Rattle.image_set.specs.Patches.{patched_contents, patched_row}
use Rattle.image_set.specs.Save.{front_of, with_module}
use Rattle.image_set.specs.Sizes.{IsContentsSize}
use Rattle.image_set.specs.Sound.{AreMapped, IsArea}

-- ---- an outline

-- the contents of `count` modules
abbrev pub contents_in : Images → ℕ → List (List ℕ)
contents_in set count = map (λ m. bytes_in set (object.Contents m)) (range_with_len 0 count)

-- an outline as an image set whose modules have these contents
unfoldable pub image_set_with : Outline → List (List ℕ) → ImageSet
image_set_with outline contents = record {
  nfit = outline.nfit;
  nfit_bytes = outline.nfit_bytes;
  labels = map (option_map bytes_kept) outline.labels;
  contents = contents;
  bad = outline.bad;
}

-- the contents of a set have these sizes
abbrev pub HasContents : List ℕ → Images → Type 0
HasContents sizes set = sizes ≡ map (λ row. length row) (contents_in set (length sizes))

-- with the set's contents an outline is the set, or the fault is its first
abbrev pub Outlines : Result Outline LoadFault → Images → Type 0
Outlines result set = AnswersRead (result_map_both (λ outline. image_set_with outline (contents_in set (length outline.sizes))) (λ fault. fault) result) (loading set)

-- What holds of an outline, whatever its source reveals.
pub record IsOutlined (outline : Outline) : Type 0 where
  -- the table is the decoding of the bytes
  pub table : nfit_reading outline.nfit_bytes ≡ Ok outline.nfit
  pub counted : AreCounted outline.nfit
  pub regions : length outline.nfit.regions < 2 ^ 32
  -- one of each for each module
  pub labels : length outline.labels ≡ length outline.sizes
  pub bad : length outline.bad ≡ length outline.sizes
  pub few : length outline.sizes ≤ 64
  -- label areas are within their limits
  pub areas : All IsArea outline.labels

-- What holds of the sizes of an outline's contents, which can be read later: there is one for each module, each is within its
-- limits and so is their sum, and the contents hold the mappings.
pub record IsLoadable (outline : Outline) : Type 0 where
  pub count : length outline.sizes ≡ length outline.nfit.modules
  pub sized : All IsContentsSize outline.sizes
  pub total : sum outline.sizes ≤ most_contents
  pub mapped : All (AreMapped outline.sizes) outline.nfit.regions

-- ---- an outline after a crash

-- the objects that are saved, with these contents
abbrev pub objects_with : OutlineLeft → List (List ℕ) → Images
objects_with left contents object.Mark = Some []
objects_with left contents object.Nfit = Some left.nfit
objects_with left contents (object.Labels m) = option_map bytes_of (slice_index_or left.labels m None)
objects_with left contents (object.Contents m) = slice_get contents m
objects_with left contents (object.BadRanges m) = slice_index_or left.bad m None

-- the outline can be saved
pub record IsCopyable (left : OutlineLeft) : Type 0 where
  pub labels : length left.labels ≡ length left.sizes
  pub bad : length left.bad ≡ length left.sizes
  pub few : length left.sizes ≤ 64

-- An outline after a crash, with these words as the label area of a module and no other word pending: the chooser is asked only
-- for these words, and all other objects are unchanged, whatever the contents are.
pub record LeavesOutline {C : Type 0} (picks : C → ℕ → Bool → C → Type 0) (outline : Outline) (m : ℕ) (area : Words) (before after : C) (left : OutlineLeft) : Type 0 where
  pub row : List ℕ
  pub asked : LeavesWords picks area row before after
  pub left_of : IsLeft area row
  pub objects : (contents : List (List ℕ)) → IsSameSet (objects_with left contents) (objects_of (with_area (image_set_with outline contents) m (bytes_of row)))

-- An outline's rest after a crash, with these label areas: the chooser is asked for one area after another, by ascending module
-- number, and all other objects are unchanged.
pub record LeavesAreas {C : Type 0} (picks : C → ℕ → Bool → C → Type 0) (rest : OutlineRest) (labels : List (Option Words)) (before after : C) (left : OutlineLeft) : Type 0 where
  pub asked : InTurn (LeavesOption picks) labels left.labels before after
  pub left_of : Each IsLeftOf labels left.labels
  pub nfit : left.nfit ≡ rest.nfit_bytes
  pub sizes : left.sizes ≡ rest.sizes
  pub bad : left.bad ≡ rest.bad

-- there is one of each for each module
pub record IsOutlineRest (rest : OutlineRest) : Type 0 where
  pub bad : length rest.bad ≡ length rest.sizes
  pub few : length rest.sizes ≤ 64

-- ---- copying

-- the first `at` of an object's bytes were copied: the sink has as many, and the source has `bytes` in all
pub record IsPart (held made : Option Images) (o : Object) (at bytes : ℕ) : Type 0 where
  pub within : at ≤ bytes
  pub there : ForSome held (λ set. length (bytes_in set o) ≡ bytes)
  pub end : ForSome made (λ set. at ≡ length (bytes_in set o))

-- The effect of copying bytes to a sink: if nothing failed, it has its old set with the change made, and the set isn't finished
-- by it.
pub record Copies {T E : Type 0} (made made' kept kept' : Option Images) (result : Result T E) (change : Images → Images) : Type 0 where
  pub told : Becomes made made' (λ set now. IsUnfinished set now × OnOk result (IsSameSet now (change set)))
  pub holds : OnOk result (Keeps kept kept' (λ set now. IsSameSet now (change set)))

-- `count` bytes of a module's contents, from `at` on, were copied from the source, each changed by f
pub record CopiesRow {T E : Type 0} (f : ℕ → ℕ → ℕ → ℕ) (held : Option Images) (m at count : ℕ) (made made' kept kept' : Option Images) (result : Result T E) : Type 0 where
  pub row : List ℕ
  pub long : OnOk result (length row ≡ count)
  pub read : OnOk result (ForSome held (λ source. row ≡ patched_row f m at (take count (drop at (bytes_in source (object.Contents m))))))
  pub fit : OnOk result (AreBytes row)
  pub copies : Copies made made' kept kept' result (λ set. with_more set (object.Contents m) row)

-- the objects of a module were copied: its label area, its contents, changed by f, and its list of bad ranges
pub record CopiesModule {T E : Type 0} (f : ℕ → ℕ → ℕ → ℕ) (held : Option Images) (m : ℕ) (area : Option (List ℕ)) (count : ℕ) (bad : Option (List ℕ)) (made made' kept kept' : Option Images) (result : Result T E) : Type 0 where
  pub row : List ℕ
  pub long : OnOk result (length row ≡ count)
  pub read : OnOk result (ForSome held (λ source. row ≡ patched_row f m 0 (bytes_in source (object.Contents m))))
  pub fit : OnOk result (AreBytes row)
  pub copies : Copies made made' kept kept' result (with_module m area row bad)

-- The effect of copying the objects of m modules to an empty sink, their contents changed by f.
pub record CopiesFront {T E : Type 0} (f : ℕ → ℕ → ℕ → ℕ) (held : Option Images) (left : OutlineLeft) (m : ℕ) (made made' kept kept' : Option Images) (result : Result T E) : Type 0 where
  pub contents : List (List ℕ)
  pub count : OnOk result (length contents ≡ m)
  pub sized : OnOk result (map (λ row. length row) contents ≡ take m left.sizes)
  pub read : OnOk result (ForSome held (λ source. contents ≡ patched_contents f (contents_in source m)))
  pub fit : OnOk result (All AreBytes contents)
  pub told : Becomes made made' (λ set now. IsUnfinished set now × OnOk result (IsSameSet now (front_of (objects_with left contents) m)))
  pub holds : OnOk result (Keeps kept kept' (λ set now. IsEmptySet set → IsSameSet now (front_of (objects_with left contents) m)))

-- The effect of copying a set to an empty sink: if nothing failed, it has all objects, with contents of the given sizes, which
-- are the source's, changed by f, and the mark; otherwise the set isn't finished.
pub record PatchesSet {T E : Type 0} (f : ℕ → ℕ → ℕ → ℕ) (held : Option Images) (left : OutlineLeft) (made made' kept kept' : Option Images) (result : Result T E) : Type 0 where
  pub contents : List (List ℕ)
  pub sized : OnOk result (map (λ row. length row) contents ≡ left.sizes)
  pub read : OnOk result (ForSome held (λ source. contents ≡ patched_contents f (contents_in source (length left.sizes))))
  pub fit : OnOk result (All AreBytes contents)
  pub told : Becomes made made' (λ set now. MatchResult result (λ _. IsSameSet now (objects_with left contents)) (λ _. IsUnfinished set now))
  pub holds : OnOk result (Keeps kept kept' (λ set now. IsEmptySet set → IsSameSet now (objects_with left contents)))

-- The same, with contents that are the source's as they are.
pub record CopiesSet {T E : Type 0} (held : Option Images) (left : OutlineLeft) (made made' kept kept' : Option Images) (result : Result T E) : Type 0 where
  pub contents : List (List ℕ)
  pub sized : OnOk result (map (λ row. length row) contents ≡ left.sizes)
  pub read : OnOk result (ForSome held (λ source. contents ≡ contents_in source (length left.sizes)))
  pub told : Becomes made made' (λ set now. MatchResult result (λ _. IsSameSet now (objects_with left contents)) (λ _. IsUnfinished set now))
  pub holds : OnOk result (Keeps kept kept' (λ set now. IsEmptySet set → IsSameSet now (objects_with left contents)))
