-- The image set that an answer saves: it is in memory, or its contents are copied from the source, as they are or with the new
-- bytes of namespaces.
use Rattle.std.specs.Prelude.{◌≡◌, ℕ, ◌%◌, ⊤, Bool, true, false, List, length, map, Option, Some, None, IfSome}
use Rattle.std.specs.Option.{ForSome}
use Rattle.std.specs.List.{All}
use Rattle.cut_words.specs.WordBytes.{bytes_of, words_in}
use Rattle.nvd_media.specs.Images.{Images, IsEmptySet, IsSameSet, Keeps}
use Rattle.image_set.specs.Changed.{IsSavable, objects_in}
use Rattle.image_set.specs.Outline.{HasContents, IsCopyable, contents_in, objects_with}
use Rattle.image_set.specs.Patches.{patched_contents}
use Rattle.namespace_bytes.specs.Patching.{BytePatch, all_patched}
use Rattle.shell_changes.specs.declared.answer.Left.{Left}
use Rattle.shell_changes.specs.declared.answer.Left.TheVariants.{Whole, Copied, Patched}

-- these are sizes of whole words
abbrev pub AreWholeSizes : List ℕ → Type 0
AreWholeSizes sizes = All (λ bytes. bytes % 8 ≡ 0) sizes

-- contents with the new bytes of namespaces, one after another, as whole words
abbrev pub contents_with : List BytePatch → List (List ℕ) → List (List ℕ)
contents_with patches contents = map (λ bytes. bytes_of (words_in bytes)) (patched_contents (all_patched patches) contents)

-- it can be saved
abbrev pub CanBeSaved : Left → Type 0
CanBeSaved (Whole left) = IsSavable left
CanBeSaved (Copied left) = IsCopyable left
CanBeSaved (Patched left patches) = IsCopyable left × AreWholeSizes left.sizes

-- its objects, if contents that are copied are these
abbrev pub objects_saved : List (List ℕ) → Left → Images
objects_saved contents (Whole left) = objects_in left
objects_saved contents (Copied left) = objects_with left contents
objects_saved contents (Patched left patches) = objects_with left (contents_with patches contents)

-- its objects are these, as far as the source tells the contents that are copied
abbrev pub AreObjects : Option Images → Left → Images → Type 0
AreObjects held (Whole left) set = set ≡ objects_in left
AreObjects held (Copied left) set = ForSome held (λ source. set ≡ objects_with left (contents_in source (length left.sizes)))
AreObjects held (Patched left patches) set = ForSome held (λ source. set ≡ objects_with left (contents_with patches (contents_in source (length left.sizes))))

-- a set is saved with them, if there is one
abbrev pub AreSaved : Option Images → Option Left → Option Images → Type 0
AreSaved held None saved = saved ≡ None
AreSaved held (Some left) saved = (set : Images) × AreObjects held left set × (saved ≡ Some set)

-- a sink that tells that it stored everything has this set, if it was empty; none was saved, and it is as it was
abbrev pub Stores : Option Images → Option Images → Option Images → Type 0
Stores None kept kept' = kept' ≡ kept
Stores (Some set) kept kept' = Keeps kept kept' (λ was now. IsEmptySet was → IsSameSet now set)

-- the contents that are copied have the sizes that are stated
abbrev pub HasItsContents : Left → Images → Type 0
HasItsContents (Whole left) source = ⊤
HasItsContents (Copied left) source = HasContents left.sizes source
HasItsContents (Patched left patches) source = HasContents left.sizes source

-- so have those of a set that is saved, if there is one
abbrev pub HasContentsOf : Option Images → Option Left → Type 0
HasContentsOf held saved = ForSome held (λ source. IfSome saved (λ left. HasItsContents left source))

-- the sizes of the contents that are copied are these
abbrev pub HasSize : List ℕ → Left → Type 0
HasSize sizes (Whole left) = ⊤
HasSize sizes (Copied left) = left.sizes ≡ sizes
HasSize sizes (Patched left patches) = left.sizes ≡ sizes

abbrev pub is_copied : Left → Bool
is_copied (Whole left) = false
is_copied (Copied left) = true
is_copied (Patched left patches) = true

-- whether contents are copied as a set is saved, if one is
abbrev pub copies_contents : Option Left → Bool
copies_contents None = false
copies_contents (Some left) = is_copied left
