-- Looking an object up from the front of a list.
use Rattle.std.proofs.Common.{◌≡◌, ℕ, ◌+◌, ◌<◌, ◌≤◌, true, false, cond, List, length, get_or, drop, Some, None, refl, ◌∙◌, add-one}
use Rattle.std.proofs.Math.Seq.{drop-cons}
use Rattle.std.proofs.Math.ListN.{drop_of_length-le}
use Rattle.nvd_media.specs.declared.object.Object.{Object}
use Rattle.nvd_media.specs.declared.mem_images.Stored.{Stored}
use Rattle.nvd_media.specs.Images.{is_object}
use Rattle.nvd_media.specs.Memory.{lookup}

-- one step of the look-up
lookup-drop : (xs : List Stored) (i : ℕ) (x : Stored) (object : Object) → i < length xs → x ≡ get_or xs i x
    → lookup (drop i xs) object ≡ cond (is_object x.object object) (Some x.bytes.items) (lookup (drop (i + 1) xs) object)
lookup-drop xs i x object lt is = rw (drop-cons xs i x, ← is, add-one) refl

pub lookup_here : (xs : List Stored) (i : ℕ) (x : Stored) (object : Object) → i < length xs → x ≡ get_or xs i x → is_object x.object object ≡ true
    → lookup (drop i xs) object ≡ Some x.bytes.items
lookup_here xs i x object lt is here = lookup-drop xs i x object lt is ∙ rw here refl

pub lookup_on : (xs : List Stored) (i : ℕ) (x : Stored) (object : Object) → i < length xs → x ≡ get_or xs i x → is_object x.object object ≡ false
    → lookup (drop i xs) object ≡ lookup (drop (i + 1) xs) object
lookup_on xs i x object lt is other = lookup-drop xs i x object lt is ∙ rw other refl

pub lookup_end : (xs : List Stored) (i : ℕ) (object : Object) → length xs ≤ i → lookup (drop i xs) object ≡ None
lookup_end xs i object le = rw (drop_of_length-le xs le) refl
