-- The sizes of a module's objects.
use Rattle.std.proofs.Common.{◌≡◌, ℕ, ◌+◌, ◌%◌, ◌<◌, ◌≤◌, true, length, Option, Some, None, Ok, refl, arith}
use Rattle.std.specs.Option.{option_map}
use Rattle.std.proofs.lemmas.Bool.Decides.{nat_tests}
use Rattle.nvd_words.specs.Checks.{value_unless}
use Rattle.nvd_words.proofs.Checks.{fault_next, fault_none}
use Rattle.nvd_media.specs.declared.object.Object.TheVariants as object
use Rattle.nvd_media.specs.Images.{Images, bytes_of}
use Rattle.label_index.specs.Area.{is_area_size, IsAreaSize}
use Rattle.image_set.specs.Limits.{most_contents, is_contents_size, is_bad_size}
use Rattle.image_set.specs.Load.{needed_fault, optional_fault, module_fault}
use Rattle.image_set.specs.Sizes.{sizes_of, IsSized}

pub module_passes : (set : Images) (before m : ℕ) (labels : Option ℕ) (contents : ℕ) (bad : Option ℕ)
    → optional_fault is_area_size (object.Labels m) (set (object.Labels m)) ≡ None
    → needed_fault (is_contents_size before) (object.Contents m) (set (object.Contents m)) ≡ None
    → optional_fault is_bad_size (object.BadRanges m) (set (object.BadRanges m)) ≡ None
    → labels ≡ option_map length (set (object.Labels m)) → contents ≡ length (bytes_of set (object.Contents m)) → bad ≡ option_map length (set (object.BadRanges m))
    → Ok (record { labels = labels; contents = contents; bad = bad }) ≡ value_unless (sizes_of set m) (module_fault set before m)
unfolding module_fault
module_passes set before m labels contents bad a b d la co ba =
    fault_next _ _ _ _ a (fault_next _ _ _ _ b (fault_next _ _ _ _ d (fault_none _ _ _ refl (rw (la, co, ba) refl))))

pub contents_sized : (before bytes : ℕ) → is_contents_size before bytes ≡ true → (0 < bytes) × (bytes % 4096 ≡ 0) × (before + bytes ≤ most_contents)
contents_sized before bytes fits = (grind (arith, nat_tests), grind (arith, nat_tests), grind (arith, nat_tests))

bad_sized : (bytes : ℕ) → is_bad_size bytes ≡ true → (bytes % 16 ≡ 0) × (bytes ≤ 65536)
bad_sized bytes fits = (grind (arith, nat_tests), grind (arith, nat_tests))

pub is_sized : (labels : Option ℕ) (contents : ℕ) (bad : Option ℕ) (before : ℕ) → ((bytes : ℕ) → labels ≡ Some bytes → IsAreaSize bytes) → is_contents_size before contents ≡ true
    → ((bytes : ℕ) → bad ≡ Some bytes → is_bad_size bytes ≡ true) → IsSized (record { labels = labels; contents = contents; bad = bad })
is_sized labels contents bad before areas fits ranges =
    let s = contents_sized before contents fits in
    record {
      labels = areas;
      some = s.0;
      multiple = s.1;
      ranges = λ bytes is. (bad_sized bytes (ranges bytes is)).0;
      few = λ bytes is. (bad_sized bytes (ranges bytes is)).1;
    }
