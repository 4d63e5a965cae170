-- Worked examples: the premises of the laws hold for an area of 1,024 zero bytes, and for that area after its two blocks are
-- written.
use Rattle.std.proofs.Common.{◌≡◌, ℕ, List, [], ◌∷◌, length, get_or, replicate, Some, None, Ok, Err, true, false, refl, ap, subst, arith}
use Rattle.label_codec.specs.declared.label.Label.{Label}
use Rattle.label_codec.specs.Writable.{IsWritable}
use Rattle.nvd_words.specs.Checks.{checked}
use Rattle.nvd_words.specs.Bytes.{number_at}
use Rattle.label_index.specs.declared.index.Side.TheVariants as side
use Rattle.label_index.specs.Area.{greatest, IsAreaSize}
use Rattle.label_index.specs.Index.{has_signature, sequence_of, has_version, has_offsets, has_slots, has_checksum, index_of, free_of}
use Rattle.label_index.specs.Spelling.{spelling_of}
use Rattle.cut_words.specs.WordBytes.{bytes_of}
use Rattle.label_area.specs.Change.{count_of_steps}
use Rattle.label_area.specs.Whole.{IsChange}
use Rattle.label_area.specs.Init.{IsInit, empty_block, full_words, init_steps}
use Rattle.label_area.specs.declared.fault.ChangeRefused.TheVariants.{NoSlot, PowerCut}
use Rattle.label_area.specs.Opened.{IsReady}
use Rattle.label_area.specs.Replace.{least_free, placed, replace_answer, labels_after}
use Rattle.label_area.specs.Initialise.{init_count as count_of_both, initial}
use Rattle.label_area.proofs.Blocks.{is_init, initial_ready}

-- ---- an area without a block

abbrev zeros : List ℕ
zeros = replicate 128 0

sized : IsAreaSize (length (bytes_of zeros))
sized = record { multiple = refl; low = omega arith; high = omega arith }

pub can_init : IsInit zeros 256 2
unfolding greatest checked has_signature sequence_of has_version has_offsets has_slots has_checksum index_of free_of number_at
can_init = record { area = sized; size_is = refl; slots_is = refl; refused = refl }

pub init_count : length (init_steps zeros 256 2) ≡ 132
unfolding number_at spelling_of
init_count = refl

-- ---- changes

pub removal_count : count_of_steps 256 None ≡ 66
removal_count = refl

pub can_change : IsChange (full_words zeros 256 2) (empty_block 256 2 side.Zero 3) None None
unfolding greatest checked has_signature sequence_of has_version has_offsets has_slots has_checksum index_of free_of number_at spelling_of
can_change = record { area = record { multiple = refl; low = omega arith; high = omega arith }; current = refl; free = λ k e. absurd (cc); label = λ l e. absurd (cc) }

pub put_count : (l : Label) → count_of_steps 256 (Some l) ≡ 130
put_count l = refl

-- any writable label that names the first slot can be put there
pub can_put : (l : Label) → IsWritable l → l.slot ≡ 0 → IsChange (full_words zeros 256 2) (empty_block 256 2 side.Zero 3) None (Some l)
can_put l ok first = record {
  area = can_change.area;
  current = can_change.current;
  free = λ k e. let is : k ≡ 0 = cc in ap (λ (n : ℕ). get_or (true ∷ true ∷ []) n false) is;
  label = λ m e. subst IsWritable (let is : l ≡ m = cc in is) ok;
}

-- ---- an open area

-- the area of zeros is initialised in 132 steps and can then be changed
pub init_steps_count : count_of_both 128 ≡ 132
unfolding greatest
init_steps_count = refl

pub is_ready : IsReady (initial zeros)
is_ready = initial_ready zeros (record { multiple = refl; low = omega arith; high = omega arith }) (is_init zeros (record { multiple = refl; low = omega arith; high = omega arith }) can_init.refused)

-- the least free slot
pub least_of_three : least_free (false ∷ true ∷ true ∷ []) ≡ Some 1
least_of_three = refl

pub none_is_free : least_free (false ∷ false ∷ []) ≡ None
none_is_free = refl

-- a label is put there with that number, and the call succeeds
pub put_there : (l : Label) → placed (false ∷ true ∷ []) (Some l) ≡ Ok (Some (record l { slot = 1 }))
put_there l = refl

pub no_slot : (l : Label) → placed (false ∷ false ∷ []) (Some l) ≡ Err NoSlot
no_slot l = refl

-- 130 steps suffice for a put, and 129 don't; 66 suffice for a removal
pub put_made : (l : Label) → replace_answer (empty_block 256 2 side.Zero 3) (Some 130) (Some l) ≡ Ok (Some 0)
put_made l = refl

pub put_cut : (l : Label) → replace_answer (empty_block 256 2 side.Zero 3) (Some 129) (Some l) ≡ Err PowerCut
put_cut l = refl

pub removal_made : replace_answer (empty_block 256 2 side.Zero 3) (Some 66) None ≡ Ok None
removal_made = refl

pub removal_cut : replace_answer (empty_block 256 2 side.Zero 3) (Some 65) None ≡ Err PowerCut
removal_cut = refl

-- one label is put, another is removed, the rest is unchanged
pub labels_of_three : (a b l : Label) → labels_after (Some 0) (Some (record l { slot = 1 })) (Some a ∷ None ∷ Some b ∷ []) ≡ None ∷ Some (record l { slot = 1 }) ∷ Some b ∷ []
labels_of_three a b l = refl
