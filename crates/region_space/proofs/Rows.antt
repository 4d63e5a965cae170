-- Worked examples, computed on the definitions: overlaps of lists, and offsets in two mappings of eight units.
use Rattle.std.proofs.Common.{◌≡◌, ℕ, List, [], ◌∷◌, Some, None, true, false, replicate, refl}
use Rattle.nvd_words.specs.Checks.{first_fault}
use Rattle.nfit_reader.specs.declared.table.Mapping.{Mapping}
use Rattle.region_space.specs.declared.extent.Extent.{Extent}
use Rattle.region_space.specs.declared.extent.SpaceFault.TheVariants.{Overlap}
use Rattle.region_space.specs.Space.{overlap_of, fits}

abbrev owner : ℕ → List ℕ
owner n = replicate 16 n

abbrev extent : ℕ → ℕ → ℕ → ℕ → Extent
extent n number start length = record { owner = owner n; «module» = number; start = start; length = length }

-- ---- overlaps

pub touching : overlap_of (extent 1 0 0 4096 ∷ extent 2 0 4096 4096 ∷ []) ≡ None
unfolding overlap_of first_fault
touching = refl

pub half : overlap_of (extent 1 0 0 8192 ∷ extent 2 0 4096 8192 ∷ []) ≡ Some (Overlap (owner 1) (owner 2))
unfolding overlap_of first_fault
half = refl

pub equal_starts : overlap_of (extent 2 0 4096 1 ∷ extent 1 0 4096 8192 ∷ []) ≡ Some (Overlap (owner 2) (owner 1))
unfolding overlap_of first_fault
equal_starts = refl

pub one_owner : overlap_of (extent 1 0 0 8192 ∷ extent 1 0 4096 8192 ∷ []) ≡ None
unfolding overlap_of first_fault
one_owner = refl

pub two_modules : overlap_of (extent 1 0 0 8192 ∷ extent 2 1 4096 8192 ∷ []) ≡ None
unfolding overlap_of first_fault
two_modules = refl

-- the first extent has its partner last; the other two overlap as well
pub least : overlap_of (extent 1 0 0 4096 ∷ extent 2 0 8192 4096 ∷ extent 3 0 0 16384 ∷ []) ≡ Some (Overlap (owner 1) (owner 3))
unfolding overlap_of first_fault
least = refl

-- the first partner by place, though the second one starts before it
pub first_partner : overlap_of (extent 1 0 0 16384 ∷ extent 2 0 8192 4096 ∷ extent 3 0 0 4096 ∷ []) ≡ Some (Overlap (owner 1) (owner 2))
unfolding overlap_of first_fault
first_partner = refl

-- no bytes: it overlaps the extent it lies strictly inside, but not one at whose start it is
pub no_byte_inside : overlap_of (extent 1 0 4096 0 ∷ extent 2 0 0 8192 ∷ []) ≡ Some (Overlap (owner 1) (owner 2))
unfolding overlap_of first_fault
no_byte_inside = refl

pub no_byte_at_a_start : overlap_of (extent 1 0 4096 0 ∷ extent 2 0 4096 8192 ∷ []) ≡ None
unfolding overlap_of first_fault
no_byte_at_a_start = refl

-- ---- offsets that fit

abbrev mapping : ℕ → ℕ → Mapping
mapping number start = record {
  «module» = number;
  size = 32768;
  offset = 0;
  start = start;
  ways = 2;
  lines = Some (record { size = 4096; offsets = 0 ∷ [] });
  identity = record { vendor = 0; date = 0; location = 0; serial = 0 };
}

abbrev pair : List Mapping
pair = mapping 0 65536 ∷ mapping 1 131072 ∷ []

pub all : fits pair [] 32768 0 ≡ true
all = refl

pub past_the_end : fits pair [] 8192 28672 ≡ false
past_the_end = refl

pub behind_one : fits pair (extent 1 0 65536 4096 ∷ []) 4096 4096 ≡ true
behind_one = refl

pub on_one : fits pair (extent 1 0 65536 4096 ∷ []) 4096 0 ≡ false
on_one = refl

pub on_one_of_the_second : fits pair (extent 1 1 135167 1 ∷ []) 4096 0 ≡ false
on_one_of_the_second = refl

pub before_one_of_the_second : fits pair (extent 1 1 135168 1 ∷ []) 4096 0 ≡ true
before_one_of_the_second = refl

pub another_module : fits pair (extent 1 2 0 1048576 ∷ []) 32768 0 ≡ true
another_module = refl
