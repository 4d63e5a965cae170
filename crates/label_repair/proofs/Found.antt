-- What a repair comes from: one valid side, which is current, and one that is refused.
use Rattle.std.proofs.Common.{◌≡◌, ◌≢◌, ◌⊎◌, ℕ, zero, suc, ◌*◌, List, length, Result, Ok, Err, Option, Some, None, refl, sym, ap, ◌∙◌, subst, arith, inl, inr}
use Rattle.std.specs.Prelude.{IfOk, IfSome, ◌≤◌}
use Rattle.nvd_words.specs.Checks.{Answers}
use Rattle.nvd_words.specs.Ring.{successor_of}
use Rattle.cut_words.specs.Words.{Words, settled}
use Rattle.cut_words.specs.WordBytes.{bytes_of}
use Rattle.label_index.specs.declared.index.IndexBlock.{IndexBlock}
use Rattle.label_index.specs.declared.index.IndexFault.{IndexFault}
use Rattle.label_index.specs.declared.index.IndexFault.TheVariants.{Signature, Sequence, Version, Offsets, Slots, Checksum, OutOfMemory}
use Rattle.label_index.specs.declared.index.Side.{Side}
use Rattle.label_index.specs.declared.index.Side.TheVariants as side
use Rattle.label_index.specs.Area.{block_size_of, IsAreaSize}
use Rattle.label_index.specs.Index.{index_reading}
use Rattle.label_index.specs.Valid.{IsValid}
use Rattle.label_index.proofs.Laws.{read_is_valid}
use Rattle.label_area.specs.Area.{block_in}
use Rattle.label_area.specs.Change.{opposite}
use Rattle.label_area.specs.Writing.{CanWrite}
use Rattle.label_area.proofs.Before.{IsSized, is_sized, IsSeq, IsCurrent, is_current, block_by}
use Rattle.label_area.proofs.Opened.{area_size}
use Rattle.label_repair.specs.declared.repair.IndexRepair.{IndexRepair}
use Rattle.label_repair.specs.Repair.{predecessor_of, older_block, repair_beside, repair_by, repair_in}

abbrev pub Reading : Type 0
Reading = Result IndexBlock IndexFault

-- ---- the number before

pub record IsBefore (s : ℕ) : Type 0 where
  pub ring : IsSeq (predecessor_of s)
  pub back : s ≡ successor_of (predecessor_of s)

pub before_is : (s : ℕ) → IsSeq s → IsBefore s
before_is zero ok = absurd (omega (arith, ok.low))
before_is (suc zero) ok = record { ring = record { low = omega arith; high = omega arith }; back = refl }
before_is (suc (suc zero)) ok = record { ring = record { low = omega arith; high = omega arith }; back = refl }
before_is (suc (suc (suc zero))) ok = record { ring = record { low = omega arith; high = omega arith }; back = refl }
before_is (suc (suc (suc (suc s)))) ok = absurd (omega (arith, ok.high))

pub older_valid : (area : ℕ) (now : IndexBlock) → IsValid area now → IsValid area (older_block now)
older_valid area now v =
    let before : IsBefore now.seq = before_is now.seq (record { low = v.seq_low; high = v.seq_high }) in
    record {
      sized = v.sized;
      seq_low = before.ring.low;
      seq_high = before.ring.high;
      whole = v.whole;
      some = v.some;
      bits = v.bits;
      fits = v.fits;
      listed = v.listed;
    }

-- ---- the readings

beside_is : (now : IndexBlock) (fault : IndexFault) (repair : IndexRepair) → repair_beside now fault ≡ Some repair → record { block = older_block now; fault = fault } ≡ repair
beside_is now Signature repair is = cc
beside_is now Sequence repair is = absurd (cc)
beside_is now (Version major minor) repair is = cc
beside_is now Offsets repair is = cc
beside_is now Slots repair is = cc
beside_is now Checksum repair is = cc
beside_is now OutOfMemory repair is = cc

-- the valid reading, and the refused one
pub record IsBeside (here there : Reading) (now : IndexBlock) (repair : IndexRepair) : Type 0 where
  pub valid : here ≡ Ok now
  pub refused : there ≡ Err repair.fault
  pub block : repair.block ≡ older_block now

beside : (now : IndexBlock) (fault : IndexFault) (repair : IndexRepair) → repair_beside now fault ≡ Some repair → IsBeside (Ok now) (Err fault) now repair
beside now fault repair is =
    let same = beside_is now fault repair is in
    record { valid = refl; refused = ap (λ (r : IndexRepair). Err r.fault) same; block = sym (ap (λ (r : IndexRepair). r.block) same) }

pub found : (a b : Reading) (repair : IndexRepair) → repair_by a b ≡ Some repair → ((now : IndexBlock) × IsBeside a b now repair) ⊎ ((now : IndexBlock) × IsBeside b a now repair)
found (Ok now) (Err fault) repair is = inl (now, beside now fault repair is)
found (Err fault) (Ok now) repair is = inr (now, beside now fault repair is)
found (Ok a) (Ok b) repair is = absurd (cc)
found (Err e) (Err f) repair is = absurd (cc)

-- the fault of a repair is that of a reading
pub fault_told : (a b : Reading) (found' : Option IndexRepair) → a ≢ Err OutOfMemory → b ≢ Err OutOfMemory → found' ≡ repair_by a b → IfSome found' (λ repair. repair.fault ≢ OutOfMemory)
fault_told a b None first second is = tt
fault_told a b (Some repair) first second is = λ bad. elim (found a b repair (sym is)) [
  | inl it ↦ second (it.1.refused ∙ ap (λ (f : IndexFault). Err f) bad)
  | inr it ↦ first (it.1.refused ∙ ap (λ (f : IndexFault). Err f) bad)
]

-- the sequence number of a block that is read
pub read_seq : (area : List ℕ) (s : Side) (read : Reading) → IsAreaSize (length area) → Answers OutOfMemory read (index_reading area s) → IfOk read (λ block. 1 ≤ block.seq)
read_seq area s (Ok block) sized told = (read_is_valid area s block sized (sym (told (λ bad. absurd (cc))))).seq_low
read_seq area s (Err fault) sized told = tt

-- ---- the words

-- the words of an area with a repair: the block `now` is current, and the other side is refused
pub record HasRepair (words : List ℕ) (now : IndexBlock) (repair : IndexRepair) : Type 0 where
  pub sized : IsSized words now.size
  pub here : IsCurrent words now.size now
  pub current : block_in (bytes_of words) ≡ Ok now
  pub block : repair.block ≡ older_block now

has_repair : (words : List ℕ) (s : Side) (now : IndexBlock) (repair : IndexRepair) → IsAreaSize (8 * length words)
    → IsBeside (index_reading (bytes_of words) s) (index_reading (bytes_of words) (opposite s)) now repair → HasRepair words now repair
has_repair words s now repair size it =
    let first : IsSized words (block_size_of (length (bytes_of words))) = is_sized words (area_size words size) in
    let current : block_in (bytes_of words) ≡ Ok now = block_by (bytes_of words) now s repair.fault it.valid it.refused in
    let sized : IsSized words now.size = subst (IsSized words) (sym (is_current words (block_size_of (length (bytes_of words))) now first current).sized) first in
    record { sized = sized; here = is_current words now.size now sized current; current = current; block = it.block }

pub repair_found : (words : List ℕ) (repair : IndexRepair) → IsAreaSize (8 * length words) → repair_in (bytes_of words) ≡ Some repair → (now : IndexBlock) × HasRepair words now repair
repair_found words repair size is =
    elim (found (index_reading (bytes_of words) side.Zero) (index_reading (bytes_of words) side.One) repair is) [
      | inl it ↦ (it.0, has_repair words side.Zero it.0 repair size it.1)
      | inr it ↦ (it.0, has_repair words side.One it.0 repair size it.1)
    ]

-- the block of a repair can be written
pub repair_writes : (words : Words) (repair : IndexRepair) → words ≡ settled words.kept → IsAreaSize (8 * length words.kept) → repair_in (bytes_of words.kept) ≡ Some repair → CanWrite words repair.block None
repair_writes words repair none size is =
    let it = repair_found words.kept repair size is in
    record {
      none_pending = none;
      valid = subst (IsValid (8 * length words.kept)) (sym it.1.block) (older_valid (8 * length words.kept) it.0 it.1.here.valid);
      room = λ l e. absurd (cc);
      sound = λ l e. absurd (cc);
    }
