-- The current block is one of the two that were read, and its slots lie inside the area.
use Rattle.std.proofs.Common.{◌≡◌, ◌≢◌, ◌⊎◌, ℕ, ◌+◌, ◌*◌, ◌≤◌, List, length, take, drop, Result, Ok, Err, eqb, sym, ◌∙◌, arith, inl, inr}
use Rattle.std.specs.Prelude.{◌||◌, IfOk}
use Rattle.std.proofs.lemmas.Bool.{cases_Bool}
use Rattle.nvd_words.specs.Ring.{is_newer}
use Rattle.label_index.specs.declared.index.IndexBlock.{IndexBlock}
use Rattle.label_index.specs.declared.index.IndexFault.{IndexFault}
use Rattle.label_index.specs.declared.index.IndexFault.TheVariants.{OutOfMemory}
use Rattle.label_index.specs.declared.index.Side.{Side}
use Rattle.label_index.specs.declared.index.Side.TheVariants as side
use Rattle.label_index.specs.Area.{block_size_of}
use Rattle.label_index.specs.Index.{index_reading, current_of, place_of}
use Rattle.label_index.proofs.Grammar.{reads_grammar}
use Rattle.label_area.specs.declared.fault.AreaFault.{AreaFault}
use Rattle.label_area.specs.Area.{current_block}

abbrev Reading : Type 0
Reading = Result IndexBlock IndexFault

pub one_of_two : (a b : Reading) (now : IndexBlock) → current_block (current_of a b) a b ≡ Ok now → (a ≡ Ok now) ⊎ (b ≡ Ok now)
one_of_two (Err e) (Err f) now is = absurd (cc)
one_of_two (Ok a) (Err f) now is = inl (cc)
one_of_two (Err e) (Ok b) now is = inr (cc)
one_of_two (Ok a) (Ok b) now is =
    elim (cases_Bool (eqb a.seq b.seq || is_newer a.seq b.seq)) [
      | inl t ↦ inr (let got = rw t at is in cc)
      | inr f ↦ inl (let got = rw f at is in cc)
    ]

-- the slots of a valid block
side_fits : (area : List ℕ) (s : Side) (read : Reading) (block : IndexBlock) → (read ≢ Err OutOfMemory → read ≡ index_reading area s) → read ≡ Ok block
    → 2 * block.size + 256 * length block.free ≤ length area
side_fits area s read block told is =
    let same : index_reading area s ≡ Ok block = sym (told (λ bad. let e = sym is ∙ bad in cc)) ∙ is in
    let size : ℕ = block_size_of (length area) in
    let g = reads_grammar (length area) size s (take size (drop (place_of size s) area)) block same in
    omega (arith, g.fits, g.same_size, g.my_size, g.listed)

-- the slots of the current block
pub current_fits : (area : List ℕ) (a b : Reading) (r : Result IndexBlock AreaFault) → (a ≢ Err OutOfMemory → a ≡ index_reading area side.Zero)
    → (b ≢ Err OutOfMemory → b ≡ index_reading area side.One) → r ≡ current_block (current_of a b) a b
    → IfOk r (λ block. 2 * block.size + 256 * length block.free ≤ length area)
current_fits area a b (Ok block) lower upper is =
    elim (one_of_two a b block (sym is)) [
      | inl first ↦ side_fits area side.Zero a block lower first
      | inr second ↦ side_fits area side.One b block upper second
    ]
current_fits area a b (Err fault) lower upper is = tt
