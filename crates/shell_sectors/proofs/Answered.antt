-- The words after a write, and the refusals of a value for a sector.
use Rattle.std.proofs.Common.{◌≡◌, ◌≢◌, ℕ, ◌<◌, ◌≤◌, List, [], ◌∷◌, length, get_or, Some, None, refl, sym, ◌∙◌, arith}
use Rattle.std.specs.Prelude.{slice_index}
use Rattle.std.proofs.lemmas.Bool.{eq-eqb, ne_eqb, le-ltb, lt-ltb}
use Rattle.std.proofs.lemmas.List.Sums.{sum_by_more_le}
use Rattle.arena_open.specs.declared.state.ArenaState.{ArenaState}
use Rattle.arena_open.specs.ChainCells.{LiesIn, external_of, sectors_of, sizes_of}
use Rattle.arena_open.proofs.ChainSectors.{size_there}
use Rattle.served_namespaces.specs.Places.{KeepsBehind}
use Rattle.session_script.specs.declared.payload.Payload.{Payload}
use Rattle.shell_reports.specs.Faults.{range_text}
use Rattle.shell_sectors.specs.Value.{bytes_for}
use Rattle.shell_sectors.specs.Write.{HasSector, length_refusal, length_text, write_refusal}

-- the words that were before
pub since : (uuid : List ℕ) (sector : ℕ) (words : List ℕ) (states : List ArenaState) (first was now : List ℕ) → KeepsBehind first was states → HasSector uuid sector words states was now → HasSector uuid sector words states first now
since uuid sector words states first was now kept h = record {
  which = h.which;
  own = h.own;
  lies = h.lies;
  news = h.news;
  opens = h.opens;
  infos = h.infos;
  none = h.none;
  others = h.others;
  fixed = h.fixed;
  behind = h.behind ∙ kept;
  cells = h.cells;
}

-- ---- a sector that is there

some_state : (states : List ArenaState) (k : ℕ) → k < length states → ArenaState
some_state [] k lt = absurd (omega (arith, lt))
some_state (state ∷ states) k lt = state

module _ (states : List ArenaState) (sector which own : ℕ) (value : Payload) (l : LiesIn states sector which own)
    (had : ℕ) (is : (d : ArenaState) → had ≡ (get_or states which d).info.layout.sector) where
  abbrev some : ArenaState
  some = some_state states which l.there

  -- the length of the sector
  pub size_is : slice_index (sizes_of states) sector ≡ had
  size_is = size_there states sector which own 0 some l ∙ sym (is some)

  inside_all : sector < sectors_of states
  inside_all = let more = sum_by_more_le external_of states which some l.there in omega (arith, l.is, l.inside some, more)

  refusal_is : write_refusal sector value states ≡ length_refusal (length (bytes_for had value)) had
  refusal_is = rw (lt-ltb sector (sectors_of states) inside_all) (λ i. length_refusal (length (bytes_for (size_is i) value)) (size_is i))

  pub accepts : length (bytes_for had value) ≡ had → write_refusal sector value states ≡ None
  accepts fit = refusal_is ∙ rw (eq-eqb (length (bytes_for had value)) had fit) refl

  pub misfits : length (bytes_for had value) ≢ had → write_refusal sector value states ≡ Some (length_text (length (bytes_for had value)) had)
  misfits ne = refusal_is ∙ rw (ne_eqb (length (bytes_for had value)) had ne) refl

pub past : (states : List ArenaState) (sector : ℕ) (value : Payload) → sectors_of states ≤ sector → write_refusal sector value states ≡ Some (range_text (sectors_of states))
past states sector value le = rw (le-ltb sector (sectors_of states) le) refl
