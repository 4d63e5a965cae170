-- Facts about an open area.
use Rattle.std.proofs.Common.{◌≡◌, ℕ, ◌*◌, ◌≤◌, List, length, get_or, replicate, Option, None, sym, ap, subst, arith, inl, inr}
use Rattle.std.specs.Prelude.{unwrap_or}
use Rattle.std.proofs.lemmas.Bool.{cases_lt}
use Rattle.std.proofs.lemmas.List.{get_or-replicate, get_or_past, length-replicate}
use Rattle.cut_words.specs.Words.{seen_at, settled}
use Rattle.cut_words.specs.WordBytes.{bytes_of}
use Rattle.cut_words.proofs.Bytes.{length_bytes}
use Rattle.label_index.specs.Area.{block_size_of, IsAreaSize}
use Rattle.label_area.specs.State.{AreaState}
use Rattle.label_area.specs.Opened.{IsReady}
use Rattle.label_area.proofs.Before.{IsSized, is_sized, IsCurrent, is_current}

-- ---- words of which none is pending

pub none_stored : (values : List ℕ) (i : ℕ) → get_or (settled values).stored i None ≡ None
none_stored values i =
    elim (cases_lt i (length values)) [
      | inl lt ↦ get_or-replicate (length values) i None None lt
      | inr past ↦ get_or_past (replicate (length values) None) i None (omega (arith, length-replicate {A = Option ℕ} (length values)))
    ]

pub seen_settled : (values : List ℕ) (i : ℕ) → seen_at (settled values) i ≡ get_or values i 0
seen_settled values i = ap (λ (stored : Option ℕ). unwrap_or stored (get_or values i 0)) (none_stored values i)

-- ---- an area that isn't stopped

pub area_size : (values : List ℕ) → IsAreaSize (8 * length values) → IsAreaSize (length (bytes_of values))
area_size values ok = subst IsAreaSize (sym (length_bytes values)) ok

pub ready_sized : (area : AreaState) → IsReady area → IsSized area.words.kept (block_size_of (length (bytes_of area.words.kept)))
ready_sized area ready = is_sized area.words.kept (area_size area.words.kept ready.size)

pub ready_current : (area : AreaState) → IsReady area → IsCurrent area.words.kept (block_size_of (length (bytes_of area.words.kept))) area.block
ready_current area ready =
    is_current area.words.kept (block_size_of (length (bytes_of area.words.kept))) area.block (ready_sized area ready) ready.current

pub few_slots : (area : AreaState) → IsReady area → length area.block.free ≤ 4096
few_slots area ready =
    let s : IsAreaSize (8 * length area.words.kept) = ready.size in
    let c : IsCurrent area.words.kept (block_size_of (length (bytes_of area.words.kept))) area.block = ready_current area ready in
    omega (arith, s.high, c.fits)
