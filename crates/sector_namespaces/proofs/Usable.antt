-- In the set of each region of an image set that was loaded a namespace can be opened.
use Rattle.std.proofs.Common.{◌≡◌, ℕ, zero, suc, ◌+◌, ◌-◌, ◌*◌, ◌^◌, ◌<◌, ◌≤◌, max, List, [], ◌∷◌, length, map, get_or, Some, Ok, refl, sym, ap, ◌∙◌, subst, inl, inr, arith}
use Rattle.std.specs.Prelude.{sum, slice_get, Contains}
use Rattle.std.specs.List.{All}
use Rattle.std.proofs.Math.Nat.{max-eq_left, max-eq_right}
use Rattle.std.proofs.lemmas.Bool.{cases_lt}
use Rattle.std.proofs.lemmas.Option.{none-some}
use Rattle.std.proofs.lemmas.Nat.{pow_pos, pow-add, pow_below}
use Rattle.std.proofs.lemmas.List.{get_or-map, length-map}
use Rattle.std.proofs.lemmas.List.Elements.{All-contains, All-get_or}
use Rattle.nvd_words.specs.Checks.{first_fault}
use Rattle.cut_words.specs.Words.{Words}
use Rattle.nfit_reader.specs.declared.table.Mapping.{Mapping}
use Rattle.nfit_reader.specs.declared.table.Region.{Region}
use Rattle.interleave.specs.Places.{line_size_of, line_count_of, by_offset, unit_of}
use Rattle.interleave.specs.Sets.{faults_of, set_reading}
use Rattle.interleave.specs.Sound.{IsShare, IsSound}
use Rattle.interleave.proofs.Holders.{In, in_from, in_to}
use Rattle.interleave.proofs.Checked.{no_fault}
use Rattle.interleave.proofs.Sorted.{Sound, sound_set, in_by_offset}
use Rattle.image_set.specs.Limits.{most_contents}
use Rattle.image_set.specs.Sound.{size_of, IsMapped, AreMapped}
use Rattle.namespace_laws.specs.Regions.{AreSetsOf}
use Rattle.namespace_areas.specs.Finding.{set_at}
use Rattle.power_cut.specs.Namespace.{HasBytes, row_of}
use Rattle.sector_namespaces.specs.View.{IsUsable, AreUsable}
use Rattle.sector_namespaces.proofs.Spans.{spans_within}

-- ---- units

record Pages (unit : ℕ) : Type 0 where
  count : ℕ
  is : unit ≡ 4096 * (count + 1)

pages_power : (k : ℕ) → Pages (max 4096 (2 ^ k))
pages_power k = elim (cases_lt 12 k) [
  | inl more ↦
      let big : 4096 ≤ 2 ^ k = omega (arith, pow_below 12 k more) in
      let split : 2 ^ k ≡ 2 ^ 12 * 2 ^ (k - 12) = ap (λ (j : ℕ). 2 ^ j) (let z : k ≡ 12 + (k - 12) = omega arith in z) ∙ pow-add 2 12 (k - 12) in
      record { count = 2 ^ (k - 12) - 1; is = max-eq_right big ∙ split ∙ omega (arith, pow_pos (k - 12)) }
  | inr few ↦
      let small : 2 ^ k ≤ 4096 = elim (cases_lt k 12) [
        | inl less ↦ omega (arith, pow_below k 12 less)
        | inr same ↦ (let twelve : k ≡ 12 = omega arith in rw twelve (omega arith))
      ] in
      record { count = 0; is = max-eq_left small ∙ omega arith }
]

unit_pages : (line lines span : ℕ) (set : List Mapping) → IsSound line lines span set → Pages (unit_of set)
unit_pages line lines span [] sound = record { count = 0; is = refl }
unit_pages line lines span (m ∷ ms) sound =
    let share : IsShare line lines span m = sound.shares m (in_to (m ∷ ms) m (inl refl)) in
    let is : line_count_of m * line_size_of m ≡ 2 ^ sound.power.0 = (λ i. share.line_count i * share.line_size i) ∙ sound.power.1 in
    subst (λ (u : ℕ). Pages (max 4096 u)) (sym is) (pages_power sound.power.0)

-- ---- what the modules have

module _ (rows : List Words) where
  abbrev sizes : List ℕ
  sizes = map size_of rows

  blank : Words
  blank = record { kept = []; stored = [] }

  size_at : (k : ℕ) → k < length rows → get_or sizes k 0 ≡ size_of (row_of rows k)
  size_at k lt = get_or-map size_of rows k (record { kept = []; stored = [] }) 0 lt

  has_bytes : (m : Mapping) → IsMapped sizes m → HasBytes rows m.«module» m.start m.size
  has_bytes m mapped =
      let lt : m.«module» < length rows = omega (arith, mapped.there, length-map rows size_of) in
      record { there = lt; reaches = omega (arith, mapped.inside, size_at m.«module» lt) }

  pub usable : (r : Region) (set : List Mapping) → set_reading r ≡ Ok set → AreMapped sizes r → sum sizes ≤ most_contents → IsUsable set rows
  usable r set read mapped total =
      let s : Sound r set = sound_set r set read in
      let same : by_offset r.mappings ≡ set = (no_fault (by_offset r.mappings) set (first_fault (faults_of r r.mappings)) read).1 in
      let each : (m : Mapping) → Contains set m → IsMapped sizes m =
      λ m c. All-contains (IsMapped sizes) r.mappings m mapped
      (in_to r.mappings m (in_by_offset r.mappings m (subst (λ (ms : List Mapping). In ms m) (sym same) (in_from set m c)))) in
      let pages : Pages (unit_of set) = unit_pages s.line s.lines s.span set s.sound in
      record {
        pages = (pages.count, pages.is);
        reach = λ m c. has_bytes m (each m c);
        short = omega (arith, spans_within sizes r set read mapped, total);
      }

-- ---- all regions

got : {X : Type 0} (xs : List X) (k : ℕ) (d : X) → k < length xs → slice_get xs k ≡ Some (get_or xs k d)
got [] k d lt = absurd (omega arith)
got (x ∷ xs) zero d lt = refl
got (x ∷ xs) (suc k) d lt = got xs k d (omega arith)

there : {X : Type 0} (xs : List X) (k : ℕ) (d x : X) → slice_get xs k ≡ Some x → (k < length xs) × (get_or xs k d ≡ x)
there [] k d x e = absurd (none-some x e)
there (y ∷ ys) zero d x e = (omega arith, (let h = e in cc))
there (y ∷ ys) (suc k) d x e = let h = there ys k d x e in (omega (arith, h.0), h.1)

pub usable_sets : (regions : List Region) (sets : List (List Mapping)) (rows : List Words) → All (AreMapped (map size_of rows)) regions → sum (map size_of rows) ≤ most_contents
    → AreSetsOf regions sets → AreUsable sets rows
usable_sets regions sets rows mapped total are region lt =
    let own = are region (set_at sets region) (got sets region [] lt) in
    let at_it = there regions region own.0 own.0 own.1 in
    usable rows own.0 (set_at sets region) own.2
    (subst (AreMapped (map size_of rows)) at_it.1 (All-get_or (AreMapped (map size_of rows)) regions region own.0 at_it.0 mapped)) total
