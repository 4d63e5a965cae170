-- The sets of a table's regions share no bytes.
use Rattle.std.proofs.Common.{◌≡◌, ◌≢◌, ℕ, zero, suc, ◌+◌, ◌<◌, false, List, [], ◌∷◌, length, Some, Ok, sym, subst, arith, inl, inr}
use Rattle.std.specs.Prelude.{◌⊎◌, slice_get, nat_lt, Contains}
use Rattle.std.specs.List.{All}
use Rattle.std.proofs.lemmas.Bool.{le-ltb, and_left, and_right}
use Rattle.std.proofs.lemmas.Option.{none-some}
use Rattle.std.proofs.lemmas.List.Elements.{All-contains}
use Rattle.nvd_words.specs.Checks.{first_fault}
use Rattle.nfit_reader.specs.declared.table.Mapping.{Mapping}
use Rattle.nfit_reader.specs.declared.table.Region.{Region}
use Rattle.nfit_reader.specs.Counted.{IsCounted}
use Rattle.nfit_reader.specs.Sharing.{EndsBefore}
use Rattle.nfit_reader.proofs.Sharing.{share_no_bytes}
use Rattle.interleave.specs.Places.{by_offset}
use Rattle.interleave.specs.Sets.{set_reading, faults_of}
use Rattle.interleave.proofs.Holders.{In, in_from, in_to}
use Rattle.interleave.proofs.Sorted.{Makes, makes_set, in_by_offset}
use Rattle.interleave.proofs.Checked.{no_fault}
use Rattle.region_space.specs.Space.{ranges_meet}
use Rattle.namespace_laws.specs.Regions.{TablesGiveRegions}

in_get : {X : Type 0} (xs : List X) (i : ℕ) (x : X) → slice_get xs i ≡ Some x → In xs x
in_get [] i x e = absurd (none-some x e)
in_get (y ∷ ys) zero x e = inl (let e' = e in cc)
in_get (y ∷ ys) (suc i) x e = inr (in_get ys i x e)

not_meeting : (m k : Mapping) → EndsBefore m k ⊎ EndsBefore k m → ranges_meet m.start m.size k.start k.size ≡ false
not_meeting m k (inl first) = and_right (nat_lt m.start (k.start + k.size)) (nat_lt k.start (m.start + m.size)) (le-ltb k.start (m.start + m.size) first)
not_meeting m k (inr other) = and_left (nat_lt m.start (k.start + k.size)) (nat_lt k.start (m.start + m.size)) (le-ltb m.start (k.start + k.size) other)

in_all : {X : Type 0} (P : X → Type 0) (xs : List X) (i : ℕ) (x : X) → All P xs → slice_get xs i ≡ Some x → P x
in_all P xs i x all e = All-contains P xs x all (in_to xs x (in_get xs i x e))

-- a mapping of a set is one of its region's, and has some bytes
of_region : (r : Region) (set : List Mapping) (m : Mapping) → 0 < length r.mappings → set_reading r ≡ Ok set → Contains set m → Contains r.mappings m × (0 < m.size)
of_region r set m some e c =
    let made : Makes r set = makes_set r set e some in
    let parts = no_fault (by_offset r.mappings) set (first_fault (faults_of r r.mappings)) e in
    let share = made.sound.shares m c in
    (in_to r.mappings m (in_by_offset r.mappings m (subst (λ (xs : List Mapping). In xs m) (sym parts.1) (in_from set m c))), omega (arith, share.positive))

pub gives_regions : TablesGiveRegions
gives_regions bytes nfit sets e counted of_regions = record { read = read; apart = apart }
  where
    some_in : (i : ℕ) (r : Region) → slice_get nfit.regions i ≡ Some r → 0 < length r.mappings
    some_in i r at_it = (in_all IsCounted nfit.regions i r counted at_it).some

    read : (i : ℕ) (set : List Mapping) → slice_get sets i ≡ Some set → (r : Region) × (0 < length r.mappings) × (set_reading r ≡ Ok set)
    read i set at_it = let of_it = of_regions i set at_it in (of_it.0, some_in i of_it.0 of_it.1, of_it.2)

    apart : (i j : ℕ) (s t : List Mapping) (m k : Mapping) → slice_get sets i ≡ Some s → slice_get sets j ≡ Some t → i ≢ j → Contains s m → Contains t k → m.«module» ≡ k.«module»
        → ranges_meet m.start m.size k.start k.size ≡ false
    apart i j s t m k at_i at_j ne in_s in_t same =
        let one = of_regions i s at_i in
        let two = of_regions j t at_j in
        let own = of_region one.0 s m (some_in i one.0 one.1) one.2 in_s in
        let other = of_region two.0 t k (some_in j two.0 two.1) two.2 in_t in
        not_meeting m k (share_no_bytes bytes nfit i j one.0 two.0 m k e one.1 two.1 ne own.0 other.0 same own.1 other.1)
