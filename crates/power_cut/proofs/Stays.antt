-- An encoded place determines the place.
use Rattle.std.proofs.Common.{◌≡◌, List, [], ◌∷◌, ◌++◌, length, map, Option, Some, None, refl, ap, arith}
use Rattle.cut_words.specs.Words.{Words}
use Rattle.nfit_reader.specs.declared.table.Mapping.{Mapping}
use Rattle.nfit_reader.specs.declared.table.Lines.{Lines}
use Rattle.power_cut.specs.Namespace.{Namespace, beside_of, over}
use Rattle.power_cut.specs.Placed.{PlacedStay, beside_and_place, extent_told, line_size_told, mapping_told, offsets_told}

lines_by : (o p : Option Lines) → line_size_told o ≡ line_size_told p → offsets_told o ≡ offsets_told p → o ≡ p
lines_by None None size offsets = refl
lines_by None (Some l) size offsets = absurd (let e = size in cc)
lines_by (Some l) None size offsets = absurd (let e = size in cc)
lines_by (Some l) (Some k) size offsets =
    let sizes : l.size ≡ k.size = (let e = size in cc) in
    λ i. Some (record { size = sizes i; offsets = offsets i })

-- a mapping is determined by its fields
mapping_by : (m k : Mapping) → mapping_told m ≡ mapping_told k → m ≡ k
mapping_by m k e =
    let kept = ap (λ (w : Words). w.kept) e in
    let stored = ap (λ (w : Words). w.stored) e in
    let a : m.«module» ≡ k.«module» = cc in
    let b : m.size ≡ k.size = cc in
    let c : m.offset ≡ k.offset = cc in
    let d : m.start ≡ k.start = cc in
    let f : m.ways ≡ k.ways = cc in
    let g : m.identity.vendor ≡ k.identity.vendor = cc in
    let h : m.identity.date ≡ k.identity.date = cc in
    let j : m.identity.location ≡ k.identity.location = cc in
    let l : m.identity.serial ≡ k.identity.serial = cc in
    let offsets : offsets_told m.lines ≡ offsets_told k.lines = cc in
    let size : line_size_told m.lines ≡ line_size_told k.lines = cc in
    let lines = lines_by m.lines k.lines size offsets in
    λ i. record {
      «module» = a i;
      size = b i;
      offset = c i;
      start = d i;
      ways = f i;
      lines = lines i;
      identity = record { vendor = g i; date = h i; location = j i; serial = l i };
    }

-- a list after as many mappings as another one
record AreSplit (set set' : List Mapping) (rest rest' : List Words) : Type 0 where
  same : set' ≡ set
  behind : rest' ≡ rest

split : (set set' : List Mapping) (rest rest' : List Words) → length set' ≡ length set → map mapping_told set' ++ rest' ≡ map mapping_told set ++ rest → AreSplit set set' rest rest'
split [] [] rest rest' long e = record { same = refl; behind = e }
split [] (m ∷ ms) rest rest' long e = absurd (omega (arith, long))
split (m ∷ ms) [] rest rest' long e = absurd (omega (arith, long))
split (m ∷ ms) (k ∷ ks) rest rest' long e =
    let first : mapping_told k ≡ mapping_told m = cc in
    let others : map mapping_told ks ++ rest' ≡ map mapping_told ms ++ rest = cc in
    let behind = split ms ks rest rest' (omega (arith, long)) others in
    record { same = λ i. mapping_by k m first i ∷ behind.same i; behind = behind.behind }

pub placed_stay : PlacedStay
unfolding beside_and_place
placed_stay n n' e =
    let extent : extent_told n' ≡ extent_told n = cc in
    let kept = ap (λ (w : Words). w.kept) extent in
    let long : length n'.set ≡ length n.set = cc in
    let offset : n'.offset ≡ n.offset = cc in
    let raw : n'.raw ≡ n.raw = cc in
    let others : map mapping_told n'.set ++ beside_of n' ≡ map mapping_told n.set ++ beside_of n = cc in
    let parts = split n.set n'.set (beside_of n) (beside_of n') long others in
    record { set = parts.same; offset = offset; raw = raw; beside = parts.behind }

-- other words in the same place, with the same words beside them
pub placed_same : (n : Namespace) (modules : List Words) → beside_of (over n.set n.offset n.raw modules) ≡ beside_of n → beside_and_place (over n.set n.offset n.raw modules) ≡ beside_and_place n
unfolding beside_and_place
placed_same n modules e = ap (λ rows. extent_told n ∷ (map mapping_told n.set ++ rows)) e
