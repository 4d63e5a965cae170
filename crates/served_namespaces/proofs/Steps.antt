-- Items of lists, and the words beside arenas.
use Rattle.std.proofs.Common.{◌≡◌, ℕ, zero, suc, ◌+◌, ◌<◌, List, [], ◌∷◌, ◌++◌, length, drop, take, get_or, Some, sym, ap, ◌∙◌, arith}
use Rattle.std.specs.Prelude.{Contains, slice_get}
use Rattle.std.proofs.lemmas.Option.{none-some, same_Some}
use Rattle.cut_words.specs.Words.{Words}
use Rattle.nfit_reader.specs.declared.table.Mapping.{Mapping}
use Rattle.power_cut.specs.Namespace.{beside_of, row_of}
use Rattle.power_cut.proofs.Spread.{eighth}
use Rattle.namespace_areas.specs.Finding.{LiesInSet}
use Rattle.served_namespaces.specs.declared.places.FoundNamespace.{FoundNamespace}
use Rattle.served_namespaces.specs.declared.places.OpenedNamespace.{OpenedNamespace}
use Rattle.served_namespaces.specs.Places.{KeepsBeside, PlaceBytes, arena_words, place_in, words_at}
use Rattle.served_namespaces.proofs.Apart.{counts, else_same}

-- ---- words beside

-- an arena of these namespaces changes
pub keeps_beside : (sets : List (List Mapping)) → PlaceBytes sets → (opened : List OpenedNamespace) (o : OpenedNamespace) → Contains opened o → LiesInSet sets o.place.found → (loaded rows now : List Words)
    → KeepsBeside sets opened loaded rows → beside_of (place_in sets o.place.found now) ≡ beside_of (place_in sets o.place.found rows)
    → drop (arena_words o.states) (words_at sets o.place.found now) ≡ drop (arena_words o.states) (words_at sets o.place.found rows) → KeepsBeside sets opened loaded now
keeps_beside sets sound opened o among lies loaded rows now kept beside behind = record {
  sizes = counts sets sound o.place.found lies rows now beside ∙ kept.sizes;
  same = λ which k none.
      ap (λ (j : ℕ). get_or (row_of now which).kept j 0) (sym (eighth k))
      ∙ else_same sets sound o.place.found lies rows now beside (arena_words o.states) behind which k (λ i lt at. none o among (record { word = i; below = lt; at = at }))
      ∙ ap (λ (j : ℕ). get_or (row_of rows which).kept j 0) (eighth k)
      ∙ kept.same which k none;
}

-- ---- items

abbrev pub place_of : OpenedNamespace → FoundNamespace
place_of o = o.place

pub got_contains : {X : Type 0} (xs : List X) (i : ℕ) (a : X) → slice_get xs i ≡ Some a → Contains xs a
got_contains [] i a is = absurd (none-some a is)
got_contains (x ∷ xs) zero a is = (0, omega arith, same_Some x a is)
got_contains (x ∷ xs) (suc i) a is = let c = got_contains xs i a is in (suc c.0, omega (arith, c.1), c.2)

pub got_below : {X : Type 0} (xs : List X) (i : ℕ) (a : X) → slice_get xs i ≡ Some a → i < length xs
got_below [] i a is = absurd (none-some a is)
got_below (x ∷ xs) zero a is = omega arith
got_below (x ∷ xs) (suc i) a is = omega (arith, got_below xs i a is)

pub got_item : {X : Type 0} (xs : List X) (i : ℕ) (x : X) → i < length xs → x ≡ get_or xs i x → slice_get xs i ≡ Some x
got_item [] i x lt is = absurd (omega (arith, lt))
got_item (y ∷ ys) zero x lt is = ap Some (sym is)
got_item (y ∷ ys) (suc i) x lt is = got_item ys i x (omega (arith, lt)) is

pub take_next : {X : Type 0} (xs : List X) (i : ℕ) (x : X) → i < length xs → x ≡ get_or xs i x → take (i + 1) xs ≡ take i xs ++ x ∷ []
take_next [] i x lt is = absurd (omega (arith, lt))
take_next (y ∷ ys) zero x lt is = ap (λ z. z ∷ []) (sym is)
take_next (y ∷ ys) (suc i) x lt is =
    let e : suc i + 1 ≡ suc (i + 1) = omega arith in
    ap (λ (k : ℕ). take k (y ∷ ys)) e ∙ ap (λ zs. y ∷ zs) (take_next ys i x (omega (arith, lt)) is)
