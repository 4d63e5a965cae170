-- The arenas of one row come to their namespaces.
use Rattle.std.proofs.Common.{◌≡◌, ℕ, suc, ◌<◌, ◌≤◌, List, [], ◌∷◌, ◌++◌, length, length-append, get_or, map, take, drop, sym, ap, ◌∙◌, arith, append_assoc, append-nil}
use Rattle.std.specs.Prelude.{Vec}
use mathlib.Core.List.{map-append}
use Rattle.std.proofs.lemmas.List.{length-map, length-take-le, take-append-drop}
use Rattle.std.proofs.Math.Seq.{drop-cons, take-suc}
use Rattle.session_account.specs.Serving.{Serving}
use Rattle.session_service.specs.declared.namespaces.NamespaceArenas.{NamespaceArenas}
use Rattle.session_service.specs.Namespaces.{arenas_in, serving_at, servings_at, shape_as}
use Rattle.session_service.specs.Ran.{in_row}

row_more : {X Z : Type 0} (vs : List (Vec X Z)) (v : Vec X Z) → in_row (vs ++ v ∷ []) ≡ in_row vs ++ v.items
row_more [] v = append-nil v.items
row_more (x ∷ vs) v = ap (λ cs. x.items ++ cs) (row_more vs v) ∙ sym (append_assoc x.items (in_row vs) v.items)

module _ {X Z : Type 0} (places : List NamespaceArenas) (j : ℕ) (p : NamespaceArenas) (lt : j < length places) (is : p ≡ get_or places j p) (row : List X) (vs vs' : List (Vec X Z)) (v : Vec X Z) (rest behind : List X) (pushed : vs' ≡ vs ++ v ∷ [])
    (front : v.items ≡ take (length p.arenas.items) rest) (back : behind ≡ drop (length p.arenas.items) rest) where
  places_more : servings_at (take (suc j) places) ≡ servings_at (take j places) ++ serving_at p ∷ []
  places_more = ap servings_at (take-suc places j p lt ∙ ap (λ x. take j places ++ x ∷ []) (sym is)) ∙ map-append serving_at (take j places) (p ∷ [])

  places_left : servings_at (drop j places) ≡ serving_at p ∷ servings_at (drop (suc j) places)
  places_left = ap servings_at (drop-cons places j p lt ∙ ap (λ x. x ∷ drop (suc j) places) (sym is))

  pub row_still : in_row vs ++ rest ≡ row → in_row vs' ++ behind ≡ row
  row_still so_far =
      ap (λ xs. in_row xs ++ behind) pushed ∙ ap (λ cs. cs ++ behind) (row_more vs v) ∙ append_assoc (in_row vs) v.items behind
      ∙ (λ i. in_row vs ++ (front i ++ back i)) ∙ ap (λ cs. in_row vs ++ cs) (take-append-drop (length p.arenas.items) rest) ∙ so_far

  pub left_still : length (arenas_in (servings_at (drop j places))) ≡ length rest → length (arenas_in (servings_at (drop (suc j) places))) ≡ length behind
  left_still left =
      let a = ap (λ (ss : List Serving). length (arenas_in ss)) places_left in
      let b = length-append (serving_at p).arenas (arenas_in (servings_at (drop (suc j) places))) in
      let c = length-map p.arenas.items shape_as in
      let d = ap (λ (cs : List X). length cs) back in
      let e = length-append (take (length p.arenas.items) rest) (drop (length p.arenas.items) rest) in
      let f = ap (λ (cs : List X). length cs) (take-append-drop (length p.arenas.items) rest) in
      let g = length-take-le (length p.arenas.items) rest (omega (arith, a, b, c, left)) in
      omega (arith, a, b, c, d, e, f, g, left)

  pub counts_still : map (λ c. length c.items) vs ≡ map (λ s. length s.arenas) (servings_at (take j places)) → length p.arenas.items ≤ length rest → map (λ c. length c.items) vs' ≡ map (λ s. length s.arenas) (servings_at (take (suc j) places))
  counts_still counts enough =
      let n : length v.items ≡ length (serving_at p).arenas = ap (λ (cs : List X). length cs) front ∙ length-take-le (length p.arenas.items) rest enough ∙ sym (length-map p.arenas.items shape_as) in
      ap (λ xs. map (λ c. length c.items) xs) pushed ∙ map-append (λ (c : Vec X Z). length c.items) vs (v ∷ []) ∙ (λ i. counts i ++ n i ∷ [])
      ∙ sym (ap (λ ss. map (λ (s : Serving). length s.arenas) ss) places_more ∙ map-append (λ (s : Serving). length s.arenas) (servings_at (take j places)) (serving_at p ∷ []))

  pub enough_left : length (arenas_in (servings_at (drop j places))) ≡ length rest → length p.arenas.items ≤ length rest
  enough_left left =
      let a = ap (λ (ss : List Serving). length (arenas_in ss)) places_left in
      let b = length-append (serving_at p).arenas (arenas_in (servings_at (drop (suc j) places))) in
      let c = length-map p.arenas.items shape_as in omega (arith, a, b, c, left)
