-- Mappings by range, and ranges that are regions.
use Rattle.std.proofs.Common.{◌≡◌, ℕ, ◌+◌, ◌<◌, Bool, true, false, cond, not, eqb, ◌&&◌, List, [], ◌∷◌, ◌++◌, length, take, map, get_or, Option, Some, None, nat_cmp, refl, sym, ap, ◌∙◌, inl, inr, arith}
use Rattle.std.specs.Ordering.{is_eq}
use Rattle.std.specs.Option.{option_to_list}
use Rattle.std.specs.List.{list_any, filter, filter_map, cons_option}
use Rattle.std.proofs.lemmas.List.{take_more, append-nil}
use Rattle.std.proofs.lemmas.List.Elements.{filter_map-append, filter_more}
use Rattle.std.proofs.lemmas.Bool.{cases_Bool, eq-eqb, ne_eqb, cases_eq}
use Rattle.nfit_reader.specs.declared.structures.Structure.{Structure}
use Rattle.nfit_reader.specs.declared.structures.Link.{Link}
use Rattle.nfit_reader.specs.declared.structures.Range.{Range}
use Rattle.nfit_reader.specs.Table.{is_region, links_into, links_of, region_of}
use Rattle.nfit_reader.specs.Names.{region_where, items_of}
use Rattle.std.specs.Global.{Vec}
use Rattle.nfit_reader.proofs.Numbers.{is_eq-nat_cmp}

pub ruleset orders = (is_eq-nat_cmp)

-- a list with no matching element has none of that kind
pub list_any-filter : {A : Type 0} (p : A → Bool) (xs : List A) → not (eqb (length (filter p xs)) 0) ≡ list_any p xs
list_any-filter p [] = refl
list_any-filter p (x ∷ xs) = elim (cases_Bool (p x)) [
  | inl here ↦ let some : eqb (length (x ∷ filter p xs)) 0 ≡ false = ne_eqb (length (x ∷ filter p xs)) 0 (λ e. omega arith) in rw here (ap not some)
  | inr on ↦ rw on (list_any-filter p xs)
]

pub region_test : (structures : List Structure) (r : Range) (group : List Link) → group ≡ links_into structures r.index
    → (r.persistent && not (eqb (length group) 0)) ≡ is_region structures r
region_test structures r group e = ap (λ xs. r.persistent && not (eqb (length xs) 0)) e ∙ ap (λ b. r.persistent && b) (list_any-filter (λ m. eqb m.range r.index) (links_of structures))

-- ---- groups

-- one mapping more in its group
pub group_more : (f g h : ℕ → Option (Vec Link)) (links : List Link) (i : ℕ) (d : Link) (group : Vec Link) → i < length links
    → ((q : ℕ) → items_of (f q) ≡ filter (λ m. eqb m.range q) (take i links))
    → ((q : ℕ) → g q ≡ cond (eqb (get_or links i d).range q) None (f q))
    → group.items ≡ items_of (f (get_or links i d).range) ++ get_or links i d ∷ []
    → ((q : ℕ) → h q ≡ cond (is_eq (nat_cmp (get_or links i d).range q)) (Some group) (g q))
    → (q : ℕ) → items_of (h q) ≡ filter (λ m. eqb m.range q) (take (i + 1) links)
group_more f g h links i d group lt inv others is put q =
    let link = get_or links i d in
    let due = filter_more (λ m. eqb m.range q) links i d lt in
    let told : h q ≡ cond (eqb link.range q) (Some group) (g q) = put q ∙ ap (λ b. cond b (Some group) (g q)) (is_eq-nat_cmp link.range q) in
    elim (cases_eq link.range q) [
      | inl same ↦
          let e : eqb link.range q ≡ true = eq-eqb link.range q same in
          let here : h q ≡ Some group = told ∙ ap (λ b. cond b (Some group) (g q)) e in
          let old : items_of (f link.range) ≡ filter (λ m. eqb m.range q) (take i links) = ap (λ k. items_of (f k)) same ∙ inv q in
          ap items_of here ∙ is ∙ ap (λ ys. ys ++ link ∷ []) old ∙ sym (due ∙ ap (λ b. filter (λ m. eqb m.range q) (take i links) ++ cond b (link ∷ []) []) e)
      | inr other ↦
          let e : eqb link.range q ≡ false = ne_eqb link.range q other in
          let there : h q ≡ f q = told ∙ ap (λ b. cond b (Some group) (g q)) e ∙ others q ∙ ap (λ b. cond b None (f q)) e in
          ap items_of there ∙ inv q ∙ sym (due ∙ ap (λ b. filter (λ m. eqb m.range q) (take i links) ++ cond b (link ∷ []) []) e ∙ append-nil (filter (λ m. eqb m.range q) (take i links)))
    ]

-- ---- one item more

pub filter_map_more : {A B : Type 0} (h : A → Option B) (xs : List A) (i : ℕ) (d : A) → i < length xs
    → filter_map h (take (i + 1) xs) ≡ filter_map h (take i xs) ++ option_to_list (h (get_or xs i d))
filter_map_more h xs i d lt =
    ap (filter_map h) (take_more xs i d lt) ∙ filter_map-append h (take i xs) (get_or xs i d ∷ []) ∙ ap (λ ys. filter_map h (take i xs) ++ ys) (one (h (get_or xs i d)))
  where
    one : {B : Type 0} (o : Option B) → cons_option o [] ≡ option_to_list o
    one None = refl
    one (Some x) = refl

-- mapping ranges to regions selects the ranges that are regions
pub filter_map-region_where : (structures : List Structure) (ranges : List Range) → filter_map (region_where structures) ranges ≡ map (region_of structures) (filter (is_region structures) ranges)
unfolding region_where
filter_map-region_where structures [] = refl
filter_map-region_where structures (r ∷ ranges) = elim (cases_Bool (is_region structures r)) [
  | inl yes' ↦ rw yes' (ap (λ xs. region_of structures r ∷ xs) (filter_map-region_where structures ranges))
  | inr no' ↦ rw no' (filter_map-region_where structures ranges)
]
