-- The first of a list.
use Rattle.std.proofs.Common.{◌≡◌, Bool, true, false, not, ◌&&◌, ◌||◌, cond, List, [], ◌∷◌, Some, None, refl, sym, ap, ◌∙◌, inl, inr}
use Rattle.std.specs.Prelude.{find, filter, slice_get}
use Rattle.std.specs.List.{list_any, list_all}
use Rattle.std.proofs.lemmas.Bool.{cases_Bool}
use Rattle.nfit_reader.specs.declared.table.Mapping.{Mapping}
use Rattle.label_set.specs.declared.placed.Placed.{Placed}
use Rattle.label_set.specs.declared.placed.Field.{Field}
use Rattle.label_set.specs.Rules.{agrees_of, same_name, differ_in, agreed_name}

pub differ_by : (field : Field) (set : List Mapping) (labels : List Placed) (first : Placed) (r : Bool) → Some first ≡ slice_get labels 0
    → r ≡ list_any (λ q. not (agrees_of field set first q)) labels → r ≡ differ_in field set labels
differ_by field set [] first r e is = cc
differ_by field set (p ∷ labels) first r e is =
    let same : first ≡ p = cc in
    is ∙ ap (λ (f : Placed). list_any (λ q. not (agrees_of field set f q)) (p ∷ labels)) same

pub agreed_by : (labels : List Placed) (first : Placed) → Some first ≡ slice_get labels 0 → list_all (same_name first) labels ≡ true
    → Some first.label.name ≡ agreed_name labels
agreed_by [] first e all = cc
agreed_by (p ∷ labels) first e all =
    let same : first ≡ p = cc in
    let fine : list_all (same_name p) (p ∷ labels) ≡ true = ap (λ (f : Placed). list_all (same_name f) (p ∷ labels)) (sym same) ∙ all in
    ap (λ (f : Placed). Some f.label.name) same ∙ sym (ap (λ (b : Bool). cond b (Some p.label.name) None) fine)

pub not_agreed_by : (labels : List Placed) (first : Placed) → Some first ≡ slice_get labels 0 → list_all (same_name first) labels ≡ false
    → None ≡ agreed_name labels
not_agreed_by [] first e all = cc
not_agreed_by (p ∷ labels) first e all =
    let same : first ≡ p = cc in
    let fine : list_all (same_name p) (p ∷ labels) ≡ false = ap (λ (f : Placed). list_all (same_name f) (p ∷ labels)) (sym same) ∙ all in
    sym (ap (λ (b : Bool). cond b (Some p.label.name) None) fine)

-- ---- of the elements that pass a test

filtered_all : {X : Type 0} (test f : X → Bool) (xs : List X) → list_all f (filter test xs) ≡ list_all (λ x. not (test x) || f x) xs
filtered_all test f [] = refl
filtered_all test f (x ∷ xs) = elim (cases_Bool (test x)) [
  | inl passes ↦ rw passes (ap (λ (b : Bool). f x && b) (filtered_all test f xs))
  | inr fails ↦ rw fails (filtered_all test f xs)
]

first_of_filtered : {X : Type 0} (test : X → Bool) (xs : List X) → slice_get (filter test xs) 0 ≡ find test xs
first_of_filtered test [] = refl
first_of_filtered test (x ∷ xs) = elim (cases_Bool (test x)) [
  | inl passes ↦ rw passes refl
  | inr fails ↦ rw fails (first_of_filtered test xs)
]

pub agreed_where : (test : Placed → Bool) (labels : List Placed) (first : Placed) → Some first ≡ find test labels
    → list_all (λ q. not (test q) || same_name first q) labels ≡ true → Some first.label.name ≡ agreed_name (filter test labels)
agreed_where test labels first e all =
    agreed_by (filter test labels) first (e ∙ sym (first_of_filtered test labels)) (filtered_all test (same_name first) labels ∙ all)

pub not_agreed_where : (test : Placed → Bool) (labels : List Placed) (first : Placed) → Some first ≡ find test labels
    → list_all (λ q. not (test q) || same_name first q) labels ≡ false → None ≡ agreed_name (filter test labels)
not_agreed_where test labels first e all =
    not_agreed_by (filter test labels) first (e ∙ sym (first_of_filtered test labels)) (filtered_all test (same_name first) labels ∙ all)

none_agreed : (labels : List Placed) → None ≡ slice_get labels 0 → None ≡ agreed_name labels
none_agreed [] e = refl
none_agreed (p ∷ labels) e = cc

pub none_where : (test : Placed → Bool) (labels : List Placed) → None ≡ find test labels → None ≡ agreed_name (filter test labels)
none_where test labels e = none_agreed (filter test labels) (e ∙ sym (first_of_filtered test labels))
