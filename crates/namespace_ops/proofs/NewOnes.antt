-- The labels of a new namespace.
use Rattle.std.proofs.Common.{◌≡◌, ℕ, zero, suc, ◌+◌, ◌<◌, ◌^◌, List, [], ◌∷◌, ◌++◌, length, drop, map, get_or, sym, ap, ◌∙◌, subst, arith, add-one, drop-cons}
use Rattle.std.specs.List.{AllByRecursion, enumerate_from}
use Rattle.std.proofs.lemmas.List.{map-append, append_assoc}
use Rattle.nfit_reader.specs.declared.table.Mapping.{Mapping}
use Rattle.label_codec.specs.declared.label.Label.{Label}
use Rattle.label_set.specs.declared.placed.Placed.{Placed}
use Rattle.namespace_ops.specs.Plans.{pairs_of}

-- a number that is the start of a mapping, and an offset
pub start_fits : (set : List Mapping) (k n offset : ℕ) → k < length set → ((m : Mapping) → n ≡ (get_or set k m).start) → ((m : Mapping) → (get_or set k m).start + offset < 2 ^ 64) → n + offset < 2 ^ 64
start_fits [] k n offset lt is fits = absurd (omega arith)
start_fits (m ∷ ms) k n offset lt is fits = subst (λ (x : ℕ). x + offset < 2 ^ 64) (sym (is m)) (fits m)

pub all_at : (P : Mapping → Type 0) (set : List Mapping) (k : ℕ) (m : Mapping) → AllByRecursion P set → k < length set → P (get_or set k m)
all_at P [] k m all lt = absurd (omega arith)
all_at P (x ∷ xs) zero m (one, rest) lt = one
all_at P (x ∷ xs) (suc k) m (one, rest) lt = all_at P xs k m rest (omega arith)

-- one label more
pub one_more : (f : ℕ × Mapping → ℕ × Label) (set : List Mapping) (k : ℕ) (own own' : List Placed) (p : Placed) (all : List (ℕ × Label)) → k < length set → own' ≡ own ++ p ∷ []
    → ((m : Mapping) → (p.«module», p.label) ≡ f (k, get_or set k m))
    → pairs_of own ++ map f (enumerate_from k (drop k set)) ≡ all → pairs_of own' ++ map f (enumerate_from (k + 1) (drop (k + 1) set)) ≡ all
one_more f [] k own own' p all lt pushed is so_far = absurd (omega arith)
one_more f (m ∷ ms) k own own' p all lt pushed is so_far =
    let set : List Mapping = m ∷ ms in
    let rest : drop k set ≡ get_or set k m ∷ drop (k + 1) set = rw add-one (drop-cons set k m lt) in
    ap (λ (ps : List Placed). pairs_of ps ++ map f (enumerate_from (k + 1) (drop (k + 1) set))) pushed
    ∙ ap (λ (qs : List (ℕ × Label)). qs ++ map f (enumerate_from (k + 1) (drop (k + 1) set))) (map-append (λ (q : Placed). (q.«module», q.label)) own (p ∷ []))
    ∙ append_assoc (pairs_of own) ((p.«module», p.label) ∷ []) (map f (enumerate_from (k + 1) (drop (k + 1) set)))
    ∙ ap (λ (q : ℕ × Label). pairs_of own ++ q ∷ map f (enumerate_from (k + 1) (drop (k + 1) set))) (is m)
    ∙ ap (λ (ms' : List Mapping). pairs_of own ++ map f (enumerate_from k ms')) (sym rest) ∙ so_far
