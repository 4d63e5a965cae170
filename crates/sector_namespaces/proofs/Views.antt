-- The words of a namespace over contents of which no word is pending.
use Rattle.std.proofs.Common.{◌≡◌, ◌≢◌, ℕ, zero, suc, ◌+◌, ◌*◌, ◌/◌, ◌%◌, List, [], ◌∷◌, length, map, get_or, replicate, Option, Some, None, Err, refl, sym, ap, ◌∙◌, inl, inr, arith}
use Rattle.std.specs.List.{All, range_with_len}
use Rattle.std.proofs.lemmas.Bool.{eq-eqb, ne_eqb, cases_lt}
use Rattle.std.proofs.lemmas.List.{get_or_past}
use Rattle.std.proofs.lemmas.List.Elements.{All-get_or}
use Rattle.std.proofs.lemmas.List.FromFn.{length-map-range_with_len}
use Rattle.std.proofs.lemmas.Nat.{div-add-mod', mod-mul-add}
use Rattle.cut_words.specs.Words.{Words, settled}
use Rattle.cut_words.proofs.Guarded.{settled_none}
use Rattle.arena_layout.specs.declared.info.InfoFault.TheVariants as info
use Rattle.arena_open.specs.declared.refused.OpenRefused.TheVariants as refused
use Rattle.arena_open.specs.Writes.{IsSettled}
use Rattle.arena_open.specs.Chain.{chain_answer}
use Rattle.power_cut.specs.Namespace.{Namespace, words_of, count_of, byte_at, place_of, row_of, stored_at, stored_by}
use Rattle.sector_namespaces.specs.View.{opened_view}

-- ---- how many words there are

pub length_view : (n : Namespace) → length (words_of n).kept ≡ count_of n
unfolding words_of
length_view n = length-map-range_with_len _ 0 (count_of n)

-- a multiple of a multiple of 4,096 is one
pub pages_of : (raw unit count : ℕ) → unit ≡ 4096 * (count + 1) → raw % unit ≡ 0 → raw ≡ 4096 * (raw / 4096)
pages_of raw unit count is e =
    let whole : raw % (4096 * (count + 1)) ≡ 0 = ap (λ (u : ℕ). raw % u) (sym is) ∙ e in
    let back : raw ≡ raw / (4096 * (count + 1)) * (count + 1) * 4096 + 0 = omega (arith, div-add-mod' raw (4096 * (count + 1))) in
    let rest : raw % 4096 ≡ 0 = ap (λ (k : ℕ). k % 4096) back ∙ mod-mul-add (raw / (4096 * (count + 1)) * (count + 1)) 4096 0 (omega arith) in
    omega (arith, rest)

-- so the words of so many mappings are whole pages
pub page_words : (ways raw : ℕ) → raw ≡ 4096 * (raw / 4096) → ways * raw / 8 % 512 ≡ 0
page_words ways raw is =
    let product : ways * raw ≡ 4096 * (ways * (raw / 4096)) = ap (λ (k : ℕ). ways * k) is ∙ omega arith in
    omega (arith, product)

-- ---- none is pending

none_here : (w : Words) (k : ℕ) → w ≡ settled w.kept → get_or w.stored k None ≡ None
none_here w k e = ap (λ (v : Words). get_or v.stored k None) e ∙ settled_none (length w.kept) k

none_at : (modules : List Words) (which address : ℕ) → All (λ w. w ≡ settled w.kept) modules → stored_at modules which address ≡ None
none_at modules which address all = elim (cases_lt which (length modules)) [
  | inl lt ↦ none_here (row_of modules which) (address / 8) (All-get_or (λ w. w ≡ settled w.kept) modules which (record { kept = []; stored = [] }) lt all)
  | inr past ↦ ap (λ (w : Words). get_or w.stored (address / 8) None) (get_or_past modules which (record { kept = []; stored = [] }) past)
]

none_by : (modules : List Words) (place : Option (ℕ × ℕ)) → All (λ w. w ≡ settled w.kept) modules → stored_by modules place ≡ None
none_by modules None all = refl
none_by modules (Some place) all = none_at modules place.0 place.1 all

none_mapped : (f : ℕ → Option ℕ) (a n : ℕ) → ((i : ℕ) → f i ≡ None) → map f (range_with_len a n) ≡ replicate n None
none_mapped f a zero e = refl
none_mapped f a (suc n) e = λ i. e a i ∷ none_mapped f (a + 1) n e i

pub view_settled : (n : Namespace) → All (λ w. w ≡ settled w.kept) n.modules → IsSettled (words_of n)
unfolding words_of
view_settled n all =
    let stored : map (λ i. stored_by n.modules (place_of n.set (byte_at n i))) (range_with_len 0 (count_of n)) ≡ replicate (count_of n) None =
    none_mapped (λ i. stored_by n.modules (place_of n.set (byte_at n i))) 0 (count_of n) (λ i. none_by n.modules (place_of n.set (byte_at n i)) all) in
    λ i. record { kept = (words_of n).kept; stored = (stored ∙ ap (λ (k : ℕ). replicate {A = Option ℕ} k None) (sym (length_view n))) i }

-- ---- what they open as

pub no_words : (words uuid : List ℕ) → length words ≡ 0 → opened_view words uuid ≡ Err (record { arena = 0; fault = refused.Info info.Signature })
unfolding opened_view
no_words words uuid e = rw (eq-eqb (length words) 0 e) refl

pub some_words : (words uuid : List ℕ) → length words ≢ 0 → opened_view words uuid ≡ chain_answer None words uuid 0
unfolding opened_view
some_words words uuid e = rw (ne_eqb (length words) 0 e) refl
