-- How many bytes the sectors of arenas have, and the arenas that were read.
use Rattle.std.proofs.Common.{◌≡◌, ◌≢◌, ℕ, zero, suc, ◌+◌, ◌*◌, ◌/◌, ◌≤◌, List, [], ◌∷◌, ◌++◌, length, map, drop, replicate, None, Result, Ok, Err, refl, sym, ap, ◌∙◌, subst, inl, inr, arith}
use Rattle.std.specs.Prelude.{IfOk, sum, sum_by}
use Rattle.std.proofs.Math.Nat.{mul-le-mul}
use Rattle.std.proofs.lemmas.List.Sums.{sum_by-cons}
use Rattle.arena_layout.specs.declared.layout.Layout.{Layout}
use Rattle.arena_layout.specs.Layout.{IsLayout}
use Rattle.arena_open.specs.declared.opened.Opened.{Opened}
use Rattle.arena_open.specs.declared.chain_refused.ChainRefused.{ChainRefused}
use Rattle.arena_open.specs.Chain.{Link, chain_answer, state_at}
use Rattle.arena_open.specs.ChainCells.{sizes_of}
use Rattle.arena_open.specs.Reading.{opening}
use Rattle.arena_open.proofs.Apart.{ordered}
use Rattle.arena_open.proofs.Joined.{Joined}
use Rattle.sector_namespaces.proofs.Views.{some_words}
use Rattle.namespace_bytes.specs.Putting.{AreAll, Linked, link_bytes}

-- ---- one arena

pub bytes_fit : (l : Layout) → IsLayout l → l.external * l.sector ≤ 8 * (l.size / 8)
bytes_fit l ok =
    let product : l.external * l.sector ≤ l.internal * l.inner = mul-le-mul (let a : l.external ≤ l.internal = omega (arith, ok.internal_is) in a) ok.inner_enough in
    omega (arith, product, ok.after_data, ok.map_whole, ordered l ok)

-- ---- all arenas

sum_more : (n size : ℕ) (sizes : List ℕ) → sum (replicate n size ++ sizes) ≡ n * size + sum sizes
sum_more zero size sizes = omega arith
sum_more (suc n) size sizes = omega (arith, sum_by-cons (λ (x : ℕ). x) size (replicate n size ++ sizes), sum_more n size sizes)

pub sum_sizes : (words : List ℕ) (links : List Link) → sum (sizes_of (map (state_at words) links)) ≡ sum_by link_bytes links
unfolding sizes_of
sum_sizes words [] = refl
sum_sizes words (link ∷ links) =
    sum_more link.opened.info.layout.external link.opened.info.layout.sector (sizes_of (map (state_at words) links))
    ∙ ap (λ (k : ℕ). link_bytes link + k) (sum_sizes words links) ∙ sym (sum_by-cons link_bytes link links)

-- ---- arenas that were read

pub joined_linked : (links : List Link) (words parent : List ℕ) (at end : ℕ) (opened : Opened) → Joined words parent at links end → end ≤ length words → opening (drop end words) parent ≡ Ok opened → opened.info.next ≡ 0
    → Linked words parent at (links ++ record { at = end; opened = opened } ∷ [])
joined_linked [] words parent at end opened j le is none = (
  sym j,
  omega (arith, j, le),
  ap (λ (p : ℕ). opening (drop p words) parent) j ∙ is,
  inl (none, refl),
)
joined_linked (link ∷ links) words parent at end opened j le is none =
    (j.0, j.1, j.2, inr (j.3, joined_linked links words parent (at + link.opened.info.next / 8) end opened j.4 le is none))

pub all_of : {L : Type 0} (view : L → List Link) (words uuid : List ℕ) (first : ℕ) (r : Result L ChainRefused) → first ≡ 0 → length words ≢ 0
    → IfOk r (λ links. Ok (map (state_at words) (view links)) ≡ chain_answer None words uuid first) → IfOk r (λ links. Linked words uuid first (view links)) → IfOk r (λ links. AreAll words uuid (view links))
all_of view words uuid first (Ok links) is some read linked = record {
  read = some_words words uuid some ∙ sym (read ∙ ap (chain_answer None words uuid) is);
  linked = subst (λ (p : ℕ). Linked words uuid p (view links)) is linked;
}
all_of view words uuid first (Err e) is some read linked = tt
