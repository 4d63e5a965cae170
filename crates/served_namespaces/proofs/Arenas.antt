-- The arenas of a namespace stand one behind another, and their pending moves are made in their own words.
use Rattle.std.proofs.Common.{◌≡◌, ℕ, zero, suc, ◌+◌, ◌/◌, ◌≤◌, List, [], ◌∷◌, length, ap, inl, inr, arith, take, get_or, map, refl, ◌<◌}
use Rattle.std.proofs.lemmas.List.Sums.{sum_by-cons}
use Rattle.arena_open.specs.declared.state.ArenaState.{ArenaState}
use Rattle.arena_open.specs.Chain.{found_again}
use Rattle.arena_open.proofs.Own.{Lies, lies}
use Rattle.sector_namespaces.specs.Changing.{start_of}
use Rattle.sector_namespaces.proofs.Chains.{Walk}
use Rattle.served_namespaces.specs.Places.{arena_words}

abbrev pub own_words : ArenaState → ℕ
own_words state = state.info.layout.size / 8

pub words_cons : (state : ArenaState) (states : List ArenaState) → arena_words (state ∷ states) ≡ own_words state + arena_words states
words_cons state states = sum_by-cons own_words state states

-- all of them lie in the words
pub all_inside : (words parent : List ℕ) (at : ℕ) (states : List ArenaState) → Walk words parent at states → at + arena_words states ≤ length words
all_inside words parent at [] w = absurd w
all_inside words parent at (state ∷ states) w =
    let l : Lies (length words) at w.0 = lies words parent at w.0 w.3 w.1 in
    let size : own_words state ≡ w.0.info.layout.size / 8 = ap own_words w.2 in
    elim w.4 [
      | inl last ↦ omega (arith, words_cons state states, size, l.inside, ap arena_words last.1)
      | inr more ↦ omega (arith, words_cons state states, size, l.next_is more.0, all_inside words parent (at + w.0.info.next / 8) states more.1)
    ]

-- the same arenas, opened again
pub again_words : (states : List ArenaState) → arena_words (map found_again states) ≡ arena_words states
again_words [] = refl
again_words (state ∷ states) = omega (arith, words_cons state states, words_cons (found_again state) (map found_again states), again_words states)

-- each ends within them
pub ends_inside : (words parent : List ℕ) (at : ℕ) (states : List ArenaState) (k : ℕ) (d : ArenaState) → Walk words parent at states → k < length states
    → start_of (take k states) + own_words (get_or states k d) ≤ arena_words states
ends_inside words parent at [] k d w lt = absurd w
ends_inside words parent at (state ∷ states) zero d w lt = omega (arith, words_cons state states)
ends_inside words parent at (state ∷ states) (suc k) d w lt =
    let l : Lies (length words) at w.0 = lies words parent at w.0 w.3 w.1 in
    let size : own_words state ≡ w.0.info.layout.size / 8 = ap own_words w.2 in
    let next : state.info.next / 8 ≡ w.0.info.next / 8 = ap (λ (s : ArenaState). s.info.next / 8) w.2 in
    let cons : start_of (state ∷ take k states) ≡ state.info.next / 8 + start_of (take k states) = sum_by-cons (λ (s : ArenaState). s.info.next / 8) state (take k states) in
    elim w.4 [
      | inl last ↦ absurd (omega (arith, lt, ap length last.1))
      | inr more ↦
          let rest = ends_inside words parent (at + w.0.info.next / 8) states k d more.1 (omega (arith, lt)) in
          omega (arith, words_cons state states, size, next, cons, l.next_is more.0, rest)
    ]
