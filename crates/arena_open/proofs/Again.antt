-- Running recovery again.
use Rattle.std.proofs.Common.{◌≡◌, ℕ, zero, suc, ◌+◌, ◌/◌, List, [], ◌∷◌, length, take, drop, Result, Ok, refl, sym, ap, ◌∙◌, subst, inl, inr, arith}
use Rattle.std.proofs.Math.ListN.{set}
use Rattle.std.proofs.lemmas.List.{drop-set-add, drop_all, take_all, take-map}
use Rattle.cut_words.specs.Words.{IsLeftAfter}
use Rattle.arena_layout.specs.declared.layout.Layout.{Layout}
use Rattle.flog.specs.declared.half.Half.{Half}
use Rattle.arena_open.specs.declared.opened.Opened.{Opened}
use Rattle.arena_open.specs.declared.refused.OpenRefused.{OpenRefused}
use Rattle.arena_open.specs.Writes.{Write, written_over}
use Rattle.arena_open.specs.Reading.{opening}
use Rattle.arena_open.specs.Moves.{move_write, move_writes, shifted, recovered, opened_steps, steps_if, with_made, with_all_made, IsPartRecovered, RecoveryAgain}
use Rattle.arena_open.proofs.Cuts.{writes_cut}
use Rattle.arena_open.proofs.Opening.{parts}
use Rattle.arena_open.proofs.Turns.{length_moves}
use Rattle.arena_open.proofs.Rewritten.{with_rest, opens_next}

abbrev after_some : Layout → List ℕ → List Half → ℕ → List ℕ
after_some l words moves k = written_over words (take k (move_writes l words moves))

-- with some of the moves completed, the others are pending
pub opens_part : (moves : List Half) (words parent : List ℕ) (opened : Opened) (k : ℕ) → opening words parent ≡ Ok opened → opened.moves ≡ moves
    → opening (after_some opened.info.layout words moves k) parent ≡ Ok (with_rest opened (drop k moves))
opens_part moves words parent opened zero is listed = is ∙ ap (λ (o : Opened). Ok o) (λ i. with_rest opened (listed i))
opens_part [] words parent opened (suc k) is listed = is ∙ ap (λ (o : Opened). Ok o) (λ i. with_rest opened (listed i))
opens_part (half ∷ moves) words parent opened (suc k) is listed =
    opens_part moves (set words (move_write opened.info.layout words half).place (move_write opened.info.layout words half).value) parent (with_rest opened moves) k
    (opens_next words parent opened half moves (parts words parent opened is) listed) refl

-- and completing these yields the same words
pub ends_same : (moves : List Half) (l : Layout) (words : List ℕ) (k : ℕ)
    → written_over (after_some l words moves k) (move_writes l (after_some l words moves k) (drop k moves)) ≡ written_over words (move_writes l words moves)
ends_same moves l words zero = refl
ends_same [] l words (suc k) = refl
ends_same (half ∷ moves) l words (suc k) = ends_same moves l (set words (move_write l words half).place (move_write l words half).value) k

-- ---- in a space

pub drop_shifted : (at : ℕ) (old : List ℕ) (writes : List Write) → drop at (written_over old (shifted at writes)) ≡ written_over (drop at old) writes
drop_shifted at old [] = refl
drop_shifted at old (w ∷ writes) =
    drop_shifted at (set old (at + w.place) w.value) writes ∙ ap (λ (ws : List ℕ). written_over ws writes) (drop-set-add at old w.place w.value)

part_by : (at : ℕ) (old parent : List ℕ) (opened : Opened) (left : List ℕ) (k : ℕ) → opening (drop at old) parent ≡ Ok opened
    → left ≡ written_over old (take k (shifted at (move_writes opened.info.layout (drop at old) opened.moves))) → IsPartRecovered (drop at old) parent (drop at left) opened
part_by at old parent opened left k is left_is =
    let ws : List Write = move_writes opened.info.layout (drop at old) opened.moves in
    let here : drop at left ≡ after_some opened.info.layout (drop at old) opened.moves k =
    ap (drop at) (left_is ∙ ap (written_over old) (take-map (λ w. record { place = at + w.place; value = w.value }) k (move_writes opened.info.layout (drop at old) opened.moves)))
    ∙ drop_shifted at old (take k (move_writes opened.info.layout (drop at old) opened.moves)) in
    record {
      count = k;
      opens = ap (λ (w : List ℕ). opening w parent) here ∙ opens_part opened.moves (drop at old) parent opened k is refl;
      ends = ap (λ (w : List ℕ). recovered w (with_made k opened)) here ∙ ends_same opened.moves opened.info.layout (drop at old) k;
    }

pub recovery_again : RecoveryAgain
recovery_again at old parent opened n left is cut =
    let cut' : IsLeftAfter old (opened_steps at (drop at old) opened) n left =
    subst (λ (o : Result Opened OpenRefused). IsLeftAfter old (steps_if at (drop at old) o) n left) is cut in
    elim (writes_cut old (shifted at (move_writes opened.info.layout (drop at old) opened.moves)) n left cut') [
      | inl e ↦ part_by at old parent opened left (n / 2) is e
      | inr e ↦ part_by at old parent opened left (n / 2 + 1) is e
    ]

-- ---- after all of it

pub opens_all : (words parent : List ℕ) (opened : Opened) → opening words parent ≡ Ok opened → opening (recovered words opened) parent ≡ Ok (with_all_made opened)
opens_all words parent opened is =
    ap (λ (ws : List Write). opening (written_over words ws) parent)
    (sym (take_all (length opened.moves) (move_writes opened.info.layout words opened.moves) (omega (arith, length_moves opened.info.layout words opened.moves))))
    ∙ opens_part opened.moves words parent opened (length opened.moves) is refl
    ∙ ap (λ (ms : List Half). Ok (with_rest opened ms)) (drop_all (length opened.moves) opened.moves (omega arith))
