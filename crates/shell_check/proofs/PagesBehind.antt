-- Pages of a namespace as pages of what begins at one of its words.
use Rattle.std.proofs.Common.{◌≡◌, ℕ, ◌+◌, ◌-◌, ◌≤◌, List, length, take, drop, ap, ◌∙◌, sym, arith}
use Rattle.std.proofs.lemmas.List.{drop-drop, length-drop}
use Rattle.cut_words.specs.WordBytes.{bytes_of}
use Rattle.arena_check.specs.Check.{page_at}

pub page_behind : (words : List ℕ) (at word : ℕ) → page_at (at + word) words ≡ page_at word (drop at words)
page_behind words at word =
    ap (λ (ws : List ℕ). bytes_of (take 512 ws)) (sym (drop-drop word at words))

-- the last one
pub last_page : (words : List ℕ) (at count : ℕ) → length words ≡ count → at + 512 ≤ count → page_at (count - 512) words ≡ page_at (length (drop at words) - 512) (drop at words)
last_page words at count is fits =
    let split : count - 512 ≡ at + (length (drop at words) - 512) = omega (arith, is, fits, length-drop at words) in
    ap (λ (n : ℕ). page_at n words) split ∙ page_behind words at (length (drop at words) - 512)
