-- Bytes stored one after another.
use Rattle.std.proofs.Common.{◌≡◌, ℕ, List, ◌++◌, ap, ◌∙◌, append_assoc}

-- a part that was stored, and the part stored after it
on : (before now last part more : List ℕ) → now ≡ before ++ part → last ≡ now ++ more → last ≡ before ++ (part ++ more)
on before now last part more e f = f ∙ ap (λ (l : List ℕ). l ++ more) e ∙ append_assoc before part more

pub five : (before a b c d e p q r s t : List ℕ) → p ≡ before ++ a → q ≡ p ++ b → r ≡ q ++ c → s ≡ r ++ d → t ≡ s ++ e
    → t ≡ before ++ (a ++ (b ++ (c ++ (d ++ e))))
five before a b c d e p q r s t ep eq er es et =
    on before p t a (b ++ (c ++ (d ++ e))) ep (on p q t b (c ++ (d ++ e)) eq (on q r t c (d ++ e) er (on r s t d e es et)))

pub six : (before a b c d e f p q r s t u : List ℕ) → p ≡ before ++ a → q ≡ p ++ b → r ≡ q ++ c → s ≡ r ++ d → t ≡ s ++ e → u ≡ t ++ f
    → u ≡ before ++ (a ++ (b ++ (c ++ (d ++ (e ++ f)))))
six before a b c d e f p q r s t u ep eq er es et eu =
    on before p u a (b ++ (c ++ (d ++ (e ++ f)))) ep (five p b c d e f q r s t u eq er es et eu)
