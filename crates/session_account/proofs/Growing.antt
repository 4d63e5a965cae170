-- One reply more is one call more.
use Rattle.std.proofs.Common.{◌≡◌, ℕ, suc, ◌+◌, ◌<◌, List, [], ◌∷◌, ◌++◌, length, get_or, Option, None, ap, ◌∙◌, arith}
use Rattle.session_script.specs.declared.script.Line.{Line}
use Rattle.session_account.specs.declared.reply.Reply.{Reply}
use Rattle.session_account.specs.Made.{Made, made, made_from, on_from, on_after}
use Rattle.session_account.specs.Parts.{MadeGrows}

pub grows_from : (call : ℕ) (on : Option (List ℕ)) (lines : List Line) (replies : List Reply) (line : Line) (answer : Reply) → length replies < length lines → get_or lines (length replies) line ≡ line
    → made_from call on lines (replies ++ answer ∷ []) ≡ made_from call on lines replies ++ made (call + length replies) (on_from on lines replies) line answer ∷ []
grows_from call on [] replies line answer h is = absurd (omega arith)
grows_from call on (l ∷ ls) [] line answer h is = let z : call ≡ call + 0 = omega arith in λ i. made (z i) on (is i) answer ∷ []
grows_from call on (l ∷ ls) (r ∷ rs) line answer h is =
    let rest = grows_from (call + 1) (on_after on l r) ls rs line answer (omega arith) is in
    let n : call + 1 + length rs ≡ call + suc (length rs) = omega arith in
    ap (λ (xs : List Made). made call on l r ∷ xs) (rest ∙ ap (λ (n : ℕ). made_from (call + 1) (on_after on l r) ls rs ++ made n (on_from (on_after on l r) ls rs) line answer ∷ []) n)

pub made_grows : MadeGrows
made_grows lines replies line answer h is =
    let n : 0 + length replies ≡ length replies = omega arith in
    grows_from 0 None lines replies line answer h is ∙ ap (λ (n : ℕ). made_from 0 None lines replies ++ made n (on_from None lines replies) line answer ∷ []) n
