-- The texts of sessions, one after another, and the calls of a script, session by session.
use Rattle.std.proofs.Common.{◌≡◌, ℕ, ◌+◌, ◌≤◌, List, [], ◌∷◌, ◌++◌, length, map, refl, sym, ap, ◌∙◌, append_assoc, append-nil, arith}
use Rattle.std.specs.Prelude.{Vec, cond, count_by}
use Rattle.std.proofs.lemmas.List.Sums.{sum_by-cons}
use Rattle.session_account.specs.declared.reply.Reply.{Reply}
use Rattle.session_script.specs.declared.script.Line.{Line}
use Rattle.session_script.specs.declared.script.Line.TheVariants.{Order, Read, Write}
use Rattle.session_service.specs.Ran.{texts_of}
use Rattle.session_texts.specs.Texts.{replies_text}
use Rattle.shell_serve.specs.Texts.{is_read, is_write, serve_text, session_line, session_text, sessions_text}

-- the text of sessions that have these lines, from session q on
unfoldable pub lines_text : ℕ → List (List ℕ) → List ℕ
lines_text q [] = []
lines_text q (own ∷ texts) = (session_line q ++ own) ++ lines_text (q + 1) texts

by_replies : (q : ℕ) (replies : List (List Reply)) → lines_text q (map replies_text replies) ≡ sessions_text q replies
unfolding lines_text sessions_text
by_replies q [] = refl
by_replies q (own ∷ replies) = ap (λ (text : List ℕ). session_text q own ++ text) (by_replies (q + 1) replies)

-- their lines are those of their replies
pub of_replies : {Z : Type 0} (texts : List (Vec ℕ Z)) (replies : List (List Reply)) (text : List ℕ) → text ≡ lines_text 0 (texts_of texts) → texts_of texts ≡ map replies_text replies → text ≡ serve_text replies
of_replies texts replies text said is = said ∙ ap (lines_text 0) is ∙ by_replies 0 replies

-- one more session
pub one_session : {Z : Type 0} (q : ℕ) (own : Vec ℕ Z) (rest before : List (Vec ℕ Z)) (said old new all : List ℕ) → before ≡ own ∷ rest → said ≡ session_line q ++ own.items → new ≡ old ++ said
    → old ++ lines_text q (texts_of before) ≡ all → new ++ lines_text (q + 1) (texts_of rest) ≡ all
unfolding lines_text
one_session {Z} q own rest before said old new all before_is said_is new_is is =
    ap (λ (text : List ℕ). text ++ lines_text (q + 1) (texts_of rest)) (new_is ∙ ap (λ (text : List ℕ). old ++ text) said_is)
    ∙ append_assoc old (session_line q ++ own.items) (lines_text (q + 1) (texts_of rest))
    ∙ ap (λ (vs : List (Vec ℕ Z)). old ++ lines_text q (texts_of vs)) (sym before_is)
    ∙ is

-- none is left
pub all_sessions : {Z : Type 0} (q : ℕ) (rest : List (Vec ℕ Z)) (text all : List ℕ) → length rest ≡ 0 → text ++ lines_text q (texts_of rest) ≡ all → text ≡ all
unfolding lines_text
all_sessions q [] text all none is = sym (append-nil text) ∙ is
all_sessions q (own ∷ rest) text all none is = absurd (omega (arith, none))

-- ---- the calls of a script

one_few : (line : Line) → cond (is_read line) 1 0 + cond (is_write line) 1 0 ≤ 1
one_few (Read sector) = omega arith
one_few (Write sector value) = omega arith
one_few (Order order) = omega arith

-- no call is both a read and a write
pub both_few : (lines : List Line) → count_by is_read lines + count_by is_write lines ≤ length lines
both_few [] = omega arith
both_few (line ∷ lines) =
    let more = both_few lines in
    let reads = sum_by-cons (λ (l : Line). cond (is_read l) 1 0) line lines in
    let writes = sum_by-cons (λ (l : Line). cond (is_write l) 1 0) line lines in
    let one = one_few line in
    omega (arith, more, reads, writes, one)
