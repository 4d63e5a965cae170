-- The numbers and the calls of a load.
use Rattle.std.proofs.Common.{◌≡◌, ◌<◌, ◌≤◌, ℕ, suc, ◌+◌, ◌-◌, ◌*◌, ◌/◌, ◌^◌, ◌%◌, List, [], ◌∷◌, ◌++◌, subst, ◌∙◌, arith}
use Rattle.std.proofs.Math.Nat.{div-mul-le_self, mod-add-mod, mul-le-mul_right, one-mul, suc-mul}
use Rattle.std.proofs.lemmas.Nat.{le-div}
use Rattle.std.proofs.lemmas.List.{append_assoc}
use Rattle.nvd_media.specs.Choosers.{next_of}
use Rattle.session_script.specs.declared.script.Line.{Line}
use Rattle.session_script.specs.declared.script.SessionLines.{SessionLines}
use Rattle.session_script.specs.Load.{load_line, load_lines, load_session, load_sessions, number_after}

-- a product and a sum that each wrap
pub next_is : (x y z : ℕ) → y ≡ x * 6364136223846793005 % 2 ^ 64 → z ≡ (y + 1442695040888963407) % 2 ^ 64 → z ≡ next_of x
next_is x y z product total = total ∙ rw product (mod-add-mod (x * 6364136223846793005) (2 ^ 64) 1442695040888963407)

-- a session's sectors are among all
pub sector_fits : (r share sessions q : ℕ) → r < share → q < sessions → share * sessions < 2 ^ 64 → r * sessions + q < 2 ^ 64
sector_fits r share sessions q less inside fits =
    let most : suc r * sessions ≤ share * sessions = mul-le-mul_right sessions (omega arith) in
    let one_more : suc r * sessions ≡ r * sessions + sessions = suc-mul r sessions in omega arith

-- a session has a sector, and all sessions together have no more than there are
pub share_some : (sectors sessions : ℕ) → 0 < sessions → sessions ≤ sectors → 0 < sectors / sessions
share_some sectors sessions some room = le-div 1 sectors sessions some (rw (one-mul sessions) room)

pub share_fits : (sectors sessions : ℕ) → sectors < 2 ^ 64 → sectors / sessions * sessions < 2 ^ 64
share_fits sectors sessions fits = let less : sectors / sessions * sessions ≤ sectors = div-mul-le_self sectors sessions in omega arith

-- one call more
lines_more : (left next share sessions q x : ℕ) (done : List Line) (whole : List Line) → left ≡ suc next
    → done ++ load_lines left share sessions q x ≡ whole
    → (done ++ load_line share sessions q (next_of x) ∷ []) ++ load_lines next share sessions q (next_of x) ≡ whole
lines_more left next share sessions q x done whole is before_it =
    append_assoc done (load_line share sessions q (next_of x) ∷ []) (load_lines next share sessions q (next_of x))
    ∙ subst (λ n. done ++ load_lines n share sessions q x ≡ whole) is before_it

number_more : (left next x whole : ℕ) → left ≡ suc next → number_after left x ≡ whole → number_after next (next_of x) ≡ whole
number_more left next x whole is before_it = subst (λ n. number_after n x ≡ whole) is before_it

-- one session more
sessions_more : (left next : ℕ) (uuid : List ℕ) (calls share sessions q x : ℕ) (done : List SessionLines) (whole : List SessionLines) → left ≡ suc next
    → done ++ load_sessions left uuid calls share sessions q x ≡ whole
    → (done ++ load_session uuid calls share sessions q x ∷ []) ++ load_sessions next uuid calls share sessions (q + 1) (number_after calls x) ≡ whole
sessions_more left next uuid calls share sessions q x done whole is before_it =
    append_assoc done (load_session uuid calls share sessions q x ∷ []) (load_sessions next uuid calls share sessions (q + 1) (number_after calls x))
    ∙ subst (λ n. done ++ load_sessions n uuid calls share sessions q x ≡ whole) is before_it

pub lines_kept : (left share sessions q x next : ℕ) (done new : List Line) (call : Line) (whole : List Line) → 0 < left → next ≡ next_of x
    → call ≡ load_line share sessions q next → new ≡ done ++ call ∷ [] → done ++ load_lines left share sessions q x ≡ whole
    → new ++ load_lines (left - 1) share sessions q next ≡ whole
lines_kept left share sessions q x next done new call whole some is made added before_it =
    rw (added, made, is) (lines_more left (left - 1) share sessions q x done whole (omega arith) before_it)

pub number_kept : (left x next whole : ℕ) → 0 < left → next ≡ next_of x → number_after left x ≡ whole → number_after (left - 1) next ≡ whole
number_kept left x next whole some is before_it = rw is (number_more left (left - 1) x whole (omega arith) before_it)

pub sessions_kept : (uuid : List ℕ) (calls share sessions q x next : ℕ) (done new : List SessionLines) (session : SessionLines) (whole : List SessionLines) → q < sessions
    → next ≡ number_after calls x → session ≡ load_session uuid calls share sessions q x → new ≡ done ++ session ∷ []
    → done ++ load_sessions (sessions - q) uuid calls share sessions q x ≡ whole
    → new ++ load_sessions (sessions - (q + 1)) uuid calls share sessions (q + 1) next ≡ whole
sessions_kept uuid calls share sessions q x next done new session whole some is made added before_it =
    rw (added, made, is) (sessions_more (sessions - q) (sessions - (q + 1)) uuid calls share sessions q x done whole (omega arith) before_it)

pub ruleset generated = (next_is, sector_fits, share_some, share_fits)
