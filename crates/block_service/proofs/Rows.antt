-- What closed sessions know, row by row.
use Rattle.std.proofs.Common.{◌≡◌, ℕ, zero, suc, ◌+◌, ◌<◌, ◌≤◌, List, [], ◌∷◌, ◌++◌, length, length-append, map, slice_get, Some, None, sym, refl, ap, ◌∙◌, subst, arith}
use Rattle.std.specs.Prelude.{All}
use Rattle.std.specs.List.{AllByRecursion}
use mathlib.Core.Option.{some, some-injective, some-ne-none}
use lib.ListN.{get_elem?}
use Rattle.arena_open.specs.declared.state.ArenaState.{ArenaState}
use Rattle.lane_core.specs.declared.arena_words.ArenaWords.{ArenaWords}
use Rattle.lane_core.specs.declared.in_call.InCall.{InCall}
use Rattle.session_parts.specs.Parts.{part}
use Rattle.lane_calls.specs.declared.session.Sectors.{Sectors}
use Rattle.lane_calls.specs.declared.session.Session.{Session}
use Rattle.lane_calls.specs.Sessions.{Know, Parts}
use Rattle.lane_sessions.specs.Ending.{AreArenasLeft, KnowAll}
use Rattle.lane_sessions.specs.Left.{IsArenaLeft}
use Rattle.lane_sessions.specs.Making.{new_part}
use Rattle.lane_sessions.proofs.Columns.{as_elem}
use Rattle.bio_queue.specs.declared.bio.Completed.{Completed}
use Rattle.bio_queue.specs.Serving.{HasMade}
use Rattle.bio_queue.specs.Standing.{stands_of}
use Rattle.block_service.specs.Served.{known_by}
use Rattle.block_service.specs.Sessions.{AreOver, AreRested}
use Rattle.block_service.proofs.Counts.{inside, there}
use Rattle.block_service.proofs.Sessions.{all_of}

known_there : (rows : List (List Completed)) (q : ℕ) (cs : List Completed) → get_elem? rows q ≡ some cs → known_by rows q ≡ part (stands_of cs) []
known_there [] q cs e = absurd (some-ne-none cs (sym e))
known_there (x ∷ rows) zero cs e = ap (λ (l : List Completed). part (stands_of l) []) (some-injective x cs e)
known_there (x ∷ rows) (suc q) cs e = known_there rows q cs e

-- each session of a row made what is at its place
abbrev MadeEach : Sectors → List (List Completed) → List Session → Type 0
MadeEach s rows ys = (q : ℕ) (y : Session) (cs : List Completed) → get_elem? ys q ≡ some y → get_elem? rows q ≡ some cs → HasMade s (stands_of cs) y

module _ (s : Sectors) (past : Parts) where
  abbrev parts_at : (rows : List (List Completed)) (ys : List Session) → MadeEach s rows ys → ℕ → Parts
  parts_at rows [] each q = past
  parts_at [] (y ∷ ys) each q = past
  parts_at (cs ∷ rows) (y ∷ ys) each zero = (each 0 y cs refl refl).parts
  parts_at (cs ∷ rows) (y ∷ ys) each (suc q) = parts_at rows ys (λ j z ds e f. each (suc j) z ds e f) q

  knows_there : (rows : List (List Completed)) (ys : List Session) (each : MadeEach s rows ys) (q : ℕ) (y : Session) (cs : List Completed) → get_elem? ys q ≡ some y → get_elem? rows q ≡ some cs
      → Know s y.number (parts_at rows ys each q) y × ((parts_at rows ys each q 0).mine ≡ part (stands_of cs) [])
  knows_there rows [] each q y cs e f = absurd (some-ne-none y (sym e))
  knows_there [] (z ∷ ys) each q y cs e f = absurd (some-ne-none cs (sym f))
  knows_there (ds ∷ rows) (z ∷ ys) each zero y cs e f =
      let made = each 0 z ds refl refl in
      (subst (λ (x : Session). Know s x.number made.parts x) (some-injective z y e) made.know, made.mine ∙ ap (λ (l : List Completed). part (stands_of l) []) (some-injective ds cs f))
  knows_there (ds ∷ rows) (z ∷ ys) each (suc q) y cs e f = knows_there rows ys (λ j x l g h. each (suc j) x l g h) q y cs e f

module _ (s : Sectors) (state : ArenaState) (rows : List (List Completed)) (xs : List Session) (over : AreOver s rows xs) where
  -- before they rest
  pub know_before : All (λ (x : Session). (parts : Parts) × Know s x.number parts x) xs
  know_before = all_of (λ (x : Session). (parts : Parts) × Know s x.number parts x) xs
      (λ q x e.
      let lt = inside xs q x e in
      let count = over.count in
      let r = there rows q (omega (arith, lt, count)) in
      let made = (over.each q x r.0 e r.1).1 in
      (made.parts, made.know))

  module _ (ys : List Session) (rest : AreRested s xs ys) where
    record IsThere (q : ℕ) (y : Session) : Type 0 where
      pub row : List Completed
      pub row_at : get_elem? rows q ≡ some row
      pub before : Session
      pub before_at : get_elem? xs q ≡ some before

    at : (q : ℕ) (y : Session) → get_elem? ys q ≡ some y → IsThere q y
    at q y e =
        let lt = inside ys q y e in
        let a = rest.count in
        let b = over.count in
        let x = there xs q (omega (arith, lt, a)) in
        let r = there rows q (omega (arith, lt, a, b)) in
        record { row = r.0; row_at = r.1; before = x.0; before_at = x.1 }

    pub each_made : MadeEach s rows ys
    each_made q y cs e f = let t = at q y e in (rest.each q t.before y t.before_at e).made (stands_of cs) (over.each q t.before cs t.before_at f).1

    abbrev past : Parts
    past j = new_part state

    abbrev pub parts : ℕ → Parts
    parts = parts_at s past rows ys each_made

    pub know_all : KnowAll s parts ys
    know_all q y e =
        let f = as_elem ys q y e in
        let t = at q y f in
        let number : y.number ≡ q = (rest.each q t.before y t.before_at f).number ∙ (over.each q t.before t.row t.before_at t.row_at).0 in
        subst (λ (n : ℕ). Know s n (parts q) y) number (knows_there s past rows ys each_made q y t.row f t.row_at).0

    pub all_rest : All (λ (y : Session). y.kept ≡ None) ys
    all_rest = all_of (λ (y : Session). y.kept ≡ None) ys (λ q y e. let t = at q y e in (rest.each q t.before y t.before_at e).kept)

    pub so_many : length ys ≡ length rows
    so_many = rest.count ∙ over.count

    mine : (q : ℕ) → q < length rows → (parts q 0).mine ≡ known_by rows q
    mine q lt =
        let a = rest.count in
        let b = over.count in
        let y = there ys q (omega (arith, lt, a, b)) in
        let r = there rows q lt in
        (knows_there s past rows ys each_made q y.0 r.0 y.1 r.1).1 ∙ sym (known_there rows q r.0 r.1)

    -- the arena's words are those of what the rows say
    pub arena_left : (n arenas : ℕ) (words new : List ArenaWords) (w : ArenaWords) → n ≡ length ys → arenas ≡ 1 → words ≡ new ++ w ∷ [] → AreArenasLeft n (state ∷ []) parts arenas words → IsArenaLeft (length rows) state (known_by rows) w
    arena_left n arenas words new w count one is left =
        let a = left.count in
        let b = ap length is in
        let c = length-append new (w ∷ []) in
        let only : slice_get words 0 ≡ Some w = ap (λ (l : List ArenaWords). slice_get l 0) is ∙ first new (omega (arith, a, b, c, one)) in
        let l = left.each 0 state w refl only in
        let many : n ≡ length rows = count ∙ so_many in
        record {
          history = l.history;
          legal = l.legal;
          calls = l.calls;
          own = λ q lt. l.own q (omega (arith, lt, many)) ∙ mine q lt;
          none = λ q le. l.none q (omega (arith, le, many));
          flying = subst (λ (m : ℕ). AllByRecursion (λ (c : InCall). c.tag.session < m) l.calls) many l.flying;
          same = l.same;
          reopens = l.reopens;
        }
      where
        first : (xs : List ArenaWords) → length xs ≡ 0 → slice_get (xs ++ w ∷ []) 0 ≡ Some w
        first [] none = refl
        first (x ∷ xs) none = absurd (omega (arith, none))
