-- The arenas of a namespace that opens, one after another.
use Rattle.std.proofs.Common.{◌≡◌, ◌≢◌, ℕ, zero, suc, ◌+◌, ◌/◌, ◌<◌, ◌≤◌, Bool, true, false, cond, eqb, List, [], ◌∷◌, ◌++◌, length, drop, map, Option, Some, None, Result, Ok, Err, refl, sym, ap, ◌∙◌, inl, inr, arith, ◌⊎◌}
use Rattle.std.specs.List.{flat_map}
use Rattle.std.proofs.lemmas.Bool.{eqb-false, eqb-true}
use Rattle.arena_open.specs.declared.chain_refused.ChainRefused.{ChainRefused}
use Rattle.arena_open.specs.declared.opened.Opened.{Opened}
use Rattle.arena_open.specs.declared.refused.OpenRefused.{OpenRefused}
use Rattle.arena_open.specs.declared.state.ArenaState.{ArenaState}
use Rattle.arena_open.specs.Chain.{Link, Links, chain_answer, chain_of, chain_within, linked, no_more, state_at, states_from, with_state}
use Rattle.arena_open.specs.Reading.{opening}
use Rattle.arena_open.proofs.Own.{Lies, lies}
use Rattle.sector_namespaces.specs.View.{opened_view}
use Rattle.namespace_bytes.specs.Putting.{AreAll, Linked}
use Rattle.shell_rescue.specs.Rescue.{behind}

-- ---- the states that were answered

-- the states are those of the arenas that open, and no arena is refused
pub record Answered (words : List ℕ) (refused : Option OpenRefused) (links : List Link) (states : List ArenaState) : Type 0 where
  pub all : refused ≡ None
  pub are : map (state_at words) links ≡ states

with_first : (words : List ℕ) (refused : Option OpenRefused) (link : Link) (links : List Link) (rest : Result (List ArenaState) ChainRefused) (states : List ArenaState)
    → ((others : List ArenaState) → rest ≡ Ok others → Answered words refused links others)
    → with_state (state_at words link) rest ≡ Ok states → Answered words refused (link ∷ links) states
with_first words refused link links (Err fault) states behind is = absurd (let e = is in cc)
with_first words refused link links (Ok others) states behind is =
    let a : Answered words refused links others = behind others refl in
    record { all = a.all; are = ap (λ (ss : List ArenaState). state_at words link ∷ ss) a.are ∙ (let e = is in cc) }

answered : (words : List ℕ) (refused : Option OpenRefused) (links : List Link) (k : ℕ) (states : List ArenaState) → states_from k None words refused links ≡ Ok states
    → Answered words refused links states
answered words None [] k states is = record { all = refl; are = let e = is in cc }
answered words (Some fault) [] k states is = absurd (let e = is in cc)
answered words refused (link ∷ links) k states is =
    with_first words refused link links (states_from (k + 1) None words refused links) states (λ others. answered words refused links (k + 1) others) is

-- those of all arenas of a namespace
pub record OpensAs (words parent : List ℕ) (states : List ArenaState) : Type 0 where
  pub some : 0 < length words
  pub all : (chain_of words parent 0).refused ≡ None
  pub are : map (state_at words) (chain_of words parent 0).links ≡ states

opens_by : (words parent : List ℕ) (empty : Bool) (states : List ArenaState) → eqb (length words) 0 ≡ empty → opened_view words parent ≡ Ok states → OpensAs words parent states
unfolding opened_view
opens_by words parent true states empty is = absurd (let e = rw empty at is in cc)
opens_by words parent false states more is =
    let some : length words ≢ 0 = eqb-false (length words) 0 more in
    let opens : chain_answer None words parent 0 ≡ Ok states = rw more at is in
    let a : Answered words (chain_of words parent 0).refused (chain_of words parent 0).links states =
    answered words (chain_of words parent 0).refused (chain_of words parent 0).links 0 states opens in
    record { some = omega (arith, some); all = a.all; are = a.are }

pub opens_as : (words parent : List ℕ) (states : List ArenaState) → opened_view words parent ≡ Ok states → OpensAs words parent states
opens_as words parent states is = opens_by words parent (eqb (length words) 0) states refl is

-- the first arena opens
pub record FirstOpens (words parent : List ℕ) : Type 0 where
  pub opened : Opened
  pub is : opening words parent ≡ Ok opened

first_by : (words parent : List ℕ) (r : Result Opened OpenRefused) (from : ℕ → Links) → opening words parent ≡ r → (linked 0 r from).refused ≡ None → FirstOpens words parent
first_by words parent (Err fault) from opens is = absurd (let e = is in cc)
first_by words parent (Ok opened) from opens is = record { opened = opened; is = opens }

first_within : (m : ℕ) (words parent : List ℕ) → (chain_within (suc m) words parent 0).refused ≡ None → FirstOpens words parent
unfolding chain_within
first_within m words parent is = first_by words parent (opening words parent) (chain_within m words parent) refl is

pub first_opens : (words parent : List ℕ) (states : List ArenaState) → OpensAs words parent states → FirstOpens words parent
first_opens [] parent states o = absurd (omega (arith, o.some))
first_opens (word ∷ words) parent states o = first_within (length words) (word ∷ words) parent o.all

-- ---- each arena opens and names the next

linked_next : (words parent : List ℕ) (m at next : ℕ) (b : Bool) → eqb next 0 ≡ b
    → (next ≢ 0 → (chain_within m words parent (at + next / 8)).refused ≡ None → Linked words parent (at + next / 8) (chain_within m words parent (at + next / 8)).links)
    → (cond b no_more (chain_within m words parent (at + next / 8))).refused ≡ None
    → ((next ≡ 0) × ((cond b no_more (chain_within m words parent (at + next / 8))).links ≡ []))
    ⊎ ((next ≢ 0) × Linked words parent (at + next / 8) (cond b no_more (chain_within m words parent (at + next / 8))).links)
linked_next words parent m at next true last on is = inl (eqb-true next 0 last, refl)
linked_next words parent m at next false more on is = let some : next ≢ 0 = eqb-false next 0 more in inr (some, on some is)

linked_by : (words parent : List ℕ) (m at : ℕ) (r : Result Opened OpenRefused) → at ≤ length words → opening (drop at words) parent ≡ r
    → ((opened : Opened) → opening (drop at words) parent ≡ Ok opened → opened.info.next ≢ 0
    → (chain_within m words parent (at + opened.info.next / 8)).refused ≡ None
    → Linked words parent (at + opened.info.next / 8) (chain_within m words parent (at + opened.info.next / 8)).links)
    → (linked at r (chain_within m words parent)).refused ≡ None → Linked words parent at (linked at r (chain_within m words parent)).links
linked_by words parent m at (Err fault) inside opens on is = absurd (let e = is in cc)
linked_by words parent m at (Ok opened) inside opens on is =
    (refl, inside, opens, linked_next words parent m at opened.info.next (eqb opened.info.next 0) refl (on opened opens) is)

linked_within : (words parent : List ℕ) (m at : ℕ) → at ≤ length words → (chain_within m words parent at).refused ≡ None → Linked words parent at (chain_within m words parent at).links
unfolding chain_within
linked_within words parent zero at inside is = tt
linked_within words parent (suc m) at inside is =
    linked_by words parent m at (opening (drop at words) parent) inside refl
    (λ opened opens next.
    let l : Lies (length words) at opened = lies words parent at opened inside opens in
    linked_within words parent m (at + opened.info.next / 8) (omega (arith, l.next_is next, l.next_inside next)))
    is

pub are_all : (words parent : List ℕ) (states : List ArenaState) → opened_view words parent ≡ Ok states → AreAll words parent (chain_of words parent 0).links
are_all words parent states is =
    let o : OpensAs words parent states = opens_as words parent states is in
    record { read = is ∙ ap (λ (ss : List ArenaState). Ok ss) (sym o.are); linked = linked_within words parent (length words) 0 (omega arith) o.all }

-- ---- another list that goes through the arenas

-- what it has from a word on, by how much fuel; for an arena that opens it has one part, and then what is behind it
abbrev pub GoesOn : {X : Type 0} → List ℕ → List ℕ → (ℕ → ℕ → List X) → (Link → List X) → Type 0
GoesOn words parent from part =
    (n at : ℕ) (opened : Opened) → opening (drop at words) parent ≡ Ok opened
    → from (suc n) at ≡ part (record { at = at; opened = opened }) ++ behind opened.info.next at (from n)

module _ {X : Type 0} (words parent : List ℕ) (from : ℕ → ℕ → List X) (part : Link → List X) (on : GoesOn words parent from part) where
  -- it has one part for each arena of the chain
  abbrev Agrees : ℕ → ℕ → ℕ → Type 0
  Agrees m n at = (chain_within m words parent at).refused ≡ None → from n at ≡ flat_map part (chain_within m words parent at).links

  by_next : (m n at next : ℕ) (b : Bool) → eqb next 0 ≡ b → (next ≢ 0 → Agrees m n (at + next / 8))
      → (cond b no_more (chain_within m words parent (at + next / 8))).refused ≡ None
      → cond b [] (from n (at + next / 8)) ≡ flat_map part (cond b no_more (chain_within m words parent (at + next / 8))).links
  by_next m n at next true last agrees is = refl
  by_next m n at next false more agrees is = agrees (eqb-false next 0 more) is

  by_opening : (m n at : ℕ) (r : Result Opened OpenRefused) → opening (drop at words) parent ≡ r
      → ((opened : Opened) → opening (drop at words) parent ≡ Ok opened → opened.info.next ≢ 0 → Agrees m n (at + opened.info.next / 8))
      → (linked at r (chain_within m words parent)).refused ≡ None → from (suc n) at ≡ flat_map part (linked at r (chain_within m words parent)).links
  by_opening m n at (Err fault) opens agrees is = absurd (let e = is in cc)
  by_opening m n at (Ok opened) opens agrees is =
      on n at opened opens
      ∙ ap (λ (xs : List X). part (record { at = at; opened = opened }) ++ xs) (by_next m n at opened.info.next (eqb opened.info.next 0) refl (agrees opened opens) is)

  -- each arena begins behind the one before, so fuel for each word is enough
  agree : (m n at : ℕ) → at < length words → length words ≤ at + m → length words ≤ at + n → Agrees m n at
  unfolding chain_within
  agree zero n at lt enough some is = absurd (omega (arith, lt, enough))
  agree (suc m) zero at lt enough some is = absurd (omega (arith, lt, some))
  agree (suc m) (suc n) at lt enough some is =
      by_opening m n at (opening (drop at words) parent) refl
      (λ opened opens next.
      let l : Lies (length words) at opened = lies words parent at opened (omega (arith, lt)) opens in
      let here : opened.info.next ≡ opened.info.layout.size = l.next_is next in
      agree m n (at + opened.info.next / 8) (omega (arith, here, l.next_inside next)) (omega (arith, enough, l.large, here)) (omega (arith, some, l.large, here)))
      is

  pub all_parts : (states : List ArenaState) → OpensAs words parent states → from (length words + 1) 0 ≡ flat_map part (chain_of words parent 0).links
  all_parts states o = agree (length words) (length words + 1) 0 o.some (omega arith) (omega arith) o.all
