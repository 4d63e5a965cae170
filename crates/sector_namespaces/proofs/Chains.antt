-- The arenas of a namespace, one after another, and the change of one of them.
use Rattle.std.proofs.Common.{◌≡◌, ◌≢◌, ◌⊎◌, ℕ, zero, suc, ◌+◌, ◌/◌, ◌<◌, ◌≤◌, List, [], ◌∷◌, length, map, take, drop, get_or, None, Result, Ok, Err, refl, sym, ap, ◌∙◌, subst, inl, inr, arith}
use Rattle.std.specs.Prelude.{◌==◌, if◌then◌else◌}
use Rattle.std.proofs.Math.ListN.{set}
use Rattle.std.proofs.lemmas.Bool.{cases_eq, eq-eqb, ne_eqb}
use Rattle.std.proofs.lemmas.List.{drop-drop, length-drop}
use Rattle.std.proofs.lemmas.List.Sums.{sum_by-cons}
use Rattle.arena_layout.specs.declared.info.Info.{Info}
use Rattle.arena_layout.specs.declared.layout.Layout.{Layout}
use Rattle.arena_open.specs.declared.chain_refused.ChainRefused.{ChainRefused}
use Rattle.arena_open.specs.declared.opened.Opened.{Opened}
use Rattle.arena_open.specs.declared.refused.OpenRefused.{OpenRefused}
use Rattle.arena_open.specs.declared.state.ArenaState.{ArenaState}
use Rattle.arena_open.specs.Chain.{chain_within, found_again, linked, no_more, states_from, with_state}
use Rattle.arena_open.specs.Moves.{lane_of, move_writes, recovered, state_of}
use Rattle.arena_open.specs.Reading.{opening}
use Rattle.arena_open.specs.Writes.{written_over}
use Rattle.arena_open.proofs.Joined.{take_part}
use Rattle.arena_open.proofs.Opening.{Sound, sound}
use Rattle.arena_open.proofs.Own.{Lies, lies, opening_same}
use Rattle.arena_open.proofs.Recovering.{moves_taken}
use Rattle.sector_namespaces.specs.Changing.{DifferIn, IsFoundAs, OneArenaChanges, start_of}
use Rattle.sector_namespaces.specs.View.{opened_view}
use Rattle.sector_namespaces.proofs.Views.{no_words, some_words}

-- ---- one arena after another

-- these are the arenas from a word on, up to the last
abbrev pub Walk : List ℕ → List ℕ → ℕ → List ArenaState → Type 0
Walk words parent at [] = ⊥
Walk words parent at (state ∷ states) =
    (opened : Opened) × (opening (drop at words) parent ≡ Ok opened) × (state ≡ state_of (drop at words) opened) × (at ≤ length words)
    × (((opened.info.next ≡ 0) × (states ≡ [])) ⊎ ((opened.info.next ≢ 0) × Walk words parent (at + opened.info.next / 8) states))

-- the answer of opening at most n arenas from a word on, the first of which has number k
abbrev chain : ℕ → List ℕ → List ℕ → ℕ → ℕ → Result (List ArenaState) ChainRefused
chain n words parent at k = states_from k None words (chain_within n words parent at).refused (chain_within n words parent at).links

abbrev behind : ℕ → List ℕ → List ℕ → ℕ → ℕ → ℕ → Result (List ArenaState) ChainRefused
behind n words parent at next k =
    states_from k None words (if next == 0 then no_more else chain_within n words parent (at + next / 8)).refused
    (if next == 0 then no_more else chain_within n words parent (at + next / 8)).links

module _ (n : ℕ) (words parent : List ℕ) (at k : ℕ) where
  chain_some : (opened : Opened) → opening (drop at words) parent ≡ Ok opened
      → chain (suc n) words parent at k ≡ with_state (state_of (drop at words) opened) (behind n words parent at opened.info.next (k + 1))
  unfolding chain_within
  chain_some opened is =
      ap (λ (r : Result Opened OpenRefused). states_from k None words (linked at r (chain_within n words parent)).refused (linked at r (chain_within n words parent)).links) is

  chain_none : (fault : OpenRefused) → opening (drop at words) parent ≡ Err fault → chain (suc n) words parent at k ≡ Err (record { arena = k; fault = fault })
  unfolding chain_within
  chain_none fault is =
      ap (λ (r : Result Opened OpenRefused). states_from k None words (linked at r (chain_within n words parent)).refused (linked at r (chain_within n words parent)).links) is

  behind_last : (next : ℕ) → next ≡ 0 → behind n words parent at next k ≡ Ok []
  behind_last next e = rw (eq-eqb next 0 e) refl

  behind_more : (next : ℕ) → next ≢ 0 → behind n words parent at next k ≡ chain n words parent (at + next / 8) k
  behind_more next e = rw (ne_eqb next 0 e) refl

split : (state : ArenaState) (r : Result (List ArenaState) ChainRefused) (states : List ArenaState) → with_state state r ≡ Ok states
    → (rest : List ArenaState) × (r ≡ Ok rest) × (states ≡ state ∷ rest)
split state (Ok rest) states e = (rest, refl, (let same : state ∷ rest ≡ states = cc in sym same))
split state (Err fault) states e = absurd (let h = e in cc)

no_rest : (rest : List ArenaState) → ◌≡◌ {A = Result (List ArenaState) ChainRefused} (Ok []) (Ok rest) → rest ≡ []
no_rest rest e = (let same : [] ≡ rest = cc in sym same)

-- ---- from the answer, and back

module _ (n : ℕ) (words parent : List ℕ) (more : (at k : ℕ) (states : List ArenaState) → at < length words → length words ≤ n + at → chain n words parent at k ≡ Ok states → Walk words parent at states)
    (at k : ℕ) (states : List ArenaState) (inside : at < length words) (enough : length words ≤ suc n + at) (e : chain (suc n) words parent at k ≡ Ok states) where
  tail : (opened : Opened) → opening (drop at words) parent ≡ Ok opened → (rest : List ArenaState) → behind n words parent at opened.info.next (k + 1) ≡ Ok rest
      → ((opened.info.next ≡ 0) × (rest ≡ [])) ⊎ ((opened.info.next ≢ 0) × Walk words parent (at + opened.info.next / 8) rest)
  tail opened is rest e' =
      let l : Lies (length words) at opened = lies words parent at opened (omega (arith, inside)) is in
      elim (cases_eq opened.info.next 0) [
        | inl none ↦ inl (none, no_rest rest (sym (behind_last n words parent at (k + 1) opened.info.next none) ∙ e'))
        | inr some ↦ inr (some, more (at + opened.info.next / 8) (k + 1) rest (omega (arith, l.next_is some, l.next_inside some)) (omega (arith, l.next_is some, l.large, enough)) (sym (behind_more n words parent at (k + 1) opened.info.next some) ∙ e'))
      ]

  here : (r : Result Opened OpenRefused) → opening (drop at words) parent ≡ r → Walk words parent at states
  here (Err fault) is = absurd (let both = sym (chain_none n words parent at k fault is) ∙ e in cc)
  here (Ok opened) is =
      let parts = split (state_of (drop at words) opened) (behind n words parent at opened.info.next (k + 1)) states (sym (chain_some n words parent at k opened is) ∙ e) in
      subst (λ (ss : List ArenaState). Walk words parent at ss) (sym parts.2) (opened, is, refl, omega (arith, inside), tail opened is parts.0 parts.1)

pub walk : (n : ℕ) (words parent : List ℕ) (at k : ℕ) (states : List ArenaState) → at < length words → length words ≤ n + at → chain n words parent at k ≡ Ok states → Walk words parent at states
walk zero words parent at k states inside enough e = absurd (omega (arith, inside, enough))
walk (suc n) words parent at k states inside enough e =
    here n words parent (λ at' k' states' inside' enough' e'. walk n words parent at' k' states' inside' enough' e') at k states inside enough e (opening (drop at words) parent) refl

pub back : (n : ℕ) (words parent : List ℕ) (at k : ℕ) (states : List ArenaState) → Walk words parent at states → length words ≤ n + at → chain n words parent at k ≡ Ok states
back zero words parent at k [] w enough = absurd w
back zero words parent at k (state ∷ states) w enough =
    let l : Lies (length words) at w.0 = lies words parent at w.0 w.3 w.1 in absurd (omega (arith, l.large, l.inside, enough))
back (suc n) words parent at k [] w enough = absurd w
back (suc n) words parent at k (state ∷ states) w enough =
    let l : Lies (length words) at w.0 = lies words parent at w.0 w.3 w.1 in
    chain_some n words parent at k w.0 w.1
    ∙ elim w.4 [
      | inl last ↦ ap (with_state (state_of (drop at words) w.0)) (behind_last n words parent at (k + 1) w.0.info.next last.0) ∙ (λ i. Ok (sym w.2 i ∷ sym last.1 i))
      | inr more ↦ ap (with_state (state_of (drop at words) w.0)) (behind_more n words parent at (k + 1) w.0.info.next more.0
          ∙ back n words parent (at + w.0.info.next / 8) (k + 1) states more.1 (omega (arith, l.next_is more.0, l.large, enough)))
          ∙ (λ i. Ok (sym w.2 i ∷ states))
    ]

-- ---- the place of each

abbrev next_words : ArenaState → ℕ
next_words state = state.info.next / 8

start_cons : (state : ArenaState) (states : List ArenaState) → start_of (state ∷ states) ≡ state.info.next / 8 + start_of states
start_cons state states = sum_by-cons next_words state states

pub record AtArena (words parent : List ℕ) (at : ℕ) (state : ArenaState) : Type 0 where
  pub opened : Opened
  pub opens : opening (drop at words) parent ≡ Ok opened
  pub is : state ≡ state_of (drop at words) opened
  pub inside : at ≤ length words

pub at_arena : (words parent : List ℕ) (at : ℕ) (states : List ArenaState) (k : ℕ) (d : ArenaState) → Walk words parent at states → k < length states
    → AtArena words parent (at + start_of (take k states)) (get_or states k d)
at_arena words parent at [] k d w lt = absurd w
at_arena words parent at (state ∷ states) zero d w lt =
    let none : at ≡ at + 0 = omega arith in
    subst (λ (p : ℕ). AtArena words parent p state) none (record { opened = w.0; opens = w.1; is = w.2; inside = w.3 })
at_arena words parent at (state ∷ states) (suc k) d w lt = elim w.4 [
  | inl last ↦ absurd (omega (arith, lt, ap length last.1))
  | inr more ↦
      let same : at + w.0.info.next / 8 + start_of (take k states) ≡ at + start_of (state ∷ take k states) =
      omega (arith, start_cons state (take k states), ap next_words w.2) in
      subst (λ (p : ℕ). AtArena words parent p (get_or states k d)) same (at_arena words parent (at + w.0.info.next / 8) states k d more.1 (omega (arith, lt)))
]

-- all of them lie in the words
pub total : (words parent : List ℕ) (at : ℕ) (states : List ArenaState) → Walk words parent at states → at + start_of states ≤ length words
total words parent at [] w = absurd w
total words parent at (state ∷ states) w = elim w.4 [
  | inl last ↦ omega (arith, w.3, start_cons state states, ap next_words w.2, last.0, ap start_of last.1)
  | inr more ↦ omega (arith, start_cons state states, ap next_words w.2, total words parent (at + w.0.info.next / 8) states more.1)
]

-- ---- one of them changes

drop_same : (at m : ℕ) (words now : List ℕ) → drop at now ≡ drop at words → drop (at + m) now ≡ drop (at + m) words
drop_same at m words now same = sym (drop-drop m at now) ∙ ap (drop m) same ∙ drop-drop m at words

-- those behind it don't
tail_same : (words now parent : List ℕ) (at : ℕ) (states : List ArenaState) → length now ≡ length words → drop at now ≡ drop at words → Walk words parent at states → Walk now parent at states
tail_same words now parent at [] size same w = w
tail_same words now parent at (state ∷ states) size same w = (
  w.0,
  ap (λ (ws : List ℕ). opening ws parent) same ∙ w.1,
  w.2 ∙ ap (λ (ws : List ℕ). state_of ws w.0) (sym same),
  omega (arith, w.3, size),
  elim w.4 [
    | inl last ↦ inl last
    | inr more ↦ inr (more.0, tail_same words now parent (at + w.0.info.next / 8) states size (drop_same at (w.0.info.next / 8) words now same) more.1)
  ],
)

-- a state is that of the arena's own words
own_state : (a b parent : List ℕ) (opened : Opened) → opening a parent ≡ Ok opened → take (opened.info.layout.size / 8) b ≡ take (opened.info.layout.size / 8) a
    → state_of b opened ≡ state_of a opened
own_state a b parent opened is same =
    let s : Sound a parent opened = sound a parent opened is in
    let l : Layout = opened.info.layout in
    let words : take (opened.info.layout.size / 8) (recovered b opened) ≡ take (opened.info.layout.size / 8) (recovered a opened) =
    sym (moves_taken opened.info.layout b opened.moves s.arena.sound.layout s.moves).words_are
    ∙ ap (λ (ws : List ℕ). written_over ws (move_writes opened.info.layout ws opened.moves)) same
    ∙ (moves_taken opened.info.layout a opened.moves s.arena.sound.layout s.moves).words_are in
    λ i. record { info = opened.info; words = words i; lanes = map lane_of opened.groups; made = length opened.moves }

module _ (words now parent : List ℕ) (p : ℕ) (state new : ArenaState) (differ : DifferIn p (state.info.layout.size / 8) words now) (found : IsFoundAs (drop p now) parent new) (info : new.info ≡ state.info) where
  -- it is the first
  changes_first : (at : ℕ) (first : ArenaState) (states : List ArenaState) → Walk words parent at (first ∷ states) → state ≡ first → p ≡ at → Walk now parent at (new ∷ states)
  changes_first at first states w is here =
      let l : Lies (length words) at w.0 = lies words parent at w.0 w.3 w.1 in
      let infos : found.opened.info ≡ w.0.info = ap (λ (s : ArenaState). s.info) found.is ∙ info ∙ ap (λ (s : ArenaState). s.info) (is ∙ w.2) in
      let size : state.info.layout.size ≡ w.0.info.layout.size = ap (λ (s : ArenaState). s.info.layout.size) (is ∙ w.2) in
      let next : found.opened.info.next ≡ w.0.info.next = ap (λ (i : Info). i.next) infos in (
        found.opened,
        subst (λ (a : ℕ). opening (drop a now) parent ≡ Ok found.opened) here found.opens,
        sym (subst (λ (a : ℕ). state_of (drop a now) found.opened ≡ new) here found.is),
        omega (arith, w.3, differ.size),
        elim w.4 [
          | inl last ↦ inl (next ∙ last.0, last.1)
          | inr more ↦
              let end : p + state.info.layout.size / 8 ≡ at + w.0.info.next / 8 = omega (arith, here, size, l.next_is more.0) in
              let same : drop (at + w.0.info.next / 8) now ≡ drop (at + w.0.info.next / 8) words = subst (λ (a : ℕ). drop a now ≡ drop a words) end differ.behind in
              inr (
                (λ e. more.0 (sym next ∙ e)),
                subst (λ (n : ℕ). Walk now parent (at + n / 8) states) (sym next) (tail_same words now parent (at + w.0.info.next / 8) states differ.size same more.1),
              )
        ],
      )

  changes : (at : ℕ) (states : List ArenaState) (k : ℕ) → Walk words parent at states → k < length states → state ≡ get_or states k state → p ≡ at + start_of (take k states)
      → Walk now parent at (set states k new)
  changes at [] k w lt is here = absurd w
  changes at (first ∷ states) zero w lt is here = changes_first at first states w is (omega (arith, here))
  changes at (first ∷ states) (suc k) w lt is here = elim w.4 [
    | inl last ↦ absurd (omega (arith, lt, ap length last.1))
    | inr more ↦
        let l : Lies (length words) at w.0 = lies words parent at w.0 w.3 w.1 in
        let next : next_words first ≡ w.0.info.next / 8 = ap next_words w.2 in
        let cons : start_of (first ∷ take k states) ≡ first.info.next / 8 + start_of (take k states) = start_cons first (take k states) in
        let own : take (w.0.info.layout.size / 8) (drop at now) ≡ take (w.0.info.layout.size / 8) (drop at words) =
        take_part p at (w.0.info.layout.size / 8) now words differ.before (omega (arith, here, cons, next, l.next_is more.0)) in
        let opens : opening (drop at now) parent ≡ Ok w.0 =
        opening_same (drop at words) (drop at now) parent w.0 w.1 (omega (arith, differ.size, length-drop at words, length-drop at now)) (sym own) in (
          w.0,
          opens,
          w.2 ∙ sym (own_state (drop at words) (drop at now) parent w.0 w.1 own),
          omega (arith, w.3, differ.size),
          inr (more.0, changes (at + w.0.info.next / 8) states k more.1 (omega (arith, lt)) is (omega (arith, here, cons, next))),
        )
  ]

-- ---- a namespace's words

some_there : (words uuid : List ℕ) (states : List ArenaState) → opened_view words uuid ≡ Ok states → length words ≢ 0
some_there words uuid states e none = (let both = sym (no_words words uuid none) ∙ e in cc)

pub view_walk : (words uuid : List ℕ) (states : List ArenaState) → opened_view words uuid ≡ Ok states → Walk words uuid 0 states
view_walk words uuid states e =
    let some : length words ≢ 0 = some_there words uuid states e in
    walk (length words) words uuid 0 0 states (omega (arith, some)) (omega arith) (sym (some_words words uuid some) ∙ e)

pub one_arena_changes : OneArenaChanges
one_arena_changes words now uuid states k state new e lt is info differ found =
    let some : length words ≢ 0 = some_there words uuid states e in
    let p : ℕ = start_of (take k states) in
    let w : Walk now uuid 0 (set states k new) =
    changes words now uuid (start_of (take k states)) state new differ found info 0 states k (view_walk words uuid states e) lt is (omega arith) in
    some_words now uuid (λ none. some (sym differ.size ∙ none)) ∙ back (length now) now uuid 0 0 (set states k new) w (omega arith)

-- the place of an arena whose moves were made is that of the arena
pub start_again : (states : List ArenaState) → start_of (map found_again states) ≡ start_of states
start_again [] = refl
start_again (state ∷ states) = omega (arith, start_cons state states, start_cons (found_again state) (map found_again states), start_again states)

pub start_take : (k : ℕ) (states : List ArenaState) → start_of (take k (map found_again states)) ≡ start_of (take k states)
start_take zero states = refl
start_take (suc k) [] = refl
start_take (suc k) (state ∷ states) =
    omega (arith, start_cons state (take k states), start_cons (found_again state) (take k (map found_again states)), start_take k states)
