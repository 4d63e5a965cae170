-- The result for a chain, arena by arena, under a fuse.
use Rattle.std.proofs.Common.{◌≡◌, ℕ, suc, ◌+◌, ◌-◌, ◌*◌, Bool, true, false, List, [], ◌∷◌, ◌++◌, length, map, drop, Option, Some, None, Result, Ok, Err, refl, sym, ap, ◌∙◌, arith}
use Rattle.std.proofs.lemmas.Bool.{leb-true, le-leb}
use Rattle.std.proofs.lemmas.List.{length-append}
use Rattle.cut_words.specs.Fuses.{burnt, lasts}
use Rattle.arena_open.specs.declared.opened.Opened.{Opened}
use Rattle.arena_open.specs.declared.state.ArenaState.{ArenaState}
use Rattle.arena_open.specs.declared.refused.OpenRefused.{OpenRefused}
use Rattle.arena_open.specs.declared.refused.OpenRefused.TheVariants as open_refused
use Rattle.arena_open.specs.Moves.{move_writes, shifted, state_of, state_if, answer_of}
use Rattle.arena_open.proofs.Written.{length_steps}
use Rattle.arena_open.proofs.Turns.{length_moves, length_shifted}
use Rattle.arena_open.specs.declared.chain_refused.ChainRefused.{ChainRefused}
use Rattle.arena_open.specs.Chain.{Link, link_steps, chain_steps, state_at, with_state, states_from}

-- ---- fuses

pub burnt_none : (fuse : Option ℕ) → burnt fuse 0 ≡ fuse
burnt_none None = refl
burnt_none (Some n) = ap Some (omega arith)

pub burnt_both : (fuse : Option ℕ) (a b : ℕ) → burnt (burnt fuse a) b ≡ burnt fuse (a + b)
burnt_both None a b = refl
burnt_both (Some n) a b = ap Some (omega arith)

pub lasts_front : (fuse : Option ℕ) (a b : ℕ) → lasts fuse (a + b) ≡ true → lasts fuse a ≡ true
lasts_front None a b e = refl
lasts_front (Some n) a b e = le-leb a n (omega (arith, leb-true (a + b) n e))

pub lasts_back : (fuse : Option ℕ) (a b : ℕ) → lasts fuse (a + b) ≡ true → lasts (burnt fuse a) b ≡ true
lasts_back None a b e = refl
lasts_back (Some n) a b e = le-leb b (n - a) (omega (arith, leb-true (a + b) n e))

-- ---- steps

pub count_steps : (words : List ℕ) (link : Link) → length (link_steps words link) ≡ 2 * length link.opened.moves
count_steps words link =
    length_steps (shifted link.at (move_writes link.opened.info.layout (drop link.at words) link.opened.moves))
    ∙ ap (λ (n : ℕ). 2 * n) (length_shifted link.at (move_writes link.opened.info.layout (drop link.at words) link.opened.moves)
    ∙ length_moves link.opened.info.layout (drop link.at words) link.opened.moves)

count_chain : (words : List ℕ) (link : Link) (links : List Link) → length (chain_steps words (link ∷ links)) ≡ 2 * length link.opened.moves + length (chain_steps words links)
count_chain words link links = omega (arith, length-append (link_steps words link) (chain_steps words links), count_steps words link)

-- ---- states

abbrev pub with_states : List ArenaState → Result (List ArenaState) ChainRefused → Result (List ArenaState) ChainRefused
with_states [] result = result
with_states (state ∷ states) result = with_state state (with_states states result)

pub with_ok : (states others : List ArenaState) → with_states states (Ok others) ≡ Ok (states ++ others)
with_ok [] others = refl
with_ok (state ∷ states) others = ap (with_state state) (with_ok states others)

pub with_err : (states : List ArenaState) (fault : ChainRefused) → with_states states (Err fault) ≡ Err fault
with_err [] fault = refl
with_err (state ∷ states) fault = ap (with_state state) (with_err states fault)

module _ (words : List ℕ) (fault : Option OpenRefused) where
  pub one_state : (k : ℕ) (fuse : Option ℕ) (link : Link) (links : List Link) → lasts fuse (2 * length link.opened.moves) ≡ true
      → states_from k fuse words fault (link ∷ links) ≡ with_state (state_at words link) (states_from (k + 1) (burnt fuse (2 * length link.opened.moves)) words fault links)
  one_state k fuse link links e = rw e refl

  pub one_cut : (k : ℕ) (fuse : Option ℕ) (link : Link) (links : List Link) → lasts fuse (2 * length link.opened.moves) ≡ false
      → states_from k fuse words fault (link ∷ links) ≡ Err (record { arena = k; fault = open_refused.PowerCut })
  one_cut k fuse link links e = rw e refl

  pub states_on : (links more : List Link) (k : ℕ) (fuse : Option ℕ) → lasts fuse (length (chain_steps words links)) ≡ true
      → states_from k fuse words fault (links ++ more)
      ≡ with_states (map (state_at words) links) (states_from (k + length links) (burnt fuse (length (chain_steps words links))) words fault more)
  states_on [] more k fuse e =
      let k_is : k ≡ k + 0 = omega arith in
      λ i. states_from (k_is i) (sym (burnt_none fuse) i) words fault more
  states_on (link ∷ links) more k fuse e =
      let c : length (chain_steps words (link ∷ links)) ≡ 2 * length link.opened.moves + length (chain_steps words links) = count_chain words link links in
      let e' : lasts fuse (2 * length link.opened.moves + length (chain_steps words links)) ≡ true = ap (lasts fuse) (sym c) ∙ e in
      let k_is : k + 1 + length links ≡ k + suc (length links) = omega arith in
      one_state k fuse link (links ++ more) (lasts_front fuse (2 * length link.opened.moves) (length (chain_steps words links)) e')
      ∙ ap (with_state (state_at words link)) (
      states_on links more (k + 1) (burnt fuse (2 * length link.opened.moves)) (lasts_back fuse (2 * length link.opened.moves) (length (chain_steps words links)) e')
      ∙ (λ i. with_states (map (state_at words) links) (states_from (k_is i)
      ((burnt_both fuse (2 * length link.opened.moves) (length (chain_steps words links)) ∙ ap (burnt fuse) (sym c)) i) words fault more)))

-- ---- the result for one arena

pub record Answered (left : Option ℕ) (words : List ℕ) (read : Result Opened OpenRefused) (state : ArenaState) : Type 0 where
  pub opened : Opened
  pub read_is : read ≡ Ok opened
  pub lasted : lasts left (2 * length opened.moves) ≡ true
  pub state_is : state ≡ state_of words opened

lasted_by : (b : Bool) (left : Option ℕ) (words : List ℕ) (opened : Opened) (read : Result Opened OpenRefused) (state : ArenaState) → lasts left (2 * length opened.moves) ≡ b → read ≡ Ok opened
    → Ok state ≡ state_if b words opened → Answered left words read state
lasted_by true left words opened read state e r is = record { opened = opened; read_is = r; lasted = e; state_is = cc }
lasted_by false left words opened read state e r is = absurd (let h = is in cc)

pub answered : (left : Option ℕ) (words : List ℕ) (read : Result Opened OpenRefused) (state : ArenaState) → Ok state ≡ answer_of left words read → Answered left words read state
answered left words (Err fault) state is = absurd (let h = is in cc)
answered left words (Ok opened) state is = lasted_by (lasts left (2 * length opened.moves)) left words opened (Ok opened) state refl refl is

-- why one was refused
pub data Refusal (left : Option ℕ) (words : List ℕ) (read : Result Opened OpenRefused) (fault : OpenRefused) : Type 0 where
  broken : read ≡ Err fault → Refusal left words read fault
  cut : (opened : Opened) → read ≡ Ok opened → lasts left (2 * length opened.moves) ≡ false → fault ≡ open_refused.PowerCut → Refusal left words read fault

cut_by : (b : Bool) (left : Option ℕ) (words : List ℕ) (opened : Opened) (read : Result Opened OpenRefused) (fault : OpenRefused) → lasts left (2 * length opened.moves) ≡ b → read ≡ Ok opened
    → Err fault ≡ state_if b words opened → Refusal left words read fault
cut_by true left words opened read fault e r is = absurd (let h = is in cc)
cut_by false left words opened read fault e r is = cut opened r e cc

pub refusal : (left : Option ℕ) (words : List ℕ) (read : Result Opened OpenRefused) (fault : OpenRefused) → Err fault ≡ answer_of left words read → Refusal left words read fault
refusal left words (Err found) fault is = broken (let e : found ≡ fault = cc in ap (λ (f : OpenRefused). Err f) e)
refusal left words (Ok opened) fault is = cut_by (lasts left (2 * length opened.moves)) left words opened (Ok opened) fault refl refl is
