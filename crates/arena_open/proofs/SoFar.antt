-- The state of opening after some arenas.
use Rattle.std.proofs.Common.{◌≡◌, ◌≢◌, ℕ, ◌+◌, ◌*◌, ◌/◌, ◌%◌, ◌<◌, ◌≤◌, Bool, true, false, List, [], ◌∷◌, ◌++◌, length, map, take, drop, Option, Some, None, Result, Ok, Err, refl, sym, ap, ◌∙◌, subst, arith}
use Rattle.std.specs.List.{All}
use Rattle.std.proofs.lemmas.Grind.{flat_map-append}
use Rattle.std.proofs.lemmas.List.{append-nil, append_assoc, map-append, drop-drop, length-map, take-append-le, take_all}
use Rattle.std.proofs.lemmas.List.Elements.{All-nil, All-cons, All-append}
use Rattle.cut_words.specs.Words.{Words, Step}
use Rattle.cut_words.specs.Fuses.{Makes, burnt, lasts}
use Rattle.arena_open.specs.declared.state.ArenaState.{ArenaState}
use Rattle.arena_open.specs.declared.opened.Opened.{Opened}
use Rattle.arena_open.specs.declared.refused.OpenRefused.{OpenRefused}
use Rattle.arena_open.specs.Writes.{IsSettled, written_over}
use Rattle.arena_open.specs.Reading.{opening}
use Rattle.arena_open.specs.Moves.{IsOpenState, move_writes, open_answer, opened_steps, recovered, steps_if, state_of, with_all_made}
use Rattle.arena_open.specs.Moves as arena
use Rattle.arena_open.specs.Chain.{Link, Links, chain_of, chain_steps, state_at, link_made, chain_answer, RecoversChain, RecoversFirst, ChainOpensAgain, link_steps, states_from, chain_within, found_again}
use Rattle.cut_words.proofs.Making.{makes_none, makes_both, makes_cut, makes_length}
use Rattle.arena_open.specs.declared.refused.OpenRefused.TheVariants as open_refused
use Rattle.arena_open.proofs.Written.{made_settled}
use Rattle.arena_open.proofs.Again.{drop_shifted}
use Rattle.arena_open.proofs.Found.{AreMade, all_states, found_all, made_more, made_same}
use Rattle.arena_open.proofs.Own.{Lies, lies}
use Rattle.arena_open.proofs.Outside.{take_over, drop_over, writes_of, writes_in}
use Rattle.arena_open.proofs.Joined.{Joined, Far, far, joined_same, joined_more, Reached, reached, chain_last, chain_refused, Behind, chain_some}
use Rattle.arena_open.proofs.ChainAnswering.{count_steps, with_states, with_ok, with_err, one_state, one_cut, states_on, Answered, answered, Refusal, broken, cut, refusal}

-- the words and the fuse after the arenas before a word were opened
pub record SoFar (old : Words) (fuse : Option ℕ) (first : ℕ) (parent : List ℕ) (now : Words) (left : Option ℕ) (at : ℕ) (states : List ArenaState) : Type 0 where
  pub links : List Link
  pub joined : Joined old.kept parent first links at
  pub again : Joined now.kept parent first (map link_made links) at
  pub states_are : states ≡ map (state_at old.kept) links
  pub made : Makes old now fuse left (chain_steps old.kept links) true
  pub rest : drop at now.kept ≡ drop at old.kept
  pub count : length now.kept ≡ length old.kept
  pub inside : at + 512 ≤ length old.kept
  pub settled : IsSettled now
  pub states_open : All IsOpenState states
  pub there : AreMade old.kept now.kept links

-- the result of opening one arena
pub record Opens (now new : Words) (left left' : Option ℕ) (at : ℕ) (parent : List ℕ) (state : ArenaState) : Type 0 where
  pub answer : Ok state ≡ open_answer left (drop at now.kept) parent
  pub made : arena.Recovers now new left left' at parent
  pub settled : IsSettled new
  pub again : arena.OpensAgain (drop at now.kept) (drop at new.kept) parent
  pub state_open : IsOpenState state

pub starts : (old : Words) (fuse : Option ℕ) (first : ℕ) (parent : List ℕ) → first % 512 ≡ 0 → length old.kept % 512 ≡ 0 → first < length old.kept → IsSettled old
    → SoFar old fuse first parent old fuse first []
starts old fuse first parent from to inside was = record {
  links = [];
  joined = refl;
  again = refl;
  states_are = refl;
  made = makes_none old fuse;
  rest = refl;
  count = refl;
  inside = omega (arith, from, to, inside);
  settled = was;
  states_open = All-nil IsOpenState;
  there = tt;
}

-- ---- steps

steps_more : (words : List ℕ) (links : List Link) (link : Link) (more : List Link)
    → chain_steps words (links ++ link ∷ more) ≡ chain_steps words links ++ (link_steps words link ++ chain_steps words more)
steps_more words links link more = flat_map-append (link_steps words) links (link ∷ more)

steps_last : (words : List ℕ) (links : List Link) (link : Link) → chain_steps words (links ++ link ∷ []) ≡ chain_steps words links ++ link_steps words link
steps_last words links link = steps_more words links link [] ∙ ap (λ (s : List Step). chain_steps words links ++ s) (append-nil (link_steps words link))

-- the steps of an arena's recovery, from its decoded contents
pub made_of : (now new : Words) (left left' : Option ℕ) (at : ℕ) (parent : List ℕ) (opened : Opened) (b : Bool) → opening (drop at now.kept) parent ≡ Ok opened
    → lasts left (2 * length opened.moves) ≡ b → arena.Recovers now new left left' at parent → Makes now new left left' (opened_steps at (drop at now.kept) opened) b
made_of now new left left' at parent opened b is e made =
    let m : Makes now new left left' (opened_steps at (drop at now.kept) opened) (lasts left (length (opened_steps at (drop at now.kept) opened))) =
    subst (λ (o : Result Opened OpenRefused). Makes now new left left' (steps_if at (drop at now.kept) o) (lasts left (length (steps_if at (drop at now.kept) o)))) is made in
    subst (λ (x : Bool). Makes now new left left' (opened_steps at (drop at now.kept) opened) x)
    (ap (lasts left) (count_steps now.kept (record { at = at; opened = opened })) ∙ e) m

-- which of a chain's steps were made, and whether all were
all_made_by : (old new : Words) (fuse left : Option ℕ) (parent : List ℕ) (first : ℕ) (links : List Link) (fault : Option OpenRefused) (b : Bool)
    → chain_of old.kept parent first ≡ record { links = links; refused = fault } → Makes old new fuse left (chain_steps old.kept links) b → RecoversChain old new fuse left parent first
all_made_by old new fuse left parent first links fault b is m =
    let m' : Makes old new fuse left (chain_steps old.kept links) (lasts fuse (length (chain_steps old.kept links))) =
    subst (λ (x : Bool). Makes old new fuse left (chain_steps old.kept links) x) m.all_made m in
    subst (λ (c : Links). Makes old new fuse left (chain_steps old.kept c.links) (lasts fuse (length (chain_steps old.kept c.links)))) (sym is) m'

-- ---- one more arena

module _ (old : Words) (fuse : Option ℕ) (first : ℕ) (parent : List ℕ) (now : Words) (left : Option ℕ) (at : ℕ) (states : List ArenaState)
    (s : SoFar old fuse first parent now left at states) where
  -- the words from here on are unchanged
  read_same : opening (drop at now.kept) parent ≡ opening (drop at old.kept) parent
  read_same = ap (λ (ws : List ℕ). opening ws parent) s.rest

  here : (opened : Opened) → Link
  here opened = record { at = at; opened = opened }

  -- this arena's steps after those of the arenas before
  both : (new : Words) (left' : Option ℕ) (opened : Opened) (b : Bool) → Makes now new left left' (opened_steps at (drop at now.kept) opened) b
      → Makes old new fuse left' (chain_steps old.kept s.links ++ link_steps old.kept (record { at = at; opened = opened })) b
  both new left' opened b m =
      makes_both old now new fuse left left' (chain_steps old.kept s.links) (link_steps old.kept (record { at = at; opened = opened })) b s.made
      (subst (λ (ws : List ℕ). Makes now new left left' (opened_steps at ws opened) b) s.rest m)

  steps_one : (new : Words) (left' : Option ℕ) (opened : Opened) → Makes now new left left' (opened_steps at (drop at now.kept) opened) true
      → Makes old new fuse left' (chain_steps old.kept (s.links ++ record { at = at; opened = opened } ∷ [])) true
  steps_one new left' opened m =
      subst (λ (steps : List Step). Makes old new fuse left' steps true) (sym (steps_last old.kept s.links (record { at = at; opened = opened }))) (both new left' opened true m)

  -- the fuse that is left
  left_is : left ≡ burnt fuse (length (chain_steps old.kept s.links))
  left_is = s.made.fuse_left

  lasted : lasts fuse (length (chain_steps old.kept s.links)) ≡ true
  lasted = sym s.made.all_made

  count_states : length states ≡ length s.links
  count_states = ap length s.states_are ∙ length-map s.links (state_at old.kept)

  pub few : 2097152 * length states + first ≤ at
  few = omega (arith, count_states, (far old.kept parent first s.links at s.joined).ahead)

  -- the result for a chain that continues with these arenas
  states_so : (fault : Option OpenRefused) (more : List Link)
      → states_from 0 fuse old.kept fault (s.links ++ more) ≡ with_states states (states_from (length states) left old.kept fault more)
  states_so fault more =
      let k_is : 0 + length s.links ≡ length states = omega (arith, count_states) in
      states_on old.kept fault s.links more 0 fuse lasted
      ∙ (λ i. with_states (sym s.states_are i) (states_from (k_is i) (sym left_is i) old.kept fault more))

  -- ---- it opened

  module _ (new : Words) (left' : Option ℕ) (state : ArenaState) (o : Opens now new left left' at parent state) where
    a : Answered left (drop at now.kept) (opening (drop at now.kept) parent) state
    a = answered left (drop at now.kept) (opening (drop at now.kept) parent) state o.answer

    read : opening (drop at old.kept) parent ≡ Ok a.opened
    read = sym read_same ∙ a.read_is

    made : Makes now new left left' (opened_steps at (drop at now.kept) a.opened) true
    made = made_of now new left left' at parent a.opened true a.read_is a.lasted o.made

    new_is : new.kept ≡ written_over now.kept (writes_of at (drop at now.kept) a.opened)
    new_is = ap (λ (w : Words). w.kept) (made_settled now new left left' (writes_of at (drop at now.kept) a.opened) s.settled made)

    l : Lies (length old.kept) at a.opened
    l = lies old.kept parent at a.opened (omega (arith, s.inside)) read

    front : take at new.kept ≡ take at now.kept
    front =
        ap (take at) new_is
        ∙ take_over at (at + a.opened.info.layout.size / 8) now.kept (writes_of at (drop at now.kept) a.opened) (writes_in at (drop at now.kept) parent a.opened a.read_is)

    back : drop (at + a.opened.info.layout.size / 8) new.kept ≡ drop (at + a.opened.info.layout.size / 8) old.kept
    back =
        ap (drop (at + a.opened.info.layout.size / 8)) new_is
        ∙ drop_over at (at + a.opened.info.layout.size / 8) now.kept (writes_of at (drop at now.kept) a.opened) (writes_in at (drop at now.kept) parent a.opened a.read_is)
        ∙ sym (drop-drop (a.opened.info.layout.size / 8) at now.kept)
        ∙ ap (drop (a.opened.info.layout.size / 8)) s.rest
        ∙ drop-drop (a.opened.info.layout.size / 8) at old.kept

    same_count : length new.kept ≡ length now.kept
    same_count = makes_length now new left left' (opened_steps at (drop at now.kept) a.opened) true made

    next_is : state.info.next ≡ a.opened.info.next
    next_is = ap (λ (st : ArenaState). st.info.next) a.state_is

    again_before : Joined new.kept parent first (map link_made s.links) at
    again_before = joined_same now.kept new.kept parent first (map link_made s.links) at s.again same_count (sym front)

    again_here : opening (drop at new.kept) parent ≡ Ok (with_all_made a.opened)
    again_here = o.again a.opened a.read_is

    states_more : states ++ state ∷ [] ≡ map (state_at old.kept) (s.links ++ record { at = at; opened = a.opened } ∷ [])
    states_more =
        let one : state ≡ state_at old.kept (record { at = at; opened = a.opened }) = a.state_is ∙ ap (λ (ws : List ℕ). state_of ws a.opened) s.rest in
        (λ i. s.states_are i ++ one i ∷ []) ∙ sym (map-append (state_at old.kept) s.links (record { at = at; opened = a.opened } ∷ []))

    pub all_open : All IsOpenState (states ++ state ∷ [])
    all_open = All-append IsOpenState states (state ∷ []) s.states_open (All-cons IsOpenState state [] o.state_open (All-nil IsOpenState))

    here_made : drop at new.kept ≡ recovered (drop at old.kept) a.opened
    here_made =
        ap (drop at) new_is ∙ drop_shifted at now.kept (move_writes a.opened.info.layout (drop at now.kept) a.opened.moves)
        ∙ ap (λ (ws : List ℕ). recovered ws a.opened) s.rest

    made_all : AreMade old.kept new.kept (s.links ++ record { at = at; opened = a.opened } ∷ [])
    made_all =
        made_more old.kept new.kept s.links (record { at = at; opened = a.opened }) (made_same old.kept now.kept new.kept parent first s.links at s.joined front s.there)
        (ap (take (a.opened.info.layout.size / 8)) here_made)

    -- the arenas go on
    pub goes_on : state.info.next ≢ 0 → length old.kept % 512 ≡ 0 → first % 512 ≡ 0
        → SoFar old fuse first parent new left' (at + state.info.next / 8) (states ++ state ∷ [])
    goes_on some to from =
        let some' : a.opened.info.next ≢ 0 = λ e. some (next_is ∙ e) in
        let size_is : state.info.next ≡ a.opened.info.layout.size = next_is ∙ l.next_is some' in
        let at_is : at + a.opened.info.next / 8 ≡ at + state.info.next / 8 = ap (λ (n : ℕ). at + n / 8) (sym next_is) in
        let end_is : at + a.opened.info.layout.size / 8 ≡ at + state.info.next / 8 = ap (λ (n : ℕ). at + n / 8) (sym size_is) in
        let joined : Joined old.kept parent first (s.links ++ record { at = at; opened = a.opened } ∷ []) (at + a.opened.info.next / 8) =
        joined_more old.kept parent first s.links at a.opened s.joined (omega (arith, s.inside)) read some' in
        let again : Joined new.kept parent first (map link_made s.links ++ record { at = at; opened = with_all_made a.opened } ∷ []) (at + a.opened.info.next / 8) =
        joined_more new.kept parent first (map link_made s.links) at (with_all_made a.opened) again_before (omega (arith, s.inside, s.count, same_count)) again_here some' in
        let f : Far first (s.links ++ record { at = at; opened = a.opened } ∷ []) (at + a.opened.info.next / 8) =
        far old.kept parent first (s.links ++ record { at = at; opened = a.opened } ∷ []) (at + a.opened.info.next / 8) joined in
        record {
          links = s.links ++ record { at = at; opened = a.opened } ∷ [];
          joined = subst (λ (end : ℕ). Joined old.kept parent first (s.links ++ record { at = at; opened = a.opened } ∷ []) end) at_is joined;
          again = subst (λ (ls : List Link). Joined new.kept parent first ls (at + state.info.next / 8)) (sym (map-append link_made s.links (record { at = at; opened = a.opened } ∷ [])))
              (subst (λ (end : ℕ). Joined new.kept parent first (map link_made s.links ++ record { at = at; opened = with_all_made a.opened } ∷ []) end) at_is again);
          states_are = states_more;
          made = steps_one new left' a.opened made;
          rest = subst (λ (end : ℕ). drop end new.kept ≡ drop end old.kept) end_is back;
          count = same_count ∙ s.count;
          inside = omega (arith, to, f.whole from, at_is, end_is, l.next_inside some');
          settled = o.settled;
          states_open = all_open;
          there = made_all;
        }

    -- this is the last one
    module _ (none : state.info.next ≡ 0) where
      none' : a.opened.info.next ≡ 0
      none' = sym next_is ∙ none

      chain_is : chain_of old.kept parent first ≡ record { links = s.links ++ record { at = at; opened = a.opened } ∷ []; refused = None }
      chain_is = chain_last old.kept parent first s.links at s.joined (omega (arith, s.inside)) a.opened read none'

      pub last_answer : Ok (states ++ state ∷ []) ≡ chain_answer fuse old.kept parent first
      last_answer =
          let one : state ≡ state_at old.kept (record { at = at; opened = a.opened }) = a.state_is ∙ ap (λ (ws : List ℕ). state_of ws a.opened) s.rest in
          sym (
          ap (λ (c : Links). states_from 0 fuse old.kept c.refused c.links) chain_is
          ∙ states_so None (record { at = at; opened = a.opened } ∷ [])
          ∙ ap (with_states states) (one_state old.kept None (length states) left (record { at = at; opened = a.opened }) [] a.lasted
          ∙ (λ i. Ok (sym one i ∷ [])))
          ∙ with_ok states (state ∷ [])
          )

      pub last_made : RecoversChain old new fuse left' parent first
      last_made = all_made_by old new fuse left' parent first (s.links ++ record { at = at; opened = a.opened } ∷ []) None true chain_is (steps_one new left' a.opened made)

      pub last_again : ChainOpensAgain old.kept new.kept parent first
      last_again =
          chain_last new.kept parent first (map link_made s.links) at again_before (omega (arith, s.inside, s.count, same_count)) (with_all_made a.opened) again_here none'
          ∙ (λ i. record { links = sym (map-append link_made s.links (record { at = at; opened = a.opened } ∷ [])) i; refused = None })
          ∙ (λ i. record { links = map link_made (sym chain_is i).links; refused = None })

      pub last_found : chain_answer None new.kept parent first ≡ Ok (map found_again (states ++ state ∷ []))
      last_found =
          ap (λ (c : Links). states_from 0 None new.kept c.refused c.links) last_again
          ∙ ap (λ (c : Links). states_from 0 None new.kept None (map link_made c.links)) chain_is
          ∙ all_states 0 new.kept (map link_made (s.links ++ record { at = at; opened = a.opened } ∷ []))
          ∙ ap (λ (ss : List ArenaState). Ok ss) (found_all old.kept new.kept (s.links ++ record { at = at; opened = a.opened } ∷ []) made_all ∙ ap (map found_again) (sym states_more))

  -- ---- it didn't open

  module _ (new : Words) (left' : Option ℕ) (fault : OpenRefused) (answer : Err fault ≡ open_answer left (drop at now.kept) parent) (made : arena.Recovers now new left left' at parent) where
    why : Refusal left (drop at now.kept) (opening (drop at now.kept) parent) fault
    why = refusal left (drop at now.kept) (opening (drop at now.kept) parent) fault answer

    chain_broken : opening (drop at now.kept) parent ≡ Err fault → chain_of old.kept parent first ≡ record { links = s.links; refused = Some fault }
    chain_broken e = chain_refused old.kept parent first s.links at s.joined (omega (arith, s.inside)) fault (sym read_same ∙ e)

    answer_broken : opening (drop at now.kept) parent ≡ Err fault → Err (record { arena = length states; fault = fault }) ≡ chain_answer fuse old.kept parent first
    answer_broken e = sym (
        ap (λ (c : Links). states_from 0 fuse old.kept c.refused c.links) (chain_broken e)
        ∙ ap (states_from 0 fuse old.kept (Some fault)) (sym (append-nil s.links))
        ∙ states_so (Some fault) []
        ∙ with_err states (record { arena = length states; fault = fault })
        )

    made_broken : opening (drop at now.kept) parent ≡ Err fault → RecoversChain old new fuse left' parent first
    made_broken e =
        let m : Makes now new left left' [] (lasts left 0) =
        subst (λ (o : Result Opened OpenRefused). Makes now new left left' (steps_if at (drop at now.kept) o) (lasts left (length (steps_if at (drop at now.kept) o)))) e made in
        let b : Makes old new fuse left' (chain_steps old.kept s.links ++ []) (lasts left 0) = makes_both old now new fuse left left' (chain_steps old.kept s.links) [] (lasts left 0) s.made m in
        all_made_by old new fuse left' parent first s.links (Some fault) (lasts left 0) (chain_broken e)
        (subst (λ (steps : List Step). Makes old new fuse left' steps (lasts left 0)) (append-nil (chain_steps old.kept s.links)) b)

    module _ (opened : Opened) (is : opening (drop at now.kept) parent ≡ Ok opened) (short : lasts left (2 * length opened.moves) ≡ false) where
      b : Behind old.kept parent first s.links at opened
      b = chain_some old.kept parent first s.links at opened s.joined (omega (arith, s.inside)) (sym read_same ∙ is)

      answer_cut : Err (record { arena = length states; fault = open_refused.PowerCut }) ≡ chain_answer fuse old.kept parent first
      answer_cut = sym (
          ap (λ (c : Links). states_from 0 fuse old.kept c.refused c.links) b.is
          ∙ states_so b.fault (record { at = at; opened = opened } ∷ b.more)
          ∙ ap (with_states states) (one_cut old.kept b.fault (length states) left (record { at = at; opened = opened }) b.more short)
          ∙ with_err states (record { arena = length states; fault = open_refused.PowerCut })
          )

      made_cut : RecoversChain old new fuse left' parent first
      made_cut =
          let m : Makes now new left left' (opened_steps at (drop at now.kept) opened) false = made_of now new left left' at parent opened false is short made in
          let steps_are : (chain_steps old.kept s.links ++ link_steps old.kept (record { at = at; opened = opened })) ++ chain_steps old.kept b.more
          ≡ chain_steps old.kept (s.links ++ record { at = at; opened = opened } ∷ b.more) =
          append_assoc (chain_steps old.kept s.links) (link_steps old.kept (record { at = at; opened = opened })) (chain_steps old.kept b.more)
          ∙ sym (steps_more old.kept s.links (record { at = at; opened = opened }) b.more) in
          all_made_by old new fuse left' parent first (s.links ++ record { at = at; opened = opened } ∷ b.more) b.fault false b.is
          (subst (λ (steps : List Step). Makes old new fuse left' steps false) steps_are
          (makes_cut old new fuse left' (chain_steps old.kept s.links ++ link_steps old.kept (record { at = at; opened = opened })) (chain_steps old.kept b.more) (both new left' opened false m)))

    pub refused_answer : Err (record { arena = length states; fault = fault }) ≡ chain_answer fuse old.kept parent first
    refused_answer = elim why [
      | broken e ↦ answer_broken e
      | cut opened is short fault_is ↦ ap (λ (f : OpenRefused). Err (record { arena = length states; fault = f })) fault_is ∙ answer_cut opened is short
    ]

    pub refused_made : RecoversChain old new fuse left' parent first
    refused_made = elim why [ broken e ↦ made_broken e | cut opened is short fault_is ↦ made_cut opened is short ]

  -- ---- memory ran out

  pub first_made : RecoversFirst (length states) old now fuse left parent first
  first_made =
      let r : Reached old.kept parent first s.links at (length old.kept) = reached old.kept parent (length old.kept) first s.links at s.joined (omega arith) in
      let links_are : take (length states) (chain_of old.kept parent first).links ≡ s.links =
      ap (λ (c : Links). take (length states) c.links) r.is
      ∙ take-append-le (length states) s.links (r_more r.left).links (omega (arith, count_states))
      ∙ take_all (length states) s.links (omega (arith, count_states)) in
      subst (λ (ls : List Link). Makes old now fuse left (chain_steps old.kept ls) true) (sym links_are) s.made
    where
      r_more : ℕ → Links
      r_more n = chain_within n old.kept parent at
