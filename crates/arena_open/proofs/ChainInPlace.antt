-- Arenas that are read without copying their words: the result, and their sectors.
use Rattle.std.proofs.Common.{◌≡◌, ◌≢◌, ℕ, ◌+◌, ◌*◌, ◌/◌, ◌%◌, ◌^◌, ◌<◌, ◌≤◌, List, [], ◌∷◌, ◌++◌, length, map, take, drop, get_or, Option, Some, None, Ok, Err, refl, sym, ap, ◌∙◌, subst, arith}
use Rattle.std.specs.Prelude.{MatchOption, sum_by}
use Rattle.std.specs.List.{All, slice_get}
use Rattle.std.proofs.lemmas.List.{append-nil, length-map, get_or-map, take-map}
use Rattle.std.proofs.lemmas.List.Elements.{All-nil, All-cons, All-append, All-get_or, All-head, All-tail}
use Rattle.std.proofs.lemmas.List.Sums.{sum_by-cons}
use Rattle.cut_words.specs.Words.{Words}
use Rattle.arena_layout.specs.declared.info.Info.{Info}
use Rattle.arena_open.specs.declared.opened.Opened.{Opened}
use Rattle.arena_open.specs.declared.state.ArenaState.{ArenaState}
use Rattle.arena_open.specs.declared.refused.OpenRefused.{OpenRefused}
use Rattle.arena_open.specs.declared.cell.Cell.{Cell}
use Rattle.arena_open.specs.Reading.{cell_at, opening}
use Rattle.arena_open.specs.Moves.{state_of}
use Rattle.arena_open.proofs.Opening.{Sound, sound}
use Rattle.arena_open.specs.Chain.{Link, Links, chain_answer, chain_of, end_of, state_at, states_from}
use Rattle.arena_open.specs.ChainCells.{LiesIn, contents_of, external_of, sectors_of, sizes_of}
use Rattle.arena_open.specs.InPlace.{AreRead, IsFew, IsLink, LiesInLink, external_in}
use Rattle.arena_open.proofs.Own.{Lies, lies}
use Rattle.arena_open.proofs.Joined.{Joined, Far, far, joined_more, chain_last, chain_refused}
use Rattle.arena_open.proofs.ChainAnswering.{with_states, with_ok, with_err, states_on}
use Rattle.arena_open.proofs.ChainSectors.{cell_there, size_there, sized}

-- ---- reading them in order

-- the arenas before a word
pub record ReadSoFar (words : List ℕ) (first : ℕ) (parent : List ℕ) (at : ℕ) (links : List Link) : Type 0 where
  pub joined : Joined words parent first links at
  pub inside : at + 512 ≤ length words
  pub each : All (IsLink words) links

pub read_starts : (words : List ℕ) (first : ℕ) (parent : List ℕ) → first % 512 ≡ 0 → length words % 512 ≡ 0 → first < length words → ReadSoFar words first parent first []
read_starts words first parent from to inside = record { joined = refl; inside = omega (arith, from, to, inside); each = All-nil (IsLink words) }

-- all of them, without a power cut
states_all : (words : List ℕ) (fault : Option OpenRefused) (links : List Link) → states_from 0 None words fault links ≡ with_states (map (state_at words) links) (end_of (length links) fault)
states_all words fault links =
    let count : 0 + length links ≡ length links = omega arith in
    ap (states_from 0 None words fault) (sym (append-nil links)) ∙ states_on words fault links [] 0 None refl
    ∙ ap (λ (k : ℕ). with_states (map (state_at words) links) (end_of k fault)) count

module _ (words : List ℕ) (first : ℕ) (parent : List ℕ) (at : ℕ) (links : List Link) (s : ReadSoFar words first parent at links) where
  pub read_few : 2097152 * length links + first ≤ at
  read_few = (far words parent first links at s.joined).ahead

  module _ (opened : Opened) (is : opening (drop at words) parent ≡ Ok opened) where
    link : Link
    link = record { at = at; opened = opened }

    pub each_more : All (IsLink words) (links ++ record { at = at; opened = opened } ∷ [])
    each_more =
        let here : IsLink words (record { at = at; opened = opened }) = record { inside = omega (arith, s.inside); opened = (parent, is) } in
        All-append (IsLink words) links (record { at = at; opened = opened } ∷ []) s.each (All-cons (IsLink words) (record { at = at; opened = opened }) [] here (All-nil (IsLink words)))

    pub read_on : opened.info.next ≢ 0 → length words % 512 ≡ 0 → first % 512 ≡ 0 → ReadSoFar words first parent (at + opened.info.next / 8) (links ++ record { at = at; opened = opened } ∷ [])
    read_on some to from =
        let l : Lies (length words) at opened = lies words parent at opened (omega (arith, s.inside)) is in
        let joined : Joined words parent first (links ++ record { at = at; opened = opened } ∷ []) (at + opened.info.next / 8) =
        joined_more words parent first links at opened s.joined (omega (arith, s.inside)) is some in
        let f : Far first (links ++ record { at = at; opened = opened } ∷ []) (at + opened.info.next / 8) =
        far words parent first (links ++ record { at = at; opened = opened } ∷ []) (at + opened.info.next / 8) joined in
        record { joined = joined; inside = omega (arith, to, f.whole from, l.next_is some, l.next_inside some); each = each_more }

    pub read_last : opened.info.next ≡ 0 → Ok (map (state_at words) (links ++ record { at = at; opened = opened } ∷ [])) ≡ chain_answer None words parent first
    read_last none =
        let chain : chain_of words parent first ≡ record { links = links ++ record { at = at; opened = opened } ∷ []; refused = None } =
        chain_last words parent first links at s.joined (omega (arith, s.inside)) opened is none in
        sym (
        ap (λ (c : Links). states_from 0 None words c.refused c.links) chain
        ∙ states_all words None (links ++ record { at = at; opened = opened } ∷ [])
        ∙ with_ok (map (state_at words) (links ++ record { at = at; opened = opened } ∷ [])) []
        ∙ ap (λ (ss : List ArenaState). Ok ss) (append-nil (map (state_at words) (links ++ record { at = at; opened = opened } ∷ [])))
        )

    -- the next one begins further on
    pub read_grows : opened.info.next ≢ 0 → at < at + opened.info.next / 8
    read_grows some =
        let l : Lies (length words) at opened = lies words parent at opened (omega (arith, s.inside)) is in
        omega (arith, l.large, l.next_is some)

  pub read_refused : (fault : OpenRefused) → opening (drop at words) parent ≡ Err fault → Err (record { arena = length links; fault = fault }) ≡ chain_answer None words parent first
  read_refused fault is =
      let chain : chain_of words parent first ≡ record { links = links; refused = Some fault } = chain_refused words parent first links at s.joined (omega (arith, s.inside)) fault is in
      sym (
      ap (λ (c : Links). states_from 0 None words c.refused c.links) chain
      ∙ states_all words (Some fault) links
      ∙ with_err (map (state_at words) links) (record { arena = length links; fault = fault })
      )

-- ---- their sectors

-- an arena has few sectors
link_few : (words : List ℕ) (link : Link) → IsLink words link → external_in link ≤ 2 ^ 30
link_few words link is =
    let s : Sound (drop link.at words) is.opened.0 link.opened = sound (drop link.at words) is.opened.0 link.opened is.opened.1 in
    omega (arith, s.arena.sound.layout.internal_is, s.arena.sound.layout.internal_few)

all_to : {A : Type 0} (P Q : A → Type 0) (xs : List A) → ((x : A) → P x → Q x) → All P xs → All Q xs
all_to P Q [] h all = All-nil Q
all_to P Q (x ∷ xs) h all = All-cons Q x xs (h x (All-head P x xs all)) (all_to P Q xs h (All-tail P x xs all))

pub few_links : (words : Words) (links : List Link) → AreRead words links → IsFew links
few_links words links read = record { each = all_to (IsLink words.kept) (λ link. external_in link ≤ 2 ^ 30) links (link_few words.kept) read.each; few = read.few }

pub sum_links : (words : List ℕ) (links : List Link) → sectors_of (map (state_at words) links) ≡ sum_by external_in links
sum_links words [] = refl
sum_links words (link ∷ links) =
    sum_by-cons external_of (state_at words link) (map (state_at words) links) ∙ ap (λ (n : ℕ). external_in link + n) (sum_links words links)
    ∙ sym (sum_by-cons external_in link links)

pub lies_in : (words : List ℕ) (links : List Link) (sector k own : ℕ) → LiesInLink links sector k own → LiesIn (map (state_at words) links) sector k own
lies_in words links sector k own l = record {
  there = omega (arith, l.there, length-map links (state_at words));
  is = l.is ∙ ap (λ (n : ℕ). n + own) (sym (ap sectors_of (take-map (state_at words) k links) ∙ sum_links words (take k links)));
  inside = λ d. subst (λ (state : ArenaState). own < external_of state) (sym (get_or-map (state_at words) links k (blank links l.there) d l.there)) (l.inside (blank links l.there));
}
  where
    blank : (ls : List Link) → k < length ls → Link
    blank [] lt = absurd (omega (arith, lt))
    blank (x ∷ ls) lt = x

-- the search in the arenas, in terms of the states
pub located : (words : List ℕ) (links slice : List Link) (states : List ArenaState) (sector : ℕ) (o : Option (ℕ × ℕ)) → slice ≡ links → map (state_at words) links ≡ states
    → MatchOption o (sum_by external_in slice ≤ sector) (λ place. LiesInLink slice sector place.0 place.1)
    → MatchOption o (sectors_of states ≤ sector) (λ place. LiesIn states sector place.0 place.1)
located words links slice states sector None same view past =
    omega (arith, past, ap (sum_by external_in) same, sum_links words links, ap sectors_of view)
located words links slice states sector (Some place) same view l =
    subst (λ (ss : List ArenaState). LiesIn ss sector place.0 place.1) view
    (lies_in words links sector place.0 place.1 (subst (λ (ls : List Link). LiesInLink ls sector place.0 place.1) same l))

-- ---- one of them

module _ (words : List ℕ) (links : List Link) (states : List ArenaState) (k at : ℕ) (opened : Opened) (view : map (state_at words) links ≡ states) (lt : k < length links)
    (is : record { at = at; opened = opened } ≡ get_or links k (record { at = at; opened = opened })) where
  pub state_is : (d : ArenaState) → get_or states k d ≡ state_of (drop at words) opened
  state_is d =
      ap (λ (ss : List ArenaState). get_or ss k d) (sym view) ∙ get_or-map (state_at words) links k (record { at = at; opened = opened }) d lt
      ∙ ap (state_at words) (sym is)

  module _ (sector own : ℕ) (l : LiesIn states sector k own) where
    pub size_is : get_or (sizes_of states) sector 0 ≡ opened.info.layout.sector
    size_is =
        size_there states sector k own 0 (state_of (drop at words) opened) l
        ∙ ap (λ (state : ArenaState). state.info.layout.sector) (state_is (state_of (drop at words) opened))

    pub cell_is : (d : Cell) → get_or (contents_of states) sector d ≡ cell_at opened.info.layout (state_of (drop at words) opened).words own
    cell_is d =
        cell_there states sector k own d (state_of (drop at words) opened) l
        ∙ ap (λ (state : ArenaState). cell_at state.info.layout state.words own) (state_is (state_of (drop at words) opened))

-- the link at an index
pub link_is : (links slice : List Link) (k at : ℕ) (opened : Opened) (link : Link) → slice ≡ links → link ≡ get_or slice k link → record { at = at; opened = opened } ≡ link
    → record { at = at; opened = opened } ≡ get_or links k (record { at = at; opened = opened })
link_is links slice k at opened link same is view =
    view ∙ is ∙ ap (λ (ls : List Link). get_or ls k link) same ∙ ap (λ (d : Link). get_or links k d) (sym view)

-- few moves are pending in it
pub few_moves : (words : Words) (links : List Link) (k at : ℕ) (opened : Opened) → AreRead words links → k < length links → record { at = at; opened = opened } ≡ get_or links k (record { at = at; opened = opened })
    → length opened.moves ≤ 256
few_moves words links k at opened read lt is =
    let here : IsLink words.kept (get_or links k (record { at = at; opened = opened })) = All-get_or (IsLink words.kept) links k (record { at = at; opened = opened }) lt read.each in
    let link : IsLink words.kept (record { at = at; opened = opened }) = subst (IsLink words.kept) (sym is) here in
    (sound (drop at words.kept) link.opened.0 opened link.opened.1).few

-- the size of a sector, by its arena's info block
pub size_in : (states : List ArenaState) (sector k own : ℕ) (info : Info) → LiesIn states sector k own → ((d : ArenaState) → info ≡ (get_or states k d).info) → Some info.layout.sector ≡ slice_get (sizes_of states) sector
size_in states sector k own info l is =
    let d : ArenaState = some_state states k l.there in
    ap (λ (i : Info). Some i.layout.sector) (is (some_state states k l.there)) ∙ sym (sized states sector k own (some_state states k l.there) l)
  where
    some_state : (ss : List ArenaState) (j : ℕ) → j < length ss → ArenaState
    some_state [] j lt = absurd (omega (arith, lt))
    some_state (x ∷ ss) j lt = x
