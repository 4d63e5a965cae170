-- The arenas of a namespace: UEFI 2.10, section 6.2 (NextOff of the BTT Info Block) and section 6.3 (BTT theory of operation). It
-- is this project's rule to open all arenas in order, and to complete each one's pending moves before the next is read.
use Rattle.std.specs.Prelude.{◌≡◌, ◌≢◌, ℕ, zero, suc, ◌+◌, ◌*◌, ◌/◌, ◌%◌, ◌^◌, ◌<◌, ◌≤◌, ◌==◌, true, if◌then◌else◌, List, [], ◌∷◌, length, take, drop, map, Option, Some, None, Result, Ok, Err}
use Rattle.std.specs.List.{flat_map}
use Rattle.cut_words.specs.Words.{Words, Step}
use Rattle.cut_words.specs.Fuses.{Makes, burnt, lasts}
use Rattle.arena_open.specs.declared.opened.Opened.{Opened}
use Rattle.arena_open.specs.declared.state.ArenaState.{ArenaState}
use Rattle.arena_open.specs.declared.refused.OpenRefused.{OpenRefused}
use Rattle.arena_open.specs.declared.refused.OpenRefused.TheVariants as open_refused
use Rattle.arena_open.specs.Writes.{IsSettled}
use Rattle.arena_open.specs.Reading.{opening}
use Rattle.arena_open.specs.Moves.{opened_steps, state_of, with_all_made}
use Rattle.arena_open.specs.declared.chain_refused.ChainRefused.{ChainRefused}

-- The arenas of a namespace can be opened, if the first one begins at word `first` of its words.
pub record CanOpenChain (first : ℕ) (space : Words) : Type 0 where
  -- each arena's info block lies in the namespace
  pub from : first % 512 ≡ 0
  pub to : length space.kept % 512 ≡ 0
  pub inside : first < length space.kept
  pub small : length space.kept ≤ 2 ^ 52
  -- none of the namespace's words is pending
  pub settled : IsSettled space

-- ---- the chain in the words of a namespace

-- an arena: its first word in the namespace, and its decoded contents
pub record Link : Type 0 where
  pub at : ℕ
  pub opened : Opened

-- the arenas that open, in order, and the fault of the next one, if it is refused
pub record Links : Type 0 where
  pub links : List Link
  pub refused : Option OpenRefused

-- no more arenas
abbrev pub no_more : Links
no_more = record { links = []; refused = None }

-- an arena before the rest
abbrev pub with_link : Link → Links → Links
with_link link behind = record { links = link ∷ behind.links; refused = behind.refused }

-- the next arena begins NextOff bytes after the start of this one; if NextOff is 0 there is none
abbrev pub behind_of : Link → (ℕ → Links) → Links
behind_of link from = if link.opened.info.next == 0 then no_more else from (link.at + link.opened.info.next / 8)

-- the arena at a word, and the rest
abbrev pub linked : ℕ → Result Opened OpenRefused → (ℕ → Links) → Links
linked at (Err fault) from = record { links = []; refused = Some fault }
linked at (Ok opened) from = let link : Link = record { at = at; opened = opened } in with_link link (behind_of link from)

-- the arenas from a word on, at most n of them
unfoldable pub chain_within : ℕ → List ℕ → List ℕ → ℕ → Links
chain_within zero words parent at = no_more
chain_within (suc n) words parent at = linked at (opening (drop at words) parent) (chain_within n words parent)

-- the arenas from a word on; there are no more of them than words
abbrev pub chain_of : List ℕ → List ℕ → ℕ → Links
chain_of words parent first = chain_within (length words) words parent first

-- ---- completing the pending moves

-- two steps for each pending move of an arena, in the namespace's words
abbrev pub link_steps : List ℕ → Link → List Step
link_steps words link = opened_steps link.at (drop link.at words) link.opened

-- one arena after another
abbrev pub chain_steps : List ℕ → List Link → List Step
chain_steps words links = flat_map (link_steps words) links

-- the effect on a namespace's words and on a fuse
abbrev pub RecoversChain : Words → Words → Option ℕ → Option ℕ → List ℕ → ℕ → Type 0
RecoversChain old new fuse left parent first =
    let steps = chain_steps old.kept (chain_of old.kept parent first).links in
    Makes old new fuse left steps (lasts fuse (length steps))

-- only the moves of the first `count` arenas were completed, all of them
abbrev pub RecoversFirst : ℕ → Words → Words → Option ℕ → Option ℕ → List ℕ → ℕ → Type 0
RecoversFirst count old new fuse left parent first =
    Makes old new fuse left (chain_steps old.kept (take count (chain_of old.kept parent first).links)) true

-- ---- the result of opening

abbrev pub state_at : List ℕ → Link → ArenaState
state_at words link = state_of (drop link.at words) link.opened

abbrev pub with_state : ArenaState → Result (List ArenaState) ChainRefused → Result (List ArenaState) ChainRefused
with_state state (Err fault) = Err fault
with_state state (Ok states) = Ok (state ∷ states)

-- after the last arena that opens there is none, or one that is refused
abbrev pub end_of : ℕ → Option OpenRefused → Result (List ArenaState) ChainRefused
end_of k None = Ok []
end_of k (Some fault) = Err (record { arena = k; fault = fault })

-- arena k and the rest: the states if the fuse lasts for two steps a move, else a power cut at the first arena for which it
-- doesn't
abbrev pub states_from : ℕ → Option ℕ → List ℕ → Option OpenRefused → List Link → Result (List ArenaState) ChainRefused
states_from k fuse words fault [] = end_of k fault
states_from k fuse words fault (link ∷ links) =
    if lasts fuse (2 * length link.opened.moves)
    then with_state (state_at words link) (states_from (k + 1) (burnt fuse (2 * length link.opened.moves)) words fault links)
    else Err (record { arena = k; fault = open_refused.PowerCut })

-- the states of all arenas, or the first refusal
abbrev pub chain_answer : Option ℕ → List ℕ → List ℕ → ℕ → Result (List ArenaState) ChainRefused
chain_answer fuse words parent first = let chain = chain_of words parent first in states_from 0 fuse words chain.refused chain.links

-- memory ran out at an arena
abbrev pub wants_memory : ℕ → ChainRefused
wants_memory k = record { arena = k; fault = open_refused.OutOfMemory }

-- the result isn't out of memory
abbrev pub HasMemory : Result (List ArenaState) ChainRefused → Type 0
HasMemory result = (k : ℕ) → result ≢ Err (wants_memory k)

-- ---- after recovery

abbrev pub link_made : Link → Link
link_made link = record { at = link.at; opened = with_all_made link.opened }

-- the same arenas open, with no move pending
abbrev pub ChainOpensAgain : List ℕ → List ℕ → List ℕ → ℕ → Type 0
ChainOpensAgain words now parent first =
    chain_of now parent first ≡ record { links = map link_made (chain_of words parent first).links; refused = None }

-- the state of an arena whose pending moves were made, as it is found if it is opened again
abbrev pub found_again : ArenaState → ArenaState
found_again state = record { info = state.info; words = state.words; lanes = state.lanes; made = 0 }
