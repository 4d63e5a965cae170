-- Closed arenas, and sessions that have come to their end, give the accounts.
use Rattle.std.proofs.Common.{◌≡◌, ◌⊎◌, inl, inr, ℕ, zero, suc, ◌+◌, ◌<◌, ◌≤◌, Bool, true, false, List, [], ◌∷◌, ◌++◌, length, get_or, map, slice_get, Option, Some, None, refl, sym, ap, ◌∙◌, subst, arith}
use Rattle.std.specs.Prelude.{All, IsSome, IsTrue, Vec, is_some}
use Rattle.std.specs.List.{AllByRecursion}
use Rattle.std.proofs.lemmas.List.{get_or-map, length-map}
use Rattle.std.proofs.lemmas.Option.{none-some, same_Some}
use Rattle.std.proofs.Math.ListN.{get_or-append}
use Rattle.atomic_table.specs.Seated.{TableId}
use Rattle.turn_lock.specs.declared.parted.Parted.{Ghosts}
use Rattle.turn_lock.specs.declared.pass.TurnPass.{TurnPass}
use Rattle.turn_lock.specs.Passes.{number_of, part_of, IsOutside, HasEach}
use Rattle.turn_lock.specs.Rows.{items_at}
use Rattle.turn_lock.proofs.Places.{there}
use Rattle.cut_words.specs.Words.{Words}
use Rattle.arena_open.specs.declared.cell.Cell.{Cell}
use Rattle.arena_open.specs.declared.state.ArenaState.{ArenaState}
use Rattle.arena_open.specs.Moves.{state_of}
use Rattle.arena_open.specs.Reading.{cell_at}
use Rattle.lane_core.specs.declared.arena_words.ArenaWords.{ArenaWords}
use Rattle.lane_core.specs.declared.history.Entry.{Entry as HistoryEntry}
use Rattle.lane_core.specs.declared.in_call.InCall.{InCall}
use Rattle.lane_core.specs.History.{Cells, IsLegal}
use Rattle.lane_core.specs.Reopening.{Reopens, first_cells}
use Rattle.namespace_areas.specs.declared.area.Area.{Area}
use Rattle.namespace_areas.specs.Seen.{AreHeld, AreLeft as AreasLeft, areas_seen, areas_shown, words_of as words_in}
use Rattle.namespace_areas.specs.Steps.{rows_of}
use Rattle.namespace_ops.specs.Entries.{JournalEntry}
use Rattle.namespace_ops.specs.Registered.{Registered, opening_of}
use Rattle.session_parts.specs.declared.parts.CorePart.{CorePart}
use Rattle.session_parts.specs.Parts.{own_stands, part, part_by}
use Rattle.lane_pool.specs.declared.pool.PoolPart.{PoolPart}
use Rattle.lane_pool.specs.declared.sets.PowerOff.{PowerOff}
use Rattle.lane_pool.specs.Parts.{switched_by}
use Rattle.lane_calls.specs.declared.session.Session.{Session}
use Rattle.lane_calls.specs.Sessions.{Know, Parts}
use Rattle.lane_sessions.specs.Ending.{AreArenasLeft, IsOffBy, KnowAll}
use Rattle.lane_sessions.specs.Left.{IsArenaLeft, MayBeLeft}
use Rattle.session_script.specs.declared.script.Script.{Script}
use Rattle.session_account.specs.declared.reply.Reply.{Reply}
use Rattle.session_account.specs.Account.{Accounts, Histories, flights_on, has_cut_entry, replies_at, session_at}
use Rattle.session_account.specs.Going.{known_cores, known_registry}
use Rattle.session_account.specs.Journal.{AreLeft, IsJournal}
use Rattle.session_account.specs.Made.{made_by}
use Rattle.session_account.specs.Orders.{own_entries}
use Rattle.session_account.specs.Sectors.{InHistory}
use Rattle.session_account.specs.Parts as parts
use Rattle.session_account.specs.Parts.{AreClosed, Calls, IsOfCut, PowerPart, RegistryPart, registry_part, ToldOfOne}
use Rattle.session_account.specs.Serving.{Serving, Shape, IsArena, no_serving}
use Rattle.session_account.specs.Survival.{Flight, MayRemain}
use Rattle.session_account.specs.Words.{AreasHold}
use Rattle.session_account.proofs.Following.{accounts_follow, either}
use Rattle.session_account.proofs.Surviving.{survival_follows}
use Rattle.registry_service.specs.Parts.{KnowsOwn}
use Rattle.registry_service.specs.Served.{AreKept}
use Rattle.session_service.specs.declared.ending.Ran.{Ran}
use Rattle.session_service.specs.declared.namespaces.ServedNamespace.{ServedNamespace}
use Rattle.session_service.specs.declared.runner.Runner.{Runner}
use Rattle.session_service.specs.declared.service.Service.{Service}
use Rattle.session_service.specs.Ends.{HaveBoth, two_valued, words_of}
use Rattle.session_service.specs.Made.{IsMade, states_in}
use Rattle.session_service.specs.Namespaces.{arenas_in, number_at, serving_of, servings_of, shape_by}
use Rattle.session_texts.specs.Texts.{replies_text}
use Rattle.session_service.specs.Ran.{HasServed, IsRunArena, in_row, journal_of, texts_of}
use Rattle.session_service.specs.Runners.{AreEnded, IsDone, IsThrough, calls_by, power_by, stands_by, who_by, who_if}
use Rattle.session_service.specs.Services.{all_of, arena_at, arenas_of, no_arena, orders_of}
use Rattle.session_service.proofs.Ends.{either_left, pending_differ}
use Rattle.session_service.proofs.Numbers.{behind, number_there}

-- ---- the arenas of one row

get_there : {A : Type 0} (xs : List A) (i : ℕ) → i < length xs → (x : A) × (slice_get xs i ≡ Some x) × ((d : A) → get_or xs i d ≡ x)
get_there [] i h = absurd (omega (arith, h))
get_there (x ∷ xs) zero h = (x, refl, λ d. refl)
get_there (x ∷ xs) (suc i) h = get_there xs i (omega (arith, h))

heads : {x y : ℕ} {xs ys : List ℕ} → x ∷ xs ≡ y ∷ ys → (x ≡ y) × (xs ≡ ys)
heads e = (cc, cc)

-- arena k of a namespace
pub row_at : {X Z : Type 0} (all : List Serving) (vs : List (Vec X Z)) (place k : ℕ) → map (λ c. length c.items) vs ≡ map (λ s. length s.arenas) all → IsArena all place k
    → (x : X) × (slice_get (items_at vs place) k ≡ Some x) × ((d : X) → get_or (in_row vs) (number_at all place k) d ≡ x)
row_at [] vs place k counts h = absurd (omega (arith, h))
row_at (s ∷ all) [] place k counts h = absurd (cc)
row_at (s ∷ all) (v ∷ vs) zero k counts h =
    let e = (heads counts).0 in
    let x = get_there v.items k (omega (arith, e, h)) in
    (x.0, x.1, λ d. get_or-append v.items (in_row vs) d k (omega (arith, e, h)) ∙ x.2 d)
row_at (s ∷ all) (v ∷ vs) (suc place) k counts h =
    let e = heads counts in
    let r = row_at all vs place k e.1 h in
    (r.0, r.1, λ d. ap (λ (n : ℕ). get_or (v.items ++ in_row vs) (n + number_at all place k) d) (sym e.0) ∙ behind v.items (in_row vs) (number_at all place k) d ∙ r.2 d)

-- as many as arenas
pub counts_at : {X Z : Type 0} (all : List Serving) (vs : List (Vec X Z)) (place : ℕ) → map (λ c. length c.items) vs ≡ map (λ s. length s.arenas) all → length (items_at vs place) ≡ length (get_or all place no_serving).arenas
counts_at [] [] place e = refl
counts_at [] (v ∷ vs) place e = absurd (cc)
counts_at (s ∷ all) [] place e = absurd (cc)
counts_at (s ∷ all) (v ∷ vs) zero e = (heads e).0
counts_at (s ∷ all) (v ∷ vs) (suc place) e = counts_at all vs place (heads e).1

pub same_count : {X Z : Type 0} (all : List Serving) (vs : List (Vec X Z)) → map (λ c. length c.items) vs ≡ map (λ s. length s.arenas) all → length vs ≡ length all
same_count all vs e = let l = ap (λ (ns : List ℕ). length ns) e in let a = length-map vs (λ c. length c.items) in let b = length-map all (λ (s : Serving). length s.arenas) in omega (arith, l, a, b)

pub served_count : (served : List ServedNamespace) (place : ℕ) (n : ServedNamespace) → place < length served → length (get_or (servings_of served) place no_serving).arenas ≡ length (get_or served place n).arenas.items
served_count served place n h =
    ap (λ (s : Serving). length s.arenas) (get_or-map serving_of served place n no_serving h) ∙ length-map (get_or served place n).arenas.items shape_by

-- the state of an arena
pub state_at : (served : List ServedNamespace) (place k : ℕ) (n : ServedNamespace) (a b : ArenaState) → place < length served → k < length (get_or served place n).arenas.items → get_or (states_in served) (number_at (servings_of served) place k) a ≡ get_or (get_or served place n).arenas.items k b
state_at [] place k n a b h g = absurd (omega (arith, h))
state_at (x ∷ served) zero k n a b h g = get_or-append x.arenas.items (states_in served) a k g ∙ default_same x.arenas.items k a b g
  where
    default_same : (xs : List ArenaState) (i : ℕ) (d e : ArenaState) → i < length xs → get_or xs i d ≡ get_or xs i e
    default_same [] i d e h = absurd (omega (arith, h))
    default_same (y ∷ ys) zero d e h = refl
    default_same (y ∷ ys) (suc i) d e h = default_same ys i d e (omega (arith, h))
state_at (x ∷ served) (suc place) k n a b h g =
    let l = length-map x.arenas.items shape_by in
    ap (λ (m : ℕ). get_or (x.arenas.items ++ states_in served) (m + number_at (servings_of served) place k) a) l
    ∙ behind x.arenas.items (states_in served) (number_at (servings_of served) place k) a
    ∙ state_at served place k n a b (omega (arith, h)) g

-- ---- an element that is there

-- whatever stands there is an element
pub get_within : {A : Type 0} (xs : List A) (i : ℕ) (x d : A) → slice_get xs i ≡ Some x → (i < length xs) × (get_or xs i d ≡ x)
get_within [] i x d e = absurd (none-some x e)
get_within (y ∷ ys) zero x d e = (omega arith, same_Some y x e)
get_within (y ∷ ys) (suc i) x d e = let r = get_within ys i x d e in (omega (arith, r.0), r.1)

-- the image of an element
pub map_there : {A B : Type 0} (f : A → B) (xs : List A) (i : ℕ) (y : B) → slice_get (map f xs) i ≡ Some y → (x : A) × (i < length xs) × ((d : A) → get_or xs i d ≡ x) × (f x ≡ y)
map_there f [] i y e = absurd (none-some y e)
map_there f (x ∷ xs) zero y e = (x, omega arith, λ d. refl, same_Some (f x) y e)
map_there f (x ∷ xs) (suc i) y e = let r = map_there f xs i y e in (r.0, omega (arith, r.1), r.2, r.3)

-- ---- the words after a power cut

-- cells that one account allows are those that another does
pub reopens_weaker : (state : ArenaState) (May Might : ℕ → Cell → Type 0) → ((cells : Cells) → ((t : ℕ) → t < state.info.layout.external → May t (cells t)) → (t : ℕ) → t < state.info.layout.external → Might t (cells t))
    → (left : List ℕ) → Reopens state May left → Reopens state Might left
reopens_weaker state May Might weaker left r = record {
  size = r.size;
  fixed = r.fixed;
  opens = λ behind parent arena opens.
      let f = r.opens behind parent arena opens in
      record {
        arena = f.arena;
        opens = f.opens;
        info = f.info;
        contents = weaker (λ t. cell_at f.arena.info.layout (state_of (left ++ behind) f.arena).words t) f.contents;
      };
}

-- ---- a list of what stands at each place

pub tabulate : {A : Type 0} → ℕ → (ℕ → A) → List A
tabulate zero f = []
tabulate (suc n) f = f 0 ∷ tabulate n (λ i. f (suc i))

length_tabulate : {A : Type 0} (n : ℕ) (f : ℕ → A) → length (tabulate n f) ≡ n
unfolding tabulate
length_tabulate zero f = refl
length_tabulate (suc n) f = let l = length_tabulate n (λ i. f (suc i)) in omega (arith, l)

tabulate_at : {A : Type 0} (n : ℕ) (f : ℕ → A) (q : ℕ) (d : A) → q < n → get_or (tabulate n f) q d ≡ f q
unfolding tabulate
tabulate_at zero f q d lt = absurd (omega (arith, lt))
tabulate_at (suc n) f zero d lt = refl
tabulate_at (suc n) f (suc q) d lt = tabulate_at n (λ i. f (suc i)) q d (omega (arith, lt))

-- the lines of all sessions
texts_tabulated : (rs : List Runner) (f : ℕ → List Reply) → ((q : ℕ) (d : Runner) → q < length rs → (get_or rs q d).text.items ≡ replies_text (f q)) → texts_of (map (λ r. r.text) rs) ≡ map replies_text (tabulate (length rs) f)
unfolding tabulate
texts_tabulated [] f each = refl
texts_tabulated (r ∷ rs) f each = λ i. each 0 r (omega arith) i ∷ texts_tabulated rs (λ n. f (suc n)) (λ q d lt. each (suc q) d (omega (arith, lt))) i

-- ---- sessions that have come to their end

-- what stands for the parts of a session that there isn't
abbrev pub no_parts : Parts
no_parts j = record { first = no_arena; mine = part [] []; steps = 0 }

abbrev pub no_power : PowerPart
no_power = record { stopped = None; told = false }

pub who_some : (stopped : Bool) (entries : List JournalEntry) → stopped ≡ true → IsSome (who_by stopped entries)
who_some true entries e = by (has_cut_entry entries)
  where
    by : (b : Bool) → IsSome (who_if b)
    by true = refl
    by false = refl
who_some false entries e = absurd (cc)

-- a value that a test finds
pub some_if : {A : Type 0} (o : Option A) → IsTrue (is_some o) → (x : A) × (o ≡ Some x)
some_if None told = absurd (cc)
some_if (Some x) told = (x, refl)

module _ (service : Service) (script : Script) (rs : List Runner) (ended : AreEnded service script rs) (lasted : All (λ r. r.refused ≡ false) rs) where
  abbrev runner_at : (q : ℕ) → q < length rs → Runner
  runner_at q lt = (there rs q lt).0

  through_at : (q : ℕ) (lt : q < length rs) → IsThrough service script q (runner_at q lt)
  through_at q lt =
      let d = there rs q lt in
      subst (λ (r : Runner). IsThrough service script q r) d.1 ((ended q d.0 lt).done (lasted q d.0 lt))

  done_at : (q : ℕ) (lt : q < length rs) → IsDone service script q (through_at q lt).replies (runner_at q lt)
  done_at q lt = (through_at q lt).done

  -- what a session was answered
  replies_if : (q : ℕ) → (q < length rs) ⊎ (length rs ≤ q) → List Reply
  replies_if q (inl lt) = (through_at q lt).replies
  replies_if q (inr over) = []

  pub replies_by : ℕ → List Reply
  replies_by q = replies_if q (either q (length rs))

  -- what a session knows of each arena, and its part of the pool
  parts_if : (q : ℕ) → (q < length rs) ⊎ (length rs ≤ q) → Parts
  parts_if q (inl lt) = (done_at q lt).known
  parts_if q (inr over) = no_parts

  pub parts_of : ℕ → Parts
  parts_of q = parts_if q (either q (length rs))

  power_if : List JournalEntry → (q : ℕ) → (q < length rs) ⊎ (length rs ≤ q) → PowerPart
  power_if journal q (inl lt) = power_by (done_at q lt).knows.know.pool (own_entries q journal)
  power_if journal q (inr over) = no_power

  pub powers : List JournalEntry → ℕ → PowerPart
  powers journal q = power_if journal q (either q (length rs))

  -- the runner of a session, at its end
  pub record Ending (journal : List JournalEntry) (q : ℕ) : Type 0 where
    pub runner : Runner
    pub is : (d : Runner) → get_or rs q d ≡ runner
    pub replies : List Reply
    pub said : runner.text.items ≡ replies_text replies
    pub done : IsDone service script q replies runner
    pub replies_is : replies_by q ≡ replies
    pub parts_is : parts_of q ≡ done.known
    pub power_is : powers journal q ≡ power_by done.knows.know.pool (own_entries q journal)

  pub ending : (journal : List JournalEntry) (q : ℕ) → q < length rs → Ending journal q
  unfolding parts_of parts_if powers power_if replies_by replies_if
  ending journal q h = by (either q (length rs)) refl
    where
      default_same : (xs : List Runner) (i : ℕ) (x d : Runner) → i < length xs → get_or xs i x ≡ x → get_or xs i d ≡ x
      default_same [] i x d lt e = absurd (omega (arith, lt))
      default_same (y ∷ ys) zero x d lt e = e
      default_same (y ∷ ys) (suc i) x d lt e = default_same ys i x d (omega (arith, lt)) e

      by : (w : (q < length rs) ⊎ (length rs ≤ q)) → either q (length rs) ≡ w → Ending journal q
      by (inl lt) is = record {
        runner = runner_at q lt;
        is = λ d. default_same rs q (runner_at q lt) d lt (there rs q lt).1;
        replies = (through_at q lt).replies;
        said = (through_at q lt).said;
        done = done_at q lt;
        replies_is = ap (replies_if q) is;
        parts_is = ap (parts_if q) is;
        power_is = ap (power_if journal q) is;
      }
      by (inr over) is = absurd (omega (arith, h, over))

  pub know_all : (sessions : List Session) → sessions ≡ map (λ r. r.session) rs → KnowAll service.sectors parts_of sessions
  know_all sessions are q s at =
      let m = map_there (λ (r : Runner). r.session) rs q s (ap (λ (ss : List Session). slice_get ss q) (sym are) ∙ at) in
      let e = ending [] q m.1 in
      let same : e.runner.session ≡ s = ap (λ (r : Runner). r.session) (sym (e.is m.0) ∙ m.2 m.0) ∙ m.3 in
      subst (λ (known : Parts). Know service.sectors q known s) (sym e.parts_is)
      (subst (λ (x : Session). Know service.sectors q e.done.known x) same e.done.knows.know)

  pub order_facts : (q : ℕ) (d : Runner) → q < length rs → IsOutside (orders_of service) (get_or rs q d).orders × (number_of (get_or rs q d).orders ≡ q)
  order_facts q d h =
      let e = ending [] q h in
      subst (λ (r : Runner). IsOutside (orders_of service) r.orders × (number_of r.orders ≡ q)) (sym (e.is d)) (e.done.knows.outside, e.done.knows.orders_number)

  -- no session keeps a set of lanes
  pub all_rest : (sessions : List Session) → sessions ≡ map (λ r. r.session) rs → All (λ s. s.kept ≡ None) sessions
  all_rest sessions are q s h =
      let l = ap length are ∙ length-map rs (λ (r : Runner). r.session) in
      let inside : q < length rs = omega (arith, h, l) in
      let e = ending [] q inside in
      let same : get_or sessions q s ≡ e.runner.session =
      ap (λ (ss : List Session). get_or ss q s) are ∙ get_or-map (λ (r : Runner). r.session) rs q e.runner s inside ∙ ap (λ (r : Runner). r.session) (e.is e.runner) in
      subst (λ (x : Session). x.kept ≡ None) (sym same) e.done.rests

  -- the lines of all sessions are those of what they were answered
  pub all_said : texts_of (map (λ r. r.text) rs) ≡ map replies_text (tabulate (length rs) replies_by)
  all_said = texts_tabulated rs replies_by (λ q d lt.
      let e = ending [] q lt in
      ap (λ (r : Runner). r.text.items) (e.is d) ∙ e.said ∙ ap replies_text (sym e.replies_is))

  -- who was told was told of the one that a session itself switched off
  pub told_of_one : (n : ℕ) → length rs ≡ n → (journal : List JournalEntry) (sessions : List Session) → sessions ≡ map (λ r. r.session) rs → (off : Option PowerOff) → IsOffBy sessions off → ToldOfOne n (powers journal)
  unfolding power_if powers
  told_of_one n count journal sessions are off by_one q told = by (either q (length rs)) refl
    where
      len : length sessions ≡ length rs
      len = ap length are ∙ length-map rs (λ (r : Runner). r.session)

      -- its session
      session_is : (q : ℕ) (h : q < length rs) (d : Session) → get_or sessions q d ≡ (ending journal q h).runner.session
      session_is q h d =
          let e = ending journal q h in
          ap (λ (ss : List Session). get_or ss q d) are ∙ get_or-map (λ (r : Runner). r.session) rs q e.runner d h ∙ ap (λ (r : Runner). r.session) (e.is e.runner)

      stopped : (p : PowerOff) → off ≡ Some p → (r : ℕ) × (r < n) × IsSome (powers journal r).stopped
      stopped p is =
          let a = by_one.by_one p is in
          let r : ℕ = a.0 in
          let h : r < length rs = omega (arith, a.2, len) in
          let e = ending journal r h in
          let session : e.runner.session ≡ a.1 = sym (session_is r h a.1) ∙ a.3 in
          let pool : e.done.knows.know.pool ≡ a.4.0 = same_Some _ _ (sym e.done.knows.know.seated.pool_is ∙ ap (λ (s : Session). part_of s.caller.pool) session ∙ a.4.1) in
          let by_it : is_some (switched_by e.done.knows.know.pool.stop) ≡ true = ap (λ (m : PoolPart). is_some (switched_by m.stop)) pool ∙ ap (λ o. is_some (switched_by o)) a.4.2 in
          (r, omega (arith, h, count), subst (λ (x : PowerPart). IsSome x.stopped) (sym e.power_is) (who_some (is_some (switched_by e.done.knows.know.pool.stop)) (own_entries r journal) by_it))

      by : (w : (q < length rs) ⊎ (length rs ≤ q)) → either q (length rs) ≡ w → (r : ℕ) × (r < n) × IsSome (powers journal r).stopped
      by (inl lt) is =
          let e = ending journal q lt in
          let its = some_if e.done.knows.know.pool.told (subst (λ (x : PowerPart). IsTrue x.told) e.power_is told) in
          let a = by_one.told q e.runner.session (omega (arith, lt, len)) in
          let session : get_or sessions q e.runner.session ≡ e.runner.session = session_is q lt e.runner.session in
          let pool : e.done.knows.know.pool ≡ a.0 = same_Some _ _ (sym e.done.knows.know.seated.pool_is ∙ ap (λ (s : Session). part_of s.caller.pool) (sym session) ∙ a.1) in
          stopped its.0 (a.2 its.0 (ap (λ (m : PoolPart). m.told) (sym pool) ∙ its.1))
      by (inr over) is = absurd (nobody (subst (λ (x : PowerPart). IsTrue x.told) (ap (power_if journal q) is) told))
        where
          nobody : IsTrue false → ⊥
          nobody h = absurd (cc)

-- ---- arenas that are closed

module _ (n : ℕ) (states : List ArenaState) (parts : ℕ → Parts) (count : ℕ) (words : List ArenaWords) (left : AreArenasLeft n states parts count words) (same : length words ≡ length states) where
  -- an arena by its number
  pub record Closed (j : ℕ) : Type 0 where
    pub words_here : ArenaWords
    pub is : (d : ArenaWords) → get_or words j d ≡ words_here
    pub arena : IsArenaLeft n (arena_at states j) (λ q. (parts q j).mine) words_here

  closed_at : (j : ℕ) → j < length words → Closed j
  closed_at j lt =
      let w = get_there words j lt in
      let s = get_there states j (omega (arith, lt, same)) in
      record {
        words_here = w.0;
        is = w.2;
        arena = left.each j (arena_at states j) w.0 (s.1 ∙ ap Some (sym (s.2 no_arena))) w.1;
      }

  history_if : (j : ℕ) → (j < length words) ⊎ (length words ≤ j) → List HistoryEntry
  history_if j (inl lt) = (closed_at j lt).arena.history
  history_if j (inr over) = []

  calls_if : (j : ℕ) → (j < length words) ⊎ (length words ≤ j) → List InCall
  calls_if j (inl lt) = (closed_at j lt).arena.calls
  calls_if j (inr over) = []

  pub history_at : ℕ → List HistoryEntry
  history_at j = history_if j (either j (length words))

  pub calls_at : ℕ → List InCall
  calls_at j = calls_if j (either j (length words))

  -- its history and its calls in flight are these
  pub closing : (j : ℕ) → j < length words → (c : Closed j) × (history_at j ≡ c.arena.history) × (calls_at j ≡ c.arena.calls)
  unfolding history_at history_if calls_at calls_if
  closing j h = by (either j (length words)) refl
    where
      by : (w : (j < length words) ⊎ (length words ≤ j)) → either j (length words) ≡ w → (c : Closed j) × (history_at j ≡ c.arena.history) × (calls_at j ≡ c.arena.calls)
      by (inl lt) is = (closed_at j lt, ap (history_if j) is, ap (calls_if j) is)
      by (inr over) is = absurd (omega (arith, h, over))

  pub have_both : HaveBoth words
  have_both j d lt =
      let c = closed_at j lt in
      subst (λ (w : ArenaWords). length w.seen.items ≡ length w.kept.items) (sym (c.is d)) c.arena.same

-- ---- one session

-- it is told by what its passes know of each arena that there is
same_done : (all : List Serving) (script : Script) (q : ℕ) (replies : List Reply) (a b : RegistryPart) (f g : ℕ → ℕ → CorePart) (v w : PowerPart) → a ≡ b → ((place k : ℕ) → IsArena all place k → f place k ≡ g place k) → v ≡ w
    → parts.IsDone all script q replies a f v → parts.IsDone all script q replies b g w
same_done all script q replies a b f g v w ab fg vw d =
    subst (λ (r : RegistryPart). parts.IsDone all script q replies r g w) ab
    (subst (λ (p : PowerPart). parts.IsDone all script q replies a g p) vw (record {
      cut_last = d.cut_last;
      in_time = d.in_time;
      checked = d.checked;
      kinds = d.kinds;
      commands = d.commands;
      arenas = λ place k is. subst (λ (c : CorePart). InHistory all place k (made_by (session_at script q).calls replies) c.stands) (fg place k is) (d.arenas place k is);
      in_call = λ place k is. subst (λ (c : CorePart). AllByRecursion (IsOfCut all place k (made_by (session_at script q).calls replies) c.stands) c.calls) (fg place k is) (d.in_call place k is);
      told = d.told;
      stopped = d.stopped;
    }))

in_some : {A : Type 0} {x y : A} → Some x ≡ Some y → x ≡ y
in_some e = cc

-- ---- passes that are handed in

module _ {T D : Type 0} {g : Ghosts T D} (f : Runner → TurnPass T D g) (lock : TableId) (rs : List Runner) (facts : (q : ℕ) (d : Runner) → q < length rs → IsOutside lock (f (get_or rs q d)) × (number_of (f (get_or rs q d)) ≡ q)) where
  pub all_outside : All (λ p. IsOutside lock p) (map f rs)
  all_outside q p h =
      let l = length-map rs f in
      let inside : q < length rs = omega (arith, h, l) in
      let d = (there rs q inside).0 in
      subst (λ x. IsOutside lock x) (sym (get_or-map f rs q d p inside)) (facts q d inside).0

  pub has_all : (n : ℕ) → n ≡ length rs → HasEach n (map f rs)
  has_all n same q lt =
      let l = length-map rs f in
      let inside : q < length rs = omega (arith, lt, same) in
      let d = (there rs q inside).0 in
      (q, f (get_or rs q d), omega (arith, inside, l), get_or-map f rs q d (f (get_or rs q d)) inside, (facts q d inside).1)

-- as many arenas as the namespaces have
pub many_arenas : (registry : Registered) (served_all : List ServedNamespace) (script : Script) (service : Service) → IsMade registry served_all script service → length (arenas_in (all_of service)) ≡ length (arenas_of service)
many_arenas registry served_all script service made = sym (ap (λ (xs : List Shape). length xs) made.laid.shapes) ∙ length-map (arenas_of service) shape_by

-- ---- all of them

module _ (registry : Registered) (served_all : List ServedNamespace) (script : Script) (service : Service) (made : IsMade registry served_all script service) (rs : List Runner) (count : length rs ≡ length script.sessions) (ended : AreEnded service script rs) (lasted : All (λ r. r.refused ≡ false) rs)
    (words : List ArenaWords) (left : AreArenasLeft (length script.sessions) (arenas_of service) (parts_of service script rs ended lasted) (length service.sectors.arenas.items) words) (ran : Ran) (in_row_is : in_row ran.arenas.items ≡ words_of words)
    (counts : map (λ c. length c.items) ran.arenas.items ≡ map (λ s. length s.arenas) (all_of service)) (texts_are : ran.texts.items ≡ map (λ r. r.text) rs)
    (owns : All (λ p. KnowsOwn ran.registry p) (map (λ r. r.orders) rs)) (strangers : (q : ℕ) → length script.sessions ≤ q → own_entries q (journal_of ran) ≡ [])
    (told : ToldOfOne (length script.sessions) (powers service script rs ended lasted (journal_of ran))) where
  abbrev all : List Serving
  all = all_of service

  abbrev n : ℕ
  n = length script.sessions

  abbrev journal : List JournalEntry
  journal = journal_of ran

  abbrev all_replies : List (List Reply)
  all_replies = tabulate (length rs) (replies_by service script rs ended lasted)

  abbrev states : List ArenaState
  states = arenas_of service

  abbrev parts_by : ℕ → Parts
  parts_by = parts_of service script rs ended lasted

  abbrev power : ℕ → PowerPart
  power = powers service script rs ended lasted journal

  pub row : length words ≡ length states
  row = left.count ∙ made.made.count

  abbrev histories : Histories
  histories place k = history_at n states parts_by (length service.sectors.arenas.items) words left row (number_at all place k)

  abbrev calls : Calls
  calls place k = calls_at n states parts_by (length service.sectors.arenas.items) words left row (number_at all place k)

  near : (place k : ℕ) → IsArena all place k → number_at all place k < length words
  near place k is = omega (arith, number_there all place k is, many_arenas registry served_all script service made, row)

  abbrev Here : ℕ → ℕ → Type 0
  Here place k = Closed n states parts_by (length service.sectors.arenas.items) words left row (number_at all place k)

  -- arena k of a namespace
  at : (place k : ℕ) → IsArena all place k → (c : Here place k) × (histories place k ≡ c.arena.history) × (calls place k ≡ c.arena.calls)
  at place k is = closing n states parts_by (length service.sectors.arenas.items) words left row (number_at all place k) (near place k is)

  len : length all_replies ≡ n
  len = length_tabulate (length rs) (replies_by service script rs ended lasted) ∙ count

  closed : AreClosed all n journal ran.registry.room histories calls power
  closed = record {
    no_entry = strangers;
    no_stand = λ place k q is over. let x = at place k is in ap (λ (es : List HistoryEntry). own_stands q es) x.1 ∙ x.0.arena.none q over;
    no_call = λ place k is. let x = at place k is in subst (λ (cs : List InCall). AllByRecursion (λ l. l.tag.session < n) cs) (sym x.2) x.0.arena.flying;
    told = told;
  }

  -- what session q came to
  each : (q : ℕ) → q < n → parts.IsDone all script q (replies_at all_replies q) (registry_part journal ran.registry.room q) (λ place k. part_by (histories place k) (calls place k) q) (power q)
  each q lt =
      let inside : q < length rs = omega (arith, lt, count) in
      let e = ending service script rs ended lasted journal q inside in
      let r = e.runner in
      let here : get_or rs q r ≡ r = e.is r in
      let own : KnowsOwn ran.registry r.orders =
      subst (λ p. KnowsOwn ran.registry p) (get_or-map (λ (x : Runner). x.orders) rs q r r.orders inside ∙ ap (λ (x : Runner). x.orders) here) (owns q r.orders (let l = length-map rs (λ (x : Runner). x.orders) in omega (arith, l, inside))) in
      let its : registry_part journal ran.registry.room q ≡ known_registry e.done.orders.entries e.done.orders.room =
      ap (λ (i : ℕ). registry_part journal ran.registry.room i) (sym e.done.knows.orders_number) ∙ own e.done.orders e.done.knows.orders_is in
      let entries : own_entries q journal ≡ e.done.orders.entries = ap (λ (p : RegistryPart). p.entries) its in
      let replies : replies_at all_replies q ≡ e.replies = tabulate_at (length rs) (replies_by service script rs ended lasted) q [] inside ∙ e.replies_is in
      subst (λ (l : List Reply). parts.IsDone all script q l (registry_part journal ran.registry.room q) (λ place k. part_by (histories place k) (calls place k) q) (power q)) (sym replies)
      (same_done all script q e.replies (known_registry e.done.orders.entries e.done.orders.room) (registry_part journal ran.registry.room q) (known_cores (stands_by all e.done.known) (calls_by all e.done.known)) (λ place k. part_by (histories place k) (calls place k) q) (power_by e.done.knows.know.pool e.done.orders.entries) (power q)
      (sym its)
      (λ place k is.
      let x = at place k is in
      sym ((λ i. part_by (x.1 i) (x.2 i) q) ∙ x.0.arena.own q lt ∙ ap (λ (known : Parts). (known (number_at all place k)).mine) e.parts_is))
      (sym (e.power_is ∙ ap (λ (es : List JournalEntry). power_by e.done.knows.know.pool es) entries))
      e.done.done)

  its_accounts : Accounts all script all_replies journal histories
  its_accounts = accounts_follow all script all_replies journal ran.registry.room histories calls power len closed each

  -- the state of an arena as it was opened
  abbrev its_state : ℕ → ℕ → ArenaState
  its_state place k = arena_at states (number_at all place k)

  abbrev its_flights : ℕ → ℕ → List Flight
  its_flights place k = flights_on all place k script all_replies histories

  -- what a power cut leaves of an arena survives by the account
  survives : (place k : ℕ) (is : IsArena all place k) (cells : Cells) → ((t : ℕ) → t < (its_state place k).info.layout.external → MayBeLeft (first_cells (its_state place k)) (at place k is).0.arena.history (at place k is).0.arena.calls t (cells t))
      → (t : ℕ) → t < (its_state place k).info.layout.external → MayRemain (first_cells (its_state place k)) (histories place k) (its_flights place k) t (cells t)
  survives place k is cells may =
      let x = at place k is in
      let first = first_cells (its_state place k) in
      let external : ℕ = (its_state place k).info.layout.external in
      survival_follows all script all_replies journal ran.registry.room histories calls power len closed each place k is first cells external
      (subst (λ (es : List HistoryEntry). (t : ℕ) → t < external → MayBeLeft first es (calls place k) t (cells t)) (sym x.1)
      (subst (λ (cs : List InCall). (t : ℕ) → t < external → MayBeLeft first x.0.arena.history cs t (cells t)) (sym x.2) may))

  -- the words that it leaves
  abbrev words_here : (place k : ℕ) → IsArena all place k → ArenaWords
  words_here place k is = (at place k is).0.words_here

  run_arena : (place k : ℕ) (is : IsArena all place k) → IsRunArena (its_state place k) (histories place k) (its_flights place k) (two_valued (words_here place k is).kept.items (words_here place k is).seen.items)
  run_arena place k is =
      let x = at place k is in
      let w = words_here place k is in
      let state = its_state place k in
      record {
        legal = subst (λ (es : List HistoryEntry). IsLegal (first_cells state) es) (sym x.1) x.0.arena.legal;
        at_cut = record {
          differ = pending_differ w.kept.items w.seen.items;
          due = λ left is_left.
              reopens_weaker state (MayBeLeft (first_cells state) x.0.arena.history x.0.arena.calls) (MayRemain (first_cells state) (histories place k) (its_flights place k)) (survives place k is) left
              (x.0.arena.reopens left (either_left w.kept.items w.seen.items left x.0.arena.same is_left));
        };
      }

  -- they stand at its place
  words_at : (place k : ℕ) (is : IsArena all place k) (d : Words) → get_or (items_at ran.arenas.items place) k d ≡ two_valued (words_here place k is).kept.items (words_here place k is).seen.items
  words_at place k is d =
      let r = row_at all ran.arenas.items place k counts is in
      let j : ℕ = number_at all place k in
      let w = words_here place k is in
      (get_within (items_at ran.arenas.items place) k r.0 d r.1).1
      ∙ sym (r.2 d) ∙ ap (λ (ws : List Words). get_or ws j d) in_row_is
      ∙ get_or-map (λ (w : ArenaWords). two_valued w.kept.items w.seen.items) words j w d (near place k is)
      ∙ ap (λ (w : ArenaWords). two_valued w.kept.items w.seen.items) ((at place k is).0.is w)

  pub its_arenas : (place k : ℕ) (d : ServedNamespace) (state : ArenaState) (words : Words) → place < length served_all → k < length (get_or served_all place d).arenas.items
      → IsRunArena (get_or (get_or served_all place d).arenas.items k state) (histories place k) (flights_on (servings_of served_all) place k script all_replies histories) (get_or (items_at ran.arenas.items place) k words)
  its_arenas place k d state words h g =
      let there' = served_count served_all place d h in
      let is : IsArena all place k = subst (λ (a : List Serving). IsArena a place k) (sym made.all) (omega (arith, there', g)) in
      let arena : arena_at states (number_at all place k) ≡ get_or (get_or served_all place d).arenas.items k state =
      ap (λ (ss : List ArenaState). arena_at ss (number_at all place k)) made.arenas ∙ ap (λ (a : List Serving). arena_at (states_in served_all) (number_at a place k)) made.all ∙ state_at served_all place k d _ state h g in
      subst (λ (a : List Serving). IsRunArena (get_or (get_or served_all place d).arenas.items k state) (histories place k) (flights_on a place k script all_replies histories) (get_or (items_at ran.arenas.items place) k words)) made.all
      (subst (λ (x : Words). IsRunArena (get_or (get_or served_all place d).arenas.items k state) (histories place k) (its_flights place k) x) (sym (words_at place k is words))
      (subst (λ (a : ArenaState). IsRunArena a (histories place k) (its_flights place k) (two_valued (words_here place k is).kept.items (words_here place k is).seen.items)) arena (run_arena place k is)))

  pub has_served : (ran.registry.sets ≡ registry.sets) × AreKept registry.opening ran.registry.areas ran.registry.stopped → IsJournal registry.sets (opening_of registry) script.labelcut journal → (ran.registry.stopped ≡ false → AreLeft registry.sets (opening_of registry) script.labelcut journal (areas_seen ran.registry.areas))
      → (ran.registry.stopped ≡ true → (rows : List (Option (List ℕ))) → AreasLeft ran.registry.areas rows → AreLeft registry.sets (opening_of registry) script.labelcut journal (areas_shown rows))
      → (AreHeld registry.opening → AreasHold registry.sets (opening_of registry) (rows_of registry.opening) script.labelcut journal (map words_in ran.registry.areas)) → HasServed registry served_all script ran
  has_served kept commands on off held = record {
    replies = all_replies;
    texts = ap (λ vs. texts_of vs) texts_are ∙ all_said service script rs ended lasted;
    histories = histories;
    sets = kept.0;
    areas = subst (λ (o : List Area). AreKept o ran.registry.areas ran.registry.stopped) made.areas kept.1;
    commands = commands;
    on = on;
    off = off;
    words = held;
    accounts = subst (λ (a : List Serving). Accounts a script all_replies journal histories) made.all its_accounts;
    places = let c = same_count all ran.arenas.items counts in let e = ap (λ (a : List Serving). length a) made.all in let l = length-map served_all serving_of in omega (arith, c, e, l);
    counts = λ place d h. counts_at all ran.arenas.items place counts ∙ ap (λ (a : List Serving). length (get_or a place no_serving).arenas) made.all ∙ served_count served_all place d h;
    arenas = its_arenas;
  }
