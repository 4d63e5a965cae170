-- A call of a session with all that its passes know: it goes on, or comes to its end.
use Rattle.std.proofs.Common.{Global, ◌≡◌, inl, inr, ℕ, ◌+◌, ◌/◌, ◌^◌, ◌<◌, ◌≤◌, Bool, true, false, List, [], ◌∷◌, ◌++◌, length, length-append, get_or, Option, Some, None, refl, sym, ap, ◌∙◌, subst, arith, append-nil}
use Rattle.std.specs.Prelude.{Vec, ◌==◌, ◌*◌, ◌%◌, ◌&&◌, not, if◌then◌else◌, option_to_list, IsSome, is_some}
use Rattle.std.specs.List.{AllByRecursion, cons_option}
use Rattle.std.proofs.lemmas.List.{length-map, get_or-map, get_or_default}
use Rattle.turn_lock.specs.declared.pass.TurnPass.{TurnPass}
use Rattle.turn_lock.specs.Passes.{lock_id, number_of, out_of, part_of, IsOutside, IsSamePass}
use Rattle.arena_open.specs.declared.cell.Cell.{Cell}
use Rattle.lane_core.specs.declared.history.Act.TheVariants as act
use Rattle.lane_core.specs.declared.shape.Shape.{Shape as LaneShape}
use Rattle.namespace_ops.specs.Entries.{JournalEntry}
use Rattle.session_parts.specs.declared.parts.CorePart.{CorePart}
use Rattle.session_parts.specs.declared.parts.Stand.{Stand}
use Rattle.session_parts.specs.Parts.{MayBegin, stand_at}
use Rattle.cut_words.specs.WordBytes.{words_in}
use Rattle.lane_replay.specs.Calls.{bytes_said}
use Rattle.lane_table.specs.declared.session_pass.Pass.{Pass}
use Rattle.lane_table.specs.Kits.{arena_id}
use Rattle.lane_pool.specs.declared.holders.Stop.{Stop}
use Rattle.lane_pool.specs.declared.pool.PoolPart.{PoolPart}
use Rattle.lane_pool.specs.declared.sets.LaneSet.{LaneSet}
use Rattle.lane_pool.specs.declared.sets.Who.TheVariants as who
use Rattle.lane_pool.specs.declared.sets.PowerOff.{PowerOff}
use Rattle.lane_pool.specs.Parts.{CanAsk, HasNoneOut, IsAsked, IsTold, KeepsStopped, switched_by}
use Rattle.lane_pool.specs.Sets.{IsAtPlace}
use Rattle.lane_calls.specs.declared.parts.ArenaPart.{ArenaPart}
use Rattle.lane_calls.specs.declared.session.Sectors.{Sectors}
use Rattle.lane_calls.specs.declared.session.Kept.{Kept}
use Rattle.lane_calls.specs.declared.session.Session.{Session}
use Rattle.lane_calls.specs.Calls as lanes
use Rattle.lane_calls.specs.Calls.{CallGoes, Called, IsNextCall, MayCallAt, MayMakeOne, MayRead, MayWrite, Rests, Spends, SpendsOne, StopsWhenSpent, after, answered, none_at_least, one_at_least, whichever, write_at_least}
use Rattle.lane_calls.specs.Sessions.{AreLaid, HasOut, IsKnown, Know, Parts, made_with, shape_of, with_part}
use Rattle.lane_calls.proofs.Sessions.{with_other, with_same}
use Rattle.session_script.specs.declared.payload.Payload.{Payload}
use Rattle.session_script.specs.declared.payload.Payload.TheVariants as payload
use Rattle.session_script.specs.declared.script.Line.{Line}
use Rattle.session_script.specs.declared.script.Line.TheVariants as line
use Rattle.session_script.specs.declared.script.Order.{Order}
use Rattle.session_script.specs.declared.script.Script.{Script}
use Rattle.session_script.specs.declared.script.SessionLines.{SessionLines}
use Rattle.session_account.specs.declared.reply.Reply.{Reply}
use Rattle.session_account.specs.declared.reply.Reply.TheVariants as reply
use Rattle.session_account.specs.Account.{no_lines, session_at}
use Rattle.session_account.specs.Going.{IsAnswered, IsStopped}
use Rattle.session_account.specs.Made.{Made, is_cut, made, made_by, made_from, on_after}
use Rattle.session_account.specs.Orders.{entry_for}
use Rattle.session_account.specs.Parts.{HasCause, IsOfCut, more}
use Rattle.session_account.specs.Sectors.{act_for, check_of, is_check, IsChecked, on_open, on_spot, size_of, spot_of, stand_as, stand_by, stand_of, stands_of, steps_at, steps_of, words_of, wrong_length}
use Rattle.session_account.specs.Serving.{Serving, Shape, Spot, IsArena, arenas_of as arenas_by_uuid, spot_in}
use Rattle.registry_service.specs.contracts.served.ServedRegistryParted.TheImpl.{ghosts}
use Rattle.registry_service.specs.declared.served.OrdersPart.{OrdersPart}
use Rattle.registry_service.specs.Served.{Served}
use Rattle.registry_service.specs.Parts.{GivesBack, IsOrdered, MayOrder, PartGoes}
use Rattle.registry_service.specs.Switch.{IsCutShort}
use Rattle.registry_service.proofs.Laws.{cuts_have_cause, open_goes_on, orders_answer, orders_stop}
use Rattle.session_texts.specs.Texts.{replies_text}
use Rattle.session_service.specs.declared.finding.FoundSector.{FoundSector}
use Rattle.session_service.specs.declared.runner.Runner.{Runner}
use Rattle.session_service.specs.declared.service.Service.{Service}
use Rattle.session_service.specs.Namespaces.{IsFound, arenas_in, number_at, shape_by}
use Rattle.session_service.specs.Runners.{Goes, IsAt, IsDone, IsEnded, IsNext, IsRefusedBy, IsRunning, IsSpent, Knows, Standing, calls_by, stands_by, steps_by, who_by}
use Rattle.session_service.specs.Services.{IsLaid, all_of, arena_at, arenas_of, no_arena, orders_of}
use Rattle.session_script.specs.Names.{LineHasText}
use Rattle.session_service.proofs.Calls as sectors
use Rattle.session_service.proofs.Numbers.{number_shape, number_there}
use Rattle.session_service.proofs.Standing.{Counts, cause_none, cause_some, counts_fewer, counts_same, cut_behind, ended_standing, labels_spent, next_standing, none_spent, own_spent, rested_standing, steps_more, stopped_standing, whole_fewer}
use mathlib.Core.Logic.{dite}
use native.Mathlib.Decide.{ℕ_discrete}

in_some : {A : Type 0} {x y : A} → Some x ≡ Some y → x ≡ y
in_some e = cc

some_if : (o : Option ℕ) → (o ≡ None → ⊥) → IsSome o
some_if None h = absurd (h refl)
some_if (Some n) h = refl

-- ---- the passes

-- a session that keeps no set has none out
pub none_out : (s : Sectors) (q : ℕ) (parts : Parts) (session : Session) (k : Know s q parts session) → session.kept ≡ None → HasNoneOut k.pool
none_out s q parts session k rests = subst (λ (kept : Option Kept). HasOut 63 kept k.pool) rests k.out

-- one that was told that power is off keeps none
pub told_rests : (s : Sectors) (q : ℕ) (parts : Parts) (session : Session) (k : Know s q parts session) → IsSome k.pool.told → session.kept ≡ None
told_rests s q parts session k told = by session.kept k.out
  where
    by : (kept : Option Kept) → HasOut 63 kept k.pool → kept ≡ None
    by None out = refl
    by (Some kept) held = absurd (let x : false ≡ true = subst (λ (o : Option PowerOff). IsSome o) held.on.0 told in cc)

-- the pool's pass changed, and its part knows the same of sets
abbrev pub know_same : (s : Sectors) (q : ℕ) (parts : Parts) (session session' : Session) (k : Know s q parts session) → session'.number ≡ session.number → session'.passes ≡ session.passes
    → IsSamePass session.caller.pool session'.caller.pool → out_of session'.caller.pool ≡ None → (m' : PoolPart) → part_of session'.caller.pool ≡ Some m'
    → m'.first ≡ k.pool.first → m'.placed ≡ k.pool.placed → m'.hand ≡ k.pool.hand → m'.handed ≡ k.pool.handed → session.kept ≡ None → session'.kept ≡ None → Know s q parts session'
know_same s q parts session session' k number passes pass out m' is first placed hand handed rests rests' = record {
  pool = m';
  seated = record {
    number = number ∙ k.seated.number;
    count = ap (λ ps. length ps.items) passes ∙ k.seated.count;
    outside = (pass.0 ∙ k.seated.outside.0, out);
    turn = pass.1 ∙ k.seated.turn;
    pool_is = is;
    placed = placed ∙ k.seated.placed;
    laid = subst (λ (sets : List LaneSet). AreLaid s.arenas.items sets) (sym first) k.seated.laid;
  };
  out = subst (λ (kept : Option Kept). HasOut 63 kept m') (sym rests') (λ at room e. none_out s q parts session k rests at room (sym hand ∙ e));
  handed = λ x e. let h = k.handed x (sym handed ∙ e) in (h.0, hand ∙ h.1, subst (λ (sets : List LaneSet). IsAtPlace sets h.0 x) (sym first) h.2);
  each = λ j a there.
      let e = k.each j a there in (
        e.0,
        subst (λ (z : List (Option Pass) × Option LaneSet). IsKnown (arena_id a) q (get_or z.0 j None) z.1 j (parts j)) (λ i. ((sym passes i).items, sym handed i)) e.1,
      );
}

-- a session may ask for the power between two calls
pub can_ask : (s : Sectors) (q : ℕ) (parts : Parts) (session : Session) → Know s q parts session → session.kept ≡ None → CanAsk (lock_id s.pool.turn) session.caller.pool
can_ask s q parts session k rests = (k.seated.outside, (k.pool, k.seated.pool_is, (k.seated.placed, none_out s q parts session k rests)))

-- ---- a call

module _ (service : Service) (script : Script) (q : ℕ) (replies : List Reply) (l : Line) (r r' : Runner) (next : IsNext service script q replies l r) where
  abbrev session : SessionLines
  session = session_at script q

  abbrev all : List Serving
  all = all_of service

  abbrev at : IsAt service script q replies r
  at = next.at

  abbrev before : PoolPart
  before = at.knows.know.pool

  abbrev before_is : part_of r.session.caller.pool ≡ Some at.knows.know.pool
  before_is = at.knows.know.seated.pool_is

  module _ (steps : r'.session.caller.steps ≡ r.session.caller.steps) where
    -- it goes on
    pub goes_on : (answer : Reply) (orders' : OrdersPart) (known' : Parts) → is_cut answer ≡ false → (knows : Knows service q orders' known' r') → r'.session.caller.call ≡ r.session.caller.call + 1 → r'.held ≡ on_after r.held l answer
        → Standing all script q (more replies answer) orders' known' knows.know.pool (made_with r'.session.kept) r'.session.caller.left → Goes service script q replies answer r'
    goes_on answer orders' known' uncut knows call held stands = record {
      on = λ _. record {
        orders = orders';
        known = known';
        knows = knows;
        call = let c = at.call in omega (arith, call, c, length-append replies (answer ∷ []));
        steps = steps ∙ at.steps;
        held = held ∙ ap (λ (on : Option (List ℕ)). on_after on l answer) at.held ∙ sym (open_goes_on session replies l answer next.next);
        stands = stands;
      };
      ended = λ e. absurd (let x : false ≡ true = sym uncut ∙ e in cc);
    }

  -- it was cut
  pub stops_at : (orders' : OrdersPart) (known' : Parts) (knows : Knows service q orders' known' r')
      → IsStopped all q (made (length replies) at.orders.held l reply.Cut) at.orders.entries orders'.entries (stands_by all at.known) (stands_by all known')
      → ((place k : ℕ) → IsArena all place k → AllByRecursion (IsOfCut all place k (made_by session.calls (more replies reply.Cut)) (stands_by all known' place k)) (calls_by all known' place k))
      → IsSome knows.know.pool.told → HasCause script session (more replies reply.Cut) orders'.entries (who_by (is_some (switched_by knows.know.pool.stop)) orders'.entries) → IsSpent all script q known' knows.know.pool
      → Goes service script q replies reply.Cut r'
  stops_at orders' known' knows stopped still told cause spent = record {
    on = λ e. absurd (cc);
    ended = λ _. record {
      orders = orders';
      known = known';
      knows = knows;
      rests = told_rests service.sectors q known' r'.session knows.know told;
      spent = spent;
      done = stopped_standing all script q replies at.orders orders' at.known known' at.knows.know.pool knows.know.pool (made_with r.session.kept) (made_with r'.session.kept) r.session.caller.left r'.session.caller.left l reply.Cut at.stands next.next stopped still told cause;
    };
  }

  -- who switched power off, by its own steps
  pub its_cause : (pool' : PoolPart) → part_of r'.session.caller.pool ≡ Some pool' → StopsWhenSpent r.session r'.session
      → HasCause script session (more replies reply.Cut) at.orders.entries (who_by (is_some (switched_by pool'.stop)) at.orders.entries)
  its_cause pool' is (inl kept) =
      let k = kept before before_is in
      let same : pool' ≡ k.0 = in_some (sym is ∙ k.1) in
      cause_none script session (more replies reply.Cut) at.orders.entries (is_some (switched_by pool'.stop))
      (ap (λ (w : PoolPart). is_some (switched_by w.stop)) same ∙ ap is_some k.2 ∙ ap (λ (o : Option Stop). is_some (switched_by o)) at.stands.unstopped)
  its_cause pool' is (inr spent) =
      cause_some script session (more replies reply.Cut) at.orders.entries (is_some (switched_by pool'.stop)) (cut_behind replies)
      (λ _. some_if session.cut (λ e. spent.1 (at.stands.whole e)))
      (λ e. absurd (let x : true ≡ false = sym e ∙ at.stands.uncut in cc))

  pub its_spent : (known' : Parts) (pool' : PoolPart) → part_of r'.session.caller.pool ≡ Some pool' → StopsWhenSpent r.session r'.session → Counts all at.known known' r.session.caller.left r'.session.caller.left → IsSpent all script q known' pool'
  its_spent known' pool' is (inl kept) counts =
      let k = kept before before_is in
      let same : pool' ≡ k.0 = in_some (sym is ∙ k.1) in
      none_spent all script q known' pool' (ap (λ (w : PoolPart). switched_by w.stop) same ∙ k.2 ∙ ap switched_by at.stands.unstopped)
  its_spent known' pool' is (inr spent) counts =
      let same : pool' ≡ spent.0.0 = in_some (sym is ∙ spent.0.1) in
      own_spent all script q r.session.caller.steps at.known known' pool' r.session.caller.left r'.session.caller.left
      (ap (λ (w : PoolPart). switched_by w.stop) same ∙ spent.0.2 ∙ ap (λ (n : ℕ). Some (record { who = who.Session n; steps = r.session.caller.steps })) at.knows.know.seated.number)
      at.steps at.stands.whole spent.1 spent.2 at.stands.counted counts

  -- it has no write in flight
  none_still : (place k : ℕ) → IsArena all place k → AllByRecursion (IsOfCut all place k (made_by session.calls (more replies reply.Cut)) (stands_by all at.known place k)) (calls_by all at.known place k)
  none_still place k is = subst (λ cs. AllByRecursion (IsOfCut all place k (made_by session.calls (more replies reply.Cut)) (stands_by all at.known place k)) cs) (sym (at.stands.free (number_at all place k))) tt

  -- ---- a call that comes to no lane

  module _ (passes : r'.session.passes ≡ r.session.passes) (number : r'.session.number ≡ r.session.number) (steps : r'.session.caller.steps ≡ r.session.caller.steps) (left : r'.session.caller.left ≡ r.session.caller.left)
      (pass : IsSamePass r.session.caller.pool r'.session.caller.pool) (outside : out_of r'.session.caller.pool ≡ None)
      (order_pass : IsSamePass r.orders r'.orders) (order_outside : IsOutside (orders_of service) r'.orders) (rests : r.session.kept ≡ None) (rests' : r'.session.kept ≡ None) where
    abbrev knows_then : (orders' : OrdersPart) → part_of r'.orders ≡ Some orders' → (pool' : PoolPart) → part_of r'.session.caller.pool ≡ Some pool'
        → pool'.first ≡ before.first → pool'.placed ≡ before.placed → pool'.hand ≡ before.hand → pool'.handed ≡ before.handed → Knows service q orders' at.known r'
    knows_then orders' orders_is pool' is first placed hand handed = record {
      know = know_same service.sectors q at.known r.session r'.session at.knows.know number passes pass outside pool' is first placed hand handed rests rests';
      first = at.knows.first;
      outside = order_outside;
      orders_number = order_pass.1 ∙ at.knows.orders_number;
      orders_is = orders_is;
    }

    -- it asked for the power
    abbrev knows_asked : (orders' : OrdersPart) → part_of r'.orders ≡ Some orders' → (pool' : PoolPart) → part_of r'.session.caller.pool ≡ Some pool' → IsAsked before pool' → Knows service q orders' at.known r'
    knows_asked orders' orders_is pool' is asked =
        knows_then orders' orders_is pool' is (ap (λ (m : PoolPart). m.first) asked) (ap (λ (m : PoolPart). m.placed) asked) (ap (λ (m : PoolPart). m.hand) asked) (ap (λ (m : PoolPart). m.handed) asked)

    same_stop : KeepsStopped r.session.caller.pool r'.session.caller.pool → StopsWhenSpent r.session r'.session
    same_stop kept = inl (λ m is. let k = kept m is in (k.0, k.1, ap (λ (x : PoolPart). switched_by x.stop) k.2))

    told_here : (pool' : PoolPart) → part_of r'.session.caller.pool ≡ Some pool' → IsTold r'.session.caller.pool → IsSome pool'.told
    told_here pool' is told = subst (λ (m : PoolPart). IsSome m.told) (in_some (sym told.1 ∙ is)) told.2

    -- power was off before it
    pub off_goes : part_of r'.orders ≡ part_of r.orders → IsTold r'.session.caller.pool → KeepsStopped r.session.caller.pool r'.session.caller.pool → Goes service script q replies reply.Cut r'
    off_goes same told kept =
        let k = kept before before_is in
        stops_at at.orders at.known (knows_asked at.orders (same ∙ at.knows.orders_is) k.0 k.1 k.2)
        (record { cut = refl; commands = inl refl; arenas = λ place k is. inl refl }) none_still (told_here k.0 k.1 told)
        (its_cause k.0 k.1 (same_stop kept)) (its_spent at.known k.0 k.1 (same_stop kept) (counts_same all at.known r.session.caller.left r'.session.caller.left left))

    -- it was answered at no lane
    module _ (answer : Reply) (uncut : is_cut answer ≡ false) (call : r'.session.caller.call ≡ r.session.caller.call + 1) (held : r'.held ≡ on_after r.held l answer) where
      pub answered_goes : (orders' : OrdersPart) → part_of r'.orders ≡ Some orders' → orders'.held ≡ on_after at.orders.held l answer → orders'.began ≡ at.orders.began → at.orders.room ≤ orders'.room + 1
          → IsAnswered all q (made (length replies) at.orders.held l answer) at.orders.entries orders'.entries (stands_by all at.known) (stands_by all at.known) r.session.caller.left r.session.caller.left
          → KeepsStopped r.session.caller.pool r'.session.caller.pool → Goes service script q replies answer r'
      answered_goes orders' orders_is holds began room answers kept =
          let k = kept before before_is in
          goes_on steps answer orders' at.known uncut (knows_asked orders' orders_is k.0 k.1 k.2) call held
          (next_standing all script q replies at.orders orders' at.known at.known before k.0 (made_with r.session.kept) (made_with r'.session.kept) r.session.caller.left r'.session.caller.left l answer at.stands next.next
          (subst (λ (n : Option ℕ). IsAnswered all q (made (length replies) at.orders.held l answer) at.orders.entries orders'.entries (stands_by all at.known) (stands_by all at.known) r.session.caller.left n) (sym left) answers)
          at.stands.free holds began room
          (λ n e. at.stands.going n (sym (ap (λ (m : PoolPart). m.hand) k.2) ∙ e))
          (let same = ap (λ (m : PoolPart). m.left) k.2 in let none = ap made_with rests in let none' = ap made_with rests' in omega (arith, same, none, none')) (ap (λ (m : PoolPart). m.stop) k.2)
          (λ e. left ∙ e) (counts_same all at.known r.session.caller.left r'.session.caller.left left))

    -- ---- an order

    module _ (o : Order) (is_order : l ≡ line.Order o) where
      at_most_one : (x : Option JournalEntry) → length (option_to_list x) ≤ 1
      at_most_one None = omega arith
      at_most_one (Some e) = omega arith

      -- an order with this number, of this session
      its_order : (call n : ℕ) (answer : Reply) (m' : OrdersPart) → call ≡ length replies → n ≡ q → IsOrdered n call o answer at.orders m' → IsOrdered q (length replies) o answer at.orders m'
      its_order call n answer m' c e is = subst (λ (z : ℕ × ℕ). IsOrdered z.0 z.1 o answer at.orders m') (λ i. (e i, c i)) is

      pub order_goes : (answer : Reply) → is_cut answer ≡ false → r'.session.caller.call ≡ r.session.caller.call + 1 → r'.held ≡ on_after r.held (line.Order o) answer
          → PartGoes (IsOrdered (number_of r.orders) r.session.caller.call o answer) r.orders r'.orders → KeepsStopped r.session.caller.pool r'.session.caller.pool → Goes service script q replies answer r'
      order_goes answer uncut call held goes kept =
          let g = goes at.orders at.knows.orders_is in
          let is = its_order r.session.caller.call (number_of r.orders) answer g.0 at.call at.knows.orders_number g.2 in
          let room : at.orders.room ≤ g.0.room + 1 = let x = is.room in let y = at_most_one (entry_for q (made (length replies) at.orders.held (line.Order o) answer)) in omega (arith, x, y) in
          answered_goes answer uncut call (held ∙ ap (λ (x : Line). on_after r.held x answer) (sym is_order)) g.0 g.1
          (is.held ∙ ap (λ (x : Line). on_after at.orders.held x answer) (sym is_order)) is.began room
          (subst (λ (x : Line). IsAnswered all q (made (length replies) at.orders.held x answer) at.orders.entries g.0.entries (stands_by all at.known) (stands_by all at.known) r.session.caller.left r.session.caller.left) (sym is_order)
          (orders_answer all q (length replies) o answer at.orders g.0 (stands_by all at.known) r.session.caller.left is uncut))
          kept

      pub order_stops : IsCutShort (number_of r.orders) r.session.caller.call o r.orders r'.orders r.session.caller.pool r'.session.caller.pool → IsTold r'.session.caller.pool → Goes service script q replies reply.Cut r'
      order_stops (inl first) told = off_goes first.0 told first.1
      order_stops (inr within) told =
          let g = within.1 at.orders at.knows.orders_is in
          let is = its_order r.session.caller.call (number_of r.orders) reply.Cut g.0 at.call at.knows.orders_number g.2.0 in
          let k = within.2 before before_is in
          let why = cuts_have_cause q (length replies) o at.orders g.0 is in
          let stopped = subst (λ (x : Line). IsStopped all q (made (length replies) at.orders.held x reply.Cut) at.orders.entries g.0.entries (stands_by all at.known) (stands_by all at.known)) (sym is_order)
          (orders_stop all q (length replies) o at.orders g.0 (stands_by all at.known) (inr is)) in
          stops_at g.0 at.known
          (knows_then g.0 g.1 k.0 k.1 (ap (λ (m : PoolPart). m.first) k.2) (ap (λ (m : PoolPart). m.placed) k.2) (ap (λ (m : PoolPart). m.hand) k.2) (ap (λ (m : PoolPart). m.handed) k.2))
          stopped none_still (told_here k.0 k.1 told)
          (cause_some script session (more replies reply.Cut) g.0.entries (is_some (switched_by k.0.stop)) (cut_behind replies)
          (λ e. absurd (let x : true ≡ false = sym why.1 ∙ e in cc))
          (λ _. subst (λ (x : Option ℕ). IsSome x) at.stands.labelcut why.0))
          (labels_spent all script q within.0 at.known k.0 (ap (λ (m : PoolPart). switched_by m.stop) k.2))

-- ---- a call on a sector that its checks refuse

checked_uncut : (why : Reply) → is_check why ≡ true → is_cut why ≡ false
checked_uncut reply.Done e = refl
checked_uncut (reply.Value c) e = refl
checked_uncut (reply.Range n) e = refl
checked_uncut (reply.Length s h) e = refl
checked_uncut reply.NotOpen e = refl
checked_uncut reply.IsOpen e = refl
checked_uncut (reply.Op f) e = refl
checked_uncut reply.Cut e = absurd (cc)

-- it stands nowhere
abbrev pub StandsNever : Line → Reply → Type 0
StandsNever l why = (shape : Shape) → act_for l why shape ≡ None

pub read_never : (sector : ℕ) (why : Reply) → is_check why ≡ true → StandsNever (line.Read sector) why
read_never sector reply.Done e shape = refl
read_never sector (reply.Value c) e shape = absurd (cc)
read_never sector (reply.Range n) e shape = refl
read_never sector (reply.Length s h) e shape = refl
read_never sector reply.NotOpen e shape = refl
read_never sector reply.IsOpen e shape = refl
read_never sector (reply.Op f) e shape = refl
read_never sector reply.Cut e shape = absurd (cc)

pub write_never : (sector : ℕ) (value : Payload) (why : Reply) → is_check why ≡ true → StandsNever (line.Write sector value) why
write_never sector value reply.Done e shape = absurd (cc)
write_never sector value (reply.Value c) e shape = refl
write_never sector value (reply.Range n) e shape = refl
write_never sector value (reply.Length s h) e shape = refl
write_never sector value reply.NotOpen e shape = refl
write_never sector value reply.IsOpen e shape = refl
write_never sector value (reply.Op f) e shape = refl
write_never sector value reply.Cut e shape = absurd (cc)

never_stands : (all : List Serving) (place k call : ℕ) (held : Option (List ℕ)) (l : Line) (why : Reply) → StandsNever l why → stand_of all place k (made call held l why) ≡ None
never_stands all place k call held l why never = by (spot_of all (made call held l why))
  where
    none_if : (b : Bool) (own : ℕ) → (if b then stand_as call own None else None) ≡ None
    none_if true own = refl
    none_if false own = refl

    by : (s : Option Spot) → stand_by place k (made call held l why) s ≡ None
    by None = refl
    by (Some spot) = ap (λ a. if (spot.place == place) && (spot.arena == k) then stand_as call spot.own a else None) (never spot.shape) ∙ none_if _ spot.own

no_cost : (all : List Serving) (m : Made) → is_check m.reply ≡ true → steps_of all m ≡ 0
no_cost all m e = by (is_cut m.reply) (if is_check m.reply then 0 else steps_at m.line (spot_of all m)) (ap (λ (b : Bool). if b then 0 else steps_at m.line (spot_of all m)) e)
  where
    by : (b : Bool) (x : ℕ) → x ≡ 0 → (if b then 0 else x) ≡ 0
    by true x e = refl
    by false x e = e

pub check_answers : (all : List Serving) (q call : ℕ) (held : Option (List ℕ)) (l : Line) (why : Reply) (entries : List JournalEntry) (stands : ℕ → ℕ → List Stand) (left : Option ℕ) → is_check why ≡ true → check_of all held l ≡ Some why → StandsNever l why
    → entry_for q (made call held l why) ≡ None → IsAnswered all q (made call held l why) entries entries stands stands left left
check_answers all q call held l why entries stands left is check never none = record {
  uncut = checked_uncut why is;
  checked = λ _. subst (λ (o : Option Reply). IsChecked o why) (sym check) refl;
  kind = λ _ e. absurd (let x : true ≡ false = sym is ∙ e in cc);
  commands = sym (ap (λ o. entries ++ option_to_list o) none ∙ append-nil entries);
  arenas = λ place k _. sym (ap (λ o. stands place k ++ option_to_list o) (never_stands all place k call held l why never) ∙ append-nil (stands place k));
  paid = λ n e. (n, e, let z = no_cost all (made call held l why) is in omega (arith, z));
}

-- what `find` refuses is a check
pub open_check : (all : List Serving) (held : Option (List ℕ)) (sector : ℕ) (why : Reply) → on_open all held sector (λ shape. None) ≡ Some why → is_check why ≡ true
open_check all None sector why e = ap is_check (sym (in_some e))
open_check all (Some uuid) sector why e = by (spot_in all uuid sector) e
  where
    by : (s : Option Spot) → on_spot (arenas_by_uuid all uuid) s (λ shape. None) ≡ Some why → is_check why ≡ true
    by None e = ap is_check (sym (in_some e))
    by (Some spot) e = absurd (cc)

pub misfit_check : (said had : ℕ) (why : Reply) → wrong_length said had ≡ Some why → is_check why ≡ true
misfit_check said had why = by (said == had)
  where
    by : (b : Bool) → (if b then None else Some (reply.Length said had)) ≡ Some why → is_check why ≡ true
    by true e = absurd (cc)
    by false e = ap is_check (sym (in_some e))

-- of a session that asked for the power, and was told that it is on
module _ (service : Service) (script : Script) (q : ℕ) (replies : List Reply) (l : Line) (r r' : Runner) (next : IsNext service script q replies l r) (session : r'.session.passes ≡ r.session.passes) (number : r'.session.number ≡ r.session.number)
    (steps : r'.session.caller.steps ≡ r.session.caller.steps) (left : r'.session.caller.left ≡ r.session.caller.left) (pass : IsSamePass r.session.caller.pool r'.session.caller.pool) (outside : out_of r'.session.caller.pool ≡ None)
    (orders : r'.orders ≡ r.orders) (rests : r.session.kept ≡ None) (rests' : r'.session.kept ≡ None) (held : r'.held ≡ r.held) (call : r'.session.caller.call ≡ r.session.caller.call + 1) (kept : KeepsStopped r.session.caller.pool r'.session.caller.pool) where
  check_goes : (why : Reply) → is_check why ≡ true → check_of (all_of service) r.held l ≡ Some why → StandsNever l why → ((call : ℕ) (held : Option (List ℕ)) → entry_for q (made call held l why) ≡ None) → ((held : Option (List ℕ)) → on_after held l why ≡ held)
      → Goes service script q replies why r'
  check_goes why is check never none same =
      let at = next.at in
      let held_is : r.held ≡ at.orders.held = at.held ∙ sym at.stands.held in
      let check' = subst (λ (on : Option (List ℕ)). check_of (all_of service) on l ≡ Some why) held_is check in
      answered_goes service script q replies l r r' next session number steps left pass outside (subst (λ p. IsSamePass r.orders p) (sym orders) (refl, refl)) (subst (λ p. IsOutside (orders_of service) p) (sym orders) at.knows.outside) rests rests'
      why (checked_uncut why is) call (held ∙ sym (same r.held)) at.orders (ap (λ p. part_of p) orders ∙ at.knows.orders_is) (sym (same at.orders.held)) refl (omega arith)
      (check_answers (all_of service) q (length replies) at.orders.held l why at.orders.entries (stands_by (all_of service) at.known) r.session.caller.left is check' never (none (length replies) at.orders.held)) kept

  pub refused_goes : (why : Reply) (x : Line) → x ≡ l → IsRefusedBy (all_of service) r.held x why → Goes service script q replies why r'
  refused_goes why (line.Read sector) is h =
      check_goes why h.0 (subst (λ (x : Line). check_of (all_of service) r.held x ≡ Some why) is h.1) (subst (λ (x : Line). StandsNever x why) is (read_never sector why h.0))
      (λ call held. subst (λ (x : Line). entry_for q (made call held x why) ≡ None) is refl) (λ held. subst (λ (x : Line). on_after held x why ≡ held) is refl)
  refused_goes why (line.Write sector value) is h =
      check_goes why h.0 (subst (λ (x : Line). check_of (all_of service) r.held x ≡ Some why) is h.1) (subst (λ (x : Line). StandsNever x why) is (write_never sector value why h.0))
      (λ call held. subst (λ (x : Line). entry_for q (made call held x why) ≡ None) is refl) (λ held. subst (λ (x : Line). on_after held x why ≡ held) is refl)
  refused_goes why (line.Order o) is h = absurd h

-- ---- a sector that was found

-- the calls that stand have smaller numbers
earlier : (all : List Serving) (place k n call : ℕ) (on : Option (List ℕ)) (lines : List Line) (replies : List Reply) → call + length replies ≤ n → AllByRecursion (λ s. s.call < n) (stands_of all place k (made_from call on lines replies))
earlier all place k n call on lines [] le = tt
earlier all place k n call on [] (a ∷ replies) le = tt
earlier all place k n call on (l ∷ lines) (a ∷ replies) le = one (stand_of all place k (made call on l a)) (its_call (spot_of all (made call on l a))) (earlier all place k n (call + 1) (on_after on l a) lines replies (omega (arith, le)))
  where
    rest : List Stand
    rest = stands_of all place k (made_from (call + 1) (on_after on l a) lines replies)

    Below : Option Stand → Type 0
    Below o = (s : Stand) → o ≡ Some s → s.call < n

    if_acts : (own : ℕ) (b : Bool) (act : Option _) → Below (if b then stand_as call own act else None)
    if_acts own false act s e = absurd (cc)
    if_acts own true None s e = absurd (cc)
    if_acts own true (Some a) s e = let c = ap (λ (s : Stand). s.call) (in_some e) in omega (arith, c, le)

    its_call : (spot : Option Spot) → Below (stand_by place k (made call on l a) spot)
    its_call None s e = absurd (cc)
    its_call (Some spot) s e = if_acts spot.own _ _ s e

    one : (o : Option Stand) → Below o → AllByRecursion (λ s. s.call < n) rest → AllByRecursion (λ s. s.call < n) (cons_option o rest)
    one None below more = more
    one (Some s) below more = (below s refl, more)

-- the arena of a sector
pub layout_is : (service : Service) (laid : IsLaid service) (held : Option (List ℕ)) (sector : ℕ) (f : FoundSector) (found : IsFound (all_of service) held sector f)
    → (number_at (all_of service) found.spot.place found.spot.arena < length (arenas_of service)) × (shape_by (arena_at (arenas_of service) (number_at (all_of service) found.spot.place found.spot.arena)) ≡ found.spot.shape)
layout_is service laid held sector f found =
    let all = all_of service in
    let j : ℕ = number_at all found.spot.place found.spot.arena in
    let arenas = arenas_of service in
    let near = number_there all found.spot.place found.spot.arena found.there in
    let count = ap (λ (xs : List Shape). length xs) laid.shapes in
    let l = length-map arenas shape_by in
    let inside : j < length arenas = omega (arith, near, count, l) in
    let d = shape_by (arena_at arenas j) in (
      inside,
      sym (get_or-map shape_by arenas j _ d inside) ∙ ap (λ (xs : List Shape). get_or xs j d) laid.shapes ∙ number_shape all found.spot.place found.spot.arena d found.there ∙ found.shape_is d,
    )

module _ (service : Service) (script : Script) (q : ℕ) (replies : List Reply) (l : Line) (r : Runner) (next : IsNext service script q replies l r) (sector : ℕ) (f : FoundSector) (found : IsFound (all_of service) r.held sector f) where
  abbrev pub j : ℕ
  j = number_at (all_of service) found.spot.place found.spot.arena

  abbrev standing : IsAt service script q replies r
  standing = next.at

  held_same : r.held ≡ standing.orders.held
  held_same = standing.held ∙ sym standing.stands.held

  shape_here : shape_by (standing.known j).first ≡ found.spot.shape
  shape_here = ap shape_by (standing.knows.first j) ∙ (layout_is service next.laid r.held sector f found).1

  may_begin : MayBegin r.session.caller.call (standing.known j).mine
  may_begin = record {
    free = standing.stands.free j;
    later =
        subst (λ ss. AllByRecursion (λ s. s.call < r.session.caller.call) ss) (sym (standing.stands.at.arenas found.spot.place found.spot.arena found.there))
        (earlier (all_of service) found.spot.place found.spot.arena r.session.caller.call 0 None (session_at script q).calls replies (let c = standing.call in omega (arith, c)));
  }

  -- it knows each arena, and may make a call
  know_here : (k : Know service.sectors r.session.number standing.known r.session) × MayMakeOne r.session.kept k.pool
  know_here = subst (λ (n : ℕ). (k : Know service.sectors n standing.known r.session) × MayMakeOne r.session.kept k.pool) (sym standing.knows.know.seated.number)
      (standing.knows.know, (let c = standing.stands.calls in let n = next.next.0 in omega (arith, c, n), standing.stands.going))

  few : r.session.caller.call + 1 < 2 ^ 32
  few = let c = standing.call in let n = next.next.0 in let s = next.short in omega (arith, c, n, s)

  may_call : (P : ArenaPart → Type 0) → P (standing.known j) → MayCallAt service.sectors f.arena P r.session
  may_call P may = record {
    place_in =
        let near = (layout_is service next.laid r.held sector f found).0 in
        let n = next.laid.count in
        let c = found.number_is in omega (arith, near, n, c);
    parts = standing.known;
    know = know_here.0;
    pool = know_here.1;
    may = subst (λ (i : ℕ). P (standing.known i)) (sym found.number_is) may;
    calls = few;
  }

  sector_here : f.sector < (shape_of (standing.known j)).sectors
  sector_here = let e = ap (λ (s : Shape). s.sectors) shape_here in let lt = found.inside in let s = found.sector_is in omega (arith, e, lt, s)

  bytes_here : (standing.known j).first.info.layout.sector ≡ f.bytes
  bytes_here = ap (λ (s : Shape). s.bytes) shape_here ∙ sym found.bytes_is

  pub may_read : (room : ℕ) → room ≡ f.bytes / 8 → MayCallAt service.sectors f.arena (MayRead r.session.caller.call f.sector room) r.session
  may_read room whole = may_call (MayRead r.session.caller.call f.sector room) (record { may = may_begin; sector_in = sector_here; whole = whole ∙ ap (λ (b : ℕ). b / 8) (sym bytes_here) })

  pub may_write : (words : List ℕ) → 8 * length words ≡ f.bytes → MayCallAt service.sectors f.arena (MayWrite r.session.caller.call f.sector words) r.session
  may_write words whole = may_call (MayWrite r.session.caller.call f.sector words) (record { may = may_begin; sector_in = sector_here; whole = let b = bytes_here in omega (arith, b, whole) })

  -- ---- after it

  module _ (r' : Runner) (step : IsNextCall r.session r'.session) (orders_same : r'.orders ≡ r.orders) (held : r'.held ≡ r.held) where
    firsts : (m : ArenaPart) → m.first ≡ (standing.known j).first → (i : ℕ) → (with_part standing.known j m i).first ≡ arena_at (arenas_of service) i
    firsts m is i = by i ∙ standing.knows.first i
      where
        by : (i : ℕ) → (with_part standing.known j m i).first ≡ (standing.known i).first
        by i = dite (ℕ_discrete i j)
            (λ same. subst (λ (x : ℕ). (with_part standing.known j m x).first ≡ (standing.known x).first) (sym same) (ap (λ (x : ArenaPart). x.first) (with_same standing.known j m) ∙ is))
            (λ other. ap (λ (x : ArenaPart). x.first) (with_other standing.known j i m other))

    -- it knows this of the arena
    module _ (mine : CorePart) (made_steps : ℕ) where
      abbrev mid : Parts
      mid = with_part standing.known j (after (standing.known j) mine made_steps)

      abbrev knows_more : Know service.sectors r.session.number (with_part standing.known j (after (standing.known j) mine made_steps)) r'.session → Knows service q standing.orders (with_part standing.known j (after (standing.known j) mine made_steps)) r'
      knows_more know = record {
        know = subst (λ (n : ℕ). Know service.sectors n (with_part standing.known j (after (standing.known j) mine made_steps)) r'.session) standing.knows.know.seated.number know;
        first = firsts (after (standing.known j) mine made_steps) refl;
        outside = subst (λ p. IsOutside (orders_of service) p) (sym orders_same) standing.knows.outside;
        orders_number = ap (λ p. number_of p) orders_same ∙ standing.knows.orders_number;
        orders_is = ap (λ p. part_of p) orders_same ∙ standing.knows.orders_is;
      }

      more_steps : steps_by (all_of service) mid ≡ steps_by (all_of service) standing.known + made_steps
      more_steps = steps_more standing.known j (length (arenas_in (all_of service))) mine made_steps (number_there (all_of service) found.spot.place found.spot.arena found.there)

      free_still : mine.calls ≡ [] → (i : ℕ) → (with_part standing.known j (after (standing.known j) mine made_steps) i).mine.calls ≡ []
      free_still is i = dite (ℕ_discrete i j)
          (λ same. subst (λ (x : ℕ). (with_part standing.known j (after (standing.known j) mine made_steps) x).mine.calls ≡ []) (sym same) (ap (λ (x : ArenaPart). x.mine.calls) (with_same standing.known j (after (standing.known j) mine made_steps)) ∙ is))
          (λ other. ap (λ (x : ArenaPart). x.mine.calls) (with_other standing.known j i (after (standing.known j) mine made_steps) other) ∙ standing.stands.free i)

    -- what is known of the arena of the sector
    its_call : {least : LaneShape → ℕ} {P : LaneShape → ℕ → CorePart → CorePart → Type 0} → CallGoes service.sectors f.arena least P r.session r'.session → Called service.sectors j least P standing.known r.session r'.session
    its_call {least} {P} goes = subst (λ (i : ℕ). Called service.sectors i least P standing.known r.session r'.session) found.number_is (goes standing.known know_here.0)

    -- it was answered, and stands
    module _ (answer : Reply) (s : Stand) (least : LaneShape → ℕ) (uncut : is_cut answer ≡ false) (stays : (on : Option (List ℕ)) → on_after on l answer ≡ on) (spent : SpendsOne r.session r'.session)
        (c : Called service.sectors j least (whichever (λ m m'. m' ≡ answered s m)) standing.known r.session r'.session) where
      answers : IsAnswered (all_of service) q (made (length replies) r.held l answer) standing.orders.entries standing.orders.entries (stands_by (all_of service) standing.known) (stands_by (all_of service) (mid c.mine c.made)) r.session.caller.left r'.session.caller.left
          → Goes service script q replies answer r'
      answers stood =
          let knows = knows_more c.mine c.made c.know in
          let went = spent standing.knows.know.pool standing.knows.know.seated.pool_is in
          let its : Spends 1 (made_with r.session.kept) (made_with r'.session.kept) standing.knows.know.pool knows.know.pool =
          subst (λ (m : PoolPart). Spends 1 (made_with r.session.kept) (made_with r'.session.kept) standing.knows.know.pool m) (in_some (sym went.1 ∙ knows.know.seated.pool_is)) went.2 in
          goes_on service script q replies l r r' next step.steps answer standing.orders (mid c.mine c.made) uncut (knows_more c.mine c.made c.know) step.call (held ∙ sym (stays r.held))
          (next_standing (all_of service) script q replies standing.orders standing.orders standing.known (mid c.mine c.made) standing.knows.know.pool knows.know.pool (made_with r.session.kept) (made_with r'.session.kept) r.session.caller.left r'.session.caller.left l answer standing.stands next.next
          (subst (λ (on : Option (List ℕ)). IsAnswered (all_of service) q (made (length replies) on l answer) standing.orders.entries standing.orders.entries (stands_by (all_of service) standing.known) (stands_by (all_of service) (mid c.mine c.made)) r.session.caller.left r'.session.caller.left) held_same stood)
          (free_still c.mine c.made (ap (λ (x : CorePart). x.calls) c.goes)) (sym (stays standing.orders.held)) refl (omega arith)
          (λ n e. standing.stands.going n (its.power.going n e)) (let e = its.counted in omega (arith, e)) its.power.stop
          (whole_fewer c.paid)
          (counts_fewer (all_of service) standing.known (mid c.mine c.made) r.session.caller.left r'.session.caller.left c.made c.paid (more_steps c.mine c.made)))

    pub got_goes : (cell : Cell) → l ≡ line.Read sector → CallGoes service.sectors f.arena one_at_least (whichever (λ m m'. m' ≡ answered (stand_at r.session.caller.call f.sector (act.Read cell)) m)) r.session r'.session
        → SpendsOne r.session r'.session → Goes service script q replies (reply.Value cell) r'
    got_goes cell is goes spent =
        let c = subst (λ (n : ℕ). Called service.sectors j one_at_least (whichever (λ m m'. m' ≡ answered (stand_at n f.sector (act.Read cell)) m)) standing.known r.session r'.session) standing.call (its_call goes) in
        answers (reply.Value cell) (stand_at (length replies) f.sector (act.Read cell)) one_at_least refl (λ on. ap (λ (x : Line). on_after on x (reply.Value cell)) is) spent c
        (subst (λ (x : Line). IsAnswered (all_of service) q (made (length replies) r.held x (reply.Value cell)) standing.orders.entries standing.orders.entries (stands_by (all_of service) standing.known) (stands_by (all_of service) (mid c.mine c.made)) r.session.caller.left r'.session.caller.left) (sym is)
        (sectors.read_answered (all_of service) r.held sector f found standing.known q (length replies) cell standing.orders.entries r.session.caller.left r'.session.caller.left (after (standing.known j) c.mine c.made) c.goes
        (sectors.paid_least 1 c.made r.session.caller.left r'.session.caller.left c.enough c.paid)))

    pub done_goes : (value : Payload) (fits : wrong_length (size_of value f.bytes) f.bytes ≡ None) → l ≡ line.Write sector value
        → CallGoes service.sectors f.arena write_at_least (whichever (λ m m'. m' ≡ answered (stand_at r.session.caller.call f.sector (act.Write (words_of value f.bytes))) m)) r.session r'.session
        → SpendsOne r.session r'.session → Goes service script q replies reply.Done r'
    done_goes value fits is goes spent =
        let c = subst (λ (n : ℕ). Called service.sectors j write_at_least (whichever (λ m m'. m' ≡ answered (stand_at n f.sector (act.Write (words_of value f.bytes))) m)) standing.known r.session r'.session) standing.call (its_call goes) in
        answers reply.Done (stand_at (length replies) f.sector (act.Write (words_of value f.bytes))) write_at_least refl (λ on. ap (λ (x : Line). on_after on x reply.Done) is) spent c
        (subst (λ (x : Line). IsAnswered (all_of service) q (made (length replies) r.held x reply.Done) standing.orders.entries standing.orders.entries (stands_by (all_of service) standing.known) (stands_by (all_of service) (mid c.mine c.made)) r.session.caller.left r'.session.caller.left) (sym is)
        (sectors.write_answered (all_of service) r.held sector f found standing.known value fits q (length replies) standing.orders.entries r.session.caller.left r'.session.caller.left (after (standing.known j) c.mine c.made) shape_here c.goes
        (sectors.paid_least (write_at_least (shape_of (standing.known j))) c.made r.session.caller.left r'.session.caller.left c.enough c.paid)))

    -- it was cut
    module _ (least : LaneShape → ℕ) (P : LaneShape → ℕ → CorePart → CorePart → Type 0) (c : Called service.sectors j least P standing.known r.session r'.session) (told : IsTold r'.session.caller.pool × StopsWhenSpent r.session r'.session) where
      cut_goes : IsStopped (all_of service) q (made (length replies) r.held l reply.Cut) standing.orders.entries standing.orders.entries (stands_by (all_of service) standing.known) (stands_by (all_of service) (mid c.mine c.made))
          → ((p n : ℕ) → IsArena (all_of service) p n → AllByRecursion (IsOfCut (all_of service) p n (made_by (session_at script q).calls (more replies reply.Cut)) (stands_by (all_of service) (mid c.mine c.made) p n)) (calls_by (all_of service) (mid c.mine c.made) p n))
          → Goes service script q replies reply.Cut r'
      cut_goes stopped still =
          let knows = knows_more c.mine c.made c.know in
          stops_at service script q replies l r r' next standing.orders (mid c.mine c.made) (knows_more c.mine c.made c.know)
          (subst (λ (on : Option (List ℕ)). IsStopped (all_of service) q (made (length replies) on l reply.Cut) standing.orders.entries standing.orders.entries (stands_by (all_of service) standing.known) (stands_by (all_of service) (mid c.mine c.made))) held_same stopped)
          still
          (subst (λ (m : PoolPart). IsSome m.told) (in_some (sym told.0.1 ∙ knows.know.seated.pool_is)) told.0.2)
          (its_cause service script q replies l r r' next knows.know.pool knows.know.seated.pool_is told.1)
          (its_spent service script q replies l r r' next (mid c.mine c.made) knows.know.pool knows.know.seated.pool_is told.1
          (counts_fewer (all_of service) standing.known (mid c.mine c.made) r.session.caller.left r'.session.caller.left c.made c.paid (more_steps c.mine c.made)))

    pub read_cut_goes : l ≡ line.Read sector → CallGoes service.sectors f.arena none_at_least (whichever (λ m m'. m' ≡ m)) r.session r'.session → IsTold r'.session.caller.pool × StopsWhenSpent r.session r'.session → Goes service script q replies reply.Cut r'
    read_cut_goes is goes told =
        let c = its_call goes in
        cut_goes none_at_least (whichever (λ m m'. m' ≡ m)) c told
        (sectors.read_stops (all_of service) r.held sector f found standing.known script q replies standing.orders standing.knows.know.pool (made_with r.session.kept) r.session.caller.left held_same standing.stands l next.next (after (standing.known j) c.mine c.made) is c.goes standing.orders.entries)
        (sectors.read_still (all_of service) r.held sector f found standing.known script q replies standing.orders standing.knows.know.pool (made_with r.session.kept) r.session.caller.left held_same standing.stands l next.next (after (standing.known j) c.mine c.made) is c.goes)

    pub write_cut_goes : (value : Payload) (fits : wrong_length (size_of value f.bytes) f.bytes ≡ None) → l ≡ line.Write sector value
        → CallGoes service.sectors f.arena none_at_least (lanes.IsStopped r.session.number r.session.caller.call f.sector (words_of value f.bytes)) r.session r'.session
        → IsTold r'.session.caller.pool × StopsWhenSpent r.session r'.session → Goes service script q replies reply.Cut r'
    write_cut_goes value fits is goes told =
        let c = subst (λ (z : ℕ × ℕ). Called service.sectors j none_at_least (lanes.IsStopped z.0 z.1 f.sector (words_of value f.bytes)) standing.known r.session r'.session) (λ i. (standing.knows.know.seated.number i, standing.call i)) (its_call goes) in
        cut_goes none_at_least (lanes.IsStopped q (length replies) f.sector (words_of value f.bytes)) c told
        (sectors.write_stops (all_of service) r.held sector f found standing.known script q replies standing.orders standing.knows.know.pool (made_with r.session.kept) r.session.caller.left held_same standing.stands l next.next value fits (after (standing.known j) c.mine c.made) (shape_of (standing.known j)) c.made is c.goes standing.orders.entries)
        (sectors.write_still (all_of service) r.held sector f found standing.known script q replies standing.orders standing.knows.know.pool (made_with r.session.kept) r.session.caller.left held_same standing.stands l next.next value fits (after (standing.known j) c.mine c.made) (shape_of (standing.known j)) c.made is c.goes)

-- ---- the registry's pass

pub may_order : (service : Service) (script : Script) (q : ℕ) (replies : List Reply) (r : Runner) → IsAt service script q replies r → length replies ≤ length (session_at script q).calls → MayOrder (orders_of service) r.orders
may_order service script q replies r at few = (at.knows.outside, (at.orders, at.knows.orders_is, let room = at.stands.room in omega (arith, room, few)))

-- a session gives back what it has open, and has come to its end
pub ends_at : (service : Service) (script : Script) (q : ℕ) (replies : List Reply) (r : Runner) (p : TurnPass Served OrdersPart ghosts) → IsAt service script q replies r → r.text.items ≡ replies_text replies → r.session.kept ≡ None
    → length replies ≡ length (session_at script q).calls → IsSamePass r.orders p → out_of p ≡ None → PartGoes (GivesBack (number_of r.orders) r.session.caller.call) r.orders p → IsEnded service script q (record r { orders = p })
ends_at service script q replies r p at said rests last pass outside goes =
    let g = goes at.orders at.knows.orders_is in
    let given : GivesBack q (length (session_at script q).calls) at.orders g.0 = subst (λ (z : ℕ × ℕ). GivesBack z.0 z.1 at.orders g.0) (λ i. (at.knows.orders_number i, (at.call ∙ last) i)) g.2 in
    record {
      number = at.knows.know.seated.number;
      rests = rests;
      done = λ _. record {
        replies = replies;
        said = said;
        done = record {
          orders = g.0;
          known = at.known;
          knows = record {
            know = at.knows.know;
            first = at.knows.first;
            outside = (pass.0 ∙ at.knows.outside.0, outside);
            orders_number = pass.1 ∙ at.knows.orders_number;
            orders_is = g.1;
          };
          rests = rests;
          spent = none_spent (all_of service) script q at.known at.knows.know.pool (ap switched_by at.stands.unstopped);
          done = ended_standing (all_of service) script q replies at.orders g.0 at.known at.knows.know.pool (made_with r.session.kept) r.session.caller.left at.stands last given.last given.entries given.given;
        };
      };
    }

pub asks : (service : Service) (script : Script) (q : ℕ) (replies : List Reply) (r : Runner) → IsAt service script q replies r → r.session.kept ≡ None → CanAsk (lock_id service.sectors.pool.turn) r.session.caller.pool
asks service script q replies r at rests = can_ask service.sectors q at.known r.session at.knows.know rests

-- ---- it gives its set of lanes back

module _ (service : Service) (script : Script) (q : ℕ) (replies : List Reply) (r : Runner) (session' : Session) where
  pub rested_at : IsAt service script q replies r → ((parts : Parts) → Know service.sectors r.session.number parts r.session → Know service.sectors r.session.number parts session') → Rests r.session session' → IsAt service script q replies (record r { session = session' })
  rested_at at knows rests =
      let know : Know service.sectors q at.known session' = subst (λ (n : ℕ). Know service.sectors n at.known session') at.knows.know.seated.number
      (knows at.known (subst (λ (n : ℕ). Know service.sectors n at.known r.session) (sym at.knows.know.seated.number) at.knows.know)) in
      let went = rests.pool at.knows.know.pool at.knows.know.seated.pool_is in
      let none : made_with session'.kept ≡ 0 = ap made_with rests.same.kept in
      let spends : Spends 0 (made_with r.session.kept) (made_with session'.kept) at.knows.know.pool know.pool =
      subst (λ (n : ℕ). Spends 0 (made_with r.session.kept) n at.knows.know.pool know.pool) (sym none)
      (subst (λ (m : PoolPart). Spends 0 (made_with r.session.kept) 0 at.knows.know.pool m) (in_some (sym went.1 ∙ know.seated.pool_is)) went.2) in
      record {
        orders = at.orders;
        known = at.known;
        knows = record { know = know; first = at.knows.first; outside = at.knows.outside; orders_number = at.knows.orders_number; orders_is = at.knows.orders_is };
        call = rests.same.call ∙ at.call;
        steps = rests.same.steps ∙ at.steps;
        held = at.held;
        stands = subst (λ (left : Option ℕ). Standing (all_of service) script q replies at.orders at.known know.pool (made_with session'.kept) left) (sym rests.same.left)
            (rested_standing (all_of service) script q replies at.orders at.known at.knows.know.pool know.pool (made_with r.session.kept) (made_with session'.kept) r.session.caller.left at.stands spends);
      }

pub refused_still : (service : Service) (l : Line) (why : Reply) (r r' : Runner) → r'.held ≡ r.held → IsRefusedBy (all_of service) r.held l why → IsRefusedBy (all_of service) r'.held l why
refused_still service l why r r' held refused = subst (λ (on : Option (List ℕ)). IsRefusedBy (all_of service) on l why) (sym held) refused

-- its next call is still the same
pub still_next : (service : Service) (script : Script) (q : ℕ) (replies : List Reply) (l : Line) (r r' : Runner) → IsNext service script q replies l r → IsAt service script q replies r' → IsNext service script q replies l r'
still_next service script q replies l r r' next at = record { laid = next.laid; at = at; next = next.next; short = next.short; text = next.text }

-- ---- what a checked call on a sector comes to

pub read_refused : (all : List Serving) (held : Option (List ℕ)) (sector : ℕ) (why : Reply) → ((further : Shape → Option Reply) → on_open all held sector further ≡ Some why) → IsRefusedBy all held (line.Read sector) why
read_refused all held sector why check = (open_check all held sector why (check (λ shape. None)), check (λ shape. None))

pub write_refused : (all : List Serving) (held : Option (List ℕ)) (sector : ℕ) (value : Payload) (why : Reply) → ((further : Shape → Option Reply) → on_open all held sector further ≡ Some why) → IsRefusedBy all held (line.Write sector value) why
write_refused all held sector value why check = (open_check all held sector why (check (λ shape. None)), check (λ shape. wrong_length (size_of value shape.bytes) shape.bytes))

pub write_misfits : (all : List Serving) (held : Option (List ℕ)) (sector : ℕ) (value : Payload) (why : Reply) (f : FoundSector) → IsFound all held sector f → wrong_length (size_of value f.bytes) f.bytes ≡ Some why → IsRefusedBy all held (line.Write sector value) why
write_misfits all held sector value why f found e = (misfit_check (size_of value f.bytes) f.bytes why e, sectors.write_checks all held sector f found value ∙ e)

-- ---- an order, whatever its reply is

pub order_comes : (service : Service) (script : Script) (q : ℕ) (replies : List Reply) (o : Order) (r r' : Runner) → IsNext service script q replies (line.Order o) r → r.session.kept ≡ None → r'.session.kept ≡ None → (answer : Reply) → r'.session.passes ≡ r.session.passes → r'.session.number ≡ r.session.number → r'.session.caller.steps ≡ r.session.caller.steps
    → r'.session.caller.left ≡ r.session.caller.left → IsSamePass r.orders r'.orders → out_of r'.orders ≡ None → IsSamePass r.session.caller.pool r'.session.caller.pool → out_of r'.session.caller.pool ≡ None
    → r'.session.caller.call ≡ r.session.caller.call + 1 → r'.held ≡ on_after r.held (line.Order o) answer
    → (is_cut answer ≡ false → PartGoes (IsOrdered (number_of r.orders) r.session.caller.call o answer) r.orders r'.orders × KeepsStopped r.session.caller.pool r'.session.caller.pool)
    → (answer ≡ reply.Cut → IsCutShort (number_of r.orders) r.session.caller.call o r.orders r'.orders r.session.caller.pool r'.session.caller.pool × IsTold r'.session.caller.pool)
    → Goes service script q replies answer r'
order_comes service script q replies o r r' next rests rests' answer passes number steps left order_pass order_outside pass outside call held answered cut = by (is_cut answer) refl
  where
    out : IsOutside (orders_of service) r'.orders
    out = (order_pass.0 ∙ next.at.knows.outside.0, order_outside)

    is_a_cut : (a : Reply) → is_cut a ≡ true → a ≡ reply.Cut
    is_a_cut reply.Cut e = refl
    is_a_cut reply.Done e = absurd (cc)
    is_a_cut (reply.Value c) e = absurd (cc)
    is_a_cut (reply.Range n) e = absurd (cc)
    is_a_cut (reply.Length s h) e = absurd (cc)
    is_a_cut reply.NotOpen e = absurd (cc)
    is_a_cut reply.IsOpen e = absurd (cc)
    is_a_cut (reply.Op f) e = absurd (cc)

    by : (b : Bool) → is_cut answer ≡ b → Goes service script q replies answer r'
    by false e =
        let a = answered e in
        order_goes service script q replies (line.Order o) r r' next passes number steps left pass outside order_pass out rests rests' o refl answer e call held a.0 a.1
    by true e =
        let is = is_a_cut answer e in
        let c = cut is in
        subst (λ (a : Reply). Goes service script q replies a r') (sym is) (order_stops service script q replies (line.Order o) r r' next passes number steps left pass outside order_pass out rests rests' o refl c.0 c.1)

-- ---- a session's loop

pub line_next : (service : Service) (script : Script) (q : ℕ) (replies : List Reply) (r : Runner) (lines : SessionLines) (calls : List Line) (at : ℕ) (l : Line) → IsRunning service script q replies r → q < length script.sessions → lines ≡ get_or script.sessions q lines → calls ≡ lines.calls
    → at ≡ length replies → l ≡ get_or calls at l → length replies < length (session_at script q).calls → IsNext service script q replies l r
line_next service script q replies r lines calls at l running near lines_is calls_is at_is is lt =
    let session : calls ≡ (session_at script q).calls = calls_is ∙ ap (λ (s : SessionLines). s.calls) (lines_is ∙ get_or_default script.sessions q lines no_lines near) in
    let here : get_or (session_at script q).calls (length replies) l ≡ l = sym (is ∙ ap (λ (ls : List Line). get_or ls at l) session ∙ ap (λ (n : ℕ). get_or (session_at script q).calls n l) at_is) in
    record {
      laid = running.laid;
      at = running.at;
      next = (lt, here);
      short = running.short;
      text = subst LineHasText here (running.text (length replies) l lt);
    }

-- ---- values

pub value_is : (value : Payload) (n : ℕ) → words_of value n ≡ words_in (bytes_said n value)
value_is (payload.Fill b) n = refl
value_is (payload.Hex bytes) n = refl

-- a sector has whole words
pub whole_words : (service : Service) (laid : IsLaid service) (held : Option (List ℕ)) (sector : ℕ) (f : FoundSector) → IsFound (all_of service) held sector f → f.bytes % 8 ≡ 0
whole_words service laid held sector f found =
    let j : ℕ = number_at (all_of service) found.spot.place found.spot.arena in
    let at = layout_is service laid held sector f found in
    let w = laid.whole j no_arena at.0 in
    let e = ap (λ (s : Shape). s.bytes) at.1 in
    let b = found.bytes_is in
    let same : (arena_at (arenas_of service) j).info.layout.sector ≡ f.bytes = e ∙ sym b in
    subst (λ (k : ℕ). k % 8 ≡ 0) same w

pub no_cut : (b : Bool) → not b ≡ true → b ≡ false
no_cut true e = absurd (cc)
no_cut false e = refl

pub a_cut : (b : Bool) → not b ≡ false → b ≡ true
a_cut true e = refl
a_cut false e = absurd (cc)

-- only its text changed, whether memory ran out, and the words that it read last
module _ (service : Service) (script : Script) (q : ℕ) (replies : List Reply) (r : Runner) (said : Vec ℕ Global) (refused : Bool) (words : Vec ℕ Global) where
  abbrev known_still : (orders : OrdersPart) (known : Parts) → Knows service q orders known r → Knows service q orders known (record r { text = said; refused = refused; words = words })
  known_still orders known k = record { know = k.know; first = k.first; outside = k.outside; orders_number = k.orders_number; orders_is = k.orders_is }

  pub same_at : IsAt service script q replies r → IsAt service script q replies (record r { text = said; refused = refused; words = words })
  same_at at = record {
    orders = at.orders;
    known = at.known;
    knows = known_still at.orders at.known at.knows;
    call = at.call;
    steps = at.steps;
    held = at.held;
    stands = at.stands;
  }

  pub same_done_at : IsDone service script q replies r → IsDone service script q replies (record r { text = said; refused = refused; words = words })
  same_done_at d = record {
    orders = d.orders;
    known = d.known;
    knows = known_still d.orders d.known d.knows;
    rests = d.rests;
    spent = d.spent;
    done = d.done;
  }
