-- A session goes from call to call, and comes to its end, by what its passes know.
use Rattle.std.proofs.Common.{◌≡◌, ◌≢◌, ◌⊎◌, inl, inr, ℕ, zero, suc, ◌+◌, ◌<◌, ◌≤◌, Bool, true, false, ◌||◌, List, [], ◌∷◌, ◌++◌, length, length-append, Option, Some, None, refl, sym, ap, ◌∙◌, subst, arith}
use Rattle.std.specs.Prelude.{option_to_list, option_map, option_and_then, IsSome, is_some}
use mathlib.Core.Logic.{dite}
use native.Mathlib.Decide.{ℕ_discrete}
use Rattle.std.specs.List.{AllByRecursion}
use Rattle.std.proofs.lemmas.List.Folds.{list_any-append}
use Rattle.namespace_map.specs.declared.commands.Command.{Command}
use Rattle.namespace_map.specs.declared.refused.OpRefused.{OpRefused}
use Rattle.namespace_map.specs.declared.refused.OpRefused.TheVariants as op
use Rattle.namespace_ops.specs.Entries.{JournalEntry}
use Rattle.namespace_ops.specs.Carried as ops
use Rattle.session_script.specs.declared.script.Line.{Line}
use Rattle.session_script.specs.declared.script.Script.{Script}
use Rattle.session_script.specs.declared.script.SessionLines.{SessionLines}
use Rattle.session_account.specs.declared.reply.Reply.{Reply}
use Rattle.session_account.specs.declared.reply.Reply.TheVariants as reply
use Rattle.session_account.specs.Account.{has_cut_entry, session_at}
use Rattle.session_account.specs.Going.{IsAnswered, IsStopped, NextIs}
use Rattle.session_account.specs.Made.{Made, is_cut, has_cut, made, made_by, on_after}
use Rattle.session_account.specs.Orders.{answer_of, asked, entry, entry_for, IsGivenBack}
use Rattle.session_account.specs.Parts as parts
use Rattle.session_account.specs.Parts.{HasCause, IsOfCut, more}
use Rattle.session_account.specs.Going.{known_cores, known_registry}
use Rattle.session_account.specs.Serving.{Serving, IsArena}
use Rattle.session_account.proofs.Going.{goes_on, stops_so, ends_so}
use Rattle.registry_service.specs.declared.served.OrdersPart.{OrdersPart}
use Rattle.registry_service.proofs.Laws.{open_goes_on}
use Rattle.session_parts.specs.declared.parts.CorePart.{CorePart}
use Rattle.lane_pool.specs.declared.holders.Stop.{Stop}
use Rattle.lane_pool.specs.declared.pool.PoolPart.{PoolPart}
use Rattle.lane_pool.specs.declared.sets.PowerOff.{PowerOff}
use Rattle.lane_pool.specs.declared.sets.Who.TheVariants as who
use Rattle.lane_pool.specs.Parts.{switched_by}
use Rattle.lane_calls.specs.declared.parts.ArenaPart.{ArenaPart}
use Rattle.lane_calls.specs.Calls.{IsGoing, Spends, after}
use Rattle.lane_calls.specs.Lanes.{Fewer}
use Rattle.lane_calls.specs.Sessions.{Parts, with_part}
use Rattle.lane_calls.proofs.Sessions.{with_other, with_same}
use Rattle.lane_sessions.specs.Making.{or_zero}
use Rattle.session_service.specs.Runners.{IsSpent, Standing, StaysWhole, calls_by, power_by, stands_by, steps_by, steps_to, who_by, who_if}

-- ---- steps

-- an arena that isn't among the first n
steps_below : (known : Parts) (j n : ℕ) (m : ArenaPart) → n ≤ j → steps_to n (with_part known j m) ≡ steps_to n known
steps_below known j zero m le = refl
steps_below known j (suc n) m le =
    let first = steps_below known j n m (omega (arith, le)) in
    let here = ap (λ (x : ArenaPart). x.steps) (with_other known j n m (λ e. absurd (omega (arith, e, le)))) in
    omega (arith, first, here)

-- of an arena among the first n, the session knows of so many steps more
pub steps_more : (known : Parts) (j n : ℕ) (mine : CorePart) (made : ℕ) → j < n → steps_to n (with_part known j (after (known j) mine made)) ≡ steps_to n known + made
steps_more known j zero mine made lt = absurd (omega (arith, lt))
steps_more known j (suc n) mine made lt = dite (ℕ_discrete n j)
    (λ same.
    let first = steps_below known j n (after (known j) mine made) (omega (arith, same)) in
    let here = ap (λ (i : ℕ). (with_part known j (after (known j) mine made) i).steps) same ∙ ap (λ (x : ArenaPart). x.steps) (with_same known j (after (known j) mine made)) in
    let was = ap (λ (i : ℕ). (known i).steps) same in
    omega (arith, first, here, was))
    (λ other.
    let first = steps_more known j n mine made (let ne = other in omega (arith, lt, ne)) in
    let here = ap (λ (x : ArenaPart). x.steps) (with_other known j n (after (known j) mine made) other) in
    omega (arith, first, here))

-- the steps that went off those that are left are steps that lanes made
abbrev pub Counts : List Serving → Parts → Parts → Option ℕ → Option ℕ → Type 0
Counts all known known' left left' = (m' : ℕ) → left' ≡ Some m' → (m : ℕ) × (left ≡ Some m) × (steps_by all known' + m' ≡ steps_by all known + m)

some_in : {A : Type 0} {x y : A} → Some x ≡ Some y → x ≡ y
some_in e = cc

none_some : {A : Type 0} {x : A} → None ≡ Some x → ⊥
none_some e = cc

pub counts_same : (all : List Serving) (known : Parts) (left left' : Option ℕ) → left' ≡ left → Counts all known known left left'
counts_same all known left left' same m' e = (m', sym same ∙ e, refl)

pub counts_fewer : (all : List Serving) (known known' : Parts) (left left' : Option ℕ) (made : ℕ) → Fewer made left left' → steps_by all known' ≡ steps_by all known + made → Counts all known known' left left'
counts_fewer all known known' left left' made paid more m' e = by left refl
  where
    by : (o : Option ℕ) → left ≡ o → (m : ℕ) × (left ≡ Some m) × (steps_by all known' + m' ≡ steps_by all known + m)
    by None is = absurd (none_some (sym (paid.whole is) ∙ e))
    by (Some l) is =
        let p = paid.fewer l is in
        let same : p.0 ≡ m' = some_in (sym p.1 ∙ e) in
        let sum = p.2 in (l, is, omega (arith, more, same, sum))

pub whole_fewer : {made : ℕ} {left left' : Option ℕ} → Fewer made left left' → StaysWhole left left'
whole_fewer paid e = paid.whole e

-- ---- entries of calls that weren't cut

refused_uncut : (q call : ℕ) (c : Command) (f : OpRefused) → has_cut_entry (option_to_list (option_map (entry q call c) (answer_of (reply.Op f)))) ≡ false
refused_uncut q call c op.NoSuch = refl
refused_uncut q call c op.Exists = refl
refused_uncut q call c (op.NoRegion n) = refl
refused_uncut q call c (op.NoSpace n) = refl
refused_uncut q call c (op.NoSlot n) = refl
refused_uncut q call c (op.Busy n) = refl
refused_uncut q call c op.NotComplete = refl
refused_uncut q call c op.NotSector = refl
refused_uncut q call c (op.BadSize n) = refl
refused_uncut q call c (op.BadName n) = refl
refused_uncut q call c (op.ModuleLabels n) = refl
refused_uncut q call c (op.ReadOnlyLabel n) = refl
refused_uncut q call c op.PowerCut = refl
refused_uncut q call c op.OutOfMemory = refl

answer_uncut : (q call : ℕ) (c : Command) (r : Reply) → is_cut r ≡ false → has_cut_entry (option_to_list (option_map (entry q call c) (answer_of r))) ≡ false
answer_uncut q call c reply.Done u = refl
answer_uncut q call c (reply.Value x) u = refl
answer_uncut q call c (reply.Range n) u = refl
answer_uncut q call c (reply.Length a b) u = refl
answer_uncut q call c reply.NotOpen u = refl
answer_uncut q call c reply.IsOpen u = refl
answer_uncut q call c (reply.Op f) u = refused_uncut q call c f
answer_uncut q call c reply.Cut u = absurd (cc)

entry_uncut : (q call : ℕ) (on : Option (List ℕ)) (l : Line) (r : Reply) → is_cut r ≡ false → has_cut_entry (option_to_list (entry_for q (made call on l r))) ≡ false
entry_uncut q call on l r u = by (asked on l)
  where
    by : (o : Option Command) → has_cut_entry (option_to_list (option_and_then (λ c. option_map (entry q call c) (answer_of r)) o)) ≡ false
    by None = refl
    by (Some c) = answer_uncut q call c r u

or_two : (a b : Bool) → a ≡ false → b ≡ false → (a || b) ≡ false
or_two true b e f = absurd (cc)
or_two false b e f = f

-- ---- one call more

module _ (all : List Serving) (script : Script) (q : ℕ) (replies : List Reply) (orders orders' : OrdersPart) (known known' : Parts) (pool pool' : PoolPart) (used used' : ℕ) (left left' : Option ℕ) (line : Line) (answer : Reply)
    (s : Standing all script q replies orders known pool used left) (next : NextIs (session_at script q) replies line) where
  abbrev call : Made
  call = made (length replies) orders.held line answer

  pub next_standing : IsAnswered all q call orders.entries orders'.entries (stands_by all known) (stands_by all known') left left' → ((j : ℕ) → (known' j).mine.calls ≡ [])
      → orders'.held ≡ on_after orders.held line answer → orders'.began ≡ orders.began → orders.room ≤ orders'.room + 1 → IsGoing pool' → pool.left + used' ≤ pool'.left + used + 1 → pool'.stop ≡ pool.stop → StaysWhole left left'
      → Counts all known known' left left' → Standing all script q (more replies answer) orders' known' pool' used' left'
  next_standing answered free held began room going calls stopped whole counts = record {
    free = free;
    going = going;
    calls = let l = length-append replies (answer ∷ []) in let c = s.calls in omega (arith, l, c, calls);
    held = held ∙ ap (λ (on : Option (List ℕ)). on_after on line answer) s.held ∙ sym (open_goes_on (session_at script q) replies line answer next);
    labelcut = ap (λ b. b.labelcut) began ∙ s.labelcut;
    room = let l = length-append replies (answer ∷ []) in let r = s.room in omega (arith, l, r, room);
    unstopped = stopped ∙ s.unstopped;
    uncut =
        ap has_cut_entry answered.commands ∙ list_any-append (λ (e : JournalEntry). ops.is_cut e.reply) orders.entries (option_to_list (entry_for q call))
        ∙ or_two (has_cut_entry orders.entries) (has_cut_entry (option_to_list (entry_for q call))) s.uncut (entry_uncut q (length replies) orders.held line answer answered.uncut);
    whole = λ e. whole (s.whole e);
    counted = λ n m' cut e. let c = counts m' e in c.2 ∙ s.counted n c.0 cut c.1;
    at =
        goes_on all q (session_at script q) replies orders.entries orders'.entries (stands_by all known) (stands_by all known') left left' line answer s.at next
        (subst (λ (on : Option (List ℕ)). IsAnswered all q (made (length replies) on line answer) orders.entries orders'.entries (stands_by all known) (stands_by all known') left left') s.held answered);
  }

  -- a cut ends it
  pub stopped_standing : IsStopped all q call orders.entries orders'.entries (stands_by all known) (stands_by all known')
      → ((place k : ℕ) → IsArena all place k → AllByRecursion (IsOfCut all place k (made_by (session_at script q).calls (more replies answer)) (stands_by all known' place k)) (calls_by all known' place k))
      → IsSome pool'.told → HasCause script (session_at script q) (more replies answer) orders'.entries (who_by (is_some (switched_by pool'.stop)) orders'.entries)
      → parts.IsDone all script q (more replies answer) (known_registry orders'.entries orders'.room) (known_cores (stands_by all known') (calls_by all known')) (power_by pool' orders'.entries)
  stopped_standing stopped still told cause =
      stops_so all script q replies orders.entries orders'.entries (stands_by all known) (stands_by all known') left line answer orders'.room (calls_by all known') (power_by pool' orders'.entries) s.at next
      (subst (λ (on : Option (List ℕ)). IsStopped all q (made (length replies) on line answer) orders.entries orders'.entries (stands_by all known) (stands_by all known')) s.held stopped)
      still told cause

-- ---- it gives its set of lanes back

module _ (all : List Serving) (script : Script) (q : ℕ) (replies : List Reply) (orders : OrdersPart) (known : Parts) (pool pool' : PoolPart) (used used' : ℕ) (left : Option ℕ) (s : Standing all script q replies orders known pool used left) where
  pub rested_standing : Spends 0 used used' pool pool' → Standing all script q replies orders known pool' used' left
  rested_standing spends = record {
    free = s.free;
    going = λ at e. s.going at (spends.power.going at e);
    calls = let c = s.calls in let e = spends.counted in omega (arith, c, e);
    held = s.held;
    labelcut = s.labelcut;
    room = s.room;
    unstopped = spends.power.stop ∙ s.unstopped;
    uncut = s.uncut;
    whole = s.whole;
    counted = s.counted;
    at = s.at;
  }

-- ---- causes

pub cause_none : (script : Script) (session : SessionLines) (replies : List Reply) (entries : List JournalEntry) (stopped : Bool) → stopped ≡ false → HasCause script session replies entries (who_by stopped entries)
cause_none script session replies entries true e = absurd (cc)
cause_none script session replies entries false e = tt

-- it switched power off
pub cause_some : (script : Script) (session : SessionLines) (replies : List Reply) (entries : List JournalEntry) (stopped : Bool) → has_cut replies ≡ true → (has_cut_entry entries ≡ false → IsSome session.cut) → (has_cut_entry entries ≡ true → IsSome script.labelcut)
    → HasCause script session replies entries (who_by stopped entries)
cause_some script session replies entries false cut its of_labels = tt
cause_some script session replies entries true cut its of_labels = by (has_cut_entry entries) refl
  where
    by : (b : Bool) → has_cut_entry entries ≡ b → HasCause script session replies entries (who_if b)
    by true e = (of_labels e, e)
    by false e = (its e, cut)

true_last : (replies : List Reply) → has_cut (replies ++ reply.Cut ∷ []) ≡ true
true_last [] = refl
true_last (r ∷ rs) = ap (λ (b : Bool). is_cut r || b) (true_last rs) ∙ or_true (is_cut r)
  where
    or_true : (b : Bool) → (b || true) ≡ true
    or_true true = refl
    or_true false = refl

pub cut_behind : (replies : List Reply) → has_cut (more replies reply.Cut) ≡ true
cut_behind replies = true_last replies

-- ---- who switched power off

-- nobody: it didn't
pub none_spent : (all : List Serving) (script : Script) (q : ℕ) (known : Parts) (pool : PoolPart) → switched_by pool.stop ≡ None → IsSpent all script q known pool
none_spent all script q known pool none off e = absurd (none_some (sym none ∙ e))

-- the side of the labels
pub labels_spent : (all : List Serving) (script : Script) (q steps : ℕ) (known : Parts) (pool : PoolPart) → switched_by pool.stop ≡ Some (record { who = who.Labels; steps = steps }) → IsSpent all script q known pool
labels_spent all script q steps known pool is off e = inl (ap (λ (p : PowerOff). p.who) (some_in (sym e ∙ is)))

-- the session itself, with all its steps made
pub own_spent : (all : List Serving) (script : Script) (q steps : ℕ) (known known' : Parts) (pool' : PoolPart) (left left' : Option ℕ)
    → switched_by pool'.stop ≡ Some (record { who = who.Session q; steps = steps }) → steps ≡ or_zero (session_at script q).cut → StaysWhole (session_at script q).cut left → left ≢ None → left' ≡ Some 0
    → ((n m : ℕ) → (session_at script q).cut ≡ Some n → left ≡ Some m → steps_by all known + m ≡ n) → Counts all known known' left left' → IsSpent all script q known' pool'
own_spent all script q steps known known' pool' left left' is steps_are whole some over counted counts off e = by (session_at script q).cut refl
  where
    off_is : off ≡ record { who = who.Session q; steps = steps }
    off_is = some_in (sym e ∙ is)

    same : off.steps ≡ steps
    same = ap (λ (p : PowerOff). p.steps) off_is

    by : (o : Option ℕ) → (session_at script q).cut ≡ o → (off.who ≡ who.Labels) ⊎ ((off.who ≡ who.Session q) × ((session_at script q).cut ≡ Some off.steps) × (steps_by all known' ≡ off.steps))
    by None cut = absurd (some (whole cut))
    by (Some k) cut =
        let here : off.steps ≡ k = same ∙ steps_are ∙ ap or_zero cut in
        let c = counts 0 over in
        let sum = c.2 in
        let due = counted k c.0 cut c.1 in inr (ap (λ (p : PowerOff). p.who) off_is, cut ∙ ap (λ (x : ℕ). Some x) (sym here), omega (arith, here, sum, due))

-- ---- the end

module _ (all : List Serving) (script : Script) (q : ℕ) (replies : List Reply) (orders orders' : OrdersPart) (known : Parts) (pool : PoolPart) (used : ℕ) (left : Option ℕ) (s : Standing all script q replies orders known pool used left) where
  pub ended_standing : length replies ≡ length (session_at script q).calls → (last : List JournalEntry) → orders'.entries ≡ orders.entries ++ last → IsGivenBack q (length (session_at script q).calls) orders.held last
      → parts.IsDone all script q replies (known_registry orders'.entries orders'.room) (known_cores (stands_by all known) (calls_by all known)) (power_by pool orders'.entries)
  ended_standing whole last is given =
      subst (λ (es : List JournalEntry). parts.IsDone all script q replies (known_registry es orders'.room) (known_cores (stands_by all known) (calls_by all known)) (power_by pool es)) (sym is)
      (ends_so all script q replies orders.entries last (stands_by all known) left orders'.room (calls_by all known) (power_by pool (orders.entries ++ last)) s.at whole
      (subst (λ (on : Option (List ℕ)). IsGivenBack q (length (session_at script q).calls) on last) s.held given)
      (λ place k is. s.free _)
      (cause_none script (session_at script q) replies (orders.entries ++ last) (is_some (switched_by pool.stop)) (ap (λ (o : Option Stop). is_some (switched_by o)) s.unstopped)))
