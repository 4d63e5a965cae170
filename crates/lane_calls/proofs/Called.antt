-- What a whole call does to what its session knows.
use Rattle.std.proofs.Common.{◌≡◌, inl, inr, ℕ, suc, ◌+◌, ◌<◌, ◌≤◌, true, false, List, get_or, length, Option, Some, None, refl, sym, ap, ◌∙◌, subst, arith}
use Rattle.std.specs.Prelude.{IsSome}
use Rattle.turn_lock.specs.Passes.{lock_id, lock_of, number_of, out_of, part_of}
use Rattle.lane_core.specs.declared.history.Entry.{Entry}
use Rattle.lane_core.specs.declared.shape.Shape.{Shape}
use Rattle.session_parts.specs.declared.parts.CorePart.{CorePart}
use Rattle.session_parts.specs.Parts.{MayBegin, stand}
use Rattle.lane_table.specs.declared.arena.Arena.{Arena}
use Rattle.lane_table.specs.declared.lanes.Kit.{Kit}
use Rattle.lane_table.specs.declared.table.Call.{Call}
use Rattle.lane_table.specs.Fuse.{of_left}
use Rattle.lane_table.specs.Kits.{IsSame, arena_id, held_in, spare_in}
use Rattle.lane_table.specs.Law.{may_enter}
use Rattle.lane_table.specs.Stages.{stage_steps}
use Rattle.lane_pool.specs.declared.pool.PoolPart.{PoolPart}
use Rattle.lane_pool.specs.declared.sets.LaneSet.{LaneSet}
use Rattle.lane_pool.specs.declared.sets.PowerOff.{PowerOff}
use Rattle.lane_pool.specs.declared.holders.Stop.{Stop}
use Rattle.lane_pool.specs.declared.sets.Who.TheVariants as who
use Rattle.lane_pool.specs.Parts.{HasNoneOut, IsTold, PartGoes, Stops, WasOn, stop_with, switched_by, told_of}
use Rattle.lane_calls.specs.declared.parts.ArenaPart.{ArenaPart}
use Rattle.lane_calls.specs.declared.session.Kept.{Kept}
use Rattle.lane_calls.specs.declared.session.Sectors.{Sectors}
use Rattle.lane_calls.specs.declared.session.Session.{Session}
use Rattle.lane_calls.specs.Calls.{Began, Called, IsRefused, IsStopped, MayBeginAt, MayCallAt, MayGiveBack, MayHandIn, Spends, SpendsOne, StopsWhenSpent, SwitchesNot, after, answered, none_at_least, tag_by, whichever}
use Rattle.lane_calls.specs.Lanes.{Adds, Fewer, IsBurnt, IsCutIn, MayAsk, Pays, Stays, is_in_flight}
use Rattle.lane_calls.specs.Sessions.{HasOut, Holds, IsKnown, IsOnLane, Know, Parts, made_with, pass_at, shape_of, with_part}
use Rattle.lane_calls.proofs.Begins.{spends_both}
use Rattle.lane_calls.proofs.Ends.{end_arena}
use Rattle.lane_calls.proofs.Sessions.{goes_on, holds_adds, holds_cut, holds_stays, may_begin, with_other, with_same}
use mathlib.Core.Logic.{dite}
use native.Mathlib.Decide.{ℕ_discrete}

in_some : {A : Type 0} {x y : A} → Some x ≡ Some y → x ≡ y
in_some e = cc

some_none : {A : Type 0} {x : A} → Some x ≡ None → ⊥
some_none e = cc

-- ---- the call is counted

abbrev pub next : Session → Session
next session = record session { caller = record (session.caller) { call = session.caller.call + 1 } }

abbrev pub know_next : (s : Sectors) (q : ℕ) (parts : Parts) (session : Session) → Know s q parts session → Know s q parts (next session)
know_next s q parts session know = record {
  pool = know.pool;
  seated = record {
    number = know.seated.number;
    count = know.seated.count;
    outside = know.seated.outside;
    turn = know.seated.turn;
    pool_is = know.seated.pool_is;
    placed = know.seated.placed;
    laid = know.seated.laid;
  };
  out = know.out;
  handed = know.handed;
  each = know.each;
}

pub may_begin_at : (s : Sectors) (place : ℕ) (P : ArenaPart → Type 0) (session : Session) → MayCallAt s place P session → MayBeginAt s place (next session)
may_begin_at s place P session may = record { place_in = may.place_in; parts = may.parts; know = know_next s session.number may.parts session may.know; pool = may.pool }

-- ---- a session of which something else changed

module _ (s : Sectors) (q : ℕ) (parts : Parts) (session session' : Session) (number : session'.number ≡ session.number) (passes : session'.passes.items ≡ session.passes.items) where
  -- it keeps no set, and was told something
  pub know_told : session.kept ≡ None → session'.kept ≡ None → lock_of session'.caller.pool ≡ lock_of session.caller.pool → number_of session'.caller.pool ≡ number_of session.caller.pool → out_of session'.caller.pool ≡ None
      → (know : Know s q parts session) → (t : Option PowerOff) → part_of session'.caller.pool ≡ Some (record (know.pool) { told = t }) → Know s q parts session'
  know_told none none' lock_same number_same outside know t pool_is = record {
    pool = record (know.pool) { told = t };
    seated = record {
      number = number ∙ know.seated.number;
      count = ap (λ ps. length ps) passes ∙ know.seated.count;
      outside = (lock_same ∙ know.seated.outside.0, outside);
      turn = number_same ∙ know.seated.turn;
      pool_is = pool_is;
      placed = know.seated.placed;
      laid = know.seated.laid;
    };
    out = subst (λ (o : Option Kept). HasOut 63 o (record (know.pool) { told = t })) (sym none') none_now;
    handed = know.handed;
    each = λ j a is. (let e = know.each j a is in (e.0, subst (λ ps. IsKnown (arena_id a) q (get_or ps j None) know.pool.handed j (parts j)) (sym passes) e.1));
  }
    where
      none_now : HasNoneOut know.pool
      none_now = subst (λ (o : Option Kept). HasOut 63 o know.pool) none know.out

-- it knows the same of an arena
same_at : (parts : Parts) (i : ℕ) (m : ArenaPart) → m ≡ parts i → (j : ℕ) → with_part parts i m j ≡ parts j
same_at parts i m is j = dite (ℕ_discrete j i)
    (λ here. ap (λ (n : ℕ). with_part parts i m n) here ∙ with_same parts i m ∙ is ∙ ap parts (sym here))
    (λ ne. with_other parts i j m ne)

know_with : (s : Sectors) (q : ℕ) (parts : Parts) (session : Session) (i : ℕ) (m : ArenaPart) → m ≡ parts i → Know s q parts session → Know s q (with_part parts i m) session
know_with s q parts session i m is know = record {
  pool = know.pool;
  seated = know.seated;
  out = know.out;
  handed = know.handed;
  each = λ j a is_a. subst (λ (y : ArenaPart). (a.shape ≡ shape_of y) × IsKnown (arena_id a) q (pass_at session j) know.pool.handed j y) (sym (same_at parts i m is j)) (know.each j a is_a);
}

-- a call that didn't begin
module _ (s : Sectors) (place : ℕ) (parts : Parts) (session0 session2 : Session) (know : Know s session0.number parts session0) (left : session2.caller.left ≡ session0.caller.left) (number : session2.number ≡ session0.number)
    (lock_same : lock_of session2.caller.pool ≡ lock_of session0.caller.pool) (number_same : number_of session2.caller.pool ≡ number_of session0.caller.pool) (refused : IsRefused (next session0) session2) where
  pub called_none : (P : Shape → ℕ → CorePart → CorePart → Type 0) → P (shape_of (parts place)) 0 (parts place).mine (parts place).mine → Called s place none_at_least P parts session0 session2
  called_none P goes = record {
    mine = (parts place).mine;
    made = 0;
    enough = omega arith;
    goes = goes;
    paid = subst (λ (o : Option ℕ). Fewer 0 session0.caller.left o) (sym left) (record { fewer = λ l e. (l, e, omega arith); whole = λ e. e });
    know = know_with s session0.number parts session2 place (after (parts place) (parts place).mine 0) same_part
        (know_told s session0.number parts session0 session2 number refused.passes refused.none refused.kept lock_same number_same refused.outside know (Some refused.off) (refused.told know.pool know.seated.pool_is));
  }
    where
      none_more : (parts place).steps + 0 ≡ (parts place).steps
      none_more = omega arith

      same_part : after (parts place) (parts place).mine 0 ≡ parts place
      same_part = λ i. record (parts place) { steps = none_more i }

-- ---- it is on its lane

module _ (s : Sectors) (place : ℕ) (parts : Parts) (session0 session2 : Session) (kept : Kept) (k : Kit) (began : Began s place parts kept k (next session0) session2) where
  pub shape_here : (a : Arena) → a ≡ get_or s.arenas.items place a → a.shape ≡ shape_of (parts place)
  shape_here a is = ap (λ (y : Arena). y.shape) (sym (end_arena s session0.number parts place kept k session2 began.on a is)) ∙ began.on.shape_is

  pub call_sector : (a : Arena) → a ≡ get_or s.arenas.items place a → (sector : ℕ) → sector < (shape_of (parts place)).sectors → sector < a.shape.sectors
  call_sector a is sector lt = subst (λ (y : Shape). sector < y.sectors) (sym (shape_here a is)) lt

  pub call_words : (a : Arena) → a ≡ get_or s.arenas.items place a → (n : ℕ) → n ≡ (shape_of (parts place)).width → n ≡ a.shape.width
  call_words a is n e = e ∙ ap (λ (y : Shape). y.width) (sym (shape_here a is))

  pub call_steps : (a : Arena) → a ≡ get_or s.arenas.items place a → stage_steps (shape_of (parts place)) + 9 ≤ stage_steps a.shape + 9
  call_steps a is = subst (λ (y : Shape). stage_steps y + 9 ≤ stage_steps a.shape + 9) (shape_here a is) (omega arith)

  pub call_spare : 0 < spare_in k
  call_spare = let a = began.room in omega (arith, a)

  pub call_may : (call : ℕ) → MayBegin call (parts place).mine → may_enter (held_in k) (tag_by session0.number call) ≡ true
  call_may call may = may_begin session0.number call k (parts place) began.on.holds may

  pub call_ask : MayAsk (lock_id s.pool.turn) session2.caller.pool
  call_ask = (began.on.seated.outside, (began.on.pool, began.on.seated.pool_is, began.on.seated.placed))

  -- the lane did something, and the session was told something
  module _ (k' : Kit) (rests : is_in_flight k ≡ false) (session3 : Session) (number : session3.number ≡ session2.number) (passes : session3.passes.items ≡ session2.passes.items) (keeps : session3.kept ≡ session2.kept)
      (lock_same : lock_of session3.caller.pool ≡ lock_of session2.caller.pool) (number_same : number_of session3.caller.pool ≡ number_of session2.caller.pool) (outside : out_of session3.caller.pool ≡ None)
      (t : Option PowerOff) (pool_is : part_of session3.caller.pool ≡ Some (record (began.on.pool) { told = t })) where
    on_after : (mine : CorePart) (made : ℕ) → IsSame k k' → Holds session0.number k' (after (parts place) mine made)
        → (on : IsOnLane s session0.number (with_part parts place (after (parts place) mine made)) place kept k' session3) × (on.spare ≡ began.on.spare) × (on.pool ≡ record (began.on.pool) { told = t })
    on_after mine made same holds = goes_on s session0.number parts place kept k k' session2 session3 began.on (after (parts place) mine made) same holds refl number passes keeps lock_same number_same outside t pool_is

    pub may_give_back : t ≡ began.on.pool.told → (n : ℕ) → Pays n k k' → (e : Entry) → Adds e k k' → spare_in k ≡ suc (spare_in k') → MayGiveBack s place kept k' session3
    may_give_back on_still n paid e adds spare =
        let mine = answered (stand e) (parts place).mine in
        let on = on_after mine paid.made adds.0 (holds_adds session0.number k k' (parts place) began.on.holds rests paid.made paid.counted e adds) in
        record {
          q = session0.number;
          parts = with_part parts place (after (parts place) mine paid.made);
          on = on.0;
          room = (let a = on.1 in let b = began.room in omega (arith, a, b, spare));
          was_on = subst (λ (y : PoolPart). WasOn y) (sym on.2) (on_still ∙ began.was_on.0, began.was_on.1);
        }

    pub may_hand_stays : (n : ℕ) → Pays n k k' → Stays k k' → MayHandIn s place kept k' session3
    may_hand_stays n paid stays = record {
      q = session0.number;
      parts = with_part parts place (after (parts place) (parts place).mine paid.made);
      on = (on_after (parts place).mine paid.made stays.0 (holds_stays session0.number k k' (parts place) began.on.holds rests paid.made paid.counted stays)).0;
    }

    cut_same : (n : ℕ) (c : Call) (words : List ℕ) → IsCutIn n c words k k' → IsSame k k'
    cut_same n c words (inl a) = a.0
    cut_same n c words (inr (inl a)) = a.0.0
    cut_same n c words (inr (inr a)) = a.0.0

    pub may_hand_cut : (n : ℕ) → Pays n k k' → (x : Shape) (c : Call) (words : List ℕ) → c.tag.session ≡ session0.number → IsCutIn (stage_steps x) c words k k' → MayHandIn s place kept k' session3
    may_hand_cut n paid x c words own cut =
        let h = holds_cut session0.number k k' (parts place) began.on.holds rests paid.made paid.counted x c words own cut in
        record {
          q = session0.number;
          parts = with_part parts place (after (parts place) h.0 paid.made);
          on = (on_after h.0 paid.made (cut_same (stage_steps x) c words cut) h.2).0;
        }

    -- and the call ended
    module _ (session4 : Session) (left4 : session4.caller.left ≡ of_left k'.fuse) (knows : (q : ℕ) (parts' : Parts) → IsOnLane s q parts' place kept k' session3 → Know s q parts' session4)
        (n : ℕ) (paid : Pays n k k') (least : Shape → ℕ) (enough : least (shape_of (parts place)) ≤ n) where
      pays_left : Fewer paid.made session0.caller.left session4.caller.left
      pays_left = subst (λ (o : Option ℕ). Fewer paid.made o session4.caller.left) began.fuse (subst (λ (o : Option ℕ). Fewer paid.made (of_left k.fuse) o) (sym left4) paid.paid)

      is_called : (mine : CorePart) → IsSame k k' → Holds session0.number k' (after (parts place) mine paid.made) → (P : Shape → ℕ → CorePart → CorePart → Type 0) → P (shape_of (parts place)) paid.made (parts place).mine mine → Called s place least P parts session0 session4
      is_called mine same holds P goes = record {
        mine = mine;
        made = paid.made;
        enough = (let a = paid.least in omega (arith, a, enough));
        goes = goes;
        paid = pays_left;
        know = knows session0.number (with_part parts place (after (parts place) mine paid.made)) (on_after mine paid.made same holds).0;
      }

      pub called_adds : (e : Entry) → Adds e k k' → Called s place least (whichever (λ m m'. m' ≡ answered (stand e) m)) parts session0 session4
      called_adds e adds = is_called (answered (stand e) (parts place).mine) adds.0 (holds_adds session0.number k k' (parts place) began.on.holds rests paid.made paid.counted e adds) (whichever (λ m m'. m' ≡ answered (stand e) m)) refl

      pub called_stays : (P : Shape → ℕ → CorePart → CorePart → Type 0) → P (shape_of (parts place)) paid.made (parts place).mine (parts place).mine → Stays k k' → Called s place least P parts session0 session4
      called_stays P goes stays = is_called (parts place).mine stays.0 (holds_stays session0.number k k' (parts place) began.on.holds rests paid.made paid.counted stays) P goes

      pub called_cut : (x : Shape) → x ≡ shape_of (parts place) → (c : Call) (words : List ℕ) → c.tag.session ≡ session0.number → IsCutIn (stage_steps x) c words k k' → Called s place least (IsStopped session0.number c.tag.call c.sector words) parts session0 session4
      called_cut x shape c words own cut =
          let h = holds_cut session0.number k k' (parts place) began.on.holds rests paid.made paid.counted x c words own cut in
          is_called h.0 (cut_same (stage_steps x) c words cut) h.2 (IsStopped session0.number c.tag.call c.sector words) (subst (λ (y : Shape). IsStopped session0.number c.tag.call c.sector words y paid.made (parts place).mine h.0) shape h.1)

-- ---- what was told, and who switched power off

module _ (g : Option LaneSet) (off first : PowerOff) (m m' : PoolPart) where
  pub told_now : Stops g off first m m' → IsSome m'.told
  told_now st = subst (λ (o : Option PowerOff). IsSome o) (sym st.told) refl

  -- nobody had told it
  pub switched_now : Stops g off first m m' → WasOn m → switched_by m'.stop ≡ Some off
  switched_now st on = ap (λ (o : Option Stop). switched_by o) (st.stop ∙ (λ i. stop_with off (on.0 i) (on.1 i)))

  -- it had been told
  pub switched_kept : (p : PowerOff) → Stops g off first m m' → m.told ≡ Some p → m.stop ≡ None → switched_by m'.stop ≡ None
  switched_kept p st told stop = ap (λ (o : Option Stop). switched_by o) (st.stop ∙ (λ i. stop_with off (told i) (stop i)))

module _ (s : Sectors) (place : ℕ) (parts : Parts) (session0 session2 : Session) (kept : Kept) (k : Kit) (began : Began s place parts kept k (next session0) session2) (session3 session4 : Session) (off : PowerOff)
    (stops : PartGoes (λ m m'. (z : LaneSet) × (first : PowerOff) × Stops (Some z) off first m m') session3.caller.pool session4.caller.pool) where
  -- it had been told by then
  pub told_off : (p : PowerOff) → part_of session3.caller.pool ≡ Some (told_of p began.on.pool) → IsTold session4.caller.pool × StopsWhenSpent session0 session4
  told_off p is =
      let m' = stops (told_of p began.on.pool) is in
      let st = m'.2.2 in (
        (m'.0, m'.1, told_now (Some m'.2.0) off m'.2.1 (told_of p began.on.pool) m'.0 st),
        inl (λ m is_m. (m'.0, m'.1, switched_kept (Some m'.2.0) off m'.2.1 (told_of p began.on.pool) m'.0 p st refl began.was_on.1 ∙ sym (ap (λ (o : Option Stop). switched_by o) (sym (began.spends m is_m).power.stop ∙ began.was_on.1)))),
      )

  -- its own steps were spent
  pub told_spent : (k' : Kit) → IsBurnt k k' → session4.caller.left ≡ of_left k'.fuse → off ≡ record { who = who.Session session0.number; steps = session0.caller.steps } → part_of session3.caller.pool ≡ Some began.on.pool
      → IsTold session4.caller.pool × StopsWhenSpent session0 session4
  told_spent k' burnt left4 off_is is =
      let m' = stops began.on.pool is in
      let st = m'.2.2 in (
        (m'.0, m'.1, told_now (Some m'.2.0) off m'.2.1 began.on.pool m'.0 st),
        inr (
          (m'.0, m'.1, switched_now (Some m'.2.0) off m'.2.1 began.on.pool m'.0 st began.was_on ∙ ap (λ (p : PowerOff). Some p) off_is),
          (λ e. burnt.0 (began.fuse ∙ e)),
          left4 ∙ burnt.1,
        ),
      )

  -- so it isn't so that it switched power off or not as before
  pub spent_not_off : (know : Know s session0.number parts session0) → off ≡ record { who = who.Session session0.number; steps = session0.caller.steps } → part_of session3.caller.pool ≡ Some began.on.pool → SwitchesNot session0 session4 → ⊥
  spent_not_off know off_is is same =
      let m' = stops began.on.pool is in
      let o = same know.pool know.seated.pool_is in
      let was : know.pool.stop ≡ None = sym (began.spends know.pool know.seated.pool_is).power.stop ∙ began.was_on.1 in
      let now : switched_by m'.0.stop ≡ Some off = switched_now (Some m'.2.0) off m'.2.1 began.on.pool m'.0 m'.2.2 began.was_on in
      some_none (sym now ∙ ap (λ (y : PoolPart). switched_by y.stop) (in_some (sym m'.1 ∙ o.1)) ∙ o.2 ∙ ap (λ (y : Option Stop). switched_by y) was)

-- ---- what it took

pub spent_of : (s : Sectors) (place : ℕ) (parts : Parts) (session0 session2 session3 session4 : Session) (kept : Kept) (k : Kit) (began : Began s place parts kept k (next session0) session2)
    → part_of session3.caller.pool ≡ part_of session2.caller.pool → PartGoes (Spends 0 kept.made (made_with session4.kept)) session3.caller.pool session4.caller.pool → SpendsOne session0 session4
spent_of s place parts session0 session2 session3 session4 kept k began same goes m is =
    let o = goes began.on.pool (same ∙ began.on.seated.pool_is) in
    (o.0, o.1, spends_both 1 0 1 (made_with session0.kept) kept.made (made_with session4.kept) m began.on.pool o.0 (omega arith) (began.spends m is) o.2)
