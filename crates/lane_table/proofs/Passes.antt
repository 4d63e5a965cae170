-- The sessions' passes while one lane steps.
use Rattle.std.proofs.Common.{◌≡◌, ℕ, ◌<◌, ◌≤◌, ◌≢◌, ◌==◌, ◌&&◌, inl, inr, true, false, Bool, List, [], ◌∷◌, ◌++◌, length, map, drop, refl, sym, ap, ◌∙◌, subst, slice_set, arith, zero, suc, nat_lt}
use lib.ListN.{get_elem?}
use mathlib.Core.Option.{some, some-injective, some-ne-none}
use Rattle.atomic_table.proofs.Lists.{at_set}
use Rattle.nvd_words.specs.declared.tag.Tag.{Tag}
use Rattle.lane_core.specs.declared.history.Entry.{Entry}
use Rattle.lane_core.specs.declared.lane.Lane.{Lane}
use Rattle.lane_core.specs.declared.shape.Shape.{Shape}
use Rattle.lane_core.specs.Areas.{put}
use Rattle.lane_core.specs.History.{of_lane, of_session}
use Rattle.lane_core.proofs.Past.{append_none, filter-grown, of_lane-own, of_lane-other}
use Rattle.lane_core.proofs.Put.{put_elim, never}
use Rattle.lane_table.specs.declared.table.Count.{Count}
use Rattle.lane_table.specs.declared.table.Owned.{Owned}
use Rattle.lane_table.specs.declared.table.PassPart.{PassPart}
use Rattle.lane_table.specs.declared.table.View.{View}
use Rattle.lane_table.specs.Law.{Home, Loose, On, Covers, Seats, Passes, own, owned, owned_by, unlogged, IsHeld, AreHeld, IsOpenHeld, rising, calls_below, calls_above, may_enter, noted}

-- ---- what a step does to the history and to the lane's log

pub record Effect (history history' : List Entry) (l : ℕ) (log log' : List Entry) (held held' : List PassPart) : Type 0 where
  pub others : (m : ℕ) → m ≢ l → of_lane m history' ≡ of_lane m history
  pub strangers : (homes : ℕ → Home) → AreHeld homes history l log held → (q : ℕ) → homes q ≢ On l → of_session q history' ≡ of_session q history
  pub mine : (homes : ℕ → Home) → AreHeld homes history l log held → AreHeld homes history' l log' held'
  pub unfinished : (homes : ℕ → Home) → AreHeld homes history l log held → IsOpenHeld homes history l log → IsOpenHeld homes history' l log'

-- nothing
nothing : (history : List Entry) (l : ℕ) (log : List Entry) (held : List PassPart) → Effect history history l log log held held
nothing history l log held = record { others = λ m ne. refl; strangers = λ homes h q ne. refl; mine = λ homes h. h; unfinished = λ homes h u. u }

pub quiet : {history history' : List Entry} (l : ℕ) {log log' : List Entry} (held : List PassPart) → history' ≡ history → log' ≡ log → Effect history history' l log log' held held
quiet {history = history} {history' = history'} l {log = log} {log' = log'} held e f = subst (λ es. Effect history es l log log' held held) (sym e) (subst (λ es. Effect history history l log es held held) (sym f) (nothing history l log held))

-- ---- the rule's part on passes keeps

pub on_apart : (l m : ℕ) → m ≢ l → On m ≢ On l
on_apart l m ne q = ne (number_of q)
  where
    number : Home → ℕ
    number (Loose i k) = 0
    number (On n) = n

    number_of : On m ≡ On l → m ≡ l
    number_of q = ap number q

pub loose_apart : (i k l : ℕ) → Loose i k ≢ On l
loose_apart i k l q = never (ap is_loose (sym q))
  where
    is_loose : Home → Bool
    is_loose (Loose i k) = true
    is_loose (On n) = false

module _ (x : Shape) (views : List View) (lanes : ℕ → Lane) (history history' : List Entry) (id : ℕ) (v : View) (p : Lane) (c : Count) (hs : List PassPart)
    (at : get_elem? views id ≡ some v) (live : v.live ≡ true) (seats : Seats x views lanes) (h : Passes views lanes history) (e : Effect history history' v.number v.lane.log p.log v.held hs) where
  abbrev w : View
  w = record v { lane = p; count = c; held = hs }

  first_own : (u : View) → u.live ≡ true → get_elem? (owned u) 0 ≡ some (own u)
  first_own u e = ap (λ b. get_elem? (owned_by b (own u) u.rest) 0) e

  before : AreHeld h.homes history v.number v.lane.log v.held
  before = h.held id 0 v (own v) at (first_own v live)

  -- another lane's passes
  theirs : (n : ℕ) (log : List Entry) (held : List PassPart) → n ≢ v.number → AreHeld h.homes history n log held → AreHeld h.homes history' n log held
  theirs n log held ne a m t is =
      let r = a m t is in
      let same : of_session t.session history' ≡ of_session t.session history = e.strangers h.homes before t.session (λ q. on_apart v.number n ne (sym r.0.0 ∙ q)) in
      ((r.0.0, same ∙ r.0.1 ∙ ap (λ es. t.entries ++ of_session t.session (drop (length log) es)) (sym (e.others n ne))), r.1)

  -- the lane of a place, before or after
  held_after : (i k : ℕ) (u : View) (o : Owned) → get_elem? (slice_set views id w) i ≡ some u → get_elem? (owned u) k ≡ some o → AreHeld h.homes history' o.number o.lane.log o.held
  held_after i k u o q a = elim (at_set views id i w u q) [
    | inl r ↦ at_own k (ap (λ b. get_elem? (owned_by b (own w) v.rest) k) (sym live) ∙ subst (λ (u : View). get_elem? (owned u) k ≡ some o) (sym r.1) a) r.0
    | inr r ↦ theirs o.number o.lane.log o.held (λ z. r.0 (seats.once i id k 0 u v o (own v) r.1 at a (first_own v live) z).0) (h.held i k u o r.1 a)
  ]
    where
      at_own : (k : ℕ) → get_elem? (own w ∷ v.rest) k ≡ some o → i ≡ id → AreHeld h.homes history' o.number o.lane.log o.held
      at_own zero a q = subst (λ (o : Owned). AreHeld h.homes history' o.number o.lane.log o.held) (some-injective (own w) o a) (e.mine h.homes before)
      at_own (suc k) a q =
          let there : get_elem? (owned v) (suc k) ≡ some o = ap (λ b. get_elem? (owned_by b (own v) v.rest) (suc k)) live ∙ a in
          theirs o.number o.lane.log o.held (λ z. not_first k (seats.once id id (suc k) 0 v v o (own v) at at there (first_own v live) z).1) (h.held id (suc k) v o at there)
        where
          not_first : (k : ℕ) → suc k ≡ 0 → ⊥
          not_first k q = omega arith

  loose_after : (i k : ℕ) (t : PassPart) (u : View) → get_elem? views i ≡ some u → get_elem? u.loose k ≡ some t → (q : ℕ) → Covers t q → (h.homes q ≡ Loose i k) × (of_session q history' ≡ t.entries)
  loose_after i k t u is a q c =
      let r = (h.loose i k u t is a).0 q c in
      (r.0, e.strangers h.homes before q (λ z. loose_apart i k v.number (sym r.0 ∙ z)) ∙ r.1)

  pub passes_put : Passes (slice_set views id w) (put lanes v.number p) history'
  passes_put =
      record {
        homes = h.homes;
        loose = λ i k u t q a. elim (at_set views id i w u q) [
          | inl r ↦ let b : get_elem? v.loose k ≡ some t = subst (λ (u : View). get_elem? u.loose k ≡ some t) (sym r.1) a in
              let there : get_elem? views i ≡ some v = ap (get_elem? views) r.0 ∙ at in (loose_after i k t v there b, (h.loose i k v t there b).1)
          | inr r ↦ (loose_after i k t u r.1 a, (h.loose i k u t r.1 a).1)
        ];
        held = held_after;
        unfinished = put_elim (λ l (q : Lane). IsOpenHeld h.homes history' l q.log) lanes v.number p
            (e.unfinished h.homes before (subst (λ (q : Lane). IsOpenHeld h.homes history v.number q.log) (seats.known id 0 v (own v) at (first_own v live)).1 (h.unfinished v.number)))
            (λ l ne k d is.
            let r = h.unfinished l k d (ap (λ es. get_elem? (drop (length (lanes l).log) es) k) (sym (e.others l ne)) ∙ is) in
            let same : of_session d.tag.session history' ≡ of_session d.tag.session history = e.strangers h.homes before d.tag.session (λ q. on_apart v.number l ne (sym r.0 ∙ q)) in
            (r.0, r.1, same ∙ r.2 ∙ ap (λ es. r.1 ++ of_session d.tag.session (drop (length (lanes l).log) es)) (sym (e.others l ne))));
      }

-- ---- the steps at which a call enters the history, or a read is answered

pub of_session-grown : (q : ℕ) (es : List Entry) (e : Entry) → of_session q (es ++ e ∷ []) ≡ of_session q es ++ of_session q (e ∷ [])
unfolding of_session
of_session-grown q es e = filter-grown (λ x. x.tag.session == q) es e

pub of_session-one : (q : ℕ) (e : Entry) → e.tag.session ≡ q → of_session q (e ∷ []) ≡ e ∷ []
unfolding of_session
of_session-one q e s = grind arith

pub of_session-none : (q : ℕ) (e : Entry) → e.tag.session ≢ q → of_session q (e ∷ []) ≡ []
unfolding of_session
of_session-none q e ne = grind arith

pub of_session-nothing : (q : ℕ) → of_session q [] ≡ []
unfolding of_session
of_session-nothing q = refl

pub of_session-own : (q : ℕ) (es : List Entry) (e : Entry) → e.tag.session ≡ q → of_session q (es ++ e ∷ []) ≡ of_session q es ++ e ∷ []
of_session-own q es e s = of_session-grown q es e ∙ ap (λ r. of_session q es ++ r) (of_session-one q e s)

pub of_session-other : (q : ℕ) (es : List Entry) (e : Entry) → e.tag.session ≢ q → of_session q (es ++ e ∷ []) ≡ of_session q es
of_session-other q es e ne = of_session-grown q es e ∙ ap (λ r. of_session q es ++ r) (of_session-none q e ne) ∙ append_none (of_session q es)

pub drop_all : (es : List Entry) → drop (length es) es ≡ []
drop_all [] = refl
drop_all (e ∷ es) = drop_all es

pub drop_most : (es ds : List Entry) → drop (length es) (es ++ ds) ≡ ds
drop_most [] ds = refl
drop_most (e ∷ es) ds = drop_most es ds

-- ---- one pass is held, and its session may enter a call

pub record May (held : List PassPart) (tag : Tag) : Type 0 where
  pub pass : PassPart
  pub one : held ≡ pass ∷ []
  pub session : pass.session ≡ tag.session
  pub below : calls_below tag.call pass.entries ≡ true

both_true : (a b : Bool) → (a && b) ≡ true → (a ≡ true) × (b ≡ true)
both_true true b q = (refl, q)
both_true false b q = never q

same_number : (a b : ℕ) → (a == b) ≡ true → a ≡ b
same_number a b q = grind arith

pub may : (held : List PassPart) (tag : Tag) → may_enter held tag ≡ true → May held tag
may [] tag q = never q
may (t ∷ []) tag q = let r = both_true (t.session == tag.session) (calls_below tag.call t.entries) q in record { pass = t; one = refl; session = same_number t.session tag.session r.0; below = r.1 }
may (t ∷ u ∷ ts) tag q = never q

-- ---- numbers rise

join_true : (a b : Bool) → a ≡ true → b ≡ true → (a && b) ≡ true
join_true a b p q = ap (λ a. a && b) p ∙ q

above_grown : (n : ℕ) (es : List Entry) (e : Entry) → calls_above n es ≡ true → nat_lt n e.tag.call ≡ true → calls_above n (es ++ e ∷ []) ≡ true
above_grown n [] e h lt = join_true (nat_lt n e.tag.call) true lt refl
above_grown n (d ∷ es) e h lt = let r = both_true (nat_lt n d.tag.call) (calls_above n es) h in join_true (nat_lt n d.tag.call) (calls_above n (es ++ e ∷ [])) r.0 (above_grown n es e r.1 lt)

pub rising_grown : (es : List Entry) (e : Entry) → rising es ≡ true → calls_below e.tag.call es ≡ true → rising (es ++ e ∷ []) ≡ true
rising_grown [] e h b = refl
rising_grown (d ∷ es) e h b =
    let r = both_true (calls_above d.tag.call es) (rising es) h in
    let s = both_true (nat_lt d.tag.call e.tag.call) (calls_below e.tag.call es) b in
    join_true (calls_above d.tag.call (es ++ e ∷ [])) (rising (es ++ e ∷ [])) (above_grown d.tag.call es e r.0 s.0) (rising_grown es e r.1 s.1)

-- the one pass of a list
pub only : {A : Type 0} (t u : A) (m : ℕ) → get_elem? (t ∷ []) m ≡ some u → (m ≡ 0) × (t ≡ u)
only t u zero e = (refl, some-injective t u e)
only t u (suc m) e = absurd (some-ne-none u (sym e))

none_of : {A : Type 0} (m : ℕ) (u : A) → get_elem? [] m ≡ some u → ⊥
none_of m u e = some-ne-none u (sym e)

module _ (history : List Entry) (l : ℕ) (log : List Entry) (e : Entry) (lane : e.lane ≡ l) where
  abbrev grown : List Entry
  grown = history ++ e ∷ []

  -- no pass but the one that is held is of the call's session
  apart : (homes : ℕ → Home) (t : PassPart) → AreHeld homes history l log (t ∷ []) → t.session ≡ e.tag.session → (q : ℕ) → homes q ≢ On l → e.tag.session ≢ q
  apart homes t h s q ne z = ne (ap homes (sym (s ∙ z)) ∙ (h 0 t refl).0.0)

  module _ (all : of_lane l history ≡ log) where
    none_before : unlogged log l history ≡ []
    none_before = ap (drop (length log)) all ∙ drop_all log

    own_grown : of_lane l grown ≡ log ++ e ∷ []
    own_grown = of_lane-own l history e lane ∙ ap (λ es. es ++ e ∷ []) all

    -- the session's entries before the call
    was : (homes : ℕ → Home) (t : PassPart) → IsHeld homes history l log t → of_session t.session history ≡ t.entries
    was homes t h = h.1 ∙ ap (λ es. t.entries ++ of_session t.session es) none_before ∙ ap (λ es. t.entries ++ es) (of_session-nothing t.session) ∙ append_none t.entries

    module _ (t : PassPart) (s : t.session ≡ e.tag.session) (below : calls_below e.tag.call t.entries ≡ true) where
      -- the call enters the history and the log at once
      enters_one : Effect history grown l log (log ++ e ∷ []) (t ∷ []) (noted e t ∷ [])
      enters_one =
          record {
            others = λ m ne. of_lane-other m history e (λ q. ne (sym q ∙ lane));
            strangers = λ homes h q ne. of_session-other q history e (apart homes t h s q ne);
            mine = λ homes h m u is. subst (λ (u : PassPart). IsHeld homes grown l (log ++ e ∷ []) u × (rising u.entries ≡ true)) (only (noted e t) u m is).1 (
              (
                (h 0 t refl).0.0,
                of_session-own t.session history e (sym s) ∙ ap (λ es. es ++ e ∷ []) (was homes t (h 0 t refl).0) ∙ sym (append_none (t.entries ++ e ∷ []))
                    ∙ ap (λ es. (t.entries ++ e ∷ []) ++ es) (sym (of_session-nothing t.session)) ∙ ap (λ es. (t.entries ++ e ∷ []) ++ of_session t.session es) (sym none_after),
              ),
              rising_grown t.entries e (h 0 t refl).1 below,
            );
            unfinished = λ homes h u k d is. absurd (none_of k d (ap (λ es. get_elem? es k) (sym none_after) ∙ is));
          }
        where
          none_after : unlogged (log ++ e ∷ []) l grown ≡ []
          none_after = ap (drop (length (log ++ e ∷ []))) own_grown ∙ drop_all (log ++ e ∷ [])

      -- a read enters the history, and its words are yet to be loaded
      opens_one : Effect history grown l log log (t ∷ []) (t ∷ [])
      opens_one =
          record {
            others = λ m ne. of_lane-other m history e (λ q. ne (sym q ∙ lane));
            strangers = λ homes h q ne. of_session-other q history e (apart homes t h s q ne);
            mine = λ homes h m u is. subst (λ (u : PassPart). IsHeld homes grown l log u × (rising u.entries ≡ true)) (only t u m is).1 (((h 0 t refl).0.0, now homes (h 0 t refl).0), (h 0 t refl).1);
            unfinished = λ homes h u k d is. let r = only e d k (ap (λ es. get_elem? es k) (sym one_after) ∙ is) in
                subst (λ q. (homes q ≡ On l) × (es : List Entry) × (of_session q grown ≡ es ++ of_session q (unlogged log l grown))) (s ∙ ap (λ (d : Entry). d.tag.session) r.1)
                ((h 0 t refl).0.0, t.entries, now homes (h 0 t refl).0);
          }
        where
          one_after : unlogged log l grown ≡ e ∷ []
          one_after = ap (drop (length log)) own_grown ∙ drop_most log (e ∷ [])

          now : (homes : ℕ → Home) → IsHeld homes history l log t → of_session t.session grown ≡ t.entries ++ of_session t.session (unlogged log l grown)
          now homes h = of_session-own t.session history e (sym s) ∙ ap (λ es. es ++ e ∷ []) (was homes t h) ∙ ap (λ es. t.entries ++ es) (sym (of_session-one t.session e (sym s)))
              ∙ ap (λ es. t.entries ++ of_session t.session es) (sym one_after)

  module _ (last : of_lane l history ≡ log ++ e ∷ []) (t : PassPart) (s : t.session ≡ e.tag.session) (below : calls_below e.tag.call t.entries ≡ true) where
    one_before : unlogged log l history ≡ e ∷ []
    one_before = ap (drop (length log)) last ∙ drop_most log (e ∷ [])

    none_left : unlogged (log ++ e ∷ []) l history ≡ []
    none_left = ap (drop (length (log ++ e ∷ []))) last ∙ drop_all (log ++ e ∷ [])

    -- a read that has its words joins the log
    closes_one : Effect history history l log (log ++ e ∷ []) (t ∷ []) (noted e t ∷ [])
    closes_one =
        record {
          others = λ m ne. refl;
          strangers = λ homes h q ne. refl;
          mine = λ homes h m u is. subst (λ (u : PassPart). IsHeld homes history l (log ++ e ∷ []) u × (rising u.entries ≡ true)) (only (noted e t) u m is).1 (
            (
              (h 0 t refl).0.0,
              (h 0 t refl).0.1 ∙ ap (λ es. t.entries ++ of_session t.session es) one_before ∙ ap (λ es. t.entries ++ es) (of_session-one t.session e (sym s))
                  ∙ sym (append_none (t.entries ++ e ∷ [])) ∙ ap (λ es. (t.entries ++ e ∷ []) ++ es) (sym (of_session-nothing t.session)) ∙ ap (λ es. (t.entries ++ e ∷ []) ++ of_session t.session es) (sym none_left),
            ),
            rising_grown t.entries e (h 0 t refl).1 below,
          );
          unfinished = λ homes h u k d is. absurd (none_of k d (ap (λ es. get_elem? es k) (sym none_left) ∙ is));
        }

-- as the lines have them
pub enters : {history : List Entry} {l : ℕ} {log : List Entry} (held : List PassPart) (e : Entry) → may_enter held e.tag ≡ true → e.lane ≡ l → of_lane l history ≡ log → Effect history (history ++ e ∷ []) l log (log ++ e ∷ []) held (map (noted e) held)
enters {history = history} {l = l} {log = log} held e ok lane all = let r = may held e.tag ok in
    subst (λ held. Effect history (history ++ e ∷ []) l log (log ++ e ∷ []) held (map (noted e) held)) (sym r.one) (enters_one history l log e lane all r.pass r.session r.below)

pub opens : {history : List Entry} {l : ℕ} {log : List Entry} (held : List PassPart) (e : Entry) → may_enter held e.tag ≡ true → e.lane ≡ l → of_lane l history ≡ log → Effect history (history ++ e ∷ []) l log log held held
opens {history = history} {l = l} {log = log} held e ok lane all = let r = may held e.tag ok in
    subst (λ held. Effect history (history ++ e ∷ []) l log log held held) (sym r.one) (opens_one history l log e lane all r.pass r.session r.below)

pub closes : {history : List Entry} {l : ℕ} {log : List Entry} (held : List PassPart) (e : Entry) → may_enter held e.tag ≡ true → e.lane ≡ l → of_lane l history ≡ log ++ e ∷ [] → Effect history history l log (log ++ e ∷ []) held (map (noted e) held)
closes {history = history} {l = l} {log = log} held e ok lane last = let r = may held e.tag ok in
    subst (λ held. Effect history history l log (log ++ e ∷ []) held (map (noted e) held)) (sym r.one) (closes_one history l log e lane last r.pass r.session r.below)

-- ---- for callers: whether a lane with a pass may enter a further call

below_later : (n m : ℕ) (es : List Entry) → calls_below n es ≡ true → n ≤ m → calls_below m es ≡ true
below_later n m [] h le = refl
below_later n m (e ∷ es) h le = let r = both_true (nat_lt e.tag.call n) (calls_below n es) h in join_true (nat_lt e.tag.call m) (calls_below m es) (later_lt e.tag.call n m r.0 le) (below_later n m es r.1 le)
  where
    later_lt : (a n m : ℕ) → nat_lt a n ≡ true → n ≤ m → nat_lt a m ≡ true
    later_lt a n m h le = grind arith

below_grown : (n m : ℕ) (es : List Entry) (e : Entry) → calls_below n es ≡ true → n ≤ m → e.tag.call < m → calls_below m (es ++ e ∷ []) ≡ true
below_grown n m [] e h le lt = join_true (nat_lt e.tag.call m) true (lt_true e.tag.call m lt) refl
  where
    lt_true : (a m : ℕ) → a < m → nat_lt a m ≡ true
    lt_true a m lt = grind arith
below_grown n m (d ∷ es) e h le lt =
    let r = both_true (nat_lt d.tag.call n) (calls_below n es) h in
    let s = both_true (nat_lt d.tag.call m) (calls_below m es) (below_later n m (d ∷ es) h le) in
    join_true (nat_lt d.tag.call m) (calls_below m (es ++ e ∷ [])) s.0 (below_grown n m es e r.1 le lt)

number_true : (a b : ℕ) → a ≡ b → (a == b) ≡ true
number_true a b q = grind arith

-- after a call that entered the history, one with a greater number
pub may_go_on : (held : List PassPart) (tag next : Tag) (e : Entry) → may_enter held tag ≡ true → e.tag ≡ tag → next.session ≡ tag.session → tag.call < next.call → may_enter (map (noted e) held) next ≡ true
may_go_on held tag next e ok is same lt =
    let r = may held tag ok in
    let above : e.tag.call < next.call = subst (λ (t : Tag). t.call < next.call) (sym is) lt in
    subst (λ held. may_enter (map (noted e) held) next ≡ true) (sym r.one)
    (join_true (r.pass.session == next.session) (calls_below next.call (r.pass.entries ++ e ∷ [])) (number_true r.pass.session next.session (r.session ∙ sym same)) (below_grown tag.call next.call r.pass.entries e r.below (omega (arith, lt)) above))

-- after a call that didn't
pub may_again : (held : List PassPart) (tag next : Tag) → may_enter held tag ≡ true → next.session ≡ tag.session → tag.call ≤ next.call → may_enter held next ≡ true
may_again held tag next ok same le =
    let r = may held tag ok in
    subst (λ held. may_enter held next ≡ true) (sym r.one)
    (join_true (r.pass.session == next.session) (calls_below next.call r.pass.entries) (number_true r.pass.session next.session (r.session ∙ sym same)) (below_later tag.call next.call r.pass.entries r.below le))

-- a session's first call
pub may_begin : (t : PassPart) (tag : Tag) → t.session ≡ tag.session → t.entries ≡ [] → may_enter (t ∷ []) tag ≡ true
may_begin t tag s none = join_true (t.session == tag.session) (calls_below tag.call t.entries) (number_true t.session tag.session s) (ap (calls_below tag.call) none)
