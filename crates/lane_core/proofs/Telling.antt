-- A step of a lane keeps what its entries in the history are.
use Rattle.std.proofs.Common.{◌≡◌, ◌≢◌, ℕ, ◌+◌, ◌*◌, ◌==◌, nat_lt, if◌then◌else◌, Bool, true, false, List, [], ◌∷◌, ◌++◌, length, map, replicate, slice_set, refl, sym, ap, ◌∙◌, subst}
use Rattle.std.specs.List.{AllByRecursion}
use Rattle.map_table.specs.declared.kinds.Kind.{Kind}
use Rattle.map_table.specs.declared.kinds.Kind.TheVariants as kind
use Rattle.arena_open.specs.declared.cell.Cell.{Cell}
use Rattle.arena_open.specs.declared.cell.Cell.TheVariants as cell
use Rattle.lane_core.specs.declared.history.Act.TheVariants as act
use Rattle.lane_core.specs.declared.history.Entry.{Entry}
use Rattle.lane_core.specs.declared.now.LaneNow.{LaneNow}
use Rattle.lane_core.specs.declared.phase.Phase.{Phase}
use Rattle.lane_core.specs.declared.phase.Phase.TheVariants.{Idle, Scanning, Staging, Staged, Locked, Known, LogAStored, LogA, LogBStored, Logged, Switched, Kept, Called, Looking, Published, Moved, Reading}
use Rattle.lane_core.specs.declared.shape.Shape.{Shape}
use Rattle.lane_core.specs.declared.stepped.Answer.TheVariants as answer
use Rattle.lane_core.specs.declared.stepped.Step.TheVariants as step
use Rattle.lane_core.specs.declared.stepped.Stepped.TheVariants as stepped
use Rattle.lane_core.specs.After.{answer_after, answer_looked, cell_found, is_free, is_unmoved, kind_found, lane_after, lane_looked, past_after, past_looked, uses_cell, uses_words}
use Rattle.lane_core.specs.Begins.{is_idle}
use Rattle.lane_core.specs.Held.{recorded}
use Rattle.lane_core.specs.History.{of_lane}
use Rattle.lane_core.specs.Lines.{looked_now, read_now, word_at, wrote_now}
use Rattle.lane_core.specs.Places.{SeenData}
use Rattle.lane_core.specs.Ready.{IsFilled}
use Rattle.lane_core.specs.Schedules.{Asked, Read, Write, Step, IsInCall, IsOpenIn, IsTold, LaneStands, Told, entry_told, is_read, is_write, lane_asked, told, told_after}
use Rattle.lane_core.specs.Rows.{RowWords, grown}
use Rattle.lane_core.specs.Sessions.{is_unfinished, sector_in, tag_in}
use Rattle.lane_core.proofs.Past.{append_none, of_lane-other, of_lane-own}
use Rattle.lane_core.proofs.Put.{never}

-- ---- lists that grow

entries_more : (ts : List Told) (t : Told) → map entry_told (ts ++ t ∷ []) ≡ map entry_told ts ++ entry_told t ∷ []
entries_more [] t = refl
entries_more (x ∷ ts) t = ap (λ r. entry_told x ∷ r) (entries_more ts t)

told_more : (ts : List Told) (t : Told) → AllByRecursion IsTold ts → IsTold t → AllByRecursion IsTold (ts ++ t ∷ [])
told_more [] t h is = (is, tt)
told_more (x ∷ ts) t h is = (h.0, told_more ts t h.1 is)

-- ---- a lane's call

-- it is still in the call in the next phase
keeps_call : (l : ℕ) (p q : LaneNow) (ph ph' : Phase) (asked : Asked) → IsInCall l p ph asked → tag_in q ph' ≡ tag_in p ph → sector_in q ph' ≡ sector_in p ph → (is_read ph ≡ true → is_read ph' ≡ true) → (is_write ph ≡ true → is_write ph' ≡ true)
    → (is_unfinished ph' ≡ true → (is_unfinished ph ≡ true) × (q.words ≡ p.words)) → IsInCall l q ph' asked
keeps_call l p q ph ph' (Read lane tag sector) c t s r w u = (c.0, t ∙ c.1, s ∙ c.2, r c.3)
keeps_call l p q ph ph' (Write lane tag sector words) c t s r w u = (c.0, t ∙ c.1, s ∙ c.2, w c.3, λ v. (u v).1 ∙ c.4 (u v).0)
keeps_call l p q ph ph' (Step lane) c t s r w u = c

lane_is : (l : ℕ) (p : LaneNow) (ph : Phase) (asked : Asked) → IsInCall l p ph asked → lane_asked asked ≡ l
lane_is l p ph (Read lane tag sector) c = c.0
lane_is l p ph (Write lane tag sector words) c = c.0
lane_is l p ph (Step lane) c = absurd c

-- a write that stands has the words that were asked
wrote_is : (l : ℕ) (p : LaneNow) (asked : Asked) → IsInCall l p Logged asked → wrote_now l p ≡ entry_told (told asked p.tag answer.Wrote)
wrote_is l p (Read lane tag sector) c = never c.3
wrote_is l p (Step lane) c = absurd c
wrote_is l p (Write lane tag sector words) c =
    let own : l ≡ lane = sym c.0 in
    let at : p.sector ≡ sector = c.2 in
    let said : p.words ≡ words = c.4 refl in
    λ i. record { lane = own i; tag = p.tag; sector = at i; act = act.Write (said i) }

-- a read that stands is of the sector that was asked
read_is : (l : ℕ) (p : LaneNow) (ph : Phase) (a b : Cell) (asked : Asked) → IsInCall l p ph asked → is_write ph ≡ false → sector_in p ph ≡ p.sector → a ≡ b → read_now l p a ≡ entry_told (told asked p.tag (answer.Got b))
read_is l p ph a b (Write lane tag sector words) c w s e = never (sym w ∙ c.3)
read_is l p ph a b (Step lane) c w s e = absurd c
read_is l p ph a b (Read lane tag sector) c w s e =
    let own : l ≡ lane = sym c.0 in
    let at : p.sector ≡ sector = sym s ∙ c.2 in
    λ i. record { lane = own i; tag = p.tag; sector = at i; act = act.Read (e i) }

-- a call is answered under its tag
told_read : (l : ℕ) (p : LaneNow) (ph : Phase) (c : Cell) (asked : Asked) → IsInCall l p ph asked → is_write ph ≡ false → tag_in p ph ≡ p.tag → IsTold (told asked p.tag (answer.Got c))
told_read l p ph c (Read lane tag sector) k w t = (sym t ∙ k.1, (c, refl))
told_read l p ph c (Write lane tag sector words) k w t = never (sym w ∙ k.3)
told_read l p ph c (Step lane) k w t = k

told_wrote : (l : ℕ) (p : LaneNow) (asked : Asked) → IsInCall l p Kept asked → IsTold (told asked p.tag answer.Wrote)
told_wrote l p (Read lane tag sector) k = never k.3
told_wrote l p (Write lane tag sector words) k = (k.1, refl)
told_wrote l p (Step lane) k = k

-- ---- one step

module _ (x : Shape) (l : ℕ) (row : RowWords) (p : LaneNow) (es : List Entry) (answers : List Told) (asked : Asked) (h : LaneStands l p es answers asked) (all : AllByRecursion IsTold answers) where
  -- what stands, and what is told, after a step; other lanes' answers are as they were
  pub record Goes (q : LaneNow) (es' : List Entry) (answers' : List Told) : Type 0 where
    pub stands : LaneStands l q es' answers' asked
    pub answered : AllByRecursion IsTold answers'
    pub others : (i : ℕ) → i ≢ l → of_lane i (map entry_told answers') ≡ of_lane i (map entry_told answers)

  abbrev Own : List Entry
  Own = of_lane l (map entry_told answers)

  here : (ph : Phase) → p.phase ≡ ph → is_idle ph ≡ false → IsInCall l p ph asked
  here ph e b = subst (λ ph. IsInCall l p ph asked) e (h.in_call (ap is_idle e ∙ b))

  open_here : (ph : Phase) → p.phase ≡ ph → IsOpenIn asked p.tag ph h.rest
  open_here ph e = subst (λ ph. IsOpenIn asked p.tag ph h.rest) e h.rest_is

  -- no entry and no answer comes
  stays : (ph : Phase) (q : LaneNow) → p.phase ≡ ph → (IsOpenIn asked p.tag ph h.rest → IsOpenIn asked q.tag q.phase h.rest) → IsInCall l q q.phase asked → Goes q es answers
  stays ph q e o c = record {
    stands = record { in_call = λ b. c; rest = h.rest; entries_are = h.entries_are; rest_is = o (open_here ph e) };
    answered = all;
    others = λ i ne. refl;
  }

  -- the lane's own entry comes, and none stood before
  one_more : (e : Entry) → e.lane ≡ l → h.rest ≡ [] → of_lane l (es ++ e ∷ []) ≡ Own ++ e ∷ []
  one_more e le none = of_lane-own l es e le ∙ ap (λ r. r ++ e ∷ []) (h.entries_are ∙ ap (λ r. Own ++ r) none ∙ append_none Own)

  enters : (q : LaneNow) (e : Entry) → h.rest ≡ [] → e.lane ≡ l → IsOpenIn asked q.tag q.phase (e ∷ []) → IsInCall l q q.phase asked → Goes q (es ++ e ∷ []) answers
  enters q e none le o c = record {
    stands = record { in_call = λ b. c; rest = e ∷ []; entries_are = one_more e le none; rest_is = o };
    answered = all;
    others = λ i ne. refl;
  }

  -- the lane's call is answered, and its entry stands then
  ends : (q : LaneNow) (es' : List Entry) (t : Told) → q.phase ≡ Idle → lane_asked t.asked ≡ l → of_lane l es' ≡ Own ++ entry_told t ∷ [] → IsTold t → Goes q es' (answers ++ t ∷ [])
  ends q es' t idle le entries is = record {
    stands = record {
      in_call = λ b. never (sym b ∙ ap is_idle idle);
      rest = [];
      entries_are = entries ∙ sym (of_lane-own l (map entry_told answers) (entry_told t) le) ∙ ap (of_lane l) (sym (entries_more answers t)) ∙ sym (append_none (of_lane l (map entry_told (answers ++ t ∷ []))));
      rest_is = subst (λ ph. IsOpenIn asked q.tag ph []) (sym idle) refl;
    };
    answered = told_more answers t all is;
    others = λ i ne. ap (of_lane i) (entries_more answers t) ∙ of_lane-other i (map entry_told answers) (entry_told t) (λ k. ne (sym k ∙ le));
  }

  choose : {A : Type 0} (P : A → Type 0) (b : Bool) (u v : A) → P u → P v → P (if b then u else v)
  choose P true u v a c = a
  choose P false u v a c = c

  -- the lane's phase alone changes
  to : (ph ph' : Phase) → p.phase ≡ ph → is_idle ph ≡ false → tag_in p ph' ≡ tag_in p ph → sector_in p ph' ≡ sector_in p ph → (is_read ph ≡ true → is_read ph' ≡ true) → (is_write ph ≡ true → is_write ph' ≡ true)
      → (is_unfinished ph' ≡ true → is_unfinished ph ≡ true) → (IsOpenIn asked p.tag ph h.rest → IsOpenIn asked p.tag ph' h.rest) → Goes (record p { phase = ph' }) es answers
  to ph ph' e b t s r w u o = stays ph (record p { phase = ph' }) e o (keeps_call l p (record p { phase = ph' }) ph ph' asked (here ph e b) t s r w (λ v. (u v, refl)))

  scanning : (j : ℕ) → p.phase ≡ Scanning j → Goes (lane_after x l row p (Scanning j)) es answers
  scanning j e =
      choose (λ ph. Goes (record p { phase = ph }) es answers) _ (Scanning 0) _ (to (Scanning j) (Scanning 0) e refl refl refl (λ v. v) (λ v. v) (λ v. v) (λ v. v))
      (choose (λ ph. Goes (record p { phase = ph }) es answers) (j + 2 == x.lanes) (Staging 0) (Scanning (j + 1)) (to (Scanning j) (Staging 0) e refl refl refl (λ v. v) (λ v. v) (λ v. v) (λ v. v))
      (to (Scanning j) (Scanning (j + 1)) e refl refl refl (λ v. v) (λ v. v) (λ v. v) (λ v. v)))

  staging : (k : ℕ) → p.phase ≡ Staging k → Goes (lane_after x l row p (Staging k)) es (told_after answers asked (answer_after x l row p (Staging k)))
  staging k e = by (nat_lt k x.width)
    where
      next : Goes (record p { phase = Staging (k + 1) }) es answers
      next = to (Staging k) (Staging (k + 1)) e refl refl refl (λ v. v) (λ v. v) (λ v. v) (λ v. v)

      by : (b : Bool) → Goes (if b then record p { phase = Staging (k + 1) } else record p { phase = if k + 1 == 2 * x.width then Staged else Staging (k + 1) }) es
          (told_after answers asked (if b then stepped.Went step.DataStore else stepped.Went step.DataKeep))
      by true = next
      by false = choose (λ ph. Goes (record p { phase = ph }) es answers) (k + 1 == 2 * x.width) Staged (Staging (k + 1)) (to (Staging k) Staged e refl refl refl (λ v. v) (λ v. v) (λ v. v) (λ v. v)) next

  idle : Goes p es answers
  idle = record { stands = h; answered = all; others = λ i ne. refl }

  staged : p.phase ≡ Staged → Goes (lane_after x l row p Staged) es answers
  staged e =
      let q : LaneNow = record p { phase = Locked; tag = p.next; sector = p.next_sector } in
      choose (λ q. Goes q es answers) (is_free x l row p) q p
      (stays Staged q e (λ v. v) (keeps_call l p q Staged Locked asked (here Staged e refl) refl refl (λ v. never v) (λ v. refl) (λ v. (refl, refl)))) idle

  locked : p.phase ≡ Locked → Goes (lane_after x l row p Locked) es answers
  locked e = stays Locked (lane_after x l row p Locked) e (λ v. v) (keeps_call l p (lane_after x l row p Locked) Locked Known asked (here Locked e refl) refl refl (λ v. never v) (λ v. refl) (λ v. (refl, refl)))

  known : p.phase ≡ Known → Goes (lane_after x l row p Known) es answers
  known e = to Known LogAStored e refl refl refl (λ v. v) (λ v. v) (λ v. v) (λ v. v)

  log_a_stored : p.phase ≡ LogAStored → Goes (lane_after x l row p LogAStored) es answers
  log_a_stored e = to LogAStored LogA e refl refl refl (λ v. v) (λ v. v) (λ v. v) (λ v. v)

  log_a : p.phase ≡ LogA → Goes (lane_after x l row p LogA) es answers
  log_a e = to LogA LogBStored e refl refl refl (λ v. v) (λ v. v) (λ v. v) (λ v. v)

  log_b_stored : p.phase ≡ LogBStored → Goes (lane_after x l row p LogBStored) es answers
  log_b_stored e = stays LogBStored (lane_after x l row p LogBStored) e (λ v. v) (keeps_call l p (lane_after x l row p LogBStored) LogBStored Logged asked (here LogBStored e refl) refl refl (λ v. never v) (λ v. refl) (λ v. (refl, refl)))

  logged : p.phase ≡ Logged → Goes (lane_after x l row p Logged) (es ++ wrote_now l p ∷ []) answers
  logged e =
      let c = here Logged e refl in
      enters (lane_after x l row p Logged) (wrote_now l p) (open_here Logged e) refl (ap (λ w. w ∷ []) (wrote_is l p asked c))
      (keeps_call l p (lane_after x l row p Logged) Logged Switched asked c refl refl (λ v. never v) (λ v. refl) (λ v. never v))

  switched : p.phase ≡ Switched → Goes (lane_after x l row p Switched) es answers
  switched e = to Switched Kept e refl refl refl (λ v. v) (λ v. v) (λ v. v) (λ v. v)

  kept : p.phase ≡ Kept → Goes (lane_after x l row p Kept) es (answers ++ told asked p.tag answer.Wrote ∷ [])
  kept e =
      let c = here Kept e refl in
      ends (lane_after x l row p Kept) es (told asked p.tag answer.Wrote) refl (lane_is l p Kept asked c) (h.entries_are ∙ ap (λ r. Own ++ r) (open_here Kept e)) (told_wrote l p asked c)

  -- the entry of a read that finds no block, and its answer
  found : (a b : Cell) (q : LaneNow) → a ≡ b → p.phase ≡ Called → q.phase ≡ Idle → Goes q (es ++ read_now l p a ∷ []) (answers ++ told asked p.tag (answer.Got b) ∷ [])
  found a b q same e i =
      let c = here Called e refl in
      ends q (es ++ read_now l p a ∷ []) (told asked p.tag (answer.Got b)) i (lane_is l p Called asked c)
      (one_more (read_now l p a) refl (open_here Called e) ∙ ap (λ r. Own ++ r ∷ []) (read_is l p Called a b asked c refl refl same)) (told_read l p Called b asked c refl refl)

  looks : (q : LaneNow) → p.phase ≡ Called → q.phase ≡ Looking → q.tag ≡ p.tag → q.sector ≡ p.sector → Goes q es answers
  looks q e i t s = stays Called q e (λ v. subst (λ ph. IsOpenIn asked q.tag ph h.rest) (sym i) v)
      (subst (λ ph. IsInCall l q ph asked) (sym i) (keeps_call l p q Called Looking asked (here Called e refl) t s (λ v. refl) (λ v. never v) (λ v. never v)))

  module _ (f : IsFilled x p) where
    called : (k : Kind) → p.phase ≡ Called → Goes (lane_looked x l row p k) (past_looked x l row p (recorded es 0) k).entries (told_after answers asked (answer_looked x l row p k))
    called kind.Zero e = found (cell.Bytes (replicate (length p.cell) 0)) (cell.Bytes (replicate (length p.words) 0)) (lane_looked x l row p kind.Zero) (ap (λ n. cell.Bytes (replicate n 0)) (f.cell (ap uses_cell e) ∙ sym (f.words (ap uses_words e)))) e refl
    called kind.Bad e = found cell.Bad cell.Bad (lane_looked x l row p kind.Bad) refl e refl
    called kind.Initial e = looks (lane_looked x l row p kind.Initial) e refl refl refl
    called kind.Normal e = looks (lane_looked x l row p kind.Normal) e refl refl refl

  looking : p.phase ≡ Looking → Goes (lane_after x l row p Looking) es answers
  looking e = to Looking Published e refl refl refl (λ v. v) (λ v. v) (λ v. v) (λ v. v)

  published : p.phase ≡ Published → Goes (lane_after x l row p Published) (past_after x l row p (recorded es 0) Published).entries answers
  published e = by (is_unmoved x l row p)
    where
      by : (b : Bool) → Goes (if b then record p { phase = Reading 0; cell = [] } else record p { phase = Moved }) (if b then grown (recorded es 0) (read_now l p (cell_found x l row p)) else recorded es 0).entries answers
      by true =
          let c = here Published e refl in
          enters (record p { phase = Reading 0; cell = [] }) (read_now l p (cell_found x l row p)) (open_here Published e) refl
          (cell_found x l row p, ap (λ w. w ∷ []) (read_is l p Published (cell_found x l row p) (cell_found x l row p) asked c refl refl refl))
          (keeps_call l p (record p { phase = Reading 0; cell = [] }) Published (Reading 0) asked c refl refl (λ v. refl) (λ v. never v) (λ v. never v))
      by false = to Published Moved e refl refl refl (λ v. v) (λ v. v) (λ v. v) (λ v. v)

  moved : p.phase ≡ Moved → Goes (lane_after x l row p Moved) es answers
  moved e = to Moved Called e refl refl refl (λ v. v) (λ v. v) (λ v. v) (λ v. v)

  -- the entry of a read that is answered has the words that it loaded
  abbrev IsWhole : Type 0
  IsWhole = (k : ℕ) (c : Cell) → p.phase ≡ Reading k → nat_lt k x.width ≡ false → of_lane l es ≡ Own ++ entry_told (told asked p.tag (answer.Got c)) ∷ [] → c ≡ cell.Bytes p.words

  reading : IsWhole → (k : ℕ) → p.phase ≡ Reading k → Goes (lane_after x l row p (Reading k)) es (told_after answers asked (answer_after x l row p (Reading k)))
  reading whole k e = by (nat_lt k x.width) refl
    where
      by : (b : Bool) → nat_lt k x.width ≡ b → Goes (if b then record p { phase = Reading (k + 1); words = slice_set p.words k (word_at x row (SeenData (looked_now p) k)) } else record p { phase = Idle; words = [] }) es
          (told_after answers asked (if b then stepped.Went step.DataLoad else stepped.Done p.tag (answer.Got (cell.Bytes p.words))))
      by true t = stays (Reading k) (record p { phase = Reading (k + 1); words = slice_set p.words k (word_at x row (SeenData (looked_now p) k)) }) e (λ v. v)
          (keeps_call l p (record p { phase = Reading (k + 1); words = slice_set p.words k (word_at x row (SeenData (looked_now p) k)) }) (Reading k) (Reading (k + 1)) asked (here (Reading k) e refl) refl refl (λ v. refl) (λ v. never v) (λ v. never v))
      by false t =
          let c = here (Reading k) e refl in
          let o = open_here (Reading k) e in
          let stood : of_lane l es ≡ Own ++ entry_told (told asked p.tag (answer.Got o.0)) ∷ [] = h.entries_are ∙ ap (λ r. Own ++ r) o.1 in
          ends (record p { phase = Idle; words = [] }) es (told asked p.tag (answer.Got (cell.Bytes p.words))) refl (lane_is l p (Reading k) asked c)
          (stood ∙ ap (λ d. Own ++ entry_told (told asked p.tag (answer.Got d)) ∷ []) (whole k o.0 e t stood)) (told_read l p (Reading k) (cell.Bytes p.words) asked c refl refl)

  pub goes : IsFilled x p → IsWhole → (ph : Phase) → p.phase ≡ ph → Goes (lane_after x l row p ph) (past_after x l row p (recorded es 0) ph).entries (told_after answers asked (answer_after x l row p ph))
  goes f whole Idle e = idle
  goes f whole (Scanning j) e = scanning j e
  goes f whole (Staging k) e = staging k e
  goes f whole Staged e = staged e
  goes f whole Locked e = locked e
  goes f whole Known e = known e
  goes f whole LogAStored e = log_a_stored e
  goes f whole LogA e = log_a e
  goes f whole LogBStored e = log_b_stored e
  goes f whole Logged e = logged e
  goes f whole Switched e = switched e
  goes f whole Kept e = kept e
  goes f whole Called e = called f (kind_found x l row p) e
  goes f whole Looking e = looking e
  goes f whole Published e = published e
  goes f whole Moved e = moved e
  goes f whole (Reading k) e = reading whole k e
