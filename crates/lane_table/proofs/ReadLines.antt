-- The lines of a read, each as a step on one word.
use Rattle.std.proofs.Common.{◌≡◌, ℕ, ◌+◌, ◌/◌, ◌<◌, ◌≢◌, ◌==◌, inl, inr, suc, true, List, [], ◌∷◌, ◌++◌, map, replicate, refl, sym, ap, ◌∙◌, subst, arith}
use mathlib.Core.Option.{some}
use prog.Atomic.{either}
use Rattle.atomic_table.specs.Table.{Allows, Me}
use Rattle.map_table.specs.declared.kinds.Kind.{Kind}
use Rattle.map_table.specs.declared.kinds.Kind.TheVariants as kind
use Rattle.map_table.specs.Entry.{entry_in}
use Rattle.arena_open.specs.declared.cell.Cell.{Cell}
use Rattle.arena_open.specs.declared.cell.Cell.TheVariants as cell
use Rattle.lane_core.specs.declared.lane.Lane.{Lane}
use Rattle.lane_core.specs.declared.shape.Shape.{Shape}
use Rattle.lane_core.specs.declared.phase.Phase.TheVariants.{Idle, Called, Looking, Published, Moved, Reading}
use Rattle.lane_core.specs.Areas.{put, block_in, kind_in, has_bytes, entry_at}
use Rattle.lane_core.specs.declared.history.Act.TheVariants as act
use Rattle.lane_core.specs.History.{cell_of, listed, of_lane}
use Rattle.lane_core.specs.Invariant.{is_reading, only_if, open_entry}
use Rattle.lane_core.specs.Machine as machine
use Rattle.lane_core.specs.Machine.{State, looked, read}
use Rattle.lane_core.specs.Places.{SeenData, SeenMap, SeenA, Reader, word_of, geometry}
use Rattle.lane_core.proofs.Put.{put_at, put_other, put_elim, same_or_not}
use Rattle.lane_core.proofs.Elsewhere.{nowhere, but_reader}
use Rattle.lane_core.proofs.Own.{free_called}
use Rattle.lane_core.proofs.Past.{cell_in-zero, cell_in-bad}
use Rattle.lane_core.proofs.Turns.{begin_read_sound, look_sound, rtt_set_sound, check_moved_sound, clear_moved_sound, data_load_sound, clear_done_sound, give_up_sound}
use Rattle.lane_core.proofs.Answering.{look_cell_sound, check_same_sound}
use Rattle.lane_table.specs.declared.table.Call.{Call}
use Rattle.lane_table.specs.declared.table.Key.{Key}
use Rattle.lane_table.specs.declared.table.View.{View}
use Rattle.lane_table.specs.Law.{holds, opening_of, words_of, found, counted, uncounted, looks, with, may_enter, noted, entered}
use Rattle.lane_table.specs.Told.{answered, called, looking, looked_at, published, reading, moved, with_load, given_up, answered_with_words, blocks}
use Rattle.lane_table.proofs.Moves.{allows_step, allows_line, allows_weaker, phase_of, all_logged, Goes, Stands}
use Rattle.lane_table.proofs.Passes.{Effect, enters, opens, closes, quiet}
use Rattle.lane_table.proofs.WriteLines.{at_place, map_word_in, sector_in, stores}

same_either : (n : ℕ) → either (n == 0) 0 n ≡ n
same_either n = grind arith

-- of two changes at one place the later one counts
put_twice : {A : Type 0} (f : ℕ → A) (l : ℕ) (a b : A) → put (put f l a) l b ≡ put f l b
put_twice f l a b = λ i k. put_elim (λ k w. put (put f l a) l b k ≡ w) f l b (put_at (put f l a) l b) (λ k ne. put_other (put f l a) l b k ne ∙ put_other f l a k ne) k i

-- a lane that has the words of its read has its calls in its log, but for the read
last_read : (x : Shape) (o : ℕ → Cell) (v : View) (s : State) → Stands x o v s → v.lane.phase ≡ Reading x.width → of_lane v.number s.history ≡ v.lane.log ++ read v.number v.lane (cell.Bytes v.lane.got) ∷ []
last_read x o v s h e =
    let p = s.lanes v.number in
    let tells = (h.sound.each v.number h.number).tells in
    let reads = phase_of x o v s _ h e in
    tells.entries ∙ ap (λ b. p.log ++ only_if b (open_entry x.width (s.seen.data_at (looked p)) v.number p.tag p.sector)) (ap is_reading reads)
    ∙ ap (λ ws. p.log ++ record { lane = v.number; tag = p.tag; sector = p.sector; act = act.Read (cell.Bytes ws) } ∷ []) (sym (tells.loaded x.width reads).1)
    ∙ ap (λ (p : Lane). p.log ++ read v.number p (cell.Bytes p.got) ∷ []) h.lane

module _ {S : Type 0} (key : Key) (slots id i : ℕ) (me : Me S View) (live : me.0.live ≡ true) where
  abbrev x : Shape
  x = key.shape

  abbrev o : ℕ → Cell
  o = opening_of key

  abbrev ws : List ℕ
  ws = words_of key

  abbrev v : View
  v = me.0

  -- ---- the looks at the map

  begins : (t : Call) → v.lane.phase ≡ Idle → t.sector < x.sectors → Allows (holds key) slots id me (word_of x (SeenA v.number 0)) (λ n. either (n == 0) 0 n) (λ n w. w ≡ called t me)
  begins t e ls =
      allows_line uncounted x o ws slots id v me.1 (SeenA v.number 0) (λ n. either (n == 0) 0 n) (λ n p. record p { phase = Called; tag = t.tag; sector = t.sector }) live
      (λ s h. (h.number, omega arith))
      (λ s h n is. record {
        next = machine.begin_read (geometry x) s v.number t.tag t.sector;
        quiet = (refl, refl);
        sound = begin_read_sound (geometry x) o s v.number h.sound h.number t.tag t.sector (phase_of x o v s _ h e) ls;
        lanes = refl;
        here = sym is ∙ sym (same_either n);
        there = λ r ne. nowhere x s (machine.begin_read (geometry x) s v.number t.tag t.sector).lanes s.history r;
      })

  -- ReadBegin: the exchange changes no word, and tells the call
  pub begins_read : (call : Call) → v.lane.phase ≡ Idle → call.sector < x.sectors → i ≡ word_of x (SeenA v.number 0)
      → Allows (holds key) slots id me i (λ n. either (n == 0) 0 n) (λ n w. (t : Call) → some call ≡ some t → w ≡ called t me)
  begins_read call e ls ei =
      let b : ℕ → Me S View → Type 0 = λ n w. (t : Call) → some call ≡ some t → w ≡ called t me in
      at_place key slots id i me live (SeenA v.number 0) (λ n. either (n == 0) 0 n) b ei
      (allows_weaker (holds key) slots id me _ (λ n. either (n == 0) 0 n) (λ n w. w ≡ called call me) b
      (λ n w q t et. let same : call ≡ t = cc in q ∙ ap (λ t. called t me) same) (begins call e ls))

  -- what the entry that was found says
  abbrev said : ℕ → Kind
  said n = kind_in (entry_in n v.lane.sector)

  -- the seat is told what the word says, and that the entry's block is one of the arena
  abbrev look_tells : ℕ → Me S View → Type 0
  look_tells n w = (w ≡ looked_at (said n) n me) × (looked (record (v.lane) { loaded = n }) < blocks v.shape)

  said_is : (s : State) → Stands x o v s → (n : ℕ) → n ≡ s.seen.map_at (v.lane.sector / 2) → kind_in (entry_at s.seen.map_at (s.lanes v.number).sector) ≡ said n
  said_is s h n is = ap (λ (p : Lane). kind_in (entry_at s.seen.map_at p.sector)) h.lane ∙ ap (λ w. kind_in (entry_in w v.lane.sector)) (sym is)

  in_range : (s : State) → Stands x o v s → (n : ℕ) → n ≡ s.seen.map_at (v.lane.sector / 2) → v.lane.phase ≡ Called → looked (record (v.lane) { loaded = n }) < blocks v.shape
  in_range s h n is e =
      subst (λ (y : Shape). block_in (entry_in n v.lane.sector) v.lane.sector < blocks y) (sym h.shape)
      (subst (λ w. block_in (entry_in w v.lane.sector) v.lane.sector < blocks x) (sym is) (h.sound.blocks.map_in v.lane.sector (sector_in x o v s _ h e refl)))

  -- the entry itself says the cell
  answers : (c : Cell) (k : Kind) (s : State) → Stands x o v s → (n : ℕ) → n ≡ s.seen.map_at (v.lane.sector / 2) → v.lane.phase ≡ Called → may_enter v.held v.lane.tag ≡ true → said n ≡ k
      → c ≡ cell_of (geometry x) s.seen.data_at s.seen.map_at (s.lanes v.number).sector → (entered (read v.number v.lane c) (found n v (answered v.number v.lane c)), me.1) ≡ looked_at k n me
      → Goes looks x o v me.1 (SeenMap (v.lane.sector / 2)) (λ n. n) look_tells s n
  answers c k s h n is e ok q cell_is told_is =
      record {
        new = answered v.number (s.lanes v.number) c;
        next = machine.look_cell (geometry x) s v.number c;
        hands = map (noted (read v.number v.lane c)) v.held;
        enters = subst (λ (p : Lane). Effect s.history (s.history ++ read v.number p c ∷ []) v.number v.lane.log (p.log ++ read v.number p c ∷ []) v.held (map (noted (read v.number v.lane c)) v.held)) (sym h.lane)
            (enters v.held (read v.number v.lane c) ok refl (all_logged x o v s h (ap is_reading e)));
        sound = look_cell_sound (geometry x) o s v.number h.sound h.number c (phase_of x o v s _ h e) cell_is;
        lanes = refl;
        here = sym is;
        there = λ t ne. nowhere x s (machine.look_cell (geometry x) s v.number c).lanes (machine.look_cell (geometry x) s v.number c).history t;
        tells = (ap (λ (p : Lane). (record (found n v (answered v.number p c)) { held = map (noted (read v.number v.lane c)) v.held }, me.1)) h.lane ∙ told_is ∙ ap (λ k. looked_at k n me) (sym q), in_range s h n is e);
      }

  -- the entry says that its block has the bytes
  goes_on : (k : Kind) (s : State) → Stands x o v s → (n : ℕ) → n ≡ s.seen.map_at (v.lane.sector / 2) → v.lane.phase ≡ Called → said n ≡ k → has_bytes k ≡ true → looking n me ≡ looked_at k n me
      → Goes looks x o v me.1 (SeenMap (v.lane.sector / 2)) (λ n. n) look_tells s n
  goes_on k s h n is e q bytes told_is =
      record {
        new = record (s.lanes v.number) { phase = Looking; loaded = n };
        next = machine.look (geometry x) s v.number;
        hands = v.held;
        enters = quiet v.number v.held refl (ap (λ (p : Lane). p.log) h.lane);
        sound = look_sound (geometry x) o s v.number h.sound h.number (phase_of x o v s _ h e) (ap has_bytes (said_is s h n is ∙ q) ∙ bytes);
        lanes = ap (λ w. put s.lanes v.number (record (s.lanes v.number) { phase = Looking; loaded = w })) (ap (λ (p : Lane). s.seen.map_at (p.sector / 2)) h.lane ∙ sym is);
        here = sym is;
        there = λ t ne. nowhere x s (machine.look (geometry x) s v.number).lanes s.history t;
        tells = (ap (λ (p : Lane). (found n v (record p { phase = Looking; loaded = n }), me.1)) h.lane ∙ told_is ∙ ap (λ k. looked_at k n me) (sym q), in_range s h n is e);
      }

  by_kind : (k : Kind) (s : State) → Stands x o v s → (n : ℕ) → n ≡ s.seen.map_at (v.lane.sector / 2) → v.lane.phase ≡ Called → may_enter v.held v.lane.tag ≡ true → said n ≡ k → Goes looks x o v me.1 (SeenMap (v.lane.sector / 2)) (λ n. n) look_tells s n
  by_kind kind.Zero s h n is e ok q =
      answers (cell.Bytes (replicate x.width 0)) kind.Zero s h n is e ok q (sym (cell_in-zero x.width s.seen.data_at (entry_at s.seen.map_at (s.lanes v.number).sector) (s.lanes v.number).sector (said_is s h n is ∙ q)))
      (ap (λ (y : Shape). (entered (read v.number v.lane (cell.Bytes (replicate y.width 0))) (found n v (answered v.number v.lane (cell.Bytes (replicate y.width 0)))), me.1)) (sym h.shape))
  by_kind kind.Bad s h n is e ok q =
      answers cell.Bad kind.Bad s h n is e ok q (sym (cell_in-bad x.width s.seen.data_at (entry_at s.seen.map_at (s.lanes v.number).sector) (s.lanes v.number).sector (said_is s h n is ∙ q))) refl
  by_kind kind.Initial s h n is e ok q = goes_on kind.Initial s h n is e q refl refl
  by_kind kind.Normal s h n is e ok q = goes_on kind.Normal s h n is e q refl refl

  -- MapLook
  pub looks_map : v.lane.phase ≡ Called → may_enter v.held v.lane.tag ≡ true → i ≡ word_of x (SeenMap (v.lane.sector / 2)) → Allows (holds key) slots id me i (λ n. n) look_tells
  looks_map e ok ei =
      at_place key slots id i me live (SeenMap (v.lane.sector / 2)) (λ n. n) look_tells ei
      (allows_step looks x o ws slots id v me.1 (SeenMap (v.lane.sector / 2)) (λ n. n) look_tells live
      (λ s h. map_word_in x.sectors v.lane.sector (sector_in x o v s _ h e refl))
      (λ s h n is. by_kind (said n) s h n is e ok refl))

  abbrev check_tells : ℕ → Me S View → Type 0
  check_tells n w =
      (entry_in n v.lane.sector ≡ entry_in v.lane.loaded v.lane.sector → w ≡ reading n me)
      × (entry_in n v.lane.sector ≢ entry_in v.lane.loaded v.lane.sector → w ≡ moved n me)

  -- MapCheck
  pub checks_map : v.lane.phase ≡ Published → may_enter v.held v.lane.tag ≡ true → i ≡ word_of x (SeenMap (v.lane.sector / 2)) → Allows (holds key) slots id me i (λ n. n) check_tells
  checks_map e ok ei =
      at_place key slots id i me live (SeenMap (v.lane.sector / 2)) (λ n. n) check_tells ei
      (allows_step looks x o ws slots id v me.1 (SeenMap (v.lane.sector / 2)) (λ n. n) check_tells live
      (λ s h. map_word_in x.sectors v.lane.sector (sector_in x o v s _ h e refl))
      (λ s h n is. elim (same_or_not (entry_in n v.lane.sector) (entry_in v.lane.loaded v.lane.sector)) [
        | inl z ↦ record {
          new = record (s.lanes v.number) { phase = Reading 0; got = [] };
          next = machine.check_same (geometry x) s v.number;
          hands = v.held;
          enters = let c : Cell = cell.Bytes (listed x.width (s.seen.data_at (looked (s.lanes v.number)))) in
              subst (λ (p : Lane). Effect s.history (s.history ++ read v.number p c ∷ []) v.number v.lane.log p.log v.held v.held) (sym h.lane) (opens v.held (read v.number v.lane c) ok refl (all_logged x o v s h (ap is_reading e)));
          sound = check_same_sound (geometry x) o s v.number h.sound h.number (phase_of x o v s _ h e)
              (ap (λ (p : Lane). entry_at s.seen.map_at p.sector) h.lane ∙ ap (λ w. entry_in w v.lane.sector) (sym is) ∙ z ∙ ap (λ (p : Lane). entry_in p.loaded p.sector) (sym h.lane));
          lanes = refl;
          here = sym is;
          there = λ t ne. nowhere x s (machine.check_same (geometry x) s v.number).lanes (machine.check_same (geometry x) s v.number).history t;
          tells = (λ _. ap (λ (p : Lane). (found n v (record p { phase = Reading 0; got = [] }), me.1)) h.lane, λ ne. absurd (ne z));
        }
        | inr nz ↦ record {
          new = record (s.lanes v.number) { phase = Moved };
          next = machine.check_moved (geometry x) s v.number;
          hands = v.held;
          enters = quiet v.number v.held refl (ap (λ (p : Lane). p.log) h.lane);
          sound = check_moved_sound (geometry x) o s v.number h.sound h.number (phase_of x o v s _ h e);
          lanes = refl;
          here = sym is;
          there = λ t ne. nowhere x s (machine.check_moved (geometry x) s v.number).lanes s.history t;
          tells = (λ z. absurd (nz z), λ _. ap (λ (p : Lane). (found n v (record p { phase = Moved }), me.1)) h.lane);
        }
      ]))

  -- ---- the reader word

  -- RttSet
  pub sets_reader : (m : ℕ) → v.lane.phase ≡ Looking → i ≡ word_of x (Reader v.number) → m ≡ suc (looked v.lane) → Allows (holds key) slots id me i (λ _. m) (λ n w. w ≡ published me)
  sets_reader m e ei em =
      stores key slots id i me live m (suc (looked v.lane)) (Reader v.number) (λ n w. w ≡ published me) ei em
      (allows_line counted x o ws slots id v me.1 (Reader v.number) (λ _. suc (looked v.lane)) (λ n p. record p { phase = Published }) live
      (λ s h. h.number)
      (λ s h n is. record {
        next = machine.rtt_set (geometry x) s v.number;
        quiet = (refl, refl);
        sound = rtt_set_sound (geometry x) o s v.number h.sound h.number (phase_of x o v s _ h e);
        lanes = refl;
        here = put_at s.readers v.number _ ∙ ap (λ (p : Lane). suc (looked p)) h.lane;
        there = but_reader x s (machine.rtt_set (geometry x) s v.number).lanes s.history v.number _;
      }))

  -- what RttClear tells: the read moved and is given up, or it has its words and is answered
  abbrev clear_tells : Me S View → Type 0
  clear_tells w = (v.lane.phase ≡ Moved → w ≡ given_up me) × ((k : ℕ) → v.lane.phase ≡ Reading k → w ≡ answered_with_words me)

  -- RttClear of a read that moved: the call is given up with the same step
  pub clears_moved : v.lane.phase ≡ Moved → i ≡ word_of x (Reader v.number) → Allows (holds key) slots id me i (λ _. 0) (λ n w. clear_tells w)
  clears_moved e ei =
      at_place key slots id i me live (Reader v.number) (λ _. 0) (λ n w. clear_tells w) ei
      (allows_step counted x o ws slots id v me.1 (Reader v.number) (λ _. 0) (λ n w. clear_tells w) live
      (λ s h. h.number)
      (λ s h n is. let called : Lane = record (s.lanes v.number) { phase = Called } in
      record {
        new = record (s.lanes v.number) { phase = Idle };
        next = machine.give_up (geometry x) (machine.clear_moved (geometry x) s v.number) v.number;
        hands = v.held;
        enters = quiet v.number v.held refl (ap (λ (p : Lane). p.log) h.lane);
        sound = give_up_sound (geometry x) o (machine.clear_moved (geometry x) s v.number) v.number (clear_moved_sound (geometry x) o s v.number h.sound h.number (phase_of x o v s _ h e)) h.number Called free_called
            (ap (λ (p : Lane). p.phase) (put_at s.lanes v.number called)) refl;
        lanes = ap (λ (p : Lane). put (put s.lanes v.number called) v.number (record p { phase = Idle })) (put_at s.lanes v.number called) ∙ put_twice s.lanes v.number called (record called { phase = Idle });
        here = put_at s.readers v.number 0;
        there = but_reader x s (machine.give_up (geometry x) (machine.clear_moved (geometry x) s v.number) v.number).lanes s.history v.number 0;
        tells = (λ _. ap (λ (p : Lane). (with v (record p { phase = Idle }), me.1)) h.lane, λ k r. cc);
      }))

  -- RttClear after the last word: the read is answered
  pub clears_read : v.lane.phase ≡ Reading x.width → may_enter v.held v.lane.tag ≡ true → i ≡ word_of x (Reader v.number) → Allows (holds key) slots id me i (λ _. 0) (λ n w. clear_tells w)
  clears_read e ok ei =
      at_place key slots id i me live (Reader v.number) (λ _. 0) (λ n w. clear_tells w) ei
      (allows_step counted x o ws slots id v me.1 (Reader v.number) (λ _. 0) (λ n w. clear_tells w) live
      (λ s h. h.number)
      (λ s h n is. record {
        new = record (answered v.number (s.lanes v.number) (cell.Bytes (s.lanes v.number).got)) { got = [] };
        next = machine.clear_done (geometry x) s v.number;
        hands = map (noted (read v.number v.lane (cell.Bytes v.lane.got))) v.held;
        enters = subst (λ (p : Lane). Effect s.history s.history v.number v.lane.log (p.log ++ read v.number p (cell.Bytes p.got) ∷ []) v.held (map (noted (read v.number v.lane (cell.Bytes v.lane.got))) v.held)) (sym h.lane)
            (closes v.held (read v.number v.lane (cell.Bytes v.lane.got)) ok refl (last_read x o v s h e));
        sound = clear_done_sound (geometry x) o s v.number h.sound h.number (phase_of x o v s _ h e);
        lanes = refl;
        here = put_at s.readers v.number 0;
        there = but_reader x s (machine.clear_done (geometry x) s v.number).lanes s.history v.number 0;
        tells = (λ r. cc, λ k _. ap (λ (p : Lane). (record (with v (record (answered v.number p (cell.Bytes p.got)) { got = [] })) { held = map (noted (read v.number v.lane (cell.Bytes v.lane.got))) v.held }, me.1)) h.lane);
      }))

  -- ---- the words of the block

  loads_word : (k : ℕ) → v.lane.phase ≡ Reading k → k < x.width → looked v.lane < blocks x → Allows (holds key) slots id me (word_of x (SeenData (looked v.lane) k)) (λ n. n) (λ n w. w ≡ with_load me k n)
  loads_word k e lt inside =
      allows_line looks x o ws slots id v me.1 (SeenData (looked v.lane) k) (λ n. n) (λ n p. record p { phase = Reading (k + 1); got = p.got ++ n ∷ [] }) live
      (λ s h. (inside, lt))
      (λ s h n is. record {
        next = machine.data_load (geometry x) s v.number k;
        quiet = (refl, refl);
        sound = data_load_sound (geometry x) o s v.number h.sound h.number k (phase_of x o v s _ h e) lt;
        lanes = ap (λ w. put s.lanes v.number (record (s.lanes v.number) { phase = Reading (k + 1); got = (s.lanes v.number).got ++ w ∷ [] })) (ap (λ (p : Lane). s.seen.data_at (looked p) k) h.lane ∙ sym is);
        here = sym is;
        there = λ t ne. nowhere x s (machine.data_load (geometry x) s v.number k).lanes s.history t;
      })

  -- DataLoad
  pub loads_data : (k : ℕ) → v.lane.phase ≡ Reading k → k < x.width → looked v.lane < blocks x → i ≡ word_of x (SeenData (looked v.lane) k)
      → Allows (holds key) slots id me i (λ n. n) (λ n w. (j : ℕ) → v.lane.phase ≡ Reading j → w ≡ with_load me j n)
  loads_data k e lt inside ei =
      let b : ℕ → Me S View → Type 0 = λ n w. (j : ℕ) → v.lane.phase ≡ Reading j → w ≡ with_load me j n in
      at_place key slots id i me live (SeenData (looked v.lane) k) (λ n. n) b ei
      (allows_weaker (holds key) slots id me _ (λ n. n) (λ n w. w ≡ with_load me k n) b
      (λ n w q j ej. let z : k ≡ j = cc in q ∙ ap (λ j. with_load me j n) z) (loads_word k e lt inside))
