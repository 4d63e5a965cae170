-- The parts of a lane's own facts, from one phase to the next.
use Rattle.std.proofs.Common.{◌≡◌, ℕ, ◌+◌, ◌-◌, ◌*◌, ◌/◌, ◌^◌, ◌<◌, ◌≤◌, ◌≢◌, inl, inr, suc, Bool, true, false, refl, sym, ap, ◌∙◌, subst, arith, if◌then◌else◌, List, [], ◌∷◌, ◌++◌, length, get_or}
use Rattle.map_table.specs.Entry.{entry_in, with_entry}
use Rattle.nvd_words.specs.declared.tag.Tag.{Tag}
use Rattle.lane_core.specs.Areas.{put, Geometry, Half, block_in, normal}
use Rattle.lane_core.specs.History.{Entry}
use Rattle.lane_core.specs.Machine.{Phase, Idle, Scanning, Staging, Staged, Known, LogAStored, LogA, LogBStored, Logged, Switched, Called, Looking, Published, Reading, Lane, other}
use Rattle.lane_core.specs.Invariant.{Stages, Knows, Halves, Tells, switching, is_reading, is_filling, has_words, is_locked, is_logged, is_switched, is_log_a_stored, is_log_b_stored, has_log_a, is_known, is_seeking, uses_sector, only_if, open_entry, is_plain, stored, saved, is_published}
use Rattle.lane_core.proofs.Put.{put_at, put_other, same_or_not, never}
use Rattle.std.proofs.Common.{subst₂}
use Rattle.lane_core.specs.Areas.{word_a, word_b, lba_in, old_in, new_in, seq_in, next_seq, half_in, IsNewer}
use Rattle.lane_core.proofs.Entries.{lba_in-word, old_in-word, new_in-word, seq_in-word, next_newer, entry_in-with_same, entry_in-with_other, normal_fits, block_in-normal}
use Rattle.std.proofs.Common.{length-append}
use Rattle.std.proofs.Math.ListN.{get_or-append}
use Rattle.std.proofs.Math.Seq.{get_or-append_seam}

plain_logged : (ph : Phase) → is_plain ph ≡ true → is_logged ph ≡ true → {A : Type 0} → A
plain_logged Logged e t = never e
plain_logged _ e t = never t

plain_switched : (ph : Phase) → is_plain ph ≡ true → is_switched ph ≡ true → {A : Type 0} → A
plain_switched Switched e t = never e
plain_switched _ e t = never t

plain_a : (ph : Phase) → is_plain ph ≡ true → has_log_a ph ≡ true → {A : Type 0} → A
plain_a LogAStored e t = never e
plain_a LogA e t = never e
plain_a LogBStored e t = never e
plain_a _ e t = never t

plain_b : (ph : Phase) → is_plain ph ≡ true → is_log_b_stored ph ≡ true → {A : Type 0} → A
plain_b LogBStored e t = never e
plain_b _ e t = never t

module _ (sa sb ka kb : ℕ → ℕ) (w kw w' kw' : ℕ) (ph ph' : Phase) (side : ℕ) (half : Half) (block sector sector' : ℕ) where
  -- from a phase in which the log words are kept and the half names the block, to a plain one
  pub halves_plain : is_log_a_stored ph ≡ false → is_log_b_stored ph ≡ false → is_logged ph ≡ false → is_plain ph' ≡ true
      → Halves sa sb ka kb w kw ph side half block sector → Halves sa sb ka kb w' kw' ph' side half block sector'
  halves_plain ea eb el pl h =
      record {
        two = h.two;
        current_a = h.current_a;
        current_b = h.current_b;
        other_a = λ _. h.other_a ea;
        other_b = λ _. h.other_b eb;
        current = h.current;
        newer = h.newer;
        old = λ _. h.old el;
        logged = λ t. plain_logged ph' pl t;
        switched = λ t. plain_switched ph' pl t;
        switched_rest = λ t. plain_switched ph' pl t;
        named_a = λ t. plain_a ph' pl t;
        named_b = λ t. plain_b ph' pl t;
      }

-- neither phase reads
module _ (width : ℕ) (row row' : ℕ → ℕ) (history : List Entry) (l : ℕ) (ph ph' : Phase) (tag : Tag) (sec : ℕ) (tag' : Tag) (sec' : ℕ) (log : List Entry) (got got' : List ℕ) where
  pub tells_plain : is_reading ph ≡ false → is_reading ph' ≡ false → Tells width row history l ph tag sec log got → Tells width row' history l ph' tag' sec' log got'
  tells_plain e e' h =
      record {
        entries = h.entries ∙ ap (λ b. log ++ only_if b (open_entry width row l tag sec)) e ∙ ap (λ b. log ++ only_if b (open_entry width row' l tag' sec')) (sym e');
        loaded = λ k q. never (sym e' ∙ ap is_reading q);
      }

module _ (width : ℕ) (row krow : ℕ → ℕ) (words : List ℕ) (k w : ℕ) where
  pub stages_store : k < width → Stages width row krow (Staging k) words → Stages width (put row k w) krow (Staging (k + 1)) (words ++ w ∷ [])
  stages_store lt h =
      let size : length words ≡ k = let e = h.size refl in omega arith in
      record {
        size = λ _. omega (arith, length-append words (w ∷ []), size);
        seen_words = λ j lj. elim (same_or_not j k) [
          | inl e ↦ subst (λ i. put row k w i ≡ get_or (words ++ w ∷ []) i 0) (sym e) (put_at row k w ∙ sym (subst (λ n. get_or (words ++ w ∷ []) n 0 ≡ w) size (get_or-append_seam words w [] 0)))
          | inr ne ↦ put_other row k w j ne ∙ h.seen_words j (omega arith) ∙ sym (get_or-append words (w ∷ []) 0 j (omega (arith, size)))
        ];
        kept_words = λ j lj. absurd (omega arith);
        clean = λ j lj le. h.clean j lj (omega arith) ∙ sym (put_other row k w j (omega arith));
      }

module _ (width : ℕ) (row krow : ℕ → ℕ) (words : List ℕ) (k : ℕ) where
  pub stages_keep : k < 2 * width → width ≤ k → Stages width row krow (Staging k) words → Stages width row (put krow (k - width) (row (k - width))) (Staging (k + 1)) words
  stages_keep lt le h =
      record {
        size = λ _. let e = h.size refl in omega arith;
        seen_words = λ j lj. h.seen_words j (omega arith);
        kept_words = λ j lj. elim (same_or_not j (k - width)) [
          | inl e ↦ subst (λ i. put krow (k - width) (row (k - width)) i ≡ get_or words i 0) (sym e) (put_at krow (k - width) (row (k - width)) ∙ h.seen_words (k - width) (omega arith))
          | inr ne ↦ put_other krow (k - width) (row (k - width)) j ne ∙ h.kept_words j (omega arith)
        ];
        clean = λ j lj lk. absurd (omega arith);
      }

  pub stages_done : k ≡ 2 * width → Stages width row krow (Staging k) words → Stages width row krow Staged words
  stages_done e h =
      record {
        size = λ _. let q = h.size refl in omega arith;
        seen_words = λ j lj. h.seen_words j (omega arith);
        kept_words = λ j lj. h.kept_words j (omega arith);
        clean = λ j lj le. absurd (omega arith);
      }

module _ (width : ℕ) (row krow : ℕ → ℕ) (ph ph' : Phase) (words words' : List ℕ) where
  pub stages_as : (has_words ph' ≡ true → has_words ph ≡ true) → stored width ph ≡ stored width ph' → saved width ph ≡ saved width ph' → Stages width row krow ph words → Stages width row krow ph' words
  stages_as ef es ev h =
      record {
        size = λ t. h.size (ef t) ∙ es;
        seen_words = λ j lj. h.seen_words j (omega (arith, es));
        kept_words = λ j lj. h.kept_words j (omega (arith, ev));
        clean = λ j lj le. h.clean j lj (omega (arith, es));
      }

  -- nothing is stored before or after
  pub stages_fresh : (has_words ph' ≡ true → length words' ≡ 0) → stored width ph ≡ 0 → stored width ph' ≡ 0 → saved width ph' ≡ 0 → Stages width row krow ph words → Stages width row krow ph' words'
  stages_fresh ef es es' ev h =
      record {
        size = λ t. ef t ∙ sym es';
        seen_words = λ j lj. absurd (omega arith);
        kept_words = λ j lj. absurd (omega arith);
        clean = λ j lj le. h.clean j lj (omega arith);
      }

-- a phase that has no lock, no reader word and no log
pub record Free (ph : Phase) : Type 0 where
  pub locked : is_locked ph ≡ false
  pub known : is_known ph ≡ false
  pub published : is_published ph ≡ false
  pub switched : is_switched ph ≡ false
  pub reading : is_reading ph ≡ false
  pub a : is_log_a_stored ph ≡ false
  pub b : is_log_b_stored ph ≡ false
  pub logged : is_logged ph ≡ false
  pub plain : is_plain ph ≡ true

pub free_idle : Free Idle
free_idle = record { locked = refl; known = refl; published = refl; switched = refl; reading = refl; a = refl; b = refl; logged = refl; plain = refl }

pub free_scanning : (j : ℕ) → Free (Scanning j)
free_scanning j = record { locked = refl; known = refl; published = refl; switched = refl; reading = refl; a = refl; b = refl; logged = refl; plain = refl }

pub free_staging : (j : ℕ) → Free (Staging j)
free_staging j = record { locked = refl; known = refl; published = refl; switched = refl; reading = refl; a = refl; b = refl; logged = refl; plain = refl }

pub free_called : Free Called
free_called = record { locked = refl; known = refl; published = refl; switched = refl; reading = refl; a = refl; b = refl; logged = refl; plain = refl }

pub free_looking : Free Looking
free_looking = record { locked = refl; known = refl; published = refl; switched = refl; reading = refl; a = refl; b = refl; logged = refl; plain = refl }

pub reading_published : (ph : Phase) → is_reading ph ≡ true → is_published ph ≡ true
reading_published (Reading k) e = refl
reading_published _ e = never e

pub filling_reading : (ph : Phase) → is_filling ph ≡ true → is_reading ph ≡ false
filling_reading (Reading k) e = never e
filling_reading _ e = refl

pub free_staged : Free Staged
free_staged = record { locked = refl; known = refl; published = refl; switched = refl; reading = refl; a = refl; b = refl; logged = refl; plain = refl }

-- a phase of a write under its lock, with the map word loaded
pub record InLog (ph : Phase) : Type 0 where
  pub locked : is_locked ph ≡ true
  pub known : is_known ph ≡ true
  pub published : is_published ph ≡ false
  pub switched : is_switched ph ≡ false
  pub reading : is_reading ph ≡ false
  pub filling : is_filling ph ≡ true
  pub words : has_words ph ≡ true
  pub uses : uses_sector ph ≡ true
  pub stored_all : (width : ℕ) → stored width ph ≡ width
  pub saved_all : (width : ℕ) → saved width ph ≡ width
  pub scans : (j : ℕ) → ph ≡ Scanning j → ⊥
  pub stages : (k : ℕ) → ph ≡ Staging k → ⊥

pub log_known : InLog Known
log_known = record { locked = refl; known = refl; published = refl; switched = refl; reading = refl; filling = refl; words = refl; uses = refl; stored_all = λ w. refl; saved_all = λ w. refl; scans = λ j t. cc; stages = λ k t. cc }

pub log_a_stored : InLog LogAStored
log_a_stored = record { locked = refl; known = refl; published = refl; switched = refl; reading = refl; filling = refl; words = refl; uses = refl; stored_all = λ w. refl; saved_all = λ w. refl; scans = λ j t. cc; stages = λ k t. cc }

pub log_a : InLog LogA
log_a = record { locked = refl; known = refl; published = refl; switched = refl; reading = refl; filling = refl; words = refl; uses = refl; stored_all = λ w. refl; saved_all = λ w. refl; scans = λ j t. cc; stages = λ k t. cc }

pub log_b_stored : InLog LogBStored
log_b_stored = record { locked = refl; known = refl; published = refl; switched = refl; reading = refl; filling = refl; words = refl; uses = refl; stored_all = λ w. refl; saved_all = λ w. refl; scans = λ j t. cc; stages = λ k t. cc }

pub log_logged : InLog Logged
log_logged = record { locked = refl; known = refl; published = refl; switched = refl; reading = refl; filling = refl; words = refl; uses = refl; stored_all = λ w. refl; saved_all = λ w. refl; scans = λ j t. cc; stages = λ k t. cc }

module _ (sa sb ka kb : ℕ → ℕ) (w kw : ℕ) (side : ℕ) (half : Half) (block sector : ℕ) where
  apart_sides : side < 2 → side ≢ other side
  apart_sides lt q = absurd (omega arith)

  -- word A of the other half is stored
  pub halves_a_store : Halves sa sb ka kb w kw Known side half block sector
      → Halves (put sa (other side) (word_a sector (block_in (entry_in w sector) sector))) sb ka kb w kw LogAStored side half block sector
  halves_a_store h =
      let v : ℕ = word_a sector (block_in (entry_in w sector) sector) in
      record {
        two = h.two;
        current_a = h.current_a ∙ sym (put_other sa (other side) v side (apart_sides h.two));
        current_b = h.current_b;
        other_a = λ t. never (sym t);
        other_b = λ _. h.other_b refl;
        current = h.current;
        newer = h.newer;
        old = λ _. h.old refl;
        logged = λ t. never t;
        switched = λ t. never t;
        switched_rest = λ t. never t;
        named_a = λ _. put_at sa (other side) v;
        named_b = λ t. never t;
      }

  -- and kept
  pub halves_a_keep : Halves sa sb ka kb w kw LogAStored side half block sector → Halves sa sb (put ka (other side) (sa (other side))) kb w kw LogA side half block sector
  halves_a_keep h =
      let same : put ka (other side) (sa (other side)) side ≡ ka side = put_other ka (other side) (sa (other side)) side (apart_sides h.two) in
      record {
        two = h.two;
        current_a = same ∙ h.current_a;
        current_b = h.current_b;
        other_a = λ _. put_at ka (other side) (sa (other side));
        other_b = λ _. h.other_b refl;
        current = ap (λ a. half_in a (kb side)) same ∙ h.current;
        newer = h.newer;
        old = λ _. h.old refl;
        logged = λ t. never t;
        switched = λ t. never t;
        switched_rest = λ t. never t;
        named_a = λ _. h.named_a refl;
        named_b = λ t. never t;
      }

  -- word B is stored
  pub halves_b_store : Halves sa sb ka kb w kw LogA side half block sector → Halves sa (put sb (other side) (word_b block (next_seq half.seq))) ka kb w kw LogBStored side half block sector
  halves_b_store h =
      let v : ℕ = word_b block (next_seq half.seq) in
      record {
        two = h.two;
        current_a = h.current_a;
        current_b = h.current_b ∙ sym (put_other sb (other side) v side (apart_sides h.two));
        other_a = λ _. h.other_a refl;
        other_b = λ t. never (sym t);
        current = h.current;
        newer = h.newer;
        old = λ _. h.old refl;
        logged = λ t. never t;
        switched = λ t. never t;
        switched_rest = λ t. never t;
        named_a = λ _. h.named_a refl;
        named_b = λ _. put_at sb (other side) v;
      }

  -- and kept: the other half is the current one
  pub halves_b_keep : sector < 2 ^ 32 → block_in (entry_in w sector) sector < 2 ^ 30 → block < 2 ^ 30 → Halves sa sb ka kb w kw LogBStored side half block sector
      → Halves sa sb ka (put kb (other side) (sb (other side))) w kw Logged (other side)
      (record { lba = sector; old = block_in (entry_in w sector) sector; new = block; seq = next_seq half.seq }) block sector
  halves_b_keep fs fo fb h =
      let back : other (other side) ≡ side = let lt = h.two in omega arith in
      let here : put kb (other side) (sb (other side)) (other side) ≡ sb (other side) = put_at kb (other side) (sb (other side)) in
      let there : put kb (other side) (sb (other side)) side ≡ kb side = put_other kb (other side) (sb (other side)) side (apart_sides h.two) in
      let a = h.other_a refl in
      let na = h.named_a refl in
      let nb = h.named_b refl in
      record {
        two = let lt = h.two in omega arith;
        current_a = a;
        current_b = here;
        other_a = λ _. subst (λ i. ka i ≡ sa i) (sym back) h.current_a;
        other_b = λ _. subst (λ i. put kb (other side) (sb (other side)) i ≡ sb i) (sym back) (there ∙ h.current_b);
        current = half_of _ _ sector (block_in (entry_in w sector) sector) block (next_seq half.seq) (ap lba_in (a ∙ na) ∙ lba_in-word _ _ fs) (ap old_in (a ∙ na) ∙ old_in-word _ _ fs fo) (ap new_in (here ∙ nb) ∙ new_in-word _ _ fb) (ap seq_in (here ∙ nb) ∙ seq_in-word _ _ (omega arith));
        newer = subst (λ i. IsNewer (next_seq half.seq) (seq_in (put kb (other side) (sb (other side)) i))) (sym back)
            (subst (λ x. IsNewer (next_seq half.seq) x) (sym (ap seq_in there ∙ ap (λ (x : Half). x.seq) h.current)) (next_newer half.seq h.newer.0 h.newer.1));
        old = λ t. never (sym t);
        logged = λ _. (refl, refl, refl);
        switched = λ t. never t;
        switched_rest = λ t. never t;
        named_a = λ t. never t;
        named_b = λ t. never t;
      }
    where
      half_of : (a b x y z q : ℕ) → lba_in a ≡ x → old_in a ≡ y → new_in b ≡ z → seq_in b ≡ q → half_in a b ≡ record { lba = x; old = y; new = z; seq = q }
      half_of a b x y z q ex ey ez eq = cc

  -- the map word is stored, and the lane has the old block
  pub halves_switch : block < 2 ^ 30 → kw ≡ w → Halves sa sb ka kb w kw Logged side half block sector
      → Halves sa sb ka kb (with_entry w sector (normal block)) kw Switched side half (block_in (entry_in w sector) sector) sector
  halves_switch fb ek h =
      let was = h.logged refl in
      let fe : normal block < 2 ^ 32 = normal_fits block fb in
      record {
        two = h.two;
        current_a = h.current_a;
        current_b = h.current_b;
        other_a = λ _. h.other_a refl;
        other_b = λ _. h.other_b refl;
        current = h.current;
        newer = h.newer;
        old = λ _. was.1;
        logged = λ t. never t;
        switched = λ _. (was.0, was.2 ∙ sym (ap (λ e. block_in e sector) (entry_in-with_same w sector (normal block) fe) ∙ block_in-normal block sector fb), ap (λ x. block_in (entry_in x sector) sector) ek, entry_in-with_same w sector (normal block) fe ∙ ap normal (sym was.2));
        switched_rest = λ _ t q ne. ap (λ x. entry_in x t) ek ∙ sym (entry_in-with_other w sector t (normal block) fe q ne);
        named_a = λ t. never t;
        named_b = λ t. never t;
      }

pub logged_locked : (ph : Phase) → is_logged ph ≡ true → is_locked ph ≡ true
logged_locked Logged e = refl
logged_locked _ e = never e

pub switched_locked : (ph : Phase) → is_switched ph ≡ true → is_locked ph ≡ true
switched_locked Switched e = refl
switched_locked _ e = never e

pub known_locked : (ph : Phase) → is_known ph ≡ true → is_locked ph ≡ true
known_locked Known e = refl
known_locked LogAStored e = refl
known_locked LogA e = refl
known_locked LogBStored e = refl
known_locked Logged e = refl
known_locked _ e = never e

a_locked : (ph : Phase) → has_log_a ph ≡ true → is_locked ph ≡ true
a_locked LogAStored e = refl
a_locked LogA e = refl
a_locked LogBStored e = refl
a_locked _ e = never e

-- the map word of a lane's sector is the same if the lane has its lock
module _ (sa sb ka kb : ℕ → ℕ) (w w' kw kw' : ℕ) (ph : Phase) (side : ℕ) (half : Half) (block sector : ℕ) where
  pub halves_word : (is_locked ph ≡ true → (w ≡ w') × (kw ≡ kw')) → Halves sa sb ka kb w kw ph side half block sector → Halves sa sb ka kb w' kw' ph side half block sector
  halves_word same h =
      record {
        two = h.two;
        current_a = h.current_a;
        current_b = h.current_b;
        other_a = h.other_a;
        other_b = h.other_b;
        current = h.current;
        newer = h.newer;
        old = h.old;
        logged = λ t. subst (λ x. (half.lba ≡ sector) × (half.old ≡ block_in (entry_in x sector) sector) × (half.new ≡ block)) (same (logged_locked ph t)).0 (h.logged t);
        switched = λ t. subst₂ (λ x y. (half.lba ≡ sector) × (half.new ≡ block_in (entry_in x sector) sector) × (block_in (entry_in y sector) sector ≡ block) × (entry_in x sector ≡ normal half.new)) (same (switched_locked ph t)).0 (same (switched_locked ph t)).1 (h.switched t);
        switched_rest = λ t u q ne. subst₂ (λ x y. entry_in y u ≡ entry_in x u) (same (switched_locked ph t)).0 (same (switched_locked ph t)).1 (h.switched_rest t u q ne);
        named_a = λ t. subst (λ x. sa (other side) ≡ word_a sector (block_in (entry_in x sector) sector)) (same (a_locked ph t)).0 (h.named_a t);
        named_b = h.named_b;
      }

pub knows_word : (g : Geometry) (w w' : ℕ) (ph : Phase) (sector loaded : ℕ) (half : Half) → (is_locked ph ≡ true → w ≡ w') → Knows g w ph sector loaded half → Knows g w' ph sector loaded half
knows_word g w w' ph sector loaded half same h =
    record { in_range = h.in_range; same = λ t. sym (same (known_locked ph t)) ∙ h.same t; bytes = h.bytes; wrote = λ t. sym (same (switched_locked ph t)) ∙ h.wrote t; scans = h.scans; stages = h.stages }

pub switching_locked : (p : Lane) (m : ℕ) → switching p ≡ suc m → (is_switched p.phase ≡ true) × (is_locked p.phase ≡ true) × (p.sector / 2 ≡ m)
switching_locked p m = go p.phase (switched_locked p.phase)
  where
    go : (ph : Phase) → (is_switched ph ≡ true → is_locked ph ≡ true) → (if is_switched ph then suc (p.sector / 2) else 0) ≡ suc m → (is_switched ph ≡ true) × (is_locked ph ≡ true) × (p.sector / 2 ≡ m)
    go ph f = by (is_switched ph) f
      where
        by : (b : Bool) → (b ≡ true → is_locked ph ≡ true) → (if b then suc (p.sector / 2) else 0) ≡ suc m → (b ≡ true) × (is_locked ph ≡ true) × (p.sector / 2 ≡ m)
        by true f q = (refl, f refl, omega (arith, q))
        by false f q = absurd (omega (arith, q))

pub seeking_uses : (ph : Phase) → is_seeking ph ≡ true → uses_sector ph ≡ true
seeking_uses Looking e = refl
seeking_uses Published e = refl
seeking_uses _ e = never e

pub seeking_known : (ph : Phase) → is_seeking ph ≡ true → is_known ph ≡ false
seeking_known Looking e = refl
seeking_known Published e = refl
seeking_known _ e = never e
