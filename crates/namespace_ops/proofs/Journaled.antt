-- What a journal says after one call more.
use Rattle.std.proofs.Common.{◌≡◌, ◌⊎◌, ℕ, ◌-◌, ◌≤◌, ◌<◌, true, false, ◌++◌, List, [], ◌∷◌, Option, Some, None, Ok, Err, refl, sym, ap, ◌∙◌, subst, inl, inr, arith, append_assoc}
use Rattle.std.specs.Prelude.{is_ok, OnOk}
use Rattle.std.proofs.lemmas.Bool.{cases_Bool, false≢true, leb-false, leb-true}
use Rattle.nvd_words.specs.Checks.{value_unless}
use Rattle.nfit_reader.specs.declared.table.Mapping.{Mapping}
use Rattle.nvd_words.specs.declared.tag.Tag.{Tag}
use Rattle.std.specs.List.{AllByRecursion}
use Rattle.cut_words.specs.Fuses.{burnt, lasts}
use Rattle.namespace_map.specs.Namespaces.{Namespaces}
use Rattle.namespace_areas.specs.declared.area.Area.{Area}
use Rattle.namespace_map.specs.Areas.{Area as SeenArea, Change, IsLeftBy, after_steps, all_changed, steps_of_all}
use Rattle.namespace_map.specs.Changes.{changes_of, recovery_changes}
use Rattle.namespace_map.specs.Commands.{done, refusal_of}
use Rattle.namespace_map.specs.declared.commands.Command.{Command}
use Rattle.namespace_map.specs.declared.refused.OpRefused.{OpRefused}
use Rattle.namespace_map.specs.declared.refused.OpRefused.TheVariants as refused
use Rattle.namespace_areas.specs.Seen.{AreHeld, AreLeft, areas_seen, areas_shown}
use Rattle.namespace_areas.specs.Went.{Went}
use Rattle.namespace_areas.proofs.Went.{went_none}
use Rattle.namespace_ops.specs.Carried.{is_cut}
use Rattle.namespace_ops.specs.Entries.{JournalEntry, Reply}
use Rattle.namespace_ops.specs.Counted.{Answered, GoesOn, State, namespaces_in, steps_before}
use Rattle.namespace_ops.specs.Replay.{after_entry, Gives, is_memory, Kept, kept_after, namespaces_with, remade}
use Rattle.namespace_ops.specs.Registered.{IsCutIn, IsJournaled, kept_of, opened_on, opening_of, Registered, state_of, WasCut, WasCutFirst}
use Rattle.namespace_ops.proofs.Findings.{other_reply}
use Rattle.namespace_ops.proofs.Replays.{all_more, gives_more, gives_none, IsReply}

pub memory_is : (r : Reply) → is_memory r ≡ true → r ≡ Err refused.OutOfMemory
memory_is (Ok x) e = absurd (false≢true e)
memory_is (Err refused.OutOfMemory) e = refl
memory_is (Err refused.NoSuch) e = absurd (false≢true e)
memory_is (Err refused.Exists) e = absurd (false≢true e)
memory_is (Err (refused.NoRegion a)) e = absurd (false≢true e)
memory_is (Err (refused.NoSpace a)) e = absurd (false≢true e)
memory_is (Err (refused.NoSlot a)) e = absurd (false≢true e)
memory_is (Err (refused.Busy a)) e = absurd (false≢true e)
memory_is (Err refused.NotComplete) e = absurd (false≢true e)
memory_is (Err refused.NotSector) e = absurd (false≢true e)
memory_is (Err (refused.BadSize a)) e = absurd (false≢true e)
memory_is (Err (refused.BadName a)) e = absurd (false≢true e)
memory_is (Err (refused.ModuleLabels a)) e = absurd (false≢true e)
memory_is (Err (refused.ReadOnlyLabel a)) e = absurd (false≢true e)
memory_is (Err refused.PowerCut) e = absurd (false≢true e)

-- of areas of which no word is pending a crash leaves what they show
left_as : (areas : List Area) → AreHeld areas → (rows : List (Option (List ℕ))) → AreLeft areas rows → areas_shown rows ≡ areas_seen areas
unfolding after_steps
left_as areas are_held rows left = by ((went_none areas (Some 0) are_held).cut 0 refl rows left)
  where
    by : IsLeftBy (areas_seen areas) [] 0 (areas_shown rows) → areas_shown rows ≡ areas_seen areas
    by (inl is) = is
    by (inr is) = is

-- ---- one call, with power on before it

module _ (old new : State) (fuse left : Option ℕ) (tag : Tag) (c : Command) (reply : Reply) (is : Answered old new fuse left c reply) (running : old.stopped ≡ false) where
  abbrev entry : JournalEntry
  entry = record { tag = tag; command = c; reply = reply }

  abbrev sets : List (List Mapping)
  sets = old.sets

  abbrev was : Kept
  was = kept_of old

  abbrev ns : Namespaces
  ns = namespaces_with sets was

  -- what one entry more must meet
  pub record Meets (k : Kept) : Type 0 where
    pub map_is : after_entry ns entry ≡ namespaces_with sets k
    pub fits : IsReply ns entry
    pub kept : kept_after sets was entry ≡ k
    pub uncut : is_cut reply ≡ false

  unchanged : new ≡ old → kept_of new ≡ was
  unchanged same = ap kept_of same

  on_memory : is_memory reply ≡ true → Meets (kept_of new)
  on_memory it =
      let none : reply ≡ Err refused.OutOfMemory = memory_is reply it in
      let same : kept_of new ≡ was = unchanged (is.memory none).0 in
      record {
        map_is = rw it (ap (namespaces_with sets) (sym same));
        fits = λ other. absurd (other none);
        kept = rw it (sym same);
        uncut = ap is_cut none;
      }

  on_refused : (f : OpRefused) → is_memory reply ≡ false → GoesOn old reply → refusal_of ns c ≡ Some f → Meets (kept_of new)
  on_refused f other goes at =
      let went = is.refused goes f at in
      let same : kept_of new ≡ was = unchanged went.1 in
      record {
        map_is = rw (other, at) (ap (namespaces_with sets) (sym same));
        fits = λ _. went.0 ∙ sym (ap (value_unless tt) at);
        kept = rw (other, at) (sym same);
        uncut = sym (is.stopped running) ∙ ap (λ (x : State). x.stopped) went.1 ∙ running;
      }

  -- the namespaces of now, over the sets of before
  over : namespaces_with sets (kept_of new) ≡ namespaces_in new
  over = ap (λ (s : List (List Mapping)). namespaces_with s (kept_of new)) (sym is.sets)

  carried : (f : OpRefused) → reply ≡ Err f → GoesOn old reply → refusal_of ns c ≡ None → is_cut reply ≡ true
  carried f err goes none = ap is_cut (err ∙ ap (λ (x : OpRefused). Err x) (is.cut goes none f err))

  -- after Ok the fuse has lasted for the format
  pub lasted : GoesOn old reply → refusal_of ns c ≡ None → (x : Unit {0}) → reply ≡ Ok x → lasts fuse (steps_before c) ≡ true
  lasted goes none x ok = by (cases_Bool (lasts fuse (steps_before c)))
    where
      by : (lasts fuse (steps_before c) ≡ true) ⊎ (lasts fuse (steps_before c) ≡ false) → lasts fuse (steps_before c) ≡ true
      by (inl whole) = whole
      by (inr short) = absurd (let both : Ok x ≡ Err refused.PowerCut = sym ok ∙ (is.within goes none short).0 in cc)

  on_done : is_memory reply ≡ false → GoesOn old reply → refusal_of ns c ≡ None → (r : Reply) → reply ≡ r → is_cut reply ≡ false → Meets (kept_of new)
  on_done other goes none (Err f) err power = absurd (false≢true (sym power ∙ carried f err goes none))
  on_done other goes none (Ok x) ok power =
      let made : namespaces_in new ≡ done ns c = subst (λ (r : Reply). OnOk r (namespaces_in new ≡ done ns c)) ok is.done in
      let went : Went old.areas new.areas (burnt fuse (steps_before c)) left (changes_of ns was.areas c) (is_ok reply) = is.went goes none (lasted goes none x ok) in
      let areas : areas_seen new.areas ≡ all_changed was.areas (changes_of ns was.areas c) = went.done (ap (λ (r : Reply). is_ok r) ok) in
      let claims : new.claims ≡ (done ns c).claims = ap (λ (x : Namespaces). x.claims) made in
      record {
        map_is = rw (other, none) (sym made ∙ sym over);
        fits = λ _. ok ∙ sym (ap (value_unless tt) none);
        kept = rw (other, none) (λ i. record { areas = sym areas i; claims = sym claims i });
        uncut = power;
      }

  pub goes_on : is_memory reply ≡ false → GoesOn old reply
  goes_on other = (running, other_reply reply other)

  -- power is on after it
  pub meets : new.stopped ≡ false → Meets (kept_of new)
  meets still = by (cases_Bool (is_memory reply))
    where
      power : is_cut reply ≡ false
      power = sym (is.stopped running) ∙ still

      asked : is_memory reply ≡ false → (o : Option OpRefused) → refusal_of ns c ≡ o → Meets (kept_of new)
      asked other (Some f) at = on_refused f other (goes_on other) at
      asked other None at = on_done other (goes_on other) at reply refl power

      by : (is_memory reply ≡ true) ⊎ (is_memory reply ≡ false) → Meets (kept_of new)
      by (inl it) = on_memory it
      by (inr other) = asked other (refusal_of ns c) refl

  still_gives : (from : Kept) (es : List JournalEntry) → new.stopped ≡ false → Gives sets from es was → Gives sets from (es ++ entry ∷ []) (kept_of new)
  still_gives from es still gives = let m = meets still in gives_more sets from was (kept_of new) es entry gives m.map_is m.fits m.kept m.uncut

  -- ---- power is cut in it

  burnt_some : (spark : Option ℕ) (before n : ℕ) → spark ≡ Some n → burnt spark before ≡ Some (n - before)
  burnt_some spark before n is = ap (λ (f : Option ℕ). burnt f before) is

  cut_in : (began : List (Option SeenArea)) (before : ℕ) (changes : List Change) (areas : List Area) (spark : Option ℕ) → lasts spark before ≡ true → false ≡ lasts (burnt spark before) (steps_of_all began changes)
      → ((n : ℕ) → burnt spark before ≡ Some n → (rows : List (Option (List ℕ))) → AreLeft areas rows → IsLeftBy began changes n (areas_shown rows)) → IsCutIn began before changes areas
  cut_in began before changes areas None whole short rows = absurd (false≢true short)
  cut_in began before changes areas (Some n) whole short rows =
      let enough : before ≤ n = leb-true before n whole in
      let few : n - before < steps_of_all began changes = leb-false (steps_of_all began changes) (n - before) (sym short) in (
        n,
        record {
          short = omega (arith, enough, few);
          within = λ less. absurd (omega (arith, enough, less));
          behind = λ _. rows (n - before) refl;
        },
      )

  -- in the format, which touches no area
  cut_within : (began : List (Option SeenArea)) (before : ℕ) (changes : List Change) (areas : List Area) (spark : Option ℕ) → lasts spark before ≡ false → AreHeld areas → areas_seen areas ≡ began → IsCutIn began before changes areas
  cut_within began before changes areas None short are_held seen = absurd (false≢true (sym short))
  cut_within began before changes areas (Some n) short are_held seen =
      let few : n < before = leb-false before n short in (
        n,
        record {
          short = omega (arith, few);
          within = λ _ rows left. left_as areas are_held rows left ∙ seen;
          behind = λ enough. absurd (omega (arith, few, enough));
        },
      )

  pub no_memory : is_cut reply ≡ true → is_memory reply ≡ true → ⊥
  no_memory cut it = false≢true (sym (ap is_cut (memory_is reply it)) ∙ cut)

  cut_here : is_memory reply ≡ false → refusal_of ns c ≡ None → (f : OpRefused) → reply ≡ Err f → IsCutIn was.areas (steps_before c) (changes_of ns was.areas c) new.areas
  cut_here other none f err = by (cases_Bool (lasts fuse (steps_before c)))
    where
      by : (lasts fuse (steps_before c) ≡ true) ⊎ (lasts fuse (steps_before c) ≡ false) → IsCutIn was.areas (steps_before c) (changes_of ns was.areas c) new.areas
      by (inl whole) =
          let went : Went old.areas new.areas (burnt fuse (steps_before c)) left (changes_of ns was.areas c) (is_ok reply) = is.went (goes_on other) none whole in
          cut_in was.areas (steps_before c) (changes_of ns was.areas c) new.areas fuse whole (sym (ap (λ (r : Reply). is_ok r) err) ∙ went.made) went.cut
      by (inr short) =
          let kept = is.within (goes_on other) none short in
          cut_within was.areas (steps_before c) (changes_of ns was.areas c) new.areas fuse short (subst AreHeld (sym kept.1) kept.2) (ap areas_seen kept.1)

  -- the command of the entry is allowed, and this is left of it
  record CutHere : Type 0 where
    pub reply_is : reply ≡ Err refused.PowerCut
    pub allowed : refusal_of ns c ≡ None
    pub areas : IsCutIn was.areas (steps_before c) (changes_of ns was.areas c) new.areas
    pub claims : new.claims ≡ old.claims

  was_cut : new.stopped ≡ true → CutHere
  was_cut off = by (cases_Bool (is_memory reply))
    where
      cut : is_cut reply ≡ true
      cut = sym (is.stopped running) ∙ off

      answer : (other : is_memory reply ≡ false) → refusal_of ns c ≡ None → (r : Reply) → reply ≡ r → CutHere
      answer other none (Ok x) ok = absurd (false≢true (sym (ap is_cut ok) ∙ cut))
      answer other none (Err f) err = record {
        reply_is = err ∙ ap (λ (x : OpRefused). Err x) (is.cut (goes_on other) none f err);
        allowed = none;
        areas = cut_here other none f err;
        claims = is.claims (ap (λ (r : Reply). is_ok r) err);
      }

      asked : (other : is_memory reply ≡ false) → (o : Option OpRefused) → refusal_of ns c ≡ o → CutHere
      asked other None at = answer other at reply refl
      asked other (Some f) at = absurd (false≢true (sym running ∙ sym (ap (λ (x : State). x.stopped) (is.refused (goes_on other) f at).1) ∙ off))

      by : (is_memory reply ≡ true) ⊎ (is_memory reply ≡ false) → CutHere
      by (inl it) = absurd (no_memory cut it)
      by (inr other) = asked other (refusal_of ns c) refl

-- ---- any call

module _ (old : Registered) (new : State) (fuse left : Option ℕ) (tag : Tag) (c : Command) (reply : Reply) (room : List ℕ) (is : Answered (state_of old) new fuse left c reply) where
  abbrev entered : JournalEntry
  entered = record { tag = tag; command = c; reply = reply }

  -- over the sets of before
  abbrev after_on : List (List Mapping) → Registered
  after_on sets = record { sets = sets; areas = new.areas; stopped = new.stopped; claims = new.claims; journal = old.journal ++ entered ∷ []; room = room; opening = old.opening }

  abbrev after : Registered
  after = after_on new.sets

  abbrev mid : Registered
  mid = after_on old.sets

  now_cut : old.stopped ≡ false → new.stopped ≡ true → Gives old.sets (opening_of old) old.journal (kept_of (state_of old)) → WasCut mid
  now_cut running off gives =
      let cut = was_cut (state_of old) new fuse left tag c reply is running off in (
        old.journal,
        [],
        entered,
        kept_of (state_of old),
        record { journal = refl; gives = gives; reply = cut.reply_is; allowed = cut.allowed; areas = cut.areas; claims = cut.claims; same = tt },
      )

  -- power was off before it
  more_cut : old.stopped ≡ true → WasCut old → WasCut mid
  more_cut off (before, later, first, began, cut) =
      let answer = is.off off in (
        before,
        later ++ entered ∷ [],
        first,
        began,
        record {
          journal = ap (λ (es : List JournalEntry). es ++ entered ∷ []) cut.journal ∙ append_assoc before (first ∷ later) (entered ∷ []);
          gives = cut.gives;
          reply = cut.reply;
          allowed = cut.allowed;
          areas = subst (λ (x : State). IsCutIn began.areas (steps_before first.command) (changes_of (namespaces_with old.sets began) began.areas first.command) x.areas) (sym answer.1) cut.areas;
          claims = ap (λ (x : State). x.claims) answer.1 ∙ cut.claims;
          same = all_more _ later entered cut.same answer.0;
        },
      )

  more_first : old.stopped ≡ true → WasCutFirst old → WasCutFirst mid
  more_first off cut =
      let answer = is.off off in
      record {
        areas = subst (λ (x : State). IsCutIn (areas_seen old.opening) 0 (recovery_changes old.sets (areas_seen old.opening)) x.areas) (sym answer.1) cut.areas;
        claims = ap (λ (x : State). x.claims) answer.1 ∙ cut.claims;
        same = all_more _ old.journal entered cut.same answer.0;
      }

  mid_after : IsJournaled old → IsJournaled mid
  mid_after j = record {
    on = λ still. on_by still (cases_Bool old.stopped);
    off = λ gone. off_by gone (cases_Bool old.stopped);
  }
    where
      on_by : new.stopped ≡ false → (old.stopped ≡ true) ⊎ (old.stopped ≡ false) → Gives old.sets (opening_of old) (old.journal ++ entered ∷ []) (kept_of new)
      on_by still (inl off) = absurd (false≢true (sym still ∙ ap (λ (x : State). x.stopped) (is.off off).1 ∙ off))
      on_by still (inr running) = still_gives (state_of old) new fuse left tag c reply is running (opening_of old) old.journal still (j.on running)

      was_off : old.stopped ≡ true → WasCut old ⊎ WasCutFirst old → WasCut mid ⊎ WasCutFirst mid
      was_off off (inl cut) = inl (more_cut off cut)
      was_off off (inr cut) = inr (more_first off cut)

      off_by : new.stopped ≡ true → (old.stopped ≡ true) ⊎ (old.stopped ≡ false) → WasCut mid ⊎ WasCutFirst mid
      off_by gone (inl off) = was_off off (j.off off)
      off_by gone (inr running) = inl (now_cut running gone (j.on running))

  pub journaled_after : IsJournaled old → IsJournaled after
  journaled_after j = subst (λ (s : List (List Mapping)). IsJournaled (after_on s)) (sym is.sets) (mid_after j)

-- the journal says nothing of room
pub journaled_with_room : (old : Registered) (room : List ℕ) → IsJournaled old → IsJournaled (record old { room = room })
journaled_with_room old room j = record {
  on = j.on;
  off = λ gone. by (j.off gone);
}
  where
    by : WasCut old ⊎ WasCutFirst old → WasCut (record old { room = room }) ⊎ WasCutFirst (record old { room = room })
    by (inl (before, later, first, began, cut)) = inl (
      before,
      later,
      first,
      began,
      record { journal = cut.journal; gives = cut.gives; reply = cut.reply; allowed = cut.allowed; areas = cut.areas; claims = cut.claims; same = cut.same },
    )
    by (inr cut) = inr (record { areas = cut.areas; claims = cut.claims; same = cut.same })

-- a registry that is opened has what it began with
pub journaled_first : (sets : List (List Mapping)) (areas : List Area) → IsJournaled (opened_on sets areas)
journaled_first sets areas = record {
  on = λ _. gives_none sets (record { areas = areas_seen areas; claims = [] });
  off = λ gone. absurd (false≢true gone);
}

-- ---- recovery

-- what a registry with an empty journal began with is what it has
pub as_opened : (r : Registered) → r.stopped ≡ false → r.journal ≡ [] → IsJournaled r → opening_of r ≡ kept_of (state_of r)
unfolding remade
as_opened r running empty j = (subst (λ (es : List JournalEntry). Gives r.sets (opening_of r) es (kept_of (state_of r))) empty (j.on running)).changes

-- recovery was made to its end
pub journaled_recovered : (old : Registered) (new : Registered) → old.stopped ≡ false → old.journal ≡ [] → IsJournaled old → new.stopped ≡ false → new.claims ≡ old.claims → new.journal ≡ [] → new.opening ≡ new.areas → IsJournaled new
journaled_recovered old new running empty j on claims none opening =
    let no_claims : new.claims ≡ [] = claims ∙ sym (ap (λ (k : Kept). k.claims) (as_opened old running empty j)) in
    record {
      on = λ _.
          subst (λ (es : List JournalEntry). Gives new.sets (opening_of new) es (kept_of (state_of new))) (sym none)
          (subst (λ (k : Kept). Gives new.sets (opening_of new) [] k) (λ i. record { areas = areas_seen (opening i); claims = sym no_claims i }) (gives_none new.sets (opening_of new)));
      off = λ gone. absurd (false≢true (sym on ∙ gone));
    }

-- or power was cut in it
pub journaled_cut : (old : Registered) (new : Registered) (fuse left : Option ℕ) → old.stopped ≡ false → old.journal ≡ [] → IsJournaled old → Went old.areas new.areas fuse left (recovery_changes old.sets (areas_seen old.areas)) false
    → new.stopped ≡ true → new.sets ≡ old.sets → new.claims ≡ old.claims → new.journal ≡ [] → new.opening ≡ old.opening → IsJournaled new
journaled_cut old new fuse left running empty j went off sets claims none opening = record {
  on = λ on. absurd (false≢true (sym on ∙ off));
  off = λ _. inr (record {
    areas = subst (λ (s : List (List Mapping)). IsCutIn (areas_seen new.opening) 0 (recovery_changes s (areas_seen new.opening)) new.areas) (sym sets)
        (subst (λ (xs : List (Option SeenArea)). IsCutIn xs 0 (recovery_changes old.sets xs) new.areas) (sym began) (by fuse went.made went.cut));
    claims = claims ∙ sym (ap (λ (k : Kept). k.claims) (as_opened old running empty j));
    same = subst (λ (es : List JournalEntry). AllByRecursion (λ e. e.reply ≡ Err refused.PowerCut) es) (sym none) tt;
  });
}
  where
    began : areas_seen new.opening ≡ areas_seen old.areas
    began = ap areas_seen opening ∙ ap (λ (k : Kept). k.areas) (as_opened old running empty j)

    none_less : (k n : ℕ) → k ≡ n → ((rows : List (Option (List ℕ))) → AreLeft new.areas rows → IsLeftBy (areas_seen old.areas) (recovery_changes old.sets (areas_seen old.areas)) n (areas_shown rows))
        → (rows : List (Option (List ℕ))) → AreLeft new.areas rows → IsLeftBy (areas_seen old.areas) (recovery_changes old.sets (areas_seen old.areas)) k (areas_shown rows)
    none_less k n e all rows left = subst (λ (m : ℕ). IsLeftBy (areas_seen old.areas) (recovery_changes old.sets (areas_seen old.areas)) m (areas_shown rows)) (sym e) (all rows left)

    by : (spark : Option ℕ) → false ≡ lasts spark (steps_of_all (areas_seen old.areas) (recovery_changes old.sets (areas_seen old.areas))) → ((n : ℕ) → spark ≡ Some n → (rows : List (Option (List ℕ))) → AreLeft new.areas rows → IsLeftBy (areas_seen old.areas) (recovery_changes old.sets (areas_seen old.areas)) n (areas_shown rows))
        → IsCutIn (areas_seen old.areas) 0 (recovery_changes old.sets (areas_seen old.areas)) new.areas
    by None short rows = absurd (false≢true short)
    by (Some n) short rows =
        let few : n < steps_of_all (areas_seen old.areas) (recovery_changes old.sets (areas_seen old.areas)) = leb-false (steps_of_all (areas_seen old.areas) (recovery_changes old.sets (areas_seen old.areas))) n (sym short) in (
          n,
          record { short = omega (arith, few); within = λ less. absurd (omega (arith, less)); behind = λ _. none_less (n - 0) n (omega arith) (rows n refl) },
        )
