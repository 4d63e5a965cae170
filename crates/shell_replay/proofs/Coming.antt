-- From an outline to what the command comes to.
use Rattle.std.proofs.Common.{◌≡◌, ◌≢◌, ℕ, ◌+◌, ◌*◌, ◌/◌, ◌≤◌, Bool, true, false, List, [], ◌∷◌, length, drop, get_or, map, Option, Some, None, Result, Ok, Err, refl, sym, ap, ◌∙◌, subst, inl, inr, arith}
use Rattle.std.specs.Prelude.{MatchBool, nat_lt}
use Rattle.std.specs.Option.{ForSome}
use Rattle.std.proofs.lemmas.List.{length-map}
use Rattle.std.proofs.lemmas.List.Sums.{sum_by-cons}
use Rattle.cut_words.specs.Words.{Words}
use Rattle.cut_words.specs.WordBytes.{put_at, words_in}
use Rattle.nvd_media.specs.Images.{Images}
use Rattle.nfit_reader.specs.declared.table.Mapping.{Mapping}
use Rattle.arena_open.specs.declared.chain_refused.ChainRefused.{ChainRefused}
use Rattle.arena_open.specs.declared.state.ArenaState.{ArenaState}
use Rattle.arena_open.specs.Chain.{HasMemory, Link, found_again, state_at, wants_memory}
use Rattle.arena_open.specs.Moves.{IsOpenState}
use Rattle.arena_open.proofs.Bytes.{length_words}
use Rattle.lane_core.specs.Reopening.{MaySurvive, Reopens, first_cells}
use Rattle.lane_core.specs.Rows.{words_in as row_words}
use Rattle.lane_core.specs.Schedules.{opened_held}
use Rattle.lane_replay.specs.Asking.{ReplaysStand}
use Rattle.lane_replay.specs.Playing.{replay_text}
use Rattle.power_cut.specs.Namespace.{over, words_of}
use Rattle.image_set.specs.declared.changing.OutlineRest.{OutlineRest}
use Rattle.image_set.specs.declared.outline.Outline.{Outline}
use Rattle.image_set.specs.Load.{ImageSet}
use Rattle.image_set.specs.Outline.{HasContents, contents_in, image_set_with}
use Rattle.image_set.specs.Patches.{patched_contents}
use Rattle.namespace_areas.specs.declared.found.Found.{Found}
use Rattle.namespace_areas.specs.Finding.{LiesInSet, found_of, set_at}
use Rattle.namespace_areas.specs.Seen.{words_of as area_words}
use Rattle.namespace_bytes.specs.declared.new_bytes.NewBytes.TheVariants.{Runs}
use Rattle.namespace_bytes.specs.declared.runs.Run.{Run}
use Rattle.namespace_bytes.specs.Contents.{arena_words}
use Rattle.namespace_bytes.specs.Patching.{ArePatched, byte_patched, bytes_by_place}
use Rattle.namespace_bytes.specs.Putting.{AreAll}
use Rattle.namespace_bytes.specs.Runs.{run_byte, runs_byte}
use Rattle.namespace_bytes.specs.SectorBytes.{HaveMapsOfBytes}
use Rattle.namespace_bytes.proofs.ByteWords.{changed, from_first}
use Rattle.namespace_bytes.proofs.RunWords.{more_changed, none_changed, whole_run}
use Rattle.namespace_map.specs.declared.refused.OpRefused.{OpRefused}
use Rattle.namespace_map.specs.Namespaces.{lookup}
use Rattle.namespace_ops.specs.declared.registry.OpenFault.{OpenFault}
use Rattle.namespace_ops.specs.Counted.{namespaces_in}
use Rattle.namespace_ops.specs.Registered.{Registered, state_of}
use Rattle.namespace_words.specs.Moves.{HaveMoves, move_runs}
use Rattle.namespace_words.specs.Source.{Reveals}
use Rattle.namespace_words.proofs.MadeMoves.{moves_are_made}
use Rattle.sector_namespaces.specs.Changing.{IsFinding, OneArenaChanges}
use Rattle.sector_namespaces.specs.View.{opened_view, rows_of, view_words}
use Rattle.shell_changes.specs.declared.answer.Answer.{Answer}
use Rattle.shell_changes.specs.Answers.{outcome_with}
use Rattle.shell_changes.specs.Saved.{AreWholeSizes}
use Rattle.shell_changes.proofs.Remains.{no_sizes}
use Rattle.shell_reports.specs.Causes.{fault_in, found_in, opened_in}
use Rattle.shell_reports.specs.Faults.{arena_outcome, held_text, most_held, refusal_text, refused_outcome}
use Rattle.shell_reports.specs.List.{open_outcome}
use Rattle.shell_reports.specs.Outcome.{Outcome}
use Rattle.shell_sectors.specs.declared.write.SectorPlace.{SectorPlace}
use Rattle.shell_sectors.specs.Found.{OnArenas, place_of}
use Rattle.shell_sectors.specs.Opening.{HaveSizes, IsOpenOutline}
use Rattle.shell_sectors.specs.Patched.{Patches, PrintsPatched, patch_of}
use Rattle.shell_sectors.specs.Writing.{IsSectorPlace, SavesRuns}
use Rattle.shell_sectors.proofs.Asked.{found_reveals}
use Rattle.shell_sectors.proofs.Coming.{named_comes, unfound_comes}
use Rattle.shell_sectors.proofs.Outlined.{whole_rows}
use Rattle.shell_sectors.proofs.Patched.{saves, sizes_saved}
use Rattle.shell_replay.specs.declared.schedule.Schedule.{Schedule}
use Rattle.shell_replay.specs.Answering.{AreSmall, ReplaysFrom, ReplaysOn, ReplaysWith}
use Rattle.shell_replay.specs.Replay.{HasReplayed, ReplayComes, Replays, ReplaysArenas, arenas_refusal, held_at_end}
use Rattle.shell_replay.proofs.Placed.{has_replayed, left_fits}

-- ---- what was loaded

-- the states that were loaded, if memory lasted
pub loaded_chain : (r : Result (List ArenaState) ChainRefused) (states due : List ArenaState) → r ≡ Ok states → (HasMemory r → r ≡ Ok due) → states ≡ due
loaded_chain r states due is told =
    let both : Ok states ≡ Ok due = sym is ∙ told (λ k e. let clash = sym is ∙ e in cc) in cc

-- what a source reveals opens again
pub never_refused : (r : Result (List ArenaState) ChainRefused) (refused : ChainRefused) (due : List ArenaState) → r ≡ Err refused → IsFinding refused → (HasMemory r → r ≡ Ok due) → ⊥
never_refused r refused due is finding told =
    let has : HasMemory r = λ k e.
    finding (let both = sym is ∙ e in let same : refused ≡ wants_memory k = cc in ap (λ (f : ChainRefused). f.fault) same) in
    let clash = sym is ∙ told has in cc

-- ---- one arena that was read

-- what was read of it, if it is the only one
pub only_link : (links : List Link) (link : Link) → length links ≡ 1 → link ≡ get_or links 0 link → links ≡ link ∷ []
only_link [] link one is = absurd (omega (arith, one))
only_link (l ∷ []) link one is = ap (λ (x : Link). x ∷ []) (sym is)
only_link (l ∷ next ∷ links) link one is = absurd (omega (arith, one))

-- it isn't too large as it opens, either
small_state : (words : List ℕ) (links : List Link) (state : ArenaState) → state ∷ [] ≡ map (state_at words) links → AreSmall links → nat_lt most_held state.info.layout.size ≡ false
small_state words [] state one small = absurd (let n = ap (λ (ss : List ArenaState). length ss) one in omega (arith, n))
small_state words (link ∷ []) state one small =
    let same : state ≡ state_at words link = (let both = one in cc) in
    ap (λ (s : ArenaState). nat_lt most_held s.info.layout.size) same ∙ small link refl
small_state words (link ∷ next ∷ links) state one small = absurd (let n = ap (λ (ss : List ArenaState). length ss) one in omega (arith, n))

-- ---- the relation

module _ (leaves : ℕ → List (Option Words) → List (Option (List ℕ)) → Type 0) (schedule : Schedule) (uuid : List ℕ) (outline : Outline) where
  -- the table or the labels have a fault
  pub faulty : (held : Option Images) (fault : OpenFault) (answer : Answer) → ((contents : List (List ℕ)) → fault_in (image_set_with outline contents) ≡ Some fault) → answer.saved ≡ None
      → ((contents : List (List ℕ)) → outcome_with answer contents ≡ open_outcome fault) → ReplaysFrom leaves held uuid schedule outline answer
  faulty held fault answer is nothing says = record {
    comes = λ source told.
        let cs = contents_in source (length outline.sizes) in
        let loaded = image_set_with outline cs in
        unfound_comes (ReplaysArenas leaves uuid schedule loaded (outcome_with answer cs)) uuid loaded (outcome_with answer cs) (inl (fault, is cs, says cs));
    sizes = no_sizes outline.sizes answer nothing;
  }

  module _ (registry : Registered) (rest : OutlineRest) (o : IsOpenOutline outline registry rest) where
    found_is : (contents : List (List ℕ)) → found_of registry.sets (lookup uuid (namespaces_in (state_of registry)).entries) ≡ found_in (image_set_with outline contents) uuid
    unfolding image_set_with
    found_is contents = λ i. found_of (o.sets i) (o.entry uuid contents i)

    -- there is no such namespace
    pub unfound : (held : Option Images) (refusal : OpRefused) (answer : Answer) → Err refusal ≡ found_of registry.sets (lookup uuid (namespaces_in (state_of registry)).entries) → answer.saved ≡ None
        → ((contents : List (List ℕ)) → outcome_with answer contents ≡ refused_outcome (refusal_text refusal)) → ReplaysFrom leaves held uuid schedule outline answer
    unfound held refusal answer is nothing says = record {
      comes = λ source told.
          let cs = contents_in source (length outline.sizes) in
          let loaded = image_set_with outline cs in
          unfound_comes (ReplaysArenas leaves uuid schedule loaded (outcome_with answer cs)) uuid loaded (outcome_with answer cs) (inr (o.none cs, (refusal, sym (is ∙ found_is cs), says cs)));
      sizes = no_sizes outline.sizes answer nothing;
    }

    module _ (found : Found) (lies : LiesInSet registry.sets found) (is : found_of registry.sets (lookup uuid (namespaces_in (state_of registry)).entries) ≡ Ok found) (answer : Answer) (contents : List (List ℕ)) where
      abbrev set : List Mapping
      set = set_at registry.sets found.region

      abbrev loaded : ImageSet
      loaded = image_set_with outline contents

      abbrev outcome : Outcome
      outcome = outcome_with answer contents

      abbrev was : List ℕ
      was = (words_of (over set found.offset found.raw (rows_of contents))).kept

      was_is : was ≡ (words_of (place_of loaded found (rows_of loaded.contents))).kept
      unfolding image_set_with
      was_is = λ i. (words_of (over (set_at (o.sets i) found.region) found.offset found.raw (rows_of contents))).kept

      opens_as : (r : Result (List ArenaState) ChainRefused) → opened_view was uuid ≡ r → opened_in loaded uuid found ≡ r
      unfolding view_words
      opens_as r e = ap (λ (ws : List ℕ). opened_view ws uuid) (sym was_is) ∙ e

      on_arenas : (r : Result (List ArenaState) ChainRefused) → opened_view was uuid ≡ r → OnArenas (ReplaysArenas leaves uuid schedule loaded outcome found) uuid outcome r → ReplayComes leaves uuid schedule loaded outcome
      on_arenas r e on =
          named_comes (ReplaysArenas leaves uuid schedule loaded outcome) uuid loaded outcome found (o.none contents) (sym (found_is contents) ∙ is)
          (subst (λ (x : Result (List ArenaState) ChainRefused). OnArenas (ReplaysArenas leaves uuid schedule loaded outcome found) uuid outcome x) (sym (opens_as r e)) on)

      -- the first arena that violates the format
      pub broken_comes : (refused : ChainRefused) → opened_view was uuid ≡ Err refused → outcome ≡ arena_outcome uuid refused → ReplayComes leaves uuid schedule loaded outcome
      broken_comes refused e says = on_arenas (Err refused) e says

      others : (states : List ArenaState) → length states ≢ 1 → outcome ≡ refused_outcome (arenas_refusal (length states)) → ReplaysArenas leaves uuid schedule loaded outcome found states
      others [] other said = said
      others (state ∷ []) other said = absurd (other refl)
      others (state ∷ next ∷ states) other said = said

      -- other arenas than one
      pub others_comes : (states : List ArenaState) → opened_view was uuid ≡ Ok states → length states ≢ 1 → outcome ≡ refused_outcome (arenas_refusal (length states)) → ReplayComes leaves uuid schedule loaded outcome
      others_comes states e other said = on_arenas (Ok states) e (others states other said)

      -- the one arena, by whether it is too large
      one_by : (state : ArenaState) (large : Bool) → nat_lt most_held state.info.layout.size ≡ large
          → MatchBool large (outcome ≡ refused_outcome (held_text state.info.layout.size)) (Replays leaves uuid schedule loaded outcome found state) → ReplaysArenas leaves uuid schedule loaded outcome found (state ∷ [])
      one_by state large is on = subst (λ (b : Bool). MatchBool b (outcome ≡ refused_outcome (held_text state.info.layout.size)) (Replays leaves uuid schedule loaded outcome found state)) (sym is) on

      -- it has too many bytes
      pub large_comes : (state : ArenaState) → opened_view was uuid ≡ Ok (state ∷ []) → nat_lt most_held state.info.layout.size ≡ true → outcome ≡ refused_outcome (held_text state.info.layout.size)
          → ReplayComes leaves uuid schedule loaded outcome
      large_comes state e large said = on_arenas (Ok (state ∷ [])) e (one_by state true large said)

      module _ (links : List Link) (all : AreAll was uuid links) (small : HaveMapsOfBytes (bytes_by_place set found.offset found.raw contents) links) (state : ArenaState) (one : state ∷ [] ≡ map (state_at was) links)
          (is_open : IsOpenState state) (have : HaveSizes outline.sizes contents) (run : Run) (left : List ℕ) (first : run.first ≡ 0) (long : length run.bytes ≡ 8 * length left) (words : words_in run.bytes ≡ left) (size : length left ≡ length state.words)
          (s : PrintsPatched (replay_text (opened_held state) schedule.lines) (patch_of registry.sets found (Runs (run ∷ [])) ∷ []) rest (map area_words registry.areas) answer)
          (puts : Patches registry.sets found (patch_of registry.sets found (Runs (run ∷ [])))) where
        abbrev row : List ℕ
        row = bytes_by_place set found.offset found.raw contents

        abbrev now : List ℕ
        now = (words_of (over set found.offset found.raw (rows_of (patched_contents (byte_patched (patch_of registry.sets found (Runs (run ∷ [])))) contents)))).kept

        patched : ArePatched (patch_of registry.sets found (Runs (run ∷ []))) contents
        patched = puts contents (whole_rows outline.sizes contents have (subst (λ (r : OutlineRest). AreWholeSizes r.sizes) o.rest_is o.sizes)) (o.reach contents have found.region lies.region)

        words_are : was ≡ words_in row
        words_are = ap (λ (w : Words). w.kept) patched.was

        -- the words with the pending moves made
        abbrev made : List ℕ
        made = words_in (changed (runs_byte (move_runs links)) row)

        moves : HaveMoves uuid row (changed (runs_byte (move_runs links)) row) links
        moves = moves_are_made links uuid row (subst (λ (ws : List ℕ). AreAll ws uuid links) words_are all) small

        states_are : map (state_at (words_in row)) links ≡ state ∷ []
        states_are = ap (λ (ws : List ℕ). map (state_at ws) links) (sym words_are) ∙ sym one

        found_made : opened_view made uuid ≡ Ok (map found_again (state ∷ []))
        found_made = moves.found ∙ ap (λ (ss : List ArenaState). Ok (map found_again ss)) states_are

        one_long : arena_words (map (state_at (words_in row)) links) ≡ state.info.layout.size / 8
        one_long = omega (arith, ap arena_words states_are, sum_by-cons (λ (x : ArenaState). x.info.layout.size / 8) state [])

        kept : drop (state.info.layout.size / 8) made ≡ drop (state.info.layout.size / 8) was
        kept = subst (λ (k : ℕ). drop k made ≡ drop k (words_in row)) one_long moves.behind ∙ ap (drop (state.info.layout.size / 8)) (sym words_are)

        made_long : length made ≡ length (words_in row)
        made_long = omega (arith, length_words (changed (runs_byte (move_runs links)) row), length_words row, ap (λ (n : ℕ). n / 8) moves.size)

        inside : run.first + length run.bytes ≤ length row
        inside = omega (arith, first, long, left_fits uuid was made state is_open found_made kept left size, made_long, length_words row)

        now_is : now ≡ put_at was 0 left
        now_is =
            ap (λ (w : Words). w.kept) patched.words ∙ ap words_in (from_first (runs_byte (run ∷ [])) row ∙ more_changed run [] row ∙ none_changed (changed (run_byte run) row))
            ∙ whole_run run row 0 (length left) first long inside ∙ ap (put_at (words_in row) 0) words ∙ ap (λ (ws : List ℕ). put_at ws 0 left) (sym words_are)

        module _ (r : Reopens state (MaySurvive (first_cells state) (held_at_end state schedule.lines)) left) (law : OneArenaChanges) (stand : ReplaysStand)
            (cut : leaves schedule.seed (Some (row_words (held_at_end state schedule.lines).row) ∷ []) (Some left ∷ [])) where
          has : HasReplayed leaves uuid schedule state (words_of (place_of loaded found (rows_of loaded.contents))).kept now
          has =
              subst (λ (ws : List ℕ). HasReplayed leaves uuid schedule state ws now) was_is
              (has_replayed uuid was made state is_open found_made kept left size leaves schedule r law stand cut now now_is)

          -- the schedule is played, and power is cut
          pub replayed_comes : AreSmall links → ReplayComes leaves uuid schedule loaded outcome
          replayed_comes few =
              on_arenas (Ok (state ∷ [])) (all.read ∙ ap (λ (ss : List ArenaState). Ok ss) (sym one))
              (one_by state false (small_state was links state one few)
              (saves outline registry rest o found lies (Runs (run ∷ [])) answer s contents have puts (HasReplayed leaves uuid schedule state (words_of (place_of loaded found (rows_of loaded.contents))).kept) has))

  -- ---- in a place that was found

  module _ (s : SectorPlace) (it : IsSectorPlace uuid outline s) (answer : Answer) where
    at_set : (contents : List (List ℕ)) (links : List Link) → AreAll (words_of (over s.set s.found.offset s.found.raw (rows_of contents))).kept uuid links
        → AreAll (words_of (over (set_at it.registry.sets s.found.region) s.found.offset s.found.raw (rows_of contents))).kept uuid links
    at_set contents links all = subst (λ (ms : List Mapping). AreAll (words_of (over ms s.found.offset s.found.raw (rows_of contents))).kept uuid links) it.set all

    are_at : (contents : List (List ℕ)) (states : List ArenaState) (links : List Link) → states ≡ map (state_at (words_of (over s.set s.found.offset s.found.raw (rows_of contents))).kept) links
        → states ≡ map (state_at (words_of (over (set_at it.registry.sets s.found.region) s.found.offset s.found.raw (rows_of contents))).kept) links
    are_at contents states links are = subst (λ (ms : List Mapping). states ≡ map (state_at (words_of (over ms s.found.offset s.found.raw (rows_of contents))).kept) links) it.set are

    -- an arena that isn't opened
    pub replays_broken : (held : Option Images) (refused : ChainRefused) → answer.saved ≡ None → ((contents : List (List ℕ)) → outcome_with answer contents ≡ arena_outcome uuid refused) → ForSome held (HasContents s.rest.sizes)
        → ((contents : List (List ℕ)) → Reveals held s.set contents → opened_view (words_of (over s.set s.found.offset s.found.raw (rows_of contents))).kept uuid ≡ Err refused) → ReplaysFrom leaves held uuid schedule outline answer
    replays_broken held refused nothing says there opens = record {
      comes = λ source told.
          let cs = contents_in source (length outline.sizes) in
          broken_comes it.registry s.rest it.parts s.found it.lies it.place answer cs refused
          (subst (λ (ms : List Mapping). opened_view (words_of (over ms s.found.offset s.found.raw (rows_of cs))).kept uuid ≡ Err refused) it.set
          (opens cs (found_reveals outline it.registry s.rest it.parts s.found it.lies s.set it.set held source told (there source told)))) (says cs);
      sizes = no_sizes outline.sizes answer nothing;
    }

    -- other arenas than one
    pub replays_others : (states : List ArenaState) → length states ≢ 1 → answer.saved ≡ None → ((contents : List (List ℕ)) → outcome_with answer contents ≡ refused_outcome (arenas_refusal (length states)))
        → ReplaysWith leaves uuid schedule outline s states answer
    replays_others states other nothing says = record {
      comes = λ contents links have h are few.
          others_comes it.registry s.rest it.parts s.found it.lies it.place answer contents states
          ((at_set contents links h.all).read ∙ ap (λ (ss : List ArenaState). Ok ss) (sym (are_at contents states links are))) other (says contents);
      sizes = no_sizes outline.sizes answer nothing;
    }

    -- the one arena has the words that the cut leaves
    pub replays_run : (state : ArenaState) → IsOpenState state → (run : Run) (left : List ℕ) → run.first ≡ 0 → length run.bytes ≡ 8 * length left → words_in run.bytes ≡ left → length left ≡ length state.words
        → SavesRuns (replay_text (opened_held state) schedule.lines) it.registry s (run ∷ []) answer → Reopens state (MaySurvive (first_cells state) (held_at_end state schedule.lines)) left → OneArenaChanges → ReplaysStand
        → leaves schedule.seed (Some (row_words (held_at_end state schedule.lines).row) ∷ []) (Some left ∷ []) → ReplaysWith leaves uuid schedule outline s (state ∷ []) answer
    replays_run state is_open run left first long words size (saved, puts) r law stand cut = record {
      comes = λ contents links have h are few.
          replayed_comes it.registry s.rest it.parts s.found it.lies it.place answer contents links (at_set contents links h.all)
          (subst (λ (ms : List Mapping). HaveMapsOfBytes (bytes_by_place ms s.found.offset s.found.raw contents) links) it.set h.maps) state (are_at contents (state ∷ []) links are)
          is_open have run left first long words size saved puts r law stand cut few;
      sizes = sizes_saved outline it.registry s.rest it.parts s.found it.lies (Runs (run ∷ [])) answer saved;
    }

    -- from the states that were loaded
    pub replays_loaded : (held : Option Images) (links : List Link) (states : List ArenaState) → AreSmall links → ReplaysWith leaves uuid schedule outline s states answer
        → ((contents : List (List ℕ)) → Reveals held s.set contents → AreAll (words_of (over s.set s.found.offset s.found.raw (rows_of contents))).kept uuid links
        → states ≡ map (state_at (words_of (over s.set s.found.offset s.found.raw (rows_of contents))).kept) links) → ReplaysOn leaves held uuid schedule outline s links answer
    replays_loaded held links states few replays loaded = record {
      comes = λ contents shown have h. replays.comes contents links have h (loaded contents shown h.all) few;
      sizes = replays.sizes;
    }

    -- a second reading that doesn't open is of a source that reveals nothing
    pub replays_hidden : (held : Option Images) (links : List Link) → answer.saved ≡ None → ((contents : List (List ℕ)) → Reveals held s.set contents → AreAll (words_of (over s.set s.found.offset s.found.raw (rows_of contents))).kept uuid links → ⊥)
        → ReplaysOn leaves held uuid schedule outline s links answer
    replays_hidden held links nothing none = record {
      comes = λ contents shown have h. absurd (none contents shown h.all);
      sizes = no_sizes outline.sizes answer nothing;
    }

    -- other arenas than one were read
    pub reads_others : (held : Option Images) (links : List Link) → length links ≢ 1 → answer.saved ≡ None → ((contents : List (List ℕ)) → outcome_with answer contents ≡ refused_outcome (arenas_refusal (length links)))
        → ReplaysOn leaves held uuid schedule outline s links answer
    reads_others held links other nothing says = record {
      comes = λ contents shown have h.
          let was : List ℕ = (words_of (over (set_at it.registry.sets s.found.region) s.found.offset s.found.raw (rows_of contents))).kept in
          let count : length (map (state_at was) links) ≡ length links = length-map links (state_at was) in
          others_comes it.registry s.rest it.parts s.found it.lies it.place answer contents (map (state_at was) links) (at_set contents links h.all).read
          (λ e. other (sym count ∙ e)) (says contents ∙ ap (λ (n : ℕ). refused_outcome (arenas_refusal n)) (sym count));
      sizes = no_sizes outline.sizes answer nothing;
    }

    -- the one that was read is too large
    pub reads_large : (held : Option Images) (links : List Link) (link : Link) → links ≡ link ∷ [] → nat_lt most_held link.opened.info.layout.size ≡ true → answer.saved ≡ None
        → ((contents : List (List ℕ)) → outcome_with answer contents ≡ refused_outcome (held_text link.opened.info.layout.size)) → ReplaysOn leaves held uuid schedule outline s links answer
    reads_large held links link only large nothing says = record {
      comes = λ contents shown have h.
          let was : List ℕ = (words_of (over (set_at it.registry.sets s.found.region) s.found.offset s.found.raw (rows_of contents))).kept in
          large_comes it.registry s.rest it.parts s.found it.lies it.place answer contents (state_at was link)
          ((at_set contents links h.all).read ∙ ap (λ (ls : List Link). Ok (map (state_at was) ls)) only) large (says contents);
      sizes = no_sizes outline.sizes answer nothing;
    }

    -- from the arenas that were read
    pub replays_from : (held : Option Images) (links : List Link) → ReplaysOn leaves held uuid schedule outline s links answer → ForSome held (HasContents s.rest.sizes)
        → ((contents : List (List ℕ)) → Reveals held s.set contents → AreAll (words_of (over s.set s.found.offset s.found.raw (rows_of contents))).kept uuid links)
        → ((contents : List (List ℕ)) → Reveals held s.set contents → HaveMapsOfBytes (bytes_by_place s.set s.found.offset s.found.raw contents) links) → ReplaysFrom leaves held uuid schedule outline answer
    replays_from held links replays there all small = record {
      comes = λ source told.
          let cs = contents_in source (length outline.sizes) in
          let shown = found_reveals outline it.registry s.rest it.parts s.found it.lies s.set it.set held source told (there source told) in
          let have : HaveSizes outline.sizes cs = sym (subst (λ (r : OutlineRest). HasContents r.sizes source) it.parts.rest_is (there source told)) in
          replays.comes cs shown have (record { all = all cs shown; maps = small cs shown });
      sizes = replays.sizes;
    }
