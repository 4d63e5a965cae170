-- From an outline to what a write of one sector of one of its namespaces comes to.
use Rattle.std.proofs.Common.{◌≡◌, ◌≢◌, ℕ, ◌*◌, ◌%◌, ◌^◌, ◌≤◌, ◌++◌, List, [], ◌∷◌, length, map, get_or, Option, Some, None, Result, Ok, Err, sym, ap, ◌∙◌, subst, inl, inr}
use Rattle.std.specs.Prelude.{IfOk, MatchOption, slice_index}
use Rattle.std.specs.Option.{ForSome}
use Rattle.std.proofs.lemmas.List.{get_or-map}
use Rattle.cut_words.specs.Words.{Words}
use Rattle.cut_words.specs.WordBytes.{words_in}
use Rattle.nvd_media.specs.Images.{Images}
use Rattle.nfit_reader.specs.declared.table.Mapping.{Mapping}
use Rattle.arena_open.specs.declared.chain_refused.ChainRefused.{ChainRefused}
use Rattle.arena_open.specs.declared.state.ArenaState.{ArenaState}
use Rattle.arena_open.specs.Chain.{Link, state_at}
use Rattle.arena_open.specs.ChainCells.{sectors_of, sizes_of}
use Rattle.arena_open.specs.InPlace.{LiesInLink}
use Rattle.arena_open.proofs.ChainInPlace.{lies_in}
use Rattle.power_cut.specs.Namespace.{over, words_of}
use Rattle.image_set.specs.declared.changing.OutlineRest.{OutlineRest}
use Rattle.image_set.specs.declared.outline.Outline.{Outline}
use Rattle.image_set.specs.Load.{ImageSet}
use Rattle.image_set.specs.Outline.{HasContents, contents_in, image_set_with}
use Rattle.image_set.specs.Patches.{patched_contents}
use Rattle.namespace_areas.specs.declared.area.Area.{Area}
use Rattle.namespace_areas.specs.declared.found.Found.{Found}
use Rattle.namespace_areas.specs.Finding.{LiesInSet, found_of, set_at}
use Rattle.namespace_areas.specs.Opening.{AreWhole}
use Rattle.namespace_areas.specs.Seen.{words_of as area_words}
use Rattle.namespace_bytes.specs.declared.new_bytes.NewBytes.TheVariants.{Runs}
use Rattle.namespace_bytes.specs.declared.runs.Run.{Run}
use Rattle.namespace_bytes.specs.Patching.{ArePatched, byte_patched, bytes_by_place}
use Rattle.namespace_bytes.specs.Putting.{AreAll}
use Rattle.namespace_bytes.specs.Runs.{runs_byte}
use Rattle.namespace_bytes.specs.SectorBytes.{HaveMapsOfBytes}
use Rattle.namespace_bytes.proofs.ByteWords.{changed, from_first}
use Rattle.namespace_map.specs.declared.refused.OpRefused.{OpRefused}
use Rattle.namespace_map.specs.Namespaces.{lookup}
use Rattle.namespace_ops.specs.declared.registry.OpenFault.{OpenFault}
use Rattle.namespace_ops.specs.Counted.{namespaces_in}
use Rattle.namespace_ops.specs.Registered.{Registered, state_of}
use Rattle.namespace_words.specs.Moves.{move_runs}
use Rattle.namespace_words.specs.Source.{Reveals}
use Rattle.sector_namespaces.specs.View.{opened_view, rows_of, view_words}
use Rattle.session_script.specs.declared.payload.Payload.{Payload}
use Rattle.shell_changes.specs.declared.answer.Answer.{Answer}
use Rattle.shell_changes.specs.Answers.{outcome_with}
use Rattle.shell_changes.specs.Saved.{AreWholeSizes}
use Rattle.shell_changes.proofs.Remains.{no_sizes}
use Rattle.shell_reports.specs.Causes.{fault_in, found_in, opened_in}
use Rattle.shell_reports.specs.Cut.{done_text}
use Rattle.shell_reports.specs.Faults.{arena_outcome, range_text, refusal_text, refused_outcome}
use Rattle.shell_reports.specs.List.{open_outcome}
use Rattle.shell_sectors.specs.declared.write.SectorPlace.{SectorPlace}
use Rattle.shell_sectors.specs.Found.{OnArenas}
use Rattle.shell_sectors.specs.LoneRuns.{lone_runs}
use Rattle.shell_sectors.specs.Opening.{HaveSizes, IsOpenOutline}
use Rattle.shell_sectors.specs.Patched.{Patches, SavesPatched, patch_of}
use Rattle.shell_sectors.specs.Value.{bytes_for}
use Rattle.shell_sectors.specs.Write.{HasSector, WriteComes, Writes, WritesArenas, length_text, loaded_words, write_refusal}
use Rattle.shell_sectors.specs.Writing.{IsSectorPlace, SavesRuns, WritesFrom, WritesWith}
use Rattle.shell_sectors.proofs.Answered.{accepts, misfits, past, size_is}
use Rattle.shell_sectors.proofs.Asked.{found_few, found_pages, found_reveals}
use Rattle.shell_sectors.proofs.Coming.{named_comes, unfound_comes}
use Rattle.shell_sectors.proofs.Outlined.{whole_rows}
use Rattle.shell_sectors.proofs.Patched.{saves, sizes_saved}
use Rattle.shell_sectors.proofs.Runs.{written_runs}

-- the table or the labels have a fault
pub faulty : (outline : Outline) (held : Option Images) (uuid : List ℕ) (sector : ℕ) (value : Payload) (fault : OpenFault) (answer : Answer) → ((contents : List (List ℕ)) → fault_in (image_set_with outline contents) ≡ Some fault) → answer.saved ≡ None
    → ((contents : List (List ℕ)) → outcome_with answer contents ≡ open_outcome fault) → WritesFrom held uuid sector value outline answer
faulty outline held uuid sector value fault answer is nothing says = record {
  comes = λ source told.
      let cs = contents_in source (length outline.sizes) in
      let loaded = image_set_with outline cs in
      unfound_comes (WritesArenas uuid sector value loaded (outcome_with answer cs)) uuid loaded (outcome_with answer cs) (inl (fault, is cs, says cs));
  sizes = no_sizes outline.sizes answer nothing;
}

module _ (outline : Outline) (registry : Registered) (rest : OutlineRest) (o : IsOpenOutline outline registry rest) (uuid : List ℕ) where
  found_is : (contents : List (List ℕ)) → found_of registry.sets (lookup uuid (namespaces_in (state_of registry)).entries) ≡ found_in (image_set_with outline contents) uuid
  unfolding image_set_with
  found_is contents = λ i. found_of (o.sets i) (o.entry uuid contents i)

  -- there is no such namespace
  pub unfound : (held : Option Images) (sector : ℕ) (value : Payload) (refusal : OpRefused) (answer : Answer) → Err refusal ≡ found_of registry.sets (lookup uuid (namespaces_in (state_of registry)).entries) → answer.saved ≡ None
      → ((contents : List (List ℕ)) → outcome_with answer contents ≡ refused_outcome (refusal_text refusal)) → WritesFrom held uuid sector value outline answer
  unfound held sector value refusal answer is nothing says = record {
    comes = λ source told.
        let cs = contents_in source (length outline.sizes) in
        let loaded = image_set_with outline cs in
        unfound_comes (WritesArenas uuid sector value loaded (outcome_with answer cs)) uuid loaded (outcome_with answer cs) (inr (o.none cs, (refusal, sym (is ∙ found_is cs), says cs)));
    sizes = no_sizes outline.sizes answer nothing;
  }

  module _ (found : Found) (lies : LiesInSet registry.sets found) (is : found_of registry.sets (lookup uuid (namespaces_in (state_of registry)).entries) ≡ Ok found)
      (sector : ℕ) (value : Payload) (answer : Answer) (contents : List (List ℕ)) where
    abbrev set : List Mapping
    set = set_at registry.sets found.region

    abbrev loaded : ImageSet
    loaded = image_set_with outline contents

    abbrev was : List ℕ
    was = (words_of (over set found.offset found.raw (rows_of contents))).kept

    was_is : was ≡ loaded_words loaded found
    unfolding image_set_with
    was_is = λ i. (words_of (over (set_at (o.sets i) found.region) found.offset found.raw (rows_of contents))).kept

    opens_as : (r : Result (List ArenaState) ChainRefused) → opened_view was uuid ≡ r → opened_in loaded uuid found ≡ r
    unfolding view_words
    opens_as r e = ap (λ (ws : List ℕ). opened_view ws uuid) (sym was_is) ∙ e

    on_arenas : (r : Result (List ArenaState) ChainRefused) → opened_view was uuid ≡ r → OnArenas (WritesArenas uuid sector value loaded (outcome_with answer contents) found) uuid (outcome_with answer contents) r
        → WriteComes uuid sector value loaded (outcome_with answer contents)
    on_arenas r e on =
        named_comes (WritesArenas uuid sector value loaded (outcome_with answer contents)) uuid loaded (outcome_with answer contents) found (o.none contents) (sym (found_is contents) ∙ is)
        (subst (λ (x : Result (List ArenaState) ChainRefused). OnArenas (WritesArenas uuid sector value loaded (outcome_with answer contents) found) uuid (outcome_with answer contents) x) (sym (opens_as r e)) on)

    -- the first arena that violates the format
    pub broken_comes : (refused : ChainRefused) → opened_view was uuid ≡ Err refused → outcome_with answer contents ≡ arena_outcome uuid refused → WriteComes uuid sector value loaded (outcome_with answer contents)
    broken_comes refused e says = on_arenas (Err refused) e says

    module _ (links : List Link) (all : AreAll was uuid links) where
      abbrev states : List ArenaState
      states = map (state_at was) links

      abbrev Due : Option (List ℕ) → Type 0
      Due fit = MatchOption fit (Writes found uuid sector value loaded states (outcome_with answer contents)) (λ refusal. outcome_with answer contents ≡ refused_outcome refusal)

      fits_as : (fit : Option (List ℕ)) → write_refusal sector value states ≡ fit → Due fit → WriteComes uuid sector value loaded (outcome_with answer contents)
      fits_as fit e due = on_arenas (Ok states) all.read (subst Due (sym e) due)

      -- there is no such sector, or the value has another length
      pub refused_comes : (refusal : List ℕ) → write_refusal sector value states ≡ Some refusal → outcome_with answer contents ≡ refused_outcome refusal → WriteComes uuid sector value loaded (outcome_with answer contents)
      refused_comes refusal e says = fits_as (Some refusal) e says

      module _ (which own : ℕ) (at : LiesInLink links sector which own) (link : Link) (here : (d : Link) → link ≡ get_or links which d) where
        abbrev had : ℕ
        had = link.opened.info.layout.sector

        pub had_is : (d : ArenaState) → had ≡ (get_or states which d).info.layout.sector
        had_is d =
            ap (λ (s : ArenaState). s.info.layout.sector) (ap (state_at was) (here link) ∙ sym (get_or-map (state_at was) links which link d at.there))

        -- the value has another length
        pub misfit_comes : length (bytes_for had value) ≢ had → outcome_with answer contents ≡ refused_outcome (length_text (length (bytes_for had value)) had) → WriteComes uuid sector value loaded (outcome_with answer contents)
        misfit_comes other says = refused_comes (length_text (length (bytes_for had value)) had) (misfits states sector which own value (lies_in was links sector which own at) had had_is other) says

        abbrev runs : List Run
        runs = move_runs links ++ lone_runs link own (bytes_for had value)

        module _ (small : HaveMapsOfBytes (bytes_by_place set found.offset found.raw contents) links) (have : HaveSizes outline.sizes contents) (fit : length (bytes_for had value) ≡ had)
            (s : SavesPatched (patch_of registry.sets found (Runs runs) ∷ []) rest (map area_words registry.areas) answer) (puts : Patches registry.sets found (patch_of registry.sets found (Runs runs))) where
          abbrev row : List ℕ
          row = bytes_by_place set found.offset found.raw contents

          abbrev now : List ℕ
          now = (words_of (over set found.offset found.raw (rows_of (patched_contents (byte_patched (patch_of registry.sets found (Runs runs))) contents)))).kept

          patched : ArePatched (patch_of registry.sets found (Runs runs)) contents
          patched = puts contents (whole_rows outline.sizes contents have (subst (λ (r : OutlineRest). AreWholeSizes r.sizes) o.rest_is o.sizes)) (o.reach contents have found.region lies.region)

          words_are : was ≡ words_in row
          words_are = ap (λ (w : Words). w.kept) patched.was

          now_are : now ≡ words_in (changed (runs_byte runs) row)
          now_are = ap (λ (w : Words). w.kept) patched.words ∙ ap words_in (from_first (runs_byte runs) row)

          put : HasSector uuid sector (words_in (bytes_for had value)) (map (state_at (words_in row)) links) (words_in row) (words_in (changed (runs_byte runs) row))
          put = written_runs links uuid row (subst (λ (ws : List ℕ). AreAll ws uuid links) words_are all) small sector which own at link here (bytes_for had value) fit

          has : HasSector uuid sector (words_in (bytes_for had value)) states was now
          has =
              subst (HasSector uuid sector (words_in (bytes_for had value)) states was) (sym now_are)
              (subst (λ (ws : List ℕ). HasSector uuid sector (words_in (bytes_for had value)) (map (state_at ws) links) ws (words_in (changed (runs_byte runs) row))) (sym words_are) put)

          has_sized : HasSector uuid sector (words_in (bytes_for (slice_index (sizes_of states) sector) value)) states (loaded_words loaded found) now
          has_sized =
              subst (λ (ws : List ℕ). HasSector uuid sector (words_in (bytes_for (slice_index (sizes_of states) sector) value)) states ws now) was_is
              (subst (λ (n : ℕ). HasSector uuid sector (words_in (bytes_for n value)) states was now) (sym (size_is states sector which own value (lies_in was links sector which own at) had had_is)) has)

          -- the sector has the value
          pub written_comes : WriteComes uuid sector value loaded (outcome_with answer contents)
          written_comes =
              fits_as None (accepts states sector which own value (lies_in was links sector which own at) had had_is fit)
              (saves outline registry rest o found lies (Runs runs) answer s contents have puts
              (HasSector uuid sector (words_in (bytes_for (slice_index (sizes_of states) sector) value)) states (loaded_words loaded found)) has_sized)

-- ---- as the runs are put in

-- of three facts of a result another one follows
pub three : {E : Type 0} (P Q R S : Answer → Type 0) (result : Result Answer E) → ((answer : Answer) → P answer → Q answer → R answer → S answer) → IfOk result P → IfOk result Q → IfOk result R → IfOk result S
three P Q R S (Ok answer) more p q r = more answer p q r
three P Q R S (Err e) more p q r = tt

-- the parts of a set in which a namespace was found
pub placed : (uuid : List ℕ) (outline : Outline) (registry : Registered) (rest : OutlineRest) (found : Found) (s : SectorPlace) → IsOpenOutline outline registry rest
    → Ok found ≡ found_of registry.sets (lookup uuid (namespaces_in (state_of registry)).entries) → LiesInSet registry.sets found
    → s.set ≡ set_at registry.sets found.region → s.found ≡ found → s.areas.items ≡ registry.areas → s.rest ≡ rest → IsSectorPlace uuid outline s
placed uuid outline registry rest found s o is lies set_is found_is areas_are rest_is = record {
  registry = registry;
  parts = subst (λ (r : OutlineRest). IsOpenOutline outline registry r) (sym rest_is) o;
  place = sym is ∙ ap (λ (f : Found). Ok f) (sym found_is);
  lies = subst (λ (f : Found). LiesInSet registry.sets f) (sym found_is) lies;
  set = set_is ∙ ap (λ (f : Found). set_at registry.sets f.region) (sym found_is);
  areas = areas_are;
}

module _ (uuid : List ℕ) (outline : Outline) (s : SectorPlace) (it : IsSectorPlace uuid outline s) where
  pub whole_pages : length s.set * s.found.raw % 4096 ≡ 0
  whole_pages = found_pages outline it.registry s.rest it.parts s.found it.lies s.set it.set

  -- it has no more bytes than all contents may have
  pub few_bytes : length s.set * s.found.raw ≤ 2 ^ 55
  few_bytes = found_few outline it.registry s.rest it.parts s.found it.lies s.set it.set

  pub areas_whole : AreWhole (map area_words s.areas.items)
  areas_whole =
      subst (λ (areas : List Area). AreWhole (map area_words areas)) (sym it.areas)
      (subst (λ (labels : List (Option Words)). AreWhole labels) (sym it.parts.labels) it.parts.settled)

  module _ (sector : ℕ) (value : Payload) (answer : Answer) where
    -- an arena that isn't opened
    pub writes_broken : (held : Option Images) (refused : ChainRefused) → answer.saved ≡ None → ((contents : List (List ℕ)) → outcome_with answer contents ≡ arena_outcome uuid refused) → ForSome held (HasContents s.rest.sizes)
        → ((contents : List (List ℕ)) → Reveals held s.set contents → opened_view (words_of (over s.set s.found.offset s.found.raw (rows_of contents))).kept uuid ≡ Err refused) → WritesFrom held uuid sector value outline answer
    writes_broken held refused nothing says there opens = record {
      comes = λ source told.
          let cs = contents_in source (length outline.sizes) in
          broken_comes outline it.registry s.rest it.parts uuid s.found it.lies it.place sector value answer cs refused
          (subst (λ (ms : List Mapping). opened_view (words_of (over ms s.found.offset s.found.raw (rows_of cs))).kept uuid ≡ Err refused) it.set
          (opens cs (found_reveals outline it.registry s.rest it.parts s.found it.lies s.set it.set held source told (there source told)))) (says cs);
      sizes = no_sizes outline.sizes answer nothing;
    }

    module _ (links : List Link) where
      all_at : (contents : List (List ℕ)) → AreAll (words_of (over s.set s.found.offset s.found.raw (rows_of contents))).kept uuid links
          → AreAll (words_of (over (set_at it.registry.sets s.found.region) s.found.offset s.found.raw (rows_of contents))).kept uuid links
      all_at contents all = subst (λ (ms : List Mapping). AreAll (words_of (over ms s.found.offset s.found.raw (rows_of contents))).kept uuid links) it.set all

      -- there is no such sector
      pub writes_past : (count : ℕ) → ((words : List ℕ) → count ≡ sectors_of (map (state_at words) links)) → count ≤ sector → answer.saved ≡ None
          → ((contents : List (List ℕ)) → outcome_with answer contents ≡ refused_outcome (range_text count)) → WritesWith uuid sector value outline s links answer
      writes_past count is le nothing says = record {
        comes = λ contents have all small.
            let was : List ℕ = (words_of (over (set_at it.registry.sets s.found.region) s.found.offset s.found.raw (rows_of contents))).kept in
            refused_comes outline it.registry s.rest it.parts uuid s.found it.lies it.place sector value answer contents links (all_at contents all) (range_text (sectors_of (map (state_at was) links)))
            (past (map (state_at was) links) sector value (subst (λ (n : ℕ). n ≤ sector) (is was) le))
            (says contents ∙ ap (λ (n : ℕ). refused_outcome (range_text n)) (is was));
        sizes = no_sizes outline.sizes answer nothing;
      }

      module _ (which own : ℕ) (at : LiesInLink links sector which own) (link : Link) (here : (d : Link) → link ≡ get_or links which d) where
        -- the value has another length
        pub writes_misfit : length (bytes_for link.opened.info.layout.sector value) ≢ link.opened.info.layout.sector → answer.saved ≡ None
            → ((contents : List (List ℕ)) → outcome_with answer contents ≡ refused_outcome (length_text (length (bytes_for link.opened.info.layout.sector value)) link.opened.info.layout.sector)) → WritesWith uuid sector value outline s links answer
        writes_misfit other nothing says = record {
          comes = λ contents have all small.
              misfit_comes outline it.registry s.rest it.parts uuid s.found it.lies it.place sector value answer contents links (all_at contents all) which own at link here other (says contents);
          sizes = no_sizes outline.sizes answer nothing;
        }

        -- the sector has the value
        pub writes_runs : length (bytes_for link.opened.info.layout.sector value) ≡ link.opened.info.layout.sector
            → SavesRuns done_text it.registry s (move_runs links ++ lone_runs link own (bytes_for link.opened.info.layout.sector value)) answer → WritesWith uuid sector value outline s links answer
        writes_runs fit (saved, puts) = record {
          comes = λ contents have all small.
              written_comes outline it.registry s.rest it.parts uuid s.found it.lies it.place sector value answer contents links (all_at contents all) which own at link here
              (subst (λ (ms : List Mapping). HaveMapsOfBytes (bytes_by_place ms s.found.offset s.found.raw contents) links) it.set small) have fit saved puts;
          sizes = sizes_saved outline it.registry s.rest it.parts s.found it.lies (Runs (move_runs links ++ lone_runs link own (bytes_for link.opened.info.layout.sector value))) answer saved;
        }

      -- from the arenas that were read
      pub writes_from : (held : Option Images) → WritesWith uuid sector value outline s links answer → ForSome held (HasContents s.rest.sizes)
          → ((contents : List (List ℕ)) → Reveals held s.set contents → AreAll (words_of (over s.set s.found.offset s.found.raw (rows_of contents))).kept uuid links)
          → ((contents : List (List ℕ)) → Reveals held s.set contents → HaveMapsOfBytes (bytes_by_place s.set s.found.offset s.found.raw contents) links)
          → WritesFrom held uuid sector value outline answer
      writes_from held writes there all small = record {
        comes = λ source told.
            let cs = contents_in source (length outline.sizes) in
            let shown = found_reveals outline it.registry s.rest it.parts s.found it.lies s.set it.set held source told (there source told) in
            let have : HaveSizes outline.sizes cs = sym (subst (λ (r : OutlineRest). HasContents r.sizes source) it.parts.rest_is (there source told)) in
            writes.comes cs have (all cs shown) (small cs shown);
        sizes = writes.sizes;
      }
