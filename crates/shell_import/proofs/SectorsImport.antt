-- From an outline to what an import into one of its namespaces of sectors comes to.
use Rattle.std.proofs.Common.{◌≡◌, ◌≢◌, ℕ, ◌*◌, ◌%◌, ◌^◌, ◌≤◌, Bool, true, List, [], ◌∷◌, length, map, Option, Some, None, Result, Ok, Err, sym, ap, ◌∙◌, subst}
use Rattle.std.specs.Prelude.{MatchOption}
use Rattle.cut_words.specs.Words.{Words}
use Rattle.cut_words.specs.WordBytes.{words_in}
use Rattle.nfit_reader.specs.declared.table.Mapping.{Mapping}
use Rattle.power_cut.specs.Namespace.{over, words_of}
use Rattle.image_set.specs.declared.changing.OutlineRest.{OutlineRest}
use Rattle.image_set.specs.declared.outline.Outline.{Outline}
use Rattle.image_set.specs.Load.{ImageSet}
use Rattle.image_set.specs.Outline.{image_set_with}
use Rattle.image_set.specs.Patches.{patched_contents}
use Rattle.namespace_areas.specs.declared.found.Found.{Found}
use Rattle.namespace_areas.specs.Finding.{LiesInSet, set_at}
use Rattle.namespace_areas.specs.Seen.{words_of as area_words}
use Rattle.namespace_bytes.specs.Patching.{ArePatched, BytePatch, byte_patched, bytes_by_place}
use Rattle.namespace_map.specs.Commands.{is_sector}
use Rattle.namespace_map.specs.Namespaces.{lookup}
use Rattle.namespace_ops.specs.Counted.{namespaces_in}
use Rattle.namespace_ops.specs.Opening.{sets_of}
use Rattle.namespace_ops.specs.Registered.{Registered, state_of}
use Rattle.sector_namespaces.specs.View.{rows_of, view_words}
use Rattle.shell_changes.specs.declared.answer.Answer.{Answer}
use Rattle.shell_changes.specs.Answers.{outcome_with}
use Rattle.shell_changes.specs.Saved.{AreWholeSizes}
use Rattle.shell_changes.proofs.Remains.{no_sizes}
use Rattle.shell_export.specs.Export.{place_of}
use Rattle.shell_reports.specs.declared.status.Ending.TheVariants as ending
use Rattle.shell_reports.specs.Cut.{done_text}
use Rattle.shell_reports.specs.Faults.{refused_outcome}
use Rattle.shell_sectors.specs.Found.{SavesNamespace}
use Rattle.shell_sectors.specs.Write.{length_refusal, length_text}
use Rattle.shell_sectors.specs.Opening.{HaveSizes, IsOpenOutline}
use Rattle.shell_sectors.specs.Patched.{Patches, SavesPatched, patch_of}
use Rattle.shell_import.specs.Import.{ImportComes, OnMode}
use Rattle.shell_import.proofs.Loaded.{placed_comes}
use Rattle.shell_sectors.proofs.Outlined.{whole_rows}
use Rattle.std.specs.Prelude.{sum_by}
use Rattle.arena_open.specs.declared.state.ArenaState.{ArenaState}
use Rattle.arena_open.specs.declared.chain_refused.ChainRefused.{ChainRefused}
use Rattle.arena_open.specs.Chain.{Link, state_at}
use Rattle.namespace_bytes.specs.declared.new_bytes.NewBytes.{NewBytes}
use Rattle.namespace_bytes.specs.declared.new_bytes.NewBytes.TheVariants.{Sectors}
use Rattle.namespace_bytes.specs.Contents.{HasContents}
use Rattle.namespace_bytes.specs.Putting.{AreAll, link_bytes}
use Rattle.namespace_bytes.specs.SectorBytes.{HaveMapsOfBytes, sector_byte}
use Rattle.namespace_bytes.proofs.ByteWords.{changed, from_first}
use Rattle.namespace_bytes.proofs.SectorChain.{sector_contents}
use Rattle.namespace_bytes.proofs.Sizes.{sum_sizes}
use Rattle.sector_namespaces.specs.View.{opened_view}
use Rattle.shell_reports.specs.Causes.{opened_in}
use Rattle.shell_reports.specs.Faults.{arena_outcome}
use Rattle.shell_sectors.specs.Found.{OnArenas}
use Rattle.shell_import.specs.Import.{ImportsArenas}
use Rattle.std.specs.Option.{ForSome}
use Rattle.nvd_media.specs.Images.{Images}
use Rattle.image_set.specs.Outline.{HasContents as HasSizesOf, contents_in}
use Rattle.namespace_areas.specs.declared.area.Area.{Area}
use Rattle.namespace_areas.specs.Opening.{AreWhole}
use Rattle.power_cut.specs.Namespace.{ReachEnds}
use Rattle.shell_sectors.specs.Write.{length_text}
use Rattle.shell_import.specs.declared.sectors.SectorImport.{SectorImport}
use Rattle.shell_import.specs.Beginning.{Fills, ImportsFrom, IsSectorImport}
use Rattle.namespace_words.proofs.HeldBytes.{contents_long}
use Rattle.shell_sectors.proofs.Asked.{found_few, found_pages}
use Rattle.namespace_words.specs.Source.{Reveals}
use Rattle.shell_import.proofs.Lengths.{misfit, no_misfit, same_length}
use Rattle.shell_import.proofs.RawImport.{place_is}
use Rattle.shell_sectors.proofs.Patched.{saves, sizes_saved}

module _ (outline : Outline) (registry : Registered) (rest : OutlineRest) (o : IsOpenOutline outline registry rest) (uuid bytes : List ℕ) (found : Found) (lies : LiesInSet registry.sets found)
    (is : place_of registry.sets (lookup uuid (namespaces_in (state_of registry)).entries) ≡ Ok found) (sector : is_sector found.mode ≡ true) (answer : Answer) where
  abbrev set : List Mapping
  set = set_at registry.sets found.region

  module _ (contents : List (List ℕ)) where
    abbrev loaded : ImageSet
    loaded = image_set_with outline contents

    abbrev was : List ℕ
    was = (words_of (over set found.offset found.raw (rows_of contents))).kept

    was_is : was ≡ view_words (set_at (sets_of loaded.nfit) found.region) found (rows_of loaded.contents)
    unfolding view_words image_set_with
    was_is = λ i. (words_of (over (set_at (o.sets i) found.region) found.offset found.raw (rows_of contents))).kept

    opens_as : (r : Result (List ArenaState) ChainRefused) → opened_view was uuid ≡ r → opened_in loaded uuid found ≡ r
    opens_as r e = ap (λ (ws : List ℕ). opened_view ws uuid) (sym was_is) ∙ e

    on_arenas : (r : Result (List ArenaState) ChainRefused) → opened_view was uuid ≡ r → OnArenas (ImportsArenas uuid bytes loaded (outcome_with answer contents) found) uuid (outcome_with answer contents) r
        → OnMode (is_sector found.mode) uuid bytes loaded (outcome_with answer contents) found
    on_arenas r e on =
        subst (λ (b : Bool). OnMode b uuid bytes loaded (outcome_with answer contents) found) (sym sector)
        (subst (λ (x : Result (List ArenaState) ChainRefused). OnArenas (ImportsArenas uuid bytes loaded (outcome_with answer contents) found) uuid (outcome_with answer contents) x) (sym (opens_as r e)) on)

    -- the first arena that violates the format
    pub refused_comes : (refused : ChainRefused) → opened_view was uuid ≡ Err refused → outcome_with answer contents ≡ arena_outcome uuid refused → ImportComes uuid bytes loaded (outcome_with answer contents)
    refused_comes refused e says =
        placed_comes uuid bytes loaded (outcome_with answer contents) found (o.none contents) (sym (place_is outline registry rest o uuid bytes contents) ∙ is) (on_arenas (Err refused) e says)

    module _ (links : List Link) (all : AreAll was uuid links) (small : HaveMapsOfBytes (bytes_by_place set found.offset found.raw contents) links) where
      abbrev states : List ArenaState
      states = map (state_at was) links

      fits_as : (fit : Option (List ℕ)) → length_refusal (length bytes) (sum_by link_bytes links) ≡ fit
          → MatchOption fit (SavesNamespace found loaded (HasContents uuid bytes states (view_words (set_at (sets_of loaded.nfit) found.region) found (rows_of loaded.contents))) ending.Done done_text (outcome_with answer contents)) (λ refusal. outcome_with answer contents ≡ refused_outcome refusal)
          → ImportComes uuid bytes loaded (outcome_with answer contents)
      fits_as fit e due =
          placed_comes uuid bytes loaded (outcome_with answer contents) found (o.none contents) (sym (place_is outline registry rest o uuid bytes contents) ∙ is)
          (on_arenas (Ok states) all.read
          (subst (λ (f : Option (List ℕ)). MatchOption f (SavesNamespace found loaded (HasContents uuid bytes states (view_words (set_at (sets_of loaded.nfit) found.region) found (rows_of loaded.contents))) ending.Done done_text (outcome_with answer contents)) (λ refusal. outcome_with answer contents ≡ refused_outcome refusal))
          (sym e ∙ ap (length_refusal (length bytes)) (sym (sum_sizes was links))) due))

      -- bytes of another length
      pub misfit_comes : (refusal : List ℕ) → length_refusal (length bytes) (sum_by link_bytes links) ≡ Some refusal → outcome_with answer contents ≡ refused_outcome refusal → ImportComes uuid bytes loaded (outcome_with answer contents)
      misfit_comes refusal e says = fits_as (Some refusal) e says

      module _ (have : HaveSizes outline.sizes contents) (none : length_refusal (length bytes) (sum_by link_bytes links) ≡ None)
          (s : SavesPatched (patch_of registry.sets found (Sectors (record { links = links; bytes = bytes })) ∷ []) rest (map area_words registry.areas) answer)
          (puts : Patches registry.sets found (patch_of registry.sets found (Sectors (record { links = links; bytes = bytes })))) where
        abbrev row : List ℕ
        row = bytes_by_place set found.offset found.raw contents

        abbrev patch : BytePatch
        patch = patch_of registry.sets found (Sectors (record { links = links; bytes = bytes }))

        patched : ArePatched (patch_of registry.sets found (Sectors (record { links = links; bytes = bytes }))) contents
        patched = puts contents (whole_rows outline.sizes contents have (subst (λ (r : OutlineRest). AreWholeSizes r.sizes) o.rest_is o.sizes)) (o.reach contents have found.region lies.region)

        words_are : was ≡ words_in row
        words_are = ap (λ (w : Words). w.kept) patched.was

        now_are : (words_of (over set found.offset found.raw (rows_of (patched_contents (byte_patched patch) contents)))).kept ≡ words_in (changed (sector_byte links bytes) row)
        now_are = ap (λ (w : Words). w.kept) patched.words ∙ ap words_in (from_first (sector_byte links bytes) row)

        filled : HasContents uuid bytes (map (state_at (words_in row)) links) (words_in row) (words_in (changed (sector_byte links bytes) row))
        filled = sector_contents links uuid bytes row (subst (λ (ws : List ℕ). AreAll ws uuid links) words_are all) (same_length (length bytes) (sum_by link_bytes links) none) small

        has : HasContents uuid bytes states was (words_of (over set found.offset found.raw (rows_of (patched_contents (byte_patched patch) contents)))).kept
        has =
            subst (HasContents uuid bytes states was) (sym now_are)
            (subst (λ (ws : List ℕ). HasContents uuid bytes (map (state_at ws) links) ws (words_in (changed (sector_byte links bytes) row))) (sym words_are) filled)

        pub filled_comes : ImportComes uuid bytes loaded (outcome_with answer contents)
        filled_comes =
            fits_as None none
            (subst (λ (ws : List ℕ). SavesNamespace found loaded (HasContents uuid bytes states ws) ending.Done done_text (outcome_with answer contents)) was_is
            (saves outline registry rest o found lies (Sectors (record { links = links; bytes = bytes })) answer s contents have puts (HasContents uuid bytes states was) has))

-- ---- as the bytes are put in

module _ (uuid bytes : List ℕ) (outline : Outline) (s : SectorImport) (it : IsSectorImport uuid bytes outline s) where
  abbrev parts : IsOpenOutline outline it.registry s.rest
  parts = it.placed.parts

  sizes_are : s.rest.sizes ≡ outline.sizes
  sizes_are = ap (λ (r : OutlineRest). r.sizes) parts.rest_is

  pub whole_pages : length s.set * s.found.raw % 4096 ≡ 0
  whole_pages = found_pages outline it.registry s.rest parts s.found it.placed.lies s.set it.set

  -- it has no more bytes than all contents may have
  pub few_bytes : length s.set * s.found.raw ≤ 2 ^ 55
  few_bytes = found_few outline it.registry s.rest parts s.found it.placed.lies s.set it.set

  pub areas_whole : AreWhole (map area_words s.areas.items)
  areas_whole =
      subst (λ (areas : List Area). AreWhole (map area_words areas)) (sym it.areas)
      (subst (λ (labels : List (Option Words)). AreWhole labels) (sym parts.labels) parts.settled)

  -- the contents of a source
  module _ (held : Option Images) (source : Images) (told : held ≡ Some source) (has : HasSizesOf s.rest.sizes source) where
    abbrev contents : List (List ℕ)
    contents = contents_in source (length outline.sizes)

    pub have : HaveSizes outline.sizes (contents_in source (length outline.sizes))
    have = sym (subst (λ (sizes : List ℕ). HasSizesOf sizes source) sizes_are has)

    pub reached : ReachEnds s.set (rows_of (contents_in source (length outline.sizes)))
    reached = subst (λ (ms : List Mapping). ReachEnds ms (rows_of (contents_in source (length outline.sizes)))) (sym it.set) (parts.reach (contents_in source (length outline.sizes)) have s.found.region it.placed.lies.region)

    pub reveals : Reveals held s.set (contents_in source (length outline.sizes))
    reveals = record {
      source = source;
      told = told;
      are = ap (contents_in source) (sym (contents_long source (length outline.sizes)));
      reach = reached;
    }

  module _ (answer : Answer) where
    -- an arena that isn't opened
    pub imports_refused : (held : Option Images) (refused : ChainRefused) → answer.saved ≡ None → ((contents : List (List ℕ)) → outcome_with answer contents ≡ arena_outcome uuid refused) → ForSome held (HasSizesOf s.rest.sizes)
        → ((contents : List (List ℕ)) → Reveals held s.set contents → opened_view (words_of (over s.set s.found.offset s.found.raw (rows_of contents))).kept uuid ≡ Err refused) → ImportsFrom held uuid bytes outline answer
    imports_refused held refused nothing says there opens = record {
      comes = λ source told.
          let cs = contents_in source (length outline.sizes) in
          refused_comes outline it.registry s.rest parts uuid bytes s.found it.placed.lies it.placed.place it.sector answer cs refused
          (subst (λ (ms : List Mapping). opened_view (words_of (over ms s.found.offset s.found.raw (rows_of cs))).kept uuid ≡ Err refused) it.set (opens cs (reveals held source told (there source told)))) (says cs);
      sizes = no_sizes outline.sizes answer nothing;
    }

    module _ (links : List Link) where
      -- other bytes than the sectors have
      pub misfilled : (had : ℕ) → had ≡ sum_by link_bytes links → length bytes ≢ had → answer.saved ≡ None → ((contents : List (List ℕ)) → outcome_with answer contents ≡ refused_outcome (length_text (length bytes) had))
          → Fills uuid bytes outline s links answer
      misfilled had size other nothing says = record {
        comes = λ contents have all small.
            misfit_comes outline it.registry s.rest parts uuid bytes s.found it.placed.lies it.placed.place it.sector answer contents links
            (subst (λ (ms : List Mapping). AreAll (words_of (over ms s.found.offset s.found.raw (rows_of contents))).kept uuid links) it.set all)
            (subst (λ (ms : List Mapping). HaveMapsOfBytes (bytes_by_place ms s.found.offset s.found.raw contents) links) it.set small)
            (length_text (length bytes) had) (misfit (length bytes) had (sum_by link_bytes links) size other) (says contents);
        sizes = no_sizes outline.sizes answer nothing;
      }

      abbrev pub new : NewBytes
      new = Sectors (record { links = links; bytes = bytes })

      pub all_filled : length bytes ≡ sum_by link_bytes links → SavesPatched (patch_of it.registry.sets s.found new ∷ []) s.rest (map area_words it.registry.areas) answer → Patches it.registry.sets s.found (patch_of it.registry.sets s.found new)
          → Fills uuid bytes outline s links answer
      all_filled long saved puts = record {
        comes = λ contents have all small.
            filled_comes outline it.registry s.rest parts uuid bytes s.found it.placed.lies it.placed.place it.sector answer contents links
            (subst (λ (ms : List Mapping). AreAll (words_of (over ms s.found.offset s.found.raw (rows_of contents))).kept uuid links) it.set all)
            (subst (λ (ms : List Mapping). HaveMapsOfBytes (bytes_by_place ms s.found.offset s.found.raw contents) links) it.set small)
            have (no_misfit (length bytes) (sum_by link_bytes links) long) saved puts;
        sizes = sizes_saved outline it.registry s.rest parts s.found it.placed.lies new answer saved;
      }

      -- from the arenas that were read
      pub imports_filled : (held : Option Images) → Fills uuid bytes outline s links answer → ForSome held (HasSizesOf s.rest.sizes)
          → ((contents : List (List ℕ)) → Reveals held s.set contents → AreAll (words_of (over s.set s.found.offset s.found.raw (rows_of contents))).kept uuid links)
          → ((contents : List (List ℕ)) → Reveals held s.set contents → HaveMapsOfBytes (bytes_by_place s.set s.found.offset s.found.raw contents) links)
          → ImportsFrom held uuid bytes outline answer
      imports_filled held fills there all small = record {
        comes = λ source told.
            let cs = contents_in source (length outline.sizes) in
            let shown = reveals held source told (there source told) in
            fills.comes cs (have held source told (there source told)) (all cs shown) (small cs shown);
        sizes = fills.sizes;
      }
