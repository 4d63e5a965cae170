-- From an outline to what an import into one of its raw namespaces comes to.
use Rattle.std.proofs.Common.{◌≡◌, ℕ, ◌+◌, ◌*◌, ◌/◌, ◌%◌, Bool, false, List, [], ◌∷◌, length, map, Option, Some, None, Result, Ok, Err, refl, sym, ap, ◌∙◌, subst, arith, inl, inr}
use Rattle.std.specs.Prelude.{MatchOption}
use Rattle.std.proofs.lemmas.Nat.{div-add-mod', mod-mul-add}
use Rattle.cut_words.specs.Words.{Words}
use Rattle.cut_words.specs.WordBytes.{words_in}
use Rattle.nfit_reader.specs.declared.table.Mapping.{Mapping}
use Rattle.interleave.specs.Places.{unit_of}
use Rattle.power_cut.specs.Namespace.{over, words_of}
use Rattle.image_set.specs.declared.changing.OutlineRest.{OutlineRest}
use Rattle.image_set.specs.declared.outline.Outline.{Outline}
use Rattle.image_set.specs.Load.{ImageSet}
use Rattle.image_set.specs.Outline.{image_set_with}
use Rattle.namespace_areas.specs.declared.found.Found.{Found}
use Rattle.namespace_areas.specs.Finding.{LiesInSet, set_at}
use Rattle.namespace_areas.specs.Seen.{words_of as area_words}
use Rattle.namespace_bytes.specs.declared.new_bytes.NewBytes.TheVariants.{Raw}
use Rattle.namespace_bytes.specs.Patching.{BytePatch}
use Rattle.namespace_bytes.proofs.WholePatch.{raw_words}
use Rattle.namespace_map.specs.declared.refused.OpRefused.{OpRefused}
use Rattle.namespace_map.specs.Commands.{is_sector}
use Rattle.namespace_map.specs.Namespaces.{lookup}
use Rattle.namespace_ops.specs.declared.registry.OpenFault.{OpenFault}
use Rattle.namespace_ops.specs.Counted.{namespaces_in}
use Rattle.namespace_ops.specs.Opening.{sets_of}
use Rattle.namespace_ops.specs.Registered.{Registered, state_of}
use Rattle.sector_namespaces.specs.View.{rows_of, view_words}
use Rattle.sector_namespaces.proofs.Views.{length_view}
use Rattle.shell_changes.specs.declared.answer.Answer.{Answer}
use Rattle.shell_changes.specs.Answers.{HasSizes, outcome_with}
use Rattle.shell_changes.specs.Saved.{AreWholeSizes}
use Rattle.shell_changes.proofs.Remains.{no_sizes}
use Rattle.shell_export.specs.Export.{place_of}
use Rattle.shell_reports.specs.declared.status.Ending.TheVariants as ending
use Rattle.shell_reports.specs.Causes.{fault_in}
use Rattle.shell_reports.specs.Cut.{done_text}
use Rattle.shell_reports.specs.Faults.{refusal_text, refused_outcome}
use Rattle.shell_reports.specs.List.{open_outcome}
use Rattle.shell_sectors.specs.Found.{SavesNamespace}
use Rattle.shell_sectors.specs.Write.{length_refusal}
use Rattle.shell_sectors.specs.Opening.{HaveSizes, IsOpenOutline}
use Rattle.shell_sectors.specs.Patched.{Patches, SavesPatched, patch_of}
use Rattle.shell_import.specs.Beginning.{Imports, PutsRaw}
use Rattle.shell_import.specs.Import.{ImportFits, OnMode, place_in}
use Rattle.shell_import.proofs.Loaded.{placed_comes, unplaced_comes}
use Rattle.shell_sectors.proofs.Outlined.{whole_rows}
use Rattle.shell_import.proofs.Lengths.{same_length}
use Rattle.shell_sectors.proofs.Patched.{saves, sizes_saved}

-- ---- refusals

-- the table or the labels have a fault
pub faulty : (outline : Outline) (uuid bytes : List ℕ) (fault : OpenFault) (answer : Answer) → ((contents : List (List ℕ)) → fault_in (image_set_with outline contents) ≡ Some fault) → answer.saved ≡ None
    → ((contents : List (List ℕ)) → outcome_with answer contents ≡ open_outcome fault) → Imports uuid bytes outline answer
faulty outline uuid bytes fault answer is nothing says = record {
  comes = λ contents have. unplaced_comes uuid bytes (image_set_with outline contents) (outcome_with answer contents) (inl (fault, is contents, says contents));
  sizes = no_sizes outline.sizes answer nothing;
}

module _ (outline : Outline) (registry : Registered) (rest : OutlineRest) (o : IsOpenOutline outline registry rest) (uuid bytes : List ℕ) where
  abbrev pub place : Result Found OpRefused
  place = place_of registry.sets (lookup uuid (namespaces_in (state_of registry)).entries)

  pub place_is : (contents : List (List ℕ)) → place ≡ place_in (image_set_with outline contents) uuid
  unfolding image_set_with
  place_is contents = λ i. place_of (o.sets i) (o.entry uuid contents i)

  -- there is no such namespace
  pub unplaced : (refusal : OpRefused) (answer : Answer) → place ≡ Err refusal → answer.saved ≡ None → ((contents : List (List ℕ)) → outcome_with answer contents ≡ refused_outcome (refusal_text refusal))
      → Imports uuid bytes outline answer
  unplaced refusal answer is nothing says = record {
    comes = λ contents have.
        unplaced_comes uuid bytes (image_set_with outline contents) (outcome_with answer contents) (inr (o.none contents, (refusal, sym (place_is contents) ∙ is, says contents)));
    sizes = no_sizes outline.sizes answer nothing;
  }

  -- ---- a raw one

  -- whole units are whole words
  eights_of : (unit raw ways : ℕ) → unit % 8 ≡ 0 → raw % unit ≡ 0 → ways * raw ≡ 8 * (ways * raw / 8)
  eights_of unit raw ways words units =
      let unit_is : unit ≡ 8 * (unit / 8) = omega (arith, words) in
      let raw_is : raw ≡ raw / unit * unit = omega (arith, div-add-mod' raw unit, units) in
      let raw_words : raw ≡ 8 * (raw / unit * (unit / 8)) = raw_is ∙ ap (λ (u : ℕ). raw / unit * u) unit_is ∙ omega arith in
      let product : ways * raw ≡ ways * (raw / unit * (unit / 8)) * 8 + 0 = ap (λ (r : ℕ). ways * r) raw_words ∙ omega arith in
      let none : ways * raw % 8 ≡ 0 = ap (λ (n : ℕ). n % 8) product ∙ mod-mul-add (ways * (raw / unit * (unit / 8))) 8 0 (omega arith) in
      omega (arith, none)

  module _ (found : Found) (lies : LiesInSet registry.sets found) (words : unit_of (set_at registry.sets found.region) % 8 ≡ 0) (answer : Answer) where
    abbrev set : List Mapping
    set = set_at registry.sets found.region

    abbrev patch : BytePatch
    patch = patch_of registry.sets found (Raw bytes)

    module _ (contents : List (List ℕ)) (have : HaveSizes outline.sizes contents) where
      abbrev loaded : ImageSet
      loaded = image_set_with outline contents

      had_is : length set * found.raw ≡ 8 * length (view_words (set_at (sets_of loaded.nfit) found.region) found (rows_of loaded.contents))
      unfolding view_words image_set_with
      had_is =
          eights_of (unit_of set) found.raw (length set) words lies.to
          ∙ ap (λ (n : ℕ). 8 * n) (sym (length_view (over set found.offset found.raw (rows_of contents))))
          ∙ ap (λ (sets : List (List Mapping)). 8 * length (words_of (over (set_at sets found.region) found.offset found.raw (rows_of contents))).kept) o.sets

      fits : (fit : Option (List ℕ)) → length_refusal (length bytes) (length set * found.raw) ≡ fit
          → MatchOption fit (SavesPatched (patch ∷ []) rest (map area_words registry.areas) answer × Patches registry.sets found patch) (λ refusal. (answer.saved ≡ None) × ((cs : List (List ℕ)) → outcome_with answer cs ≡ refused_outcome refusal))
          → ImportFits found loaded (length bytes) (8 * length (view_words (set_at (sets_of loaded.nfit) found.region) found (rows_of loaded.contents))) (λ now. now ≡ words_in bytes) (outcome_with answer contents)
      fits fit is due = subst Fits (sym is ∙ ap (length_refusal (length bytes)) had_is) (by fit is due)
        where
          Fits : Option (List ℕ) → Type 0
          Fits f = MatchOption f (SavesNamespace found loaded (λ now. now ≡ words_in bytes) ending.Done done_text (outcome_with answer contents)) (λ refusal. outcome_with answer contents ≡ refused_outcome refusal)

          by : (f : Option (List ℕ)) → length_refusal (length bytes) (length set * found.raw) ≡ f
              → MatchOption f (SavesPatched (patch ∷ []) rest (map area_words registry.areas) answer × Patches registry.sets found patch) (λ refusal. (answer.saved ≡ None) × ((cs : List (List ℕ)) → outcome_with answer cs ≡ refused_outcome refusal))
              → Fits f
          by None fit (s, puts) =
              saves outline registry rest o found lies (Raw bytes) answer s contents have puts (λ now. now ≡ words_in bytes)
              (ap (λ (w : Words). w.kept) (puts contents (whole_rows outline.sizes contents have (subst (λ (r : OutlineRest). AreWholeSizes r.sizes) o.rest_is o.sizes)) (o.reach contents have found.region lies.region)).words
              ∙ ap words_in (raw_words set found.offset found.raw bytes contents (same_length (length bytes) (length set * found.raw) fit)))
          by (Some refusal) fit (nothing, says) = says contents

    sizes_kept : (fit : Option (List ℕ))
        → MatchOption fit (SavesPatched (patch ∷ []) rest (map area_words registry.areas) answer × Patches registry.sets found patch) (λ refusal. (answer.saved ≡ None) × ((cs : List (List ℕ)) → outcome_with answer cs ≡ refused_outcome refusal))
        → HasSizes outline.sizes answer
    sizes_kept None (s, puts) = sizes_saved outline registry rest o found lies (Raw bytes) answer s
    sizes_kept (Some refusal) (nothing, says) = no_sizes outline.sizes answer nothing

    -- the bytes are put in, or they are refused
    pub raw_imports : place ≡ Ok found → is_sector found.mode ≡ false → PutsRaw registry found rest bytes answer → Imports uuid bytes outline answer
    raw_imports is raw puts = record {
      comes = λ contents have.
          placed_comes uuid bytes (image_set_with outline contents) (outcome_with answer contents) found (o.none contents) (sym (place_is contents) ∙ is)
          (subst (λ (b : Bool). OnMode b uuid bytes (image_set_with outline contents) (outcome_with answer contents) found) (sym raw) (fits contents have (length_refusal (length bytes) (length set * found.raw)) refl puts));
      sizes = sizes_kept (length_refusal (length bytes) (length set * found.raw)) puts;
    }
