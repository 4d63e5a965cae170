-- From an outline to what a check of one of its namespaces comes to.
use Rattle.std.proofs.Common.{◌≡◌, ℕ, Bool, true, false, List, [], length, map, Option, None, Result, Ok, Err, sym, ap, ◌∙◌, subst}
use Rattle.std.specs.Prelude.{MatchBool, MatchOption}
use Rattle.std.specs.Option.{ForSome}
use Rattle.nvd_media.specs.Images.{Images}
use Rattle.bad_ranges.specs.Bad.{bad_words}
use Rattle.nfit_reader.specs.declared.table.Mapping.{Mapping}
use Rattle.power_cut.specs.Namespace.{Namespace, over, words_of}
use Rattle.image_set.specs.declared.changing.OutlineRest.{OutlineRest}
use Rattle.image_set.specs.declared.outline.Outline.{Outline}
use Rattle.image_set.specs.Changed.{objects_of}
use Rattle.image_set.specs.Load.{ImageSet}
use Rattle.image_set.specs.Outline.{HasContents, contents_in, image_set_with}
use Rattle.namespace_areas.specs.declared.found.Found.{Found}
use Rattle.namespace_areas.specs.Finding.{found_of, set_at}
use Rattle.namespace_areas.specs.Seen.{words_of as area_words}
use Rattle.namespace_map.specs.declared.refused.OpRefused.{OpRefused}
use Rattle.namespace_map.specs.Namespaces.{lookup}
use Rattle.namespace_ops.specs.declared.registry.OpenFault.{OpenFault}
use Rattle.namespace_ops.specs.Counted.{namespaces_in}
use Rattle.namespace_ops.specs.Registered.{Registered, state_of}
use Rattle.cut_words.specs.Words.{Words}
use Rattle.cut_words.specs.WordBytes.{words_in}
use Rattle.image_set.specs.Patches.{patched_contents}
use Rattle.namespace_bytes.specs.declared.new_bytes.NewBytes.TheVariants.{Runs}
use Rattle.namespace_bytes.specs.declared.runs.Run.{Run}
use Rattle.namespace_bytes.specs.Patching.{ArePatched, byte_patched, bytes_by_place}
use Rattle.namespace_words.specs.Source.{Reveals}
use Rattle.sector_namespaces.specs.View.{rows_of}
use Rattle.shell_changes.specs.declared.answer.Answer.{Answer}
use Rattle.shell_changes.specs.Answers.{outcome_with}
use Rattle.shell_changes.proofs.Remains.{no_sizes}
use Rattle.shell_reports.specs.declared.status.Ending.TheVariants as ending
use Rattle.shell_reports.specs.Causes.{fault_in, found_in}
use Rattle.shell_reports.specs.Faults.{refusal_text, refused_outcome}
use Rattle.shell_reports.specs.List.{open_outcome}
use Rattle.shell_reports.specs.Outcome.{Outcome}
use Rattle.shell_reports.specs.Saved.{IsSaving}
use Rattle.shell_sectors.specs.declared.write.SectorPlace.{SectorPlace}
use Rattle.shell_sectors.specs.Found.{SavesNamespace, place_of}
use Rattle.shell_sectors.specs.Opening.{HaveSizes, IsOpenOutline}
use Rattle.shell_sectors.specs.Patched.{Patches, patch_of}
use Rattle.shell_sectors.specs.Write.{loaded_words}
use Rattle.shell_sectors.specs.Writing.{IsSectorPlace, SavesRuns}
use Rattle.shell_sectors.proofs.Patched.{patched, saves as saves_patched, sizes_saved as sizes_patched}
use Rattle.shell_sectors.proofs.Asked.{found_reveals}
use Rattle.arena_repair.specs.Chain.{AreRepaired, repaired_all, reports_of}
use Rattle.arena_repair.proofs.Chains.{repair_mends_all}
use Rattle.shell_check.specs.Comes.{ChecksFrom, CheckComes, OnNamed, bad_in, text_for}
use Rattle.shell_check.specs.Reading.{RepairsAll}
use Rattle.shell_check.specs.Saving.{PrintsCopied}
use Rattle.shell_check.specs.Text.{check_text}
use Rattle.shell_check.proofs.Saved.{saves, sizes_saved}

-- ---- the relation

module _ (uuid : List ℕ) (repair : Bool) (loaded : ImageSet) (outcome : Outcome) where
  abbrev OnFault : Option OpenFault → Type 0
  OnFault f = MatchOption f (OnNamed uuid repair loaded outcome (found_in loaded uuid)) (λ fault. outcome ≡ open_outcome fault)

  named_comes : (r : Result Found OpRefused) → fault_in loaded ≡ None → found_in loaded uuid ≡ r → OnNamed uuid repair loaded outcome r → CheckComes uuid repair loaded outcome
  named_comes r none is on =
      subst (λ (f : Option OpenFault). OnFault f) (sym none) (subst (λ (found : Result Found OpRefused). OnNamed uuid repair loaded outcome found) (sym is) on)

-- ---- from an outline

module _ (outline : Outline) (registry : Registered) (rest : OutlineRest) (o : IsOpenOutline outline registry rest) (uuid : List ℕ) where
  pub found_is : (contents : List (List ℕ)) → found_of registry.sets (lookup uuid (namespaces_in (state_of registry)).entries) ≡ found_in (image_set_with outline contents) uuid
  unfolding image_set_with
  found_is contents = λ i. found_of (o.sets i) (o.entry uuid contents i)

  -- there is no such namespace
  pub unfound : (held : Option Images) (repair : Bool) (refusal : OpRefused) (answer : Answer) → Err refusal ≡ found_of registry.sets (lookup uuid (namespaces_in (state_of registry)).entries) → answer.saved ≡ None
      → ((contents : List (List ℕ)) → outcome_with answer contents ≡ refused_outcome (refusal_text refusal)) → ChecksFrom held uuid repair outline answer
  unfound held repair refusal answer is nothing says = record {
    comes = λ source told.
        let cs = contents_in source (length outline.sizes) in
        named_comes uuid repair (image_set_with outline cs) (outcome_with answer cs) (Err refusal) (o.none cs) (sym (is ∙ found_is cs)) (says cs);
    sizes = no_sizes outline.sizes answer nothing;
  }

  pub place_is : (set : List Mapping) (found : Found) (contents : List (List ℕ)) → set ≡ set_at registry.sets found.region
      → place_of (image_set_with outline contents) found (rows_of contents) ≡ over set found.offset found.raw (rows_of contents)
  unfolding image_set_with
  place_is set found contents is = λ i. over ((ap (λ (sets : List (List Mapping)). set_at sets found.region) (sym o.sets) ∙ sym is) i) found.offset found.raw (rows_of contents)

-- what is said of a namespace that was found
abbrev pub Says : SectorPlace → List (List ℕ) → (Namespace → Type 0) → Type 0
Says s contents P = (e : Namespace) → e ≡ over s.set s.found.offset s.found.raw (rows_of contents) → P e

module _ (uuid : List ℕ) (repair : Bool) (outline : Outline) (s : SectorPlace) (it : IsSectorPlace uuid outline s) (text : List ℕ) (answer : Answer) where
  bad_is : (contents : List (List ℕ)) → bad_words (place_of (image_set_with outline contents) s.found (rows_of contents)) s.rest.bad ≡ bad_in (image_set_with outline contents) s.found
  unfolding image_set_with
  bad_is contents = ap (λ (r : OutlineRest). bad_words (place_of (image_set_with outline contents) s.found (rows_of contents)) r.bad) it.parts.rest_is

  text_is : (contents : List (List ℕ)) → Says s contents (λ e. text ≡ check_text repair (reports_of (bad_words e s.rest.bad) (words_of e).kept uuid))
      → text ≡ text_for (image_set_with outline contents) uuid repair s.found
  unfolding image_set_with
  text_is contents says =
      let e : Namespace = place_of (image_set_with outline contents) s.found (rows_of contents) in
      says e (place_is outline it.registry s.rest it.parts uuid s.set s.found contents it.set)
      ∙ ap (λ (bad : ℕ → Bool). check_text repair (reports_of bad (words_of e).kept uuid)) (bad_is contents)

  -- the arenas were checked, and something was saved
  checks_by : (held : Option Images) → ForSome held (HasContents s.rest.sizes)
      → ((contents : List (List ℕ)) → Reveals held s.set contents → HaveSizes outline.sizes contents → OnNamed uuid repair (image_set_with outline contents) (outcome_with answer contents) (Ok s.found))
      → ForSome held (λ source. CheckComes uuid repair (image_set_with outline (contents_in source (length outline.sizes))) (outcome_with answer (contents_in source (length outline.sizes))))
  checks_by held there on = λ source told.
      let cs = contents_in source (length outline.sizes) in
      let shown = found_reveals outline it.registry s.rest it.parts s.found it.lies s.set it.set held source told (there source told) in
      let have : HaveSizes outline.sizes cs = sym (subst (λ (r : OutlineRest). HasContents r.sizes source) it.parts.rest_is (there source told)) in
      named_comes uuid repair (image_set_with outline cs) (outcome_with answer cs) (Ok s.found) (it.parts.none cs) (sym (found_is outline it.registry s.rest it.parts uuid cs) ∙ it.place) (on cs shown have)

-- the set is saved as it was loaded
pub checks_from : (uuid : List ℕ) (outline : Outline) (s : SectorPlace) (it : IsSectorPlace uuid outline s) (text : List ℕ) (answer : Answer) → PrintsCopied text s.rest (map area_words it.registry.areas) answer
    → (held : Option Images) → ForSome held (HasContents s.rest.sizes)
    → ((contents : List (List ℕ)) → Reveals held s.set contents → Says s contents (λ e. text ≡ check_text false (reports_of (bad_words e s.rest.bad) (words_of e).kept uuid)))
    → ChecksFrom held uuid false outline answer
checks_from uuid outline s it text answer saved held there says = record {
  comes = checks_by uuid false outline s it text answer held there (λ contents shown have.
      subst (λ (t : List ℕ). IsSaving ending.Done t (objects_of (image_set_with outline contents)) (outcome_with answer contents)) (text_is uuid false outline s it text answer contents (says contents shown))
      (saves outline it.registry s.rest it.parts answer saved contents));
  sizes = sizes_saved outline it.registry s.rest it.parts answer saved;
}

-- ---- repaired

module _ (uuid : List ℕ) (outline : Outline) (s : SectorPlace) (it : IsSectorPlace uuid outline s) (runs : List Run) (puts : Patches it.registry.sets s.found (patch_of it.registry.sets s.found (Runs runs)))
    (contents : List (List ℕ)) (p : ArePatched (patch_of it.registry.sets s.found (Runs runs)) contents) where
  abbrev row : List ℕ
  row = bytes_by_place s.set s.found.offset s.found.raw contents

  abbrev row_at : List ℕ
  row_at = bytes_by_place (set_at it.registry.sets s.found.region) s.found.offset s.found.raw contents

  abbrev now : List ℕ
  now = (words_of (over (set_at it.registry.sets s.found.region) s.found.offset s.found.raw (rows_of (patched_contents (byte_patched (patch_of it.registry.sets s.found (Runs runs))) contents)))).kept

  row_is : row_at ≡ row
  row_is = ap (λ (set : List Mapping). bytes_by_place set s.found.offset s.found.raw contents) (sym it.set)

  was_is : loaded_words (image_set_with outline contents) s.found ≡ words_in row
  unfolding image_set_with
  was_is =
      ap (λ (e : Namespace). (words_of e).kept) (place_is outline it.registry s.rest it.parts uuid s.set s.found contents it.set)
      ∙ ap (λ (set : List Mapping). (words_of (over set s.found.offset s.found.raw (rows_of contents))).kept) it.set
      ∙ ap (λ (w : Words). w.kept) p.was ∙ ap words_in row_is

  now_is : (bad : ℕ → Bool) → RepairsAll bad uuid row runs → now ≡ repaired_all bad (words_in row) uuid
  now_is bad repairs =
      ap (λ (w : Words). w.kept) p.words
      ∙ subst (λ (r : List ℕ). RepairsAll bad uuid r runs) (sym row_is) repairs
      ∙ ap (λ (r : List ℕ). repaired_all bad (words_in r) uuid) row_is

  repaired_like : (bad : ℕ → Bool) → RepairsAll bad uuid row runs → AreRepaired bad uuid (loaded_words (image_set_with outline contents) s.found) now
  repaired_like bad repairs =
      subst (λ (was : List ℕ). AreRepaired bad uuid was now) (sym was_is)
      (subst (λ (ws : List ℕ). AreRepaired bad uuid (words_in row) ws) (sym (now_is bad repairs)) (repair_mends_all bad (words_in row) uuid))

-- the namespace's arenas are repaired
pub repairs_from : (uuid : List ℕ) (outline : Outline) (s : SectorPlace) (it : IsSectorPlace uuid outline s) (text : List ℕ) (runs : List Run) (answer : Answer) → SavesRuns text it.registry s runs answer
    → (held : Option Images) → ForSome held (HasContents s.rest.sizes)
    → ((contents : List (List ℕ)) → Reveals held s.set contents → Says s contents (λ e. text ≡ check_text true (reports_of (bad_words e s.rest.bad) (words_of e).kept uuid)))
    → ((contents : List (List ℕ)) → Reveals held s.set contents → Says s contents (λ e. RepairsAll (bad_words e s.rest.bad) uuid (bytes_by_place s.set s.found.offset s.found.raw contents) runs))
    → ChecksFrom held uuid true outline answer
repairs_from uuid outline s it text runs answer (saved, puts) held there says repairs = record {
  comes = checks_by uuid true outline s it text answer held there on;
  sizes = sizes_patched outline it.registry s.rest it.parts s.found it.lies (Runs runs) answer saved;
}
  where
    on : (contents : List (List ℕ)) → Reveals held s.set contents → HaveSizes outline.sizes contents → OnNamed uuid true (image_set_with outline contents) (outcome_with answer contents) (Ok s.found)
    on contents shown have =
        let loaded = image_set_with outline contents in
        let place = place_is outline it.registry s.rest it.parts uuid s.set s.found contents it.set in
        let all : RepairsAll (bad_in loaded s.found) uuid (bytes_by_place s.set s.found.offset s.found.raw contents) runs =
        subst (λ (bad : ℕ → Bool). RepairsAll bad uuid (bytes_by_place s.set s.found.offset s.found.raw contents) runs) (bad_is uuid true outline s it text answer contents)
        (repairs contents shown (place_of loaded s.found (rows_of contents)) place) in
        subst (λ (t : List ℕ). SavesNamespace s.found loaded (AreRepaired (bad_in loaded s.found) uuid (loaded_words loaded s.found)) ending.Done t (outcome_with answer contents)) (text_is uuid true outline s it text answer contents (says contents shown))
        (saves_patched outline it.registry s.rest it.parts s.found it.lies (Runs runs) answer saved contents have puts (AreRepaired (bad_in loaded s.found) uuid (loaded_words loaded s.found))
        (repaired_like uuid outline s it runs puts contents (patched outline it.registry s.rest it.parts s.found it.lies (Runs runs) answer saved contents have puts) (bad_in loaded s.found) all))

-- either of them
pub answered_from : (repair : Bool) (uuid : List ℕ) (outline : Outline) (s : SectorPlace) (it : IsSectorPlace uuid outline s) (text : List ℕ) (runs : List Run) (answer : Answer)
    → MatchBool repair (SavesRuns text it.registry s runs answer) (PrintsCopied text s.rest (map area_words it.registry.areas) answer) → (held : Option Images) → ForSome held (HasContents s.rest.sizes)
    → ((contents : List (List ℕ)) → Reveals held s.set contents → Says s contents (λ e. text ≡ check_text repair (reports_of (bad_words e s.rest.bad) (words_of e).kept uuid)))
    → ((contents : List (List ℕ)) → Reveals held s.set contents
    → Says s contents (λ e. MatchBool repair (RepairsAll (bad_words e s.rest.bad) uuid (bytes_by_place s.set s.found.offset s.found.raw contents) runs) (runs ≡ [])))
    → ChecksFrom held uuid repair outline answer
answered_from true uuid outline s it text runs answer saved held there says repairs = repairs_from uuid outline s it text runs answer saved held there says repairs
answered_from false uuid outline s it text runs answer saved held there says none = checks_from uuid outline s it text answer saved held there says
