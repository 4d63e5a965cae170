-- From an outline whose labels are read to the outcome of `export` on its set.
use Rattle.std.proofs.Common.{◌≡◌, ℕ, Bool, List, Option, Some, Result, Ok, Err, ap, sym, ◌∙◌}
use Rattle.power_cut.specs.Namespace.{over, words_of}
use Rattle.image_set.specs.declared.changing.OutlineRest.{OutlineRest}
use Rattle.image_set.specs.declared.outline.Outline.{Outline}
use Rattle.image_set.specs.Outline.{image_set_with}
use Rattle.namespace_areas.specs.declared.found.Found.{Found}
use Rattle.namespace_areas.specs.Finding.{set_at}
use Rattle.namespace_map.specs.declared.refused.OpRefused.{OpRefused}
use Rattle.namespace_map.specs.Namespaces.{entry_at, lookup}
use Rattle.namespace_ops.specs.declared.registry.OpenFault.{OpenFault}
use Rattle.namespace_ops.specs.Counted.{namespaces_in}
use Rattle.namespace_ops.specs.Opening.{sets_of}
use Rattle.namespace_ops.specs.Registered.{Registered, state_of}
use Rattle.sector_namespaces.specs.View.{rows_of, view_words}
use Rattle.shell_reports.specs.Causes.{fault_in}
use Rattle.shell_reports.specs.Faults.{refusal_text, refused_outcome}
use Rattle.shell_reports.specs.List.{labels_in_set, open_outcome}
use Rattle.shell_reports.specs.Outcome.{Outcome}
use Rattle.shell_reports.specs.Sectors.{unless_fault}
use Rattle.shell_sectors.specs.Opening.{IsOpenOutline}
use Rattle.shell_export.specs.Export.{export_outcome, on_place, place_of, words_outcome}

module _ (outline : Outline) (uuid : List ℕ) (zeros : Bool) (contents : List (List ℕ)) where
  abbrev due : Result Found OpRefused → Outcome
  due place = on_place uuid zeros (sets_of outline.nfit) contents place

  -- the table or the labels have a fault
  pub fault_due : (fault : OpenFault) → fault_in (image_set_with outline contents) ≡ Some fault → export_outcome uuid zeros (image_set_with outline contents) ≡ open_outcome fault
  unfolding export_outcome image_set_with
  fault_due fault is = ap (λ (o : Option OpenFault). unless_fault o (due (place_of (sets_of outline.nfit) (entry_at (sets_of outline.nfit) (labels_in_set (image_set_with outline contents)) uuid)))) is

  module _ (registry : Registered) (rest : OutlineRest) (o : IsOpenOutline outline registry rest) where
    named_due : (r : Result Found OpRefused) → r ≡ place_of registry.sets (lookup uuid (namespaces_in (state_of registry)).entries) → due r ≡ export_outcome uuid zeros (image_set_with outline contents)
    unfolding export_outcome image_set_with
    named_due r is =
        ap due (is ∙ (λ i. place_of (o.sets i) (o.entry uuid contents i)))
        ∙ ap (λ (fault : Option OpenFault). unless_fault fault (due (place_of (sets_of outline.nfit) (entry_at (sets_of outline.nfit) (labels_in_set (image_set_with outline contents)) uuid)))) (sym (o.none contents))

    -- it isn't found
    pub refused_due : (refusal : OpRefused) → Err refusal ≡ place_of registry.sets (lookup uuid (namespaces_in (state_of registry)).entries)
        → refused_outcome (refusal_text refusal) ≡ export_outcome uuid zeros (image_set_with outline contents)
    refused_due refusal is = named_due (Err refusal) is

    -- it is found
    pub found_due : (found : Found) → Ok found ≡ place_of registry.sets (lookup uuid (namespaces_in (state_of registry)).entries)
        → words_outcome uuid zeros found.mode (words_of (over (set_at registry.sets found.region) found.offset found.raw (rows_of contents))).kept ≡ export_outcome uuid zeros (image_set_with outline contents)
    unfolding view_words
    found_due found is =
        (λ i. words_outcome uuid zeros found.mode (words_of (over (set_at (o.sets i) found.region) found.offset found.raw (rows_of contents))).kept)
        ∙ named_due (Ok found) is
