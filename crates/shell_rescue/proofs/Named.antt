-- From an outline whose labels are read to the outcome of `rescue` on its set.
use Rattle.std.proofs.Common.{◌≡◌, ℕ, Bool, true, false, List, map, Option, Some, Result, Ok, Err, ◌++◌, ap, sym, refl, ◌∙◌}
use Rattle.std.proofs.lemmas.List.{append_assoc}
use Rattle.nfit_reader.specs.declared.table.Mapping.{Mapping}
use Rattle.bad_ranges.specs.Bad.{bad_words}
use Rattle.power_cut.specs.Namespace.{over, words_of}
use Rattle.image_set.specs.declared.changing.OutlineRest.{OutlineRest}
use Rattle.image_set.specs.declared.outline.Outline.{Outline}
use Rattle.image_set.specs.Load.{ImageSet}
use Rattle.image_set.specs.Outline.{image_set_with}
use Rattle.label_rescue.specs.declared.rescued.RescueFound.{RescueFound}
use Rattle.label_rescue.specs.Rescue.{rescued_of}
use Rattle.namespace_areas.specs.Areas.{labels_of}
use Rattle.namespace_areas.specs.Finding.{set_at}
use Rattle.namespace_areas.specs.Opening.{opened_as}
use Rattle.namespace_areas.specs.Refusals.{shown}
use Rattle.namespace_map.specs.declared.refused.OpRefused.{OpRefused}
use Rattle.namespace_map.specs.Namespaces.{NamespaceEntry, entries_of, listed, namespace_of, placed_of}
use Rattle.namespace_ops.specs.declared.registry.OpenFault.{OpenFault}
use Rattle.namespace_ops.specs.Counted.{namespaces_in, with_claims}
use Rattle.namespace_ops.specs.Opening.{sets_of}
use Rattle.namespace_ops.proofs.Shown.{shown_all as shown_entries}
use Rattle.namespace_ops.specs.Registered.{Registered, state_of}
use Rattle.sector_namespaces.specs.View.{rows_of}
use Rattle.shell_reports.specs.Causes.{fault_in}
use Rattle.shell_reports.specs.Faults.{refusal_text, refused_outcome}
use Rattle.shell_reports.specs.List.{labels_in_set, open_outcome}
use Rattle.shell_reports.specs.Sectors.{unless_fault}
use Rattle.shell_reports.proofs.Arenas.{IsOpened, opened_is}
use Rattle.shell_reports.proofs.Opened.{shown_all}
use Rattle.shell_sectors.specs.Opening.{IsOpenOutline}
use Rattle.shell_check.proofs.Coming.{place_is}
use Rattle.shell_rescue.specs.declared.chain.Rescued.{Rescued}
use Rattle.shell_rescue.specs.Comes.{bytes_unless, list_outcome, made_outcome, on_named, rescue_outcome, words_outcome}
use Rattle.shell_rescue.specs.Found.{namespaces_in_set, rescued_in}
use Rattle.shell_rescue.specs.Lost.{count_in, last_line, lines_from, lost_arenas, missing_lines}
use Rattle.shell_rescue.specs.Reading.{IsTold}
use Rattle.shell_rescue.specs.Rescue.{arenas_bytes}

-- what was read of a namespace comes to what is due
pub made_is : (uuid : List ℕ) (listing : Bool) (missing : List ℕ) (bad : ℕ → Bool) (words : List ℕ) (r : Rescued) → IsTold listing missing bad words uuid r
    → made_outcome uuid listing words r ≡ words_outcome uuid listing missing bad words
made_is uuid true missing bad words r is =
    (λ i. list_outcome (is.count i) (is.text i ++ last_line (is.count i)))
    ∙ ap (list_outcome (count_in (lost_arenas bad words uuid))) (append_assoc (missing_lines missing) (lines_from 0 (lost_arenas bad words uuid)) (last_line (count_in (lost_arenas bad words uuid))))
made_is uuid false missing bad words r is = λ i. bytes_unless uuid (is.refused i) (arenas_bytes words (is.arenas i))

module _ (outline : Outline) (uuid : List ℕ) (listing : Bool) (contents : List (List ℕ)) where
  abbrev loaded : ImageSet
  loaded = image_set_with outline contents

  -- the table or the labels have a fault
  pub fault_due : (fault : OpenFault) → fault_in loaded ≡ Some fault → rescue_outcome uuid listing loaded ≡ open_outcome fault
  unfolding rescue_outcome
  fault_due fault is = ap (λ (o : Option OpenFault). unless_fault o (on_named uuid listing loaded (rescued_in loaded uuid))) is

  module _ (registry : Registered) (rest : OutlineRest) (o : IsOpenOutline outline registry rest) where
    opened : IsOpened outline.nfit (map opened_as outline.labels) registry
    opened = opened_is outline.nfit (map opened_as outline.labels) registry o.is

    labels_are : labels_of registry.areas ≡ labels_in_set loaded
    unfolding image_set_with
    labels_are = ap (λ (r : Registered). labels_of r.areas) opened.is ∙ ap placed_of (shown_all outline.labels)

    entries_are : (shown registry.sets registry.areas).entries ≡ entries_of (sets_of outline.nfit) (labels_in_set loaded)
    entries_are =
        sym (shown_entries registry.sets registry.areas (labels_of registry.areas) o.held (λ u. refl))
        ∙ (λ i. entries_of (o.sets i) (labels_are i))

    -- no namespace is claimed
    listed_are : listed (namespaces_in (state_of registry)) ≡ namespaces_in_set loaded
    unfolding image_set_with
    listed_are =
        ap (λ (claims : List (List ℕ × ℕ)). listed (with_claims (shown registry.sets registry.areas) claims)) (ap (λ (r : Registered). r.claims) opened.is)
        ∙ ap (map (λ (e : NamespaceEntry). namespace_of e 0)) entries_are

    rescued_is : rescued_of registry.sets (listed (namespaces_in (state_of registry))) uuid ≡ rescued_in loaded uuid
    unfolding image_set_with
    rescued_is = λ i. rescued_of (o.sets i) (listed_are i) uuid

    named_due : (r : Result RescueFound OpRefused) → r ≡ rescued_of registry.sets (listed (namespaces_in (state_of registry))) uuid → on_named uuid listing loaded r ≡ rescue_outcome uuid listing loaded
    unfolding rescue_outcome
    named_due r is =
        ap (on_named uuid listing loaded) (is ∙ rescued_is)
        ∙ ap (λ (fault : Option OpenFault). unless_fault fault (on_named uuid listing loaded (rescued_in loaded uuid))) (sym (o.none contents))

    -- it isn't found
    pub refused_due : (refusal : OpRefused) → Err refusal ≡ rescued_of registry.sets (listed (namespaces_in (state_of registry))) uuid
        → refused_outcome (refusal_text refusal) ≡ rescue_outcome uuid listing loaded
    refused_due refusal is = named_due (Err refusal) is

    -- it is found, over this set
    pub found_due : (place : RescueFound) → Ok place ≡ rescued_of registry.sets (listed (namespaces_in (state_of registry))) uuid → (set : List Mapping) → set ≡ set_at registry.sets place.found.region
        → words_outcome uuid listing place.missing (bad_words (over set place.found.offset place.found.raw (rows_of contents)) rest.bad) (words_of (over set place.found.offset place.found.raw (rows_of contents))).kept
        ≡ rescue_outcome uuid listing loaded
    unfolding image_set_with
    found_due place is set at =
        let where_is = place_is outline registry rest o uuid set place.found contents at in
        (λ i. words_outcome uuid listing place.missing (bad_words (sym where_is i) (o.rest_is i).bad) (words_of (sym where_is i)).kept) ∙ named_due (Ok place) is
