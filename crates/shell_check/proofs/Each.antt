-- From an outline whose labels are read to the lines of all arenas of its set.
use Rattle.std.proofs.Common.{◌≡◌, ℕ, ◌+◌, false, List, [], ◌∷◌, ◌++◌, map, Result, Ok, Err, refl, sym, ap, ◌∙◌, subst, arith}
use Rattle.std.specs.Prelude.{sum_by}
use Rattle.std.specs.List.{flat_map}
use Rattle.std.proofs.lemmas.List.{append_assoc, append-nil}
use Rattle.std.proofs.lemmas.List.Folds.{flat_map-map}
use Rattle.std.proofs.lemmas.List.Sums.{sum_by-cons}
use Rattle.std.proofs.lemmas.Simd.{map-map}
use Rattle.nfit_reader.specs.declared.table.Mapping.{Mapping}
use Rattle.bad_ranges.specs.Bad.{bad_words}
use Rattle.power_cut.specs.Namespace.{over, words_of}
use Rattle.image_set.specs.declared.changing.OutlineRest.{OutlineRest}
use Rattle.image_set.specs.declared.outline.Outline.{Outline}
use Rattle.image_set.specs.Load.{ImageSet}
use Rattle.image_set.specs.Outline.{image_set_with}
use Rattle.label_set.specs.declared.placed.Placed.{Placed}
use Rattle.namespace_areas.specs.declared.area.Area.{Area}
use Rattle.namespace_areas.specs.declared.found.Found.{Found}
use Rattle.namespace_areas.specs.Areas.{labels_of}
use Rattle.namespace_areas.specs.Finding.{found_of, set_at}
use Rattle.namespace_areas.specs.Opening.{opened_as}
use Rattle.namespace_areas.specs.Seen.{AreHeld}
use Rattle.namespace_areas.proofs.Seen.{seen_labels}
use Rattle.namespace_map.specs.declared.listed.Namespace.{Namespace}
use Rattle.namespace_map.specs.declared.refused.OpRefused.{OpRefused}
use Rattle.namespace_map.specs.Namespaces.{NamespaceEntry, claims_of, entries_of, listed, lookup, namespace_of, placed_of}
use Rattle.namespace_ops.specs.Counted.{namespaces_in}
use Rattle.namespace_ops.specs.Opening.{sets_of}
use Rattle.namespace_ops.specs.Registered.{Registered, opened_on, state_of}
use Rattle.arena_check.specs.declared.finding.Report.{Report}
use Rattle.arena_repair.specs.Chain.{reports_of}
use Rattle.sector_namespaces.specs.View.{rows_of}
use Rattle.shell_reports.specs.List.{labels_in_set}
use Rattle.shell_reports.proofs.Arenas.{IsOpened, opened_is}
use Rattle.shell_reports.proofs.Opened.{shown_all}
use Rattle.shell_sectors.specs.Opening.{IsOpenOutline}
use Rattle.shell_check.specs.declared.all.ArenaLines.{ArenaLines}
use Rattle.shell_check.specs.All.{AreOf, AreReported, count_for, named_lines, named_reports, reports_if, reports_over, uuids_in}
use Rattle.shell_check.specs.Text.{findings_in}
use Rattle.shell_check.proofs.Coming.{found_is, place_is}

-- ---- the namespaces

module _ (outline : Outline) (registry : Registered) (rest : OutlineRest) (o : IsOpenOutline outline registry rest) where
  abbrev areas : List Area
  areas = map opened_as outline.labels

  opened : IsOpened outline.nfit areas registry
  opened = opened_is outline.nfit areas registry o.is

  held : AreHeld areas
  held = subst AreHeld (ap (λ (r : Registered). r.areas) opened.is) o.held

  labels_are : (contents : List (List ℕ)) → labels_of areas ≡ labels_in_set (image_set_with outline contents)
  unfolding image_set_with
  labels_are contents = ap placed_of (shown_all outline.labels)

  abbrev entry_uuids : List Placed → List (List ℕ)
  entry_uuids labels = map (λ (e : NamespaceEntry). e.uuid) (entries_of (sets_of outline.nfit) labels)

  abbrev all : Registered
  all = opened_on (sets_of outline.nfit) areas

  -- those that the registry lists
  pub uuids_are : (contents : List (List ℕ)) → map (λ (n : Namespace). n.uuid) (listed (namespaces_in (state_of registry))) ≡ uuids_in (image_set_with outline contents)
  unfolding image_set_with
  uuids_are contents =
      ap (λ (r : Registered). map (λ (n : Namespace). n.uuid) (listed (namespaces_in (state_of r)))) opened.is
      ∙ map-map (λ (n : Namespace). n.uuid) (λ (e : NamespaceEntry). namespace_of e (claims_of (namespaces_in (state_of all)) e.uuid)) (namespaces_in (state_of all)).entries
      ∙ ap entry_uuids (seen_labels areas held)
      ∙ ap entry_uuids (labels_are contents)

  module _ (uuid : List ℕ) (contents : List (List ℕ)) where
    abbrev loaded : ImageSet
    loaded = image_set_with outline contents

    named_by : (r : Result Found OpRefused) → r ≡ found_of registry.sets (lookup uuid (namespaces_in (state_of registry)).entries) → reports_if loaded uuid r ≡ named_reports loaded uuid
    named_by r is = ap (reports_if loaded uuid) (is ∙ found_is outline registry rest o uuid contents)

    -- none is found
    pub none_reported : (refusal : OpRefused) → Err refusal ≡ found_of registry.sets (lookup uuid (namespaces_in (state_of registry)).entries) → (lines : ArenaLines) → lines.text.items ≡ [] → lines.count ≡ 0
        → AreReported uuid (named_reports loaded uuid) lines
    none_reported refusal is lines text count = subst (λ (reports : List Report). AreReported uuid reports lines) (named_by (Err refusal) is) (record { text = text; count = count })

    -- this one is found, over this set
    pub found_reported : (found : Found) → Ok found ≡ found_of registry.sets (lookup uuid (namespaces_in (state_of registry)).entries) → (set : List Mapping) → set ≡ set_at registry.sets found.region
        → reports_over (over set found.offset found.raw (rows_of contents)) rest.bad uuid ≡ named_reports loaded uuid
    unfolding image_set_with
    found_reported found is set at =
        let place = place_is outline registry rest o uuid set found contents at in
        (λ i. reports_of (bad_words (sym place i) (o.rest_is i).bad) (words_of (sym place i)).kept uuid) ∙ named_by (Ok found) is

-- ---- the lines so far

-- With those of the namespaces that are left, they are those of all.
pub record IsSoFarOf (loaded : ImageSet) (all left : List Namespace) (lines : ArenaLines) : Type 0 where
  pub text : lines.text.items ++ flat_map (λ (n : Namespace). named_lines loaded n.uuid) left ≡ flat_map (λ (n : Namespace). named_lines loaded n.uuid) all
  pub count : lines.count + sum_by (λ (n : Namespace). findings_in false (named_reports loaded n.uuid)) left ≡ sum_by (λ (n : Namespace). findings_in false (named_reports loaded n.uuid)) all

module _ (loaded : ImageSet) (all : List Namespace) where
  abbrev own_lines : Namespace → List ℕ
  own_lines n = named_lines loaded n.uuid

  abbrev own_count : Namespace → ℕ
  own_count n = findings_in false (named_reports loaded n.uuid)

  pub none_so_far : (lines : ArenaLines) → lines.text.items ≡ [] → lines.count ≡ 0 → IsSoFarOf loaded all all lines
  none_so_far lines text count = record {
    text = ap (λ (t : List ℕ). t ++ flat_map own_lines all) text;
    count = ap (λ (c : ℕ). c + sum_by own_count all) count ∙ (let e : 0 + sum_by own_count all ≡ sum_by own_count all = omega arith in e);
  }

  -- those of one more
  pub more_so_far : (n : Namespace) (left : List Namespace) (lines own now : ArenaLines) → IsSoFarOf loaded all (n ∷ left) lines → AreReported n.uuid (named_reports loaded n.uuid) own → now.text.items ≡ lines.text.items ++ own.text.items
      → now.count ≡ lines.count + own.count → IsSoFarOf loaded all left now
  more_so_far n left lines own now so_far reported text count = record {
    text =
        ap (λ (t : List ℕ). t ++ flat_map own_lines left) (text ∙ ap (λ (t : List ℕ). lines.text.items ++ t) reported.text)
        ∙ append_assoc lines.text.items (own_lines n) (flat_map own_lines left) ∙ so_far.text;
    count = omega (arith, count, reported.count, so_far.count, sum_by-cons own_count n left);
  }

  -- none is left
  pub all_so_far : (lines : ArenaLines) → IsSoFarOf loaded all [] lines → AreOf loaded (map (λ (n : Namespace). n.uuid) all) lines
  all_so_far lines so_far = record {
    text = sym (append-nil lines.text.items) ∙ so_far.text ∙ sym (flat_map-map (named_lines loaded) (λ (n : Namespace). n.uuid) all);
    count = omega (arith, so_far.count) ∙ sums all;
  }
    where
      sums : (ns : List Namespace) → sum_by own_count ns ≡ count_for loaded (map (λ (n : Namespace). n.uuid) ns)
      sums [] = refl
      sums (n ∷ ns) = omega (arith, sums ns, sum_by-cons own_count n ns, sum_by-cons (λ (uuid : List ℕ). findings_in false (named_reports loaded uuid)) n.uuid (map (λ (m : Namespace). m.uuid) ns))
