-- From an outline to one whose labels are recovered.
use Rattle.std.proofs.Common.{◌≡◌, ℕ, List, [], length, map, Option, Ok, Err, refl, sym, ap, ◌∙◌, subst}
use Rattle.std.specs.Option.{option_map}
use Rattle.std.proofs.lemmas.List.{length-map}
use Rattle.nfit_reader.specs.declared.table.Mapping.{Mapping}
use Rattle.image_set.specs.declared.changing.OutlineRest.{OutlineRest}
use Rattle.image_set.specs.declared.outline.Outline.{Outline}
use Rattle.image_set.specs.Load.{ImageSet, bytes_kept}
use Rattle.image_set.specs.Outline.{IsOutlined, image_set_with}
use Rattle.namespace_areas.specs.declared.area.Area.{Area}
use Rattle.namespace_areas.specs.Opening.{opened_as}
use Rattle.namespace_areas.specs.Seen.{areas_seen, words_of}
use Rattle.namespace_areas.specs.Steps.{Rows, all_rows, rows_of as label_rows}
use Rattle.namespace_areas.specs.Went.{size_of, unready}
use Rattle.namespace_laws.specs.Apart.{EntriesApart}
use Rattle.namespace_laws.proofs.RecoveryLaw.{recovery_agrees}
use Rattle.namespace_map.specs.Areas.{Area as SeenArea}
use Rattle.namespace_map.specs.Changes.{namespaces_of, recovered_areas, recovery_changes}
use Rattle.namespace_map.specs.declared.commands.Command.TheVariants.{Delete}
use Rattle.namespace_map.specs.Left.{LabelsAreRead, AreRegions}
use Rattle.namespace_ops.specs.declared.registry.OpenFault.{OpenFault}
use Rattle.namespace_ops.specs.Opening.{registry_opening, sets_of}
use Rattle.namespace_ops.specs.Registered.{Registered, opened_on}
use Rattle.namespace_ops.proofs.Regions.{was_opened}
use Rattle.shell_changes.specs.Areas.{areas_in, rows_in}
use Rattle.shell_changes.specs.Maps.{HasTable}
use Rattle.shell_changes.specs.Namespaces.{sets_in}
use Rattle.shell_changes.specs.Reading.{IsFresh}
use Rattle.shell_changes.proofs.Areas.{rows_are, rows_opened}
use Rattle.shell_reports.proofs.Opened.{are_whole}
use Rattle.shell_changes.proofs.Goes.{labels_are, sets_err, sets_ok}
use Rattle.shell_changes.proofs.Maps.{areas_read, keep_apart, recovered_read, regions_of}
use Rattle.shell_sectors.specs.Opening.{IsOpenOutline}
use Rattle.shell_serve.specs.Recovered.{IsRecovered, IsRecoveredIn, IsRecovery, recovered_words}

labels_in : (outline : Outline) (contents : List (List ℕ)) → (image_set_with outline contents).labels ≡ map (option_map bytes_kept) outline.labels
unfolding image_set_with
labels_in outline contents = refl

nfit_in : (outline : Outline) (contents : List (List ℕ)) → (image_set_with outline contents).nfit ≡ outline.nfit
unfolding image_set_with
nfit_in outline contents = refl

has_table : (outline : Outline) (contents : List (List ℕ)) → IsOutlined outline → HasTable (image_set_with outline contents)
unfolding image_set_with
has_table outline contents sound = record { read = sound.table; counted = sound.counted }

bytes_in : (outline : Outline) (contents : List (List ℕ)) → (image_set_with outline contents).nfit_bytes ≡ outline.nfit_bytes
unfolding image_set_with
bytes_in outline contents = refl

bad_in : (outline : Outline) (contents : List (List ℕ)) → (image_set_with outline contents).bad ≡ outline.bad
unfolding image_set_with
bad_in outline contents = refl

pub contents_are : (outline : Outline) (contents : List (List ℕ)) → (image_set_with outline contents).contents ≡ contents
unfolding image_set_with
contents_are outline contents = refl

fresh_first : (sets : List (List Mapping)) (areas : List Area) → IsFresh (opened_on sets areas)
fresh_first sets areas = record { running = refl; claims = refl; journal = refl; room = refl }

-- the fault of a set that has one
pub fault_found : (outline : Outline) → IsOutlined outline → (fault : OpenFault) → Err fault ≡ registry_opening outline.nfit (map opened_as outline.labels) → (contents : List (List ℕ)) → sets_in (image_set_with outline contents) ≡ Err fault
fault_found outline sound fault is contents =
    sets_err (image_set_with outline contents) outline.labels outline.nfit (labels_in outline contents) (nfit_in outline contents) fault (are_whole outline.labels sound.areas) is

module _ (outline : Outline) (sound : IsOutlined outline) (old : Registered) (rest : OutlineRest) (o : IsOpenOutline outline old rest) where
  pub was_fresh : IsFresh old
  was_fresh = subst IsFresh (sym (was_opened outline.nfit (map opened_as outline.labels) old o.is).is) (fresh_first (sets_of outline.nfit) (map opened_as outline.labels))

  old_areas : old.areas ≡ map opened_as outline.labels
  old_areas = sym (was_opened outline.nfit (map opened_as outline.labels) old o.is).areas_are

  module _ (contents : List (List ℕ)) where
    abbrev set : ImageSet
    set = image_set_with outline contents

    old_sets : sets_in (image_set_with outline contents) ≡ Ok old.sets
    old_sets = sets_ok (image_set_with outline contents) outline.labels outline.nfit (labels_in outline contents) (nfit_in outline contents) old (are_whole outline.labels sound.areas) o.is

    old_seen : areas_seen old.areas ≡ areas_in (image_set_with outline contents).labels
    old_seen = ap areas_seen old_areas ∙ labels_are (image_set_with outline contents) outline.labels outline.nfit (labels_in outline contents) (nfit_in outline contents)

    old_words : label_rows old.areas ≡ rows_in (image_set_with outline contents)
    old_words = ap label_rows old_areas ∙ rows_opened outline.labels ∙ sym (rows_are (image_set_with outline contents) outline.labels (labels_in outline contents) sound.areas)

    regions : AreRegions old.sets
    regions = regions_of (image_set_with outline contents) old.sets (has_table outline contents sound) old_sets

    read : LabelsAreRead (areas_in (image_set_with outline contents).labels)
    read = areas_read (image_set_with outline contents).labels

    module _ (now : Registered) (r : IsRecovery old now) where
      now_seen : areas_seen now.areas ≡ recovered_areas old.sets (areas_in (image_set_with outline contents).labels)
      now_seen = r.went.done refl ∙ ap (recovered_areas old.sets) old_seen

      now_words : label_rows now.areas ≡ recovered_words old.sets (image_set_with outline contents)
      now_words =
          r.went.rows refl ∙ ap (λ (rows : Rows). all_rows rows (recovery_changes old.sets (areas_seen old.areas))) old_words
          ∙ ap (λ (xs : List (Option SeenArea)). all_rows (rows_in (image_set_with outline contents)) (recovery_changes old.sets xs)) old_seen

      now_apart : EntriesApart (namespaces_of old.sets (recovered_areas old.sets (areas_in (image_set_with outline contents).labels)))
      now_apart =
          subst EntriesApart (sym (recovery_agrees old.sets (areas_in (image_set_with outline contents).labels) regions read))
          (keep_apart (Delete []) (image_set_with outline contents) old.sets tt (has_table outline contents sound) old_sets).recovery

      is_recovered_in : IsRecoveredIn (image_set_with outline contents) (record { registry = now; rest = rest })
      is_recovered_in =
          let same : now.sets ≡ old.sets = r.sets in
          record {
            sets = old_sets ∙ ap (λ (s : List (List Mapping)). Ok s) (sym same);
            areas = now_seen ∙ ap (λ (s : List (List Mapping)). recovered_areas s (areas_in (image_set_with outline contents).labels)) (sym same);
            words = now_words ∙ ap (λ (s : List (List Mapping)). recovered_words s (image_set_with outline contents)) (sym same);
            regions = subst AreRegions (sym same) regions;
            read = subst LabelsAreRead (sym now_seen) (recovered_read old.sets (areas_in (image_set_with outline contents).labels) regions read);
            apart = subst (λ (s : List (List Mapping)). EntriesApart (namespaces_of s (areas_seen now.areas))) (sym same)
                (subst (λ (xs : List (Option SeenArea)). EntriesApart (namespaces_of old.sets xs)) (sym now_seen) now_apart);
            held = r.went.held refl;
            fresh = r.running was_fresh;
            opening = r.opening;
            labels = record {
              words = outline.labels;
              are = labels_in outline contents;
              whole = are_whole outline.labels sound.areas;
              beside = r.went.beside ∙ ap (map unready) old_areas;
              sizes = r.went.sizes ∙ ap (map size_of) old_areas;
            };
            nfit = bytes_in outline contents ∙ sym (ap (λ (x : OutlineRest). x.nfit_bytes) o.rest_is);
            bad = bad_in outline contents ∙ sym (ap (λ (x : OutlineRest). x.bad) o.rest_is);
          }

  -- a set whose labels were read, once they are recovered
  pub is_recovered : (now : Registered) → IsRecovery old now → IsRecovered outline (record { registry = now; rest = rest })
  is_recovered now r = record {
    before = old;
    opened = o;
    sets = r.sets;
    fresh = r.running was_fresh;
    count = sym (length-map now.areas size_of) ∙ ap (λ (ns : List ℕ). length ns) r.went.sizes ∙ length-map old.areas size_of ∙ o.count;
    is = λ contents. is_recovered_in contents now r;
  }
