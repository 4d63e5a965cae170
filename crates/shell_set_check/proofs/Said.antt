-- Lines that were made are those that are due.
use Rattle.std.proofs.Common.{◌≡◌, ◌≢◌, ℕ, ◌<◌, List, [], ◌++◌, length, Option, None, Result, Ok, Err, sym, ap, ◌∙◌}
use Rattle.std.specs.Prelude.{OnOk, slice_index_or}
use Rattle.std.specs.Option.{option_map}
use Rattle.std.proofs.lemmas.List.{append_assoc, get_or-map}
use Rattle.cut_words.specs.Words.{Words}
use Rattle.nfit_reader.specs.declared.table.Mapping.{Mapping}
use Rattle.interleave.specs.declared.set.SetFault.{SetFault}
use Rattle.interleave.specs.declared.set.SetFault.TheVariants.{OutOfMemory}
use Rattle.image_set.specs.declared.outline.Outline.{Outline}
use Rattle.image_set.specs.Load.{area_of, bytes_kept}
use Rattle.image_set.specs.Outline.{image_set_with}
use Rattle.label_set.specs.declared.placed.Placed.{Placed}
use Rattle.namespace_areas.specs.Groups.{HasGroupsOf}
use Rattle.namespace_map.specs.Namespaces.{entries_of}
use Rattle.namespace_ops.specs.Opening.{overlap_fault}
use Rattle.shell_set_check.specs.Text.{region_part}
use Rattle.shell_set_check.specs.Namespaces.{entry_lines, label_lines, overlap_part}
use Rattle.shell_set_check.proofs.Groups.{lines_same}

-- the line of a region, by what was read of it
pub region_said : {U E : Type 0} (r : Result U E) (number : ℕ) (before after : List ℕ) (found due : Result (List Mapping) SetFault)
    → OnOk r (after ≡ before ++ region_part number found) → OnOk r (found ≢ Err OutOfMemory) → (found ≢ Err OutOfMemory → found ≡ due) → OnOk r (after ≡ before ++ region_part number due)
region_said (Ok u) number before after found due said finding is = said ∙ ap (λ (it : Result (List Mapping) SetFault). before ++ region_part number it) (is finding)
region_said (Err e) number before after found due said finding is = tt

-- the bytes of a label area, by its place
pub area_there : (outline : Outline) (m : ℕ) (area : Option Words) → m < length outline.labels → ((blank : Option Words) → area ≡ slice_index_or outline.labels m blank)
    → area_of (image_set_with outline []) m ≡ option_map bytes_kept area
unfolding image_set_with
area_there outline m area there is = get_or-map (option_map bytes_kept) outline.labels m None None there ∙ ap (option_map bytes_kept) (sym (is None))

-- the lines of labels, by those of their groups
pub labels_said : {U E : Type 0} (r : Result U E) (before middle after : List ℕ) (sets regions : List (List Mapping)) (sorted labels : List Placed)
    → OnOk r (after ≡ middle ++ entry_lines regions sorted (entries_of regions sorted)) → middle ≡ before ++ overlap_part (overlap_fault labels) → regions ≡ sets → HasGroupsOf sorted labels
    → OnOk r (after ≡ before ++ label_lines sets labels)
labels_said (Ok u) before middle after sets regions sorted labels said begun is same =
    said ∙ ap (λ (rs : List (List Mapping)). middle ++ entry_lines rs sorted (entries_of rs sorted)) is ∙ ap (λ (ls : List ℕ). middle ++ ls) (lines_same sets sorted labels same)
    ∙ ap (λ (ls : List ℕ). ls ++ entry_lines sets labels (entries_of sets labels)) begun
    ∙ append_assoc before (overlap_part (overlap_fault labels)) (entry_lines sets labels (entries_of sets labels))
labels_said (Err e) before middle after sets regions sorted labels said begun is same = tt
