-- Worked examples, computed on the definitions: two modules of 32 MiB with label areas of 1,024 bytes, just initialised.
use Rattle.std.proofs.Common.{◌≡◌, ℕ, List, [], ◌∷◌, Option, Some, None, Bool, true, false, codes, replicate, refl}
use Rattle.std.specs.Prelude.{map}
use Rattle.nvd_words.specs.Checks.{first_fault, checked}
use Rattle.nfit_reader.specs.declared.table.Mapping.{Mapping}
use Rattle.label_codec.specs.declared.label.Label.{Label}
use Rattle.label_codec.specs.Mode.{persistent_memory, no_abstraction}
use Rattle.label_set.specs.declared.placed.SetStatus.{SetStatus}
use Rattle.label_set.specs.declared.placed.SetStatus.TheVariants.{Complete, Unfinished, Local, Incomplete}
use Rattle.label_set.specs.declared.placed.Why.TheVariants.{Missing, Differs}
use Rattle.label_set.specs.declared.placed.Field.TheVariants as field
use Rattle.label_set.specs.Status.{status_of}
use Rattle.namespace_map.specs.Namespaces.{NamespaceEntry, Namespaces, lookup, put_all, put}
use Rattle.namespace_map.specs.declared.commands.Make.TheVariants as make
use Rattle.namespace_map.specs.declared.commands.Named.TheVariants as named
use Rattle.namespace_map.specs.declared.commands.Command.{Command}
use Rattle.namespace_map.specs.declared.commands.Command.TheVariants as command
use Rattle.namespace_map.specs.declared.refused.OpRefused.TheVariants.{NoSlot}
use Rattle.namespace_map.specs.Areas.{Area, Change, steps_of_all, after_steps, all_changed}
use Rattle.namespace_map.specs.Commands.{refusal_of, step, after_recovery, taken_from, given_to, unfinished_gone}
use Rattle.namespace_map.specs.Changes.{namespaces_of, changes_of, delete_changes, rename_changes, settled_first, recovered_areas, by_position, by_position_with}
use Rattle.namespace_map.proofs.Asking.{create_with}

abbrev pair_mapping : ℕ → ℕ → ℕ → Mapping
pair_mapping number offset serial = record {
  «module» = number;
  size = 33554432;
  offset = offset;
  start = 0;
  ways = 2;
  lines = Some (record { size = 4096; offsets = 0 ∷ [] });
  identity = record { vendor = 0x1234; date = 0; location = 0; serial = serial };
}

abbrev sets : List (List Mapping)
sets = (pair_mapping 0 0 1 ∷ pair_mapping 1 4096 2 ∷ []) ∷ []

abbrev empty_area : Option Area
empty_area = Some (record { block = 256; slots = None ∷ None ∷ [] })

abbrev fresh : List (Option Area)
fresh = empty_area ∷ empty_area ∷ []

-- a UUID of sixteen equal bytes
abbrev u : List ℕ
u = replicate 16 0x11

abbrev a : List ℕ
a = codes "a"

abbrev make_u : Command
make_u = create_with u (named.Good a) 0 8388608 make.Raw

abbrev making : List Change
making = changes_of (namespaces_of sets fresh) fresh make_u

pub create_steps : steps_of_all fresh making ≡ 520
unfolding after_steps steps_of_all all_changed put_all put status_of first_fault checked by_position by_position_with taken_from given_to unfinished_gone
create_steps = refl

abbrev statuses : List (Option Area) → List SetStatus
statuses areas = map (λ (e : NamespaceEntry). e.status) (namespaces_of sets areas).entries

abbrev cut_at : ℕ → Bool → List SetStatus
cut_at steps stays = statuses (after_steps fresh making steps stays)

pub cut_128 : cut_at 128 true ≡ []
unfolding after_steps steps_of_all all_changed put_all put status_of first_fault checked by_position by_position_with taken_from given_to unfinished_gone
cut_128 = refl

pub cut_129 : cut_at 129 true ≡ Unfinished ∷ []
unfolding after_steps steps_of_all all_changed put_all put status_of first_fault checked by_position by_position_with taken_from given_to unfinished_gone
cut_129 = refl

pub cut_259_unfinished : cut_at 259 false ≡ Unfinished ∷ []
unfolding after_steps steps_of_all all_changed put_all put status_of first_fault checked by_position by_position_with taken_from given_to unfinished_gone
cut_259_unfinished = refl

pub cut_259_pending : cut_at 259 true ≡ Complete a true ∷ []
unfolding after_steps steps_of_all all_changed put_all put status_of first_fault checked by_position by_position_with taken_from given_to unfinished_gone
cut_259_pending = refl

pub cut_518 : cut_at 518 true ≡ Complete a true ∷ []
unfolding after_steps steps_of_all all_changed put_all put status_of first_fault checked by_position by_position_with taken_from given_to unfinished_gone
cut_518 = refl

pub cut_520 : cut_at 520 false ≡ Complete a false ∷ []
unfolding after_steps steps_of_all all_changed put_all put status_of first_fault checked by_position by_position_with taken_from given_to unfinished_gone
cut_520 = refl

abbrev made : List (Option Area)
made = after_steps fresh making 520 false

-- a second create with another UUID needs two free slots, and there is one
pub second_create : refusal_of (namespaces_of sets made) (create_with (replicate 16 0x22) (named.Good a) 0 8388608 make.Raw) ≡ Some (NoSlot 0)
unfolding after_steps steps_of_all all_changed put_all put status_of first_fault checked by_position by_position_with taken_from given_to unfinished_gone
second_create = refl

-- a rename with a crash after 200 steps, and recovered
abbrev renaming : List Change
renaming = rename_changes u (named.Good (codes "b")) made

-- it isn't pending, so nothing comes before these
pub not_settled_first : settled_first made (lookup u (namespaces_of sets made).entries) ≡ []
unfolding after_steps steps_of_all all_changed put_all put status_of first_fault checked by_position by_position_with taken_from given_to unfinished_gone
not_settled_first = refl

abbrev renamed_half : List (Option Area)
renamed_half = after_steps made renaming 200 false

pub rename_cut : statuses renamed_half ≡ Complete a true ∷ []
unfolding after_steps steps_of_all all_changed put_all put status_of first_fault checked by_position by_position_with taken_from given_to unfinished_gone
rename_cut = refl

pub rename_recovered : statuses (recovered_areas sets renamed_half) ≡ Complete a false ∷ []
unfolding after_steps steps_of_all all_changed put_all put status_of first_fault checked by_position by_position_with taken_from given_to unfinished_gone
rename_recovered = refl

-- a delete takes 392 steps
abbrev deleting : List Change
deleting = delete_changes u made

pub delete_steps : steps_of_all made deleting ≡ 392
unfolding after_steps steps_of_all all_changed put_all put status_of first_fault checked by_position by_position_with taken_from given_to unfinished_gone
delete_steps = refl

pub delete_260 : statuses (after_steps made deleting 260 false) ≡ Complete a true ∷ []
unfolding after_steps steps_of_all all_changed put_all put status_of first_fault checked by_position by_position_with taken_from given_to unfinished_gone
delete_260 = refl

pub delete_326 : statuses (after_steps made deleting 326 false) ≡ Unfinished ∷ []
unfolding after_steps steps_of_all all_changed put_all put status_of first_fault checked by_position by_position_with taken_from given_to unfinished_gone
delete_326 = refl

pub delete_recovered : statuses (recovered_areas sets (after_steps made deleting 326 false)) ≡ []
unfolding after_steps steps_of_all all_changed put_all put status_of first_fault checked by_position by_position_with taken_from given_to unfinished_gone
delete_recovered = refl

-- ---- statuses of labels that differ

abbrev half_label : ℕ → ℕ → List ℕ → ℕ → Label
half_label position flags name slot = record {
  uuid = u;
  name = name;
  flags = flags;
  count = 2;
  position = position;
  cookie = 0x0002E2420000346B;
  lba = 512;
  dpa = 0;
  raw = 4194304;
  slot = slot;
  align = 0;
  kind = persistent_memory;
  abstraction = no_abstraction;
  spa_cookie = 0;
}

abbrev area_with : Label → Option Area
area_with l = Some (record { block = 256; slots = Some (Some l) ∷ None ∷ [] })

abbrev one_with : ℕ → List SetStatus
one_with flags = statuses (area_with (half_label 0 flags a 0) ∷ empty_area ∷ [])

pub one_unfinished : one_with 8 ≡ Unfinished ∷ []
unfolding after_steps steps_of_all all_changed put_all put status_of first_fault checked by_position by_position_with taken_from given_to unfinished_gone
one_unfinished = refl

pub one_missing : one_with 0 ≡ Incomplete (Missing 1) ∷ []
unfolding after_steps steps_of_all all_changed put_all put status_of first_fault checked by_position by_position_with taken_from given_to unfinished_gone
one_missing = refl

pub one_local : one_with 2 ≡ Local ∷ []
unfolding after_steps steps_of_all all_changed put_all put status_of first_fault checked by_position by_position_with taken_from given_to unfinished_gone
one_local = refl

abbrev two_with : ℕ → List SetStatus
two_with flags = statuses (area_with (half_label 0 0 a 0) ∷ area_with (half_label 1 flags (codes "b") 0) ∷ [])

pub two_names : two_with 0 ≡ Incomplete (Differs field.Names) ∷ []
unfolding after_steps steps_of_all all_changed put_all put status_of first_fault checked by_position by_position_with taken_from given_to unfinished_gone
two_names = refl

pub two_pending : two_with 8 ≡ Complete a true ∷ []
unfolding after_steps steps_of_all all_changed put_all put status_of first_fault checked by_position by_position_with taken_from given_to unfinished_gone
two_pending = refl

-- ---- the commands on entries agree with their label changes

abbrev left_by : Namespaces → Command → Namespaces
left_by ns c = (step ns c).1

pub create_agrees : left_by (namespaces_of sets fresh) make_u ≡ namespaces_of sets made
unfolding after_steps steps_of_all all_changed put_all put status_of first_fault checked by_position by_position_with taken_from given_to unfinished_gone
create_agrees = refl

abbrev rename_u : Command
rename_u = command.Rename u (named.Good (codes "b"))

pub rename_agrees : left_by (namespaces_of sets made) rename_u ≡ namespaces_of sets (all_changed made renaming)
unfolding after_steps steps_of_all all_changed put_all put status_of first_fault checked by_position by_position_with taken_from given_to unfinished_gone
rename_agrees = refl

pub delete_agrees : left_by (namespaces_of sets made) (command.Delete u) ≡ namespaces_of sets (all_changed made deleting)
unfolding after_steps steps_of_all all_changed put_all put status_of first_fault checked by_position by_position_with taken_from given_to unfinished_gone
delete_agrees = refl

pub recovery_agrees : after_recovery (namespaces_of sets renamed_half) ≡ namespaces_of sets (recovered_areas sets renamed_half)
unfolding after_steps steps_of_all all_changed put_all put status_of first_fault checked by_position by_position_with taken_from given_to unfinished_gone
recovery_agrees = refl

pub recovery_of_unfinished_agrees : after_recovery (namespaces_of sets (after_steps made deleting 326 false)) ≡ namespaces_of sets (recovered_areas sets (after_steps made deleting 326 false))
unfolding after_steps steps_of_all all_changed put_all put status_of first_fault checked by_position by_position_with taken_from given_to unfinished_gone
recovery_of_unfinished_agrees = refl

-- ---- a set whose first position is a module with the greater number: what the label changes make has its parts by module, what the command makes has them so too (in the order of the set it would be 1, 0, and the two would differ)

abbrev swapped : List (List Mapping)
swapped = (pair_mapping 1 0 2 ∷ pair_mapping 0 4096 1 ∷ []) ∷ []

abbrev modules_in : Namespaces → List (List ℕ)
modules_in ns = map (λ (e : NamespaceEntry). map (λ p. p.extent.«module») e.parts) ns.entries

abbrev swapped_made : List (Option Area)
swapped_made = after_steps fresh (changes_of (namespaces_of swapped fresh) fresh make_u) 520 false

pub swapped_by_labels : modules_in (namespaces_of swapped swapped_made) ≡ (0 ∷ 1 ∷ []) ∷ []
unfolding after_steps steps_of_all all_changed put_all put status_of first_fault checked by_position by_position_with taken_from given_to unfinished_gone
swapped_by_labels = refl

pub swapped_by_command : modules_in (left_by (namespaces_of swapped fresh) make_u) ≡ (0 ∷ 1 ∷ []) ∷ []
unfolding after_steps steps_of_all all_changed put_all put status_of first_fault checked by_position by_position_with taken_from given_to unfinished_gone
swapped_by_command = refl

pub swapped_agrees : left_by (namespaces_of swapped fresh) make_u ≡ namespaces_of swapped swapped_made
unfolding after_steps steps_of_all all_changed put_all put status_of first_fault checked by_position by_position_with taken_from given_to unfinished_gone
swapped_agrees = refl

-- ---- a delete of a namespace that is pending already: half of it has another name

abbrev half_renamed : List (Option Area)
half_renamed = area_with (half_label 0 0 a 0) ∷ area_with (half_label 1 8 (codes "b") 0) ∷ []

abbrev deleting_pending : List Change
deleting_pending = changes_of (namespaces_of sets half_renamed) half_renamed (command.Delete u)

pub pending_not_refused : refusal_of (namespaces_of sets half_renamed) (command.Delete u) ≡ None
unfolding after_steps steps_of_all all_changed put_all put status_of first_fault checked by_position by_position_with taken_from given_to unfinished_gone
pending_not_refused = refl

-- it is settled first, by one change, under the name that the labels without UPDATING agree on
pub pending_delete_settles : statuses (after_steps half_renamed deleting_pending 130 false) ≡ Complete a false ∷ []
unfolding after_steps steps_of_all all_changed put_all put status_of first_fault checked by_position by_position_with taken_from given_to unfinished_gone
pending_delete_settles = refl

-- wherever the delete is cut, recovery leads to the namespace or to none
abbrev pending_recovered : ℕ → List SetStatus
pending_recovered steps = statuses (recovered_areas sets (after_steps half_renamed deleting_pending steps false))

pub pending_settled : pending_recovered 130 ≡ Complete a false ∷ []
unfolding after_steps steps_of_all all_changed put_all put status_of first_fault checked by_position by_position_with taken_from given_to unfinished_gone
pending_settled = refl

pub pending_one_marked : pending_recovered 260 ≡ Complete a false ∷ []
unfolding after_steps steps_of_all all_changed put_all put status_of first_fault checked by_position by_position_with taken_from given_to unfinished_gone
pending_one_marked = refl

pub pending_both_marked : pending_recovered 390 ≡ Complete a false ∷ []
unfolding after_steps steps_of_all all_changed put_all put status_of first_fault checked by_position by_position_with taken_from given_to unfinished_gone
pending_both_marked = refl

pub pending_one_removed : pending_recovered 456 ≡ []
unfolding after_steps steps_of_all all_changed put_all put status_of first_fault checked by_position by_position_with taken_from given_to unfinished_gone
pending_one_removed = refl

pub pending_all_removed : pending_recovered 522 ≡ []
unfolding after_steps steps_of_all all_changed put_all put status_of first_fault checked by_position by_position_with taken_from given_to unfinished_gone
pending_all_removed = refl

-- ---- recovery on a module without a free slot: the commands on entries and the label changes agree

abbrev full_with : Label → Option Area
full_with l = Some (record { block = 256; slots = Some (Some l) ∷ Some None ∷ [] })

abbrev stuck_half : List (Option Area)
stuck_half = area_with (half_label 0 0 a 0) ∷ full_with (half_label 1 8 (codes "b") 0) ∷ []

abbrev stuck_whole : List (Option Area)
stuck_whole = area_with (half_label 0 8 a 0) ∷ full_with (half_label 1 8 a 0) ∷ []

abbrev stuck_one : List (Option Area)
stuck_one = full_with (half_label 0 8 a 0) ∷ empty_area ∷ []

pub stuck_half_agrees : after_recovery (namespaces_of sets stuck_half) ≡ namespaces_of sets (recovered_areas sets stuck_half)
unfolding after_steps steps_of_all all_changed put_all put status_of first_fault checked by_position by_position_with taken_from given_to unfinished_gone
stuck_half_agrees = refl

pub stuck_half_refused : refusal_of (namespaces_of sets (recovered_areas sets stuck_half)) (command.Delete u) ≡ Some (NoSlot 1)
unfolding after_steps steps_of_all all_changed put_all put status_of first_fault checked by_position by_position_with taken_from given_to unfinished_gone
stuck_half_refused = refl

pub stuck_whole_agrees : after_recovery (namespaces_of sets stuck_whole) ≡ namespaces_of sets (recovered_areas sets stuck_whole)
unfolding after_steps steps_of_all all_changed put_all put status_of first_fault checked by_position by_position_with taken_from given_to unfinished_gone
stuck_whole_agrees = refl

-- removing the label of an unfinished entry needs no free slot
pub stuck_one_agrees : after_recovery (namespaces_of sets stuck_one) ≡ namespaces_of sets (recovered_areas sets stuck_one)
unfolding after_steps steps_of_all all_changed put_all put status_of first_fault checked by_position by_position_with taken_from given_to unfinished_gone
stuck_one_agrees = refl

-- ---- a set of one module: a delete there needs no free slot, and takes one change

abbrev alone : List (List Mapping)
alone = (record (pair_mapping 0 0 1) { ways = 1 } ∷ []) ∷ []

abbrev one_area : List (Option Area)
one_area = empty_area ∷ []

abbrev make_one : Command
make_one = create_with u (named.Good (codes "a")) 0 8388608 make.Raw

abbrev one_made : List (Option Area)
one_made = all_changed one_area (changes_of (namespaces_of alone one_area) one_area make_one)

abbrev statuses_alone : List (Option Area) → List SetStatus
statuses_alone areas = map (λ (e : NamespaceEntry). e.status) (namespaces_of alone areas).entries

pub one_steps : steps_of_all one_area (changes_of (namespaces_of alone one_area) one_area make_one) ≡ 130
unfolding after_steps steps_of_all all_changed put_all put status_of first_fault checked by_position by_position_with taken_from given_to unfinished_gone
one_steps = refl

pub one_complete : statuses_alone one_made ≡ Complete (codes "a") false ∷ []
unfolding after_steps steps_of_all all_changed put_all put status_of first_fault checked by_position by_position_with taken_from given_to unfinished_gone
one_complete = refl

pub one_deleted : (steps_of_all one_made (changes_of (namespaces_of alone one_made) one_made (command.Delete u))) ≡ 66
unfolding after_steps steps_of_all all_changed put_all put status_of first_fault checked by_position by_position_with taken_from given_to unfinished_gone
one_deleted = refl
