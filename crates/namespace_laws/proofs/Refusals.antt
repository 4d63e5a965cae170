-- A delete or rename that isn't refused is of a complete entry.
use Rattle.std.proofs.Common.{◌≡◌, ℕ, Bool, true, List, [], Option, Some, None, refl, sym, ap, ◌∙◌}
use Rattle.std.specs.Prelude.{not, slice_get}
use Rattle.std.specs.Option.{option_map}
use Rattle.std.proofs.lemmas.Bool.{false≢true, not-false}
use Rattle.std.proofs.lemmas.Option.{none-some, same_Some}
use Rattle.nvd_words.specs.Checks.{fault_if}
use Rattle.nfit_reader.specs.declared.table.Mapping.{Mapping}
use Rattle.label_set.specs.declared.placed.Placed.{Placed}
use Rattle.label_set.specs.declared.placed.SetStatus.{SetStatus}
use Rattle.label_set.specs.declared.placed.SetStatus.TheVariants.{Complete, Unfinished, Local, Incomplete}
use Rattle.namespace_map.specs.Namespaces.{NamespaceEntry, entry_with, labels_with, region_of, status_in, shown_name, lookup}
use Rattle.namespace_map.proofs.Entries.{lookup_entries}
use Rattle.namespace_map.specs.declared.commands.Named.{Named}
use Rattle.namespace_map.specs.declared.commands.Command.TheVariants as command
use Rattle.namespace_map.specs.declared.refused.OpRefused.{OpRefused}
use Rattle.namespace_map.specs.declared.refused.OpRefused.TheVariants.{NoSuch, NotComplete}
use Rattle.namespace_map.specs.Areas.{Area}
use Rattle.namespace_map.specs.Commands.{refusal_of, entry_refusal, bad_name, is_complete}
use Rattle.namespace_map.specs.Changes.{namespaces_of, placed_in_all}
use Rattle.namespace_laws.proofs.Sets.{no_fault}
use Rattle.namespace_laws.proofs.Allowed.{passed_if}

-- a complete entry, with the name of its status
pub record IsFound (sets : List (List Mapping)) (areas : List (Option Area)) (uuid : List ℕ) : Type 0 where
  pub entry : NamespaceEntry
  pub pending : Bool
  pub is : lookup uuid (namespaces_of sets areas).entries ≡ Some entry
  pub status : entry.status ≡ Complete entry.name pending

complete_is : (s : SetStatus) → is_complete s ≡ true → (name : List ℕ) × (pending : Bool) × (s ≡ Complete name pending)
complete_is (Complete name pending) e = (name, pending, refl)
complete_is Unfinished e = absurd (false≢true e)
complete_is Local e = absurd (false≢true e)
complete_is (Incomplete why) e = absurd (false≢true e)

-- the name is that of the status
named_by_status : (sets : List (List Mapping)) (own : List Placed) (e : NamespaceEntry) (name : List ℕ) (pending : Bool) → option_map (entry_with sets own) (slice_get own 0) ≡ Some e → e.status ≡ Complete name pending → e.name ≡ name
named_by_status sets own e name pending is status = by (slice_get own 0) refl
  where
    by : (o : Option Placed) → slice_get own 0 ≡ o → e.name ≡ name
    by None at = absurd (none-some e (sym (ap (option_map (entry_with sets own)) at) ∙ is))
    by (Some p) at =
        let same : entry_with sets own p ≡ e = same_Some (entry_with sets own p) e (sym (ap (option_map (entry_with sets own)) at) ∙ is) in
        let st : status_in (region_of sets p) own p ≡ Complete name pending = ap (λ (x : NamespaceEntry). x.status) same ∙ status in
        ap (λ (x : NamespaceEntry). x.name) (sym same) ∙ ap (λ (s : SetStatus). shown_name s p) st

-- a complete entry has the name of its status
pub complete_named : (sets : List (List Mapping)) (areas : List (Option Area)) (uuid : List ℕ) (e : NamespaceEntry) → lookup uuid (namespaces_of sets areas).entries ≡ Some e → is_complete e.status ≡ true
    → (pending : Bool) × (e.status ≡ Complete e.name pending)
complete_named sets areas uuid e at it =
    let complete = complete_is e.status it in
    let name : e.name ≡ complete.0 = named_by_status sets (labels_with uuid (placed_in_all areas)) e complete.0 complete.1 (sym (lookup_entries sets (placed_in_all areas) uuid) ∙ at) complete.2 in
    (complete.1, complete.2 ∙ ap (λ (n : List ℕ). Complete n complete.1) (sym name))

found_in : (sets : List (List Mapping)) (areas : List (Option Area)) (uuid : List ℕ) (further : NamespaceEntry → List (Option OpRefused)) (o : Option NamespaceEntry) → lookup uuid (namespaces_of sets areas).entries ≡ o
    → entry_refusal o further ≡ None → IsFound sets areas uuid
found_in sets areas uuid further None at good = absurd (none-some NoSuch (sym good))
found_in sets areas uuid further (Some e) at good =
    let complete = complete_is e.status (not-false (is_complete e.status) (passed_if (not (is_complete e.status)) NotComplete (no_fault (fault_if (not (is_complete e.status)) NotComplete) (further e) good).0)) in
    let name : e.name ≡ complete.0 = named_by_status sets (labels_with uuid (placed_in_all areas)) e complete.0 complete.1 (sym (lookup_entries sets (placed_in_all areas) uuid) ∙ at) complete.2 in
    record { entry = e; pending = complete.1; is = at; status = complete.2 ∙ ap (λ (n : List ℕ). Complete n complete.1) (sym name) }

pub delete_found : (sets : List (List Mapping)) (areas : List (Option Area)) (uuid : List ℕ) → refusal_of (namespaces_of sets areas) (command.Delete uuid) ≡ None → IsFound sets areas uuid
delete_found sets areas uuid good = found_in sets areas uuid _ (lookup uuid (namespaces_of sets areas).entries) refl good

pub rename_found : (sets : List (List Mapping)) (areas : List (Option Area)) (uuid : List ℕ) (name : Named) → refusal_of (namespaces_of sets areas) (command.Rename uuid name) ≡ None → IsFound sets areas uuid
rename_found sets areas uuid name good = found_in sets areas uuid _ (lookup uuid (namespaces_of sets areas).entries) refl (no_fault _ [] (no_fault (bad_name name) _ good).1).0
