-- From the loaded set to a namespace's arenas.
use Rattle.std.proofs.Common.{◌≡◌, ℕ, suc, List, [], ◌∷◌, map, Option, Some, None, Ok, Err, refl, sym, ap, ◌∙◌}
use Rattle.std.specs.List.{All}
use Rattle.std.specs.Option.{option_map}
use Rattle.std.proofs.lemmas.Nat.{from_le_bytes-to_le_bytes_8}
use Rattle.std.proofs.lemmas.List.Elements.{All-head, All-tail}
use Rattle.nvd_words.specs.Checks.{value_unless}
use Rattle.cut_words.specs.Words.{Words, settled}
use Rattle.cut_words.specs.WordBytes.{bytes_of, words_in}
use Rattle.nfit_reader.specs.declared.table.Mapping.{Mapping}
use Rattle.nfit_reader.specs.declared.table.Nfit.{Nfit}
use Rattle.interleave.proofs.Checked.{no_first, no_fault}
use Rattle.label_set.specs.declared.placed.Placed.{Placed}
use Rattle.namespace_areas.specs.declared.area.Area.{Area}
use Rattle.namespace_areas.specs.Areas.{shown_in, labels_of}
use Rattle.namespace_map.specs.Namespaces.{NamespaceEntry, entry_at, lookup, placed_of}
use Rattle.namespace_areas.specs.Finding.{found_of}
use Rattle.namespace_ops.specs.declared.registry.OpenFault.{OpenFault}
use Rattle.namespace_ops.specs.Opening.{registry_opening, set_fault_from, sets_of, overlap_fault}
use Rattle.namespace_ops.specs.Counted.{namespaces_in}
use Rattle.namespace_ops.specs.Registered.{Registered, opened_on, state_of}
use Rattle.namespace_ops.proofs.Shown.{shown_at}
use Rattle.namespace_areas.specs.Seen.{AreHeld}
use Rattle.image_set.specs.declared.loading.Loaded.{Loaded}
use Rattle.image_set.specs.Load.{bytes_kept, image_set_in}
use Rattle.image_set.specs.Sound.{IsContents, AreWords}
use Rattle.arena_open.specs.declared.state.ArenaState.{ArenaState}
use Rattle.sector_namespaces.specs.View.{rows_of}
use Rattle.shell_reports.specs.Outcome.{Outcome}
use Rattle.shell_reports.specs.List.{shown_by, open_outcome}
use Rattle.shell_reports.specs.Sectors.{on_found, on_sectors, registry_fault, unless_fault}

-- ---- words of contents, and back

pub words_back : (words : List ℕ) → AreWords words → words_in (bytes_of words) ≡ words
words_back [] fit = refl
words_back (w ∷ words) fit =
    λ i. from_le_bytes-to_le_bytes_8 w (fit.each 0) i ∷ words_back words (record { each = λ k. fit.each (suc k) }) i

pub rows_back : (contents : List Words) → All IsContents contents → rows_of (map bytes_kept contents) ≡ contents
rows_back [] sound = refl
rows_back (w ∷ contents) sound =
    let here : IsContents w = All-head IsContents w contents sound in
    let one : settled (words_in (bytes_of w.kept)) ≡ w = ap settled (words_back w.kept here.fit) ∙ sym here.kept in
    λ i. one i ∷ rows_back contents (All-tail IsContents w contents sound) i

-- ---- an open registry

pub record IsOpened (nfit : Nfit) (areas : List Area) (registry : Registered) : Type 0 where
  pub none : registry_fault nfit (labels_of areas) ≡ None
  pub is : registry ≡ opened_on (sets_of nfit) areas

pub opened_is : (nfit : Nfit) (areas : List Area) (registry : Registered) → Ok registry ≡ registry_opening nfit areas → IsOpened nfit areas registry
unfolding registry_opening
opened_is nfit areas registry e =
    let parts = no_fault (opened_on (sets_of nfit) areas) registry (registry_fault nfit (labels_of areas)) (sym e) in
    record { none = parts.0; is = sym parts.1 }

pub set_none : (nfit : Nfit) (labels : List Placed) → registry_fault nfit labels ≡ None → set_fault_from 0 nfit.regions ≡ None
set_none nfit labels e = (no_first (set_fault_from 0 nfit.regions) (overlap_fault labels ∷ []) e).0

fault_by : (value : Registered) (o : Option OpenFault) (fault : OpenFault) → Err fault ≡ value_unless value o → o ≡ Some fault
fault_by value None fault e = absurd (let f = e in cc)
fault_by value (Some found) fault e = (let same : found ≡ fault = cc in ap Some same)

pub fault_is : (nfit : Nfit) (areas : List Area) (fault : OpenFault) → Err fault ≡ registry_opening nfit areas → registry_fault nfit (labels_of areas) ≡ Some fault
unfolding registry_opening
fault_is nfit areas fault e = fault_by (opened_on (sets_of nfit) areas) (registry_fault nfit (labels_of areas)) fault e

-- ---- the outcome of a command

-- What a command owes of a namespace, by the interleave sets and the namespace's entry, it owes of the loaded set.
module _ (loaded : Loaded) (uuid : List ℕ) (areas : List Area) (shown : map shown_in areas ≡ map shown_by (map (option_map bytes_kept) loaded.labels))
    (due : List (List Mapping) → Option NamespaceEntry → Outcome) where
  labels_are : placed_of (map shown_by (map (option_map bytes_kept) loaded.labels)) ≡ labels_of areas
  labels_are = ap placed_of (sym shown)

  abbrev pub due_of : List Placed → Outcome
  due_of labels = unless_fault (registry_fault loaded.nfit labels) (due (sets_of loaded.nfit) (entry_at (sets_of loaded.nfit) labels uuid))

  pub due_open : AreHeld areas → (registry : Registered) → Ok registry ≡ registry_opening loaded.nfit areas
      → due registry.sets (lookup uuid (namespaces_in (state_of registry)).entries) ≡ due_of (placed_of (map shown_by (map (option_map bytes_kept) loaded.labels)))
  due_open held registry e =
      let o : IsOpened loaded.nfit areas registry = opened_is loaded.nfit areas registry e in
      ap (λ (r : Registered). due r.sets (lookup uuid (namespaces_in (state_of r)).entries)) o.is
      ∙ ap (due (sets_of loaded.nfit)) (sym (shown_at (sets_of loaded.nfit) areas (labels_of areas) uuid held (λ u. refl)))
      ∙ ap (λ (fault : Option OpenFault). unless_fault fault (due (sets_of loaded.nfit) (entry_at (sets_of loaded.nfit) (labels_of areas) uuid))) (sym o.none)
      ∙ ap due_of (sym labels_are)

  pub due_fault : (fault : OpenFault) → Err fault ≡ registry_opening loaded.nfit areas → due_of (placed_of (map shown_by (map (option_map bytes_kept) loaded.labels))) ≡ open_outcome fault
  due_fault fault e =
      ap due_of labels_are
      ∙ ap (λ (o : Option OpenFault). unless_fault o (due (sets_of loaded.nfit) (entry_at (sets_of loaded.nfit) (labels_of areas) uuid))) (fault_is loaded.nfit areas fault e)
