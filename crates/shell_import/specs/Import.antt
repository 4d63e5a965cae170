-- The command `import`: bytes become the contents of a whole namespace. UEFI 2.10, chapter 6; the order of refusals is this project's rule.
use Rattle.std.specs.Prelude.{◌≡◌, ℕ, ◌*◌, Bool, true, false, List, length, sum, MatchOption, Result, Ok, Err}
use Rattle.cut_words.specs.WordBytes.{words_in}
use Rattle.arena_open.specs.declared.state.ArenaState.{ArenaState}
use Rattle.arena_open.specs.ChainCells.{sizes_of}
use Rattle.namespace_map.specs.Commands.{is_sector}
use Rattle.namespace_map.specs.Namespaces.{entry_at}
use Rattle.namespace_map.specs.declared.refused.OpRefused.{OpRefused}
use Rattle.namespace_areas.specs.declared.found.Found.{Found}
use Rattle.namespace_areas.specs.Finding.{set_at}
use Rattle.namespace_ops.specs.Opening.{sets_of}
use Rattle.image_set.specs.Load.{ImageSet}
use Rattle.sector_namespaces.specs.View.{rows_of, view_words}
use Rattle.shell_reports.specs.declared.status.Ending.TheVariants as ending
use Rattle.shell_reports.specs.Causes.{fault_in, opened_in}
use Rattle.shell_reports.specs.Cut.{done_text}
use Rattle.shell_reports.specs.Faults.{refusal_text, refused_outcome}
use Rattle.shell_reports.specs.List.{labels_in_set, open_outcome}
use Rattle.shell_reports.specs.Outcome.{Outcome}
use Rattle.shell_sectors.specs.Found.{OnArenas, SavesNamespace}
use Rattle.shell_sectors.specs.Write.{length_refusal}
use Rattle.shell_export.specs.Export.{place_of}
use Rattle.namespace_bytes.specs.Contents.{HasContents}

-- the namespace of a UUID, of sectors or raw
abbrev pub place_in : ImageSet → List ℕ → Result Found OpRefused
place_in loaded uuid = place_of (sets_of loaded.nfit) (entry_at (sets_of loaded.nfit) (labels_in_set loaded) uuid)

-- the loaded set is saved, with such words in the namespace; or it is refused, since there are other bytes than `had`
abbrev pub ImportFits : Found → ImageSet → ℕ → ℕ → (List ℕ → Type 0) → Outcome → Type 0
ImportFits found loaded said had Like outcome =
    MatchOption (length_refusal said had) (SavesNamespace found loaded Like ending.Done done_text outcome) (λ refusal. outcome ≡ refused_outcome refusal)

-- on a raw namespace: its words are those of the bytes
abbrev pub ImportsWords : List ℕ → ImageSet → Outcome → Found → Type 0
ImportsWords bytes loaded outcome found =
    ImportFits found loaded (length bytes) (8 * length (view_words (set_at (sets_of loaded.nfit) found.region) found (rows_of loaded.contents))) (λ now. now ≡ words_in bytes) outcome

-- on one of sectors: they have the bytes, one after another, and the words behind the arenas are as loaded
abbrev pub ImportsArenas : List ℕ → List ℕ → ImageSet → Outcome → Found → List ArenaState → Type 0
ImportsArenas uuid bytes loaded outcome found states =
    ImportFits found loaded (length bytes) (sum (sizes_of states)) (HasContents uuid bytes states (view_words (set_at (sets_of loaded.nfit) found.region) found (rows_of loaded.contents))) outcome

abbrev pub OnMode : Bool → List ℕ → List ℕ → ImageSet → Outcome → Found → Type 0
OnMode true uuid bytes loaded outcome found = OnArenas (ImportsArenas uuid bytes loaded outcome found) uuid outcome (opened_in loaded uuid found)
OnMode false uuid bytes loaded outcome found = ImportsWords bytes loaded outcome found

abbrev pub OnPlace : List ℕ → List ℕ → ImageSet → Outcome → Result Found OpRefused → Type 0
OnPlace uuid bytes loaded outcome (Ok found) = OnMode (is_sector found.mode) uuid bytes loaded outcome found
OnPlace uuid bytes loaded outcome (Err refusal) = outcome ≡ refused_outcome (refusal_text refusal)

-- What the command may come to: the table and the labels are checked, then the namespace is found, then all of its arenas are opened, if it is
-- one of sectors, and then the length is compared.
abbrev pub ImportComes : List ℕ → List ℕ → ImageSet → Outcome → Type 0
ImportComes uuid bytes loaded outcome = MatchOption (fault_in loaded) (OnPlace uuid bytes loaded outcome (place_in loaded uuid)) (λ fault. outcome ≡ open_outcome fault)
