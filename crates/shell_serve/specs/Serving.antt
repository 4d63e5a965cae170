-- What sessions come to on the namespaces of an image set: their calls, the histories of the arenas, and the set that is saved. This
-- project's rules over UEFI 2.10, section 6.3 (BTT theory of operation) and section 13.19 (labels).
use Rattle.std.specs.Prelude.{◌≡◌, ℕ, ◌<◌, List, [], length, map, slice_index_or, Option, Ok}
use Rattle.nvd_media.specs.Images.{Images}
use Rattle.cut_words.specs.Words.{Words, settled}
use Rattle.nfit_reader.specs.declared.table.Mapping.{Mapping}
use Rattle.arena_open.specs.declared.state.ArenaState.{ArenaState}
use Rattle.lane_core.specs.declared.history.Entry.{Entry as HistoryEntry}
use Rattle.lane_core.specs.History.{IsLegal}
use Rattle.lane_core.specs.Reopening.{first_cells}
use Rattle.namespace_areas.specs.Seen.{areas_shown}
use Rattle.namespace_areas.specs.Steps.{Rows}
use Rattle.namespace_laws.specs.Apart.{EntriesApart}
use Rattle.namespace_map.specs.Areas.{Area}
use Rattle.namespace_map.specs.Changes.{namespaces_of}
use Rattle.namespace_ops.specs.Entries.{JournalEntry}
use Rattle.namespace_ops.specs.Replay.{Kept}
use Rattle.image_set.specs.Load.{ImageSet}
use Rattle.sector_namespaces.specs.View.{opened_view, rows_of}
use Rattle.served_namespaces.specs.declared.places.OpenedNamespace.{OpenedNamespace}
use Rattle.served_namespaces.specs.Places.{KeepsBeside, words_at}
use Rattle.session_account.specs.declared.reply.Reply.{Reply}
use Rattle.session_account.specs.Account.{Accounts, Histories, flights_on}
use Rattle.session_account.specs.Journal.{AreLeft, IsJournal}
use Rattle.session_account.specs.Recovered.{LeftRecovers}
use Rattle.session_account.specs.Serving.{Serving}
use Rattle.session_account.specs.Survival.{Flight, Survives}
use Rattle.session_account.specs.Words.{AreasHold}
use Rattle.session_script.specs.declared.script.Script.{Script}
use Rattle.session_service.specs.Namespaces.{shape_by}
use Rattle.shell_changes.specs.Areas.{HasAreas, HasRows}
use Rattle.shell_reports.specs.declared.status.Ending.TheVariants as ending
use Rattle.shell_reports.specs.Outcome.{Outcome}
use Rattle.shell_reports.specs.Saved.{IsSaving}
use Rattle.shell_sectors.specs.Found.{with_contents}
use Rattle.shell_serve.specs.Chosen.{IsChosen}

-- ---- as the account sees namespaces that are open

abbrev pub serving_of : OpenedNamespace → Serving
serving_of o = record { uuid = o.place.uuid; arenas = map shape_by o.states }

abbrev pub servings_of : List OpenedNamespace → List Serving
servings_of opened = map serving_of opened

-- label areas with which sessions begin: no namespace is claimed
abbrev pub unclaimed : List (Option Area) → Kept
unclaimed areas = record { areas = areas; claims = [] }

-- ---- after the cut

-- each arena of a namespace has one history, legal from the cells that opening found
abbrev pub AreLegal : List ArenaState → (ℕ → List HistoryEntry) → Type 0
AreLegal states histories = (k : ℕ) (d : ArenaState) → k < length states → IsLegal (first_cells (slice_index_or states k d)) (histories k)

-- The words at a namespace's place open as the same arenas. Each sector has its cell at the end of its arena's history, or the words of
-- one write that was cut.
pub record ArenasSurvive (o : OpenedNamespace) (now : List ℕ) (histories : ℕ → List HistoryEntry) (flights : ℕ → List Flight) : Type 0 where
  pub news : List ArenaState
  pub opens : opened_view now o.place.uuid ≡ Ok news
  pub infos : map (λ (s : ArenaState). s.info) news ≡ map (λ (s : ArenaState). s.info) o.states
  pub cells : (k : ℕ) (d : ArenaState) → k < length o.states
      → Survives (first_cells (slice_index_or o.states k d)) (histories k) (flights k) (slice_index_or o.states k d).info.layout.external (first_cells (slice_index_or news k d))

-- The loaded set is saved with these words as its label areas, which show these areas, and with these as the modules' contents. A label
-- area that isn't read is as loaded, and so are all other objects.
pub record SavesParts (text : List ℕ) (loaded : ImageSet) (areas : List (Option Area)) (labels : List (Option (List ℕ))) (rows : List (List ℕ)) (outcome : Outcome) : Type 0 where
  pub set : Images
  pub shown : areas_shown labels ≡ areas
  pub words : HasRows (with_contents loaded rows) labels set
  pub has : HasAreas (with_contents loaded rows) areas set
  pub saves : IsSaving ending.Done text set outcome

-- ---- what sessions come to

-- The sessions of a script have run on namespaces that are open, from label areas that recovery has left, with these words. The text is a
-- function of their replies. `leaves` says what rows of words may be after a crash. However their steps came between one another, and
-- wherever power was cut:
pub record Serves (leaves : List (Option Words) → List (Option (List ℕ)) → Type 0) (text : List (List Reply) → List ℕ) (sets : List (List Mapping)) (loaded : ImageSet) (areas : List (Option Area)) (words : Rows) (opened : List OpenedNamespace) (script : Script) (outcome : Outcome) : Type 0 where
  pub replies : List (List Reply)
  pub journal : List JournalEntry
  pub histories : Histories
  -- the label areas and the contents that are left
  pub left : List (Option Area)
  pub label_words : List (Option (List ℕ))
  pub rows : List (List ℕ)
  -- the commands on labels are one journal: each replies what it does at its point, with power for as many steps as the script says
  pub commands : IsJournal sets (unclaimed areas) script.labelcut journal
  -- each arena has one history, legal from its contents
  pub legal : (place : ℕ) (d : OpenedNamespace) → place < length opened → AreLegal (slice_index_or opened place d).states (histories place)
  -- the sessions' calls stand in these, each once and in order, as they were answered
  pub accounts : Accounts (servings_of opened) script replies journal histories
  -- the label areas are those of the journal's end, or those after the cut in the command in which it came
  pub labels : AreLeft sets (unclaimed areas) script.labelcut journal left
  -- recovered, they have the namespaces of the journal's end, or those from before or after that command
  pub recover : LeftRecovers sets (unclaimed areas) script.labelcut journal left
  -- no two namespaces have extents that meet
  pub disjoint : EntriesApart (namespaces_of sets left)
  -- each namespace that was open opens again at its place, and its sectors survive
  pub survive : (place : ℕ) (d : OpenedNamespace) → place < length opened
      → ArenasSurvive (slice_index_or opened place d) (words_at sets (slice_index_or opened place d).place.found (map settled rows)) (histories place)
      (λ k. flights_on (servings_of opened) place k script replies histories)
  -- contents outside their arenas are as loaded
  pub beside : KeepsBeside sets opened (rows_of loaded.contents) (map settled rows)
  -- of words that weren't flushed is left what the chooser picks, for one after another: first those of the arenas, in order of the
  -- namespaces, and then those of the label areas. Of these none is pending, unless power was cut in a command: then they are those after
  -- as many of its stores and flushes as power lasted for
  pub chosen : IsChosen leaves (AreasHold sets (unclaimed areas) words script.labelcut journal) (AreLeft sets (unclaimed areas) script.labelcut journal) sets opened histories (λ place k. flights_on (servings_of opened) place k script replies histories) (map settled rows) label_words
  pub saved : SavesParts (text replies) loaded left label_words rows outcome
