-- From namespaces that are opened to sessions that have run.
use Rattle.std.specs.Prelude.{◌≡◌, ℕ, ◌<◌, nat_lt, true, false, List, [], ◌∷◌, length, map, slice_index_or, Option, Result, Ok, Err, Vec}
use Rattle.std.specs.Global.{Global}
use Rattle.std.specs.List.{All}
use Rattle.std.specs.Option.{ForSome}
use Rattle.cut_words.specs.Words.{Words}
use Rattle.nvd_media.specs.Images.{Images}
use Rattle.nfit_reader.specs.declared.table.Mapping.{Mapping}
use Rattle.namespace_areas.specs.declared.area.Area.{Area}
use Rattle.namespace_areas.specs.declared.found.Found.{Found}
use Rattle.namespace_areas.specs.Seen.{AreLeft as AreasLeft, areas_seen, areas_shown, words_of}
use Rattle.namespace_areas.specs.Steps.{rows_of as label_rows}
use Rattle.namespace_areas.specs.Went.{size_of, unready}
use Rattle.namespace_map.specs.declared.refused.OpRefused.{OpRefused}
use Rattle.namespace_ops.specs.Entries.{JournalEntry}
use Rattle.image_set.specs.declared.outline.Outline.{Outline}
use Rattle.image_set.specs.Load.{ImageSet}
use Rattle.image_set.specs.Outline.{contents_in, image_set_with}
use Rattle.sector_namespaces.specs.View.{rows_of}
use Rattle.served_namespaces.specs.declared.places.FoundNamespace.{FoundNamespace}
use Rattle.served_namespaces.specs.declared.places.OpenedNamespace.{OpenedNamespace}
use Rattle.served_namespaces.specs.declared.places.ReadNamespace.{ReadNamespace}
use Rattle.served_namespaces.specs.declared.places.NotOpened.{NotOpened}
use Rattle.served_namespaces.specs.declared.places.NotOpened.TheVariants.{Broken, OutOfMemory}
use Rattle.served_namespaces.specs.Opening.{Broken as ABroken, opened_each}
use Rattle.served_namespaces.specs.Places.{AreDisjoint, KeepsBeside, words_at}
use Rattle.served_namespaces.specs.Reading.{AreHeld, IsOpened, RevealsAll, opened_all, opened_bytes}
use Rattle.session_account.specs.declared.reply.Reply.{Reply}
use Rattle.session_account.specs.Account.{Accounts, Histories, flights_on}
use Rattle.session_account.specs.Journal.{AreLeft, IsJournal}
use Rattle.session_account.specs.Words.{AreasHold}
use Rattle.session_script.specs.declared.script.Script.{Script}
use Rattle.session_service.specs.declared.namespaces.ServedNamespace.{ServedNamespace}
use Rattle.session_service.specs.Ran.{texts_of}
use Rattle.session_texts.specs.Texts.{replies_text}
use Rattle.shell_changes.specs.declared.answer.Answer.{Answer}
use Rattle.shell_changes.specs.Answers.{HasSizes, outcome_with}
use Rattle.shell_reports.specs.Faults.{arena_outcome, held_text, most_held, refusal_text, refused_outcome}
use Rattle.shell_reports.specs.Outcome.{Outcome}
use Rattle.shell_reports.specs.Saved.{outcome_of}
use Rattle.shell_sectors.specs.Opening.{HaveSizes}
use Rattle.shell_serve.specs.declared.opening.OpenOutcome.{OpenOutcome}
use Rattle.shell_serve.specs.declared.opening.OpenOutcome.TheVariants as opened
use Rattle.shell_serve.specs.declared.recovered.RecoveredSet.{RecoveredSet}
use Rattle.shell_serve.specs.Chosen.{ArenasChosen}
use Rattle.shell_serve.specs.Recovered.{IsRecovered}
use Rattle.shell_serve.specs.Serving.{AreLegal, ArenasSurvive, servings_of, unclaimed}

-- ---- contents that the source has

-- The source reveals these contents of an outline, which is recovered: they have its sizes, and reach the end of each mapping.
pub record Shows (held : Option Images) (outline : Outline) (set : RecoveredSet) (contents : List (List ℕ)) : Type 0 where
  pub sizes : HaveSizes outline.sizes contents
  pub reveals : RevealsAll held set.registry.sets contents

-- An answer is what is due with the contents that the source has, as far as it reveals them.
pub record AnswersFrom (due : ImageSet → Outcome → Type 0) (held : Option Images) (outline : Outline) (answer : Answer) : Type 0 where
  pub comes : ForSome held (λ source. due (image_set_with outline (contents_in source (length outline.sizes))) (outcome_with answer (contents_in source (length outline.sizes))))
  pub sizes : HasSizes outline.sizes answer

-- ---- before the sessions

-- these namespaces are at these places, and are open, whatever the contents are
abbrev pub OpensAs : List (List Mapping) → List FoundNamespace → OpenOutcome → Type 0
OpensAs sets places (opened.Done namespaces) = All (IsOpened sets) namespaces × (map (λ (o : OpenedNamespace). o.place) namespaces ≡ places)
OpensAs sets places (opened.Not report) = Unit {0}

-- no two of them share an address
abbrev pub OpensApart : List (List Mapping) → OpenOutcome → Type 0
OpensApart sets (opened.Done namespaces) = All (IsOpened sets) namespaces × AreDisjoint sets (map (λ (o : OpenedNamespace). o.place) namespaces)
OpensApart sets (opened.Not report) = Unit {0}

-- there is one, of this UUID
abbrev pub OpensOne : List (List Mapping) → List ℕ → OpenOutcome → Type 0
OpensOne sets uuid (opened.Done namespaces) = (found : Found) × OpensAs sets (record { uuid = uuid; found = found } ∷ []) (opened.Done namespaces)
OpensOne sets uuid (opened.Not report) = Unit {0}

-- namespaces whose arenas were read are opened in contents that hold these arenas
abbrev pub LoadsRead : List (List Mapping) → List (List ℕ) → List ReadNamespace → OpenOutcome → Type 0
LoadsRead sets contents read (opened.Done namespaces) = (namespaces ≡ opened_all sets contents read) × AreHeld sets (rows_of contents) namespaces
LoadsRead sets contents read (opened.Not report) = ⊥

-- the same, unless the arenas have too many bytes together
abbrev pub OpensRead : List (List Mapping) → List (List ℕ) → List ReadNamespace → OpenOutcome → Type 0
OpensRead sets contents read (opened.Done namespaces) =
    (namespaces ≡ opened_all sets contents read) × AreHeld sets (rows_of contents) namespaces × (nat_lt most_held (opened_bytes (opened_all sets contents read)) ≡ false)
OpensRead sets contents read (opened.Not report) =
    (nat_lt most_held (opened_bytes (opened_all sets contents read)) ≡ true) × (outcome_of report ≡ refused_outcome (held_text (opened_bytes (opened_all sets contents read))))

-- why namespaces in these contents aren't opened
abbrev pub IsNotOpen : Result (List OpenedNamespace) ABroken → Outcome → Type 0
IsNotOpen (Ok namespaces) outcome = (nat_lt most_held (opened_bytes namespaces) ≡ true) × (outcome ≡ refused_outcome (held_text (opened_bytes namespaces)))
IsNotOpen (Err broken) outcome = outcome ≡ arena_outcome broken.uuid broken.fault

-- the namespaces at these places are opened in contents, or one of them has an arena that breaks the format, or the arenas have too many bytes together
abbrev pub OpensIn : List (List Mapping) → List (List ℕ) → List FoundNamespace → OpenOutcome → Type 0
OpensIn sets contents places (opened.Done namespaces) =
    (opened_each sets (rows_of contents) places ≡ Ok namespaces) × AreHeld sets (rows_of contents) namespaces × (nat_lt most_held (opened_bytes namespaces) ≡ false)
OpensIn sets contents places (opened.Not report) = IsNotOpen (opened_each sets (rows_of contents) places) (outcome_of report)

-- the namespace of a UUID is opened in contents, or it isn't found
abbrev pub FindsIn : List (List Mapping) → List (List ℕ) → List ℕ → Result Found OpRefused → OpenOutcome → Type 0
FindsIn sets contents uuid (Ok found) o = OpensIn sets contents (record { uuid = uuid; found = found } ∷ []) o
FindsIn sets contents uuid (Err refusal) (opened.Done namespaces) = ⊥
FindsIn sets contents uuid (Err refusal) (opened.Not report) = outcome_of report ≡ refused_outcome (refusal_text refusal)

-- the answer names the arena
abbrev pub NamesBroken : NotOpened → OpenOutcome → Type 0
NamesBroken (Broken uuid fault) (opened.Done namespaces) = ⊥
NamesBroken (Broken uuid fault) (opened.Not report) = outcome_of report ≡ arena_outcome uuid fault
NamesBroken OutOfMemory o = ⊥

-- ---- while they are open

-- Namespaces are open, of an outline whose labels are recovered.
pub record IsOpen (outline : Outline) (set : RecoveredSet) (namespaces : List OpenedNamespace) : Type 0 where
  pub recovered : IsRecovered outline set
  pub each : All (IsOpened set.registry.sets) namespaces
  pub disjoint : AreDisjoint set.registry.sets (map (λ (o : OpenedNamespace). o.place) namespaces)

-- These contents of the outline hold their arenas.
pub record HoldsIn (outline : Outline) (set : RecoveredSet) (contents : List (List ℕ)) (namespaces : List OpenedNamespace) : Type 0 where
  pub sizes : HaveSizes outline.sizes contents
  pub held : AreHeld set.registry.sets (rows_of contents) namespaces

-- the same namespaces, as sessions get them
pub record AreSame (namespaces : List OpenedNamespace) (served : List ServedNamespace) : Type 0 where
  pub uuids : map (λ (n : ServedNamespace). n.uuid) served ≡ map (λ (o : OpenedNamespace). o.place.uuid) namespaces
  pub arenas : map (λ (n : ServedNamespace). n.arenas.items) served ≡ map (λ (o : OpenedNamespace). o.states) namespaces

-- ---- after them

-- What sessions have come to on namespaces that are open: from label areas that recovery has left to those that they leave, and the words of all
-- modules with those of their arenas put into contents. `leaves` says what the arenas' words may be after the cut.
pub record IsServed (leaves : List (Option Words) → List (Option (List ℕ)) → Type 0) (sets : List (List Mapping)) (before after : List Area) (contents : List (List ℕ)) (namespaces : List OpenedNamespace) (script : Script) (now : List Words) (printed : List (Vec ℕ Global)) : Type 0 where
  -- what each session was answered, and its lines
  pub replies : List (List Reply)
  pub texts : texts_of printed ≡ map replies_text replies
  pub journal : List JournalEntry
  pub histories : Histories
  pub commands : IsJournal sets (unclaimed (areas_seen before)) script.labelcut journal
  pub legal : (place : ℕ) (d : OpenedNamespace) → place < length namespaces → AreLegal (slice_index_or namespaces place d).states (histories place)
  pub accounts : Accounts (servings_of namespaces) script replies journal histories
  -- whatever the label areas' state after a crash
  pub labels : (rows : List (Option (List ℕ))) → AreasLeft after rows → AreLeft sets (unclaimed (areas_seen before)) script.labelcut journal (areas_shown rows)
  pub hold : AreasHold sets (unclaimed (areas_seen before)) (label_rows before) script.labelcut journal (map words_of after)
  pub survive : (place : ℕ) (d : OpenedNamespace) → place < length namespaces
      → ArenasSurvive (slice_index_or namespaces place d) (words_at sets (slice_index_or namespaces place d).place.found now) (histories place)
      (λ k. flights_on (servings_of namespaces) place k script replies histories)
  pub beside : KeepsBeside sets namespaces (rows_of contents) now
  pub chosen : ArenasChosen leaves sets namespaces histories (λ place k. flights_on (servings_of namespaces) place k script replies histories) now
  -- a label area that wasn't read is as it was, and each has its size
  pub unread : map unready after ≡ map unready before
  pub sizes : map size_of after ≡ map size_of before
