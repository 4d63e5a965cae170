-- From sessions that have run to what `serve` and `load` come to.
use Rattle.std.proofs.Common.{◌≡◌, ℕ, Bool, true, false, List, [], ◌∷◌, ◌++◌, map, Option, Result, Ok, Err, refl, sym, ap, ◌∙◌, subst, Global}
use Rattle.std.specs.Prelude.{MatchBool, Vec, nat_lt, slice_index_or}
use Rattle.cut_words.specs.Words.{Words, settled}
use Rattle.cut_words.specs.WordBytes.{words_in}
use Rattle.nfit_reader.specs.declared.table.Mapping.{Mapping}
use Rattle.arena_open.specs.declared.chain_refused.ChainRefused.{ChainRefused}
use Rattle.arena_open.specs.declared.state.ArenaState.{ArenaState}
use Rattle.arena_open.specs.ChainCells.{sectors_of}
use Rattle.image_set.specs.declared.outline.Outline.{Outline}
use Rattle.image_set.specs.Load.{ImageSet}
use Rattle.image_set.specs.Outline.{image_set_with}
use Rattle.image_set.specs.Patches.{patched_contents}
use Rattle.namespace_areas.specs.declared.area.Area.{Area}
use Rattle.namespace_areas.specs.declared.found.Found.{Found}
use Rattle.namespace_areas.specs.Seen.{areas_seen, areas_shown, words_of as area_words}
use Rattle.namespace_areas.specs.Finding.{found_of}
use Rattle.namespace_areas.specs.Steps.{Rows, rows_of as label_rows}
use Rattle.namespace_bytes.specs.Patching.{BytePatch, all_patched}
use Rattle.namespace_laws.specs.Apart.{EntriesApart}
use Rattle.namespace_map.specs.Areas.{Area as SeenArea}
use Rattle.namespace_map.specs.Changes.{namespaces_of}
use Rattle.namespace_map.specs.Namespaces.{lookup}
use Rattle.namespace_map.specs.declared.refused.OpRefused.{OpRefused}
use Rattle.namespace_ops.specs.declared.registry.OpenFault.{OpenFault}
use Rattle.namespace_ops.specs.Counted.{namespaces_in, with_claims}
use Rattle.namespace_ops.specs.Registered.{Registered, state_of}
use Rattle.sector_namespaces.specs.View.{opened_view, rows_of}
use Rattle.served_namespaces.specs.declared.places.FoundNamespace.{FoundNamespace}
use Rattle.served_namespaces.specs.declared.places.OpenedNamespace.{OpenedNamespace}
use Rattle.served_namespaces.specs.Opening.{Broken, found_each, on_states, opened_each}
use Rattle.served_namespaces.specs.Places.{KeepsBeside, words_at}
use Rattle.served_namespaces.specs.Reading.{AreHeld, opened_bytes}
use Rattle.session_account.specs.declared.reply.Reply.{Reply}
use Rattle.session_account.specs.Account.{flights_on}
use Rattle.session_account.specs.Journal.{AreLeft}
use Rattle.session_account.specs.Words.{AreasHold}
use Rattle.session_script.specs.declared.script.Script.{Script}
use Rattle.session_account.proofs.Recovering.{journals_recover}
use Rattle.shell_changes.specs.declared.answer.Answer.{Answer}
use Rattle.shell_changes.specs.Answers.{outcome_with}
use Rattle.shell_changes.specs.Namespaces.{sets_in}
use Rattle.shell_reports.specs.declared.outcome.Report.{Report}
use Rattle.shell_reports.specs.declared.status.Ending.TheVariants as ending
use Rattle.shell_reports.specs.Faults.{held_text, most_held, range_text, refused_outcome}
use Rattle.shell_reports.specs.List.{open_outcome}
use Rattle.shell_reports.specs.Outcome.{Outcome}
use Rattle.shell_reports.specs.Saved.{outcome_of}
use Rattle.shell_serve.specs.declared.load.Load.{Load}
use Rattle.shell_serve.specs.declared.recovered.RecoveredSet.{RecoveredSet}
use Rattle.shell_serve.specs.declared.opening.OpenOutcome.TheVariants as outcomes
use Rattle.shell_serve.specs.Answering.{FindsIn, IsNotOpen, IsServed}
use Rattle.shell_serve.specs.Chosen.{ArenasChosen}
use Rattle.shell_serve.specs.Load.{LoadComes, LoadsOn, LoadsOnSets, LoadsRecovered, LoadsOnStates, LoadsOnArenas, LoadsOnFound, one_opened}
use Rattle.shell_serve.specs.Recovered.{IsRecovered, IsRecoveredIn, KeepsLabels, recovered_words}
use Rattle.shell_serve.specs.Saving.{SavesLeft}
use Rattle.shell_serve.specs.Serve.{OnHeld, OnOpened, OnRecovered, ServesOnSets, ServeComes, served_in}
use Rattle.shell_serve.specs.Serving.{ArenasSurvive, Serves, servings_of, unclaimed}
use Rattle.shell_serve.specs.Texts.{serve_text}
use Rattle.shell_serve.proofs.Choosing.{all_chosen}
use Rattle.shell_serve.proofs.Journals.{left_apart}
use Rattle.shell_serve.proofs.Recovering.{contents_are}
use Rattle.shell_serve.proofs.Saves.{is_saving, rows_same, saves_parts}

-- ---- what is saved

module _ (leaves first behind : List (Option Words) → List (Option (List ℕ)) → Type 0)
    (join : (words pending : List (Option Words)) (own labels : List (Option (List ℕ))) → first words own → behind pending labels → leaves (words ++ pending) (own ++ labels))
    (text : List (List Reply) → List ℕ) (outline : Outline) (set : RecoveredSet) (recovered : IsRecovered outline set) (contents : List (List ℕ)) (namespaces : List OpenedNamespace) (script : Script) (patch : List BytePatch) (after : List Area)
    (texts : List (Vec ℕ Global)) (i : IsServed first set.registry.sets set.registry.areas after contents namespaces script (rows_of (patched_contents (all_patched patch) contents)) texts) where
  abbrev loaded : ImageSet
  loaded = image_set_with outline contents

  abbrev rows : List (List ℕ)
  rows = map words_in (patched_contents (all_patched patch) contents)

  r : IsRecoveredIn (image_set_with outline contents) set
  r = recovered.is contents

  same : map settled (map words_in (patched_contents (all_patched patch) contents)) ≡ rows_of (patched_contents (all_patched patch) contents)
  same = rows_same (image_set_with outline contents) contents set r.nfit r.bad patch

  keeps : KeepsLabels (image_set_with outline contents).labels after
  keeps = record {
    words = r.labels.words;
    are = r.labels.are;
    whole = r.labels.whole;
    beside = i.unread ∙ r.labels.beside;
    sizes = i.sizes ∙ r.labels.sizes;
  }

  pub serves : (report : Report) (answer : Answer) → report.ending ≡ ending.Done → report.text.items ≡ text i.replies → SavesLeft behind report after set.rest patch answer
      → Serves leaves text set.registry.sets (image_set_with outline contents) (areas_seen set.registry.areas) (label_rows set.registry.areas) namespaces script (outcome_with answer contents)
  serves report answer ends says s = record {
    replies = i.replies;
    journal = i.journal;
    histories = i.histories;
    left = areas_shown s.left.labels;
    label_words = s.left.labels;
    rows = map words_in (patched_contents (all_patched patch) contents);
    commands = i.commands;
    legal = i.legal;
    accounts = i.accounts;
    labels = i.labels s.left.labels s.areas_left;
    recover = journals_recover set.registry.sets _ script.labelcut i.journal (areas_shown s.left.labels) r.regions r.read (i.labels s.left.labels s.areas_left);
    disjoint = left_apart set.registry.sets r.regions i.journal _ script.labelcut (areas_shown s.left.labels) r.read r.apart (i.labels s.left.labels s.areas_left);
    survive = λ place d lt.
        subst (λ (ws : List Words). ArenasSurvive (slice_index_or namespaces place d) (words_at set.registry.sets (slice_index_or namespaces place d).place.found ws) (i.histories place)
        (λ k. flights_on (servings_of namespaces) place k script i.replies i.histories)) (sym same) (i.survive place d lt);
    beside =
        subst (λ (cs : List (List ℕ)). KeepsBeside set.registry.sets namespaces (rows_of cs) (map settled (map words_in (patched_contents (all_patched patch) contents)))) (sym (contents_are outline contents))
        (subst (λ (ws : List Words). KeepsBeside set.registry.sets namespaces (rows_of contents) ws) (sym same) i.beside);
    chosen =
        all_chosen leaves first behind join (AreasHold set.registry.sets (unclaimed (areas_seen set.registry.areas)) (label_rows set.registry.areas) script.labelcut i.journal) (AreLeft set.registry.sets (unclaimed (areas_seen set.registry.areas)) script.labelcut i.journal) set.registry.sets namespaces i.histories
        (λ place k. flights_on (servings_of namespaces) place k script i.replies i.histories) (map settled (map words_in (patched_contents (all_patched patch) contents))) (map area_words after) s.left.labels
        (subst (λ (ws : List Words). ArenasChosen first set.registry.sets namespaces i.histories (λ place k. flights_on (servings_of namespaces) place k script i.replies i.histories) ws) (sym same) i.chosen)
        s.chosen i.hold i.labels;
    saved =
        saves_parts (image_set_with outline contents) after keeps s.left.labels (map words_in (patched_contents (all_patched patch) contents)) report.ending report.text.items (text i.replies) (outcome_with answer contents) s.areas_left ends says
        (is_saving (image_set_with outline contents) contents set r.nfit r.bad patch report after answer s);
  }

-- ---- the namespaces of a registry in which none is claimed

pub unclaimed_same : (registry : Registered) → registry.claims ≡ [] → namespaces_in (state_of registry) ≡ namespaces_of registry.sets (areas_seen registry.areas)
unclaimed_same registry none = ap (with_claims (namespaces_of registry.sets (areas_seen registry.areas))) none

pub apart_in : (registry : Registered) → registry.claims ≡ [] → EntriesApart (namespaces_of registry.sets (areas_seen registry.areas)) → EntriesApart (namespaces_in (state_of registry))
apart_in registry none apart = subst EntriesApart (sym (unclaimed_same registry none)) apart

-- ---- `serve`

module _ (leaves : List (Option Words) → List (Option (List ℕ)) → Type 0) (script : Script) (loaded : ImageSet) (outcome : Outcome) where
  pub serve_faulty : (fault : OpenFault) → sets_in loaded ≡ Err fault → outcome ≡ open_outcome fault → ServeComes leaves script loaded outcome
  serve_faulty fault is said = subst (λ (r : Result (List (List Mapping)) OpenFault). ServesOnSets leaves loaded script r outcome) (sym is) said

  pub serve_recovered : (set : RecoveredSet) → IsRecoveredIn loaded set → OnRecovered leaves set.registry.sets loaded (areas_seen set.registry.areas) (label_rows set.registry.areas) script outcome → ServeComes leaves script loaded outcome
  serve_recovered set r on =
      subst (λ (s : Result (List (List Mapping)) OpenFault). ServesOnSets leaves loaded script s outcome) (sym r.sets)
      (subst (λ (xs : List (Option SeenArea)). OnRecovered leaves set.registry.sets loaded xs (recovered_words set.registry.sets loaded) script outcome) r.areas
      (subst (λ (ws : Rows). OnRecovered leaves set.registry.sets loaded (areas_seen set.registry.areas) ws script outcome) r.words on))

  pub serve_on : (sets : List (List Mapping)) (areas : List (Option SeenArea)) (words : Rows) (r : Result (List OpenedNamespace) Broken) → served_in sets areas loaded script ≡ r
      → OnOpened (λ opened. Serves leaves serve_text sets loaded areas words opened script) r outcome → OnRecovered leaves sets loaded areas words script outcome
  serve_on sets areas words r is on = subst (λ (x : Result (List OpenedNamespace) Broken). OnOpened (λ opened. Serves leaves serve_text sets loaded areas words opened script) x outcome) (sym is) on

-- ---- namespaces that are open, or not

module _ (comes : List OpenedNamespace → Outcome → Type 0) (outcome : Outcome) where
  pub on_held : (opened : List OpenedNamespace) → nat_lt most_held (opened_bytes opened) ≡ false → comes opened outcome → OnHeld comes opened outcome
  on_held opened few on = subst (λ (b : Bool). MatchBool b (outcome ≡ refused_outcome (held_text (opened_bytes opened))) (comes opened outcome)) (sym few) on

  pub on_large : (opened : List OpenedNamespace) → nat_lt most_held (opened_bytes opened) ≡ true → outcome ≡ refused_outcome (held_text (opened_bytes opened)) → OnHeld comes opened outcome
  on_large opened large said = subst (λ (b : Bool). MatchBool b (outcome ≡ refused_outcome (held_text (opened_bytes opened))) (comes opened outcome)) (sym large) said

  pub on_not : (r : Result (List OpenedNamespace) Broken) → IsNotOpen r outcome → OnOpened comes r outcome
  on_not (Ok opened) not = on_large opened not.0 not.1
  on_not (Err broken) not = not

-- ---- `load`

-- one namespace is open, or it isn't
pub one_done : (sets : List (List Mapping)) (rows : List Words) (place : FoundNamespace) (opened : List OpenedNamespace) → opened_each sets rows (place ∷ []) ≡ Ok opened
    → (states : List ArenaState) × (opened_view (words_at sets place.found rows) place.uuid ≡ Ok states) × (opened ≡ record { place = place; states = states } ∷ [])
one_done sets rows place opened is = by (opened_view (words_at sets place.found rows) place.uuid) refl is
  where
    by : (r : Result (List ArenaState) ChainRefused) → opened_view (words_at sets place.found rows) place.uuid ≡ r → on_states place r (Ok []) ≡ Ok opened
        → (states : List ArenaState) × (opened_view (words_at sets place.found rows) place.uuid ≡ Ok states) × (opened ≡ record { place = place; states = states } ∷ [])
    by (Ok states) read e = (states, read, (let same : record { place = place; states = states } ∷ [] ≡ opened = cc in sym same))
    by (Err fault) read e = absurd (let never = e in cc)

module _ (leaves : List (Option Words) → List (Option (List ℕ)) → Type 0) (l : Load) (loaded : ImageSet) (outcome : Outcome) where
  pub load_faulty : (fault : OpenFault) → sets_in loaded ≡ Err fault → outcome ≡ open_outcome fault → LoadComes leaves l loaded outcome
  load_faulty fault is said = subst (λ (r : Result (List (List Mapping)) OpenFault). LoadsOnSets leaves l loaded r outcome) (sym is) said

  pub load_recovered : (set : RecoveredSet) → IsRecoveredIn loaded set → LoadsRecovered leaves l set.registry.sets loaded (areas_seen set.registry.areas) (label_rows set.registry.areas) outcome → LoadComes leaves l loaded outcome
  load_recovered set r on =
      subst (λ (s : Result (List (List Mapping)) OpenFault). LoadsOnSets leaves l loaded s outcome) (sym r.sets)
      (subst (λ (xs : List (Option SeenArea)). LoadsRecovered leaves l set.registry.sets loaded xs (recovered_words set.registry.sets loaded) outcome) r.areas
      (subst (λ (ws : Rows). LoadsRecovered leaves l set.registry.sets loaded (areas_seen set.registry.areas) ws outcome) r.words on))

  module _ (sets : List (List Mapping)) (areas : List (Option SeenArea)) (words : Rows) where
    pub load_found : (r : Result Found OpRefused) → r ≡ found_of sets (lookup l.uuid (namespaces_of sets areas).entries) → LoadsOnFound leaves l sets loaded areas words r outcome → LoadsRecovered leaves l sets loaded areas words outcome
    load_found r is on = subst (λ (x : Result Found OpRefused). LoadsOnFound leaves l sets loaded areas words x outcome) is on

    pub load_arenas : (found : Found) (r : Result (List ArenaState) ChainRefused) → opened_view (words_at sets found (rows_of loaded.contents)) l.uuid ≡ r → LoadsOnArenas leaves l sets loaded areas words found r outcome
        → LoadsOnFound leaves l sets loaded areas words (Ok found) outcome
    load_arenas found r is on = subst (λ (x : Result (List ArenaState) ChainRefused). LoadsOnArenas leaves l sets loaded areas words found x outcome) (sym is) on

    pub load_few : (found : Found) (states : List ArenaState) → nat_lt (sectors_of states) l.sessions ≡ true → outcome ≡ refused_outcome (range_text (sectors_of states)) → LoadsOnStates leaves l sets loaded areas words found states outcome
    load_few found states few said = subst (λ (b : Bool). MatchBool b (outcome ≡ refused_outcome (range_text (sectors_of states))) (LoadsOn leaves l sets loaded areas words found states outcome)) (sym few) said

    pub load_on : (found : Found) (states : List ArenaState) → nat_lt (sectors_of states) l.sessions ≡ false → LoadsOn leaves l sets loaded areas words found states outcome → LoadsOnStates leaves l sets loaded areas words found states outcome
    load_on found states enough on = subst (λ (b : Bool). MatchBool b (outcome ≡ refused_outcome (range_text (sectors_of states))) (LoadsOn leaves l sets loaded areas words found states outcome)) (sym enough) on

    -- ---- the namespace that was found

    module _ (contents : List (List ℕ)) (same : loaded.contents ≡ contents) where
      view_same : (found : Found) → opened_view (words_at sets found (rows_of loaded.contents)) l.uuid ≡ opened_view (words_at sets found (rows_of contents)) l.uuid
      view_same found = ap (λ (cs : List (List ℕ)). opened_view (words_at sets found (rows_of cs)) l.uuid) same

      pub loads_opened : (r : Result Found OpRefused) → r ≡ found_of sets (lookup l.uuid (namespaces_of sets areas).entries) → (namespaces : List OpenedNamespace) → FindsIn sets contents l.uuid r (outcomes.Done namespaces)
          → ((found : Found) (states : List ArenaState) → namespaces ≡ one_opened l found states → AreHeld sets (rows_of contents) namespaces → LoadsOnStates leaves l sets loaded areas words found states outcome)
          → LoadsRecovered leaves l sets loaded areas words outcome
      loads_opened (Ok found) is namespaces (read, held, few) comes =
          let one = one_done sets (rows_of contents) (record { uuid = l.uuid; found = found }) namespaces read in
          load_found (Ok found) is
          (load_arenas found (Ok one.0) (view_same found ∙ one.1)
          (on_held (λ opened. LoadsOnStates leaves l sets loaded areas words found one.0) outcome (one_opened l found one.0) (subst (λ (ns : List OpenedNamespace). nat_lt most_held (opened_bytes ns) ≡ false) one.2 few)
          (comes found one.0 one.2 held)))
      loads_opened (Err refusal) is namespaces never comes = absurd never

      pub loads_not : (r : Result Found OpRefused) → r ≡ found_of sets (lookup l.uuid (namespaces_of sets areas).entries) → (report : Report) → FindsIn sets contents l.uuid r (outcomes.Not report) → outcome ≡ outcome_of report
          → LoadsRecovered leaves l sets loaded areas words outcome
      loads_not (Err refusal) is report said e = load_found (Err refusal) is (e ∙ said)
      loads_not (Ok found) is report not e = load_found (Ok found) is (by (opened_view (words_at sets found (rows_of contents)) l.uuid) refl not)
        where
          by : (v : Result (List ArenaState) ChainRefused) → opened_view (words_at sets found (rows_of contents)) l.uuid ≡ v → IsNotOpen (on_states (record { uuid = l.uuid; found = found }) v (Ok [])) (outcome_of report)
              → LoadsOnFound leaves l sets loaded areas words (Ok found) outcome
          by (Ok states) read (large, said) =
              load_arenas found (Ok states) (view_same found ∙ read) (on_large (λ opened. LoadsOnStates leaves l sets loaded areas words found states) outcome (one_opened l found states) large (e ∙ said))
          by (Err fault) read said = load_arenas found (Err fault) (view_same found ∙ read) (e ∙ said)
