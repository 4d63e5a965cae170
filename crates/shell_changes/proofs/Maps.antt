-- What the commands on namespaces make of the namespaces of an image set.
use Rattle.std.proofs.Common.{◌≡◌, ◌⊎◌, ℕ, zero, suc, ◌+◌, ◌-◌, ◌<◌, ◌≤◌, Bool, true, false, List, [], ◌∷◌, ◌++◌, map, take, Option, Some, None, Result, Ok, Err, refl, sym, ap, ◌∙◌, subst, inl, inr, arith, append-nil}
use Rattle.std.proofs.Math.Nat.{add-zero}
use Rattle.std.specs.Prelude.{MatchBool, nat_le, slice_get}
use Rattle.std.specs.Option.{option_map}
use Rattle.std.specs.Result.{result_ok}
use Rattle.std.specs.List.{AllByRecursion, Contains, flat_map}
use Rattle.std.proofs.lemmas.Bool.{cases_lt, le-leb, leb-false, lt-leb, true≢false}
use Rattle.std.proofs.lemmas.Option.{none-some}
use Rattle.nvd_media.specs.Images.{Images}
use Rattle.nvd_words.specs.Checks.{first_fault}
use Rattle.cut_words.specs.Words.{Words}
use Rattle.cut_words.specs.Fuses.{burnt, lasts}
use Rattle.cut_words.specs.WordBytes.{bytes_of}
use Rattle.nfit_reader.specs.declared.table.Mapping.{Mapping}
use Rattle.label_codec.specs.declared.label.Label.{Label}
use Rattle.label_codec.specs.Label.{label_reading}
use Rattle.label_codec.specs.Grammar.{StandsFor}
use Rattle.label_codec.proofs.Grammar.{reads_grammar}
use Rattle.label_index.specs.declared.index.IndexBlock.{IndexBlock}
use Rattle.label_area.specs.declared.fault.AreaFault.{AreaFault}
use Rattle.label_area.specs.Area.{block_in, labels_in, slot_bytes, slots_with}
use Rattle.region_space.specs.declared.extent.SpaceFault.{SpaceFault}
use Rattle.region_space.specs.Space.{overlap_of}
use Rattle.namespace_map.specs.declared.commands.Command.{Command}
use Rattle.namespace_map.specs.declared.commands.Command.TheVariants.{Create, Delete, Rename, Claim, Unclaim}
use Rattle.namespace_map.specs.declared.refused.OpRefused.{OpRefused}
use Rattle.namespace_map.specs.Namespaces.{NamespaceEntry, Namespaces, Part, extent_of, lookup, placed_of}
use Rattle.namespace_map.specs.Laws.{IsRising}
use Rattle.namespace_map.specs.Areas.{Area, Change, IsLeftBy, after_steps, all_changed, slots_of, slots_on, steps_of_all}
use Rattle.namespace_map.specs.Commands.{done, after_recovery, refusal_of}
use Rattle.namespace_map.specs.Changes.{changes_of, gone_changes, labels_at, namespaces_of, placed_in_all, recovered_areas, recovery_changes, settling_changes}
use Rattle.namespace_map.specs.Left.{LabelsAreRead, AreRegions}
use Rattle.namespace_map.proofs.Fronts.{cut_is_front}
use Rattle.namespace_map.proofs.Rising.{rising_entries}
use Rattle.namespace_laws.specs.Apart.{EntriesApart, KeepsApart, LeavesOthers as KeepsOthers}
use Rattle.namespace_laws.specs.Whole.{Agrees}
use Rattle.namespace_laws.proofs.Allowed.{area_free}
use Rattle.namespace_laws.proofs.AgreesCreate.{create_agrees}
use Rattle.namespace_laws.proofs.Cuts.{recovery_resumes}
use Rattle.namespace_laws.proofs.Disjoint.{create_apart, create_others}
use Rattle.namespace_laws.proofs.First.{delete_agrees, delete_apart, delete_others, rename_agrees, rename_apart, rename_others}
use Rattle.namespace_laws.proofs.Fronts.{take_all}
use Rattle.namespace_laws.proofs.Gone.{GoneAll, append_all, gone_all}
use Rattle.namespace_laws.proofs.GoneLists.{PutsBytes, read_all}
use Rattle.namespace_laws.proofs.RecoveryLaw.{recovery_agrees, self_found}
use Rattle.namespace_laws.proofs.SettleAll.{SettledAll, settled_all}
use Rattle.namespace_laws.proofs.TableRegions.{gives_regions}
use Rattle.namespace_areas.specs.Seen.{areas_shown}
use Rattle.namespace_areas.specs.Steps.{all_rows}
use Rattle.namespace_areas.proofs.Slots.{label_read}
use Rattle.namespace_areas.proofs.Went.{after_both, after_first, changed_both}
use Rattle.namespace_ops.specs.declared.registry.OpenFault.{OpenFault}
use Rattle.namespace_ops.specs.Opening.{overlap_as, overlap_fault, set_fault_from, sets_of}
use Rattle.image_set.specs.Load.{ImageSet}
use Rattle.shell_reports.specs.declared.status.Ending.{Ending}
use Rattle.shell_reports.specs.declared.status.Ending.TheVariants as ending
use Rattle.shell_reports.specs.declared.power.Power.{Power}
use Rattle.shell_reports.specs.List.{shown_by}
use Rattle.shell_reports.specs.Outcome.{Outcome}
use Rattle.shell_reports.specs.Saved.{IsSaving}
use Rattle.shell_changes.specs.Areas.{HasAreas, HasRows, area_by, area_in, areas_in, rows_in}
use Rattle.shell_changes.specs.Maps.{AcceptedIsApart, ChangesKeepApart, ChangesLabels, CrashIsInEither, CrashLeavesOthers, CrashRecovers, IsCutIn, IsLeftOf, OwnIsLeft, ReportsShowTheMap, CutInCommand, CutInFormat, CutInRecovery, DoneIsTheCommand, HasTable, SavesMap, map_of, uuid_of, with_bytes}
use Rattle.shell_changes.specs.Namespaces.{Ends, IsPowerCut, IsDone, OnSets, refusal_in, sets_in, work_by, work_in}
use Rattle.namespace_ops.specs.Counted.{makes_sectors}
use Rattle.shell_changes.specs.Work.{Arena, Formats, Work, arena_of, begun, count_of, label_changes, label_steps, steps_of_work}
use Rattle.shell_reports.specs.Faults.{refusal_text, refused_outcome}
use Rattle.shell_reports.proofs.More.{ending_of}
use Rattle.shell_changes.proofs.Apart.{labels_apart}
use Rattle.shell_changes.proofs.Own.{found_before, own_left, to_either}
use Rattle.shell_changes.proofs.RecoveryApart.{stopped_apart}
use Rattle.shell_changes.proofs.Areas.{rows_shown}
use Rattle.shell_changes.proofs.Behind.{after_none, format_left, label_long, label_short, none_left, rest_left, some_format, under_first, under_sum}
use Rattle.shell_changes.proofs.Runs.{no_arena}
use Rattle.namespace_ops.proofs.Regions.{no_first, parts_of, sets_are}

-- ---- images that are accepted

record IsAccepted (loaded : ImageSet) (sets : List (List Mapping)) : Type 0 where
  sound : set_fault_from 0 loaded.nfit.regions ≡ None
  clear : overlap_fault (placed_in_all (areas_in loaded.labels)) ≡ None
  same : sets_of loaded.nfit ≡ sets

accepted : (loaded : ImageSet) (sets : List (List Mapping)) → sets_in loaded ≡ Ok sets → IsAccepted loaded sets
accepted loaded sets are =
    let parts = parts_of (sets_of loaded.nfit) sets (first_fault (set_fault_from 0 loaded.nfit.regions ∷ overlap_fault (placed_in_all (areas_in loaded.labels)) ∷ [])) (sym are) in
    let one = no_first (set_fault_from 0 loaded.nfit.regions) (overlap_fault (placed_in_all (areas_in loaded.labels)) ∷ []) parts.0 in
    record { sound = one.0; clear = (no_first (overlap_fault (placed_in_all (areas_in loaded.labels))) [] one.1).0; same = parts.1 }

no_overlap : (o : Option SpaceFault) → option_map overlap_as o ≡ None → o ≡ None
no_overlap None e = refl
no_overlap (Some f) e = absurd (none-some _ (sym e))

pub accepted_apart : AcceptedIsApart
accepted_apart loaded sets are =
    labels_apart sets (areas_in loaded.labels) (no_overlap (overlap_of (map extent_of (placed_in_all (areas_in loaded.labels)))) (accepted loaded sets are).clear)

-- ---- what reports show

shown_with : (bytes : List ℕ) (b : Result IndexBlock AreaFault) → option_map labels_in (result_ok (slots_with bytes b)) ≡ labels_at (area_by bytes b)
shown_with bytes (Ok block) = refl
shown_with bytes (Err fault) = refl

shown_one : (area : Option (List ℕ)) → shown_by area ≡ labels_at (area_in area)
shown_one None = refl
shown_one (Some bytes) = shown_with bytes (block_in bytes)

shown_all : (labels : List (Option (List ℕ))) → map shown_by labels ≡ map labels_at (areas_in labels)
shown_all [] = refl
shown_all (area ∷ labels) = rw (shown_one area, shown_all labels) refl

pub reports_show : ReportsShowTheMap
reports_show loaded = ap placed_of (shown_all loaded.labels)

-- ---- what the laws of namespaces ask

label_bytes : (labels : List (Option (List ℕ))) (m s : ℕ) (l : Label) → slice_get (slots_on (areas_in labels) m) s ≡ Some (Some (Some l)) → (bytes : List ℕ) × (label_reading bytes s ≡ Ok l)
label_bytes [] m s l e = absurd (none-some (Some (Some l)) e)
label_bytes (None ∷ labels) zero s l e = absurd (none-some (Some (Some l)) e)
label_bytes (Some area ∷ labels) zero s l e = by (block_in area) e
  where
    by : (b : Result IndexBlock AreaFault) → slice_get (slots_of (area_by area b)) s ≡ Some (Some (Some l)) → (bytes : List ℕ) × (label_reading bytes s ≡ Ok l)
    by (Err fault) is = absurd (none-some (Some (Some l)) is)
    by (Ok block) is =
        let at : 0 + s ≡ s = omega arith in
        let read : label_reading (slot_bytes area block.size s) s ≡ Ok l =
        subst (λ (n : ℕ). label_reading (slot_bytes area block.size n) n ≡ Ok l) at (label_read area block.size 0 block.free s l is) in
        (slot_bytes area block.size s, read)
label_bytes (area ∷ labels) (suc m) s l e = label_bytes labels m s l e

label_stands : (labels : List (Option (List ℕ))) (m s : ℕ) (l : Label) → slice_get (slots_on (areas_in labels) m) s ≡ Some (Some (Some l)) → (bytes : List ℕ) × StandsFor bytes s l
label_stands labels m s l e = let (bytes, read) = label_bytes labels m s l e in (bytes, reads_grammar bytes s l read)

-- labels are those that a reader finds valid
pub areas_read : (labels : List (Option (List ℕ))) → LabelsAreRead (areas_in labels)
areas_read labels = record {
  number = λ m s l e. let (bytes, stands) = label_stands labels m s l e in stands.slot ∙ stands.numbered;
  bytes = λ m s l e. let (bytes, stands) = label_stands labels m s l e in stands.raw_some;
}

-- they stay so in recovery
module _ (sets : List (List Mapping)) (areas : List (Option Area)) (regions : AreRegions sets) (read : LabelsAreRead areas) where
  abbrev first : List Change
  first = flat_map (gone_changes areas) (namespaces_of sets areas).entries

  abbrev left : List (Option Area)
  left = all_changed areas first

  abbrev second : List Change
  second = flat_map (settling_changes left) (namespaces_of sets left).entries

  rising : IsRising (namespaces_of sets areas).entries
  rising = rising_entries sets (placed_in_all areas)

  rising_left : IsRising (namespaces_of sets left).entries
  rising_left = rising_entries sets (placed_in_all left)

  went : GoneAll sets areas (namespaces_of sets areas).entries first
  went = gone_all (namespaces_of sets areas).entries sets areas read rising (self_found (namespaces_of sets areas).entries rising)

  settles : SettledAll sets left (namespaces_of sets left) (namespaces_of sets left).entries second
  settles =
      settled_all (namespaces_of sets left).entries sets left (namespaces_of sets left) regions (read_all first areas read went.bytes) rising_left
      (self_found (namespaces_of sets left).entries rising_left) (area_free sets left)

  bytes : AllByRecursion PutsBytes (recovery_changes sets areas)
  bytes = append_all PutsBytes first second went.bytes settles.bytes

  pub recovered_read : LabelsAreRead (recovered_areas sets areas)
  recovered_read = read_all (recovery_changes sets areas) areas read bytes

  cut_read : (n : ℕ) (stays : Bool) → LabelsAreRead (after_steps areas (recovery_changes sets areas) n stays)
  cut_read n stays =
      let front = cut_is_front (recovery_changes sets areas) areas n stays in
      subst LabelsAreRead (sym front.2) (read_all (take front.0 (recovery_changes sets areas)) areas read (take_all PutsBytes front.0 (recovery_changes sets areas) bytes))

  -- a cut within recovery recovers to what recovery makes
  cut_recovers : (n : ℕ) (stays : Bool) → after_recovery (namespaces_of sets (after_steps areas (recovery_changes sets areas) n stays)) ≡ after_recovery (namespaces_of sets areas)
  cut_recovers n stays =
      sym (recovery_agrees sets (after_steps areas (recovery_changes sets areas) n stays) regions (cut_read n stays)) ∙ recovery_resumes sets areas regions read n stays
      ∙ recovery_agrees sets areas regions read

-- a command that isn't refused
agreed : (sets : List (List Mapping)) (areas : List (Option Area)) (c : Command) → ChangesLabels c → AreRegions sets → LabelsAreRead areas → refusal_of (namespaces_of sets areas) c ≡ None → Agrees sets areas c
agreed sets areas (Create spec) changes regions read none = create_agrees sets areas spec.uuid spec.name spec.region spec.size spec.make regions none
agreed sets areas (Delete uuid) changes regions read none = delete_agrees sets areas uuid regions read none
agreed sets areas (Rename uuid name) changes regions read none = rename_agrees sets areas uuid name regions read none
agreed sets areas (Claim uuid) changes regions read none = absurd changes
agreed sets areas (Unclaim uuid) changes regions read none = absurd changes

-- ---- apart

-- an entry after recovery has the parts that it had
parts_before : (ns : Namespaces) (u : List ℕ) (e : NamespaceEntry) → lookup u (after_recovery ns).entries ≡ Some e → (x : NamespaceEntry) × (lookup u ns.entries ≡ Some x) × (e.parts ≡ x.parts)
parts_before ns u e is = let (x, was, settled) = found_before ns u e is in (x, was, ap (λ (y : NamespaceEntry). y.parts) (sym settled))

recovered_apart : (ns : Namespaces) → EntriesApart ns → EntriesApart (after_recovery ns)
recovered_apart ns before u v e f differ at_u at_v a b in_e in_f =
    let (x, x_is, x_parts) = parts_before ns u e at_u in
    let (y, y_is, y_parts) = parts_before ns v f at_v in
    before u v x y differ x_is y_is a b (subst (λ (ps : List Part). Contains ps a) x_parts in_e) (subst (λ (ps : List Part). Contains ps b) y_parts in_f)

leaves_others : (sets : List (List Mapping)) (areas : List (Option Area)) (c : Command) → ChangesLabels c → AreRegions sets → LabelsAreRead areas → refusal_of (namespaces_of sets areas) c ≡ None → KeepsOthers sets areas (uuid_of c) c
leaves_others sets areas (Create spec) changes regions read none = create_others sets areas spec.uuid spec.name spec.region spec.size spec.make regions none
leaves_others sets areas (Delete uuid) changes regions read none = delete_others sets areas uuid regions read none
leaves_others sets areas (Rename uuid name) changes regions read none = rename_others sets areas uuid name regions read none
leaves_others sets areas (Claim uuid) changes regions read none = absurd changes
leaves_others sets areas (Unclaim uuid) changes regions read none = absurd changes

keeps : (sets : List (List Mapping)) (areas : List (Option Area)) (c : Command) → ChangesLabels c → AreRegions sets → LabelsAreRead areas → refusal_of (namespaces_of sets areas) c ≡ None → KeepsApart sets areas c
keeps sets areas (Create spec) changes regions read none = create_apart sets areas spec.uuid spec.name spec.region spec.size spec.make regions none
keeps sets areas (Delete uuid) changes regions read none = delete_apart sets areas uuid regions read none
keeps sets areas (Rename uuid name) changes regions read none = rename_apart sets areas uuid name regions read none
keeps sets areas (Claim uuid) changes regions read none = absurd changes
keeps sets areas (Unclaim uuid) changes regions read none = absurd changes

-- the areas after all steps
pub after_whole : (xs : List Change) (areas : List (Option Area)) → after_steps areas xs (steps_of_all areas xs) true ≡ all_changed areas xs
unfolding after_steps
after_whole xs areas =
    ap (λ (cs : List Change). after_steps areas cs (steps_of_all areas xs) true) (sym (append-nil xs)) ∙ after_both xs [] areas (steps_of_all areas xs) true (omega arith)

pub regions_of : (loaded : ImageSet) (sets : List (List Mapping)) → HasTable loaded → sets_in loaded ≡ Ok sets → AreRegions sets
regions_of loaded sets table are =
    let it = accepted loaded sets are in
    subst AreRegions it.same (gives_regions loaded.nfit_bytes loaded.nfit (sets_of loaded.nfit) table.read table.counted (sets_are loaded.nfit.regions 0 it.sound))

pub keep_apart : ChangesKeepApart
keep_apart c loaded sets changes table are =
    let seen : List (Option Area) = areas_in loaded.labels in
    let mid : List (Option Area) = recovered_areas sets seen in
    let regions = regions_of loaded sets table are in
    let read : LabelsAreRead seen = areas_read loaded.labels in
    let read_mid : LabelsAreRead mid = recovered_read sets seen regions read in
    let map_is : namespaces_of sets mid ≡ after_recovery (map_of sets loaded) = recovery_agrees sets seen regions read in
    let first : EntriesApart (after_recovery (map_of sets loaded)) = recovered_apart (map_of sets loaded) (accepted_apart loaded sets are) in
    let first_mid : EntriesApart (namespaces_of sets mid) = subst EntriesApart (sym map_is) first in
    let own : List Change = changes_of (namespaces_of sets mid) mid c in
    record {
      recovery = first;
      in_recovery = λ n stays. stopped_apart sets seen n stays (no_overlap (overlap_of (map extent_of (placed_in_all seen))) (accepted loaded sets are).clear);
      after_command = λ none.
          subst EntriesApart (ap (namespaces_of sets) (after_whole own mid) ∙ agreed sets mid c changes regions read_mid none ∙ ap (λ (ns : Namespaces). done ns c) map_is)
          (keeps sets mid c changes regions read_mid none first_mid (steps_of_all mid own) true);
      after_crash = λ none n stays. keeps sets mid c changes regions read_mid none first_mid n stays;
    }

-- ---- recovered again

-- recovery of what recovery has made changes nothing
recovers_once : (sets : List (List Mapping)) (areas : List (Option Area)) → AreRegions sets → LabelsAreRead areas → after_recovery (after_recovery (namespaces_of sets areas)) ≡ after_recovery (namespaces_of sets areas)
recovers_once sets areas regions read =
    ap after_recovery (sym (recovery_agrees sets areas regions read) ∙ ap (namespaces_of sets) (sym (after_whole (recovery_changes sets areas) areas)))
    ∙ cut_recovers sets areas regions read (steps_of_all areas (recovery_changes sets areas)) true

-- ---- a set that is saved

-- a saved set is the same as one with these rows
has_shown : (loaded : ImageSet) (rows : List (Option (List ℕ))) (e : Ending) (text : List ℕ) (set : Images) (outcome : Outcome) → HasRows loaded rows set → (s : IsSaving e text set outcome)
    → HasAreas loaded (areas_shown rows) s.saved
has_shown loaded rows e text set outcome has s = record {
  labels = map (option_map bytes_of) rows;
  shown = rows_shown rows;
  unread = has.unread;
  sizes = has.sizes;
  objects = λ o. s.same o ∙ has.objects o;
}

-- contents are those that were loaded, unless a format has begun
now_is : (b : Bool) (arena : Option Arena) (loaded : ImageSet) (fuse : Option ℕ) (contents : List Words) (rows : List (List ℕ)) (now : ImageSet) → Formats (begun b arena) loaded fuse contents rows now
    → (now ≡ with_bytes loaded now.contents) × (begun b arena ≡ None → now.contents ≡ loaded.contents)
now_is false arena loaded fuse contents rows now (none, nothing, same) =
    (subst (λ (x : ImageSet). x ≡ with_bytes loaded x.contents) (sym same) refl, λ is. ap (λ (x : ImageSet). x.contents) same)
now_is true None loaded fuse contents rows now (none, nothing, same) =
    (subst (λ (x : ImageSet). x ≡ with_bytes loaded x.contents) (sym same) refl, λ is. ap (λ (x : ImageSet). x.contents) same)
now_is true (Some arena) loaded fuse contents rows now (formatted, same) =
    (subst (λ (x : ImageSet). x ≡ with_bytes loaded x.contents) (sym same) refl, λ is. absurd (none-some arena (sym is)))

begun_none : (b : Bool) (arena : Option Arena) → arena ≡ None → begun b arena ≡ None
begun_none false arena is = refl
begun_none true arena is = is

saves_shown : (sets : List (List Mapping)) (loaded now : ImageSet) (formats : Bool) (rows : List (Option (List ℕ))) (ns : Namespaces) (e : Ending) (text : List ℕ) (set : Images) (outcome : Outcome) → now ≡ with_bytes loaded now.contents
    → (formats ≡ false → now.contents ≡ loaded.contents) → HasRows now rows set → IsSaving e text set outcome → namespaces_of sets (areas_shown rows) ≡ ns → SavesMap sets loaded formats ns outcome
saves_shown sets loaded now formats rows ns e text set outcome same kept has s is = record {
  set = s.saved;
  saved = s.saves;
  contents = now.contents;
  kept = kept;
  areas = areas_shown rows;
  has = subst (λ (x : ImageSet). HasAreas x (areas_shown rows) s.saved) same (has_shown now rows e text set outcome has s);
  map = is;
}

-- ---- a command

le_self : (n : ℕ) → n ≤ n
le_self n = omega arith

never : (a b : ℕ) → a < b → b ≤ a → ⊥
never a b lt le = omega (arith, lt, le)

not_some : (n : ℕ) → 1 ≤ n → n ≡ 0 → ⊥
not_some n some none = omega (arith, some, none)

module _ (leaves : ℕ → List (Option Words) → List (Option (List ℕ)) → Type 0) (c : Command) (power : Power) (loaded : ImageSet) (sets : List (List Mapping)) (outcome : Outcome) where
  abbrev seen : List (Option Area)
  seen = areas_in loaded.labels

  abbrev mid : List (Option Area)
  mid = recovered_areas sets (areas_in loaded.labels)

  abbrev recovery : List Change
  recovery = recovery_changes sets (areas_in loaded.labels)

  abbrev own : List Change
  own = changes_of (namespaces_of sets mid) mid c

  abbrev arena : Option Arena
  arena = arena_of (namespaces_of sets mid) c

  abbrev early : ℕ
  early = steps_of_all (areas_in loaded.labels) (recovery_changes sets (areas_in loaded.labels))

  abbrev format : ℕ
  format = count_of (arena_of (namespaces_of sets mid) c)

  -- a command that makes no sectors keeps contents
  kept_by : (b : Bool) → makes_sectors c ≡ false → begun b arena ≡ None
  kept_by b plain = begun_none b arena (no_arena (namespaces_of sets mid) c plain)

  -- ---- to its end

  done_shown : ChangesLabels c → HasTable loaded → sets_in loaded ≡ Ok sets → refusal_in sets seen c ≡ None → IsDone loaded seen (work_by sets seen c None) outcome
      → SavesMap sets loaded (makes_sectors c) (done (after_recovery (map_of sets loaded)) c) outcome
  done_shown changes table are none d =
      let regions : AreRegions sets = regions_of loaded sets table are in
      let read : LabelsAreRead seen = areas_read loaded.labels in
      let agrees : Agrees sets mid c = agreed sets mid c changes regions (recovered_read sets seen regions read) none in
      let is = now_is true arena loaded None d.contents d.contents_left d.now d.formats in
      saves_shown sets loaded d.now (makes_sectors c) (all_rows (rows_in loaded) (recovery ++ own)) (done (after_recovery (map_of sets loaded)) c) ending.Done _ d.set outcome is.0 (λ plain. is.1 (kept_by true plain)) d.has d.saves
      (ap (namespaces_of sets) (d.shown ∙ changed_both recovery own seen) ∙ agrees ∙ ap (λ (ns : Namespaces). done ns c) (recovery_agrees sets seen regions read))

  done_by : ChangesLabels c → HasTable loaded → sets_in loaded ≡ Ok sets → outcome.ending ≡ ending.Done → (r : Option OpRefused) → refusal_in sets seen c ≡ r
      → Ends loaded seen (work_by sets seen c r) r outcome → SavesMap sets loaded (makes_sectors c) (done (after_recovery (map_of sets loaded)) c) outcome
  done_by changes table are ended None none d = done_shown changes table are none d
  done_by changes table are ended (Some f) some said = absurd (let e : ending.Refused ≡ ending.Done = sym (ending_of outcome (refused_outcome (refusal_text f)) said) ∙ ended in cc)

  done_on : ChangesLabels c → HasTable loaded → sets_in loaded ≡ Ok sets → outcome.ending ≡ ending.Done → (b : Bool)
      → MatchBool b (Ends loaded seen (work_in sets seen c) (refusal_in sets seen c) outcome) (IsPowerCut leaves loaded seen (work_in sets seen c) power outcome)
      → SavesMap sets loaded (makes_sectors c) (done (after_recovery (map_of sets loaded)) c) outcome
  done_on changes table are ended true ends = done_by changes table are ended (refusal_in sets seen c) refl ends
  done_on changes table are ended false cut = absurd (let e : ending.PowerCut ≡ ending.Done = sym cut.saves.ends ∙ ended in cc)

  -- ---- cut

  left_as : (work : Work) (cut : IsPowerCut leaves loaded seen work power outcome) (formats : Bool) (areas : List (Option Area)) → (formats ≡ false → begun (lasts power.steps (steps_of_all seen work.recovery)) work.arena ≡ None)
      → areas_shown cut.rows ≡ areas → SavesMap sets loaded formats (namespaces_of sets areas) outcome
  left_as work cut formats areas kept is =
      let now = now_is (lasts power.steps (steps_of_all seen work.recovery)) work.arena loaded (burnt power.steps (steps_of_all seen work.recovery)) cut.contents cut.contents_left cut.now cut.formats in
      saves_shown sets loaded cut.now formats cut.rows (namespaces_of sets areas) ending.PowerCut _ cut.set outcome now.0 (λ plain. now.1 (kept plain)) cut.has cut.saves (ap (namespaces_of sets) is)

  steps_are : (work : Work) (cut : IsPowerCut leaves loaded seen work power outcome) (n : ℕ) → power.steps ≡ Some n → cut.steps ≡ n
  steps_are work cut n is = let both : Some cut.steps ≡ Some n = sym cut.given ∙ is in cc

  left_after : (work : Work) (cut : IsPowerCut leaves loaded seen work power outcome) (n k : ℕ) → power.steps ≡ Some n → label_steps seen work n ≡ k → IsLeftBy seen (label_changes work) k (areas_shown cut.rows)
  left_after work cut n k is label_is =
      subst (λ (m : ℕ). IsLeftBy seen (label_changes work) m (areas_shown cut.rows)) (ap (label_steps seen work) (steps_are work cut n is) ∙ label_is) (cut.leave cut.rows cut.left_of)

  -- in recovery, whatever stands behind it
  in_recovery : (arena' : Option Arena) (own' : List Change) (cut : IsPowerCut leaves loaded seen (record { recovery = recovery; arena = arena'; own = own' }) power outcome) (n : ℕ) → power.steps ≡ Some n → n < early → CutInRecovery sets loaded n outcome
  in_recovery arena' own' cut n is lt = by (left_after (record { recovery = recovery; arena = arena'; own = own' }) cut n n is (label_short early (count_of arena') n short))
    where
      short : nat_le early n ≡ false
      short = lt-leb early n lt

      kept : false ≡ false → begun (lasts power.steps early) arena' ≡ None
      kept e = ap (λ (f : Option ℕ). begun (lasts f early) arena') is ∙ ap (λ (b : Bool). begun b arena') short

      by : IsLeftBy seen (recovery ++ own') n (areas_shown cut.rows) → CutInRecovery sets loaded n outcome
      by (inl e) = (true, left_as (record { recovery = recovery; arena = arena'; own = own' }) cut false (after_steps seen recovery n true) kept (e ∙ after_first recovery own' seen n true lt))
      by (inr e) = (false, left_as (record { recovery = recovery; arena = arena'; own = own' }) cut false (after_steps seen recovery n false) kept (e ∙ after_first recovery own' seen n false lt))

  -- in the format
  in_format : (cut : IsPowerCut leaves loaded seen (work_by sets seen c None) power outcome) (n : ℕ) → power.steps ≡ Some n → early ≤ n → n < early + format → CutInFormat sets loaded outcome
  in_format cut n is le lt =
      by (left_after (work_by sets seen c None) cut n early is (label_long early format n (le-leb early n le) ∙ format_left early format n le lt))
    where
      made : (stays : Bool) → after_steps seen (recovery ++ own) early stays ≡ mid
      made stays =
          after_both recovery own seen early stays (le_self early) ∙ after_none own mid (early - early) stays (none_left early)

      by : IsLeftBy seen (recovery ++ own) early (areas_shown cut.rows) → CutInFormat sets loaded outcome
      by (inl e) = left_as (work_by sets seen c None) cut true mid (λ no. absurd (true≢false no)) (e ∙ made true)
      by (inr e) = left_as (work_by sets seen c None) cut true mid (λ no. absurd (true≢false no)) (e ∙ made false)

  -- in the command's label changes
  in_command : (cut : IsPowerCut leaves loaded seen (work_by sets seen c None) power outcome) (n : ℕ) → power.steps ≡ Some n → early + format ≤ n → CutInCommand sets loaded c (n - early - format) outcome
  in_command cut n is le =
      by (left_after (work_by sets seen c None) cut n (early + (n - early - format)) is (label_long early format n (le-leb early n (under_first early format n le))))
    where
      made : (stays : Bool) → after_steps seen (recovery ++ own) (early + (n - early - format)) stays ≡ after_steps mid own (n - early - format) stays
      made stays =
          after_both recovery own seen (early + (n - early - format)) stays (under_sum early (n - early - format))
          ∙ ap (λ (k : ℕ). after_steps mid own k stays) (rest_left early (n - early - format))

      by : IsLeftBy seen (recovery ++ own) (early + (n - early - format)) (areas_shown cut.rows) → CutInCommand sets loaded c (n - early - format) outcome
      by (inl e) = (true, left_as (work_by sets seen c None) cut (makes_sectors c) (after_steps mid own (n - early - format) true) (kept_by (lasts power.steps early)) (e ∙ made true))
      by (inr e) = (false, left_as (work_by sets seen c None) cut (makes_sectors c) (after_steps mid own (n - early - format) false) (kept_by (lasts power.steps early)) (e ∙ made false))

  cut_by : (n : ℕ) → power.steps ≡ Some n → (r : Option OpRefused) → refusal_in sets seen c ≡ r → lasts power.steps (steps_of_work seen (work_by sets seen c r)) ≡ false
      → IsPowerCut leaves loaded seen (work_by sets seen c r) power outcome → IsCutIn sets loaded c n outcome
  cut_by n is (Some f) some short cut =
      let none : steps_of_all seen (recovery ++ []) + 0 ≡ early = add-zero (steps_of_all seen (recovery ++ [])) ∙ ap (λ (cs : List Change). steps_of_all seen cs) (append-nil recovery) in
      let lt : n < early = leb-false early n (ap (λ (k : ℕ). nat_le k n) (sym none) ∙ ap (λ (p : Option ℕ). lasts p (steps_of_all seen (recovery ++ []) + 0)) (sym is) ∙ short) in
      inl (lt, in_recovery None [] cut n is lt)
  cut_by n is None none short cut =
      elim (cases_lt n early) [
        | inl lt ↦ inl (lt, in_recovery arena own cut n is lt)
        | inr le ↦ elim (cases_lt n (early + format)) [
          | inl lt ↦ inr (inl (le, lt, none, in_format cut n is le lt))
          | inr far ↦ inr (inr (far, none, in_command cut n is far))
        ]
      ]

  not_cut : (r : Option OpRefused) → Ends loaded seen (work_by sets seen c r) r outcome → outcome.ending ≡ ending.PowerCut → ⊥
  not_cut None d cut = let e : ending.Done ≡ ending.PowerCut = sym d.saves.ends ∙ cut in cc
  not_cut (Some f) said cut = let e : ending.Refused ≡ ending.PowerCut = sym (ending_of outcome (refused_outcome (refusal_text f)) said) ∙ cut in cc

  -- power was given for so many steps
  cut_steps : outcome.ending ≡ ending.PowerCut → (b : Bool)
      → MatchBool b (Ends loaded seen (work_in sets seen c) (refusal_in sets seen c) outcome) (IsPowerCut leaves loaded seen (work_in sets seen c) power outcome) → (n : ℕ) × (power.steps ≡ Some n)
  cut_steps ended true ends = absurd (not_cut (refusal_in sets seen c) ends ended)
  cut_steps ended false cut = (cut.steps, cut.given)

  cut_on : (n : ℕ) → power.steps ≡ Some n → outcome.ending ≡ ending.PowerCut → (b : Bool) → lasts power.steps (steps_of_work seen (work_in sets seen c)) ≡ b
      → MatchBool b (Ends loaded seen (work_in sets seen c) (refusal_in sets seen c) outcome) (IsPowerCut leaves loaded seen (work_in sets seen c) power outcome) → IsCutIn sets loaded c n outcome
  cut_on n is ended true long ends = absurd (not_cut (refusal_in sets seen c) ends ended)
  cut_on n is ended false short cut = cut_by n is (refusal_in sets seen c) refl short cut

  -- ---- recovered again

  -- a set whose contents are kept is one whose contents may have changed
  any_contents : (formats : Bool) (ns : Namespaces) → SavesMap sets loaded false ns outcome → SavesMap sets loaded formats ns outcome
  any_contents formats ns s = record { set = s.set; saved = s.saved; contents = s.contents; kept = λ e. s.kept refl; areas = s.areas; has = s.has; map = s.map }

  -- a format of one step or more is that of a command that makes sectors
  formats_sectors : 1 ≤ format → makes_sectors c ≡ true
  formats_sectors some = by (makes_sectors c) refl
    where
      by : (b : Bool) → makes_sectors c ≡ b → makes_sectors c ≡ true
      by true is = is
      by false is =
          let none : format ≡ 0 = ap (λ (o : Option Arena). count_of o) (no_arena (namespaces_of sets mid) c is) in
          absurd (not_some format some none)

  abbrev Recovers : Type 0
  Recovers = (ns : Namespaces) × SavesMap sets loaded (makes_sectors c) ns outcome × ((after_recovery ns ≡ after_recovery (map_of sets loaded)) ⊎ (after_recovery ns ≡ after_recovery (done (after_recovery (map_of sets loaded)) c)))

  recovers_by : (n : ℕ) → ChangesLabels c → HasTable loaded → sets_in loaded ≡ Ok sets → IsCutIn sets loaded c n outcome → Recovers
  recovers_by n changes table are (inl (lt, (stays, saves))) = (
    namespaces_of sets (after_steps seen recovery n stays),
    any_contents (makes_sectors c) (namespaces_of sets (after_steps seen recovery n stays)) saves,
    inl (cut_recovers sets seen (regions_of loaded sets table are) (areas_read loaded.labels) n stays),
  )
  recovers_by n changes table are (inr (inl (le, lt, none, saves))) =
      let regions = regions_of loaded sets table are in
      let read : LabelsAreRead seen = areas_read loaded.labels in (
        namespaces_of sets mid,
        subst (λ (b : Bool). SavesMap sets loaded b (namespaces_of sets mid) outcome) (sym (formats_sectors (some_format early format n le lt))) saves,
        inl (ap after_recovery (recovery_agrees sets seen regions read) ∙ recovers_once sets seen regions read),
      )
  recovers_by n changes table are (inr (inr (far, none, (stays, saves)))) =
      let regions = regions_of loaded sets table are in
      let read : LabelsAreRead seen = areas_read loaded.labels in
      let map_is : namespaces_of sets mid ≡ after_recovery (map_of sets loaded) = recovery_agrees sets seen regions read in
      let rest : ℕ = n - early - format in (
        namespaces_of sets (after_steps mid own rest stays),
        saves,
        elim (to_either sets seen mid regions (recovered_read sets seen regions read) map_is c changes none rest stays) [
          | inl before ↦ inl (before ∙ ap after_recovery map_is ∙ recovers_once sets seen regions read)
          | inr after ↦ inr (after ∙ ap (λ (ns : Namespaces). after_recovery (done ns c)) map_is)
        ],
      )

  -- ---- the namespaces one by one

  abbrev LeavesAll : Type 0
  LeavesAll = (ns : Namespaces) × SavesMap sets loaded (makes_sectors c) ns outcome × IsLeftOf (after_recovery (map_of sets loaded)) ns c

  left_by : ChangesLabels c → HasTable loaded → sets_in loaded ≡ Ok sets → refusal_in sets seen c ≡ None → (k : ℕ) (stays : Bool) → IsLeftOf (after_recovery (map_of sets loaded)) (namespaces_of sets (after_steps mid own k stays)) c
  left_by changes table are none k stays =
      let regions = regions_of loaded sets table are in
      let read : LabelsAreRead seen = areas_read loaded.labels in
      let read_mid : LabelsAreRead mid = recovered_read sets seen regions read in
      let map_is : namespaces_of sets mid ≡ after_recovery (map_of sets loaded) = recovery_agrees sets seen regions read in
      let apart : EntriesApart (namespaces_of sets mid) = subst EntriesApart (sym map_is) (recovered_apart (map_of sets loaded) (accepted_apart loaded sets are)) in
      record {
        others = λ other ne. leaves_others sets mid c changes regions read_mid none k stays other ne ∙ ap (λ (ns : Namespaces). lookup other ns.entries) map_is;
        apart = keeps sets mid c changes regions read_mid none apart k stays;
        own = subst (λ (ns : Namespaces). OwnIsLeft ns c (lookup (uuid_of c) (namespaces_of sets (after_steps mid own k stays)).entries)) map_is
            (own_left sets seen mid regions read_mid map_is c changes none k stays);
      }

  others_by : (n : ℕ) → ChangesLabels c → HasTable loaded → sets_in loaded ≡ Ok sets → early ≤ n → IsCutIn sets loaded c n outcome → LeavesAll
  others_by n changes table are le (inl (lt, saves)) = absurd (never n early lt le)
  others_by n changes table are le (inr (inl (le', lt, none, saves))) = (
    namespaces_of sets mid,
    subst (λ (b : Bool). SavesMap sets loaded b (namespaces_of sets mid) outcome) (sym (formats_sectors (some_format early format n le' lt))) saves,
    subst (λ (areas : List (Option Area)). IsLeftOf (after_recovery (map_of sets loaded)) (namespaces_of sets areas) c) (after_none own mid 0 true refl) (left_by changes table are none 0 true),
  )
  others_by n changes table are le (inr (inr (far, none, (stays, saves)))) = (
    namespaces_of sets (after_steps mid own (n - early - format) stays),
    saves,
    left_by changes table are none (n - early - format) stays,
  )

pub done_is : (leaves : ℕ → List (Option Words) → List (Option (List ℕ)) → Type 0) → DoneIsTheCommand leaves
done_is leaves c power loaded sets outcome changes table are comes ended =
    done_on leaves c power loaded sets outcome changes table are ended (lasts power.steps (steps_of_work (areas_in loaded.labels) (work_in sets (areas_in loaded.labels) c)))
    (subst (λ (r : Result (List (List Mapping)) OpenFault). OnSets leaves loaded c power r outcome) are comes)

pub crash_is : (leaves : ℕ → List (Option Words) → List (Option (List ℕ)) → Type 0) → CrashIsInEither leaves
crash_is leaves c power loaded sets outcome n is are comes ended =
    cut_on leaves c power loaded sets outcome n is ended (lasts power.steps (steps_of_work (areas_in loaded.labels) (work_in sets (areas_in loaded.labels) c))) refl
    (subst (λ (r : Result (List (List Mapping)) OpenFault). OnSets leaves loaded c power r outcome) are comes)

pub crash_leaves : (leaves : ℕ → List (Option Words) → List (Option (List ℕ)) → Type 0) → CrashLeavesOthers leaves
crash_leaves leaves c power loaded sets outcome n is changes table are comes ended le =
    others_by leaves c power loaded sets outcome n changes table are le (crash_is leaves c power loaded sets outcome n is are comes ended)

pub crash_recovers : (leaves : ℕ → List (Option Words) → List (Option (List ℕ)) → Type 0) → CrashRecovers leaves
crash_recovers leaves c power loaded sets outcome changes table are comes ended =
    let (n, is) = cut_steps leaves c power loaded sets outcome ended (lasts power.steps (steps_of_work (areas_in loaded.labels) (work_in sets (areas_in loaded.labels) c)))
    (subst (λ (r : Result (List (List Mapping)) OpenFault). OnSets leaves loaded c power r outcome) are comes) in
    recovers_by leaves c power loaded sets outcome n changes table are (crash_is leaves c power loaded sets outcome n is are comes ended)
