-- Label areas and contents that are changed, and the set that is saved then.
use Rattle.std.specs.Prelude.{◌≡◌, ◌⊎◌, ℕ, ◌+◌, ◌*◌, ◌%◌, ◌<◌, ◌≤◌, Bool, true, false, List, [], ◌++◌, length, map, Option, Some, None, Result, Err, is_ok}
use Rattle.nvd_media.specs.Images.{Images}
use Rattle.cut_words.specs.Words.{Words, IsLeft}
use Rattle.cut_words.specs.Fuses.{burnt, lasts}
use Rattle.nfit_reader.specs.declared.table.Mapping.{Mapping}
use Rattle.interleave.specs.Places.{unit_of}
use Rattle.interleave.specs.Sound.{span_of}
use Rattle.arena_layout.specs.Layout.{IsLayout}
use Rattle.arena_open.specs.Format.{format_count}
use Rattle.power_cut.specs.Left.{Each}
use Rattle.power_cut.specs.Namespace.{over}
use Rattle.namespace_areas.specs.declared.area.Area.{Area}
use Rattle.namespace_map.specs.declared.commands.Command.{Command}
use Rattle.namespace_map.specs.declared.commands.Command.TheVariants.{Create}
use Rattle.namespace_map.specs.declared.commands.CreateSpec.{CreateSpec}
use Rattle.namespace_map.specs.declared.refused.OpRefused.{OpRefused}
use Rattle.namespace_map.specs.declared.refused.OpRefused.TheVariants.{PowerCut}
use Rattle.namespace_map.specs.Areas.{Change}
use Rattle.namespace_map.specs.Commands.{refusal_of, set_of}
use Rattle.namespace_map.specs.Changes.{changes_of, recovery_changes}
use Rattle.namespace_areas.specs.Seen.{AreLeft, areas_seen, words_of}
use Rattle.namespace_areas.specs.Went.{Went}
use Rattle.namespace_areas.specs.Finding.{set_at}
use Rattle.namespace_areas.specs.Refusals.{offset_for, shown}
use Rattle.sector_namespaces.specs.Creation.{CanLie, IsFormattedIn, has_sectors, layout_for}
use Rattle.namespace_ops.specs.declared.formatter.Begun.{Begun as FormatBegun}
use Rattle.namespace_ops.specs.Counted.{makes_sectors, steps_made}
use Rattle.shell_reports.specs.declared.status.Ending.TheVariants as ending
use Rattle.shell_reports.specs.declared.power.Power.{Power}
use Rattle.shell_reports.specs.Outcome.{Outcome}
use Rattle.shell_reports.specs.Saved.{IsSaving}
use Rattle.shell_reports.specs.Cut.{cut_text, done_text}
use Rattle.shell_reports.specs.Faults.{refusal_text, refused_outcome}
use Rattle.shell_changes.specs.declared.saving.NewArena.{NewArena}
use Rattle.shell_changes.specs.Work.{Arena, arena_of, count_of}

-- ---- what is saved

-- All is saved that these areas and contents keep. `objects` are those of the set with these rows of words as its label areas, and with
-- these as its contents, if they are in memory.
pub record SavesDone (objects : List (Option (List ℕ)) → List (List ℕ) → Images) (areas : List Area) (contents : List Words) (outcome : Outcome) : Type 0 where
  pub rows : List (Option (List ℕ))
  pub kept : AreLeft areas rows
  pub contents_left : List (List ℕ)
  pub left : Each IsLeft contents contents_left
  pub saves : IsSaving ending.Done done_text (objects rows contents_left) outcome

-- The areas and the contents are saved as they are after the crash, as the chooser picks.
pub record SavesCut (leaves : ℕ → List (Option Words) → List (Option (List ℕ)) → Type 0) (objects : List (Option (List ℕ)) → List (List ℕ) → Images) (power : Power) (areas : List Area) (contents : List Words) (outcome : Outcome) : Type 0 where
  pub rows : List (Option (List ℕ))
  pub kept : AreLeft areas rows
  pub contents_left : List (List ℕ)
  pub left : Each IsLeft contents contents_left
  -- it is asked about the areas first, and then about the contents
  pub asked_first : leaves power.seed (map words_of areas) rows
  pub asked : leaves power.seed (map words_of areas ++ map (λ words. Some words) contents) (rows ++ map (λ row. Some row) contents_left)
  pub steps : ℕ
  pub given : power.steps ≡ Some steps
  pub saves : IsSaving ending.PowerCut (cut_text steps) (objects rows contents_left) outcome

-- ---- what a command does

-- contents are as they were, unless an arena is formatted in them
abbrev pub FormatsIn : Option Arena → List Words → List Words → Option ℕ → Type 0
FormatsIn None contents contents' fuse = contents' ≡ contents
FormatsIn (Some arena) contents contents' fuse =
    IsFormattedIn arena.place arena.layout arena.uuid contents contents' fuse (burnt fuse (format_count arena.layout)) (lasts fuse (format_count arena.layout))

-- an arena is formatted, if there is one, and then label changes are made, as far as the fuse lasts
pub record Works (arena : Option Arena) (old new : List Area) (contents contents' : List Words) (fuse left : Option ℕ) (changes : List Change) (whole : Bool) : Type 0 where
  pub formats : FormatsIn arena contents contents' fuse
  -- if power was cut within the format, no label area was touched
  pub within : lasts fuse (count_of arena) ≡ false → (whole ≡ false) × (new ≡ old)
  pub labels : lasts fuse (count_of arena) ≡ true → Went old new (burnt fuse (count_of arena)) left changes whole

-- the same, of the label areas alone: a format of so many steps comes first
pub record WorksOn (count : ℕ) (old new : List Area) (fuse left : Option ℕ) (changes : List Change) (whole : Bool) : Type 0 where
  pub within : lasts fuse count ≡ false → (whole ≡ false) × (new ≡ old)
  pub labels : lasts fuse count ≡ true → Went old new (burnt fuse count) left changes whole

-- What became of label areas and a fuse by a command on their namespaces, and its reply.
pub record Runs (sets : List (List Mapping)) (old new : List Area) (fuse left : Option ℕ) (c : Command) (reply : Result (Unit {0}) OpRefused) : Type 0 where
  pub refused : (f : OpRefused) → refusal_of (shown sets old) c ≡ Some f → (reply ≡ Err f) × (new ≡ old)
  pub went : refusal_of (shown sets old) c ≡ None → WorksOn (count_of (arena_of (shown sets old) c)) old new fuse left (changes_of (shown sets old) (areas_seen old) c) (is_ok reply)
  -- a command that isn't refused has one error
  pub cut : refusal_of (shown sets old) c ≡ None → (f : OpRefused) → reply ≡ Err f → f ≡ PowerCut

-- ---- the arena, counted

-- An arena that was begun lies in its set in whole units, and no more steps of its format were made than it takes.
pub record CanPut (new : NewArena) : Type 0 where
  pub from : new.offset % unit_of new.set ≡ 0
  pub to : new.raw % unit_of new.set ≡ 0
  pub inside : new.offset + new.raw ≤ span_of new.set
  pub layout : IsLayout new.layout
  pub room : new.layout.size ≤ length new.set * new.raw
  pub few : new.steps ≤ format_count new.layout

-- it is this one, and its steps are those for which the fuse lasts
pub record IsBegun (sets : List (List Mapping)) (arena : Arena) (fuse : Option ℕ) (new : NewArena) : Type 0 where
  pub among : (region : ℕ) × (region < length sets) × (new.set ≡ set_at sets region)
  pub place : arena.place ≡ over new.set new.offset new.raw
  pub layout : arena.layout ≡ new.layout
  pub uuid : arena.uuid ≡ new.uuid
  pub steps : new.steps ≡ steps_made fuse (format_count new.layout)
  pub can : CanPut new

-- one was begun exactly if the command makes one
abbrev pub Begins : List (List Mapping) → Option Arena → Option ℕ → Option NewArena → Type 0
Begins sets None fuse begun = begun ≡ None
Begins sets (Some arena) fuse begun = (new : NewArena) × (begun ≡ Some new) × IsBegun sets arena fuse new

-- What the format that a command counted says: nothing, if the command is refused or makes no sectors; else where the arena lies.
pub record IsCounted (sets : List (List Mapping)) (areas : List Area) (c : Command) (fuse : Option ℕ) (begun : Option FormatBegun) : Type 0 where
  pub refused : (f : OpRefused) → refusal_of (shown sets areas) c ≡ Some f → begun ≡ None
  pub plain : makes_sectors c ≡ false → begun ≡ None
  pub some : refusal_of (shown sets areas) c ≡ None → (spec : CreateSpec) → c ≡ Create spec → has_sectors spec.make ≡ true
      → CanLie (set_of (shown sets areas) spec.region) (offset_for (shown sets areas) spec) spec
      × (begun ≡ Some (record { offset = offset_for (shown sets areas) spec; layout = layout_for spec; steps = steps_made fuse (format_count (layout_for spec)) }))

-- ---- recovery, and then the command

-- power was cut in recovery: contents are as they were, and `kept` are the objects with these label areas
pub record StopsFirst (leaves : ℕ → List (Option Words) → List (Option (List ℕ)) → Type 0) (kept : List (Option (List ℕ)) → Images) (power : Power) (sets : List (List Mapping)) (areas : List Area) (outcome : Outcome) : Type 0 where
  pub news : List Area
  pub left : Option ℕ
  pub went : Went areas news power.steps left (recovery_changes sets (areas_seen areas)) false
  pub cut : SavesCut leaves (λ rows left. kept rows) power news [] outcome

-- areas and contents as a command made them that isn't refused, and the set that is saved with them: whole, or as the chooser leaves it
pub record GoesOn (leaves : ℕ → List (Option Words) → List (Option (List ℕ)) → Type 0) (objects : List (Option (List ℕ)) → List (List ℕ) → Images) (power : Power) (sets : List (List Mapping)) (areas : List Area) (contents : List Words) (fuse : Option ℕ) (c : Command) (outcome : Outcome) : Type 0 where
  pub news : List Area
  pub made : List Words
  pub left : Option ℕ
  pub whole : Bool
  pub works : Works (arena_of (shown sets areas) c) areas news contents made fuse left (changes_of (shown sets areas) (areas_seen areas) c) whole
  pub done : whole ≡ true → SavesDone objects news made outcome
  pub cut : whole ≡ false → SavesCut leaves objects power news made outcome

-- recovery was made, and then the command was refused or went on
pub record GoesThen (leaves : ℕ → List (Option Words) → List (Option (List ℕ)) → Type 0) (objects : List (Option (List ℕ)) → List (List ℕ) → Images) (power : Power) (sets : List (List Mapping)) (areas : List Area) (contents : List Words) (c : Command) (outcome : Outcome) : Type 0 where
  pub mid : List Area
  pub left : Option ℕ
  pub first : Went areas mid power.steps left (recovery_changes sets (areas_seen areas)) true
  pub refused : (f : OpRefused) → refusal_of (shown sets mid) c ≡ Some f → outcome ≡ refused_outcome (refusal_text f)
  pub went : refusal_of (shown sets mid) c ≡ None → GoesOn leaves objects power sets mid contents left c outcome

-- a command on areas over interleave sets, after recovery
abbrev pub GoesFrom : (ℕ → List (Option Words) → List (Option (List ℕ)) → Type 0) → (List (Option (List ℕ)) → Images) → (List (Option (List ℕ)) → List (List ℕ) → Images) → Power → List (List Mapping) → List Area → List Words → Command → Outcome → Type 0
GoesFrom leaves kept objects power sets areas contents c outcome = StopsFirst leaves kept power sets areas outcome ⊎ GoesThen leaves objects power sets areas contents c outcome
