-- The work of a command on namespaces, and the modules' contents after it: UEFI 2.10, sections 6.2 (BTT arena) and 13.19 (labels).
-- The order of the work is this project's rule: recovery, then the format of an arena, then the labels that name it.
use Rattle.std.specs.Prelude.{◌≡◌, ℕ, ◌+◌, ◌-◌, nat_le, Bool, true, false, if◌then◌else◌, List, [], ◌++◌, length, map, Option, Some, None}
use Rattle.cut_words.specs.Words.{Words, IsLeft, after, settled}
use Rattle.cut_words.specs.WordBytes.{bytes_of, words_in}
use Rattle.cut_words.specs.Fuses.{allowed, lasts}
use Rattle.arena_layout.specs.declared.layout.Layout.{Layout}
use Rattle.arena_open.specs.Format.{IsNewArena, format_count, format_steps}
use Rattle.power_cut.specs.Left.{Each}
use Rattle.power_cut.specs.Namespace.{Namespace, beside_of, words_of}
use Rattle.namespace_map.specs.Namespaces.{Namespaces}
use Rattle.namespace_map.specs.declared.commands.Command.{Command}
use Rattle.namespace_map.specs.declared.commands.Command.TheVariants.{Create}
use Rattle.namespace_map.specs.declared.commands.CreateSpec.{CreateSpec}
use Rattle.namespace_map.specs.Areas.{Area, Change, steps_of_all}
use Rattle.image_set.specs.Load.{ImageSet}
use Rattle.sector_namespaces.specs.View.{rows_of}
use Rattle.sector_namespaces.specs.Creation.{has_sectors, layout_for, place_in}

-- ---- the work

-- an arena that is formatted before labels name its namespace, and where its words lie among those of all modules
pub record Arena : Type 0 where
  pub place : List Words → Namespace
  pub layout : Layout
  pub uuid : List ℕ

-- the arena of a new namespace, if it has sectors
abbrev pub arena_by : Namespaces → CreateSpec → Bool → Option Arena
arena_by ns spec false = None
arena_by ns spec true = Some (record { place = place_in ns spec; layout = layout_for spec; uuid = spec.uuid })

-- the arena that a command formats
abbrev pub arena_of : Namespaces → Command → Option Arena
arena_of ns (Create spec) = arena_by ns spec (has_sectors spec.make)
arena_of ns other = None

-- in this order: recovery's label changes, the format of an arena, the command's own label changes
pub record Work : Type 0 where
  pub recovery : List Change
  pub arena : Option Arena
  pub own : List Change

abbrev pub label_changes : Work → List Change
label_changes work = work.recovery ++ work.own

-- ---- its steps

-- the steps of a format
abbrev pub count_of : Option Arena → ℕ
count_of None = 0
count_of (Some arena) = format_count arena.layout

-- all steps
abbrev pub steps_of_work : List (Option Area) → Work → ℕ
steps_of_work areas work = steps_of_all areas (label_changes work) + count_of work.arena

-- of the first n steps those in label areas: `format` others stand behind the first ones
abbrev pub label_part : ℕ → ℕ → ℕ → ℕ
label_part first format n = if nat_le first n then first + (n - first - format) else n

abbrev pub label_steps : List (Option Area) → Work → ℕ → ℕ
label_steps areas work n = label_part (steps_of_all areas work.recovery) (count_of work.arena) n

-- the arena of which the format is begun: that of the work, if power lasts for recovery
abbrev pub begun : Bool → Option Arena → Option Arena
begun false arena = None
begun true arena = arena

-- ---- contents

-- an image set with these words as its contents
abbrev pub with_contents : ImageSet → List (List ℕ) → ImageSet
with_contents set rows = record { nfit = set.nfit; nfit_bytes = set.nfit_bytes; labels = set.labels; contents = map bytes_of rows; bad = set.bad }

-- What a format makes of the words of all modules, under a fuse, and what is left of them. Words outside the namespace's extents are as they were read.
pub record AreFormatted (arena : Arena) (loaded : ImageSet) (fuse : Option ℕ) (contents : List Words) (rows : List (List ℕ)) : Type 0 where
  -- the namespace's words are as the format's first steps make them, those that the fuse lasts for, and all others are as they were
  pub words : words_of (arena.place contents) ≡ after (words_of (arena.place (rows_of loaded.contents))) (allowed fuse (format_steps 0 arena.layout arena.uuid arena.uuid))
  pub others : beside_of (arena.place contents) ≡ beside_of (arena.place (rows_of loaded.contents))
  -- of each word its kept value is left, or the one that was stored since
  pub left : Each IsLeft contents rows
  -- so each module has as many words as it had, and outside the namespace's extents they have their values
  pub sizes : map (λ row. length row) rows ≡ map (λ bytes. length (words_in bytes)) loaded.contents
  pub beside : beside_of (arena.place (map settled rows)) ≡ beside_of (arena.place (rows_of loaded.contents))
  -- when the fuse lasts for all steps the namespace is a new arena, each sector of which reads as zeros
  pub opens : lasts fuse (format_count arena.layout) ≡ true → IsNewArena arena.layout arena.uuid arena.uuid (words_of (arena.place (map settled rows))).kept

-- The set with the contents that a command leaves: as they were read, unless it formats an arena. Then `contents` are the modules' words
-- after the format's steps that the fuse lasts for, and `rows` is what is left of them.
abbrev pub Formats : Option Arena → ImageSet → Option ℕ → List Words → List (List ℕ) → ImageSet → Type 0
Formats None loaded fuse contents rows now = (contents ≡ []) × (rows ≡ []) × (now ≡ loaded)
Formats (Some arena) loaded fuse contents rows now = AreFormatted arena loaded fuse contents rows × (now ≡ with_contents loaded rows)
