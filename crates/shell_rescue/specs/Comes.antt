-- What the command `rescue` comes to: UEFI 2.10, chapter 6, with this project's rules.
use Rattle.std.specs.Prelude.{◌≡◌, ℕ, ◌==◌, Bool, if◌then◌else◌, List, ◌++◌, length, Option, Some, None, Result, Ok, Err}
use Rattle.std.specs.Option.{ForSome}
use Rattle.nvd_media.specs.Images.{Images}
use Rattle.arena_layout.specs.declared.info.InfoFault.{InfoFault}
use Rattle.arena_open.specs.declared.refused.OpenRefused.TheVariants as refused
use Rattle.arena_check.specs.Check.{source_of}
use Rattle.image_set.specs.declared.outline.Outline.{Outline}
use Rattle.image_set.specs.Load.{ImageSet}
use Rattle.image_set.specs.Outline.{contents_in, image_set_with}
use Rattle.label_rescue.specs.declared.rescued.RescueFound.{RescueFound}
use Rattle.namespace_map.specs.declared.refused.OpRefused.{OpRefused}
use Rattle.shell_reports.specs.declared.status.Ending.{Ending}
use Rattle.shell_reports.specs.declared.status.Ending.TheVariants as ending
use Rattle.shell_reports.specs.Causes.{fault_in}
use Rattle.shell_reports.specs.Faults.{arena_outcome, refusal_text, refused_outcome}
use Rattle.shell_reports.specs.Outcome.{Outcome, printed}
use Rattle.shell_reports.specs.Sectors.{unless_fault}
use Rattle.shell_sectors.specs.Write.{loaded_words}
use Rattle.shell_check.specs.Comes.{bad_in}
use Rattle.shell_rescue.specs.declared.chain.Rescued.{Rescued}
use Rattle.shell_rescue.specs.Found.{rescued_in}
use Rattle.shell_rescue.specs.Lost.{count_in, last_line, lost_arenas, lost_text, missing_lines}
use Rattle.shell_rescue.specs.Reading.{refused_by}
use Rattle.shell_rescue.specs.Rescue.{arenas_bytes, rescued_bytes}

-- ---- the bytes

-- the bytes, or why no arena can be read
abbrev pub bytes_unless : List ℕ → Option InfoFault → List ℕ → Outcome
bytes_unless uuid None bytes = printed bytes
bytes_unless uuid (Some fault) bytes = arena_outcome uuid (record { arena = 0; fault = refused.Info fault })

abbrev pub bytes_outcome : List ℕ → (ℕ → Bool) → List ℕ → Outcome
bytes_outcome uuid bad words = bytes_unless uuid (refused_by (source_of words uuid)) (rescued_bytes bad words uuid)

-- ---- the list

-- a list with a lost sector ends as images that are refused do
abbrev pub ending_after : ℕ → Ending
ending_after count = if count == 0 then ending.Done else ending.Image

abbrev pub list_outcome : ℕ → List ℕ → Outcome
list_outcome count text = record { ending = ending_after count; text = text; saved = None }

-- first the modules without a label; none of them is a lost sector
abbrev pub lost_outcome : List ℕ → List ℕ → (ℕ → Bool) → List ℕ → Outcome
lost_outcome uuid missing bad words = list_outcome (count_in (lost_arenas bad words uuid)) (missing_lines missing ++ lost_text bad words uuid)

-- ---- the command

-- of a namespace with these words, whose labels are missing on some modules
abbrev pub words_outcome : List ℕ → Bool → List ℕ → (ℕ → Bool) → List ℕ → Outcome
words_outcome uuid listing missing bad words = if listing then lost_outcome uuid missing bad words else bytes_outcome uuid bad words

-- what was read of one comes to this
abbrev pub made_outcome : List ℕ → Bool → List ℕ → Rescued → Outcome
made_outcome uuid listing words r =
    if listing then list_outcome r.count (r.text.items ++ last_line r.count) else bytes_unless uuid r.refused (arenas_bytes words r.arenas)

-- on the namespace, or why it isn't found
abbrev pub on_named : List ℕ → Bool → ImageSet → Result RescueFound OpRefused → Outcome
on_named uuid listing loaded (Ok place) = words_outcome uuid listing place.missing (bad_in loaded place.found) (loaded_words loaded place.found)
on_named uuid listing loaded (Err refusal) = refused_outcome (refusal_text refusal)

-- the outcome of `rescue` on a loaded set: first the table and the labels are checked, then the namespace is found, and then its arenas are read
unfoldable pub rescue_outcome : List ℕ → Bool → ImageSet → Outcome
rescue_outcome uuid listing loaded = unless_fault (fault_in loaded) (on_named uuid listing loaded (rescued_in loaded uuid))

-- what it comes to with the contents that the source has, as far as it reveals them
abbrev pub RescuesFrom : List ℕ → Bool → Option Images → Outline → Outcome → Type 0
RescuesFrom uuid listing held outline outcome = ForSome held (λ source. outcome ≡ rescue_outcome uuid listing (image_set_with outline (contents_in source (length outline.sizes))))
