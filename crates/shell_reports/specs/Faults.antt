-- The texts for an arena that isn't opened, and for a command that is refused: this project's rules.
use Rattle.std.specs.Prelude.{ℕ, List, [], ◌∷◌, ◌++◌, None, codes}
use Rattle.std.specs.Fmt.{decimal}
use Rattle.arena_layout.specs.declared.layout.LayoutField.{LayoutField}
use Rattle.arena_layout.specs.declared.layout.LayoutField.TheVariants as field
use Rattle.arena_layout.specs.declared.info.InfoFault.{InfoFault}
use Rattle.arena_layout.specs.declared.info.InfoFault.TheVariants as info
use Rattle.flog.specs.declared.group.FlogFault.{FlogFault}
use Rattle.flog.specs.declared.group.FlogFault.TheVariants as flog
use Rattle.map_table.specs.declared.check.BlockFault.{BlockFault}
use Rattle.map_table.specs.declared.check.BlockFault.TheVariants as block
use Rattle.arena_open.specs.declared.refused.OpenRefused.{OpenRefused}
use Rattle.arena_open.specs.declared.refused.OpenRefused.TheVariants as open_refused
use Rattle.arena_open.specs.declared.chain_refused.ChainRefused.{ChainRefused}
use Rattle.namespace_map.specs.declared.refused.OpRefused.{OpRefused}
use Rattle.namespace_map.specs.declared.refused.OpRefused.TheVariants as op
use Rattle.shell_reports.specs.declared.status.Ending.TheVariants as ending
use Rattle.shell_reports.specs.Outcome.{Outcome, image_fault, joined, lf, no_text}
use Rattle.shell_reports.specs.Texts.{uuid_text}

-- ---- faults of an arena

abbrev pub field_text : LayoutField → List ℕ
field_text field.Sector = codes "Sector"
field_text field.Inner = codes "Inner"
field_text field.Free = codes "Free"
field_text field.Blocks = codes "Blocks"
field_text field.Areas = codes "Areas"
field_text field.Size = codes "Size"
field_text field.Next = codes "Next"

abbrev pub info_fault_text : InfoFault → List ℕ
info_fault_text info.Signature = codes "Signature"
info_fault_text info.Checksum = codes "Checksum"
info_fault_text (info.Version major minor) = codes "Version " ++ (decimal major ++ (codes " " ++ decimal minor))
info_fault_text info.Parent = codes "Parent"
info_fault_text info.ErrorState = codes "ErrorState"
info_fault_text (info.Layout field) = codes "Layout " ++ field_text field

abbrev pub info_text : InfoFault → List ℕ
info_text fault = codes "Info " ++ info_fault_text fault

abbrev pub flog_text : ℕ → FlogFault → List ℕ
flog_text lane flog.Padding = codes "Flog " ++ (decimal lane ++ codes " Padding")
flog_text lane (flog.Sequences a b) = codes "Flog " ++ (decimal lane ++ (codes " Sequences " ++ (decimal a ++ (codes " " ++ decimal b))))
flog_text lane (flog.Range value) = codes "Flog " ++ (decimal lane ++ (codes " Range " ++ decimal value))

abbrev pub block_text : BlockFault → List ℕ
block_text (block.Range number) = codes "Block Range " ++ decimal number
block_text (block.Twice number) = codes "Block Twice " ++ decimal number
block_text (block.Count said had) = codes "Block Count " ++ (decimal said ++ (codes " " ++ decimal had))
block_text block.OutOfMemory = no_text

-- power stays on as the commands open arenas, so a power cut never comes
abbrev pub open_refused_text : OpenRefused → List ℕ
open_refused_text (open_refused.Info fault) = info_text fault
open_refused_text (open_refused.Flog lane fault) = flog_text lane fault
open_refused_text (open_refused.Block fault) = block_text fault
open_refused_text open_refused.PowerCut = no_text
open_refused_text open_refused.OutOfMemory = no_text

-- image arena UUID K FAULT
abbrev pub arena_outcome : List ℕ → ChainRefused → Outcome
arena_outcome uuid fault =
    image_fault (codes "arena " ∷ uuid_text uuid ∷ codes " " ∷ decimal fault.arena ∷ codes " " ∷ open_refused_text fault.fault ∷ lf ∷ [])

-- ---- refusals

-- the refusal's name and its numbers
abbrev pub refusal_text : OpRefused → List ℕ
refusal_text op.NoSuch = codes "NoSuch"
refusal_text op.Exists = codes "Exists"
refusal_text (op.NoRegion region) = codes "NoRegion " ++ decimal region
refusal_text (op.NoSpace wanted) = codes "NoSpace " ++ decimal wanted
refusal_text (op.NoSlot number) = codes "NoSlot " ++ decimal number
refusal_text (op.Busy claims) = codes "Busy " ++ decimal claims
refusal_text op.NotComplete = codes "NotComplete"
refusal_text op.NotSector = codes "NotSector"
refusal_text (op.BadSize bytes) = codes "BadSize " ++ decimal bytes
refusal_text (op.BadName bytes) = codes "BadName " ++ decimal bytes
refusal_text (op.ModuleLabels number) = codes "ModuleLabels " ++ decimal number
refusal_text (op.ReadOnlyLabel number) = codes "ReadOnlyLabel " ++ decimal number
refusal_text op.PowerCut = no_text
refusal_text op.OutOfMemory = no_text

-- a namespace has so many sectors, which are too few
abbrev pub range_text : ℕ → List ℕ
range_text count = codes "Range " ++ decimal count

-- the most bytes of arenas that a command opens in memory: 1 GiB, this project's limit
abbrev pub most_held : ℕ
most_held = 1073741824

-- arenas that have so many bytes, which are too many
abbrev pub held_text : ℕ → List ℕ
held_text bytes = codes "TooLarge " ++ decimal bytes

-- refused REFUSAL
abbrev pub refused_outcome : List ℕ → Outcome
refused_outcome refusal = record { ending = ending.Refused; text = joined (codes "refused " ∷ refusal ∷ lf ∷ []); saved = None }
