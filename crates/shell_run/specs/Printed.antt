-- What a run prints that writes no set.
use Rattle.std.specs.Prelude.{◌≡◌, ◌≢◌, ℕ, Bool, false, List, length, Option, Result, Ok}
use Rattle.std.specs.Option.{ForSome}
use Rattle.nvd_media.specs.Images.{Images}
use Rattle.command_words.specs.declared.values.WordsFault.{WordsFault}
use Rattle.command_words.specs.declared.values.WordsFault.TheVariants as words
use Rattle.image_set.specs.Load.{ImageSet}
use Rattle.image_set.specs.Outline.{contents_in, image_set_with}
use Rattle.image_set.specs.declared.outline.Outline.{Outline}
use Rattle.image_set.specs.declared.fault.LoadFault.{LoadFault}
use Rattle.image_set.specs.declared.fault.LoadFault.TheVariants.{ReadFault, OutOfMemory}
use Rattle.shell_reports.specs.declared.outcome.Report.{Report}
use Rattle.shell_reports.specs.declared.status.Status.{Status}
use Rattle.shell_reports.specs.LoadFaults.{load_outcome}
use Rattle.shell_reports.specs.Outcome.{Outcome, usage}
use Rattle.shell_reports.specs.Saved.{outcome_of}
use Rattle.shell_export.specs.Export.{export_outcome}
use Rattle.shell_rescue.specs.Comes.{rescue_outcome}
use Rattle.shell_run.specs.declared.words.CommandLine.{CommandLine}
use Rattle.shell_run.specs.declared.words.CommandLine.TheVariants as command
use Rattle.shell_run.specs.declared.top.Streamed.{Streamed}
use Rattle.shell_run.specs.declared.top.Streamed.TheVariants.{Export, Rescue}
use Rattle.shell_run.specs.Run.{Ends, Holds}

-- what stands outside after a status, of a command that prints its text piece by piece or doesn't
abbrev pub EndsPrinting : Type 0 → Bool → (Outcome → Type 0) → Option (List ℕ) → Option (List ℕ) → Status → Type 0
EndsPrinting faulted streaming due text text' ended = (made : Option Images) → Ends faulted false streaming due made made text text' ended

-- what sinks hold then that tell, after the run, that they stored everything
abbrev pub HoldsPrinted : (Outcome → Type 0) → Option (List ℕ) → Option (List ℕ) → Status → Type 0
HoldsPrinted due text text' ended = (kept : Option Images) → Holds due kept kept text text' ended

-- what a command that prints its text piece by piece comes to on the set that it loads
abbrev pub streamed_outcome : Streamed → ImageSet → Outcome
streamed_outcome (Export uuid zeros) loaded = export_outcome uuid zeros loaded
streamed_outcome (Rescue uuid listing) loaded = rescue_outcome uuid listing loaded

abbrev pub Streams : Streamed → ImageSet → Outcome → Type 0
Streams what loaded outcome = outcome ≡ streamed_outcome what loaded

-- what it comes to with the contents that the source has, as far as it reveals them
abbrev pub StreamsFrom : Streamed → Option Images → Outline → Outcome → Type 0
StreamsFrom what held outline outcome = ForSome held (λ source. Streams what (image_set_with outline (contents_in source (length outline.sizes))) outcome)

-- the command line that asks for it
abbrev pub line_of : Streamed → CommandLine
line_of (Export uuid zeros) = command.Export uuid zeros
line_of (Rescue uuid listing) = command.Rescue uuid listing

-- the outcome of a report, if there is one
abbrev pub IsReported : {E : Type 0} → Result Report E → Outcome → Type 0
IsReported report outcome = (r : Report) × (report ≡ Ok r) × (outcome ≡ outcome_of r)

-- the outcome for a set that isn't loaded, if that is a finding about its objects
abbrev pub IsUnloaded : LoadFault → Outcome → Type 0
IsUnloaded fault outcome = (fault ≢ ReadFault) × (fault ≢ OutOfMemory) × (outcome ≡ load_outcome fault)

-- the outcome for words that aren't a command line, if they aren't
abbrev pub IsMisused : WordsFault → Outcome → Type 0
IsMisused fault outcome = (fault ≡ words.Usage) × (outcome ≡ usage)
