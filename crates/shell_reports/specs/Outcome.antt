-- The outcome of a run.
use Rattle.std.specs.Prelude.{ℕ, List, [], ◌∷◌, ◌++◌, Option, None, codes}
use Rattle.nvd_media.specs.Images.{Images}
use Rattle.shell_reports.specs.declared.status.Status.{Status}
use Rattle.shell_reports.specs.declared.status.Status.TheVariants as status
use Rattle.shell_reports.specs.declared.status.Ending.{Ending}
use Rattle.shell_reports.specs.declared.status.Ending.TheVariants as ending

-- how it ends, the text that is printed, and the image set that is saved
pub record Outcome : Type 0 where
  pub ending : Ending
  pub text : List ℕ
  pub saved : Option Images

-- pieces of a text, concatenated
abbrev pub joined : List (List ℕ) → List ℕ
joined [] = []
joined (piece ∷ pieces) = piece ++ joined pieces

-- the end of a line
abbrev pub lf : List ℕ
lf = 10 ∷ []

-- Stands for the text of a fault that is never printed. The function that makes the text of a fault fails there as memory does (clause
-- `finding`), or requires that it isn't that fault.
abbrev pub no_text : List ℕ
no_text = []

-- the words aren't a command line
abbrev pub usage : Outcome
usage = record { ending = ending.Usage; text = codes "usage" ++ lf; saved = None }

-- the images have a fault
abbrev pub image_fault : List (List ℕ) → Outcome
image_fault pieces = record { ending = ending.Image; text = joined (codes "image " ∷ pieces); saved = None }

-- a command that only prints
abbrev pub printed : List ℕ → Outcome
printed text = record { ending = ending.Done; text = text; saved = None }

-- the status of a run if nothing outside failed and memory was found
abbrev pub status_of : Ending → Status
status_of ending.Done = status.Ok
status_of ending.Usage = status.Usage
status_of ending.Image = status.Image
status_of ending.Refused = status.Refused
status_of ending.PowerCut = status.PowerCut

-- the program's exit status
abbrev pub exit_status_of : Status → ℕ
exit_status_of status.Ok = 0
exit_status_of status.Usage = 2
exit_status_of status.Image = 3
exit_status_of status.Refused = 4
exit_status_of status.ReadFault = 5
exit_status_of status.WriteFault = 6
exit_status_of status.OutOfMemory = 7
exit_status_of status.PowerCut = 8
