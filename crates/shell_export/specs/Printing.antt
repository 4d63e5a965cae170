-- What was printed of a text.
use Rattle.std.specs.Prelude.{◌≡◌, ◌⊎◌, ℕ, Bool, List, ◌++◌, length, take, Option, Some, None, Result, Ok}
use Rattle.std.specs.Option.{ForSome}
use Rattle.std.specs.Io.KnownBytes.{Appends}
use Rattle.nvd_media.specs.Images.{Images, Keeps}
use Rattle.arena_open.specs.Chain.{Link}
use Rattle.image_set.specs.Outline.{contents_in, image_set_with}
use Rattle.image_set.specs.declared.outline.Outline.{Outline}
use Rattle.namespace_bytes.specs.Putting.{AreAll}
use Rattle.namespace_words.specs.Source.{Reveals, words_by}
use Rattle.power_cut.specs.Namespace.{Namespace}
use Rattle.shell_reports.specs.Outcome.{Outcome, status_of}
use Rattle.shell_reports.specs.Saved.{outcome_of}
use Rattle.shell_reports.specs.declared.outcome.Report.{Report}
use Rattle.shell_reports.specs.declared.status.Ending.TheVariants as ending
use Rattle.shell_reports.specs.declared.status.Status.{Status}
use Rattle.shell_reports.specs.declared.status.Status.TheVariants as status
use Rattle.shell_export.specs.Export.{export_outcome}

-- ---- bytes that are known

-- The text has a front of these bytes more.
abbrev pub AppendsFront : Option (List ℕ) → Option (List ℕ) → List ℕ → Type 0
AppendsFront text text' bytes = (n : ℕ) × Appends text text' (take n bytes)

-- The text has these bytes more; so has what a sink holds that tells, after the call, that it stored everything.
abbrev pub AppendsAll : Option (List ℕ) → Option (List ℕ) → Option (List ℕ) → Option (List ℕ) → List ℕ → Type 0
AppendsAll text text' kept kept' bytes = Appends text text' bytes × Keeps kept kept' (λ was now. now ≡ was ++ bytes)

-- The text has all of these bytes more but for the last ones, which wait.
abbrev pub AppendsBut : Option (List ℕ) → Option (List ℕ) → Option (List ℕ) → Option (List ℕ) → List ℕ → List ℕ → Type 0
AppendsBut text text' kept kept' bytes waiting = (done : List ℕ) × AppendsAll text text' kept kept' done × (bytes ≡ done ++ waiting)

-- A whole outcome's text was printed, and the status is that of its ending; or writing failed, and a front of it was.
abbrev pub PrintsReport : Outcome → Option (List ℕ) → Option (List ℕ) → Option (List ℕ) → Option (List ℕ) → Status → Type 0
PrintsReport outcome text text' kept kept' ended =
    ((ended ≡ status_of outcome.ending) × AppendsAll text text' kept kept' outcome.text) ⊎ ((ended ≡ status.WriteFault) × AppendsFront text text' outcome.text)

-- So was the text of a report, which was made.
abbrev pub PrintsMade : {E : Type 0} → Result Report E → Option (List ℕ) → Option (List ℕ) → Option (List ℕ) → Option (List ℕ) → Status → Type 0
PrintsMade made text text' kept kept' ended = (report : Report) × (made ≡ Ok report) × PrintsReport (outcome_of report) text text' kept kept' ended

-- ---- bytes by contents that a source may reveal

-- These bytes are the ones that are due, by all contents for which something holds.
abbrev pub AreDue : (List (List ℕ) → Type 0) → (List (List ℕ) → List ℕ) → List ℕ → Type 0
AreDue Known due bytes = (contents : List (List ℕ)) → Known contents → due contents ≡ bytes

-- They are a front of them.
abbrev pub AreFront : (List (List ℕ) → Type 0) → (List (List ℕ) → List ℕ) → List ℕ → Type 0
AreFront Known due bytes = (contents : List (List ℕ)) → Known contents → (rest : List ℕ) × (due contents ≡ bytes ++ rest)

-- The text has all bytes more that are due.
abbrev pub PrintsAll : (List (List ℕ) → Type 0) → (List (List ℕ) → List ℕ) → Option (List ℕ) → Option (List ℕ) → Option (List ℕ) → Option (List ℕ) → Type 0
PrintsAll Known due text text' kept kept' = (bytes : List ℕ) × AppendsAll text text' kept kept' bytes × AreDue Known due bytes

-- It has all of them more but for the last ones, which wait.
abbrev pub PrintsBut : (List (List ℕ) → Type 0) → (List (List ℕ) → List ℕ) → Option (List ℕ) → Option (List ℕ) → Option (List ℕ) → Option (List ℕ) → List ℕ → Type 0
PrintsBut Known due text text' kept kept' waiting = (bytes : List ℕ) × AppendsAll text text' kept kept' bytes × AreDue Known due (bytes ++ waiting)

-- It has a front of them more.
abbrev pub PrintsFront : (List (List ℕ) → Type 0) → (List (List ℕ) → List ℕ) → Option (List ℕ) → Option (List ℕ) → Type 0
PrintsFront Known due text text' = (bytes : List ℕ) × Appends text text' bytes × AreFront Known due bytes

-- a source reveals these contents, by which the arenas are all of a namespace
abbrev pub KnowsAll : Option Images → Namespace → List Link → List (List ℕ) → Type 0
KnowsAll held e links contents = Reveals held e.set contents × ((uuid : List ℕ) × AreAll (words_by e contents) uuid links)

-- a source has these contents, of so many modules
abbrev pub AreHeld : Option Images → ℕ → List (List ℕ) → Type 0
AreHeld held count contents = (source : Images) × (held ≡ Some source) × (contents ≡ contents_in source count)

-- ---- outcomes by contents that a source may reveal

-- What is due has no refusal.
abbrev pub AreDone : (List (List ℕ) → Type 0) → (List (List ℕ) → Outcome) → Type 0
AreDone Known due = (contents : List (List ℕ)) → Known contents → (due contents).ending ≡ ending.Done

-- All of the text that is due was printed, and the status is that of its ending. Or writing failed, and a front of it was. Or reading failed as
-- it was printed, a text without a refusal; and a front of it was.
abbrev pub PrintsDue : (List (List ℕ) → Type 0) → (List (List ℕ) → Outcome) → Option (List ℕ) → Option (List ℕ) → Option (List ℕ) → Option (List ℕ) → Status → Type 0
PrintsDue Known due text text' kept kept' ended =
    ((outcome : Outcome) × ((contents : List (List ℕ)) → Known contents → due contents ≡ outcome) × (outcome.saved ≡ None) × (ended ≡ status_of outcome.ending) × AppendsAll text text' kept kept' outcome.text)
    ⊎ ((ended ≡ status.WriteFault) × PrintsFront Known (λ contents. (due contents).text) text text')
    ⊎ ((ended ≡ status.ReadFault) × AreDone Known due × PrintsFront Known (λ contents. (due contents).text) text text')

-- ---- the command

-- what `export` comes to with the contents that the source has, as far as it reveals them
abbrev pub ExportsFrom : List ℕ → Bool → Option Images → Outline → Outcome → Type 0
ExportsFrom uuid zeros held outline outcome = ForSome held (λ source. outcome ≡ export_outcome uuid zeros (image_set_with outline (contents_in source (length outline.sizes))))

-- All of the text of an outcome that is due was printed, and the status is that of its ending. Or writing failed, and a front of it was. Or reading
-- failed as it was printed, a text without a refusal; and a front of it was.
abbrev pub IsPrinted : (Outcome → Type 0) → Option (List ℕ) → Option (List ℕ) → Option (List ℕ) → Option (List ℕ) → Status → Type 0
IsPrinted due text text' kept kept' ended = (outcome : Outcome) × due outcome × (outcome.saved ≡ None)
    × (((ended ≡ status_of outcome.ending) × AppendsAll text text' kept kept' outcome.text)
    ⊎ ((ended ≡ status.WriteFault) × AppendsFront text text' outcome.text)
    ⊎ ((ended ≡ status.ReadFault) × (outcome.ending ≡ ending.Done) × AppendsFront text text' outcome.text))
