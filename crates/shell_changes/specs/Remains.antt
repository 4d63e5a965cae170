-- What remains of an image set as a command ends, and the answer that saves it.
use Rattle.std.specs.Prelude.{◌≡◌, ℕ, ◌<◌, Bool, List, [], ◌∷◌, length, Option, Some, None}
use Rattle.cut_words.specs.Words.{Words}
use Rattle.power_cut.specs.Left.{InTurn, LeavesOption}
use Rattle.image_set.specs.declared.changing.OutlineLeft.{OutlineLeft}
use Rattle.image_set.specs.declared.changing.OutlineRest.{OutlineRest}
use Rattle.image_set.specs.Outline.{IsOutlined, IsOutlineRest, LeavesAreas, LeavesOutline}
use Rattle.namespace_bytes.specs.Patching.{BytePatch}
use Rattle.format_patch.specs.Cut.{AsksFor, IsFormatPatch}
use Rattle.shell_reports.specs.declared.status.Ending.{Ending}
use Rattle.shell_reports.specs.declared.status.Ending.TheVariants as ending
use Rattle.shell_reports.specs.declared.power.Power.{Power}
use Rattle.shell_reports.specs.Cut.{cut_text, done_text}
use Rattle.shell_changes.specs.declared.answer.Answer.{Answer}
use Rattle.shell_changes.specs.declared.answer.Left.{Left}
use Rattle.shell_changes.specs.declared.answer.Left.TheVariants.{Copied, Patched}
use Rattle.shell_changes.specs.declared.saving.NewArena.{NewArena}
use Rattle.shell_changes.specs.declared.saving.Remains.{Remains}
use Rattle.shell_changes.specs.declared.saving.Remains.TheVariants as kind
use Rattle.shell_changes.specs.Going.{CanPut}
use Rattle.shell_changes.specs.Saved.{AreWholeSizes}

-- ---- chosen

-- Rows of words after a crash, by a chooser that is begun from a seed and asked for each pending word, row by row.
abbrev pub LeavesBy : {C : Type 0} → (C → ℕ → C → Type 0) → (C → ℕ → Bool → C → Type 0) → C → ℕ → List (Option Words) → List (Option (List ℕ)) → Type 0
LeavesBy {C} begins picks choose seed areas rows = (begun after : C) × begins choose seed begun × InTurn (LeavesOption picks) areas rows begun after

-- ---- what is left of what remains

-- what remains of a set with these label areas, by the arena that was begun
abbrev pub remains_of : OutlineRest → List (Option Words) → Option NewArena → Remains
remains_of rest labels None = kind.Areas rest labels
remains_of rest labels (Some new) = kind.Formatted rest labels new

-- there is a label area, or none, for each module
pub record AreOf (rest : OutlineRest) (labels : List (Option Words)) : Type 0 where
  pub rest_is : IsOutlineRest rest
  pub whole : AreWholeSizes rest.sizes
  pub count : length labels ≡ length rest.sizes

abbrev pub CanLeave : Remains → Type 0
CanLeave (kind.Area rest m words) = IsOutlined rest × (m < length rest.labels)
CanLeave (kind.Areas rest labels) = AreOf rest labels
CanLeave (kind.Formatted rest labels new) = AreOf rest labels × CanPut new

-- Label areas, one after another, and then the pending word of the format, if there is one. As many words of the format as are there are
-- put into the contents while they are copied.
pub record LeavesFormatted {C : Type 0} (picks : C → ℕ → Bool → C → Type 0) (rest : OutlineRest) (labels : List (Option Words)) (new : NewArena) (set : Left) (before after : C) : Type 0 where
  pub left : OutlineLeft
  pub between : C
  pub areas : LeavesAreas picks rest labels before between left
  pub words : ℕ
  pub asks : AsksFor picks new.set new.offset new.layout new.steps words between after
  pub patch : BytePatch
  pub puts : IsFormatPatch new.set new.offset new.raw new.layout new.uuid words patch
  pub is : set ≡ Patched left (patch ∷ [])

-- the set that is left, and what became of the chooser
abbrev pub LeavesSet : {C : Type 0} → (C → ℕ → Bool → C → Type 0) → Remains → Left → C → C → Type 0
LeavesSet picks (kind.Area rest m words) set before after = (left : OutlineLeft) × (set ≡ Copied left) × (left.sizes ≡ rest.sizes) × LeavesOutline picks rest m words before after left
LeavesSet picks (kind.Areas rest labels) set before after = (left : OutlineLeft) × (set ≡ Copied left) × LeavesAreas picks rest labels before after left
LeavesSet picks (kind.Formatted rest labels new) set before after = LeavesFormatted picks rest labels new set before after

-- ---- the answer

-- an answer ends so, prints this text and saves what is left
pub record SavesLeft {C : Type 0} (picks : C → ℕ → Bool → C → Type 0) (ends : Ending) (text : List ℕ) (remains : Remains) (answer : Answer) (before after : C) : Type 0 where
  pub set : Left
  pub leaves : LeavesSet picks remains set before after
  pub ends_so : answer.report.ending ≡ ends
  pub says : answer.report.text.items ≡ text
  pub saves : answer.saved ≡ Some set

-- a command was carried out to its end
pub record AnswersDone {C : Type 0} (picks : C → ℕ → Bool → C → Type 0) (remains : Remains) (choose : C) (answer : Answer) : Type 0 where
  pub after : C
  pub saved : SavesLeft picks ending.Done done_text remains answer choose after

-- power was cut: the chooser is begun once, from the seed
pub record AnswersCut {C : Type 0} (begins : C → ℕ → C → Type 0) (picks : C → ℕ → Bool → C → Type 0) (power : Power) (remains : Remains) (choose : C) (answer : Answer) : Type 0 where
  pub begun : C
  pub after : C
  pub begins_so : begins choose power.seed begun
  pub steps : ℕ
  pub given : power.steps ≡ Some steps
  pub saved : SavesLeft picks ending.PowerCut (cut_text steps) remains answer begun after
