-- What is saved of what remains of an image set.
use Rattle.std.proofs.Common.{◌≡◌, ℕ, false, Bool, List, [], ◌∷◌, ◌++◌, map, Option, Some, None, refl, sym, ap, ◌∙◌, subst}
use Rattle.std.specs.Prelude.{IfSome}
use Rattle.std.specs.Option.{option_map}
use Rattle.nvd_media.specs.Images.{Images as Objects, IsSameSet}
use Rattle.std.proofs.lemmas.Simd.{map-map}
use Rattle.cut_words.specs.Words.{Words, IsLeft}
use Rattle.cut_words.specs.WordBytes.{bytes_of, words_in}
use Rattle.power_cut.specs.Left.{Each, InTurn, LeavesOption, LeavesWords}
use Rattle.image_set.specs.Patches.{patched_contents}
use Rattle.namespace_bytes.specs.Patching.{BytePatch, byte_patched}
use Rattle.image_set.specs.declared.changing.OutlineLeft.{OutlineLeft}
use Rattle.image_set.specs.declared.changing.OutlineRest.{OutlineRest}
use Rattle.image_set.specs.declared.outline.Outline.{Outline}
use Rattle.image_set.specs.Changed.{objects_of, with_area}
use Rattle.image_set.specs.Outline as outlined
use Rattle.image_set.specs.Outline.{image_set_with}
use Rattle.namespace_areas.specs.declared.area.Area.{Area}
use Rattle.namespace_areas.specs.Seen.{words_of}
use Rattle.shell_reports.specs.declared.status.Ending.{Ending}
use Rattle.shell_reports.specs.declared.status.Ending.TheVariants as ending
use Rattle.shell_reports.specs.declared.power.Power.{Power}
use Rattle.shell_reports.specs.Cut.{cut_text, done_text}
use Rattle.shell_reports.specs.Saved.{IsSaving}
use Rattle.shell_changes.specs.declared.answer.Answer.{Answer}
use Rattle.shell_changes.specs.declared.answer.Left.{Left}
use Rattle.shell_changes.specs.declared.saving.NewArena.{NewArena}
use Rattle.shell_changes.specs.declared.saving.Remains.TheVariants as kind
use Rattle.shell_changes.specs.Answers.{HasSizes, outcome_with}
use Rattle.shell_changes.specs.Going.{CanPut, SavesCut, SavesDone}
use Rattle.shell_changes.specs.Remains.{AnswersCut, AnswersDone, AreOf, CanLeave, LeavesBy, SavesLeft, remains_of}
use Rattle.shell_changes.specs.Rest.{objects_by}
use Rattle.shell_changes.specs.Saved.{HasSize, contents_with, copies_contents, objects_saved}

sizes_by : (sizes : List ℕ) (answer : Answer) (set : Left) → answer.saved ≡ Some set → HasSize sizes set → HasSizes sizes answer
sizes_by sizes answer set saves sized = subst (λ (saved : Option Left). IfSome saved (HasSize sizes)) (sym saves) sized

-- an answer that saves nothing has any sizes, and copies no contents
pub no_sizes : (sizes : List ℕ) (answer : Answer) → answer.saved ≡ None → HasSizes sizes answer
no_sizes sizes answer none = subst (λ (saved : Option Left). IfSome saved (HasSize sizes)) (sym none) tt

pub copies_none : (answer : Answer) → answer.saved ≡ None → copies_contents answer.saved ≡ false
copies_none answer none = ap copies_contents none

module _ {C : Type 0} (picks : C → ℕ → Bool → C → Type 0) (e : Ending) (text : List ℕ) (answer : Answer) (before after : C) where
  saving : (set : Left) (due : Objects) (contents : List (List ℕ)) → answer.report.ending ≡ e → answer.report.text.items ≡ text → answer.saved ≡ Some set → IsSameSet (objects_saved contents set) due
      → IsSaving e text due (outcome_with answer contents)
  saving set due contents ends says saves same = record { ends = ends; says = says; saved = objects_saved contents set; saves = ap (option_map (objects_saved contents)) saves; same = same }

  -- ---- one label area of an outline

  module _ (rest : Outline) (m : ℕ) (words : Words) (s : SavesLeft picks e text (kind.Area rest m words) answer before after) where
    abbrev pub row_in : List ℕ
    row_in = s.leaves.3.row

    pub area_saves : (contents : List (List ℕ)) → IsSaving e text (objects_of (with_area (image_set_with rest contents) m (bytes_of s.leaves.3.row))) (outcome_with answer contents)
    area_saves contents =
        saving s.set (objects_of (with_area (image_set_with rest contents) m (bytes_of s.leaves.3.row))) contents s.ends_so s.says s.saves
        (λ o. ap (λ (set : Left). objects_saved contents set o) s.leaves.1 ∙ s.leaves.3.objects contents o)

    pub area_sizes : HasSizes rest.sizes answer
    area_sizes = sizes_by rest.sizes answer s.set s.saves (subst (λ (set : Left). HasSize rest.sizes set) (sym s.leaves.1) s.leaves.2)

  -- ---- all label areas of an outline

  module _ (rest : OutlineRest) (labels : List (Option Words)) (s : SavesLeft picks e text (kind.Areas rest labels) answer before after) where
    pub areas_save : (contents : List (List ℕ)) → IsSaving e text (objects_by rest contents s.leaves.0.labels) (outcome_with answer contents)
    areas_save contents =
        let left = s.leaves.0 in
        let l = s.leaves.2 in
        let is : left ≡ record { nfit = rest.nfit_bytes; labels = left.labels; sizes = rest.sizes; bad = rest.bad } = (λ i. record { nfit = l.nfit i; labels = left.labels; sizes = l.sizes i; bad = l.bad i }) in
        saving s.set (objects_by rest contents left.labels) contents s.ends_so s.says s.saves
        (λ o. ap (λ (set : Left). objects_saved contents set o) s.leaves.1 ∙ ap (λ (x : OutlineLeft). outlined.objects_with x contents o) is)

    pub areas_sizes : HasSizes rest.sizes answer
    areas_sizes = sizes_by rest.sizes answer s.set s.saves (subst (λ (set : Left). HasSize rest.sizes set) (sym s.leaves.1) s.leaves.2.sizes)

  -- ---- with an arena in the contents

  module _ (rest : OutlineRest) (labels : List (Option Words)) (new : NewArena) (s : SavesLeft picks e text (kind.Formatted rest labels new) answer before after) where
    abbrev pub patch : BytePatch
    patch = s.leaves.patch

    pub formatted_save : (contents : List (List ℕ)) → IsSaving e text (objects_by rest (map bytes_of (map words_in (patched_contents (byte_patched s.leaves.patch) contents))) s.leaves.left.labels) (outcome_with answer contents)
    formatted_save contents =
        let left = s.leaves.left in
        let l = s.leaves.areas in
        let is : left ≡ record { nfit = rest.nfit_bytes; labels = left.labels; sizes = rest.sizes; bad = rest.bad } = (λ i. record { nfit = l.nfit i; labels = left.labels; sizes = l.sizes i; bad = l.bad i }) in
        let words : contents_with (s.leaves.patch ∷ []) contents ≡ map bytes_of (map words_in (patched_contents (byte_patched s.leaves.patch) contents)) = sym (map-map bytes_of words_in (patched_contents (byte_patched s.leaves.patch) contents)) in
        saving s.set (objects_by rest (map bytes_of (map words_in (patched_contents (byte_patched s.leaves.patch) contents))) left.labels) contents s.ends_so s.says s.saves
        (λ o. ap (λ (set : Left). objects_saved contents set o) s.leaves.is ∙ ap (λ (x : OutlineLeft). outlined.objects_with x (contents_with (s.leaves.patch ∷ []) contents) o) is
        ∙ ap (λ (cs : List (List ℕ)). outlined.objects_with (record { nfit = rest.nfit_bytes; labels = left.labels; sizes = rest.sizes; bad = rest.bad }) cs o) words)

    pub formatted_sizes : HasSizes rest.sizes answer
    formatted_sizes = sizes_by rest.sizes answer s.set s.saves (subst (λ (set : Left). HasSize rest.sizes set) (sym s.leaves.is) s.leaves.areas.sizes)

  -- ---- with an arena or without one

  pub sizes_left : (rest : OutlineRest) (labels : List (Option Words)) (begun : Option NewArena) → SavesLeft picks e text (remains_of rest labels begun) answer before after → HasSizes rest.sizes answer
  sizes_left rest labels None s = areas_sizes rest labels s
  sizes_left rest labels (Some new) s = formatted_sizes rest labels new s

-- what remains can be left, with an arena or without one
pub leave_as : (rest : OutlineRest) (labels : List (Option Words)) (begun : Option NewArena) → AreOf rest labels → IfSome begun CanPut → CanLeave (remains_of rest labels begun)
leave_as rest labels None are can = are
leave_as rest labels (Some new) are can = (are, can)

-- ---- one row

-- a row alone, in turn
pub one_row : {C : Type 0} (picks : C → ℕ → Bool → C → Type 0) (words : Words) (row : List ℕ) (before after : C) → LeavesWords picks words row before after
    → InTurn (LeavesOption picks) (Some words ∷ []) (Some row ∷ []) before after
one_row picks words row before after leaves = (Some row, [], after, refl, (row, refl, leaves), (refl, refl))

pub row_alone : {C : Type 0} (picks : C → ℕ → Bool → C → Type 0) (words : Words) (row : List ℕ) (before after : C) → InTurn (LeavesOption picks) (Some words ∷ []) (Some row ∷ []) before after
    → LeavesWords picks words row before after
row_alone picks words row before after (first, rest, between, is, (row', is', leaves), (none, same)) =
    let one : row ≡ row' = (let e = is in let f = is' in cc) in
    subst (λ c. LeavesWords picks words row before c) (sym same) (subst (λ r. LeavesWords picks words r before between) (sym one) leaves)

-- ---- label areas, and contents behind them

contents_in_turn : {C : Type 0} (picks : C → ℕ → Bool → C → Type 0) (contents : List Words) (left : List (List ℕ)) (before after : C) → InTurn (LeavesWords picks) contents left before after
    → InTurn (LeavesOption picks) (map (λ w. Some w) contents) (map (λ row. Some row) left) before after
contents_in_turn picks [] left before after (none, same) = (ap (map (λ row. Some row)) none, same)
contents_in_turn picks (w ∷ contents) left before after (row, rest, between, is, leaves, more) =
    (Some row, map (λ r. Some r) rest, between, ap (map (λ r. Some r)) is, (row, refl, leaves), contents_in_turn picks contents rest between after more)

-- they are asked about in turn
both_in_turn : {C : Type 0} (picks : C → ℕ → Bool → C → Type 0) (areas : List (Option Words)) (rows : List (Option (List ℕ))) (contents : List Words) (left : List (List ℕ)) (before between after : C)
    → InTurn (LeavesOption picks) areas rows before between → InTurn (LeavesWords picks) contents left between after
    → InTurn (LeavesOption picks) (areas ++ map (λ w. Some w) contents) (rows ++ map (λ row. Some row) left) before after
both_in_turn picks [] rows contents left before between after (none, same) behind =
    subst (λ (rs : List (Option (List ℕ))). InTurn (LeavesOption picks) (map (λ w. Some w) contents) (rs ++ map (λ row. Some row) left) before after) (sym none)
    (contents_in_turn picks contents left before after (subst (λ c. InTurn (LeavesWords picks) contents left c after) same behind))
both_in_turn picks (area ∷ areas) rows contents left before between after (row, rest, next, is, leaves, more) behind =
    (row, rest ++ map (λ r. Some r) left, next, ap (λ rs. rs ++ map (λ r. Some r) left) is, leaves, both_in_turn picks areas rest contents left next between after more behind)

-- ---- the answers of a command

module _ {C : Type 0} (begins : C → ℕ → C → Type 0) (picks : C → ℕ → Bool → C → Type 0) (power : Power) (choose : C) (answer : Answer) (areas : List Area) (contents : List (List ℕ)) (rest : OutlineRest) where
  -- contents that are copied as they are
  pub kept_done : AnswersDone picks (kind.Areas rest (map words_of areas)) choose answer → SavesDone (λ rows left. objects_by rest contents rows) areas [] (outcome_with answer contents)
  kept_done done = record {
    rows = done.saved.leaves.0.labels;
    kept = done.saved.leaves.2.left_of;
    contents_left = [];
    left = refl;
    saves = areas_save picks ending.Done done_text answer choose done.after rest (map words_of areas) done.saved contents;
  }

  pub kept_cut : AnswersCut begins picks power (kind.Areas rest (map words_of areas)) choose answer → SavesCut (LeavesBy begins picks choose) (λ rows left. objects_by rest contents rows) power areas [] (outcome_with answer contents)
  kept_cut cut = record {
    rows = cut.saved.leaves.0.labels;
    kept = cut.saved.leaves.2.left_of;
    contents_left = [];
    left = refl;
    steps = cut.steps;
    given = cut.given;
    asked_first = (cut.begun, cut.after, cut.begins_so, cut.saved.leaves.2.asked);
    asked = (cut.begun, cut.after, cut.begins_so, both_in_turn picks (map words_of areas) cut.saved.leaves.0.labels [] [] cut.begun cut.after cut.after cut.saved.leaves.2.asked (refl, refl));
    saves = areas_save picks ending.PowerCut (cut_text cut.steps) answer cut.begun cut.after rest (map words_of areas) cut.saved contents;
  }

  -- contents into which an arena is put, as far as its format came
  module _ (new : NewArena) where
    pub formatted_done : (done : AnswersDone picks (kind.Formatted rest (map words_of areas) new) choose answer) (made : List Words)
        → Each IsLeft made (map words_in (patched_contents (byte_patched done.saved.leaves.patch) contents)) → SavesDone (λ rows left. objects_by rest (map bytes_of left) rows) areas made (outcome_with answer contents)
    formatted_done done made each = record {
      rows = done.saved.leaves.left.labels;
      kept = done.saved.leaves.areas.left_of;
      contents_left = map words_in (patched_contents (byte_patched done.saved.leaves.patch) contents);
      left = each;
      saves = formatted_save picks ending.Done done_text answer choose done.after rest (map words_of areas) new done.saved contents;
    }

    pub formatted_cut : (cut : AnswersCut begins picks power (kind.Formatted rest (map words_of areas) new) choose answer) (made : List Words)
        → Each IsLeft made (map words_in (patched_contents (byte_patched cut.saved.leaves.patch) contents))
        → InTurn (LeavesWords picks) made (map words_in (patched_contents (byte_patched cut.saved.leaves.patch) contents)) cut.saved.leaves.between cut.after
        → SavesCut (LeavesBy begins picks choose) (λ rows left. objects_by rest (map bytes_of left) rows) power areas made (outcome_with answer contents)
    formatted_cut cut made each asked = record {
      rows = cut.saved.leaves.left.labels;
      kept = cut.saved.leaves.areas.left_of;
      contents_left = map words_in (patched_contents (byte_patched cut.saved.leaves.patch) contents);
      left = each;
      steps = cut.steps;
      given = cut.given;
      asked_first = (cut.begun, cut.saved.leaves.between, cut.begins_so, cut.saved.leaves.areas.asked);
      asked = (
        cut.begun,
        cut.after,
        cut.begins_so,
        both_in_turn picks (map words_of areas) cut.saved.leaves.left.labels made (map words_in (patched_contents (byte_patched cut.saved.leaves.patch) contents)) cut.begun cut.saved.leaves.between cut.after
            cut.saved.leaves.areas.asked asked,
      );
      saves = formatted_save picks ending.PowerCut (cut_text cut.steps) answer cut.begun cut.after rest (map words_of areas) new cut.saved contents;
    }
