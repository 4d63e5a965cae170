-- The words after a crash during the steps that the code makes.
use Rattle.std.proofs.Common.{◌≡◌, ◌⊎◌, ℕ, ◌+◌, ◌/◌, List, ◌++◌, length, take, Option, Some, None, Bool, sym, ap, ◌∙◌, subst, arith, inl, inr}
use Rattle.std.proofs.lemmas.Bool.{cases_lt, cases_eq, leb-true}
use Rattle.std.proofs.lemmas.List.{take_all}
use Rattle.cut_words.specs.Words.{Words, Step, after, settled, IsLeft}
use Rattle.cut_words.specs.WordBytes.{words_in}
use Rattle.cut_words.specs.Fuses.{Makes}
use Rattle.cut_words.specs.Runs.{run_steps}
use Rattle.label_area.specs.Writing.{block_steps_from, IsLabelAt, IsWholeAfter, SettlesAfter}
use Rattle.cut_words.proofs.Making.{makes_all}
use Rattle.label_codec.specs.declared.label.Label.{Label}
use Rattle.label_index.specs.declared.index.IndexBlock.{IndexBlock}
use Rattle.label_index.specs.Index.{place_of}
use Rattle.label_index.specs.Spelling.{spelling_of as block_spelling}
use Rattle.label_area.specs.Change.{opposite, next_block, words_after, replace_steps, count_of_steps}
use Rattle.label_area.specs.Whole.{IsChange, IsCut, Shows, slots_before, slots_after}
use Rattle.label_area.proofs.Written.{length_change}
use Rattle.label_area.proofs.Steps.{writing_is}
use Rattle.label_area.proofs.After.{replace_cut, replace_settles, sized, fits, next_valid}

pub steps_are : (words : List ℕ) (now : IndexBlock) (out : Option ℕ) (put : Option Label) (ok : IsChange words now out put) (at : ℕ) (label : List ℕ) (place : ℕ) (block : List ℕ)
    → IsLabelAt now.size put at label → place ≡ place_of now.size (opposite now.side) / 8 → block ≡ words_in (block_spelling (next_block now out put))
    → run_steps at label ++ block_steps_from place block ≡ replace_steps words now out put
steps_are words now out put ok at label place block lab pl bl =
    writing_is words (next_block now out put) put (next_valid words now out put ok) (fits words now out put ok) at label place block lab pl bl

either_way : (words : List ℕ) (now : IndexBlock) (out : Option ℕ) (put : Option Label) (n : ℕ) (left : List ℕ) → IsCut words now out put n left
    → Shows left now (slots_before words now) ⊎ Shows left (next_block now out put) (slots_after words now out put)
either_way words now out put n left cut =
    elim (cases_lt (n + 1) (count_of_steps now.size put)) [
      | inl lt ↦ inl (cut.before lt)
      | inr ge ↦ elim (cases_eq (n + 1) (count_of_steps now.size put)) [
        | inl e ↦ cut.either e
        | inr more ↦ inr (cut.after (omega arith))
      ]
    ]

pub made_whole : (old new : Words) (fuse rest : Option ℕ) (at : ℕ) (label : List ℕ) (place : ℕ) (block : List ℕ) (made : Bool)
    → Makes old new fuse rest (run_steps at label ++ block_steps_from place block) made → IsWholeAfter old new at label place block made
made_whole old new None rest at label place block made h words now out put left start ok lab pl bl cut =
    let steps = steps_are words now out put ok at label place block lab pl bl in
    let total : length (replace_steps words now out put) ≡ count_of_steps now.size put =
    length_change (words_after words now out put) now.size (opposite now.side) put (sized words now out put ok).enough in
    let n : ℕ = count_of_steps now.size put in
    let is : new ≡ after (settled words) (take (count_of_steps now.size put) (replace_steps words now out put)) =
    h.words ∙ ap (λ (w : Words). after w (run_steps at label ++ block_steps_from place block)) start ∙ ap (after (settled words)) steps
    ∙ sym (ap (after (settled words)) (take_all (count_of_steps now.size put) (replace_steps words now out put) (omega (arith, total)))) in
    let c : IsCut words now out put (count_of_steps now.size put) left =
    replace_cut words now out put ok (count_of_steps now.size put) left (subst (λ (w : Words). IsLeft w left) is cut) in
    (inr (c.after (omega arith)), λ e. c.after (omega arith))
made_whole old new (Some n) rest at label place block made h words now out put left start ok lab pl bl cut =
    let steps = steps_are words now out put ok at label place block lab pl bl in
    let total : length (replace_steps words now out put) ≡ count_of_steps now.size put =
    length_change (words_after words now out put) now.size (opposite now.side) put (sized words now out put ok).enough in
    let is : new ≡ after (settled words) (take n (replace_steps words now out put)) =
    h.words ∙ ap (λ (w : Words). after w (take n (run_steps at label ++ block_steps_from place block))) start ∙ ap (λ (ss : List Step). after (settled words) (take n ss)) steps in
    let c : IsCut words now out put n left = replace_cut words now out put ok n left (subst (λ (w : Words). IsLeft w left) is cut) in (
      either_way words now out put n left c,
      λ e. c.after (omega (arith, ap length steps, leb-true (length (run_steps at label ++ block_steps_from place block)) n (sym h.all_made ∙ e))),
    )

pub made_settled : (old new : Words) (fuse rest : Option ℕ) (at : ℕ) (label : List ℕ) (place : ℕ) (block : List ℕ) (made : Bool)
    → Makes old new fuse rest (run_steps at label ++ block_steps_from place block) made → SettlesAfter old new at label place block made
made_settled old new fuse rest at label place block made h words now out put start ok lab pl bl e =
    makes_all old new fuse rest (run_steps at label ++ block_steps_from place block)
    (subst (λ (b : Bool). Makes old new fuse rest (run_steps at label ++ block_steps_from place block) b) e h)
    ∙ ap (λ (w : Words). after w (run_steps at label ++ block_steps_from place block)) start
    ∙ ap (after (settled words)) (steps_are words now out put ok at label place block lab pl bl) ∙ replace_settles words now out put ok
