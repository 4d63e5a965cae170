-- Which words of a block are pending while it is written.
use Rattle.std.proofs.Common.{ℕ, ◌+◌, ◌-◌, ◌≤◌, List, length, take, drop, Option, true, sym, subst, arith, inl, inr}
use Rattle.std.specs.List.{range_with_len}
use Rattle.std.proofs.lemmas.List.{length-take}
use Rattle.std.proofs.lemmas.List.Elements.{All-append}
use Rattle.cut_words.specs.Words.{Words}
use Rattle.cut_words.specs.Groups.{written}
use Rattle.cut_words.specs.Runs.{stores_from, keeps_from, run_steps, NonePending}
use Rattle.cut_words.specs.Fuses.{Makes}
use Rattle.cut_words.proofs.Stays.{Clear, Passes, clear_stays, keeps_pass, written_clear}
use Rattle.cut_words.proofs.Making.{makes_all, stores_pass_by, run_clear}
use Rattle.label_area.specs.Writing.{others_stores, others_keeps, others_steps}

-- fewer words
pub fewer : (words : Words) (base count from many : ℕ) → NonePending words base count → base ≤ from → from + many ≤ base + count → NonePending words from many
fewer words base count from many ok low high i first last = ok i (omega arith) (omega arith)

-- after writing a run
pub run_leaves : (w w1 : Words) (f f1 : Option ℕ) (at : ℕ) (values : List ℕ) (base count : ℕ) → Makes w w1 f f1 (run_steps at values) true → NonePending w base count → NonePending w1 base count
run_leaves w w1 f f1 at values base count a ok i first last =
    subst (Clear i) (sym (makes_all w w1 f f1 (run_steps at values) a)) (run_clear at values w i (ok i first last))

-- after writing a word
pub word_leaves : (w w1 : Words) (f f1 : Option ℕ) (at v base count : ℕ) → Makes w w1 f f1 (written at v) true → NonePending w base count → NonePending w1 base count
word_leaves w w1 f f1 at v base count a ok i first last =
    subst (Clear i) (sym (makes_all w w1 f f1 (written at v) a)) (written_clear at v w i (ok i first last))

-- after storing the first two words of a block: the words after the third
pub two_leave : (w w1 : Words) (f f1 : Option ℕ) (base : ℕ) (block : List ℕ) (count : ℕ) → Makes w w1 f f1 (stores_from base (take 2 block)) true → NonePending w (base + 3) count → NonePending w1 (base + 3) count
two_leave w w1 f f1 base block count a ok i first last =
    subst (Clear i) (sym (makes_all w w1 f f1 (stores_from base (take 2 block)) a))
    (clear_stays i (stores_from base (take 2 block)) w (stores_pass_by (take 2 block) base i (inr (omega (arith, length-take 2 block)))) (ok i first last))

-- after writing all but the third word: the third
pub others_leave : (w w1 : Words) (f f1 : Option ℕ) (base : ℕ) (block : List ℕ) → Makes w w1 f f1 (others_steps base block) true → Clear (base + 2) w → Clear (base + 2) w1
others_leave w w1 f f1 base block a was =
    let i : ℕ = base + 2 in
    subst (Clear i) (sym (makes_all w w1 f f1 (others_steps base block) a))
    (clear_stays i (others_steps base block) w
    (All-append (Passes i) (others_stores base block) (others_keeps base (length block))
    (All-append (Passes i) (stores_from base (take 2 block)) (stores_from (base + 3) (drop 3 block))
    (stores_pass_by (take 2 block) base i (inr (omega (arith, length-take 2 block))))
    (stores_pass_by (drop 3 block) (base + 3) i (inl (omega arith))))
    (All-append (Passes i) (keeps_from base 2) (keeps_from (base + 3) (length block - 3))
    (keeps_pass i (range_with_len base 2)) (keeps_pass i (range_with_len (base + 3) (length block - 3)))))
    was)
