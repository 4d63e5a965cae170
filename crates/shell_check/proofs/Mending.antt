-- The runs that repair the arenas of a namespace, one arena after another.
use Rattle.std.proofs.Common.{◌≡◌, ◌≢◌, ℕ, suc, ◌+◌, ◌-◌, ◌/◌, ◌≤◌, Bool, List, [], ◌++◌, length, take, drop, sym, ap, ◌∙◌, subst, arith, append_assoc}
use Rattle.std.proofs.Math.Seq.{take-append-add}
use Rattle.std.proofs.lemmas.List.{drop-drop, drop_at, length-take-le}
use Rattle.std.proofs.lemmas.List.Elements.{All-append, All-nil}
use Rattle.nvd_words.specs.Bytes.{AreBytes}
use Rattle.cut_words.specs.WordBytes.{words_in}
use Rattle.arena_check.specs.declared.info.InfoSource.{InfoSource}
use Rattle.arena_check.specs.Check.{info_used, next_of, source_of}
use Rattle.arena_repair.specs.Chain.{repaired_all, repaired_within}
use Rattle.arena_repair.specs.Repair.{repaired_by, repaired_words}
use Rattle.arena_repair.proofs.Chains.{Leads, leads, within_last, within_more}
use Rattle.arena_repair.proofs.Inside.{repair_stays_inside}
use Rattle.namespace_bytes.specs.declared.runs.Run.{Run}
use Rattle.namespace_bytes.specs.Runs.{runs_byte}
use Rattle.namespace_bytes.proofs.ByteWords.{changed}
use Rattle.namespace_bytes.proofs.RunWords.{all_changed, none_changed}
use Rattle.namespace_words.proofs.MadeMoves.{AreRuns}
use Rattle.shell_check.proofs.ArenaRuns.{Makes, changed_long}

abbrev pub with_runs : List Run → List ℕ → List ℕ
with_runs runs row = words_in (changed (runs_byte runs) row)

-- These runs repair the first k arenas; the next one begins at this word.
pub record MendsSoFar (bad : ℕ → Bool) (row parent : List ℕ) (k at : ℕ) (runs : List Run) : Type 0 where
  pub ahead : drop at (with_runs runs row) ≡ drop at (words_in row)
  pub due : take at (with_runs runs row) ++ repaired_within (length (words_in row) + 1 - k) bad (words_in row) parent at ≡ repaired_all bad (words_in row) parent
  pub small : AreRuns runs

pub mends_none : (bad : ℕ → Bool) (row parent : List ℕ) (runs : List Run) → runs ≡ [] → MendsSoFar bad row parent 0 0 runs
mends_none bad row parent runs none = subst (λ (rs : List Run). MendsSoFar bad row parent 0 0 rs) (sym none) (record {
  ahead = ap words_in (none_changed row);
  due = ap (λ (n : ℕ). repaired_within n bad (words_in row) parent 0) (let e : length (words_in row) + 1 - 0 ≡ length (words_in row) + 1 = omega arith in e);
  small = All-nil (λ (r : Run). AreBytes r.bytes);
})

module _ (bad : ℕ → Bool) (row parent : List ℕ) (k at : ℕ) (runs : List Run) (m : MendsSoFar bad row parent k at runs) (short : k ≤ length (words_in row)) (there : at ≤ length (words_in row)) where
  abbrev words : List ℕ
  words = words_in row

  abbrev here : InfoSource
  here = source_of (drop at words) parent

  abbrev now : List ℕ
  now = repaired_by at bad (drop at words) parent here

  module _ (made : List Run) (makes : Makes (changed (runs_byte runs) row) at made now) where
    all_runs : with_runs (runs ++ made) row ≡ take at (with_runs runs row) ++ now
    all_runs = ap words_in (all_changed runs made row) ∙ makes.words_are

    front : length (take at (with_runs runs row)) ≡ at
    front = length-take-le at (with_runs runs row) (omega (arith, there, changed_long runs row))

    left : (n : ℕ) × (length words + 1 - k ≡ suc n) × (n ≡ length words + 1 - (k + 1))
    left = (length words - k, omega (arith, short), omega (arith, short))

    all_small : AreRuns (runs ++ made)
    all_small = All-append (λ (r : Run). AreBytes r.bytes) runs made m.small makes.small

    -- it is the last one
    pub mends_last : next_of here ≡ 0 → with_runs (runs ++ made) row ≡ repaired_all bad words parent
    mends_last last =
        all_runs
        ∙ ap (λ (ws : List ℕ). take at (with_runs runs row) ++ ws) (sym (within_last bad words parent left.0 at last))
        ∙ ap (λ (n : ℕ). take at (with_runs runs row) ++ repaired_within n bad words parent at) (sym left.1)
        ∙ m.due

    behind_by : (l : Leads at bad (drop at words) parent (next_of here)) → drop (next_of here / 8) now ≡ drop (next_of here / 8) (drop at words)
    unfolding repaired_words
    behind_by l =
        (λ i. drop (l.size_is i / 8) now)
        ∙ (repair_stays_inside at bad (drop at words) parent).behind l.info (ap info_used l.source_is)
        ∙ (λ i. drop (sym l.size_is i / 8) (drop at words))

    -- another one follows it
    pub mends_more : (n : ℕ) → n ≡ next_of here → n ≢ 0 → MendsSoFar bad row parent (k + 1) (at + n / 8) (runs ++ made)
    mends_more n is some =
        let more : next_of here ≢ 0 = λ z. some (is ∙ z) in
        let l = leads at bad (drop at words) parent more in
        subst (λ (x : ℕ). MendsSoFar bad row parent (k + 1) (at + x / 8) (runs ++ made)) (sym is) (record {
          ahead =
              sym (drop-drop (next_of here / 8) at (with_runs (runs ++ made) row))
              ∙ ap (λ (ws : List ℕ). drop (next_of here / 8) (drop at ws)) all_runs
              ∙ ap (drop (next_of here / 8)) (drop_at (take at (with_runs runs row)) now at front)
              ∙ behind_by l
              ∙ drop-drop (next_of here / 8) at words;
          due =
              ap (λ (ws : List ℕ). take (at + next_of here / 8) ws ++ repaired_within (length words + 1 - (k + 1)) bad words parent (at + next_of here / 8)) all_runs
              ∙ ap (λ (ws : List ℕ). ws ++ repaired_within (length words + 1 - (k + 1)) bad words parent (at + next_of here / 8)) part
              ∙ append_assoc (take at (with_runs runs row)) (take (next_of here / 8) now) (repaired_within (length words + 1 - (k + 1)) bad words parent (at + next_of here / 8))
              ∙ ap (λ (x : ℕ). take at (with_runs runs row) ++ (take (next_of here / 8) now ++ repaired_within x bad words parent (at + next_of here / 8))) (sym left.2)
              ∙ ap (λ (ws : List ℕ). take at (with_runs runs row) ++ ws) (sym (within_more bad words parent left.0 at more))
              ∙ ap (λ (x : ℕ). take at (with_runs runs row) ++ repaired_within x bad words parent at) (sym left.1)
              ∙ m.due;
          small = all_small;
        })
      where
        part : take (at + next_of here / 8) (take at (with_runs runs row) ++ now) ≡ take at (with_runs runs row) ++ take (next_of here / 8) now
        part =
            ap (λ (x : ℕ). take (x + next_of here / 8) (take at (with_runs runs row) ++ now)) (sym front)
            ∙ take-append-add (take at (with_runs runs row)) now (next_of here / 8)
