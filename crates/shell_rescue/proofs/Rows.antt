-- Rows that are computed: the lines, and lanes that don't count.
use Rattle.std.proofs.Common.{◌≡◌, ℕ, Bool, true, List, [], ◌∷◌, ◌++◌, None, refl}
use Rattle.std.specs.Prelude.{codes}
use Rattle.std.specs.Fmt.{digits}
use Rattle.arena_layout.specs.declared.layout.Layout.{Layout}
use Rattle.arena_layout.specs.Info.{has_signature}
use Rattle.nvd_words.specs.Checks.{first_fault}
use Rattle.arena_rescue.specs.declared.loss.Loss.TheVariants as loss
use Rattle.shell_reports.specs.Outcome.{lf}
use Rattle.shell_rescue.specs.Lost.{last_line, loss_line, lost_text, lost_within, missing_lines, move_line}
use Rattle.shell_rescue.specs.Rescue.{counted_group}

bad_map : loss_line 0 (loss.BadMap 17) ≡ codes "arena 0 lost 17 BadMap" ++ lf
unfolding digits
bad_map = refl

range : loss_line 1 (loss.Range 5 300) ≡ codes "arena 1 lost 5 Range 300" ++ lf
unfolding digits
range = refl

twice : loss_line 0 (loss.Twice 5 9) ≡ codes "arena 0 lost 5 Twice 9" ++ lf
unfolding digits
twice = refl

marked : loss_line 0 (loss.Marked 2) ≡ codes "arena 0 lost 2 Marked" ++ lf
unfolding digits
marked = refl

bad_data : loss_line 12 (loss.BadData 0) ≡ codes "arena 12 lost 0 BadData" ++ lf
unfolding digits
bad_data = refl

one_move : move_line 0 (record { lba = 3; old = 7; new = 8; seq = 2 }) ≡ codes "arena 0 moved 3 7 8" ++ lf
unfolding digits
one_move = refl

missing : missing_lines (1 ∷ 3 ∷ []) ≡ codes "labels 1 Missing" ++ (lf ++ (codes "labels 3 Missing" ++ lf))
unfolding digits
missing = refl

none_lost : last_line 0 ≡ codes "whole" ++ lf
none_lost = refl

some_lost : last_line 10 ≡ codes "lost 10" ++ lf
unfolding digits
some_lost = refl

-- a namespace without bytes
no_bytes : (bad : ℕ → Bool) (parent : List ℕ) → lost_text bad [] parent ≡ codes "arena 0 Info Signature" ++ (lf ++ (codes "lost 1" ++ lf))
unfolding lost_within first_fault has_signature digits
no_bytes bad parent = refl

-- a lane of whose words one is bad
bad_lane : (l : Layout) (words : List ℕ) (lane : ℕ) → counted_group l (λ word. true) words lane ≡ None
bad_lane l words lane = refl
