use Rattle.std.proofs.Common.{◌≡◌, take, true}
use Rattle.std.specs.List.{list_all}
use Rattle.session_script.proofs.Fill.{fills}
use Rattle.session_script.proofs.texts.is_fill.Given as goal

abbrev pub invariant-loop-word : goal.invariant-loop-word
invariant-loop-word l = list_all (fills l.byte) (take l.word-index l.words) ≡ true
