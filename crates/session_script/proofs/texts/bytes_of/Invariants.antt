use Rattle.std.proofs.Common.{◌≡◌, take}
use Rattle.cut_words.specs.WordBytes.{bytes_of}
use Rattle.session_script.proofs.texts.bytes_of.Given as goal

abbrev pub invariant-loop-word : goal.invariant-loop-word
invariant-loop-word l = l.bytes.items ≡ bytes_of (take l.word-index l.words)
