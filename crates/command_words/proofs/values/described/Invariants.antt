use Rattle.std.proofs.Common.{◌≡◌, drop, map}
use Rattle.clap.specs.Words.{app_of}
use Rattle.command_words.specs.App.{rule_for, app_for, said}
use Rattle.command_words.proofs.Described.{with_rules}
use Rattle.command_words.proofs.values.described.Given as goal

abbrev pub invariant-loop-argument : goal.invariant-loop-argument
invariant-loop-argument l = with_rules (app_of l.command) (map rule_for (map said (drop l.argument-index l.arguments))) ≡ app_for (map said l.arguments)
