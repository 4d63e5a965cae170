use Rattle.clap.specs.Words.{app_of}
use Rattle.command_words.proofs.Described.{argument_more}
use Rattle.command_words.proofs.values.described.Goals as goal

pub loop-argument-preserved : goal.loop-argument-preserved
loop-argument-preserved c =
    argument_more c.args.arguments.now c.loop-argument.argument-index _ (app_of c.loop-argument.command) _ _ _ c.loop-argument-test.true
    c.clap_argument.ensures.rule (c.in_ok-command.ensures.shape c.clap_argument.ensures.local) c.loop-argument.invariant
