use Rattle.std.proofs.Common.{map}
use Rattle.std.specs.Prelude.{string_bytes}
use Rattle.command_words.specs.App.{said}
use Rattle.command_words.proofs.Taken.{words_taken, words_refused}
use Rattle.command_words.proofs.values.parse.Goals as goal

pub returns-in-Ok-try_get_matches_from-clause-taken : goal.returns-in-Ok-try_get_matches_from-clause-taken
returns-in-Ok-try_get_matches_from-clause-taken c =
    words_taken (map said c.args.arguments.now) (map string_bytes c.args.words.now) _ c.in-Ok-try_get_matches_from.matches c.in-Ok.ensures
    c.in-Ok-try_get_matches_from.ensures.kinds c.in-Ok-try_get_matches_from.ensures.matches

pub returns-in-Err-clause-usage : goal.returns-in-Err-clause-usage
returns-in-Err-clause-usage c = λ usage.
    words_refused (map said c.args.arguments.now) (map string_bytes c.args.words.now) _ c.in-Err.error c.in-Ok.ensures c.in-Err.ensures.kinds
    (λ memory. (let wanting = c.fault_from.ensures.memory memory in let said = usage in cc))
