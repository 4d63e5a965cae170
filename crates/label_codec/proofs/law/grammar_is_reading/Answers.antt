use Rattle.label_codec.proofs.Grammar.{grammar_is_reading}
use Rattle.label_codec.proofs.law.grammar_is_reading.Goals as goal

pub returns : goal.returns
returns c = grammar_is_reading
