use Rattle.std.proofs.Common.{arith}
use Rattle.turn_lock.specs.Passes.{callers_of, first_of}
use Rattle.registry_service.proofs.Closing.{areas_of, journal_of, left_of, on_of, words_of_all}
use Rattle.registry_service.proofs.locking.close_registry.Goals as goal

pub returns-clause-journal : goal.returns-clause-journal
returns-clause-journal c = journal_of (first_of c.args.turn) c.close.result c.into_parts.result.0 c.into_parts.result.1 c.into_parts.ensures.registry (callers_of c.args.turn) (c.close.ensures.strangers (callers_of c.args.turn) (omega arith)) c.into_parts.ensures.journal

pub returns-clause-left : goal.returns-clause-left
returns-clause-left c = left_of (first_of c.args.turn) c.close.result c.into_parts.result.0 c.into_parts.result.1 c.into_parts.ensures.registry (callers_of c.args.turn) (c.close.ensures.strangers (callers_of c.args.turn) (omega arith)) c.into_parts.ensures.left

pub returns-clause-words : goal.returns-clause-words
returns-clause-words c = words_of_all (first_of c.args.turn) c.close.result c.into_parts.result.0 c.into_parts.result.1 c.into_parts.ensures.registry (callers_of c.args.turn) (c.close.ensures.strangers (callers_of c.args.turn) (omega arith)) c.into_parts.ensures.words

pub returns-clause-on : goal.returns-clause-on
returns-clause-on c = on_of (first_of c.args.turn) c.close.result c.into_parts.result.0 c.into_parts.result.1 c.into_parts.ensures.registry (callers_of c.args.turn) (c.close.ensures.strangers (callers_of c.args.turn) (omega arith)) c.into_parts.ensures.on

pub returns-clause-areas : goal.returns-clause-areas
returns-clause-areas c = areas_of (first_of c.args.turn) c.close.result c.into_parts.result.0 c.into_parts.result.1 c.into_parts.ensures.registry (callers_of c.args.turn) (c.close.ensures.strangers (callers_of c.args.turn) (omega arith)) c.into_parts.ensures.areas
