use Rattle.uuid.specs.Text.{parsed}
use Rattle.command_words.proofs.Unread.{none_spelled}
use Rattle.command_words.proofs.uuids.uuid_from.Goals as goal

pub returns-in-Err : goal.returns-in-Err
returns-in-Err c = none_spelled c.parse_str.result c.in-Err.field-0 (parsed c.args.word.now) c.in-Err.is c.parse_str.ensures.ok
