use Rattle.uuid.specs.Text.{parsed}
use Rattle.command_words.proofs.Unread.{none_spelled}
use Rattle.session_script.proofs.words.any_uuid.Goals as goal

pub returns-in-Err : goal.returns-in-Err
returns-in-Err c = none_spelled c.try_parse_ascii.result c.in-Err.field-0 (parsed c.args.word.now) c.in-Err.is c.try_parse_ascii.ensures.ok
