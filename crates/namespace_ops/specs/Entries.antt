-- What was asked of a registry, and what it answered.
use Rattle.std.specs.Prelude.{Result}
use Rattle.nvd_words.specs.declared.tag.Tag.{Tag}
use Rattle.namespace_map.specs.declared.commands.Command.{Command}
use Rattle.namespace_map.specs.declared.refused.OpRefused.{OpRefused}

-- what a call answers
abbrev pub Reply : Type 0
Reply = Result (Unit {0}) OpRefused

pub record JournalEntry : Type 0 where
  -- whose call it was
  pub tag : Tag
  pub command : Command
  pub reply : Reply
