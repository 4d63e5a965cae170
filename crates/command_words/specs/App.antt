-- A list of arguments as a command of clap.
use Rattle.std.specs.Prelude.{List, [], map, Some, true, codes}
use Rattle.clap.specs.Words.{App, Rule, Text, new_app, new_rule}
use Rattle.clap.specs.declared.builder.action.ArgAction.TheVariants.{Set, SetTrue}
use Rattle.command_words.specs.declared.argument.Argument.{Argument}
use Rattle.command_words.specs.declared.argument.Form.{Form}
use Rattle.command_words.specs.declared.argument.Form.TheVariants.{Place, Optional, Required, Flag}

-- an argument by its name and its form
abbrev pub Described : Type 0
Described = Text × Form

-- an argument, regardless of where its name lies in memory
abbrev pub said : Argument → Described
said argument = (argument.name.now, argument.form)

-- an argument of a form, with its name as id and as long name
abbrev pub rule_of_form : Form → Text → Rule
rule_of_form Place name = record (new_rule name) { action = Some Set; required = true }
rule_of_form Optional name = record (new_rule name) { action = Some Set; long = Some name }
rule_of_form Required name = record (new_rule name) { action = Some Set; long = Some name; required = true }
rule_of_form Flag name = record (new_rule name) { action = Some SetTrue; long = Some name }

abbrev pub rule_for : Described → Rule
rule_for argument = rule_of_form argument.1 argument.0

-- the command with these arguments: its first word isn't a program's name, and it has no help and no version flag
abbrev pub app_with : List Rule → App
app_with rules = record {
  top = record (new_app (codes "command")).top {
    rules = rules;
    no_binary_name = true;
    disable_help_flag = true;
    disable_version_flag = true;
  };
  subs = [];
}

abbrev pub app_for : List Described → App
app_for arguments = app_with (map rule_for arguments)
