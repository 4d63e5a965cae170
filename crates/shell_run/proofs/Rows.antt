-- Worked rows of the table of commands, computed on clap's definition.
use Rattle.std.proofs.Common.{◌≡◌, [], ◌∷◌, Some, None, refl, codes}
use Rattle.clap.proofs.OnLiterals.{clap_on_literals}
use Rattle.command_words.specs.Parsed.{parsed}
use Rattle.shell_run.specs.declared.words.CommandLine.TheVariants.{Labels, Nfit, CheckSet, RepairSet}
use Rattle.shell_run.specs.Commands.{kind_of}
use Rattle.shell_run.specs.Words.{command_of}

pub labels_first : command_of (codes "labels" ∷ codes "0" ∷ []) ≡ Some (Labels 0)
unfolding clap_on_literals parsed kind_of
labels_first = refl

pub labels_last : command_of (codes "labels" ∷ codes "63" ∷ []) ≡ Some (Labels 63)
unfolding clap_on_literals parsed kind_of
labels_last = refl

pub labels_past : command_of (codes "labels" ∷ codes "64" ∷ []) ≡ None
unfolding clap_on_literals parsed kind_of
labels_past = refl

pub labels_padded : command_of (codes "labels" ∷ codes "007" ∷ []) ≡ None
unfolding clap_on_literals parsed kind_of
labels_padded = refl

pub labels_signed : command_of (codes "labels" ∷ codes "+1" ∷ []) ≡ None
unfolding clap_on_literals parsed kind_of
labels_signed = refl

pub labels_alone : command_of (codes "labels" ∷ []) ≡ None
unfolding clap_on_literals parsed kind_of
labels_alone = refl

pub labels_help : command_of (codes "labels" ∷ codes "0" ∷ codes "--help" ∷ []) ≡ None
unfolding clap_on_literals parsed kind_of
labels_help = refl

pub nfit_alone : command_of (codes "nfit" ∷ []) ≡ Some Nfit
unfolding clap_on_literals parsed kind_of
nfit_alone = refl

pub nfit_more : command_of (codes "nfit" ∷ codes "0" ∷ []) ≡ None
unfolding clap_on_literals parsed kind_of
nfit_more = refl

pub check_alone : command_of (codes "check" ∷ []) ≡ Some CheckSet
unfolding clap_on_literals parsed kind_of
check_alone = refl

pub check_repair_alone : command_of (codes "check" ∷ codes "--repair" ∷ []) ≡ Some RepairSet
unfolding clap_on_literals parsed kind_of
check_repair_alone = refl

pub check_repair_twice : command_of (codes "check" ∷ codes "--repair" ∷ codes "--repair" ∷ []) ≡ None
unfolding clap_on_literals parsed kind_of
check_repair_twice = refl

pub no_command : command_of (codes "help" ∷ []) ≡ None
unfolding clap_on_literals parsed kind_of
no_command = refl

pub export_alone : command_of (codes "export" ∷ []) ≡ None
unfolding clap_on_literals parsed kind_of
export_alone = refl

pub export_flag_valued : command_of (codes "export" ∷ codes "11111111111111111111111111111111" ∷ codes "--bad-as-zeros=true" ∷ []) ≡ None
unfolding clap_on_literals parsed kind_of
export_flag_valued = refl

pub export_flag_twice : command_of (codes "export" ∷ codes "--bad-as-zeros" ∷ codes "11111111111111111111111111111111" ∷ codes "--bad-as-zeros" ∷ []) ≡ None
unfolding clap_on_literals parsed kind_of
export_flag_twice = refl
