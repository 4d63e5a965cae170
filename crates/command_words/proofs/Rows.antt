-- Worked examples, computed on clap's definition.
use Rattle.std.proofs.Common.{◌≡◌, List, [], ◌∷◌, Option, Some, None, refl, codes}
use Rattle.std.specs.Option.{option_map}
use Rattle.clap.specs.Words.{Text, first_of}
use Rattle.clap.proofs.OnLiterals.{clap_on_literals}
use Rattle.command_words.specs.declared.argument.Form.TheVariants.{Place, Optional}
use Rattle.command_words.specs.App.{Described}
use Rattle.command_words.specs.Parsed.{parsed}

-- MODULE, --cut N, --evict S
abbrev init : List Described
init = (codes "module", Place) ∷ (codes "cut", Optional) ∷ (codes "evict", Optional) ∷ []

abbrev given : List Text → Option (Option Text × Option Text × Option Text)
given words = option_map (λ rows. (first_of (codes "module") rows, first_of (codes "cut") rows, first_of (codes "evict") rows)) (parsed init words)

pub place_alone : given (codes "0" ∷ []) ≡ Some (Some (codes "0"), None, None)
unfolding clap_on_literals parsed
place_alone = refl

pub option_after : given (codes "0" ∷ codes "--cut" ∷ codes "5" ∷ []) ≡ Some (Some (codes "0"), Some (codes "5"), None)
unfolding clap_on_literals parsed
option_after = refl

pub options_before : given (codes "--evict=7" ∷ codes "--cut=5" ∷ codes "0" ∷ []) ≡ Some (Some (codes "0"), Some (codes "5"), Some (codes "7"))
unfolding clap_on_literals parsed
options_before = refl

pub no_place : given (codes "--cut" ∷ codes "5" ∷ []) ≡ None
unfolding clap_on_literals parsed
no_place = refl

pub option_twice : given (codes "0" ∷ codes "--cut=5" ∷ codes "--cut" ∷ codes "5" ∷ []) ≡ None
unfolding clap_on_literals parsed
option_twice = refl

pub no_value : given (codes "0" ∷ codes "--cut" ∷ []) ≡ None
unfolding clap_on_literals parsed
no_value = refl

pub help_word : given (codes "0" ∷ codes "--help" ∷ []) ≡ None
unfolding clap_on_literals parsed
help_word = refl

pub signed_place : given (codes "-1" ∷ []) ≡ None
unfolding clap_on_literals parsed
signed_place = refl
