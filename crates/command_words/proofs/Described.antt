-- A command of clap that grows argument by argument.
use Rattle.std.proofs.Common.{◌≡◌, ℕ, ◌+◌, ◌<◌, List, [], ◌∷◌, ◌++◌, length, drop, map, sym, ap, ◌∙◌}
use Rattle.std.proofs.lemmas.List.{append-nil, append_assoc, at_drop_more}
use Rattle.std.specs.Prelude.{slice_index_or}
use Rattle.clap.specs.Words.{App, Rule, with_rule}
use Rattle.command_words.specs.declared.argument.Argument.{Argument}
use Rattle.command_words.specs.App.{rule_for, said}

-- a command with more arguments
abbrev pub with_rules : App → List Rule → App
with_rules app rules = record app { top = record app.top { rules = app.top.rules ++ rules } }

pub one_more : (app : App) (rule : Rule) (rules : List Rule) → with_rules (with_rule app rule) rules ≡ with_rules app (rule ∷ rules)
one_more app rule rules = ap (λ (rs : List Rule). record app { top = record app.top { rules = rs } }) (append_assoc app.top.rules (rule ∷ []) rules)

pub no_more : (app : App) → with_rules app [] ≡ app
no_more app = ap (λ (rs : List Rule). record app { top = record app.top { rules = rs } }) (append-nil app.top.rules)

-- one more argument
pub argument_more : (arguments : List Argument) (i : ℕ) (blank : Argument) (app after whole : App) (rule : Rule) → i < length arguments
    → rule ≡ rule_for (said (slice_index_or arguments i blank)) → after ≡ with_rule app rule
    → with_rules app (map rule_for (map said (drop i arguments))) ≡ whole → with_rules after (map rule_for (map said (drop (i + 1) arguments))) ≡ whole
argument_more arguments i blank app after whole rule inside is added so_far =
    let rest : List Rule = map rule_for (map said (drop (i + 1) arguments)) in
    let next : map rule_for (map said (drop i arguments)) ≡ rule ∷ rest =
    at_drop_more (λ (rest : List Argument). map rule_for (map said rest)) arguments i blank inside ∙ ap (λ (r : Rule). r ∷ rest) (sym is) in
    ap (λ (x : App). with_rules x rest) added ∙ one_more app rule rest ∙ ap (with_rules app) (sym next) ∙ so_far
