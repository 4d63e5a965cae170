use Rattle.std.proofs.Common.{ap, ◌∙◌, Option}
use Rattle.std.specs.Prelude.{unwrap_or}
use Rattle.label_set.specs.declared.placed.SetStatus.{SetStatus}
use Rattle.label_set.specs.Status.{naming_of, status_of}
use Rattle.label_set.proofs.deciding.status.Goals as goal

pub returns-in-Some : goal.returns-in-Some
unfolding status_of
returns-in-Some c = ap (λ (o : Option SetStatus). unwrap_or o (naming_of c.args.labels.now)) c.in-Some.ensures

pub returns-in-None : goal.returns-in-None
unfolding status_of
returns-in-None c = c.naming.ensures ∙ ap (λ (o : Option SetStatus). unwrap_or o (naming_of c.args.labels.now)) c.in-None.ensures
