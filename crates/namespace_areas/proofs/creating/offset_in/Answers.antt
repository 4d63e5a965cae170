use Rattle.std.proofs.Common.{◌∙◌, sym}
use Rattle.nvd_words.proofs.Checks.{fault_first}
use Rattle.namespace_areas.specs.Refusals.{unready_in}
use Rattle.namespace_areas.proofs.creating.offset_in.Goals as goal

pub returns-in-Some : goal.returns-in-Some
returns-in-Some c = λ _. fault_first _ (unready_in c.args.areas.now c.args.set.now) c.in-Some.refused _ (sym c.unready.ensures ∙ c.in-Some.is)
