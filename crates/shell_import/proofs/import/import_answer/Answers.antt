use Rattle.std.proofs.Common.{ℕ, List, sym, ap, subst}
use Rattle.image_set.specs.declared.changing.OutlineRest.{OutlineRest}
use Rattle.image_set.specs.Outline.{HasContents}
use Rattle.shell_import.specs.Beginning.{Begins, IsSectorImport}
use Rattle.shell_import.proofs.import.import_answer.Goals as goal

pub answer-requires-clause-there : goal.answer-requires-clause-there
answer-requires-clause-there g c = λ source told.
    let it : IsSectorImport c.args.uuid.now c.args.bytes.items c.args.outline c.in-Ok-Sectors.import =
    subst (Begins c.args.uuid.now c.args.bytes.items c.args.outline) c.in-Ok-Sectors.field-0-is c.in-Ok-Sectors.ensures in
    subst (λ (sizes : List ℕ). HasContents sizes source) (sym (ap (λ (r : OutlineRest). r.sizes) it.placed.parts.rest_is)) (c.requires.there source told)
