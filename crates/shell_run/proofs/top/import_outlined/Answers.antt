use Rattle.std.proofs.Common.{Option, Result, sym, subst, arith}
use Rattle.std.specs.Prelude.{IfOk}
use Rattle.std.specs.Option.{ForSome}
use Rattle.nvd_media.specs.Images.{Images}
use Rattle.image_set.specs.declared.fault.LoadFault.{LoadFault}
use Rattle.image_set.specs.declared.outline.Outline.{Outline}
use Rattle.image_set.specs.Outline.{HasContents}
use Rattle.shell_reports.proofs.More.{if_more}
use Rattle.shell_changes.specs.declared.answer.Answer.{Answer}
use Rattle.shell_changes.specs.Saved.{HasContentsOf}
use Rattle.shell_changes.proofs.Remains.{copies_none}
use Rattle.shell_import.specs.Beginning.{ImportsFrom}
use Rattle.shell_import.specs.Import.{ImportComes}
use Rattle.shell_run.proofs.Comes.{IsTold, if_told, outline_there, outlined_with, unoutlined_told, whole_there}
use Rattle.shell_run.proofs.top.import_outlined.Goals as goal

pub import_answer-requires-clause-there : goal.import_answer-requires-clause-there
import_answer-requires-clause-there g c =
    let held = g.S.ImageSource.held c.args.images.now in
    subst (λ (h : Option Images). ForSome h (HasContents c.in-Ok.outline.sizes)) (sym c.load_outline.ensures.same)
    (subst (λ (l : Result Outline LoadFault). ForSome held (λ set. IfOk l (λ o. HasContents o.sizes set))) c.in-Ok.is c.load_outline.ensures.sizes)

pub returns-in-Ok-clause-told : goal.returns-in-Ok-clause-told
returns-in-Ok-clause-told g c =
    let held = g.S.ImageSource.held c.args.images.now in
    let comes = ImportComes c.args.uuid.now c.args.bytes.items in
    let imports = subst (λ (h : Option Images). IfOk c.import_answer.result (ImportsFrom h c.args.uuid.now c.args.bytes.items c.in-Ok.outline)) c.load_outline.ensures.same c.import_answer.ensures.imports in
    if_more _ (IsTold comes held) c.import_answer.result
    (λ answer from. outlined_with comes held c.load_outline.result c.in-Ok.outline answer c.in-Ok.is c.load_outline.ensures.told from.sizes from.comes) imports

pub returns-in-Ok-clause-there : goal.returns-in-Ok-clause-there
returns-in-Ok-clause-there g c =
    let held = g.S.ImageSource.held c.args.images.now in
    if_more _ (λ (answer : Answer). HasContentsOf held answer.saved) c.import_answer.result
    (λ answer from. outline_there held c.load_outline.result c.in-Ok.outline answer c.in-Ok.is c.load_outline.ensures.sizes from.sizes) c.import_answer.ensures.imports

pub returns-in-Ok-clause-failed : goal.returns-in-Ok-clause-failed
returns-in-Ok-clause-failed g c = λ is.
    let later = c.load_outline.ensures.later in
    let rose = c.import_answer.ensures.failed is in
    omega (arith, later, rose)

pub returns-in-Err-clause-told : goal.returns-in-Err-clause-told
returns-in-Err-clause-told g c =
    let held = g.S.ImageSource.held c.args.images.now in
    let comes = ImportComes c.args.uuid.now c.args.bytes.items in
    if_told (IsTold comes held) c.unloaded.result c.in-Err.why
    (λ answer nothing says read memory. unoutlined_told comes held c.load_outline.result c.in-Err.why answer c.in-Err.is c.load_outline.ensures.told nothing says read memory)
    c.unloaded.ensures.saved c.unloaded.ensures.text c.unloaded.ensures.source c.unloaded.ensures.memory

pub returns-in-Err-clause-there : goal.returns-in-Err-clause-there
returns-in-Err-clause-there g c =
    let held = g.S.ImageSource.held c.args.images.now in
    if_more (λ (answer : Answer). _) (λ (answer : Answer). HasContentsOf held answer.saved) c.unloaded.result (λ answer none. whole_there held answer.saved (copies_none answer none)) c.unloaded.ensures.saved
