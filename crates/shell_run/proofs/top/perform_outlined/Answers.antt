use Rattle.std.proofs.Common.{Option, Result, sym, subst, arith}
use Rattle.std.specs.Prelude.{IfOk, IsTrue}
use Rattle.std.specs.Option.{ForSome}
use Rattle.nvd_media.specs.Images.{Images}
use Rattle.image_set.specs.declared.fault.LoadFault.{LoadFault}
use Rattle.image_set.specs.declared.outline.Outline.{Outline}
use Rattle.image_set.specs.Outline.{HasContents}
use Rattle.shell_reports.proofs.More.{if_both, if_more}
use Rattle.shell_changes.specs.declared.answer.Answer.{Answer}
use Rattle.shell_changes.specs.Remains.{LeavesBy}
use Rattle.shell_changes.specs.Saved.{HasContentsOf, copies_contents}
use Rattle.shell_run.specs.Run.{LoadedComes, OnSource, copies}
use Rattle.shell_run.proofs.Comes.{if_told, IsTold, none_copied, outline_there, outlined_with, unoutlined_told, whole_there}
use Rattle.shell_changes.proofs.Remains.{copies_none}
use Rattle.shell_run.proofs.top.perform_outlined.Goals as goal

pub outlined_answer-requires-clause-there : goal.outlined_answer-requires-clause-there
outlined_answer-requires-clause-there g c =
    let held = g.S.ImageSource.held c.args.images.now in
    subst (λ (h : Option Images). ForSome h (HasContents c.in-Ok.outline.sizes)) (sym c.load_outline.ensures.same)
    (subst (λ (l : Result Outline LoadFault). ForSome held (λ set. IfOk l (λ o. HasContents o.sizes set))) c.in-Ok.is c.load_outline.ensures.sizes)

pub returns-in-Ok-clause-told : goal.returns-in-Ok-clause-told
returns-in-Ok-clause-told g c =
    let leaves = LeavesBy g.C.Chooser.begins g.C.Chooser.picks c.args.choose.now in
    let held = g.S.ImageSource.held c.args.images.now in
    let comes = LoadedComes leaves c.args.command in
    let due = subst (λ (h : Option Images). IfOk c.outlined_answer.result (OnSource comes h c.in-Ok.outline)) c.load_outline.ensures.same c.outlined_answer.ensures.comes in
    if_both _ _ (IsTold comes held) c.outlined_answer.result
    (λ answer on sized. outlined_with comes held c.load_outline.result c.in-Ok.outline answer c.in-Ok.is c.load_outline.ensures.told sized on)
    due c.outlined_answer.ensures.sizes

pub returns-in-Ok-clause-there : goal.returns-in-Ok-clause-there
returns-in-Ok-clause-there g c =
    let held = g.S.ImageSource.held c.args.images.now in
    if_more _ (λ (answer : Answer). HasContentsOf held answer.saved) c.outlined_answer.result
    (λ answer sized. outline_there held c.load_outline.result c.in-Ok.outline answer c.in-Ok.is c.load_outline.ensures.sizes sized) c.outlined_answer.ensures.sizes

pub returns-in-Ok-clause-failed : goal.returns-in-Ok-clause-failed
returns-in-Ok-clause-failed g c = λ is.
    let later = c.load_outline.ensures.later in
    let rose = c.outlined_answer.ensures.failed is in
    omega (arith, later, rose)

pub returns-in-Err-clause-told : goal.returns-in-Err-clause-told
returns-in-Err-clause-told g c =
    let leaves = LeavesBy g.C.Chooser.begins g.C.Chooser.picks c.args.choose.now in
    let held = g.S.ImageSource.held c.args.images.now in
    if_told (IsTold (LoadedComes leaves c.args.command) held) c.unloaded.result c.in-Err.fault
    (λ answer nothing says read memory. unoutlined_told (LoadedComes leaves c.args.command) held c.load_outline.result c.in-Err.fault answer c.in-Err.is c.load_outline.ensures.told nothing says read memory)
    c.unloaded.ensures.saved c.unloaded.ensures.text c.unloaded.ensures.source c.unloaded.ensures.memory

pub returns-in-Err-clause-copying : goal.returns-in-Err-clause-copying
returns-in-Err-clause-copying g c =
    if_more (λ (answer : Answer). _) (λ (answer : Answer). IsTrue (copies_contents answer.saved) → IsTrue (copies c.args.command)) c.unloaded.result
    (λ answer none. none_copied answer.saved (IsTrue (copies c.args.command)) (copies_none answer none)) c.unloaded.ensures.saved

pub returns-in-Err-clause-there : goal.returns-in-Err-clause-there
returns-in-Err-clause-there g c =
    let held = g.S.ImageSource.held c.args.images.now in
    if_more (λ (answer : Answer). _) (λ (answer : Answer). HasContentsOf held answer.saved) c.unloaded.result (λ answer none. whole_there held answer.saved (copies_none answer none)) c.unloaded.ensures.saved
