use Rattle.std.proofs.Common.{◌∙◌, refl, sym, ap, subst}
use Rattle.std.specs.Prelude.{IsTrue, length}
use Rattle.image_set.specs.Outline.{contents_in}
use Rattle.shell_reports.proofs.More.{if_more}
use Rattle.shell_changes.specs.declared.answer.Answer.{Answer}
use Rattle.shell_changes.specs.Answers.{HasSizes}
use Rattle.shell_changes.specs.Remains.{LeavesBy}
use Rattle.shell_changes.specs.Saved.{copies_contents}
use Rattle.shell_changes.proofs.Remains.{copies_none, no_sizes}
use Rattle.shell_run.specs.declared.words.CommandLine.TheVariants.{Labels, Nfit, Init, Change, Info, Check, RepairSet, Read, Write}
use Rattle.shell_run.specs.declared.words.CommandLine.TheVariants as command
use Rattle.shell_run.specs.Run.{LoadedComes, OnSource, checks_set, copies, has_sessions, reads_script, streams}
use Rattle.shell_run.specs.Words.{HasGoodValues}
use Rattle.shell_run.proofs.Comes.{copies_by_it, if_same, none_copied, source_by, source_of}
use Rattle.shell_run.proofs.top.outlined_answer.Goals as goal

pub returns-in-Labels-clause-comes : goal.returns-in-Labels-clause-comes
returns-in-Labels-clause-comes g c =
    source_by (LeavesBy g.C.Chooser.begins g.C.Chooser.picks c.args.choose.now) c.args.command (Labels c.in-Labels.«module») c.in-Labels.is (g.S.ImageSource.held c.args.images.now) c.args.outline c.labels_found.result c.in_memory.result c.in_memory.ensures.same c.labels_found.ensures.comes

pub returns-in-Labels-clause-sizes : goal.returns-in-Labels-clause-sizes
returns-in-Labels-clause-sizes g c =
    if_same (HasSizes c.args.outline.sizes) c.in_memory.result c.labels_found.result c.in_memory.ensures.same
    (if_more _ (HasSizes c.args.outline.sizes) c.labels_found.result (λ answer none. no_sizes c.args.outline.sizes answer none) c.labels_found.ensures.saved)

pub returns-in-Labels-clause-copying : goal.returns-in-Labels-clause-copying
returns-in-Labels-clause-copying g c =
    if_same (λ (answer : Answer). IsTrue (copies_contents answer.saved) → IsTrue (copies c.args.command)) c.in_memory.result c.labels_found.result c.in_memory.ensures.same
    (if_more _ (λ (answer : Answer). IsTrue (copies_contents answer.saved) → IsTrue (copies c.args.command)) c.labels_found.result (λ answer none. none_copied answer.saved (IsTrue (copies c.args.command)) (copies_none answer none)) c.labels_found.ensures.saved)

pub returns-in-Nfit-clause-comes : goal.returns-in-Nfit-clause-comes
returns-in-Nfit-clause-comes g c =
    source_by (LeavesBy g.C.Chooser.begins g.C.Chooser.picks c.args.choose.now) c.args.command Nfit c.in-Nfit.is (g.S.ImageSource.held c.args.images.now) c.args.outline c.table_found.result c.in_memory-in-Nfit.result c.in_memory-in-Nfit.ensures.same c.table_found.ensures.comes

pub returns-in-Nfit-clause-sizes : goal.returns-in-Nfit-clause-sizes
returns-in-Nfit-clause-sizes g c =
    if_same (HasSizes c.args.outline.sizes) c.in_memory-in-Nfit.result c.table_found.result c.in_memory-in-Nfit.ensures.same
    (if_more _ (HasSizes c.args.outline.sizes) c.table_found.result (λ answer none. no_sizes c.args.outline.sizes answer none) c.table_found.ensures.saved)

pub returns-in-Nfit-clause-copying : goal.returns-in-Nfit-clause-copying
returns-in-Nfit-clause-copying g c =
    if_same (λ (answer : Answer). IsTrue (copies_contents answer.saved) → IsTrue (copies c.args.command)) c.in_memory-in-Nfit.result c.table_found.result c.in_memory-in-Nfit.ensures.same
    (if_more _ (λ (answer : Answer). IsTrue (copies_contents answer.saved) → IsTrue (copies c.args.command)) c.table_found.result (λ answer none. none_copied answer.saved (IsTrue (copies c.args.command)) (copies_none answer none)) c.table_found.ensures.saved)

pub returns-in-List-clause-comes : goal.returns-in-List-clause-comes
returns-in-List-clause-comes g c =
    source_by (LeavesBy g.C.Chooser.begins g.C.Chooser.picks c.args.choose.now) c.args.command command.List c.in-List.is (g.S.ImageSource.held c.args.images.now) c.args.outline c.list_found.result c.in_memory-in-List.result c.in_memory-in-List.ensures.same c.list_found.ensures.comes

pub returns-in-List-clause-sizes : goal.returns-in-List-clause-sizes
returns-in-List-clause-sizes g c =
    if_same (HasSizes c.args.outline.sizes) c.in_memory-in-List.result c.list_found.result c.in_memory-in-List.ensures.same
    (if_more _ (HasSizes c.args.outline.sizes) c.list_found.result (λ answer none. no_sizes c.args.outline.sizes answer none) c.list_found.ensures.saved)

pub returns-in-List-clause-copying : goal.returns-in-List-clause-copying
returns-in-List-clause-copying g c =
    if_same (λ (answer : Answer). IsTrue (copies_contents answer.saved) → IsTrue (copies c.args.command)) c.in_memory-in-List.result c.list_found.result c.in_memory-in-List.ensures.same
    (if_more _ (λ (answer : Answer). IsTrue (copies_contents answer.saved) → IsTrue (copies c.args.command)) c.list_found.result (λ answer none. none_copied answer.saved (IsTrue (copies c.args.command)) (copies_none answer none)) c.list_found.ensures.saved)

pub returns-in-Init-clause-comes : goal.returns-in-Init-clause-comes
returns-in-Init-clause-comes g c =
    source_by (LeavesBy g.C.Chooser.begins g.C.Chooser.picks c.args.choose.now) c.args.command (Init c.in-Init.«module» c.in-Init.power) c.in-Init.is (g.S.ImageSource.held c.args.images.now) c.args.outline c.init_answer.result c.in_memory-in-Init.result c.in_memory-in-Init.ensures.same c.init_answer.ensures.comes

pub returns-in-Init-clause-sizes : goal.returns-in-Init-clause-sizes
returns-in-Init-clause-sizes g c = if_same (HasSizes c.args.outline.sizes) c.in_memory-in-Init.result c.init_answer.result c.in_memory-in-Init.ensures.same c.init_answer.ensures.sizes

pub returns-in-Init-clause-copying : goal.returns-in-Init-clause-copying
returns-in-Init-clause-copying g c = copies_by_it (LeavesBy g.C.Chooser.begins g.C.Chooser.picks c.args.choose.now) c.args.command (Init c.in-Init.«module» c.in-Init.power) c.in-Init.is c.in_memory-in-Init.result refl

pub returns-in-Change-clause-comes : goal.returns-in-Change-clause-comes
returns-in-Change-clause-comes g c =
    let leaves = LeavesBy g.C.Chooser.begins g.C.Chooser.picks c.args.choose.now in
    let held = g.S.ImageSource.held c.args.images.now in
    let like = Change c.in-Change.change c.in-Change.power in
    source_of leaves c.args.command like c.in-Change.is held c.args.outline c.in_memory-in-Change.result
    (if_same (OnSource (LoadedComes leaves like) held c.args.outline) c.in_memory-in-Change.result c.change_answer.result c.in_memory-in-Change.ensures.same
    (if_more _ (OnSource (LoadedComes leaves like) held c.args.outline) c.change_answer.result
    (λ answer comes source told. comes (contents_in source (length c.args.outline.sizes)) (sym (c.requires.there source told))) c.change_answer.ensures.comes))

pub returns-in-Change-clause-sizes : goal.returns-in-Change-clause-sizes
returns-in-Change-clause-sizes g c = if_same (HasSizes c.args.outline.sizes) c.in_memory-in-Change.result c.change_answer.result c.in_memory-in-Change.ensures.same c.change_answer.ensures.sizes

pub returns-in-Change-clause-copying : goal.returns-in-Change-clause-copying
returns-in-Change-clause-copying g c = copies_by_it (LeavesBy g.C.Chooser.begins g.C.Chooser.picks c.args.choose.now) c.args.command (Change c.in-Change.change c.in-Change.power) c.in-Change.is c.in_memory-in-Change.result refl

pub returns-in-Info-clause-comes : goal.returns-in-Info-clause-comes
returns-in-Info-clause-comes g c =
    source_of (LeavesBy g.C.Chooser.begins g.C.Chooser.picks c.args.choose.now) c.args.command (Info c.in-Info.uuid) c.in-Info.is (g.S.ImageSource.held c.args.images.now) c.args.outline c.arenas_found.result c.arenas_found.ensures.comes

pub returns-in-Info-clause-sizes : goal.returns-in-Info-clause-sizes
returns-in-Info-clause-sizes g c = if_more _ (HasSizes c.args.outline.sizes) c.arenas_found.result (λ answer none. no_sizes c.args.outline.sizes answer none) c.arenas_found.ensures.saved

pub returns-in-Info-clause-copying : goal.returns-in-Info-clause-copying
returns-in-Info-clause-copying g c =
    if_more _ (λ (answer : Answer). IsTrue (copies_contents answer.saved) → IsTrue (copies c.args.command)) c.arenas_found.result (λ answer none. none_copied answer.saved (IsTrue (copies c.args.command)) (copies_none answer none)) c.arenas_found.ensures.saved

pub returns-in-Check-clause-comes : goal.returns-in-Check-clause-comes
returns-in-Check-clause-comes g c =
    let leaves = LeavesBy g.C.Chooser.begins g.C.Chooser.picks c.args.choose.now in
    let held = g.S.ImageSource.held c.args.images.now in
    source_of leaves c.args.command (Check c.in-Check.uuid c.in-Check.repair) c.in-Check.is held c.args.outline c.check_answer.result
    (if_more _ (OnSource (LoadedComes leaves (Check c.in-Check.uuid c.in-Check.repair)) held c.args.outline) c.check_answer.result (λ answer from. from.comes) c.check_answer.ensures.told)

pub returns-in-Check-clause-sizes : goal.returns-in-Check-clause-sizes
returns-in-Check-clause-sizes g c = if_more _ (HasSizes c.args.outline.sizes) c.check_answer.result (λ answer from. from.sizes) c.check_answer.ensures.told

pub returns-in-Check-clause-copying : goal.returns-in-Check-clause-copying
returns-in-Check-clause-copying g c =
    copies_by_it (LeavesBy g.C.Chooser.begins g.C.Chooser.picks c.args.choose.now) c.args.command (Check c.in-Check.uuid c.in-Check.repair) c.in-Check.is c.check_answer.result refl

pub returns-in-RepairSet-clause-comes : goal.returns-in-RepairSet-clause-comes
returns-in-RepairSet-clause-comes g c =
    let leaves = LeavesBy g.C.Chooser.begins g.C.Chooser.picks c.args.choose.now in
    let held = g.S.ImageSource.held c.args.images.now in
    source_of leaves c.args.command RepairSet c.in-RepairSet.is held c.args.outline c.set_repair_answer.result
    (if_more _ (OnSource (LoadedComes leaves RepairSet) held c.args.outline) c.set_repair_answer.result (λ answer from. from.comes) c.set_repair_answer.ensures.told)

pub returns-in-RepairSet-clause-sizes : goal.returns-in-RepairSet-clause-sizes
returns-in-RepairSet-clause-sizes g c = if_more _ (HasSizes c.args.outline.sizes) c.set_repair_answer.result (λ answer from. from.sizes) c.set_repair_answer.ensures.told

pub returns-in-RepairSet-clause-copying : goal.returns-in-RepairSet-clause-copying
returns-in-RepairSet-clause-copying g c =
    copies_by_it (LeavesBy g.C.Chooser.begins g.C.Chooser.picks c.args.choose.now) c.args.command RepairSet c.in-RepairSet.is c.set_repair_answer.result refl

pub returns-in-Read-clause-comes : goal.returns-in-Read-clause-comes
returns-in-Read-clause-comes g c =
    source_of (LeavesBy g.C.Chooser.begins g.C.Chooser.picks c.args.choose.now) c.args.command (Read c.in-Read.uuid c.in-Read.sector) c.in-Read.is (g.S.ImageSource.held c.args.images.now) c.args.outline c.sector_found.result c.sector_found.ensures.comes

pub returns-in-Read-clause-sizes : goal.returns-in-Read-clause-sizes
returns-in-Read-clause-sizes g c = if_more _ (HasSizes c.args.outline.sizes) c.sector_found.result (λ answer none. no_sizes c.args.outline.sizes answer none) c.sector_found.ensures.saved

pub returns-in-Read-clause-copying : goal.returns-in-Read-clause-copying
returns-in-Read-clause-copying g c =
    if_more _ (λ (answer : Answer). IsTrue (copies_contents answer.saved) → IsTrue (copies c.args.command)) c.sector_found.result (λ answer none. none_copied answer.saved (IsTrue (copies c.args.command)) (copies_none answer none)) c.sector_found.ensures.saved

pub returns-in-Write-clause-comes : goal.returns-in-Write-clause-comes
returns-in-Write-clause-comes g c =
    let leaves = LeavesBy g.C.Chooser.begins g.C.Chooser.picks c.args.choose.now in
    let held = g.S.ImageSource.held c.args.images.now in
    source_of leaves c.args.command (Write c.in-Write.uuid c.in-Write.sector c.in-Write.value) c.in-Write.is held c.args.outline c.write_answer.result
    (if_more _ (OnSource (LoadedComes leaves (Write c.in-Write.uuid c.in-Write.sector c.in-Write.value)) held c.args.outline) c.write_answer.result (λ answer from. from.comes) c.write_answer.ensures.writes)

pub returns-in-Write-clause-sizes : goal.returns-in-Write-clause-sizes
returns-in-Write-clause-sizes g c = if_more _ (HasSizes c.args.outline.sizes) c.write_answer.result (λ answer from. from.sizes) c.write_answer.ensures.writes

pub returns-in-Write-clause-copying : goal.returns-in-Write-clause-copying
returns-in-Write-clause-copying g c =
    copies_by_it (LeavesBy g.C.Chooser.begins g.C.Chooser.picks c.args.choose.now) c.args.command (Write c.in-Write.uuid c.in-Write.sector c.in-Write.value) c.in-Write.is c.write_answer.result refl

pub change_answer-requires-clause-name : goal.change_answer-requires-clause-name
change_answer-requires-clause-name g c = subst HasGoodValues c.in-Change.is c.requires.name

pub unreachable-requires : goal.unreachable-requires
unreachable-requires g c =
    let both = sym c.requires.plain.2 ∙ ap checks_set c.in-CheckSet.is in
    (let e = both in cc)

pub unreachable-requires-in-Replay : goal.unreachable-requires-in-Replay
unreachable-requires-in-Replay g c =
    let both = sym c.requires.plain.0 ∙ ap reads_script c.in-Replay.is in
    (let e = both in cc)

pub unreachable-requires-in-Export : goal.unreachable-requires-in-Export
unreachable-requires-in-Export g c =
    let both = sym c.requires.plain.1 ∙ ap streams c.in-Export.is in
    (let e = both in cc)

pub unreachable-requires-in-Rescue : goal.unreachable-requires-in-Rescue
unreachable-requires-in-Rescue g c =
    let both = sym c.requires.plain.1 ∙ ap streams c.in-Rescue.is in
    (let e = both in cc)

pub unreachable-requires-in-Import : goal.unreachable-requires-in-Import
unreachable-requires-in-Import g c =
    let both = sym c.requires.plain.0 ∙ ap reads_script c.in-Import.is in
    (let e = both in cc)

pub unreachable-requires-in-Serve : goal.unreachable-requires-in-Serve
unreachable-requires-in-Serve g c =
    let both = sym c.requires.alone ∙ ap has_sessions c.in-Serve.is in
    (let e = both in cc)

pub unreachable-requires-in-Load : goal.unreachable-requires-in-Load
unreachable-requires-in-Load g c =
    let both = sym c.requires.alone ∙ ap has_sessions c.in-Load.is in
    (let e = both in cc)
