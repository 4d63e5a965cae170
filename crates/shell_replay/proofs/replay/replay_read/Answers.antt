use Rattle.std.proofs.Common.{◌≡◌, ℕ, true, [], ◌∷◌, sym, ap, ◌∙◌}
use Rattle.std.specs.Prelude.{nat_lt}
use Rattle.arena_open.specs.Chain.{Link}
use Rattle.arena_open.specs.declared.opened.Opened.{Opened}
use Rattle.image_set.specs.declared.outline.Outline.{Outline}
use Rattle.shell_changes.specs.Remains.{LeavesBy}
use Rattle.shell_reports.specs.Faults.{held_text, most_held, refused_outcome}
use Rattle.shell_reports.proofs.More.{if_both}
use Rattle.shell_sectors.specs.Writing.{IsSectorPlace}
use Rattle.shell_sectors.proofs.Asked.{kept}
use Rattle.shell_replay.specs.Answering.{ReplaysOn}
use Rattle.shell_replay.proofs.Coming.{only_link, reads_large, reads_others}
use Rattle.shell_replay.proofs.replay.replay_read.Goals as goal

pub returns-then-arenas-ne1-clause-comes : goal.returns-then-arenas-ne1-clause-comes
returns-then-arenas-ne1-clause-comes g c =
    let held = g.S.ImageSource.held c.args.images.now in
    let leaves = LeavesBy g.C.Chooser.begins g.C.Chooser.picks c.args.choose.now in
    kept (λ answer. (outline : Outline) → IsSectorPlace c.args.uuid.now outline c.args.place → ReplaysOn leaves held c.args.uuid.now c.args.schedule.now outline c.args.place c.args.arenas.now answer)
    c.others_answer.result c.in_memory.result c.in_memory.ensures.same
    (if_both _ _ _ c.others_answer.result
    (λ answer says nothing outline it. reads_others leaves c.args.schedule.now c.args.uuid.now outline c.args.place it answer held c.args.arenas.now c.if-arenas-ne1.true nothing says)
    c.others_answer.ensures.text c.others_answer.ensures.saved)

pub returns-then-is_too_large-clause-comes : goal.returns-then-is_too_large-clause-comes
returns-then-is_too_large-clause-comes g c =
    let held = g.S.ImageSource.held c.args.images.now in
    let leaves = LeavesBy g.C.Chooser.begins g.C.Chooser.picks c.args.choose.now in
    let link : Link = c.index-arenas-0.result in
    let only : c.args.arenas.now ≡ link ∷ [] = only_link c.args.arenas.now link c.if-arenas-ne1.false c.index-arenas-0.is in
    let bytes : c.from-bytes.result ≡ link.opened.info.layout.size = c.from-bytes.ensures ∙ ap (λ (o : Opened). o.info.layout.size) c.parts.ensures in
    let large : nat_lt most_held link.opened.info.layout.size ≡ true = ap (nat_lt most_held) (sym bytes) ∙ sym c.is_too_large.ensures ∙ c.if-is_too_large.true in
    kept (λ answer. (outline : Outline) → IsSectorPlace c.args.uuid.now outline c.args.place → ReplaysOn leaves held c.args.uuid.now c.args.schedule.now outline c.args.place c.args.arenas.now answer)
    c.large_answer.result c.in_memory-then-is_too_large.result c.in_memory-then-is_too_large.ensures.same
    (if_both _ _ _ c.large_answer.result
    (λ answer says nothing outline it.
    reads_large leaves c.args.schedule.now c.args.uuid.now outline c.args.place it answer held c.args.arenas.now link only large nothing
    (λ contents. says contents ∙ ap (λ (n : ℕ). refused_outcome (held_text n)) bytes))
    c.large_answer.ensures.text c.large_answer.ensures.saved)
