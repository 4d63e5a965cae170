use Rattle.std.proofs.Common.{◌≡◌, [], ◌∙◌, sym, ap, arith}
use Rattle.arena_check.specs.Check.{bad_sectors, data_findings, in_arena}
use Rattle.arena_check.proofs.BlockWords.{none_there}
use Rattle.arena_repair.specs.Repair.{if_changed, marked_map}
use Rattle.arena_repair.proofs.Marking.{marked_none}
use Rattle.arena_repair.proofs.Marks.{none_bad}
use Rattle.arena_repair.proofs.map.check_sound.Goals as goal

pub returns-then-len-eq0-clause-repair : goal.returns-then-len-eq0-clause-repair
returns-then-len-eq0-clause-repair g c =
    let empty : c.in_ok-findings.findings ≡ [] = none_there c.in_ok-findings.findings (omega arith) in
    let none : bad_sectors c.args.layout.now (in_arena c.args.at (g.B.BadWords.bad c.args.bad.now)) c.args.entries.items ≡ [] =
    none_bad c.args.layout.now (in_arena c.args.at (g.B.BadWords.bad c.args.bad.now)) c.args.entries.items
    (ap (data_findings c.args.layout.now (in_arena c.args.at (g.B.BadWords.bad c.args.bad.now))) (sym c.deref.ensures.value) ∙ sym c.in_ok-findings.ensures ∙ empty) in
    let same : marked_map c.args.layout.now (in_arena c.args.at (g.B.BadWords.bad c.args.bad.now)) c.args.entries.items ≡ c.args.entries.items =
    marked_none c.args.layout.now (in_arena c.args.at (g.B.BadWords.bad c.args.bad.now)) c.args.entries.items c.requires.sectors none in
    c.if_moved.ensures ∙ (λ i. if_changed c.args.moves.now (sym none i) (sym same i))
