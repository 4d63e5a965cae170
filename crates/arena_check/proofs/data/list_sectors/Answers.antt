use Rattle.std.proofs.Common.{◌≡◌, ℕ, ◌<◌, [], sym, ap, ◌∙◌, refl, get_or, arith, Bool}
use Rattle.map_table.specs.declared.kinds.MapEntry.{MapEntry}
use Rattle.map_table.specs.Entry.{entry_of}
use Rattle.arena_check.specs.declared.finding.Finding.TheVariants.{BadData}
use Rattle.arena_check.specs.Check.{in_arena, is_bad_data}
use Rattle.arena_check.proofs.BlockWords.{entry_below}
use Rattle.arena_check.proofs.Picked.{listed_hit, listed_past}
use Rattle.arena_check.proofs.data.list_sectors.Goals as goal
use Rattle.arena_check.proofs.data.list_sectors.Goals.{then-is_bad_data+in_ok-push, else-is_bad_data}

pub is_bad_data-requires-clause-block : goal.is_bad_data-requires-clause-block
is_bad_data-requires-clause-block g c =
    let below : (entry_of (get_or c.args.entries.now c.loop-sector.sector 0) c.loop-sector.sector).block < c.args.layout.now.internal =
    entry_below c.args.layout.now.internal c.args.entries.now c.loop-sector.sector c.requires.blocks (omega arith) in
    omega (arith, below, ap (λ (e : MapEntry). e.block) c.entry.ensures)

pub loop-sector-preserved : goal.loop-sector-preserved
loop-sector-preserved g c =
    let test : ℕ → Bool = λ sector. is_bad_data c.args.layout.now (in_arena c.args.at (g.B.BadWords.bad c.args.bad.now)) (entry_of (get_or c.args.entries.now sector 0) sector) in
    let same : test c.loop-sector.sector ≡ c.is_bad_data.result =
    ap (is_bad_data c.args.layout.now (in_arena c.args.at (g.B.BadWords.bad c.args.bad.now))) (sym c.entry.ensures)
    ∙ sym {b = is_bad_data c.args.layout.now (in_arena c.args.at (g.B.BadWords.bad c.args.bad.now)) c.entry.result} c.is_bad_data.ensures in
    elim c.if-is_bad_data.branch [
      | then-is_bad_data+in_ok-push w ↦
          listed_hit BadData test 0 c.loop-sector.sector c.loop-sector.sector _ [] c.loop-sector.findings _ (omega arith) refl
          (same ∙ w.if-is_bad_data.true) c.loop-sector.invariant (w.findings-is ∙ w.in_ok-push.ensures.ok)
      | else-is_bad_data w ↦
          listed_past BadData test 0 c.loop-sector.sector c.loop-sector.sector _ [] c.loop-sector.findings _ (omega arith) refl
          (same ∙ w.if-is_bad_data.false) c.loop-sector.invariant w.findings-is
    ]
