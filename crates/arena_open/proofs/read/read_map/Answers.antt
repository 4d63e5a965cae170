use Rattle.std.proofs.Common.{◌++◌, ◌∷◌, ◌∙◌, ℕ, List, [], map, drop, ap, sym, arith}
use Rattle.std.proofs.lemmas.List.FromFn.{map-range_with_len_more}
use Rattle.std.specs.List.{range_with_len}
use Rattle.arena_open.specs.Reading.{entry_at}
use Rattle.arena_open.proofs.read.read_map.Goals as goal

pub loop-sector-preserved : goal.loop-sector-preserved
loop-sector-preserved g c =
    let read = entry_at c.args.layout.now (drop c.args.at (g.W.WordSpace.words c.args.space.now).kept) in
    c.in_ok-push.ensures.items ∙ ap (λ (es : List ℕ). es ++ c.read_entry.result ∷ []) c.loop-sector.invariant
    ∙ ap (λ (e : ℕ). map (entry_at c.args.layout.now (drop c.args.at (g.W.WordSpace.words c.args.space.now).kept)) (range_with_len 0 c.loop-sector.sector) ++ e ∷ []) c.read_entry.ensures
    ∙ sym (map-range_with_len_more (entry_at c.args.layout.now (drop c.args.at (g.W.WordSpace.words c.args.space.now).kept)) 0 c.loop-sector.sector c.loop-sector.sector (omega arith))
