use Rattle.std.proofs.Common.{◌+◌, ◌++◌, ◌∷◌, ◌∙◌, ℕ, List, [], length, length-append, map, ap, sym, arith}
use Rattle.std.proofs.lemmas.List.FromFn.{map-range_with_len_more}
use Rattle.std.specs.List.{range_with_len}
use Rattle.arena_open.specs.Reading.{entry_at}
use Rattle.namespace_words.proofs.arenas.add_entries.Goals as goal

pub loop-sector-preserved : goal.loop-sector-preserved
loop-sector-preserved c = record {
  count = omega (arith, ap (λ (es : List ℕ). length es) c.in_ok-push.ensures.items, length-append c.loop-sector.entries.items (c.map_entry.result ∷ []), c.loop-sector.invariant.count);
  told = λ words layout are before.
      c.in_ok-push.ensures.items ∙ ap (λ (es : List ℕ). es ++ c.map_entry.result ∷ []) (c.loop-sector.invariant.told words layout are before)
      ∙ ap (λ (e : ℕ). map (entry_at layout words) (range_with_len 0 c.loop-sector.sector) ++ e ∷ []) (c.map_entry.ensures words layout are)
      ∙ sym (map-range_with_len_more (entry_at layout words) 0 c.loop-sector.sector c.loop-sector.sector (omega arith));
}
