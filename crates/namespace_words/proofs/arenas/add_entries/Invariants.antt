use Rattle.std.proofs.Common.{◌≡◌, ◌+◌, ◌-◌, ◌/◌, ℕ, List, length, map}
use Rattle.std.specs.List.{range_with_len}
use Rattle.arena_layout.specs.declared.layout.Layout.{Layout}
use Rattle.arena_open.specs.Reading.{entry_at}
use Rattle.namespace_words.specs.Source.{AreBytesOf}
use Rattle.namespace_words.proofs.arenas.add_entries.Given as goal

abbrev pub invariant-loop-sector : goal.invariant-loop-sector
invariant-loop-sector l = record {
  count : length l.entries.items ≡ length l.fn.entries.items + (l.sector - l.first);
  told : (words : List ℕ) (layout : Layout) → AreBytesOf words (layout.map_off / 8 + l.first / 2) l.bytes → l.fn.entries.items ≡ map (entry_at layout words) (range_with_len 0 l.first) → l.entries.items ≡ map (entry_at layout words) (range_with_len 0 l.sector);
}
