use Rattle.std.proofs.Common.{◌≡◌, ◌∙◌, ℕ, ◌/◌, List, length, get_or, ap, arith}
use Rattle.std.specs.Int.{w32, to_le_bytes}
use Rattle.map_table.specs.declared.kinds.MapEntry.{MapEntry}
use Rattle.map_table.specs.Entry.{entry_of, normal_of}
use Rattle.namespace_bytes.specs.Putting.{block_at}
use Rattle.namespace_bytes.proofs.SectorPuts.{map_kept, map_put}
use Rattle.namespace_bytes.proofs.block_owners.ArenaOwners.put_map.Goals as goal

pub returns-then-own-from-clause-put : goal.returns-then-own-from-clause-put
returns-then-own-from-clause-put c =
    let block_is : c.entry-block.result.block ≡ block_at c.args.self.now.opened.entries (c.args.at / 4) =
    ap (λ (e : MapEntry). e.block) c.entry-block.ensures ∙ ap (λ (es : List ℕ). (entry_of (get_or es (c.args.at / 4) 0) (c.args.at / 4)).block) c.as_slice.ensures in
    let word_is : c.to_le_bytes.result ≡ to_le_bytes w32 (normal_of (block_at c.args.self.now.opened.entries (c.args.at / 4))) =
    c.to_le_bytes.ensures ∙ ap (to_le_bytes w32) (c.normal.ensures.word ∙ ap normal_of block_is) in
    c.put_word.ensures.put
    ∙ map_put c.args.self.now.opened c.to_le_bytes.result c.args.piece.now c.args.at c.put_word.result (omega (arith, c.if-own-from.true, c.from.ensures)) word_is
    (omega (arith, c.put_word.ensures.inside, ap length c.to_le_bytes.ensures)) c.put_word.ensures.fits

pub returns-clause-put : goal.returns-clause-put
returns-clause-put c =
    map_kept c.args.self.now.opened c.args.at c.min.result c.args.piece.now (omega (arith, c.if-own-from.false, c.from.ensures)) (omega (arith, c.min.ensures))
