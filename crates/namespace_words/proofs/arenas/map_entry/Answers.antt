use Rattle.std.proofs.Common.{◌≡◌, ℕ, ◌+◌, ◌-◌, ◌/◌, ap, ◌∙◌, arith}
use Rattle.std.specs.Prelude.{slice_index}
use Rattle.map_table.specs.Entry.{entry_in}
use Rattle.namespace_words.proofs.HeldArenas.{word_from}
use Rattle.namespace_words.proofs.arenas.map_entry.Goals as goal

pub returns : goal.returns
returns c = λ words l are.
    let place : l.map_off / 8 + c.args.first / 2 + (c.args.sector - c.args.first) / 2 ≡ l.map_off / 8 + c.args.sector / 2 = omega (arith, c.requires.even, c.requires.from) in
    c.entry_in.ensures
    ∙ ap (λ (word : ℕ). entry_in word c.args.sector) (c.word_at.ensures ∙ word_from words (l.map_off / 8 + c.args.first / 2) c.args.bytes.now ((c.args.sector - c.args.first) / 2) are (omega (arith, c.requires.long)))
    ∙ ap (λ (k : ℕ). entry_in (slice_index words k) c.args.sector) place
