use Rattle.std.proofs.Common.{◌≡◌, ◌+◌, ◌/◌, ◌≤◌, ◌∙◌, ◌++◌, ℕ, List, drop, take, length, ap, sym, arith, append_assoc}
use Rattle.arena_open.specs.Reading.{cell_with}
use Rattle.cut_words.specs.WordBytes.{bytes_of}
use Rattle.namespace_words.specs.Source.{words_by}
use Rattle.shell_export.specs.Export.{cell_words}
use Rattle.shell_export.proofs.Fronts.{front_of, read_behind}
use Rattle.shell_export.proofs.SectorBytes.{sector_fits}
use Rattle.shell_export.proofs.sectors.add_entry.Goals as goal

pub make_room-requires-clause-more : goal.make_room-requires-clause-more
make_room-requires-clause-more g c = omega (arith, sector_fits c.args.place.now.layout.sector c.requires.layout.sector, c.requires.buffer)

pub returns-in-Ok-clause-all : goal.returns-in-Ok-clause-all
returns-in-Ok-clause-all g c =
    let made = c.in_ok-left.ensures.all in
    let inside : c.in_ok-left.left ≤ length c.args.buffer.now = omega (arith, c.in_ok-left.ensures.fits) in
    let end : c.in_ok-left.left + c.args.place.now.layout.sector ≡ c.in_ok-left.left + length c.read_entry.new.into = omega (arith, c.in-Ok.ensures.room) in (
      made.0,
      made.1,
      (λ contents reveals.
          let own : List ℕ =
          bytes_of (cell_words (c.args.place.now.layout.sector / 8) (cell_with c.args.place.now.layout (drop c.args.place.now.at (words_by c.args.extent.now contents)) c.args.entry)) in
          ap (λ (xs : List ℕ). xs ++ own) made.2
          ∙ append_assoc made.0 (take c.in_ok-left.left c.args.buffer.now) own
          ∙ ap (λ (xs : List ℕ). made.0 ++ xs)
          (ap (λ (xs : List ℕ). take c.in_ok-left.left c.args.buffer.now ++ xs) (sym (c.in-Ok.ensures.told contents reveals))
          ∙ sym (read_behind c.args.buffer.now c.read_entry.new.into _ c.in_ok-left.left (c.in_ok-left.left + c.args.place.now.layout.sector) inside end))),
    )

pub returns-in-Err-clause-part : goal.returns-in-Err-clause-part
returns-in-Err-clause-part g c =
    let made = c.in_ok-left.ensures.all in
    front_of (take c.args.filled c.args.buffer.now) made.0 (take c.in_ok-left.left c.args.buffer.now) (g.O.TextSink.written c.args.text.now) (g.O.TextSink.written c.make_room.new.text) made.2 made.1.0
