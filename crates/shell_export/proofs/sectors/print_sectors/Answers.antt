use Rattle.std.proofs.Common.{◌≡◌, ℕ, ◌+◌, ◌-◌, ◌<◌, List, [], ◌++◌, map, take, Option, ◌∙◌, subst, sym, ap, arith, append-nil}
use Rattle.std.specs.List.{flat_map, range_with_len}
use Rattle.std.proofs.lemmas.Result.{err_from_is_err_and}
use Rattle.nvd_media.specs.Images.{Images}
use Rattle.arena_open.specs.Chain.{state_at}
use Rattle.arena_open.specs.ChainCells.{sectors_of}
use Rattle.namespace_words.specs.Source.{words_by}
use Rattle.shell_export.specs.Export.{sector_bytes, sectors_bytes}
use Rattle.shell_export.specs.Printing.{KnowsAll, PrintsBut}
use Rattle.shell_export.proofs.Fronts.{but_all, but_front, but_more, flat_at, flat_more}
use Rattle.shell_export.proofs.SectorBytes.{on_err_more, on_more}
use Rattle.shell_export.proofs.sectors.print_sectors.Goals as goal

pub loop-sector-preserved : goal.loop-sector-preserved
loop-sector-preserved g c =
    let k : ℕ = c.loop-sector.sector in
    let inv = c.loop-sector.invariant in
    let read_before = inv.later in
    let read_after = c.add_sector.ensures.later in
    let text_before = inv.later_text in
    let text_after = c.add_sector.ensures.later_text in
    let waiting : List ℕ = take c.loop-sector.filled c.loop-sector.buffer in
    let left : List ℕ = take c.in_ok-filled.filled c.add_sector.new.buffer in
    record {
      filled = c.in_ok-filled.ensures.filled;
      buffer = c.add_sector.ensures.buffer ∙ inv.buffer;
      same = c.add_sector.ensures.same ∙ inv.same;
      later = omega (arith, read_before, read_after);
      later_text = omega (arith, text_before, text_after);
      printed =
          but_more (KnowsAll (g.S.ImageSource.held c.args.images.now) c.args.extent.now c.args.arenas.now)
          (λ contents. flat_map (sector_bytes (map (state_at (words_by c.args.extent.now contents)) c.args.arenas.now)) (range_with_len 0 k))
          (g.O.TextSink.written c.args.text.now) (g.O.TextSink.written c.loop-sector.text) (g.O.TextSink.written c.add_sector.new.text)
          (g.O.TextSink.kept c.args.text.now) (g.O.TextSink.kept c.loop-sector.text) (g.O.TextSink.kept c.add_sector.new.text) waiting
          (λ contents. sector_bytes (map (state_at (words_by c.args.extent.now contents)) c.args.arenas.now) k)
          (λ contents. flat_map (sector_bytes (map (state_at (words_by c.args.extent.now contents)) c.args.arenas.now)) (range_with_len 0 (k + 1))) left
          (λ contents. flat_more (sector_bytes (map (state_at (words_by c.args.extent.now contents)) c.args.arenas.now)) k)
          inv.printed
          (subst
          (λ (held : Option Images). PrintsBut (KnowsAll held c.args.extent.now c.args.arenas.now)
          (λ contents. waiting ++ sector_bytes (map (state_at (words_by c.args.extent.now contents)) c.args.arenas.now) k)
          (g.O.TextSink.written c.loop-sector.text) (g.O.TextSink.written c.add_sector.new.text) (g.O.TextSink.kept c.loop-sector.text) (g.O.TextSink.kept c.add_sector.new.text) left)
          inv.same c.in_ok-filled.ensures.all);
    }

pub returns-in_err-filled-clause-part : goal.returns-in_err-filled-clause-part
returns-in_err-filled-clause-part g c =
    let k : ℕ = c.loop-sector.sector in
    let n : ℕ = c.sectors_of_all-sector-end.result in
    let inside : c.loop-sector.sector < c.sectors_of_all-sector-end.result = omega (arith, c.loop-sector-test.true) in
    let p = err_from_is_err_and c.from_residual.result c.from_residual.ensures.1 in
    rw p.1
    (but_front (KnowsAll (g.S.ImageSource.held c.args.images.now) c.args.extent.now c.args.arenas.now)
    (λ contents. flat_map (sector_bytes (map (state_at (words_by c.args.extent.now contents)) c.args.arenas.now)) (range_with_len 0 k))
    (g.O.TextSink.written c.args.text.now) (g.O.TextSink.written c.loop-sector.text) (g.O.TextSink.written c.add_sector.new.text)
    (g.O.TextSink.kept c.args.text.now) (g.O.TextSink.kept c.loop-sector.text) (g.O.TextSink.kept c.loop-sector.text)
    (take c.loop-sector.filled c.loop-sector.buffer)
    (λ contents. sectors_bytes (map (state_at (words_by c.args.extent.now contents)) c.args.arenas.now))
    (λ contents. flat_map (sector_bytes (map (state_at (words_by c.args.extent.now contents)) c.args.arenas.now)) (range_with_len k (n - k)))
    (λ contents.
    ap (λ (m : ℕ). flat_map (sector_bytes (map (state_at (words_by c.args.extent.now contents)) c.args.arenas.now)) (range_with_len 0 m)) (sym (c.sectors_of_all-sector-end.ensures.states (words_by c.args.extent.now contents)))
    ∙ flat_at (sector_bytes (map (state_at (words_by c.args.extent.now contents)) c.args.arenas.now)) k n (omega (arith, inside)))
    c.loop-sector.invariant.printed c.in_err-filled.ensures.part)

pub returns-clause-all : goal.returns-clause-all
returns-clause-all g c =
    let inv = c.loop-sector.invariant in
    on_more c.print_bytes.result _ _
    (λ all.
    let said =
    but_all (KnowsAll (g.S.ImageSource.held c.args.images.now) c.args.extent.now c.args.arenas.now)
    (λ contents. flat_map (sector_bytes (map (state_at (words_by c.args.extent.now contents)) c.args.arenas.now)) (range_with_len 0 c.loop-sector.sector))
    (g.O.TextSink.written c.args.text.now) (g.O.TextSink.written c.loop-sector.text) (g.O.TextSink.written c.print_bytes.new.text)
    (g.O.TextSink.kept c.args.text.now) (g.O.TextSink.kept c.loop-sector.text) (g.O.TextSink.kept c.print_bytes.new.text)
    (take c.loop-sector.filled c.loop-sector.buffer) inv.printed all in (
      said.0,
      said.1,
      (λ contents known.
          let end : sectors_of (map (state_at (words_by c.args.extent.now contents)) c.args.arenas.now) ≡ c.loop-sector.sector =
          omega (arith, c.sectors_of_all-sector-end.ensures.states (words_by c.args.extent.now contents), c.loop-sector-test.false, c.loop-sector.auto.sector-end) in
          ap (λ (m : ℕ). flat_map (sector_bytes (map (state_at (words_by c.args.extent.now contents)) c.args.arenas.now)) (range_with_len 0 m)) end ∙ said.2 contents known),
    ))
    c.print_bytes.ensures.all

pub returns-clause-part : goal.returns-clause-part
returns-clause-part g c =
    let inv = c.loop-sector.invariant in
    on_err_more c.print_bytes.result _ _
    (λ part.
    but_front (KnowsAll (g.S.ImageSource.held c.args.images.now) c.args.extent.now c.args.arenas.now)
    (λ contents. flat_map (sector_bytes (map (state_at (words_by c.args.extent.now contents)) c.args.arenas.now)) (range_with_len 0 c.loop-sector.sector))
    (g.O.TextSink.written c.args.text.now) (g.O.TextSink.written c.loop-sector.text) (g.O.TextSink.written c.print_bytes.new.text)
    (g.O.TextSink.kept c.args.text.now) (g.O.TextSink.kept c.loop-sector.text) (g.O.TextSink.kept c.loop-sector.text)
    (take c.loop-sector.filled c.loop-sector.buffer)
    (λ contents. sectors_bytes (map (state_at (words_by c.args.extent.now contents)) c.args.arenas.now)) (λ contents. [])
    (λ contents.
    let end : sectors_of (map (state_at (words_by c.args.extent.now contents)) c.args.arenas.now) ≡ c.loop-sector.sector =
    omega (arith, c.sectors_of_all-sector-end.ensures.states (words_by c.args.extent.now contents), c.loop-sector-test.false, c.loop-sector.auto.sector-end) in
    ap (λ (m : ℕ). flat_map (sector_bytes (map (state_at (words_by c.args.extent.now contents)) c.args.arenas.now)) (range_with_len 0 m)) end ∙ sym (append-nil _))
    inv.printed part)
    c.print_bytes.ensures.part
