use Rattle.std.proofs.Common.{◌∙◌, ◌*◌, ℕ, List, length, map, Option, Result, sym, ap, subst}
use Rattle.std.specs.Prelude.{IfOk}
use Rattle.arena_open.specs.declared.chain_refused.ChainRefused.{ChainRefused}
use Rattle.arena_open.specs.declared.state.ArenaState.{ArenaState}
use Rattle.arena_open.specs.Chain.{Link, state_at}
use Rattle.namespace_bytes.specs.Putting.{AreAll}
use Rattle.namespace_bytes.specs.SectorPut.{AreSized}
use Rattle.nvd_media.specs.Images.{Images}
use Rattle.power_cut.specs.Namespace.{Namespace, over, raw_bytes, words_of}
use Rattle.sector_namespaces.specs.View.{opened_view, rows_of}
use Rattle.shell_reports.specs.Sectors.{on_arenas}
use Rattle.shell_reports.proofs.More.{if_both, if_more}
use Rattle.namespace_words.specs.Source.{AreWithin, HasEnds, Reveals, words_by}
use Rattle.shell_export.specs.Export.{sectors_outcome}
use Rattle.shell_export.specs.Printing.{KnowsAll}
use Rattle.shell_export.proofs.Told.{due_by, due_made}
use Rattle.shell_export.proofs.export.arenas_answer.Goals as goal

pub arena_answer-requires : goal.arena_answer-requires
arena_answer-requires g c = c.in-Ok-Err.ensures.running c.in-Ok-Err.refused c.in-Ok-Err.field-0-is

pub sectors_answer-requires-clause-sized : goal.sectors_answer-requires-clause-sized
sectors_answer-requires-clause-sized g c =
    subst AreSized (sym c.as_slice.ensures) (subst (λ r. IfOk r AreSized) c.in-Ok-Ok.field-0-is c.in-Ok-Ok.ensures.sized)

pub sectors_answer-requires-clause-within : goal.sectors_answer-requires-clause-within
sectors_answer-requires-clause-within g c =
    let own : AreWithin (length c.args.set.now * c.args.found.now.raw) c.in-Ok-Ok.arenas =
    subst (λ r. IfOk r (AreWithin (length c.args.set.now * c.args.found.now.raw))) c.in-Ok-Ok.field-0-is c.in-Ok-Ok.ensures.within in
    subst (λ (e : Namespace). AreWithin (raw_bytes e) c.as_slice.result.now) (sym c.of-extent.ensures.made)
    (subst (λ (links : List Link). AreWithin (length c.args.set.now * c.args.found.now.raw) links) (sym c.as_slice.ensures) own)

pub sectors_answer-requires-clause-there : goal.sectors_answer-requires-clause-there
sectors_answer-requires-clause-there g c =
    let held = g.S.ImageSource.held c.args.images.now in
    subst (λ (h : Option Images). HasEnds h c.of-extent.result.set) (sym c.in-Ok-Ok.ensures.same)
    (subst (λ (e : Namespace). HasEnds held e.set) (sym c.of-extent.ensures.made) c.requires.there)

pub returns-in-Ok-Ok-clause-printed : goal.returns-in-Ok-Ok-clause-printed
returns-in-Ok-Ok-clause-printed g c =
    let held = g.S.ImageSource.held c.args.images.now in
    if_more _ _ c.sectors_answer.result
    (λ ended said.
    due_by (KnowsAll (g.S.ImageSource.held c.read_arenas_from.new.images) c.of-extent.result c.as_slice.result.now) (Reveals (g.S.ImageSource.held c.args.images.now) c.args.set.now)
    (λ contents. sectors_outcome c.args.zeros (map (state_at (words_by c.of-extent.result contents)) c.as_slice.result.now))
    (λ contents. on_arenas c.args.uuid.now (sectors_outcome c.args.zeros) (opened_view (words_of (over c.args.set.now c.args.found.now.offset c.args.found.now.raw (rows_of contents))).kept c.args.uuid.now))
    (g.O.TextSink.written c.args.text.now) (g.O.TextSink.written c.sectors_answer.new.text) (g.O.TextSink.kept c.args.text.now) (g.O.TextSink.kept c.sectors_answer.new.text) ended
    (λ contents shown.
    let words : List ℕ = (words_of (over c.args.set.now c.args.found.now.offset c.args.found.now.raw (rows_of contents))).kept in
    let all : AreAll words c.args.uuid.now c.in-Ok-Ok.arenas =
    subst (λ r. IfOk r (AreAll words c.args.uuid.now)) c.in-Ok-Ok.field-0-is (c.in-Ok-Ok.ensures.all contents shown) in
    let there : Reveals (g.S.ImageSource.held c.read_arenas_from.new.images) c.of-extent.result.set contents =
    subst (λ (h : Option Images). Reveals h c.of-extent.result.set contents) (sym c.in-Ok-Ok.ensures.same)
    (subst (λ (e : Namespace). Reveals held e.set contents) (sym c.of-extent.ensures.made) shown) in
    let own : AreAll (words_by c.of-extent.result contents) c.args.uuid.now c.as_slice.result.now =
    subst (λ (e : Namespace). AreAll (words_by e contents) c.args.uuid.now c.as_slice.result.now) (sym c.of-extent.ensures.made)
    (subst (λ (links : List Link). AreAll words c.args.uuid.now links) (sym c.as_slice.ensures) all) in (
      (there, (c.args.uuid.now, own)),
      ap (λ (r : Result (List ArenaState) ChainRefused). on_arenas c.args.uuid.now (sectors_outcome c.args.zeros) r) all.read
          ∙ sym (ap (λ (links : List Link). sectors_outcome c.args.zeros (map (state_at words) links)) c.as_slice.ensures)
          ∙ sym (ap (λ (e : Namespace). sectors_outcome c.args.zeros (map (state_at (words_by e contents)) c.as_slice.result.now)) c.of-extent.ensures.made),
    ))
    said)
    c.sectors_answer.ensures.printed

pub returns-in-Ok-Err-clause-printed : goal.returns-in-Ok-Err-clause-printed
returns-in-Ok-Err-clause-printed g c =
    due_made (Reveals (g.S.ImageSource.held c.args.images.now) c.args.set.now)
    (λ contents. on_arenas c.args.uuid.now (sectors_outcome c.args.zeros) (opened_view (words_of (over c.args.set.now c.args.found.now.offset c.args.found.now.raw (rows_of contents))).kept c.args.uuid.now))
    (g.O.TextSink.written c.args.text.now) (g.O.TextSink.written c.print_made.new.text) (g.O.TextSink.kept c.args.text.now) (g.O.TextSink.kept c.print_made.new.text)
    c.arena_answer.result c.print_made.result _
    (if_both _ _ (λ report. _ × _) c.arena_answer.result (λ report says finding. (says, finding)) c.arena_answer.ensures.text c.arena_answer.ensures.finding)
    (λ report said contents shown.
    ap (λ (r : Result (List ArenaState) ChainRefused). on_arenas c.args.uuid.now (sectors_outcome c.args.zeros) r)
    (c.in-Ok-Err.ensures.refused contents shown c.in-Ok-Err.refused c.in-Ok-Err.field-0-is said.1)
    ∙ sym said.0)
    c.print_made.ensures.printed
