use Rattle.std.proofs.Common.{◌≡◌, ◌∙◌, ℕ, ◌+◌, List, ◌∷◌, drop, get_or, sym, ap, arith}
use Rattle.std.proofs.lemmas.List.{drop_all, drop_more}
use Rattle.namespace_bytes.specs.declared.runs.Run.{Run}
use Rattle.namespace_bytes.specs.Changed.{changed_from}
use Rattle.namespace_bytes.specs.Runs.{run_byte, runs_byte}
use Rattle.namespace_bytes.proofs.RunBytes.{no_runs, runs_more}
use Rattle.namespace_bytes.proofs.runs.put_runs.Goals as goal

pub loop-run-preserved : goal.loop-run-preserved
loop-run-preserved c =
    let run : Run = c.run-item.result in
    let is : c.run-item.result ≡ get_or c.args.runs.now c.loop-run.run-index c.run-item.result = c.run-item.is in
    let more : drop c.loop-run.run-index c.args.runs.now ≡ c.run-item.result ∷ drop (c.loop-run.run-index + 1) c.args.runs.now =
    drop_more c.args.runs.now c.loop-run.run-index c.run-item.result c.loop-run-test.true ∙ ap (λ (r : Run). r ∷ drop (c.loop-run.run-index + 1) c.args.runs.now) (sym is) in
    let put : c.put_bytes.new.piece ≡ changed_from (run_byte c.run-item.result) c.args.from c.loop-run.piece =
    c.put_bytes.ensures ∙ ap (λ (bytes : List ℕ). changed_from (run_byte (record { first = c.run-item.result.first; bytes = bytes })) c.args.from c.loop-run.piece) c.as_slice.ensures in
    ap (changed_from (runs_byte (drop (c.loop-run.run-index + 1) c.args.runs.now)) c.args.from) put
    ∙ runs_more c.run-item.result (drop (c.loop-run.run-index + 1) c.args.runs.now) c.args.from c.loop-run.piece
    ∙ ap (λ (runs : List Run). changed_from (runs_byte runs) c.args.from c.loop-run.piece) (sym more)
    ∙ c.loop-run.invariant

pub returns : goal.returns
returns c =
    no_runs c.args.from c.loop-run.piece
    ∙ ap (λ (runs : List Run). changed_from (runs_byte runs) c.args.from c.loop-run.piece) (sym (drop_all c.loop-run.run-index c.args.runs.now (omega (arith, c.loop-run-test.false))))
    ∙ c.loop-run.invariant
