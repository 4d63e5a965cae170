use Rattle.std.proofs.Common.{◌≡◌, ◌∙◌, ℕ, List, true, false, map, sym, ap, subst}
use Rattle.std.specs.Prelude.{nat_lt}
use Rattle.std.specs.List.{All}
use Rattle.served_namespaces.specs.declared.places.ReadNamespace.{ReadNamespace}
use Rattle.served_namespaces.specs.Reading.{IsSoundRead, opened_all, opened_bytes}
use Rattle.shell_reports.specs.declared.outcome.Report.{Report}
use Rattle.shell_reports.specs.Faults.{held_text, most_held, refused_outcome}
use Rattle.shell_reports.specs.Saved.{outcome_of}
use Rattle.shell_reports.proofs.More.{if_more}
use Rattle.shell_serve.specs.Answering.{LoadsRead, OpensAs, OpensRead}
use Rattle.shell_serve.proofs.Opens.{made_not, read_few}
use Rattle.shell_serve.proofs.opening.open_read.Goals as goal

pub read_bytes-bytes-requires : goal.read_bytes-bytes-requires
read_bytes-bytes-requires g c = (c.args.sets.now, subst (λ (read : List ReadNamespace). All (IsSoundRead c.args.sets.now) read) (sym c.as_slice.ensures) c.requires.sound)

pub returns-then-is_too_large-clause-safe : goal.returns-then-is_too_large-clause-safe
returns-then-is_too_large-clause-safe g c =
    made_not (λ (r : Report). outcome_of r ≡ refused_outcome (held_text c.read_bytes-bytes.result)) (OpensAs c.args.sets.now (map (λ (n : ReadNamespace). n.place) c.args.read)) c.held_answer.result c.not_open.result (λ r said. tt)
    c.not_open.ensures.made c.held_answer.ensures

pub returns-then-is_too_large-clause-told : goal.returns-then-is_too_large-clause-told
returns-then-is_too_large-clause-told g c = λ contents reveals all.
    let bytes : opened_bytes (opened_all c.args.sets.now contents c.args.read) ≡ c.read_bytes-bytes.result =
    subst (λ (read : List ReadNamespace). opened_bytes (opened_all c.args.sets.now contents read) ≡ c.read_bytes-bytes.result) c.as_slice.ensures (c.read_bytes-bytes.ensures.opened c.args.sets.now contents) in
    let large : nat_lt most_held (opened_bytes (opened_all c.args.sets.now contents c.args.read)) ≡ true = ap (nat_lt most_held) bytes ∙ sym c.is_too_large.ensures ∙ c.if-is_too_large.true in
    made_not (λ (r : Report). outcome_of r ≡ refused_outcome (held_text c.read_bytes-bytes.result)) (OpensRead c.args.sets.now contents c.args.read) c.held_answer.result c.not_open.result
    (λ r said. (large, said ∙ ap (λ (n : ℕ). refused_outcome (held_text n)) (sym bytes))) c.not_open.ensures.made c.held_answer.ensures

pub returns-clause-told : goal.returns-clause-told
returns-clause-told g c = λ contents reveals all.
    let bytes : opened_bytes (opened_all c.args.sets.now contents c.args.read) ≡ c.read_bytes-bytes.result =
    subst (λ (read : List ReadNamespace). opened_bytes (opened_all c.args.sets.now contents read) ≡ c.read_bytes-bytes.result) c.as_slice.ensures (c.read_bytes-bytes.ensures.opened c.args.sets.now contents) in
    let few : nat_lt most_held (opened_bytes (opened_all c.args.sets.now contents c.args.read)) ≡ false = ap (nat_lt most_held) bytes ∙ sym c.is_too_large.ensures ∙ c.if-is_too_large.false in
    if_more (LoadsRead c.args.sets.now contents c.args.read) (OpensRead c.args.sets.now contents c.args.read) c.load_read.result
    (λ o loads. read_few c.args.sets.now contents c.args.read few o loads) (c.load_read.ensures.told contents reveals all)
