use Rattle.std.proofs.Common.{◌≡◌, ℕ, ◌+◌, ◌-◌, inl, inr, length, take, drop, ap, ◌∙◌, arith}
use Rattle.std.proofs.lemmas.Bool.{cases_lt}
use Rattle.cut_words.specs.WordBytes.{put_at}
use Rattle.namespace_bytes.proofs.RunBytes.{part_put, run_beside}
use Rattle.namespace_bytes.proofs.runs.put_bytes.Goals.{then-piece-ahead-via-then-piece-ahead, then-piece-ahead-via-else-piece-ahead+then-bytes-done}
use Rattle.namespace_bytes.proofs.runs.put_bytes.Goals as goal

pub returns-then-piece-ahead : goal.returns-then-piece-ahead
returns-then-piece-ahead c =
    run_beside (record { first = c.args.first; bytes = c.args.bytes.now }) c.args.from c.args.piece.now (λ j lt. elim c.then-piece-ahead.branch [
      | then-piece-ahead-via-then-piece-ahead w ↦ inl (omega (arith, w.if-piece-ahead.true, c.saturating_sub-ahead.ensures, lt))
      | then-piece-ahead-via-else-piece-ahead+then-bytes-done w ↦ elim (cases_lt (c.args.from + j) c.args.first) [
        | inl before ↦ inl before
        | inr after ↦ inr (omega (arith, w.if-bytes-done.true, c.saturating_sub-done.ensures, after))
      ]
    ])

pub returns : goal.returns
returns c =
    let count : c.saturating_sub-done.result + c.min-count.result - c.saturating_sub-done.result ≡ c.min-count.result = omega arith in
    c.put_part.ensures
    ∙ ap (λ (n : ℕ). put_at c.args.piece.now c.saturating_sub-ahead.result (take n (drop c.saturating_sub-done.result c.args.bytes.now))) count
    ∙ part_put c.args.bytes.now c.args.first c.args.from c.args.piece.now c.saturating_sub-ahead.result c.saturating_sub-done.result c.min-count.result
    c.saturating_sub-ahead.ensures c.saturating_sub-done.ensures
    (omega (arith, c.min-count.ensures, c.if-piece-ahead.false))
    (omega (arith, c.min-count.ensures, c.if-bytes-done.false))
    (elim (cases_lt (c.saturating_sub-ahead.result + c.min-count.result) (length c.args.piece.now)) [
      | inl less ↦ inr (omega (arith, c.min-count.ensures, c.if-piece-ahead.false, c.if-bytes-done.false, less))
      | inr full ↦ inl (omega (arith, c.min-count.ensures, c.if-piece-ahead.false, full))
    ])
