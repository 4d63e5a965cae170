use Rattle.std.proofs.Common.{◌∙◌, ℕ, ◌*◌, List, length, ap}
use Rattle.cut_words.proofs.Bytes.{length_bytes}
use Rattle.namespace_words.proofs.rows.words_run.Goals as goal

pub returns-clause-long : goal.returns-clause-long
returns-clause-long c =
    ap length (c.from_vec.ensures ∙ c.in_ok-bytes.ensures.bytes) ∙ length_bytes c.deref.result.now ∙ ap (λ (ws : List ℕ). 8 * length ws) c.deref.ensures.value
