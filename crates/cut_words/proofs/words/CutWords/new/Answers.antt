use Rattle.std.proofs.Common.{◌∙◌, ap, List, ℕ, Option, length}
use Rattle.cut_words.proofs.Since.{options_fresh, kept_with}
use Rattle.cut_words.proofs.words.CutWords.new.Goals as goal

pub returns : goal.returns
returns c =
    ap (λ (os : List (Option ℕ)). kept_with c.args.words.items os)
    (options_fresh c.in_ok-pending.pending c.in_ok-stored.stored c.len-2.result c.len.result (length c.args.words.items)
    c.in_ok-pending.ensures c.in_ok-stored.ensures (c.len-2.ensures ∙ c.args.words.ok.0) (c.len.ensures ∙ c.args.words.ok.0))
