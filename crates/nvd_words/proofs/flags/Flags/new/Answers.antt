use Rattle.std.proofs.Common.{rules, ◌≡◌, ◌*◌, ◌≤◌, ap, ◌∙◌, List, ℕ, arith, replicate}
use Rattle.nvd_words.specs.Bits.{flags_of}
use Rattle.nvd_words.proofs.FlagBits.{none_set}
use Rattle.nvd_words.proofs.flags.Flags.new.Goals as goal

pub returns : goal.returns
returns c =
    let zeros : c.in_ok-words.words.items ≡ replicate c.div_ceil.result 0 = search rules in
    let enough : c.args.count ≤ 64 * c.div_ceil.result = omega (arith, c.div_ceil.ensures) in
    ap (λ (ws : List ℕ). flags_of ws c.args.count) zeros ∙ none_set c.div_ceil.result c.args.count enough
