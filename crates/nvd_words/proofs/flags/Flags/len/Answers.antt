use Rattle.std.proofs.Common.{ap, sym, ◌∙◌, length, List, Bool}
use Rattle.nvd_words.proofs.FlagBits.{length_flags}
use Rattle.nvd_words.proofs.flags.Flags.len.Goals as goal

pub returns : goal.returns
returns c = sym (length_flags c.self.inside.words.items c.self.inside.count) ∙ ap (λ (flags : List Bool). length flags) c.self.view_is
