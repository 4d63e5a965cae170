use Rattle.std.proofs.Common.{◌≡◌, ◌∙◌, ◌++◌, ◌∷◌, [], List, ap, append_assoc}
use Rattle.namespace_bytes.specs.declared.runs.Run.{Run}
use Rattle.namespace_bytes.specs.Runs.{entry_run}
use Rattle.shell_sectors.specs.LoneRuns.{lane_group}
use Rattle.shell_sectors.proofs.lone.push_write.Goals as goal

three_more : (runs : List Run) (a b c : Run) → ((runs ++ a ∷ []) ++ b ∷ []) ++ c ∷ [] ≡ runs ++ a ∷ b ∷ c ∷ []
three_more runs a b c = append_assoc (runs ++ a ∷ []) (b ∷ []) (c ∷ []) ∙ append_assoc runs (a ∷ []) (b ∷ c ∷ [])

pub returns : goal.returns
returns c =
    let link = c.args.arena.now in
    let entry : c.in_ok-entry.entry ≡ entry_run c.args.arena.now.at c.args.arena.now.opened.info.layout c.args.own (lane_group c.args.arena.now).half.old =
    c.in_ok-entry.ensures ∙ (λ i. entry_run (c.first.ensures i) (c.parts.ensures i).info.layout c.args.own (c.lane_group-free.ensures.group i).half.old) in
    c.in_ok-push-3.ensures.items
    ∙ ap (λ (rs : List Run). rs ++ c.in_ok-entry.entry ∷ []) (c.in_ok-push-2.ensures.items ∙ ap (λ (rs : List Run). rs ++ c.in_ok-half.half ∷ []) c.in_ok-push.ensures.items)
    ∙ three_more c.args.runs.now.items c.value_run.result c.in_ok-half.half c.in_ok-entry.entry
    ∙ (λ i. c.args.runs.now.items ++ c.value_run.ensures i ∷ c.in_ok-half.ensures i ∷ entry i ∷ [])
