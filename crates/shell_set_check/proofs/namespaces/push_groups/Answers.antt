use Rattle.std.proofs.Common.{◌+◌, ◌≤◌, List, ℕ, ◌++◌, drop, length, ap, ◌∙◌, sym, arith}
use Rattle.std.proofs.lemmas.List.{append_assoc}
use Rattle.namespace_map.specs.Namespaces.{entries_of}
use Rattle.namespace_ops.proofs.Planned.{first_at}
use Rattle.shell_set_check.specs.Namespaces.{entry_lines, group_part}
use Rattle.shell_set_check.proofs.Groups.{lines_end, lines_next}
use Rattle.shell_set_check.proofs.namespaces.push_groups.Goals as goal

pub loop-at-preserved : goal.loop-at-preserved
loop-at-preserved c =
    let sets = c.args.regions.now in
    let sorted = c.args.groups.now.sorted in
    let group = c.group_from-group.result.now in
    let next = c.group_from-group.ensures in
    let first = c.index-group-0.result in
    let rest : List ℕ = entry_lines sets sorted (entries_of sets (drop (c.loop-at.at + length group) sorted)) in
    record {
      text = ap (λ (ls : List ℕ). ls ++ rest) c.in_ok-push_group.ensures
          ∙ append_assoc c.loop-at.text.items (group_part sets group first) rest
          ∙ ap (λ (ls : List ℕ). c.loop-at.text.items ++ ls) (sym (lines_next sets sorted c.loop-at.at group first next (first_at group first next.some c.index-group-0.is)))
          ∙ c.loop-at.invariant.text;
      start = next.next;
      within = next.within;
    }

pub returns : goal.returns
returns c =
    let sorted = c.args.groups.now.sorted in
    let past : length sorted ≤ c.loop-at.at = omega (arith, ap length c.labels.ensures.labels, c.loop-at-test.false) in
    lines_end c.args.regions.now sorted c.loop-at.at c.loop-at.text.items _ past c.loop-at.invariant.text
