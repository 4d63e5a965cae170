-- The lines of labels that stand by UUID.
use Rattle.std.proofs.Common.{◌≡◌, ℕ, ◌+◌, ◌≤◌, List, [], ◌∷◌, ◌++◌, Some, drop, length, refl, sym, ap, ◌∙◌}
use Rattle.std.specs.Prelude.{slice_get}
use Rattle.std.proofs.lemmas.List.{drop_all}
use Rattle.nfit_reader.specs.declared.table.Mapping.{Mapping}
use Rattle.label_set.specs.declared.placed.Placed.{Placed}
use Rattle.namespace_map.specs.Namespaces.{NamespaceEntry, entries_of, put_all}
use Rattle.namespace_areas.specs.Groups.{HasGroupsOf, IsNextGroup}
use Rattle.namespace_areas.proofs.Grouped.{entries_same}
use Rattle.namespace_ops.proofs.Planned.{group_is}
use Rattle.shell_set_check.specs.Namespaces.{entry_lines, group_lines, group_part}

-- the lines from a group on are its own and those behind it
pub lines_next : (sets : List (List Mapping)) (sorted : List Placed) (at : ℕ) (group : List Placed) (first : Placed) → IsNextGroup sorted at group → slice_get group 0 ≡ Some first
    → entry_lines sets sorted (entries_of sets (drop at sorted)) ≡ group_part sets group first ++ entry_lines sets sorted (entries_of sets (drop (at + length group) sorted))
lines_next sets sorted at group first next is =
    let rest : List ℕ = entry_lines sets sorted (entries_of sets (drop (at + length group) sorted)) in
    ap (entry_lines sets sorted) (next.entries sets first is)
    ∙ ap (λ (ls : List ℕ). ls ++ rest) (ap (λ (g : List Placed). group_lines sets g (slice_get g 0)) (group_is sorted at group first next is) ∙ ap (group_lines sets group) is)

append_none : (xs : List ℕ) → xs ++ [] ≡ xs
append_none [] = refl
append_none (x ∷ xs) = ap (λ (ys : List ℕ). x ∷ ys) (append_none xs)

-- behind all labels there is none
pub lines_end : (sets : List (List Mapping)) (sorted : List Placed) (at : ℕ) (now all : List ℕ) → length sorted ≤ at → now ++ entry_lines sets sorted (entries_of sets (drop at sorted)) ≡ all → now ≡ all
unfolding put_all
lines_end sets sorted at now all past is =
    sym (append_none now) ∙ ap (λ (xs : List Placed). now ++ entry_lines sets sorted (entries_of sets xs)) (sym (drop_all at sorted past)) ∙ is

entries_by : (sets : List (List Mapping)) (sorted labels : List Placed) (es : List NamespaceEntry) → HasGroupsOf sorted labels → entry_lines sets sorted es ≡ entry_lines sets labels es
entries_by sets sorted labels [] same = refl
entries_by sets sorted labels (e ∷ es) same = λ i. group_lines sets (same e.uuid i) (slice_get (same e.uuid i) 0) ++ entries_by sets sorted labels es same i

-- labels by UUID have the lines of the labels by module
pub lines_same : (sets : List (List Mapping)) (sorted labels : List Placed) → HasGroupsOf sorted labels
    → entry_lines sets sorted (entries_of sets sorted) ≡ entry_lines sets labels (entries_of sets labels)
lines_same sets sorted labels same = entries_by sets sorted labels (entries_of sets sorted) same ∙ ap (entry_lines sets labels) (entries_same sets sorted labels same)
