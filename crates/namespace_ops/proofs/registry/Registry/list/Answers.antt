use Rattle.std.proofs.Common.{◌≡◌, false, List, map, ap, ◌∙◌, subst}
use Rattle.std.specs.Prelude.{IfOk}
use Rattle.nfit_reader.specs.declared.table.Mapping.{Mapping}
use Rattle.namespace_map.specs.declared.listed.Namespace.{Namespace}
use Rattle.namespace_map.specs.Namespaces.{NamespaceEntry, entries_of, listed, namespace_of}
use Rattle.namespace_ops.specs.Claims.{count_of}
use Rattle.namespace_ops.specs.Counted.{namespaces_in}
use Rattle.namespace_ops.specs.Registered.{Registered, state_of}
use Rattle.namespace_ops.proofs.Shown.{shown_all}
use Rattle.namespace_ops.proofs.registry.Registry.list.Goals as goal

pub returns : goal.returns
returns c =
    let n = c.self.inside.namespaces in
    let running : n.store.stopped ≡ false = ap (λ (r : Registered). r.stopped) c.self.view_is ∙ c.requires.running in
    let sorted = c.groups.result.now.sorted in
    let all = ap (λ (s : List (List Mapping)). map (λ (e : NamespaceEntry). namespace_of e (count_of n.claims.counts e.uuid)) (entries_of s sorted)) c.regions.ensures
    ∙ ap (map (λ (e : NamespaceEntry). namespace_of e (count_of n.claims.counts e.uuid))) (shown_all n.store.sets n.store.areas sorted (c.areas-areas.ensures.held running) (c.groups.ensures running))
    ∙ ap (λ (r : Registered). listed (namespaces_in (state_of r))) c.self.view_is in
    subst (λ (xs : List Namespace). IfOk c.listed.result (λ l. l ≡ xs)) all c.listed.ensures
