use Rattle.std.proofs.Common.{◌≡◌, false, List, ap, ◌∙◌}
use Rattle.nfit_reader.specs.declared.table.Mapping.{Mapping}
use Rattle.namespace_map.specs.Namespaces.{entry_at, lookup}
use Rattle.namespace_areas.specs.Finding.{found_of}
use Rattle.namespace_ops.specs.Counted.{namespaces_in}
use Rattle.namespace_ops.specs.Registered.{Registered, state_of}
use Rattle.namespace_ops.proofs.Shown.{shown_at}
use Rattle.namespace_ops.proofs.registry.Registry.find.Goals as goal

pub returns-clause-found : goal.returns-clause-found
returns-clause-found c =
    let h = c.self.inside.namespaces.store in
    let uuid = c.args.uuid.now in
    let running : h.stopped ≡ false = ap (λ (r : Registered). r.stopped) c.self.view_is ∙ c.requires.running in
    let sorted = c.groups.result.now.sorted in
    c.find.ensures.found
    ∙ ap (λ (s : List (List Mapping)). found_of s (entry_at s sorted uuid)) c.regions.ensures
    ∙ ap (found_of h.sets) (shown_at h.sets h.areas sorted uuid (c.areas-areas.ensures.held running) (c.groups.ensures running))
    ∙ ap (λ (r : Registered). found_of r.sets (lookup uuid (namespaces_in (state_of r)).entries)) c.self.view_is
