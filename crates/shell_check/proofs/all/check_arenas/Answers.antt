use Rattle.std.proofs.Common.{◌≡◌, ◌∙◌, ℕ, List, length, map, ap, subst}
use Rattle.image_set.specs.Outline.{contents_in, image_set_with}
use Rattle.namespace_map.specs.declared.listed.Namespace.{Namespace}
use Rattle.shell_reports.proofs.More.{if_more}
use Rattle.shell_check.specs.All.{AreOf, uuids_in}
use Rattle.shell_check.proofs.Each.{uuids_are}
use Rattle.shell_check.proofs.all.check_arenas.Goals as goal

pub list-requires : goal.list-requires
list-requires g c = record { running = c.requires.open.1.running }

pub returns-in-Ok-clause-told : goal.returns-in-Ok-clause-told
returns-in-Ok-clause-told g c =
    if_more _ _ c.check_each.result
    (λ lines says outline o source told.
    let contents = contents_in source (length outline.sizes) in
    let loaded = image_set_with outline contents in
    let same : map (λ (n : Namespace). n.uuid) c.as_slice.result.now ≡ uuids_in loaded =
    ap (map (λ (n : Namespace). n.uuid)) (c.as_slice.ensures ∙ c.in-Ok.ensures) ∙ uuids_are outline c.args.registry.now c.args.rest.now o contents in
    let own = subst (λ (uuids : List (List ℕ)). AreOf loaded uuids lines) same (says outline o source told) in
    record { text = own.text; count = own.count })
    c.check_each.ensures.told
