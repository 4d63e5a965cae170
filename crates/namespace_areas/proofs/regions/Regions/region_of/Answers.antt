use Rattle.std.proofs.Common.{◌≡◌, ◌∙◌, ℕ, ◌<◌, List, length, Some, sym, ap, subst, refl, arith}
use Rattle.std.specs.Prelude.{slice_get}
use Rattle.std.specs.List.{AllByRecursion}
use Rattle.std.proofs.lemmas.Option.{slice_get_read}
use Rattle.nfit_reader.specs.declared.table.Mapping.{Mapping}
use Rattle.namespace_map.specs.Namespaces.{region_of}
use Rattle.namespace_areas.specs.Regions.{found_among}
use Rattle.namespace_areas.proofs.OnModules.{list_inside, list_finds}
use Rattle.namespace_areas.proofs.regions.Regions.region_of.Goals as goal

-- src/regions.rt:131:13
pub found_among-requires : goal.found_among-requires
found_among-requires c =
    let lists = c.self.inside.on_modules.items in
    let list = c.index.result.now in
    let at : slice_get lists c.args.label.now.«module» ≡ Some list =
    slice_get_read lists (length lists) c.args.label.now.«module» list refl (omega (arith, c.if-module-len.true, c.len.ensures, c.self.inside.on_modules.ok.0)) c.index.ensures in
    let inside : AllByRecursion (λ n. n < length c.self.inside.sets) list.items = list_inside c.self.inside.sets lists c.self.invariant.1 c.args.label.now list at in
    record { inside = subst (λ (ns : List ℕ). AllByRecursion (λ n. n < length c.as_slice-sets.result.now) ns) (sym c.deref.ensures.value) (subst (λ (sets : List (List Mapping)). AllByRecursion (λ n. n < length sets) list.items) (sym c.as_slice-sets.ensures) inside) }

-- src/regions.rt:125:5
pub returns-then-module-len : goal.returns-then-module-len
returns-then-module-len c =
    let lists = c.self.inside.on_modules.items in
    let list = c.index.result.now in
    let at : slice_get lists c.args.label.now.«module» ≡ Some list =
    slice_get_read lists (length lists) c.args.label.now.«module» list refl (omega (arith, c.if-module-len.true, c.len.ensures, c.self.inside.on_modules.ok.0)) c.index.ensures in
    c.found_among.ensures ∙ ap (λ (ns : List ℕ). found_among c.as_slice-sets.result.now c.args.label.now ns) c.deref.ensures.value
    ∙ ap (λ (sets : List (List Mapping)). found_among sets c.args.label.now list.items) c.as_slice-sets.ensures
    ∙ list_finds c.self.inside.sets lists c.self.invariant.1 c.args.label.now list at
    ∙ ap (λ (sets : List (List Mapping)). region_of sets c.args.label.now) c.self.view_is
