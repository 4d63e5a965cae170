use Rattle.std.proofs.Common.{◌≡◌, ℕ, ◌++◌, List, [], ◌∷◌, map, ap, ◌∙◌, subst, arith}
use Rattle.std.specs.List.{All}
use Rattle.nfit_reader.specs.declared.table.Mapping.{Mapping}
use Rattle.power_cut.specs.Namespace.{ReachEnds}
use Rattle.sector_namespaces.specs.View.{rows_of}
use Rattle.namespace_bytes.specs.declared.patch.NamespacePatch.{NamespacePatch}
use Rattle.namespace_bytes.specs.Patching.{ArePatched, AreWhole, BytePatch, patch_in}
use Rattle.namespace_bytes.proofs.patch.SetPatch.one.Goals as goal

pub returns-clause-patched : goal.returns-clause-patched
returns-clause-patched c =
    let part : NamespacePatch = record { region = 0; offset = c.args.offset; raw = c.args.raw; bytes = c.args.bytes } in
    let sets : c.push.new.self ≡ c.args.set ∷ [] = c.in_ok-push.ensures.ok ∙ ap (λ (xs : List (List Mapping)). xs ++ c.args.set ∷ []) c.new-sets.ensures in
    let parts : c.push-2.new.self ≡ part ∷ [] = c.in_ok-push-2.ensures.ok ∙ ap (λ (xs : List NamespacePatch). xs ++ part ∷ []) c.new-parts.ensures in
    let is : c.new.result ≡ record { set = c.args.set; offset = c.args.offset; raw = c.args.raw; bytes = c.args.bytes } ∷ [] = c.new.ensures.made ∙ (λ i. map (patch_in (sets i)) (parts i)) in
    subst (All (λ (p : BytePatch). (contents : List (List ℕ)) → AreWhole contents → ReachEnds p.set (rows_of contents) → ArePatched p contents)) is c.new.ensures.patched
    0 (record { set = c.args.set; offset = c.args.offset; raw = c.args.raw; bytes = c.args.bytes }) (omega arith)
