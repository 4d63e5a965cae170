use Rattle.std.proofs.Common.{◌≡◌, ◌∙◌, List, [], ◌∷◌, map, sym, ap, subst}
use Rattle.nfit_reader.specs.declared.table.Mapping.{Mapping}
use Rattle.power_cut.specs.Namespace.{ReachEnds}
use Rattle.namespace_areas.specs.declared.area.Area.{Area}
use Rattle.namespace_areas.specs.Seen.{words_of}
use Rattle.namespace_bytes.specs.declared.new_bytes.NewBytes.TheVariants.{Runs}
use Rattle.namespace_bytes.specs.Patching.{ArePatched, BytePatch}
use Rattle.sector_namespaces.specs.View.{rows_of}
use Rattle.shell_reports.proofs.More.{if_more}
use Rattle.shell_sectors.specs.Patched.{PrintsPatched, patch_of}
use Rattle.shell_sectors.proofs.Written.{areas_whole}
use Rattle.shell_sectors.proofs.write.SectorPlace.save.Goals as goal

pub printed_patched-requires-clause-settled : goal.printed_patched-requires-clause-settled
printed_patched-requires-clause-settled c = areas_whole c.requires.found.1.0 c.requires.found.0 c.args.self c.requires.found.1.1

pub returns : goal.returns
returns c =
    if_more _ _ c.printed_patched.result
    (λ answer saves outline uuid it.
    let patch : record { set = c.args.self.set; offset = c.args.self.found.offset; raw = c.args.self.found.raw; bytes = Runs c.args.runs } ≡ patch_of it.registry.sets c.args.self.found (Runs c.args.runs) =
    λ i. record { set = it.set i; offset = c.args.self.found.offset; raw = c.args.self.found.raw; bytes = Runs c.args.runs } in (
      subst (λ (ps : List BytePatch). PrintsPatched c.args.report.text.items ps c.args.self.rest (map words_of it.registry.areas) answer) (c.in_ok-patch.ensures.made ∙ ap (λ (p : BytePatch). p ∷ []) patch)
          (subst (λ (areas : List Area). PrintsPatched c.args.report.text.items c.in_ok-patch.patch c.args.self.rest (map words_of areas) answer) it.areas saves),
      λ contents whole reach.
          subst (λ (p : BytePatch). ArePatched p contents) patch (c.in_ok-patch.ensures.patched contents whole (subst (λ (s : List Mapping). ReachEnds s (rows_of contents)) (sym it.set) reach)),
    ))
    c.printed_patched.ensures
