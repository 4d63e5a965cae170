use Rattle.std.proofs.Common.{◌≡◌, ◌∙◌, ℕ, List, [], ◌∷◌, length, map, sym, ap, subst}
use Rattle.std.specs.Prelude.{sum_by}
use Rattle.nfit_reader.specs.declared.table.Mapping.{Mapping}
use Rattle.power_cut.specs.Namespace.{ReachEnds}
use Rattle.sector_namespaces.specs.View.{rows_of}
use Rattle.namespace_areas.specs.declared.area.Area.{Area}
use Rattle.namespace_areas.specs.Finding.{set_at}
use Rattle.namespace_areas.specs.Seen.{words_of}
use Rattle.namespace_bytes.specs.declared.new_bytes.NewBytes.TheVariants.{Sectors}
use Rattle.namespace_bytes.specs.Patching.{ArePatched, BytePatch}
use Rattle.namespace_bytes.specs.Putting.{link_bytes}
use Rattle.shell_reports.specs.Faults.{refused_outcome}
use Rattle.shell_reports.proofs.More.{if_more}
use Rattle.shell_sectors.specs.Write.{length_text}
use Rattle.shell_sectors.specs.Patched.{Patches, SavesPatched, patch_of}
use Rattle.shell_import.proofs.SectorsImport.{all_filled, areas_whole, misfilled}
use Rattle.shell_import.proofs.sectors.SectorImport.fill.Goals as goal

pub returns-then-len-had : goal.returns-then-len-had
returns-then-len-had c = λ outline uuid bytes it.
    let had : c.size_of_all-had.result ≡ sum_by link_bytes c.args.arenas = c.size_of_all-had.ensures.size ∙ ap (sum_by link_bytes) c.as_slice.ensures in
    let said : c.len-then-len-had.result ≡ length bytes = c.len-then-len-had.ensures ∙ c.args.self.bytes.ok.0 ∙ ap (λ (bs : List ℕ). length bs) it.given in
    misfilled uuid bytes outline c.args.self it c.without_set.result c.args.arenas c.size_of_all-had.result had
    (λ e. c.if-len-had.true (c.len.ensures ∙ c.args.self.bytes.ok.0 ∙ ap (λ (bs : List ℕ). length bs) it.given ∙ e))
    c.without_set.ensures.saved
    (λ contents. c.without_set.ensures.same contents ∙ c.in_ok-length_answer.ensures ∙ ap (λ (n : ℕ). refused_outcome (length_text n c.size_of_all-had.result)) said)

pub patched_answer-requires-clause-settled : goal.patched_answer-requires-clause-settled
patched_answer-requires-clause-settled c = areas_whole c.requires.found.1.0 c.requires.found.1.1.0 c.requires.found.0 c.args.self c.requires.found.1.1.1

pub returns : goal.returns
returns c =
    if_more _ _ c.patched_answer.result
    (λ answer saves outline uuid bytes it.
    let set : c.args.self.set ≡ set_at it.registry.sets c.args.self.found.region = it.set in
    let patch : record { set = c.args.self.set; offset = c.args.self.found.offset; raw = c.args.self.found.raw; bytes = Sectors c.in_ok-of.field-0 } ≡ patch_of it.registry.sets c.args.self.found (Sectors (record { links = c.args.arenas; bytes = bytes })) =
    (λ i. record { set = it.set i; offset = c.args.self.found.offset; raw = c.args.self.found.raw; bytes = Sectors (c.in_ok-of.ensures.made i) })
    ∙ ap (λ (bs : List ℕ). patch_of it.registry.sets c.args.self.found (Sectors (record { links = c.args.arenas; bytes = bs }))) it.given in
    let long : length bytes ≡ sum_by link_bytes c.args.arenas =
    sym (ap (λ (bs : List ℕ). length bs) it.given) ∙ sym c.args.self.bytes.ok.0 ∙ sym c.len.ensures ∙ c.if-len-had.false ∙ c.size_of_all-had.ensures.size ∙ ap (sum_by link_bytes) c.as_slice.ensures in
    let puts : Patches it.registry.sets c.args.self.found (patch_of it.registry.sets c.args.self.found (Sectors (record { links = c.args.arenas; bytes = bytes }))) = λ contents whole reach.
    subst (λ (p : BytePatch). ArePatched p contents) patch (c.in_ok-patch.ensures.patched contents whole (subst (λ (s : List Mapping). ReachEnds s (rows_of contents)) (sym it.set) reach)) in
    all_filled uuid bytes outline c.args.self it answer c.args.arenas long
    (subst (λ (ps : List BytePatch). SavesPatched ps c.args.self.rest (map words_of it.registry.areas) answer) (c.in_ok-patch.ensures.made ∙ ap (λ (p : BytePatch). p ∷ []) patch)
    (subst (λ (areas : List Area). SavesPatched c.in_ok-patch.patch c.args.self.rest (map words_of areas) answer) it.areas saves)) puts)
    c.patched_answer.ensures
