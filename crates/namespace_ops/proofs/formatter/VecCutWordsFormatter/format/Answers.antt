use Rattle.std.proofs.Common.{◌≡◌, ◌<◌, ◌∙◌, ℕ, zero, suc, List, [], ◌∷◌, length, refl, sym, subst, arith}
use Rattle.std.specs.Prelude.{slice_get, unwrap_or}
use Rattle.nfit_reader.specs.declared.table.Mapping.{Mapping}
use Rattle.namespace_areas.specs.Finding.{set_at}
use Rattle.power_cut.specs.Namespace.{ReachEnds}
use Rattle.namespace_ops.proofs.formatter.VecCutWordsFormatter.format.Goals as goal

set_there : (sets : List (List Mapping)) (region : ℕ) → region < length sets → set_at sets region ≡ unwrap_or (slice_get sets region) []
set_there [] region lt = absurd (omega arith)
set_there (set ∷ sets) zero lt = refl
set_there (set ∷ sets) (suc region) lt = set_there sets region (omega (arith, lt))

pub format_sectors-requires-clause-reach : goal.format_sectors-requires-clause-reach
format_sectors-requires-clause-reach c =
    subst (λ (s : List Mapping). ReachEnds s c.args.self.now.items) (set_there c.args.sets.now c.args.spec.now.region c.requires.region ∙ sym c.set_at-set.ensures)
    (c.requires.ready.1 c.args.spec.now.region c.requires.region).reach
