use Rattle.std.proofs.Common.{ℕ, List, sym, subst}
use Rattle.std.specs.Prelude.{IfOk}
use Rattle.arena_open.specs.Chain.{Link}
use Rattle.image_set.specs.declared.outline.Outline.{Outline}
use Rattle.namespace_bytes.specs.SectorPut.{AreSized}
use Rattle.shell_import.specs.Beginning.{Fills, IsSectorImport}
use Rattle.shell_import.proofs.sectors.SectorImport.fill_read.Goals as goal

pub fill-requires-clause-sized : goal.fill-requires-clause-sized
fill-requires-clause-sized c = subst AreSized (sym c.in_ok-arenas.ensures) c.requires.sized

pub returns : goal.returns
returns c =
    subst (λ (links : List Link). IfOk c.fill.result (λ answer. (outline : Outline) (uuid bytes : List ℕ) → IsSectorImport uuid bytes outline c.args.self → Fills uuid bytes outline c.args.self links answer))
    c.in_ok-arenas.ensures c.fill.ensures
