use Rattle.std.proofs.Common.{◌≡◌, ◌≤◌, drop, length}
use Rattle.image_set.specs.declared.outline.Outline.{Outline}
use Rattle.shell_sectors.specs.Opening.{IsOpenOutline}
use Rattle.shell_check.specs.All.{WithContents}
use Rattle.shell_check.proofs.Each.{IsSoFarOf}
use Rattle.shell_check.proofs.all.check_each.Given as goal

abbrev pub invariant-loop-namespace : goal.invariant-loop-namespace
invariant-loop-namespace g l = record {
  few : l.all.count ≤ length l.all.text.items;
  same : g.S.ImageSource.held l.images ≡ g.S.ImageSource.held l.fn.images;
  later : g.S.ImageSource.faults l.fn.images ≤ g.S.ImageSource.faults l.images;
  -- if the source reveals its contents, these are the lines of the namespaces so far
  so_far : (outline : Outline) → IsOpenOutline outline l.registry l.rest
      → WithContents (g.S.ImageSource.held l.fn.images) outline (λ loaded. IsSoFarOf loaded l.namespaces (drop l.namespace-index l.namespaces) l.all);
}
