use Rattle.std.proofs.Common.{◌≡◌, [], None, take}
use Rattle.std.specs.Prelude.{All}
use Rattle.block_service.proofs.running.are_through.Given as goal

abbrev pub invariant-loop-desk : goal.invariant-loop-desk
invariant-loop-desk g l = All (λ d. (d.jobs.items ≡ []) × (d.worker.cut ≡ None)) (take l.desk-index l.desks)
