use Rattle.std.proofs.Common.{arith, ◌+◌, ◌≤◌, get_or, None}
use Rattle.image_set.proofs.Ends.{contents_at, passes, inside}
use Rattle.image_set.proofs.mapped.mapping_fault.Goals as goal

pub returns-then-bytes-mapping-clause-fault : goal.returns-then-bytes-mapping-clause-fault
returns-then-bytes-mapping-clause-fault c = passes c.args.sizes.now c.args.mapping.now _ (contents_at c.args.sizes.now c.args.mapping.now.«module» _ c.requires) (omega arith)

pub returns-else-bytes-mapping-clause-fault : goal.returns-else-bytes-mapping-clause-fault
returns-else-bytes-mapping-clause-fault c = let le : c.args.mapping.now.start + c.args.mapping.now.size ≤ (get_or c.args.sizes.now c.args.mapping.now.«module» (record { labels = None; contents = 0; bad = None })).contents = omega arith in
    inside c.args.sizes.now c.args.mapping.now _ (contents_at c.args.sizes.now c.args.mapping.now.«module» _ c.requires) le
