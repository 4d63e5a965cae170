-- What a worker's completed operations are in the arena's history.
use Rattle.std.specs.Prelude.{List, map}
use Rattle.session_parts.specs.declared.parts.Stand.{Stand}
use Rattle.bio_queue.specs.declared.bio.Completed.{Completed}
use Rattle.bio_queue.specs.Serving.{stand_of}

abbrev pub stands_of : List Completed → List Stand
stands_of cs = map (λ (c : Completed). stand_of c.call c.op c.reply) cs
