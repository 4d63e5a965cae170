use Rattle.std.specs.Fork.{AcceptsAt, ChangesAt}
use Rattle.session_service.proofs.Chunks.{changes_both, each_parts}
use Rattle.session_service.proofs.in_threads.+chunks.Goals as goal

pub chunks_from-first_and_rest-requires-clause-first : goal.chunks_from-first_and_rest-requires-clause-first
chunks_from-first_and_rest-requires-clause-first g t c κs within =
    let cut = c.split_at_mut-first in
    (each_parts (AcceptsAt g.F.Fn c.args.f.now) c.args.base c.args.size c.args.items.now cut.result.0.now cut.result.1.now cut.ensures.value cut.ensures.front_len c.requires.accepts).0

pub chunks_from-first_and_rest-requires-clause-rest : goal.chunks_from-first_and_rest-requires-clause-rest
chunks_from-first_and_rest-requires-clause-rest g t c κs within =
    let cut = c.split_at_mut-first in
    (each_parts (AcceptsAt g.F.Fn c.args.f.now) c.args.base c.args.size c.args.items.now cut.result.0.now cut.result.1.now cut.ensures.value cut.ensures.front_len c.requires.accepts).1

pub chunks_from-returns : goal.chunks_from-returns
chunks_from-returns g t c =
    let cut = c.split_at_mut-first in let both = c.first_and_rest in
    changes_both (ChangesAt g.F.Fn c.args.f.now) c.args.base c.args.size c.args.items.now cut.result.0.now cut.result.1.now both.new.first both.new.rest cut.ensures.value cut.ensures.front_len both.auto.first both.ensures.first both.ensures.rest
