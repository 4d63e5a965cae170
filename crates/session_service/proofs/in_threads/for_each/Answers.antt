use Rattle.std.proofs.Common.{ℕ, ◌+◌, get_or, refl, subst, arith}
use Rattle.std.specs.Fork.{ChangesAt}
use Rattle.session_service.proofs.in_threads.for_each.Goals as goal

pub returns : goal.returns
returns g c i d below = (
  refl,
  subst (λ (n : ℕ). ChangesAt g.F.Fn c.args.f.now n (get_or c.args.items.now i d) (get_or c.chunks_from.new.items i d)) {x = 0 + i} (omega arith) (c.chunks_from.ensures.each i d below),
)
