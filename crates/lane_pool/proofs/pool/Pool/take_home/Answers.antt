use Rattle.std.proofs.Common.{◌<◌, length, sym, ap, ◌∙◌, subst}
use Rattle.lane_pool.specs.Pools.{Now, pool_now}
use Rattle.lane_pool.proofs.Inside.{read_set, took_inside, took_part}
use Rattle.lane_pool.proofs.pool.Pool.take_home.Goals as goal

pub invariant_of-self : goal.invariant_of-self
invariant_of-self c =
    let s = c.self.inside in
    let at = c.in_ok-at.at in
    let lt = subst (λ xs. at < length xs) c.as_slice.ensures.value c.in_ok-at.ensures.home.0 in
    let there = read_set s.sets.items at c.index_mut.result.now lt c.index_mut.ensures.value in
    took_inside s.total (pool_now s.first.value.items s.sets.items s.holders.items s.off) c.args.self.now c.args.q c.index-holder.result.now c.self.view_is c.self.invariant c.index-holder.ensures
    at c.requires.may c.in-Some.set (ap (λ (v : Now). v.off) c.self.view_is ∙ c.requires.on) (there ∙ sym c.take.ensures.value ∙ c.in-Some.is) c.take.new.self c.take.ensures.after

pub returns-clause-got : goal.returns-clause-got
returns-clause-got c =
    let s = c.self.inside in
    let at = c.in_ok-at.at in
    let lt = subst (λ xs. at < length xs) c.as_slice.ensures.value c.in_ok-at.ensures.home.0 in
    let there = read_set s.sets.items at c.index_mut.result.now lt c.index_mut.ensures.value in
    took_part s.total (pool_now s.first.value.items s.sets.items s.holders.items s.off) c.args.self.now c.args.q c.index-holder.result.now c.self.view_is c.self.invariant c.index-holder.ensures
    at c.requires.may c.in-Some.set (ap (λ (v : Now). v.off) c.self.view_is ∙ c.requires.on) (there ∙ sym c.take.ensures.value ∙ c.in-Some.is) c.take.new.self c.take.ensures.after
