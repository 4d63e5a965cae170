use Rattle.std.proofs.Common.{List, [], ◌∷◌, ◌++◌, sym, ap, ◌∙◌, append_assoc}
use Rattle.arena_open.specs.Chain.{Link}
use Rattle.namespace_words.proofs.arena_read.into_arenas.Goals as goal

pub loop-arena-init : goal.loop-arena-init
loop-arena-init c = record {
  rest = c.into_iter-arena-iterator.ensures.into_iter_gives.0 ∙ c.into_vec-arena-items.ensures;
  made = c.new-made.ensures;
}

pub loop-arena-preserved : goal.loop-arena-preserved
loop-arena-preserved c =
    let i = c.loop-arena.invariant in
    let part = c.in-Some.arena in
    record {
      rest = append_assoc c.loop-arena.yielded (part ∷ []) c.next.new.self.rest.items ∙ ap (λ (r : List Link). c.loop-arena.yielded ++ r) (sym c.in-Some.ensures.steps.0) ∙ i.rest;
      made = c.in_ok-push.ensures.ok ∙ ap (λ (ls : List Link). ls ++ c.into_arena.result ∷ []) i.made ∙ ap (λ (l : Link). c.loop-arena.yielded ++ l ∷ []) c.into_arena.ensures;
    }
