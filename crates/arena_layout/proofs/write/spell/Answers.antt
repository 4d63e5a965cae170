use Rattle.std.proofs.Common.{ℕ, List, ◌++◌, ap, ◌∙◌, arith}
use Rattle.std.proofs.lemmas.List.{drop-replicate}
use Rattle.arena_layout.specs.Spelling.{counts_of, places_of}
use Rattle.arena_layout.proofs.Spelled.{spelled_by, head_is}
use Rattle.arena_layout.proofs.write.spell.Goals as goal

pub returns-clause-spelling : goal.returns-clause-spelling
returns-clause-spelling c =
    spelled_by c.put_places.new.into c.put_u64.new.into c.args.info.now c.fletcher64-sum.result c.put_places.array_long c.put_u64.array_long
    (c.put_places.ensures.front
    ∙ ap (λ (l : List ℕ). l ++ places_of c.args.info.now.next c.args.info.now.layout)
    (c.put_counts.ensures.front ∙ ap (λ (l : List ℕ). l ++ counts_of c.args.info.now.layout) c.put_names.ensures.front)
    ∙ head_is c.args.info.now)
    (c.put_places.ensures.back 120 (omega arith) ∙ c.put_counts.ensures.back 120 (omega arith) ∙ c.put_names.ensures.back 120 (omega arith) ∙ drop-replicate 120 4096 0)
    c.fletcher64-sum.ensures c.put_u64.ensures.front
