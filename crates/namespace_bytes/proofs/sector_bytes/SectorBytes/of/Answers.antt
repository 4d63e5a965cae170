use Rattle.std.proofs.Common.{◌≡◌, ◌∙◌, List, [], ◌∷◌, ◌++◌, map, sym, ap, subst, append_assoc}
use Rattle.std.specs.List.{All}
use Rattle.std.proofs.lemmas.List.{map-append}
use Rattle.std.proofs.lemmas.List.Elements.{All-append, All-cons, All-head, All-nil, All-tail}
use Rattle.arena_open.specs.Chain.{Link}
use Rattle.namespace_bytes.specs.SectorPut.{HasBlocks, IsOwned, link_of}
use Rattle.namespace_bytes.proofs.sector_bytes.SectorBytes.of.Goals as goal

pub loop-arena-init : goal.loop-arena-init
loop-arena-init c =
    let rest : c.into_iter-arena-iterator.result.rest.items ≡ c.args.arenas = c.into_iter-arena-iterator.ensures.into_iter_gives.0 ∙ c.into_vec-arena-items.ensures in
    record {
      rest = rest;
      opened = subst (All HasBlocks) (sym rest) c.requires.sized.each;
      made = ap (map link_of) c.new-owned.ensures;
      each = subst (All IsOwned) (sym c.new-owned.ensures) (All-nil IsOwned);
    }

pub of-requires : goal.of-requires
of-requires c =
    All-head HasBlocks c.in-Some.arena c.next.new.self.rest.items (subst (All HasBlocks) c.in-Some.ensures.steps.0 c.loop-arena.invariant.opened)

pub loop-arena-preserved : goal.loop-arena-preserved
loop-arena-preserved c =
    let i = c.loop-arena.invariant in
    let part = c.in-Some.arena in
    record {
      rest = append_assoc c.loop-arena.yielded (part ∷ []) c.next.new.self.rest.items ∙ ap (λ (r : List Link). c.loop-arena.yielded ++ r) (sym c.in-Some.ensures.steps.0) ∙ i.rest;
      opened = All-tail HasBlocks part c.next.new.self.rest.items (subst (All HasBlocks) c.in-Some.ensures.steps.0 i.opened);
      made = ap (map link_of) c.in_ok-push.ensures.ok ∙ map-append link_of c.loop-arena.owned (c.in_ok-table.table ∷ [])
          ∙ ap (λ (ls : List Link). ls ++ link_of c.in_ok-table.table ∷ []) i.made
          ∙ ap (λ (l : Link). c.loop-arena.yielded ++ l ∷ []) c.in_ok-table.ensures.arena;
      each = subst (All IsOwned) (sym c.in_ok-push.ensures.ok)
          (All-append IsOwned c.loop-arena.owned (c.in_ok-table.table ∷ []) i.each (All-cons IsOwned c.in_ok-table.table [] c.in_ok-table.ensures.owned (All-nil IsOwned)));
    }
