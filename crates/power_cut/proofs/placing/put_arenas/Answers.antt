use Rattle.std.proofs.Common.{◌≡◌, ℕ, List, ◌∷◌, sym, ap, ◌∙◌, subst}
use Rattle.std.specs.List.{All}
use Rattle.std.proofs.lemmas.List.Elements.{All-head, All-tail}
use Rattle.power_cut.specs.declared.leaving.ArenaLeft.{ArenaLeft}
use Rattle.power_cut.specs.Placing.{HasRoom, put_arenas, put_runs}
use Rattle.power_cut.proofs.AtPlaces.{all_to, has_alike, runs_alike}
use Rattle.power_cut.proofs.placing.put_arenas.Goals as goal

pub put_arena-requires : goal.put_arena-requires
put_arena-requires c =
    All-head (HasRoom c.loop-arena.rows.items) c.in-Some.arena c.next.new.self.rest.items
    (subst (λ (xs : List ArenaLeft). All (HasRoom c.loop-arena.rows.items) xs) c.in-Some.ensures.steps.0 c.loop-arena.invariant.has)

pub loop-arena-preserved : goal.loop-arena-preserved
loop-arena-preserved c =
    let arena : ArenaLeft = c.in-Some.arena in
    let rows : List (List ℕ) = c.loop-arena.rows.items in
    let next = c.in-Some.ensures.steps.0 in
    let all : All (HasRoom c.loop-arena.rows.items) (c.in-Some.arena ∷ c.next.new.self.rest.items) =
    subst (λ (xs : List ArenaLeft). All (HasRoom c.loop-arena.rows.items) xs) next c.loop-arena.invariant.has in
    let first : HasRoom c.loop-arena.rows.items c.in-Some.arena = All-head (HasRoom c.loop-arena.rows.items) c.in-Some.arena c.next.new.self.rest.items all in
    let alike = runs_alike c.in-Some.arena.run c.in-Some.arena.places c.in-Some.arena.words c.loop-arena.rows.items first.counts first.rooms in
    let put : c.put_arena.new.rows.items ≡ put_runs c.in-Some.arena.run c.in-Some.arena.words c.in-Some.arena.places c.loop-arena.rows.items = c.put_arena.ensures in
    record {
      has = subst (λ (rs : List (List ℕ)). All (HasRoom rs) c.next.new.self.rest.items) (sym put)
          (all_to (HasRoom c.loop-arena.rows.items) (HasRoom (put_runs c.in-Some.arena.run c.in-Some.arena.words c.in-Some.arena.places c.loop-arena.rows.items)) c.next.new.self.rest.items
          (λ other. has_alike c.loop-arena.rows.items (put_runs c.in-Some.arena.run c.in-Some.arena.words c.in-Some.arena.places c.loop-arena.rows.items) other alike)
          (All-tail (HasRoom c.loop-arena.rows.items) c.in-Some.arena c.next.new.self.rest.items all));
      same = ap (λ (rs : List (List ℕ)). put_arenas c.next.new.self.rest.items rs) put
          ∙ ap (λ (xs : List ArenaLeft). put_arenas xs c.loop-arena.rows.items) (sym next) ∙ c.loop-arena.invariant.same;
    }
