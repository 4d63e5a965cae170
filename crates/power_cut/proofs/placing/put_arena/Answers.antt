use Rattle.std.proofs.Common.{◌≡◌, ℕ, ◌*◌, List, length, take, drop, sym, ap, ◌∙◌, subst}
use Rattle.std.specs.List.{All}
use Rattle.power_cut.specs.declared.leaving.Place.{Place}
use Rattle.power_cut.specs.Placing.{IsRoom, put_run, put_runs}
use Rattle.power_cut.proofs.AtPlaces.{run_fits}
use Rattle.power_cut.proofs.placing.put_arena.Goals as goal

pub put_run-requires : goal.put_run-requires
put_run-requires c =
    let run : ℕ = c.args.arena.run in
    let rows : List (List ℕ) = c.loop-place.rows.items in
    let words : List ℕ = c.loop-place.rest.now in
    let next = c.in-Some.ensures.steps.0 in
    let fits = run_fits c.args.arena.run c.in-Some.place c.next.new.self.rest.items c.loop-place.rest.now c.loop-place.rows.items
    (subst (λ (ps : List Place). length c.loop-place.rest.now ≡ c.args.arena.run * length ps) next c.loop-place.invariant.counts)
    (subst (λ (ps : List Place). All (IsRoom c.loop-place.rows.items c.args.arena.run) ps) next c.loop-place.invariant.rooms) in
    subst (λ (ws : List ℕ). IsRoom c.loop-place.rows.items (length ws) c.in-Some.place) (sym c.split_at.ensures.front) fits.room

pub loop-place-preserved : goal.loop-place-preserved
loop-place-preserved c =
    let next = c.in-Some.ensures.steps.0 in
    let fits = run_fits c.args.arena.run c.in-Some.place c.next.new.self.rest.items c.loop-place.rest.now c.loop-place.rows.items
    (subst (λ (ps : List Place). length c.loop-place.rest.now ≡ c.args.arena.run * length ps) next c.loop-place.invariant.counts)
    (subst (λ (ps : List Place). All (IsRoom c.loop-place.rows.items c.args.arena.run) ps) next c.loop-place.invariant.rooms) in
    let put : c.put_run.new.rows.items ≡ put_run c.loop-place.rows.items c.in-Some.place (take c.args.arena.run c.loop-place.rest.now) =
    c.put_run.ensures ∙ ap (λ (ws : List ℕ). put_run c.loop-place.rows.items c.in-Some.place ws) c.split_at.ensures.front in
    record {
      counts = ap (λ (ws : List ℕ). length ws) c.split_at.ensures.back ∙ fits.others;
      rooms = subst (λ (rs : List (List ℕ)). All (IsRoom rs c.args.arena.run) c.next.new.self.rest.items) (sym put) fits.rest;
      same = ap (λ (ws : List ℕ). put_runs c.args.arena.run ws c.next.new.self.rest.items c.put_run.new.rows.items) c.split_at.ensures.back
          ∙ ap (λ (rs : List (List ℕ)). put_runs c.args.arena.run (drop c.args.arena.run c.loop-place.rest.now) c.next.new.self.rest.items rs) put
          ∙ ap (λ (ps : List Place). put_runs c.args.arena.run c.loop-place.rest.now ps c.loop-place.rows.items) (sym next) ∙ c.loop-place.invariant.same;
    }
