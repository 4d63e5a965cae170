use Rattle.std.proofs.Common.{◌≤◌, ◌∙◌, ℕ, refl, sym, ap, subst, arith}
use Rattle.lane_calls.proofs.Ends.{end_arena, known_back, on_any, room_any}
use Rattle.lane_calls.proofs.Lanes.{idle_rests}
use Rattle.lane_calls.proofs.Sessions.{in_set}
use Rattle.lane_table.specs.declared.arena.Arena.{Arena}
use Rattle.lane_table.specs.Kits.{arena_id}
use Rattle.lane_calls.proofs.ending.give_back.Goals as goal

pub index_mut-requires-2 : goal.index_mut-requires-2
index_mut-requires-2 g c =
    let may = c.requires.may in
    let lt = in_set c.args.sectors.now may.q may.parts c.args.place c.args.kept c.args.lane.kit c.args.session.now may.on in
    omega (arith, lt, c.args.kept.set.ends.ok.0)

pub put_away-requires : goal.put_away-requires
put_away-requires g c =
    let s = c.args.sectors.now in
    let session = c.args.session.now in
    let may = c.requires.may in
    let on = may.on in
    let back = c.take_back-lane.ensures in
    let same = end_arena s may.q may.parts c.args.place c.args.kept c.args.lane.kit session on c.index.result.now c.index.ensures in
    let room = subst (λ (n : ℕ). on.spare ≤ n) (sym back.spare) may.room in
    record {
      may = record {
        q = may.q;
        parts = may.parts;
        know = known_back s may.q may.parts c.args.place c.args.kept c.args.lane.kit session on c.take_back-lane.result.0 back.same back.free room may.was_on _ refl refl refl _ refl refl
            c.take_back-lane.result.1 refl (idle_rests c.args.lane) (back.table ∙ ap (λ (a : Arena). arena_id a) (sym same)) (back.session ∙ on.seated.number) back.pass;
        none = on.none;
      };
    }

pub returns-clause-knows : goal.returns-clause-knows
returns-clause-knows g c = λ q parts on.
    let s = c.args.sectors.now in
    let session = c.args.session.now in
    let may = c.requires.may in
    let back = c.take_back-lane.ensures in
    let same = end_arena s q parts c.args.place c.args.kept c.args.lane.kit session on c.index.result.now c.index.ensures in
    let room = subst (λ (n : ℕ). on.spare ≤ n) (sym back.spare) (room_any s c.args.place c.args.kept c.args.lane.kit session may q parts on) in
    c.put_away.ensures.knows q parts (known_back s q parts c.args.place c.args.kept c.args.lane.kit session on c.take_back-lane.result.0 back.same back.free room (on_any s c.args.place c.args.kept c.args.lane.kit session may q parts on) _ refl refl refl _ refl refl
    c.take_back-lane.result.1 refl (idle_rests c.args.lane) (back.table ∙ ap (λ (a : Arena). arena_id a) (sym same)) (back.session ∙ on.seated.number) back.pass)
