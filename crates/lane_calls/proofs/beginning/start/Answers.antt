use Rattle.std.proofs.Common.{◌∙◌, refl, sym, ap, set}
use Rattle.lane_calls.proofs.Begins.{is_started, pass_place, read_at, start_of, start_one, start_pass, start_table}
use Rattle.lane_calls.proofs.Sessions.{arena_there}
use Rattle.lane_calls.proofs.beginning.start.Goals as goal

pub unreachable-requires : goal.unreachable-requires
unreachable-requires c = start_pass c.args.sectors.now c.args.place c.args.kept c.args.session.now c.requires.may c.index_mut.result.now c.index_mut.result.now c.index_mut.ensures.value (sym c.take.ensures.value ∙ c.in-None.is)

pub lend-lane-requires-clause-of : goal.lend-lane-requires-clause-of
lend-lane-requires-clause-of c =
    let may = c.requires.may in
    let is = arena_there c.args.sectors.now.arenas.items c.args.place c.index.result.now may.place_in c.index.ensures in
    start_of c.args.sectors.now c.args.place c.args.kept c.args.session.now may c.index.result.now is c.take_lane-lane.result c.take_lane-lane.ensures.lane

pub lend-lane-requires-clause-pass : goal.lend-lane-requires-clause-pass
lend-lane-requires-clause-pass c =
    let may = c.requires.may in
    let is = arena_there c.args.sectors.now.arenas.items c.args.place c.index.result.now may.place_in c.index.ensures in
    let mine = read_at c.args.session.now.passes.items c.args.place c.index_mut.result.now c.index_mut.result.now (pass_place c.args.sectors.now c.args.place c.args.kept c.args.session.now may) c.index_mut.ensures.value in
    start_table c.args.sectors.now c.args.place c.args.kept c.args.session.now may c.index.result.now is c.in-Some.pass (mine ∙ sym c.take.ensures.value ∙ c.in-Some.is)

pub returns-clause-on : goal.returns-clause-on
returns-clause-on c = λ parts know.
    let s = c.args.sectors.now in
    let session = c.args.session.now in
    let may = c.requires.may in
    let is = arena_there s.arenas.items c.args.place c.index.result.now may.place_in c.index.ensures in
    let mine = read_at session.passes.items c.args.place c.index_mut.result.now c.index_mut.result.now (pass_place s c.args.place c.args.kept session may) c.index_mut.ensures.value in
    is_started s c.args.place parts c.args.kept session _ know (start_one s c.args.place c.args.kept session may parts know) c.index.result.now is c.take_lane-lane.result c.take_lane-lane.ensures.lane c.in-Some.pass (mine ∙ sym c.take.ensures.value ∙ c.in-Some.is)
    c.lend-lane.result c.lend-lane.ensures.same c.lend-lane.ensures.held c.lend-lane.ensures.steps c.lend-lane.ensures.spare c.lend-lane.ensures.fuse
    _ c.take_lane-lane.ensures.number c.take_lane-lane.ensures.ends refl refl (ap (λ p. set session.passes.items c.args.place p) c.take.ensures.after) refl may.none
