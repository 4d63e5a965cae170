use Rattle.std.proofs.Common.{◌∙◌, ℕ, List, Err, length, drop, ap, subst, sym, arith}
use Rattle.std.proofs.lemmas.Result.{err_from_is_err_and}
use Rattle.arena_open.specs.Halves.{AreInRange}
use Rattle.arena_open.specs.Reading.{on_map}
use Rattle.arena_open.proofs.Opening.{opening_info, opening_map, lanes_refused, lanes_in_range, length_map}
use Rattle.arena_open.proofs.open.read_arena.Goals as goal

pub returns-in-Err : goal.returns-in-Err
returns-in-Err g c =
    λ not_memory. sym (opening_info (drop c.args.at (g.W.WordSpace.words c.args.space.now).kept) c.args.parent.now c.in-Err.fault (sym c.in-Err.ensures.info))

pub returns-in_err-groups : goal.returns-in_err-groups
returns-in_err-groups g c =
    let p = err_from_is_err_and c.from_residual.result c.from_residual.ensures.1 in
    lanes_refused (drop c.args.at (g.W.WordSpace.words c.args.space.now).kept) c.args.parent.now c.in-Ok.info c.from_residual.result c.read_lanes.result c.in_err-groups.field-0.0
    (sym c.in-Ok.ensures.info) (p.1 ∙ ap (λ f. Err f) p.2) c.read_lanes.ensures c.in_err-groups.was

pub decode_arena-requires-clause-few : goal.decode_arena-requires-clause-few
decode_arena-requires-clause-few g c =
    let l = c.in-Ok.info.layout in
    let n = ap length c.in-Ok-read_map.ensures ∙ length_map c.in-Ok.info.layout (drop c.args.at (g.W.WordSpace.words c.args.space.now).kept) in
    omega (arith, n, c.in-Ok.ensures.sound.sound.layout.internal_is, c.in-Ok.ensures.sound.sound.layout.internal_few)

pub decode_arena-requires-clause-in_range : goal.decode_arena-requires-clause-in_range
decode_arena-requires-clause-in_range g c =
    let n = ap length c.in-Ok-read_map.ensures ∙ length_map c.in-Ok.info.layout (drop c.args.at (g.W.WordSpace.words c.args.space.now).kept) in
    subst (λ (k : ℕ). AreInRange k c.in_ok-groups.groups) (sym n)
    (lanes_in_range c.in-Ok.info.layout (drop c.args.at (g.W.WordSpace.words c.args.space.now).kept) c.in_ok-groups.groups c.in-Ok.ensures.sound.sound.layout (sym (c.in_ok-groups.ensures (λ e. cc))))

pub returns : goal.returns
returns g c =
    λ not_memory. c.decode_arena.ensures not_memory
    ∙ ap (λ (es : List ℕ). on_map c.in-Ok.info c.in_ok-groups.groups es) c.in-Ok-read_map.ensures
    ∙ sym (opening_map (drop c.args.at (g.W.WordSpace.words c.args.space.now).kept) c.args.parent.now c.in-Ok.info c.in_ok-groups.groups (sym c.in-Ok.ensures.info) (sym (c.in_ok-groups.ensures (λ e. cc))))
