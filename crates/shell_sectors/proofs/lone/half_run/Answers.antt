use Rattle.std.proofs.Common.{◌≡◌, ◌∙◌, ◌+◌, ◌-◌, ◌*◌, ap, arith}
use Rattle.cut_words.specs.WordBytes.{bytes_of}
use Rattle.flog.specs.declared.group.Group.{Group}
use Rattle.flog.specs.declared.half.Half.{Half}
use Rattle.flog.specs.Group.{other_side, place_of, words_of_half}
use Rattle.arena_open.specs.declared.opened.Opened.{Opened}
use Rattle.shell_sectors.specs.LoneRuns.{lane_group}
use Rattle.shell_sectors.proofs.LaneFacts.{can_write, place_other}
use Rattle.shell_sectors.proofs.lone.half_run.Goals as goal

pub returns : goal.returns
returns c =
    let link = c.args.arena.now in
    let place : 8 * place_of (other_side (lane_group c.args.arena.now).side) ≡ 16 * (1 - (lane_group c.args.arena.now).side) =
    place_other (lane_group c.args.arena.now).side (can_write c.args.arena.now c.requires.arena).side in
    let side : c.from-place.result ≡ 1 - (lane_group c.args.arena.now).side = c.from-place.ensures ∙ ap (λ (g : Group). 1 - g.side) c.lane_group.ensures.group in
    let off = ap (λ (o : Opened). o.info.layout.flog_off) c.parts.ensures in
    let first : 8 * c.first.result + c.parts.result.now.info.layout.flog_off + 16 * c.from-place.result ≡ 8 * c.args.arena.now.at + c.args.arena.now.opened.info.layout.flog_off + 8 * place_of (other_side (lane_group c.args.arena.now).side) =
    omega (arith, place, side, off, c.first.ensures) in
    let bytes = c.from_vec.ensures ∙ c.in_ok-bytes.ensures ∙ ap (λ (f : Half). bytes_of (words_of_half f)) c.half_next-half.ensures.half in
    λ i. record { first = first i; bytes = bytes i }
