use Rattle.std.proofs.Common.{◌≡◌, [], ◌∷◌, ◌++◌, map, refl, sym, ap, ◌∙◌}
use Rattle.lane_table.specs.Kits.{kit_in}
use Rattle.lane_table.specs.Law.{opening_of, words_of}
use Rattle.lane_table.proofs.Splits.{comes_alone, joins}
use Rattle.lane_table.proofs.Gathers.{all_at_seam, append_right, gathered_on, map_push}
use Rattle.lane_table.proofs.gathering.gather.Goals as goal

pub load_new_seat-host-requires : goal.load_new_seat-host-requires
load_new_seat-host-requires c = (c.requires.table, comes_alone c.args.shared.now.key.shape (opening_of c.args.shared.now.key) (words_of c.args.shared.now.key) _ _)

pub join_seat-requires : goal.join_seat-requires
join_seat-requires c =
    let i = c.loop-end.invariant in
    let e = c.in-Some.end in
    let k = c.into_kit-seat.result in
    let steps = c.in-Some.ensures.steps.0 in
    let mine = all_at_seam (λ e. (kit_in e).seat.table_id ≡ c.args.shared.now.table_id) c.args.ends.items c.loop-end.yielded _ e (ap (λ r. c.loop-end.yielded ++ r) (sym steps) ∙ i.rest) c.requires.ends in
    (i.table, ap (λ k. k.seat.table_id) c.into_kit-seat.ensures ∙ mine, k.alone.1, c.requires.table, joins c.args.shared.now.key.shape (opening_of c.args.shared.now.key) (words_of c.args.shared.now.key) _ _ _ _)

pub loop-end-preserved : goal.loop-end-preserved
loop-end-preserved c =
    let i = c.loop-end.invariant in
    let e = c.in-Some.end in
    let k = c.into_kit-seat.result in
    let steps = c.in-Some.ensures.steps.0 in
    let past = map (λ e. (kit_in e).log.calls) c.loop-end.yielded in
    record {
      table = c.join_seat.ensures.0 ∙ i.table;
      known = gathered_on c.loop-end.host.me c.join_seat.new.seat.me k.seat.me.0 c.loop-end.yielded e k c.join_seat.ensures.2 i.known refl c.into_kit-seat.ensures;
      logs = c.push_reserved.ensures.items ∙ ap (λ l. l ++ k.log.calls ∷ []) i.logs ∙ ap (λ k. past ++ k.log.calls ∷ []) c.into_kit-seat.ensures ∙ sym (map_push (λ e. (kit_in e).log.calls) c.loop-end.yielded e);
      room = c.push_reserved.ensures.capacity ∙ i.room;
      rest = append_right c.loop-end.yielded (e ∷ []) _ ∙ ap (λ r. c.loop-end.yielded ++ r) (sym steps) ∙ i.rest;
    }
