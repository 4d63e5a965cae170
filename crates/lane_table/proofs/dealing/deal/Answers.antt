use Rattle.std.proofs.Common.{◌<◌, ◌+◌, ◌-◌, [], length, ap, sym, ◌∙◌, subst, arith}
use lib.ListN.{get_elem?}
use Rattle.lane_table.specs.Begun.{lane_at, IsFresh}
use Rattle.lane_table.specs.Law.{opening_of, words_of, keeper, opened_from, first_loose}
use Rattle.lane_table.proofs.Dealt.{waits, splits_as, seat_is, dealer_is, new_seat, fresh, fresh_push, count_push, none_later, first_makes}
use Rattle.lane_table.proofs.dealing.deal.Goals as goal

pub split_seat-seat-requires : goal.split_seat-seat-requires
split_seat-seat-requires c =
    let i = c.loop-number.invariant in
    let k = c.args.shared.now.key in
    let lt : c.loop-number.number < k.shape.lanes = omega (arith, c.loop-number-test.true, ap length c.requires.lanes, c.requires.arena.count) in
    (i.table ∙ c.requires.table.0, c.requires.table.1, splits_as k.shape (opening_of k) (words_of k) _ _ _ _ (first_loose c.loop-number.number) (ap (λ m. m.0) i.dealer ∙ ap (λ os. keeper os (first_loose c.loop-number.number)) (waits k c.loop-number.number k.shape.lanes lt)))

pub seated-requires : goal.seated-requires
seated-requires c =
    let i = c.loop-number.invariant in
    let k = c.args.shared.now.key in
    let lt : c.loop-number.number < k.shape.lanes = omega (arith, c.loop-number-test.true, ap length c.requires.lanes, c.requires.arena.count) in
    new_seat k c.loop-number.number _ c.split_seat-seat.result.me (first_loose c.loop-number.number) c.requires.arena lt
    (seat_is c.split_seat-seat.result.me c.loop-number.dealer.me _ _ _ (first_loose c.loop-number.number) c.split_seat-seat.ensures.4 i.dealer (waits k c.loop-number.number k.shape.lanes lt))
    (first_makes c.loop-number.number)
    (ap (λ ls. lane_at ls c.loop-number.number) c.requires.lanes)

pub loop-number-preserved : goal.loop-number-preserved
loop-number-preserved c =
    let i = c.loop-number.invariant in
    let k = c.args.shared.now.key in
    let lt : c.loop-number.number < k.shape.lanes = omega (arith, c.loop-number-test.true, ap length c.requires.lanes, c.requires.arena.count) in
    let w = waits k c.loop-number.number k.shape.lanes lt in
    let s = c.split_seat-seat.ensures in
    let items = c.in_ok-push.ensures.items in
    let e = c.seated.ensures in
    let new = fresh c.args.shared.now.table_id k c.loop-number.number c.seated.result (ap (λ s. s.table_id) e.seat ∙ s.3 ∙ i.table ∙ c.requires.table.0)
    (ap (λ s. s.me) e.seat ∙ seat_is c.split_seat-seat.result.me c.loop-number.dealer.me _ _ _ (first_loose c.loop-number.number) s.4 i.dealer w) e.number e.made e.fuse in
    record {
      table = s.0 ∙ i.table;
      dealer = dealer_is c.split_seat-seat.new.seat.me c.loop-number.dealer.me _ _ _ (first_loose c.loop-number.number) s.2 i.dealer w ∙ ap (λ ps. (keeper (opened_from k (c.loop-number.number + 1) (k.shape.lanes - (c.loop-number.number + 1))) ps, [])) (sym (none_later c.loop-number.number));
      count = count_push _ _ _ _ items i.count;
      each = λ l d at. fresh_push c.args.shared.now.table_id k c.loop-number.lanes.items c.seated.result i.each (subst (λ n. IsFresh c.args.shared.now.table_id k n c.seated.result) (sym i.count) new) l d (ap (λ ls. get_elem? ls l) (sym items) ∙ at);
    }
