use Rattle.std.proofs.Common.{◌<◌, ℕ, ◌+◌, ◌∷◌, [], ◌++◌, length, map, ap, ◌∙◌, arith}
use Rattle.std.proofs.lemmas.List.{length-map}
use Rattle.atomic_table.specs.Seated.{TableId}
use Rattle.turn_lock.specs.Passes.{lock_id}
use Rattle.turn_lock.proofs.Rows.{lock_at, row_at}
use Rattle.turn_callers.specs.Replay.{entry}
use Rattle.turn_callers.specs.Seats.{Has}
use Rattle.turn_callers.proofs.Shelves.{has_room, seats_after}
use Rattle.turn_callers.proofs.orders.make_order.Goals as goal

pub make_in_turn-requires-clause-outside : goal.make_in_turn-requires-clause-outside
make_in_turn-requires-clause-outside g c =
    let locks = map lock_id c.args.turns.now in
    let t = c.index-turns-at.result in
    let inside : c.args.order.place < length locks = omega (arith, length-map c.args.turns.now lock_id, c.requires.place) in
    let r = c.requires.seats in
    let s = row_at locks r.0 (λ j. Has (r.1 j) (r.2 + 1)) c.args.passes.now.items c.args.order.place c.index_mut-pass.result.now (lock_id t) r.3 inside (lock_at c.args.turns.now c.args.order.place t (lock_id t) c.requires.place c.index-turns-at.is) c.index_mut-pass.ensures.value in
    (s.0, s.2)

pub make_in_turn-requires-clause-room : goal.make_in_turn-requires-clause-room
make_in_turn-requires-clause-room g c =
    let locks = map lock_id c.args.turns.now in
    let t = c.index-turns-at.result in
    let inside : c.args.order.place < length locks = omega (arith, length-map c.args.turns.now lock_id, c.requires.place) in
    let r = c.requires.seats in
    let s = row_at locks r.0 (λ j. Has (r.1 j) (r.2 + 1)) c.args.passes.now.items c.args.order.place c.index_mut-pass.result.now (lock_id t) r.3 inside (lock_at c.args.turns.now c.args.order.place t (lock_id t) c.requires.place c.index-turns-at.is) c.index_mut-pass.ensures.value in
    has_room c.index_mut-pass.result.now s.3.0 r.2 s.3.1 s.3.2.1

pub returns : goal.returns
returns g c = λ q es n row.
    let locks = map lock_id c.args.turns.now in
    let t = c.index-turns-at.result in
    let o = c.args.order in
    let inside : o.place < length locks = omega (arith, length-map c.args.turns.now lock_id, c.requires.place) in
    let lock_is = λ (e : TableId). lock_at c.args.turns.now o.place t e c.requires.place c.index-turns-at.is in
    let s = row_at locks q (λ j. Has (es j) (n + 1)) c.args.passes.now.items o.place c.index_mut-pass.result.now (lock_id t) row inside (lock_is (lock_id t)) c.index_mut-pass.ensures.value in
    let m = c.make_in_turn.ensures in
    let r : ℕ = c.make_in_turn.result in
    let told = m.part s.3.0 s.3.1 in
    let entries = ap (λ (k : ℕ). s.3.0.entries ++ entry k o.call r ∷ []) s.1 ∙ ap (λ l. l ++ entry q o.call r ∷ []) s.3.2.0 in
    seats_after locks q es n c.args.passes.now.items o r c.make_in_turn.new.pass (lock_id t) row inside lock_is
    (m.pass.0 ∙ s.0, m.pass.1 ∙ s.1, m.outside, (_, told, (entries, (let h = s.3.2.1 in omega arith))))
