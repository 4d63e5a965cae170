use Rattle.std.proofs.Common.{◌≡◌, ◌<◌, ◌≤◌, ℕ, ◌+◌, ◌-◌, [], ◌∷◌, ◌++◌, length, length-append, length-take, map, get_or, take, le_refl, refl, sym, ap, ◌∙◌, arith}
use Rattle.std.proofs.lemmas.List.{take_more, take_all}
use Rattle.turn_lock.specs.Passes.{lock_id}
use Rattle.turn_callers.specs.declared.order.ShelfOrder.{ShelfOrder}
use Rattle.turn_callers.specs.declared.register.RegisterCall.TheVariants.{Read}
use Rattle.turn_callers.specs.Orders.{made_at, entry_at}
use Rattle.turn_callers.proofs.Shelves.{seats_same, made_at-push}
use Rattle.turn_callers.proofs.orders.run_session.Goals as goal

pub loop-order-init : goal.loop-order-init
loop-order-init g c =
    let s = c.args.session.now in
    let orders = c.args.orders.now in
    record {
      seats = seats_same (map lock_id c.args.turns.now) s.number (λ j. []) (λ j. made_at s.number j (take 0 orders) s.replies.items) (length orders) (length orders - 0) s.passes.items (λ j. refl) (omega arith) c.requires.ready.0;
      count = ap length c.requires.ready.1;
      capacity = refl;
    }

pub make_order-requires-clause-seats : goal.make_order-requires-clause-seats
make_order-requires-clause-seats g c =
    let q : ℕ = c.args.session.now.number in
    let orders = c.args.orders.now in
    let k : ℕ = c.loop-order.order-index in
    let es = λ (j : ℕ). made_at q j (take k orders) c.loop-order.replies.items in
    let inside : k < length orders = omega arith in
    let n : ℕ = length orders - (k + 1) in
    let more : n + 1 ≤ length orders - k = omega arith in
    (q, es, n, seats_same (map lock_id c.args.turns.now) q es es (length orders - k) (n + 1) c.loop-order.passes.items (λ j. refl) more c.loop-order.invariant.seats)

pub loop-order-preserved : goal.loop-order-preserved
loop-order-preserved g c =
    let q : ℕ = c.args.session.now.number in
    let locks = map lock_id c.args.turns.now in
    let orders = c.args.orders.now in
    let k : ℕ = c.loop-order.order-index in
    let i = c.loop-order.invariant in
    let rs = c.loop-order.replies.items in
    let r : ℕ = c.make_order.result in
    let o : ShelfOrder = get_or orders k (record { place = 0; call = Read }) in
    let es = λ (j : ℕ). made_at q j (take k orders) rs in
    let inside : k < length orders = omega arith in
    let n : ℕ = length orders - (k + 1) in
    let more : n + 1 ≤ length orders - k = omega arith in
    let row = seats_same locks q es es (length orders - k) (n + 1) c.loop-order.passes.items (λ j. refl) more i.seats in
    let items = c.push_reserved.ensures.items in
    let long : length (take k orders) ≡ length rs = omega (arith, length-take k orders, i.count) in
    let next = λ (j : ℕ). sym (made_at-push q j (take k orders) rs o r long) ∙ ap (λ os. made_at q j os (rs ++ r ∷ [])) (sym (take_more orders k (record { place = 0; call = Read }) inside)) ∙ ap (λ l. made_at q j (take (k + 1) orders) l) (sym items) in
    record {
      seats = seats_same locks q (λ j. es j ++ entry_at q j o r) (λ j. made_at q j (take (k + 1) orders) c.push_reserved.new.self.items) n n c.make_order.new.passes.items next (le_refl n) (c.make_order.ensures q es n row);
      count = omega (arith, ap length items, length-append rs (r ∷ []), i.count);
      capacity = c.push_reserved.ensures.capacity ∙ i.capacity;
    }

pub returns-clause-done : goal.returns-clause-done
returns-clause-done g c =
    let q : ℕ = c.args.session.now.number in
    let locks = map lock_id c.args.turns.now in
    let orders = c.args.orders.now in
    let k : ℕ = c.loop-order.order-index in
    let i = c.loop-order.invariant in
    let rs = c.loop-order.replies.items in
    let over : length orders ≤ k = omega arith in
    let whole = take_all k orders over in
    (seats_same locks q (λ j. made_at q j (take k orders) rs) (λ j. made_at q j orders rs) (length orders - k) 0 c.loop-order.passes.items (λ j. ap (λ os. made_at q j os rs) whole) (omega arith) i.seats, omega (arith, i.count, over, ap length whole, length-take k orders))
