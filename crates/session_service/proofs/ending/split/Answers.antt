use Rattle.std.proofs.Common.{◌≡◌, ◌+◌, ℕ, suc, length, map, take, drop, sym, ap, ◌∙◌, arith}
use Rattle.session_service.specs.Namespaces.{arenas_in, servings_at}
use Rattle.session_service.proofs.Splitting as splitting
use Rattle.session_service.proofs.ending.split.Goals as goal

pub loop-place-preserved : goal.loop-place-preserved
loop-place-preserved c =
    let i = c.loop-place.invariant in
    let places = c.args.places.now in
    let j : ℕ = c.loop-place.place-index in
    let p = c.place-item.result in
    let lt = c.loop-place-test.true in
    let is = c.place-item.is in
    let row = c.args.row.items in
    let vs = c.loop-place.arenas.items in
    let vs' = c.push.new.self.items in
    let v = c.split_off.new.self in
    let rest = c.loop-place.rest.items in
    let behind = c.in_ok-behind.behind.items in
    let o = c.in_ok-behind.ensures in
    let one : suc j ≡ j + 1 = omega arith in
    let n : c.len.result ≡ length p.arenas.items = c.len.ensures ∙ p.arenas.ok.0 in
    let front = o.items ∙ ap (λ (k : ℕ). take k rest) n in
    let back = o.tail ∙ ap (λ (k : ℕ). drop k rest) n in
    let enough = splitting.enough_left places j p lt is row vs vs' v rest behind c.in_ok-push.ensures.items front back i.left in
    record {
      row = splitting.row_still places j p lt is row vs vs' v rest behind c.in_ok-push.ensures.items front back i.row;
      counts = splitting.counts_still places j p lt is row vs vs' v rest behind c.in_ok-push.ensures.items front back i.counts enough ∙ ap (λ (k : ℕ). map (λ s. length s.arenas) (servings_at (take k places))) one;
      left = ap (λ (k : ℕ). length (arenas_in (servings_at (drop k places)))) (sym one) ∙ splitting.left_still places j p lt is row vs vs' v rest behind c.in_ok-push.ensures.items front back i.left;
    }
