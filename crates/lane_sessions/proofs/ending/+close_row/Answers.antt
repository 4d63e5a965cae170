use Rattle.std.proofs.Common.{◌≡◌, ℕ, suc, [], ◌∷◌, length, length-append, sym, ap, subst, arith}
use Rattle.lane_sessions.specs.Closing.{AreHandedIn}
use Rattle.lane_sessions.specs.Left.{IsArenaLeft}
use Rattle.lane_sessions.specs.Ending.{AreArenasLeft}
use Rattle.lane_sessions.proofs.LastArena.{front_in, front_opened, last_in, last_opened, left_push}
use Rattle.lane_sessions.proofs.ending.+close_row.Goals as goal

pub pop_aside-more-requires : goal.pop_aside-more-requires
pop_aside-more-requires t c =
    let e = ap length c.in-Some.ensures.items in
    let n = c.requires.1.count in
    omega (arith, e, n, length-append c.pop.new.self.items (c.in-Some.arena ∷ []))

pub close_arena-requires : goal.close_arena-requires
close_arena-requires t c =
    let xs = c.pop.new.self.items in
    let sets_same : length c.take_last.new.rows ≡ length c.args.sets.now = omega arith in
    let passes_same : length c.take_last-2.new.rows ≡ length c.args.passes.now = omega arith in (
      (λ q. c.requires.0 q (length xs)),
      subst (λ es. AreHandedIn c.in-Some.arena es c.in_ok-pass.pass.items (λ q. c.requires.0 q (length xs))) (sym c.in_ok-lanes.ensures)
          (last_in c.args.arenas.items xs c.in-Some.arena c.in-Some.ensures.items c.args.sets.now c.take_last.new.rows c.in_ok-ends.ends.items c.args.aside.items c.pop_aside-more.new.aside.items c.pop_aside-more.result c.pop_aside-more.ensures
          c.args.passes.now c.take_last-2.new.rows c.in_ok-pass.pass.items c.requires.0 c.requires.1 sets_same c.in_ok-ends.ensures.count c.in_ok-ends.ensures.last passes_same c.in_ok-pass.ensures.count c.in_ok-pass.ensures.last),
    )

pub close_row-requires : goal.close_row-requires
close_row-requires t c =
    let xs = c.pop.new.self.items in
    let sets_same : length c.take_last.new.rows ≡ length c.args.sets.now = omega arith in
    let passes_same : length c.take_last-2.new.rows ≡ length c.args.passes.now = omega arith in (
      omega (arith, ap length c.in-Some.ensures.items, length-append xs (c.in-Some.arena ∷ [])),
      (
        c.requires.0,
        front_in c.args.arenas.items xs c.in-Some.arena c.in-Some.ensures.items c.args.sets.now c.take_last.new.rows c.in_ok-ends.ends.items c.args.aside.items c.pop_aside-more.new.aside.items c.pop_aside-more.result c.pop_aside-more.ensures
            c.args.passes.now c.take_last-2.new.rows c.in_ok-pass.pass.items c.requires.0 c.requires.1 sets_same c.in_ok-ends.ensures.count c.in_ok-ends.ensures.last passes_same c.in_ok-pass.ensures.count c.in_ok-pass.ensures.last,
      ),
    )

pub returns : goal.returns
returns t c = λ states parts opened h.
    let xs = c.pop.new.self.items in
    let a = c.in-Some.arena in
    let is = c.in-Some.ensures.items in
    let words = c.in_ok-words.words.items in
    let sets_same : length c.take_last.new.rows ≡ length c.args.sets.now = omega arith in
    let passes_same : length c.take_last-2.new.rows ≡ length c.args.passes.now = omega arith in
    let all = length c.args.passes.now in
    let count : length c.args.arenas.items ≡ suc (length xs) = omega (arith, ap length is, length-append xs (a ∷ [])) in
    let front = front_in c.args.arenas.items xs a is c.args.sets.now c.take_last.new.rows c.in_ok-ends.ends.items c.args.aside.items c.pop_aside-more.new.aside.items c.pop_aside-more.result c.pop_aside-more.ensures
    c.args.passes.now c.take_last-2.new.rows c.in_ok-pass.pass.items parts h sets_same c.in_ok-ends.ensures.count c.in_ok-ends.ensures.last passes_same c.in_ok-pass.ensures.count c.in_ok-pass.ensures.last in
    let last = last_in c.args.arenas.items xs a is c.args.sets.now c.take_last.new.rows c.in_ok-ends.ends.items c.args.aside.items c.pop_aside-more.new.aside.items c.pop_aside-more.result c.pop_aside-more.ensures
    c.args.passes.now c.take_last-2.new.rows c.in_ok-pass.pass.items parts h sets_same c.in_ok-ends.ensures.count c.in_ok-ends.ensures.last passes_same c.in_ok-pass.ensures.count c.in_ok-pass.ensures.last in
    let state = last_opened states c.args.arenas.items xs a is opened in
    let before = c.in_ok-words.ensures states parts (front_opened states c.args.arenas.items xs a is opened) front in
    let here = c.in_ok-last.ensures state.0 (λ q. parts q (length xs)) state.2 state.3
    (subst (λ es. AreHandedIn a es c.in_ok-pass.pass.items (λ q. parts q (length xs))) (sym c.in_ok-lanes.ensures) last) in
    subst (λ (n : ℕ). AreArenasLeft all states parts n c.push.new.self.items) (sym count)
    (left_push all states parts (length xs) words c.push.new.self.items c.in_ok-last.last state.0 c.in_ok-push.ensures.items state.1
    (subst (λ (n : ℕ). AreArenasLeft n states parts (length xs) words) passes_same before)
    (subst (λ (n : ℕ). IsArenaLeft n state.0 (λ q. (parts q (length xs)).mine) c.in_ok-last.last) c.in_ok-pass.ensures.count here))
