use Rattle.std.proofs.Common.{◌≡◌, [], ◌∷◌, ◌++◌, None, sym, ap, ◌∙◌, arith, append_assoc}
use Rattle.turn_lock.specs.declared.table.Role.TheVariants.{Keeper}
use Rattle.turn_lock.specs.Turns.{gathered}
use Rattle.turn_lock.specs.Passes.{lock_of, out_of}
use Rattle.turn_lock.proofs.Callers.{seat_is}
use Rattle.turn_lock.proofs.Entries.{entries_of-push}
use Rattle.turn_lock.proofs.Places.{all_at_seam}
use Rattle.turn_lock.proofs.Keeps.{comes_alone, joins_as}
use Rattle.turn_lock.proofs.gathering.gather.Goals as goal

pub load_new_seat-keeper-requires : goal.load_new_seat-keeper-requires
load_new_seat-keeper-requires g c = (omega (arith, c.requires.table), comes_alone _ _ _ _ _)

pub join_seat-requires : goal.join_seat-requires
join_seat-requires g c =
    let i = c.loop-pass.invariant in
    let p = c.in-Some.pass in
    let steps = c.in-Some.ensures.steps.0 in
    let all = all_at_seam (λ p. (lock_of {g = g.T.Parted} p ≡ c.args.shared.now.table_id) × (out_of {g = g.T.Parted} p ≡ None)) c.args.passes.items c.loop-pass.yielded _ p (ap (λ r. c.loop-pass.yielded ++ r) (sym steps) ∙ i.rest) c.requires.passes in
    let s = seat_is p.seat.me p.number None p.of_a_caller p.numbered p.empty_slot all.1 in
    (i.table, all.0, ap (λ m. m.1) s.1, omega (arith, c.requires.table), joins_as _ _ _ _ _ _ _ _ _ _ (ap (λ m. m.0) i.known) (ap (λ m. m.0) s.1))

pub loop-pass-preserved : goal.loop-pass-preserved
loop-pass-preserved g c =
    let i = c.loop-pass.invariant in
    let p = c.in-Some.pass in
    let j = c.join_seat.ensures in
    record {
      table = j.0 ∙ i.table;
      known = j.2 ∙ ap (λ m. (gathered m.0 p.seat.me.0, m.1)) i.known ∙ ap (λ es. (Keeper es, [])) (sym (entries_of-push c.loop-pass.yielded p));
      rest = append_assoc c.loop-pass.yielded (p ∷ []) c.next.new.self.rest.items ∙ ap (λ r. c.loop-pass.yielded ++ r) (sym c.in-Some.ensures.steps.0) ∙ i.rest;
    }
