use Rattle.std.proofs.Common.{◌≡◌, ℕ, ◌+◌, ◌-◌, sym, ap, ◌∙◌, arith}
use Rattle.std.specs.Prelude.{sum, slice_index, slice_set}
use Rattle.std.proofs.lemmas.List.{get_or_default}
use Rattle.turn_callers.specs.Replay.{value_of, value_after, is_legal, entry}
use Rattle.turn_callers.proofs.Journal.{value_of-push, is_legal-push, room_left, has_room}
use Rattle.turn_callers.proofs.register.Register.make.Goals as goal

pub invariant_of-self : goal.invariant_of-self
invariant_of-self c =
    let s = c.args.self.now in
    let e = entry c.args.by c.args.call s.value in
    let items = c.push_reserved.ensures.items in
    let left : sum (slice_set s.rooms.items c.args.by (slice_index s.rooms.items c.args.by - 1)) + 1 ≡ sum s.rooms.items = room_left s.rooms.items c.args.by c.requires (has_room s.rooms.items c.args.by c.requires) in
    let found : c.index.result.now ≡ slice_index s.rooms.items c.args.by = c.index.ensures ∙ get_or_default s.rooms.items c.args.by c.index.result.now 0 (has_room s.rooms.items c.args.by c.requires) in
    record {
      replays = c.after-self.ensures ∙ ap (λ (v : ℕ). value_after v c.args.call) s.replays ∙ sym (value_of-push 0 s.journal.items e) ∙ ap (value_of 0) (sym items);
      legal = ap (is_legal 0) items ∙ is_legal-push 0 s.journal.items e s.legal s.replays;
      reserved = omega (arith, c.push_reserved.ensures.len, c.push_reserved.ensures.capacity, s.reserved, left, ap (λ (n : ℕ). sum (slice_set s.rooms.items c.args.by (n - 1))) found);
    }
