use Rattle.std.proofs.Common.{◌≡◌, ◌∙◌, ℕ, List, length, ap, subst, sym}
use Rattle.flog.specs.declared.half.Half.{Half}
use Rattle.arena_open.specs.Halves.{AreMoves}
use Rattle.arena_open.specs.Reading.{moves_of}
use Rattle.arena_open.proofs.Pending.{moves_fit}
use Rattle.arena_open.proofs.moves.decode_arena.Goals as goal

pub make_moves-requires : goal.make_moves-requires
make_moves-requires c =
    let is : c.as_slice-2.result.now ≡ moves_of c.args.entries.items c.args.groups =
    c.as_slice-2.ensures ∙ c.in-Ok.ensures ∙ (λ i. moves_of (c.deref.ensures.value i) (c.as_slice.ensures i)) in
    subst (λ (ms : List Half). AreMoves (length c.deref_mut.result.now) ms) (sym is)
    (subst (λ (n : ℕ). AreMoves n (moves_of c.args.entries.items c.args.groups)) (sym (ap length c.deref_mut.ensures.value))
    (moves_fit (length c.args.entries.items) c.args.entries.items c.args.groups c.requires.in_range))
