use Rattle.std.proofs.Common.{◌≡◌, ◌∙◌, ◌<◌, ℕ, List, length, ap, subst, sym, arith}
use Rattle.std.specs.Prelude.{All}
use Rattle.std.proofs.lemmas.Grind.{common_steps}
use Rattle.flog.specs.declared.half.Half.{Half}
use Rattle.arena_open.specs.Halves.{AreMoves}
use Rattle.arena_open.specs.Reading.{moves_of}
use Rattle.arena_open.proofs.Pending.{moves_fit}
use Rattle.map_table.specs.Blocks.{blocks_from}
use Rattle.arena_check.specs.Check.{in_arena, recovered_map}
use Rattle.arena_rescue.specs.Rescue.{rescued_map}
use Rattle.arena_rescue.proofs.Losses.{blocks_below}
use Rattle.arena_rescue.proofs.map.rescue_map.Goals as goal

pub make_moves-requires : goal.make_moves-requires
make_moves-requires g c =
    let is : c.as_slice.result.now ≡ moves_of c.args.entries.items c.args.groups.now =
    c.as_slice.ensures ∙ c.in_ok-moves.ensures ∙ ap (λ (entries : List ℕ). moves_of entries c.args.groups.now) c.deref.ensures.value in
    subst (λ (ms : List Half). AreMoves (length c.deref_mut.result.now) ms) (sym is)
    (subst (λ (n : ℕ). AreMoves n (moves_of c.args.entries.items c.args.groups.now)) (sym (ap length c.deref_mut.ensures.value))
    (moves_fit (length c.args.entries.items) c.args.entries.items c.args.groups.now c.requires.in_range))

pub returns-clause-blocks : goal.returns-clause-blocks
returns-clause-blocks g c =
    let map : List ℕ = recovered_map c.args.entries.items c.args.groups.now in
    let is : c.from_vec.result ≡ rescued_map c.args.layout.now (in_arena c.args.at (g.B.BadWords.bad c.args.bad.now)) map c.args.groups.now = grind (arith, common_steps) in
    subst (λ (es : List ℕ). All (λ block. block < c.args.layout.now.internal) (blocks_from 0 es)) (sym is)
    (blocks_below c.args.layout.now (in_arena c.args.at (g.B.BadWords.bad c.args.bad.now)) map c.args.groups.now (omega (arith, c.requires.layout.external_some, c.requires.layout.internal_is)))
