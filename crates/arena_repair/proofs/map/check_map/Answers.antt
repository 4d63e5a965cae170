use Rattle.std.proofs.Common.{◌≡◌, ◌<◌, ◌∙◌, ℕ, List, [], length, ap, subst, sym, arith}
use Rattle.std.specs.Prelude.{All}
use Rattle.flog.specs.declared.half.Half.{Half}
use Rattle.arena_open.specs.Halves.{AreMoves}
use Rattle.map_table.specs.Blocks.{blocks_from, blocks_of}
use Rattle.arena_open.specs.Reading.{free_of, moves_of}
use Rattle.arena_open.proofs.Pending.{moves_fit}
use Rattle.arena_check.specs.Check.{block_findings}
use Rattle.arena_check.proofs.BlockWords.{all_exist, none_there}
use Rattle.arena_repair.proofs.map.check_map.Goals as goal

pub make_moves-requires : goal.make_moves-requires
make_moves-requires g c =
    let is : c.as_slice.result.now ≡ moves_of c.args.entries.items c.args.groups.now =
    c.as_slice.ensures ∙ c.in_ok-moves.ensures ∙ ap (λ (entries : List ℕ). moves_of entries c.args.groups.now) c.deref.ensures.value in
    subst (λ (ms : List Half). AreMoves (length c.deref_mut.result.now) ms) (sym is)
    (subst (λ (n : ℕ). AreMoves n (moves_of c.args.entries.items c.args.groups.now)) (sym (ap length c.deref_mut.ensures.value))
    (moves_fit (length c.args.entries.items) c.args.entries.items c.args.groups.now c.requires.in_range))

pub check_sound-requires-clause-blocks : goal.check_sound-requires-clause-blocks
check_sound-requires-clause-blocks g c =
    let none : c.in_ok-findings.findings ≡ [] = none_there c.in_ok-findings.findings (omega arith) in
    let empty : block_findings c.args.layout.now.internal (blocks_of c.deref-2.result.now (free_of c.args.groups.now)) ≡ [] = sym {b = block_findings c.args.layout.now.internal (blocks_of c.deref-2.result.now (free_of c.args.groups.now))} c.in_ok-findings.ensures ∙ none in
    subst (λ (entries : List ℕ). All (λ block. block < c.args.layout.now.internal) (blocks_from 0 entries)) c.deref-2.ensures.value
    (all_exist c.args.layout.now.internal c.deref-2.result.now (free_of c.args.groups.now) empty)
