use Rattle.std.proofs.Common.{◌≡◌, ◌≤◌, ◌+◌, ◌++◌, ◌∷◌, [], true, length, take, sym, ap, ◌∙◌, subst, arith, length-drop, ◌<◌, ◌^◌}
use Rattle.std.proofs.lemmas.List.{length-take-le}
use Rattle.nfit_reader.specs.Structures.{is_structure, IsWhole}
use Rattle.nfit_reader.proofs.Spans.{read_more, read_bad, read_all, takes_four, takes_inside, span_is_whole, IsReadTo}
use Rattle.nfit_reader.proofs.Counted.{short_structure}
use Rattle.nfit_reader.proofs.structures.structures_in.Goals as goal

pub returns-then-not-is_structure-clause-reading : goal.returns-then-not-is_structure-clause-reading
returns-then-not-is_structure-clause-reading c = λ _.
    read_bad c.args.table.now c.rest_of-rest.result.now c.loop-at.at c.loop-at.structures c.loop-at.invariant c.loop-at-test.true c.rest_of-rest.ensures (sym c.is_structure.ensures ∙ c.if-not-is_structure.true)

pub two_at-len-requires : goal.two_at-len-requires
two_at-len-requires c =
    let good : is_structure c.rest_of-rest.result.now ≡ true = sym c.is_structure.ensures ∙ c.if-not-is_structure.false in
    omega (arith, takes_four c.rest_of-rest.result.now good, takes_inside c.rest_of-rest.result.now good)

pub slice_bounds-structure_of-end : goal.slice_bounds-structure_of-end
slice_bounds-structure_of-end c =
    let good : is_structure c.rest_of-rest.result.now ≡ true = sym c.is_structure.ensures ∙ c.if-not-is_structure.false in
    let inside : c.two_at-len.result ≤ length c.rest_of-rest.result.now = omega (arith, takes_inside c.rest_of-rest.result.now good) in
    sym (length-take-le c.two_at-len.result c.rest_of-rest.result.now inside)

pub structure_of-requires : goal.structure_of-requires
structure_of-requires c =
    subst (λ n. IsWhole (take n c.rest_of-rest.result.now)) (sym c.two_at-len.ensures)
    (span_is_whole c.rest_of-rest.result.now (sym c.is_structure.ensures ∙ c.if-not-is_structure.false))

pub loop-at-preserved : goal.loop-at-preserved
loop-at-preserved c =
    let good : is_structure c.rest_of-rest.result.now ≡ true = sym c.is_structure.ensures ∙ c.if-not-is_structure.false in
    let inside : c.two_at-len.result ≤ length c.rest_of-rest.result.now = omega (arith, takes_inside c.rest_of-rest.result.now good) in
    let small : length (take c.two_at-len.result c.rest_of-rest.result.now) < 2 ^ 32 =
    omega (arith, length-take-le c.two_at-len.result c.rest_of-rest.result.now inside, ap length c.rest_of-rest.ensures, length-drop c.loop-at.at c.args.table.now, c.requires.small) in
    let pushed : c.push.new.self ≡ c.loop-at.structures ++ c.in_ok-structure_of.field-0 ∷ [] = c.in_ok-push.ensures.ok in
    subst (λ xs. IsReadTo c.args.table.now (c.loop-at.at + c.two_at-len.result) xs) (sym pushed)
    (read_more c.args.table.now c.rest_of-rest.result.now c.loop-at.at c.two_at-len.result c.loop-at.structures c.in_ok-structure_of.field-0
    c.loop-at.invariant c.loop-at-test.true c.rest_of-rest.ensures good c.two_at-len.ensures c.in_ok-structure_of.ensures
    (short_structure (take c.two_at-len.result c.rest_of-rest.result.now) c.in_ok-structure_of.field-0 c.in_ok-structure_of.ensures (subst (λ n. IsWhole (take n c.rest_of-rest.result.now)) (sym c.two_at-len.ensures) (span_is_whole c.rest_of-rest.result.now good)) small))

pub loop-at-smaller : goal.loop-at-smaller
loop-at-smaller c =
    let good : is_structure c.rest_of-rest.result.now ≡ true = sym c.is_structure.ensures ∙ c.if-not-is_structure.false in
    omega (arith, takes_four c.rest_of-rest.result.now good)

pub returns-clause-reading : goal.returns-clause-reading
returns-clause-reading c = λ _. read_all _ _ _ c.loop-at.invariant c.loop-at-test.false
