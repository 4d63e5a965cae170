use Rattle.std.proofs.Common.{◌≡◌, ◌∙◌, ◌+◌, ◌∷◌, [], ℕ, List, Option, drop, length, refl, sym, ap, subst, arith}
use Rattle.std.specs.Option.{ForSome}
use Rattle.std.proofs.lemmas.List.{drop_all, drop_more, length-append}
use Rattle.nvd_media.specs.Images.{Images}
use Rattle.image_set.specs.Outline.{HasContents, contents_in, image_set_with}
use Rattle.namespace_map.specs.declared.listed.Namespace.{Namespace}
use Rattle.shell_check.proofs.Each.{IsSoFarOf, all_so_far, more_so_far, none_so_far}
use Rattle.shell_check.proofs.all.check_each.Goals as goal

pub loop-namespace-init : goal.loop-namespace-init
loop-namespace-init g c = record {
  few = omega (arith, c.no_lines-all.ensures.count);
  same = refl;
  later = omega arith;
  so_far = λ outline o source told.
      none_so_far (image_set_with outline (contents_in source (length outline.sizes))) c.args.namespaces.now c.no_lines-all.result c.no_lines-all.ensures.text c.no_lines-all.ensures.count;
}

pub check_named-requires-clause-there : goal.check_named-requires-clause-there
check_named-requires-clause-there g c = subst (λ (held : Option Images). ForSome held (HasContents c.args.rest.now.sizes)) (sym c.loop-namespace.invariant.same) c.requires.there

pub loop-namespace-preserved : goal.loop-namespace-preserved
loop-namespace-preserved g c =
    let l = c.loop-namespace in
    let pushed = c.in-Ok.ensures in
    let long : length c.push_lines.new.all.text.items ≡ length l.all.text.items + length c.in_ok-lines.lines.text.items =
    ap (λ (t : List ℕ). length t) pushed.text ∙ length-append l.all.text.items c.in_ok-lines.lines.text.items in
    record {
      few = omega (arith, long, pushed.count, l.invariant.few, c.in_ok-lines.ensures.few);
      same = c.in_ok-lines.ensures.same ∙ l.invariant.same;
      later = omega (arith, c.in_ok-lines.ensures.later, l.invariant.later);
      so_far = λ outline o source told.
          let loaded = image_set_with outline (contents_in source (length outline.sizes)) in
          let all : List Namespace = c.args.namespaces.now in
          let n : Namespace = c.namespace-item.result in
          let left : List Namespace = drop (l.namespace-index + 1) all in
          let here : drop l.namespace-index all ≡ n ∷ left = drop_more all l.namespace-index n c.loop-namespace-test.true ∙ ap (λ (m : Namespace). m ∷ left) (sym c.namespace-item.is) in
          more_so_far loaded all n left l.all c.in_ok-lines.lines c.push_lines.new.all
          (subst (λ (ns : List Namespace). IsSoFarOf loaded all ns l.all) here (l.invariant.so_far outline o source told))
          (c.in_ok-lines.ensures.told outline o source (l.invariant.same ∙ told)) pushed.text pushed.count;
    }

pub returns-clause-told : goal.returns-clause-told
returns-clause-told g c = λ outline o source told.
    let l = c.loop-namespace in
    let loaded = image_set_with outline (contents_in source (length outline.sizes)) in
    let all : List Namespace = c.args.namespaces.now in
    let none : drop l.namespace-index all ≡ [] = drop_all l.namespace-index all (omega (arith, c.loop-namespace-test.false)) in
    all_so_far loaded all l.all (subst (λ (ns : List Namespace). IsSoFarOf loaded all ns l.all) none (l.invariant.so_far outline o source told))
