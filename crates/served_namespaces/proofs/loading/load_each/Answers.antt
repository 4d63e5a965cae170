use Rattle.std.proofs.Common.{◌≡◌, ◌∙◌, ◌++◌, ◌∷◌, [], Option, refl, sym, ap, subst, arith, append_assoc}
use Rattle.nvd_media.specs.Images.{Images}
use Rattle.arena_open.proofs.Groups.{pushed}
use Rattle.namespace_words.proofs.HeldArenas.{ok_holds}
use Rattle.sector_namespaces.specs.View.{rows_of}
use Rattle.served_namespaces.specs.declared.places.OpenedNamespace.{OpenedNamespace}
use Rattle.served_namespaces.specs.Reading.{IsHeld, IsOpened, RevealsAll, opened_in}
use Rattle.served_namespaces.proofs.LoadedInTurn.{LoadedFirst, loaded_next, none_loaded}
use Rattle.served_namespaces.proofs.loading.load_each.Goals as goal

pub loop-namespace-init : goal.loop-namespace-init
loop-namespace-init g c = record {
  rest = c.into_iter-namespace-iterator.ensures.into_iter_gives.0 ∙ c.into_vec-namespace-items.ensures;
  first = subst (LoadedFirst c.args.sets.now (g.S.ImageSource.held c.args.images.now) []) (sym c.new-opened.ensures) (none_loaded c.args.sets.now (g.S.ImageSource.held c.args.images.now));
  same = refl;
  later = omega arith;
}

pub loop-namespace-preserved : goal.loop-namespace-preserved
loop-namespace-preserved g c =
    let i = c.loop-namespace.invariant in
    let done = c.loop-namespace.yielded in
    let n = c.in-Some.namespace in
    let sets = c.args.sets.now in
    let list = pushed c.push.result _ c.if-is_err.ensures.value c.push.ensures.ok in
    record {
      rest = append_assoc done (n ∷ []) c.next.new.self.rest.items ∙ ap (λ r. done ++ r) (sym c.in-Some.ensures.steps.0) ∙ i.rest;
      first = loaded_next sets (g.S.ImageSource.held c.args.images.now) done c.loop-namespace.opened n c.in-Ok.one c.push.new.self list i.first
          (ok_holds (λ (o : OpenedNamespace). o.place ≡ n.place) c.in_ok-one.field-0 c.in-Ok.one c.in-Ok.is c.in_ok-one.ensures.place)
          (ok_holds (IsOpened sets) c.in_ok-one.field-0 c.in-Ok.one c.in-Ok.is c.in_ok-one.ensures.«open»)
          (λ contents reveals read.
          ok_holds (λ (o : OpenedNamespace). (o ≡ opened_in sets contents n) × IsHeld sets (rows_of contents) o) c.in_ok-one.field-0 c.in-Ok.one c.in-Ok.is
          (c.in_ok-one.ensures.told contents (subst (λ (h : Option Images). RevealsAll h c.args.sets.now contents) (sym i.same) reveals) read).1);
      same = c.in_ok-one.ensures.same ∙ i.same;
      later = omega (arith, c.in_ok-one.ensures.cause.later, i.later);
    }
