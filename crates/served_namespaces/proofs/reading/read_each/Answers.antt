use Rattle.std.proofs.Common.{◌≡◌, ◌∙◌, Option, Err, refl, sym, subst, arith}
use Rattle.nvd_media.specs.Images.{Images}
use Rattle.arena_open.proofs.Groups.{pushed}
use Rattle.namespace_words.proofs.HeldArenas.{ok_holds}
use Rattle.served_namespaces.specs.declared.places.NotOpened.TheVariants.{Broken}
use Rattle.served_namespaces.specs.declared.places.ReadNamespace.{ReadNamespace}
use Rattle.served_namespaces.specs.Reading.{IsReadIn, IsSoundRead, RevealsAll}
use Rattle.served_namespaces.proofs.ReadInTurn.{ReadFirst, all_opened, broken_next, none_read, read_next}
use Rattle.served_namespaces.proofs.reading.read_each.Goals as goal

pub loop-place-init : goal.loop-place-init
loop-place-init g c = record {
  first = subst (ReadFirst c.args.sets.now (g.S.ImageSource.held c.args.images.now) c.args.places.now 0) (sym c.new-read.ensures) (none_read c.args.sets.now (g.S.ImageSource.held c.args.images.now) c.args.places.now);
  same = refl;
  later = omega arith;
}

pub returns-in-Err-clause-refused : goal.returns-in-Err-clause-refused
returns-in-Err-clause-refused g c = λ contents reveals uuid fault e.
    let i = c.loop-place.invariant in
    let why : c.in-Err.refused ≡ Broken uuid fault = cc in
    let shown = subst (λ (h : Option Images). RevealsAll h c.args.sets.now contents) (sym i.same) reveals in
    let f = c.in_ok-one.ensures.refused contents shown uuid fault (c.in-Err.is ∙ (λ j. Err (why j))) in
    broken_next c.args.sets.now (g.S.ImageSource.held c.args.images.now) c.args.places.now c.loop-place.place-index c.loop-place.read i.first c.place-item.result c.loop-place-test.true c.place-item.is
    contents reveals uuid fault f.0 f.1

pub loop-place-preserved : goal.loop-place-preserved
loop-place-preserved g c =
    let i = c.loop-place.invariant in
    let list = pushed c.push.result _ c.if-is_err.ensures.value c.push.ensures.ok in
    record {
      first = read_next c.args.sets.now (g.S.ImageSource.held c.args.images.now) c.args.places.now c.loop-place.place-index c.loop-place.read i.first c.place-item.result c.loop-place-test.true c.place-item.is
          c.in-Ok.one c.push.new.self list
          (ok_holds (λ (n : ReadNamespace). n.place ≡ c.place-item.result) c.in_ok-one.field-0 c.in-Ok.one c.in-Ok.is c.in_ok-one.ensures.place)
          (ok_holds (IsSoundRead c.args.sets.now) c.in_ok-one.field-0 c.in-Ok.one c.in-Ok.is c.in_ok-one.ensures.sound)
          (λ contents reveals.
          ok_holds (IsReadIn c.args.sets.now contents) c.in_ok-one.field-0 c.in-Ok.one c.in-Ok.is
          (c.in_ok-one.ensures.told contents (subst (λ (h : Option Images). RevealsAll h c.args.sets.now contents) (sym i.same) reveals)));
      same = c.in_ok-one.ensures.same ∙ i.same;
      later = omega (arith, c.in_ok-one.ensures.cause.later, i.later);
    }

pub returns-clause-told : goal.returns-clause-told
returns-clause-told g c = λ contents reveals. (
  c.loop-place.invariant.first.all contents reveals,
  all_opened c.args.sets.now (g.S.ImageSource.held c.args.images.now) c.args.places.now c.loop-place.place-index c.loop-place.read c.loop-place.invariant.first c.loop-place-test.false contents reveals,
)
