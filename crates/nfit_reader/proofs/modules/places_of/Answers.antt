use Rattle.std.proofs.Common.{◌≡◌, true, false, get_or, nat_cmp, refl, sym, ap, ◌∙◌}
use Rattle.std.specs.Option.{is_some}
use Rattle.std.specs.BTreeMap as tree
use Rattle.nfit_reader.proofs.Numbers.{place_new, place_old}
use Rattle.nfit_reader.proofs.modules.places_of.Goals as goal
use Rattle.nfit_reader.proofs.modules.places_of.Goals.{then-not-contains_key+in_ok-insert, else-not-contains_key}

pub loop-place-preserved : goal.loop-place-preserved
loop-place-preserved c =
    let i = c.loop-place.place in
    let key = get_or c.args.keys.now i 0 in
    let old = tree.get nat_cmp c.loop-place.places in
    elim c.if-not-contains_key.branch [
      | then-not-contains_key+in_ok-insert w ↦
          let no : is_some (old key) ≡ false = sym c.contains_key.ensures ∙ w.if-not-contains_key.true in
          λ q. ap (λ m. tree.get nat_cmp m q) w.places-is
          ∙ place_new old (tree.get nat_cmp w.insert.new.self) c.args.keys.now i key c.loop-place-test.true refl c.loop-place.invariant no w.in_ok-insert.ensures.updates.0 q
      | else-not-contains_key w ↦
          let yes : is_some (old key) ≡ true = sym c.contains_key.ensures ∙ w.if-not-contains_key.false in
          λ q. ap (λ m. tree.get nat_cmp m q) w.places-is
          ∙ place_old old c.args.keys.now i key c.loop-place-test.true refl c.loop-place.invariant yes q
    ]
