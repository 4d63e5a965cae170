use Rattle.std.proofs.Common.{◌≡◌, ℕ, ◌+◌, [], false, map, drop, nat_cmp, sym, ◌∙◌, subst, arith}
use Rattle.std.specs.BTreeSet as bag
use Rattle.std.proofs.lemmas.List.{at_drop_more, at_drop_all, length-map}
use Rattle.std.proofs.lemmas.Bool.{not-true, not-false}
use Rattle.nfit_reader.specs.declared.structures.Link.{Link}
use Rattle.nfit_reader.proofs.Numbers.{IsListed, listed_first, listed_new, listed_old, listed_all, listed_few}
use Rattle.nfit_reader.proofs.modules.modules_of.Goals as goal
use Rattle.nfit_reader.proofs.modules.modules_of.Goals.{then-branch+in_ok-push, else-branch}

abbrev handle : Link → ℕ
handle m = m.handle

pub loop-link-init : goal.loop-link-init
loop-link-init c =
    let none : (x : ℕ) → bag.contains nat_cmp c.new-seen.result x ≡ false = λ x. grind arith in
    subst (λ ms. IsListed (bag.contains nat_cmp c.new-seen.result) ms (map handle c.args.links.now) (map handle c.args.links.now)) (sym c.new-modules.ensures)
    (listed_first (bag.contains nat_cmp c.new-seen.result) (map handle c.args.links.now) none)

pub loop-link-preserved : goal.loop-link-preserved
loop-link-preserved c =
    let all = map handle c.args.links.now in
    let rest = map handle (drop (c.loop-link.link-index + 1) c.args.links.now) in
    let old = bag.contains nat_cmp c.loop-link.seen in
    let new = bag.contains nat_cmp c.insert.new.self in
    let next = at_drop_more (map handle) c.args.links.now c.loop-link.link-index _ c.loop-link-test.true in
    let now = subst (λ xs. IsListed old c.loop-link.modules xs all) next c.loop-link.invariant in
    elim c.if-branch.branch [
      | then-branch+in_ok-push w ↦
          subst (λ ms. IsListed new ms rest all) (sym (w.modules-is ∙ w.in_ok-push.ensures.ok))
          (listed_new old new c.loop-link.modules _ rest all now (not-true _ (sym c.in_ok-insert.ensures.added ∙ w.if-branch.true)) c.in_ok-insert.ensures.updates.0)
      | else-branch w ↦
          subst (λ ms. IsListed new ms rest all) (sym w.modules-is)
          (listed_old old new c.loop-link.modules _ rest all now (not-false _ (sym c.in_ok-insert.ensures.added ∙ w.if-branch.false)) c.in_ok-insert.ensures.updates.0)
    ]

ended : (c : goal.After-drop-seen-2) → IsListed (bag.contains nat_cmp c.loop-link.seen) c.loop-link.modules [] (map handle c.args.links.now)
ended c = subst (λ xs. IsListed (bag.contains nat_cmp c.loop-link.seen) c.loop-link.modules xs (map handle c.args.links.now))
    (at_drop_all (map handle) c.args.links.now c.loop-link.link-index c.loop-link-test.false) c.loop-link.invariant

pub returns-clause-numbered : goal.returns-clause-numbered
returns-clause-numbered c = listed_all (bag.contains nat_cmp c.loop-link.seen) c.loop-link.modules (map handle c.args.links.now) (ended c)

pub returns-clause-few : goal.returns-clause-few
returns-clause-few c = let few = listed_few (bag.contains nat_cmp c.loop-link.seen) c.loop-link.modules (map handle c.args.links.now) (ended c) in rw length-map at few
