use Rattle.std.proofs.Common.{◌≡◌, true, false, ◌∷◌, [], Result, Ok, Err, is_ok, refl, sym, subst}
use Rattle.std.specs.Result.{IsErr}
use Rattle.std.proofs.lemmas.Bool.{false≢true}
use Rattle.std.specs.List.{AllByRecursion}
use Rattle.namespace_areas.specs.Seen.{areas_seen}
use Rattle.namespace_areas.specs.Went.{CanMake, PutsSound, Went}
use Rattle.namespace_areas.proofs.Went.{went_none}
use Rattle.namespace_areas.proofs.Lists.{rest_is, list_next, list_cut, can_next}
use Rattle.namespace_areas.proofs.changes.make_changes.Goals as goal

pub loop-change-init : goal.loop-change-init
loop-change-init c = record { went = went_none c.args.areas.now c.args.fuse.now c.requires.held; can = c.requires.can; sound = c.requires.sound }

pub make_change-requires-clause-held : goal.make_change-requires-clause-held
make_change-requires-clause-held c = c.loop-change.invariant.went.held refl

pub make_change-requires-clause-ready : goal.make_change-requires-clause-ready
make_change-requires-clause-ready c =
    let l = c.loop-change in
    (rest_is (CanMake (areas_seen l.areas)) c.args.changes.now l.change-index c.change-item.result c.change-item.is c.loop-change-test.true l.invariant.can).0

pub make_change-requires-clause-room : goal.make_change-requires-clause-room
make_change-requires-clause-room c =
    let l = c.loop-change in
    (rest_is (CanMake (areas_seen l.areas)) c.args.changes.now l.change-index c.change-item.result c.change-item.is c.loop-change-test.true l.invariant.can).1

pub make_change-requires-clause-sound : goal.make_change-requires-clause-sound
make_change-requires-clause-sound c =
    let l = c.loop-change in
    (rest_is (AllByRecursion PutsSound) c.args.changes.now l.change-index c.change-item.result c.change-item.is c.loop-change-test.true l.invariant.sound).0

not_ok : {A E : Type 0} (r : Result A E) → IsErr r → is_ok r ≡ false
not_ok (Ok x) e = absurd (false≢true e)
not_ok (Err x) e = refl

pub returns-in_err-make_change : goal.returns-in_err-make_change
returns-in_err-make_change c =
    let l = c.loop-change in
    let one : Went l.areas c.make_change.new.areas l.fuse c.make_change.new.fuse (c.change-item.result ∷ []) false = c.in_err-make_change.ensures in
    subst (Went c.args.areas.now c.make_change.new.areas c.args.fuse.now c.make_change.new.fuse c.args.changes.now) (sym (not_ok c.from_residual.result c.from_residual.ensures.0))
    (list_cut c.args.areas.now l.areas c.make_change.new.areas c.args.fuse.now l.fuse c.make_change.new.fuse c.args.changes.now l.change-index c.change-item.result c.change-item.is c.loop-change-test.true l.invariant.went one)

pub loop-change-preserved : goal.loop-change-preserved
loop-change-preserved c =
    let l = c.loop-change in
    let one : Went l.areas c.make_change.new.areas l.fuse c.make_change.new.fuse (c.change-item.result ∷ []) true = c.in_ok-make_change.ensures in
    record {
      went = list_next c.args.areas.now l.areas c.make_change.new.areas c.args.fuse.now l.fuse c.make_change.new.fuse c.args.changes.now l.change-index c.change-item.result c.change-item.is c.loop-change-test.true l.invariant.went one;
      can = can_next c.args.areas.now l.areas c.make_change.new.areas c.args.fuse.now l.fuse c.make_change.new.fuse c.args.changes.now l.change-index c.change-item.result c.change-item.is c.loop-change-test.true l.invariant.went l.invariant.can one;
      sound = (rest_is (AllByRecursion PutsSound) c.args.changes.now l.change-index c.change-item.result c.change-item.is c.loop-change-test.true l.invariant.sound).1;
    }
