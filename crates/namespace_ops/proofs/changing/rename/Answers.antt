use Rattle.std.proofs.Common.{◌≡◌, Bool, Err, is_ok, refl, sym, ap, ◌∙◌, subst, arith}
use Rattle.std.proofs.lemmas.Result.{err_from_is_err_and}
use Rattle.namespace_map.specs.declared.commands.Named.{Named}
use Rattle.namespace_map.specs.declared.commands.Named.TheVariants as named
use Rattle.namespace_map.specs.declared.commands.Command.TheVariants as command
use Rattle.namespace_map.specs.Changes.{changes_of, rename_changes}
use Rattle.namespace_map.specs.Commands.{rename_refusal}
use Rattle.namespace_areas.specs.Seen.{areas_seen}
use Rattle.namespace_areas.specs.Went.{Went}
use Rattle.namespace_areas.specs.Refusals.{shown}
use Rattle.namespace_ops.specs.declared.turns.Round.TheVariants.{MarkAs, SettleAs}
use Rattle.namespace_ops.proofs.Agreed.{rename_done}
use Rattle.namespace_ops.proofs.CanPlan.{opened, no_refusal, not_named, rename_can, sound_both, sound_mark_as, sound_settle_as}
use Rattle.namespace_ops.proofs.First.{first_cut, first_then, rename_allowed}
use Rattle.namespace_ops.proofs.changing.rename.Goals as goal

pub returns-in_err-settle_first-clause-carried : goal.returns-in_err-settle_first-clause-carried
returns-in_err-settle_first-clause-carried c =
    let p = err_from_is_err_and c.from_residual.result c.from_residual.ensures.1 in
    let is : c.from_residual.result ≡ Err c.in_err-settle_first.field-0.0 = p.1 ∙ ap (λ f. Err f) p.2 in
    record {
      refused = λ f some. absurd (no_refusal (rename_refusal (shown c.args.sets.now c.args.areas.now) c.args.uuid.now c.args.name.now) f (sym c.in_default.is ∙ c.rename_refusal.ensures) some);
      went = λ _.
          subst (λ (b : Bool). Went c.args.areas.now c.settle_first.new.areas c.args.fuse.now c.settle_first.new.fuse
          (changes_of (shown c.args.sets.now c.args.areas.now) (areas_seen c.args.areas.now) (command.Rename c.args.uuid.now c.args.name.now)) b)
          (sym (ap (λ r. is_ok r) is))
          (first_cut c.args.sets.now c.args.areas.now c.args.uuid.now c.settle_first.new.areas c.args.fuse.now c.settle_first.new.fuse (rename_changes c.args.uuid.now c.args.name.now) c.in_err-settle_first.ensures.went);
      cut = λ _ f err. c.in_err-settle_first.ensures.cut f (sym is ∙ err);
    }

pub make_rounds-requires-clause-can : goal.make_rounds-requires-clause-can
make_rounds-requires-clause-can c =
    rename_can c.settle_first.new.areas c.settle_first.new.groups (opened c.settle_first.new.areas c.settle_first.new.groups (omega (arith, c.requires.few, c.settle_first.auto.areas)) (c.in_ok-settle_first.ensures.work refl).current)
    c.args.uuid.now c.args.sets.now c.args.name.now c.in-Good.name
    (rename_allowed c.args.sets.now c.args.areas.now c.args.uuid.now c.settle_first.new.areas c.args.fuse.now c.settle_first.new.fuse c.args.name.now c.requires.regions c.in_ok-settle_first.ensures.went (sym c.in_default.is ∙ c.rename_refusal.ensures))

pub make_rounds-requires-clause-sound : goal.make_rounds-requires-clause-sound
make_rounds-requires-clause-sound c =
    let good = c.requires.name c.in-Good.name c.in-Good.is in
    sound_both c.settle_first.new.areas c.settle_first.new.groups (opened c.settle_first.new.areas c.settle_first.new.groups (omega (arith, c.requires.few, c.settle_first.auto.areas)) (c.in_ok-settle_first.ensures.work refl).current)
    c.args.uuid.now (MarkAs c.in-Good.name) (SettleAs c.in-Good.name) (sound_mark_as c.in-Good.name good) (sound_settle_as c.in-Good.name good)

pub returns-in-Good-clause-carried : goal.returns-in-Good-clause-carried
returns-in-Good-clause-carried c =
    let none = sym c.in_default.is ∙ c.rename_refusal.ensures in
    record {
      refused = λ f some. absurd (no_refusal (rename_refusal (shown c.args.sets.now c.args.areas.now) c.args.uuid.now c.args.name.now) f none some);
      went = λ _.
          subst (λ (m : Named). Went c.args.areas.now c.make_rounds.new.areas c.args.fuse.now c.make_rounds.new.fuse
          (changes_of (shown c.args.sets.now c.args.areas.now) (areas_seen c.args.areas.now) (command.Rename c.args.uuid.now m)) (is_ok c.make_rounds.result)) (sym c.in-Good.is)
          (first_then c.args.sets.now c.args.areas.now c.args.uuid.now c.settle_first.new.areas c.make_rounds.new.areas c.args.fuse.now c.settle_first.new.fuse c.make_rounds.new.fuse
          (rename_changes c.args.uuid.now (named.Good c.in-Good.name)) (is_ok c.make_rounds.result) c.in_ok-settle_first.ensures.went c.make_rounds.ensures.went);
      cut = λ _. c.make_rounds.ensures.cut;
    }

pub returns-in-Refused-clause-carried : goal.returns-in-Refused-clause-carried
returns-in-Refused-clause-carried c =
    absurd (not_named c.args.sets.now c.args.areas.now c.args.uuid.now c.args.name.now c.in-Refused.bytes c.in-Refused.is (sym c.in_default.is ∙ c.rename_refusal.ensures))

pub returns-in-Good-clause-done : goal.returns-in-Good-clause-done
returns-in-Good-clause-done c =
    rename_done c.args.sets.now c.args.areas.now c.make_rounds.new.areas c.args.fuse.now c.make_rounds.new.fuse c.args.uuid.now c.args.name.now c.requires.regions c.make_rounds.result
    (returns-in-Good-clause-carried c)
