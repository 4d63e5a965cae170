use Rattle.std.proofs.Common.{◌≡◌, Bool, Err, is_ok, refl, sym, ap, ◌∙◌, subst, arith}
use Rattle.std.proofs.lemmas.Result.{err_from_is_err_and}
use Rattle.namespace_map.specs.Changes.{changes_of, delete_changes}
use Rattle.namespace_map.specs.declared.commands.Command.TheVariants as command
use Rattle.namespace_map.specs.Commands.{delete_refusal}
use Rattle.namespace_areas.specs.Refusals.{shown}
use Rattle.namespace_areas.specs.Seen.{areas_seen}
use Rattle.namespace_areas.specs.Went.{Went}
use Rattle.namespace_ops.specs.declared.turns.Round.TheVariants.{Mark, Remove}
use Rattle.namespace_ops.proofs.Agreed.{delete_done}
use Rattle.namespace_ops.proofs.CanPlan.{no_refusal, opened, delete_can, sound_both, sound_mark, sound_remove}
use Rattle.namespace_ops.proofs.First.{delete_allowed, first_cut, first_then}
use Rattle.namespace_ops.proofs.changing.delete.Goals as goal

pub returns-in_err-settle_first-clause-carried : goal.returns-in_err-settle_first-clause-carried
returns-in_err-settle_first-clause-carried c =
    let p = err_from_is_err_and c.from_residual.result c.from_residual.ensures.1 in
    let is : c.from_residual.result ≡ Err c.in_err-settle_first.field-0.0 = p.1 ∙ ap (λ f. Err f) p.2 in
    record {
      refused = λ f some. absurd (no_refusal (delete_refusal (shown c.args.sets.now c.args.areas.now) c.args.uuid.now) f (sym c.in_default.is ∙ c.delete_refusal.ensures) some);
      went = λ _.
          subst (λ (b : Bool). Went c.args.areas.now c.settle_first.new.areas c.args.fuse.now c.settle_first.new.fuse (changes_of (shown c.args.sets.now c.args.areas.now) (areas_seen c.args.areas.now) (command.Delete c.args.uuid.now)) b)
          (sym (ap (λ r. is_ok r) is)) (first_cut c.args.sets.now c.args.areas.now c.args.uuid.now c.settle_first.new.areas c.args.fuse.now c.settle_first.new.fuse (delete_changes c.args.uuid.now) c.in_err-settle_first.ensures.went);
      cut = λ _ f err. c.in_err-settle_first.ensures.cut f (sym is ∙ err);
    }

pub make_rounds-requires-clause-can : goal.make_rounds-requires-clause-can
make_rounds-requires-clause-can c =
    delete_can c.settle_first.new.areas c.settle_first.new.groups (opened c.settle_first.new.areas c.settle_first.new.groups (omega (arith, c.requires.few, c.settle_first.auto.areas)) (c.in_ok-settle_first.ensures.work refl).current) c.args.uuid.now c.args.sets.now
    (delete_allowed c.args.sets.now c.args.areas.now c.args.uuid.now c.settle_first.new.areas c.args.fuse.now c.settle_first.new.fuse c.requires.regions c.in_ok-settle_first.ensures.went (sym c.in_default.is ∙ c.delete_refusal.ensures))

pub make_rounds-requires-clause-sound : goal.make_rounds-requires-clause-sound
make_rounds-requires-clause-sound c =
    sound_both c.settle_first.new.areas c.settle_first.new.groups (opened c.settle_first.new.areas c.settle_first.new.groups (omega (arith, c.requires.few, c.settle_first.auto.areas)) (c.in_ok-settle_first.ensures.work refl).current) c.args.uuid.now Mark Remove sound_mark sound_remove

pub returns-clause-carried : goal.returns-clause-carried
returns-clause-carried c = record {
  refused = λ f some. absurd (no_refusal (delete_refusal (shown c.args.sets.now c.args.areas.now) c.args.uuid.now) f (sym c.in_default.is ∙ c.delete_refusal.ensures) some);
  went = λ _.
      first_then c.args.sets.now c.args.areas.now c.args.uuid.now c.settle_first.new.areas c.make_rounds.new.areas c.args.fuse.now c.settle_first.new.fuse c.make_rounds.new.fuse (delete_changes c.args.uuid.now) (is_ok c.make_rounds.result)
      c.in_ok-settle_first.ensures.went c.make_rounds.ensures.went;
  cut = λ _. c.make_rounds.ensures.cut;
}

pub returns-clause-done : goal.returns-clause-done
returns-clause-done c =
    delete_done c.args.sets.now c.args.areas.now c.make_rounds.new.areas c.args.fuse.now c.make_rounds.new.fuse c.args.uuid.now c.requires.regions c.make_rounds.result (returns-clause-carried c)
