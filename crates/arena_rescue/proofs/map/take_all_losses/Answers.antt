use Rattle.std.proofs.Common.{◌≡◌, ◌/◌, ℕ, Bool, true, false, List, length, sym, ◌∙◌, subst, arith}
use Rattle.std.specs.Prelude.{IfOk, OnOk}
use Rattle.arena_layout.specs.declared.layout.Layout.{Layout}
use Rattle.arena_layout.specs.Layout.{IsLayout}
use Rattle.flog.specs.declared.group.Group.{Group}
use Rattle.arena_check.specs.Check.{in_arena}
use Rattle.arena_rescue.specs.declared.loss.Loss.{Loss}
use Rattle.arena_rescue.specs.Counting.{are_sound}
use Rattle.arena_rescue.specs.Rescue.{losses_of, rescued_map}
use Rattle.arena_rescue.proofs.Areas.{never_any, known_here, no_bad_word_here}
use Rattle.arena_rescue.proofs.Losses.{all_losses_same, all_rescued_same}
use Rattle.arena_rescue.proofs.map.take_all_losses.Goals as goal

module _ (l : Layout) (ok : IsLayout l) (bad : ℕ → Bool) (at : ℕ) (sound : are_sound l bad at ≡ true) (entries : List ℕ) (groups : List Group) (len : length entries ≡ l.external) where
  abbrev none : ℕ → Bool
  none i = false

  losses_are : losses_of l none entries groups ≡ losses_of l (in_arena at bad) entries groups
  losses_are =
      all_losses_same l none (in_arena at bad) entries groups (λ s lt. sym (known_here l ok bad at sound s (omega (arith, lt, len))))
      (λ b lt. never_any 0 (l.sector / 8) ∙ sym (no_bad_word_here l ok bad at sound b lt))

  entries_are : rescued_map l none entries groups ≡ rescued_map l (in_arena at bad) entries groups
  entries_are =
      all_rescued_same l none (in_arena at bad) entries groups (λ s lt. sym (known_here l ok bad at sound s (omega (arith, lt, len))))
      (λ b lt. never_any 0 (l.sector / 8) ∙ sym (no_bad_word_here l ok bad at sound b lt))

pub returns-then-are_sound-clause-losses : goal.returns-then-are_sound-clause-losses
returns-then-are_sound-clause-losses g c =
    subst (λ (ls : List Loss). IfOk c.take_losses.result (λ losses. losses ≡ ls))
    (losses_are c.args.layout.now c.requires.layout (g.B.BadWords.bad c.args.bad.now) c.args.at (sym c.if-are_sound.ensures) c.args.entries.now c.args.groups.now c.requires.sectors)
    c.take_losses.ensures.losses

pub returns-then-are_sound-clause-entries : goal.returns-then-are_sound-clause-entries
returns-then-are_sound-clause-entries g c =
    subst (λ (es : List ℕ). OnOk c.take_losses.result (c.take_losses.new.entries ≡ es))
    (entries_are c.args.layout.now c.requires.layout (g.B.BadWords.bad c.args.bad.now) c.args.at (sym c.if-are_sound.ensures) c.args.entries.now c.args.groups.now c.requires.sectors)
    c.take_losses.ensures.entries
