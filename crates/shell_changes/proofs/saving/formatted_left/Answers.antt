use Rattle.std.proofs.Common.{sym, ap, ◌∙◌, subst}
use Rattle.shell_changes.specs.declared.answer.Left.TheVariants.{Patched}
use Rattle.shell_changes.specs.Saved.{AreWholeSizes}
use Rattle.shell_changes.proofs.saving.formatted_left.Goals as goal

pub new-requires : goal.new-requires
new-requires g c = (c.in_ok-areas.ensures.copyable, subst AreWholeSizes (sym c.in_ok-areas.ensures.left.sizes) c.requires.areas.whole)

pub returns : goal.returns
returns g c = record {
  left = c.in_ok-areas.areas;
  between = c.leave_areas.new.choose;
  areas = c.in_ok-areas.ensures.left;
  words = c.words_left-words.result;
  asks = c.words_left-words.ensures.asks;
  patch = c.in_ok-patch.ensures.0;
  puts = c.in_ok-patch.ensures.2;
  is = c.new.ensures ∙ ap (Patched c.in_ok-areas.areas) c.in_ok-patch.ensures.1;
}
