use Rattle.std.proofs.Common.{Some, sym, subst, ◌∙◌}
use Rattle.std.specs.Prelude.{OnOk}
use Rattle.nvd_media.specs.Images.{Images}
use Rattle.shell_reports.specs.Saved.{Saves}
use Rattle.shell_changes.specs.declared.answer.Left.{Left}
use Rattle.shell_changes.specs.Saved.{AreObjects, HasItsContents, Stores}
use Rattle.shell_changes.proofs.answer.SavedSet.save.Goals as goal

pub save_copied-requires-clause-there : goal.save_copied-requires-clause-there
save_copied-requires-clause-there g c = λ source told. subst (λ (left : Left). HasItsContents left source) (sym c.self.view_is ∙ c.in-Copied.is) (c.requires.there source told)

pub save_patched-requires-clause-there : goal.save_patched-requires-clause-there
save_patched-requires-clause-there g c = λ source told. subst (λ (left : Left). HasItsContents left source) (sym c.self.view_is ∙ c.in-Patched.is) (c.requires.there source told)

pub returns-in-Patched-clause-saved : goal.returns-in-Patched-clause-saved
returns-in-Patched-clause-saved g c =
    subst
    (λ (left : Left). OnOk c.save_patched.result ((objects : Images) × AreObjects (g.S.ImageSource.held c.args.images.now) left objects
    × Saves (Some objects) (g.K.ImageSink.made c.args.out.now) (g.K.ImageSink.made c.save_patched.new.out) × Stores (Some objects) (g.K.ImageSink.kept c.args.out.now) (g.K.ImageSink.kept c.save_patched.new.out)))
    (sym (sym c.self.view_is ∙ c.in-Patched.is)) c.save_patched.ensures.saved
