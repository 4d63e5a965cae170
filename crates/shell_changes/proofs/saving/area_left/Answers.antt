use Rattle.shell_changes.proofs.saving.area_left.Goals as goal

pub returns : goal.returns
returns g c = (c.in_ok-left.left, c.new.ensures, c.in_ok-left.ensures.sizes, c.in_ok-left.ensures.left)
