-- The fuse over several steps, and the way of a commit.
use Rattle.std.proofs.Common.{◌≡◌, ℕ, ◌+◌, suc, true, sym, ap, ◌∙◌, arith}
use Rattle.atomic_table.specs.Table.{Me}
use Rattle.lane_table.specs.declared.fuse.Fuse.{Fuse}
use Rattle.lane_table.specs.declared.table.Call.{Call}
use Rattle.lane_table.specs.declared.table.View.{View}
use Rattle.lane_table.specs.Committed.{way}
use Rattle.lane_table.specs.Fuse.{Fell, Burnt}
use Rattle.lane_table.specs.Told.{path, known, locked}

pub burnt_later : (a b c d : Fuse) (r : ℕ) → Fell 1 a b → Fell 1 b c → Burnt r c d → Burnt (r + 2) a d
burnt_later a b c d r f g h =
    let bt : b.set ≡ true = sym g.0 ∙ h.0 in
    let at : a.set ≡ true = sym f.0 ∙ bt in
    let x = f.1 at in
    let y = g.1 bt in (at, h.1, omega (arith, x, y, h.2), h.3)

two_on : (r : ℕ) → r + 2 ≡ suc (suc r)
two_on r = omega arith

pub way_on : {S : Type 0} (t : Call) (w r : ℕ) (me : Me S View) → path r (known w (locked t me)) ≡ way t w (r + 2) me
way_on t w r me = ap (λ n. way t w n me) (sym (two_on r))
