-- Fuses: a fuse that is set falls by one with each step, and a step that is due while none is left
-- is not made.
use Rattle.std.specs.Prelude.{◌≡◌, ℕ, ◌+◌, Bool, true, false, Option, Some, None}
use Rattle.lane_table.specs.declared.fuse.Fuse.{Fuse}

abbrev pub left_by : Bool → ℕ → Option ℕ
left_by true n = Some n
left_by false n = None

-- the steps that are left, if the fuse is set
abbrev pub of_left : Fuse → Option ℕ
of_left f = left_by f.set f.left

-- it fell by n, if it is set
abbrev pub Fell : ℕ → Fuse → Fuse → Type 0
Fell n a b = (b.set ≡ a.set) × (a.set ≡ true → a.left ≡ b.left + n)

-- it was set and had n steps left, and has none
abbrev pub Burnt : ℕ → Fuse → Fuse → Type 0
Burnt n a b = (a.set ≡ true) × (b.set ≡ true) × (a.left ≡ n) × (b.left ≡ 0)
