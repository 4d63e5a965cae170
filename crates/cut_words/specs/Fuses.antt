-- The number of steps that are made before power is cut: this project's model.
use Rattle.std.specs.Prelude.{◌≡◌, ℕ, ◌-◌, nat_le, Bool, true, List, length, take, Option, Some, None}
use Rattle.cut_words.specs.Words.{Words, Step, after}

-- the steps that a fuse allows
abbrev pub allowed : Option ℕ → List Step → List Step
allowed None steps = steps
allowed (Some n) steps = take n steps

-- a fuse after this many steps were asked for
abbrev pub burnt : Option ℕ → ℕ → Option ℕ
burnt None count = None
burnt (Some n) count = Some (n - count)

-- whether a fuse lasts for this many steps
abbrev pub lasts : Option ℕ → ℕ → Bool
lasts None count = true
lasts (Some n) count = nat_le count n

-- the effect of a list of steps on words and a fuse, and whether all of them were made
pub record Makes (old new : Words) (fuse left : Option ℕ) (steps : List Step) (made : Bool) : Type 0 where
  pub words : new ≡ after old (allowed fuse steps)
  pub fuse_left : left ≡ burnt fuse (length steps)
  pub all_made : made ≡ lasts fuse (length steps)
