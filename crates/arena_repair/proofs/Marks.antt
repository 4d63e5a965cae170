-- Maps without bad sectors.
use Rattle.std.proofs.Common.{◌≡◌, ℕ, Bool, List, [], ◌∷◌, map, refl}
use Rattle.arena_layout.specs.declared.layout.Layout.{Layout}
use Rattle.arena_check.specs.declared.finding.Finding.TheVariants as found
use Rattle.arena_check.specs.Check.{bad_sectors, data_findings}

no_sectors : (sectors : List ℕ) → map found.BadData sectors ≡ [] → sectors ≡ []
no_sectors [] e = refl
no_sectors (sector ∷ sectors) e = absurd (let f = e in cc)

-- without findings no sector is bad
pub none_bad : (l : Layout) (bad : ℕ → Bool) (entries : List ℕ) → data_findings l bad entries ≡ [] → bad_sectors l bad entries ≡ []
none_bad l bad entries e = no_sectors (bad_sectors l bad entries) e
