-- Two arenas over two modules, for the worked examples and the tests.
use Rattle.std.specs.Prelude.{ℕ, [], ◌∷◌}
use Rattle.power_cut.specs.declared.leaving.ArenaLeft.{ArenaLeft}
use Rattle.power_cut.specs.declared.leaving.Place.{Place}

abbrev pub at : ℕ → ℕ → Place
at which address = record { «module» = which; address = address }

-- one arena in runs of eight words and one in runs of one, each over both modules
abbrev pub eights : ArenaLeft
eights = record {
  words = 100 ∷ 101 ∷ 102 ∷ 103 ∷ 104 ∷ 105 ∷ 106 ∷ 107 ∷ 108 ∷ 109 ∷ 110 ∷ 111 ∷ 112 ∷ 113 ∷ 114 ∷ 115 ∷ [];
  places = at 1 8 ∷ at 0 32 ∷ [];
  run = 8;
}

abbrev pub ones : ArenaLeft
ones = record { words = 200 ∷ 201 ∷ []; places = at 0 0 ∷ at 1 96 ∷ []; run = 1 }
