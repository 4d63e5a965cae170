-- Putting the words of arenas into rows of words, one run after another, as the code does it.
use Rattle.std.specs.Prelude.{◌≡◌, ℕ, ◌+◌, ◌*◌, ◌/◌, ◌<◌, ◌≤◌, List, [], ◌∷◌, length, take, drop, slice_index_or, slice_set}
use Rattle.std.specs.List.{All}
use Rattle.cut_words.specs.WordBytes.{put_at}
use Rattle.power_cut.specs.declared.leaving.ArenaLeft.{ArenaLeft}
use Rattle.power_cut.specs.declared.leaving.Place.{Place}

abbrev pub put_run : List (List ℕ) → Place → List ℕ → List (List ℕ)
put_run rows place words = slice_set rows place.«module» (put_at (slice_index_or rows place.«module» []) (place.address / 8) words)

abbrev pub put_runs : ℕ → List ℕ → List Place → List (List ℕ) → List (List ℕ)
put_runs run words [] rows = rows
put_runs run words (place ∷ places) rows = put_runs run (drop run words) places (put_run rows place (take run words))

abbrev pub put_arenas : List ArenaLeft → List (List ℕ) → List (List ℕ)
put_arenas [] rows = rows
put_arenas (arena ∷ arenas) rows = put_arenas arenas (put_runs arena.run arena.words arena.places rows)

-- `run` words from a place on lie in an existing row
pub record IsRoom (rows : List (List ℕ)) (run : ℕ) (place : Place) : Type 0 where
  pub there : place.«module» < length rows
  pub reaches : place.address / 8 + run ≤ length (slice_index_or rows place.«module» [])

pub record HasRoom (rows : List (List ℕ)) (arena : ArenaLeft) : Type 0 where
  pub counts : length arena.words ≡ arena.run * length arena.places
  pub rooms : All (IsRoom rows arena.run) arena.places
