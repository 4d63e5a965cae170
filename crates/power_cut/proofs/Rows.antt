-- Worked examples, computed on the definitions.
use Rattle.std.proofs.Common.{◌≡◌, ℕ, Bool, true, false, List, [], ◌∷◌, Some, None, refl, arith}
use Rattle.nfit_reader.specs.declared.table.Mapping.{Mapping}
use Rattle.cut_words.specs.Words.{Words}
use Rattle.power_cut.specs.Namespace.{Namespace, beside_of, over, place_of, words_of}
use Rattle.power_cut.specs.declared.leaving.Images.{Images}
use Rattle.power_cut.specs.Example.{at, eights, ones}
use Rattle.power_cut.specs.Left.{BelongsTo, InTurn, LeavesOption, arena_word, with_arenas}

-- a mapping of two lines of 8 bytes, with a line of another module after each
abbrev striped : ℕ → ℕ → ℕ → Mapping
striped number offset start = record {
  «module» = number;
  size = 16;
  offset = offset;
  start = start;
  ways = 2;
  lines = Some (record { size = 8; offsets = 0 ∷ 2 ∷ [] });
  identity = record { vendor = 0; date = 0; location = 0; serial = 0 };
}

-- module 1 has the first line of a stripe, and module 0 the second
abbrev two : List Mapping
two = striped 1 0 0 ∷ striped 0 8 8 ∷ []

places : (place_of two 0 ≡ Some (1, 0)) × (place_of two 8 ≡ Some (0, 8)) × (place_of two 16 ≡ Some (1, 8)) × (place_of two 31 ≡ Some (0, 23)) × (place_of two 32 ≡ None)
places = (refl, refl, refl, refl, refl)

-- three words of module 0 and two of module 1; one of each is pending
abbrev modules : List Words
modules = record { kept = 10 ∷ 11 ∷ 12 ∷ []; stored = Some 5 ∷ None ∷ Some 7 ∷ [] } ∷ record { kept = 20 ∷ 21 ∷ []; stored = None ∷ None ∷ [] } ∷ []

-- the namespace of the second line of each
abbrev second : Namespace
second = over two 8 8 modules

words_of_second : words_of second ≡ record { kept = 21 ∷ 12 ∷ []; stored = None ∷ Some 7 ∷ [] }
unfolding words_of
words_of_second = refl

-- the one of the first line of each
words_of_first : words_of (over two 0 8 modules) ≡ record { kept = 20 ∷ 11 ∷ []; stored = None ∷ None ∷ [] }
unfolding words_of
words_of_first = refl

beside_second : beside_of second ≡ record { kept = 10 ∷ 11 ∷ 0 ∷ []; stored = Some 5 ∷ None ∷ None ∷ [] } ∷ record { kept = 20 ∷ 0 ∷ []; stored = None ∷ None ∷ [] } ∷ []
unfolding beside_of
beside_second = refl

-- ---- after a crash, with a chooser that returns a list of answers

abbrev picks : List Bool → ℕ → Bool → List Bool → Type 0
picks before word answer after = before ≡ answer ∷ after

-- for a missing label area nothing is asked, for the next one its only pending word
areas : InTurn (LeavesOption picks) (None ∷ Some (record { kept = 1 ∷ 2 ∷ []; stored = None ∷ Some 9 ∷ [] }) ∷ []) (None ∷ Some (1 ∷ 9 ∷ []) ∷ []) (true ∷ false ∷ []) (false ∷ [])
areas = (
  None,
  Some (1 ∷ 9 ∷ []) ∷ [],
  true ∷ false ∷ [],
  refl,
  (refl, refl),
  (
    Some (1 ∷ 9 ∷ []),
    [],
    false ∷ [],
    refl,
    (1 ∷ 9 ∷ [], refl, (1, true ∷ false ∷ [], (refl, refl), (9 ∷ [], refl, (9, false ∷ [], (true, refl, refl), ([], refl, (refl, refl)))))),
    (refl, refl),
  ),
)

-- ---- arenas

-- thirteen words of each module, and a label area
abbrev left : Images
left = record {
  labels = None ∷ Some (5 ∷ []) ∷ [];
  contents = (10 ∷ 11 ∷ 12 ∷ 13 ∷ 14 ∷ 15 ∷ 16 ∷ 17 ∷ 18 ∷ 19 ∷ 20 ∷ 21 ∷ 22 ∷ []) ∷ (30 ∷ 31 ∷ 32 ∷ 33 ∷ 34 ∷ 35 ∷ 36 ∷ 37 ∷ 38 ∷ 39 ∷ 40 ∷ 41 ∷ 42 ∷ []) ∷ [];
}

with_both : with_arenas (eights ∷ ones ∷ []) left
    ≡ record {
      labels = None ∷ Some (5 ∷ []) ∷ [];
      contents = (200 ∷ 11 ∷ 12 ∷ 13 ∷ 108 ∷ 109 ∷ 110 ∷ 111 ∷ 112 ∷ 113 ∷ 114 ∷ 115 ∷ 22 ∷ []) ∷ (30 ∷ 100 ∷ 101 ∷ 102 ∷ 103 ∷ 104 ∷ 105 ∷ 106 ∷ 107 ∷ 39 ∷ 40 ∷ 41 ∷ 201 ∷ []) ∷ [];
    }
unfolding with_arenas
with_both = refl

with_none : with_arenas [] left ≡ left
unfolding with_arenas
with_none = refl

-- word 2 of module 1 is the second of a run; words 3 of module 0 and 9 of module 1 aren't arena words
words_at : (arena_word (eights ∷ ones ∷ []) 1 2 ≡ Some 101) × (arena_word (eights ∷ ones ∷ []) 0 3 ≡ None) × (arena_word (eights ∷ ones ∷ []) 1 9 ≡ None)
words_at = (refl, refl, refl)

-- word 2 of module 1 belongs to the first place of its arena
second_of_run : BelongsTo eights 0 1 2
second_of_run = record { place = at 1 8; is = refl; inside = record { here = refl; from = omega arith; to = omega arith } }
