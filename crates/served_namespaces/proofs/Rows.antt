-- Worked examples, computed on the definitions.
use Rattle.std.proofs.Common.{◌≡◌, ℕ, true, false, List, [], ◌∷◌, Some, None, Ok, Err, refl}
use Rattle.cut_words.specs.Words.{Words}
use Rattle.nfit_reader.specs.declared.table.Mapping.{Mapping}
use Rattle.label_codec.specs.declared.mode.Mode.TheVariants as mode
use Rattle.arena_layout.specs.declared.info.InfoFault.TheVariants as info
use Rattle.arena_open.specs.declared.refused.OpenRefused.TheVariants as refused
use Rattle.power_cut.specs.Namespace.{words_of}
use Rattle.namespace_areas.specs.declared.found.Found.{Found}
use Rattle.sector_namespaces.specs.View.{opened_view}
use Rattle.served_namespaces.specs.declared.places.FoundNamespace.{FoundNamespace}
use Rattle.served_namespaces.specs.Opening.{firsts, opened_each}
use Rattle.served_namespaces.specs.Places.{has_address, words_at}
use Rattle.served_namespaces.specs.Putting.{put_parts}
use Rattle.served_namespaces.specs.Steps.{ArePartRuns, added}

-- each UUID once, in order of its first place
once : firsts ((1 ∷ []) ∷ (2 ∷ []) ∷ (1 ∷ []) ∷ (3 ∷ []) ∷ (2 ∷ []) ∷ []) ≡ (1 ∷ []) ∷ (2 ∷ []) ∷ (3 ∷ []) ∷ []
unfolding firsts
once = refl

add : (added ((1 ∷ []) ∷ []) (1 ∷ []) ≡ (1 ∷ []) ∷ []) × (added ((1 ∷ []) ∷ []) (2 ∷ []) ≡ (1 ∷ []) ∷ (2 ∷ []) ∷ [])
add = (refl, refl)

-- ---- two namespaces side by side

-- a mapping of 32 bytes of module 0, from address 8 on
abbrev sets : List (List Mapping)
sets = (record {
  «module» = 0;
  size = 32;
  offset = 0;
  start = 8;
  ways = 1;
  lines = Some (record { size = 8; offsets = 0 ∷ [] });
  identity = record { vendor = 0; date = 0; location = 0; serial = 0 };
} ∷ []) ∷ []

-- 16 bytes from an offset on
abbrev from : ℕ → Found
from offset = record { region = 0; offset = offset; raw = 16; mode = mode.Sector }

edges : (has_address sets (from 0) 0 8 ≡ true) × (has_address sets (from 0) 0 23 ≡ true) × (has_address sets (from 0) 0 24 ≡ false) × (has_address sets (from 16) 0 24 ≡ true)
    × (has_address sets (from 16) 0 23 ≡ false) × (has_address sets (from 16) 1 24 ≡ false)
edges = (refl, refl, refl, refl, refl, refl)

abbrev rows : List Words
rows = record { kept = 10 ∷ 11 ∷ 12 ∷ 13 ∷ 14 ∷ []; stored = None ∷ None ∷ None ∷ None ∷ None ∷ [] } ∷ []

words : (words_at sets (from 0) rows ≡ 11 ∷ 12 ∷ []) × (words_at sets (from 16) rows ≡ 13 ∷ 14 ∷ [])
unfolding words_of
words = (refl, refl)

-- ---- the answer

abbrev place : ℕ → FoundNamespace
place uuid = record { uuid = uuid ∷ []; found = record { region = 0; offset = 0; raw = 0; mode = mode.Sector } }

-- none is asked for; and the first without an info block is named
answers : (opened_each sets rows [] ≡ Ok [])
    × (opened_each sets rows (place 7 ∷ place 8 ∷ []) ≡ Err (record { uuid = 7 ∷ []; fault = record { arena = 0; fault = refused.Info info.Signature } }))
unfolding words_of opened_view
answers = (refl, refl)

-- ---- arenas that are put back

-- one behind the other, from the first word on
put : put_parts 0 ((1 ∷ 2 ∷ []) ∷ (3 ∷ []) ∷ []) (10 ∷ 11 ∷ 12 ∷ 13 ∷ 14 ∷ []) ≡ 1 ∷ 2 ∷ 3 ∷ 13 ∷ 14 ∷ []
put = refl

-- and as runs of bytes, the low byte first
runs : ArePartRuns 0 ((1 ∷ 2 ∷ []) ∷ (3 ∷ []) ∷ [])
    (record { first = 0; bytes = 1 ∷ 0 ∷ 0 ∷ 0 ∷ 0 ∷ 0 ∷ 0 ∷ 0 ∷ 2 ∷ 0 ∷ 0 ∷ 0 ∷ 0 ∷ 0 ∷ 0 ∷ 0 ∷ [] } ∷ record { first = 16; bytes = 3 ∷ 0 ∷ 0 ∷ 0 ∷ 0 ∷ 0 ∷ 0 ∷ 0 ∷ [] } ∷ [])
runs = (refl, refl, refl, (refl, refl, refl, tt))
