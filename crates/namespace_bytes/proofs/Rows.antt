-- Worked examples, computed on the definitions.
use Rattle.std.proofs.Common.{◌≡◌, ℕ, [], ◌∷◌, Some, refl}
use Rattle.nfit_reader.specs.declared.table.Mapping.{Mapping}
use Rattle.image_set.specs.Patches.{patched_contents}
use Rattle.namespace_bytes.specs.declared.new_bytes.NewBytes.TheVariants.{Raw}
use Rattle.namespace_bytes.specs.Patching.{BytePatch, all_patched, byte_patched}

-- a mapping of two lines of 8 bytes, with a line of another module after each
abbrev striped : ℕ → ℕ → ℕ → Mapping
striped number offset start = record {
  «module» = number;
  size = 16;
  offset = offset;
  start = start;
  ways = 2;
  lines = Some (record { size = 8; offsets = 0 ∷ 2 ∷ [] });
  identity = record { vendor = 0; date = 0; location = 0; serial = 0 };
}

-- the namespace of the second line of module 1, which has the first line of a stripe, and of module 0
abbrev second : BytePatch
second = record {
  set = striped 1 0 0 ∷ striped 0 8 8 ∷ [];
  offset = 8;
  raw = 8;
  bytes = Raw (50 ∷ 51 ∷ 52 ∷ 53 ∷ 54 ∷ 55 ∷ 56 ∷ 57 ∷ 58 ∷ 59 ∷ 60 ∷ 61 ∷ 62 ∷ 63 ∷ 64 ∷ 65 ∷ []);
}

lines_of_second : (byte_patched second 1 8 9 ≡ 50) × (byte_patched second 1 15 9 ≡ 57) × (byte_patched second 0 16 9 ≡ 58) × (byte_patched second 0 23 9 ≡ 65)
unfolding byte_patched
lines_of_second = (refl, refl, refl, refl)

beside_second : (byte_patched second 1 7 9 ≡ 9) × (byte_patched second 1 16 9 ≡ 9) × (byte_patched second 0 15 9 ≡ 9) × (byte_patched second 0 24 9 ≡ 9) × (byte_patched second 2 8 9 ≡ 9)
unfolding byte_patched
beside_second = (refl, refl, refl, refl, refl)

-- module 0 has 20 bytes here, module 1 has 10
contents : patched_contents (byte_patched second) ((0 ∷ 1 ∷ 2 ∷ 3 ∷ 4 ∷ 5 ∷ 6 ∷ 7 ∷ 8 ∷ 9 ∷ 10 ∷ 11 ∷ 12 ∷ 13 ∷ 14 ∷ 15 ∷ 16 ∷ 17 ∷ 18 ∷ 19 ∷ []) ∷ (20 ∷ 21 ∷ 22 ∷ 23 ∷ 24 ∷ 25 ∷ 26 ∷ 27 ∷ 28 ∷ 29 ∷ []) ∷ [])
    ≡ (0 ∷ 1 ∷ 2 ∷ 3 ∷ 4 ∷ 5 ∷ 6 ∷ 7 ∷ 8 ∷ 9 ∷ 10 ∷ 11 ∷ 12 ∷ 13 ∷ 14 ∷ 15 ∷ 58 ∷ 59 ∷ 60 ∷ 61 ∷ []) ∷ (20 ∷ 21 ∷ 22 ∷ 23 ∷ 24 ∷ 25 ∷ 26 ∷ 27 ∷ 50 ∷ 51 ∷ []) ∷ []
unfolding byte_patched
contents = refl

-- the namespace of the lines before
abbrev first : BytePatch
first = record {
  set = striped 1 0 0 ∷ striped 0 8 8 ∷ [];
  offset = 0;
  raw = 8;
  bytes = Raw (70 ∷ 71 ∷ 72 ∷ 73 ∷ 74 ∷ 75 ∷ 76 ∷ 77 ∷ 78 ∷ 79 ∷ 80 ∷ 81 ∷ 82 ∷ 83 ∷ 84 ∷ 85 ∷ []);
}

both : patched_contents (all_patched (second ∷ first ∷ [])) ((0 ∷ 1 ∷ 2 ∷ 3 ∷ 4 ∷ 5 ∷ 6 ∷ 7 ∷ 8 ∷ 9 ∷ 10 ∷ 11 ∷ 12 ∷ 13 ∷ 14 ∷ 15 ∷ 16 ∷ 17 ∷ 18 ∷ 19 ∷ []) ∷ (20 ∷ 21 ∷ 22 ∷ 23 ∷ 24 ∷ 25 ∷ 26 ∷ 27 ∷ 28 ∷ 29 ∷ []) ∷ [])
    ≡ (0 ∷ 1 ∷ 2 ∷ 3 ∷ 4 ∷ 5 ∷ 6 ∷ 7 ∷ 78 ∷ 79 ∷ 80 ∷ 81 ∷ 82 ∷ 83 ∷ 84 ∷ 85 ∷ 58 ∷ 59 ∷ 60 ∷ 61 ∷ []) ∷ (70 ∷ 71 ∷ 72 ∷ 73 ∷ 74 ∷ 75 ∷ 76 ∷ 77 ∷ 50 ∷ 51 ∷ []) ∷ []
unfolding byte_patched
both = refl
