-- Worked examples, computed on the definitions: two modules of 32 MiB, of which the first has lost its label.
use Rattle.std.proofs.Common.{◌≡◌, ℕ, ◌+◌, List, [], ◌∷◌, map, Some, Result, Ok, Err, codes, replicate, refl}
use Rattle.nvd_words.specs.Checks.{first_fault}
use Rattle.nfit_reader.specs.declared.table.Mapping.{Mapping}
use Rattle.label_codec.specs.declared.mode.Mode.TheVariants.{Sector}
use Rattle.label_codec.specs.Mode.{btt_2_0, no_abstraction, persistent_memory}
use Rattle.label_set.specs.declared.placed.Placed.{Placed}
use Rattle.label_set.specs.Status.{status_of}
use Rattle.namespace_map.specs.declared.refused.OpRefused.{OpRefused}
use Rattle.namespace_map.specs.declared.refused.OpRefused.TheVariants.{NoSuch, NotComplete, NotSector}
use Rattle.namespace_map.specs.Namespaces.{entries_of, namespace_of, put, put_all}
use Rattle.label_rescue.specs.declared.rescued.RescueFound.{RescueFound}
use Rattle.label_rescue.specs.Rescue.{inserted, rescued_of, rising}

in_order : rising (3 ∷ 0 ∷ 2 ∷ []) ≡ 0 ∷ 2 ∷ 3 ∷ []
unfolding rising inserted
in_order = refl

abbrev mapping : ℕ → ℕ → ℕ → Mapping
mapping number offset start = record {
  «module» = number;
  size = 33554432;
  offset = offset;
  start = start;
  ways = 2;
  lines = Some (record { size = 4096; offsets = 0 ∷ [] });
  identity = record { vendor = 0x1234; date = 0; location = 0; serial = number + 1 };
}

-- they begin at different addresses
abbrev pair : List Mapping
pair = mapping 0 0 8192 ∷ mapping 1 4096 65536 ∷ []

-- a label of 4 MiB
abbrev label : ℕ → ℕ → ℕ → ℕ → List ℕ → Placed
label uuid number flags dpa abstraction = record {
  «module» = number;
  slot = 0;
  label = record {
    uuid = replicate 16 uuid;
    name = codes "a";
    flags = flags;
    count = 2;
    position = number;
    cookie = 0x0002E2420000346B;
    lba = 512;
    dpa = dpa;
    raw = 4194304;
    slot = 0;
    align = 0;
    kind = persistent_memory;
    abstraction = abstraction;
    spa_cookie = 0;
  };
}

abbrev rescued : List Placed → Result RescueFound OpRefused
rescued labels = rescued_of (pair ∷ []) (map (λ e. namespace_of e 0) (entries_of (pair ∷ []) labels)) (replicate 16 0x11)

-- the label of the second module
abbrev left : Placed
left = label 0x11 1 0 69632 btt_2_0

one_left : rescued (left ∷ []) ≡ Ok (record { found = record { region = 0; offset = 4096; raw = 4194304; mode = Sector }; missing = 0 ∷ [] })
unfolding status_of first_fault put put_all rising inserted
one_left = refl

both : rescued (label 0x11 0 0 12288 btt_2_0 ∷ left ∷ []) ≡ Ok (record { found = record { region = 0; offset = 4096; raw = 4194304; mode = Sector }; missing = [] })
unfolding status_of first_fault put put_all rising inserted
both = refl

-- another UUID's label on the first module, by one page in the lost label's place, and behind it
taken : rescued (label 0x22 0 0 4202496 btt_2_0 ∷ left ∷ []) ≡ Err NotComplete
unfolding status_of first_fault put put_all rising inserted
taken = refl

behind : rescued (label 0x22 0 0 4206592 btt_2_0 ∷ left ∷ []) ≡ Ok (record { found = record { region = 0; offset = 4096; raw = 4194304; mode = Sector }; missing = 0 ∷ [] })
unfolding status_of first_fault put put_all rising inserted
behind = refl

-- local, being changed, raw, and another UUID
local : rescued (label 0x11 1 2 69632 btt_2_0 ∷ []) ≡ Err NotComplete
unfolding status_of first_fault put put_all
local = refl

unfinished : rescued (label 0x11 1 8 69632 btt_2_0 ∷ []) ≡ Err NotComplete
unfolding status_of first_fault put put_all
unfinished = refl

raw : rescued (label 0x11 1 0 69632 no_abstraction ∷ []) ≡ Err NotSector
unfolding status_of first_fault put put_all
raw = refl

other : rescued (label 0x22 1 0 69632 btt_2_0 ∷ []) ≡ Err NoSuch
unfolding status_of first_fault put put_all
other = refl
