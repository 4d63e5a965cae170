-- Worked examples, computed on the definitions: a region of two modules of 32 MiB, one line of 4,096 bytes each, and a region of
-- module 2 alone.
use Rattle.std.proofs.Common.{◌≡◌, ℕ, ◌+◌, List, [], ◌∷◌, Option, Some, None, true, false, codes, replicate, refl}
use Rattle.std.specs.Prelude.{map}
use Rattle.nvd_words.specs.Checks.{first_fault}
use Rattle.nfit_reader.specs.declared.table.Mapping.{Mapping}
use Rattle.label_codec.specs.declared.label.Label.{Label}
use Rattle.label_codec.specs.declared.mode.Mode.TheVariants as mode
use Rattle.label_codec.specs.Mode.{persistent_memory, no_abstraction}
use Rattle.label_set.specs.declared.placed.SetStatus.{SetStatus}
use Rattle.label_set.specs.declared.placed.SetStatus.TheVariants.{Complete, Unfinished, Local, Incomplete}
use Rattle.label_set.specs.declared.placed.Why.TheVariants.{Twice, Outside, Missing, Differs}
use Rattle.label_set.specs.declared.placed.Field.TheVariants as field
use Rattle.label_set.specs.Status.{status_of}
use Rattle.region_space.specs.declared.extent.Extent.{Extent}
use Rattle.namespace_map.specs.Namespaces.{NamespaceEntry, Namespaces, placed_of, entries_of, lookup, extents_of, put, put_all, listed}

abbrev mapping : ℕ → ℕ → ℕ → Mapping
mapping number offset ways = record {
  «module» = number;
  size = 33554432;
  offset = offset;
  start = 8192;
  ways = ways;
  lines = Some (record { size = 4096; offsets = 0 ∷ [] });
  identity = record { vendor = 0x1234; date = 0; location = 0; serial = number + 1 };
}

-- by region: modules 0 and 1, and module 2
abbrev sets : List (List Mapping)
sets = (mapping 0 0 2 ∷ mapping 1 4096 2 ∷ []) ∷ (mapping 2 0 1 ∷ []) ∷ []

-- UUIDs of sixteen equal bytes
abbrev u : List ℕ
u = replicate 16 0x11

abbrev v : List ℕ
v = replicate 16 0x22

-- a label of 4 MiB, so many bytes from the start of its module's mapping
abbrev label : List ℕ → List ℕ → ℕ → ℕ → ℕ → ℕ → Label
label uuid name place flags offset slot = record {
  uuid = uuid;
  name = name;
  flags = flags;
  count = 2;
  position = place;
  cookie = 0x0002E2420000346B;
  lba = 512;
  dpa = 8192 + offset;
  raw = 4194304;
  slot = slot;
  align = 7;
  kind = persistent_memory;
  abstraction = no_abstraction;
  spa_cookie = 9;
}

abbrev extent : List ℕ → ℕ → ℕ → Extent
extent uuid number offset = record { owner = uuid; «module» = number; start = 8192 + offset; length = 4194304 }

abbrev Areas : Type 0
Areas = List (Option (List (Option Label)))

abbrev entries : Areas → List NamespaceEntry
entries areas = entries_of sets (placed_of areas)

abbrev statuses : Areas → List SetStatus
statuses areas = map (λ (e : NamespaceEntry). e.status) (entries areas)

-- ---- two namespaces, in slots that stand in another order than their UUIDs

abbrev two : Areas
two =
    Some (None ∷ Some (label v (codes "b") 0 0 4194304 1) ∷ Some (label u (codes "a") 0 1 0 2) ∷ [])
    ∷ Some (Some (label u (codes "a") 1 8 0 0) ∷ None ∷ Some (label v (codes "b") 1 0 4194304 2) ∷ [])
    ∷ None
    ∷ []

pub rising_by_uuid : map (λ (e : NamespaceEntry). e.uuid) (entries two) ≡ u ∷ v ∷ []
unfolding put_all put status_of first_fault
rising_by_uuid = refl

pub whole_entry : lookup u (entries two) ≡ Some (record {
  uuid = u;
  name = codes "a";
  region = Some 0;
  mode = mode.Raw;
  lba = 512;
  parts =
      record { extent = extent u 0 0; align = 7; spa_cookie = 9; flags = 1 }
      ∷ record { extent = extent u 1 0; align = 7; spa_cookie = 9; flags = 0 }
      ∷ [];
  status = Complete (codes "a") true;
  updating = 1 ∷ [];
  read_only = Some 0;
})
unfolding put_all put status_of first_fault
whole_entry = refl

pub all_extents : extents_of (entries two) ≡ extent u 0 0 ∷ extent u 1 0 ∷ extent v 0 4194304 ∷ extent v 1 4194304 ∷ []
unfolding put_all put status_of first_fault
all_extents = refl

-- as a caller sees them, if the second has two claims
abbrev claimed : Namespaces
claimed = record { sets = sets; areas = []; entries = entries two; claims = (v, 2) ∷ [] }

pub two_listed : listed claimed
    ≡ record { uuid = u; name = codes "a"; region = Some 0; mode = mode.Raw; lba = 512; extents = extent u 0 0 ∷ extent u 1 0 ∷ []; status = Complete (codes "a") true; claims = 0 }
    ∷ record { uuid = v; name = codes "b"; region = Some 0; mode = mode.Raw; lba = 512; extents = extent v 0 4194304 ∷ extent v 1 4194304 ∷ []; status = Complete (codes "b") false; claims = 2 }
    ∷ []
unfolding put_all put status_of first_fault
two_listed = refl

-- ---- one label alone: the other module's area isn't read

abbrev alone : ℕ → List SetStatus
alone flags = statuses (Some (Some (label u (codes "a") 0 flags 0 0) ∷ []) ∷ None ∷ None ∷ [])

pub alone_updating : alone 8 ≡ Unfinished ∷ []
unfolding put_all put status_of first_fault
alone_updating = refl

pub alone_missing : alone 0 ≡ Incomplete (Missing 1) ∷ []
unfolding put_all put status_of first_fault
alone_missing = refl

pub alone_local : alone 2 ≡ Local ∷ []
unfolding put_all put status_of first_fault
alone_local = refl

abbrev names : Areas → List (SetStatus × List ℕ)
names areas = map (λ (e : NamespaceEntry). (e.status, e.name)) (entries areas)

abbrev regions : Areas → List (Option ℕ × SetStatus)
regions areas = map (λ (e : NamespaceEntry). (e.region, e.status)) (entries areas)

-- two labels on a module
pub twice : statuses (Some (Some (label u (codes "a") 0 0 0 0) ∷ Some (label u (codes "a") 0 0 0 1) ∷ []) ∷ []) ≡ Incomplete (Twice 0) ∷ []
unfolding put_all put status_of first_fault
twice = refl

-- the name of a status without one is the first label's
pub half_named : names (Some (Some (label u (codes "a") 0 0 0 0) ∷ []) ∷ Some (Some (label u (codes "b") 1 0 0 0) ∷ []) ∷ [])
    ≡ (Incomplete (Differs field.Names), codes "a") ∷ []
unfolding put_all put status_of first_fault
half_named = refl

-- ---- the region is that of the first label

-- a label that begins in module 0's mapping and passes its end, and one of the set on module 1: no region
pub no_region : regions (Some (Some (label u (codes "a") 0 0 33550336 0) ∷ []) ∷ Some (Some (label u (codes "a") 1 0 0 0) ∷ []) ∷ [])
    ≡ (None, Incomplete (Outside 0)) ∷ []
unfolding put_all put status_of first_fault
no_region = refl

pub no_region_but_local : regions (Some (Some (label u (codes "a") 0 0 33550336 0) ∷ []) ∷ Some (Some (label u (codes "a") 1 2 0 0) ∷ []) ∷ [])
    ≡ (None, Local) ∷ []
unfolding put_all put status_of first_fault
no_region_but_local = refl

-- a label on module 1, and one that came with module 2: it is outside of the set of module 1
pub stranger : regions (None ∷ Some (Some (label u (codes "a") 1 0 0 0) ∷ []) ∷ Some (Some (label u (codes "a") 0 0 0 0) ∷ []) ∷ [])
    ≡ (Some 0, Incomplete (Outside 2)) ∷ []
unfolding put_all put status_of first_fault
stranger = refl
