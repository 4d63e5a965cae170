-- Worked examples, computed on the definitions: two modules of 32 MiB, one line of 4,096 bytes each.
use Rattle.std.proofs.Common.{◌≡◌, ℕ, ◌+◌, List, [], ◌∷◌, Some, None, true, false, codes, replicate, refl}
use Rattle.nfit_reader.specs.declared.table.Mapping.{Mapping}
use Rattle.interleave.specs.Places.{cookie_of}
use Rattle.label_codec.specs.declared.label.Label.{Label}
use Rattle.label_codec.specs.Mode.{persistent_memory, no_abstraction, btt_2_0}
use Rattle.label_set.specs.declared.placed.Placed.{Placed}
use Rattle.label_set.specs.declared.placed.SetStatus.TheVariants.{Complete, Unfinished, Local, Incomplete}
use Rattle.label_set.specs.declared.placed.Why.TheVariants.{Twice, Outside, Cookie, Position, Differs, Unaligned, Missing}
use Rattle.label_set.specs.declared.placed.Field.TheVariants.{Count, Dpa, RawSize, LbaSize, Guids, Names}
use Rattle.nvd_words.specs.Checks.{first_fault}
use Rattle.label_set.specs.Status.{status_of}

abbrev mapping : ℕ → ℕ → Mapping
mapping number offset = record {
  «module» = number;
  size = 33554432;
  offset = offset;
  start = 8192;
  ways = 2;
  lines = Some (record { size = 4096; offsets = 0 ∷ [] });
  identity = record { vendor = 0x1234; date = 0; location = 0; serial = number + 1 };
}

abbrev pair : List Mapping
pair = mapping 0 0 ∷ mapping 1 4096 ∷ []

-- the label of 4 MiB from the mapping's second page on
abbrev label : ℕ → ℕ → List ℕ → Label
label place flags name = record {
  uuid = replicate 16 0x11;
  name = name;
  flags = flags;
  count = 2;
  position = place;
  cookie = 0x0002E2420000346B;
  lba = 512;
  dpa = 12288;
  raw = 4194304;
  slot = 0;
  align = 0;
  kind = persistent_memory;
  abstraction = no_abstraction;
  spa_cookie = 0;
}

abbrev on : ℕ → Label → Placed
on number l = record { «module» = number; slot = 0; label = l }

abbrev plain : ℕ → Placed
plain place = on place (label place 0 (codes "a"))

-- ---- complete

pub whole : status_of pair (plain 0 ∷ plain 1 ∷ []) ≡ Complete (codes "a") false
unfolding status_of first_fault
whole = refl

pub whole_pending : status_of pair (plain 0 ∷ on 1 (label 1 8 (codes "a")) ∷ []) ≡ Complete (codes "a") true
unfolding status_of first_fault
whole_pending = refl

pub half_renamed : status_of pair (plain 0 ∷ on 1 (label 1 8 (codes "b")) ∷ []) ≡ Complete (codes "a") true
unfolding status_of first_fault
half_renamed = refl

-- ---- unfinished, local

pub one_updating : status_of pair (on 0 (label 0 8 (codes "a")) ∷ []) ≡ Unfinished
unfolding status_of first_fault
one_updating = refl

pub one_local : status_of pair (on 0 (label 0 2 (codes "a")) ∷ []) ≡ Local
unfolding status_of first_fault
one_local = refl

-- ---- incomplete, in the order of the rules

pub two_on_one : status_of pair (plain 1 ∷ plain 0 ∷ plain 1 ∷ []) ≡ Incomplete (Twice 1)
unfolding status_of first_fault
two_on_one = refl

pub foreign : status_of pair (on 5 (label 0 0 (codes "a")) ∷ plain 1 ∷ []) ≡ Incomplete (Outside 5)
unfolding status_of first_fault
foreign = refl

pub past_the_end : status_of pair (on 0 (record (label 0 0 (codes "a")) { raw = 33554432 }) ∷ plain 1 ∷ []) ≡ Incomplete (Outside 0)
unfolding status_of first_fault
past_the_end = refl

pub other_cookie : status_of pair (plain 0 ∷ on 1 (record (label 1 0 (codes "a")) { cookie = 7 }) ∷ []) ≡ Incomplete (Cookie 1 7)
unfolding status_of first_fault
other_cookie = refl

pub three_said : status_of pair (plain 0 ∷ on 1 (record (label 1 0 (codes "a")) { count = 3 }) ∷ []) ≡ Incomplete (Differs Count)
unfolding status_of first_fault
three_said = refl

pub swapped : status_of pair (on 0 (label 1 0 (codes "a")) ∷ on 1 (label 0 0 (codes "a")) ∷ []) ≡ Incomplete (Position 0 1)
unfolding status_of first_fault
swapped = refl

pub other_address : status_of pair (plain 0 ∷ on 1 (record (label 1 0 (codes "a")) { dpa = 16384 }) ∷ []) ≡ Incomplete (Differs Dpa)
unfolding status_of first_fault
other_address = refl

pub other_size : status_of pair (plain 0 ∷ on 1 (record (label 1 0 (codes "a")) { raw = 8192 }) ∷ []) ≡ Incomplete (Differs RawSize)
unfolding status_of first_fault
other_size = refl

pub other_sector : status_of pair (plain 0 ∷ on 1 (record (label 1 0 (codes "a")) { lba = 4096 }) ∷ []) ≡ Incomplete (Differs LbaSize)
unfolding status_of first_fault
other_sector = refl

pub other_guid : status_of pair (plain 0 ∷ on 1 (record (label 1 0 (codes "a")) { abstraction = btt_2_0 }) ∷ []) ≡ Incomplete (Differs Guids)
unfolding status_of first_fault
other_guid = refl

pub odd_size : status_of pair (on 0 (record (label 0 0 (codes "a")) { raw = 4194305 }) ∷ on 1 (record (label 1 0 (codes "a")) { raw = 4194305 }) ∷ [])
    ≡ Incomplete (Unaligned 0)
unfolding status_of first_fault
odd_size = refl

pub one_missing : status_of pair (plain 0 ∷ []) ≡ Incomplete (Missing 1)
unfolding status_of first_fault
one_missing = refl

pub two_names : status_of pair (plain 0 ∷ on 1 (label 1 0 (codes "b")) ∷ []) ≡ Incomplete (Differs Names)
unfolding status_of first_fault
two_names = refl

-- ---- a set of one module

abbrev alone : List Mapping
alone = record (mapping 0 0) { ways = 1; lines = None } ∷ []

abbrev single : Placed
single = on 0 (record (label 0 0 (codes "a")) { count = 1; cookie = cookie_of alone })

pub single_whole : status_of alone (single ∷ []) ≡ Complete (codes "a") false
unfolding status_of first_fault
single_whole = refl

pub single_foreign : status_of alone (on 1 (label 0 0 (codes "a")) ∷ []) ≡ Incomplete (Outside 1)
unfolding status_of first_fault
single_foreign = refl

pub single_of_two : status_of alone (on 0 (record (label 0 0 (codes "a")) { cookie = cookie_of alone }) ∷ []) ≡ Incomplete (Differs Count)
unfolding status_of first_fault
single_of_two = refl
