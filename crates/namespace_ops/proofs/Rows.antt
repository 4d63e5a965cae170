-- Worked rows, computed: one namespace of sectors on one module, whose label area has one more free slot.
use Rattle.std.proofs.Common.{◌≡◌, ℕ, List, [], ◌∷◌, Some, None, Ok, Err, true, false, codes, replicate, refl}
use Rattle.nvd_words.specs.Checks.{first_fault}
use Rattle.label_codec.specs.declared.mode.Mode.TheVariants as mode
use Rattle.label_set.specs.declared.placed.SetStatus.TheVariants.{Complete, Unfinished}
use Rattle.namespace_map.specs.Namespaces.{NamespaceEntry as Namespace, Namespaces}
use Rattle.namespace_map.specs.declared.commands.Command.{Command}
use Rattle.namespace_map.specs.declared.commands.Command.TheVariants as command
use Rattle.namespace_map.specs.declared.commands.Named.TheVariants as named
use Rattle.namespace_map.specs.declared.refused.OpRefused.TheVariants.{Busy, NoSuch, NotComplete, OutOfMemory, ReadOnlyLabel}
use Rattle.namespace_map.specs.Commands.{given_to, refusal_of}
use Rattle.namespace_ops.specs.Entries.{JournalEntry, Reply}
use Rattle.namespace_ops.specs.Replay.{AreReplies, replayed}
use Rattle.namespace_ops.specs.Room.{taken, with_room}

-- UUIDs of sixteen equal bytes
abbrev u : List ℕ
u = replicate 16 0x11

abbrev v : List ℕ
v = replicate 16 0x22

abbrev a : List ℕ
a = codes "a"

abbrev entry_u : Namespace
entry_u = record {
  uuid = u;
  name = a;
  region = Some 0;
  mode = mode.Sector;
  lba = 512;
  parts = record { extent = record { owner = u; «module» = 0; start = 0; length = 4194304 }; align = 0; spa_cookie = 0; flags = 0 } ∷ [];
  status = Complete a false;
  updating = [];
  read_only = None;
}

abbrev over : List Namespace → ℕ → List (List ℕ × ℕ) → Namespaces
over entries free claims = record { sets = []; areas = record { ready = true; block = 256; free = free } ∷ []; entries = entries; claims = claims }

abbrev opening : Namespaces
opening = over (entry_u ∷ []) 1 []

abbrev entry : Command → Reply → JournalEntry
entry c reply = record { tag = record { session = 0; call = 0 }; command = c; reply = reply }

abbrev claim : JournalEntry
claim = entry (command.Claim u) (Ok tt)

abbrev unclaim : JournalEntry
unclaim = entry (command.Unclaim u) (Ok tt)

abbrev busy : JournalEntry
busy = entry (command.Delete u) (Err (Busy 1))

-- ---- refusals with claims

pub claimed_is_busy : refusal_of (over (entry_u ∷ []) 1 ((u, 2) ∷ [])) (command.Delete u) ≡ Some (Busy 2)
unfolding first_fault
claimed_is_busy = refl

pub other_is_claimed : refusal_of (over (entry_u ∷ []) 1 ((v, 2) ∷ (u, 0) ∷ [])) (command.Delete u) ≡ None
unfolding first_fault
other_is_claimed = refl

pub busy_before_read_only : refusal_of (over (record entry_u { read_only = Some 0 } ∷ []) 1 ((u, 1) ∷ [])) (command.Delete u) ≡ Some (Busy 1)
unfolding first_fault
busy_before_read_only = refl

pub read_only_unclaimed : refusal_of (over (record entry_u { read_only = Some 0 } ∷ []) 1 ((u, 0) ∷ [])) (command.Delete u) ≡ Some (ReadOnlyLabel 0)
unfolding first_fault
read_only_unclaimed = refl

pub not_complete_before_busy : refusal_of (over (record entry_u { status = Unfinished } ∷ []) 1 ((u, 1) ∷ [])) (command.Delete u) ≡ Some NotComplete
unfolding first_fault
not_complete_before_busy = refl

pub claimed_is_renamed : refusal_of (over (entry_u ∷ []) 1 ((u, 1) ∷ [])) (command.Rename u (named.Good a)) ≡ None
unfolding first_fault
claimed_is_renamed = refl

-- ---- replay

pub claims_count : replayed opening (claim ∷ claim ∷ unclaim ∷ []) ≡ over (entry_u ∷ []) 1 ((u, 1) ∷ [])
unfolding replayed first_fault
claims_count = refl

pub busy_changes_nothing : replayed opening (claim ∷ busy ∷ []) ≡ over (entry_u ∷ []) 1 ((u, 1) ∷ [])
unfolding replayed first_fault
busy_changes_nothing = refl

pub unclaimed_is_deleted : replayed opening (claim ∷ busy ∷ unclaim ∷ entry (command.Delete u) (Ok tt) ∷ []) ≡ over [] 2 ((u, 0) ∷ [])
unfolding replayed first_fault given_to
unclaimed_is_deleted = refl

pub want_of_memory_changes_nothing : replayed opening (entry (command.Delete u) (Err OutOfMemory) ∷ []) ≡ opening
unfolding replayed first_fault
want_of_memory_changes_nothing = refl

-- ---- replies

pub replies : AreReplies opening (claim ∷ busy ∷ unclaim ∷ entry (command.Delete u) (Ok tt) ∷ entry (command.Delete u) (Err NoSuch) ∷ [])
unfolding AreReplies first_fault given_to
replies = ((λ _. refl), ((λ _. refl), ((λ _. refl), ((λ _. refl), ((λ _. refl), tt)))))

-- ---- room

pub room_is_added : with_room (1 ∷ []) (2 ∷ 3 ∷ []) ≡ 3 ∷ 3 ∷ []
room_is_added = refl

pub room_is_taken : taken (3 ∷ 3 ∷ []) 1 ≡ 3 ∷ 2 ∷ []
room_is_taken = refl
