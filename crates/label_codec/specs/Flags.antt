-- The flags of a label (UEFI 2.10, section 13.19, Flags): ROLABEL is bit 0, LOCAL bit 1, UPDATING bit 3. All other bits are kept.
use Rattle.std.specs.Prelude.{ℕ, Bool, ◌+◌, ◌-◌, ◌*◌, ◌/◌, ◌%◌, ◌==◌}
use Rattle.label_codec.specs.declared.label.Label.{Label}

-- the namespace is read-only
abbrev pub has_rolabel : ℕ → Bool
has_rolabel flags = flags % 2 == 1

-- the namespace lies on one module alone
abbrev pub has_local : ℕ → Bool
has_local flags = flags / 2 % 2 == 1

-- a change of the namespace's labels isn't finished
abbrev pub has_updating : ℕ → Bool
has_updating flags = flags / 8 % 2 == 1

-- the flags with UPDATING cleared
abbrev pub without_updating : ℕ → ℕ
without_updating flags = flags - flags / 8 % 2 * 8

-- the flags with UPDATING set
abbrev pub with_updating : ℕ → ℕ
with_updating flags = without_updating flags + 8

-- a label with UPDATING set, all else the same
abbrev pub updating : Label → Label
updating l = record l { flags = with_updating l.flags }

-- a label with UPDATING cleared, all else the same
abbrev pub updated : Label → Label
updated l = record l { flags = without_updating l.flags }
