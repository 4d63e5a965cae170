-- Changes of the label areas of several modules, one after another, and the areas after a crash. UEFI 2.10, section 13.19 (label
-- slots); one change of one area is that of `label_area`.
use Rattle.std.specs.Prelude.{◌≡◌, ◌⊎◌, ℕ, ◌+◌, ◌-◌, ◌==◌, nat_le, Bool, true, false, ◌&&◌, if◌then◌else◌, List, [], ◌∷◌, slice_get, slice_set, count_by, Option, Some, None, is_none, unwrap_or}
use Rattle.std.specs.Option.{option_map}
use Rattle.std.specs.List.{position}
use Rattle.std.specs.Str.{bytes_eq}
use Rattle.label_codec.specs.declared.label.Label.{Label}
use Rattle.label_area.specs.Area.{SlotState, label_in}
use Rattle.label_area.specs.Change.{count_of_steps, with_put, without}

-- ---- one area

-- a label area that is ready: the size of its index blocks in bytes, and its slots
pub record Area : Type 0 where
  pub block : ℕ
  pub slots : List SlotState

-- the slots of a module's area; none if it isn't ready
abbrev pub slots_of : Option Area → List SlotState
slots_of None = []
slots_of (Some area) = area.slots

abbrev pub block_of : Option Area → ℕ
block_of None = 0
block_of (Some area) = area.block

abbrev pub is_free : SlotState → Bool
is_free slot = is_none slot

abbrev pub free_in : List SlotState → ℕ
free_in slots = count_by is_free slots

-- a label is put into a slot, with that slot's number, and another slot is freed; if no slot is free, nothing changes
abbrev pub refilled : Option ℕ → Label → Option ℕ → List SlotState → List SlotState
refilled out label None slots = slots
refilled out label (Some slot) slots = without out (with_put (Some (record label { slot = slot })) slots)

-- a slot is freed, and a label, if there is one, is put into the least slot that was free before
abbrev pub replaced : Option ℕ → Option Label → List SlotState → List SlotState
replaced out None slots = without out slots
replaced out (Some label) slots = refilled out label (position is_free slots) slots

-- ---- changes of areas, indexed by module; None is an area that isn't ready

-- on a module, the label of a UUID is removed, and a label is put
pub record Change : Type 0 where
  pub number : ℕ
  pub uuid : List ℕ
  pub label : Option Label

abbrev pub has_uuid : List ℕ → SlotState → Bool
has_uuid uuid slot = unwrap_or (option_map (λ l. bytes_eq l.uuid uuid) (label_in slot)) false

-- the first slot with a label of a UUID
abbrev pub slot_of : List SlotState → List ℕ → Option ℕ
slot_of slots uuid = position (has_uuid uuid) slots

abbrev pub area_at : List (Option Area) → ℕ → Option Area
area_at areas number = unwrap_or (slice_get areas number) None

-- the slots of a module's area
abbrev pub slots_on : List (Option Area) → ℕ → List SlotState
slots_on areas number = slots_of (area_at areas number)

abbrev pub changed_slots : List SlotState → Change → List SlotState
changed_slots slots c = replaced (slot_of slots c.uuid) c.label slots

abbrev pub changed_area : Option Area → Change → Option Area
changed_area None c = None
changed_area (Some area) c = Some (record area { slots = changed_slots area.slots c })

abbrev pub changed_areas : List (Option Area) → Change → List (Option Area)
changed_areas areas c = slice_set areas c.number (changed_area (area_at areas c.number) c)

unfoldable pub all_changed : List (Option Area) → List Change → List (Option Area)
all_changed areas [] = areas
all_changed areas (c ∷ cs) = all_changed (changed_areas areas c) cs

-- ---- steps, and the areas after a crash

-- the stores and flushes of one change: 64 for a label, and those of the area's other index block
abbrev pub steps_for : List (Option Area) → Change → ℕ
steps_for areas c = count_of_steps (block_of (area_at areas c.number)) c.label

-- the steps of all changes
unfoldable pub steps_of_all : List (Option Area) → List Change → ℕ
steps_of_all areas [] = 0
steps_of_all areas (c ∷ cs) = steps_for areas c + steps_of_all (changed_areas areas c) cs

-- the areas after this many steps: the changes that these steps complete are made, and no other; a change that lacks only its
-- last step is made if the chooser says so
unfoldable pub after_steps : List (Option Area) → List Change → ℕ → Bool → List (Option Area)
after_steps areas [] steps stays = areas
after_steps areas (c ∷ cs) steps stays =
    if nat_le (steps_for areas c) steps then after_steps (changed_areas areas c) cs (steps - steps_for areas c) stays
    else if (steps + 1 == steps_for areas c) && stays then changed_areas areas c
    else areas

-- the areas after a crash that follows this many steps
abbrev pub IsLeftBy : List (Option Area) → List Change → ℕ → List (Option Area) → Type 0
IsLeftBy areas changes steps left = (left ≡ after_steps areas changes steps true) ⊎ (left ≡ after_steps areas changes steps false)
