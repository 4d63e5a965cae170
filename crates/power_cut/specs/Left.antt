-- All parts of an image set after a crash: this project's model.
use Rattle.std.specs.Prelude.{◌≡◌, ℕ, ◌+◌, ◌-◌, ◌*◌, ◌/◌, ◌%◌, ◌<◌, ◌≤◌, ◌==◌, nat_le, nat_lt, Bool, ◌&&◌, if◌then◌else◌, List, [], ◌∷◌, length, map, drop, slice_get, slice_index, slice_index_or, Option, Some, None, unwrap_or}
use Rattle.std.specs.List.{All, range_with_len}
use Rattle.cut_words.specs.Words.{Words, IsLeft}
use Rattle.cut_words.specs.Leaving.{LeavesFrom}
use Rattle.power_cut.specs.declared.leaving.ArenaLeft.{ArenaLeft}
use Rattle.power_cut.specs.declared.leaving.Images.{Images}
use Rattle.power_cut.specs.declared.leaving.Place.{Place}
use Rattle.power_cut.specs.Namespace.{HasBytes, row_of}

-- ---- in sequence

-- the parts of a list after a crash, one by one; the chooser's state passes from one to the next
abbrev pub InTurn : {C X Y : Type 0} → (X → Y → C → C → Type 0) → List X → List Y → C → C → Type 0
InTurn leaves [] left before after = (left ≡ []) × (after ≡ before)
InTurn {C} {X} {Y} leaves (part ∷ parts) left before after =
    (first : Y) × (rest : List Y) × (between : C) × (left ≡ first ∷ rest) × leaves part first before between × InTurn leaves parts rest between after

-- a row of words is as the chooser decides, from its first word on
abbrev pub LeavesWords : {C : Type 0} → (C → ℕ → Bool → C → Type 0) → Words → List ℕ → C → C → Type 0
LeavesWords picks words left before after = LeavesFrom picks 0 words.kept words.stored left before after

-- the same for a row that may be missing; then the chooser isn't asked
abbrev pub LeavesOption : {C : Type 0} → (C → ℕ → Bool → C → Type 0) → Option Words → Option (List ℕ) → C → C → Type 0
LeavesOption picks None left before after = (left ≡ None) × (after ≡ before)
LeavesOption picks (Some words) left before after = (row : List ℕ) × (left ≡ Some row) × LeavesWords picks words row before after

-- all label areas in order of the modules, then all contents in order of the modules
pub record LeavesAll {C : Type 0} (picks : C → ℕ → Bool → C → Type 0) (areas : List (Option Words)) (rows : List Words) (left : Images) (before after : C) : Type 0 where
  pub between : C
  pub labels : InTurn (LeavesOption picks) areas left.labels before between
  pub contents : InTurn (LeavesWords picks) rows left.contents between after

-- ---- whatever the chooser decides

-- the same for each part of a list
abbrev pub Each : {X Y : Type 0} → (X → Y → Type 0) → List X → List Y → Type 0
Each leaves [] left = left ≡ []
Each {X} {Y} leaves (part ∷ parts) left = (first : Y) × (rest : List Y) × (left ≡ first ∷ rest) × leaves part first × Each leaves parts rest

-- each word of a row, if it isn't missing, has independently its kept value or the one that a load returns
abbrev pub IsLeftOf : Option Words → Option (List ℕ) → Type 0
IsLeftOf None left = left ≡ None
IsLeftOf (Some words) left = (row : List ℕ) × (left ≡ Some row) × IsLeft words row

pub record IsLeftOfAll (areas : List (Option Words)) (rows : List Words) (left : Images) : Type 0 where
  pub labels : Each IsLeftOf areas left.labels
  pub contents : Each IsLeft rows left.contents

-- ---- arenas

-- word k of a module is in the run at a place
abbrev pub has_word : ℕ → Place → ℕ → ℕ → Bool
has_word run place which k = (place.«module» == which) && nat_le (place.address / 8) k && nat_lt k (place.address / 8 + run)

-- the word of these, in runs at these places, that is put at word k of a module
abbrev pub word_in : ℕ → List ℕ → List Place → ℕ → ℕ → Option ℕ
word_in run words [] which k = None
word_in run words (place ∷ places) which k =
    if has_word run place which k then Some (slice_index words (k - place.address / 8)) else word_in run (drop run words) places which k

abbrev pub or_word : Option ℕ → Option ℕ → Option ℕ
or_word (Some word) other = Some word
or_word None other = other

-- the word of an arena that is put at word k of a module
abbrev pub arena_word : List ArenaLeft → ℕ → ℕ → Option ℕ
arena_word [] which k = None
arena_word (arena ∷ arenas) which k = or_word (word_in arena.run arena.words arena.places which k) (arena_word arenas which k)

-- word k of a module: the arena's word if there is one, else the word after the crash
abbrev pub word_with : List ArenaLeft → ℕ → ℕ → ℕ → ℕ
word_with arenas which k left = unwrap_or (arena_word arenas which k) left

abbrev pub row_with : List ArenaLeft → ℕ → List ℕ → List ℕ
row_with arenas which left = map (λ k. word_with arenas which k (slice_index left k)) (range_with_len 0 (length left))

-- the images after the crash, with the words of arenas at their places in the contents
unfoldable pub with_arenas : List ArenaLeft → Images → Images
with_arenas arenas left = record {
  labels = left.labels;
  contents = map (λ which. row_with arenas which (slice_index_or left.contents which [])) (range_with_len 0 (length left.contents));
}

-- The parts after a crash, with the words of arenas at their places in the contents.
pub record LeavesWith {C : Type 0} (picks : C → ℕ → Bool → C → Type 0) (areas : List (Option Words)) (rows : List Words) (arenas : List ArenaLeft) (images : Images) (before after : C) : Type 0 where
  pub left : Images
  pub asked : LeavesAll picks areas rows left before after
  pub each : IsLeftOfAll areas rows left
  pub over : images ≡ with_arenas arenas left

-- ---- conditions on arenas

-- word k of a module is in the run at a place
pub record IsInRun (run : ℕ) (place : Place) (which k : ℕ) : Type 0 where
  pub here : place.«module» ≡ which
  pub from : place.address / 8 ≤ k
  pub to : k < place.address / 8 + run

-- it is in the run at place j of an arena
pub record BelongsTo (arena : ArenaLeft) (j which k : ℕ) : Type 0 where
  pub place : Place
  pub is : slice_get arena.places j ≡ Some place
  pub inside : IsInRun arena.run place which k

-- no word is in the runs of two places, of one arena or of two
abbrev pub AreRunsApart : List ArenaLeft → Type 0
AreRunsApart arenas = (m n : ℕ) (a b : ArenaLeft) (i j which k : ℕ) → slice_get arenas m ≡ Some a → slice_get arenas n ≡ Some b → BelongsTo a i which k → BelongsTo b j which k → (m ≡ n) × (i ≡ j)

-- none of these words of a row is pending
abbrev pub IsKept : List Words → ℕ → Place → Type 0
IsKept rows run place = (k : ℕ) → IsInRun run place place.«module» k → slice_index_or (row_of rows place.«module»).stored k None ≡ None

-- the requirements on one arena, for the contents of the modules
pub record IsPlaced (rows : List Words) (arena : ArenaLeft) : Type 0 where
  -- a run has at least one word
  pub runs : 1 ≤ arena.run
  -- there is one place for each run of words
  pub counts : length arena.words ≡ arena.run * length arena.places
  -- a place is the address of a word
  pub eights : All (λ place. place.address % 8 ≡ 0) arena.places
  -- its words lie in the contents of an existing module
  pub inside : All (λ place. HasBytes rows place.«module» place.address (8 * arena.run)) arena.places
  -- none of them is pending
  pub kept : All (IsKept rows arena.run) arena.places

-- the words of the arenas are at their places: those of place j are the run j, in order
abbrev pub AreAtPlaces : List ArenaLeft → List (List ℕ) → Type 0
AreAtPlaces arenas contents = (n : ℕ) (arena : ArenaLeft) (j which k : ℕ) → slice_get arenas n ≡ Some arena → (belongs : BelongsTo arena j which k)
    → slice_index (slice_index_or contents which []) k ≡ slice_index arena.words (arena.run * j + (k - belongs.place.address / 8))
