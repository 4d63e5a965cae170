-- All arenas of a row, when the sets of lanes and the sessions' passes come back.
use Rattle.std.specs.Prelude.{◌≡◌, ℕ, ◌<◌, false, List, [], ◌∷◌, ◌++◌, length, map, All, Any, Option, Some, None, Vec, slice_get, slice_index_or}
use Rattle.arena_open.specs.declared.state.ArenaState.{ArenaState}
use Rattle.arena_open.specs.Moves.{IsOpenState}
use Rattle.lane_core.specs.declared.arena_words.ArenaWords.{ArenaWords}
use Rattle.lane_table.specs.declared.arena.Arena.{Arena}
use Rattle.lane_table.specs.declared.lanes.LaneEnd.{LaneEnd}
use Rattle.lane_table.specs.declared.session_pass.Pass.{Pass}
use Rattle.lane_table.specs.Begun.{IsMadeOf}
use Rattle.lane_pool.specs.declared.sets.PowerOff.{PowerOff}
use Rattle.lane_pool.specs.Parts.{HasPart}
use Rattle.lane_calls.specs.declared.session.Sectors.{Sectors}
use Rattle.lane_calls.specs.declared.session.Session.{Session}
use Rattle.lane_calls.specs.Sessions.{Know, Parts}
use Rattle.lane_sessions.specs.Closing.{AreHandedIn}
use Rattle.lane_sessions.specs.Left.{IsArenaLeft}

-- ---- rows of things that may be there

-- what stands at a place of each row
abbrev pub column : {A Z : Type 0} → ℕ → List (Vec (Option A) Z) → List (Option A)
column j rows = map (λ r. slice_index_or r.items j None) rows

-- each row had one more, which is in the column
abbrev pub LoseLast : {A Z : Type 0} → List (Vec (Option A) Z) → List (Option A) → List (Vec (Option A) Z) → Type 0
LoseLast {A} {Z} rows last rows' = (i : ℕ) (d : Vec (Option A) Z) (e : Option A) → i < length rows → (slice_index_or rows i d).items ≡ (slice_index_or rows' i d).items ++ slice_index_or last i e ∷ []

-- each row has one at least
abbrev pub HaveMore : {A Z : Type 0} → List (Vec (Option A) Z) → Type 0
HaveMore {A} {Z} rows = (i : ℕ) (d : Vec (Option A) Z) → i < length rows → 0 < length (slice_index_or rows i d).items

-- each row has so many
abbrev pub AreWide : {A Z : Type 0} → ℕ → List (Vec (Option A) Z) → Type 0
AreWide {A} {Z} n rows = (i : ℕ) (d : Vec (Option A) Z) → i < length rows → length (slice_index_or rows i d).items ≡ n

-- those that are there
abbrev pub there : {A : Type 0} → List (Option A) → List A
there [] = []
there (None ∷ xs) = there xs
there (Some x ∷ xs) = x ∷ there xs

-- the lists of a row of lists
abbrev pub lists_of : {A Z : Type 0} → List (Vec A Z) → List (List A)
lists_of lists = map (λ v. v.items) lists

-- ---- the arenas

-- the lanes of arena j: those in the sets, then those aside
abbrev pub lanes_of : {Y Z : Type 0} → ℕ → List (Vec (Option LaneEnd) Y) → List (Vec LaneEnd Z) → List LaneEnd
lanes_of j sets aside = there (column j sets) ++ slice_index_or (lists_of aside) j []

-- every lane of each arena, and the passes of all sessions, of which session q knows this
pub record AreAllIn {X Y Z : Type 0} (arenas : List Arena) (sets : List (Vec (Option LaneEnd) X)) (aside : List (Vec LaneEnd Y)) (passes : List (Vec (Option Pass) Z)) (parts : ℕ → Parts) : Type 0 where
  pub sets_wide : AreWide (length arenas) sets
  pub passes_wide : AreWide (length arenas) passes
  pub count : length aside ≡ length arenas
  pub each : (j : ℕ) (a : Arena) → slice_get arenas j ≡ Some a → AreHandedIn a (lanes_of j sets aside) (column j passes) (λ q. parts q j)

-- each arena was made of one of these states, which had opened
abbrev pub AreOpened : List ArenaState → List Arena → Type 0
AreOpened states arenas = (j : ℕ) (a : Arena) → slice_get arenas j ≡ Some a → (state : ArenaState) × (slice_get states j ≡ Some state) × IsOpenState state × IsMadeOf state a

-- what the arenas leave: the words of each, in their order
pub record AreArenasLeft (sessions : ℕ) (states : List ArenaState) (parts : ℕ → Parts) (arenas : ℕ) (words : List ArenaWords) : Type 0 where
  pub count : length words ≡ arenas
  pub each : (j : ℕ) (state : ArenaState) (w : ArenaWords) → slice_get states j ≡ Some state → slice_get words j ≡ Some w → IsArenaLeft sessions state (λ q. (parts q j).mine) w

-- ---- the sessions

-- session q of the list is session q, and this is what it knows
abbrev pub KnowAll : Sectors → (ℕ → Parts) → List Session → Type 0
KnowAll sectors parts sessions = (q : ℕ) (s : Session) → slice_get sessions q ≡ Some s → Know sectors q (parts q) s

-- Power is off only if a session switched it off that nobody had told so; and no session was told another `PowerOff` than this.
pub record IsOffBy (sessions : List Session) (off : Option PowerOff) : Type 0 where
  pub by_one : (p : PowerOff) → off ≡ Some p → Any (λ s. HasPart (λ m. m.stop ≡ Some (record { off = p; told = false })) s.caller.pool) sessions
  pub told : All (λ s. HasPart (λ m. (p : PowerOff) → m.told ≡ Some p → off ≡ Some p) s.caller.pool) sessions
