-- The namespaces that sessions may open, and where a sector of one lies among all arenas.
use Rattle.std.specs.Prelude.{◌≡◌, ⊤, ℕ, zero, suc, ◌+◌, ◌^◌, ◌<◌, true, false, List, [], ◌∷◌, ◌++◌, All, length, map, take, sum_by, slice_index_or, Option, Some}
use Rattle.std.specs.Str.{bytes_eq}
use Rattle.arena_layout.specs.declared.layout.Layout.{Layout}
use Rattle.arena_open.specs.declared.state.ArenaState.{ArenaState}
use Rattle.arena_open.specs.Moves.{IsOpenState}
use Rattle.session_account.specs.Serving.{Shape, Serving, Spot, IsArena, no_serving, spot_in}
use Rattle.session_service.specs.declared.finding.FoundSector.{FoundSector}
use Rattle.session_service.specs.declared.namespaces.NamespaceArenas.{NamespaceArenas}
use Rattle.session_service.specs.declared.namespaces.ServedNamespace.{ServedNamespace}

-- ---- what is served

-- each of its arenas is as opening leaves it
abbrev pub AreOpened : ServedNamespace → Type 0
AreOpened n = All IsOpenState n.arenas.items

abbrev pub shape_as : Layout → Shape
shape_as l = record { sectors = l.external; bytes = l.sector; lanes = l.lanes }

-- the shape of an arena, as accounts see it
abbrev pub shape_by : ArenaState → Shape
shape_by a = shape_as a.info.layout

abbrev pub serving_of : ServedNamespace → Serving
serving_of n = record { uuid = n.uuid; arenas = map shape_by n.arenas.items }

abbrev pub servings_of : List ServedNamespace → List Serving
servings_of served = map serving_of served

-- ---- the arenas of all namespaces in one row

-- all arenas, namespace after namespace
abbrev pub arenas_in : List Serving → List Shape
arenas_in [] = []
arenas_in (s ∷ all) = s.arenas ++ arenas_in all

-- the number of arena k of the namespace at a place, among all arenas
abbrev pub number_at : List Serving → ℕ → ℕ → ℕ
number_at [] place k = k
number_at (s ∷ all) zero k = k
number_at (s ∷ all) (suc place) k = length s.arenas + number_at all place k

-- ---- places

abbrev pub serving_at : NamespaceArenas → Serving
serving_at p = record { uuid = p.uuid; arenas = map shape_as p.arenas.items }

abbrev pub servings_at : List NamespaceArenas → List Serving
servings_at places = map serving_at places

-- each says how many arenas stand before those of its namespace
abbrev pub FirstsFrom : ℕ → List NamespaceArenas → Type 0
FirstsFrom n [] = ⊤
FirstsFrom n (p ∷ places) = (p.first ≡ n) × FirstsFrom (n + length p.arenas.items) places

-- and there are few arenas in all
pub record AreLaid (places : List NamespaceArenas) : Type 0 where
  pub firsts : FirstsFrom 0 places
  pub few : length (arenas_in (servings_at places)) < 2 ^ 32

-- ---- a sector

-- no namespace has this UUID
abbrev pub HasNone : List NamespaceArenas → List ℕ → Type 0
HasNone places uuid = (i : ℕ) (d : NamespaceArenas) → i < length places → bytes_eq (slice_index_or places i d).uuid uuid ≡ false

-- the first that has it
pub record IsFirstOf (places : List NamespaceArenas) (uuid : List ℕ) (i : ℕ) : Type 0 where
  pub there : i < length places
  pub same : (d : NamespaceArenas) → bytes_eq (slice_index_or places i d).uuid uuid ≡ true
  pub before : (j : ℕ) (d : NamespaceArenas) → j < i → bytes_eq (slice_index_or places j d).uuid uuid ≡ false

abbrev pub external_in : Layout → ℕ
external_in l = l.external

abbrev pub externals : List Layout → ℕ
externals arenas = sum_by external_in arenas

-- a sector of all arenas is sector `own` of arena k
pub record LiesAt (arenas : List Layout) (sector k own : ℕ) : Type 0 where
  pub there : k < length arenas
  pub is : sector ≡ externals (take k arenas) + own
  pub inside : (d : Layout) → own < (slice_index_or arenas k d).external

-- a sector of the namespace at this place
pub record IsFoundAt (place : NamespaceArenas) (sector : ℕ) (f : FoundSector) : Type 0 where
  pub k : ℕ
  pub lies : LiesAt place.arenas.items sector k f.sector
  pub number_is : f.arena ≡ place.first + k
  pub bytes_is : (d : Layout) → f.bytes ≡ (slice_index_or place.arenas.items k d).sector

-- a sector of the namespace that is open, and its arena
pub record IsFound (all : List Serving) (held : Option (List ℕ)) (sector : ℕ) (f : FoundSector) : Type 0 where
  pub uuid : List ℕ
  pub is_open : held ≡ Some uuid
  pub spot : Spot
  pub spot_is : spot_in all uuid sector ≡ Some spot
  pub there : IsArena all spot.place spot.arena
  pub shape_is : (d : Shape) → slice_index_or (slice_index_or all spot.place no_serving).arenas spot.arena d ≡ spot.shape
  pub inside : spot.own < spot.shape.sectors
  pub number_is : f.arena ≡ number_at all spot.place spot.arena
  pub sector_is : f.sector ≡ spot.own
  pub bytes_is : f.bytes ≡ spot.shape.bytes
