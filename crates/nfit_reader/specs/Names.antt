-- What the maps of the reader hold.
use Rattle.std.specs.Prelude.{◌≡◌, ℕ, ◌==◌, ◌&&◌, if◌then◌else◌, List, [], filter, Option, Some, None}
use Rattle.std.specs.List.{list_any, filter_map, position_from}
use Rattle.std.specs.Ordering.{nat_cmp}
use Rattle.std.specs.BTreeMap as tree
use Rattle.nfit_reader.specs.declared.table.NfitFault.{NfitFault}
use Rattle.nfit_reader.specs.declared.table.NfitFault.TheVariants as fault
use Rattle.nfit_reader.specs.declared.structures.Structure.{Structure}
use Rattle.nfit_reader.specs.declared.structures.Range.{Range}
use Rattle.nfit_reader.specs.declared.structures.Link.{Link}
use Rattle.nfit_reader.specs.declared.table.Region.{Region}
use Rattle.std.specs.Global.{Vec}
use Rattle.nfit_reader.specs.declared.names.Names.{Names}
use Rattle.nfit_reader.specs.Table.{range_named, lines_named, identity_named, name_of, place_of, modules_of, is_region, region_of, regions_of}

abbrev pub items_of : Option (Vec Link) → List Link
items_of None = []
items_of (Some links) = links.items

-- the maps return what indices name in a list of structures
pub record IsNamed (names : Names) (structures : List Structure) : Type 0 where
  pub ranges : (index : ℕ) → tree.get nat_cmp names.ranges index ≡ range_named structures index
  pub lines : (index : ℕ) → tree.get nat_cmp names.lines index ≡ lines_named structures index
  pub identities : (index : ℕ) → tree.get nat_cmp names.identities index ≡ identity_named structures index

-- the map returns the number of each device handle
pub record IsNumbered (numbers : tree.BTreeMap ℕ ℕ) (structures : List Structure) : Type 0 where
  pub places : (handle : ℕ) → tree.get nat_cmp numbers handle ≡ place_of handle (modules_of structures)

-- the map returns the number of the region with an index
pub record IsPlaced (places : tree.BTreeMap ℕ ℕ) (structures : List Structure) : Type 0 where
  pub regions : (index : ℕ) → tree.get nat_cmp places index ≡ position_from (λ r. r.index == index) 0 (regions_of structures)

-- the mappings of each group, by the index of their range
pub record IsGrouped (groups : tree.BTreeMap ℕ (Vec Link)) (links : List Link) : Type 0 where
  pub group : (index : ℕ) → items_of (tree.get nat_cmp groups index) ≡ filter (λ m. m.range == index) links

-- the region of a range, if it is one
unfoldable pub region_where : List Structure → Range → Option Region
region_where structures r = if is_region structures r then Some (region_of structures r) else None

-- the fault of a name that occurs again in the rest
abbrev pub again_of : Option (ℕ × ℕ) → List (ℕ × ℕ) → Option NfitFault
again_of None rest = None
again_of (Some n) rest = if list_any (λ other. (other.0 == n.0) && (other.1 == n.1)) rest then Some (fault.TwiceIndex n.0 n.1) else None

unfoldable pub again_in : Structure → List Structure → Option NfitFault
again_in s rest = again_of (name_of s) (filter_map name_of rest)
