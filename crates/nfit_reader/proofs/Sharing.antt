-- Regions of one table share no bytes.
use Rattle.std.proofs.Common.{◌≡◌, ℕ, ◌<◌, false, List, ◌∷◌, map, filter, Option, Some, None, Result, Ok, Err, refl, sym, ap, ◌∙◌, subst}
use Rattle.std.specs.Prelude.{◌==◌, slice_get, unwrap_or}
use Rattle.std.specs.Option.{option_map}
use Rattle.std.specs.List.{filter_map, position_from}
use Rattle.std.proofs.lemmas.Bool.{eqb-true}
use Rattle.nvd_words.specs.Checks.{first_fault, value_unless}
use Rattle.nfit_reader.specs.declared.table.Mapping.{Mapping}
use Rattle.nfit_reader.specs.declared.table.Nfit.{Nfit}
use Rattle.nfit_reader.specs.declared.table.Region.{Region}
use Rattle.nfit_reader.specs.declared.table.NfitFault.{NfitFault}
use Rattle.nfit_reader.specs.declared.structures.Structure.{Structure}
use Rattle.nfit_reader.specs.declared.structures.Link.{Link}
use Rattle.nfit_reader.specs.declared.structures.Range.{Range}
use Rattle.nfit_reader.specs.declared.alias.DpaRange.{DpaRange}
use Rattle.nfit_reader.specs.Structures.{structures_of}
use Rattle.nfit_reader.specs.Table.{nfit_reading, reading_after, header_fault, structures_reading, spans_of, table_reading, table_faults, nfit_of, regions_of, region_of, ranges_of, is_region, links_of, links_into, mapping_of, dpa_range_of, dpa_ranges_of, modules_of, place_of, twice_in, name_of, missing_of, too_large, aliasing, alias_in, meets}
use Rattle.nfit_reader.specs.Sharing.{RegionsShareNoBytes}
use Rattle.nfit_reader.proofs.NoAlias.{none_meet, one_ends}
use Rattle.nfit_reader.proofs.Indexes.{In, in_from, in_filter, in_map, in_filter_map, in_get, regions_apart, place_there, places_differ}

-- ---- the checks that a table has passed

record IsTable (structures : List Structure) (nfit : Nfit) : Type 0 where
  is : nfit_of structures ≡ nfit
  once : twice_in (filter_map name_of structures) ≡ None
  alone : alias_in (dpa_ranges_of structures) ≡ None

passed : {A F : Type 0} (value got : A) (o : Option F) → value_unless value o ≡ Ok got → (o ≡ None) × (value ≡ got)
passed value got None e = (refl, cc)
passed value got (Some f) e = absurd (cc)

passed_here : (o : Option NfitFault) (os : List (Option NfitFault)) → first_fault (o ∷ os) ≡ None → (o ≡ None) × (first_fault os ≡ None)
unfolding first_fault
passed_here None os e = (refl, e)
passed_here (Some f) os e = absurd (cc)

table_passed : (structures : List Structure) (nfit : Nfit) → table_reading structures ≡ Ok nfit → IsTable structures nfit
unfolding table_reading
table_passed structures nfit e =
    let parts = passed (nfit_of structures) nfit (first_fault (table_faults structures)) e in
    let one = passed_here (twice_in (filter_map name_of structures)) _ parts.0 in
    let two = passed_here (first_fault (map (missing_of structures) (links_of structures))) _ one.1 in
    let three = passed_here (too_large structures) _ two.1 in
    let four = passed_here (aliasing structures) _ three.1 in
    record { is = parts.1; once = one.0; alone = four.0 }

is_table : (bytes : List ℕ) (nfit : Nfit) → nfit_reading bytes ≡ Ok nfit → (structures : List Structure) × IsTable structures nfit
is_table bytes nfit e = after (header_fault bytes) e
  where
    read : (o : Result (List Structure) NfitFault) → structures_reading o ≡ Ok nfit → (structures : List Structure) × IsTable structures nfit
    read (Ok structures) e = (structures, table_passed structures nfit e)
    read (Err f) e = absurd (cc)

    after : (o : Option NfitFault) → reading_after bytes o ≡ Ok nfit → (structures : List Structure) × IsTable structures nfit
    after None e = read (structures_of (spans_of bytes)) e
    after (Some f) e = absurd (cc)

-- ---- a mapping of a region, and its DPA range

record HasDpaRange (structures : List Structure) (r : Region) (m : Mapping) : Type 0 where
  dpa_range : DpaRange
  among : In (dpa_ranges_of structures) dpa_range
  number : position_from (λ (x : Region). x.index == r.index) 0 (regions_of structures) ≡ Some dpa_range.region
  which : dpa_range.«module» ≡ m.«module»
  start : dpa_range.start ≡ m.start
  size : dpa_range.size ≡ m.size

region_from : (structures : List Structure) (r : Region) → In (regions_of structures) r → (range : Range) × (region_of structures range ≡ r)
unfolding regions_of
region_from structures r i = let found = in_map (region_of structures) (filter (is_region structures) (ranges_of structures)) r i in (found.0, found.2)

dpa_range_is : (structures : List Structure) (l : Link) (region : ℕ) → position_from (λ (x : Region). x.index == l.range) 0 (regions_of structures) ≡ Some region
    → dpa_range_of structures l ≡ Some (record { «module» = unwrap_or (place_of l.handle (modules_of structures)) 0; region = region; start = l.start; size = l.size })
unfolding dpa_range_of
dpa_range_is structures l region e = ap (λ (o : Option ℕ). option_map (λ region. record { «module» = unwrap_or (place_of l.handle (modules_of structures)) 0; region = region; start = l.start; size = l.size }) o) e

-- the DPA range of a mapping
link_dpa_range : (structures : List Structure) (r : Region) (m : Mapping) (l : Link) → In (regions_of structures) r → In (links_of structures) l → l.range ≡ r.index → mapping_of structures l ≡ m → HasDpaRange structures r m
unfolding mapping_of
link_dpa_range structures r m l i among named is =
    let place = place_there r.index 0 (regions_of structures) r i refl in
    let place' : position_from (λ (x : Region). x.index == l.range) 0 (regions_of structures) ≡ Some place.0 = subst (λ k. position_from (λ (x : Region). x.index == k) 0 (regions_of structures) ≡ Some place.0) (sym named) place.1 in
    record {
      dpa_range = record { «module» = unwrap_or (place_of l.handle (modules_of structures)) 0; region = place.0; start = l.start; size = l.size };
      among = in_filter_map (dpa_range_of structures) (links_of structures) l (record { «module» = unwrap_or (place_of l.handle (modules_of structures)) 0; region = place.0; start = l.start; size = l.size }) among (dpa_range_is structures l place.0 place');
      number = place.1;
      which = ap (λ (x : Mapping). x.«module») is;
      start = ap (λ (x : Mapping). x.start) is;
      size = ap (λ (x : Mapping). x.size) is;
    }

has_dpa_range : (structures : List Structure) (r : Region) (m : Mapping) → In (regions_of structures) r → In r.mappings m → HasDpaRange structures r m
unfolding region_of
has_dpa_range structures r m i j =
    let from = region_from structures r i in
    let index : from.0.index ≡ r.index = ap (λ (x : Region). x.index) from.1 in
    let j' : In (map (mapping_of structures) (links_into structures from.0.index)) m = subst (λ (x : Region). In x.mappings m) (sym from.1) j in
    let link = in_map (mapping_of structures) (links_into structures from.0.index) m j' in
    let into = in_filter (λ (l : Link). l.range == from.0.index) (links_of structures) link.0 link.1 in
    link_dpa_range structures r m link.0 i into.0 (eqb-true link.0.range from.0.index into.1 ∙ index) link.2

-- ---- the law

pub share_no_bytes : RegionsShareNoBytes
share_no_bytes bytes nfit i j r s m k e at_i at_j ne in_r in_s same some some' =
    let table = is_table bytes nfit e in
    let ss = table.0 in
    let is : regions_of ss ≡ nfit.regions = ap (λ (n : Nfit). n.regions) table.1.is in
    let one_at : slice_get (regions_of ss) i ≡ Some r = ap (λ (rs : List Region). slice_get rs i) is ∙ at_i in
    let two_at : slice_get (regions_of ss) j ≡ Some s = ap (λ (rs : List Region). slice_get rs j) is ∙ at_j in
    let a : HasDpaRange ss r m = has_dpa_range ss r m (in_get (regions_of ss) i r one_at) (in_from r.mappings m in_r) in
    let b : HasDpaRange ss s k = has_dpa_range ss s k (in_get (regions_of ss) j s two_at) (in_from s.mappings k in_s) in
    let indexes = regions_apart ss table.1.once i j r s one_at two_at ne in
    let numbers = places_differ r.index s.index a.dpa_range.region b.dpa_range.region (regions_of ss) a.number b.number indexes in
    let met : meets a.dpa_range b.dpa_range ≡ false = none_meet (dpa_ranges_of ss) a.dpa_range b.dpa_range table.1.alone a.among b.among (a.which ∙ same ∙ sym b.which) numbers in
    let ends = one_ends a.dpa_range b.dpa_range met (subst (λ n. 0 < n) (sym a.size) some) (subst (λ n. 0 < n) (sym b.size) some') in
    rw (a.start, a.size, b.start, b.size) at ends
