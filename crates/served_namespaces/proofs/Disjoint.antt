-- Namespaces that are found share no address of a module if no two entries have extents that meet.
use Rattle.std.proofs.Common.{◌≡◌, ◌≢◌, ℕ, zero, suc, ◌+◌, ◌<◌, ◌≤◌, ◌-◌, Bool, true, false, List, [], ◌∷◌, length, get_or, map, Option, Some, None, Result, Ok, Err, refl, sym, ap, ◌∙◌, subst, inl, inr, arith}
use Rattle.std.specs.Prelude.{Contains, ◌==◌, ◌&&◌, nat_le, nat_lt, slice_get, unwrap_or, if◌then◌else◌}
use Rattle.std.specs.Option.{option_map}
use Rattle.std.specs.List.{AllByRecursion, cons_option, list_all, list_any}
use Rattle.std.proofs.lemmas.Bool.{cases_Bool, cases_lt, eqb-true, false≢true}
use Rattle.std.proofs.lemmas.Bool.Decides.{nat_tests}
use Rattle.std.proofs.lemmas.Option.{none-some, same_Some}
use Rattle.nvd_words.specs.Checks.{first_fault, fault_if}
use Rattle.nfit_reader.specs.declared.table.Mapping.{Mapping}
use Rattle.label_codec.specs.Mode.{mode_of}
use Rattle.label_set.specs.declared.placed.Placed.{Placed}
use Rattle.label_set.specs.declared.placed.Field.TheVariants as field
use Rattle.label_set.specs.declared.placed.SetStatus.{SetStatus}
use Rattle.label_set.specs.declared.placed.SetStatus.TheVariants.{Complete, Unfinished, Local, Incomplete}
use Rattle.label_set.specs.declared.placed.Why.TheVariants.{Missing, Twice, Differs}
use Rattle.label_set.specs.declared.rules.Rule.TheVariants as rule
use Rattle.label_set.specs.Rules.{breaks_of, differ_in, is_local, is_updating, least_missing, least_twice, least_where, module_of, relative_of, why_of}
use Rattle.label_set.specs.Status.{findings, naming_of, short_of, status_of}
use Rattle.namespace_map.specs.Areas.{Area}
use Rattle.namespace_map.specs.Changes.{namespaces_of, placed_in_all}
use Rattle.namespace_map.specs.Commands.{is_complete, is_sector}
use Rattle.namespace_map.specs.declared.refused.OpRefused.{OpRefused}
use Rattle.namespace_map.specs.Namespaces.{NamespaceEntry, Namespaces, Part, entry_with, labels_with, lookup, part_of}
use Rattle.namespace_map.proofs.Entries.{lookup_entries}
use Rattle.namespace_laws.specs.Apart as EntryApart
use Rattle.namespace_laws.specs.Apart.{EntriesApart}
use Rattle.namespace_laws.proofs.Apart.{on_module}
use Rattle.namespace_laws.proofs.Complete.{Facts, facts, shared_of}
use Rattle.namespace_laws.proofs.Regions.{found_contained, found_number}
use Rattle.namespace_laws.proofs.Sets.{unmapped}
use Rattle.namespace_laws.proofs.Shaped.{covers}
use Rattle.namespace_laws.proofs.Sound.{SoundIn}
use Rattle.namespace_laws.proofs.Standing.{all_contained}
use Rattle.namespace_areas.specs.declared.found.Found.{Found}
use Rattle.namespace_areas.specs.Finding.{found_of, set_at}
use Rattle.namespace_areas.proofs.Finding.{IsRegion, is_found, region_is}
use Rattle.power_cut.specs.Namespace.{is_inside, over}
use Rattle.served_namespaces.specs.declared.places.FoundNamespace.{FoundNamespace}
use Rattle.served_namespaces.specs.Places.{ShareNoAddress, AreDifferent, AreDisjoint, PlaceBytes, PlacesBytes, has_address}
use Rattle.served_namespaces.specs.Opening.{found_as, found_each}
use Rattle.served_namespaces.proofs.Claimable.{HasRegion, has_region}
use Rattle.served_namespaces.proofs.Extents.{passing}

-- ---- a complete namespace has a label on each module of its set

abbrev Broken : Option SetStatus → Type 0
Broken None = Unit {0}
Broken (Some status) = is_complete status ≡ false

broken_if : (b : Bool) (status : SetStatus) → is_complete status ≡ false → Broken (fault_if b status)
broken_if true status e = e
broken_if false status e = tt

broken_map : {X : Type 0} (f : X → SetStatus) (o : Option X) → ((x : X) → is_complete (f x) ≡ false) → Broken (option_map f o)
broken_map f None e = tt
broken_map f (Some x) e = e x

broken_short : (labels : List Placed) (number : ℕ) → is_complete (short_of labels number) ≡ false
broken_short labels number = by (list_all is_updating labels)
  where
    by : (b : Bool) → is_complete (if b then Unfinished else Incomplete (Missing number)) ≡ false
    by true = refl
    by false = refl

none_of : (os : List (Option SetStatus)) (naming : SetStatus) → AllByRecursion Broken os → is_complete (unwrap_or (first_fault os) naming) ≡ true → AllByRecursion (λ o. o ≡ None) os
unfolding first_fault
none_of [] naming broken e = tt
none_of (None ∷ os) naming (b, bs) e = (refl, none_of os naming bs e)
none_of (Some status ∷ os) naming (b, bs) e = absurd (false≢true (sym b ∙ e))

each_broken : (set : List Mapping) (own : List Placed) → AllByRecursion Broken (findings set own)
each_broken set own = (
  broken_if (list_any is_local own) Local refl,
  (
    broken_map (λ number. Incomplete (Twice number)) (least_twice own) (λ n. refl),
    (
      broken_map (λ p. Incomplete (why_of rule.Inside p)) (least_where module_of (breaks_of rule.Inside set) own) (λ p. refl),
      (
        broken_map (λ p. Incomplete (why_of rule.Cookie p)) (least_where module_of (breaks_of rule.Cookie set) own) (λ p. refl),
        (
          broken_if (differ_in field.Count set own) (Incomplete (Differs field.Count)) refl,
          (
            broken_map (λ p. Incomplete (why_of rule.Position p)) (least_where module_of (breaks_of rule.Position set) own) (λ p. refl),
            (
              broken_if (differ_in field.Dpa set own) (Incomplete (Differs field.Dpa)) refl,
              (
                broken_if (differ_in field.RawSize set own) (Incomplete (Differs field.RawSize)) refl,
                (
                  broken_if (differ_in field.LbaSize set own) (Incomplete (Differs field.LbaSize)) refl,
                  (
                    broken_if (differ_in field.Guids set own) (Incomplete (Differs field.Guids)) refl,
                    (
                      broken_map (λ p. Incomplete (why_of rule.Aligned p)) (least_where module_of (breaks_of rule.Aligned set) own) (λ p. refl),
                      (broken_map (short_of own) (least_missing own set) (broken_short own), tt),
                    ),
                  ),
                ),
              ),
            ),
          ),
        ),
      ),
    ),
  ),
)

none_missing : (set : List Mapping) (own : List Placed) → is_complete (status_of set own) ≡ true → least_missing own set ≡ None
unfolding status_of
none_missing set own e =
    let all = none_of (findings set own) (naming_of own) (each_broken set own) e in
    unmapped (short_of own) (least_missing own set) all.1.1.1.1.1.1.1.1.1.1.1.0

complete_is : (status : SetStatus) → is_complete status ≡ true → (name : List ℕ) × ((pending : Bool) × (status ≡ Complete name pending))
complete_is (Complete name pending) e = (name, (pending, refl))
complete_is Unfinished e = absurd (false≢true e)
complete_is Local e = absurd (false≢true e)
complete_is (Incomplete why) e = absurd (false≢true e)

label_on : (own : List Placed) (n : ℕ) → list_any (on_module n) own ≡ true → (q : Placed) × Contains own q × (q.«module» ≡ n)
label_on [] n e = absurd (false≢true e)
label_on (p ∷ ps) n e = elim (cases_Bool (on_module n p)) [
  | inl it ↦ (p, (0, omega arith, refl), eqb-true p.«module» n it)
  | inr not_it ↦ let r = label_on ps n (rw not_it at e) in (r.0, (suc r.1.0, omega (arith, r.1.1), r.1.2), r.2)
]

-- ---- its extents are those of its entry

-- the entry has an extent like this
pub record HasExtent (e : NamespaceEntry) (number start bytes : ℕ) : Type 0 where
  pub part : Part
  pub among : Contains e.parts part
  pub of : part.extent.«module» ≡ number
  pub from : part.extent.start ≡ start
  pub size : part.extent.length ≡ bytes

contains_map : {X Y : Type 0} (f : X → Y) (xs : List X) (x : X) → Contains xs x → Contains (map f xs) (f x)
contains_map f [] x (k, below, is) = absurd (omega arith)
contains_map f (z ∷ zs) x (zero, below, is) = (0, omega arith, ap f is)
contains_map f (z ∷ zs) x (suc k, below, is) = let c = contains_map f zs x (k, omega arith, is) in (suc c.0, omega (arith, c.1), c.2)

-- an extent of the entry has an address
pub record Covers (e : NamespaceEntry) (which address : ℕ) : Type 0 where
  pub part : Part
  pub among : Contains e.parts part
  pub of : part.extent.«module» ≡ which
  pub low : part.extent.start ≤ address
  pub high : address < part.extent.start + part.extent.length

tests_of : (a b c d e : ℕ) → ((a == b) && nat_le c d && nat_lt d e) ≡ true → (a ≡ b) × (c ≤ d) × (d < e)
tests_of a b c d e h = (grind (arith, nat_tests), grind (arith, nat_tests), grind (arith, nat_tests))

-- by its labels, in a set of which no two mappings are of one module
module _ (sets : List (List Mapping)) (sound : PlaceBytes sets) (p : Placed) (rest : List Placed) (found : Found) (is : found_of sets (Some (entry_with sets (p ∷ rest) p)) ≡ Ok found) where
  abbrev own : List Placed
  own = p ∷ rest

  abbrev entry : NamespaceEntry
  entry = entry_with sets (p ∷ rest) p

  complete : is_complete (entry_with sets (p ∷ rest) p).status ≡ true
  complete = elim (cases_Bool (is_complete (entry_with sets (p ∷ rest) p).status)) [ inl it ↦ it | inr not_it ↦ absurd (let e = rw not_it at is in cc) ]

  sector : is_sector (entry_with sets (p ∷ rest) p).mode ≡ true
  sector = elim (cases_Bool (is_sector (entry_with sets (p ∷ rest) p).mode)) [ inl it ↦ it | inr not_it ↦ absurd (let e = rw (complete, not_it) at is in cc) ]

  r : HasRegion sets p rest
  r = has_region sets p rest complete

  region : IsRegion sets 0 r.number r.set
  region = region_is sets p r.number r.set r.here

  set_is : set_at sets r.number ≡ r.set
  set_is = ap (λ (k : ℕ). get_or sets k []) (let z : r.number ≡ r.number - 0 = omega arith in z) ∙ region.is

  there : r.number < length sets
  there = omega (arith, region.high)

  status : (name : List ℕ) × ((pending : Bool) × (status_of r.set (p ∷ rest) ≡ Complete name pending))
  status = complete_is (status_of r.set (p ∷ rest)) r.complete

  known : Facts r.set p (p ∷ rest) status.0 status.1.0
  known = facts r.set p rest status.0 status.1.0 status.1.1

  found_is : found ≡ record { region = r.number; offset = relative_of r.set p; raw = p.label.raw; mode = mode_of p.label.kind p.label.abstraction }
  found_is = same_ok found (record { region = r.number; offset = relative_of r.set p; raw = p.label.raw; mode = mode_of p.label.kind p.label.abstraction }) (sym is ∙ is_found sets p rest r.number r.set r.here r.complete sector)
    where
      same_ok : (a b : Found) → ◌≡◌ {A = Result Found OpRefused} (Ok a) (Ok b) → a ≡ b
      same_ok a b e = cc

  places : PlacesBytes r.set
  places = subst PlacesBytes set_is (sound r.number there)

  extent_on : (m : Mapping) → Contains r.set m → HasExtent (entry_with sets (p ∷ rest) p) m.«module» (m.start + relative_of r.set p) p.label.raw
  extent_on m among =
      let stands = all_contained (λ (k : Mapping). list_any (on_module k.«module») (p ∷ rest) ≡ true) r.set m (covers r.set (p ∷ rest) (none_missing r.set (p ∷ rest) r.complete)) among in
      let q = label_on (p ∷ rest) m.«module» stands in
      let s : SoundIn r.set (shared_of r.set p) q.0 = all_contained (SoundIn r.set (shared_of r.set p)) (p ∷ rest) q.0 known.sound q.1 in
      let same : s.mapping ≡ m =
      places.apart s.mapping m (found_contained (λ (k : Mapping). k.«module» == q.0.«module») r.set s.mapping s.found) among (found_number r.set q.0.«module» s.mapping s.found ∙ q.2) in
      record {
        part = part_of q.0;
        among = contains_map part_of (p ∷ rest) q.0 q.1;
        of = q.2;
        from = s.starts ∙ ap (λ (k : Mapping). k.start + relative_of r.set p) same;
        size = s.raw;
      }

  -- each address of the namespace lies in an extent of the entry
  pub covered : (which address : ℕ) → has_address sets found which address ≡ true → Covers (entry_with sets (p ∷ rest) p) which address
  covered which address inside =
      let here : is_inside (over r.set (relative_of r.set p) p.label.raw []) which address ≡ true =
      subst (λ (s : List Mapping). is_inside (over s (relative_of r.set p) p.label.raw []) which address ≡ true) set_is
      (subst (λ (g : Found). has_address sets g which address ≡ true) found_is inside) in
      let m = passing (λ (k : Mapping). (k.«module» == which) && nat_le (k.start + relative_of r.set p) address && nat_lt address (k.start + relative_of r.set p + p.label.raw)) r.set here in
      let t = tests_of m.0.«module» which (m.0.start + relative_of r.set p) address (m.0.start + relative_of r.set p + p.label.raw) m.2 in
      let e : HasExtent (entry_with sets (p ∷ rest) p) m.0.«module» (m.0.start + relative_of r.set p) p.label.raw = extent_on m.0 m.1 in
      record {
        part = e.part;
        among = e.among;
        of = e.of ∙ t.0;
        low = omega (arith, e.from, t.1);
        high = omega (arith, e.from, e.size, t.2);
      }

-- by its entry
covered_by : (sets : List (List Mapping)) (sound : PlaceBytes sets) (labels : List Placed) (own : List Placed) (e : NamespaceEntry) (found : Found) → option_map (entry_with sets own) (slice_get own 0) ≡ Some e
    → found_of sets (Some e) ≡ Ok found → (which address : ℕ) → has_address sets found which address ≡ true → Covers e which address
covered_by sets sound labels [] e found at is which address inside = absurd (none-some e at)
covered_by sets sound labels (p ∷ rest) e found at is which address inside =
    let same : entry_with sets (p ∷ rest) p ≡ e = same_Some (entry_with sets (p ∷ rest) p) e at in
    subst (λ (x : NamespaceEntry). Covers x which address) same
    (covered sets sound p rest found (ap (λ (x : NamespaceEntry). found_of sets (Some x)) same ∙ is) which address inside)

-- ---- two of them

no_clash : (e f : NamespaceEntry) (which address : ℕ) → EntryApart.AreApart e f → Covers e which address → Covers f which address → ⊥
no_clash e f which address apart a b =
    false≢true (sym (apart a.part b.part a.among b.among)
    ∙ meets a.part.extent.«module» b.part.extent.«module» a.part.extent.start a.part.extent.length b.part.extent.start b.part.extent.length address (a.of ∙ sym b.of) a.low a.high b.low b.high)
  where
    meets : (m n s k t l address : ℕ) → m ≡ n → s ≤ address → address < s + k → t ≤ address → address < t + l → ((m == n) && (nat_lt s (t + l) && nat_lt t (s + k))) ≡ true
    meets m n s k t l address same low high low' high' = grind (arith, nat_tests)

-- by the entries of labels
module _ (sets : List (List Mapping)) (sound : PlaceBytes sets) (areas : List (Option Area)) (ns : Namespaces) (entries : ns.entries ≡ (namespaces_of sets areas).entries) where
  covered_at : (uuid : List ℕ) (e : NamespaceEntry) (found : Found) → lookup uuid ns.entries ≡ Some e → found_of sets (Some e) ≡ Ok found → (which address : ℕ) → has_address sets found which address ≡ true
      → Covers e which address
  covered_at uuid e found at is which address inside =
      covered_by sets sound (placed_in_all areas) (labels_with uuid (placed_in_all areas)) e found
      (sym (lookup_entries sets (placed_in_all areas) uuid) ∙ ap (lookup uuid) (sym entries) ∙ at) is which address inside

  -- which entry a namespace was found by
  entry_of : (uuid : List ℕ) (found : Found) (o : Option NamespaceEntry) → lookup uuid ns.entries ≡ o → found_of sets o ≡ Ok found → (e : NamespaceEntry) × (lookup uuid ns.entries ≡ Some e) × (found_of sets (Some e) ≡ Ok found)
  entry_of uuid found None at is = absurd (let f = is in cc)
  entry_of uuid found (Some e) at is = (e, at, is)

  pub are_apart : EntriesApart ns → (u v : List ℕ) (a b : Found) → u ≢ v → found_of sets (lookup u ns.entries) ≡ Ok a → found_of sets (lookup v ns.entries) ≡ Ok b → ShareNoAddress sets a b
  are_apart apart u v a b ne is_a is_b which address inside =
      let e = entry_of u a (lookup u ns.entries) refl is_a in
      let f = entry_of v b (lookup v ns.entries) refl is_b in
      elim (cases_Bool (has_address sets b which address)) [
        | inl both ↦ absurd (no_clash e.0 f.0 which address (apart u v e.0 f.0 ne e.1 f.1) (covered_at u e.0 a e.1 e.2 which address inside) (covered_at v f.0 b f.1 f.2 which address both))
        | inr other ↦ other
      ]

  -- ---- all that are found

  -- the UUID of one of them
  pub record Origin (uuids : List (List ℕ)) (a : FoundNamespace) : Type 0 where
    pub at : ℕ
    pub uuid : slice_get uuids at ≡ Some a.uuid
    pub is : found_of sets (lookup a.uuid ns.entries) ≡ Ok a.found

  abbrev result : List ℕ → Result Found OpRefused
  result uuid = found_of sets (lookup uuid ns.entries)

  origin : (uuids : List (List ℕ)) (i : ℕ) (a : FoundNamespace) → slice_get (found_each sets ns uuids) i ≡ Some a → Origin uuids a
  origin [] i a at = absurd (none-some a at)
  origin (u ∷ us) i a at = by (found_of sets (lookup u ns.entries)) refl i at (λ j later. origin us j a later)
    where
      pass : Origin us a → Origin (u ∷ us) a
      pass o = record { at = suc o.at; uuid = o.uuid; is = o.is }

      by : (r : Result Found OpRefused) → found_of sets (lookup u ns.entries) ≡ r → (j : ℕ) → slice_get (cons_option (found_as u r) (found_each sets ns us)) j ≡ Some a
          → ((k : ℕ) → slice_get (found_each sets ns us) k ≡ Some a → Origin us a) → Origin (u ∷ us) a
      by (Err refused) is j at later = pass (later j at)
      by (Ok found) is zero at later =
          let same : record { uuid = u; found = found } ≡ a = same_Some (record { uuid = u; found = found }) a at in
          subst (λ (x : FoundNamespace). Origin (u ∷ us) x) same (record { at = 0; uuid = refl; is = is })
      by (Ok found) is (suc j) at later = pass (later j at)

  -- two of them, one behind the other
  pub record Origins (uuids : List (List ℕ)) (a b : FoundNamespace) : Type 0 where
    pub first : Origin uuids a
    pub second : Origin uuids b
    pub less : first.at < second.at

  origins : (uuids : List (List ℕ)) (i j : ℕ) (a b : FoundNamespace) → i < j → slice_get (found_each sets ns uuids) i ≡ Some a → slice_get (found_each sets ns uuids) j ≡ Some b → Origins uuids a b
  origins [] i j a b lt at_a at_b = absurd (none-some a at_a)
  origins (u ∷ us) i j a b lt at_a at_b =
      by (found_of sets (lookup u ns.entries)) refl i j lt at_a at_b (λ k l less is_a is_b. origins us k l a b less is_a is_b) (λ l is_b. origin us l b is_b)
    where
      pass : Origins us a b → Origins (u ∷ us) a b
      pass o = record {
        first = record { at = suc o.first.at; uuid = o.first.uuid; is = o.first.is };
        second = record { at = suc o.second.at; uuid = o.second.uuid; is = o.second.is };
        less = omega (arith, o.less);
      }

      by : (r : Result Found OpRefused) → found_of sets (lookup u ns.entries) ≡ r → (i j : ℕ) → i < j → slice_get (cons_option (found_as u r) (found_each sets ns us)) i ≡ Some a
          → slice_get (cons_option (found_as u r) (found_each sets ns us)) j ≡ Some b
          → ((k l : ℕ) → k < l → slice_get (found_each sets ns us) k ≡ Some a → slice_get (found_each sets ns us) l ≡ Some b → Origins us a b)
          → ((l : ℕ) → slice_get (found_each sets ns us) l ≡ Some b → Origin us b) → Origins (u ∷ us) a b
      by (Err refused) is i j lt at_a at_b both one = pass (both i j lt at_a at_b)
      by (Ok found) is i zero lt at_a at_b both one = absurd (omega (arith, lt))
      by (Ok found) is zero (suc j) lt at_a at_b both one =
          let same : record { uuid = u; found = found } ≡ a = same_Some (record { uuid = u; found = found }) a at_a in
          let o : Origin us b = one j at_b in
          subst (λ (x : FoundNamespace). Origins (u ∷ us) x b) same
          (record { first = record { at = 0; uuid = refl; is = is }; second = record { at = suc o.at; uuid = o.uuid; is = o.is }; less = omega arith })
      by (Ok found) is (suc i) (suc j) lt at_a at_b both one = pass (both i j (omega (arith, lt)) at_a at_b)

  ordered : EntriesApart ns → (uuids : List (List ℕ)) → AreDifferent uuids → (i j : ℕ) (a b : FoundNamespace) → i < j → slice_get (found_each sets ns uuids) i ≡ Some a
      → slice_get (found_each sets ns uuids) j ≡ Some b → ShareNoAddress sets a.found b.found × ShareNoAddress sets b.found a.found
  ordered apart uuids different i j a b lt e f =
      let o : Origins uuids a b = origins uuids i j a b lt e f in
      let ne : a.uuid ≢ b.uuid = different o.first.at o.second.at a.uuid b.uuid (λ same. omega (arith, o.less, same)) o.first.uuid o.second.uuid in (
        are_apart apart a.uuid b.uuid a.found b.found ne o.first.is o.second.is,
        are_apart apart b.uuid a.uuid b.found a.found (λ same. ne (sym same)) o.second.is o.first.is,
      )

  pub are_disjoint : EntriesApart ns → (uuids : List (List ℕ)) → AreDifferent uuids → AreDisjoint sets (found_each sets ns uuids)
  are_disjoint apart uuids different i j a b ne e f = elim (cases_lt i j) [
    | inl lt ↦ (ordered apart uuids different i j a b lt e f).0
    | inr le ↦ (ordered apart uuids different j i b a (omega (arith, le, ne)) f e).1
  ]
