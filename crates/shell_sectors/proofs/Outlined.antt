-- From an outline to one whose labels are read.
use Rattle.std.proofs.Common.{◌≡◌, ℕ, ◌+◌, ◌-◌, ◌*◌, ◌/◌, ◌%◌, ◌^◌, ◌<◌, ◌≤◌, max, List, [], ◌∷◌, inl, inr, length, map, get_or, Some, Ok, Err, refl, sym, ap, ◌∙◌, subst, arith}
use Rattle.std.specs.List.{All}
use Rattle.std.proofs.Math.Nat.{max-eq_left, max-eq_right}
use Rattle.std.proofs.lemmas.Bool.{cases_lt}
use Rattle.std.proofs.lemmas.Nat.{pow-add, pow_below}
use Rattle.std.proofs.lemmas.List.{get_or-map, length-map}
use Rattle.std.proofs.lemmas.List.Elements.{All-contains}
use Rattle.std.proofs.lemmas.Option.{get_or_from_slice_get, slice_get-get_or, slice_get_within}
use Rattle.nvd_words.specs.Checks.{first_fault}
use Rattle.cut_words.specs.Words.{Words, settled}
use Rattle.cut_words.specs.WordBytes.{words_in}
use Rattle.nfit_reader.specs.declared.table.Mapping.{Mapping}
use Rattle.nfit_reader.specs.declared.table.Region.{Region}
use Rattle.interleave.specs.Places.{by_offset, line_count_of, line_size_of, unit_of}
use Rattle.interleave.specs.Sound.{IsShare, IsSound, span_of}
use Rattle.interleave.specs.Sets.{faults_of, set_reading}
use Rattle.interleave.proofs.Checked.{no_fault}
use Rattle.interleave.proofs.Holders.{In, in_from, in_to}
use Rattle.interleave.proofs.Sorted.{in_by_offset, sound_set}
use Rattle.label_set.specs.declared.placed.Placed.{Placed}
use Rattle.arena_open.proofs.Bytes.{length_words}
use Rattle.power_cut.specs.Namespace.{HasBytes, ReachEnds, row_of}
use Rattle.image_set.specs.declared.outline.Outline.{Outline}
use Rattle.image_set.specs.Limits.{most_contents}
use Rattle.image_set.specs.Outline.{IsLoadable, IsOutlined, image_set_with}
use Rattle.image_set.specs.Sizes.{IsContentsSize}
use Rattle.image_set.specs.Sound.{AreMapped, IsMapped}
use Rattle.namespace_areas.specs.declared.area.Area.{Area}
use Rattle.namespace_areas.specs.Areas.{labels_of, shown_in}
use Rattle.namespace_areas.specs.Finding.{set_at}
use Rattle.namespace_areas.specs.Opening.{opened_as}
use Rattle.namespace_areas.specs.Seen.{AreHeld, words_of}
use Rattle.namespace_areas.proofs.Opening.{words_all}
use Rattle.namespace_bytes.specs.Patching.{AreWhole}
use Rattle.namespace_map.specs.Namespaces.{entry_at, lookup, placed_of}
use Rattle.namespace_ops.specs.declared.registry.OpenFault.{OpenFault}
use Rattle.namespace_ops.specs.Counted.{namespaces_in}
use Rattle.namespace_ops.specs.Opening.{registry_opening, sets_of}
use Rattle.namespace_ops.specs.Registered.{Registered, state_of}
use Rattle.namespace_ops.proofs.Regions.{sets_are as sets_checked}
use Rattle.namespace_ops.proofs.Shown.{shown_at}
use Rattle.sector_namespaces.specs.View.{rows_of}
use Rattle.sector_namespaces.proofs.Spans.{spans_within}
use Rattle.shell_changes.specs.Saved.{AreWholeSizes}
use Rattle.shell_reports.specs.Causes.{fault_in}
use Rattle.shell_reports.specs.List.{labels_in_set}
use Rattle.shell_reports.specs.Sectors.{registry_fault}
use Rattle.shell_reports.proofs.Arenas.{IsOpened, fault_is, opened_is, set_none}
use Rattle.shell_reports.proofs.Opened.{are_whole, held_opened, shown_all}
use Rattle.shell_sectors.specs.Opening.{HaveSizes, IsOpenOutline, rest_of}

-- ---- contents of the given sizes

-- they are whole words
pub whole_sizes : (sizes : List ℕ) → All IsContentsSize sizes → AreWholeSizes sizes
whole_sizes sizes sized = λ k d lt. omega (arith, (sized k d lt).multiple)

pub whole_rows : (sizes : List ℕ) (contents : List (List ℕ)) → HaveSizes sizes contents → AreWholeSizes sizes → AreWhole contents
whole_rows sizes contents have whole = λ k d lt.
    subst (λ (n : ℕ). n % 8 ≡ 0) (ap (λ (ns : List ℕ). get_or ns k 0) (sym have) ∙ get_or-map (λ row. length row) contents k d 0 lt)
    (whole k 0 (omega (arith, lt, ap length have, length-map contents (λ (row : List ℕ). length row))))

module _ (sizes : List ℕ) (contents : List (List ℕ)) (have : HaveSizes sizes contents) (whole : AreWholeSizes sizes) where
  size_at : (k : ℕ) → k < length contents → get_or sizes k 0 ≡ 8 * length (row_of (rows_of contents) k).kept
  size_at k lt =
      let row : row_of (rows_of contents) k ≡ settled (words_in (get_or contents k [])) = get_or-map (λ bytes. settled (words_in bytes)) contents k [] (record { kept = []; stored = [] }) lt in
      let long : get_or sizes k 0 ≡ length (get_or contents k []) = ap (λ (ns : List ℕ). get_or ns k 0) (sym have) ∙ get_or-map (λ r. length r) contents k [] 0 lt in
      let eights : get_or sizes k 0 % 8 ≡ 0 = whole k 0 (omega (arith, lt, ap length have, length-map contents (λ (r : List ℕ). length r))) in
      let words : length (row_of (rows_of contents) k).kept ≡ length (get_or contents k []) / 8 = ap (λ (w : Words). length w.kept) row ∙ length_words (get_or contents k []) in
      omega (arith, long, eights, words)

  has_bytes : (m : Mapping) → IsMapped sizes m → HasBytes (rows_of contents) m.«module» m.start m.size
  has_bytes m mapped =
      let lt : m.«module» < length contents = omega (arith, mapped.there, ap length have, length-map contents (λ (r : List ℕ). length r)) in
      record {
        there = omega (arith, lt, length-map contents (λ (bytes : List ℕ). settled (words_in bytes)));
        reaches = omega (arith, mapped.inside, size_at m.«module» lt);
      }

  -- they hold the mappings of a region's set
  reach_of : (r : Region) (set : List Mapping) → set_reading r ≡ Ok set → AreMapped sizes r → ReachEnds set (rows_of contents)
  reach_of r set read mapped = λ m c.
      let same : by_offset r.mappings ≡ set = (no_fault (by_offset r.mappings) set (first_fault (faults_of r r.mappings)) read).1 in
      has_bytes m (All-contains (IsMapped sizes) r.mappings m mapped (in_to r.mappings m (in_by_offset r.mappings m (subst (λ (ms : List Mapping). In ms m) (sym same) (in_from set m c)))))

-- ---- units

-- a power of two that isn't below a page is whole pages
whole_power : (k : ℕ) → max 4096 (2 ^ k) % 4096 ≡ 0
whole_power k = elim (cases_lt 12 k) [
  | inl more ↦
      let big : 4096 ≤ 2 ^ k = omega (arith, pow_below 12 k more) in
      let split : 2 ^ k ≡ 2 ^ 12 * 2 ^ (k - 12) = ap (λ (j : ℕ). 2 ^ j) (let z : k ≡ 12 + (k - 12) = omega arith in z) ∙ pow-add 2 12 (k - 12) in
      ap (λ (n : ℕ). n % 4096) (max-eq_right big ∙ split) ∙ omega arith
  | inr few ↦
      let small : 2 ^ k ≤ 4096 = elim (cases_lt k 12) [
        | inl less ↦ omega (arith, pow_below k 12 less)
        | inr same ↦ (let twelve : k ≡ 12 = omega arith in rw twelve (omega arith))
      ] in
      ap (λ (n : ℕ). n % 4096) (max-eq_left small) ∙ omega arith
]

-- so is the unit of a set
whole_unit : (line lines span : ℕ) (set : List Mapping) → IsSound line lines span set → unit_of set % 4096 ≡ 0
whole_unit line lines span [] sound = refl
whole_unit line lines span (m ∷ ms) sound =
    let share : IsShare line lines span m = sound.shares m (in_to (m ∷ ms) m (inl refl)) in
    let is : line_count_of m * line_size_of m ≡ 2 ^ sound.power.0 = (λ i. share.line_count i * share.line_size i) ∙ sound.power.1 in
    subst (λ (u : ℕ). max 4096 u % 4096 ≡ 0) (sym is) (whole_power sound.power.0)

-- ---- the labels

module _ (outline : Outline) (contents : List (List ℕ)) (areas : List Area) (are : areas ≡ map opened_as outline.labels) where
  labels_are : labels_of areas ≡ labels_in_set (image_set_with outline contents)
  unfolding image_set_with
  labels_are = ap placed_of (ap (map shown_in) are ∙ shown_all outline.labels)

  fault_was : fault_in (image_set_with outline contents) ≡ registry_fault outline.nfit (labels_of areas)
  unfolding image_set_with
  fault_was = ap (registry_fault outline.nfit) (sym labels_are)

  pub fault_found : (fault : OpenFault) → Err fault ≡ registry_opening outline.nfit areas → fault_in (image_set_with outline contents) ≡ Some fault
  fault_found fault is = fault_was ∙ fault_is outline.nfit areas fault is

module _ (outline : Outline) (sound : IsOutlined outline) (loadable : IsLoadable outline) (areas : List Area) (are : areas ≡ map opened_as outline.labels) where
  pub held : AreHeld areas
  held = held_opened outline.labels areas are sound.areas

  module _ (registry : Registered) (is : Ok registry ≡ registry_opening outline.nfit areas) where
    o : IsOpened outline.nfit areas registry
    o = opened_is outline.nfit areas registry is

    sets_are : registry.sets ≡ sets_of outline.nfit
    sets_are = ap (λ (r : Registered). r.sets) o.is

    words_are : map words_of registry.areas ≡ outline.labels
    words_are =
        ap (λ (r : Registered). map words_of r.areas) o.is
        ∙ ap (map words_of) are
        ∙ words_all outline.labels (are_whole outline.labels sound.areas)

    entry_is : (uuid : List ℕ) (contents : List (List ℕ)) → lookup uuid (namespaces_in (state_of registry)).entries ≡ entry_at (sets_of outline.nfit) (labels_in_set (image_set_with outline contents)) uuid
    entry_is uuid contents =
        ap (λ (r : Registered). lookup uuid (namespaces_in (state_of r)).entries) o.is
        ∙ sym (shown_at (sets_of outline.nfit) areas (labels_of areas) uuid held (λ u. refl))
        ∙ ap (λ (labels : List Placed). entry_at (sets_of outline.nfit) labels uuid) (labels_are outline contents areas are)

    whole : AreWholeSizes outline.sizes
    whole = whole_sizes outline.sizes loadable.sized

    -- the region of a set
    region_of : (region : ℕ) → region < length registry.sets → (r : Region) × ((set_reading r ≡ Ok (set_at (sets_of outline.nfit) region)) × AreMapped outline.sizes r)
    region_of region lt =
        let checked = sets_checked outline.nfit.regions 0 (set_none outline.nfit (labels_of areas) o.none) in
        let own = checked region (set_at (sets_of outline.nfit) region) (slice_get-get_or (sets_of outline.nfit) region [] (omega (arith, lt, ap length sets_are))) in (
          own.0,
          (
            own.2,
            subst (AreMapped outline.sizes) (get_or_from_slice_get outline.nfit.regions region own.0 own.0 own.1)
                (loadable.mapped region own.0 (slice_get_within outline.nfit.regions region own.0 own.1)),
          ),
        )

    reach : (contents : List (List ℕ)) → HaveSizes outline.sizes contents → (region : ℕ) → region < length registry.sets → ReachEnds (set_at registry.sets region) (rows_of contents)
    reach contents have region lt =
        let own = region_of region lt in
        subst (λ (sets : List (List Mapping)). ReachEnds (set_at sets region) (rows_of contents)) (sym sets_are)
        (reach_of outline.sizes contents have whole own.0 (set_at (sets_of outline.nfit) region) own.1.0 own.1.1)

    spans : (region : ℕ) → region < length registry.sets → length (set_at registry.sets region) * span_of (set_at registry.sets region) ≤ most_contents
    spans region lt =
        let own = region_of region lt in
        subst (λ (sets : List (List Mapping)). length (set_at sets region) * span_of (set_at sets region) ≤ most_contents) (sym sets_are)
        (omega (arith, loadable.total, spans_within outline.sizes own.0 (set_at (sets_of outline.nfit) region) own.1.0 own.1.1))

    pages : (region : ℕ) → region < length registry.sets → unit_of (set_at registry.sets region) % 4096 ≡ 0
    pages region lt =
        let own = region_of region lt in
        let s = sound_set own.0 (set_at (sets_of outline.nfit) region) own.1.0 in
        subst (λ (sets : List (List Mapping)). unit_of (set_at sets region) % 4096 ≡ 0) (sym sets_are) (whole_unit s.line s.lines s.span (set_at (sets_of outline.nfit) region) s.sound)

    pub open_outline : IsOpenOutline outline registry (rest_of outline)
    open_outline = record {
      is = is ∙ ap (registry_opening outline.nfit) are;
      none = λ contents. fault_was outline contents areas are ∙ o.none;
      running = ap (λ (r : Registered). r.stopped) o.is;
      held = subst AreHeld (sym (ap (λ (r : Registered). r.areas) o.is)) held;
      sets = sets_are;
      entry = entry_is;
      labels = words_are;
      settled = are_whole outline.labels sound.areas;
      rest_is = refl;
      is_rest = record { bad = sound.bad; few = sound.few };
      count = sym (length-map registry.areas words_of) ∙ ap length words_are ∙ sound.labels;
      sizes = whole;
      pages = pages;
      spans = spans;
      reach = reach;
    }
