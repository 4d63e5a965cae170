-- From an outline whose labels are read to what `info` comes to on its set.
use Rattle.std.proofs.Common.{◌≡◌, ℕ, ◌+◌, ◌*◌, ◌%◌, ◌^◌, ◌<◌, ◌≤◌, List, length, Option, Some, Result, Ok, Err, get_or, refl, sym, ap, ◌∙◌, subst, arith}
use Rattle.std.specs.Prelude.{IfOk}
use Rattle.std.specs.Option.{ForSome}
use Rattle.std.proofs.lemmas.Bool.{le-ltb, lt-ltb}
use Rattle.std.proofs.lemmas.Nat.{mul-le}
use Rattle.nvd_media.specs.Images.{Images}
use Rattle.nfit_reader.specs.declared.table.Mapping.{Mapping}
use Rattle.interleave.specs.Places.{unit_of}
use Rattle.interleave.specs.Sound.{span_of}
use Rattle.arena_open.specs.declared.state.ArenaState.{ArenaState}
use Rattle.arena_open.specs.declared.cell.Cell.TheVariants as cell
use Rattle.arena_open.specs.ChainCells.{contents_of, sectors_of}
use Rattle.session_script.specs.Texts.{cell_text}
use Rattle.power_cut.specs.Namespace.{ReachEnds, over, words_of}
use Rattle.image_set.specs.declared.changing.OutlineRest.{OutlineRest}
use Rattle.image_set.specs.declared.outline.Outline.{Outline}
use Rattle.image_set.specs.Load.{ImageSet}
use Rattle.image_set.specs.Outline.{HasContents, contents_in, image_set_with}
use Rattle.namespace_areas.specs.declared.found.Found.{Found}
use Rattle.namespace_areas.specs.Finding.{LiesInSet, found_of, set_at}
use Rattle.namespace_map.specs.declared.refused.OpRefused.{OpRefused}
use Rattle.namespace_map.specs.Namespaces.{entry_at, lookup}
use Rattle.namespace_ops.specs.declared.registry.OpenFault.{OpenFault}
use Rattle.namespace_ops.specs.Counted.{namespaces_in}
use Rattle.namespace_ops.specs.Opening.{sets_of}
use Rattle.namespace_ops.specs.Registered.{Registered, state_of}
use Rattle.sector_namespaces.specs.View.{opened_view, rows_of, view_words}
use Rattle.served_namespaces.proofs.ReadInTurn.{whole_pages}
use Rattle.shell_reports.specs.Causes.{fault_in}
use Rattle.shell_reports.specs.Faults.{range_text, refusal_text, refused_outcome}
use Rattle.shell_reports.specs.List.{labels_in_set, open_outcome}
use Rattle.shell_reports.specs.Outcome.{Outcome, printed}
use Rattle.shell_reports.specs.Sectors.{on_arenas, on_found, on_sectors, sector_outcome, unless_fault}
use Rattle.shell_sectors.specs.Opening.{HaveSizes, IsOpenOutline}
use Rattle.namespace_words.specs.Source.{HasEnds, Reveals}
use Rattle.namespace_words.proofs.HeldBytes.{contents_long}

-- a property that is kept if memory lasts
pub kept : {A E F : Type 0} (P : A → Type 0) (made : Result A E) (result : Result A F) → IfOk result (λ x. made ≡ Ok x) → IfOk made P → IfOk result P
kept {A} {E} {F} P made (Ok x) same holds = subst (λ (r : Result A E). IfOk r P) same holds
kept {A} {E} {F} P made (Err e) same holds = tt

module _ (outline : Outline) (uuid : List ℕ) (f : List ArenaState → Outcome) (contents : List (List ℕ)) where
  abbrev loaded : ImageSet
  loaded = image_set_with outline contents

  abbrev due : Result Found OpRefused → Outcome
  due found = on_found uuid f (sets_of outline.nfit) contents found

  -- the table or the labels have a fault
  pub fault_due : (fault : OpenFault) → fault_in (image_set_with outline contents) ≡ Some fault → open_outcome fault ≡ on_sectors f (image_set_with outline contents) uuid
  unfolding on_sectors image_set_with
  fault_due fault is = sym (ap (λ (o : Option OpenFault). unless_fault o (due (found_of (sets_of outline.nfit) (entry_at (sets_of outline.nfit) (labels_in_set (image_set_with outline contents)) uuid)))) is)

  module _ (registry : Registered) (rest : OutlineRest) (o : IsOpenOutline outline registry rest) where
    named_due : (r : Result Found OpRefused) → r ≡ found_of registry.sets (lookup uuid (namespaces_in (state_of registry)).entries) → due r ≡ on_sectors f (image_set_with outline contents) uuid
    unfolding on_sectors image_set_with
    named_due r is =
        ap due (is ∙ (λ i. found_of (o.sets i) (o.entry uuid contents i)))
        ∙ ap (λ (fault : Option OpenFault). unless_fault fault (due (found_of (sets_of outline.nfit) (entry_at (sets_of outline.nfit) (labels_in_set (image_set_with outline contents)) uuid)))) (sym (o.none contents))

    -- it isn't found
    pub refused_due : (refusal : OpRefused) → Err refusal ≡ found_of registry.sets (lookup uuid (namespaces_in (state_of registry)).entries) → refused_outcome (refusal_text refusal) ≡ on_sectors f (image_set_with outline contents) uuid
    refused_due refusal is = named_due (Err refusal) is

    -- it is found
    pub found_due : (found : Found) → Ok found ≡ found_of registry.sets (lookup uuid (namespaces_in (state_of registry)).entries)
        → on_arenas uuid f (opened_view (words_of (over (set_at registry.sets found.region) found.offset found.raw (rows_of contents))).kept uuid) ≡ on_sectors f (image_set_with outline contents) uuid
    unfolding view_words
    found_due found is =
        (λ i. on_arenas uuid f (opened_view (words_of (over (set_at (o.sets i) found.region) found.offset found.raw (rows_of contents))).kept uuid))
        ∙ named_due (Ok found) is

-- ---- a namespace that was found

module _ (outline : Outline) (registry : Registered) (rest : OutlineRest) (o : IsOpenOutline outline registry rest) (found : Found) (lies : LiesInSet registry.sets found) (set : List Mapping) (is : set ≡ set_at registry.sets found.region) where
  pub found_pages : length set * found.raw % 4096 ≡ 0
  found_pages =
      subst (λ (ms : List Mapping). length ms * found.raw % 4096 ≡ 0) (sym is)
      (whole_pages (unit_of (set_at registry.sets found.region)) found.raw (length (set_at registry.sets found.region)) (o.pages found.region lies.region) lies.to)

  -- it has no more bytes than all contents may have
  pub found_few : length set * found.raw ≤ 2 ^ 55
  found_few =
      let own : List Mapping = set_at registry.sets found.region in
      let raw : found.raw ≤ span_of own = omega (arith, lies.inside) in
      subst (λ (ms : List Mapping). length ms * found.raw ≤ 2 ^ 55) (sym is)
      (omega (arith, mul-le (length own) found.raw (length own) (span_of own) (omega arith) raw, o.spans found.region lies.region))

  module _ (held : Option Images) (source : Images) (told : held ≡ Some source) (has : HasContents rest.sizes source) where
    have : HaveSizes outline.sizes (contents_in source (length outline.sizes))
    have = sym (subst (λ (r : OutlineRest). HasContents r.sizes source) o.rest_is has)

    reached : ReachEnds set (rows_of (contents_in source (length outline.sizes)))
    reached = subst (λ (ms : List Mapping). ReachEnds ms (rows_of (contents_in source (length outline.sizes)))) (sym is) (o.reach (contents_in source (length outline.sizes)) have found.region lies.region)

    pub found_reveals : Reveals held set (contents_in source (length outline.sizes))
    found_reveals = record {
      source = source;
      told = told;
      are = ap (contents_in source) (sym (contents_long source (length outline.sizes)));
      reach = reached;
    }

    pub found_reach : (count : ℕ) × ReachEnds set (rows_of (contents_in source count))
    found_reach = (length outline.sizes, reached)

  pub found_ends : (held : Option Images) → ForSome held (HasContents rest.sizes) → HasEnds held set
  found_ends held there = λ source told. found_reach held source told (there source told)

-- ---- a sector of its arenas

pub sector_there : (sector : ℕ) (states : List ArenaState) → sector < sectors_of states → printed (cell_text (get_or (contents_of states) sector cell.Bad)) ≡ sector_outcome sector states
sector_there sector states lt = sym (rw (lt-ltb sector (sectors_of states) lt) refl)

pub sector_past : (sector : ℕ) (states : List ArenaState) → sectors_of states ≤ sector → refused_outcome (range_text (sectors_of states)) ≡ sector_outcome sector states
sector_past sector states le = sym (rw (le-ltb sector (sectors_of states) le) refl)
