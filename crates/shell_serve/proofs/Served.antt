-- From what sessions come to on arenas to the set after the cut.
use Rattle.std.proofs.Common.{◌≡◌, ℕ, ◌<◌, ◌^◌, Bool, true, false, List, [], ◌∷◌, ◌++◌, length, map, get_or, Option, Some, Result, Ok, refl, sym, ap, ◌∙◌, subst, Global, arith}
use Rattle.std.specs.Prelude.{All, Contains, Vec, slice_get, slice_index_or}
use Rattle.std.specs.List.{All as AllOf}
use Rattle.std.proofs.lemmas.List.{length-map}
use Rattle.std.proofs.lemmas.Option.{get_or_from_slice_get, slice_get-get_or, slice_get_within}
use Rattle.turn_lock.specs.Rows.{items_at}
use Rattle.cut_words.specs.Words.{IsLeft, Words, settled}
use Rattle.cut_words.specs.WordBytes.{words_in}
use Rattle.nfit_reader.specs.declared.table.Mapping.{Mapping}
use Rattle.arena_layout.specs.declared.info.Info.{Info}
use Rattle.arena_open.specs.declared.cell.Cell.{Cell}
use Rattle.arena_open.specs.declared.opened.Opened.{Opened}
use Rattle.arena_open.specs.declared.refused.OpenRefused.{OpenRefused}
use Rattle.arena_open.specs.declared.state.ArenaState.{ArenaState}
use Rattle.arena_open.specs.Moves.{IsOpenState, state_of}
use Rattle.arena_open.specs.Reading.{cell_at}
use Rattle.lane_core.specs.History.{IsLegal}
use Rattle.lane_core.specs.Reopening.{Reopens, first_cells}
use Rattle.power_cut.specs.Left.{Each}
use Rattle.image_set.specs.declared.outline.Outline.{Outline}
use Rattle.image_set.proofs.Kept.{each_length}
use Rattle.namespace_areas.specs.declared.area.Area.{Area}
use Rattle.namespace_areas.specs.Seen.{AreHeld, AreLeft as AreasLeft, areas_seen, areas_shown, words_of as area_words}
use Rattle.namespace_areas.specs.Steps.{rows_of as label_rows}
use Rattle.namespace_areas.specs.Went.{size_of}
use Rattle.namespace_areas.proofs.Seen.{left_shown}
use Rattle.namespace_map.specs.Areas.{Area as SeenArea}
use Rattle.namespace_ops.specs.Registered.{Registered}
use Rattle.sector_namespaces.specs.View.{rows_of}
use Rattle.served_namespaces.specs.declared.places.FoundNamespace.{FoundNamespace}
use Rattle.served_namespaces.specs.declared.places.OpenedNamespace.{OpenedNamespace}
use Rattle.served_namespaces.specs.Places.{AreDisjoint, words_at}
use Rattle.served_namespaces.specs.Reading.{IsOpened}
use Rattle.served_namespaces.specs.Serving.{AllFit, ArenaFits, IsOpenedFrom}
use Rattle.served_namespaces.specs.Serving as put
use Rattle.served_namespaces.specs.Steps.{IsReady}
use Rattle.session_account.specs.Account.{Accounts, flights_on}
use Rattle.session_account.specs.Journal.{AreLeft, IsJournal}
use Rattle.session_account.specs.Serving.{Serving}
use Rattle.session_account.specs.Survival.{Flight, MayRemain}
use Rattle.session_account.specs.Words.{AreasHold}
use Rattle.session_script.specs.declared.script.Script.{Script}
use Rattle.session_service.specs.declared.ending.Ran.{Ran}
use Rattle.session_service.specs.declared.namespaces.ServedNamespace.{ServedNamespace}
use Rattle.session_service.specs.Namespaces as service
use Rattle.session_service.specs.Ran.{HasServed, IsRunArena, journal_of}
use Rattle.shell_serve.specs.declared.recovered.RecoveredSet.{RecoveredSet}
use Rattle.shell_serve.specs.Answering.{AreSame, IsOpen, IsServed}
use Rattle.shell_serve.specs.Chosen.{ArenasAtCut, ArenasChosen, all_words, words_left}
use Rattle.shell_serve.specs.Serving.{AreLegal, ArenasSurvive, servings_of, unclaimed}
use Rattle.shell_serve.proofs.Lists.{each_back, items_mapped, items_there, same_at}

-- ---- the same namespaces, as sessions get them

first_of : {X : Type 0} (x y : X) (xs ys : List X) → ◌≡◌ {A = List X} (x ∷ xs) (y ∷ ys) → x ≡ y
first_of {X} x y xs ys is = ap (λ (zs : List X). get_or zs 0 x) is

rest_of : {X : Type 0} (x y : X) (xs ys : List X) → ◌≡◌ {A = List X} (x ∷ xs) (y ∷ ys) → xs ≡ ys
rest_of {X} x y xs ys is = let e = is in cc

pub same_servings : (namespaces : List OpenedNamespace) (served : List ServedNamespace) → AreSame namespaces served → service.servings_of served ≡ servings_of namespaces
same_servings [] [] same = refl
same_servings [] (n ∷ served) same = absurd (let e = same.uuids in cc)
same_servings (o ∷ namespaces) [] same = absurd (let e = same.uuids in cc)
same_servings (o ∷ namespaces) (n ∷ served) same =
    let uuid : n.uuid ≡ o.place.uuid = first_of n.uuid o.place.uuid (map (λ (x : ServedNamespace). x.uuid) served) (map (λ (x : OpenedNamespace). x.place.uuid) namespaces) same.uuids in
    let arenas : n.arenas.items ≡ o.states = first_of n.arenas.items o.states (map (λ (x : ServedNamespace). x.arenas.items) served) (map (λ (x : OpenedNamespace). x.states) namespaces) same.arenas in
    let rest : AreSame namespaces served = record {
      uuids = rest_of n.uuid o.place.uuid (map (λ (x : ServedNamespace). x.uuid) served) (map (λ (x : OpenedNamespace). x.place.uuid) namespaces) same.uuids;
      arenas = rest_of n.arenas.items o.states (map (λ (x : ServedNamespace). x.arenas.items) served) (map (λ (x : OpenedNamespace). x.states) namespaces) same.arenas;
    } in
    λ i. record { uuid = uuid i; arenas = map service.shape_by (arenas i) } ∷ same_servings namespaces served rest i

pub same_count : (namespaces : List OpenedNamespace) (served : List ServedNamespace) → AreSame namespaces served → length served ≡ length namespaces
same_count namespaces served same =
    sym (length-map served (λ (n : ServedNamespace). n.uuid)) ∙ ap (λ (us : List (List ℕ)). length us) same.uuids ∙ length-map namespaces (λ (o : OpenedNamespace). o.place.uuid)

-- the namespace at a place, as sessions got it
same_there : (namespaces : List OpenedNamespace) (served : List ServedNamespace) (k : ℕ) (o : OpenedNamespace) → AreSame namespaces served → slice_get namespaces k ≡ Some o
    → (n : ServedNamespace) × (slice_get served k ≡ Some n) × (n.arenas.items ≡ o.states)
same_there namespaces served k o same at = same_at (λ (x : OpenedNamespace). x.states) (λ (n : ServedNamespace). n.arenas.items) namespaces served k o same.arenas at

pub opened_all : (namespaces : List OpenedNamespace) (served : List ServedNamespace) → AreSame namespaces served → ((o : OpenedNamespace) → Contains namespaces o → All IsOpenState o.states) → All service.AreOpened served
opened_all namespaces served same each k d lt =
    let at : slice_get served k ≡ Some (get_or served k d) = slice_get-get_or served k d lt in
    let (o, at_o, is) = same_at (λ (n : ServedNamespace). n.arenas.items) (λ (x : OpenedNamespace). x.states) served namespaces k (get_or served k d) (sym same.arenas) at in
    subst (λ (states : List ArenaState). All IsOpenState states) is (each o (k, slice_get_within namespaces k o at_o, get_or_from_slice_get namespaces k o o at_o))

-- ---- arenas

abbrev items_of : Vec Words Global → List Words
items_of own = own.items

same_opened : (a b : Opened) → ◌≡◌ {A = Result Opened OpenRefused} (Ok a) (Ok b) → a ≡ b
same_opened a b e = cc

-- words that reopen may stand in the place of an arena's
fits : (state : ArenaState) (May : ℕ → Cell → Type 0) (part : List ℕ) → Reopens state May part → ArenaFits state part
fits state May part r = record { size = r.size; opens = λ behind parent arena opens. let f = r.opens behind parent arena opens in (f.arena, f.opens, f.info) }

-- what opens from them has the cells that are promised
sectors_left : (state new : ArenaState) (May : ℕ → Cell → Type 0) (part : List ℕ) → Reopens state May part → IsOpenedFrom state part new → (sector : ℕ) → sector < state.info.layout.external → May sector (first_cells new sector)
sectors_left state new May part r from sector lt =
    let f = r.opens from.behind from.parent from.before from.opened in
    let same : f.arena ≡ from.found = same_opened f.arena from.found (sym f.opens ∙ from.opens) in
    subst (λ (a : ArenaState). May sector (first_cells a sector)) (sym from.is)
    (subst (λ (o : Opened). May sector (cell_at o.info.layout (state_of (part ++ from.behind) o).words sector)) same (f.contents sector lt))

module _ (namespaces : List OpenedNamespace) (served : List ServedNamespace) (same : AreSame namespaces served) (registry : Registered) (script : Script) (ran : Ran) (has : HasServed registry served script ran) where
  abbrev flights : ℕ → ℕ → List Flight
  flights place k = flights_on (servings_of namespaces) place k script has.replies has.histories

  -- the words of an arena
  arena_there : (place k : ℕ) (o : OpenedNamespace) (state : ArenaState) → slice_get namespaces place ≡ Some o → slice_get o.states k ≡ Some state → (own : Vec Words Global) → slice_get ran.arenas.items place ≡ Some own
      → (words : Words) → slice_get own.items k ≡ Some words → IsRunArena state (has.histories place k) (flights place k) words
  arena_there place k o state at_o at_state own at_own words at_words =
      let (n, at_n, arenas) = same_there namespaces served place o same at_o in
      let n_is : slice_index_or served place n ≡ n = get_or_from_slice_get served place n n at_n in
      let states_is : (slice_index_or served place n).arenas.items ≡ o.states = ap (λ (x : ServedNamespace). x.arenas.items) n_is ∙ arenas in
      let inside : k < length (slice_index_or served place n).arenas.items = subst (λ (states : List ArenaState). k < length states) (sym states_is) (slice_get_within o.states k state at_state) in
      let run = has.arenas place k n state words (slice_get_within served place n at_n) inside in
      let state_is : slice_index_or (slice_index_or served place n).arenas.items k state ≡ state = ap (λ (states : List ArenaState). slice_index_or states k state) states_is ∙ get_or_from_slice_get o.states k state state at_state in
      let words_is : slice_index_or (items_at ran.arenas.items place) k words ≡ words = ap (λ (ws : List Words). slice_index_or ws k words) (items_there ran.arenas.items place own at_own) ∙ get_or_from_slice_get own.items k words words at_words in
      subst (λ (all : List Serving). IsRunArena state (has.histories place k) (flights_on all place k script has.replies has.histories) words) (same_servings namespaces served same)
      (subst (λ (s : ArenaState). IsRunArena s (has.histories place k) (flights_on (service.servings_of served) place k script has.replies has.histories) words) state_is
      (subst (λ (w : Words). IsRunArena (slice_index_or (slice_index_or served place n).arenas.items k state) (has.histories place k)
      (flights_on (service.servings_of served) place k script has.replies has.histories) w) words_is run))

  -- each namespace has the words of as many arenas as it has
  arena_count : (place : ℕ) (o : OpenedNamespace) → slice_get namespaces place ≡ Some o → (own : Vec Words Global) → slice_get ran.arenas.items place ≡ Some own → length own.items ≡ length o.states
  arena_count place o at_o own at_own =
      let (n, at_n, arenas) = same_there namespaces served place o same at_o in
      ap (λ (ws : List Words). length ws) (sym (items_there ran.arenas.items place own at_own)) ∙ has.counts place n (slice_get_within served place n at_n)
      ∙ ap (λ (x : ServedNamespace). length x.arenas.items) (get_or_from_slice_get served place n n at_n) ∙ ap (λ (states : List ArenaState). length states) arenas

  module _ (words : List (List (List ℕ))) (cut : Each (λ own parts. Each IsLeft own.items parts) ran.arenas.items words) where
    part_there : (place k : ℕ) (o : OpenedNamespace) (state : ArenaState) (parts : List (List ℕ)) (part : List ℕ) → slice_get namespaces place ≡ Some o → slice_get o.states k ≡ Some state → slice_get words place ≡ Some parts
        → slice_get parts k ≡ Some part → IsLegal (first_cells state) (has.histories place k) × Reopens state (MayRemain (first_cells state) (has.histories place k) (flights place k)) part
    part_there place k o state parts part at_o at_state at_parts at_part =
        let (own, at_own, each) = each_back (λ own ps. Each IsLeft own.items ps) ran.arenas.items words place parts cut at_parts in
        let (arena, at_arena, is) = each_back IsLeft own.items parts k part each at_part in
        let run = arena_there place k o state at_o at_state own at_own arena at_arena in
        (run.legal, run.at_cut.due part is)

    -- the words of all arenas may be put back
    pub all_fit : AllFit namespaces words
    all_fit = record {
      count = each_length (λ own ps. Each IsLeft own.items ps) ran.arenas.items words cut ∙ has.places ∙ same_count namespaces served same;
      each = λ place o parts at_o at_parts.
          let (own, at_own, each) = each_back (λ own ps. Each IsLeft own.items ps) ran.arenas.items words place parts cut at_parts in
          record {
            count = each_length IsLeft own.items parts each ∙ arena_count place o at_o own at_own;
            each = λ k state part at_state at_part.
                fits state (MayRemain (first_cells state) (has.histories place k) (flights place k)) part (part_there place k o state parts part at_o at_state at_parts at_part).1;
          };
    }

    module _ (sets : List (List Mapping)) (loaded now : List Words) (left : put.AreLeft sets loaded namespaces words now) where
      -- the sectors of a namespace survive
      pub survives : (place : ℕ) (d : OpenedNamespace) → place < length namespaces
          → ArenasSurvive (slice_index_or namespaces place d) (words_at sets (slice_index_or namespaces place d).place.found now) (has.histories place) (flights place)
      survives place d lt =
          let o = slice_index_or namespaces place d in
          let at_o : slice_get namespaces place ≡ Some o = slice_get-get_or namespaces place d lt in
          let lt_words : place < length words = omega (arith, lt, all_fit.count) in
          let parts = get_or words place [] in
          let at_parts : slice_get words place ≡ Some parts = slice_get-get_or words place [] lt_words in
          let is = left.each place o parts at_o at_parts in
          let counted = all_fit.each place o parts at_o at_parts in
          let news_count : length is.news ≡ length o.states =
          sym (length-map is.news (λ (s : ArenaState). s.info)) ∙ ap (λ (infos : List Info). length infos) is.infos ∙ length-map o.states (λ (s : ArenaState). s.info) in
          record {
            news = is.news;
            opens = is.opens;
            infos = is.infos;
            cells = λ k e inside.
                let state = slice_index_or o.states k e in
                let at_state : slice_get o.states k ≡ Some state = slice_get-get_or o.states k e inside in
                let new = slice_index_or is.news k e in
                let at_new : slice_get is.news k ≡ Some new = slice_get-get_or is.news k e (omega (arith, inside, news_count)) in
                let part = get_or parts k [] in
                let at_part : slice_get parts k ≡ Some part = slice_get-get_or parts k [] (omega (arith, inside, counted.count)) in
                sectors_left state new (MayRemain (first_cells state) (has.histories place k) (flights place k)) part (part_there place k o state parts part at_o at_state at_parts at_part).1
                (is.arenas k state new part at_state at_new at_part);
          }

      -- each history is legal
      pub legal : (place : ℕ) (d : OpenedNamespace) → place < length namespaces → AreLegal (slice_index_or namespaces place d).states (has.histories place)
      legal place d lt k e inside =
          let o = slice_index_or namespaces place d in
          let at_o : slice_get namespaces place ≡ Some o = slice_get-get_or namespaces place d lt in
          let lt_words : place < length words = omega (arith, lt, all_fit.count) in
          let parts = get_or words place [] in
          let at_parts : slice_get words place ≡ Some parts = slice_get-get_or words place [] lt_words in
          let counted = all_fit.each place o parts at_o at_parts in
          let at_state : slice_get o.states k ≡ Some (slice_index_or o.states k e) = slice_get-get_or o.states k e inside in
          let at_part : slice_get parts k ≡ Some (get_or parts k []) = slice_get-get_or parts k [] (omega (arith, inside, counted.count)) in
          (part_there place k o (slice_index_or o.states k e) parts (get_or parts k []) at_o at_state at_parts at_part).0

      -- the words of the arenas and what is left of them
      pub arenas_chosen : (leaves : List (Option Words) → List (Option (List ℕ)) → Type 0) → leaves (all_words (map items_of ran.arenas.items)) (words_left words)
          → ArenasChosen leaves sets namespaces has.histories flights now
      arenas_chosen leaves chosen = record {
        words = map items_of ran.arenas.items;
        parts = words;
        words_count = length-map ran.arenas.items items_of ∙ has.places ∙ same_count namespaces served same;
        parts_count = all_fit.count;
        each = λ place d lt.
            let o = slice_index_or namespaces place d in
            let at_o : slice_get namespaces place ≡ Some o = slice_get-get_or namespaces place d lt in
            let lt_words : place < length words = omega (arith, lt, all_fit.count) in
            let parts = get_or words place [] in
            let at_parts : slice_get words place ≡ Some parts = slice_get-get_or words place [] lt_words in
            let (own, at_own, cuts) = each_back (λ own ps. Each IsLeft own.items ps) ran.arenas.items words place parts cut at_parts in
            let counted = arena_count place o at_o own at_own in
            subst (λ (ws : List Words). ArenasAtCut o (words_at sets o.place.found now) (has.histories place) (flights place) ws parts) (sym (items_mapped ran.arenas.items place own at_own))
            (record {
              words_count = counted;
              parts_count = (all_fit.each place o parts at_o at_parts).count;
              each = λ k e arena inside.
                  (arena_there place k o (slice_index_or o.states k e) at_o (slice_get-get_or o.states k e inside) own at_own (slice_index_or own.items k arena) (slice_get-get_or own.items k arena (omega (arith, inside, counted)))).at_cut;
              begins = (left.each place o parts at_o at_parts).words;
            });
        chosen = chosen;
      }

  -- ---- label areas

  -- whatever their state after a crash
  pub labels_left : registry.opening ≡ registry.areas → AreHeld registry.areas → (rows : List (Option (List ℕ))) → AreasLeft ran.registry.areas rows
      → AreLeft registry.sets (unclaimed (areas_seen registry.areas)) script.labelcut (journal_of ran) (areas_shown rows)
  labels_left same_areas held rows left = subst (λ (xs : List Area). AreLeft registry.sets (unclaimed (areas_seen xs)) script.labelcut (journal_of ran) (areas_shown rows)) same_areas (by ran.registry.stopped refl)
    where
      by : (b : Bool) → ran.registry.stopped ≡ b → AreLeft registry.sets (unclaimed (areas_seen registry.opening)) script.labelcut (journal_of ran) (areas_shown rows)
      by true off = has.off off rows left
      by false on = subst (λ (xs : List (Option SeenArea)). AreLeft registry.sets (unclaimed (areas_seen registry.opening)) script.labelcut (journal_of ran) xs) (sym (left_shown ran.registry.areas rows (has.areas.held held on) left)) (has.on on)

  -- the words that they hold
  pub labels_hold : registry.opening ≡ registry.areas → AreHeld registry.areas
      → AreasHold registry.sets (unclaimed (areas_seen registry.areas)) (label_rows registry.areas) script.labelcut (journal_of ran) (map area_words ran.registry.areas)
  labels_hold same_areas held =
      subst (λ (xs : List Area). AreasHold registry.sets (unclaimed (areas_seen xs)) (label_rows xs) script.labelcut (journal_of ran) (map area_words ran.registry.areas)) same_areas
      (has.words (subst AreHeld (sym same_areas) held))

-- ---- all of it

module _ (outline : Outline) (set : RecoveredSet) (namespaces : List OpenedNamespace) (is : IsOpen outline set namespaces) (served : List ServedNamespace) (same : AreSame namespaces served) (script : Script) (ran : Ran) (has : HasServed set.registry served script ran)
    (words : List (List (List ℕ))) (cut : Each (λ own parts. Each IsLeft own.items parts) ran.arenas.items words) where
  -- the words may be put back
  pub is_ready : (places : List FoundNamespace) (sets : List (List Mapping)) → places ≡ map (λ (o : OpenedNamespace). o.place) namespaces → sets ≡ ran.registry.sets → IsReady sets places namespaces words
  is_ready places sets are held = record {
    places_are = sym are;
    each = subst (λ (s : List (List Mapping)). AllOf (IsOpened s) namespaces) (sym (held ∙ has.sets)) is.each;
    disjoint = subst (λ (ps : List FoundNamespace). AreDisjoint sets ps) (sym are)
        (subst (λ (s : List (List Mapping)). AreDisjoint s (map (λ (o : OpenedNamespace). o.place) namespaces)) (sym (held ∙ has.sets)) is.disjoint);
    fit = all_fit namespaces served same set.registry script ran has words cut;
  }

  -- there are as many label areas as before
  pub areas_count : length ran.registry.areas ≡ length set.registry.areas
  areas_count = sym (length-map ran.registry.areas size_of) ∙ ap (λ (ns : List ℕ). length ns) has.areas.sizes ∙ length-map set.registry.areas size_of

  module _ (contents : List (List ℕ)) where
    pub is_served : (leaves : List (Option Words) → List (Option (List ℕ)) → Type 0) → leaves (all_words (map items_of ran.arenas.items)) (words_left words) → (now : List Words) (sets : List (List Mapping)) → sets ≡ ran.registry.sets
        → put.AreLeft sets (rows_of contents) namespaces words now → IsServed leaves set.registry.sets set.registry.areas ran.registry.areas contents namespaces script now ran.texts.items
    is_served leaves chosen now sets held left =
        let here : put.AreLeft set.registry.sets (rows_of contents) namespaces words now = subst (λ (s : List (List Mapping)). put.AreLeft s (rows_of contents) namespaces words now) (held ∙ has.sets) left in
        let r = is.recovered.is contents in
        record {
          replies = has.replies;
          texts = has.texts;
          journal = journal_of ran;
          histories = has.histories;
          commands = subst (λ (xs : List Area). IsJournal set.registry.sets (unclaimed (areas_seen xs)) script.labelcut (journal_of ran)) r.opening has.commands;
          legal = legal namespaces served same set.registry script ran has words cut set.registry.sets (rows_of contents) now here;
          accounts = subst (λ (all : List Serving). Accounts all script has.replies (journal_of ran) has.histories) (same_servings namespaces served same) has.accounts;
          labels = labels_left namespaces served same set.registry script ran has r.opening r.held;
          hold = labels_hold namespaces served same set.registry script ran has r.opening r.held;
          survive = survives namespaces served same set.registry script ran has words cut set.registry.sets (rows_of contents) now here;
          beside = here.beside;
          chosen = arenas_chosen namespaces served same set.registry script ran has words cut set.registry.sets (rows_of contents) now here leaves chosen;
          unread = has.areas.beside;
          sizes = has.areas.sizes;
        }
