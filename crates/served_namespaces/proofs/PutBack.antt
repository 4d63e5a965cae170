-- The arenas of one namespace more are put back.
use Rattle.std.proofs.Common.{◌≡◌, ◌≢◌, ℕ, zero, suc, ◌+◌, ◌*◌, ◌<◌, ◌≤◌, List, [], ◌∷◌, ◌++◌, length, drop, take, map, Some, refl, sym, ap, ◌∙◌, subst, inl, inr, arith}
use Rattle.std.specs.Prelude.{flat_map, slice_get}
use Rattle.std.specs.List.{All}
use Rattle.std.proofs.lemmas.Bool.{cases_lt}
use Rattle.std.proofs.lemmas.List.{take-append-drop}
use Rattle.std.proofs.lemmas.List.Elements.{All-contains, All-head, All-tail}
use Rattle.std.proofs.lemmas.Option.{none-some, same_Some}
use Rattle.cut_words.specs.Words.{Words, settled}
use Rattle.cut_words.specs.WordBytes.{put_at, words_in}
use Rattle.nfit_reader.specs.declared.table.Mapping.{Mapping}
use Rattle.arena_open.specs.declared.state.ArenaState.{ArenaState}
use Rattle.arena_open.specs.Chain.{found_again}
use Rattle.arena_open.specs.Moves.{IsOpenState}
use Rattle.arena_open.proofs.Own.{Lies, lies}
use Rattle.power_cut.specs.Namespace.{beside_of, words_of}
use Rattle.namespace_bytes.specs.declared.runs.Run.{Run}
use Rattle.namespace_bytes.specs.Runs.{run_byte, runs_byte}
use Rattle.namespace_bytes.proofs.ByteWords.{changed, length_changed}
use Rattle.namespace_bytes.proofs.RunWords.{more_changed, none_changed, whole_run}
use Rattle.sector_namespaces.specs.View.{opened_view}
use Rattle.sector_namespaces.proofs.Chains.{Walk, back, view_walk}
use Rattle.sector_namespaces.proofs.Views.{some_words}
use Rattle.served_namespaces.specs.declared.places.OpenedNamespace.{OpenedNamespace}
use Rattle.served_namespaces.specs.Places.{ShareNoAddress, AreDisjoint, KeepsBeside, PlaceBytes, arena_words, place_in, words_at}
use Rattle.served_namespaces.specs.Putting.{put_parts, total_of}
use Rattle.served_namespaces.specs.Reading.{IsHeld, IsOpened}
use Rattle.served_namespaces.specs.Serving.{AllFit, ArenaFits, ArenasFit, BeginsWith, IsLeft, IsOpenedFrom}
use Rattle.served_namespaces.specs.Steps.{ArePartRuns}
use Rattle.served_namespaces.proofs.Apart.{others_stay}
use Rattle.served_namespaces.proofs.Arenas.{again_words, all_inside, words_cons}
use Rattle.served_namespaces.proofs.Parts.{AreOpenedFrom, AreOpenStates, EachFits, WalksNow, begins_with, has_parts, parts_behind, parts_length, total_cons, walks_now}
use Rattle.served_namespaces.proofs.Steps.{got_contains, keeps_beside, place_of}

-- ---- the runs of parts

pub parts_put : (at : ℕ) (parts : List (List ℕ)) (runs : List Run) (row : List ℕ) → ArePartRuns at parts runs → 8 * (at + total_of parts) ≤ length row
    → words_in (changed (runs_byte runs) row) ≡ put_parts at parts (words_in row)
parts_put at [] [] row are fits = ap words_in (none_changed row)
parts_put at [] (run ∷ runs) row are fits = absurd are
parts_put at (part ∷ parts) [] row are fits = absurd are
parts_put at (part ∷ parts) (run ∷ runs) row are fits =
    let room : run.first + length run.bytes ≤ length row = omega (arith, fits, are.0, are.1, total_cons part parts) in
    let rest : 8 * (at + length part + total_of parts) ≤ length (changed (run_byte run) row) = omega (arith, fits, total_cons part parts, length_changed (run_byte run) row) in
    ap words_in (more_changed run runs row)
    ∙ parts_put (at + length part) parts runs (changed (run_byte run) row) are.3 rest
    ∙ ap (put_parts (at + length part) parts) (whole_run run row at (length part) are.0 are.1 room ∙ ap (put_at (words_in row) at) are.2)

-- all parts stand before what is behind them
put_all : (parts : List (List ℕ)) (words : List ℕ) → 0 + total_of parts ≤ length words → put_parts 0 parts words ≡ flat_map (λ (part : List ℕ). part) parts ++ drop (0 + total_of parts) words
put_all parts words room =
    let now : List ℕ = put_parts 0 parts words in
    let start : 0 + total_of parts ≡ total_of parts = omega arith in
    sym (take-append-drop (total_of parts) (put_parts 0 parts words))
    ∙ ap (λ (ws : List ℕ). ws ++ drop (total_of parts) (put_parts 0 parts words)) (begins_with 0 parts (put_parts 0 parts words) (has_parts 0 parts words room))
    ∙ ap (λ (k : ℕ). flat_map (λ (part : List ℕ). part) parts ++ drop k (put_parts 0 parts words)) (sym start)
    ∙ ap (λ (ws : List ℕ). flat_map (λ (part : List ℕ). part) parts ++ ws) (parts_behind 0 parts words room)

-- so the words that they overwrite don't count
same_put : (parts : List (List ℕ)) (words others : List ℕ) → length words ≡ length others → total_of parts ≤ length words → drop (total_of parts) words ≡ drop (total_of parts) others
    → put_parts 0 parts words ≡ put_parts 0 parts others
same_put parts words others long room same =
    let start : 0 + total_of parts ≡ total_of parts = omega arith in
    put_all parts words (omega (arith, room))
    ∙ ap (λ (k : ℕ). flat_map (λ (part : List ℕ). part) parts ++ drop k words) start
    ∙ ap (λ (ws : List ℕ). flat_map (λ (part : List ℕ). part) parts ++ ws) same
    ∙ ap (λ (k : ℕ). flat_map (λ (part : List ℕ). part) parts ++ drop k others) (sym start)
    ∙ sym (put_all parts others (omega (arith, room, long)))

-- ---- one namespace

pub open_states : (states : List ArenaState) → All IsOpenState states → AreOpenStates states
open_states [] all = tt
open_states (state ∷ states) all = (All-head IsOpenState state states all, open_states states (All-tail IsOpenState state states all))

abbrev FitAt : List ArenaState → List (List ℕ) → Type 0
FitAt states parts = (k : ℕ) (state : ArenaState) (words : List ℕ) → slice_get states k ≡ Some state → slice_get parts k ≡ Some words → ArenaFits state words

pub each_fits : (states : List ArenaState) (parts : List (List ℕ)) → length parts ≡ length states → FitAt states parts → EachFits states parts
each_fits [] [] count each = refl
each_fits [] (part ∷ parts) count each = absurd (omega (arith, count))
each_fits (state ∷ states) [] count each = absurd (omega (arith, count))
each_fits (state ∷ states) (part ∷ parts) count each = (each 0 state part refl refl, each_fits states parts (omega (arith, count)) (λ k s w at_s at_w. each (suc k) s w at_s at_w))

pub parts_total : (states : List ArenaState) (parts : List (List ℕ)) → AreOpenStates states → EachFits states parts → total_of parts ≡ arena_words states
parts_total [] parts are_open cuts = ap total_of cuts
parts_total (state ∷ states) [] are_open cuts = absurd cuts
parts_total (state ∷ states) (part ∷ parts) are_open cuts =
    omega (arith, total_cons part parts, words_cons state states, cuts.0.size, are_open.0.count, parts_total states parts are_open.1 cuts.1)

pub by_place : (states news : List ArenaState) (parts : List (List ℕ)) → AreOpenedFrom states news parts → (k : ℕ) (state new : ArenaState) (words : List ℕ) → slice_get states k ≡ Some state → slice_get news k ≡ Some new
    → slice_get parts k ≡ Some words → IsOpenedFrom state words new
by_place [] news parts all k state new words at_s at_n at_w = absurd (none-some state at_s)
by_place (s ∷ ss) [] parts all k state new words at_s at_n at_w = absurd all
by_place (s ∷ ss) (n ∷ ns) [] all k state new words at_s at_n at_w = absurd all
by_place (s ∷ ss) (n ∷ ns) (p ∷ ps) all zero state new words at_s at_n at_w =
    subst (λ (x : ArenaState). IsOpenedFrom x words new) (same_Some s state at_s) (subst (λ (x : ArenaState). IsOpenedFrom s words x) (same_Some n new at_n) (subst (λ (x : List ℕ). IsOpenedFrom s x n) (same_Some p words at_w) all.0))
by_place (s ∷ ss) (n ∷ ns) (p ∷ ps) all (suc k) state new words at_s at_n at_w = by_place ss ns ps all.1 k state new words at_s at_n at_w

some_in : (words parent : List ℕ) (states : List ArenaState) → Walk words parent 0 states → length words ≢ 0
some_in words parent [] w e = w
some_in words parent (state ∷ states) w e = let l : Lies (length words) 0 w.0 = lies words parent 0 w.0 w.3 w.1 in omega (arith, l.large, l.inside, e)

pub parts_fit : (o : OpenedNamespace) (parts : List (List ℕ)) (sets : List (List Mapping)) → IsOpened sets o → ArenasFit o parts → total_of parts ≡ arena_words o.states
parts_fit o parts sets is_open cut = parts_total o.states parts (open_states o.states is_open.are_open.each) (each_fits o.states parts cut.count cut.each)

module _ (sets : List (List Mapping)) (rows : List Words) (o : OpenedNamespace) (parts : List (List ℕ)) (is_open : IsOpened sets o) (held : IsHeld sets rows o) (cut : ArenasFit o parts) where
  walk : Walk held.moved o.place.uuid 0 (map found_again o.states)
  walk = view_walk held.moved o.place.uuid (map found_again o.states) held.found

  opens : AreOpenStates o.states
  opens = open_states o.states is_open.are_open.each

  cuts : EachFits o.states parts
  cuts = each_fits o.states parts cut.count cut.each

  total : total_of parts ≡ arena_words o.states
  total = parts_total o.states parts opens cuts

  room_made : 0 + total_of parts ≤ length held.moved
  room_made = omega (arith, total, again_words o.states, all_inside held.moved o.place.uuid 0 (map found_again o.states) walk)

  pub room : total_of parts ≤ length (words_at sets o.place.found rows)
  room = omega (arith, room_made, held.long)

  room_here : 0 + total_of parts ≤ length (words_at sets o.place.found rows)
  room_here = omega (arith, room)

  module _ (now : List Words) (put : words_of (place_in sets o.place.found now) ≡ settled (put_parts 0 parts (words_at sets o.place.found rows))) where
    there : words_at sets o.place.found now ≡ put_parts 0 parts (words_at sets o.place.found rows)
    there = ap (λ (w : Words). w.kept) put

    is : words_at sets o.place.found now ≡ put_parts 0 parts held.moved
    is =
        there
        ∙ same_put parts (words_at sets o.place.found rows) held.moved (sym held.long) room
        (subst (λ (k : ℕ). drop k (words_at sets o.place.found rows) ≡ drop k held.moved) (sym total) (sym held.behind))

    walks : WalksNow (put_parts 0 parts held.moved) o.place.uuid 0 o.states parts
    walks =
        walks_now held.moved (put_parts 0 parts held.moved) o.place.uuid (parts_length 0 parts held.moved room_made) 0 o.states parts walk opens cuts
        (has_parts 0 parts held.moved room_made)

    begins : BeginsWith (words_at sets o.place.found now) o.states parts
    begins =
        ap (take (arena_words o.states)) is ∙ ap (λ (n : ℕ). take n (put_parts 0 parts held.moved)) (sym total)
        ∙ begins_with 0 parts (put_parts 0 parts held.moved) (has_parts 0 parts held.moved room_made)

    pub is_left : IsLeft sets now o parts
    is_left = record {
      news = walks.news;
      opens = ap (λ (ws : List ℕ). opened_view ws o.place.uuid) is
          ∙ some_words (put_parts 0 parts held.moved) o.place.uuid (some_in (put_parts 0 parts held.moved) o.place.uuid walks.news walks.walk)
          ∙ back (length (put_parts 0 parts held.moved)) (put_parts 0 parts held.moved) o.place.uuid 0 0 walks.news walks.walk (omega arith);
      infos = walks.infos;
      arenas = by_place o.states walks.news parts walks.arenas;
      words = begins;
    }

    pub behind : drop (arena_words o.states) (words_at sets o.place.found now) ≡ drop (arena_words o.states) (words_at sets o.place.found rows)
    behind =
        let end : 0 + total_of parts ≡ arena_words o.states = omega (arith, total) in
        ap (drop (arena_words o.states)) there
        ∙ subst (λ (k : ℕ). drop k (put_parts 0 parts (words_at sets o.place.found rows)) ≡ drop k (words_at sets o.place.found rows)) end (parts_behind 0 parts (words_at sets o.place.found rows) room_here)

-- ---- the first ones are put

pub record SoFar (sets : List (List Mapping)) (first : List Words) (opened : List OpenedNamespace) (words : List (List (List ℕ))) (i : ℕ) (now : List Words) : Type 0 where
  pub left : (k : ℕ) (o : OpenedNamespace) (parts : List (List ℕ)) → k < i → slice_get opened k ≡ Some o → slice_get words k ≡ Some parts → IsLeft sets now o parts
  pub held : (k : ℕ) (o : OpenedNamespace) → i ≤ k → slice_get opened k ≡ Some o → IsHeld sets now o
  pub beside : KeepsBeside sets opened first now

pub place_at : (opened : List OpenedNamespace) (i : ℕ) (o : OpenedNamespace) → slice_get opened i ≡ Some o → slice_get (map place_of opened) i ≡ Some o.place
place_at [] i o at = absurd (none-some o at)
place_at (x ∷ xs) zero o at = ap Some (ap place_of (same_Some x o at))
place_at (x ∷ xs) (suc i) o at = place_at xs i o at

pub open_at : (sets : List (List Mapping)) (opened : List OpenedNamespace) (k : ℕ) (o : OpenedNamespace) → All (IsOpened sets) opened → slice_get opened k ≡ Some o → IsOpened sets o
open_at sets opened k o each at = All-contains (IsOpened sets) opened o each (got_contains opened k o at)

module _ (sets : List (List Mapping)) (sound : PlaceBytes sets) (first : List Words) (opened : List OpenedNamespace) (words : List (List (List ℕ))) (each : All (IsOpened sets) opened)
    (disjoint : AreDisjoint sets (map place_of opened)) (fit : AllFit opened words) (rows now : List Words) (i : ℕ) (so_far : SoFar sets first opened words i rows) (here : OpenedNamespace) (parts : List (List ℕ))
    (at : slice_get opened i ≡ Some here) (there : slice_get words i ≡ Some parts) (put : words_of (place_in sets here.place.found now) ≡ settled (put_parts 0 parts (words_at sets here.place.found rows)))
    (same : beside_of (place_in sets here.place.found now) ≡ beside_of (place_in sets here.place.found rows)) where
  is_open : IsOpened sets here
  is_open = open_at sets opened i here each at

  held : IsHeld sets rows here
  held = so_far.held i here (omega arith) at

  cut : ArenasFit here parts
  cut = fit.each i here parts at there

  apart : (k : ℕ) (o : OpenedNamespace) → k ≢ i → slice_get opened k ≡ Some o → ShareNoAddress sets o.place.found here.place.found
  apart k o ne at_o = disjoint k i o.place here.place ne (place_at opened k o at_o) (place_at opened i here at)

  stay : (k : ℕ) (o : OpenedNamespace) → k ≢ i → slice_get opened k ≡ Some o → words_at sets o.place.found now ≡ words_at sets o.place.found rows
  stay k o ne at_o =
      ap (λ (w : Words). w.kept)
      (others_stay sets sound here.place.found o.place.found is_open.can.lies (open_at sets opened k o each at_o).can.lies (apart k o ne at_o) rows now same)

  left_before : (k : ℕ) (o : OpenedNamespace) (ps : List (List ℕ)) → k < i → slice_get opened k ≡ Some o → slice_get words k ≡ Some ps → IsLeft sets now o ps
  left_before k o ps lt at_o at_p =
      let l : IsLeft sets rows o ps = so_far.left k o ps lt at_o at_p in
      record {
        news = l.news;
        opens = ap (λ (ws : List ℕ). opened_view ws o.place.uuid) (stay k o (λ e. omega (arith, lt, e)) at_o) ∙ l.opens;
        infos = l.infos;
        arenas = l.arenas;
        words = ap (take (arena_words o.states)) (stay k o (λ e. omega (arith, lt, e)) at_o) ∙ l.words;
      }

  left_here : (o : OpenedNamespace) (ps : List (List ℕ)) → slice_get opened i ≡ Some o → slice_get words i ≡ Some ps → IsLeft sets now o ps
  left_here o ps at_o at_p =
      subst (λ (x : OpenedNamespace). IsLeft sets now x ps) (same_Some here o (sym at ∙ at_o))
      (subst (λ (x : List (List ℕ)). IsLeft sets now here x) (same_Some parts ps (sym there ∙ at_p)) (is_left sets rows here parts is_open held cut now put))

  held_after : (k : ℕ) (o : OpenedNamespace) → i + 1 ≤ k → slice_get opened k ≡ Some o → IsHeld sets now o
  held_after k o le at_o =
      let h : IsHeld sets rows o = so_far.held k o (omega (arith, le)) at_o in
      let words_stay : words_at sets o.place.found now ≡ words_at sets o.place.found rows = stay k o (λ e. omega (arith, le, e)) at_o in
      record {
        moved = h.moved;
        long = h.long ∙ ap (λ (ws : List ℕ). length ws) (sym words_stay);
        found = h.found;
        behind = h.behind ∙ ap (drop (arena_words o.states)) (sym words_stay);
      }

  pub goes_on : SoFar sets first opened words (i + 1) now
  goes_on = record {
    left = λ k o ps lt at_o at_p. elim (cases_lt k i) [
      | inl less ↦ left_before k o ps less at_o at_p
      | inr more ↦
          let e : k ≡ i = omega (arith, lt, more) in
          left_here o ps (subst (λ (j : ℕ). slice_get opened j ≡ Some o) e at_o) (subst (λ (j : ℕ). slice_get words j ≡ Some ps) e at_p)
    ];
    held = held_after;
    beside = keeps_beside sets sound opened here (got_contains opened i here at) is_open.can.lies first rows now so_far.beside same (behind sets rows here parts is_open held cut now put);
  }
