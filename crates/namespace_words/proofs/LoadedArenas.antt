-- Arenas whose words are in memory, without those behind them, open as in the namespace.
use Rattle.std.proofs.Common.{◌≡◌, ◌≢◌, ℕ, ◌+◌, ◌-◌, ◌*◌, ◌/◌, ◌<◌, ◌≤◌, List, [], ◌∷◌, length, map, take, drop, Result, Ok, Err, true, refl, sym, ap, ◌∙◌, subst, inl, inr, arith}
use Rattle.std.specs.Prelude.{IfOk, is_err}
use Rattle.std.specs.List.{All}
use Rattle.std.proofs.lemmas.Bool.{cases_eq}
use Rattle.std.proofs.lemmas.List.{length-drop, length-take-le, take-take}
use Rattle.std.proofs.lemmas.List.Elements.{All-head, All-tail}
use Rattle.arena_layout.specs.declared.info.Info.{Info}
use Rattle.arena_layout.specs.Info.{StandsFor, info_reading}
use Rattle.arena_layout.specs.Layout.{IsLayout}
use Rattle.arena_layout.proofs.Stands.{reading_stands}
use Rattle.arena_open.specs.declared.chain_refused.ChainRefused.{ChainRefused}
use Rattle.arena_open.specs.declared.opened.Opened.{Opened}
use Rattle.arena_open.specs.declared.state.ArenaState.{ArenaState}
use Rattle.arena_open.specs.Chain.{HasMemory, Link, state_at, wants_memory}
use Rattle.arena_open.specs.Moves.{lane_of, move_writes, recovered, state_of}
use Rattle.arena_open.specs.Places.{group_words}
use Rattle.arena_open.specs.Reading.{groups_in, info_bytes, map_in, on_map, opening}
use Rattle.arena_open.specs.Writes.{written_over}
use Rattle.arena_open.proofs.Joined.{take_part}
use Rattle.arena_open.proofs.Opening.{Parts, Sound, opening_map, parts, sound, sound_parts}
use Rattle.arena_open.proofs.Own.{Lies, lies}
use Rattle.arena_open.proofs.Recovering.{moves_taken}
use Rattle.arena_open.proofs.Rewritten.{groups_same}
use Rattle.arena_open.proofs.States.{own_group, own_info, own_map}
use Rattle.namespace_bytes.specs.Putting.{AreAll, Linked}
use Rattle.namespace_words.specs.Source.{IsFront}
use Rattle.sector_namespaces.specs.View.{opened_view}
use Rattle.sector_namespaces.proofs.Chains.{Walk, back, view_walk}
use Rattle.sector_namespaces.proofs.Views.{some_words}

-- ---- one arena

-- an info block is read the same wherever its arena and the next one's first byte lie inside
info_elsewhere : (bytes parent : List ℕ) (rest rest' : ℕ) (info : Info) → info_reading bytes parent rest ≡ Ok info → info.layout.size ≤ rest' → info.next < rest' → info_reading bytes parent rest' ≡ Ok info
info_elsewhere bytes parent rest rest' info is inside next =
    let s : StandsFor bytes parent rest info = (reading_stands bytes parent rest (Ok info) (sym is) info).0 refl in
    (reading_stands bytes parent rest' (info_reading bytes parent rest') refl info).1 (record {
      signature_is = s.signature_is;
      checksum_is = s.checksum_is;
      info_size = s.info_size;
      fields = s.fields;
      sound = record { sound = s.sound.sound; parent_is = s.sound.parent_is; size_inside = inside; next_inside = next };
    })

-- so the arena opens
opening_front : (a b parent : List ℕ) (opened : Opened) → opening a parent ≡ Ok opened → take (opened.info.layout.size / 8) a ≡ take (opened.info.layout.size / 8) b
    → opened.info.layout.size ≤ 8 * length b → opened.info.next < 8 * length b → opening b parent ≡ Ok opened
opening_front a b parent opened is same inside next =
    let p : Parts a parent opened = parts a parent opened is in
    let ok : IsLayout opened.info.layout = (sound_parts a parent opened p).arena.sound.layout in
    let bytes : info_bytes b ≡ info_bytes a =
    sym (own_info opened.info.layout b ok) ∙ ap info_bytes (sym same) ∙ own_info opened.info.layout a ok in
    let info : info_reading (info_bytes b) parent (8 * length b) ≡ Ok opened.info =
    ap (λ (bs : List ℕ). info_reading bs parent (8 * length b)) bytes
    ∙ info_elsewhere (info_bytes a) parent (8 * length a) (8 * length b) opened.info p.info_is inside next in
    let group : (lane : ℕ) → lane < opened.info.layout.lanes → group_words opened.info.layout b lane ≡ group_words opened.info.layout a lane =
    λ lane lt. sym (own_group opened.info.layout b ok lane lt) ∙ ap (λ (ws : List ℕ). group_words opened.info.layout ws lane) (sym same) ∙ own_group opened.info.layout a ok lane lt in
    let groups : groups_in opened.info.layout b ≡ Ok opened.groups = groups_same opened.info.layout a b 0 opened.info.layout.lanes group (omega arith) ∙ p.groups_is in
    let map_is : map_in opened.info.layout b ≡ map_in opened.info.layout a =
    sym (own_map opened.info.layout b ok) ∙ ap (map_in opened.info.layout) (sym same) ∙ own_map opened.info.layout a ok in
    opening_map b parent opened.info opened.groups info groups
    ∙ ap (on_map opened.info opened.groups) map_is
    ∙ sym (opening_map a parent opened.info opened.groups p.info_is p.groups_is)
    ∙ is

-- and its state is that of its own words
state_front : (a b parent : List ℕ) (opened : Opened) → opening a parent ≡ Ok opened → take (opened.info.layout.size / 8) b ≡ take (opened.info.layout.size / 8) a → state_of b opened ≡ state_of a opened
state_front a b parent opened is same =
    let s : Sound a parent opened = sound a parent opened is in
    let words : take (opened.info.layout.size / 8) (recovered b opened) ≡ take (opened.info.layout.size / 8) (recovered a opened) =
    sym (moves_taken opened.info.layout b opened.moves s.arena.sound.layout s.moves).words_are
    ∙ ap (λ (ws : List ℕ). written_over ws (move_writes opened.info.layout ws opened.moves)) same
    ∙ (moves_taken opened.info.layout a opened.moves s.arena.sound.layout s.moves).words_are in
    λ i. record { info = opened.info; words = words i; lanes = map lane_of opened.groups; made = length opened.moves }

-- ---- all arenas

-- an arena ends at most there
abbrev pub EndsBy : ℕ → Link → Type 0
EndsBy end link = link.at + link.opened.info.layout.size / 8 ≤ end

-- the first of these begins before the end
begins_before : (words parent : List ℕ) (at end : ℕ) (links : List Link) → Walk words parent at (map (state_at words) links) → Linked words parent at links → All (EndsBy end) links → at < end
begins_before words parent at end [] w linked ends = absurd w
begins_before words parent at end (link ∷ links) w linked ends =
    let l : Lies (length words) at link.opened = lies words parent at link.opened linked.1 linked.2 in
    omega (arith, l.large, linked.0, All-head (EndsBy end) link links ends)

module _ (words now parent : List ℕ) (end : ℕ) (long : length now ≡ end) (same : take end now ≡ take end words) where
  walk_front : (at : ℕ) (links : List Link) → Walk words parent at (map (state_at words) links) → Linked words parent at links → All (EndsBy end) links → Walk now parent at (map (state_at words) links)
  walk_front at [] w linked ends = w
  walk_front at (link ∷ links) w linked ends =
      let l : Lies (length words) at w.0 = lies words parent at w.0 w.3 w.1 in
      let info : link.opened.info ≡ w.0.info = ap (λ (s : ArenaState). s.info) w.2 in
      let size : link.opened.info.layout.size ≡ w.0.info.layout.size = ap (λ (i : Info). i.layout.size) info in
      let next : link.opened.info.next ≡ w.0.info.next = ap (λ (i : Info). i.next) info in
      let fits : at + w.0.info.layout.size / 8 ≤ end = omega (arith, linked.0, size, All-head (EndsBy end) link links ends) in
      let count : length (drop at now) ≡ length now - at = length-drop at now in
      let own : take (w.0.info.layout.size / 8) (drop at now) ≡ take (w.0.info.layout.size / 8) (drop at words) =
      take_part end at (w.0.info.layout.size / 8) now words same fits in
      let more : w.0.info.next ≢ 0 → at + w.0.info.next / 8 < end = λ some. elim w.4 [
        | inl last ↦ absurd (some last.0)
        | inr rest ↦ begins_before words parent (at + w.0.info.next / 8) end links rest.1
            (elim linked.3 [
              | inl last ↦ absurd (some (sym next ∙ last.0))
              | inr on ↦ subst (λ (n : ℕ). Linked words parent (at + n / 8) links) next on.1
            ])
            (All-tail (EndsBy end) link links ends)
      ] in
      let inside : w.0.info.layout.size ≤ 8 * length (drop at now) = omega (arith, count, long, fits, l.whole) in
      let next_inside : w.0.info.next < 8 * length (drop at now) = elim (cases_eq w.0.info.next 0) [
        | inl none ↦ omega (arith, none, inside, l.large)
        | inr some ↦ omega (arith, count, long, more some, l.next_is some, l.whole)
      ] in (
        w.0,
        opening_front (drop at words) (drop at now) parent w.0 w.1 (sym own) inside next_inside,
        w.2 ∙ sym (state_front (drop at words) (drop at now) parent w.0 w.1 own),
        omega (arith, long, fits),
        elim w.4 [
          | inl last ↦ inl last
          | inr rest ↦ inr (
            rest.0,
            walk_front (at + w.0.info.next / 8) links rest.1
                (elim linked.3 [
                  | inl last ↦ absurd (rest.0 (sym next ∙ last.0))
                  | inr on ↦ subst (λ (n : ℕ). Linked words parent (at + n / 8) links) next on.1
                ])
                (All-tail (EndsBy end) link links ends),
          )
        ],
      )

-- a namespace's words up to the end of its last arena, or further, open as the namespace
pub front_opens : (words uuid : List ℕ) (end : ℕ) (links : List Link) → AreAll words uuid links → All (EndsBy end) links → end ≤ length words → opened_view (take end words) uuid ≡ Ok (map (state_at words) links)
front_opens words uuid end links all ends fits =
    let w : Walk words uuid 0 (map (state_at words) links) = view_walk words uuid (map (state_at words) links) all.read in
    let now : List ℕ = take end words in
    let long : length (take end words) ≡ end = length-take-le end words fits in
    let some : 0 < end = begins_before words uuid 0 end links w all.linked ends in
    let w' : Walk (take end words) uuid 0 (map (state_at words) links) =
    walk_front words (take end words) uuid end long (take-take end end words (omega arith)) 0 links w all.linked ends in
    some_words (take end words) uuid (λ none. omega (arith, none, long, some))
    ∙ back (length (take end words)) (take end words) uuid 0 0 (map (state_at words) links) w' (omega arith)

-- an end that is further on
pub ends_further : (end further : ℕ) (links : List Link) → end ≤ further → All (EndsBy end) links → All (EndsBy further) links
ends_further end further links le ends = λ k d lt. omega (arith, le, ends k d lt)

-- ---- as they were read

module _ {T E : Type 0} (items : T → List ℕ) (uuid : List ℕ) (result : Result (List ArenaState) ChainRefused) where
  pub loaded_as : (words : List ℕ) (links : List Link) (count end : ℕ) (read : Result T E) → IfOk read (λ w. IsFront (items w) words) → IfOk read (λ w. length (items w) ≡ count)
      → IfOk read (λ w. HasMemory result → result ≡ opened_view (items w) uuid) → (is_err read ≡ true → result ≡ Err (wants_memory 0)) → AreAll words uuid links → All (EndsBy end) links → end ≤ count → count ≤ length words
      → HasMemory result → result ≡ Ok (map (state_at words) links)
  loaded_as words links count end (Ok w) front long opened memory all ends le fits has =
      opened has ∙ ap (λ (ws : List ℕ). opened_view ws uuid) (front ∙ ap (λ (n : ℕ). take n words) long) ∙ front_opens words uuid count links all (ends_further end count links le ends) fits
  loaded_as words links count end (Err e) front long opened memory all ends le fits has = absurd (has 0 (memory refl))

  pub loaded_some : (bytes count : ℕ) (read : Result T E) → IfOk read (λ w. length (items w) ≡ count) → 8 * count ≤ bytes → IfOk read (λ w. HasMemory result → result ≡ opened_view (items w) uuid)
      → (is_err read ≡ true → result ≡ Err (wants_memory 0)) → (words : List ℕ) × (8 * length words ≤ bytes) × (HasMemory result → result ≡ opened_view words uuid)
  loaded_some bytes count (Ok w) long fits opened memory = (items w, omega (arith, long, fits), opened)
  loaded_some bytes count (Err e) long fits opened memory = ([], omega arith, λ has. absurd (has 0 (memory refl)))
