-- The words of a namespace after other words were put for each of its arenas.
use Rattle.std.proofs.Common.{◌≡◌, ℕ, zero, suc, ◌+◌, ◌/◌, ◌<◌, ◌≤◌, List, [], ◌∷◌, ◌++◌, length, take, drop, get_or, map, Ok, refl, sym, ap, ◌∙◌, subst, inl, inr, arith}
use Rattle.std.proofs.lemmas.List.{drop-drop, drop-take, drop_at, length-append, length-drop, length-take-le, nil_from_length, take-append-drop, take-take, take_at}
use Rattle.std.proofs.lemmas.List.Sums.{sum_by-cons}
use Rattle.std.specs.Prelude.{flat_map}
use Rattle.cut_words.specs.WordBytes.{put_at}
use Rattle.cut_words.proofs.Put.{length_put}
use Rattle.arena_layout.specs.declared.info.Info.{Info}
use Rattle.arena_open.specs.declared.opened.Opened.{Opened}
use Rattle.arena_open.specs.declared.state.ArenaState.{ArenaState}
use Rattle.arena_open.specs.Chain.{found_again}
use Rattle.arena_open.specs.Moves.{IsOpenState, move_writes, moves_made, state_of}
use Rattle.arena_open.specs.Reading.{opening}
use Rattle.arena_open.specs.Writes.{written_over}
use Rattle.arena_open.proofs.Joined.{take_part}
use Rattle.arena_open.proofs.Own.{Lies, lies, opening_same}
use Rattle.sector_namespaces.proofs.Chains.{Walk}
use Rattle.served_namespaces.specs.Putting.{put_parts, total_of}
use Rattle.served_namespaces.specs.Serving.{ArenaFits, IsOpenedFrom}

-- ---- the words that are put

pub total_cons : (part : List ℕ) (parts : List (List ℕ)) → total_of (part ∷ parts) ≡ length part + total_of parts
total_cons part parts = sum_by-cons (λ (p : List ℕ). length p) part parts

-- the next of a list's items
pub next_item : {X : Type 0} (xs : List X) (i : ℕ) (x : X) → i < length xs → x ≡ get_or xs i x → drop i xs ≡ x ∷ drop (i + 1) xs
next_item [] i x lt is = absurd (omega (arith, lt))
next_item (y ∷ ys) zero x lt is = ap (λ z. z ∷ ys) (sym is)
next_item (y ∷ ys) (suc i) x lt is =
    let e : suc i + 1 ≡ suc (i + 1) = omega arith in
    next_item ys i x (omega (arith, lt)) is ∙ ap (λ (k : ℕ). x ∷ drop k (y ∷ ys)) (sym e)

put_drop : (at : ℕ) (words part : List ℕ) → at + length part ≤ length words → drop at (put_at words at part) ≡ part ++ drop (at + length part) words
put_drop at words part room = drop_at (take at words) (part ++ drop (at + length part) words) at (length-take-le at words (omega (arith, room)))

put_take : (at : ℕ) (words part : List ℕ) → at + length part ≤ length words → take at (put_at words at part) ≡ take at words
put_take at words part room = take_at (take at words) (part ++ drop (at + length part) words) at (length-take-le at words (omega (arith, room)))

pub put_behind : (at : ℕ) (words part : List ℕ) → at + length part ≤ length words → drop (at + length part) (put_at words at part) ≡ drop (at + length part) words
put_behind at words part room =
    sym (drop-drop (length part) at (put_at words at part)) ∙ ap (drop (length part)) (put_drop at words part room) ∙ drop_at part (drop (at + length part) words) (length part) refl

pub parts_length : (at : ℕ) (parts : List (List ℕ)) (words : List ℕ) → at + total_of parts ≤ length words → length (put_parts at parts words) ≡ length words
parts_length at [] words room = refl
parts_length at (part ∷ parts) words room =
    let long : length (put_at words at part) ≡ length words = length_put words at part (omega (arith, room, total_cons part parts)) in
    parts_length (at + length part) parts (put_at words at part) (omega (arith, room, total_cons part parts, long)) ∙ long

parts_front : (at k : ℕ) (parts : List (List ℕ)) (words : List ℕ) → at + total_of parts ≤ length words → k ≤ at → take k (put_parts at parts words) ≡ take k words
parts_front at k [] words room le = refl
parts_front at k (part ∷ parts) words room le =
    let fits : at + length part ≤ length words = omega (arith, room, total_cons part parts) in
    let long : length (put_at words at part) ≡ length words = length_put words at part fits in
    parts_front (at + length part) k parts (put_at words at part) (omega (arith, room, total_cons part parts, long)) (omega (arith, le))
    ∙ sym (take-take k at (put_at words at part) le) ∙ ap (take k) (put_take at words part fits) ∙ take-take k at words le

pub parts_behind : (at : ℕ) (parts : List (List ℕ)) (words : List ℕ) → at + total_of parts ≤ length words → drop (at + total_of parts) (put_parts at parts words) ≡ drop (at + total_of parts) words
parts_behind at [] words room = refl
parts_behind at (part ∷ parts) words room =
    let fits : at + length part ≤ length words = omega (arith, room, total_cons part parts) in
    let long : length (put_at words at part) ≡ length words = length_put words at part fits in
    let end : at + length part + total_of parts ≡ at + total_of (part ∷ parts) = omega (arith, total_cons part parts) in
    subst (λ (k : ℕ). drop k (put_parts (at + length part) parts (put_at words at part)) ≡ drop k words) end
    (parts_behind (at + length part) parts (put_at words at part) (omega (arith, room, total_cons part parts, long))
    ∙ sym (drop-drop (total_of parts) (at + length part) (put_at words at part)) ∙ ap (drop (total_of parts)) (put_behind at words part fits)
    ∙ drop-drop (total_of parts) (at + length part) words)

-- the parts stand there, one behind another
abbrev pub HasParts : List ℕ → ℕ → List (List ℕ) → Type 0
HasParts words at [] = Unit {0}
HasParts words at (part ∷ parts) = (take (length part) (drop at words) ≡ part) × HasParts words (at + length part) parts

pub has_parts : (at : ℕ) (parts : List (List ℕ)) (words : List ℕ) → at + total_of parts ≤ length words → HasParts (put_parts at parts words) at parts
has_parts at [] words room = tt
has_parts at (part ∷ parts) words room =
    let fits : at + length part ≤ length words = omega (arith, room, total_cons part parts) in
    let long : length (put_at words at part) ≡ length words = length_put words at part fits in
    let behind : at + length part + total_of parts ≤ length (put_at words at part) = omega (arith, room, total_cons part parts, long) in (
      take_part (at + length part) at (length part) (put_parts (at + length part) parts (put_at words at part)) (put_at words at part)
          (parts_front (at + length part) (at + length part) parts (put_at words at part) behind (omega arith)) (omega arith)
          ∙ ap (take (length part)) (put_drop at words part fits) ∙ take_at part (drop (at + length part) words) (length part) refl,
      has_parts (at + length part) parts (put_at words at part) behind,
    )

take_both : (m n : ℕ) (xs : List ℕ) → take (m + n) xs ≡ take m xs ++ take n (drop m xs)
take_both m n xs =
    sym (take-append-drop m (take (m + n) xs)) ∙ ap (λ ys. ys ++ drop m (take (m + n) xs)) (take-take m (m + n) xs (omega arith)) ∙ ap (λ ys. take m xs ++ ys) (drop-take m n xs)

pub begins_with : (at : ℕ) (parts : List (List ℕ)) (words : List ℕ) → HasParts words at parts → take (total_of parts) (drop at words) ≡ flat_map (λ (part : List ℕ). part) parts
begins_with at [] words has = refl
begins_with at (part ∷ parts) words has =
    ap (λ (n : ℕ). take n (drop at words)) (total_cons part parts) ∙ take_both (length part) (total_of parts) (drop at words)
    ∙ ap (λ ys. ys ++ take (total_of parts) (drop (length part) (drop at words))) has.0
    ∙ ap (λ ys. part ++ take (total_of parts) ys) (drop-drop (length part) at words)
    ∙ ap (λ ys. part ++ ys) (begins_with (at + length part) parts words has.1)

-- ---- one arena

-- each arena has words that may stand in its place
abbrev pub EachFits : List ArenaState → List (List ℕ) → Type 0
EachFits [] parts = parts ≡ []
EachFits (state ∷ states) [] = ⊥
EachFits (state ∷ states) (part ∷ parts) = ArenaFits state part × EachFits states parts

abbrev pub AreOpenStates : List ArenaState → Type 0
AreOpenStates [] = Unit {0}
AreOpenStates (state ∷ states) = IsOpenState state × AreOpenStates states

-- each arena is what opening finds in its words
abbrev pub AreOpenedFrom : List ArenaState → List ArenaState → List (List ℕ) → Type 0
AreOpenedFrom [] news parts = Unit {0}
AreOpenedFrom (state ∷ states) [] parts = ⊥
AreOpenedFrom (state ∷ states) (new ∷ news) [] = ⊥
AreOpenedFrom (state ∷ states) (new ∷ news) (part ∷ parts) = IsOpenedFrom state part new × AreOpenedFrom states news parts

module _ (was now parent : List ℕ) (long : length now ≡ length was) (at : ℕ) (state : ArenaState) (is_open : IsOpenState state) (opened : Opened) (opens : opening (drop at was) parent ≡ Ok opened)
    (is : found_again state ≡ state_of (drop at was) opened) (inside : at ≤ length was) (part : List ℕ) (there : take (length part) (drop at now) ≡ part) (fits : ArenaFits state part) where
  none : opened.moves ≡ []
  none = nil_from_length opened.moves (sym (ap (λ (s : ArenaState). moves_made s) is))

  own : state.words ≡ take (opened.info.layout.size / 8) (drop at was)
  own =
      ap (λ (s : ArenaState). s.words) is
      ∙ ap (λ ms. take (opened.info.layout.size / 8) (written_over (drop at was) (move_writes opened.info.layout (drop at was) ms))) none

  pub info_is : state.info ≡ opened.info
  info_is = ap (λ (s : ArenaState). s.info) is

  pub part_long : length part ≡ opened.info.layout.size / 8
  part_long = fits.size ∙ is_open.count ∙ ap (λ (i : Info). i.layout.size / 8) info_is

  state_long : length state.words ≡ opened.info.layout.size / 8
  state_long = is_open.count ∙ ap (λ (i : Info). i.layout.size / 8) info_is

  l : Lies (length was) at opened
  l = lies was parent at opened inside opens

  abbrev pub behind : List ℕ
  behind = drop (at + length part) now

  parted : drop at now ≡ part ++ behind
  parted = sym (take-append-drop (length part) (drop at now)) ∙ (λ i. there i ++ drop-drop (length part) at now i)

  -- the old words open with what is behind them now
  old : opening (state.words ++ behind) parent ≡ Ok opened
  old =
      opening_same (drop at was) (state.words ++ behind) parent opened opens
      (omega (arith, length-append state.words behind, length-drop (at + length part) now, length-drop at was, long, state_long, part_long, l.inside))
      (sym own ∙ sym (take_at state.words behind (opened.info.layout.size / 8) state_long))

  pub again : (found : Opened) × (opening (part ++ behind) parent ≡ Ok found) × (found.info ≡ state.info)
  again = fits.opens behind parent opened old

  abbrev pub arena : Opened
  arena = again.0

  pub arena_opens : opening (drop at now) parent ≡ Ok again.0
  arena_opens = ap (λ (ws : List ℕ). opening ws parent) parted ∙ again.1

  pub arena_info : again.0.info ≡ opened.info
  arena_info = again.2 ∙ info_is

  pub new_info : again.0.info ≡ state.info
  new_info = again.2

  pub opened_from : IsOpenedFrom state part (state_of (drop at now) again.0)
  opened_from = record {
    behind = behind;
    parent = parent;
    before = opened;
    opened = old;
    found = again.0;
    opens = again.1;
    is = ap (λ (ws : List ℕ). state_of ws again.0) parted;
  }

-- ---- all of them

-- the arenas that the words have now
pub record WalksNow (now parent : List ℕ) (at : ℕ) (states : List ArenaState) (parts : List (List ℕ)) : Type 0 where
  pub news : List ArenaState
  pub walk : Walk now parent at news
  pub infos : map (λ (s : ArenaState). s.info) news ≡ map (λ (s : ArenaState). s.info) states
  pub arenas : AreOpenedFrom states news parts

nothing_left : (states : List ArenaState) → map found_again states ≡ [] → states ≡ []
nothing_left [] e = refl
nothing_left (state ∷ states) e = absurd (let f = e in cc)

pub walks_now : (was now parent : List ℕ) → length now ≡ length was → (at : ℕ) (states : List ArenaState) (parts : List (List ℕ)) → Walk was parent at (map found_again states) → AreOpenStates states
    → EachFits states parts → HasParts now at parts → WalksNow now parent at states parts
walks_now was now parent long at [] parts w are_open cuts has = absurd w
walks_now was now parent long at (state ∷ states) [] w are_open cuts has = absurd cuts
walks_now was now parent long at (state ∷ states) (part ∷ parts) w are_open cuts has =
    let next : (arena was now parent long at state are_open.0 w.0 w.1 w.2 w.3 part has.0 cuts.0).info.next ≡ w.0.info.next =
    ap (λ (i : Info). i.next) (arena_info was now parent long at state are_open.0 w.0 w.1 w.2 w.3 part has.0 cuts.0) in
    let l : Lies (length was) at w.0 = lies was parent at w.0 w.3 w.1 in
    elim w.4 [
      | inl last ↦
          let none : states ≡ [] = nothing_left states last.1 in
          record {
            news = state_of (drop at now) (arena was now parent long at state are_open.0 w.0 w.1 w.2 w.3 part has.0 cuts.0) ∷ [];
            walk = (
              arena was now parent long at state are_open.0 w.0 w.1 w.2 w.3 part has.0 cuts.0,
              arena_opens was now parent long at state are_open.0 w.0 w.1 w.2 w.3 part has.0 cuts.0,
              refl,
              omega (arith, w.3, long),
              inl (next ∙ last.0, refl),
            );
            infos = (λ i. new_info was now parent long at state are_open.0 w.0 w.1 w.2 w.3 part has.0 cuts.0 i ∷ map (λ (s : ArenaState). s.info) (sym none i));
            arenas = (
              opened_from was now parent long at state are_open.0 w.0 w.1 w.2 w.3 part has.0 cuts.0,
              subst (λ (ss : List ArenaState). AreOpenedFrom ss [] parts) (sym none) tt,
            );
          }
      | inr more ↦
          let size : at + length part ≡ at + w.0.info.next / 8 =
          omega (arith, part_long was now parent long at state are_open.0 w.0 w.1 w.2 w.3 part has.0 cuts.0, l.next_is more.0) in
          let rest : WalksNow now parent (at + w.0.info.next / 8) states parts =
          walks_now was now parent long (at + w.0.info.next / 8) states parts more.1 are_open.1 cuts.1 (subst (λ (p : ℕ). HasParts now p parts) size has.1) in
          record {
            news = state_of (drop at now) (arena was now parent long at state are_open.0 w.0 w.1 w.2 w.3 part has.0 cuts.0) ∷ rest.news;
            walk = (
              arena was now parent long at state are_open.0 w.0 w.1 w.2 w.3 part has.0 cuts.0,
              arena_opens was now parent long at state are_open.0 w.0 w.1 w.2 w.3 part has.0 cuts.0,
              refl,
              omega (arith, w.3, long),
              inr ((λ e. more.0 (sym next ∙ e)), subst (λ (n : ℕ). Walk now parent (at + n / 8) rest.news) (sym next) rest.walk),
            );
            infos = (λ i. new_info was now parent long at state are_open.0 w.0 w.1 w.2 w.3 part has.0 cuts.0 i ∷ rest.infos i);
            arenas = (opened_from was now parent long at state are_open.0 w.0 w.1 w.2 w.3 part has.0 cuts.0, rest.arenas);
          }
    ]
