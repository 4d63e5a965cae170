-- The last arena of a row is closed, and the others are as they were.
use Rattle.std.proofs.Common.{◌≡◌, inl, inr, ℕ, suc, List, [], ◌∷◌, ◌++◌, length, length-append, get_or, Option, Some, sym, ap, ◌∙◌, subst, arith}
use Rattle.std.specs.Prelude.{All, Vec, slice_get}
use Rattle.std.proofs.lemmas.List.{length-map}
use mathlib.Core.List.{map-append}
use Rattle.std.proofs.Math.ListN.{get_or-append}
use Rattle.std.proofs.Math.Seq.{get_or-append_seam}
use Rattle.arena_open.specs.declared.state.ArenaState.{ArenaState}
use Rattle.arena_open.specs.Moves.{IsOpenState}
use Rattle.lane_core.specs.declared.arena_words.ArenaWords.{ArenaWords}
use Rattle.lane_table.specs.declared.arena.Arena.{Arena}
use Rattle.lane_table.specs.declared.lanes.LaneEnd.{LaneEnd}
use Rattle.lane_table.specs.declared.session_pass.Pass.{Pass}
use Rattle.lane_table.specs.Begun.{IsMadeOf}
use Rattle.lane_calls.specs.Sessions.{Parts}
use Rattle.lane_sessions.specs.Closing.{AreHandedIn}
use Rattle.lane_sessions.specs.Left.{IsArenaLeft}
use Rattle.lane_sessions.specs.Ending.{AreAllIn, AreArenasLeft, AreOpened, AreWide, LoseLast, column, lanes_of, lists_of, there}
use Rattle.lane_sessions.specs.Sets.{AreMadeOf}
use Rattle.lane_sessions.proofs.Columns.{columns_stay, get_front, get_is, get_push, get_some, last_column, wide_front}
use Rattle.lane_sessions.proofs.Lists.{slice_get_seam}

module _ {X Y Z : Type 0} (arenas xs : List Arena) (a : Arena) (arenas_are : arenas ≡ xs ++ a ∷ []) (sets sets' : List (Vec (Option LaneEnd) X)) (ends : List (Option LaneEnd)) (aside ys : List (Vec LaneEnd Y)) (more : Vec LaneEnd Y) (aside_is : aside ≡ ys ++ more ∷ [])
    (passes passes' : List (Vec (Option Pass) Z)) (pass : List (Option Pass)) (parts : ℕ → Parts) (h : AreAllIn arenas sets aside passes parts)
    (sets_count : length sets' ≡ length sets) (ends_count : length ends ≡ length sets) (sets_lose : LoseLast sets ends sets')
    (passes_count : length passes' ≡ length passes) (pass_count : length pass ≡ length passes) (passes_lose : LoseLast passes pass passes') where
  abbrev last : ℕ
  last = length xs

  count : length arenas ≡ suc last
  count = let e = ap length arenas_are in omega (arith, e, length-append xs (a ∷ []))

  places : length ys ≡ last
  places = let e = ap length aside_is in let n = h.count in omega (arith, e, n, count, length-append ys (more ∷ []))

  sets_wide : AreWide (suc last) sets
  sets_wide = subst (λ (n : ℕ). AreWide n sets) count h.sets_wide

  passes_wide : AreWide (suc last) passes
  passes_wide = subst (λ (n : ℕ). AreWide n passes) count h.passes_wide

  lists : lists_of aside ≡ lists_of ys ++ more.items ∷ []
  lists = ap (λ vs. lists_of vs) aside_is ∙ map-append (λ (v : Vec LaneEnd Y). v.items) ys (more ∷ [])

  -- the last arena's lanes and passes

  list_is : get_or (lists_of aside) last [] ≡ more.items
  list_is =
      ap (λ l. get_or l last []) lists ∙ ap (λ (n : ℕ). get_or (lists_of ys ++ more.items ∷ []) n []) (sym places ∙ sym (length-map ys (λ (v : Vec LaneEnd Y). v.items)))
      ∙ get_or-append_seam (lists_of ys) more.items [] []

  pub last_in : AreHandedIn a (there ends ++ more.items) pass (λ q. parts q last)
  last_in =
      let is : slice_get arenas last ≡ Some a = ap (λ l. slice_get l last) arenas_are ∙ slice_get_seam xs a [] in
      subst (λ ps. AreHandedIn a (there ends ++ more.items) ps (λ q. parts q last)) (last_column last passes passes' pass passes_count pass_count passes_lose passes_wide)
      (subst (λ es. AreHandedIn a (there es ++ more.items) (column last passes) (λ q. parts q last)) (last_column last sets sets' ends sets_count ends_count sets_lose sets_wide)
      (subst (λ es. AreHandedIn a (there (column last sets) ++ es) (column last passes) (λ q. parts q last)) list_is (h.each last a is)))

  -- the others'

  pub front_in : AreAllIn xs sets' ys passes' parts
  front_in = record {
    sets_wide = wide_front last sets sets' ends sets_count sets_lose sets_wide;
    passes_wide = wide_front last passes passes' pass passes_count passes_lose passes_wide;
    count = places;
    each = λ j b is.
        let lt = (get_is xs j b b is).0 in
        let lists_stay : get_or (lists_of aside) j [] ≡ get_or (lists_of ys) j [] =
        ap (λ l. get_or l j []) lists ∙ get_or-append (lists_of ys) (more.items ∷ []) [] j (omega (arith, lt, places, length-map ys (λ (v : Vec LaneEnd Y). v.items))) in
        subst (λ ps. AreHandedIn b (lanes_of j sets' ys) ps (λ q. parts q j)) (columns_stay last passes passes' pass passes_count passes_lose passes_wide j lt)
        (subst (λ es. AreHandedIn b (there es ++ get_or (lists_of ys) j []) (column j passes) (λ q. parts q j)) (columns_stay last sets sets' ends sets_count sets_lose sets_wide j lt)
        (subst (λ es. AreHandedIn b (there (column j sets) ++ es) (column j passes) (λ q. parts q j)) lists_stay (h.each j b (ap (λ l. slice_get l j) arenas_are ∙ get_front xs (a ∷ []) j b is))));
  }

module _ (states : List ArenaState) (arenas xs : List Arena) (a : Arena) (is : arenas ≡ xs ++ a ∷ []) (opened : AreOpened states arenas) where
  pub front_opened : AreOpened states xs
  front_opened j b at = opened j b (ap (λ l. slice_get l j) is ∙ get_front xs (a ∷ []) j b at)

  pub last_opened : (state : ArenaState) × (slice_get states (length xs) ≡ Some state) × IsOpenState state × IsMadeOf state a
  last_opened = opened (length xs) a (ap (λ l. slice_get l (length xs)) is ∙ slice_get_seam xs a [])

pub opened_of : (states : List ArenaState) (arenas : List Arena) → AreMadeOf states arenas → All IsOpenState states → AreOpened states arenas
opened_of states arenas made opens j a is =
    let inside = (get_is arenas j a a is).0 in
    let count = made.count in
    let s = get_some states j (omega (arith, inside, count)) in
    let at = get_is states j s.0 s.0 s.1 in
    (s.0, s.1, subst IsOpenState at.1 (opens j s.0 at.0), made.each j s.0 a s.1 is)

in_some : {A : Type 0} {x y : A} → Some x ≡ Some y → x ≡ y
in_some e = cc

pub left_push : (n : ℕ) (states : List ArenaState) (parts : ℕ → Parts) (arenas : ℕ) (ws ws' : List ArenaWords) (w : ArenaWords) (state : ArenaState) → ws' ≡ ws ++ w ∷ [] → slice_get states arenas ≡ Some state
    → AreArenasLeft n states parts arenas ws → IsArenaLeft n state (λ q. (parts q arenas).mine) w → AreArenasLeft n states parts (suc arenas) ws'
left_push n states parts arenas ws ws' w state is at before last = subst (AreArenasLeft n states parts (suc arenas)) (sym is) (record {
  count = (let c = before.count in omega (arith, c, length-append ws (w ∷ [])));
  each = λ j s v is_state is_words. elim (get_push ws w j v is_words) [
    | inl f ↦ before.each j s v is_state f
    | inr f ↦ (
        let place : j ≡ arenas = f.0 ∙ before.count in
        let same : state ≡ s = in_some (sym at ∙ ap (λ (k : ℕ). slice_get states k) (sym place) ∙ is_state) in
        subst (λ (x : ArenaWords). IsArenaLeft n s (λ q. (parts q j).mine) x) f.1
        (subst (λ (x : ArenaState). IsArenaLeft n x (λ q. (parts q j).mine) w) same
        (subst (λ (k : ℕ). IsArenaLeft n state (λ q. (parts q k).mine) w) (sym place) last)))
  ];
})
