-- The state that opening returns, and its properties.
use Rattle.std.proofs.Common.{◌≡◌, ◌≢◌, ℕ, ◌+◌, ◌*◌, ◌/◌, ◌<◌, Bool, true, false, List, [], ◌∷◌, length, map, take, drop, Option, Result, Ok, Err, refl, sym, ap, ◌∙◌, subst, arith}
use Rattle.std.specs.Prelude.{is_ok, OnOk, IfOk}
use Rattle.std.proofs.lemmas.List.{take-take, length-take-le, get_or-take}
use Rattle.nvd_words.specs.Checks.{Answers}
use Rattle.cut_words.specs.Words.{Words}
use Rattle.cut_words.specs.WordBytes.{bytes_of}
use Rattle.cut_words.specs.Fuses.{Makes}
use Rattle.arena_layout.specs.declared.layout.Layout.{Layout}
use Rattle.arena_layout.specs.Layout.{IsLayout}
use Rattle.arena_layout.specs.Info.{info_of, StandsFor}
use Rattle.arena_layout.proofs.Stands.{reading_stands}
use Rattle.flog.specs.declared.group.Group.{Group}
use Rattle.map_table.specs.Entry.{entry_in}
use Rattle.map_table.specs.Blocks.{NamesEachOnce, blocks_of}
use Rattle.arena_open.specs.declared.opened.Opened.{Opened}
use Rattle.arena_open.specs.declared.state.ArenaState.{ArenaState}
use Rattle.arena_open.specs.declared.refused.OpenRefused.{OpenRefused}
use Rattle.arena_open.specs.declared.refused.OpenRefused.TheVariants as refused
use Rattle.arena_open.specs.Places.{log_word, value_at, group_words}
use Rattle.arena_open.specs.Writes.{Write, write_steps, IsSettled}
use Rattle.arena_open.specs.Reading.{info_bytes, entry_at, map_in, groups_in, moves_of, free_of, opening}
use Rattle.arena_open.specs.Moves.{move_writes, shifted, recovered, lane_of, state_of, state_if, with_all_made, groups_of_lanes, IsOpenState, OpensAgain}
use Rattle.arena_open.proofs.Apart.{ordered}
use Rattle.arena_open.proofs.Ranges.{map_range}
use Rattle.arena_open.proofs.Written.{made_settled, made_is_settled}
use Rattle.arena_open.proofs.Opening.{Parts, Sound, parts, sound_parts}
use Rattle.arena_open.proofs.Rewritten.{groups_same}
use Rattle.arena_open.proofs.Again.{opens_all, drop_shifted}

-- ---- the arena's own words suffice

module _ (l : Layout) (words : List ℕ) (ok : IsLayout l) where
  abbrev pub own : List ℕ
  own = take (l.size / 8) words

  pub own_info : info_bytes own ≡ info_bytes words
  own_info = ap bytes_of (take-take 512 (l.size / 8) words (omega (arith, ordered l ok)))

  pub own_group : (lane : ℕ) → lane < l.lanes → group_words l own lane ≡ group_words l words lane
  own_group lane lt = map_range (λ k. value_at l own (log_word lane k)) (λ k. value_at l words (log_word lane k)) 0 8 (λ k low high.
      get_or-take (l.size / 8) words (l.flog_off / 8 + (8 * lane + k)) 0 (omega (arith, ordered l ok)))

  pub own_map : map_in l own ≡ map_in l words
  own_map = map_range (entry_at l own) (entry_at l words) 0 l.external (λ k low high.
      ap (λ (word : ℕ). entry_in word k) (get_or-take (l.size / 8) words (l.map_off / 8 + k / 2) 0 (omega (arith, ordered l ok))))

-- ---- lanes

back : (groups : List Group) → groups_of_lanes (map lane_of groups) ≡ groups
back [] = refl
back (g ∷ groups) = ap (λ (gs : List Group). g ∷ gs) (back groups)

-- ---- the state

pub open_state : (words parent : List ℕ) (opened : Opened) → opening words parent ≡ Ok opened → IsOpenState (state_of words opened)
open_state words parent opened is =
    let l : Layout = opened.info.layout in
    let rec : List ℕ = recovered words opened in
    let p : Parts (recovered words opened) parent (with_all_made opened) = parts (recovered words opened) parent (with_all_made opened) (opens_all words parent opened is) in
    let s : Sound (recovered words opened) parent (with_all_made opened) = sound_parts (recovered words opened) parent (with_all_made opened) p in
    let ok : IsLayout opened.info.layout = s.arena.sound.layout in
    let stands : StandsFor (info_bytes (recovered words opened)) parent (8 * length (recovered words opened)) opened.info =
    (reading_stands (info_bytes (recovered words opened)) parent (8 * length (recovered words opened)) (Ok opened.info) (sym p.info_is) opened.info).0 refl in
    let entries : map_in opened.info.layout (take (opened.info.layout.size / 8) (recovered words opened)) ≡ opened.entries =
    own_map opened.info.layout (recovered words opened) ok ∙ sym p.entries_is in
    let groups : groups_in opened.info.layout (take (opened.info.layout.size / 8) (recovered words opened)) ≡ Ok opened.groups =
    groups_same opened.info.layout (recovered words opened) (take (opened.info.layout.size / 8) (recovered words opened)) 0 opened.info.layout.lanes
    (own_group opened.info.layout (recovered words opened) ok) (omega arith) ∙ p.groups_is in
    record {
      sound = s.arena.sound;
      said = ap info_of (own_info opened.info.layout (recovered words opened) ok) ∙ stands.fields;
      count = length-take-le (opened.info.layout.size / 8) (recovered words opened) (omega (arith, s.arena.size_inside));
      groups = groups ∙ ap (λ (gs : List Group). Ok gs) (sym (back opened.groups));
      lanes = ap (λ (gs : List Group). map lane_of gs) (sym (back opened.groups));
      settled = (λ i. moves_of (own_map opened.info.layout (recovered words opened) ok i) (back opened.groups i)) ∙ sym p.moves_is;
      once = subst (λ (bs : List ℕ). NamesEachOnce opened.info.layout.internal bs) (sym (λ i. blocks_of (entries i) (free_of (back opened.groups i)))) s.once;
    }

-- ---- from the result

answered_by : (b : Bool) (words parent : List ℕ) (opened : Opened) (state : ArenaState) → opening words parent ≡ Ok opened → Ok state ≡ state_if b words opened → IsOpenState state
answered_by true words parent opened state is e =
    let same : state_of words opened ≡ state = cc in
    subst IsOpenState same (open_state words parent opened is)
answered_by false words parent opened state is e = absurd (let h = e in cc)

pub answered_state : (b : Bool) (words parent : List ℕ) (opened : Opened) (r : Result ArenaState OpenRefused) → opening words parent ≡ Ok opened
    → Answers refused.OutOfMemory r (state_if b words opened) → IfOk r IsOpenState
answered_state b words parent opened (Ok state) is answer = answered_by b words parent opened state is (answer (λ e. cc))
answered_state b words parent opened (Err f) is answer = tt

-- ---- from the steps made

ok_same : (x y : Opened) (r : Result Opened OpenRefused) → r ≡ Ok x → r ≡ Ok y → x ≡ y
ok_same x y r a b = cc

module _ (w w1 : Words) (f f1 : Option ℕ) (at : ℕ) (parent : List ℕ) (opened : Opened) (was : IsSettled w) (is : opening (drop at w.kept) parent ≡ Ok opened) where
  abbrev writes : List Write
  writes = shifted at (move_writes opened.info.layout (drop at w.kept) opened.moves)

  made_by : (r : Result ArenaState OpenRefused) → (r ≢ Err refused.OutOfMemory → Makes w w1 f f1 (write_steps writes) (is_ok r)) → OnOk r (Makes w w1 f f1 (write_steps writes) true)
  made_by (Ok state) made = made (λ e. cc)
  made_by (Err x) made = tt

  on_ok : {P Q : Type 0} (r : Result ArenaState OpenRefused) → (P → Q) → OnOk r P → OnOk r Q
  on_ok (Ok state) h x = h x
  on_ok (Err e) h x = tt

  pub settles : (r : Result ArenaState OpenRefused) → (r ≢ Err refused.OutOfMemory → Makes w w1 f f1 (write_steps writes) (is_ok r)) → OnOk r (IsSettled w1)
  settles r made = on_ok r (made_is_settled w w1 f f1 writes was) (made_by r made)

  again_by : Makes w w1 f f1 (write_steps writes) true → OpensAgain (drop at w.kept) (drop at w1.kept) parent
  again_by made = λ other is'.
      let now : drop at w1.kept ≡ recovered (drop at w.kept) opened =
      ap (λ (ws : Words). drop at ws.kept) (made_settled w w1 f f1 writes was made) ∙ drop_shifted at w.kept (move_writes opened.info.layout (drop at w.kept) opened.moves) in
      let same : opened ≡ other = ok_same opened other (opening (drop at w.kept) parent) is is' in
      ap (λ (ws : List ℕ). opening ws parent) now ∙ opens_all (drop at w.kept) parent opened is ∙ ap (λ (o : Opened). Ok (with_all_made o)) same

  pub again : (r : Result ArenaState OpenRefused) → (r ≢ Err refused.OutOfMemory → Makes w w1 f f1 (write_steps writes) (is_ok r))
      → OnOk r (OpensAgain (drop at w.kept) (drop at w1.kept) parent)
  again r made = on_ok r again_by (made_by r made)
