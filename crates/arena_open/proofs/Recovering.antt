-- Recovery on a copy of an arena's words, and its result.
use Rattle.std.proofs.Common.{◌≡◌, ℕ, ◌+◌, ◌*◌, ◌/◌, ◌<◌, Bool, true, false, List, [], ◌∷◌, ◌++◌, length, take, drop, get_or, Option, Ok, Err, refl, sym, ap, ◌∙◌, subst, arith}
use Rattle.std.proofs.Math.ListN.{set}
use Rattle.std.proofs.Math.Seq.{take-set-lt}
use Rattle.std.proofs.lemmas.List.{get_or-take, take_all, drop_all, append-nil}
use Rattle.std.proofs.lemmas.List.Elements.{All-head, All-tail}
use Rattle.cut_words.specs.Words.{Words}
use Rattle.cut_words.specs.Fuses.{Makes, lasts}
use Rattle.arena_layout.specs.declared.layout.Layout.{Layout}
use Rattle.arena_layout.specs.Layout.{IsLayout}
use Rattle.flog.specs.declared.half.Half.{Half}
use Rattle.map_table.specs.Entry.{normal_of, with_entry}
use Rattle.arena_open.specs.declared.opened.Opened.{Opened}
use Rattle.arena_open.specs.declared.state.ArenaState.{ArenaState}
use Rattle.arena_open.specs.declared.refused.OpenRefused.TheVariants as refused
use Rattle.arena_open.specs.Halves.{IsMove, AreMoves}
use Rattle.arena_open.specs.Writes.{Write, write_steps, written_over}
use Rattle.arena_open.specs.Moves.{move_write, move_writes, shifted, recovered, opened_steps, state_of, state_if}
use Rattle.arena_open.proofs.Written.{length_steps}
use Rattle.arena_open.proofs.Turns.{length_moves, length_shifted, move_inside}

-- ---- the copy

pub record Taken (l : Layout) (n : ℕ) (words : List ℕ) (moves : List Half) : Type 0 where
  pub writes_are : move_writes l (take n words) moves ≡ move_writes l words moves
  pub words_are : written_over (take n words) (move_writes l (take n words) moves) ≡ take n (written_over words (move_writes l words moves))

write_taken : (l : Layout) (n : ℕ) (words : List ℕ) (half : Half) → l.map_off / 8 + half.lba / 2 < n → move_write l (take n words) half ≡ move_write l words half
write_taken l n words half lt =
    let e : get_or (take n words) (l.map_off / 8 + half.lba / 2) 0 ≡ get_or words (l.map_off / 8 + half.lba / 2) 0 = get_or-take n words (l.map_off / 8 + half.lba / 2) 0 lt in
    ap (λ (word : ℕ). record { place = l.map_off / 8 + half.lba / 2; value = with_entry word half.lba (normal_of half.new) }) e

pub moves_taken : (l : Layout) (words : List ℕ) (moves : List Half) → IsLayout l → AreMoves l.external moves → Taken l (l.size / 8) words moves
moves_taken l words [] ok fit = record { writes_are = refl; words_are = refl }
moves_taken l words (half ∷ halves) ok fit =
    let n : ℕ = l.size / 8 in
    let w : Write = move_write l words half in
    let here : move_write l (take (l.size / 8) words) half ≡ move_write l words half =
    write_taken l (l.size / 8) words half (move_inside l half ok (All-head (IsMove l.external) half halves fit).sector) in
    let next : set (take (l.size / 8) words) (move_write l (take (l.size / 8) words) half).place (move_write l (take (l.size / 8) words) half).value
    ≡ take (l.size / 8) (set words (move_write l words half).place (move_write l words half).value) =
    ap (λ (x : Write). set (take (l.size / 8) words) x.place x.value) here ∙ sym (take-set-lt (l.size / 8) words (move_write l words half).place (move_write l words half).value (move_inside l half ok (All-head (IsMove l.external) half halves fit).sector)) in
    let rest = moves_taken l (set words (move_write l words half).place (move_write l words half).value) halves ok (All-tail (IsMove l.external) half halves fit) in
    let tail : move_writes l (set (take (l.size / 8) words) (move_write l (take (l.size / 8) words) half).place (move_write l (take (l.size / 8) words) half).value) halves
    ≡ move_writes l (set words (move_write l words half).place (move_write l words half).value) halves =
    ap (λ (ws : List ℕ). move_writes l ws halves) next ∙ rest.writes_are in
    record {
      writes_are = λ i. here i ∷ tail i;
      words_are = ap (λ (ws : List ℕ). written_over ws (move_writes l ws halves)) next ∙ rest.words_are;
    }

-- ---- the moves in the copy

module _ (at : ℕ) (words : List ℕ) (opened : Opened) (ok : IsLayout opened.info.layout) (fit : AreMoves opened.info.layout.external opened.moves) where
  writes_by : (copy : List ℕ) (moves : List Half) → copy ≡ take (opened.info.layout.size / 8) words → moves ≡ opened.moves
      → move_writes opened.info.layout copy moves ≡ move_writes opened.info.layout words opened.moves
  writes_by copy moves copied same =
      (λ i. move_writes opened.info.layout (copied i) (same i)) ∙ (moves_taken opened.info.layout words opened.moves ok fit).writes_are

  pub steps_by : (w w1 : Words) (f f1 : Option ℕ) (copy : List ℕ) (moves : List Half) (made : Bool) → copy ≡ take (opened.info.layout.size / 8) words → moves ≡ opened.moves
      → Makes w w1 f f1 (write_steps (shifted at (move_writes opened.info.layout copy moves))) made → Makes w w1 f f1 (opened_steps at words opened) made
  steps_by w w1 f f1 copy moves made copied same a =
      subst (λ (ws : List Write). Makes w w1 f f1 (write_steps (shifted at ws)) made) (writes_by copy moves copied same) a

  pub words_by : (copy done : List ℕ) (moves : List Half) → copy ≡ take (opened.info.layout.size / 8) words → moves ≡ opened.moves
      → done ≡ written_over copy (move_writes opened.info.layout copy moves) → done ≡ take (opened.info.layout.size / 8) (recovered words opened)
  words_by copy done moves copied same is =
      is ∙ (λ i. written_over (copied i) (move_writes opened.info.layout (copied i) (same i))) ∙ (moves_taken opened.info.layout words opened.moves ok fit).words_are

  pub count_by : length (opened_steps at words opened) ≡ 2 * length opened.moves
  count_by =
      length_steps (shifted at (move_writes opened.info.layout words opened.moves))
      ∙ ap (λ (n : ℕ). 2 * n) (length_shifted at (move_writes opened.info.layout words opened.moves) ∙ length_moves opened.info.layout words opened.moves)

  -- whether the fuse lasts
  pub lasted : (w w1 : Words) (f f1 : Option ℕ) (made : Bool) → Makes w w1 f f1 (opened_steps at words opened) made → lasts f (2 * length opened.moves) ≡ made
  lasted w w1 f f1 made a = ap (lasts f) (sym count_by) ∙ sym a.all_made

  pub answers_cut : (w w1 : Words) (f f1 : Option ℕ) → Makes w w1 f f1 (opened_steps at words opened) false → Err refused.PowerCut ≡ state_if (lasts f (2 * length opened.moves)) words opened
  answers_cut w w1 f f1 a = rw (lasted w w1 f f1 false a) refl

  pub answers_state : (w w1 : Words) (f f1 : Option ℕ) (state : ArenaState) → Makes w w1 f f1 (opened_steps at words opened) true → state ≡ state_of words opened
      → Ok state ≡ state_if (lasts f (2 * length opened.moves)) words opened
  answers_state w w1 f f1 state a is = rw (lasted w w1 f f1 true a) (ap (λ (s : ArenaState). Ok s) is)

-- a vector after its slice was written
pub written_back : (n : ℕ) (now old : List ℕ) → n ≡ length old → length now ≡ length old → take n (now ++ drop (length now) old) ≡ now
written_back n now old len same =
    ap (λ (r : List ℕ). take n (now ++ r)) (drop_all (length now) old (omega (arith, same))) ∙ ap (take n) (append-nil now) ∙ take_all n now (omega (arith, same, len))
