-- Moves that are completed one after another.
use Rattle.std.proofs.Common.{◌≡◌, ℕ, zero, suc, ◌+◌, ◌/◌, ◌<◌, ◌≤◌, Bool, true, false, List, [], ◌∷◌, length, take, get_or, Option, refl, sym, ap, ◌∙◌, subst, arith}
use Rattle.std.proofs.Math.ListN.{set}
use Rattle.std.proofs.lemmas.List.{take_more, take_all, length-map, get_or-map}
use Rattle.cut_words.specs.Words.{Words}
use Rattle.cut_words.specs.Groups.{written}
use Rattle.cut_words.specs.Fuses.{Makes}
use Rattle.arena_layout.specs.declared.layout.Layout.{Layout}
use Rattle.arena_layout.specs.Layout.{IsLayout}
use Rattle.flog.specs.declared.half.Half.{Half}
use Rattle.map_table.specs.Entry.{normal_of, with_entry}
use Rattle.arena_open.specs.Writes.{Write, write_steps, written_over}
use Rattle.arena_open.specs.Moves.{move_write, move_writes, shifted}
use Rattle.arena_open.proofs.Apart.{ordered}
use Rattle.arena_open.proofs.Written.{no_write, over-append, writes_on, writes_stop}

pub length_moves : (l : Layout) (words : List ℕ) (moves : List Half) → length (move_writes l words moves) ≡ length moves
length_moves l words [] = refl
length_moves l words (half ∷ halves) = ap suc (length_moves l (set words (move_write l words half).place (move_write l words half).value) halves)

-- each move is written over the result of the moves before it
pub move_index : (l : Layout) (words : List ℕ) (moves : List Half) (i : ℕ) (d : Half) → i < length moves
    → get_or (move_writes l words moves) i no_write ≡ move_write l (written_over words (take i (move_writes l words moves))) (get_or moves i d)
move_index l words [] i d lt = absurd (omega arith)
move_index l words (half ∷ halves) zero d lt = refl
move_index l words (half ∷ halves) (suc i) d lt = move_index l (set words (move_write l words half).place (move_write l words half).value) halves i d (omega arith)

pub over_more : (old : List ℕ) (writes : List Write) (i : ℕ) → i < length writes
    → written_over old (take (i + 1) writes) ≡ set (written_over old (take i writes)) (get_or writes i no_write).place (get_or writes i no_write).value
over_more old writes i lt = ap (written_over old) (take_more writes i no_write lt) ∙ over-append old (take i writes) (get_or writes i no_write ∷ [])

-- ---- in a space in which the arena begins further on

abbrev shift_one : ℕ → Write → Write
shift_one at w = record { place = at + w.place; value = w.value }

pub shifted_index : (at : ℕ) (writes : List Write) (i : ℕ) → i < length writes
    → get_or (shifted at writes) i no_write ≡ record { place = at + (get_or writes i no_write).place; value = (get_or writes i no_write).value }
shifted_index at writes i lt = get_or-map (λ w. record { place = at + w.place; value = w.value }) writes i no_write no_write lt

pub length_shifted : (at : ℕ) (writes : List Write) → length (shifted at writes) ≡ length writes
length_shifted at writes = length-map writes (λ w. record { place = at + w.place; value = w.value })

-- ---- one turn of the loop

abbrev pub no_half : Half
no_half = record { lba = 0; old = 0; new = 0; seq = 0 }

module _ (l : Layout) (at : ℕ) (words : List ℕ) (moves : List Half) where
  abbrev pub all_writes : List Write
  all_writes = move_writes l words moves

  abbrev pub so_far : ℕ → List ℕ
  so_far i = written_over words (take i all_writes)

  inside : (i : ℕ) → i < length moves → i < length all_writes
  inside i lt = omega (arith, length_moves l words moves)

  shift_inside : (i : ℕ) → i < length moves → i < length (shifted at all_writes)
  shift_inside i lt = omega (arith, length_shifted at all_writes, length_moves l words moves)

  abbrev pub half_at : ℕ → Half
  half_at i = get_or moves i no_half

  -- the word that the loop writes is that of the list
  pub record Turn (i : ℕ) (now : List ℕ) (lba entry value : ℕ) : Type 0 where
    pub lt : i < length moves
    pub lba_is : lba ≡ (half_at i).lba
    pub entry_is : entry ≡ normal_of (half_at i).new
    pub same : now ≡ so_far i
    pub read : value ≡ with_entry (get_or now (l.map_off / 8 + lba / 2) 0) (half_at i).lba entry

  turn : (i : ℕ) (now : List ℕ) (lba entry value : ℕ) → Turn i now lba entry value
      → get_or all_writes i no_write ≡ record { place = l.map_off / 8 + lba / 2; value = value }
  turn i now lba entry value t =
      let here : (move_write l now (half_at i)).value ≡ value =
      sym (t.read ∙ (λ k. with_entry (get_or now (l.map_off / 8 + t.lba_is k / 2) 0) (half_at i).lba (t.entry_is k))) in
      let place : (move_write l now (half_at i)).place ≡ l.map_off / 8 + lba / 2 = sym (ap (λ (x : ℕ). l.map_off / 8 + x / 2) t.lba_is) in
      move_index l words moves i no_half t.lt ∙ ap (λ (ws : List ℕ). move_write l ws (half_at i)) (sym t.same) ∙ (λ k. record { place = place k; value = here k })

  pub copy_on : (i : ℕ) (now : List ℕ) (lba entry value : ℕ) → Turn i now lba entry value → set now (l.map_off / 8 + lba / 2) value ≡ so_far (i + 1)
  copy_on i now lba entry value t =
      ap (λ (ws : List ℕ). set ws (l.map_off / 8 + lba / 2) value) t.same
      ∙ sym (over_more words all_writes i (inside i t.lt) ∙ ap (λ (w : Write). set (so_far i) w.place w.value) (turn i now lba entry value t))

  step_is : (w1 w2 : Words) (f1 f2 : Option ℕ) (made : Bool) (i : ℕ) (now : List ℕ) (lba entry value : ℕ) → Turn i now lba entry value
      → Makes w1 w2 f1 f2 (written (at + (l.map_off / 8 + lba / 2)) value) made
      → Makes w1 w2 f1 f2 (written (get_or (shifted at all_writes) i no_write).place (get_or (shifted at all_writes) i no_write).value) made
  step_is w1 w2 f1 f2 made i now lba entry value t step =
      subst (λ (w : Write). Makes w1 w2 f1 f2 (written w.place w.value) made)
      (sym (shifted_index at all_writes i (inside i t.lt) ∙ ap (shift_one at) (turn i now lba entry value t))) step

  pub made_on : (w w1 w2 : Words) (f f1 f2 : Option ℕ) (i : ℕ) (now : List ℕ) (lba entry value : ℕ) → Turn i now lba entry value
      → Makes w w1 f f1 (write_steps (take i (shifted at all_writes))) true → Makes w1 w2 f1 f2 (written (at + (l.map_off / 8 + lba / 2)) value) true
      → Makes w w2 f f2 (write_steps (take (i + 1) (shifted at all_writes))) true
  made_on w w1 w2 f f1 f2 i now lba entry value t before step =
      writes_on w w1 w2 f f1 f2 (shifted at all_writes) i true (shift_inside i t.lt) before (step_is w1 w2 f1 f2 true i now lba entry value t step)

  pub made_stop : (w w1 w2 : Words) (f f1 f2 : Option ℕ) (i : ℕ) (now : List ℕ) (lba entry value : ℕ) → Turn i now lba entry value
      → Makes w w1 f f1 (write_steps (take i (shifted at all_writes))) true → Makes w1 w2 f1 f2 (written (at + (l.map_off / 8 + lba / 2)) value) false
      → Makes w w2 f f2 (write_steps (shifted at all_writes)) false
  made_stop w w1 w2 f f1 f2 i now lba entry value t before step =
      writes_stop w w1 w2 f f1 f2 (shifted at all_writes) i (shift_inside i t.lt) before (step_is w1 w2 f1 f2 false i now lba entry value t step)

  pub made_end : (w w1 : Words) (f f1 : Option ℕ) (i : ℕ) → length moves ≤ i → Makes w w1 f f1 (write_steps (take i (shifted at all_writes))) true
      → Makes w w1 f f1 (write_steps (shifted at all_writes)) true
  made_end w w1 f f1 i le before =
      subst (λ (ws : List Write). Makes w w1 f f1 (write_steps ws) true)
      (take_all i (shifted at all_writes) (omega (arith, length_shifted at all_writes, length_moves l words moves))) before

  pub copy_end : (i : ℕ) (now : List ℕ) → length moves ≤ i → now ≡ so_far i → now ≡ written_over words all_writes
  copy_end i now le same = same ∙ ap (written_over words) (take_all i all_writes (omega (arith, length_moves l words moves)))

-- a move's word lies inside the arena
pub move_inside : (l : Layout) (half : Half) → IsLayout l → half.lba < l.external → l.map_off / 8 + half.lba / 2 < l.size / 8
move_inside l half ok lt = omega (arith, ordered l ok)
