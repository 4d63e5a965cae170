-- Recovery of an arena stores only the arena's own words.
use Rattle.std.proofs.Common.{◌≡◌, ℕ, ◌+◌, ◌/◌, ◌<◌, ◌≤◌, List, [], ◌∷◌, take, drop, Ok, refl, ◌∙◌, arith}
use Rattle.std.specs.List.{All}
use Rattle.std.proofs.Math.ListN.{set}
use Rattle.std.proofs.lemmas.List.{take-set-le, drop-set-lt}
use Rattle.std.proofs.lemmas.List.Elements.{All-nil, All-cons, All-head, All-tail}
use Rattle.arena_layout.specs.declared.layout.Layout.{Layout}
use Rattle.arena_layout.specs.Layout.{IsLayout}
use Rattle.flog.specs.declared.half.Half.{Half}
use Rattle.arena_open.specs.declared.opened.Opened.{Opened}
use Rattle.arena_open.specs.Halves.{IsMove, AreMoves}
use Rattle.arena_open.specs.Writes.{Write, written_over}
use Rattle.arena_open.specs.Reading.{opening}
use Rattle.arena_open.specs.Moves.{move_write, move_writes, shifted}
use Rattle.arena_open.proofs.Opening.{Sound, sound}
use Rattle.arena_open.proofs.Turns.{move_inside}

abbrev pub Within : ℕ → ℕ → Write → Type 0
Within low high w = (low ≤ w.place) × (w.place < high)

pub take_over : (low high : ℕ) (old : List ℕ) (writes : List Write) → All (Within low high) writes → take low (written_over old writes) ≡ take low old
take_over low high old [] in' = refl
take_over low high old (w ∷ writes) in' =
    take_over low high (set old w.place w.value) writes (All-tail (Within low high) w writes in')
    ∙ take-set-le low old w.place w.value (All-head (Within low high) w writes in').0

pub drop_over : (low high : ℕ) (old : List ℕ) (writes : List Write) → All (Within low high) writes → drop high (written_over old writes) ≡ drop high old
drop_over low high old [] in' = refl
drop_over low high old (w ∷ writes) in' =
    drop_over low high (set old w.place w.value) writes (All-tail (Within low high) w writes in')
    ∙ drop-set-lt high old w.place w.value (All-head (Within low high) w writes in').1

moves_in : (at : ℕ) (l : Layout) (words : List ℕ) (moves : List Half) → IsLayout l → AreMoves l.external moves
    → All (Within at (at + l.size / 8)) (shifted at (move_writes l words moves))
moves_in at l words [] ok fit = All-nil (Within at (at + l.size / 8))
moves_in at l words (half ∷ moves) ok fit =
    let there = move_inside l half ok (All-head (IsMove l.external) half moves fit).sector in
    All-cons (Within at (at + l.size / 8)) (record { place = at + (move_write l words half).place; value = (move_write l words half).value })
    (shifted at (move_writes l (set words (move_write l words half).place (move_write l words half).value) moves))
    (omega arith, omega (arith, there))
    (moves_in at l (set words (move_write l words half).place (move_write l words half).value) moves ok (All-tail (IsMove l.external) half moves fit))

abbrev pub writes_of : ℕ → List ℕ → Opened → List Write
writes_of at words opened = shifted at (move_writes opened.info.layout words opened.moves)

pub writes_in : (at : ℕ) (words parent : List ℕ) (opened : Opened) → opening words parent ≡ Ok opened
    → All (Within at (at + opened.info.layout.size / 8)) (writes_of at words opened)
writes_in at words parent opened is =
    let s : Sound words parent opened = sound words parent opened is in
    moves_in at opened.info.layout words opened.moves s.arena.sound.layout s.moves
