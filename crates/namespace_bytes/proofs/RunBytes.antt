-- Runs of bytes, put into pieces of a namespace.
use Rattle.std.proofs.Common.{◌≡◌, ℕ, ◌+◌, ◌-◌, ◌<◌, ◌≤◌, ◌⊎◌, inl, inr, List, [], ◌∷◌, length, take, drop, get_or, sym, ap, ◌∙◌, arith}
use Rattle.std.proofs.lemmas.Bool.{cases_lt}
use Rattle.std.proofs.lemmas.List.{ext_get_or, get_or-drop, get_or-take, length-drop, length-take-le}
use Rattle.cut_words.specs.WordBytes.{put_at}
use Rattle.cut_words.proofs.Put.{length_put, put_outside}
use Rattle.namespace_bytes.specs.declared.runs.Run.{Run}
use Rattle.namespace_bytes.specs.Changed.{changed_from}
use Rattle.namespace_bytes.specs.Runs.{run_byte, runs_byte}
use Rattle.namespace_bytes.proofs.One.{put_inside}
use Rattle.namespace_bytes.proofs.Patched.{at_row, length_row}
use Rattle.namespace_bytes.proofs.SectorWords.{pick_above, pick_below}

-- ---- a byte

pub run_before : (run : Run) (i old : ℕ) → i < run.first → run_byte run i old ≡ old
run_before run i old lt = pick_below i run.first old _ lt

pub run_behind : (run : Run) (i old : ℕ) → run.first + length run.bytes ≤ i → run_byte run i old ≡ old
run_behind run i old le =
    pick_above i run.first old _ (omega (arith, le)) ∙ pick_above i (run.first + length run.bytes) (get_or run.bytes (i - run.first) 0) old le

pub run_inside : (run : Run) (i k old : ℕ) → i ≡ run.first + k → k < length run.bytes → run_byte run i old ≡ get_or run.bytes k 0
run_inside run i k old is lt =
    pick_above i run.first old _ (omega (arith, is))
    ∙ pick_below i (run.first + length run.bytes) (get_or run.bytes (i - run.first) 0) old (omega (arith, is, lt))
    ∙ ap (λ (n : ℕ). get_or run.bytes n 0) (let e : i - run.first ≡ k = omega (arith, is) in e)

-- ---- a piece

long_piece : (f : ℕ → ℕ → ℕ) (from : ℕ) (piece : List ℕ) → length (changed_from f from piece) ≡ length piece
long_piece f from piece = length_row (λ m i old. f i old) 0 from piece

at_piece : (f : ℕ → ℕ → ℕ) (from : ℕ) (piece : List ℕ) (j : ℕ) → j < length piece → get_or (changed_from f from piece) j 0 ≡ f (from + j) (get_or piece j 0)
at_piece f from piece j lt = at_row (λ m i old. f i old) 0 from piece j lt

-- the piece becomes this one
piece_is : (f : ℕ → ℕ → ℕ) (from : ℕ) (piece new : List ℕ) → length new ≡ length piece → ((j : ℕ) → j < length piece → get_or new j 0 ≡ f (from + j) (get_or piece j 0)) → new ≡ changed_from f from piece
piece_is f from piece new long each =
    ext_get_or 0 new (changed_from f from piece) (long ∙ sym (long_piece f from piece)) (λ j lt.
    let less : j < length piece = omega (arith, lt, long) in
    each j less ∙ sym (at_piece f from piece j less))

-- the run has no byte of the piece
pub run_beside : (run : Run) (from : ℕ) (piece : List ℕ) → ((j : ℕ) → j < length piece → (from + j < run.first) ⊎ (run.first + length run.bytes ≤ from + j)) → piece ≡ changed_from (run_byte run) from piece
run_beside run from piece out =
    piece_is (run_byte run) from piece piece (omega arith) (λ j lt. sym (elim (out j lt) [
      | inl before ↦ run_before run (from + j) (get_or piece j 0) before
      | inr behind ↦ run_behind run (from + j) (get_or piece j 0) behind
    ]))

-- a part of the run is put into the piece
module _ (bytes : List ℕ) (first from : ℕ) (piece : List ℕ) (ahead done count : ℕ) (ahead_is : ahead ≡ first - from) (done_is : done ≡ from - first)
    (room : ahead + count ≤ length piece) (left : done + count ≤ length bytes) (all : (ahead + count ≡ length piece) ⊎ (done + count ≡ length bytes)) where
  abbrev run : Run
  run = record { first = first; bytes = bytes }

  abbrev part : List ℕ
  part = take count (drop done bytes)

  part_long : length part ≡ count
  part_long = length-take-le count (drop done bytes) (omega (arith, left, length-drop done bytes))

  in_piece : ahead + length part ≤ length piece
  in_piece = omega (arith, room, part_long)

  one : (j : ℕ) → j < length piece → get_or (put_at piece ahead part) j 0 ≡ run_byte run (from + j) (get_or piece j 0)
  one j lt = elim (cases_lt j ahead) [
    | inl before ↦
        put_outside piece ahead part j in_piece (inl before)
        ∙ sym (run_before run (from + j) (get_or piece j 0) (omega (arith, before, ahead_is)))
    | inr after ↦ elim (cases_lt j (ahead + count)) [
      | inl within ↦
          let k : ℕ = j - ahead in
          ap (λ (n : ℕ). get_or (put_at piece ahead part) n 0) (let e : j ≡ ahead + (j - ahead) = omega (arith, after) in e)
          ∙ put_inside piece ahead part (j - ahead) in_piece (omega (arith, within, after, part_long))
          ∙ get_or-take count (drop done bytes) (j - ahead) 0 (omega (arith, within, after))
          ∙ get_or-drop done bytes (j - ahead) 0
          ∙ sym (run_inside run (from + j) (done + (j - ahead)) (get_or piece j 0) (omega (arith, after, ahead_is, done_is)) (omega (arith, within, after, left)))
      | inr past ↦
          put_outside piece ahead part j in_piece (inr (omega (arith, past, part_long)))
          ∙ sym (elim all [
            | inl full ↦ absurd (omega (arith, full, past, lt))
            | inr whole ↦ run_behind run (from + j) (get_or piece j 0) (omega (arith, past, whole, ahead_is, done_is))
          ])
    ]
  ]

  pub part_put : put_at piece ahead (take count (drop done bytes)) ≡ changed_from (run_byte (record { first = first; bytes = bytes })) from piece
  part_put = piece_is (run_byte run) from piece (put_at piece ahead part) (length_put piece ahead part in_piece) one

-- ---- runs

pub no_runs : (from : ℕ) (piece : List ℕ) → piece ≡ changed_from (runs_byte []) from piece
no_runs from piece = piece_is (runs_byte []) from piece piece (omega arith) (λ j lt. omega arith)

pub runs_more : (run : Run) (runs : List Run) (from : ℕ) (piece : List ℕ) → changed_from (runs_byte runs) from (changed_from (run_byte run) from piece) ≡ changed_from (runs_byte (run ∷ runs)) from piece
runs_more run runs from piece =
    let mid : List ℕ = changed_from (run_byte run) from piece in
    piece_is (runs_byte (run ∷ runs)) from piece (changed_from (runs_byte runs) from (changed_from (run_byte run) from piece))
    (long_piece (runs_byte runs) from (changed_from (run_byte run) from piece) ∙ long_piece (run_byte run) from piece)
    (λ j lt.
    at_piece (runs_byte runs) from (changed_from (run_byte run) from piece) j (omega (arith, lt, long_piece (run_byte run) from piece))
    ∙ ap (runs_byte runs (from + j)) (at_piece (run_byte run) from piece j lt))
