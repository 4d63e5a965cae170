-- Worked rows: operations on an arena with 32,480 sectors of two words.
use Rattle.std.proofs.Common.{◌≡◌, ℕ, [], ◌∷◌, true, false, refl}
use Rattle.arena_open.specs.declared.cell.Cell.TheVariants as cell
use Rattle.lane_core.specs.declared.history.Act.TheVariants as act
use Rattle.session_parts.specs.Parts.{stand_at}
use Rattle.bio_queue.specs.declared.bio.Completed.{Completed}
use Rattle.bio_queue.specs.declared.op.Op.{Op}
use Rattle.bio_queue.specs.declared.op.Op.TheVariants as op
use Rattle.bio_queue.specs.declared.op.OpReply.{OpReply}
use Rattle.bio_queue.specs.declared.op.OpReply.TheVariants as reply
use Rattle.bio_queue.specs.Ops.{fits, fits_in, kind_of}
use Rattle.bio_queue.specs.Standing.{stands_of}

abbrev read_last : Op
read_last = op.Read 32479

abbrev write_nine : Op
write_nine = op.Write 9 (7 ∷ 8 ∷ [])

abbrev seven_eight : OpReply
seven_eight = reply.Got (cell.Bytes (7 ∷ 8 ∷ []))

-- ---- which reply fits

read_got : fits (kind_of read_last) seven_eight ≡ true
read_got = refl

read_bad : fits (kind_of read_last) (reply.Got cell.Bad) ≡ true
read_bad = refl

read_wrote : fits (kind_of read_last) reply.Wrote ≡ false
read_wrote = refl

write_wrote : fits (kind_of write_nine) reply.Wrote ≡ true
write_wrote = refl

write_got : fits (kind_of write_nine) seven_eight ≡ false
write_got = refl

-- ---- what fits the arena

last_sector : fits_in 32480 2 read_last ≡ true
last_sector = refl

no_sector : fits_in 32480 2 (op.Read 32480) ≡ false
no_sector = refl

two_words : fits_in 32480 2 write_nine ≡ true
two_words = refl

three_words : fits_in 32480 2 (op.Write 9 (7 ∷ 8 ∷ 9 ∷ [])) ≡ false
three_words = refl

-- ---- in the history

abbrev completed : ℕ → ℕ → Op → OpReply → Completed
completed number call o r = record { submitter = 0; number = number; op = o; worker = 1; call = call; reply = r; note = 0 }

-- a worker wrote sector 9 in its call 3 and read it back in its call 4
both_stand : stands_of (completed 0 3 write_nine reply.Wrote ∷ completed 1 4 (op.Read 9) seven_eight ∷ []) ≡ stand_at 3 9 (act.Write (7 ∷ 8 ∷ [])) ∷ stand_at 4 9 (act.Read (cell.Bytes (7 ∷ 8 ∷ []))) ∷ []
both_stand = refl
