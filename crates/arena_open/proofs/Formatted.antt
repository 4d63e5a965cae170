-- The arena after a format, from the words' final values.
use Rattle.std.proofs.Common.{◌≡◌, ℕ, ◌+◌, ◌/◌, ◌≤◌, List, length, drop, Option, Result, Ok, Err, sym, ap, ◌∙◌, subst}
use Rattle.std.specs.Prelude.{is_ok, OnOk}
use Rattle.nvd_words.specs.Bytes.{AreBytes}
use Rattle.cut_words.specs.declared.fuse.PowerCut.{PowerCut}
use Rattle.cut_words.specs.Words.{Words, settled}
use Rattle.cut_words.specs.Fuses.{Makes}
use Rattle.cut_words.specs.WordBytes.{words_in}
use Rattle.arena_layout.specs.declared.layout.Layout.{Layout}
use Rattle.arena_layout.specs.declared.info.Info.{Info}
use Rattle.arena_layout.specs.Layout.{IsLayout}
use Rattle.arena_layout.specs.Info.{ReadsBack}
use Rattle.arena_layout.specs.Spelling.{spelling_of}
use Rattle.arena_open.specs.Areas.{new_info}
use Rattle.arena_open.specs.Writes.{write_steps, written_over, IsSettled}
use Rattle.arena_open.specs.Format.{area_writes, format_writes, IsNewArena}
use Rattle.arena_open.proofs.Written.{made_settled}
use Rattle.arena_open.proofs.New.{new_arena}

-- bytes encode an info and read back as it
pub record Spells (bytes : List ℕ) (info : Info) : Type 0 where
  pub spelling : bytes ≡ spelling_of info
  pub reads : ReadsBack bytes info
  pub count : length bytes ≡ 4096
  pub fit : AreBytes bytes

pub spells_new : (bytes : List ℕ) (info wanted : Info) → bytes ≡ spelling_of info → ReadsBack bytes info → length bytes ≡ 4096 → AreBytes bytes → info ≡ wanted → Spells bytes wanted
spells_new bytes info wanted spelling reads count fit is =
    record { spelling = spelling ∙ ap spelling_of is; reads = subst (λ (i : Info). ReadsBack bytes i) is reads; count = count; fit = fit }

pub settles : (r : Result (Unit {0}) PowerCut) (w w1 : Words) (f f1 : Option ℕ) (at : ℕ) (l : Layout) (bytes uuid parent : List ℕ) → Spells bytes (new_info l uuid parent) → IsSettled w
    → Makes w w1 f f1 (write_steps (area_writes at l (words_in bytes))) (is_ok r) → OnOk r (w1 ≡ settled (written_over w.kept (format_writes at l uuid parent)))
settles (Ok u) w w1 f f1 at l bytes uuid parent is was made =
    made_settled w w1 f f1 (area_writes at l (words_in bytes)) was made
    ∙ ap (λ (b : List ℕ). settled (written_over w.kept (area_writes at l (words_in b)))) is.spelling
settles (Err e) w w1 f f1 at l bytes uuid parent is was made = tt

pub opens : (r : Result (Unit {0}) PowerCut) (w w1 : Words) (f f1 : Option ℕ) (at : ℕ) (l : Layout) (bytes uuid parent : List ℕ) → Spells bytes (new_info l uuid parent) → IsSettled w
    → IsLayout l → at + l.size / 8 ≤ length w.kept → Makes w w1 f f1 (write_steps (area_writes at l (words_in bytes))) (is_ok r) → OnOk r (IsNewArena l uuid parent (drop at w1.kept))
opens (Ok u) w w1 f f1 at l bytes uuid parent is was ok inside made =
    subst (λ (ws : List ℕ). IsNewArena l uuid parent (drop at ws)) (sym (ap (λ (ws : Words). ws.kept) (made_settled w w1 f f1 (area_writes at l (words_in bytes)) was made)))
    (new_arena at l uuid parent bytes w.kept ok inside is.count is.fit is.reads)
opens (Err e) w w1 f f1 at l bytes uuid parent is was ok inside made = tt
