-- A block that is written alone.
use Rattle.std.proofs.Common.{◌≡◌, ◌≢◌, ◌⊎◌, ℕ, ◌+◌, ◌*◌, ◌/◌, ◌<◌, ◌≤◌, List, [], length, get_or, Bool, Option, None, refl, ap, ◌∙◌, arith}
use Rattle.std.proofs.lemmas.List.Elements.{All-nil}
use Rattle.cut_words.specs.Words.{Words, after, settled}
use Rattle.cut_words.specs.WordBytes.{words_in}
use Rattle.cut_words.specs.Fuses.{Makes, allowed}
use Rattle.cut_words.specs.Guarded.{IsGuarded}
use Rattle.cut_words.proofs.Guarded.{all_settled}
use Rattle.label_index.specs.declared.index.IndexBlock.{IndexBlock}
use Rattle.label_index.specs.Index.{place_of}
use Rattle.label_index.specs.Spelling.{spelling_of}
use Rattle.label_index.specs.Valid.{IsValid}
use Rattle.label_area.specs.Change.{guard_of, guarded_by, closed_word, with_block}
use Rattle.label_area.specs.Writing.{CanWrite, block_steps_from, writing_steps}
use Rattle.label_area.proofs.Written.{PutFits, block_out, guard_apart, guarded_below}
use Rattle.label_area.proofs.Steps.{HasSize, valid_size, block_inside as inside, final_length, past_block, steps_alone}

pub no_label : (size count : ℕ) → PutFits size None count
no_label size count l e = absurd (cc)

module _ (words : List ℕ) (block : IndexBlock) (valid : IsValid (8 * length words) block) where
  abbrev final : List ℕ
  final = with_block block words

  sizes : HasSize block.size (length words)
  sizes = valid_size (length words) block valid

  pub block_inside : place_of block.size block.side / 8 + block.size / 8 ≤ length words
  block_inside = inside words block None valid (no_label block.size (length words))

  pub same_length : length final ≡ length words
  same_length = final_length words block None valid (no_label block.size (length words))

  pub outside : (i : ℕ) → (i < place_of block.size block.side / 8) ⊎ (place_of block.size block.side / 8 + block.size / 8 ≤ i) → get_or final i 0 ≡ get_or words i 0
  outside i away = past_block words block None valid (no_label block.size (length words)) i away

  lies : IsGuarded words final [] (guard_of block.size block.side) (guarded_by block.size block.side)
  lies = record {
    same_length = same_length;
    guard_in = omega (arith, block_inside, sizes.enough);
    before_in = All-nil (λ p. p < length words);
    rest_in = guarded_below block.size block.side (length words) sizes.enough block_inside;
    before_apart = All-nil (λ p. p ≢ guard_of block.size block.side);
    rest_apart = guard_apart block.size block.side sizes.enough;
    outside = λ i before rest apart. outside i (block_out block.size block.side i sizes.enough rest apart);
  }

  pub block_settles : after (settled words) (writing_steps words block None) ≡ settled final
  block_settles =
      all_settled words final [] (guard_of block.size block.side) (closed_word (get_or final (guard_of block.size block.side) 0)) (guarded_by block.size block.side) lies

-- the steps of the block, if power isn't cut
pub written_alone : (words new : Words) (fuse left : Option ℕ) (block : IndexBlock) (place : ℕ) (spelled : List ℕ) (made : Bool) → CanWrite words block None → fuse ≡ None
    → place ≡ place_of block.size block.side / 8 → spelled ≡ words_in (spelling_of block) → Makes words new fuse left (block_steps_from place spelled) made
    → new ≡ settled (with_block block words.kept)
written_alone words new fuse left block place spelled made ok on at is h =
    h.words ∙ ap (λ (f : Option ℕ). after words (allowed f (block_steps_from place spelled))) on
    ∙ ap (after words) (steps_alone words block None ok refl place spelled at is)
    ∙ ap (λ (w : Words). after w (writing_steps words.kept block None)) ok.none_pending ∙ block_settles words.kept block ok.valid
