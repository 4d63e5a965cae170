-- An arena that is followed by others: only its own words count.
use Rattle.std.proofs.Common.{◌≡◌, ℕ, ◌+◌, ◌-◌, ◌*◌, ◌/◌, ◌<◌, ◌≤◌, List, ◌++◌, length, get_or, take, ap, ◌∙◌, arith}
use Rattle.std.proofs.lemmas.List.{get_or-take, get_or_append_left, length-append, length-take-le}
use Rattle.cut_words.proofs.Bytes.{same_part}
use Rattle.arena_layout.specs.declared.layout.Layout.{Layout}
use Rattle.arena_layout.specs.Layout.{IsLayout}
use Rattle.map_table.specs.Entry.{entry_in}
use Rattle.arena_open.specs.Places.{block_word, log_word, value_at}
use Rattle.arena_open.specs.Reading.{entry_at}
use Rattle.arena_open.proofs.Apart.{ordered}
use Rattle.arena_open.proofs.Ranges.{map_range}
use Rattle.arena_repair.proofs.Changing.{page_of}
use Rattle.arena_repair.proofs.PageChanges.{block_before}
use Rattle.arena_repair.proofs.Repaired.{HasPages}

module _ (l : Layout) (ok : IsLayout l) (words tail : List ℕ) (fits : l.size / 8 ≤ length words) (long : length tail ≡ length words - l.size / 8) where
  abbrev joined : List ℕ
  joined = take (l.size / 8) words ++ tail

  front_long : length (take (l.size / 8) words) ≡ l.size / 8
  front_long = length-take-le (l.size / 8) words fits

  joined_long : length joined ≡ length words
  joined_long = omega (arith, length-append (take (l.size / 8) words) tail, front_long, long, fits)

  word_same : (i : ℕ) → i < l.size / 8 → get_or joined i 0 ≡ get_or words i 0
  word_same i lt = get_or_append_left (take (l.size / 8) words) tail 0 i (omega (arith, lt, front_long)) ∙ get_or-take (l.size / 8) words i 0 lt

  page_same : (word : ℕ) → word + 512 ≤ l.size / 8 → page_of word joined ≡ page_of word words
  page_same word le = same_part joined words word 512 joined_long (λ j low high. word_same j (omega (arith, high, le)))

  pub front_same : HasPages l words joined 0 (l.info_off / 8)
  front_same = record {
    stays = record {
      long = joined_long;
      groups_are = λ lane lt. map_range (λ k. value_at l joined (log_word lane k)) (λ k. value_at l words (log_word lane k)) 0 8 (λ k low high.
          word_same (l.flog_off / 8 + (8 * lane + k)) (omega (arith, ordered l ok, lt, high)));
      blocks_are = λ b count lb le. map_range (λ k. value_at l joined (block_word b k)) (λ k. value_at l words (block_word b k)) 0 count (λ k low high.
          word_same (l.data_off / 8 + (b * (l.inner / 8) + k)) (omega (arith, ordered l ok, block_before l ok b k lb (omega (arith, high, le)))));
    };
    map_is = map_range (entry_at l joined) (entry_at l words) 0 l.external (λ sector low high.
        ap (λ (word : ℕ). entry_in word sector) (word_same (l.map_off / 8 + sector / 2) (omega (arith, ordered l ok, high))));
    info_is = page_same 0 (omega (arith, ordered l ok));
    backup_is = page_same (l.info_off / 8) (omega (arith, ordered l ok));
  }
