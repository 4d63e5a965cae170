-- A page that is copied over another one, and what it leaves.
use Rattle.std.proofs.Common.{◌≡◌, ◌⊎◌, ℕ, ◌+◌, ◌*◌, ◌/◌, ◌<◌, ◌≤◌, List, ◌++◌, length, get_or, take, drop, refl, sym, ap, ◌∙◌, inl, inr, arith}
use Rattle.std.proofs.Math.Nat.{mul-le-mul_left}
use Rattle.std.proofs.lemmas.List.{ext_get_or, get_or-drop, length-take-le, length-drop, take_at, drop_at}
use Rattle.cut_words.specs.WordBytes.{put_at}
use Rattle.cut_words.proofs.Put.{length_put, put_outside}
use Rattle.cut_words.proofs.Bytes.{same_part}
use Rattle.arena_layout.specs.declared.layout.Layout.{Layout}
use Rattle.arena_layout.specs.Layout.{IsLayout}
use Rattle.map_table.specs.Entry.{entry_in}
use Rattle.arena_open.specs.Places.{block_word, log_word, value_at}
use Rattle.arena_open.specs.Reading.{entry_at, map_in}
use Rattle.arena_open.proofs.Apart.{ordered}
use Rattle.arena_open.proofs.Ranges.{map_range}
use Rattle.arena_repair.proofs.Changing.{Shows, page_of, Stays, BackupCopies, FirstCopies}

-- ---- a page that is put

pub page_long : (words : List ℕ) (from : ℕ) → from + 512 ≤ length words → length (page_of from words) ≡ 512
page_long words from le = length-take-le 512 (drop from words) (omega (arith, length-drop from words, le))

-- the page itself
pub page_put : (words page : List ℕ) (to : ℕ) → length page ≡ 512 → to + 512 ≤ length words → page_of to (put_at words to page) ≡ page
page_put words page to len le =
    ap (take 512) (drop_at (take to words) (page ++ drop (to + length page) words) to (length-take-le to words (omega (arith, le))))
    ∙ take_at page (drop (to + length page) words) 512 len

-- another page
pub page_apart : (words page : List ℕ) (to other : ℕ) → length page ≡ 512 → to + 512 ≤ length words → (other + 512 ≤ to) ⊎ (to + 512 ≤ other)
    → page_of other (put_at words to page) ≡ page_of other words
page_apart words page to other len le out =
    same_part (put_at words to page) words other 512 (length_put words to page (omega (arith, len, le)))
    (λ j low high. put_outside words to page j (omega (arith, len, le)) (elim out [
      | inl before ↦ inl (omega (arith, before, high))
      | inr after ↦ inr (omega (arith, after, low, len))
    ]))

-- ---- the rest of the arena

-- a block lies before the backup
pub block_before : (l : Layout) → IsLayout l → (b k : ℕ) → b < l.internal → k < l.inner / 8 → l.data_off / 8 + (b * (l.inner / 8) + k) < l.info_off / 8
block_before l ok b k lb lk =
    let up : l.inner / 8 * (b + 1) ≤ l.inner / 8 * l.internal = mul-le-mul_left (l.inner / 8) (let le : b + 1 ≤ l.internal = omega arith in le) in
    omega (arith, up, ordered l ok)

module _ (l : Layout) (words page : List ℕ) (ok : IsLayout l) (fits : l.size / 8 ≤ length words) (to : ℕ) (len : length page ≡ 512) (at_page : (to ≡ 0) ⊎ (to ≡ l.info_off / 8)) where
  abbrev now : List ℕ
  now = put_at words to page

  room : to + length page ≤ length words
  room = elim at_page [
    | inl first ↦ omega (arith, first, len, ordered l ok, fits)
    | inr last ↦ omega (arith, last, len, ordered l ok, fits)
  ]

  -- a word between the two pages
  between : (i : ℕ) → l.data_off / 8 ≤ i → i < l.info_off / 8 → get_or now i 0 ≡ get_or words i 0
  between i low high = put_outside words to page i room (elim at_page [
    | inl first ↦ inr (omega (arith, first, len, low, ordered l ok))
    | inr last ↦ inl (omega (arith, last, high))
  ])

  -- a word behind the arena
  past : (i : ℕ) → l.size / 8 ≤ i → get_or now i 0 ≡ get_or words i 0
  past i low = put_outside words to page i room (inr (elim at_page [
    | inl first ↦ omega (arith, first, len, low, ordered l ok)
    | inr last ↦ omega (arith, last, len, low, ordered l ok)
  ]))

  page_shows : Shows l words now
  page_shows = record {
    long = length_put words to page room;
    groups_are = λ lane lt. map_range (λ k. value_at l now (log_word lane k)) (λ k. value_at l words (log_word lane k)) 0 8 (λ k low high.
        between (l.flog_off / 8 + (8 * lane + k)) (omega (arith, ordered l ok)) (omega (arith, ordered l ok, lt, high)));
    blocks_are = λ b count lb le. map_range (λ k. value_at l now (block_word b k)) (λ k. value_at l words (block_word b k)) 0 count (λ k low high.
        between (l.data_off / 8 + (b * (l.inner / 8) + k)) (omega arith) (block_before l ok b k lb (omega (arith, high, le))));
  }

  pub page_stays : Stays l words now
  page_stays = record {
    shows = page_shows;
    behind = ext_get_or 0 (drop (l.size / 8) now) (drop (l.size / 8) words)
        (omega (arith, length-drop (l.size / 8) now, length-drop (l.size / 8) words, length_put words to page room))
        (λ i lt. get_or-drop (l.size / 8) now i 0 ∙ past (l.size / 8 + i) (omega arith) ∙ sym (get_or-drop (l.size / 8) words i 0));
  }

  pub page_map : map_in l now ≡ map_in l words
  page_map = map_range (entry_at l now) (entry_at l words) 0 l.external (λ sector low high.
      ap (λ (word : ℕ). entry_in word sector) (between (l.map_off / 8 + sector / 2) (omega (arith, ordered l ok)) (omega (arith, ordered l ok, high))))

-- ---- the two copies

pub backup_copies : BackupCopies
backup_copies l words ok fits =
    let le : 0 + 512 ≤ length words = omega (arith, ordered l ok, fits) in
    let there : l.info_off / 8 + 512 ≤ length words = omega (arith, ordered l ok, fits) in
    let len : length (page_of 0 words) ≡ 512 = page_long words 0 le in
    record {
      stays = page_stays l words (page_of 0 words) ok fits (l.info_off / 8) len (inr refl);
      map_is = page_map l words (page_of 0 words) ok fits (l.info_off / 8) len (inr refl);
      info_is = page_apart words (page_of 0 words) (l.info_off / 8) 0 len there (inl (omega (arith, ordered l ok)));
      backup_is = page_put words (page_of 0 words) (l.info_off / 8) len there;
    }

pub first_copies : FirstCopies
first_copies l words ok fits =
    let le : 0 + 512 ≤ length words = omega (arith, ordered l ok, fits) in
    let there : l.info_off / 8 + 512 ≤ length words = omega (arith, ordered l ok, fits) in
    let len : length (page_of (l.info_off / 8) words) ≡ 512 = page_long words (l.info_off / 8) there in
    record {
      stays = page_stays l words (page_of (l.info_off / 8) words) ok fits 0 len (inl refl);
      map_is = page_map l words (page_of (l.info_off / 8) words) ok fits 0 len (inl refl);
      info_is = page_put words (page_of (l.info_off / 8) words) 0 len le;
      backup_is = page_apart words (page_of (l.info_off / 8) words) 0 (l.info_off / 8) len le (inr (omega (arith, ordered l ok)));
    }
