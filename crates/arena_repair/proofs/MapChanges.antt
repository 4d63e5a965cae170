-- Entries that are put into the map of an arena, and what they leave.
use Rattle.std.proofs.Common.{◌≡◌, ◌≢◌, ℕ, zero, suc, ◌+◌, ◌*◌, ◌/◌, ◌^◌, ◌<◌, ◌≤◌, List, [], ◌∷◌, length, get_or, take, refl, sym, ap, ◌∙◌, inl, inr, arith}
use Rattle.std.specs.Prelude.{All}
use Rattle.std.proofs.Math.ListN.{set}
use Rattle.std.proofs.lemmas.Bool.{cases_eq}
use Rattle.std.proofs.lemmas.List.{ext_get_or, get_or-set_same, get_or-set_other, length-set, take-set-le, drop-set-lt}
use Rattle.std.proofs.lemmas.List.Elements.{All-head, All-tail}
use Rattle.std.proofs.lemmas.List.FromFn.{get_or-map-range_with_len}
use Rattle.arena_layout.specs.declared.layout.Layout.{Layout}
use Rattle.arena_layout.specs.Layout.{IsLayout}
use Rattle.map_table.specs.Entry.{entry_in, with_entry}
use Rattle.map_table.proofs.Entries.{put_back, other_stays}
use Rattle.arena_open.specs.Places.{block_word, map_word, log_word, value_at}
use Rattle.arena_open.specs.Reading.{entry_at, map_in}
use Rattle.arena_open.proofs.Apart.{ordered, places_apart}
use Rattle.arena_open.proofs.Ranges.{map_range}
use Rattle.arena_open.proofs.Opening.{length_map}
use Rattle.arena_repair.specs.Repair.{with_map}
use Rattle.arena_repair.proofs.Changing.{Shows, page_of, Stays, WithMapChanges}

-- an entry of the map, as a reader lists them
pub index_is : (l : Layout) (words : List ℕ) (sector : ℕ) → sector < l.external → get_or (map_in l words) sector 0 ≡ entry_at l words sector
index_is l words sector lt = get_or-map-range_with_len (entry_at l words) 0 l.external sector sector 0 lt (omega arith)

-- nothing is changed
pub shows_same : (l : Layout) (words : List ℕ) → Shows l words words
shows_same l words = record { long = refl; groups_are = λ lane lt. refl; blocks_are = λ block count lt le. refl }

pub stays_same : (l : Layout) (words : List ℕ) → Stays l words words
stays_same l words = record { shows = shows_same l words; behind = refl }

-- one change after another
pub shows_on : (l : Layout) (a b c : List ℕ) → Shows l a b → Shows l b c → Shows l a c
shows_on l a b c first second = record {
  long = second.long ∙ first.long;
  groups_are = λ lane lt. second.groups_are lane lt ∙ first.groups_are lane lt;
  blocks_are = λ block count lt le. second.blocks_are block count lt le ∙ first.blocks_are block count lt le;
}

pub stays_on : (l : Layout) (a b c : List ℕ) → Stays l a b → Stays l b c → Stays l a c
stays_on l a b c first second = record { shows = shows_on l a b c first.shows second.shows; behind = second.behind ∙ first.behind }

-- ---- one entry

module _ (l : Layout) (words : List ℕ) (ok : IsLayout l) (fits : l.size / 8 ≤ length words) (own entry : ℕ) (there : own < l.external) (small : entry < 2 ^ 32) where
  abbrev place : ℕ
  place = l.map_off / 8 + own / 2

  abbrev value : ℕ
  value = with_entry (get_or words place 0) own entry

  -- the words with the entry of sector `own`
  abbrev pub one_put : List ℕ
  one_put = set words place value

  inside : l.map_off / 8 + own / 2 < l.flog_off / 8
  inside = omega (arith, ordered l ok, there)

  in_words : l.map_off / 8 + own / 2 < length words
  in_words = omega (arith, inside, ordered l ok, fits)

  at_place : get_or one_put place 0 ≡ value
  at_place = get_or-set_same words place value 0 in_words

  same_word : (sector : ℕ) → sector ≢ own → sector / 2 ≡ own / 2 → entry_at l one_put sector ≡ entry_at l words sector
  same_word sector other same =
      let at : l.map_off / 8 + sector / 2 ≡ l.map_off / 8 + own / 2 = omega (arith, same) in
      ap (λ (i : ℕ). entry_in (get_or one_put i 0) sector) at ∙ ap (λ (word : ℕ). entry_in word sector) at_place
      ∙ other_stays (get_or words place 0) own entry sector small (λ e. other (omega (arith, e, same)))
      ∙ ap (λ (i : ℕ). entry_in (get_or words i 0) sector) (sym at)

  other_word : (sector : ℕ) → sector / 2 ≢ own / 2 → entry_at l one_put sector ≡ entry_at l words sector
  other_word sector apart =
      ap (λ (word : ℕ). entry_in word sector) (get_or-set_other words place (l.map_off / 8 + sector / 2) value 0 (λ e. apart (omega (arith, e))))

  pub others_stay : (sector : ℕ) → sector ≢ own → entry_at l one_put sector ≡ entry_at l words sector
  others_stay sector other = elim (cases_eq (sector / 2) (own / 2)) [ inl same ↦ same_word sector other same | inr apart ↦ other_word sector apart ]

  pub entry_put : entry_at l one_put own ≡ entry
  entry_put = ap (λ (word : ℕ). entry_in word own) at_place ∙ put_back (get_or words place 0) own entry small

  not_block : (b k : ℕ) → b < l.internal → k < l.inner / 8 → l.data_off / 8 + (b * (l.inner / 8) + k) ≢ place
  not_block b k lb lk e =
      let same : block_word b k ≡ map_word (own / 2) =
      places_apart l ok (block_word b k) (map_word (own / 2)) place (record { there = (lb, lk); is = e }) (record { there = omega (arith, there); is = refl }) in
      cc

  one_shows : Shows l words one_put
  one_shows = record {
    long = length-set words place value;
    groups_are = λ lane lt. map_range (λ k. value_at l one_put (log_word lane k)) (λ k. value_at l words (log_word lane k)) 0 8 (λ k low high.
        get_or-set_other words place (l.flog_off / 8 + (8 * lane + k)) value 0 (λ e. omega (arith, e, inside)));
    blocks_are = λ b count lb le. map_range (λ k. value_at l one_put (block_word b k)) (λ k. value_at l words (block_word b k)) 0 count (λ k low high.
        get_or-set_other words place (l.data_off / 8 + (b * (l.inner / 8) + k)) value 0 (not_block b k lb (omega (arith, high, le))));
  }

  pub one_stays : Stays l words one_put
  one_stays = record { shows = one_shows; behind = drop-set-lt (l.size / 8) words place value (omega (arith, inside, ordered l ok)) }

  pub one_info : page_of 0 one_put ≡ page_of 0 words
  one_info = take-set-le 512 words place value (omega (arith, ordered l ok))

  pub one_backup : page_of (l.info_off / 8) one_put ≡ page_of (l.info_off / 8) words
  one_backup = ap (take 512) (drop-set-lt (l.info_off / 8) words place value (omega (arith, inside, ordered l ok)))

-- ---- all entries from a sector on

record Puts (l : Layout) (words now : List ℕ) (sector : ℕ) (entries : List ℕ) : Type 0 where
  stays : Stays l words now
  info_is : page_of 0 now ≡ page_of 0 words
  backup_is : page_of (l.info_off / 8) now ≡ page_of (l.info_off / 8) words
  front : (k : ℕ) → k < sector → entry_at l now k ≡ entry_at l words k
  new : (k : ℕ) → k < length entries → entry_at l now (sector + k) ≡ get_or entries k 0

puts_all : (l : Layout) (words : List ℕ) (sector : ℕ) (entries : List ℕ) → IsLayout l → l.size / 8 ≤ length words → sector + length entries ≤ l.external → All (λ entry. entry < 2 ^ 32) entries
    → Puts l words (with_map l words sector entries) sector entries
puts_all l words sector [] ok fits le all = record {
  stays = stays_same l words;
  info_is = refl;
  backup_is = refl;
  front = λ k lt. refl;
  new = λ k lt. absurd (omega (arith, lt));
}
puts_all l words sector (entry ∷ entries) ok fits le all =
    let there : sector < l.external = omega (arith, le) in
    let small : entry < 2 ^ 32 = All-head (λ e. e < 2 ^ 32) entry entries all in
    let one : Stays l words (one_put l words ok fits sector entry there small) = one_stays l words ok fits sector entry there small in
    let rest : Puts l (one_put l words ok fits sector entry there small) (with_map l (one_put l words ok fits sector entry there small) (sector + 1) entries) (sector + 1) entries =
    puts_all l (one_put l words ok fits sector entry there small) (sector + 1) entries ok (omega (arith, fits, one.shows.long)) (omega (arith, le)) (All-tail (λ e. e < 2 ^ 32) entry entries all) in
    record {
      stays = stays_on l words (one_put l words ok fits sector entry there small) (with_map l words sector (entry ∷ entries)) one rest.stays;
      info_is = rest.info_is ∙ one_info l words ok fits sector entry there small;
      backup_is = rest.backup_is ∙ one_backup l words ok fits sector entry there small;
      front = λ k lt. rest.front k (omega (arith, lt)) ∙ others_stay l words ok fits sector entry there small k (λ e. omega (arith, e, lt));
      new = λ k lt. new_by k lt rest;
    }
  where
    new_by : (k : ℕ) → k < length (entry ∷ entries)
        → Puts l (set words (l.map_off / 8 + sector / 2) (with_entry (get_or words (l.map_off / 8 + sector / 2) 0) sector entry)) (with_map l words sector (entry ∷ entries)) (sector + 1) entries
        → entry_at l (with_map l words sector (entry ∷ entries)) (sector + k) ≡ get_or (entry ∷ entries) k 0
    new_by zero lt rest =
        ap (entry_at l (with_map l words sector (entry ∷ entries))) (let e : sector + 0 ≡ sector = omega arith in e)
        ∙ rest.front sector (omega arith)
        ∙ entry_put l words ok fits sector entry (omega (arith, le)) (All-head (λ e. e < 2 ^ 32) entry entries all)
    new_by (suc k) lt rest =
        ap (entry_at l (with_map l words sector (entry ∷ entries))) (let e : sector + suc k ≡ sector + 1 + k = omega arith in e)
        ∙ rest.new k (omega (arith, lt))

pub with_map_changes : WithMapChanges
with_map_changes l words entries ok fits len all =
    let p : Puts l words (with_map l words 0 entries) 0 entries = puts_all l words 0 entries ok fits (omega (arith, len)) all in
    record {
      stays = p.stays;
      map_is = ext_get_or 0 (map_in l (with_map l words 0 entries)) entries (length_map l (with_map l words 0 entries) ∙ sym len)
          (λ k lt. let in' : k < l.external = omega (arith, lt, length_map l (with_map l words 0 entries)) in
          index_is l (with_map l words 0 entries) k in'
          ∙ ap (entry_at l (with_map l words 0 entries)) (let e : k ≡ 0 + k = omega arith in e)
          ∙ p.new k (omega (arith, in', len)));
      info_is = p.info_is;
      backup_is = p.backup_is;
    }
