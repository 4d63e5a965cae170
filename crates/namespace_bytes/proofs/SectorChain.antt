-- The bytes of a namespace that `sector_byte` changes, each by itself, make the words of `put_links`.
use Rattle.std.proofs.Common.{◌≡◌, ℕ, ◌+◌, ◌-◌, ◌*◌, ◌/◌, ◌<◌, ◌≤◌, List, [], ◌∷◌, length, map, get_or, take, drop, Ok, refl, sym, ap, ◌∙◌, subst, inl, inr, arith}
use Rattle.std.specs.Prelude.{if◌then◌else◌, nat_lt, sum_by}
use Rattle.std.specs.List.{All}
use Rattle.std.proofs.lemmas.Bool.{cases_lt}
use Rattle.std.proofs.lemmas.List.{ext_get_or, get_or_past, length-drop, length-take-le}
use Rattle.std.proofs.lemmas.List.Elements.{All-cons, All-head, All-nil, All-tail}
use Rattle.std.proofs.lemmas.List.Sums.{sum_by-cons}
use Rattle.cut_words.specs.WordBytes.{words_in}
use Rattle.arena_open.specs.Chain.{Link, state_at}
use Rattle.arena_open.specs.Reading.{opening}
use Rattle.arena_open.proofs.Own.{Lies, lies}
use Rattle.namespace_bytes.specs.Contents.{HasContents}
use Rattle.namespace_bytes.specs.Putting.{AreAll, Linked, arena_bytes, link_bytes, put_arena, put_links}
use Rattle.namespace_bytes.specs.SectorBytes.{HasMapOfBytes, HaveMapsOfBytes, arena_byte, sector_byte}
use Rattle.namespace_bytes.proofs.Arena.{apart, below, entries_long, inside, ok}
use Rattle.namespace_bytes.proofs.ByteWords.{at_changed, changed, changed_same, changed_twice, length_changed}
use Rattle.namespace_bytes.proofs.Chain.{has_contents, linked_next}
use Rattle.namespace_bytes.proofs.SectorWords.{arena_words, behind_arena, byte_of_arena, pick_above, pick_below}

-- ---- places

-- arenas further on begin further on
starts_from : (links : List Link) (words parent : List ℕ) (at : ℕ) → Linked words parent at links → All (λ link. at ≤ link.at) links
starts_from [] words parent at linked = All-nil (λ (link : Link). at ≤ link.at)
starts_from (link ∷ links) words parent at linked =
    All-cons (λ (link : Link). at ≤ link.at) link links (omega (arith, linked.0)) (elim linked.3 [
      | inl last ↦ subst (λ (ls : List Link). All (λ link. at ≤ link.at) ls) (sym last.1) (All-nil (λ (link : Link). at ≤ link.at))
      | inr more ↦
          let rest = starts_from links words parent (at + link.opened.info.next / 8) more.1 in
          λ k d lt. omega (arith, rest k d lt)
    ])

-- those behind an arena begin at its end, or behind it
behind_first : (words parent : List ℕ) (at : ℕ) (link : Link) (links : List Link) → Linked words parent at (link ∷ links) → All (λ next. 8 * link.at + link.opened.info.layout.size ≤ 8 * next.at) links
behind_first words parent at link links linked = elim linked.3 [
  | inl last ↦ subst (λ (ls : List Link). All (λ next. 8 * link.at + link.opened.info.layout.size ≤ 8 * next.at) ls) (sym last.1) (All-nil (λ (next : Link). 8 * link.at + link.opened.info.layout.size ≤ 8 * next.at))
  | inr more ↦
      let here : opening (drop link.at words) parent ≡ Ok link.opened = subst (λ (p : ℕ). opening (drop p words) parent ≡ Ok link.opened) (sym linked.0) linked.2 in
      let l : Lies (length words) link.at link.opened = lies words parent link.at link.opened (omega (arith, linked.0, linked.1)) here in
      let rest = starts_from links words parent (at + link.opened.info.next / 8) more.1 in
      λ k d lt. omega (arith, rest k d lt, linked.0, l.next_is more.0, l.whole)
]

-- a byte before all arenas
before_all : (links : List Link) (bytes : List ℕ) (i old : ℕ) → All (λ link. i < 8 * link.at) links → sector_byte links bytes i old ≡ old
before_all [] bytes i old all = refl
before_all (link ∷ links) bytes i old all =
    let lt : i < 8 * link.at = All-head (λ (link : Link). i < 8 * link.at) link links all in
    pick_below i (8 * link.at + link.opened.info.layout.size) (if nat_lt i (8 * link.at) then old else arena_byte link.opened (take (link_bytes link) bytes) (i - 8 * link.at) old)
    (sector_byte links (drop (link_bytes link) bytes) i old) (omega (arith, lt))
    ∙ pick_below i (8 * link.at) old (arena_byte link.opened (take (link_bytes link) bytes) (i - 8 * link.at) old) lt

-- nothing is changed
changed_nothing : (bytes row : List ℕ) → changed (sector_byte [] bytes) row ≡ row
changed_nothing bytes row =
    ext_get_or 0 (changed (sector_byte [] bytes) row) row (length_changed (sector_byte [] bytes) row)
    (λ i lt. at_changed (sector_byte [] bytes) row i (omega (arith, lt, length_changed (sector_byte [] bytes) row)))

-- ---- one arena, and those behind it

module _ (uuid bytes row : List ℕ) (at : ℕ) (link : Link) (links : List Link) (linked : Linked (words_in row) uuid at (link ∷ links)) (long : length bytes ≡ sum_by link_bytes (link ∷ links))
    (small : HaveMapsOfBytes row (link ∷ links)) where
  -- its bytes, those of the arenas behind it, and the namespace after its own bytes are changed
  abbrev own : List ℕ
  own = take (link_bytes link) bytes

  abbrev others : List ℕ
  others = drop (link_bytes link) bytes

  abbrev once : List ℕ
  once = changed (byte_of_arena link.at link.opened (take (link_bytes link) bytes)) row

  here : opening (drop link.at (words_in row)) uuid ≡ Ok link.opened
  here = subst (λ (p : ℕ). opening (drop p (words_in row)) uuid ≡ Ok link.opened) (sym linked.0) linked.2

  le : link.at ≤ length (words_in row)
  le = omega (arith, linked.0, linked.1)

  total : length bytes ≡ link_bytes link + sum_by link_bytes links
  total = long ∙ sum_by-cons link_bytes link links

  fits : length own ≡ arena_bytes link.opened
  fits = length-take-le (link_bytes link) bytes (omega (arith, total))

  pub long_rest : length others ≡ sum_by link_bytes links
  long_rest = omega (arith, length-drop (link_bytes link) bytes, total)

  first_words : words_in once ≡ put_arena link.at link.opened own (words_in row)
  first_words =
      arena_words link.at link.opened row own
      (ok link.at link.opened own (words_in row) uuid here le fits)
      (inside link.at link.opened own (words_in row) uuid here le fits)
      fits
      (entries_long link.at link.opened own (words_in row) uuid here le fits)
      (below link.at link.opened own (words_in row) uuid here le fits)
      (apart link.at link.opened own (words_in row) uuid here le fits)
      (All-head (HasMapOfBytes row) link links small)

  pub linked_rest : Linked (words_in once) uuid (at + link.opened.info.next / 8) links
  linked_rest =
      subst (λ (ws : List ℕ). Linked ws uuid (at + link.opened.info.next / 8) links) (sym first_words)
      (linked_next (words_in row) uuid own at link links linked fits)

  further_on : All (λ next. 8 * link.at + link.opened.info.layout.size ≤ 8 * next.at) links
  further_on = behind_first (words_in row) uuid at link links linked

  -- the bytes behind it are as they were
  byte_behind : (i : ℕ) → 8 * link.at + link.opened.info.layout.size ≤ i → get_or once i 0 ≡ get_or row i 0
  byte_behind i past = elim (cases_lt i (length row)) [
    | inl lt ↦ at_changed (byte_of_arena link.at link.opened own) row i lt ∙ behind_arena link.at link.opened own i (get_or row i 0) past
    | inr none ↦
        get_or_past once i 0 (omega (arith, none, length_changed (byte_of_arena link.at link.opened own) row))
        ∙ sym (get_or_past row i 0 none)
  ]

  pub small_rest : HaveMapsOfBytes once links
  small_rest =
      let rest = All-tail (HasMapOfBytes row) link links small in
      λ k d lt i from to.
      subst (λ (b : ℕ). b < 256) (sym (byte_behind (8 * (get_or links k d).at + i) (omega (arith, further_on k d lt)))) (rest k d lt i from to)

  -- the bytes of one arena, and then those of the others
  one_byte : (i old : ℕ) → sector_byte (link ∷ links) bytes i old ≡ sector_byte links others i (byte_of_arena link.at link.opened own i old)
  one_byte i old =
      let mine : ℕ = if nat_lt i (8 * link.at) then old else arena_byte link.opened own (i - 8 * link.at) old in
      let later : ℕ = sector_byte links others i old in
      elim (cases_lt i (8 * link.at + link.opened.info.layout.size)) [
        | inl lt ↦
            pick_below i (8 * link.at + link.opened.info.layout.size) mine later lt
            ∙ sym (before_all links others i (byte_of_arena link.at link.opened own i old) (λ k d lt'. omega (arith, lt, further_on k d lt'))
            ∙ pick_below i (8 * link.at + link.opened.info.layout.size) mine old lt)
        | inr past ↦
            pick_above i (8 * link.at + link.opened.info.layout.size) mine later past
            ∙ sym (ap (sector_byte links others i) (behind_arena link.at link.opened own i old past))
      ]

  row_is : changed (sector_byte (link ∷ links) bytes) row ≡ changed (sector_byte links others) once
  row_is =
      changed_same (sector_byte (link ∷ links) bytes) (λ i old. sector_byte links others i (byte_of_arena link.at link.opened own i old)) row
      (λ i lt. one_byte i (get_or row i 0))
      ∙ sym (changed_twice (byte_of_arena link.at link.opened own) (sector_byte links others) row)

  pub and_others : words_in (changed (sector_byte links others) once)
      ≡ put_links links others (words_in once)
      → words_in (changed (sector_byte (link ∷ links) bytes) row) ≡ put_links (link ∷ links) bytes (words_in row)
  and_others rest = ap words_in row_is ∙ rest ∙ ap (put_links links others) first_words

linked_words : (links : List Link) (uuid bytes row : List ℕ) (at : ℕ) → Linked (words_in row) uuid at links → length bytes ≡ sum_by link_bytes links → HaveMapsOfBytes row links
    → words_in (changed (sector_byte links bytes) row) ≡ put_links links bytes (words_in row)
linked_words [] uuid bytes row at linked long small = ap words_in (changed_nothing bytes row)
linked_words (link ∷ links) uuid bytes row at linked long small =
    and_others uuid bytes row at link links linked long small
    (linked_words links uuid (drop (link_bytes link) bytes) (changed (byte_of_arena link.at link.opened (take (link_bytes link) bytes)) row) (at + link.opened.info.next / 8)
    (linked_rest uuid bytes row at link links linked long small) (long_rest uuid bytes row at link links linked long small) (small_rest uuid bytes row at link links linked long small))

-- ---- the namespace

-- the words of the changed bytes
pub sector_words : (links : List Link) (uuid bytes row : List ℕ) → AreAll (words_in row) uuid links → length bytes ≡ sum_by link_bytes links → HaveMapsOfBytes row links
    → words_in (changed (sector_byte links bytes) row) ≡ put_links links bytes (words_in row)
sector_words links uuid bytes row all long small = linked_words links uuid bytes row 0 all.linked long small

-- its sectors have the bytes
pub sector_contents : (links : List Link) (uuid bytes row : List ℕ) → AreAll (words_in row) uuid links → length bytes ≡ sum_by link_bytes links → HaveMapsOfBytes row links
    → HasContents uuid bytes (map (state_at (words_in row)) links) (words_in row) (words_in (changed (sector_byte links bytes) row))
sector_contents links uuid bytes row all long small =
    subst (HasContents uuid bytes (map (state_at (words_in row)) links) (words_in row)) (sym (sector_words links uuid bytes row all long small)) (has_contents links uuid bytes (words_in row) all long)
