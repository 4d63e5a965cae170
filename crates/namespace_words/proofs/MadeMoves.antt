-- The bytes of a namespace with the runs of its arenas' pending moves hold the same arenas without a pending move.
use Rattle.std.proofs.Common.{◌≡◌, ◌≢◌, ◌⊎◌, ℕ, ◌+◌, ◌-◌, ◌*◌, ◌/◌, ◌<◌, ◌≤◌, List, [], ◌∷◌, ◌++◌, length, map, get_or, take, drop, Ok, refl, sym, ap, ◌∙◌, subst, inl, inr, arith, append_assoc}
use Rattle.std.specs.List.{All}
use Rattle.std.proofs.Math.ListN.{set}
use Rattle.std.proofs.lemmas.Bool.{cases_eq, cases_lt}
use Rattle.std.proofs.lemmas.Grind.{flat_map-append, take_at_read}
use Rattle.std.proofs.lemmas.List.{append-nil, drop-drop, drop-set-add, ext_get_or, get_or-append_right, get_or-drop, get_or-set_other, get_or-set_same, get_or_past, length-append, length-set, map-append, set-append_right, take_at}
use Rattle.std.proofs.lemmas.List.Elements.{All-append, All-cons, All-head, All-nil, All-tail}
use Rattle.std.proofs.lemmas.List.Sums.{sum_by-append, sum_by-cons}
use Rattle.nvd_words.specs.Bytes.{AreBytes}
use Rattle.cut_words.specs.WordBytes.{put_at, words_in}
use Rattle.cut_words.proofs.Put.{length_put, put_outside}
use Rattle.arena_layout.specs.declared.layout.Layout.{Layout}
use Rattle.arena_layout.specs.Layout.{IsLayout}
use Rattle.flog.specs.declared.half.Half.{Half}
use Rattle.map_table.specs.Entry.{normal_of, with_entry}
use Rattle.arena_open.specs.declared.opened.Opened.{Opened}
use Rattle.arena_open.specs.declared.state.ArenaState.{ArenaState}
use Rattle.arena_open.specs.Chain.{Link, found_again, state_at}
use Rattle.arena_open.specs.Halves.{AreMoves, IsMove}
use Rattle.arena_open.specs.Moves.{lane_of, move_write, move_writes, recovered, shifted, state_of, with_all_made}
use Rattle.arena_open.specs.Places.{map_word, value_at}
use Rattle.arena_open.specs.Reading.{opening}
use Rattle.arena_open.specs.Writes.{Write, written_over}
use Rattle.arena_open.proofs.Again.{drop_shifted, opens_all}
use Rattle.arena_open.proofs.Apart.{ordered}
use Rattle.arena_open.proofs.Bytes.{length_words}
use Rattle.arena_open.proofs.Opening.{Sound, sound}
use Rattle.arena_open.proofs.Outside.{Within, drop_over, take_over, writes_in, writes_of}
use Rattle.arena_open.proofs.Own.{Lies, lies}
use Rattle.sector_namespaces.specs.Changing.{DifferIn, IsFoundAs, start_of}
use Rattle.sector_namespaces.specs.View.{opened_view}
use Rattle.sector_namespaces.proofs.Chains.{one_arena_changes}
use Rattle.namespace_bytes.specs.declared.runs.Run.{Run}
use Rattle.namespace_bytes.specs.Contents.{arena_words}
use Rattle.namespace_bytes.specs.Putting.{AreAll, Linked}
use Rattle.namespace_bytes.specs.Runs.{run_byte, runs_byte}
use Rattle.namespace_bytes.specs.SectorBytes.{HasMapOfBytes, HaveMapsOfBytes}
use Rattle.namespace_bytes.proofs.ByteWords.{changed, length_changed}
use Rattle.namespace_bytes.proofs.Chain.{links_same, states_same}
use Rattle.namespace_bytes.proofs.One.{put_inside}
use Rattle.namespace_bytes.proofs.RunWords.{all_changed, entry_bytes_small, entry_put, more_changed, none_changed, stays_byte}
use Rattle.namespace_words.specs.Moves.{HaveMoves, link_runs, move_run, move_runs}

-- ---- bytes stay bytes

-- runs of bytes
abbrev pub AreRuns : List Run → Type 0
AreRuns runs = All (λ (run : Run). AreBytes run.bytes) runs

byte_stays : (run : Run) (row : List ℕ) (i : ℕ) → AreBytes run.bytes → get_or row i 0 < 256 → get_or (changed (run_byte run) row) i 0 < 256
byte_stays run row i are small = elim (cases_lt i (length row)) [
  | inl inside ↦ stays_byte run row i inside small are
  | inr past ↦
      let none : get_or (changed (run_byte run) row) i 0 ≡ 0 = get_or_past (changed (run_byte run) row) i 0 (omega (arith, past, length_changed (run_byte run) row)) in
      omega (arith, none)
]

pub bytes_stay : (runs : List Run) (row : List ℕ) (i : ℕ) → AreRuns runs → get_or row i 0 < 256 → get_or (changed (runs_byte runs) row) i 0 < 256
bytes_stay [] row i are small = subst (λ (r : List ℕ). get_or r i 0 < 256) (sym (none_changed row)) small
bytes_stay (run ∷ runs) row i are small =
    subst (λ (r : List ℕ). get_or r i 0 < 256) (sym (more_changed run runs row))
    (bytes_stay runs (changed (run_byte run) row) i (All-tail (λ (r : Run). AreBytes r.bytes) run runs are)
    (byte_stays run row i (All-head (λ (r : Run). AreBytes r.bytes) run runs are) small))

pub maps_stay : (links : List Link) (runs : List Run) (row : List ℕ) → AreRuns runs → HaveMapsOfBytes row links → HaveMapsOfBytes (changed (runs_byte runs) row) links
maps_stay links runs row are maps = λ k d lt i from to. bytes_stay runs row (8 * (get_or links k d).at + i) are (maps k d lt i from to)

moves_are : (link : Link) (moves : List Half) → AreRuns (map (move_run link) moves)
moves_are link [] = All-nil (λ (r : Run). AreBytes r.bytes)
moves_are link (half ∷ moves) =
    All-cons (λ (r : Run). AreBytes r.bytes) (move_run link half) (map (move_run link) moves) (entry_bytes_small link.at link.opened.info.layout half.lba half.new) (moves_are link moves)

-- ---- one arena

one_word : (words : List ℕ) (p v : ℕ) → p + 1 ≤ length words → put_at words p (v ∷ []) ≡ set words p v
one_word words p v fits =
    ext_get_or 0 (put_at words p (v ∷ [])) (set words p v) (length_put words p (v ∷ []) fits ∙ sym (length-set words p v)) (λ i lt. elim (cases_eq i p) [
      | inl here ↦
          ap (λ (n : ℕ). get_or (put_at words p (v ∷ [])) n 0) (here ∙ (let e : p ≡ p + 0 = omega arith in e))
          ∙ put_inside words p (v ∷ []) 0 fits (omega arith)
          ∙ sym (ap (λ (n : ℕ). get_or (set words p v) n 0) here ∙ get_or-set_same words p v 0 (omega (arith, fits)))
      | inr there ↦
          put_outside words p (v ∷ []) i fits (elim (cases_lt i p) [ inl low ↦ inl low | inr high ↦ inr (omega (arith, high, there)) ])
          ∙ sym (get_or-set_other words p i v 0 there)
    ])

module _ (link : Link) (ok : IsLayout link.opened.info.layout) where
  abbrev l : Layout
  l = link.opened.info.layout

  one_move : (half : Half) (row : List ℕ) → IsMove l.external half → link.at + l.size / 8 ≤ length (words_in row) → HasMapOfBytes row link
      → words_in (changed (run_byte (move_run link half)) row) ≡ set (words_in row) (link.at + (move_write l (drop link.at (words_in row)) half).place) (move_write l (drop link.at (words_in row)) half).value
  one_move half row is inside small =
      let p : ℕ = link.at + l.map_off / 8 + half.lba / 2 in
      let place : link.at + l.map_off / 8 + half.lba / 2 ≡ link.at + (l.map_off / 8 + half.lba / 2) = omega arith in
      let fits : link.at + l.map_off / 8 + half.lba / 2 + 1 ≤ length (words_in row) = omega (arith, inside, ordered l ok, is.sector) in
      let here : get_or (words_in row) (link.at + l.map_off / 8 + half.lba / 2) 0 ≡ value_at l (drop link.at (words_in row)) (map_word (half.lba / 2)) =
      ap (λ (n : ℕ). get_or (words_in row) n 0) place ∙ sym (get_or-drop link.at (words_in row) (l.map_off / 8 + half.lba / 2) 0) in
      entry_put link.at l half.lba half.new row ok is.sector is.block inside
      (λ j less. subst (λ (n : ℕ). get_or row n 0 < 256) (let e : 8 * link.at + (l.map_off + (8 * (half.lba / 2) + j)) ≡ 8 * (link.at + l.map_off / 8 + half.lba / 2) + j = omega (arith, ok.map_whole) in e)
      (small (l.map_off + (8 * (half.lba / 2) + j)) (omega arith) (omega (arith, less, is.sector))))
      ∙ one_word (words_in row) (link.at + l.map_off / 8 + half.lba / 2) (with_entry (get_or (words_in row) (link.at + l.map_off / 8 + half.lba / 2) 0) half.lba (normal_of half.new)) fits
      ∙ (λ i. set (words_in row) (place i) (with_entry (here i) half.lba (normal_of half.new)))

  moves_put : (moves : List Half) (row : List ℕ) → AreMoves l.external moves → link.at + l.size / 8 ≤ length (words_in row) → HasMapOfBytes row link
      → words_in (changed (runs_byte (map (move_run link) moves)) row) ≡ written_over (words_in row) (shifted link.at (move_writes l (drop link.at (words_in row)) moves))
  moves_put [] row are inside small = ap words_in (none_changed row)
  moves_put (half ∷ moves) row are inside small =
      let w : Write = move_write l (drop link.at (words_in row)) half in
      let run : Run = move_run link half in
      let next : List ℕ = changed (run_byte (move_run link half)) row in
      let long : length (words_in (changed (run_byte (move_run link half)) row)) ≡ length (words_in row) =
      length_words (changed (run_byte (move_run link half)) row) ∙ ap (λ (n : ℕ). n / 8) (length_changed (run_byte (move_run link half)) row) ∙ sym (length_words row) in
      let first : words_in (changed (run_byte (move_run link half)) row) ≡ set (words_in row) (link.at + (move_write l (drop link.at (words_in row)) half).place) (move_write l (drop link.at (words_in row)) half).value =
      one_move half row (All-head (IsMove l.external) half moves are) inside small in
      let behind : drop link.at (words_in (changed (run_byte (move_run link half)) row)) ≡ set (drop link.at (words_in row)) (move_write l (drop link.at (words_in row)) half).place (move_write l (drop link.at (words_in row)) half).value =
      ap (drop link.at) first ∙ drop-set-add link.at (words_in row) (move_write l (drop link.at (words_in row)) half).place (move_write l (drop link.at (words_in row)) half).value in
      ap words_in (more_changed (move_run link half) (map (move_run link) moves) row)
      ∙ moves_put moves (changed (run_byte (move_run link half)) row) (All-tail (IsMove l.external) half moves are) (omega (arith, inside, long))
      (λ i from to. byte_stays (move_run link half) row (8 * link.at + i) (entry_bytes_small link.at l half.lba half.new) (small i from to))
      ∙ (λ i. written_over (first i) (shifted link.at (move_writes l (behind i) moves)))

-- ---- one arena after another

record Made (uuid : List ℕ) (words : List ℕ) (at : ℕ) (pre states : List ArenaState) (final : List ℕ) : Type 0 where
  found : opened_view final uuid ≡ Ok (pre ++ map found_again states)
  behind : drop (at + arena_words states) final ≡ drop (at + arena_words states) words

module _ (uuid row : List ℕ) (pre : List ArenaState) (at : ℕ) (link : Link) (links : List Link) (view : opened_view (words_in row) uuid ≡ Ok (pre ++ map (state_at (words_in row)) (link ∷ links)))
    (at_is : at ≡ start_of pre) (linked : Linked (words_in row) uuid at (link ∷ links)) (small : HaveMapsOfBytes row (link ∷ links)) where
  abbrev o : Opened
  o = link.opened

  abbrev words : List ℕ
  words = words_in row

  here : opening (drop link.at (words_in row)) uuid ≡ Ok link.opened
  here = subst (λ (p : ℕ). opening (drop p (words_in row)) uuid ≡ Ok link.opened) (sym linked.0) linked.2

  le : link.at ≤ length (words_in row)
  le = omega (arith, linked.0, linked.1)

  own : Lies (length (words_in row)) link.at link.opened
  own = lies (words_in row) uuid link.at link.opened le here

  s : Sound (drop link.at (words_in row)) uuid link.opened
  s = sound (drop link.at (words_in row)) uuid link.opened here

  abbrev next_row : List ℕ
  next_row = changed (runs_byte (link_runs link)) row

  abbrev now : List ℕ
  now = words_in next_row

  abbrev writes : List Write
  writes = writes_of link.at (drop link.at (words_in row)) link.opened

  now_is : now ≡ written_over (words_in row) writes
  now_is = moves_put link s.arena.sound.layout link.opened.moves row s.moves own.inside (All-head (HasMapOfBytes row) link links small)

  size : length now ≡ length (words_in row)
  size = length_words next_row ∙ ap (λ (n : ℕ). n / 8) (length_changed (runs_byte (link_runs link)) row) ∙ sym (length_words row)

  within : All (Within link.at (link.at + link.opened.info.layout.size / 8)) writes
  within = writes_in link.at (drop link.at (words_in row)) uuid link.opened here

  before_same : take link.at now ≡ take link.at (words_in row)
  before_same = ap (take link.at) now_is ∙ take_over link.at (link.at + link.opened.info.layout.size / 8) (words_in row) writes within

  behind_same : drop (link.at + link.opened.info.layout.size / 8) now ≡ drop (link.at + link.opened.info.layout.size / 8) (words_in row)
  behind_same = ap (drop (link.at + link.opened.info.layout.size / 8)) now_is ∙ drop_over link.at (link.at + link.opened.info.layout.size / 8) (words_in row) writes within

  made_is : drop link.at now ≡ recovered (drop link.at (words_in row)) link.opened
  made_is = ap (drop link.at) now_is ∙ drop_shifted link.at (words_in row) (move_writes link.opened.info.layout (drop link.at (words_in row)) link.opened.moves)

  abbrev old : ArenaState
  old = state_at (words_in row) link

  abbrev new : ArenaState
  new = found_again old

  new_is : state_of (drop link.at now) (with_all_made link.opened) ≡ new
  new_is = λ i. record { info = link.opened.info; words = take (link.opened.info.layout.size / 8) (made_is i); lanes = map lane_of link.opened.groups; made = 0 }

  abbrev states : List ArenaState
  states = pre ++ (old ∷ map (state_at (words_in row)) links)

  start_is : start_of (take (length pre) states) ≡ link.at
  start_is = ap start_of (take_at pre (old ∷ map (state_at (words_in row)) links) (length pre) refl) ∙ sym at_is ∙ sym linked.0

  there : length pre < length states
  there = omega (arith, length-append pre (old ∷ map (state_at (words_in row)) links))

  is_there : old ≡ get_or states (length pre) old
  is_there = sym (get_or-append_right pre (old ∷ map (state_at (words_in row)) links) (length pre) (length pre) old refl (omega arith) ∙ ap (λ (k : ℕ). get_or (old ∷ map (state_at (words_in row)) links) k old) (let e : length pre - length pre ≡ 0 = omega arith in e))

  differ : DifferIn (start_of (take (length pre) states)) (old.info.layout.size / 8) (words_in row) now
  differ = subst (λ (p : ℕ). DifferIn p (link.opened.info.layout.size / 8) (words_in row) now) (sym start_is) (record { size = size; before = before_same; behind = behind_same })

  found : IsFoundAs (drop (start_of (take (length pre) states)) now) uuid new
  found = subst (λ (p : ℕ). IsFoundAs (drop p now) uuid new) (sym start_is) (record {
    opened = with_all_made link.opened;
    opens = ap (λ (ws : List ℕ). opening ws uuid) made_is ∙ opens_all (drop link.at (words_in row)) uuid link.opened here;
    is = new_is;
  })

  view_set : opened_view now uuid ≡ Ok (set states (length pre) new)
  view_set = one_arena_changes (words_in row) now uuid states (length pre) old new view there is_there refl differ found

  set_is : set states (length pre) new ≡ (pre ++ new ∷ []) ++ map (state_at (words_in row)) links
  set_is =
      set-append_right pre (old ∷ map (state_at (words_in row)) links) (length pre) (length pre) new refl (omega arith)
      ∙ ap (λ (k : ℕ). pre ++ set (old ∷ map (state_at (words_in row)) links) k new) (let e : length pre - length pre ≡ 0 = omega arith in e)
      ∙ sym (append_assoc pre (new ∷ []) (map (state_at (words_in row)) links))

  -- the arenas behind it
  behind_at : link.opened.info.next ≢ 0 → drop (at + link.opened.info.next / 8) now ≡ drop (at + link.opened.info.next / 8) (words_in row)
  behind_at some =
      subst (λ (p : ℕ). drop p now ≡ drop p (words_in row)) (let e : link.at + link.opened.info.layout.size / 8 ≡ at + link.opened.info.next / 8 = omega (arith, linked.0, own.next_is some) in e) behind_same

  linked_on : Linked now uuid (at + link.opened.info.next / 8) links
  linked_on = elim linked.3 [
    | inl last ↦ subst (λ (ls : List Link). Linked now uuid (at + link.opened.info.next / 8) ls) (sym last.1) tt
    | inr more ↦ links_same (words_in row) now uuid (at + link.opened.info.next / 8) links size (behind_at more.0) more.1
  ]

  states_on : map (state_at now) links ≡ map (state_at (words_in row)) links
  states_on = elim linked.3 [
    | inl last ↦ ap (map (state_at now)) last.1 ∙ sym (ap (map (state_at (words_in row))) last.1)
    | inr more ↦ states_same (words_in row) now uuid (at + link.opened.info.next / 8) links (behind_at more.0) more.1
  ]

  view_on : opened_view now uuid ≡ Ok ((pre ++ new ∷ []) ++ map (state_at now) links)
  view_on = view_set ∙ ap (λ (ss : List ArenaState). Ok ss) (set_is ∙ ap (λ (ss : List ArenaState). (pre ++ new ∷ []) ++ ss) (sym states_on))

  start_on : at + link.opened.info.next / 8 ≡ start_of (pre ++ new ∷ [])
  start_on = omega (arith, at_is, sum_by-append (λ (state : ArenaState). state.info.next / 8) pre (new ∷ []), sum_by-cons (λ (state : ArenaState). state.info.next / 8) new [])

  maps_on : HaveMapsOfBytes next_row links
  maps_on = maps_stay links (link_runs link) row (moves_are link link.opened.moves) (All-tail (HasMapOfBytes row) link links small)

  -- the words behind all arenas
  own_behind : drop (at + link.opened.info.layout.size / 8) now ≡ drop (at + link.opened.info.layout.size / 8) (words_in row)
  own_behind = subst (λ (p : ℕ). drop (p + link.opened.info.layout.size / 8) now ≡ drop (p + link.opened.info.layout.size / 8) (words_in row)) linked.0 behind_same

  further : (k more : ℕ) (xs ys : List ℕ) → drop k xs ≡ drop k ys → drop (k + more) xs ≡ drop (k + more) ys
  further k more xs ys same = sym (drop-drop more k xs) ∙ ap (drop more) same ∙ drop-drop more k ys

  words_are : arena_words (old ∷ map (state_at (words_in row)) links) ≡ link.opened.info.layout.size / 8 + arena_words (map (state_at (words_in row)) links)
  words_are = sum_by-cons (λ (state : ArenaState). state.info.layout.size / 8) old (map (state_at (words_in row)) links)

  behind_on : (final : List ℕ) → drop (at + link.opened.info.next / 8 + arena_words (map (state_at (words_in row)) links)) final ≡ drop (at + link.opened.info.next / 8 + arena_words (map (state_at (words_in row)) links)) now
      → drop (at + arena_words (old ∷ map (state_at (words_in row)) links)) final ≡ drop (at + arena_words (old ∷ map (state_at (words_in row)) links)) (words_in row)
  behind_on final rest =
      let all : at + arena_words (old ∷ map (state_at (words_in row)) links) ≡ at + link.opened.info.layout.size / 8 + arena_words (map (state_at (words_in row)) links) = omega (arith, words_are) in
      subst (λ (k : ℕ). drop k final ≡ drop k (words_in row)) (sym all)
      (by_next linked.3 ∙ further (at + link.opened.info.layout.size / 8) (arena_words (map (state_at (words_in row)) links)) now (words_in row) own_behind)
    where
      by_next : ((link.opened.info.next ≡ 0) × (links ≡ [])) ⊎ ((link.opened.info.next ≢ 0) × Linked (words_in row) uuid (at + link.opened.info.next / 8) links)
          → drop (at + link.opened.info.layout.size / 8 + arena_words (map (state_at (words_in row)) links)) final ≡ drop (at + link.opened.info.layout.size / 8 + arena_words (map (state_at (words_in row)) links)) now
      by_next (inl last) =
          let none : arena_words (map (state_at (words_in row)) links) ≡ 0 = ap (λ (ls : List Link). arena_words (map (state_at (words_in row)) ls)) last.1 in
          let first : drop at final ≡ drop at now =
          subst (λ (k : ℕ). drop k final ≡ drop k now) (let e : at + link.opened.info.next / 8 + arena_words (map (state_at (words_in row)) links) ≡ at = omega (arith, last.0, none) in e) rest in
          subst (λ (k : ℕ). drop k final ≡ drop k now)
          (let e : at + (link.opened.info.layout.size / 8 + arena_words (map (state_at (words_in row)) links)) ≡ at + link.opened.info.layout.size / 8 + arena_words (map (state_at (words_in row)) links) = omega arith in e)
          (further at (link.opened.info.layout.size / 8 + arena_words (map (state_at (words_in row)) links)) final now first)
      by_next (inr more) =
          subst (λ (k : ℕ). drop k final ≡ drop k now)
          (let e : at + link.opened.info.next / 8 + arena_words (map (state_at (words_in row)) links) ≡ at + link.opened.info.layout.size / 8 + arena_words (map (state_at (words_in row)) links) = omega (arith, own.next_is more.0) in e)
          rest

  made_on : (final : List ℕ) → Made uuid now (at + link.opened.info.next / 8) (pre ++ new ∷ []) (map (state_at now) links) final → Made uuid (words_in row) at pre (map (state_at (words_in row)) (link ∷ links)) final
  made_on final m = record {
    found = m.found ∙ ap (λ (ss : List ArenaState). Ok ((pre ++ new ∷ []) ++ map found_again ss)) states_on ∙ ap (λ (ss : List ArenaState). Ok ss) (append_assoc pre (new ∷ []) (map found_again (map (state_at (words_in row)) links)));
    behind = behind_on final
        (subst (λ (ss : List ArenaState). drop (at + link.opened.info.next / 8 + arena_words ss) final ≡ drop (at + link.opened.info.next / 8 + arena_words ss) now) states_on m.behind);
  }

all_made : (links : List Link) (uuid row : List ℕ) (pre : List ArenaState) (at : ℕ) → opened_view (words_in row) uuid ≡ Ok (pre ++ map (state_at (words_in row)) links) → at ≡ start_of pre → Linked (words_in row) uuid at links
    → HaveMapsOfBytes row links → Made uuid (words_in row) at pre (map (state_at (words_in row)) links) (words_in (changed (runs_byte (move_runs links)) row))
all_made [] uuid row pre at view at_is linked small = record {
  found = ap (λ (r : List ℕ). opened_view (words_in r) uuid) (none_changed row) ∙ view;
  behind = ap (λ (r : List ℕ). drop (at + 0) (words_in r)) (none_changed row);
}
all_made (link ∷ links) uuid row pre at view at_is linked small =
    subst (λ (r : List ℕ). Made uuid (words_in row) at pre (map (state_at (words_in row)) (link ∷ links)) (words_in r)) (sym (all_changed (link_runs link) (move_runs links) row))
    (made_on uuid row pre at link links view at_is linked small (words_in (changed (runs_byte (move_runs links)) (changed (runs_byte (link_runs link)) row)))
    (all_made links uuid (changed (runs_byte (link_runs link)) row) (pre ++ found_again (state_at (words_in row) link) ∷ []) (at + link.opened.info.next / 8)
    (view_on uuid row pre at link links view at_is linked small) (start_on uuid row pre at link links view at_is linked small)
    (linked_on uuid row pre at link links view at_is linked small) (maps_on uuid row pre at link links view at_is linked small)))

-- ---- all arenas

all_runs : (links : List Link) → AreRuns (move_runs links)
all_runs [] = All-nil (λ (r : Run). AreBytes r.bytes)
all_runs (link ∷ links) = All-append (λ (r : Run). AreBytes r.bytes) (link_runs link) (move_runs links) (moves_are link link.opened.moves) (all_runs links)

pub moves_are_made : (links : List Link) (uuid row : List ℕ) → AreAll (words_in row) uuid links → HaveMapsOfBytes row links → HaveMoves uuid row (changed (runs_byte (move_runs links)) row) links
moves_are_made links uuid row all small =
    let m : Made uuid (words_in row) 0 [] (map (state_at (words_in row)) links) (words_in (changed (runs_byte (move_runs links)) row)) = all_made links uuid row [] 0 all.read refl all.linked small in
    let from : 0 + arena_words (map (state_at (words_in row)) links) ≡ arena_words (map (state_at (words_in row)) links) = omega arith in
    record {
      size = length_changed (runs_byte (move_runs links)) row;
      found = m.found;
      maps = maps_stay links (move_runs links) row (all_runs links) small;
      behind = subst (λ (k : ℕ). drop k (words_in (changed (runs_byte (move_runs links)) row)) ≡ drop k (words_in row)) from m.behind;
    }

-- ---- as they are made

-- the run of one move more
pub runs_more : (link : Link) (halves : List Half) (first : List Run) (k : ℕ) (d : Half) → k < length halves
    → (first ++ map (move_run link) (take k halves)) ++ move_run link (get_or halves k d) ∷ [] ≡ first ++ map (move_run link) (take (k + 1) halves)
runs_more link halves first k d lt =
    append_assoc first (map (move_run link) (take k halves)) (move_run link (get_or halves k d) ∷ [])
    ∙ ap (λ (rs : List Run). first ++ rs) (sym (map-append (move_run link) (take k halves) (get_or halves k d ∷ []))
    ∙ ap (map (move_run link)) (sym (take_at_read halves k d lt).1))

-- the runs of one arena more
pub links_more : (links : List Link) (k : ℕ) (link : Link) → k < length links → link ≡ get_or links k link → move_runs (take k links) ++ link_runs link ≡ move_runs (take (k + 1) links)
links_more links k link lt is =
    ap (λ (rs : List Run). move_runs (take k links) ++ rs) (sym (append-nil (link_runs link)))
    ∙ sym (flat_map-append link_runs (take k links) (link ∷ []))
    ∙ ap (λ (x : Link). move_runs (take k links ++ x ∷ [])) is
    ∙ ap move_runs (sym (take_at_read links k link lt).1)
