-- The bytes of all sectors are put into a namespace, arena after arena.
use Rattle.std.proofs.Common.{◌≡◌, ◌≢◌, ◌⊎◌, ℕ, zero, suc, ◌+◌, ◌-◌, ◌*◌, ◌/◌, ◌<◌, ◌≤◌, List, [], ◌∷◌, ◌++◌, length, map, get_or, take, drop, replicate, Ok, refl, sym, ap, ◌∙◌, subst, inl, inr, arith, append_assoc}
use Rattle.std.specs.Prelude.{sum_by}
use Rattle.std.specs.List.{flat_map, range_with_len}
use Rattle.std.proofs.Math.ListN.{set}
use Rattle.std.proofs.lemmas.List.{drop-drop, drop-take, get_or-append_right, length-append, length-drop, set-append_right, take-take, take_at}
use Rattle.std.proofs.lemmas.List.Sums.{sum_by-append, sum_by-cons}
use Rattle.cut_words.specs.WordBytes.{words_in}
use Rattle.arena_open.specs.declared.cell.Cell.{Cell}
use Rattle.arena_open.specs.declared.cell.Cell.TheVariants as cell
use Rattle.arena_open.specs.declared.opened.Opened.{Opened}
use Rattle.arena_open.specs.declared.state.ArenaState.{ArenaState}
use Rattle.arena_open.specs.Chain.{Link, state_at}
use Rattle.arena_open.specs.ChainCells.{cells_of, contents_of, sizes_of}
use Rattle.arena_open.specs.Moves.{state_of}
use Rattle.arena_open.specs.Reading.{cell_at, map_in, opened_with, opening}
use Rattle.arena_open.proofs.Own.{Lies, lies}
use Rattle.power_cut.specs.Left.{Each}
use Rattle.sector_namespaces.specs.Changing.{DifferIn, IsFoundAs, start_of}
use Rattle.sector_namespaces.specs.View.{opened_view}
use Rattle.sector_namespaces.proofs.Chains.{one_arena_changes}
use Rattle.namespace_bytes.specs.Contents.{HasContents, IsRewritten, arena_words, cells_in}
use Rattle.namespace_bytes.specs.Putting.{AreAll, Linked, arena_bytes, link_bytes, piece, put_arena, put_links}
use Rattle.namespace_bytes.proofs.Arena.{before_same, behind_same, cell_is, opens_now, rewritten, size_same}

-- ---- cells

-- the cells of sectors of one size, from number a on
pub cells_from : (n a size external : ℕ) (bytes : List ℕ) (cell_of : ℕ → Cell) → a + n ≡ external → ((own : ℕ) → own < external → cell_of own ≡ cell.Bytes (words_in (piece size own bytes)))
    → map cell_of (range_with_len a n) ≡ cells_in (replicate n size) (drop (a * size) bytes)
cells_from zero a size external bytes cell_of all each = refl
cells_from (suc n) a size external bytes cell_of all each =
    let rest : map cell_of (range_with_len (a + 1) n) ≡ cells_in (replicate n size) (drop size (drop (a * size) bytes)) =
    cells_from n (a + 1) size external bytes cell_of (omega (arith, all)) each
    ∙ ap (λ (k : ℕ). cells_in (replicate n size) (drop k bytes)) (let e : (a + 1) * size ≡ a * size + size = omega arith in e)
    ∙ ap (cells_in (replicate n size)) (sym (drop-drop size (a * size) bytes)) in
    λ i. each a (omega (arith, all)) i ∷ rest i

-- the sectors of one arena, and the rest
cells_split : (n size : ℕ) (sizes bytes : List ℕ) → n * size ≤ length bytes
    → cells_in (replicate n size ++ sizes) bytes ≡ cells_in (replicate n size) (take (n * size) bytes) ++ cells_in sizes (drop (n * size) bytes)
cells_split zero size sizes bytes long = ap (λ (k : ℕ). cells_in sizes (drop k bytes)) (let e : 0 ≡ 0 * size = omega arith in e)
cells_split (suc n) size sizes bytes long =
    let more : suc n * size ≡ size + n * size = omega arith in
    let first : take size bytes ≡ take size (take (suc n * size) bytes) = sym (take-take size (suc n * size) bytes (omega (arith, more))) in
    let part : take (n * size) (drop size bytes) ≡ drop size (take (suc n * size) bytes) = sym (drop-take size (n * size) bytes) ∙ ap (λ (k : ℕ). drop size (take k bytes)) (sym more) in
    let behind : drop (n * size) (drop size bytes) ≡ drop (suc n * size) bytes = drop-drop (n * size) size bytes ∙ ap (λ (k : ℕ). drop k bytes) (sym more) in
    let rest : cells_in (replicate n size ++ sizes) (drop size bytes) ≡ cells_in (replicate n size) (take (n * size) (drop size bytes)) ++ cells_in sizes (drop (n * size) (drop size bytes)) =
    cells_split n size sizes (drop size bytes) (omega (arith, length-drop size bytes, long, more)) in
    (λ i. cell.Bytes (words_in (first i)) ∷ rest i)
    ∙ (λ i. cell.Bytes (words_in (take size (take (suc n * size) bytes))) ∷ (cells_in (replicate n size) (part i) ++ cells_in sizes (behind i)))

-- ---- arenas further on

pub links_same : (words now parent : List ℕ) (at : ℕ) (links : List Link) → length now ≡ length words → drop at now ≡ drop at words → Linked words parent at links → Linked now parent at links
links_same words now parent at [] size same l = tt
links_same words now parent at (link ∷ links) size same l = (
  l.0,
  omega (arith, l.1, size),
  ap (λ (ws : List ℕ). opening ws parent) same ∙ l.2,
  elim l.3 [
    | inl last ↦ inl last
    | inr more ↦ inr (
      more.0,
      links_same words now parent (at + link.opened.info.next / 8) links size
          (sym (drop-drop (link.opened.info.next / 8) at now) ∙ ap (drop (link.opened.info.next / 8)) same ∙ drop-drop (link.opened.info.next / 8) at words) more.1,
    )
  ],
)

pub states_same : (words now parent : List ℕ) (at : ℕ) (links : List Link) → drop at now ≡ drop at words → Linked words parent at links → map (state_at now) links ≡ map (state_at words) links
states_same words now parent at [] same l = refl
states_same words now parent at (link ∷ links) same l =
    let here : state_at now link ≡ state_at words link =
    ap (λ (p : ℕ). state_of (drop p now) link.opened) l.0 ∙ ap (λ (ws : List ℕ). state_of ws link.opened) same ∙ ap (λ (p : ℕ). state_of (drop p words) link.opened) (sym l.0) in
    let rest : map (state_at now) links ≡ map (state_at words) links = elim l.3 [
      | inl last ↦ ap (map (state_at now)) last.1 ∙ sym (ap (map (state_at words)) last.1)
      | inr more ↦ states_same words now parent (at + link.opened.info.next / 8) links
          (sym (drop-drop (link.opened.info.next / 8) at now) ∙ ap (drop (link.opened.info.next / 8)) same ∙ drop-drop (link.opened.info.next / 8) at words) more.1
    ] in
    λ i. here i ∷ rest i

-- those behind an arena whose sectors were put
pub linked_next : (words parent bytes : List ℕ) (at : ℕ) (link : Link) (links : List Link) → Linked words parent at (link ∷ links) → length bytes ≡ arena_bytes link.opened
    → Linked (put_arena link.at link.opened bytes words) parent (at + link.opened.info.next / 8) links
linked_next words parent bytes at link links linked fits =
    let here : opening (drop link.at words) parent ≡ Ok link.opened = subst (λ (p : ℕ). opening (drop p words) parent ≡ Ok link.opened) (sym linked.0) linked.2 in
    let le : link.at ≤ length words = omega (arith, linked.0, linked.1) in
    elim linked.3 [
      | inl last ↦ subst (λ (ls : List Link). Linked (put_arena link.at link.opened bytes words) parent (at + link.opened.info.next / 8) ls) (sym last.1) tt
      | inr more ↦
          let l : Lies (length words) link.at link.opened = lies words parent link.at link.opened le here in
          links_same words (put_arena link.at link.opened bytes words) parent (at + link.opened.info.next / 8) links (size_same link.at link.opened bytes words parent here le fits)
          (subst (λ (p : ℕ). drop p (put_arena link.at link.opened bytes words) ≡ drop p words) (let e : link.at + link.opened.info.layout.size / 8 ≡ at + link.opened.info.next / 8 = omega (arith, linked.0, l.next_is more.0) in e)
          (behind_same link.at link.opened bytes words parent here le fits))
          more.1
    ]

-- ---- one arena after another

pub record Done (uuid bytes words : List ℕ) (at : ℕ) (pre states : List ArenaState) (final : List ℕ) : Type 0 where
  pub news : List ArenaState
  pub opens : opened_view final uuid ≡ Ok (pre ++ news)
  pub each : Each IsRewritten states news
  pub behind : drop (at + arena_words states) final ≡ drop (at + arena_words states) words
  pub cells : flat_map cells_of news ≡ cells_in (flat_map (λ (state : ArenaState). replicate state.info.layout.external state.info.layout.sector) states) bytes

module _ (uuid bytes words : List ℕ) (pre : List ArenaState) (at : ℕ) (link : Link) (links : List Link) (view : opened_view words uuid ≡ Ok (pre ++ map (state_at words) (link ∷ links)))
    (at_is : at ≡ start_of pre) (linked : Linked words uuid at (link ∷ links)) (long : length bytes ≡ sum_by link_bytes (link ∷ links)) where
  abbrev o : Opened
  o = link.opened

  here : opening (drop link.at words) uuid ≡ Ok link.opened
  here = subst (λ (p : ℕ). opening (drop p words) uuid ≡ Ok link.opened) (sym linked.0) linked.2

  le : link.at ≤ length words
  le = omega (arith, linked.0, linked.1)

  total : length bytes ≡ link_bytes link + sum_by link_bytes links
  total = long ∙ sum_by-cons link_bytes link links

  abbrev own : List ℕ
  own = take (link_bytes link) bytes

  fits : length (take (link_bytes link) bytes) ≡ arena_bytes link.opened
  fits = length-take (link_bytes link) bytes (omega (arith, total))
    where
      length-take : (n : ℕ) (xs : List ℕ) → n ≤ length xs → length (take n xs) ≡ n
      length-take zero xs le' = refl
      length-take (suc n) [] le' = absurd (omega (arith, le'))
      length-take (suc n) (x ∷ xs) le' = ap suc (length-take n xs (omega (arith, le')))

  abbrev now : List ℕ
  now = put_arena link.at link.opened (take (link_bytes link) bytes) words

  abbrev old : ArenaState
  old = state_at words link

  abbrev new_opened : Opened
  new_opened = opened_with link.opened.info link.opened.groups (map_in link.opened.info.layout (drop link.at now)) []

  abbrev new : ArenaState
  new = state_of (drop link.at now) new_opened

  size : length now ≡ length words
  size = size_same link.at link.opened (take (link_bytes link) bytes) words uuid here le fits

  abbrev states : List ArenaState
  states = pre ++ (old ∷ map (state_at words) links)

  start_is : start_of (take (length pre) states) ≡ link.at
  start_is = ap start_of (take_at pre (old ∷ map (state_at words) links) (length pre) refl) ∙ sym at_is ∙ sym linked.0

  there : length pre < length states
  there = omega (arith, length-append pre (old ∷ map (state_at words) links))

  is_there : old ≡ get_or states (length pre) old
  is_there = sym (get_or-append_right pre (old ∷ map (state_at words) links) (length pre) (length pre) old refl (omega arith) ∙ ap (λ (k : ℕ). get_or (old ∷ map (state_at words) links) k old) (let e : length pre - length pre ≡ 0 = omega arith in e))

  differ : DifferIn (start_of (take (length pre) states)) (old.info.layout.size / 8) words now
  differ = subst (λ (p : ℕ). DifferIn p (link.opened.info.layout.size / 8) words now) (sym start_is) (record {
    size = size;
    before = before_same link.at link.opened (take (link_bytes link) bytes) words uuid here le fits;
    behind = behind_same link.at link.opened (take (link_bytes link) bytes) words uuid here le fits;
  })

  found : IsFoundAs (drop (start_of (take (length pre) states)) now) uuid new
  found = subst (λ (p : ℕ). IsFoundAs (drop p now) uuid new) (sym start_is) (record {
    opened = new_opened;
    opens = opens_now link.at link.opened (take (link_bytes link) bytes) words uuid here le fits;
    is = refl;
  })

  view_set : opened_view now uuid ≡ Ok (set states (length pre) new)
  view_set = one_arena_changes words now uuid states (length pre) old new view there is_there refl differ found

  set_is : set states (length pre) new ≡ (pre ++ new ∷ []) ++ map (state_at words) links
  set_is =
      set-append_right pre (old ∷ map (state_at words) links) (length pre) (length pre) new refl (omega arith)
      ∙ ap (λ (k : ℕ). pre ++ set (old ∷ map (state_at words) links) k new) (let e : length pre - length pre ≡ 0 = omega arith in e)
      ∙ sym (append_assoc pre (new ∷ []) (map (state_at words) links))

  -- the arenas behind it
  behind_at : link.opened.info.next ≢ 0 → drop (at + link.opened.info.next / 8) now ≡ drop (at + link.opened.info.next / 8) words
  behind_at some =
      let l : Lies (length words) link.at link.opened = lies words uuid link.at link.opened le here in
      subst (λ (p : ℕ). drop p now ≡ drop p words) (let e : link.at + link.opened.info.layout.size / 8 ≡ at + link.opened.info.next / 8 = omega (arith, linked.0, l.next_is some) in e)
      (behind_same link.at link.opened (take (link_bytes link) bytes) words uuid here le fits)

  pub linked_on : Linked now uuid (at + link.opened.info.next / 8) links
  linked_on = linked_next words uuid (take (link_bytes link) bytes) at link links linked fits

  states_on : map (state_at now) links ≡ map (state_at words) links
  states_on = elim linked.3 [
    | inl last ↦ ap (map (state_at now)) last.1 ∙ sym (ap (map (state_at words)) last.1)
    | inr more ↦ states_same words now uuid (at + link.opened.info.next / 8) links (behind_at more.0) more.1
  ]

  pub view_on : opened_view now uuid ≡ Ok ((pre ++ new ∷ []) ++ map (state_at now) links)
  view_on = view_set ∙ ap (λ (ss : List ArenaState). Ok ss) (set_is ∙ ap (λ (ss : List ArenaState). (pre ++ new ∷ []) ++ ss) (sym states_on))

  pub start_on : at + link.opened.info.next / 8 ≡ start_of (pre ++ new ∷ [])
  start_on = omega (arith, at_is, sum_by-append (λ (state : ArenaState). state.info.next / 8) pre (new ∷ []), sum_by-cons (λ (state : ArenaState). state.info.next / 8) new [])

  pub long_on : length (drop (link_bytes link) bytes) ≡ sum_by link_bytes links
  long_on = omega (arith, length-drop (link_bytes link) bytes, total)

  cells_new : cells_of new ≡ cells_in (replicate link.opened.info.layout.external link.opened.info.layout.sector) (take (link_bytes link) bytes)
  cells_new =
      cells_from link.opened.info.layout.external 0 link.opened.info.layout.sector link.opened.info.layout.external (take (link_bytes link) bytes) (cell_at link.opened.info.layout new.words) (omega arith)
      (λ k lt. cell_is link.at link.opened (take (link_bytes link) bytes) words uuid here le fits k lt)
      ∙ ap (λ (k : ℕ). cells_in (replicate link.opened.info.layout.external link.opened.info.layout.sector) (drop k (take (link_bytes link) bytes))) (let e : 0 * link.opened.info.layout.sector ≡ 0 = omega arith in e)

  -- the words behind all arenas
  own_behind : drop (at + link.opened.info.layout.size / 8) now ≡ drop (at + link.opened.info.layout.size / 8) words
  own_behind =
      subst (λ (p : ℕ). drop (p + link.opened.info.layout.size / 8) now ≡ drop (p + link.opened.info.layout.size / 8) words) linked.0
      (behind_same link.at link.opened (take (link_bytes link) bytes) words uuid here le fits)

  words_are : arena_words (old ∷ map (state_at words) links) ≡ link.opened.info.layout.size / 8 + arena_words (map (state_at words) links)
  words_are = sum_by-cons (λ (state : ArenaState). state.info.layout.size / 8) old (map (state_at words) links)

  -- further on, too
  further : (k more : ℕ) (xs ys : List ℕ) → drop k xs ≡ drop k ys → drop (k + more) xs ≡ drop (k + more) ys
  further k more xs ys same = sym (drop-drop more k xs) ∙ ap (drop more) same ∙ drop-drop more k ys

  behind_on : (final : List ℕ) → drop (at + link.opened.info.next / 8 + arena_words (map (state_at words) links)) final ≡ drop (at + link.opened.info.next / 8 + arena_words (map (state_at words) links)) now
      → drop (at + arena_words (old ∷ map (state_at words) links)) final ≡ drop (at + arena_words (old ∷ map (state_at words) links)) words
  behind_on final rest =
      let all : at + arena_words (old ∷ map (state_at words) links) ≡ at + link.opened.info.layout.size / 8 + arena_words (map (state_at words) links) = omega (arith, words_are) in
      subst (λ (k : ℕ). drop k final ≡ drop k words) (sym all)
      (by_next linked.3 ∙ further (at + link.opened.info.layout.size / 8) (arena_words (map (state_at words) links)) now words own_behind)
    where
      by_next : ((link.opened.info.next ≡ 0) × (links ≡ [])) ⊎ ((link.opened.info.next ≢ 0) × Linked words uuid (at + link.opened.info.next / 8) links)
          → drop (at + link.opened.info.layout.size / 8 + arena_words (map (state_at words) links)) final ≡ drop (at + link.opened.info.layout.size / 8 + arena_words (map (state_at words) links)) now
      by_next (inl last) =
          let none : arena_words (map (state_at words) links) ≡ 0 = ap (λ (ls : List Link). arena_words (map (state_at words) ls)) last.1 in
          let first : drop at final ≡ drop at now =
          subst (λ (k : ℕ). drop k final ≡ drop k now) (let e : at + link.opened.info.next / 8 + arena_words (map (state_at words) links) ≡ at = omega (arith, last.0, none) in e) rest in
          subst (λ (k : ℕ). drop k final ≡ drop k now)
          (let e : at + (link.opened.info.layout.size / 8 + arena_words (map (state_at words) links)) ≡ at + link.opened.info.layout.size / 8 + arena_words (map (state_at words) links) = omega arith in e)
          (further at (link.opened.info.layout.size / 8 + arena_words (map (state_at words) links)) final now first)
      by_next (inr more) =
          let l : Lies (length words) link.at link.opened = lies words uuid link.at link.opened le here in
          subst (λ (k : ℕ). drop k final ≡ drop k now)
          (let e : at + link.opened.info.next / 8 + arena_words (map (state_at words) links) ≡ at + link.opened.info.layout.size / 8 + arena_words (map (state_at words) links) = omega (arith, l.next_is more.0) in e)
          rest

  pub done_on : Done uuid (drop (link_bytes link) bytes) now (at + link.opened.info.next / 8) (pre ++ new ∷ []) (map (state_at now) links) (put_links links (drop (link_bytes link) bytes) now)
      → Done uuid bytes words at pre (map (state_at words) (link ∷ links)) (put_links (link ∷ links) bytes words)
  done_on d = record {
    news = new ∷ d.news;
    behind = behind_on (put_links links (drop (link_bytes link) bytes) now)
        (subst (λ (ss : List ArenaState). drop (at + link.opened.info.next / 8 + arena_words ss) (put_links links (drop (link_bytes link) bytes) now) ≡ drop (at + link.opened.info.next / 8 + arena_words ss) now) states_on d.behind);
    opens = d.opens ∙ ap (λ (ss : List ArenaState). Ok ss) (append_assoc pre (new ∷ []) d.news);
    each = (new, d.news, refl, rewritten link.at link.opened (take (link_bytes link) bytes) words uuid here le fits, subst (λ (ss : List ArenaState). Each IsRewritten ss d.news) states_on d.each);
    cells = (λ i. cells_new i ++ (d.cells ∙ ap (λ (ss : List ArenaState). cells_in (flat_map (λ (state : ArenaState). replicate state.info.layout.external state.info.layout.sector) ss) (drop (link_bytes link) bytes)) states_on) i)
        ∙ sym (cells_split link.opened.info.layout.external link.opened.info.layout.sector (flat_map (λ (state : ArenaState). replicate state.info.layout.external state.info.layout.sector) (map (state_at words) links)) bytes (omega (arith, total)));
  }

pub all_done : (links : List Link) (uuid bytes words : List ℕ) (pre : List ArenaState) (at : ℕ) → opened_view words uuid ≡ Ok (pre ++ map (state_at words) links) → at ≡ start_of pre → Linked words uuid at links
    → length bytes ≡ sum_by link_bytes links → Done uuid bytes words at pre (map (state_at words) links) (put_links links bytes words)
all_done [] uuid bytes words pre at view at_is linked long = record { news = []; opens = view; each = refl; behind = refl; cells = refl }
all_done (link ∷ links) uuid bytes words pre at view at_is linked long =
    done_on uuid bytes words pre at link links view at_is linked long
    (all_done links uuid (drop (link_bytes link) bytes) (put_arena link.at link.opened (take (link_bytes link) bytes) words)
    (pre ++ state_of (drop link.at (put_arena link.at link.opened (take (link_bytes link) bytes) words)) (opened_with link.opened.info link.opened.groups (map_in link.opened.info.layout (drop link.at (put_arena link.at link.opened (take (link_bytes link) bytes) words))) []) ∷ [])
    (at + link.opened.info.next / 8)
    (view_on uuid bytes words pre at link links view at_is linked long) (start_on uuid bytes words pre at link links view at_is linked long)
    (linked_on uuid bytes words pre at link links view at_is linked long) (long_on uuid bytes words pre at link links view at_is linked long))

pub has_contents : (links : List Link) (uuid bytes words : List ℕ) → AreAll words uuid links → length bytes ≡ sum_by link_bytes links → HasContents uuid bytes (map (state_at words) links) words (put_links links bytes words)
unfolding contents_of sizes_of
has_contents links uuid bytes words all long =
    let d : Done uuid bytes words 0 [] (map (state_at words) links) (put_links links bytes words) = all_done links uuid bytes words [] 0 all.read refl all.linked long in
    let from : 0 + arena_words (map (state_at words) links) ≡ arena_words (map (state_at words) links) = omega arith in
    record { news = d.news; opens = d.opens; each = d.each; behind = subst (λ (k : ℕ). drop k (put_links links bytes words) ≡ drop k words) from d.behind; cells = d.cells }
