-- The parts of an arena, read from a source.
use Rattle.std.proofs.Common.{◌≡◌, ◌≢◌, ℕ, ◌+◌, ◌-◌, ◌*◌, ◌/◌, ◌%◌, ◌^◌, ◌<◌, ◌≤◌, List, [], ◌∷◌, ◌++◌, length, length-append, map, None, replicate, take, drop, get_or, Result, Ok, Err, refl, sym, subst, ap, ◌∙◌, inl, inr, arith}
use Rattle.std.specs.Prelude.{IfOk, IsTrue, ◌==◌, ◌||◌, sum_by}
use Rattle.std.specs.List.{All}
use Rattle.std.specs.Int.{w64}
use Rattle.std.proofs.lemmas.Bool.{cases_eq, ne_eqb}
use lib.Seq.{drop-append_seam}
use Rattle.std.proofs.lemmas.List.{drop-drop, ext_get_or, get_or-drop, get_or-take, get_or_append_left, length-drop, length-replicate, length-take-le, take_all}
use Rattle.std.proofs.lemmas.List.Elements.{All-append, All-cons, All-nil}
use Rattle.std.proofs.lemmas.List.Sums.{sum_by_push}
use Rattle.nvd_words.specs.Bytes.{AreBytes, number_at}
use Rattle.cut_words.specs.WordBytes.{bytes_of, words_in}
use Rattle.cut_words.proofs.Put.{bytes_of-words_in}
use Rattle.arena_layout.specs.declared.layout.Layout.{Layout}
use Rattle.arena_layout.specs.declared.info.Info.{Info}
use Rattle.arena_layout.specs.Layout.{IsLayout}
use Rattle.arena_layout.specs.Info.{IsArenaOf}
use Rattle.nvd_words.specs.Checks.{Answers}
use Rattle.flog.specs.declared.group.Group.{Group}
use Rattle.arena_open.specs.declared.refused.OpenRefused.{OpenRefused}
use Rattle.arena_open.specs.declared.refused.OpenRefused.TheVariants as refused
use Rattle.arena_open.specs.Halves.{AreInRange, AreMoves}
use Rattle.arena_open.specs.Reading.{free_of, groups_in, info_bytes, moved, moves_of, on_blocks, on_map, opened_with}
use Rattle.arena_open.specs.declared.opened.Opened.{Opened}
use Rattle.flog.specs.declared.half.Half.{Half}
use Rattle.map_table.specs.Blocks.{NamesEachOnce, block_check, blocks_from, blocks_of}
use Rattle.map_table.specs.Entry.{entry_of}
use Rattle.map_table.proofs.Once.{names_once}
use Rattle.arena_open.proofs.OnceMore.{block_index, length_blocks, length_moved}
use Rattle.map_table.specs.declared.check.BlockFault.{BlockFault}
use Rattle.arena_open.specs.Chain.{Link, chain_answer, state_at}
use Rattle.arena_open.specs.declared.chain_refused.ChainRefused.{ChainRefused}
use Rattle.sector_namespaces.specs.Changing.{IsFinding}
use Rattle.sector_namespaces.specs.View.{opened_view}
use Rattle.sector_namespaces.proofs.Views.{some_words}
use Rattle.namespace_bytes.specs.Putting.{AreAll, Linked, block_at, link_bytes}
use Rattle.namespace_bytes.proofs.Sizes.{all_of, bytes_fit}
use Rattle.arena_open.proofs.Opening.{lanes_in_range}
use Rattle.arena_open.proofs.Pending.{moves_fit}
use Rattle.arena_open.proofs.Bytes.{length_words, word_index}
use Rattle.namespace_bytes.specs.SectorBytes.{HaveMapsOfBytes}
use Rattle.namespace_bytes.specs.SectorPut.{HasBlocks}
use Rattle.namespace_words.specs.Source.{AreBytesFrom, AreBytesOf, AreWithin, IsMapOfBytes, IsWithin, size_of, sizes_of}
use Rattle.namespace_bytes.proofs.WholePatch.{same_number}

-- ---- answers

pub ok_holds : {A E : Type 0} (P : A → Type 0) (r : Result A E) (x : A) → r ≡ Ok x → IfOk r P → P x
ok_holds P (Ok y) x is holds = subst P (let e : y ≡ x = cc in e) holds
ok_holds P (Err e) x is holds = absurd (let h = is in cc)

pub answered_ok : {A F : Type 0} (memory : F) (r answer : Result A F) (x : A) → Answers memory r answer → r ≡ Ok x → answer ≡ Ok x
answered_ok memory r answer x answers is = sym (answers (λ e. absurd (let h : ◌≡◌ {A = Result _ _} (Ok x) (Err memory) = sym is ∙ e in cc))) ∙ is

pub answered_err : {A F : Type 0} (memory : F) (r answer : Result A F) (f : F) → Answers memory r answer → r ≡ Err f → f ≢ memory → answer ≡ Err f
answered_err memory r answer f answers is other = sym (answers (λ e. other (let h : ◌≡◌ {A = Result _ _} (Err f) (Err memory) = sym is ∙ e in cc))) ∙ is

-- ---- words

-- a word of bytes that are those of words
pub word_from : (words : List ℕ) (at : ℕ) (bytes : List ℕ) (k : ℕ) → AreBytesOf words at bytes → 8 * k + 8 ≤ length bytes → number_at w64 bytes (8 * k) ≡ get_or words (at + k) 0
word_from words at bytes k are fits =
    sym (word_index bytes k (omega (arith, fits, length_words bytes)))
    ∙ ap (λ (ws : List ℕ). get_or ws k 0) are
    ∙ get_or-take (length bytes / 8) (drop at words) k 0 (omega (arith, fits)) ∙ get_or-drop at words k 0

-- the words of a part of some bytes
pub part_words : (all bytes : List ℕ) (from : ℕ) → bytes ≡ take (length bytes) (drop (8 * from) all) → 8 * from + length bytes ≤ length all → AreBytesOf (words_in all) from bytes
part_words all bytes from are fits =
    let count : ℕ = length bytes / 8 in
    let long : length (take (length bytes / 8) (drop from (words_in all))) ≡ length bytes / 8 =
    length-take-le (length bytes / 8) (drop from (words_in all)) (omega (arith, length-drop from (words_in all), length_words all, fits)) in
    ext_get_or 0 (words_in bytes) (take (length bytes / 8) (drop from (words_in all))) (length_words bytes ∙ sym long) (λ k lt.
    let less : k < length bytes / 8 = omega (arith, lt, length_words bytes) in
    word_index bytes k lt
    ∙ same_number bytes all (8 * k) (8 * (from + k)) (omega (arith, less)) (omega (arith, less, fits)) (λ j small.
    let sum : 8 * from + (8 * k + j) ≡ 8 * (from + k) + j = omega arith in
    ap (λ (row : List ℕ). get_or row (8 * k + j) 0) are
    ∙ get_or-take (length bytes) (drop (8 * from) all) (8 * k + j) 0 (omega (arith, small, less)) ∙ get_or-drop (8 * from) all (8 * k + j) 0
    ∙ ap (λ (i : ℕ). get_or all i 0) sum)
    ∙ sym (get_or-take (length bytes / 8) (drop from (words_in all)) k 0 less ∙ get_or-drop from (words_in all) k 0
    ∙ word_index all (from + k) (omega (arith, less, fits, length_words all))))

-- the bytes of an arena's words
pub area_words : (words : List ℕ) (at off : ℕ) (bytes : List ℕ) → off % 8 ≡ 0 → AreBytesOf words ((8 * at + off) / 8) bytes → AreBytesOf (drop at words) (off / 8) bytes
area_words words at off bytes whole are =
    are ∙ ap (take (length bytes / 8)) (ap (λ (n : ℕ). drop n words) (omega (arith, whole)) ∙ sym (drop-drop (off / 8) at words))

-- ---- the info block

-- the bytes of an info block
pub info_is : (words bytes : List ℕ) → length bytes ≡ 4096 → AreBytes bytes → AreBytesOf words 0 bytes → bytes ≡ info_bytes words
info_is words bytes long fit are =
    sym (bytes_of-words_in bytes (omega (arith, long)) fit)
    ∙ ap bytes_of are ∙ ap (λ (n : ℕ). bytes_of (take (n / 8) words)) long

-- ---- the map

-- a part of the map
pub bytes_from : (all piece : List ℕ) (from : ℕ) → AreBytes piece → piece ≡ take (length piece) (drop from all) → AreBytesFrom all from (length piece)
bytes_from all piece from fit are i le lt =
    let less : i - from < length piece = omega (arith, le, lt) in
    let sum : from + (i - from) ≡ i = omega (arith, le) in
    let here : get_or piece (i - from) 0 ≡ get_or all i 0 =
    ap (λ (row : List ℕ). get_or row (i - from) 0) are ∙ get_or-take (length piece) (drop from all) (i - from) 0 less ∙ get_or-drop from all (i - from) 0 ∙ ap (λ (k : ℕ). get_or all k 0) sum in
    omega (arith, here, fit.each (i - from))

-- ---- the log

-- words with a log in its place, and nothing else
abbrev pub log_alone : ℕ → List ℕ → List ℕ
log_alone at log = replicate at 0 ++ words_in log

pub log_is : (at : ℕ) (log : List ℕ) → AreBytesOf (log_alone at log) at log
log_is at log =
    let behind : drop at (replicate at 0 ++ words_in log) ≡ words_in log =
    ap (λ (n : ℕ). drop n (replicate at 0 ++ words_in log)) (sym (length-replicate at 0)) ∙ drop-append_seam (replicate at 0) (words_in log) in
    sym (ap (take (length log / 8)) behind ∙ take_all (length log / 8) (words_in log) (omega (arith, length_words log)))

-- so the groups of a log are in range, whatever the other words are
pub groups_in_range : (l : Layout) (log : List ℕ) (groups : Result (List Group) OpenRefused) → IsLayout l
    → ((words : List ℕ) → AreBytesOf words (l.flog_off / 8) log → Answers refused.OutOfMemory groups (groups_in l words)) → IfOk groups (AreInRange l.external)
groups_in_range l log (Err fault) ok answers = tt
groups_in_range l log (Ok groups) ok answers =
    lanes_in_range l (log_alone (l.flog_off / 8) log) groups ok (sym (answers (log_alone (l.flog_off / 8) log) (log_is (l.flog_off / 8) log) (λ e. cc)))

-- they are those of some log
pub groups_of_log : (l : Layout) (log : List ℕ) (groups : Result (List Group) OpenRefused)
    → ((words : List ℕ) → AreBytesOf words (l.flog_off / 8) log → Answers refused.OutOfMemory groups (groups_in l words)) → IfOk groups (λ groups. (words : List ℕ) × (groups_in l words ≡ Ok groups))
groups_of_log l log (Err fault) answers = tt
groups_of_log l log (Ok groups) answers =
    (log_alone (l.flog_off / 8) log, sym (answers (log_alone (l.flog_off / 8) log) (log_is (l.flog_off / 8) log) (λ e. cc)))

-- ---- the whole arena

-- what was decoded, and the check that it passed
record Checked (opened found : Opened) : Type 0 where
  same : opened ≡ found
  check : block_check opened.info.layout.internal (blocks_of opened.entries (free_of opened.groups)) ≡ Ok tt

checked_by : (opened found : Opened) (checked : Result (Unit {0}) BlockFault) → block_check opened.info.layout.internal (blocks_of opened.entries (free_of opened.groups)) ≡ checked → on_blocks opened checked ≡ Ok found
    → Checked opened found
checked_by opened found (Err f) check is = absurd (let h = is in cc)
checked_by opened found (Ok u) check is = record { same = cc; check = check }

-- what a map with this info block and these entries opens as
pub record Decoded (info : Info) (groups : List Group) (entries : List ℕ) (found : Opened) : Type 0 where
  pub info_is : info ≡ found.info
  pub groups_are : groups ≡ found.groups
  pub moves_are : moves_of entries groups ≡ found.moves
  pub long : length found.entries ≡ length entries
  pub once : NamesEachOnce found.info.layout.internal (blocks_of found.entries (free_of found.groups))

decoded_as : (info : Info) (groups : List Group) (entries : List ℕ) (found : Opened) → on_map info groups entries ≡ Ok found → Decoded info groups entries found
decoded_as info groups entries found is =
    let moves : List Half = moves_of entries groups in
    let opened : Opened = opened_with info groups (moved entries moves) moves in
    let c : Checked opened found = checked_by opened found (block_check info.layout.internal (blocks_of (moved entries moves) (free_of groups))) refl is in
    subst (λ (o : Opened). Decoded info groups entries o) c.same (record {
      info_is = refl;
      groups_are = refl;
      moves_are = refl;
      long = length_moved entries moves;
      once = names_once info.layout.internal (blocks_of (moved entries moves) (free_of groups)) c.check;
    })

pub decoded_found : (info : Info) (groups : List Group) (entries : List ℕ) (r : Result Opened OpenRefused) → Answers refused.OutOfMemory r (on_map info groups entries) → IfOk r (Decoded info groups entries)
decoded_found info groups entries (Err f) answers = tt
decoded_found info groups entries (Ok opened) answers = decoded_as info groups entries opened (sym (answers (λ e. cc)))

ok_to : {A E : Type 0} (P Q : A → Type 0) (r : Result A E) → ((x : A) → P x → Q x) → IfOk r P → IfOk r Q
ok_to P Q (Ok x) h holds = h x holds
ok_to P Q (Err e) h holds = tt

-- an arena has the info block that it was decoded from
pub decoded_with : (P : Info → Type 0) (info : Info) (groups : List Group) (entries : List ℕ) (r : Result Opened OpenRefused) → Answers refused.OutOfMemory r (on_map info groups entries) → P info
    → IfOk r (λ opened. P opened.info)
decoded_with P info groups entries r answers holds =
    ok_to (Decoded info groups entries) (λ opened. P opened.info) r (λ opened d. subst P d.info_is holds) (decoded_found info groups entries r answers)

-- its blocks
block_below : (o : Opened) → length o.entries ≡ o.info.layout.external → NamesEachOnce o.info.layout.internal (blocks_of o.entries (free_of o.groups))
    → (own : ℕ) → own < o.info.layout.external → block_at o.entries own < o.info.layout.internal
block_below o long once own lt =
    let front : length (blocks_from 0 o.entries) ≡ o.info.layout.external = length_blocks 0 o.entries ∙ long in
    let all : length (blocks_of o.entries (free_of o.groups)) ≡ length (blocks_from 0 o.entries) + length (free_of o.groups) = length-append (blocks_from 0 o.entries) (free_of o.groups) in
    let named : get_or (blocks_of o.entries (free_of o.groups)) own 0 ≡ block_at o.entries own =
    get_or_append_left (blocks_from 0 o.entries) (free_of o.groups) 0 own (omega (arith, lt, front))
    ∙ block_index 0 o.entries own (omega (arith, lt, long)) ∙ ap (λ (s : ℕ). (entry_of (get_or o.entries own 0) s).block) (let e : 0 + own ≡ own = omega arith in e) in
    subst (λ (b : ℕ). b < o.info.layout.internal) named (once.below own 0 (omega (arith, lt, front, all)))

pub blocks_found : (at bytes : ℕ) (parent : List ℕ) (info : Info) (groups : List Group) (entries : List ℕ) (r : Result Opened OpenRefused) → Answers refused.OutOfMemory r (on_map info groups entries)
    → IsArenaOf parent (bytes - 8 * at) info → length entries ≡ info.layout.external → (words : List ℕ) × (groups_in info.layout words ≡ Ok groups) → 8 * at ≤ bytes → bytes ≤ 2 ^ 55
    → IfOk r (λ opened. HasBlocks (record { at = at; opened = opened }))
blocks_found at bytes parent info groups entries r answers arena long lanes inside few =
    ok_to (Decoded info groups entries) (λ opened. HasBlocks (record { at = at; opened = opened })) r (λ opened d.
    let own : IsArenaOf parent (bytes - 8 * at) opened.info = subst (λ (i : Info). IsArenaOf parent (bytes - 8 * at) i) d.info_is arena in
    let count : length opened.entries ≡ opened.info.layout.external = d.long ∙ long ∙ ap (λ (i : Info). i.layout.external) d.info_is in
    record {
      layout = own.sound.layout;
      entries = count;
      below = block_below opened count d.once;
      small = omega (arith, own.size_inside, inside, few);
      lanes = (lanes.0, ap (λ (i : Info). groups_in i.layout lanes.0) (sym d.info_is) ∙ lanes.1 ∙ ap (λ (gs : List Group). Ok gs) d.groups_are);
      moves = subst (λ (i : Info). AreMoves i.layout.external opened.moves) d.info_is
          (subst (λ (ms : List Half). AreMoves info.layout.external ms) d.moves_are
          (moves_fit info.layout.external entries groups (lanes_in_range info.layout lanes.0 groups arena.sound.layout lanes.1)));
    }) (decoded_found info groups entries r answers)

-- ---- where the next arena begins

next_size : (next size : ℕ) → IsTrue ((next == 0) || (next == size)) → next ≢ 0 → next ≡ size
next_size next size said some = elim (cases_eq next 0) [
  | inl zero ↦ absurd (some zero)
  | inr other ↦ elim (cases_eq next size) [ inl same ↦ same | inr apart ↦ absurd (let e = rw (ne_eqb next 0 other, ne_eqb next size apart) at said in cc) ]
]

-- the arena at a word, in a namespace of so many bytes
pub record Follows (bytes at next : ℕ) : Type 0 where
  pub whole : next % 4096 ≡ 0
  pub large : 16777216 ≤ next
  pub inside : 8 * at + next + 4096 ≤ bytes

-- the sectors of an arena fit between it and the next one
pub sum_next : (bytes at : ℕ) (parent : List ℕ) (links more : List Link) (opened : Opened) → more ≡ links ++ record { at = at; opened = opened } ∷ [] → IsArenaOf parent (bytes - 8 * at) opened.info
    → 8 * at ≤ bytes → sum_by link_bytes links ≤ 8 * at → (sum_by link_bytes more ≤ bytes) × (opened.info.next ≢ 0 → sum_by link_bytes more ≤ 8 * (at + opened.info.next / 8))
sum_next bytes at parent links more opened is arena inside before =
    let link : Link = record { at = at; opened = opened } in
    let ok : IsLayout opened.info.layout = arena.sound.layout in
    let sum : sum_by link_bytes more ≡ sum_by link_bytes links + link_bytes (record { at = at; opened = opened }) =
    ap (sum_by link_bytes) is ∙ sum_by_push link_bytes links (record { at = at; opened = opened }) in
    let fits : link_bytes (record { at = at; opened = opened }) ≤ 8 * (opened.info.layout.size / 8) = bytes_fit opened.info.layout ok in (
      omega (arith, sum, fits, before, inside, arena.size_inside),
      λ some. omega (arith, sum, fits, before, next_size opened.info.next opened.info.layout.size arena.sound.next some),
    )

-- so does all of it
pub sizes_next : (bytes at : ℕ) (parent : List ℕ) (links more : List Link) (opened : Opened) → more ≡ links ++ record { at = at; opened = opened } ∷ [] → IsArenaOf parent (bytes - 8 * at) opened.info
    → 8 * at ≤ bytes → sizes_of links ≤ 8 * at → (sizes_of more ≤ bytes) × (opened.info.next ≢ 0 → sizes_of more ≤ 8 * (at + opened.info.next / 8))
sizes_next bytes at parent links more opened is arena inside before =
    let ok : IsLayout opened.info.layout = arena.sound.layout in
    let sum : sizes_of more ≡ sizes_of links + opened.info.layout.size = ap sizes_of is ∙ sum_by_push size_of links (record { at = at; opened = opened }) in
    let whole : opened.info.layout.size % 8 ≡ 0 = omega (arith, ok.size_is, ok.info_whole) in (
      omega (arith, sum, before, inside, arena.size_inside),
      λ some. omega (arith, sum, whole, before, next_size opened.info.next opened.info.layout.size arena.sound.next some),
    )

pub follows : (bytes at : ℕ) (parent : List ℕ) (info : Info) → bytes % 4096 ≡ 0 → at % 512 ≡ 0 → 8 * at ≤ bytes → IsArenaOf parent (bytes - 8 * at) info → info.next ≢ 0 → Follows bytes at info.next
follows bytes at parent info pages page le arena some =
    let ok : IsLayout info.layout = arena.sound.layout in
    let next : info.next ≡ info.layout.size = next_size info.next info.layout.size arena.sound.next some in
    let whole : info.next % 4096 ≡ 0 = omega (arith, next, ok.size_is, ok.info_whole) in
    record {
      whole = whole;
      large = omega (arith, next, ok.size_low);
      inside = omega (arith, arena.next_inside, whole, pages, page, le);
    }

-- ---- all arenas

pub maps_more : (row : List ℕ) (links : List Link) (at : ℕ) (opened : Opened) → HaveMapsOfBytes row links → IsMapOfBytes row at opened.info.layout
    → HaveMapsOfBytes row (links ++ record { at = at; opened = opened } ∷ [])
maps_more row links at opened maps here =
    let P : Link → Type 0 = λ link. IsMapOfBytes row link.at link.opened.info.layout in
    All-append P links (record { at = at; opened = opened } ∷ []) maps (All-cons P (record { at = at; opened = opened }) [] here (All-nil P))

pub links_long : (links more : List Link) (at : ℕ) (opened : Opened) → more ≡ links ++ record { at = at; opened = opened } ∷ [] → length more ≡ length links + 1
links_long links more at opened is = ap (λ (ls : List Link). length ls) is ∙ length-append links (record { at = at; opened = opened } ∷ [])

pub blocks_more : (links : List Link) (link : Link) → All HasBlocks links → HasBlocks link → All HasBlocks (links ++ link ∷ [])
blocks_more links link each here = All-append HasBlocks links (link ∷ []) each (All-cons HasBlocks link [] here (All-nil HasBlocks))

-- each of them ends in the namespace
pub within_more : (bytes at : ℕ) (parent : List ℕ) (links more : List Link) (opened : Opened) → more ≡ links ++ record { at = at; opened = opened } ∷ [] → IsArenaOf parent (bytes - 8 * at) opened.info
    → 8 * at ≤ bytes → AreWithin bytes links → AreWithin bytes more
within_more bytes at parent links more opened is arena inside each =
    let here : IsWithin bytes (record { at = at; opened = opened }) = omega (arith, arena.size_inside, inside) in
    subst (λ (ls : List Link). AreWithin bytes ls) (sym is)
    (All-append (IsWithin bytes) links (record { at = at; opened = opened } ∷ []) each (All-cons (IsWithin bytes) (record { at = at; opened = opened }) [] here (All-nil (IsWithin bytes))))

-- in terms of the namespace
pub all_found : {E L : Type 0} (view : L → List Link) (words uuid : List ℕ) (first : ℕ) (r : Result (Result L ChainRefused) E) → first ≡ 0 → length words ≢ 0
    → IfOk r (λ found. IfOk found (λ links. Ok (map (state_at words) (view links)) ≡ chain_answer None words uuid first)) → IfOk r (λ found. IfOk found (λ links. Linked words uuid first (view links)))
    → IfOk r (λ found. IfOk found (λ links. AreAll words uuid (view links)))
all_found view words uuid first (Ok found) is some read linked = all_of view words uuid first found is some read linked
all_found view words uuid first (Err e) is some read linked = tt

pub refused_found : {E L : Type 0} (words uuid : List ℕ) (first : ℕ) (r : Result (Result L ChainRefused) E) → first ≡ 0 → length words ≢ 0
    → IfOk r (λ found. (f : ChainRefused) → found ≡ Err f → IsFinding f → chain_answer None words uuid first ≡ Err f)
    → IfOk r (λ found. (f : ChainRefused) → found ≡ Err f → IsFinding f → opened_view words uuid ≡ Err f)
refused_found words uuid first (Ok found) is some refused = λ f e finding.
    some_words words uuid some ∙ ap (chain_answer None words uuid) (sym is) ∙ refused f e finding
refused_found words uuid first (Err e) is some refused = tt
