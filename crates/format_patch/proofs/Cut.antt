-- What is left of a format is what a patch of contents puts there.
use Rattle.std.proofs.Common.{◌≡◌, ℕ, zero, suc, ◌+◌, ◌-◌, ◌*◌, ◌/◌, ◌%◌, ◌<◌, ◌≤◌, min, Bool, true, false, cond, List, [], ◌∷◌, length, map, take, get_or, Option, None, Result, Ok, Err, refl, sym, ap, ◌∙◌, subst, inl, inr, arith}
use Rattle.std.specs.Prelude.{is_ok}
use Rattle.std.proofs.Math.ListN.{set as with_item}
use Rattle.std.proofs.lemmas.Bool.{cases_eq, cases_lt, eq-eqb, eqb-true, le-ltb, lt-ltb, true≢false}
use Rattle.std.proofs.lemmas.List.{length-replicate, set-get_or, take_all}
use Rattle.std.proofs.lemmas.Simd.{map-map}
use Rattle.nfit_reader.specs.declared.table.Mapping.{Mapping}
use Rattle.interleave.specs.Places.{LiesAt}
use Rattle.cut_words.specs.declared.fuse.PowerCut.{PowerCut}
use Rattle.cut_words.specs.Words.{Words, IsLeft, after, keep, settled, store, stepped}
use Rattle.cut_words.specs.Fuses.{Makes, allowed, burnt, lasts}
use Rattle.cut_words.specs.WordBytes.{bytes_of, words_in}
use Rattle.arena_layout.specs.declared.layout.Layout.{Layout}
use Rattle.arena_layout.specs.Layout.{IsLayout}
use Rattle.arena_layout.specs.Spelling.{spelling_of}
use Rattle.arena_open.specs.Areas.{new_info}
use Rattle.arena_open.specs.Format.{format_count, format_steps, format_writes}
use Rattle.arena_open.specs.Writes.{Write, written_over}
use Rattle.arena_open.proofs.Bytes.{length_words}
use Rattle.arena_open.proofs.Counts.{format_counts}
use Rattle.arena_open.proofs.Formatted.{Spells, opens, settles}
use Rattle.arena_open.proofs.Runs.{counted, keeps_outside}
use Rattle.arena_open.proofs.Written.{no_write, one_write}
use Rattle.image_set.specs.Patches.{patched_contents}
use Rattle.power_cut.specs.Left.{Each, InTurn, LeavesWords}
use Rattle.power_cut.specs.Namespace.{HasBytes, HasRows, IsLaid, IsRow, ReachEnds, beside_of, byte_at, count_of, over, row_of, words_of}
use Rattle.power_cut.proofs.Beside.{are_all, row_at, rows_beside, same_count}
use Rattle.power_cut.proofs.Spread.{IsWordOf, count_is, word_of_rows}
use Rattle.sector_namespaces.specs.Creation.{IsFormattedIn}
use Rattle.sector_namespaces.specs.View.{rows_of}
use Rattle.sector_namespaces.proofs.Formats.{format_in, format_is}
use Rattle.namespace_bytes.specs.declared.new_bytes.NewBytes.TheVariants.{Runs}
use Rattle.namespace_bytes.specs.declared.runs.Run.{Run}
use Rattle.namespace_bytes.specs.Patching.{AreWhole, BytePatch, byte_patched}
use Rattle.format_patch.specs.Format.{count_behind, format_runs, is_pending, place_of_write, words_behind, words_left}
use Rattle.format_patch.specs.Cut.{AsksBy, AsksFor, AsksOne, FormatIsLeft, HasFirst, IsBlock, IsFormatPatch}
use Rattle.format_patch.proofs.Bounds.{byte_words}
use Rattle.format_patch.proofs.CutRows.{flushed, flushed_beside, flushed_words, inside, none_asked, none_left, one_asked, one_left, pending, pending_beside, pending_words, settled_same, there}
use Rattle.format_patch.proofs.Order.{areas_long, behind_long, even_after, next_written, odd_after, write_place}
use Rattle.format_patch.proofs.PatchedWords.{patch, patched_beside, patched_words, was_settled}

settled_is_row : (ys : List (List ℕ)) (j : ℕ) (d : Words) → j < length (map settled ys) → IsRow (get_or (map settled ys) j d)
settled_is_row [] j d lt = absurd (omega arith)
settled_is_row (y ∷ ys) zero d lt = length-replicate (length y) None
settled_is_row (y ∷ ys) (suc j) d lt = settled_is_row ys j d (omega (arith, lt))

even_twice : (n : ℕ) → is_pending n ≡ false → n ≡ 2 * (n / 2)
even_twice n e = elim (cases_eq (n % 2) 1) [
  | inl one ↦ absurd (true≢false (sym (eq-eqb (n % 2) 1 one) ∙ e))
  | inr other ↦ omega (arith, other)
]

place_inside : (l : Layout) → IsLayout l → (k : ℕ) → k < count_behind l + 512 → place_of_write l k < l.size / 8
place_inside l ok k k_in = elim (cases_lt k (count_behind l)) [
  | inl lt ↦ (let counts = counted l ok in subst (λ (m : ℕ). m < l.size / 8) (sym (let e : place_of_write l k ≡ l.map_off / 8 + k = rw (lt-ltb k (count_behind l) lt) refl in e)) (omega (arith, lt, counts.map_is, counts.log_is, ok.size_is, ok.info_whole)))
  | inr ge ↦ subst (λ (m : ℕ). m < l.size / 8) (sym (let e : place_of_write l k ≡ k - count_behind l = rw (le-ltb k (count_behind l) ge) refl in e)) (omega (arith, ge, k_in, ok.size_is))
]

-- ---- the steps under a fuse

module _ (l : Layout) (uuid : List ℕ) (ok : IsLayout l) (sixteen : length uuid ≡ 16) (spells : Spells (spelling_of (new_info l uuid uuid)) (new_info l uuid uuid)) where
  abbrev block : List ℕ
  block = words_in (spelling_of (new_info l uuid uuid))

  pub long : length (words_in (spelling_of (new_info l uuid uuid))) ≡ 512
  long = length_words (spelling_of (new_info l uuid uuid)) ∙ ap (λ (n : ℕ). n / 8) spells.count

  steps_long : length (format_steps 0 l uuid uuid) ≡ format_count l
  steps_long = format_counts 0 l uuid uuid sixteen sixteen

  -- words that the steps made are a formatted namespace
  module _ (set : List Mapping) (offset raw : ℕ) (old made : List Words) (fuse : Option ℕ) (was : words_of (over set offset raw old) ≡ settled (words_of (over set offset raw old)).kept)
      (room : l.size / 8 ≤ length (words_of (over set offset raw old)).kept) (words : words_of (over set offset raw made) ≡ after (words_of (over set offset raw old)) (allowed fuse (format_steps 0 l uuid uuid)))
      (beside : beside_of (over set offset raw made) ≡ beside_of (over set offset raw old)) where
    abbrev w : Words
    w = words_of (over set offset raw old)

    abbrev w1 : Words
    w1 = words_of (over set offset raw made)

    whole_makes : (r : Result (Unit {0}) PowerCut) → is_ok r ≡ lasts fuse (format_count l) → Makes w w1 fuse (burnt fuse (format_count l)) (format_steps 0 l uuid uuid) (is_ok r)
    whole_makes r is = record { words = words; fuse_left = ap (burnt fuse) (sym steps_long); all_made = is ∙ ap (lasts fuse) (sym steps_long) }

    with_result : (r : Result (Unit {0}) PowerCut) → is_ok r ≡ lasts fuse (format_count l) → IsFormattedIn (over set offset raw) l uuid old made fuse (burnt fuse (format_count l)) (lasts fuse (format_count l))
    with_result r is =
        let makes = whole_makes r is in
        subst (λ (b : Bool). IsFormattedIn (over set offset raw) l uuid old made fuse (burnt fuse (format_count l)) b) is
        (format_in set offset raw l uuid (over set offset raw old) (over set offset raw made) old made fuse (burnt fuse (format_count l)) (is_ok r) refl refl beside
        (format_is 0 l uuid w w1 fuse (burnt fuse (format_count l)) r refl sixteen format_counts makes
        (keeps_outside w w1 fuse (burnt fuse (format_count l)) 0 l block (is_ok r) ok long was makes)
        (settles r w w1 fuse (burnt fuse (format_count l)) 0 l (spelling_of (new_info l uuid uuid)) uuid uuid spells was makes)
        (opens r w w1 fuse (burnt fuse (format_count l)) 0 l (spelling_of (new_info l uuid uuid)) uuid uuid spells was ok (omega (arith, room)) makes)))

    by_lasts : (b : Bool) → lasts fuse (format_count l) ≡ b → IsFormattedIn (over set offset raw) l uuid old made fuse (burnt fuse (format_count l)) (lasts fuse (format_count l))
    by_lasts true lasts_all = with_result (Ok tt) (sym lasts_all)
    by_lasts false short = with_result (Err (record {})) (sym short)

    pub is_formatted : IsFormattedIn (over set offset raw) l uuid old made fuse (burnt fuse (format_count l)) (lasts fuse (format_count l))
    is_formatted = by_lasts (lasts fuse (format_count l)) refl

  -- ---- with a patch of each number of words

  module _ (set : List Mapping) (offset raw : ℕ) (laid : (modules : List Words) → IsLaid (over set offset raw modules)) (room : l.size ≤ length set * raw) (contents : List (List ℕ)) (whole : AreWhole contents)
      (reach : ReachEnds set (rows_of contents)) where
    abbrev put : ℕ → BytePatch
    put k = patch l ok block long (byte_words (spelling_of (new_info l uuid uuid)) spells.fit) k set offset raw laid room contents whole reach

    pub has_first : (k : ℕ) → HasFirst set offset raw l uuid k (put k) contents
    has_first k = record {
      words = patched_words l ok block long (byte_words (spelling_of (new_info l uuid uuid)) spells.fit) k set offset raw laid room contents whole reach;
      beside = patched_beside l ok block long (byte_words (spelling_of (new_info l uuid uuid)) spells.fit) k set offset raw laid room contents whole reach;
    }

    -- the rows of words with the first k words of the format
    abbrev rows : ℕ → List (List ℕ)
    rows k = map words_in (patched_contents (byte_patched (put k)) contents)

    abbrev old : Words
    old = words_of (over set offset raw (rows_of contents))

    old_settled : words_of (over set offset raw (rows_of contents)) ≡ settled (words_of (over set offset raw (rows_of contents))).kept
    old_settled = was_settled l ok block long (byte_words (spelling_of (new_info l uuid uuid)) spells.fit) 0 set offset raw laid room contents whole reach

    old_room : l.size / 8 ≤ length old.kept
    old_room = omega (arith, room, count_is (over set offset raw (rows_of contents)))

    rows_are : (k : ℕ) → rows_of (patched_contents (byte_patched (put k)) contents) ≡ map settled (rows k)
    rows_are k = sym (map-map settled words_in (patched_contents (byte_patched (put k)) contents))

    row_words : (k : ℕ) → words_of (over set offset raw (map settled (rows k))) ≡ settled (written_over old.kept (take k (format_writes 0 l uuid uuid)))
    row_words k = ap (λ ws. words_of (over set offset raw ws)) (sym (rows_are k)) ∙ (has_first k).words

    row_beside : (k : ℕ) → beside_of (over set offset raw (map settled (rows k))) ≡ beside_of (over set offset raw (rows_of contents))
    row_beside k = ap (λ ws. beside_of (over set offset raw ws)) (sym (rows_are k)) ∙ (has_first k).beside

    -- the modules have the words of all mappings
    has_rows : (k : ℕ) → HasRows set (map settled (rows k))
    has_rows k = record {
      rows = λ j d lt. settled_is_row (rows k) j d lt;
      reach = λ m among.
          let bytes = reach m among in
          let same = row_beside k in
          let count : length (map settled (rows k)) ≡ length (rows_of contents) = same_count set offset raw (map settled (rows k)) (rows_of contents) same in
          let lt : m.«module» < length (map settled (rows k)) = omega (arith, bytes.there, count) in
          let row = rows_beside set offset raw (map settled (rows k)) (rows_of contents) m.«module» (row_at set offset raw (map settled (rows k)) (rows_of contents) m.«module» same lt) in
          record { there = lt; reaches = omega (arith, bytes.reaches, row.long_kept) };
    }

    -- ---- after n steps

    module _ {C : Type 0} (picks : C → ℕ → Bool → C → Type 0) (fuse : Option ℕ) (n : ℕ) (few : n ≤ format_count l) (cut : allowed fuse (format_steps 0 l uuid uuid) ≡ take n (format_steps 0 l uuid uuid))
        (before after_it : C) where
      writes_long : length (format_writes 0 l uuid uuid) ≡ count_behind l + 512
      writes_long = areas_long l ok block long

      -- no word is pending
      even_left : is_pending n ≡ false → after_it ≡ before → FormatIsLeft picks (over set offset raw) l uuid (rows_of contents) fuse (rows (n / 2)) before after_it
      even_left even same =
          let twice : n ≡ 2 * (n / 2) = even_twice n even in
          record {
            made = map settled (rows (n / 2));
            formatted = is_formatted set offset raw (rows_of contents) (map settled (rows (n / 2))) fuse old_settled old_room
                (row_words (n / 2) ∙ sym (ap (after old) (cut ∙ ap (λ (m : ℕ). take m (format_steps 0 l uuid uuid)) twice)
                ∙ ap (λ (w : Words). after w (take (2 * (n / 2)) (format_steps 0 l uuid uuid))) old_settled ∙ even_after old.kept (format_writes 0 l uuid uuid) (n / 2)))
                (row_beside (n / 2));
            left_of = none_left (rows (n / 2));
            asked = subst (λ c. InTurn (LeavesWords picks) (map settled (rows (n / 2))) (rows (n / 2)) before c) (sym same) (none_asked picks (rows (n / 2)) before);
          }

      -- the next word is pending, and the chooser is asked about it
      module _ (count : ℕ) (odd : is_pending n ≡ true) (asks : AsksOne picks set offset l n count before after_it) where
        abbrev k : ℕ
        k = n / 2

        abbrev writes : List Write
        writes = format_writes 0 l uuid uuid

        abbrev i : ℕ
        i = (get_or (format_writes 0 l uuid uuid) (n / 2) no_write).place

        abbrev v : ℕ
        v = (get_or (format_writes 0 l uuid uuid) (n / 2) no_write).value

        abbrev which : ℕ
        which = asks.which

        abbrev word : ℕ
        word = asks.word

        odd_is : n % 2 ≡ 1
        odd_is = eqb-true (n % 2) 1 odd

        twice : n ≡ 2 * k + 1
        twice = omega (arith, odd_is)

        k_in : k < length writes
        k_in = omega (arith, few, odd_is, writes_long)

        i_is : i ≡ place_of_write l k
        i_is = write_place l ok block long k (omega (arith, k_in, writes_long))

        place_below : place_of_write l k < l.size / 8
        place_below = place_inside l ok k (omega (arith, k_in, writes_long))

        below : i < count_of (over set offset raw (map settled (rows k)))
        below = omega (arith, i_is, place_below, room)

        lies : LiesAt set (byte_at (over set offset raw (map settled (rows k))) i) which (8 * word)
        lies = subst (λ (m : ℕ). LiesAt set (length set * offset + 8 * m) which (8 * word)) (sym i_is) asks.lies

        bytes : HasBytes (map settled (rows k)) lies.0.«module» lies.0.start lies.0.size
        bytes = (has_rows k).reach lies.0 lies.1

        is_word : IsWordOf (over set offset raw (map settled (rows k))) i which word
        is_word = word_of_rows (over set offset raw (map settled (rows k))) i which word (has_rows k) below lies (omega (arith, bytes.there, lies.2.of))
            (subst (λ (m : ℕ). word < length (row_of (map settled (rows k)) m).kept) lies.2.of (omega (arith, bytes.reaches, lies.2.inside)))

        which_in : which < length (rows k)
        which_in = there set offset raw (rows k) laid (has_rows k) i which word v is_word

        word_in : word < length (get_or (rows k) which [])
        word_in = inside set offset raw (rows k) laid (has_rows k) i which word v is_word

        -- if it stays, it is one word more
        next_is : flushed set offset raw (rows k) laid (has_rows k) i which word v is_word ≡ rows (k + 1)
        next_is = settled_same (flushed set offset raw (rows k) laid (has_rows k) i which word v is_word) (rows (k + 1))
            (are_all set offset raw laid (map settled (flushed set offset raw (rows k) laid (has_rows k) i which word v is_word)) (map settled (rows (k + 1)))
            (flushed_words set offset raw (rows k) laid (has_rows k) i which word v is_word ∙ ap (λ (w : Words). stepped (stepped w (store i v)) (keep i)) (row_words k)
            ∙ one_write (written_over old.kept (take k writes)) i v ∙ ap settled (sym (next_written old.kept writes k k_in)) ∙ sym (row_words (k + 1)))
            (flushed_beside set offset raw (rows k) laid (has_rows k) i which word v is_word ∙ row_beside k ∙ sym (row_beside (k + 1))))

        by_answer : (b : Bool) → with_item (rows k) which (with_item (get_or (rows k) which []) word (cond b v (get_or (get_or (rows k) which []) word 0))) ≡ rows (words_left n b)
        by_answer true = next_is ∙ sym (ap rows (let e : words_left n true ≡ k + 1 = rw odd refl in e))
        by_answer false =
            ap (with_item (rows k) which) (set-get_or (get_or (rows k) which []) word 0) ∙ set-get_or (rows k) which [] ∙ sym (ap rows (let e : words_left n false ≡ k = rw odd refl in e))

        left_is : with_item (rows k) which (with_item (get_or (rows k) which []) word (cond asks.stays v (get_or (get_or (rows k) which []) word 0))) ≡ rows count
        left_is = by_answer asks.stays ∙ ap rows (sym asks.is)

        pub odd_left : FormatIsLeft picks (over set offset raw) l uuid (rows_of contents) fuse (rows count) before after_it
        odd_left = record {
          made = pending set offset raw (rows k) laid (has_rows k) i which word v is_word;
          formatted = is_formatted set offset raw (rows_of contents) (pending set offset raw (rows k) laid (has_rows k) i which word v is_word) fuse old_settled old_room
              (pending_words set offset raw (rows k) laid (has_rows k) i which word v is_word ∙ ap (λ (w : Words). stepped w (store i v)) (row_words k)
              ∙ sym (ap (after old) (cut ∙ ap (λ (m : ℕ). take m (format_steps 0 l uuid uuid)) twice)
              ∙ ap (λ (w : Words). after w (take (2 * k + 1) (format_steps 0 l uuid uuid))) old_settled ∙ odd_after old.kept writes k k_in))
              (pending_beside set offset raw (rows k) laid (has_rows k) i which word v is_word ∙ row_beside k);
          left_of = subst (λ (ls : List (List ℕ)). Each IsLeft (pending set offset raw (rows k) laid (has_rows k) i which word v is_word) ls) left_is
              (one_left picks (rows k) which word v asks.stays before after_it which_in word_in asks.picked);
          asked = subst (λ (ls : List (List ℕ)). InTurn (LeavesWords picks) (pending set offset raw (rows k) laid (has_rows k) i which word v is_word) ls before after_it) left_is
              (one_asked picks (rows k) which word v asks.stays before after_it which_in word_in asks.picked);
        }

      pub format_left : (count : ℕ) → AsksFor picks set offset l n count before after_it → FormatIsLeft picks (over set offset raw) l uuid (rows_of contents) fuse (rows count) before after_it
      format_left count asks = by (is_pending n) refl asks
        where
          by : (b : Bool) → is_pending n ≡ b → AsksBy picks set offset l n count before after_it b → FormatIsLeft picks (over set offset raw) l uuid (rows_of contents) fuse (rows count) before after_it
          by false even it = subst (λ (c : ℕ). FormatIsLeft picks (over set offset raw) l uuid (rows_of contents) fuse (rows c) before after_it) (sym it.0) (even_left even it.1)
          by true odd it = odd_left count odd it

-- ---- with the patch that was made

spells_of : (l : Layout) (uuid : List ℕ) → IsBlock l uuid (spelling_of (new_info l uuid uuid)) → Spells (spelling_of (new_info l uuid uuid)) (new_info l uuid uuid)
spells_of l uuid block = record { spelling = refl; reads = block.reads; count = block.count; fit = block.fit }

pub left_patched : {C : Type 0} (picks : C → ℕ → Bool → C → Type 0) (set : List Mapping) (offset raw : ℕ) (l : Layout) (uuid : List ℕ) (ok : IsLayout l) (room : l.size ≤ length set * raw) (k : ℕ) (p : BytePatch)
    → IsFormatPatch set offset raw l uuid k p → (contents : List (List ℕ)) → AreWhole contents → ReachEnds set (rows_of contents) → (fuse : Option ℕ) (n : ℕ) → n ≤ format_count l
    → allowed fuse (format_steps 0 l uuid uuid) ≡ take n (format_steps 0 l uuid uuid) → (before after_it : C) → AsksFor picks set offset l n k before after_it
    → FormatIsLeft picks (over set offset raw) l uuid (rows_of contents) fuse (map words_in (patched_contents (byte_patched p) contents)) before after_it
left_patched picks set offset raw l uuid ok room k p puts contents whole reach fuse n few cut before after_it asks =
    subst (λ (q : BytePatch). FormatIsLeft picks (over set offset raw) l uuid (rows_of contents) fuse (map words_in (patched_contents (byte_patched q) contents)) before after_it) (sym puts.is)
    (format_left l uuid ok puts.block.uuid_is (spells_of l uuid puts.block) set offset raw puts.laid room contents whole reach picks fuse n few cut before after_it k asks)

-- ---- the patch that is made

take_min : (k n : ℕ) (xs : List ℕ) → length xs ≡ n → take (min k n) xs ≡ take k xs
take_min k n xs long = elim (cases_lt k n) [
  | inl less ↦ ap (λ (m : ℕ). take m xs) (let e : min k n ≡ k = omega (arith, less) in e)
  | inr more ↦ take_all (min k n) xs (omega (arith, more, long)) ∙ sym (take_all k xs (omega (arith, more, long)))
]

module _ (l : Layout) (uuid bytes : List ℕ) (ok : IsLayout l) (block : IsBlock l uuid bytes) where
  block_of : IsBlock l uuid (spelling_of (new_info l uuid uuid))
  block_of = subst (λ (bs : List ℕ). IsBlock l uuid bs) block.spelling block

  words_long : length (words_in bytes) ≡ 512
  words_long = length_words bytes ∙ ap (λ (n : ℕ). n / 8) block.count

  pub runs_are : (k m d behind_count : ℕ) → behind_count ≡ count_behind l → m ≡ min k behind_count → d ≡ k - behind_count → (behind front : List ℕ) → behind ≡ bytes_of (take m (words_behind l (words_in bytes)))
      → front ≡ bytes_of (take d (words_in bytes)) → ◌≡◌ {A = List Run} (record { first = l.map_off; bytes = behind } ∷ record { first = 0; bytes = front } ∷ []) (format_runs k l (words_in (spelling_of (new_info l uuid uuid))))
  runs_are k m d behind_count count m_is d_is behind front behind_is front_is =
      let first : behind ≡ bytes_of (take k (words_behind l (words_in bytes))) =
      behind_is ∙ ap bytes_of (ap (λ (n : ℕ). take n (words_behind l (words_in bytes))) (m_is ∙ ap (min k) count) ∙ take_min k (count_behind l) (words_behind l (words_in bytes)) (behind_long l ok (words_in bytes) words_long)) in
      let last : front ≡ bytes_of (take (k - count_behind l) (words_in bytes)) = front_is ∙ ap (λ (n : ℕ). bytes_of (take n (words_in bytes))) (d_is ∙ ap (λ (n : ℕ). k - n) count) in
      (λ i. record { first = l.map_off; bytes = first i } ∷ record { first = 0; bytes = last i } ∷ []) ∙ ap (λ (bs : List ℕ). format_runs k l (words_in bs)) block.spelling

  pub is_patch : (set : List Mapping) (offset raw k : ℕ) (p : BytePatch) (runs : List Run) → p ≡ record { set = set; offset = offset; raw = raw; bytes = Runs runs } → runs ≡ format_runs k l (words_in (spelling_of (new_info l uuid uuid)))
      → ((modules : List Words) → IsLaid (over set offset raw modules)) → l.size ≤ length set * raw → IsFormatPatch set offset raw l uuid k p
  is_patch set offset raw k p runs p_is runs_is laid room =
      let is : p ≡ record { set = set; offset = offset; raw = raw; bytes = Runs (format_runs k l (words_in (spelling_of (new_info l uuid uuid)))) } =
      p_is ∙ ap (λ (rs : List Run). record { set = set; offset = offset; raw = raw; bytes = Runs rs }) runs_is in
      record {
        is = is;
        block = block_of;
        laid = laid;
        puts = λ contents whole reach. subst (λ (q : BytePatch). HasFirst set offset raw l uuid k q contents) (sym is)
            (has_first l uuid ok block_of.uuid_is (spells_of l uuid block_of) set offset raw laid room contents whole reach k);
      }
