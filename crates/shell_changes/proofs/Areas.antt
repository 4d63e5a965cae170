-- The label areas of a loaded set: what they show, and what is saved of them.
use Rattle.std.proofs.Common.{◌≡◌, ℕ, zero, suc, ◌*◌, ◌<◌, Bool, true, false, List, [], ◌∷◌, length, map, get_or, Option, Some, None, Result, Ok, Err, refl, sym, ap, ◌∙◌, subst, arith}
use Rattle.std.proofs.Math.ListN.{get_or-map}
use Rattle.std.specs.Prelude.{slice_index_or}
use Rattle.std.specs.Option.{option_map}
use Rattle.std.specs.List.{All}
use Rattle.std.proofs.lemmas.Bool.{false≢true}
use Rattle.std.proofs.lemmas.Option.{none-some}
use Rattle.std.proofs.lemmas.List.Elements.{All-head, All-tail}
use Rattle.shell_reports.proofs.Arenas.{words_back}
use Rattle.nvd_media.specs.declared.object.Object.TheVariants as object
use Rattle.nvd_media.specs.Images.{Images, IsSameSet}
use Rattle.cut_words.specs.Words.{Words, IsLeft, settled}
use Rattle.cut_words.specs.WordBytes.{bytes_of, words_in}
use Rattle.cut_words.proofs.Bytes.{length_bytes}
use Rattle.label_index.specs.declared.index.IndexBlock.{IndexBlock}
use Rattle.label_area.specs.declared.fault.AreaFault.{AreaFault}
use Rattle.label_area.specs.Area.{block_in}
use Rattle.label_area.specs.Opened.{opened_by}
use Rattle.power_cut.specs.Left.{Each, IsLeftOf}
use Rattle.namespace_areas.specs.declared.area.Area.{Area}
use Rattle.namespace_areas.specs.declared.area.Area.TheVariants.{Absent, Refused, Ready}
use Rattle.namespace_areas.specs.Seen.{areas_seen, area_shown, areas_shown, shown_by, words_of, AreLeft}
use Rattle.namespace_areas.specs.Opening.{as_area, opened_as}
use Rattle.namespace_areas.specs.Steps.{rows_of as kept_rows}
use Rattle.namespace_areas.specs.Went.{unready, size_of}
use Rattle.namespace_areas.proofs.Seen.{left_kept}
use Rattle.namespace_areas.proofs.Opening.{row_of, seen_all}
use Rattle.image_set.specs.Load.{bytes_kept}
use Rattle.image_set.specs.Changed.{objects_of}
use Rattle.image_set.specs.declared.changing.OutlineRest.{OutlineRest}
use Rattle.image_set.specs.declared.outline.Outline.{Outline}
use Rattle.image_set.specs.Outline.{image_set_with}
use Rattle.image_set.specs.Sound.{IsArea}
use Rattle.nfit_reader.specs.declared.table.Nfit.{Nfit}
use Rattle.sector_namespaces.specs.View.{rows_of}
use Rattle.sector_namespaces.specs.Creation.{AreSettled}
use Rattle.image_set.specs.Load.{ImageSet}
use Rattle.shell_changes.specs.Areas.{area_by, area_in, areas_in, rows_in, with_labels, HasRows}
use Rattle.shell_changes.specs.Reading.{set_parted}
use Rattle.shell_changes.specs.Rest.{objects_by, objects_for, words_for}
use Rattle.shell_changes.specs.Work.{with_contents}

-- ---- what areas show, by their bytes

by_block : (values : List ℕ) (b : Result IndexBlock AreaFault) → area_by (bytes_of values) b ≡ shown_by values b
by_block values (Ok block) = refl
by_block values (Err fault) = refl

row_in : (row : Option (List ℕ)) → area_in (option_map bytes_of row) ≡ area_shown row
row_in None = refl
row_in (Some values) = by_block values (block_in (bytes_of values))

pub rows_shown : (rows : List (Option (List ℕ))) → areas_in (map (option_map bytes_of) rows) ≡ areas_shown rows
rows_shown [] = refl
rows_shown (row ∷ rows) = rw (row_in row, rows_shown rows) refl

kept_bytes : (words : Option Words) → option_map bytes_kept words ≡ option_map bytes_of (row_of words)
kept_bytes None = refl
kept_bytes (Some w) = refl

all_kept : (labels : List (Option Words)) → map (option_map bytes_kept) labels ≡ map (option_map bytes_of) (map row_of labels)
all_kept [] = refl
all_kept (words ∷ labels) = rw (kept_bytes words, all_kept labels) refl

-- areas that were opened show what the bytes that were loaded show
pub opened_in : (labels : List (Option Words)) → areas_seen (map opened_as labels) ≡ areas_in (map (option_map bytes_kept) labels)
opened_in labels = seen_all labels ∙ sym (ap areas_in (all_kept labels) ∙ rows_shown (map row_of labels))

-- ---- the words of areas

row_back : (words : Option Words) → IsArea words → option_map words_in (option_map bytes_kept words) ≡ row_of words
row_back None area = refl
row_back (Some w) area = ap (λ (v : List ℕ). Some v) (words_back w.kept (area.fit w refl))

rows_back : (labels : List (Option Words)) → All IsArea labels → map (option_map words_in) (map (option_map bytes_kept) labels) ≡ map row_of labels
rows_back [] all = refl
rows_back (w ∷ labels) all =
    ap (λ row. row ∷ map (option_map words_in) (map (option_map bytes_kept) labels)) (row_back w (All-head IsArea w labels all))
    ∙ ap (λ rows. row_of w ∷ rows) (rows_back labels (All-tail IsArea w labels all))

-- the words of a loaded set's areas are those that its bytes spell
pub rows_are : (set : ImageSet) (labels : List (Option Words)) → set.labels ≡ map (option_map bytes_kept) labels → All IsArea labels → rows_in set ≡ map row_of labels
rows_are set labels is all = ap (map (option_map words_in)) is ∙ rows_back labels all

opened_row : (values : List ℕ) (b : Result IndexBlock AreaFault) → option_map (λ w. w.kept) (words_of (as_area (opened_by values b))) ≡ Some values
opened_row values (Ok block) = refl
opened_row values (Err fault) = refl

row_opened : (words : Option Words) → option_map (λ w. w.kept) (words_of (opened_as words)) ≡ row_of words
row_opened None = refl
row_opened (Some w) = opened_row w.kept (block_in (bytes_of w.kept))

-- areas that were opened have them
pub rows_opened : (labels : List (Option Words)) → kept_rows (map opened_as labels) ≡ map row_of labels
rows_opened [] = refl
rows_opened (w ∷ labels) = ap (λ row. row ∷ kept_rows (map opened_as labels)) (row_opened w) ∙ ap (λ rows. row_of w ∷ rows) (rows_opened labels)

-- ---- one area after a command

is_absent : (n : Area) → unready n ≡ Some Absent → n ≡ Absent
is_absent Absent e = refl
is_absent (Refused r) e = absurd (let e' = e in cc)
is_absent (Ready a) e = absurd (none-some Absent e)

-- an area that isn't read is left as it was
unread_by : (words : Words) (b : Result IndexBlock AreaFault) (n : Area) (row : Option (List ℕ)) → unready n ≡ unready (as_area (opened_by words.kept b)) → IsLeftOf (words_of n) row
    → area_by (bytes_of words.kept) b ≡ None → option_map bytes_of row ≡ Some (bytes_kept words)
unread_by words (Ok block) n row same left none = absurd (none-some _ (sym none))
unread_by words (Err fault) Absent row same left none = absurd (let e = same in cc)
unread_by words (Err fault) (Ready a) row same left none = absurd (none-some _ same)
unread_by words (Err fault) (Refused r) row same left none =
    let is : r.words ≡ settled words.kept = (let e = same in cc) in
    let kept : left.0 ≡ r.words.kept = left_kept r.words left.0 (is ∙ ap (λ (w : Words). settled w.kept) (sym is)) left.2 in
    ap (option_map bytes_of) left.1 ∙ ap (λ v. Some (bytes_of v)) (kept ∙ ap (λ (w : Words). w.kept) is)

unread_one : (words : Option Words) (n : Area) (row : Option (List ℕ)) → unready n ≡ unready (opened_as words) → IsLeftOf (words_of n) row
    → area_in (option_map bytes_kept words) ≡ None → option_map bytes_of row ≡ option_map bytes_kept words
unread_one None n row same left none = let is = is_absent n same in ap (option_map bytes_of) (subst (λ (a : Area). IsLeftOf (words_of a) row) is left)
unread_one (Some w) n row same left none = unread_by w (block_in (bytes_of w.kept)) n row same left none

-- and each keeps its size
opened_size : (words : Words) (b : Result IndexBlock AreaFault) → size_of (as_area (opened_by words.kept b)) ≡ length words.kept
opened_size words (Ok block) = refl
opened_size words (Err fault) = refl

not_absent : (words : Words) (b : Result IndexBlock AreaFault) → unready Absent ≡ unready (as_area (opened_by words.kept b)) → ⊥
not_absent words (Ok block) e = none-some Absent (sym e)
not_absent words (Err fault) e = let e' = e in cc

long_row : (n : ℕ) (left : List ℕ) (words : Words) (row : Option (List ℕ)) → row ≡ Some left → IsLeft words left → length words.kept ≡ n → option_map length (option_map bytes_of row) ≡ Some (8 * n)
long_row n left words row is of_it size = ap (λ r. option_map length (option_map bytes_of r)) is ∙ ap (λ (k : ℕ). Some k) (length_bytes left ∙ ap (λ k. 8 * k) (of_it.same_length ∙ size))

sized_some : (words : Words) (n : Area) (row : Option (List ℕ)) → unready n ≡ unready (opened_as (Some words)) → size_of n ≡ size_of (opened_as (Some words)) → IsLeftOf (words_of n) row
    → option_map length (option_map bytes_of row) ≡ Some (length (bytes_kept words))
sized_some words Absent row same size left = absurd (not_absent words (block_in (bytes_of words.kept)) same)
sized_some words (Refused r) row same size left =
    long_row (length words.kept) left.0 r.words row left.1 left.2 (size ∙ opened_size words (block_in (bytes_of words.kept))) ∙ ap (λ (k : ℕ). Some k) (sym (length_bytes words.kept))
sized_some words (Ready a) row same size left =
    long_row (length words.kept) left.0 a.words row left.1 left.2 (size ∙ opened_size words (block_in (bytes_of words.kept))) ∙ ap (λ (k : ℕ). Some k) (sym (length_bytes words.kept))

sized_one : (words : Option Words) (n : Area) (row : Option (List ℕ)) → unready n ≡ unready (opened_as words) → size_of n ≡ size_of (opened_as words) → IsLeftOf (words_of n) row
    → option_map length (option_map bytes_of row) ≡ option_map length (option_map bytes_kept words)
sized_one None n row same size left = let is = is_absent n same in ap (λ r. option_map length (option_map bytes_of r)) (subst (λ (a : Area). IsLeftOf (words_of a) row) is left)
sized_one (Some w) n row same size left = sized_some w n row same size left

-- ---- all areas

first_same : {A : Type 0} (x y : A) (xs ys : List A) → x ∷ xs ≡ y ∷ ys → x ≡ y
first_same x y xs ys e = let e' = e in cc

rest_same : {A : Type 0} (x y : A) (xs ys : List A) → x ∷ xs ≡ y ∷ ys → xs ≡ ys
rest_same x y xs ys e = let e' = e in cc

pub unread_all : (labels : List (Option Words)) (news : List Area) (rows : List (Option (List ℕ))) → map unready news ≡ map unready (map opened_as labels) → AreLeft news rows
    → (m : ℕ) → area_in (get_or (map (option_map bytes_kept) labels) m None) ≡ None → get_or (map (option_map bytes_of) rows) m None ≡ get_or (map (option_map bytes_kept) labels) m None
unread_all [] [] rows same left m none = ap (λ rs. get_or (map (option_map bytes_of) rs) m None) left
unread_all [] (n ∷ news) rows same left m none = absurd (let e = same in cc)
unread_all (w ∷ labels) [] rows same left m none = absurd (let e = same in cc)
unread_all (w ∷ labels) (n ∷ news) rows same left zero none =
    ap (λ rs. get_or (map (option_map bytes_of) rs) zero None) left.2 ∙ unread_one w n left.0 (first_same (unready n) (unready (opened_as w)) (map unready news) (map unready (map opened_as labels)) same) left.3 none
unread_all (w ∷ labels) (n ∷ news) rows same left (suc m) none =
    ap (λ rs. get_or (map (option_map bytes_of) rs) (suc m) None) left.2 ∙ unread_all labels news left.1 (rest_same (unready n) (unready (opened_as w)) (map unready news) (map unready (map opened_as labels)) same) left.4 m none

pub sized_all : (labels : List (Option Words)) (news : List Area) (rows : List (Option (List ℕ))) → map unready news ≡ map unready (map opened_as labels) → map size_of news ≡ map size_of (map opened_as labels)
    → AreLeft news rows → map (option_map length) (map (option_map bytes_of) rows) ≡ map (option_map length) (map (option_map bytes_kept) labels)
sized_all [] [] rows same sizes left = ap (λ rs. map (option_map length) (map (option_map bytes_of) rs)) left
sized_all [] (n ∷ news) rows same sizes left = absurd (let e = same in cc)
sized_all (w ∷ labels) [] rows same sizes left = absurd (let e = same in cc)
sized_all (w ∷ labels) (n ∷ news) rows same sizes left =
    let here = sized_one w n left.0 (first_same (unready n) (unready (opened_as w)) (map unready news) (map unready (map opened_as labels)) same) (first_same (size_of n) (size_of (opened_as w)) (map size_of news) (map size_of (map opened_as labels)) sizes) left.3 in
    let on = sized_all labels news left.1 (rest_same (unready n) (unready (opened_as w)) (map unready news) (map unready (map opened_as labels)) same) (rest_same (size_of n) (size_of (opened_as w)) (map size_of news) (map size_of (map opened_as labels)) sizes) left.4 in
    ap (λ rs. map (option_map length) (map (option_map bytes_of) rs)) left.2 ∙ ap (λ x. x ∷ map (option_map length) (map (option_map bytes_of) left.1)) here
    ∙ ap (λ xs. option_map length (option_map bytes_kept w) ∷ xs) on

-- ---- the set that is saved

-- an image set whose label areas are these words, and whose contents are those if they are in memory, and how it is saved with others
pub record IsSavedAs (set : ImageSet) (words : List (Option Words)) (contents : List Words) (objects : List (Option (List ℕ)) → List (List ℕ) → Images) : Type 0 where
  pub labels : set.labels ≡ map (option_map bytes_kept) words
  pub same : (rows : List (Option (List ℕ))) (left : List (List ℕ)) → Each IsLeft contents left → IsSameSet (objects rows left) (objects_of (with_labels set (map (option_map bytes_of) rows)))

-- and how it is saved with other contents
pub record HasWhole (set : ImageSet) (contents : List Words) (objects : List (Option (List ℕ)) → List (List ℕ) → Images) : Type 0 where
  pub are : rows_of set.contents ≡ contents
  pub settled : AreSettled contents
  pub same : (rows : List (Option (List ℕ))) (left : List (List ℕ)) → IsSameSet (objects rows left) (objects_of (with_labels (with_contents set left) (map (option_map bytes_of) rows)))

-- what an outline has beside its label areas
abbrev pub outline_rest : Outline → OutlineRest
outline_rest outline = record { nfit_bytes = outline.nfit_bytes; sizes = outline.sizes; bad = outline.bad }

same_outline : (outline : Outline) (contents : List (List ℕ)) (rows : List (Option (List ℕ)))
    → IsSameSet (objects_by (outline_rest outline) contents rows) (objects_of (with_labels (image_set_with outline contents) (map (option_map bytes_of) rows)))
unfolding objects_of image_set_with
same_outline outline contents rows object.Mark = refl
same_outline outline contents rows object.Nfit = refl
same_outline outline contents rows (object.Labels m) = sym (get_or-map (option_map bytes_of) rows m None)
same_outline outline contents rows (object.Contents m) = refl
same_outline outline contents rows (object.BadRanges m) = refl

pub outline_labels : (outline : Outline) (contents : List (List ℕ)) → (image_set_with outline contents).labels ≡ map (option_map bytes_kept) outline.labels
unfolding image_set_with
outline_labels outline contents = refl

-- ---- a set in parts

abbrev pub outline_parted : Nfit → List (Option Words) → OutlineRest → Outline
outline_parted nfit labels rest = record { nfit = nfit; nfit_bytes = rest.nfit_bytes; labels = labels; sizes = rest.sizes; bad = rest.bad }

pub parted_labels : (nfit : Nfit) (labels : List (Option Words)) (rest : OutlineRest) (contents : List (List ℕ)) → (set_parted nfit labels rest contents).labels ≡ map (option_map bytes_kept) labels
parted_labels nfit labels rest contents = outline_labels (outline_parted nfit labels rest) contents

pub parted_nfit : (nfit : Nfit) (labels : List (Option Words)) (rest : OutlineRest) (contents : List (List ℕ)) → (set_parted nfit labels rest contents).nfit ≡ nfit
unfolding image_set_with
parted_nfit nfit labels rest contents = refl

-- with the contents that were read
pub parted_kept : (nfit : Nfit) (labels : List (Option Words)) (rest : OutlineRest) (contents : List (List ℕ)) → IsSavedAs (set_parted nfit labels rest contents) labels [] (λ rows left. objects_by rest contents rows)
parted_kept nfit labels rest contents = record {
  labels = outline_labels (outline_parted nfit labels rest) contents;
  same = λ rows left each. same_outline (outline_parted nfit labels rest) contents rows;
}

pub parted_plain : (nfit : Nfit) (labels : List (Option Words)) (rest : OutlineRest) (contents : List (List ℕ)) (makes : Bool) → makes ≡ false
    → IsSavedAs (set_parted nfit labels rest contents) labels (words_for makes contents) (objects_for makes rest contents)
parted_plain nfit labels rest contents true plain = absurd (false≢true (sym plain))
parted_plain nfit labels rest contents false plain = parted_kept nfit labels rest contents

-- with other contents
settled_rows : (contents : List (List ℕ)) → AreSettled (rows_of contents)
settled_rows contents = λ k d lt. by contents k d lt
  where
    by : (cs : List (List ℕ)) (k : ℕ) (d : Words) → k < length (rows_of cs) → get_or (rows_of cs) k d ≡ settled (get_or (rows_of cs) k d).kept
    by [] k d lt = absurd (omega arith)
    by (c ∷ cs) zero d lt = refl
    by (c ∷ cs) (suc k) d lt = by cs k d (omega (arith, lt))

same_formatted : (outline : Outline) (contents : List (List ℕ)) (rows : List (Option (List ℕ))) (left : List (List ℕ))
    → IsSameSet (objects_by (outline_rest outline) (map bytes_of left) rows) (objects_of (with_labels (with_contents (image_set_with outline contents) left) (map (option_map bytes_of) rows)))
unfolding objects_of image_set_with
same_formatted outline contents rows left object.Mark = refl
same_formatted outline contents rows left object.Nfit = refl
same_formatted outline contents rows left (object.Labels m) = sym (get_or-map (option_map bytes_of) rows m None)
same_formatted outline contents rows left (object.Contents m) = refl
same_formatted outline contents rows left (object.BadRanges m) = refl

read_contents : (outline : Outline) (contents : List (List ℕ)) → (image_set_with outline contents).contents ≡ contents
unfolding image_set_with
read_contents outline contents = refl

pub parted_whole : (nfit : Nfit) (labels : List (Option Words)) (rest : OutlineRest) (contents : List (List ℕ)) (makes : Bool) → makes ≡ true
    → HasWhole (set_parted nfit labels rest contents) (words_for makes contents) (objects_for makes rest contents)
parted_whole nfit labels rest contents false whole = absurd (false≢true whole)
parted_whole nfit labels rest contents true whole = record {
  are = ap rows_of (read_contents (outline_parted nfit labels rest) contents);
  settled = settled_rows contents;
  same = same_formatted (outline_parted nfit labels rest) contents;
}

-- a set with these label areas, of which one that wasn't ready is as it was
pub has_rows : (now : ImageSet) (words : List (Option Words)) → now.labels ≡ map (option_map bytes_kept) words → (news : List Area) (rows : List (Option (List ℕ))) (saved : Images) → map unready news ≡ map unready (map opened_as words)
    → map size_of news ≡ map size_of (map opened_as words) → AreLeft news rows → IsSameSet saved (objects_of (with_labels now (map (option_map bytes_of) rows))) → HasRows now rows saved
has_rows now words labels news rows saved same sizes left all = record {
  unread = λ m none.
      unread_all words news rows same left m (ap (λ ls. area_in (slice_index_or ls m None)) (sym labels) ∙ none) ∙ ap (λ ls. slice_index_or ls m None) (sym labels);
  sizes = sized_all words news rows same sizes left ∙ ap (map (option_map length)) (sym labels);
  objects = all;
}
