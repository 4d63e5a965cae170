-- What a format makes of the words of all modules.
use Rattle.std.proofs.Common.{◌≡◌, ℕ, ◌*◌, Bool, zero, suc, ◌<◌, Err, List, length, Option, cond, get_or, None, Ok, Result, refl, sym, ap, ◌∙◌, subst, arith}
use Rattle.std.specs.Prelude.{map, is_ok, OnOk, drop}
use Rattle.std.specs.List.{range_with_len}
use Rattle.std.proofs.lemmas.Bool.{false≢true}
use Rattle.std.proofs.lemmas.List.{ext_get_or, get_or-map, length-map, length-replicate}
use Rattle.cut_words.specs.Words.{Words, settled}
use Rattle.nfit_reader.specs.declared.table.Mapping.{Mapping}
use Rattle.cut_words.specs.Fuses.{Makes, burnt, lasts}
use Rattle.cut_words.specs.declared.fuse.PowerCut.{PowerCut}
use Rattle.arena_layout.specs.declared.layout.Layout.{Layout}
use Rattle.arena_open.specs.Writes.{IsSettled, written_over}
use Rattle.arena_open.specs.Format.{FormatCounts, IsNewArena, KeepsOutside, format_steps, format_writes}
use Rattle.power_cut.specs.Namespace.{Namespace, IsRow, beside_of, is_inside, over, row_beside, row_of, words_of}
use Rattle.power_cut.specs.Placed.{IsBesideSame}
use Rattle.power_cut.proofs.Spread.{at_range, blank, length_range}
use Rattle.sector_namespaces.specs.Creation.{IsFormatted, IsFormattedIn}

-- none pending: as many values stored since as words
pub settled_row : (w : Words) → w ≡ settled w.kept → IsRow w
settled_row w e = ap (λ (v : Words). length v.stored) e ∙ length-replicate (length w.kept) None

-- words that are settled at some values
pub settled_at : (w : Words) (values : List ℕ) → w ≡ settled values → IsSettled w
settled_at w values e = subst (λ (v : Words). v ≡ settled v.kept) (sym e) refl

-- a row that stays where it lies
pub in_place : (n : Namespace) (set : List Mapping) (offset raw : ℕ) (rows : List Words) → IsBesideSame (over set offset raw rows) n → n ≡ over set offset raw n.modules
in_place n set offset raw rows same = λ i. record { set = same.set i; offset = same.offset i; raw = same.raw i; modules = n.modules }

-- ---- how many words each module has

abbrev count_in : Words → ℕ
count_in w = length w.kept

row_count : (n : Namespace) (which : ℕ) → count_in (row_beside n which) ≡ count_in (row_of n.modules which)
row_count n which = length_range (λ k. cond (is_inside n which (8 * k)) 0 (get_or (row_of n.modules which).kept k 0)) (length (row_of n.modules which).kept)

beside_counts : (n : Namespace) → map count_in (beside_of n) ≡ map count_in n.modules
unfolding beside_of
beside_counts n =
    let rows = map (row_beside n) (range_with_len 0 (length n.modules)) in
    let long : length (map count_in rows) ≡ length (map count_in n.modules) = length-map rows count_in ∙ length_range (row_beside n) (length n.modules) ∙ sym (length-map n.modules count_in) in
    ext_get_or 0 (map count_in rows) (map count_in n.modules) long
    (λ k lt.
    let in_rows : k < length rows = omega (arith, lt, length-map rows count_in) in
    let below : k < length n.modules = omega (arith, in_rows, length_range (row_beside n) (length n.modules)) in
    get_or-map count_in rows k blank 0 in_rows ∙ ap count_in (at_range (row_beside n) (length n.modules) k blank below) ∙ row_count n k ∙ sym (get_or-map count_in n.modules k blank 0 below))

pub same_counts : (set : List Mapping) (offset raw : ℕ) (rows rows' : List Words) → beside_of (over set offset raw rows') ≡ beside_of (over set offset raw rows) → map (λ (w : Words). length w.kept) rows' ≡ map (λ (w : Words). length w.kept) rows
same_counts set offset raw rows rows' e = sym (beside_counts (over set offset raw rows')) ∙ ap (λ ws. map count_in ws) e ∙ beside_counts (over set offset raw rows)

-- ---- a format

pub format_is : (at : ℕ) (l : Layout) (uuid : List ℕ) (old new : Words) (fuse left : Option ℕ) (result : Result (Unit {0}) PowerCut) → at ≡ 0 → length uuid ≡ 16 → FormatCounts
    → Makes old new fuse left (format_steps at l uuid uuid) (is_ok result) → KeepsOutside at l old new → OnOk result (new ≡ settled (written_over old.kept (format_writes at l uuid uuid)))
    → OnOk result (IsNewArena l uuid uuid (drop at new.kept)) → IsFormatted l uuid old new fuse left (is_ok result)
format_is (suc k) l uuid old new fuse left result first long counts made outside settles opens = absurd (omega (arith, first))
format_is zero l uuid old new fuse left (Ok u) first long counts made outside settles opens = record {
  made = made;
  whole_is = made.all_made ∙ ap (λ (n : ℕ). lasts fuse n) (counts 0 l uuid uuid long long);
  left_is = made.fuse_left ∙ ap (λ (n : ℕ). burnt fuse n) (counts 0 l uuid uuid long long);
  outside = outside;
  settles = λ whole. settled_at new (written_over old.kept (format_writes 0 l uuid uuid)) settles;
  opens = λ whole. opens;
}
format_is zero l uuid old new fuse left (Err e) first long counts made outside settles opens = record {
  made = made;
  whole_is = made.all_made ∙ ap (λ (n : ℕ). lasts fuse n) (counts 0 l uuid uuid long long);
  left_is = made.fuse_left ∙ ap (λ (n : ℕ). burnt fuse n) (counts 0 l uuid uuid long long);
  outside = outside;
  settles = λ whole. absurd (false≢true whole);
  opens = λ whole. absurd (false≢true whole);
}

-- in the place of a row that stays where it lies
pub format_in : (set : List Mapping) (offset raw : ℕ) (l : Layout) (uuid : List ℕ) (n m : Namespace) (old new : List Words) (fuse left : Option ℕ) (whole : Bool)
    → n ≡ over set offset raw old → m ≡ over set offset raw new → beside_of m ≡ beside_of n → IsFormatted l uuid (words_of n) (words_of m) fuse left whole
    → IsFormattedIn (over set offset raw) l uuid old new fuse left whole
format_in set offset raw l uuid n m old new fuse left whole n_is m_is beside formatted =
    let same : beside_of (over set offset raw new) ≡ beside_of (over set offset raw old) = ap (λ (k : Namespace). beside_of k) (sym m_is) ∙ beside ∙ ap (λ (k : Namespace). beside_of k) n_is in
    record {
      formatted = subst (λ (k : Namespace). IsFormatted l uuid (words_of k) (words_of (over set offset raw new)) fuse left whole) n_is
          (subst (λ (k : Namespace). IsFormatted l uuid (words_of n) (words_of k) fuse left whole) m_is formatted);
      beside = same;
      counts = same_counts set offset raw old new same;
    }
