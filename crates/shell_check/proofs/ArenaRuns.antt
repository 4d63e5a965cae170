-- The runs that repair an arena make the words that it has after a repair.
use Rattle.std.proofs.Common.{◌≡◌, ℕ, ◌+◌, ◌*◌, ◌/◌, ◌≤◌, Bool, List, [], ◌∷◌, ◌++◌, length, take, drop, Option, Some, None, refl, sym, ap, ◌∙◌, subst, arith}
use Rattle.std.specs.Prelude.{IfSome}
use Rattle.std.specs.Option.{option_map}
use Rattle.std.proofs.lemmas.List.{drop_at, length-drop, length-take-le, take-append-drop, take_at}
use Rattle.std.proofs.lemmas.List.Elements.{All-append, All-cons, All-nil}
use Rattle.nvd_words.specs.Bytes.{AreBytes}
use Rattle.cut_words.specs.WordBytes.{words_in}
use Rattle.arena_layout.specs.declared.layout.Layout.{Layout}
use Rattle.arena_layout.specs.declared.info.Info.{Info}
use Rattle.arena_layout.specs.Layout.{IsLayout}
use Rattle.arena_open.specs.Reading.{groups_in}
use Rattle.arena_open.proofs.Bytes.{length_words}
use Rattle.arena_check.specs.declared.info.InfoSource.{InfoSource}
use Rattle.arena_check.specs.declared.info.InfoSource.TheVariants as source
use Rattle.arena_check.specs.Check.{in_arena, info_used, source_of}
use Rattle.arena_repair.specs.declared.page.PageCopy.{PageCopy}
use Rattle.arena_repair.specs.Repair.{map_repair, page_repair, repaired_by, repaired_with, with_entries, with_map, with_page}
use Rattle.arena_repair.proofs.Inside.{Kept, kept}
use Rattle.arena_repair.proofs.Repaired.{FitsMap, fits_by}
use Rattle.namespace_bytes.specs.declared.runs.Run.{Run}
use Rattle.namespace_bytes.specs.Runs.{run_byte, runs_byte}
use Rattle.namespace_bytes.proofs.ByteWords.{changed, length_changed}
use Rattle.namespace_bytes.proofs.RunWords.{all_changed, more_changed, none_changed}
use Rattle.namespace_words.specs.Source.{IsMapOfBytes}
use Rattle.namespace_words.proofs.MadeMoves.{AreRuns, bytes_stay}
use Rattle.shell_check.specs.declared.arena.MapPut.{MapPut}
use Rattle.shell_check.specs.Reading.{ArePageRuns, AreRepairs, map_by, map_run, map_runs, put_of}
use Rattle.shell_check.proofs.RunPuts.{map_bytes_small, map_put, page_put}

-- What bytes have with some runs, of which the words from `at` on are these now.
pub record Makes (row : List ℕ) (at : ℕ) (runs : List Run) (now : List ℕ) : Type 0 where
  pub words_are : words_in (changed (runs_byte runs) row) ≡ take at (words_in row) ++ now
  pub small : AreRuns runs

one_run : (run : Run) (row : List ℕ) → changed (runs_byte (run ∷ [])) row ≡ changed (run_byte run) row
one_run run row = more_changed run [] row ∙ none_changed (changed (run_byte run) row)

one_small : (run : Run) → AreBytes run.bytes → AreRuns (run ∷ [])
one_small run small = All-cons (λ (r : Run). AreBytes r.bytes) run [] small (All-nil (λ (r : Run). AreBytes r.bytes))

module _ (row : List ℕ) (at : ℕ) (there : at ≤ length (words_in row)) where
  abbrev here : List ℕ
  here = drop at (words_in row)

  none_made : Makes row at [] here
  none_made = record {
    words_are = ap words_in (none_changed row) ∙ sym (take-append-drop at (words_in row));
    small = All-nil (λ (r : Run). AreBytes r.bytes);
  }

  -- a page
  page_made : (page : Option PageCopy) (runs : List Run) → ArePageRuns at here page runs → IfSome page (λ copy. copy.to + 512 ≤ length here) → Makes row at runs (with_page here page)
  page_made None runs none fits = subst (λ (rs : List Run). Makes row at rs here) (sym none) none_made
  page_made (Some copy) runs are fits =
      let run = are.0 in
      let r = are.1 in
      let first : run.first ≡ 8 * (at + copy.to) = r.first in
      let put : words_in (changed (run_byte (record { first = 8 * (at + copy.to); bytes = run.bytes })) row) ≡ take at (words_in row) ++ with_page here (Some copy) =
      page_put row run.bytes at copy.from copy.to r.long r.words_are (omega (arith, fits, length-drop at (words_in row), there)) in
      subst (λ (rs : List Run). Makes row at rs (with_page here (Some copy))) (sym are.2) (record {
        words_are = ap words_in (one_run run row) ∙ ap (λ (n : ℕ). words_in (changed (run_byte (record { first = n; bytes = run.bytes })) row)) first ∙ put;
        small = one_small run r.small;
      })

-- one after another
both_made : (row : List ℕ) (at : ℕ) (first second : List Run) (mid now : List ℕ) → at ≤ length (words_in row) → Makes row at first mid
    → Makes (changed (runs_byte first) row) at second now → Makes row at (first ++ second) now
both_made row at first second mid now there a b =
    let front : take at (words_in (changed (runs_byte first) row)) ≡ take at (words_in row) =
    ap (take at) a.words_are ∙ take_at (take at (words_in row)) mid at (length-take-le at (words_in row) there) in
    record {
      words_are = ap words_in (all_changed first second row) ∙ b.words_are ∙ ap (λ (ws : List ℕ). ws ++ now) front;
      small = All-append (λ (r : Run). AreBytes r.bytes) first second a.small b.small;
    }

-- the words behind `at` after some runs
pub made_behind : (row : List ℕ) (at : ℕ) (runs : List Run) (now : List ℕ) → at ≤ length (words_in row) → Makes row at runs now → drop at (words_in (changed (runs_byte runs) row)) ≡ now
made_behind row at runs now there m = ap (drop at) m.words_are ∙ drop_at (take at (words_in row)) now at (length-take-le at (words_in row) there)

pub changed_long : (runs : List Run) (row : List ℕ) → length (words_in (changed (runs_byte runs) row)) ≡ length (words_in row)
changed_long runs row = length_words (changed (runs_byte runs) row) ∙ ap (λ (n : ℕ). n / 8) (length_changed (runs_byte runs) row) ∙ sym (length_words row)

-- a map
map_made : (row : List ℕ) (at : ℕ) (l : Layout) (entries : List ℕ) (now : List ℕ) → FitsMap l entries → (ok : IsLayout l) → at + l.size / 8 ≤ length (words_in row) → IsMapOfBytes row at l → drop at (words_in row) ≡ now
    → Makes row at (map_run at l entries ∷ []) (with_map l now 0 entries)
map_made row at l entries now fits ok inside small is = record {
  words_are = ap words_in (one_run (map_run at l entries) row) ∙ map_put row at l entries ok inside fits.sectors fits.small small
      ∙ ap (λ (ws : List ℕ). take at (words_in row) ++ with_map l ws 0 entries) is;
  small = one_small (map_run at l entries) (map_bytes_small at l entries);
}

-- ---- an arena

module _ (row : List ℕ) (at : ℕ) (bad : ℕ → Bool) (parent : List ℕ) (there : at ≤ length (words_in row)) where
  abbrev words : List ℕ
  words = drop at (words_in row)

  -- one whose info block can be used
  module _ (info : Info) (used : info_used (source_of words parent) ≡ Some info) (page : Option PageCopy) (page_in : IfSome page (λ copy. copy.to + 512 ≤ length words)) where
    abbrev l : Layout
    l = info.layout

    k : Kept at bad words parent info
    k = kept at bad words parent info used

    with_map_made : (pages : List Run) → ArePageRuns at words page pages → (o : Option (List ℕ)) → map_repair l (in_arena at bad) words (groups_in l words) ≡ o
        → IfSome (option_map (put_of l) o) (λ put. IsMapOfBytes row at put.layout) → Makes row at (pages ++ map_runs at (option_map (put_of l) o)) (with_entries l (with_page words page) o)
    with_map_made pages are None is small =
        both_made row at pages [] (with_page words page) (with_page words page) there (page_made row at there page pages are page_in)
        (subst (λ (ws : List ℕ). Makes (changed (runs_byte pages) row) at [] ws) (made_behind row at pages (with_page words page) there (page_made row at there page pages are page_in))
        (none_made (changed (runs_byte pages) row) at (omega (arith, there, changed_long pages row))))
    with_map_made pages are (Some entries) is small =
        let p : Makes row at pages (with_page words page) = page_made row at there page pages are page_in in
        let fits : FitsMap l entries = fits_by l (in_arena at bad) words entries (groups_in l words) k.ok.layout refl is in
        both_made row at pages (map_run at l entries ∷ []) (with_page words page) (with_map l (with_page words page) 0 entries) there p
        (map_made (changed (runs_byte pages) row) at l entries (with_page words page) fits k.ok.layout
        (omega (arith, k.ok.fits, there, changed_long pages row, length-drop at (words_in row)))
        (λ i from to. bytes_stay pages row (8 * at + i) p.small (small i from to))
        (made_behind row at pages (with_page words page) there p))

    used_made : (runs : List Run) → AreRepairs at words page (option_map (put_of l) (map_repair l (in_arena at bad) words (groups_in l words))) runs
        → IfSome (option_map (put_of l) (map_repair l (in_arena at bad) words (groups_in l words))) (λ put. IsMapOfBytes row at put.layout) → Makes row at runs (repaired_with at bad words page l)
    used_made runs are small =
        subst (λ (rs : List Run). Makes row at rs (repaired_with at bad words page l)) (sym are.all)
        (with_map_made are.pages are.are (map_repair l (in_arena at bad) words (groups_in l words)) refl small)

  by_source : (s : InfoSource) → source_of words parent ≡ s → IfSome (page_repair words parent s) (λ copy. copy.to + 512 ≤ length words) → (runs : List Run)
      → AreRepairs at words (page_repair words parent s) (map_by at bad words (info_used s)) runs → IfSome (map_by at bad words (info_used s)) (λ put. IsMapOfBytes row at put.layout)
      → Makes row at runs (repaired_by at bad words parent s)
  by_source (source.First info) is page_in runs are small = used_made info (ap info_used is) (page_repair words parent (source.First info)) page_in runs are small
  by_source (source.Last fault info) is page_in runs are small = used_made info (ap info_used is) (page_repair words parent (source.Last fault info)) page_in runs are small
  by_source (source.Neither fault) is page_in runs are small =
      subst (λ (rs : List Run). Makes row at rs words) (sym (are.all ∙ ap (λ (rs : List Run). rs ++ []) are.are)) (none_made row at there)

  -- the runs of an arena make its repaired words
  pub arena_made : (page : Option PageCopy) (map : Option MapPut) (runs : List Run) → page ≡ page_repair words parent (source_of words parent) → map ≡ map_by at bad words (info_used (source_of words parent))
      → AreRepairs at words page map runs → IfSome page (λ copy. copy.to + 512 ≤ length words) → IfSome map (λ put. IsMapOfBytes row at put.layout)
      → Makes row at runs (repaired_by at bad words parent (source_of words parent))
  arena_made page map runs page_is map_is are page_in small =
      by_source (source_of words parent) refl (subst (λ (p : Option PageCopy). IfSome p (λ copy. copy.to + 512 ≤ length words)) page_is page_in) runs
      (subst (λ (p : Option PageCopy). AreRepairs at words p (map_by at bad words (info_used (source_of words parent))) runs) page_is (subst (λ (m : Option MapPut). AreRepairs at words page m runs) map_is are))
      (subst (λ (m : Option MapPut). IfSome m (λ put. IsMapOfBytes row at put.layout)) map_is small)
