-- The runs that repair a namespace's arenas, or none if nothing is repaired.
use Rattle.std.proofs.Common.{◌≡◌, ◌≢◌, ℕ, ◌+◌, ◌-◌, ◌*◌, ◌/◌, ◌%◌, ◌≤◌, Bool, true, false, List, [], ◌++◌, length, drop, sym, ap, ◌∙◌, subst, arith}
use Rattle.std.specs.Prelude.{IfSome, MatchBool}
use Rattle.std.proofs.lemmas.List.{length-drop}
use Rattle.cut_words.specs.WordBytes.{words_in}
use Rattle.arena_check.specs.Check.{info_used, source_of}
use Rattle.arena_repair.specs.declared.page.PageCopy.{PageCopy}
use Rattle.arena_repair.specs.Repair.{page_repair, repaired_by}
use Rattle.namespace_bytes.specs.declared.runs.Run.{Run}
use Rattle.namespace_bytes.specs.Runs.{runs_byte}
use Rattle.namespace_bytes.proofs.ByteWords.{changed, from_first}
use Rattle.namespace_words.specs.Source.{IsMapOfBytes, bytes_by, words_by}
use Rattle.namespace_words.proofs.HeldBytes.{words_long}
use Rattle.power_cut.specs.Namespace.{Namespace, raw_bytes}
use Rattle.namespace_words.proofs.MadeMoves.{bytes_stay}
use Rattle.shell_check.specs.declared.arena.ArenaChecked.{ArenaChecked}
use Rattle.shell_check.specs.Reading.{AreRepairs, AreRepairsIf, FitsIn, IsChecked, RepairsAll, map_by}
use Rattle.shell_check.proofs.ArenaRuns.{Makes, arena_made, changed_long}
use Rattle.shell_check.proofs.Lanes.{some_more}
use Rattle.shell_check.proofs.Mending.{MendsSoFar, mends_last, mends_more, mends_none}

-- both pages end in so many bytes
abbrev PageFits : ℕ → PageCopy → Type 0
PageFits rest copy = (8 * copy.from + 4096 ≤ rest) × (8 * copy.to + 4096 ≤ rest)

-- what the runs so far do
abbrev pub MendsIf : Bool → (ℕ → Bool) → List ℕ → List ℕ → ℕ → ℕ → List Run → Type 0
MendsIf repair bad row parent k at runs = MatchBool repair (MendsSoFar bad row parent k at runs) (runs ≡ [])

pub none_if : (repair : Bool) (bad : ℕ → Bool) (row parent : List ℕ) (runs : List Run) → runs ≡ [] → MendsIf repair bad row parent 0 0 runs
none_if true bad row parent runs none = mends_none bad row parent runs none
none_if false bad row parent runs none = none

-- what was checked of the next arena
pub record NextArena (bad : ℕ → Bool) (row parent : List ℕ) (at : ℕ) (arena : ArenaChecked) : Type 0 where
  pub checked : IsChecked at bad (drop at (words_in row)) parent arena
  pub small : IfSome arena.map (λ put. IsMapOfBytes row at put.layout)
  pub fits : FitsIn (8 * length (drop at (words_in row))) arena
  pub there : at ≤ length (words_in row)

-- what the source revealed of it
pub next_arena : (bad : ℕ → Bool) (parent : List ℕ) (e : Namespace) (contents : List (List ℕ)) (at : ℕ) (arena : ArenaChecked) → words_by e contents ≡ words_in (bytes_by e contents) → raw_bytes e % 4096 ≡ 0
    → 8 * at + 4096 ≤ raw_bytes e → IsChecked at bad (drop at (words_by e contents)) parent arena → IfSome arena.map (λ put. IsMapOfBytes (bytes_by e contents) at put.layout)
    → FitsIn (raw_bytes e - 8 * at) arena → NextArena bad (bytes_by e contents) parent at arena
next_arena bad parent e contents at arena same pages inside checked small fits =
    let long : length (words_in (bytes_by e contents)) ≡ raw_bytes e / 8 = ap (λ (ws : List ℕ). length ws) (sym same) ∙ words_long e contents in
    let rest : raw_bytes e - 8 * at ≡ 8 * length (drop at (words_in (bytes_by e contents))) = omega (arith, long, length-drop at (words_in (bytes_by e contents)), pages, inside) in
    record {
      checked = subst (λ (ws : List ℕ). IsChecked at bad (drop at ws) parent arena) same checked;
      small = small;
      fits = subst (λ (n : ℕ). FitsIn n arena) rest fits;
      there = omega (arith, long, inside);
    }

module _ (bad : ℕ → Bool) (row parent : List ℕ) (k at : ℕ) (runs : List Run) (arena : ArenaChecked) (n : NextArena bad row parent at arena) (short : k ≤ length (words_in row)) where
  module _ (m : MendsSoFar bad row parent k at runs) (made : List Run) (are : AreRepairs at (drop at (words_in row)) arena.page arena.map made) where
    abbrev mid : List ℕ
    mid = changed (runs_byte runs) row

    makes : Makes mid at made (repaired_by at bad (drop at (words_in row)) parent (source_of (drop at (words_in row)) parent))
    makes =
        let back : drop at (words_in row) ≡ drop at (words_in mid) = sym m.ahead in
        subst (λ (ws : List ℕ). Makes mid at made (repaired_by at bad ws parent (source_of ws parent))) m.ahead
        (arena_made mid at bad parent (omega (arith, n.there, changed_long runs row)) arena.page arena.map made
        (n.checked.page ∙ ap (λ (ws : List ℕ). page_repair ws parent (source_of ws parent)) back)
        (subst (λ (ws : List ℕ). arena.map ≡ map_by at bad ws (info_used (source_of ws parent))) back n.checked.map)
        (subst (λ (ws : List ℕ). AreRepairs at ws arena.page arena.map made) back are)
        (some_more (PageFits (8 * length (drop at (words_in row)))) (λ copy. copy.to + 512 ≤ length (drop at (words_in mid))) arena.page
        (λ copy fits. omega (arith, fits.1, ap (λ (ws : List ℕ). length ws) back)) n.fits.page)
        (some_more (λ put. IsMapOfBytes row at put.layout) (λ put. IsMapOfBytes mid at put.layout) arena.map
        (λ put small i from to. bytes_stay runs row (8 * at + i) m.small (small i from to)) n.small))

    pub goes : arena.next ≢ 0 → MendsSoFar bad row parent (k + 1) (at + arena.next / 8) (runs ++ made)
    goes some = mends_more bad row parent k at runs m short n.there made makes arena.next n.checked.next some

    pub ends : arena.next ≡ 0 → RepairsAll bad parent row (runs ++ made)
    ends last = ap words_in (from_first (runs_byte (runs ++ made)) row) ∙ mends_last bad row parent k at runs m short n.there made makes (sym n.checked.next ∙ last)

  none_more : (made : List Run) → runs ≡ [] → made ≡ [] → runs ++ made ≡ []
  none_more made none no_more = λ i. none i ++ no_more i

  pub goes_if : (repair : Bool) → MendsIf repair bad row parent k at runs → (made : List Run) → AreRepairsIf repair at (drop at (words_in row)) arena.page arena.map made → arena.next ≢ 0
      → MendsIf repair bad row parent (k + 1) (at + arena.next / 8) (runs ++ made)
  goes_if true m made are some = goes m made are some
  goes_if false none made no_more some = none_more made none no_more

  pub ends_if : (repair : Bool) → MendsIf repair bad row parent k at runs → (made : List Run) → AreRepairsIf repair at (drop at (words_in row)) arena.page arena.map made → arena.next ≡ 0
      → MatchBool repair (RepairsAll bad parent row (runs ++ made)) (runs ++ made ≡ [])
  ends_if true m made are last = ends m made are last
  ends_if false none made no_more last = none_more made none no_more
