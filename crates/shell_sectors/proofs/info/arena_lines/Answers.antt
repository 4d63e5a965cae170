use Rattle.std.proofs.Common.{◌≡◌, ℕ, zero, suc, ◌+◌, ◌<◌, List, [], ◌∷◌, ◌++◌, length, drop, map, get_or, sym, ap, ◌∙◌, append_assoc, arith}
use Rattle.std.specs.Prelude.{codes}
use Rattle.std.specs.Fmt.{decimal}
use Rattle.arena_open.specs.Chain.{Link, state_at}
use Rattle.shell_reports.specs.Outcome.{joined, lf}
use Rattle.shell_reports.specs.Sectors.{arena_facts, arena_lines}
use Rattle.shell_sectors.proofs.info.arena_lines.Goals as goal

-- the line of an arena by its number
abbrev line_of : ℕ → Link → List ℕ
line_of j link = joined (codes "arena " ∷ decimal j ∷ codes " " ∷ arena_facts link.opened.info.layout (length link.opened.moves) ∷ lf ∷ [])

one_more : (words : List ℕ) (links : List Link) (k j : ℕ) (link : Link) → k < length links → ((d : Link) → link ≡ get_or links k d)
    → arena_lines j (map (state_at words) (drop k links)) ≡ line_of j link ++ arena_lines (j + 1) (map (state_at words) (drop (suc k) links))
one_more words [] k j link lt is = absurd (omega (arith, lt))
one_more words (first ∷ links) zero j link lt is = ap (λ (l : Link). line_of j l ++ arena_lines (j + 1) (map (state_at words) links)) (sym (is first))
one_more words (first ∷ links) (suc k) j link lt is = one_more words links k j link (omega (arith, lt)) is

pub loop-k-preserved : goal.loop-k-preserved
loop-k-preserved c = λ words.
    let link : Link = c.arena_at.result.now in
    let rest : ℕ → List ℕ = λ n. arena_lines (c.loop-k.k + 1) (map (state_at words) (drop n c.args.arenas.now)) in
    let line : c.as_bytes.result.now ≡ line_of c.loop-k.k c.arena_at.result.now = c.as_bytes.ensures.value ∙ c.in_ok-line.ensures in
    let text : c.extend_from_slice.new.self.items ≡ c.loop-k.text.items ++ line_of c.loop-k.k c.arena_at.result.now =
    c.in_ok-extend_from_slice.ensures.items ∙ ap (λ (bytes : List ℕ). c.loop-k.text.items ++ bytes) line in
    let next : suc c.loop-k.k ≡ c.loop-k.k + 1 = omega arith in
    let inside : c.loop-k.k < length c.args.arenas.now = omega (arith, c.loop-k-test.true) in
    ap (λ (bytes : List ℕ). bytes ++ rest (c.loop-k.k + 1)) text
    ∙ append_assoc c.loop-k.text.items (line_of c.loop-k.k c.arena_at.result.now) (rest (c.loop-k.k + 1))
    ∙ ap (λ (n : ℕ). c.loop-k.text.items ++ (line_of c.loop-k.k c.arena_at.result.now ++ rest n)) (sym next)
    ∙ ap (λ (bytes : List ℕ). c.loop-k.text.items ++ bytes) (sym (one_more words c.args.arenas.now c.loop-k.k c.loop-k.k c.arena_at.result.now inside c.arena_at.ensures))
    ∙ c.loop-k.invariant words
