use Rattle.std.proofs.Common.{◌≡◌, ℕ, ◌+◌, ◌/◌, List, [], ◌∷◌, ◌++◌, map, Result, Ok, Err, ap, sym, subst, ◌∙◌, arith}
use Rattle.arena_open.specs.declared.chain_refused.ChainRefused.{ChainRefused}
use Rattle.arena_open.specs.declared.opened.Opened.{Opened}
use Rattle.arena_open.specs.declared.refused.OpenRefused.{OpenRefused}
use Rattle.arena_open.specs.Chain.{Link, state_at}
use Rattle.arena_open.proofs.ChainInPlace.{ReadSoFar, read_few, read_grows, read_last, read_on, read_refused}
use Rattle.namespace_bytes.specs.Putting.{Linked}
use Rattle.namespace_bytes.proofs.Sizes.{joined_linked}
use Rattle.namespace_bytes.proofs.reading.read_chain.Goals as goal

out : {a b : OpenRefused} → ◌≡◌ {A = Result Opened OpenRefused} (Err a) (Err b) → a ≡ b
out e = cc

pub overflow_cast-arena : goal.overflow_cast-arena
overflow_cast-arena g c =
    omega (arith, c.len-arena.ensures ∙ c.arenas.arenas.ok.0, read_few (g.W.WordSpace.words c.args.space.now).kept c.args.first c.args.parent.now c.arenas.at c.arenas.arenas.items c.arenas.invariant, c.arenas.invariant.inside, c.requires.small)

pub returns-then-next-eq0-clause-read : goal.returns-then-next-eq0-clause-read
returns-then-next-eq0-clause-read g c =
    let links_are : c.from_vec.result ≡ c.arenas.arenas.items ++ record { at = c.arenas.at; opened = c.in-Ok.opened } ∷ [] =
    c.from_vec.ensures ∙ c.push_reserved.ensures.items ∙ ap (λ (ls : List Link). ls ++ record { at = c.arenas.at; opened = c.in-Ok.opened } ∷ []) c.reserve.ensures.items in
    ap (λ (ls : List Link). Ok (map (state_at (g.W.WordSpace.words c.args.space.now).kept) ls)) links_are
    ∙ read_last (g.W.WordSpace.words c.args.space.now).kept c.args.first c.args.parent.now c.arenas.at c.arenas.arenas.items c.arenas.invariant c.in-Ok.opened (sym (c.in-Ok.ensures (λ e. cc))) c.if-next-eq0.true

pub returns-then-next-eq0-clause-linked : goal.returns-then-next-eq0-clause-linked
returns-then-next-eq0-clause-linked g c =
    let links_are : c.from_vec.result ≡ c.arenas.arenas.items ++ record { at = c.arenas.at; opened = c.in-Ok.opened } ∷ [] =
    c.from_vec.ensures ∙ c.push_reserved.ensures.items ∙ ap (λ (ls : List Link). ls ++ record { at = c.arenas.at; opened = c.in-Ok.opened } ∷ []) c.reserve.ensures.items in
    subst (λ (ls : List Link). Linked (g.W.WordSpace.words c.args.space.now).kept c.args.parent.now c.args.first ls) (sym links_are)
    (joined_linked c.arenas.arenas.items (g.W.WordSpace.words c.args.space.now).kept c.args.parent.now c.args.first c.arenas.at c.in-Ok.opened c.arenas.invariant.joined (omega (arith, c.arenas.invariant.inside)) (sym (c.in-Ok.ensures (λ e. cc))) c.if-next-eq0.true)

pub arenas-smaller : goal.arenas-smaller
arenas-smaller g c =
    let grows = read_grows (g.W.WordSpace.words c.args.space.now).kept c.args.first c.args.parent.now c.arenas.at c.arenas.arenas.items c.arenas.invariant c.in-Ok.opened (sym (c.in-Ok.ensures (λ e. cc))) c.if-next-eq0.false in
    omega (arith, grows, c.arenas.invariant.inside)

pub arenas-preserved : goal.arenas-preserved
arenas-preserved g c =
    let links_are : c.push_reserved.new.self.items ≡ c.arenas.arenas.items ++ record { at = c.arenas.at; opened = c.in-Ok.opened } ∷ [] =
    c.push_reserved.ensures.items ∙ ap (λ (ls : List Link). ls ++ record { at = c.arenas.at; opened = c.in-Ok.opened } ∷ []) c.reserve.ensures.items in
    subst (λ (ls : List Link). ReadSoFar (g.W.WordSpace.words c.args.space.now).kept c.args.first c.args.parent.now (c.arenas.at + c.in-Ok.opened.info.next / 8) ls) (sym links_are)
    (read_on (g.W.WordSpace.words c.args.space.now).kept c.args.first c.args.parent.now c.arenas.at c.arenas.arenas.items c.arenas.invariant c.in-Ok.opened (sym (c.in-Ok.ensures (λ e. cc))) c.if-next-eq0.false c.requires.to c.requires.from)

pub returns-in-Err-clause-refused : goal.returns-in-Err-clause-refused
returns-in-Err-clause-refused g c = λ f e finding.
    let same : record { arena = c.len-arena.result; fault = c.in-Err.fault } ≡ f = cc in
    sym (ap (λ (n : ℕ). Err (record { arena = n; fault = c.in-Err.fault })) (c.len-arena.ensures ∙ c.arenas.arenas.ok.0)
    ∙ read_refused (g.W.WordSpace.words c.args.space.now).kept c.args.first c.args.parent.now c.arenas.at c.arenas.arenas.items c.arenas.invariant c.in-Err.fault
    (sym (c.in-Err.ensures (λ e'. finding (ap (λ (r : ChainRefused). r.fault) (sym same) ∙ out e')))))
    ∙ ap (λ (r : ChainRefused). Err r) same
