use Rattle.std.proofs.Common.{◌≡◌, ℕ, ◌+◌, ◌/◌, List, [], ◌∷◌, ◌++◌, map, Result, Ok, Err, ap, sym, subst, ◌∙◌, arith}
use Rattle.std.proofs.lemmas.List.{length-append}
use Rattle.arena_open.specs.declared.opened.Opened.{Opened}
use Rattle.arena_open.specs.declared.state.ArenaState.{ArenaState}
use Rattle.arena_open.specs.declared.refused.OpenRefused.{OpenRefused}
use Rattle.arena_open.specs.Chain.{Link, state_at}
use Rattle.arena_open.specs.InPlace.{AreRead}
use Rattle.arena_open.proofs.ChainInPlace.{ReadSoFar, each_more, read_few, read_grows, read_last, read_on, read_refused}
use Rattle.arena_open.proofs.chain_in_place.read_chain.Goals as goal

out : {a b : OpenRefused} → ◌≡◌ {A = Result Opened OpenRefused} (Err a) (Err b) → a ≡ b
out e = cc

pub overflow_cast-arena : goal.overflow_cast-arena
overflow_cast-arena g c =
    omega (arith, c.len-arena.ensures ∙ c.arenas.arenas.ok.0, read_few (g.W.WordSpace.words c.args.space).kept c.args.first c.args.parent.now c.arenas.at c.arenas.arenas.items c.arenas.invariant, c.arenas.invariant.inside, c.requires.small)

pub new-requires : goal.new-requires
new-requires g c =
    let links_are : c.from_vec.result ≡ c.arenas.arenas.items ++ record { at = c.arenas.at; opened = c.in-Ok.opened } ∷ [] =
    c.from_vec.ensures ∙ c.push_reserved.ensures.items ∙ ap (λ (ls : List Link). ls ++ record { at = c.arenas.at; opened = c.in-Ok.opened } ∷ []) c.reserve.ensures.items in
    subst (λ (ls : List Link). AreRead (g.W.WordSpace.words c.args.space) ls) (sym links_are) (record {
      settled = c.requires.settled;
      small = omega (arith, c.requires.small);
      each = each_more (g.W.WordSpace.words c.args.space).kept c.args.first c.args.parent.now c.arenas.at c.arenas.arenas.items c.arenas.invariant c.in-Ok.opened (sym (c.in-Ok.ensures (λ e. cc)));
      few = omega (
        arith,
        length-append c.arenas.arenas.items (record { at = c.arenas.at; opened = c.in-Ok.opened } ∷ []),
        read_few (g.W.WordSpace.words c.args.space).kept c.args.first c.args.parent.now c.arenas.at c.arenas.arenas.items c.arenas.invariant,
        c.arenas.invariant.inside,
        c.requires.small,
      );
    })

pub returns-then-next-eq0 : goal.returns-then-next-eq0
returns-then-next-eq0 g c = λ memory.
    let links_are : c.from_vec.result ≡ c.arenas.arenas.items ++ record { at = c.arenas.at; opened = c.in-Ok.opened } ∷ [] =
    c.from_vec.ensures ∙ c.push_reserved.ensures.items ∙ ap (λ (ls : List Link). ls ++ record { at = c.arenas.at; opened = c.in-Ok.opened } ∷ []) c.reserve.ensures.items in
    ap (λ (ss : List ArenaState). Ok ss) (c.new.ensures ∙ ap (map (state_at (g.W.WordSpace.words c.args.space).kept)) links_are)
    ∙ read_last (g.W.WordSpace.words c.args.space).kept c.args.first c.args.parent.now c.arenas.at c.arenas.arenas.items c.arenas.invariant c.in-Ok.opened (sym (c.in-Ok.ensures (λ e. cc))) c.if-next-eq0.true

pub arenas-smaller : goal.arenas-smaller
arenas-smaller g c =
    let grows = read_grows (g.W.WordSpace.words c.args.space).kept c.args.first c.args.parent.now c.arenas.at c.arenas.arenas.items c.arenas.invariant c.in-Ok.opened (sym (c.in-Ok.ensures (λ e. cc))) c.if-next-eq0.false in
    omega (arith, grows, c.arenas.invariant.inside)

pub arenas-preserved : goal.arenas-preserved
arenas-preserved g c =
    let links_are : c.push_reserved.new.self.items ≡ c.arenas.arenas.items ++ record { at = c.arenas.at; opened = c.in-Ok.opened } ∷ [] =
    c.push_reserved.ensures.items ∙ ap (λ (ls : List Link). ls ++ record { at = c.arenas.at; opened = c.in-Ok.opened } ∷ []) c.reserve.ensures.items in
    subst (λ (ls : List Link). ReadSoFar (g.W.WordSpace.words c.args.space).kept c.args.first c.args.parent.now (c.arenas.at + c.in-Ok.opened.info.next / 8) ls) (sym links_are)
    (read_on (g.W.WordSpace.words c.args.space).kept c.args.first c.args.parent.now c.arenas.at c.arenas.arenas.items c.arenas.invariant c.in-Ok.opened (sym (c.in-Ok.ensures (λ e. cc))) c.if-next-eq0.false c.requires.to c.requires.from)

pub returns-in-Err : goal.returns-in-Err
returns-in-Err g c = λ memory.
    ap (λ (n : ℕ). Err (record { arena = n; fault = c.in-Err.fault })) (c.len-arena.ensures ∙ c.arenas.arenas.ok.0)
    ∙ read_refused (g.W.WordSpace.words c.args.space).kept c.args.first c.args.parent.now c.arenas.at c.arenas.arenas.items c.arenas.invariant c.in-Err.fault
    (sym (c.in-Err.ensures (λ e. memory c.len-arena.result (ap (λ (f : OpenRefused). Err (record { arena = c.len-arena.result; fault = f })) (out e)))))
