use Rattle.std.proofs.Common.{◌≡◌, ℕ, ◌+◌, ◌∙◌, ◌/◌, List, [], ◌∷◌, ◌++◌, length, map, Result, Ok, Err, refl, ap, sym, subst, arith}
use Rattle.std.proofs.lemmas.List.{length-append}
use Rattle.arena_open.specs.declared.state.ArenaState.{ArenaState}
use Rattle.arena_open.specs.declared.refused.OpenRefused.{OpenRefused}
use Rattle.arena_open.specs.declared.refused.OpenRefused.TheVariants as open_refused
use Rattle.arena_open.proofs.Groups.{pushed}
use Rattle.arena_open.specs.declared.chain_refused.ChainRefused.{ChainRefused}
use Rattle.arena_open.specs.Chain.{RecoversFirst, found_again, wants_memory}
use Rattle.arena_open.specs.ChainCells.{AreOpen}
use Rattle.arena_open.proofs.SoFar.{SoFar, Opens, starts, few, goes_on, all_open, last_answer, last_made, last_again, last_found, refused_answer, refused_made, first_made}
use Rattle.arena_open.proofs.chain_open.open_chain.Goals as goal

-- which arena it was, and why
same_number : (a b : ChainRefused) → ◌≡◌ {A = Result (List ArenaState) ChainRefused} (Err a) (Err b) → a.arena ≡ b.arena
same_number a b e = let same : a ≡ b = cc in ap (λ (f : ChainRefused). f.arena) same

same_fault : (a b : ChainRefused) → ◌≡◌ {A = Result (List ArenaState) ChainRefused} (Err a) (Err b) → a.fault ≡ b.fault
same_fault a b e = let same : a ≡ b = cc in ap (λ (f : ChainRefused). f.fault) same

out : {a b : OpenRefused} → ◌≡◌ {A = Result ArenaState OpenRefused} (Err a) (Err b) → a ≡ b
out e = cc

pub arenas-init : goal.arenas-init
arenas-init g c =
    let start : SoFar (g.W.WordSpace.words c.args.space.now) c.args.fuse.now c.args.first c.args.parent.now (g.W.WordSpace.words c.args.space.now) c.args.fuse.now c.args.first [] =
    starts (g.W.WordSpace.words c.args.space.now) c.args.fuse.now c.args.first c.args.parent.now c.requires.chain.from c.requires.chain.to c.requires.chain.inside c.requires.chain.settled in
    record {
      so_far = subst (λ (ss : List ArenaState). SoFar (g.W.WordSpace.words c.args.space.now) c.args.fuse.now c.args.first c.args.parent.now (g.W.WordSpace.words c.args.space.now) c.args.fuse.now c.args.first ss) (sym c.new-arenas.ensures.items) start;
      same = refl;
    }

pub overflow_cast-arena : goal.overflow_cast-arena
overflow_cast-arena g c =
    omega (arith, c.len-arena.ensures ∙ c.arenas.arenas.ok.0, few (g.W.WordSpace.words c.args.space.now) c.args.fuse.now c.args.first c.args.parent.now (g.W.WordSpace.words c.arenas.space) c.arenas.fuse c.arenas.at c.arenas.arenas.items c.arenas.invariant.so_far, c.arenas.invariant.so_far.inside, c.requires.chain.small)

pub returns-then-is_err-clause-made : goal.returns-then-is_err-clause-made
returns-then-is_err-clause-made g c = λ memory. absurd (memory c.len-arena.result (ap (λ (f : ChainRefused). Err f) refl))

pub returns-then-is_err-clause-memory : goal.returns-then-is_err-clause-memory
returns-then-is_err-clause-memory g c =
    λ k e. subst (λ (n : ℕ). RecoversFirst n (g.W.WordSpace.words c.args.space.now) (g.W.WordSpace.words c.arenas.space) c.args.fuse.now c.arenas.fuse c.args.parent.now c.args.first)
    (sym (c.len-arena.ensures ∙ c.arenas.arenas.ok.0) ∙ same_number (record { arena = c.len-arena.result; fault = open_refused.OutOfMemory }) (wants_memory k) e)
    (first_made (g.W.WordSpace.words c.args.space.now) c.args.fuse.now c.args.first c.args.parent.now (g.W.WordSpace.words c.arenas.space) c.arenas.fuse c.arenas.at c.arenas.arenas.items c.arenas.invariant.so_far)

pub open_arena-requires : goal.open_arena-requires
open_arena-requires g c =
    let s = c.arenas.invariant.so_far in
    record {
      space = record {
        inside = omega (arith, s.inside, s.count);
        small = omega (arith, s.count, c.requires.chain.small);
        settled = s.settled;
      };
    }

pub push_reserved-requires : goal.push_reserved-requires
push_reserved-requires g c =
    let room = pushed c.reserve.result _ c.if-is_err.ensures.value c.reserve.ensures.ok in
    omega (arith, room)

pub new-requires : goal.new-requires
new-requires g c =
    let o : Opens (g.W.WordSpace.words c.arenas.space) (g.W.WordSpace.words c.open_arena.new.space) c.arenas.fuse c.open_arena.new.fuse c.arenas.at c.args.parent.now c.in-Ok.state =
    record { answer = c.in-Ok.ensures.answer (λ e. cc); made = c.in-Ok.ensures.made (λ e. cc); settled = c.in-Ok.ensures.settles; again = c.in-Ok.ensures.again; state_open = c.in-Ok.ensures.state } in
    let states_are : c.push_reserved.new.self.items ≡ c.arenas.arenas.items ++ c.in-Ok.state ∷ [] =
    c.push_reserved.ensures.items ∙ ap (λ (ss : List ArenaState). ss ++ c.in-Ok.state ∷ []) c.reserve.ensures.items in
    let n : length c.push_reserved.new.self.items ≡ length c.arenas.arenas.items + 1 = ap length states_are ∙ length-append c.arenas.arenas.items (c.in-Ok.state ∷ []) in
    let same : c.from_vec.result ≡ c.arenas.arenas.items ++ c.in-Ok.state ∷ [] = c.from_vec.ensures ∙ states_are in
    subst AreOpen (sym same) (record {
      each = all_open (g.W.WordSpace.words c.args.space.now) c.args.fuse.now c.args.first c.args.parent.now (g.W.WordSpace.words c.arenas.space) c.arenas.fuse c.arenas.at c.arenas.arenas.items c.arenas.invariant.so_far (g.W.WordSpace.words c.open_arena.new.space) c.open_arena.new.fuse c.in-Ok.state o;
      few = omega (arith, n, ap length states_are, few (g.W.WordSpace.words c.args.space.now) c.args.fuse.now c.args.first c.args.parent.now (g.W.WordSpace.words c.arenas.space) c.arenas.fuse c.arenas.at c.arenas.arenas.items c.arenas.invariant.so_far, c.arenas.invariant.so_far.inside, c.requires.chain.small);
    })

pub returns-then-next-eq0-clause-answer : goal.returns-then-next-eq0-clause-answer
returns-then-next-eq0-clause-answer g c =
    let o : Opens (g.W.WordSpace.words c.arenas.space) (g.W.WordSpace.words c.open_arena.new.space) c.arenas.fuse c.open_arena.new.fuse c.arenas.at c.args.parent.now c.in-Ok.state =
    record { answer = c.in-Ok.ensures.answer (λ e. cc); made = c.in-Ok.ensures.made (λ e. cc); settled = c.in-Ok.ensures.settles; again = c.in-Ok.ensures.again; state_open = c.in-Ok.ensures.state } in
    let states_are : c.push_reserved.new.self.items ≡ c.arenas.arenas.items ++ c.in-Ok.state ∷ [] =
    c.push_reserved.ensures.items ∙ ap (λ (ss : List ArenaState). ss ++ c.in-Ok.state ∷ []) c.reserve.ensures.items in
    let same : c.new.result ≡ c.arenas.arenas.items ++ c.in-Ok.state ∷ [] = c.new.ensures ∙ c.from_vec.ensures ∙ states_are in
    λ memory. ap (λ (ss : List ArenaState). Ok ss) same ∙ last_answer (g.W.WordSpace.words c.args.space.now) c.args.fuse.now c.args.first c.args.parent.now (g.W.WordSpace.words c.arenas.space) c.arenas.fuse c.arenas.at c.arenas.arenas.items c.arenas.invariant.so_far (g.W.WordSpace.words c.open_arena.new.space) c.open_arena.new.fuse c.in-Ok.state o c.if-next-eq0.true

pub returns-then-next-eq0-clause-made : goal.returns-then-next-eq0-clause-made
returns-then-next-eq0-clause-made g c =
    let o : Opens (g.W.WordSpace.words c.arenas.space) (g.W.WordSpace.words c.open_arena.new.space) c.arenas.fuse c.open_arena.new.fuse c.arenas.at c.args.parent.now c.in-Ok.state =
    record { answer = c.in-Ok.ensures.answer (λ e. cc); made = c.in-Ok.ensures.made (λ e. cc); settled = c.in-Ok.ensures.settles; again = c.in-Ok.ensures.again; state_open = c.in-Ok.ensures.state } in
    let states_are : c.push_reserved.new.self.items ≡ c.arenas.arenas.items ++ c.in-Ok.state ∷ [] =
    c.push_reserved.ensures.items ∙ ap (λ (ss : List ArenaState). ss ++ c.in-Ok.state ∷ []) c.reserve.ensures.items in
    λ memory. last_made (g.W.WordSpace.words c.args.space.now) c.args.fuse.now c.args.first c.args.parent.now (g.W.WordSpace.words c.arenas.space) c.arenas.fuse c.arenas.at c.arenas.arenas.items c.arenas.invariant.so_far (g.W.WordSpace.words c.open_arena.new.space) c.open_arena.new.fuse c.in-Ok.state o c.if-next-eq0.true

pub returns-then-next-eq0-clause-again : goal.returns-then-next-eq0-clause-again
returns-then-next-eq0-clause-again g c =
    let o : Opens (g.W.WordSpace.words c.arenas.space) (g.W.WordSpace.words c.open_arena.new.space) c.arenas.fuse c.open_arena.new.fuse c.arenas.at c.args.parent.now c.in-Ok.state =
    record { answer = c.in-Ok.ensures.answer (λ e. cc); made = c.in-Ok.ensures.made (λ e. cc); settled = c.in-Ok.ensures.settles; again = c.in-Ok.ensures.again; state_open = c.in-Ok.ensures.state } in
    let states_are : c.push_reserved.new.self.items ≡ c.arenas.arenas.items ++ c.in-Ok.state ∷ [] =
    c.push_reserved.ensures.items ∙ ap (λ (ss : List ArenaState). ss ++ c.in-Ok.state ∷ []) c.reserve.ensures.items in
    last_again (g.W.WordSpace.words c.args.space.now) c.args.fuse.now c.args.first c.args.parent.now (g.W.WordSpace.words c.arenas.space) c.arenas.fuse c.arenas.at c.arenas.arenas.items c.arenas.invariant.so_far (g.W.WordSpace.words c.open_arena.new.space) c.open_arena.new.fuse c.in-Ok.state o c.if-next-eq0.true

pub returns-then-next-eq0-clause-found : goal.returns-then-next-eq0-clause-found
returns-then-next-eq0-clause-found g c =
    let o : Opens (g.W.WordSpace.words c.arenas.space) (g.W.WordSpace.words c.open_arena.new.space) c.arenas.fuse c.open_arena.new.fuse c.arenas.at c.args.parent.now c.in-Ok.state =
    record { answer = c.in-Ok.ensures.answer (λ e. cc); made = c.in-Ok.ensures.made (λ e. cc); settled = c.in-Ok.ensures.settles; again = c.in-Ok.ensures.again; state_open = c.in-Ok.ensures.state } in
    let states_are : c.push_reserved.new.self.items ≡ c.arenas.arenas.items ++ c.in-Ok.state ∷ [] =
    c.push_reserved.ensures.items ∙ ap (λ (ss : List ArenaState). ss ++ c.in-Ok.state ∷ []) c.reserve.ensures.items in
    let same : c.new.result ≡ c.arenas.arenas.items ++ c.in-Ok.state ∷ [] = c.new.ensures ∙ c.from_vec.ensures ∙ states_are in
    last_found (g.W.WordSpace.words c.args.space.now) c.args.fuse.now c.args.first c.args.parent.now (g.W.WordSpace.words c.arenas.space) c.arenas.fuse c.arenas.at c.arenas.arenas.items c.arenas.invariant.so_far (g.W.WordSpace.words c.open_arena.new.space) c.open_arena.new.fuse c.in-Ok.state o c.if-next-eq0.true
    ∙ ap (λ (ss : List ArenaState). Ok (map found_again ss)) (sym same)

pub arenas-preserved : goal.arenas-preserved
arenas-preserved g c =
    let o : Opens (g.W.WordSpace.words c.arenas.space) (g.W.WordSpace.words c.open_arena.new.space) c.arenas.fuse c.open_arena.new.fuse c.arenas.at c.args.parent.now c.in-Ok.state =
    record { answer = c.in-Ok.ensures.answer (λ e. cc); made = c.in-Ok.ensures.made (λ e. cc); settled = c.in-Ok.ensures.settles; again = c.in-Ok.ensures.again; state_open = c.in-Ok.ensures.state } in
    let states_are : c.push_reserved.new.self.items ≡ c.arenas.arenas.items ++ c.in-Ok.state ∷ [] =
    c.push_reserved.ensures.items ∙ ap (λ (ss : List ArenaState). ss ++ c.in-Ok.state ∷ []) c.reserve.ensures.items in
    record {
      so_far = subst (λ (ss : List ArenaState). SoFar (g.W.WordSpace.words c.args.space.now) c.args.fuse.now c.args.first c.args.parent.now (g.W.WordSpace.words c.open_arena.new.space) c.open_arena.new.fuse (c.arenas.at + c.in-Ok.state.info.next / 8) ss) (sym states_are)
          (goes_on (g.W.WordSpace.words c.args.space.now) c.args.fuse.now c.args.first c.args.parent.now (g.W.WordSpace.words c.arenas.space) c.arenas.fuse c.arenas.at c.arenas.arenas.items c.arenas.invariant.so_far (g.W.WordSpace.words c.open_arena.new.space) c.open_arena.new.fuse c.in-Ok.state o c.if-next-eq0.false c.requires.chain.to c.requires.chain.from);
      same = c.in-Ok.ensures.beside ∙ c.arenas.invariant.same;
    }

pub returns-in-Err-clause-answer : goal.returns-in-Err-clause-answer
returns-in-Err-clause-answer g c =
    λ memory. ap (λ (n : ℕ). Err (record { arena = n; fault = c.in-Err.fault })) (c.len-arena.ensures ∙ c.arenas.arenas.ok.0)
    ∙ refused_answer (g.W.WordSpace.words c.args.space.now) c.args.fuse.now c.args.first c.args.parent.now (g.W.WordSpace.words c.arenas.space) c.arenas.fuse c.arenas.at c.arenas.arenas.items c.arenas.invariant.so_far (g.W.WordSpace.words c.open_arena.new.space) c.open_arena.new.fuse c.in-Err.fault (c.in-Err.ensures.answer (λ e. memory c.len-arena.result (ap (λ (f : OpenRefused). Err (record { arena = c.len-arena.result; fault = f })) (out e)))) (c.in-Err.ensures.made (λ e. memory c.len-arena.result (ap (λ (f : OpenRefused). Err (record { arena = c.len-arena.result; fault = f })) (out e))))

pub returns-in-Err-clause-made : goal.returns-in-Err-clause-made
returns-in-Err-clause-made g c =
    λ memory. refused_made (g.W.WordSpace.words c.args.space.now) c.args.fuse.now c.args.first c.args.parent.now (g.W.WordSpace.words c.arenas.space) c.arenas.fuse c.arenas.at c.arenas.arenas.items c.arenas.invariant.so_far (g.W.WordSpace.words c.open_arena.new.space) c.open_arena.new.fuse c.in-Err.fault (c.in-Err.ensures.answer (λ e. memory c.len-arena.result (ap (λ (f : OpenRefused). Err (record { arena = c.len-arena.result; fault = f })) (out e)))) (c.in-Err.ensures.made (λ e. memory c.len-arena.result (ap (λ (f : OpenRefused). Err (record { arena = c.len-arena.result; fault = f })) (out e))))

pub returns-in-Err-clause-memory : goal.returns-in-Err-clause-memory
returns-in-Err-clause-memory g c =
    λ k e.
    let untouched = c.in-Err.ensures.memory (ap (λ (f : OpenRefused). Err f) (same_fault (record { arena = c.len-arena.result; fault = c.in-Err.fault }) (wants_memory k) e)) in
    let here : RecoversFirst k (g.W.WordSpace.words c.args.space.now) (g.W.WordSpace.words c.arenas.space) c.args.fuse.now c.arenas.fuse c.args.parent.now c.args.first =
    subst (λ (n : ℕ). RecoversFirst n (g.W.WordSpace.words c.args.space.now) (g.W.WordSpace.words c.arenas.space) c.args.fuse.now c.arenas.fuse c.args.parent.now c.args.first)
    (sym (c.len-arena.ensures ∙ c.arenas.arenas.ok.0) ∙ same_number (record { arena = c.len-arena.result; fault = c.in-Err.fault }) (wants_memory k) e)
    (first_made (g.W.WordSpace.words c.args.space.now) c.args.fuse.now c.args.first c.args.parent.now (g.W.WordSpace.words c.arenas.space) c.arenas.fuse c.arenas.at c.arenas.arenas.items c.arenas.invariant.so_far) in
    rw (untouched.0, untouched.1) here
