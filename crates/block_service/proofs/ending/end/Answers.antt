use Rattle.std.proofs.Common.{◌≡◌, ℕ, zero, suc, List, [], ◌∷◌, length, map, refl, sym, ap, ◌∙◌, subst, arith}
use Rattle.std.specs.Prelude.{All}
use lib.ListN.{length-map}
use Rattle.arena_open.specs.declared.state.ArenaState.{ArenaState}
use Rattle.arena_open.specs.Moves.{IsOpenState}
use Rattle.turn_lock.specs.Passes.{first_of}
use Rattle.lane_sessions.specs.Ending.{lists_of}
use Rattle.lane_sessions.specs.Left.{IsArenaLeft}
use Rattle.lane_sessions.specs.Sets.{AreSets}
use Rattle.block_service.specs.Served.{known_by}
use Rattle.bio_queue.specs.declared.bio.Completed.{Completed}
use Rattle.block_service.proofs.Rows.{all_rest, arena_left, know_all, know_before, parts, so_many}
use Rattle.block_service.proofs.ending.end.Goals as goal

one_open : (state : ArenaState) → IsOpenState state → All IsOpenState (state ∷ [])
one_open state is zero d lt = is
one_open state is (suc k) d lt = absurd (omega (arith, lt))

pub rest_all-requires : goal.rest_all-requires
rest_all-requires g c = know_before c.args.sectors (c.requires.made.0) (map (λ v. v.items) c.args.over.completed.items) c.args.over.sessions.items c.requires.sessions

pub close_sectors-requires-clause-every : goal.close_sectors-requires-clause-every
close_sectors-requires-clause-every g c =
    let rows = map (λ v. v.items) c.args.over.completed.items in
    let many = so_many c.args.sectors (c.requires.made.0) rows c.args.over.sessions.items c.requires.sessions c.in_ok-sessions.sessions.items c.in_ok-sessions.ensures in
    let long = length-map c.args.over.completed.items (λ v. v.items) in
    let callers = c.requires.callers in
    omega (arith, many, long, callers)

pub close_sectors-requires-clause-sets : goal.close_sectors-requires-clause-sets
close_sectors-requires-clause-sets g c =
    let rows = map (λ v. v.items) c.args.over.completed.items in
    let many = so_many c.args.sectors (c.requires.made.0) rows c.args.over.sessions.items c.requires.sessions c.in_ok-sessions.sessions.items c.in_ok-sessions.ensures in
    let long = length-map c.args.over.completed.items (λ v. v.items) in
    subst (λ (n : ℕ). AreSets n c.args.sectors.arenas.items (first_of c.args.sectors.pool.turn).first (lists_of c.args.aside.items)) (sym (many ∙ long)) c.requires.sets

pub close_sectors-requires-clause-known : goal.close_sectors-requires-clause-known
close_sectors-requires-clause-known g c =
    let rows = map (λ v. v.items) c.args.over.completed.items in
    let s = c.args.sectors in
    let state = c.requires.made.0 in
    let xs = c.args.over.sessions.items in
    let ys = c.in_ok-sessions.sessions.items in
    (parts s state rows xs c.requires.sessions ys c.in_ok-sessions.ensures, know_all s state rows xs c.requires.sessions ys c.in_ok-sessions.ensures)

pub close_sectors-requires-clause-rest : goal.close_sectors-requires-clause-rest
close_sectors-requires-clause-rest g c = all_rest c.args.sectors (c.requires.made.0) (map (λ v. v.items) c.args.over.completed.items) c.args.over.sessions.items c.requires.sessions c.in_ok-sessions.sessions.items c.in_ok-sessions.ensures

pub last_words-words-requires : goal.last_words-words-requires
last_words-words-requires g c =
    let rows = map (λ v. v.items) c.args.over.completed.items in
    let s = c.args.sectors in
    let made = c.requires.made in
    let state = made.0 in
    let xs = c.args.over.sessions.items in
    let ys = c.in_ok-sessions.sessions.items in
    let left = c.in_ok-ended.ensures.left (state ∷ []) (parts s state rows xs c.requires.sessions ys c.in_ok-sessions.ensures) made.1 (one_open state made.2) (know_all s state rows xs c.requires.sessions ys c.in_ok-sessions.ensures) in
    let a = left.count in
    let b = made.1.count in
    omega (arith, a, b)

pub returns-clause-arena : goal.returns-clause-arena
returns-clause-arena g c state made opened =
    let rows = map (λ v. v.items) c.args.over.completed.items in
    let s = c.args.sectors in
    let xs = c.args.over.sessions.items in
    let ys = c.in_ok-sessions.sessions.items in
    let left = c.in_ok-ended.ensures.left (state ∷ []) (parts s state rows xs c.requires.sessions ys c.in_ok-sessions.ensures) made (one_open state opened) (know_all s state rows xs c.requires.sessions ys c.in_ok-sessions.ensures) in
    let w = c.last_words-words.result in
    subst (λ (n : ℕ). IsArenaLeft n state (known_by rows) w) (length-map c.args.over.completed.items (λ v. v.items))
    (arena_left s state rows xs c.requires.sessions ys c.in_ok-sessions.ensures (length ys) (length s.arenas.items) c.in_ok-ended.ended.words.items c.last_words-words.new.words.items w refl made.count c.last_words-words.ensures left)
