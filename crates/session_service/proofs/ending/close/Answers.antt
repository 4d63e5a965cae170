use Rattle.std.proofs.Common.{◌≡◌, ◌≤◌, ℕ, false, length, map, sym, ap, ◌∙◌, subst}
use Rattle.std.proofs.lemmas.List.{length-map}
use Rattle.std.specs.Prelude.{All}
use Rattle.turn_lock.specs.Passes.{callers_of, first_of, IsOutside, HasEach}
use Rattle.namespace_areas.specs.Seen.{AreHeld, areas_shown, words_of}
use Rattle.namespace_areas.specs.Steps.{rows_of}
use Rattle.namespace_ops.specs.Registered.{kept_of, opening_of, state_of}
use Rattle.lane_sessions.specs.Ending.{AreArenasLeft, lists_of}
use Rattle.lane_sessions.specs.Sets.{AreSets}
use Rattle.session_account.specs.Journal.{AreLeft, IsJournal}
use Rattle.session_account.specs.Registering.{IsOn}
use Rattle.session_account.specs.Words.{AreasHold}
use Rattle.session_account.proofs.Registering.{on_is_journal}
use Rattle.lane_core.specs.declared.arena_words.ArenaWords.{ArenaWords}
use Rattle.registry_service.specs.Parts.{KnowsOwn}
use Rattle.registry_service.specs.Served.{AreKept, Served, answered}
use Rattle.session_service.specs.declared.ending.Ran.{Ran}
use Rattle.session_service.specs.declared.runner.Runner.{Runner}
use Rattle.session_service.specs.Ends.{two_valued}
use Rattle.session_service.specs.Namespaces.{arenas_in, servings_at}
use Rattle.session_service.specs.Services.{arenas_of, orders_of}
use Rattle.session_service.proofs.Accounting as all
use Rattle.session_service.proofs.ending.close.Goals as goal

pub close_sectors-requires-clause-every : goal.close_sectors-requires-clause-every
close_sectors-requires-clause-every c = ap length c.in_ok-handed.ensures.sessions ∙ length-map c.args.runners.items (λ (r : Runner). r.session) ∙ c.requires.count ∙ sym c.requires.made.2.callers

pub close_sectors-requires-clause-sets : goal.close_sectors-requires-clause-sets
close_sectors-requires-clause-sets c =
    let service = c.args.service in
    let n = ap length c.in_ok-handed.ensures.sessions ∙ length-map c.args.runners.items (λ (r : Runner). r.session) ∙ c.requires.count in
    subst (λ (n : ℕ). AreSets n service.sectors.arenas.items (first_of service.sectors.pool.turn).first (lists_of service.aside.items)) (sym n) c.requires.made.2.sets

pub close_sectors-requires-clause-known : goal.close_sectors-requires-clause-known
close_sectors-requires-clause-known c =
    let lasted = subst (λ rs. All (λ r. r.refused ≡ false) rs) c.as_slice.ensures.value (c.lasted.ensures c.if-not-lasted.false) in
    let rs = c.args.runners.items in
    (all.parts_of c.args.service c.args.script.now rs c.requires.ended lasted, all.know_all c.args.service c.args.script.now rs c.requires.ended lasted c.in_ok-handed.handed.sessions.items c.in_ok-handed.ensures.sessions)

pub close_sectors-requires-clause-rest : goal.close_sectors-requires-clause-rest
close_sectors-requires-clause-rest c =
    let lasted = subst (λ rs. All (λ r. r.refused ≡ false) rs) c.as_slice.ensures.value (c.lasted.ensures c.if-not-lasted.false) in
    all.all_rest c.args.service c.args.script.now c.args.runners.items c.requires.ended lasted c.in_ok-handed.handed.sessions.items c.in_ok-handed.ensures.sessions

pub ends_of-requires : goal.ends_of-requires
ends_of-requires c =
    let service = c.args.service in
    let made = c.requires.made.2 in
    let lasted = subst (λ rs. All (λ r. r.refused ≡ false) rs) c.as_slice.ensures.value (c.lasted.ensures c.if-not-lasted.false) in
    let rs = c.args.runners.items in
    let parts = all.parts_of service c.args.script.now rs c.requires.ended lasted in
    let sessions = c.in_ok-handed.handed.sessions.items in
    let left = c.in_ok-ended.ensures.left (arenas_of service) parts made.made made.opened (all.know_all service c.args.script.now rs c.requires.ended lasted sessions c.in_ok-handed.ensures.sessions) in
    all.have_both (length sessions) (arenas_of service) parts (length service.sectors.arenas.items) c.in_ok-ended.ended.words.items left (left.count ∙ made.made.count)

pub split-requires : goal.split-requires
split-requires c =
    let service = c.args.service in
    let made = c.requires.made.2 in
    let lasted = subst (λ rs. All (λ r. r.refused ≡ false) rs) c.as_slice.ensures.value (c.lasted.ensures c.if-not-lasted.false) in
    let rs = c.args.runners.items in
    let parts = all.parts_of service c.args.script.now rs c.requires.ended lasted in
    let words = c.in_ok-ended.ended.words.items in
    let left = c.in_ok-ended.ensures.left (arenas_of service) parts made.made made.opened (all.know_all service c.args.script.now rs c.requires.ended lasted c.in_ok-handed.handed.sessions.items c.in_ok-handed.ensures.sessions) in
    let row : length c.in_ok-row.row.items ≡ length words = ap length c.in_ok-row.ensures ∙ length-map words (λ (w : ArenaWords). two_valued w.kept.items w.seen.items) in
    subst (λ ps. length (arenas_in (servings_at ps)) ≡ length c.in_ok-row.row.items) (sym c.as_slice-places.ensures.value)
    (all.many_arenas c.requires.made.0 c.requires.made.1 c.args.script.now service made ∙ sym (left.count ∙ made.made.count) ∙ sym row)

pub close_registry-registry-requires-clause-all : goal.close_registry-registry-requires-clause-all
close_registry-registry-requires-clause-all c =
    let service = c.args.service in
    let lasted = subst (λ rs. All (λ r. r.refused ≡ false) rs) c.as_slice.ensures.value (c.lasted.ensures c.if-not-lasted.false) in
    let rs = c.args.runners.items in
    let facts = all.order_facts service c.args.script.now rs c.requires.ended lasted in
    record {
      passes = subst (λ ps. All (λ p. IsOutside (orders_of service) p) ps) (sym c.in_ok-handed.ensures.orders) (all.all_outside (λ r. r.orders) (orders_of service) rs facts);
      every = subst (λ ps. HasEach (callers_of service.registry.turn) ps) (sym c.in_ok-handed.ensures.orders) (all.has_all (λ r. r.orders) (orders_of service) rs facts (callers_of service.registry.turn) (c.requires.made.2.orders ∙ sym c.requires.count));
    }

pub returns : goal.returns
returns c = λ registry served made.
    let service = c.args.service in
    let script = c.args.script.now in
    let rs = c.args.runners.items in
    let lasted = subst (λ rs. All (λ r. r.refused ≡ false) rs) c.as_slice.ensures.value (c.lasted.ensures c.if-not-lasted.false) in
    let h = c.in_ok-handed.ensures in
    let sessions = c.in_ok-handed.handed.sessions.items in
    let parts = all.parts_of service script rs c.requires.ended lasted in
    let words = c.in_ok-ended.ended.words.items in
    let n : length sessions ≡ length script.sessions = ap length h.sessions ∙ length-map rs (λ (r : Runner). r.session) ∙ c.requires.count in
    let left = subst (λ (n : ℕ). AreArenasLeft n (arenas_of service) parts (length service.sectors.arenas.items) words) n
    (c.in_ok-ended.ensures.left (arenas_of service) parts made.made made.opened (all.know_all service script rs c.requires.ended lasted sessions h.sessions)) in
    let cl = c.close_registry-registry.ensures in
    let journal = answered c.close_registry-registry.result.0.journal in
    let ran : Ran = record { registry = c.close_registry-registry.result.0; arenas = c.in_ok-arenas.arenas; texts = c.in_ok-handed.handed.texts } in
    let split = c.in_ok-arenas.ensures in
    all.has_served registry served script service made rs c.requires.count c.requires.ended lasted words left ran
    (split.arenas ∙ c.in_ok-row.ensures)
    (subst (λ ps. map (λ c. length c.items) c.in_ok-arenas.arenas.items ≡ map (λ s. length s.arenas) (servings_at ps)) c.as_slice-places.ensures.value split.counts) h.texts
    (subst (λ ps. All (λ p. KnowsOwn c.close_registry-registry.result.0 p) ps) h.orders cl.callers)
    (λ q over. cl.strangers q (subst (λ (n : ℕ). n ≤ q) (sym made.orders) over))
    (all.told_of_one service script rs c.requires.ended lasted (length script.sessions) c.requires.count journal sessions h.sessions c.in_ok-ended.ended.off c.in_ok-ended.ensures.off)
    (subst (λ (x : Served). (c.close_registry-registry.result.0.sets ≡ x.registry.sets) × AreKept x.registry.opening c.close_registry-registry.result.0.areas c.close_registry-registry.result.0.stopped) made.orders_first cl.areas)
    (subst (λ (x : Served). IsJournal x.registry.sets (opening_of x.registry) x.first journal) made.orders_first cl.journal)
    (λ run. (on_is_journal registry.sets (opening_of registry) (kept_of (state_of c.close_registry-registry.result.0)) (rows_of registry.opening) (rows_of c.close_registry-registry.result.0.areas) script.labelcut c.close_registry-registry.result.1 journal
    (subst (λ (x : Served). IsOn x.registry.sets (opening_of x.registry) (rows_of x.registry.opening) x.first journal (kept_of (state_of c.close_registry-registry.result.0)) (rows_of c.close_registry-registry.result.0.areas) c.close_registry-registry.result.1) made.orders_first (cl.on run))).1)
    (λ off rows left. subst (λ (x : Served). AreLeft x.registry.sets (opening_of x.registry) x.first journal (areas_shown rows)) made.orders_first (cl.left off rows left))
    (subst (λ (x : Served). AreHeld x.registry.opening → AreasHold x.registry.sets (opening_of x.registry) (rows_of x.registry.opening) x.first journal (map words_of c.close_registry-registry.result.0.areas)) made.orders_first cl.words)
