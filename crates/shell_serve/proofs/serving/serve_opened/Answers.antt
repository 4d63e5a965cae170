use Rattle.std.proofs.Common.{◌≡◌, ℕ, List, [], length, sym, ap, ◌∙◌, subst}
use Rattle.image_set.specs.Patches.{patched_contents}
use Rattle.namespace_areas.specs.declared.area.Area.{Area}
use Rattle.namespace_bytes.specs.Patching.{all_patched}
use Rattle.sector_namespaces.specs.View.{rows_of}
use Rattle.shell_serve.specs.Answering.{IsServed}
use Rattle.shell_serve.specs.Chosen.{LeavesTo}
use Rattle.shell_serve.proofs.Choosing.{all_in_turn}
use Rattle.shell_serve.proofs.Opens.{each_of, held_on, puts_whole, reach_all}
use Rattle.shell_serve.proofs.Served.{areas_count, is_ready, is_served, opened_all}
use Rattle.shell_serve.proofs.serving.serve_opened.Goals as goal

pub run_all-requires-clause-unused : goal.run_all-requires-clause-unused
run_all-requires-clause-unused g c = λ κs lives.
    let r = c.requires.open.1.recovered in
    record {
      running = r.fresh.running;
      first = r.fresh.journal;
      roomless = r.fresh.room;
      opening = (r.is []).opening;
    }

pub run_all-requires-clause-opened : goal.run_all-requires-clause-opened
run_all-requires-clause-opened g c = λ κs lives.
    opened_all c.args.opened c.in_ok-parted.parted.served.items c.in_ok-parted.ensures.served (λ o there. (each_of c.args.set.registry.sets c.args.opened c.requires.open.1.each o there).are_open.each)

pub patch_of-requires : goal.patch_of-requires
patch_of-requires g c = (
  c.args.opened,
  is_ready c.requires.open.0 c.args.set c.args.opened c.requires.open.1 c.in_ok-parted.parted.served.items c.in_ok-parted.ensures.served c.args.script.now c.in_ok-ran.ran c.in_ok-ran.ensures
      c.in_ok-words.words.items c.in_ok-words.ensures.cut c.deref.result.now c.into_parts-sets.result.0 (c.deref.ensures.value ∙ c.in_ok-parted.ensures.places) c.into_parts-sets.ensures.sets,
)

pub returns-clause-count : goal.returns-clause-count
returns-clause-count g c =
    ap (λ (xs : List Area). length xs) c.into_parts-sets.ensures.areas
    ∙ areas_count c.requires.open.0 c.args.set c.args.opened c.requires.open.1 c.in_ok-parted.parted.served.items c.in_ok-parted.ensures.served c.args.script.now c.in_ok-ran.ran c.in_ok-ran.ensures
    c.in_ok-words.words.items c.in_ok-words.ensures.cut

pub returns-clause-served : goal.returns-clause-served
returns-clause-served g c = λ outline contents is holds.
    let leaves = LeavesTo g.C.Chooser.begins g.C.Chooser.picks c.args.choose.now c.args.running.seed c.cut_all.new.choose in
    let now = rows_of (patched_contents (all_patched c.in_ok-patch.patch) contents) in
    let ready = is_ready outline c.args.set c.args.opened is c.in_ok-parted.parted.served.items c.in_ok-parted.ensures.served c.args.script.now c.in_ok-ran.ran c.in_ok-ran.ensures
    c.in_ok-words.words.items c.in_ok-words.ensures.cut c.deref.result.now c.into_parts-sets.result.0 (c.deref.ensures.value ∙ c.in_ok-parted.ensures.places) c.into_parts-sets.ensures.sets in
    let sets : c.into_parts-sets.result.0 ≡ c.args.set.registry.sets = c.into_parts-sets.ensures.sets ∙ c.in_ok-ran.ensures.sets in
    let left = c.in_ok-patch.ensures c.args.opened contents ready (held_on c.args.set.registry.sets c.into_parts-sets.result.0 contents c.args.opened sets holds.held) (puts_whole outline c.args.set is.recovered contents holds.sizes)
    (reach_all outline c.args.set is.recovered c.into_parts-sets.result.0 sets contents holds.sizes) in
    subst (λ (xs : List Area). IsServed leaves c.args.set.registry.sets c.args.set.registry.areas xs contents c.args.opened c.args.script.now (rows_of (patched_contents (all_patched c.in_ok-patch.patch) contents)) c.in_ok-ran.ran.texts.items)
    (sym c.into_parts-sets.ensures.areas)
    (is_served outline c.args.set c.args.opened is c.in_ok-parted.parted.served.items c.in_ok-parted.ensures.served c.args.script.now c.in_ok-ran.ran c.in_ok-ran.ensures c.in_ok-words.words.items c.in_ok-words.ensures.cut contents
    leaves (c.begin.new.self, c.begin.ensures, all_in_turn g.C.Chooser.picks c.in_ok-ran.ran.arenas.items c.in_ok-words.words.items c.begin.new.self c.cut_all.new.choose c.in_ok-words.ensures.asked)
    now c.into_parts-sets.result.0 c.into_parts-sets.ensures.sets left)
