use Rattle.std.proofs.Common.{ℕ, ◌≡◌, true, false, Option, Some, Ok, refl, sym, ap, ◌∙◌, subst}
use Rattle.label_area.specs.Change.{slot_of_put, IsFreeSlot}
use Rattle.label_area.specs.State.{AreaState}
use Rattle.label_area.specs.Opened.{IsReady}
use Rattle.label_area.specs.Replace.{IsUsedSlot, IsInside, IsChanged, change_answer}
use Rattle.label_area.proofs.Opened.{ready_current}
use Rattle.label_area.proofs.Replaced.{slots_inside, can_write, labels_count, steps_next, cut_changed, done_changed, now_changed, cut_answer, done_answer, changed_ready}
use Rattle.label_area.proofs.labels.LabelArea.change.Goals as goal

pub turn-requires-clause-low : goal.turn-requires-clause-low
turn-requires-clause-low c =
    let ready = c.self.invariant (ap (λ (a : AreaState). a.stopped) c.self.view_is ∙ c.requires.running) in
    (ready_current _ ready).seq.low

pub turn-requires-clause-high : goal.turn-requires-clause-high
turn-requires-clause-high c =
    let ready = c.self.invariant (ap (λ (a : AreaState). a.stopped) c.self.view_is ∙ c.requires.running) in
    (ready_current _ ready).seq.high

pub turn-requires-clause-inside : goal.turn-requires-clause-inside
turn-requires-clause-inside c =
    let ready = c.self.invariant (ap (λ (a : AreaState). a.stopped) c.self.view_is ∙ c.requires.running) in
    let free = subst (λ (a : AreaState). IsFreeSlot a.block.free (slot_of_put c.args.put.now)) (sym c.self.view_is) c.requires.free in
    slots_inside _ ready c.args.out c.args.put.now free
    (subst (λ (a : AreaState). (k : ℕ) → c.args.out ≡ Some k → IsUsedSlot a.block.free k) (sym c.self.view_is) c.requires.used)

pub write_spelled-requires : goal.write_spelled-requires
write_spelled-requires c =
    let ready = c.self.invariant (ap (λ (a : AreaState). a.stopped) c.self.view_is ∙ c.requires.running) in
    let free = subst (λ (a : AreaState). IsFreeSlot a.block.free (slot_of_put c.args.put.now)) (sym c.self.view_is) c.requires.free in
    rw c.turn.ensures (can_write _ ready c.args.out c.args.put.now free c.requires.sound)

pub relabel-requires : goal.relabel-requires
relabel-requires c =
    let ready = c.self.invariant (ap (λ (a : AreaState). a.stopped) c.self.view_is ∙ c.requires.running) in
    let free = subst (λ (a : AreaState). IsFreeSlot a.block.free (slot_of_put c.args.put.now)) (sym c.self.view_is) c.requires.free in
    subst (λ (n : ℕ). IsInside n c.args.out c.args.put.now) (sym (labels_count _ ready))
    (slots_inside _ ready c.args.out c.args.put.now free
    (subst (λ (a : AreaState). (k : ℕ) → c.args.out ≡ Some k → IsUsedSlot a.block.free k) (sym c.self.view_is) c.requires.used))

pub invariant_of-self : goal.invariant_of-self
invariant_of-self c running =
    let ready = c.self.invariant running in
    let free = subst (λ (a : AreaState). IsFreeSlot a.block.free (slot_of_put c.args.put.now)) (sym c.self.view_is) c.requires.free in
    let steps = steps_next c.self.inside.words c.write_spelled.new.words c.args.fuse.now c.write_spelled.new.fuse c.self.inside.block c.args.out c.args.put.now c.turn.new.block true c.turn.ensures c.in-Ok.ensures.made in
    subst IsReady
    (sym (now_changed _ ready c.args.out c.args.put.now free c.write_spelled.ensures.writable c.write_spelled.new.words c.turn.new.block c.relabel.new.labels c.self.inside.stopped c.args.fuse.now c.write_spelled.new.fuse
    steps c.turn.ensures c.relabel.ensures running))
    (changed_ready _ ready c.args.out c.args.put.now free c.write_spelled.ensures.writable)

pub returns-in-Ok-clause-answer : goal.returns-in-Ok-clause-answer
returns-in-Ok-clause-answer c =
    let ready = c.self.invariant (ap (λ (a : AreaState). a.stopped) c.self.view_is ∙ c.requires.running) in
    let free = subst (λ (a : AreaState). IsFreeSlot a.block.free (slot_of_put c.args.put.now)) (sym c.self.view_is) c.requires.free in
    let steps = steps_next c.self.inside.words c.write_spelled.new.words c.args.fuse.now c.write_spelled.new.fuse c.self.inside.block c.args.out c.args.put.now c.turn.new.block true c.turn.ensures c.in-Ok.ensures.made in
    ap (λ (slot : Option ℕ). Ok slot) c.slot_of.ensures
    ∙ done_answer _ ready c.args.out c.args.put.now free c.write_spelled.ensures.writable c.write_spelled.new.words c.args.fuse.now c.write_spelled.new.fuse steps
    ∙ ap (λ (a : AreaState). change_answer a.block c.args.fuse.now c.args.put.now) c.self.view_is

pub returns-in-Ok-clause-change : goal.returns-in-Ok-clause-change
returns-in-Ok-clause-change c =
    let running = ap (λ (a : AreaState). a.stopped) c.self.view_is ∙ c.requires.running in
    let ready = c.self.invariant running in
    let free = subst (λ (a : AreaState). IsFreeSlot a.block.free (slot_of_put c.args.put.now)) (sym c.self.view_is) c.requires.free in
    let steps = steps_next c.self.inside.words c.write_spelled.new.words c.args.fuse.now c.write_spelled.new.fuse c.self.inside.block c.args.out c.args.put.now c.turn.new.block true c.turn.ensures c.in-Ok.ensures.made in
    let after : AreaState = record { words = c.write_spelled.new.words; block = c.turn.new.block; labels = c.relabel.new.labels; stopped = c.self.inside.stopped } in
    subst (λ (a : AreaState). IsChanged a after c.args.fuse.now c.write_spelled.new.fuse c.args.out c.args.put.now) c.self.view_is
    (done_changed _ ready c.args.out c.args.put.now free c.write_spelled.ensures.writable after c.args.fuse.now c.write_spelled.new.fuse
    (now_changed _ ready c.args.out c.args.put.now free c.write_spelled.ensures.writable c.write_spelled.new.words c.turn.new.block c.relabel.new.labels c.self.inside.stopped c.args.fuse.now c.write_spelled.new.fuse
    steps c.turn.ensures c.relabel.ensures running)
    steps)

pub returns-in-Err-clause-answer : goal.returns-in-Err-clause-answer
returns-in-Err-clause-answer c =
    let ready = c.self.invariant (ap (λ (a : AreaState). a.stopped) c.self.view_is ∙ c.requires.running) in
    let free = subst (λ (a : AreaState). IsFreeSlot a.block.free (slot_of_put c.args.put.now)) (sym c.self.view_is) c.requires.free in
    let steps = steps_next c.self.inside.words c.write_spelled.new.words c.args.fuse.now c.write_spelled.new.fuse c.self.inside.block c.args.out c.args.put.now c.turn.new.block false c.turn.ensures c.in-Err.ensures.made in
    cut_answer _ ready c.args.out c.args.put.now free c.write_spelled.ensures.writable c.write_spelled.new.words c.args.fuse.now c.write_spelled.new.fuse steps
    ∙ ap (λ (a : AreaState). change_answer a.block c.args.fuse.now c.args.put.now) c.self.view_is

pub returns-in-Err-clause-change : goal.returns-in-Err-clause-change
returns-in-Err-clause-change c =
    let ready = c.self.invariant (ap (λ (a : AreaState). a.stopped) c.self.view_is ∙ c.requires.running) in
    let free = subst (λ (a : AreaState). IsFreeSlot a.block.free (slot_of_put c.args.put.now)) (sym c.self.view_is) c.requires.free in
    let steps = steps_next c.self.inside.words c.write_spelled.new.words c.args.fuse.now c.write_spelled.new.fuse c.self.inside.block c.args.out c.args.put.now c.turn.new.block false c.turn.ensures c.in-Err.ensures.made in
    let after : AreaState = record { words = c.write_spelled.new.words; block = c.turn.new.block; labels = c.self.inside.labels; stopped = true } in
    subst (λ (a : AreaState). IsChanged a after c.args.fuse.now c.write_spelled.new.fuse c.args.out c.args.put.now) c.self.view_is
    (cut_changed _ ready c.args.out c.args.put.now free c.write_spelled.ensures.writable after c.args.fuse.now c.write_spelled.new.fuse refl steps)
