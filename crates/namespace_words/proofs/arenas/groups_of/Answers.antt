use Rattle.std.proofs.Common.{◌≡◌, ◌++◌, ◌∷◌, ◌∙◌, ℕ, List, [], ap, sym, arith}
use Rattle.flog.specs.Group.{group_reading}
use Rattle.arena_open.proofs.Groups.{lanes_start, lanes_on, lanes_stop, lanes_end, with_front, from_lane, pushed}
use Rattle.namespace_words.proofs.arenas.groups_of.Goals as goal

pub loop-lane-init : goal.loop-lane-init
loop-lane-init c = λ words are.
    lanes_start c.args.layout.now words ∙ ap (λ gs. with_front gs (from_lane c.args.layout.now words 0 c.args.layout.now.lanes)) (sym c.new-groups.ensures)

pub loop-lane-preserved : goal.loop-lane-preserved
loop-lane-preserved c = λ words are.
    lanes_on c.args.layout.now words c.loop-lane.groups c.push.new.self c.loop-lane.lane c.args.layout.now.lanes c.in-Ok.group
    (omega arith) (c.loop-lane.invariant words are)
    (c.in-Ok.ensures.group ∙ ap (λ (ws : List ℕ). group_reading ws c.args.layout.now.external c.args.layout.now.internal) (c.log_group.ensures words c.args.layout.now are))
    (pushed c.push.result (c.push.new.self ≡ c.loop-lane.groups ++ c.in-Ok.group ∷ []) c.if-is_err.ensures.value c.push.ensures.ok)

pub returns-in-Err-clause-told : goal.returns-in-Err-clause-told
returns-in-Err-clause-told c = λ words are not_memory.
    lanes_stop c.args.layout.now words c.loop-lane.groups c.loop-lane.lane c.args.layout.now.lanes c.in-Err.fault
    (omega arith) (c.loop-lane.invariant words are)
    (c.in-Err.ensures.group ∙ ap (λ (ws : List ℕ). group_reading ws c.args.layout.now.external c.args.layout.now.internal) (c.log_group.ensures words c.args.layout.now are))

pub returns-clause-told : goal.returns-clause-told
returns-clause-told c = λ words are not_memory.
    lanes_end c.args.layout.now words c.loop-lane.groups c.loop-lane.lane c.args.layout.now.lanes (omega arith) (c.loop-lane.invariant words are)
