use Rattle.std.proofs.Common.{◌≢◌, ◌∙◌, Err, ap, subst}
use Rattle.namespace_map.specs.declared.refused.OpRefused.TheVariants.{OutOfMemory}
use Rattle.namespace_ops.specs.Counted.{State}
use Rattle.namespace_ops.specs.Registered.{state_of}
use Rattle.shell_changes.specs.Going.{IsCounted, Runs}
use Rattle.shell_changes.proofs.Runs.{answered_runs, is_counted}
use Rattle.shell_changes.proofs.running.carry_out.Goals as goal

pub returns-clause-runs : goal.returns-clause-runs
returns-clause-runs c =
    let old = state_of c.reserve.new.self in
    let new = state_of c.carry_out-reply.new.self in
    let reply = c.carry_out-reply.result in
    let same = c.in_ok-reserve.ensures.state in
    let other : reply ≢ Err OutOfMemory = c.wants_memory.ensures.wants_not c.if-wants_memory.false in
    subst (λ (s : State). Runs s.sets s.areas new.areas c.args.fuse.now c.carry_out-reply.new.fuse c.args.change.now reply) same
    (answered_runs old new c.args.fuse.now c.carry_out-reply.new.fuse c.args.change.now reply (ap (λ (s : State). s.claims) same ∙ c.requires.fresh.claims)
    (ap (λ (s : State). s.stopped) same ∙ c.requires.fresh.running) other c.carry_out-reply.ensures.answered)

pub returns-clause-counted : goal.returns-clause-counted
returns-clause-counted c =
    let old = state_of c.reserve.new.self in
    let reply = c.carry_out-reply.result in
    let same = c.in_ok-reserve.ensures.state in
    let other : reply ≢ Err OutOfMemory = c.wants_memory.ensures.wants_not c.if-wants_memory.false in
    subst (λ (s : State). IsCounted s.sets s.areas c.args.change.now c.args.fuse.now c.carry_out-reply.new.formatter.begun) same
    (is_counted old c.args.counted.now c.carry_out-reply.new.formatter c.args.fuse.now c.args.change.now reply (ap (λ (s : State). s.claims) same ∙ c.requires.fresh.claims)
    (ap (λ (s : State). s.stopped) same ∙ c.requires.fresh.running) other c.requires.none c.carry_out-reply.ensures.formats)

pub returns-clause-sets : goal.returns-clause-sets
returns-clause-sets c = c.carry_out-reply.ensures.answered.sets ∙ ap (λ (s : State). s.sets) c.in_ok-reserve.ensures.state
