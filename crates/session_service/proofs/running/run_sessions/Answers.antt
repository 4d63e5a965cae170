use Rattle.std.proofs.Common.{rules, sym, subst}
use denote.Exit as exit
use denote.Param.Send.{sendable, shr_sync}
use Rattle.session_script.proofs.script.Script.TheSendSync as script
use Rattle.session_service.specs.declared.runner.Runner.{Runner}
use Rattle.session_service.specs.Runners.{IsRunnerReady}
use Rattle.session_service.proofs.Sending.{closure_sync, runner_send, service_sync}
use Rattle.session_service.proofs.running.run_sessions.Goals as goal

pub for_each-requires-send-T : goal.for_each-requires-send-T
for_each-requires-send-T g c κs within = search (runner_send, sendable)

pub for_each-requires-sync-F : goal.for_each-requires-sync-F
for_each-requires-sync-F g c κs within = closure_sync _ exit.no _ _ _ _ _ (shr_sync _ _ _ c.type_bounds.sync-R) (shr_sync _ _ _ c.type_bounds.sync-G) (shr_sync _ _ _ service_sync) (shr_sync _ _ _ script.the_sync)

pub for_each-requires-clause-accepts : goal.for_each-requires-clause-accepts
for_each-requires-clause-accepts g c κs within = λ i p h is.
    let may = c.requires.ready i p.now h in
    let ready : IsRunnerReady c.args.service.now c.args.script.now i p.now = subst (λ (r : Runner). IsRunnerReady c.args.service.now c.args.script.now i r) (sym is) may.1 in
    let near = may.0 in
    search rules
