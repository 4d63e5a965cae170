use Rattle.std.proofs.Common.{◌∙◌, Err, ap, sym, arith}
use Rattle.namespace_ops.specs.declared.registry.OpenFault.{OpenFault}
use Rattle.namespace_ops.proofs.Sets.{blank, set_more, fault_found, none_found}
use Rattle.namespace_ops.proofs.registry.sets_of.Goals as goal

pub returns-in-Err-clause-sets : goal.returns-in-Err-clause-sets
returns-in-Err-clause-sets c = λ other.
    fault_found c.args.nfit.now.regions c.loop-region.region blank c.in-Err.fault (omega arith)
    (sym (c.set_of.ensures blank (λ wanting. other (ap (λ (f : OpenFault). Err f) (let e = sym c.in-Err.is ∙ wanting in cc)))) ∙ c.in-Err.is) c.loop-region.invariant.1

pub loop-region-preserved : goal.loop-region-preserved
loop-region-preserved c =
    set_more c.args.nfit.now.regions c.loop-region.region blank c.loop-region.sets c.push.new.self c.in-Ok.set (omega arith)
    (sym (c.set_of.ensures blank (λ wanting. (let e = sym c.in-Ok.is ∙ wanting in cc))) ∙ c.in-Ok.is) c.in_ok-push-in-Ok.ensures.ok c.loop-region.invariant.0 c.loop-region.invariant.1 c.loop-region.invariant.2

pub returns-clause-sets : goal.returns-clause-sets
returns-clause-sets c = λ other.
    none_found c.args.nfit.now.regions c.loop-region.region c.loop-region.sets (omega arith) c.loop-region.invariant.0 c.loop-region.invariant.1

pub returns-clause-few : goal.returns-clause-few
returns-clause-few c = let e = c.loop-region.invariant.2 in omega arith
