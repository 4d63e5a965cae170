use Rattle.std.proofs.Common.{◌≡◌, ◌++◌, ◌∷◌, [], true, sym, subst}
use Rattle.bio_queue.specs.Ops.{fits, kind_of}
use Rattle.bio_queue.specs.Serving.{MayMake, stand_of}
use Rattle.bio_queue.proofs.performing.perform.Goals as goal

pub returns-in-Read-clause-fits : goal.returns-in-Read-clause-fits
returns-in-Read-clause-fits g c = λ r t e. subst (λ o. (t ≡ r) × (fits (kind_of o) r ≡ true)) (sym c.in-Read.is) (c.perform_read.ensures.fits r t e)

pub returns-in-Read-clause-done : goal.returns-in-Read-clause-done
returns-in-Read-clause-done g c = λ r t e m w n done may.
    subst (λ o. MayMake c.args.sectors.now m w n (done ++ stand_of c.args.session.now.caller.call o r ∷ []) c.perform_read.new.session) (sym c.in-Read.is) (c.perform_read.ensures.done r t e m w n done may)

pub returns-in-Write-clause-fits : goal.returns-in-Write-clause-fits
returns-in-Write-clause-fits g c = λ r t e. subst (λ o. (t ≡ r) × (fits (kind_of o) r ≡ true)) (sym c.in-Write.is) (c.perform_write.ensures.fits r t e)

pub returns-in-Write-clause-done : goal.returns-in-Write-clause-done
returns-in-Write-clause-done g c = λ r t e m w n done may.
    subst (λ o. MayMake c.args.sectors.now m w n (done ++ stand_of c.args.session.now.caller.call o r ∷ []) c.perform_write.new.session) (sym c.in-Write.is) (c.perform_write.ensures.done r t e m w n done may)
