use Rattle.std.proofs.Common.{◌≢◌, sym, ◌∙◌}
use Rattle.std.proofs.lemmas.Bool.{false≢true}
use Rattle.std.proofs.lemmas.Slice.Eq.{bytes_eq-Decides}
use Rattle.region_space.proofs.Reaches.{with_same, with_further, with_nearer}
use Rattle.region_space.proofs.reach.Reach.with.Goals as goal

pub returns-then-eq : goal.returns-then-eq
returns-then-eq c =
    let r = c.args.self.now in
    let e = c.args.extent.now in
    rw (c.max.ensures, c.end-end.ensures) (with_same r e ((bytes_eq-Decides e.owner r.owner).0 (sym c.eq.ensures ∙ c.if-eq.true)))

pub returns-then-end-self : goal.returns-then-end-self
returns-then-end-self c =
    let r = c.args.self.now in
    let e = c.args.extent.now in
    let apart : e.owner ≢ r.owner = λ same. false≢true (sym c.if-eq.false ∙ c.eq.ensures ∙ (bytes_eq-Decides e.owner r.owner).1 same) in
    rw c.end-end.ensures (with_further r e apart (rw c.end-end.ensures at c.if-end-self.true))

pub returns-else-end-self : goal.returns-else-end-self
returns-else-end-self c =
    let r = c.args.self.now in
    let e = c.args.extent.now in
    let apart : e.owner ≢ r.owner = λ same. false≢true (sym c.if-eq.false ∙ c.eq.ensures ∙ (bytes_eq-Decides e.owner r.owner).1 same) in
    rw (c.max-else-end-self.ensures, c.end-end.ensures) (with_nearer r e apart (rw c.end-end.ensures at c.if-end-self.false))
