use Rattle.std.proofs.Common.{◌≡◌, ◌++◌, ◌∷◌, [], sym, ap, ◌∙◌, refl, append_assoc}
use Rattle.std.proofs.lemmas.List.{append-nil}
use Rattle.nfit_reader.proofs.Twice.{again_or_same}
use Rattle.nfit_reader.specs.Table.{twice_in}
use Rattle.nfit_reader.proofs.names.named.Goals as goal

pub loop-structure-init : goal.loop-structure-init
unfolding twice_in
loop-structure-init c = ([], sym (append-nil _), c.new-names.ensures, refl)

pub loop-structure-preserved : goal.loop-structure-preserved
loop-structure-preserved c =
    let inv = c.loop-structure.invariant in
    let rest = inv.0 in
    let s = c.in-Some.structure in
    let popped : c.loop-structure.left.items ≡ c.pop.new.self.items ++ s ∷ [] = c.in-Some.ensures.items in (
      s ∷ rest,
      inv.1 ∙ ap (λ xs. xs ++ rest) popped ∙ append_assoc c.pop.new.self.items (s ∷ []) rest,
      c.in_ok-add.ensures.named rest inv.2,
      c.or-twice.ensures ∙ again_or_same _ _ s rest (c.in_ok-add.ensures.again rest inv.2) inv.3,
    )
