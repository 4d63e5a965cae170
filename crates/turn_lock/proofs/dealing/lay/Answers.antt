use Rattle.std.proofs.Common.{Some, None, [], ◌∷◌, ◌++◌, sym, ap, ◌∙◌, subst}
use Rattle.std.proofs.Math.ListN.{replicate}
use Rattle.atomic_table.specs.Table.{opening}
use Rattle.turn_lock.specs.declared.table.Role.TheVariants.{Dealer}
use Rattle.turn_lock.specs.Turns.{Turning, slots_with, words_with}
use Rattle.turn_lock.proofs.Keeps.{begins}
use Rattle.turn_lock.proofs.dealing.lay.Goals as goal

pub new-requires : goal.new-requires
new-requires g c =
    let part = g.T.Parted.part in
    let value = c.args.value in
    let front = c.in_ok-add_empty.ensures ∙ ap (λ s. s ++ replicate 4 None) c.new-slots.ensures.items in
    let used = c.in_ok-push.ensures.items ∙ ap (λ s. s ++ Some value ∷ []) front in
    let items = c.in_ok-add_empty-2.ensures ∙ ap (λ s. s ++ replicate 3 None) used in
    let start = begins part c.args.callers value in
    subst (λ s. Turning part c.args.callers c.of.result.value (opening (words_with 0) s (Dealer 0 c.of.result.value))) (sym items)
    (subst (λ x. Turning part c.args.callers x (opening (words_with 0) (slots_with (Some value)) (Dealer 0 x))) (sym c.of.ensures) start)
