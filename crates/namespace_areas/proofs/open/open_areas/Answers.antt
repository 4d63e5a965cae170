use Rattle.std.proofs.Common.{◌∙◌, ◌++◌, ◌∷◌, [], map, sym, ap}
use Rattle.std.proofs.lemmas.List.{append_assoc, map-append}
use Rattle.std.proofs.lemmas.List.Elements.{All-rest}
use Rattle.namespace_areas.specs.Opening.{opened_as, IsWhole}
use Rattle.namespace_areas.proofs.open.open_areas.Goals as goal

pub loop-words-preserved : goal.loop-words-preserved
loop-words-preserved c =
    let i = c.loop-words.invariant in
    let part = c.in-Some.words in
    record {
      rest = append_assoc c.loop-words.yielded (part ∷ []) c.next.new.self.rest.items ∙ ap (λ r. c.loop-words.yielded ++ r) (sym c.in-Some.ensures.steps.0) ∙ i.rest;
      whole = All-rest IsWhole part c.next.new.self.rest.items c.loop-words.words-iterator.rest.items c.in-Some.ensures.steps.0 i.whole;
      opened =
          c.in_ok-push.ensures.ok ∙ ap (λ xs. xs ++ c.in_ok-area_of.field-0 ∷ []) i.opened ∙ ap (λ x. map opened_as c.loop-words.yielded ++ x ∷ []) c.in_ok-area_of.ensures
          ∙ sym (map-append opened_as c.loop-words.yielded (part ∷ []));
    }
