use Rattle.std.proofs.Common.{◌≡◌, Option, Some, Err, List, ℕ, refl, sym, ap, ◌∙◌, subst}
use Rattle.std.specs.Prelude.{IfOk}
use Rattle.session_account.specs.declared.reply.Reply.{Reply}
use Rattle.session_account.specs.declared.reply.Reply.TheVariants as reply
use Rattle.session_account.specs.Sectors.{on_open}
use Rattle.session_service.specs.Namespaces.{IsFound, servings_at}
use Rattle.session_service.proofs.Numbers as numbers
use Rattle.session_service.proofs.finding.find.Goals as goal

pub find_at-requires-clause-first : goal.find_at-requires-clause-first
find_at-requires-clause-first c = numbers.few_first c.args.places.now c.in-Some.uuid c.in-Some-place_of.i c.index-places-i.result c.in-Some-place_of.ensures c.index-places-i.is c.requires

pub find_at-requires-clause-few : goal.find_at-requires-clause-few
find_at-requires-clause-few c = numbers.few_arenas c.args.places.now c.in-Some.uuid c.in-Some-place_of.i c.index-places-i.result c.in-Some-place_of.ensures c.index-places-i.is c.requires

pub returns-in-Some-place_of-clause-found : goal.returns-in-Some-place_of-clause-found
returns-in-Some-place_of-clause-found c =
    subst (λ (held : Option (List ℕ)). IfOk c.find_at.result (IsFound (servings_at c.args.places.now) held c.args.sector)) (sym c.in-Some.is)
    (numbers.all_found c.args.places.now c.in-Some.uuid c.in-Some-place_of.i c.index-places-i.result c.in-Some-place_of.ensures c.index-places-i.is c.args.sector c.find_at.result c.requires c.find_at.ensures.found)

pub returns-in-Some-place_of-clause-check : goal.returns-in-Some-place_of-clause-check
returns-in-Some-place_of-clause-check c = λ why further e.
    let past = c.find_at.ensures.check why e in
    subst (λ (held : Option (List ℕ)). on_open (servings_at c.args.places.now) held c.args.sector further ≡ Some why) (sym c.in-Some.is)
    (numbers.no_sector c.args.places.now c.in-Some.uuid c.in-Some-place_of.i c.index-places-i.result c.in-Some-place_of.ensures c.index-places-i.is c.args.sector further past.0 ∙ ap (λ (r : Reply). Some r) (sym past.1))

pub returns-in-None-clause-check : goal.returns-in-None-clause-check
returns-in-None-clause-check c = λ why further e.
    subst (λ (held : Option (List ℕ)). on_open (servings_at c.args.places.now) held c.args.sector further ≡ Some why) (sym c.in-Some.is)
    (numbers.no_namespace c.args.places.now c.in-Some.uuid c.args.sector further c.in-None.ensures ∙ ap (λ (r : Reply). Some r) (numbers.in_err (Err (reply.Range 0)) (reply.Range 0) why refl e))
