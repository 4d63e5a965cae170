use Rattle.std.proofs.Common.{ℕ, eqb, get_or, ap, sym, ◌∙◌, Some, Option}
use Rattle.std.specs.Option.{option_map}
use Rattle.nfit_reader.specs.declared.table.Mapping.{Mapping}
use Rattle.label_set.proofs.Found.{IsFound, found_at, not_found}
use Rattle.label_rescue.proofs.rescued.start_of.Goals as goal

pub returns-in-Some : goal.returns-in-Some
returns-in-Some c =
    let stands : IsFound (λ (m : Mapping). eqb m.«module» c.args.«module») c.args.set.now c.in-Some.position =
    found_at (λ (m : Mapping). eqb m.«module» c.args.«module») c.args.set.now c.in-Some.position (sym c.in-Some.ensures) in
    ap (λ (n : ℕ). Some n) (c.start.ensures stands.item ∙ ap (λ (k : ℕ). (get_or c.args.set.now k stands.item).start) c.from.ensures ∙ ap (λ (m : Mapping). m.start) (stands.stands stands.item))
    ∙ sym (ap (λ (o : Option Mapping). option_map (λ (m : Mapping). m.start) o) stands.found)

pub returns-in-None : goal.returns-in-None
returns-in-None c =
    sym (ap (λ (o : Option Mapping). option_map (λ (m : Mapping). m.start) o)
    (not_found (λ (m : Mapping). eqb m.«module» c.args.«module») c.args.set.now (sym c.in-None.ensures)))
