use Rattle.std.proofs.Common.{◌≡◌, ℕ, ◌+◌, List, ◌++◌, ◌∷◌, [], length, map, Option, sym, ap, ◌∙◌, arith}
use Rattle.std.specs.Option.{option_map}
use Rattle.std.proofs.lemmas.List.{append_assoc, length-append}
use Rattle.std.proofs.lemmas.List.Elements.{All-rest}
use Rattle.cut_words.specs.Words.{Words}
use Rattle.image_set.specs.Load.{bytes_kept}
use Rattle.image_set.specs.Sound.{IsArea}
use Rattle.shell_set_check.specs.Repair.{repair_lines, repair_part_of}
use Rattle.shell_set_check.specs.Repairing.{repaired_in}
use Rattle.shell_set_check.proofs.repair.repair_areas.Goals as goal

pub loop-area-preserved : goal.loop-area-preserved
loop-area-preserved c =
    let i = c.loop-area.invariant in
    let area = c.in-Some.area in
    let rest = c.next.new.self.rest.items in
    let steps = c.in-Some.ensures.steps.0 in
    let done = c.loop-area.repaired in
    let own = c.in_ok-repair_module.field-0 in
    let text = c.loop-area.text.items in
    let bytes : Option Words → Option (List ℕ) = option_map bytes_kept in
    let count : length c.push.new.self ≡ length done + 1 = ap length c.in_ok-push.ensures.ok ∙ length-append done (own ∷ []) in
    record {
      sound = All-rest IsArea area rest c.loop-area.area-iterator.rest.items steps i.sound;
      few = omega (arith, i.few, count, ap length steps);
      repaired =
          ap (λ (xs : List (Option Words)). xs ++ map repaired_in rest) c.in_ok-push.ensures.ok
          ∙ append_assoc done (own ∷ []) (map repaired_in rest)
          ∙ ap (λ (x : Option Words). done ++ x ∷ map repaired_in rest) c.in_ok-repair_module.ensures.area
          ∙ ap (λ (xs : List (Option Words)). done ++ map repaired_in xs) (sym steps)
          ∙ i.repaired;
      text =
          (λ j. c.in_ok-repair_module.ensures.text j ++ repair_lines (count j) (map bytes rest))
          ∙ append_assoc text (repair_part_of c.len-module.result (bytes area)) (repair_lines (length done + 1) (map bytes rest))
          ∙ ap (λ (m : ℕ). text ++ (repair_part_of m (bytes area) ++ repair_lines (length done + 1) (map bytes rest))) c.len-module.ensures
          ∙ ap (λ (xs : List (Option Words)). text ++ repair_lines (length done) (map bytes xs)) (sym steps)
          ∙ i.text;
    }
