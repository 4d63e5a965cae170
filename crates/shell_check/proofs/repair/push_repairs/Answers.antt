use Rattle.std.proofs.Common.{◌∙◌, ◌++◌, Bool, List, drop, refl, append_assoc, ap, sym, subst}
use Rattle.namespace_bytes.specs.declared.runs.Run.{Run}
use Rattle.namespace_words.specs.Source.{words_by}
use Rattle.shell_check.specs.Reading.{AreRepairsIf, map_runs}
use Rattle.shell_check.proofs.Lanes.{on_more, on_ok_is}
use Rattle.shell_check.proofs.repair.push_repairs.Goals as goal

pub returns-in-Ok-clause-told : goal.returns-in-Ok-clause-told
returns-in-Ok-clause-told g c = λ contents reveals.
    let words = drop c.args.at (words_by c.args.extent.now contents) in
    let paged = on_ok_is c.in_ok-push_page.field-0 _ _ c.in-Ok.is (c.in_ok-push_page.ensures.told contents reveals) in
    on_more c.push_map.result _ _
    (λ mapped. (
      paged.0 ++ map_runs c.args.at c.args.arena.now.map,
      subst (λ (b : Bool). AreRepairsIf b c.args.at words c.args.arena.now.page c.args.arena.now.map (paged.0 ++ map_runs c.args.at c.args.arena.now.map)) (sym c.if-not-repair.false)
          (record { pages = paged.0; are = paged.1; all = refl }),
      mapped ∙ ap (λ (rs : List Run). rs ++ map_runs c.args.at c.args.arena.now.map) paged.2 ∙ append_assoc c.args.runs.now.items paged.0 (map_runs c.args.at c.args.arena.now.map),
    )) c.push_map.ensures
