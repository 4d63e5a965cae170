use Rattle.std.proofs.Common.{◌≡◌, ◌∙◌, List, [], refl, ap, sym, subst}
use Rattle.std.specs.Prelude.{MatchBool}
use Rattle.arena_layout.specs.declared.info.InfoFault.TheVariants.{Signature}
use Rattle.arena_check.specs.declared.info.InfoSource.TheVariants as source
use Rattle.shell_rescue.specs.declared.arena.ArenaLost.{ArenaLost}
use Rattle.shell_rescue.specs.Lost.{lines_from, lost_whole}
use Rattle.shell_rescue.specs.Reading.{IsFound, refused_by}
use Rattle.shell_rescue.proofs.Empty.{empty_arenas, empty_count, empty_lost, empty_source}
use Rattle.shell_rescue.proofs.Following.{lines_next, no_lines}
use Rattle.shell_rescue.proofs.extent.rescue_empty.Goals as goal

pub returns-clause-told : goal.returns-clause-told
returns-clause-told c = λ bad parent.
    let found : IsFound 0 bad [] (source.Neither Signature) c.in_ok-found.found = c.in_ok-found.ensures.told 0 bad [] in
    record {
      arenas = c.new.ensures ∙ sym (empty_arenas bad parent);
      refused = ap refused_by (sym (empty_source parent));
      text = subst (λ (all : List ArenaLost). MatchBool c.args.listing (c.push_lost.new.text.items ≡ lines_from 0 all) (c.push_lost.new.text.items ≡ [])) (sym (empty_lost bad parent))
          (lines_next c.args.listing 0 [] c.in_ok-found.found.lost (lost_whole Signature) c.new-text.result.items c.push_lost.new.text.items refl found.lost
          (no_lines c.args.listing c.new-text.result.items c.new-text.ensures.items) c.in_ok-push_lost.ensures);
      count = empty_count bad parent;
    }
