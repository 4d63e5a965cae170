use Rattle.std.proofs.Common.{◌≡◌, ◌∙◌, ap, ◌++◌, ◌∷◌, [], get_or, nat_cmp}
use Rattle.std.specs.BTreeMap as tree
use Rattle.nfit_reader.specs.declared.structures.Link.{Link}
use Rattle.nfit_reader.proofs.Groups.{group_more}
use Rattle.nfit_reader.proofs.regions.grouped.Goals as goal

abbrev blank : Link
blank = record { handle = 0; range = 0; control = 0; size = 0; offset = 0; start = 0; interleave = 0; ways = 0 }

pub loop-link-preserved : goal.loop-link-preserved
loop-link-preserved c =
    let link = get_or c.args.links.now c.loop-link.link-index blank in
    let pushed : c.push.new.self.items ≡ c.taken-group.result.items ++ link ∷ [] = c.in_ok-push.ensures.items in
    record {
      group = group_more (tree.get nat_cmp c.loop-link.groups) (tree.get nat_cmp c.taken-group.new.groups) (tree.get nat_cmp c.insert.new.self) c.args.links.now c.loop-link.link-index blank c.push.new.self
          c.loop-link-test.true c.loop-link.invariant.group c.taken-group.ensures.others (pushed ∙ ap (λ xs. xs ++ link ∷ []) c.taken-group.ensures.group) c.in_ok-insert.ensures.updates.0;
    }
