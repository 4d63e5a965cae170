use Rattle.std.proofs.Common.{◌∙◌}
use Rattle.label_set.proofs.Finding.{one_alone, last_link, first_link}
use Rattle.label_set.proofs.deciding.finding.Goals as goal

pub returns : goal.returns
returns c =
    one_alone c.or-11.result
    ∙ last_link _ _ _ _ _ c.or-11.ensures c.missing.ensures
    ∙ last_link _ _ _ _ _ c.or-10.ensures c.broken-4.ensures
    ∙ last_link _ _ _ _ _ c.or-9.ensures c.differing-5.ensures
    ∙ last_link _ _ _ _ _ c.or-8.ensures c.differing-4.ensures
    ∙ last_link _ _ _ _ _ c.or-7.ensures c.differing-3.ensures
    ∙ last_link _ _ _ _ _ c.or-6.ensures c.differing-2.ensures
    ∙ last_link _ _ _ _ _ c.or-5.ensures c.broken-3.ensures
    ∙ last_link _ _ _ _ _ c.or-4.ensures c.differing.ensures
    ∙ last_link _ _ _ _ _ c.or-3.ensures c.broken-2.ensures
    ∙ last_link _ _ _ _ _ c.or-2.ensures c.broken.ensures
    ∙ last_link _ _ _ _ _ c.or.ensures c.twice.ensures
    ∙ first_link _ _ _ c.local.ensures
