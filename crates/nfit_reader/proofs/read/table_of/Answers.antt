use Rattle.std.proofs.Common.{◌∙◌, ap}
use Rattle.std.specs.List.{filter_map}
use Rattle.nfit_reader.specs.Table.{as_range, as_link}
use Rattle.nfit_reader.proofs.Lengths.{few_selected}
use Rattle.nfit_reader.proofs.read.table_of.Goals as goal

pub nfit_of-requires-clause-few_ranges : goal.nfit_of-requires-clause-few_ranges
nfit_of-requires-clause-few_ranges c =
    few_selected as_range c.args.structures c.deref-2.result.now (c.deref-2.ensures.value ∙ c.in_ok-ranges.ensures ∙ ap (filter_map as_range) c.as_slice.ensures) c.requires

pub nfit_of-requires-clause-few_links : goal.nfit_of-requires-clause-few_links
nfit_of-requires-clause-few_links c =
    few_selected as_link c.args.structures c.deref-3.result.now (c.deref-3.ensures.value ∙ c.in_ok-links.ensures ∙ ap (filter_map as_link) c.as_slice-2.ensures) c.requires
