use Rattle.std.proofs.Common.{◌∙◌, List, Option, refl, sym, ap, subst}
use Rattle.nfit_reader.specs.declared.table.Mapping.{Mapping}
use Rattle.namespace_areas.specs.Finding.{set_at}
use Rattle.cut_words.specs.Words.{Words}
use Rattle.namespace_areas.specs.Opening.{AreWhole}
use Rattle.shell_import.proofs.RawImport.{raw_imports}
use Rattle.shell_import.proofs.beginning.begin_found.Goals as goal

pub returns-then-is_sector : goal.returns-then-is_sector
returns-then-is_sector c = λ outline uuid p. record {
  registry = c.args.registry;
  placed = p;
  sector = sym c.is_sector.ensures ∙ c.if-is_sector.true;
  set = c.set_of-set.ensures ∙ ap (λ (sets : List (List Mapping)). set_at sets c.args.found.region) c.into_parts-sets.ensures.sets;
  areas = c.into_parts-sets.ensures.areas;
  given = refl;
}

pub raw_answer-requires-clause-lies : goal.raw_answer-requires-clause-lies
raw_answer-requires-clause-lies c = c.requires.2.lies

pub raw_answer-requires-clause-rest : goal.raw_answer-requires-clause-rest
raw_answer-requires-clause-rest c = c.requires.2.parts.is_rest

pub raw_answer-requires-clause-count : goal.raw_answer-requires-clause-count
raw_answer-requires-clause-count c = c.requires.2.parts.count

pub raw_answer-requires-clause-sizes : goal.raw_answer-requires-clause-sizes
raw_answer-requires-clause-sizes c = c.requires.2.parts.sizes

pub raw_answer-requires-clause-settled : goal.raw_answer-requires-clause-settled
raw_answer-requires-clause-settled c = subst (λ (labels : List (Option Words)). AreWhole labels) (sym c.requires.2.parts.labels) c.requires.2.parts.settled

pub returns : goal.returns
returns c = λ outline uuid p.
    raw_imports outline c.args.registry c.args.rest p.parts uuid c.args.bytes.items c.args.found p.lies c.raw_answer.ensures.eights _ p.place (sym c.is_sector.ensures ∙ c.if-is_sector.false) c.in_ok-raw_answer.ensures.puts
