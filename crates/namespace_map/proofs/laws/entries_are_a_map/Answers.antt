use Rattle.namespace_map.proofs.Entries.{lookup_entries}
use Rattle.namespace_map.proofs.Rising.{rising_entries, rising_same}
use Rattle.namespace_map.proofs.laws.entries_are_a_map.Goals as goal

pub returns-clause-found : goal.returns-clause-found
returns-clause-found c = lookup_entries

pub returns-clause-rising : goal.returns-clause-rising
returns-clause-rising c = rising_entries

pub returns-clause-one : goal.returns-clause-one
returns-clause-one c = rising_same
