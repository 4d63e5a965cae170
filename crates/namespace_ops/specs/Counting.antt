-- Words of the code that counts claims.
use Rattle.std.specs.Prelude.{Bool, true, false}
use Rattle.namespace_map.specs.declared.refused.OpRefused.{OpRefused}
use Rattle.namespace_map.specs.declared.refused.OpRefused.TheVariants.{NoSuch, NotComplete}
use Rattle.namespace_ops.specs.declared.counted.CountedNamespaces.{CountedNamespaces}
use Rattle.namespace_ops.specs.Counted.{State}

abbrev pub state_in : CountedNamespaces → State
state_in n = record { sets = n.store.sets; areas = n.store.areas; stopped = n.store.stopped; claims = n.claims.counts }

-- a refusal of a delete that comes before that of a claimed namespace
abbrev pub is_first : OpRefused → Bool
is_first NoSuch = true
is_first NotComplete = true
is_first other = false
