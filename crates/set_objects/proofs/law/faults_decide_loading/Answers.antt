use Rattle.set_objects.proofs.Among.{first_is_among_all}
use Rattle.set_objects.proofs.Modules.{faultless_loads, loaded_is_faultless, no_table_no_set}
use Rattle.set_objects.proofs.law.faults_decide_loading.Goals as goal

pub returns-clause-table : goal.returns-clause-table
returns-clause-table c = no_table_no_set

pub returns-clause-loads : goal.returns-clause-loads
returns-clause-loads c = faultless_loads

pub returns-clause-faultless : goal.returns-clause-faultless
returns-clause-faultless c = loaded_is_faultless

pub returns-clause-among : goal.returns-clause-among
returns-clause-among c = first_is_among_all
