-- The answer on an area that is refused.
use Rattle.std.proofs.Common.{◌≡◌, ◌≢◌, ℕ, List, Result, Ok, Err, sym, ap, ◌∙◌}
use Rattle.std.specs.Prelude.{IfOk}
use Rattle.label_index.specs.declared.index.IndexBlock.{IndexBlock}
use Rattle.label_area.specs.declared.fault.AreaFault.{AreaFault}
use Rattle.label_area.specs.declared.fault.AreaFault.TheVariants.{OutOfMemory, PowerCut}
use Rattle.label_area.specs.Area.{block_in}
use Rattle.label_area.proofs.Blocks.{read_fault}
use Rattle.shell_reports.specs.declared.outcome.Report.{Report}
use Rattle.shell_reports.specs.Labels.{fault_outcome, found_outcome, area_outcome}
use Rattle.shell_reports.specs.Saved.{outcome_of}

-- a fault of reading an area isn't a power cut
pub fault_uncut : (area : List ℕ) (fault : AreaFault) (read : Result IndexBlock AreaFault) → read ≡ Err fault → (read ≢ Err OutOfMemory → read ≡ block_in area) → fault ≢ PowerCut
fault_uncut area fault read is told cut = read_fault area fault (sym (told (λ wanting. let e = sym is ∙ wanting in cc)) ∙ is) cut

-- a fault that is a finding is the area's
pub fault_said : {E : Type 0} (r : Result Report E) (m : ℕ) (area : List ℕ) (fault : AreaFault) (read : Result IndexBlock AreaFault) → read ≡ Err fault
    → (read ≢ Err OutOfMemory → read ≡ block_in area) → IfOk r (λ answer. outcome_of answer ≡ fault_outcome m fault) → IfOk r (λ _. fault ≢ OutOfMemory)
    → IfOk r (λ answer. outcome_of answer ≡ area_outcome m area)
fault_said (Ok answer) m area fault read is told said finding =
    let same : block_in area ≡ Err fault = sym (told (λ wanting. finding (let e = sym is ∙ wanting in cc))) ∙ is in
    said ∙ sym (ap (λ (r : Result IndexBlock AreaFault). found_outcome m area r) same)
fault_said (Err e) m area fault read is told said finding = tt
