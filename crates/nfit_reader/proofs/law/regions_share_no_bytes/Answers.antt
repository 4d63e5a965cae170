use Rattle.nfit_reader.proofs.Sharing.{share_no_bytes}
use Rattle.nfit_reader.proofs.law.regions_share_no_bytes.Goals as goal

pub returns : goal.returns
returns c = share_no_bytes
